-- A name has at most one line.
use Rattle.std.proofs.Common.{◌≡◌, ℕ, Bool, List, [], ◌∷◌, ◌++◌, refl, sym, ap, ◌∙◌, subst}
use Rattle.std.specs.Prelude.{Some, pos, codes, map, slice_get}
use Rattle.std.specs.Fmt.{decimal}
use Rattle.std.proofs.lemmas.Option.{same_Some}
use Rattle.mrpc_table.specs.Scalars.{no_table}
use Rattle.mrpc_table.specs.Text.{label_text, line, value_line}
use Rattle.mrpc_table.specs.Words.{is_numeric}
use Rattle.mrpc_table.specs.declared.table.Label.{Label}
use Rattle.mrpc_table.specs.declared.table.Label.TheVariants as labels
use Rattle.proto_ast.specs.Together.{DeclIndex}
use Rattle.proto_ast.specs.declared.file.Span.{Span}
use Rattle.proto_ast.specs.declared.file.Word.{Word}
use Rattle.proto_ast.specs.declared.file.FieldDecl.{FieldDecl}
use Rattle.proto_ast.specs.declared.file.MessageDecl.{MessageDecl}
use Rattle.proto_ast.specs.declared.file.ValueDecl.{ValueDecl}
use Rattle.proto_ast.specs.declared.file.EnumDecl.{EnumDecl}
use Rattle.proto_ast.specs.declared.file.RpcDecl.{RpcDecl}
use Rattle.proto_ast.specs.declared.file.ServiceDecl.{ServiceDecl}
use Rattle.proto_ast.specs.declared.joined.Enclosing.{Enclosing}
use Rattle.proto_ast.specs.declared.joined.Enclosing.TheVariants as home
use Rattle.proto_ast.specs.Joined.{Joined, enclosing_of, enclosing_of_enum, package_at}
use Rattle.schema_symbols.specs.Scopes.{DeclKind, a_message, an_enum, IsScope, IsReferenceTo, text_of}
use Rattle.schema_symbols.specs.Numbers.{HaveDistinctStarts}
use Rattle.schema_validation.specs.Types
use Rattle.schema_validation.specs.Types.{signed_value, HasType, HasShape, label_in, single_label}
use Rattle.schema_validation.specs.Lengths
use Rattle.schema_validation.specs.Lengths.{IsNameLine}
use Rattle.schema_validation.proofs.Scalars.{scalar_one}

-- ---- types and shapes

module _ (F : Joined) (apart : HaveDistinctStarts F)
    (scopes : (G : Joined) (place : Enclosing) (s t : List (List ℕ)) → IsScope G place s → IsScope G place t → s ≡ t)
    (names : (G : Joined) (file : ℕ) (scope : List (List ℕ)) (name : List ℕ) (a b : DeclKind) (f g : List (List ℕ))
    → HaveDistinctStarts G → IsReferenceTo G file scope name a f → IsReferenceTo G file scope name b g → (a ≡ b) × (f ≡ g)) where
  pub record SameType (word other : List ℕ) (m n p q : Bool) : Type 0 where
    pub words : word ≡ other
    pub messages : m ≡ n
    pub packables : p ≡ q

  type_one : (file : ℕ) (scope : List (List ℕ)) (w : Word) (word other : List ℕ) (m n p q : Bool)
      → HasType F file scope w word m p → HasType F file scope w other n q → SameType word other m n p q
  type_one file scope w word other m n p q (Types.scalar k is) (Types.scalar j also) =
      record { words = refl; messages = refl; packables = ap is_numeric (scalar_one w.name k j is also) }
  type_one file scope w word other m n p q (Types.scalar k is) (Types.message full none is_named) = absurd (none k is)
  type_one file scope w word other m n p q (Types.scalar k is) (Types.enum full none is_named) = absurd (none k is)
  type_one file scope w word other m n p q (Types.message full none is_named) (Types.scalar k is) = absurd (none k is)
  type_one file scope w word other m n p q (Types.message full none is_named) (Types.message more also is_also) =
      let same = names F file scope w.name a_message a_message full more apart is_named is_also in
      record {
        words = ap (λ (f : List (List ℕ)). codes "message:" ++ text_of f) same.1;
        messages = refl;
        packables = refl;
      }
  type_one file scope w word other m n p q (Types.message full none is_named) (Types.enum more also is_also) =
      let same = names F file scope w.name a_message an_enum full more apart is_named is_also in
      let e : a_message ≡ an_enum = same.0 in
      absurd cc
  type_one file scope w word other m n p q (Types.enum full none is_named) (Types.scalar k is) = absurd (none k is)
  type_one file scope w word other m n p q (Types.enum full none is_named) (Types.message more also is_also) =
      let same = names F file scope w.name an_enum a_message full more apart is_named is_also in
      let e : an_enum ≡ a_message = same.0 in
      absurd cc
  type_one file scope w word other m n p q (Types.enum full none is_named) (Types.enum more also is_also) =
      let same = names F file scope w.name an_enum an_enum full more apart is_named is_also in
      record {
        words = ap (λ (f : List (List ℕ)). codes "enum:" ++ text_of f) same.1;
        messages = refl;
        packables = refl;
      }

  form_one : (file : ℕ) (scope : List (List ℕ)) (f : FieldDecl) (label other : Label) (word text : List ℕ)
      → HasShape F file scope f label word → HasShape F file scope f other text → (label ≡ other) × (word ≡ text)
  form_one file scope f label other word text (Types.single w v m p e has) (Types.single x u n q k also) =
      let same : x ≡ w = cc in
      let one = type_one file scope w word text m n p q has
      (subst (λ (y : Word). HasType F file scope y text n q) same also) in (
        ap (λ (b : Bool). label_in f.oneof (single_label f.label f.packed b p)) one.messages
            ∙ ap (λ (b : Bool). label_in f.oneof (single_label f.label f.packed n b)) one.packables,
        one.words,
      )
  form_one file scope f label other word text (Types.single w v m p e has)
      (Types.a_map a b k u n q kind plain out scalar key also) =
      absurd cc
  form_one file scope f label other word text (Types.a_map a b k u n q kind plain out scalar key also)
      (Types.single w v m p e has) =
      absurd cc
  form_one file scope f label other word text (Types.a_map a b k v m p kind plain out scalar key has)
      (Types.a_map c d j u n q kind2 plain2 out2 scalar2 key2 also) =
      let keys : c ≡ a = cc in
      let values : d ≡ b = cc in
      let kinds : k ≡ j =
      scalar_one a.name k j scalar (subst (λ (w : Word). Types.IsScalar w.name j) keys scalar2) in
      let one = type_one file scope b word text m n p q has
      (subst (λ (w : Word). HasType F file scope w text n q) values also) in
      (ap labels.Map kinds, one.words)

  -- ---- lines

  abbrev field_text : MessageDecl → FieldDecl → ℕ → Label → List ℕ → List ℕ
  field_text m f n label word =
      line (codes "field" ∷ decimal n ∷ label_text no_table (map (λ o. o.name) m.oneofs) label ∷ word ∷ f.name.name
      ∷ [])

  abbrev method_text : ℕ → ServiceDecl → RpcDecl → List (List ℕ) → List (List ℕ) → List ℕ
  method_text n x r input output =
      line (codes "method" ∷ decimal n ∷ text_of (package_at F x.file ++ x.name.name ∷ []) ∷ r.name.name ∷ text_of input
      ∷ text_of output ∷ [])

  pub line_one : (d : DeclIndex) (s t : Span) (text other : List ℕ) → IsNameLine F d s text → IsNameLine F d t other
      → (s ≡ t) × (text ≡ other)
  line_one d s t text other (Lengths.of_message i m {outer = outer} at up)
      (Lengths.of_message j n {outer = more} nat nup) =
      let same : n ≡ m = same_Some n m (sym nat ∙ at) in
      let one : outer ≡ more =
      scopes F (enclosing_of m) outer more up (subst (λ (x : MessageDecl). IsScope F (enclosing_of x) more) same nup) in (
        ap (λ (x : MessageDecl). x.name.span) (sym same),
        ap (λ (x : List (List ℕ)). line (codes "message" ∷ text_of (x ++ m.name.name ∷ []) ∷ [])) one
            ∙ ap (λ (x : MessageDecl). line (codes "message" ∷ text_of (more ++ x.name.name ∷ []) ∷ [])) (sym same),
      )
  line_one d s t text other
      (Lengths.of_field i j m f n {scope = scope} {label = label} {word = word} at fat is e num form)
      (Lengths.of_field x y o g v {scope = more} {label = tag} {word = noun} oat gat also k inside has) =
      let same : o ≡ m = same_Some o m (sym oat ∙ at) in
      let field : g ≡ f =
      same_Some g f (sym (subst (λ (z : MessageDecl). slice_get z.fields j ≡ Some g) same gat) ∙ fat) in
      let values : pos v ≡ pos n = sym k ∙ ap (λ (z : FieldDecl). signed_value z.number) field ∙ e in
      let number : v ≡ n = cc in
      let one : more ≡ scope = scopes F (home.Message i) more scope also is in
      let forms = form_one m.file scope f label tag word noun form
      (subst (λ (z : FieldDecl). HasShape F m.file scope z tag noun) field
      (subst (λ (z : List (List ℕ)). HasShape F m.file z g tag noun) one
      (subst (λ (z : MessageDecl). HasShape F z.file more g tag noun) same has))) in
      let tags : label ≡ tag = forms.0 in
      let words : word ≡ noun = forms.1 in (
        ap (λ (z : FieldDecl). z.name.span) (sym field),
        ap (λ (z : ℕ). field_text m f z label word) (sym number)
            ∙ ap (λ (z : MessageDecl). field_text z f v label word) (sym same)
            ∙ ap (λ (z : FieldDecl). field_text o z v label word) (sym field)
            ∙ ap (λ (z : Label). field_text o g v z word) tags
            ∙ ap (λ (z : List ℕ). field_text o g v tag z) words,
      )
  line_one d s t text other (Lengths.of_enum i x {outer = outer} at up) (Lengths.of_enum j y {outer = more} nat nup) =
      let same : y ≡ x = same_Some y x (sym nat ∙ at) in
      let one : outer ≡ more =
      scopes F (enclosing_of_enum x) outer more up (subst (λ (z : EnumDecl). IsScope F (enclosing_of_enum z) more) same nup) in (
        ap (λ (z : EnumDecl). z.name.span) (sym same),
        ap (λ (z : List (List ℕ)). line (codes "enum" ∷ text_of (z ++ x.name.name ∷ []) ∷ [])) one
            ∙ ap (λ (z : EnumDecl). line (codes "enum" ∷ text_of (more ++ z.name.name ∷ []) ∷ [])) (sym same),
      )
  line_one d s t text other (Lengths.of_value i j x v at vat fits) (Lengths.of_value k l y u yat uat also) =
      let same : y ≡ x = same_Some y x (sym yat ∙ at) in
      let value : u ≡ v =
      same_Some u v (sym (subst (λ (z : EnumDecl). slice_get z.values j ≡ Some u) same uat) ∙ vat) in (
        ap (λ (z : ValueDecl). z.name.span) (sym value),
        ap (λ (z : ValueDecl). value_line (signed_value z.number, z.name.name)) (sym value),
      )
  line_one d s t text other (Lengths.of_method i j n x r {input = input} {output = output} at rat e a b)
      (Lengths.of_method k l m y q {input = first} {output = last} yat qat g a2 b2) =
      let same : y ≡ x = same_Some y x (sym yat ∙ at) in
      let rpc : q ≡ r =
      same_Some q r (sym (subst (λ (z : ServiceDecl). slice_get z.rpcs j ≡ Some q) same qat) ∙ rat) in
      let number : m ≡ n = g ∙ sym e in
      let inputs : input ≡ first =
      (names F x.file (package_at F x.file) r.input.name a_message a_message input first apart a
      (subst (λ (z : ServiceDecl). IsReferenceTo F z.file (package_at F z.file) r.input.name a_message first) same
      (subst (λ (z : RpcDecl). IsReferenceTo F y.file (package_at F y.file) z.input.name a_message first) rpc a2))).1 in
      let outputs : output ≡ last =
      (names F x.file (package_at F x.file) r.output.name a_message a_message output last apart b
      (subst (λ (z : ServiceDecl). IsReferenceTo F z.file (package_at F z.file) r.output.name a_message last) same
      (subst (λ (z : RpcDecl). IsReferenceTo F y.file (package_at F y.file) z.output.name a_message last) rpc b2))).1 in (
        ap (λ (z : RpcDecl). z.name.span) (sym rpc),
        ap (λ (z : ℕ). method_text z x r input output) (sym number)
            ∙ ap (λ (z : ServiceDecl). method_text m z r input output) (sym same)
            ∙ ap (λ (z : RpcDecl). method_text m y z input output) (sym rpc)
            ∙ ap (λ (z : List (List ℕ)). method_text m y q z output) inputs
            ∙ ap (λ (z : List (List ℕ)). method_text m y q first z) outputs,
      )
