-- Files have at most one table: two of them have the same text.
use Rattle.std.proofs.Common.{◌≡◌, ℕ, zero, suc, ◌+◌, ◌<◌, ◌⊎◌, inl, inr, Bool, List, [], ◌∷◌, ◌++◌, length, get_or}
use Rattle.std.proofs.Common.{map, refl, sym, ap, ◌∙◌, subst, arith}
use Rattle.std.specs.Prelude.{Contains, codes, ℤ, pos}
use Rattle.std.specs.List.{flat_map, enumerate_from}
use Rattle.std.specs.Fmt.{decimal}
use Rattle.std.specs.Ordering.{int_cmp}
use Rattle.std.specs.declared.cmp.Ordering.TheVariants.{Less, Equal}
use Rattle.std.proofs.lemmas.Cmp.{int_cmp_total, tied_itself}
use Rattle.std.proofs.lemmas.List.Elements.{All-contains}
use Rattle.mrpc_table.specs.Scalars.{no_table}
use Rattle.mrpc_table.specs.Text.{line, value_line, enum_lines, field_line, message_lines, method_line, table_text, message_name, label_text, kind_text}
use Rattle.mrpc_table.specs.Valid.{IsAscendingBy, IsBelow, IsValueBelow, IsEnum, IsMessage}
use Rattle.mrpc_table.specs.Words.{is_numeric}
use Rattle.mrpc_table.specs.declared.table.Label.{Label}
use Rattle.mrpc_table.specs.declared.table.Label.TheVariants as labels
use Rattle.mrpc_table.specs.declared.table.Field.{Field}
use Rattle.mrpc_table.specs.declared.table.Message.{Message}
use Rattle.mrpc_table.specs.declared.table.Choices.{Choices}
use Rattle.mrpc_table.specs.declared.table.Method.{Method}
use Rattle.mrpc_table.specs.declared.table.Table.{Table}
use Rattle.proto_ast.specs.Order.{its_name}
use Rattle.proto_ast.specs.Together.{IsOrdered, enum_decl, message_decl}
use Rattle.proto_ast.specs.declared.file.Span.{Span}
use Rattle.proto_ast.specs.declared.file.Word.{Word}
use Rattle.proto_ast.specs.declared.file.FieldType.TheVariants.{Named, Map}
use Rattle.proto_ast.specs.declared.file.FieldDecl.{FieldDecl}
use Rattle.proto_ast.specs.declared.file.MessageDecl.{MessageDecl}
use Rattle.proto_ast.specs.declared.file.EnumDecl.{EnumDecl}
use Rattle.proto_ast.specs.declared.file.RpcDecl.{RpcDecl}
use Rattle.proto_ast.specs.declared.file.ServiceDecl.{ServiceDecl}
use Rattle.proto_ast.specs.Joined.{Joined, package_at}
use Rattle.proto_ast.specs.Together
use Rattle.schema_symbols.specs.Scopes.{DeclKind, a_message, an_enum, text_of, IsReferenceTo}
use Rattle.schema_symbols.specs.Numbers
use Rattle.schema_symbols.specs.Numbers.{IsSymbolAt, HaveDistinctStarts}
use Rattle.schema_symbols.specs.declared.symbol.Symbol as names
use Rattle.schema_symbols.specs.declared.symbol.Symbol.TheVariants as named
use Rattle.schema_validation.specs.Methods.{rpcs_of}
use Rattle.schema_validation.specs.Correspondence.{AreCorrespondingInOrder, none, next}
use Rattle.schema_validation.specs.Types.{single_label, label_in, HasType, scalar, message, enum, HasShape, single, a_map}
use Rattle.schema_resolve.specs.Tables.{IsFieldOf, IsMessageOf, IsEnumOf, IsMethodOf, IsTableOf}
use Rattle.schema_resolve.proofs.Orders.{ascends_past, ascends_rest, below_trans, below_strict}
use Rattle.schema_resolve.proofs.CleanFiles.{one_scope}
use Rattle.schema_resolve.proofs.EnumTables.{contains_map, map_contains}
use Rattle.schema_resolve.proofs.KindWords.{same_scalar}
use Rattle.schema_resolve.proofs.TextParts.{form_alike}

-- ---- sorted lists with the same elements

head_cases : {X : Type 0} (y : X) (ys : List X) (x : X) (k : ℕ) → k < length (y ∷ ys) → get_or (y ∷ ys) k x ≡ x
    → (y ≡ x) ⊎ Contains ys x
head_cases y ys x zero l e = inl e
head_cases y ys x (suc k) l e = inr (k, omega arith, e)

cases_of : {X : Type 0} (y : X) (ys : List X) (x : X) → Contains (y ∷ ys) x → (y ≡ x) ⊎ Contains ys x
cases_of y ys x c = head_cases y ys x c.0 c.1 c.2

before : {X : Type 0} (R : X → X → Type 0) → ((x y z : X) → R x y → R y z → R x z) → (x : X) (xs : List X) (z : X)
    → IsAscendingBy R (x ∷ xs) → Contains xs z → R x z
before R trans x xs z a c = subst (R x) c.2 (ascends_past R trans x xs a c.0 z c.1)

shifted : {X : Type 0} (y : X) (ys : List X) (x : X) → Contains ys x → Contains (y ∷ ys) x
shifted y ys x c = (suc c.0, omega (arith, c.1), c.2)

same_sorted : {X : Type 0} (R : X → X → Type 0) → ((x y z : X) → R x y → R y z → R x z) → ((x : X) → R x x → ⊥)
    → (xs ys : List X) → IsAscendingBy R xs → IsAscendingBy R ys → ((x : X) → Contains xs x → Contains ys x)
    → ((y : X) → Contains ys y → Contains xs y) → xs ≡ ys
same_sorted R trans strict [] [] a b f g = refl
same_sorted R trans strict [] (y ∷ ys) a b f g =
    absurd (let c = g y (0, omega arith, refl) in let l : c.0 < 0 = c.1 in omega arith)
same_sorted R trans strict (x ∷ xs) [] a b f g =
    absurd (let c = f x (0, omega arith, refl) in let l : c.0 < 0 = c.1 in omega arith)
same_sorted {X} R trans strict (x ∷ xs) (y ∷ ys) a b f g =
    let head : y ≡ x = elim (cases_of y ys x (f x (0, omega arith, refl))) [
      | inl e ↦ e
      | inr c ↦ elim (cases_of x xs y (g y (0, omega arith, refl))) [
        | inl e ↦ sym e
        | inr d ↦ absurd (strict x (trans x y x (before R trans x xs y a d) (before R trans y ys x b c)))
      ]
    ] in
    let rest : xs ≡ ys = same_sorted R trans strict xs ys (ascends_rest R x xs a) (ascends_rest R y ys b)
    (λ z c. elim (cases_of y ys z (f z (shifted x xs z c))) [
      | inl e ↦ absurd (strict x (subst (R x) (sym e ∙ head) (before R trans x xs z a c)))
      | inr d ↦ d
    ])
    (λ z c. elim (cases_of x xs z (g z (shifted y ys z c))) [
      | inl e ↦ absurd (strict y (subst (R y) (sym e ∙ sym head) (before R trans y ys z b c)))
      | inr d ↦ d
    ]) in
    ap (λ z. z ∷ xs) (sym head) ∙ ap (λ zs. y ∷ zs) rest

record Match {K A B : Type 0} (keyA : A → K) (keyB : B → K) (lineA : A → List ℕ) (lineB : B → List ℕ) (a : A)
    (bs : List B) : Type 0 where
  other : B
  inside : Contains bs other
  key : keyA a ≡ keyB other
  text : lineA a ≡ lineB other

pairs_ascend : {K A : Type 0} (R : K → K → Type 0) (key : A → K) (text : A → List ℕ) (ls : List A)
    → IsAscendingBy (λ a b. R (key a) (key b)) ls
    → IsAscendingBy (λ (p q : K × List ℕ). R p.0 q.0) (map (λ a. (key a, text a)) ls)
pairs_ascend R key text [] h = tt
pairs_ascend R key text (a ∷ []) h = tt
pairs_ascend R key text (a ∷ b ∷ ls) h = (h.0, pairs_ascend R key text (b ∷ ls) h.1)

pairs_text : {K A : Type 0} (key : A → K) (text : A → List ℕ) (ls : List A)
    → flat_map text ls ≡ flat_map (λ (p : K × List ℕ). p.1) (map (λ a. (key a, text a)) ls)
pairs_text key text [] = refl
pairs_text key text (a ∷ ls) = ap (λ (t : List ℕ). text a ++ t) (pairs_text key text ls)

pair_same : {K L : Type 0} (a b : K) (c d : L) → a ≡ b → c ≡ d → ◌≡◌ {A = K × L} (a, c) (b, d)
pair_same a b c d e f = cc

-- texts by ascending keys agree if each text occurs on the other side
same_texts : {K : Type 0} (R : K → K → Type 0) {A B : Type 0} (keyA : A → K) (keyB : B → K) (lineA : A → List ℕ)
    (lineB : B → List ℕ) (ls : List A) (bs : List B) → ((x y z : K) → R x y → R y z → R x z) → ((x : K) → R x x → ⊥)
    → IsAscendingBy (λ a b. R (keyA a) (keyA b)) ls → IsAscendingBy (λ a b. R (keyB a) (keyB b)) bs
    → ((a : A) → Contains ls a → Match keyA keyB lineA lineB a bs)
    → ((b : B) → Contains bs b → Match keyB keyA lineB lineA b ls) → flat_map lineA ls ≡ flat_map lineB bs
same_texts {K} R {A} {B} keyA keyB lineA lineB ls bs trans strict a b f g =
    let pa : A → K × List ℕ = λ x. (keyA x, lineA x) in
    let pb : B → K × List ℕ = λ x. (keyB x, lineB x) in
    let same : map pa ls ≡ map pb bs =
    same_sorted (λ (p q : K × List ℕ). R p.0 q.0) (λ x y z l m. trans x.0 y.0 z.0 l m) (λ x l. strict x.0 l) (map pa ls)
    (map pb bs) (pairs_ascend R keyA lineA ls a) (pairs_ascend R keyB lineB bs b)
    (λ p c.
    let x = map_contains pa ls p c in
    let m = f x.0 x.1 in
    subst (Contains (map pb bs)) (sym (pair_same (keyA x.0) (keyB m.other) (lineA x.0) (lineB m.other) m.key m.text) ∙ x.2)
    (contains_map pb bs m.other m.inside))
    (λ p c.
    let x = map_contains pb bs p c in
    let m = g x.0 x.1 in
    subst (Contains (map pa ls)) (sym (pair_same (keyB x.0) (keyA m.other) (lineB x.0) (lineA m.other) m.key m.text) ∙ x.2)
    (contains_map pa ls m.other m.inside)) in
    pairs_text keyA lineA ls ∙ ap (flat_map (λ (p : K × List ℕ). p.1)) same ∙ sym (pairs_text keyB lineB bs)

-- ---- values

value_trans : (x y z : ℤ × List ℕ) → IsValueBelow x y → IsValueBelow y z → IsValueBelow x z
value_trans x y z (inl a) (inl b) = inl (int_cmp_total.trans x.0 y.0 z.0 a b)
value_trans x y z (inl a) (inr b) = inl (subst (λ (n : ℤ). int_cmp x.0 n ≡ Less) b.0 a)
value_trans x y z (inr a) (inl b) = inl (subst (λ (n : ℤ). int_cmp n z.0 ≡ Less) (sym a.0) b)
value_trans x y z (inr a) (inr b) = inr (a.0 ∙ b.0, below_trans x.1 y.1 z.1 a.1 b.1)

value_strict : (x : ℤ × List ℕ) → IsValueBelow x x → ⊥
value_strict x (inl a) = let e : Less ≡ Equal = sym a ∙ tied_itself int_cmp_total x.0 in cc
value_strict x (inr a) = below_strict x.1 a.1

value_same : (x y : ℤ × List ℕ) → x.0 ≡ y.0 → x.1 ≡ y.1 → x ≡ y
value_same (a, b) (c, d) e f = cc

same_enum : (F : Joined) (e : EnumDecl) (c d : Choices) → IsEnum c → IsEnum d → IsEnumOf F e c → IsEnumOf F e d
    → (c.name ≡ d.name) × (enum_lines c ≡ enum_lines d)
same_enum F e c d cv dv a b =
    let name : c.name ≡ d.name =
    a.name ∙ ap (λ (o : List (List ℕ)). text_of (o ++ e.name.name ∷ [])) (one_scope a.stands b.stands) ∙ sym b.name in
    let values : c.values ≡ d.values =
    same_sorted IsValueBelow value_trans value_strict c.values d.values cv.ascend dv.ascend
    (λ w k.
    let v = a.values.alone w k in
    let u = b.values.each v.0 v.1 in
    subst (Contains d.values) (value_same u.0 w (u.2.0 ∙ sym v.2.0) (u.2.1 ∙ sym v.2.1)) u.1)
    (λ w k.
    let v = b.values.alone w k in
    let u = a.values.each v.0 v.1 in
    subst (Contains c.values) (value_same u.0 w (u.2.0 ∙ sym v.2.0) (u.2.1 ∙ sym v.2.1)) u.1) in (
      name,
      ap (λ (n : List ℕ). line (codes "enum" ∷ n ∷ []) ++ flat_map value_line c.values) name
          ∙ ap (λ (vs : List (ℤ × List ℕ)). line (codes "enum" ∷ d.name ∷ []) ++ flat_map value_line vs) values,
    )

-- ---- shapes

abbrev pub NamesOne : Joined → Type 0
NamesOne F = (file : ℕ) (scope : List (List ℕ)) (name : List ℕ) (a b : DeclKind) (f g : List (List ℕ))
    → IsReferenceTo F file scope name a f → IsReferenceTo F file scope name b g → (a ≡ b) × (f ≡ g)

not_both_sorts : a_message ≡ an_enum → ⊥
not_both_sorts e = cc

record SameType (word other : List ℕ) (im jm pk qk : Bool) : Type 0 where
  words : word ≡ other
  messages : im ≡ jm
  packables : pk ≡ qk

same_type : (F : Joined) (file : ℕ) (scope : List (List ℕ)) (w : Word) (word other : List ℕ) (im jm pk qk : Bool) → NamesOne F
    → HasType F file scope w word im pk → HasType F file scope w other jm qk → SameType word other im jm pk qk
same_type F file scope w word other im jm pk qk one (scalar k s) (scalar l t) = record {
  words = refl;
  messages = refl;
  packables = ap is_numeric (same_scalar k l s.is_one t.is_one (s.named ∙ sym t.named));
}
same_type F file scope w word other im jm pk qk one (scalar k s) (message full plain n) = absurd (plain k s)
same_type F file scope w word other im jm pk qk one (scalar k s) (enum full plain n) = absurd (plain k s)
same_type F file scope w word other im jm pk qk one (message full plain n) (scalar k s) = absurd (plain k s)
same_type F file scope w word other im jm pk qk one (enum full plain n) (scalar k s) = absurd (plain k s)
same_type F file scope w word other im jm pk qk one (message f plain n) (message g plain2 m) = record {
  words = ap (λ (x : List (List ℕ)). codes "message:" ++ text_of x) (one file scope w.name a_message a_message f g n m).1;
  messages = refl;
  packables = refl;
}
same_type F file scope w word other im jm pk qk one (enum f plain n) (enum g plain2 m) = record {
  words = ap (λ (x : List (List ℕ)). codes "enum:" ++ text_of x) (one file scope w.name an_enum an_enum f g n m).1;
  messages = refl;
  packables = refl;
}
same_type F file scope w word other im jm pk qk one (message f plain n) (enum g plain2 m) =
    absurd (not_both_sorts (one file scope w.name a_message an_enum f g n m).0)
same_type F file scope w word other im jm pk qk one (enum f plain n) (message g plain2 m) =
    absurd (not_both_sorts (sym (one file scope w.name an_enum a_message f g n m).0))

same_named : (v w : Word) → Named v ≡ Named w → v ≡ w
same_named v w e = cc

same_map : (k v l w : Word) → Map k v ≡ Map l w → (k ≡ l) × (v ≡ w)
same_map k v l w e = (cc, cc)

named_map : (w k v : Word) → Named w ≡ Map k v → ⊥
named_map w k v e = cc

same_form : (F : Joined) (file : ℕ) (scope : List (List ℕ)) (f : FieldDecl) (a b : Label) (word other : List ℕ) → NamesOne F
    → HasShape F file scope f a word → HasShape F file scope f b other → (a ≡ b) × (word ≡ other)
same_form F file scope f a b word other one (single w x im pk is typ) (single v y jm qk is2 typ2) =
    let s : w ≡ v = same_named w v (sym is ∙ is2) in
    let t = same_type F file scope v x y im jm pk qk one
    (subst (λ (u : Word). HasType F file scope u x im pk) s typ) typ2 in (
      ap (λ (m : Bool). label_in f.oneof (single_label f.label f.packed m pk)) t.messages
          ∙ ap (λ (p : Bool). label_in f.oneof (single_label f.label f.packed jm p)) t.packables,
      t.words,
    )
same_form F file scope f a b word other one (single w x im pk is typ) (a_map k v l y jm qk is2 plain o s keyed typ2) =
    absurd (named_map w k v (sym is ∙ is2))
same_form F file scope f a b word other one (a_map k v l y jm qk is2 plain o s keyed typ2) (single w x im pk is typ) =
    absurd (named_map w k v (sym is ∙ is2))
same_form F file scope f a b word other one (a_map k v l x im pk is plain o s keyed typ)
    (a_map i w n y jm qk is2 plain2 o2 t keyed2 typ2) =
    let e = same_map k v i w (sym is ∙ is2) in
    let u = same_type F file scope w x y im jm pk qk one
    (subst (λ (z : Word). HasType F file scope z x im pk) e.1 typ) typ2 in (
      ap labels.Map (same_scalar l n s.is_one t.is_one (s.named ∙ ap (λ (z : Word). z.name) e.0 ∙ sym t.named)),
      u.words,
    )

-- ---- messages

same_pos : (m n : ℕ) → pos m ≡ pos n → m ≡ n
same_pos m n e = cc

same_field : (F : Joined) (T U : Table) (scope other : List (List ℕ)) (m : MessageDecl) (t u : Message) (f : FieldDecl)
    (g h : Field) → NamesOne F → scope ≡ other → IsFieldOf T F scope m t f g
    → IsFieldOf U F other m u f h
    → (g.number ≡ h.number) × (field_line T t.oneofs g ≡ field_line U u.oneofs h)
same_field F T U scope other m t u f g h one same a b =
    let ns : List (List ℕ) = map (λ o. o.name) m.oneofs in
    let form : HasShape F m.file other f a.label a.word =
    subst (λ (s : List (List ℕ)). HasShape F m.file s f a.label a.word) same a.form in
    let e = same_form F m.file other f a.label b.label a.word b.word one form b.form in
    let number : g.number ≡ h.number = same_pos g.number h.number (a.number ∙ sym b.number) in
    let name : g.name ≡ h.name = a.name ∙ sym b.name in
    let label : label_text T t.oneofs g.label ≡ label_text U u.oneofs h.label =
    a.same ∙ form_alike T ns F m.file other f a.label a.word form ∙ ap (label_text no_table ns) e.0
    ∙ sym (form_alike U ns F m.file other f b.label b.word b.form) ∙ sym b.same in
    let kind : kind_text T g.kind ≡ kind_text U h.kind = a.kind ∙ e.1 ∙ sym b.kind in
    let L : ℕ → List ℕ → List ℕ → List ℕ → List ℕ =
    λ n x y z. line (codes "field" ∷ decimal n ∷ x ∷ y ∷ z ∷ []) in (
      number,
      ap (λ (n : ℕ). L n (label_text T t.oneofs g.label) (kind_text T g.kind) g.name) number
          ∙ ap (λ (x : List ℕ). L h.number x (kind_text T g.kind) g.name) label
          ∙ ap (λ (y : List ℕ). L h.number (label_text U u.oneofs h.label) y g.name) kind
          ∙ ap (λ (z : List ℕ). L h.number (label_text U u.oneofs h.label) (kind_text U h.kind) z) name,
    )

less_trans : (x y z : ℕ) → x < y → y < z → x < z
less_trans x y z a b = omega arith

less_strict : (x : ℕ) → x < x → ⊥
less_strict x a = omega arith

same_message : (F : Joined) (T U : Table) (m : MessageDecl) (t u : Message) → NamesOne F → IsMessage T t → IsMessage U u
    → IsMessageOf T F m t → IsMessageOf U F m u
    → (t.name ≡ u.name) × (message_lines T t ≡ message_lines U u)
same_message F T U m t u one tv uv a b =
    let outer = one_scope a.stands b.stands in
    let scope : a.outer ++ m.name.name ∷ [] ≡ b.outer ++ m.name.name ∷ [] =
    ap (λ (o : List (List ℕ)). o ++ m.name.name ∷ []) outer in
    let name : t.name ≡ u.name = a.name ∙ ap text_of scope ∙ sym b.name in
    let number : Field → ℕ = λ g. g.number in
    let fields : flat_map (field_line T t.oneofs) t.fields ≡ flat_map (field_line U u.oneofs) u.fields =
    same_texts (λ x y. x < y) number number (field_line T t.oneofs) (field_line U u.oneofs) t.fields u.fields less_trans
    less_strict tv.ascend uv.ascend
    (λ g c.
    let f = a.fields.alone g c in
    let h = b.fields.each f.0 f.1 in
    let e = same_field F T U (a.outer ++ m.name.name ∷ []) (b.outer ++ m.name.name ∷ []) m t u f.0 g h.0 one scope f.2 h.2 in
    record { other = h.0; inside = h.1; key = e.0; text = e.1 })
    (λ h c.
    let f = b.fields.alone h c in
    let g = a.fields.each f.0 f.1 in
    let e = same_field F U T (b.outer ++ m.name.name ∷ []) (a.outer ++ m.name.name ∷ []) m u t f.0 h g.0 one (sym scope) f.2 g.2 in
    record { other = g.0; inside = g.1; key = e.0; text = e.1 }) in (
      name,
      ap (λ (n : List ℕ). line (codes "message" ∷ n ∷ []) ++ flat_map (field_line T t.oneofs) t.fields) name
          ∙ ap (λ (x : List ℕ). line (codes "message" ∷ u.name ∷ []) ++ x) fields,
    )

-- ---- methods

same_method : (F : Joined) (T U : Table) (q : ServiceDecl × RpcDecl) (m n : Method) (i : ℕ) → NamesOne F
    → IsMethodOf T F q m → IsMethodOf U F q n → method_line T (i, m) ≡ method_line U (i, n)
same_method F T U q m n i one a b =
    let file : ℕ = q.0.file in
    let input : a.input ≡ b.input =
    (one file (package_at F file) q.1.input.name a_message a_message a.input b.input a.takes b.takes).1 in
    let output : a.output ≡ b.output =
    (one file (package_at F file) q.1.output.name a_message a_message a.output b.output a.gives b.gives).1 in
    let L : List ℕ → List ℕ → List ℕ → List ℕ → List ℕ =
    λ x y z w. line (codes "method" ∷ decimal i ∷ x ∷ y ∷ z ∷ w ∷ []) in
    ap (λ (x : List ℕ). L x m.name (message_name T m.input) (message_name T m.output)) (a.service ∙ sym b.service)
    ∙ ap (λ (y : List ℕ). L n.service y (message_name T m.input) (message_name T m.output)) (a.name ∙ sym b.name)
    ∙ ap (λ (z : List ℕ). L n.service n.name z (message_name T m.output)) (a.input_place ∙ ap text_of input ∙ sym b.input_place)
    ∙ ap (λ (w : List ℕ). L n.service n.name (message_name U n.input) w) (a.output_place ∙ ap text_of output ∙ sym b.output_place)

same_methods : (F : Joined) (T U : Table) (qs : List (ServiceDecl × RpcDecl)) (ms ns : List Method) (i : ℕ) → NamesOne F
    → AreCorrespondingInOrder (IsMethodOf T F) qs ms → AreCorrespondingInOrder (IsMethodOf U F) qs ns
    → flat_map (method_line T) (enumerate_from i ms) ≡ flat_map (method_line U) (enumerate_from i ns)
same_methods F T U qs ms ns i one none none = refl
same_methods F T U qs ms ns i one (next {x = q} {y = m} {xs} {ys} r rest) (next {y = n} {ys = zs} s more) =
    let e = same_method F T U q m n i one r s in
    let later = same_methods F T U xs ys zs (i + 1) one rest more in
    ap (λ (t : List ℕ). t ++ flat_map (method_line T) (enumerate_from (i + 1) ys)) e
    ∙ ap (λ (t : List ℕ). method_line U (i, n) ++ t) later

-- ---- tables

-- two tables of files have the same text
pub one_text_of : (F : Joined) (T U : Table) → NamesOne F → IsTableOf F T → IsTableOf F U → table_text T ≡ table_text U
one_text_of F T U one a b =
    let en : Choices → List ℕ = λ c. c.name in
    let mn : Message → List ℕ = λ m. m.name in
    let enum_of : (V W : Table) → IsTableOf F V → IsTableOf F W → (c : Choices) → Contains V.enums c
    → Match en en enum_lines enum_lines c W.enums =
    λ V W v w c k.
    let q = v.enums.alone c k in
    let d = w.enums.each q.0 q.1 in
    let e = same_enum F q.0 c d.0 (All-contains IsEnum V.enums c v.valid.enums k)
    (All-contains IsEnum W.enums d.0 w.valid.enums d.1) q.2 d.2 in
    record { other = d.0; inside = d.1; key = e.0; text = e.1 } in
    let message_of : (V W : Table) → IsTableOf F V → IsTableOf F W → (t : Message) → Contains V.messages t
    → Match mn mn (message_lines V) (message_lines W) t W.messages =
    λ V W v w t k.
    let q = v.messages.alone t k in
    let d = w.messages.each q.0 q.1 in
    let e = same_message F V W q.0 t d.0 one (All-contains (IsMessage V) V.messages t v.valid.messages k)
    (All-contains (IsMessage W) W.messages d.0 w.valid.messages d.1) q.2 d.2 in
    record { other = d.0; inside = d.1; key = e.0; text = e.1 } in
    let enums : flat_map enum_lines T.enums ≡ flat_map enum_lines U.enums =
    same_texts IsBelow en en enum_lines enum_lines T.enums U.enums below_trans below_strict a.valid.enums_ascend
    b.valid.enums_ascend (enum_of T U a b) (enum_of U T b a) in
    let messages : flat_map (message_lines T) T.messages ≡ flat_map (message_lines U) U.messages =
    same_texts IsBelow mn mn (message_lines T) (message_lines U) T.messages U.messages below_trans below_strict
    a.valid.messages_ascend b.valid.messages_ascend (message_of T U a b) (message_of U T b a) in
    let methods : flat_map (method_line T) (enumerate_from 0 T.methods) ≡ flat_map (method_line U) (enumerate_from 0 U.methods) =
    same_methods F T U (rpcs_of F) T.methods U.methods 0 one a.methods b.methods in
    ap (λ (x : List ℕ). (x ++ flat_map (message_lines T) T.messages) ++ flat_map (method_line T) (enumerate_from 0 T.methods)) enums
    ∙ ap (λ (x : List ℕ). (flat_map enum_lines U.enums ++ x) ++ flat_map (method_line T) (enumerate_from 0 T.methods)) messages
    ∙ ap (λ (x : List ℕ). (flat_map enum_lines U.enums ++ flat_map (message_lines U) U.messages) ++ x) methods

same_named_message : (i j : ℕ) → message_decl i ≡ message_decl j → i ≡ j
same_named_message i j e = cc

same_named_enum : (i j : ℕ) → enum_decl i ≡ enum_decl j → i ≡ j
same_named_enum i j e = cc

apart_types : (F : Joined) → IsOrdered F → (a b : names.Symbol) (f g : List (List ℕ)) (s t : Span) → IsSymbolAt F a f s
    → IsSymbolAt F b g t → s.start ≡ t.start → a ≡ b
apart_types F ordered a b f g s t (Numbers.message i m at up) (Numbers.message j n at2 up2) e =
    ap named.Message (same_named_message i j
    (ordered.apart (message_decl i) (message_decl j) its_name its_name m.name.span n.name.span (Together.message i m at refl)
    (Together.message j n at2 refl) e).0)
apart_types F ordered a b f g s t (Numbers.enum i m at up) (Numbers.enum j n at2 up2) e =
    ap named.Enum (same_named_enum i j
    (ordered.apart (enum_decl i) (enum_decl j) its_name its_name m.name.span n.name.span (Together.enum i m at refl)
    (Together.enum j n at2 refl) e).0)
apart_types F ordered a b f g s t (Numbers.message i m at up) (Numbers.enum j n at2 up2) e =
    absurd (let d = (ordered.apart (message_decl i) (enum_decl j) its_name its_name m.name.span n.name.span
    (Together.message i m at refl) (Together.enum j n at2 refl) e).0 in cc)
apart_types F ordered a b f g s t (Numbers.enum i m at up) (Numbers.message j n at2 up2) e =
    absurd (let d = (ordered.apart (enum_decl i) (message_decl j) its_name its_name m.name.span n.name.span
    (Together.enum i m at refl) (Together.message j n at2 refl) e).0 in cc)

-- no two types start at the same offset
pub starts_apart : (F : Joined) → IsOrdered F → HaveDistinctStarts F
starts_apart F ordered = record { apart = apart_types F ordered }
