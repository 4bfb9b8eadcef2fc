-- The lengths of the lines of names.
use Rattle.std.proofs.Common.{◌≡◌, ℕ, ◌+◌, ◌-◌, ◌^◌, ◌<◌, List, [], ◌∷◌, ◌++◌, length, get_or, sym, ap, ◌∙◌, subst, arith, length-append}
use Rattle.std.specs.Prelude.{min, pos, codes, map, Option, Some, None, slice_get, MatchOption, FitsSigned}
use Rattle.std.specs.Int.{w32}
use Rattle.std.specs.List.{join_with_byte}
use Rattle.std.specs.Fmt.{decimal}
use Rattle.std.proofs.lemmas.Option.{same_Some, slice_get_within}
use Rattle.mrpc_table.specs.Scalars.{no_table}
use Rattle.mrpc_table.specs.Valid.{IsFieldNumber}
use Rattle.mrpc_table.specs.Text.{label_text, line, value_line}
use Rattle.mrpc_table.specs.declared.table.Label.{Label}
use Rattle.proto_ast.specs.Together.{message_decl, field_decl, enum_decl, value_decl, rpc_decl}
use Rattle.proto_ast.specs.declared.file.Span.{Span}
use Rattle.proto_ast.specs.declared.file.FieldDecl.{FieldDecl}
use Rattle.proto_ast.specs.declared.file.MessageDecl.{MessageDecl}
use Rattle.proto_ast.specs.declared.file.ValueDecl.{ValueDecl}
use Rattle.proto_ast.specs.declared.file.EnumDecl.{EnumDecl}
use Rattle.proto_ast.specs.declared.file.RpcDecl.{RpcDecl}
use Rattle.proto_ast.specs.declared.file.ServiceDecl.{ServiceDecl}
use Rattle.proto_ast.specs.declared.joined.Enclosing.TheVariants as home
use Rattle.proto_ast.specs.Joined.{Joined, enclosing_of, enclosing_of_enum, package_at}
use Rattle.schema_symbols.specs.Scopes
use Rattle.schema_symbols.specs.Scopes.{a_message, text_of, IsScope, IsReferenceTo}
use Rattle.schema_symbols.specs.Numbers
use Rattle.schema_symbols.specs.Numbers.{IsSymbolAt, IsFirstSymbol}
use Rattle.schema_symbols.specs.declared.symbol.Symbol.TheVariants.{Message, Enum}
use Rattle.schema_validation.specs.Types.{signed_value, label_in, HasShape}
use Rattle.schema_validation.specs.Members.{IsNoMessage, IsFieldNumberOf}
use Rattle.schema_validation.specs.Shapes.{IsWordOf, IsShape}
use Rattle.schema_validation.specs.Lengths
use Rattle.mrpc_table.specs.Capped.{capped}
use Rattle.schema_validation.specs.Lengths.{AreLengths, full_length, IsKeptType, type_length, IsNameLine, IsMeasuredLine, IsLengthAt, rpcs_before}
use Rattle.schema_validation.specs.declared.lines.Lengths.{Lengths}
use Rattle.schema_validation.specs.declared.types.TypeOf.{TypeOf}
use Rattle.schema_validation.specs.declared.types.TypeOf.TheVariants.{Scalar, Named as OfName}
use Rattle.schema_validation.specs.declared.types.FieldShape.{FieldShape}
use Rattle.schema_validation.proofs.FullLengths.{full_is, file_kept}

-- ---- words in a line

joined : (x y : List ℕ) (xs : List (List ℕ))
    → length (join_with_byte 32 (x ∷ y ∷ xs)) ≡ length x + 1 + length (join_with_byte 32 (y ∷ xs))
joined x y xs = omega (arith, length-append x (32 ∷ join_with_byte 32 (y ∷ xs)))

two_words : (a b : List ℕ) → length (line (a ∷ b ∷ [])) ≡ length a + length b + 2
two_words a b = omega (arith, joined a b [], length-append (join_with_byte 32 (a ∷ b ∷ [])) (10 ∷ []))

five_words : (a b c d e : List ℕ) → length (line (a ∷ b ∷ c ∷ d ∷ e ∷ []))
    ≡ length a + length b + length c + length d + length e + 5
five_words a b c d e =
    omega (
      arith,
      joined a b (c ∷ d ∷ e ∷ []),
      joined b c (d ∷ e ∷ []),
      joined c d (e ∷ []),
      joined d e [],
      length-append (join_with_byte 32 (a ∷ b ∷ c ∷ d ∷ e ∷ [])) (10 ∷ []),
    )

six_words : (a b c d e f : List ℕ) → length (line (a ∷ b ∷ c ∷ d ∷ e ∷ f ∷ []))
    ≡ length a + length b + length c + length d + length e + length f + 6
six_words a b c d e f =
    omega (
      arith,
      joined a b (c ∷ d ∷ e ∷ f ∷ []),
      joined b c (d ∷ e ∷ f ∷ []),
      joined c d (e ∷ f ∷ []),
      joined d e (f ∷ []),
      joined e f [],
      length-append (join_with_byte 32 (a ∷ b ∷ c ∷ d ∷ e ∷ f ∷ [])) (10 ∷ []),
    )

-- ---- capped sums

cut_three : (front label word name l t r : ℕ) → l ≡ capped label → capped t ≡ capped word
    → r ≡ capped (capped (capped (front + l) + t) + name)
    → r ≡ capped (front + label + word + name)
cut_three front label word name l t r a b e = omega arith

cut_four : (front full name input output l i o r : ℕ) → l ≡ capped full → i ≡ capped input
    → o ≡ capped output
    → r ≡ capped (capped (capped (capped (front + l) + name) + i) + o)
    → r ≡ capped (front + full + name + input + output)
cut_four front full name input output l i o r a b d e = omega arith

-- the sums as the code computes them
pub sums_three : (d digits l t len n a b c : ℕ) → digits ≡ d → len ≡ n → a ≡ min ((10 + digits) + l) (2 ^ 64 - 1)
    → b ≡ min (a + t) (2 ^ 64 - 1) → c ≡ min (b + len) (2 ^ 64 - 1)
    → c ≡ capped (capped (capped ((10 + d) + l) + t) + n)
sums_three d digits l t len n a b c p q x y z = cc

pub sums_four : (d digits l len n i j a b c e : ℕ) → digits ≡ d → len ≡ n
    → a ≡ min ((12 + digits) + l) (2 ^ 64 - 1) → b ≡ min (a + len) (2 ^ 64 - 1) → c ≡ min (b + i) (2 ^ 64 - 1)
    → e ≡ min (c + j) (2 ^ 64 - 1)
    → e ≡ capped (capped (capped (capped ((12 + d) + l) + n) + i) + j)
sums_four d digits l len n i j a b c e p q x y z w = cc

-- ---- types

module _ (F : Joined) (kept : Lengths) (k : AreLengths F kept) where
  pub message_within : (i : ℕ) (full : List (List ℕ)) (s : Span) → IsSymbolAt F (Message i) full s → i < length F.messages
  message_within i full s (Numbers.message j m at up) = slice_get_within F.messages j m at

  enum_within : (i : ℕ) (full : List (List ℕ)) (s : Span) → IsSymbolAt F (Enum i) full s → i < length F.enums
  enum_within i full s (Numbers.enum j e at up) = slice_get_within F.enums j e at

  pub message_kept : (i : ℕ) (full : List (List ℕ)) (s : Span) → IsSymbolAt F (Message i) full s
      → get_or kept.messages.items i 0 ≡ capped (length (text_of full))
  message_kept i full s st = k.of_message i full s (message_within i full s st) st

  pub message_in : (i : ℕ) (full : List (List ℕ)) (s : Span) → IsSymbolAt F (Message i) full s
      → i < length kept.messages.items
  message_in i full s st = omega (arith, message_within i full s st, k.all_messages)

  pub is_kept : (t : TypeOf) (word : List ℕ) → IsWordOf F t word → IsKeptType kept t
  is_kept (Scalar kind) word is = tt
  is_kept (OfName (Message i)) word is = message_in i is.0 is.1 is.2
  is_kept (OfName (Enum i)) word is = omega (arith, enum_within i is.0 is.1 is.2, k.all_enums)

  word_length : (t : TypeOf) (word : List ℕ) → IsWordOf F t word
      → capped (type_length kept t) ≡ capped (length word)
  word_length (Scalar kind) word is = ap (λ (w : List ℕ). capped (length w)) (sym is)
  word_length (OfName (Message i)) word is =
      let known : get_or kept.messages.items i 0 ≡ capped (length (text_of is.0)) =
      message_kept i is.0 is.1 is.2 in
      omega (arith, ap length is.3)
  word_length (OfName (Enum i)) word is =
      let known : get_or kept.enums.items i 0 ≡ capped (length (text_of is.0)) =
      k.of_enum i is.0 is.1 (enum_within i is.0 is.1 is.2) is.2 in
      omega (arith, ap length is.3)

  -- ---- lines

  pub message_line : (i : ℕ) (m : MessageDecl) (outer : List (List ℕ)) (n : ℕ) → slice_get F.messages i ≡ Some m
      → IsScope F (enclosing_of m) outer → n ≡ capped (get_or kept.messages.items i 0 + 9)
      → IsMeasuredLine F (message_decl i) (m.name.span, n)
  message_line i m outer n at up e =
      let full = outer ++ m.name.name ∷ [] in
      let known : get_or kept.messages.items i 0 ≡ capped (length (text_of full)) =
      message_kept i full m.name.span (Numbers.message i m at up) in
      let whole : length (line (codes "message" ∷ text_of full ∷ []))
      ≡ length (codes "message") + length (text_of full) + 2 =
      two_words (codes "message") (text_of full) in
      record {
        text = line (codes "message" ∷ text_of full ∷ []);
        at = Lengths.of_message i m at up;
        is = omega arith;
      }

  pub enum_line : (i : ℕ) (x : EnumDecl) (outer : List (List ℕ)) (n : ℕ) → slice_get F.enums i ≡ Some x
      → IsScope F (enclosing_of_enum x) outer → n ≡ capped (get_or kept.enums.items i 0 + 6)
      → IsMeasuredLine F (enum_decl i) (x.name.span, n)
  enum_line i x outer n at up e =
      let full = outer ++ x.name.name ∷ [] in
      let known : get_or kept.enums.items i 0 ≡ capped (length (text_of full)) =
      k.of_enum i full x.name.span (slice_get_within F.enums i x at) (Numbers.enum i x at up) in
      let whole : length (line (codes "enum" ∷ text_of full ∷ [])) ≡ length (codes "enum") + length (text_of full) + 2 =
      two_words (codes "enum") (text_of full) in
      record {
        text = line (codes "enum" ∷ text_of full ∷ []);
        at = Lengths.of_enum i x at up;
        is = omega arith;
      }

  pub field_line : (i j : ℕ) (m : MessageDecl) (f : FieldDecl) (scope : List (List ℕ)) (form : FieldShape) (n l r : ℕ)
      → slice_get F.messages i ≡ Some m → slice_get m.fields j ≡ Some f → IsScope F (home.Message i) scope
      → IsShape F m.file scope f form → signed_value f.number ≡ pos n → IsFieldNumber n
      → l ≡ capped (length (label_text no_table (map (λ o. o.name) m.oneofs) (label_in form.oneof form.label)))
      → r ≡ capped
      (capped (capped ((10 + length (decimal n)) + l) + type_length kept form.type_of)
      + length f.name.name)
      → IsMeasuredLine F (field_decl i j) (f.name.span, r)
  field_line i j m f scope form n l r at fat is has number inside label e =
      let text = label_text no_table (map (λ o. o.name) m.oneofs) (label_in form.oneof form.label) in
      let sum : r ≡ capped ((10 + length (decimal n)) + length text + length has.word + length f.name.name) =
      cut_three (10 + length (decimal n)) (length text) (length has.word) (length f.name.name) l
      (type_length kept form.type_of) r label (word_length form.type_of has.word has.of_type) e in
      let whole : length (line (codes "field" ∷ decimal n ∷ text ∷ has.word ∷ f.name.name ∷ []))
      ≡ length (codes "field") + length (decimal n) + length text + length has.word + length f.name.name + 5 =
      five_words (codes "field") (decimal n) text has.word f.name.name in
      record {
        text = line (codes "field" ∷ decimal n ∷ text ∷ has.word ∷ f.name.name ∷ []);
        at = Lengths.of_field i j m f n at fat is number inside has.has;
        is = omega arith;
      }

  pub method_line : (i j n : ℕ) (x : ServiceDecl) (r : RpcDecl) (a b : ℕ) (input output : List (List ℕ)) (v : ℕ)
      → slice_get F.services i ≡ Some x → slice_get x.rpcs j ≡ Some r → n ≡ rpcs_before F i + j
      → x.file < length F.heads
      → IsReferenceTo F x.file (package_at F x.file) r.input.name a_message input
      → IsReferenceTo F x.file (package_at F x.file) r.output.name a_message output
      → IsFirstSymbol F x.file (Message a) input → IsFirstSymbol F x.file (Message b) output
      → v ≡ capped (capped
      (capped (capped ((12 + length (decimal n)) + full_length kept (home.File x.file) x.name)
      + length r.name.name)
      + get_or kept.messages.items a 0) + get_or kept.messages.items b 0)
      → IsMeasuredLine F (rpc_decl i j) (r.name.span, v)
  method_line i j n x r a b input output v at rat count there names_in names_out first_in first_out e =
      let full = text_of (package_at F x.file ++ x.name.name ∷ []) in
      let sum : v ≡ capped ((12 + length (decimal n)) + length full + length r.name.name
      + length (text_of input) + length (text_of output)) =
      cut_four (12 + length (decimal n)) (length full) (length r.name.name) (length (text_of input))
      (length (text_of output)) (full_length kept (home.File x.file) x.name) (get_or kept.messages.items a 0)
      (get_or kept.messages.items b 0) v
      (full_is F (length F.messages) (length F.enums) kept (home.File x.file) x.name k
      (file_kept F (length F.messages) (length F.enums) kept k x.file there) (Scopes.of_file x.file))
      (message_kept a input first_in.span first_in.stands) (message_kept b output first_out.span first_out.stands) e in
      let whole : length (line (codes "method" ∷ decimal n ∷ full ∷ r.name.name ∷ text_of input ∷ text_of output ∷ []))
      ≡ length (codes "method") + length (decimal n) + length full + length r.name.name + length (text_of input)
      + length (text_of output) + 6 =
      six_words (codes "method") (decimal n) full r.name.name (text_of input) (text_of output) in
      record {
        text = line (codes "method" ∷ decimal n ∷ full ∷ r.name.name ∷ text_of input ∷ text_of output ∷ []);
        at = Lengths.of_method i j n x r at rat count names_in names_out;
        is = omega arith;
      }

-- ---- names without a line

module _ (F : Joined) (i j : ℕ) where
  same_message : (m n : MessageDecl) → slice_get F.messages i ≡ Some m → slice_get F.messages i ≡ Some n → n ≡ m
  same_message m n at nat = same_Some n m (sym nat ∙ at)

  same_field : (m n : MessageDecl) (f g : FieldDecl) → slice_get F.messages i ≡ Some m → slice_get m.fields j ≡ Some f
      → slice_get F.messages i ≡ Some n → slice_get n.fields j ≡ Some g → g ≡ f
  same_field m n f g at fat nat gat =
      let same : n ≡ m = same_message m n at nat in
      same_Some g f (sym (subst (λ (y : MessageDecl). slice_get y.fields j ≡ Some g) same gat) ∙ fat)

  pub no_form : (m : MessageDecl) (f : FieldDecl) → slice_get F.messages i ≡ Some m → slice_get m.fields j ≡ Some f
      → ((scope : List (List ℕ)) → IsScope F (home.Message i) scope → (label : Label) (word : List ℕ)
      → HasShape F m.file scope f label word → ⊥)
      → (s : Span) (text : List ℕ) → IsNameLine F (field_decl i j) s text → ⊥
  no_form m f at fat none s text
      (Lengths.of_field x y n g v {scope = scope} {label = label} {word = word} nat gat is e inside form) =
      none scope is label word
      (subst (λ (h : FieldDecl). HasShape F m.file scope h label word) (same_field m n f g at fat nat gat)
      (subst (λ (z : MessageDecl). HasShape F z.file scope g label word) (same_message m n at nat) form))

  pub no_number : (m : MessageDecl) (f : FieldDecl) → slice_get F.messages i ≡ Some m → slice_get m.fields j ≡ Some f
      → (IsFieldNumberOf (signed_value f.number) → ⊥)
      → (s : Span) (text : List ℕ) → IsNameLine F (field_decl i j) s text → ⊥
  no_number m f at fat none s text (Lengths.of_field x y n g v nat gat is e inside form) =
      none (v, (ap (λ (h : FieldDecl). signed_value h.number) (sym (same_field m n f g at fat nat gat)) ∙ e), inside)

  same_service : (x y : ServiceDecl) → slice_get F.services i ≡ Some x → slice_get F.services i ≡ Some y → y ≡ x
  same_service x y at nat = same_Some y x (sym nat ∙ at)

  same_rpc : (x y : ServiceDecl) (r t : RpcDecl) → slice_get F.services i ≡ Some x → slice_get x.rpcs j ≡ Some r
      → slice_get F.services i ≡ Some y → slice_get y.rpcs j ≡ Some t → t ≡ r
  same_rpc x y r t at rat nat tat =
      let same : y ≡ x = same_service x y at nat in
      same_Some t r (sym (subst (λ (z : ServiceDecl). slice_get z.rpcs j ≡ Some t) same tat) ∙ rat)

  pub no_input : (x : ServiceDecl) (r : RpcDecl) → slice_get F.services i ≡ Some x → slice_get x.rpcs j ≡ Some r
      → IsNoMessage F x.file (package_at F x.file) r.input.name
      → (s : Span) (text : List ℕ) → IsNameLine F (rpc_decl i j) s text → ⊥
  no_input x r at rat none s text (Lengths.of_method a b n y t {input = input} nat tat e names_in names_out) =
      none input (subst (λ (z : RpcDecl). IsReferenceTo F x.file (package_at F x.file) z.input.name a_message input)
      (same_rpc x y r t at rat nat tat)
      (subst (λ (z : ServiceDecl). IsReferenceTo F z.file (package_at F z.file) t.input.name a_message input)
      (same_service x y at nat) names_in))

  pub no_output : (x : ServiceDecl) (r : RpcDecl) → slice_get F.services i ≡ Some x → slice_get x.rpcs j ≡ Some r
      → IsNoMessage F x.file (package_at F x.file) r.output.name
      → (s : Span) (text : List ℕ) → IsNameLine F (rpc_decl i j) s text → ⊥
  no_output x r at rat none s text (Lengths.of_method a b n y t {output = output} nat tat e names_in names_out) =
      none output (subst (λ (z : RpcDecl). IsReferenceTo F x.file (package_at F x.file) z.output.name a_message output)
      (same_rpc x y r t at rat nat tat)
      (subst (λ (z : ServiceDecl). IsReferenceTo F z.file (package_at F z.file) t.output.name a_message output)
      (same_service x y at nat) names_out))

-- ---- values

no_value_line : (F : Joined) (i j : ℕ) (e : EnumDecl) (v : ValueDecl) → slice_get F.enums i ≡ Some e
    → slice_get e.values j ≡ Some v → (FitsSigned w32 (signed_value v.number) → ⊥)
    → (s : Span) (text : List ℕ) → IsNameLine F (value_decl i j) s text → ⊥
no_value_line F i j e v at vat none s text (Lengths.of_value a b x u xat uat fits) =
    let same : x ≡ e = same_Some x e (sym xat ∙ at) in
    let one : u ≡ v = same_Some u v (sym (subst (λ (y : EnumDecl). slice_get y.values j ≡ Some u) same uat) ∙ vat) in
    none (subst (λ (y : ValueDecl). FitsSigned w32 (signed_value y.number)) one fits)

pub value_at : (F : Joined) (i j : ℕ) (e : EnumDecl) (v : ValueDecl) (n : Option ℕ) → slice_get F.enums i ≡ Some e
    → slice_get e.values j ≡ Some v
    → MatchOption n (FitsSigned w32 (signed_value v.number) → ⊥) (λ r. FitsSigned w32 (signed_value v.number)
    × (r ≡ capped (length (value_line (signed_value v.number, v.name.name)))))
    → IsLengthAt F (value_decl i j) v.name.span n
value_at F i j e v None at vat none = λ s text line. no_value_line F i j e v at vat none s text line
value_at F i j e v (Some r) at vat p =
    record { text = value_line (signed_value v.number, v.name.name); at = Lengths.of_value i j e v at vat p.0; is = p.1 }
