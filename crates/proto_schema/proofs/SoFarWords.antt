-- The tokens read of a statement's names, options and types, as far as the reason of a fault depends on them.
use Rattle.std.proofs.Common.{subst, ◌≡◌, ℕ, ◌+◌, ◌-◌, ◌==◌, nat_le, Bool, true, false, List, [], ◌∷◌, ◌++◌, codes, refl, ap, sym, ◌∙◌}
use Rattle.std.specs.Prelude.{Ok, Err, Result, Option, Some, None, if◌then◌else◌, ◌&&◌, ◌||◌}
use Rattle.std.specs.Str.{bytes_eq}
use Rattle.std.proofs.lemmas.List.{append_assoc, append-nil}
use Rattle.mrpc_table.specs.declared.words.Decimal.{Decimal}
use Rattle.proto_ast.specs.Dot.{dot}
use Rattle.proto_grammar.specs.Lexemes.{TokenMeaning, identifier, integer, number, string, mark, the_end, none, Lexeme}
use Rattle.proto_grammar.specs.Lexemes.{comma, semicolon, equals, minus, plus, opening_brace, closing_brace}
use Rattle.proto_grammar.specs.Lexemes.{opening_paren, closing_paren, opening_bracket, closing_bracket, less, greater}
use Rattle.proto_grammar.specs.Lexemes.{span_to, make_word, make_number, IsWord, IsPunctuator, is_the_word, is_one_of_words}
use Rattle.proto_grammar.specs.Grammar.{IsTypeName, starts_with_word, group_word, IsMapKey, map_key, latest}
use Rattle.proto_schema.specs.Files.{Draft, IsAtFileLevel, IsOutsideBlocks}
use Rattle.proto_schema.specs.Faults
use Rattle.proto_grammar.specs.Lexemes.{is_no_token, is_type_part}
use Rattle.proto_schema.specs.Faults.{is_path, IsBeforeRpcType, IsBeforeMapPart, IsBeforeType}
use Rattle.proto_grammar.specs.Advancing.{proto_fault_at, unexpected, wrong, is_punctuator, is_string, is_number, if_name, by_name}
use Rattle.proto_grammar.specs.Advancing.{if_number, by_number, if_string, by_string, name_part, advance_full_name, advance_type_name}
use Rattle.proto_grammar.specs.Advancing.{advance_field_type_name, after_key, advance_map_key, of_key, of_inner_key, of_map_value}
use Rattle.proto_grammar.specs.Advancing.{of_inner_value, is_map_start, more_map, advance_map, close_map, more_option}
use Rattle.proto_grammar.specs.Advancing.{value_start, advance_braces, advance_option, next_option, of_option, advance_tail}
use Rattle.proto_grammar.specs.Advancing.{of_value_tail, advance_value}
use Rattle.proto_grammar.specs.Advancing.{make_range, advance_range, whole_range}
use Rattle.proto_grammar.specs.Advancing.{more_reserved, of_range, after_range, advance_ranges, reserved_name}
use Rattle.proto_grammar.specs.Advancing.{advance_reserved_part}
use Rattle.proto_schema.proofs.Choices.{either_is, named_is, same_bytes, word_is, and_both, any_dot, dotted_differs}
use Rattle.proto_schema.proofs.NameLemmas.{mark_is}
use Rattle.proto_schema.proofs.NameRest.{NameBack, TypedRest, typed_back}
use Rattle.proto_schema.proofs.MapRest.{ValueBack, typed_value}
use Rattle.proto_ast.specs.declared.file.Word.{Word}
use Rattle.proto_ast.specs.declared.file.Number.{Number}
use Rattle.proto_ast.specs.declared.file.Range.{Range}
use Rattle.proto_ast.specs.declared.file.FieldType.TheVariants as types
use Rattle.proto_grammar.specs.declared.fault.ProtoReason.TheVariants as reasons
use Rattle.proto_grammar.specs.declared.fault.ProtoFault.{ProtoFault}
use Rattle.proto_grammar.specs.declared.name.NameState.{NameState}
use Rattle.proto_grammar.specs.declared.name.NameState.TheVariants as names
use Rattle.proto_grammar.specs.declared.name.NameStep.{NameStep}
use Rattle.proto_grammar.specs.declared.name.NameStep.TheVariants as name_steps
use Rattle.proto_grammar.specs.declared.option.OptionState.{OptionState}
use Rattle.proto_grammar.specs.declared.option.OptionState.TheVariants as options
use Rattle.proto_grammar.specs.declared.option.OptionStep.{OptionStep}
use Rattle.proto_grammar.specs.declared.option.OptionStep.TheVariants as option_steps
use Rattle.proto_grammar.specs.declared.tail.TailState.{TailState}
use Rattle.proto_grammar.specs.declared.tail.TailState.TheVariants as tails
use Rattle.proto_grammar.specs.declared.tail.TailStep.{TailStep}
use Rattle.proto_grammar.specs.declared.tail.TailStep.TheVariants as tail_steps
use Rattle.proto_grammar.specs.declared.field.MapState.{MapState}
use Rattle.proto_grammar.specs.declared.field.MapState.TheVariants as maps
use Rattle.proto_grammar.specs.declared.field.MapStep.{MapStep}
use Rattle.proto_grammar.specs.declared.field.MapStep.TheVariants as map_steps
use Rattle.proto_grammar.specs.declared.value.ValueState.{ValueState}
use Rattle.proto_grammar.specs.declared.value.ValueState.TheVariants as values
use Rattle.proto_grammar.specs.declared.value.ValueStep.TheVariants as value_steps
use Rattle.proto_grammar.specs.declared.reserved.ReservedPart.{ReservedPart}
use Rattle.proto_grammar.specs.declared.reserved.ReservedPart.TheVariants as parts
use Rattle.proto_grammar.specs.declared.reserved.RangeState.{RangeState}
use Rattle.proto_grammar.specs.declared.reserved.RangeState.TheVariants as ranges
use Rattle.proto_grammar.specs.declared.reserved.ReservedStep.TheVariants as reserved_steps

-- ---- what a fault means

-- what a token's fault means after these tokens of a statement
pub data Fault (d : Draft) (ys : List Lexeme) (x : Lexeme) : ProtoFault → Type 0 where
  unlike : Fault d ys x (unexpected x)
  extends : ys ≡ [] → IsOutsideBlocks d → is_one_of_words x (codes "extend" ∷ codes "extensions" ∷ []) ≡ true
      → Fault d ys x (proto_fault_at reasons.Extend x.span)
  imports : (i : Lexeme) → ys ≡ i ∷ [] → IsAtFileLevel d → IsWord i (codes "import") → is_no_token x.means ≡ false
      → is_path x.means ≡ false → Fault d ys x (proto_fault_at reasons.Import x.span)
  groups : IsBeforeType d ys → IsWord x (codes "group") → Fault d ys x (proto_fault_at reasons.Group x.span)
  streams : (zs : List Lexeme) (z : Lexeme) → ys ≡ zs ++ z ∷ [] → IsBeforeRpcType d zs → IsWord z (codes "stream")
      → is_type_part x.means ≡ true → Fault d ys x (proto_fault_at reasons.Stream z.span)

-- ---- parts in which any other token is unexpected

abbrev pub Quiet : {X : Type 0} → Lexeme → Result X ProtoFault → Type 0
Quiet x (Ok y) = Unit {0}
Quiet x (Err e) = e ≡ unexpected x

ok_or : {X : Type 0} (x : Lexeme) (b : Bool) (y : X) (r : Result X ProtoFault) → Quiet x r
    → Quiet x (if b then Ok y else r)
ok_or x true y r h = tt
ok_or x false y r h = h

ok_name : {X : Type 0} (x : Lexeme) (f : List ℕ → X) → Quiet x (if_name x f)
ok_name {X} x f = by x.means
  where
    by : (m : TokenMeaning) → Quiet x (by_name x f m)
    by (identifier n) = tt
    by (integer value) = refl
    by number = refl
    by (string value) = refl
    by (mark c) = refl
    by the_end = refl
    by none = refl

ok_number : {X : Type 0} (x : Lexeme) (f : Decimal → X) → Quiet x (if_number x f)
ok_number {X} x f = by x.means
  where
    by : (m : TokenMeaning) → Quiet x (by_number x f m)
    by (identifier n) = refl
    by (integer value) = tt
    by number = refl
    by (string value) = refl
    by (mark c) = refl
    by the_end = refl
    by none = refl

ok_string : {X : Type 0} (x : Lexeme) (f : List ℕ → X) → Quiet x (if_string x f)
ok_string {X} x f = by x.means
  where
    by : (m : TokenMeaning) → Quiet x (by_string x f m)
    by (identifier n) = refl
    by (integer value) = refl
    by number = refl
    by (string value) = tt
    by (mark c) = refl
    by the_end = refl
    by none = refl

pub full_quiet : (s : NameState) (x : Lexeme) → Quiet x (advance_full_name s x)
unfolding advance_full_name
full_quiet names.Start x = ok_name x (λ n. name_part n x.span)
full_quiet (names.Rooted s) x = ok_name x (λ n. name_part (dot ∷ n) (span_to s x.span))
full_quiet (names.Part w) x = ok_or x (is_punctuator x.means dot) (name_steps.More (names.Dot w)) (Ok (name_steps.Whole w)) tt
full_quiet (names.Dot w) x = ok_name x (λ n. name_part (w.name ++ dot ∷ n) (span_to w.span x.span))

start_quiet : (packed : Bool) (x : Lexeme) (m : TokenMeaning) → Quiet x (value_start packed x m)
start_quiet packed x (identifier n) = tt
start_quiet packed x (integer value) = tt
start_quiet packed x number = tt
start_quiet packed x (string value) = tt
start_quiet packed x (mark c) =
    ok_or x (c == plus || c == minus) (option_steps.More options.Sign) (if c == opening_brace then more_option (options.Braces 1) else wrong x)
    (ok_or x (c == opening_brace) (option_steps.More (options.Braces 1)) (wrong x) refl)
start_quiet packed x the_end = refl
start_quiet packed x none = refl

brace_quiet : (n : ℕ) (x : Lexeme) (m : TokenMeaning) → Quiet x (advance_braces n x m)
brace_quiet n x (identifier name) = tt
brace_quiet n x (integer value) = tt
brace_quiet n x number = tt
brace_quiet n x (string value) = tt
brace_quiet n x (mark c) =
    ok_or x (c == opening_brace) (option_steps.More (options.Braces (n + 1)))
    (if c == closing_brace then if nat_le n 1 then more_option options.End else more_option (options.Braces (n - 1)) else more_option (options.Braces n))
    (either_is (Quiet x) (c == closing_brace) (if nat_le n 1 then more_option options.End else more_option (options.Braces (n - 1))) (more_option (options.Braces n))
    (λ e. ok_or x (nat_le n 1) (option_steps.More options.End) (more_option (options.Braces (n - 1))) tt) (λ e. tt))
brace_quiet n x the_end = refl
brace_quiet n x none = refl

pub option_quiet : (s : OptionState) (x : Lexeme) → Quiet x (advance_option s x)
unfolding advance_option
option_quiet (options.Name first) x =
    ok_or x (is_punctuator x.means opening_paren) (option_steps.More options.Open) (if_name x (λ n. option_steps.More (options.Part (first && is_the_word x.means (codes "packed")))))
    (ok_name x (λ n. option_steps.More (options.Part (first && is_the_word x.means (codes "packed")))))
option_quiet options.Open x = ok_or x (is_punctuator x.means dot) (option_steps.More options.OpenName)
    (if_name x (λ n. option_steps.More options.Inner)) (ok_name x (λ n. option_steps.More options.Inner))
option_quiet options.OpenName x = ok_name x (λ n. option_steps.More options.Inner)
option_quiet options.Inner x =
    ok_or x (is_punctuator x.means dot) (option_steps.More options.OpenName) (if is_punctuator x.means closing_paren then more_option (options.Part false) else wrong x)
    (ok_or x (is_punctuator x.means closing_paren) (option_steps.More (options.Part false)) (wrong x) refl)
option_quiet (options.Part packed) x =
    ok_or x (is_punctuator x.means dot) (option_steps.More (options.Name false)) (if is_punctuator x.means equals then more_option (options.Equals packed) else wrong x)
    (ok_or x (is_punctuator x.means equals) (option_steps.More (options.Equals packed)) (wrong x) refl)
option_quiet (options.Equals packed) x = start_quiet packed x x.means
option_quiet options.Sign x = ok_or x (is_number x.means) (option_steps.More options.End) (wrong x) refl
option_quiet (options.Value b) x = ok_or x (is_punctuator x.means dot) (option_steps.More options.ValueDot) (Ok (option_steps.Whole b)) tt
option_quiet options.ValueDot x = ok_name x (λ n. option_steps.More (options.Value None))
option_quiet options.Text x = ok_or x (is_string x.means) (option_steps.More options.Text) (Ok (option_steps.Whole None)) tt
option_quiet (options.Braces n) x = brace_quiet n x x.means
option_quiet options.End x = tt

of_option_quiet : (packed : Option Bool) (x : Lexeme) (r : Result OptionStep ProtoFault) → Quiet x r
    → Quiet x (of_option packed x r)
of_option_quiet packed x (Ok (option_steps.More s)) h = tt
of_option_quiet packed x (Ok (option_steps.Whole b)) h =
    ok_or x (is_punctuator x.means comma) (tail_steps.More (tails.Options (latest packed b) next_option))
    (if is_punctuator x.means closing_bracket then Ok (tail_steps.More (tails.Closed (latest packed b))) else wrong x)
    (ok_or x (is_punctuator x.means closing_bracket) (tail_steps.More (tails.Closed (latest packed b))) (wrong x) refl)
of_option_quiet packed x (Err e) h = h

pub tail_quiet : (s : TailState) (x : Lexeme) → Quiet x (advance_tail s x)
unfolding advance_tail
tail_quiet tails.Start x =
    ok_or x (is_punctuator x.means opening_bracket) (tail_steps.More (tails.Options None next_option)) (if is_punctuator x.means semicolon then Ok (tail_steps.Done None) else wrong x)
    (ok_or x (is_punctuator x.means semicolon) (tail_steps.Done None) (wrong x) refl)
tail_quiet (tails.Options packed s) x = of_option_quiet packed x (advance_option s x) (option_quiet s x)
tail_quiet (tails.Closed packed) x = ok_or x (is_punctuator x.means semicolon) (tail_steps.Done packed) (wrong x) refl

of_value_tail_quiet : (name : Word) (n : Number) (x : Lexeme) (r : Result TailStep ProtoFault) → Quiet x r
    → Quiet x (of_value_tail name n r)
of_value_tail_quiet name n x (Ok (tail_steps.More s)) h = tt
of_value_tail_quiet name n x (Ok (tail_steps.Done packed)) h = tt
of_value_tail_quiet name n x (Err e) h = h

pub value_quiet : (s : ValueState) (x : Lexeme) → Quiet x (advance_value s x)
unfolding advance_value
value_quiet (values.Named name) x = ok_or x (is_punctuator x.means equals) (value_steps.More (values.Equals name)) (wrong x) refl
value_quiet (values.Equals name) x =
    ok_or x (is_punctuator x.means minus) (value_steps.More (values.Minus name x.span)) (if_number x (λ v. value_steps.More (values.Tail name (make_number false v x.span) tails.Start)))
    (ok_number x (λ v. value_steps.More (values.Tail name (make_number false v x.span) tails.Start)))
value_quiet (values.Minus name s) x = ok_number x (λ v. value_steps.More (values.Tail name (make_number true v (span_to s x.span)) tails.Start))
value_quiet (values.Tail name n s) x = of_value_tail_quiet name n x (advance_tail s x) (tail_quiet s x)

range_quiet : (signed : Bool) (s : RangeState) (x : Lexeme) → Quiet x (advance_range signed s x)
unfolding advance_range
range_quiet signed ranges.Start x =
    ok_or x (signed && is_punctuator x.means minus) (ranges.Minus x.span)
    (if_number x (λ v. ranges.First (make_number false v x.span)))
    (ok_number x (λ v. ranges.First (make_number false v x.span)))
range_quiet signed (ranges.Minus s) x = ok_number x (λ v. ranges.First (make_number true v (span_to s x.span)))
range_quiet signed (ranges.First n) x = ok_or x (is_the_word x.means (codes "to")) (ranges.To n) (wrong x) refl
range_quiet signed (ranges.To n) x =
    ok_or x (signed && is_punctuator x.means minus) (ranges.ToMinus n x.span)
    (if is_the_word x.means (codes "max") then Ok (ranges.Whole (make_range n None)) else if_number x (λ v. ranges.Whole (make_range n (Some (make_number false v x.span)))))
    (ok_or x (is_the_word x.means (codes "max")) (ranges.Whole (make_range n None)) (if_number x (λ v. ranges.Whole (make_range n (Some (make_number false v x.span)))))
    (ok_number x (λ v. ranges.Whole (make_range n (Some (make_number false v x.span))))))
range_quiet signed (ranges.ToMinus n s) x = ok_number x (λ v. ranges.Whole (make_range n (Some (make_number true v (span_to s x.span)))))
range_quiet signed (ranges.Whole r) x = refl

of_range_quiet : (signed : Bool) (rs : List Range) (x : Lexeme) (r : Result RangeState ProtoFault) → Quiet x r
    → Quiet x (of_range signed rs r)
of_range_quiet signed rs x (Ok s) h = tt
of_range_quiet signed rs x (Err e) h = h

behind_range_quiet : (signed : Bool) (rs : List Range) (s : RangeState) (x : Lexeme) (r : Option Range)
    → Quiet x (after_range signed rs s x r)
behind_range_quiet signed rs s x None = of_range_quiet signed rs x (advance_range signed s x) (range_quiet signed s x)
behind_range_quiet signed rs s x (Some r) =
    ok_or x (is_punctuator x.means comma) (reserved_steps.More (record { signed = signed; part = parts.Ranges (rs ++ r ∷ []) ranges.Start }))
    (if is_punctuator x.means semicolon then Ok (reserved_steps.Ranges (rs ++ r ∷ [])) else of_range signed rs (advance_range signed s x))
    (ok_or x (is_punctuator x.means semicolon) (reserved_steps.Ranges (rs ++ r ∷ []))
    (of_range signed rs (advance_range signed s x))
    (of_range_quiet signed rs x (advance_range signed s x) (range_quiet signed s x)))

name_quiet : (signed : Bool) (ws : List Word) (x : Lexeme) → Quiet x (reserved_name signed ws x)
name_quiet signed ws x = ok_string x (λ v. reserved_steps.More (record { signed = signed; part = parts.Name (ws ++ make_word v x.span ∷ []) }))

pub part_quiet : (signed : Bool) (s : ReservedPart) (x : Lexeme) → Quiet x (advance_reserved_part signed s x)
part_quiet signed parts.Start x =
    either_is (Quiet x) (is_string x.means) (reserved_name signed [] x) (advance_ranges signed [] ranges.Start x)
    (λ e. name_quiet signed [] x) (λ e. behind_range_quiet signed [] ranges.Start x (whole_range ranges.Start))
part_quiet signed (parts.Ranges rs s) x = behind_range_quiet signed rs s x (whole_range s)
part_quiet signed (parts.Name ws) x =
    ok_or x (is_punctuator x.means semicolon) (reserved_steps.Names ws) (if is_punctuator x.means comma then more_reserved signed (parts.NextName ws) else wrong x)
    (ok_or x (is_punctuator x.means comma) (reserved_steps.More (record { signed = signed; part = parts.NextName ws })) (wrong x) refl)
part_quiet signed (parts.NextName ws) x = name_quiet signed ws x

-- ---- names

-- a name that is this word is one token
abbrev pub OnlyWord : List ℕ → NameState → List Lexeme → Type 0
OnlyWord w names.Start ns = ns ≡ []
OnlyWord w (names.Rooted s) ns = Unit {0}
OnlyWord w (names.Part v) ns = bytes_eq v.name w ≡ true → (m : Lexeme) × IsWord m w × (m.span ≡ v.span) × (ns ≡ m ∷ [])
OnlyWord w (names.Dot v) ns = Unit {0}

pub data NameFault (ns : List Lexeme) (x : Lexeme) : ProtoFault → Type 0 where
  name_unlike : NameFault ns x (unexpected x)
  name_group : ns ≡ [] → IsWord x (codes "group") → NameFault ns x (proto_fault_at reasons.Group x.span)

abbrev pub OnlyOn : List ℕ → List Lexeme → Lexeme → Result NameStep ProtoFault → Type 0
OnlyOn w ns x (Ok (name_steps.More t)) = OnlyWord w t (ns ++ x ∷ [])
OnlyOn w ns x (Ok (name_steps.Whole v)) = Unit {0}
OnlyOn w ns x (Err e) = NameFault ns x e

pub only_on : (w : List ℕ) → any_dot w ≡ false → (s : NameState) (ns : List Lexeme) (x : Lexeme) → OnlyWord w s ns
    → OnlyOn w ns x (advance_field_type_name s x)
unfolding advance_full_name
only_on w k names.Start ns x o =
    either_is (OnlyOn w ns x) (is_the_word x.means (codes "group")) (Err (proto_fault_at reasons.Group x.span)) (advance_type_name names.Start x) (λ e. name_group o (word_is x.means (codes "group") e))
    (λ e. either_is (OnlyOn w ns x) (is_punctuator x.means dot) (Ok (name_steps.More (names.Rooted x.span))) (advance_full_name names.Start x) (λ d. tt)
    (λ d. named_is (OnlyOn w ns x) x (λ n. name_part n x.span) (λ n h. first n h) name_unlike))
  where
    first : (n : List ℕ) → IsWord x n → bytes_eq n w ≡ true
        → (m : Lexeme) × IsWord m w × (m.span ≡ x.span) × (ns ++ x ∷ [] ≡ m ∷ [])
    first n h b = (x, h ∙ ap identifier (same_bytes n w b), refl, ap (λ (l : List Lexeme). l ++ x ∷ []) o)
only_on w k (names.Rooted s) ns x o =
    named_is (OnlyOn w ns x) x (λ n. name_part (dot ∷ n) (span_to s x.span)) (λ n h b. absurd (dotted_differs [] n w k b)) name_unlike
only_on w k (names.Part v) ns x o = either_is (OnlyOn w ns x) (is_punctuator x.means dot) (Ok (name_steps.More (names.Dot v))) (Ok (name_steps.Whole v)) (λ e. tt) (λ e. tt)
only_on w k (names.Dot v) ns x o =
    named_is (OnlyOn w ns x) x (λ n. name_part (v.name ++ dot ∷ n) (span_to v.span x.span)) (λ n h b. absurd (dotted_differs v.name n w k b)) name_unlike

-- what completes the name makes, with the tokens read so far, a type's name
abbrev pub TypedSoFar : NameState → List Lexeme → Type 0
TypedSoFar s ns = (zs : List Lexeme) (w : Word) → TypedRest s zs w → (IsTypeName (ns ++ zs) w) × (starts_with_word group_word (ns ++ zs) ≡ false)

abbrev TypedOn : List Lexeme → Lexeme → Result NameStep ProtoFault → Type 0
TypedOn ns x (Ok (name_steps.More t)) = TypedSoFar t (ns ++ x ∷ [])
TypedOn ns x (Ok (name_steps.Whole w)) = (IsTypeName ns w) × (starts_with_word group_word ns ≡ false)
TypedOn ns x (Err e) = Unit {0}

typed_on : (s : NameState) (ns : List Lexeme) (x : Lexeme) → TypedSoFar s ns → (r : Result NameStep ProtoFault)
    → NameBack TypedRest s x r → TypedOn ns x r
typed_on s ns x h (Ok (name_steps.More t)) b =
    λ zs w k. subst (λ (l : List Lexeme). (IsTypeName l w) × (starts_with_word group_word l ≡ false)) (sym (append_assoc ns (x ∷ []) zs)) (h (x ∷ zs) w (b zs w k))
typed_on s ns x h (Ok (name_steps.Whole w)) b = subst (λ (l : List Lexeme). (IsTypeName l w) × (starts_with_word group_word l ≡ false)) (append-nil ns) (h [] w b)
typed_on s ns x h (Err e) b = tt

-- ---- maps

-- `map`, `<`, and a key so far
pub data KeySoFar (s : NameState) (all : List Lexeme) : Type 0 where
  key_so_far : (m l : Lexeme) (ns : List Lexeme) → IsWord m (codes "map") → IsPunctuator l less → OnlyWord (codes "map") s ns
      → TypedSoFar s ns → all ≡ m ∷ l ∷ ns → KeySoFar s all

-- keys of nested maps
pub data Keys : List Lexeme → Type 0 where
  one_key : {ks : List Lexeme} {w : Word} → IsMapKey ks w → Keys ks
  more_keys : {ks js all : List Lexeme} {w : Word} → Keys ks → IsMapKey js w → all ≡ ks ++ js → Keys all

pub data ValueSoFar (s : NameState) (all : List Lexeme) : Type 0 where
  value_so_far : {ks : List Lexeme} (ns : List Lexeme) → Keys ks → OnlyWord (codes "map") s ns → all ≡ ks ++ ns
      → ValueSoFar s all

pub data InnerKeySoFar (s : NameState) (all : List Lexeme) : Type 0 where
  inner_key_so_far : {ks js : List Lexeme} → Keys ks → KeySoFar s js → all ≡ ks ++ js → InnerKeySoFar s all

abbrev pub MapSoFar : MapState → List Lexeme → Type 0
MapSoFar (maps.Key s) ms = KeySoFar s ms
MapSoFar (maps.Value k s) ms = ValueSoFar s ms
MapSoFar (maps.InnerKey k0 d s) ms = InnerKeySoFar s ms
MapSoFar (maps.InnerValue k0 d s) ms = ValueSoFar s ms
MapSoFar (maps.Close k0 d) ms = Unit {0}

keys_on : {ks bs : List Lexeme} → Keys ks → IsBeforeMapPart bs → IsBeforeMapPart (ks ++ bs)
keys_on (one_key k) b = Faults.inner k b refl
keys_on {bs = bs} (more_keys {ks = ks} {js = js} k j e) b =
    subst (λ (l : List Lexeme). IsBeforeMapPart (l ++ bs)) (sym e) (subst (λ (l : List Lexeme). IsBeforeMapPart l) (sym (append_assoc ks js bs)) (keys_on k (Faults.inner j b refl)))

keys_value : {ks : List Lexeme} → Keys ks → IsBeforeMapPart ks
keys_value (one_key k) = Faults.value k
keys_value (more_keys k j e) = subst (λ (l : List Lexeme). IsBeforeMapPart l) (sym e) (keys_on k (Faults.value j))

data KeyFault (ms : List Lexeme) (x : Lexeme) : ProtoFault → Type 0 where
  key_unlike : KeyFault ms x (unexpected x)
  key_group : (m l : Lexeme) → ms ≡ m ∷ l ∷ [] → IsWord m (codes "map") → IsPunctuator l less → IsWord x (codes "group")
      → KeyFault ms x (proto_fault_at reasons.Group x.span)

abbrev KeyOn : List Lexeme → Lexeme → Result NameStep ProtoFault → Type 0
KeyOn ms x (Ok (name_steps.More t)) = KeySoFar t (ms ++ x ∷ [])
KeyOn ms x (Ok (name_steps.Whole w)) = IsMapKey (ms ++ x ∷ []) w
KeyOn ms x (Err e) = KeyFault ms x e

key_on : (s : NameState) (ms : List Lexeme) (x : Lexeme) → KeySoFar s ms → KeyOn ms x (advance_map_key s x)
key_on s ms x (key_so_far m l ns hm hl o t a) =
    by (advance_field_type_name s x) (only_on (codes "map") refl s ns x o) (typed_on s ns x t (advance_field_type_name s x) (typed_back s x))
  where
    longer : ms ++ x ∷ [] ≡ m ∷ l ∷ ns ++ x ∷ []
    longer = ap (λ (q : List Lexeme). q ++ x ∷ []) a

    fault : {e : ProtoFault} → NameFault ns x e → KeyFault ms x e
    fault name_unlike = key_unlike
    fault (name_group n h) = key_group m l (a ∙ ap (λ (q : List Lexeme). m ∷ l ∷ q) n) hm hl h

    by : (r : Result NameStep ProtoFault) → OnlyOn (codes "map") ns x r → TypedOn ns x r → KeyOn ms x (after_key x r)
    by (Ok (name_steps.More t)) o k = key_so_far m l (ns ++ x ∷ []) hm hl o k longer
    by (Ok (name_steps.Whole w)) o k =
        either_is (KeyOn ms x) (is_punctuator x.means comma) (Ok (name_steps.Whole w)) (wrong x) (λ c. map_key m l x hm hl k.0 k.1 (mark_is x.means comma c) longer) (λ c. key_unlike)
    by (Err e) o k = fault o

pub data MapFault (ms : List Lexeme) (x : Lexeme) : ProtoFault → Type 0 where
  map_unlike : MapFault ms x (unexpected x)
  map_group : IsBeforeMapPart ms → IsWord x (codes "group") → MapFault ms x (proto_fault_at reasons.Group x.span)

abbrev pub MapOn : List Lexeme → Lexeme → Result MapStep ProtoFault → Type 0
MapOn ms x (Ok (map_steps.More t)) = MapSoFar t (ms ++ x ∷ [])
MapOn ms x (Ok (map_steps.Done kind)) = Unit {0}
MapOn ms x (Err e) = MapFault ms x e

of_key_on : (ms : List Lexeme) (x : Lexeme) (r : Result NameStep ProtoFault) → KeyOn ms x r → MapOn ms x (of_key r)
of_key_on ms x (Ok (name_steps.More t)) k = k
of_key_on ms x (Ok (name_steps.Whole w)) k = value_so_far [] (one_key k) refl (sym (append-nil (ms ++ x ∷ [])))
of_key_on ms x (Err e) k = fault k
  where
    fault : {e : ProtoFault} → KeyFault ms x e → MapFault ms x e
    fault key_unlike = map_unlike
    fault (key_group m l a hm hl h) = map_group (subst (λ (q : List Lexeme). IsBeforeMapPart q) (sym a) (Faults.key m l hm hl)) h

of_inner_key_on : (k0 : Word) (d : ℕ) (ks js ms : List Lexeme) (x : Lexeme) → Keys ks → ms ≡ ks ++ js
    → (r : Result NameStep ProtoFault) → KeyOn js x r → MapOn ms x (of_inner_key k0 d r)
of_inner_key_on k0 d ks js ms x q a r k = by r k
  where
    longer : ms ++ x ∷ [] ≡ ks ++ (js ++ x ∷ [])
    longer = ap (λ (l : List Lexeme). l ++ x ∷ []) a ∙ append_assoc ks js (x ∷ [])

    fault : {e : ProtoFault} → KeyFault js x e → MapFault ms x e
    fault key_unlike = map_unlike
    fault (key_group m l b hm hl h) =
        map_group (subst (λ (l : List Lexeme). IsBeforeMapPart l) (sym (a ∙ ap (λ (l : List Lexeme). ks ++ l) b)) (keys_on q (Faults.key m l hm hl))) h

    by : (r : Result NameStep ProtoFault) → KeyOn js x r → MapOn ms x (of_inner_key k0 d r)
    by (Ok (name_steps.More t)) k = inner_key_so_far q k longer
    by (Ok (name_steps.Whole w)) k = value_so_far [] (more_keys q k longer) refl (sym (append-nil (ms ++ x ∷ [])))
    by (Err e) k = fault k

-- the start of a map's value
value_fault : (ks ns ms : List Lexeme) (x : Lexeme) → Keys ks → ms ≡ ks ++ ns → {e : ProtoFault} → NameFault ns x e
    → MapFault ms x e
value_fault ks ns ms x q a name_unlike = map_unlike
value_fault ks ns ms x q a (name_group n h) =
    map_group (subst (λ (l : List Lexeme). IsBeforeMapPart l) (sym (a ∙ (ap (λ (l : List Lexeme). ks ++ l) n ∙ append-nil ks))) (keys_value q)) h

-- `map` and `<` start a map inside the map
deeper : (s : NameState) (w : Word) (ks ns ms : List Lexeme) (x : Lexeme) → Keys ks → OnlyWord (codes "map") s ns
    → ms ≡ ks ++ ns → s ≡ names.Part w → is_map_start w x ≡ true → InnerKeySoFar names.Start (ms ++ x ∷ [])
deeper s w ks ns ms x q o a e b = by (subst (λ (t : NameState). OnlyWord (codes "map") t ns) e o both.1)
  where
    both : (is_punctuator x.means less ≡ true) × (bytes_eq w.name (codes "map") ≡ true)
    both = and_both (is_punctuator x.means less) (bytes_eq w.name (codes "map")) b

    by : (m : Lexeme) × IsWord m (codes "map") × (m.span ≡ w.span) × (ns ≡ m ∷ [])
        → InnerKeySoFar names.Start (ms ++ x ∷ [])
    by (m, hm, p, n) =
        inner_key_so_far q (key_so_far m x [] hm (mark_is x.means less both.0) refl (λ zs w k. k) refl)
        (ap (λ (l : List Lexeme). l ++ x ∷ []) a ∙ (append_assoc ks ns (x ∷ []) ∙ ap (λ (l : List Lexeme). ks ++ (l ++ x ∷ [])) n))

of_value_on : (k : Word) (s : NameState) (ms : List Lexeme) (x : Lexeme) → ValueSoFar s ms
    → MapOn ms x (of_map_value k x (advance_field_type_name s x))
of_value_on k s ms x (value_so_far {ks = ks} ns q o a) = by (advance_field_type_name s x) (only_on (codes "map") refl s ns x o) (typed_value s x)
  where
    by : (r : Result NameStep ProtoFault) → OnlyOn (codes "map") ns x r → ValueBack s x r → MapOn ms x (of_map_value k x r)
    by (Ok (name_steps.More t)) p b = value_so_far (ns ++ x ∷ []) q p (ap (λ (l : List Lexeme). l ++ x ∷ []) a ∙ append_assoc ks ns (x ∷ []))
    by (Ok (name_steps.Whole w)) p b =
        either_is (MapOn ms x) (is_punctuator x.means greater) (Ok (map_steps.Done (types.Map k w))) (if is_map_start w x then more_map (maps.InnerKey k 1 names.Start) else wrong x) (λ h. tt)
        (λ h. either_is (MapOn ms x) (is_map_start w x) (more_map (maps.InnerKey k 1 names.Start)) (wrong x) (λ m. deeper s w ks ns ms x q o a b.1 m) (λ m. map_unlike))
    by (Err e) p b = value_fault ks ns ms x q a p

of_inner_value_on : (k0 : Word) (d : ℕ) (s : NameState) (ms : List Lexeme) (x : Lexeme) → ValueSoFar s ms
    → MapOn ms x (of_inner_value k0 d x (advance_field_type_name s x))
of_inner_value_on k0 d s ms x (value_so_far {ks = ks} ns q o a) = by (advance_field_type_name s x) (only_on (codes "map") refl s ns x o) (typed_value s x)
  where
    by : (r : Result NameStep ProtoFault) → OnlyOn (codes "map") ns x r → ValueBack s x r
        → MapOn ms x (of_inner_value k0 d x r)
    by (Ok (name_steps.More t)) p b = value_so_far (ns ++ x ∷ []) q p (ap (λ (l : List Lexeme). l ++ x ∷ []) a ∙ append_assoc ks ns (x ∷ []))
    by (Ok (name_steps.Whole w)) p b =
        either_is (MapOn ms x) (is_punctuator x.means greater) (more_map (maps.Close k0 d)) (if is_map_start w x then more_map (maps.InnerKey k0 (d + 1) names.Start) else wrong x) (λ h. tt)
        (λ h. either_is (MapOn ms x) (is_map_start w x) (more_map (maps.InnerKey k0 (d + 1) names.Start)) (wrong x) (λ m. deeper s w ks ns ms x q o a b.1 m) (λ m. map_unlike))
    by (Err e) p b = value_fault ks ns ms x q a p

closed_on : (k0 : Word) (d : ℕ) (ms : List Lexeme) (x : Lexeme) → MapOn ms x (Ok (close_map k0 d))
closed_on k0 d ms x = by (nat_le d 1)
  where
    by : (b : Bool) → MapOn ms x (Ok (if b then map_steps.Done (types.NestedMap k0) else map_steps.More (maps.Close k0 (d - 1))))
    by true = tt
    by false = tt

pub map_on : (s : MapState) (ms : List Lexeme) (x : Lexeme) → MapSoFar s ms → MapOn ms x (advance_map s x)
unfolding advance_map
map_on (maps.Key s) ms x k = of_key_on ms x (advance_map_key s x) (key_on s ms x k)
map_on (maps.InnerKey k0 d s) ms x (inner_key_so_far {ks = ks} {js = js} q k a) = of_inner_key_on k0 d ks js ms x q a (advance_map_key s x) (key_on s js x k)
map_on (maps.Value k s) ms x v = of_value_on k s ms x v
map_on (maps.InnerValue k0 d s) ms x v = of_inner_value_on k0 d s ms x v
map_on (maps.Close k0 d) ms x v = either_is (MapOn ms x) (is_punctuator x.means greater) (Ok (close_map k0 d)) (wrong x) (λ h. closed_on k0 d ms x) (λ h. map_unlike)
