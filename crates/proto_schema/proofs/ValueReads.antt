-- A value of an enum, and reserved numbers and names, are read token by token.
use Rattle.std.proofs.Common.{subst, ◌≡◌, inl, inr, ℕ, Bool, true, false, List, [], ◌∷◌, ◌++◌, codes, refl, ap, sym, ◌∙◌}
use Rattle.std.specs.Prelude.{Ok, Result, Option, Some, None, ◌&&◌}
use Rattle.std.proofs.lemmas.Bool.{and_right}
use Rattle.std.proofs.lemmas.List.{append_assoc}
use Rattle.mrpc_table.specs.declared.words.Decimal.{Decimal}
use Rattle.proto_grammar.specs.Lexemes.{integer, string, mark, Lexeme, comma, semicolon, equals, minus, span_to, make_word, make_number, IsWord, IsPunctuator, is_the_word}
use Rattle.proto_grammar.specs.Grammar.{IsNumberToken, whole, negative, AreFieldOptions, IsRange, single, between, up_from}
use Rattle.proto_grammar.specs.Grammar.{AreRanges, one_range, ranges as more_ranges, AreNameStrings, one_name}
use Rattle.proto_grammar.specs.Grammar.{names as more_names}
use Rattle.proto_grammar.specs.Advancing.{wrong, is_punctuator, is_string, by_number, advance_tail, advance_value, of_value_tail, advance_range, make_range, whole_range, of_range, after_range, advance_reserved}
use Rattle.proto_schema.proofs.Choices.{string_meant}
use Rattle.proto_schema.proofs.NameLemmas.{Walks, stay, go, walks_on, walks_in, mark_is}
use Rattle.proto_schema.proofs.OptionReads.{TailGoes, tail_reads}
use Rattle.proto_schema.proofs.Takes.{Takes, last, next, walk_takes}
use Rattle.proto_schema.proofs.ValueRest.{value_of}
use Rattle.proto_schema.proofs.ReservedRest.{Kept}
use Rattle.proto_ast.specs.declared.file.Span.{Span}
use Rattle.proto_ast.specs.declared.file.Word.{Word}
use Rattle.proto_ast.specs.declared.file.Number.{Number}
use Rattle.proto_ast.specs.declared.file.Range.{Range}
use Rattle.proto_ast.specs.declared.file.ValueDecl.{ValueDecl}
use Rattle.proto_grammar.specs.declared.fault.ProtoFault.{ProtoFault}
use Rattle.proto_grammar.specs.declared.value.ValueState.{ValueState}
use Rattle.proto_grammar.specs.declared.value.ValueState.TheVariants as values
use Rattle.proto_grammar.specs.declared.value.ValueStep.TheVariants as value_steps
use Rattle.proto_grammar.specs.declared.tail.TailState.{TailState}
use Rattle.proto_grammar.specs.declared.tail.TailState.TheVariants as tails
use Rattle.proto_grammar.specs.declared.tail.TailStep.TheVariants as tail_steps
use Rattle.proto_grammar.specs.declared.reserved.RangeState.{RangeState}
use Rattle.proto_grammar.specs.declared.reserved.RangeState.TheVariants as ranges
use Rattle.proto_grammar.specs.declared.reserved.ReservedPart.{ReservedPart}
use Rattle.proto_grammar.specs.declared.reserved.ReservedPart.TheVariants as parts
use Rattle.proto_grammar.specs.declared.reserved.ReservedState.{ReservedState}
use Rattle.proto_grammar.specs.declared.reserved.ReservedStep.{ReservedStep}
use Rattle.proto_grammar.specs.declared.reserved.ReservedStep.TheVariants as steps

-- ---- values

abbrev pub ValueGoes : ValueState → Lexeme → ValueState → Type 0
ValueGoes s x t = advance_value s x ≡ Ok (value_steps.More t)

abbrev pub ValueEnds : ValueState → Lexeme → ValueDecl → Type 0
ValueEnds s x v = advance_value s x ≡ Ok (value_steps.Done v)

equals_goes : (name : Word) (x : Lexeme) → IsPunctuator x equals → ValueGoes (values.Named name) x (values.Equals name)
unfolding advance_value
equals_goes name x h = rw h refl

number_goes : (name : Word) (x : Lexeme) (v : Decimal) → x.means ≡ integer v
    → ValueGoes (values.Equals name) x (values.Tail name (make_number false v x.span) tails.Start)
unfolding advance_value
number_goes name x v h = rw h refl

minus_goes : (name : Word) (x : Lexeme) → IsPunctuator x minus → ValueGoes (values.Equals name) x (values.Minus name x.span)
unfolding advance_value
minus_goes name x h = rw h refl

negative_goes : (name : Word) (s : Span) (x : Lexeme) (v : Decimal) → x.means ≡ integer v
    → ValueGoes (values.Minus name s) x (values.Tail name (make_number true v (span_to s x.span)) tails.Start)
unfolding advance_value
negative_goes name s x v h = rw h refl

pub in_tail : (name : Word) (n : Number) (s t : TailState) (x : Lexeme) → TailGoes s x t
    → ValueGoes (values.Tail name n s) x (values.Tail name n t)
unfolding advance_value
in_tail name n s t x e = ap (of_value_tail name n) e

pub tail_ends : (name : Word) (n : Number) (s : TailState) (x : Lexeme) (packed : Option Bool)
    → advance_tail s x ≡ Ok (tail_steps.Done packed) → ValueEnds (values.Tail name n s) x (value_of name n)
unfolding advance_value
tail_ends name n s x packed e = ap (of_value_tail name n) e

number_reads : (name : Word) {ns : List Lexeme} {n : Number} → IsNumberToken true ns n
    → Walks ValueGoes (values.Equals name) ns (values.Tail name n tails.Start)
number_reads name (whole x v h) = go x [] refl (number_goes name x v h) (stay refl refl)
number_reads name (negative x y v s h k) = go x (y ∷ []) refl (minus_goes name x h) (go y [] refl (negative_goes name x.span y v k) (stay refl refl))

pub value_takes : (name : Word) (y z : Lexeme) {ns os : List Lexeme} {n : Number} {packed : Option Bool}
    → IsPunctuator y equals → IsNumberToken true ns n → AreFieldOptions os packed → IsPunctuator z semicolon
    → Takes ValueGoes ValueEnds (values.Named name) (y ∷ ns ++ os ++ z ∷ []) (value_of name n)
value_takes name y z {ns = ns} {os = os} {n = n} {packed = packed} hy m o hz =
    let t : (t : TailState) × Walks TailGoes tails.Start os t × (advance_tail t z ≡ Ok (tail_steps.Done packed)) = tail_reads z o hz in
    next y (equals_goes name y hy)
    (walk_takes ValueGoes ValueEnds (z ∷ [])
    (walks_on ValueGoes (number_reads name m) (walks_in TailGoes ValueGoes (λ s. values.Tail name n s)
    (in_tail name n) t.1)) (last z (tail_ends name n t.0 z packed t.2)))

-- ---- a range

abbrev pub RangeGoes : Bool → RangeState → Lexeme → RangeState → Type 0
RangeGoes signed s x t = advance_range signed s x ≡ Ok t

no_minus : (signed : Bool) (x : Lexeme) → is_punctuator x.means minus ≡ false → (signed && is_punctuator x.means minus) ≡ false
no_minus signed x h = and_right signed (is_punctuator x.means minus) h

first_number : (signed : Bool) {ns : List Lexeme} {n : Number} → IsNumberToken signed ns n
    → Walks (RangeGoes signed) ranges.Start ns (ranges.First n)
unfolding advance_range
first_number signed (whole x v h) = go x [] refl (by x v h) (stay refl refl)
  where
    by : (x : Lexeme) (v : Decimal) → x.means ≡ integer v
        → RangeGoes signed ranges.Start x (ranges.First (make_number false v x.span))
    by x v h = rw (no_minus signed x (rw h refl)) (ap (by_number x (λ v. ranges.First (make_number false v x.span))) h)
first_number signed (negative x y v s h k) = go x (y ∷ []) refl (by x h) (go y [] refl (behind_minus x.span y v k) (stay refl refl))
  where
    by : (x : Lexeme) → IsPunctuator x minus → RangeGoes signed ranges.Start x (ranges.Minus x.span)
    by x h = rw (s, h) refl

    behind_minus : (p : Span) (y : Lexeme) (v : Decimal) → y.means ≡ integer v
        → RangeGoes signed (ranges.Minus p) y (ranges.First (make_number true v (span_to p y.span)))
    behind_minus p y v k = ap (by_number y (λ v. ranges.First (make_number true v (span_to p y.span)))) k

last_number : (signed : Bool) (m : Number) {ns : List Lexeme} {n : Number} → IsNumberToken signed ns n
    → Walks (RangeGoes signed) (ranges.To m) ns (ranges.Whole (make_range m (Some n)))
unfolding advance_range
last_number signed m (whole x v h) = go x [] refl (by x v h) (stay refl refl)
  where
    by : (x : Lexeme) (v : Decimal) → x.means ≡ integer v
        → RangeGoes signed (ranges.To m) x (ranges.Whole (make_range m (Some (make_number false v x.span))))
    by x v h = rw (no_minus signed x (rw h refl)) (rw h refl)
last_number signed m (negative x y v s h k) = go x (y ∷ []) refl (by x h) (go y [] refl (behind_minus x.span y v k) (stay refl refl))
  where
    by : (x : Lexeme) → IsPunctuator x minus → RangeGoes signed (ranges.To m) x (ranges.ToMinus m x.span)
    by x h = rw (s, h) refl

    behind_minus : (p : Span) (y : Lexeme) (v : Decimal) → y.means ≡ integer v
        → RangeGoes signed (ranges.ToMinus m p) y
        (ranges.Whole (make_range m (Some (make_number true v (span_to p y.span)))))
    behind_minus p y v k = ap (by_number y (λ v. ranges.Whole (make_range m (Some (make_number true v (span_to p y.span)))))) k

to_goes : (signed : Bool) (n : Number) (x : Lexeme) → IsWord x (codes "to")
    → RangeGoes signed (ranges.First n) x (ranges.To n)
unfolding advance_range
to_goes signed n x h = rw h refl

max_goes : (signed : Bool) (n : Number) (x : Lexeme) → IsWord x (codes "max")
    → RangeGoes signed (ranges.To n) x (ranges.Whole (make_range n None))
unfolding advance_range
max_goes signed n x h = rw (no_minus signed x (rw h refl)) (rw h refl)

abbrev RangeReads : Bool → List Lexeme → Range → Type 0
RangeReads signed ys r = (t : RangeState) × Walks (RangeGoes signed) ranges.Start ys t × (whole_range t ≡ Some r)

range_reads : (signed : Bool) {ys : List Lexeme} {r : Range} → IsRange signed ys r → RangeReads signed ys r
range_reads signed (single {n = n} h) = (ranges.First n, first_number signed h, refl)
range_reads signed (between x {zs = zs} {m = m} {n = n} h t k e) =
    (ranges.Whole (make_range m (Some n)), rw e (walks_on (RangeGoes signed) (first_number signed h) (go x zs refl (to_goes signed m x t) (last_number signed m k))), refl)
range_reads signed (up_from x y {m = m} h t k e) = (
  ranges.Whole (make_range m None),
  rw e (walks_on (RangeGoes signed) (first_number signed h)
      (go x (y ∷ []) refl (to_goes signed m x t) (go y [] refl (max_goes signed m y k) (stay refl refl)))),
  refl,
)

-- ---- ranges and names

abbrev pub kept : ReservedPart → Bool → ReservedState
kept p signed = record { signed = signed; part = p }

abbrev pub ReservedGoes : ReservedState → Lexeme → ReservedState → Type 0
ReservedGoes s x t = advance_reserved s x ≡ Ok (steps.More t)

abbrev pub step_of : Kept → ReservedStep
step_of (inl rs) = steps.Ranges rs
step_of (inr ws) = steps.Names ws

abbrev pub ReservedEnds : ReservedState → Lexeme → Kept → Type 0
ReservedEnds s x out = advance_reserved s x ≡ Ok (step_of out)

abbrev pub ReservedTakes : ReservedState → List Lexeme → Kept → Type 0
ReservedTakes s ys out = Takes ReservedGoes ReservedEnds s ys out

pub in_ranges : (signed : Bool) (rs : List Range) (s t : RangeState) (x : Lexeme) → RangeGoes signed s x t
    → ReservedGoes (kept (parts.Ranges rs s) signed) x (kept (parts.Ranges rs t) signed)
unfolding advance_range advance_reserved
in_ranges signed rs ranges.Start t x h = ap (of_range signed rs) h
in_ranges signed rs (ranges.Minus p) t x h = ap (of_range signed rs) h
in_ranges signed rs (ranges.To n) t x h = ap (of_range signed rs) h
in_ranges signed rs (ranges.ToMinus n p) t x h = ap (of_range signed rs) h
in_ranges signed rs (ranges.Whole r) t x h = absurd (let c : ◌≡◌ {A = Result RangeState ProtoFault} (wrong x) (Ok t) = h in cc)
in_ranges signed rs (ranges.First n) t x h = by (is_punctuator x.means comma) (is_punctuator x.means semicolon) refl refl
  where
    clash : (c : ℕ) → is_punctuator x.means c ≡ true → ⊥
    clash c e =
        let m : x.means ≡ mark c = mark_is x.means c e in
        let s : is_the_word x.means (codes "to") ≡ false = rw m refl in
        let w : advance_range signed (ranges.First n) x ≡ wrong x = rw s refl in
        let g : ◌≡◌ {A = Result RangeState ProtoFault} (wrong x) (Ok t) = sym w ∙ h in
        cc

    by : (a b : Bool) → is_punctuator x.means comma ≡ a → is_punctuator x.means semicolon ≡ b
        → ReservedGoes (kept (parts.Ranges rs (ranges.First n)) signed) x (kept (parts.Ranges rs t) signed)
    by true b e f = absurd (clash comma e)
    by false true e f = absurd (clash semicolon f)
    by false false e f = rw (e, f) (ap (of_range signed rs) h)

-- a complete range, followed by a comma or a semicolon

range_comma : (signed : Bool) (rs : List Range) (s : RangeState) (r : Range) (x : Lexeme) → whole_range s ≡ Some r
    → IsPunctuator x comma → ReservedGoes (kept (parts.Ranges rs s) signed) x
    (kept (parts.Ranges (rs ++ r ∷ []) ranges.Start) signed)
unfolding advance_reserved
range_comma signed rs s r x w h = ap (after_range signed rs s x) w ∙ rw h refl

pub range_ends : (signed : Bool) (rs : List Range) (s : RangeState) (r : Range) (x : Lexeme) → whole_range s ≡ Some r
    → IsPunctuator x semicolon → ReservedEnds (kept (parts.Ranges rs s) signed) x (inl (rs ++ r ∷ []))
unfolding advance_reserved
range_ends signed rs s r x w h = ap (after_range signed rs s x) w ∙ rw h refl

ranges_take : (signed : Bool) (rs : List Range) (z : Lexeme) {ys : List Lexeme} {qs : List Range}
    → AreRanges signed ys qs → IsPunctuator z semicolon
    → ReservedTakes (kept (parts.Ranges rs ranges.Start) signed) (ys ++ z ∷ []) (inl (rs ++ qs))
ranges_take signed rs z {ys = ys} (one_range {r = r} o) h =
    let k : RangeReads signed ys r = range_reads signed o in
    walk_takes ReservedGoes ReservedEnds (z ∷ [])
    (walks_in (RangeGoes signed) ReservedGoes (λ s. kept (parts.Ranges rs s) signed) (in_ranges signed rs) k.1)
    (last z (range_ends signed rs k.0 r z k.2 h))
ranges_take signed rs z (more_ranges x {ys = ys} {zs = zs} {r = r} {rs = qs} o c l e) h =
    let k : RangeReads signed ys r = range_reads signed o in
    let t : ReservedTakes (kept (parts.Ranges rs ranges.Start) signed) (ys ++ x ∷ (zs ++ z ∷ [])) (inl ((rs ++ r ∷ []) ++ qs)) =
    walk_takes ReservedGoes ReservedEnds (x ∷ (zs ++ z ∷ [])) (walks_in (RangeGoes signed) ReservedGoes (λ s. kept (parts.Ranges rs s) signed) (in_ranges signed rs) k.1)
    (next x (range_comma signed rs k.0 r x k.2 c) (ranges_take signed (rs ++ r ∷ []) z l h)) in
    rw (e, append_assoc ys (x ∷ zs) (z ∷ []))
    (subst (λ (l : List Range). ReservedTakes (kept (parts.Ranges rs ranges.Start) signed)
    (ys ++ x ∷ (zs ++ z ∷ [])) (inl l)) (append_assoc rs (r ∷ []) qs) t)

-- nothing is read yet: a range doesn't start with a string
start_same : (signed : Bool) (x : Lexeme) (r : ReservedStep)
    → advance_reserved (kept (parts.Ranges [] ranges.Start) signed) x ≡ Ok r
    → advance_reserved (kept parts.Start signed) x ≡ Ok r
unfolding advance_reserved advance_range
start_same signed x r h = by (is_string x.means) refl
  where
    by : (b : Bool) → is_string x.means ≡ b → advance_reserved (kept parts.Start signed) x ≡ Ok r
    by false e = rw e h
    by true e =
        let m : (v : List ℕ) × (x.means ≡ string v) = string_meant x.means e in
        let q : x.means ≡ string m.0 = m.1 in
        let n : (signed && is_punctuator x.means minus) ≡ false = no_minus signed x (rw q refl) in
        let w : advance_reserved (kept (parts.Ranges [] ranges.Start) signed) x ≡ wrong x =
        rw n (ap (of_range signed []) (ap (by_number x (λ v. ranges.First (make_number false v x.span))) q)) in
        let g : ◌≡◌ {A = Result ReservedStep ProtoFault} (wrong x) (Ok r) = sym w ∙ h in
        absurd (cc)

start_takes : (signed : Bool) (ys : List Lexeme) (out : Kept)
    → ReservedTakes (kept (parts.Ranges [] ranges.Start) signed) ys out → ReservedTakes (kept parts.Start signed) ys out
start_takes signed ys out (last x h) = last x (start_same signed x (step_of out) h)
start_takes signed ys out (next x {t = t} h k) = next x (start_same signed x (steps.More t) h) k

pub start_ranges : (signed : Bool) (z : Lexeme) {ys : List Lexeme} {qs : List Range} → AreRanges signed ys qs
    → IsPunctuator z semicolon → ReservedTakes (kept parts.Start signed) (ys ++ z ∷ []) (inl qs)
start_ranges signed z {ys = ys} {qs = qs} l h = start_takes signed (ys ++ z ∷ []) (inl qs) (ranges_take signed [] z l h)

-- ---- names

name_goes : (signed : Bool) (ws : List Word) (x : Lexeme) (v : List ℕ) → x.means ≡ string v
    → ReservedGoes (kept (parts.NextName ws) signed) x (kept (parts.Name (ws ++ make_word v x.span ∷ [])) signed)
unfolding advance_reserved
name_goes signed ws x v h = rw h refl

first_name : (signed : Bool) (x : Lexeme) (v : List ℕ) → x.means ≡ string v
    → ReservedGoes (kept parts.Start signed) x (kept (parts.Name (make_word v x.span ∷ [])) signed)
unfolding advance_reserved
first_name signed x v h = rw h refl

name_comma : (signed : Bool) (ws : List Word) (x : Lexeme) → IsPunctuator x comma
    → ReservedGoes (kept (parts.Name ws) signed) x (kept (parts.NextName ws) signed)
unfolding advance_reserved
name_comma signed ws x h = rw h refl

names_end : (signed : Bool) (ws : List Word) (x : Lexeme) → IsPunctuator x semicolon
    → ReservedEnds (kept (parts.Name ws) signed) x (inr ws)
unfolding advance_reserved
names_end signed ws x h = rw h refl

names_take : (signed : Bool) (ws : List Word) (z : Lexeme) {ys : List Lexeme} {qs : List Word} → AreNameStrings ys qs
    → IsPunctuator z semicolon → ReservedTakes (kept (parts.NextName ws) signed) (ys ++ z ∷ []) (inr (ws ++ qs))
names_take signed ws z (one_name x v e) h = next x (name_goes signed ws x v e) (last z (names_end signed (ws ++ make_word v x.span ∷ []) z h))
names_take signed ws z (more_names x y v {ys = ys} {ws = qs} e c l) h =
    next x (name_goes signed ws x v e) (next y (name_comma signed (ws ++ make_word v x.span ∷ []) y c)
    (subst (λ (l : List Word). ReservedTakes (kept (parts.NextName (ws ++ make_word v x.span ∷ [])) signed)
    (ys ++ z ∷ []) (inr l)) (append_assoc ws (make_word v x.span ∷ []) qs)
    (names_take signed (ws ++ make_word v x.span ∷ []) z l h)))

pub start_names : (signed : Bool) (z : Lexeme) {ys : List Lexeme} {qs : List Word} → AreNameStrings ys qs → IsPunctuator z semicolon
    → ReservedTakes (kept parts.Start signed) (ys ++ z ∷ []) (inr qs)
start_names signed z (one_name x v e) h = next x (first_name signed x v e) (last z (names_end signed (make_word v x.span ∷ []) z h))
start_names signed z (more_names x y v {ys = ys} {ws = qs} e c l) h =
    next x (first_name signed x v e) (next y (name_comma signed (make_word v x.span ∷ []) y c) (names_take signed (make_word v x.span ∷ []) z l h))
