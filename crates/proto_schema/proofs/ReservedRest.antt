-- The tokens that complete reserved numbers or names, by how much of them is read.
use Rattle.std.proofs.Common.{subst, ◌≡◌, ◌⊎◌, inl, inr, ℕ, Bool, true, false, List, [], ◌∷◌, ◌++◌, codes, refl, ap, sym, ◌∙◌}
use Rattle.std.specs.Prelude.{Ok, Err, Result, Option, Some, None, if◌then◌else◌, ◌&&◌}
use Rattle.std.proofs.lemmas.List.{append_assoc, append-nil}
use Rattle.mrpc_table.specs.declared.words.Decimal.{Decimal}
use Rattle.proto_grammar.specs.Lexemes.{integer, string, Lexeme, comma, semicolon, minus, span_to, make_word, make_number, IsWord, IsPunctuator, is_the_word}
use Rattle.proto_grammar.specs.Grammar.{IsNumberToken, whole, negative, IsRange, single, between, up_from, AreRanges, one_range, ranges as more_ranges, AreNameStrings, one_name, names as more_names}
use Rattle.proto_grammar.specs.Advancing.{wrong, is_punctuator, is_string, if_number, advance_range, make_range, whole_range}
use Rattle.proto_grammar.specs.Advancing.{more_reserved, of_range, after_range, advance_ranges, reserved_name}
use Rattle.proto_grammar.specs.Advancing.{advance_reserved_part}
use Rattle.proto_schema.proofs.Choices.{either_is, numbered_is, string_is, word_is, and_both}
use Rattle.proto_schema.proofs.NameLemmas.{mark_is}
use Rattle.proto_ast.specs.declared.file.Span.{Span}
use Rattle.proto_ast.specs.declared.file.Word.{Word}
use Rattle.proto_ast.specs.declared.file.Number.{Number}
use Rattle.proto_ast.specs.declared.file.Range.{Range}
use Rattle.proto_grammar.specs.declared.fault.ProtoFault.{ProtoFault}
use Rattle.proto_grammar.specs.declared.reserved.RangeState.{RangeState}
use Rattle.proto_grammar.specs.declared.reserved.RangeState.TheVariants as ranges
use Rattle.proto_grammar.specs.declared.reserved.ReservedPart.{ReservedPart}
use Rattle.proto_grammar.specs.declared.reserved.ReservedPart.TheVariants as parts
use Rattle.proto_grammar.specs.declared.reserved.ReservedState.{ReservedState}
use Rattle.proto_grammar.specs.declared.reserved.ReservedStep.{ReservedStep}
use Rattle.proto_grammar.specs.declared.reserved.ReservedStep.TheVariants as steps

-- ---- a range

-- after `to`
pub data ToRest (signed : Bool) (n : Number) (all : List Lexeme) (r : Range) : Type 0 where
  to_number : {m : Number} → IsNumberToken signed all m → make_range n (Some m) ≡ r → ToRest signed n all r
  to_max : (y : Lexeme) → IsWord y (codes "max") → all ≡ y ∷ [] → make_range n None ≡ r → ToRest signed n all r

-- after the first number
pub data FirstRest (signed : Bool) (n : Number) (all : List Lexeme) (r : Range) : Type 0 where
  first_ends : all ≡ [] → make_range n (Some n) ≡ r → FirstRest signed n all r
  first_goes_on : (x : Lexeme) {rest : List Lexeme} → IsWord x (codes "to") → ToRest signed n rest r → all ≡ x ∷ rest
      → FirstRest signed n all r

pub data MinusRest (signed : Bool) (s : Span) (all : List Lexeme) (r : Range) : Type 0 where
  minus_rest : (x : Lexeme) (v : Decimal) {rest : List Lexeme} → x.means ≡ integer v
      → FirstRest signed (make_number true v (span_to s x.span)) rest r → all ≡ x ∷ rest → MinusRest signed s all r

pub data ToMinusRest (n : Number) (s : Span) (all : List Lexeme) (r : Range) : Type 0 where
  to_minus_rest : (x : Lexeme) (v : Decimal) → x.means ≡ integer v → all ≡ x ∷ []
      → make_range n (Some (make_number true v (span_to s x.span))) ≡ r → ToMinusRest n s all r

pub data WholeRest (q : Range) (all : List Lexeme) (r : Range) : Type 0 where
  whole_rest : all ≡ [] → q ≡ r → WholeRest q all r

abbrev pub RangeRest : Bool → RangeState → List Lexeme → Range → Type 0
RangeRest signed ranges.Start ys r = IsRange signed ys r
RangeRest signed (ranges.Minus s) ys r = MinusRest signed s ys r
RangeRest signed (ranges.First n) ys r = FirstRest signed n ys r
RangeRest signed (ranges.To n) ys r = ToRest signed n ys r
RangeRest signed (ranges.ToMinus n s) ys r = ToMinusRest n s ys r
RangeRest signed (ranges.Whole q) ys r = WholeRest q ys r

abbrev pub RangeBack : Bool → RangeState → Lexeme → Result RangeState ProtoFault → Type 0
RangeBack signed s x (Ok t) = (ys : List Lexeme) (r : Range) → RangeRest signed t ys r → RangeRest signed s (x ∷ ys) r
RangeBack signed s x (Err e) = Unit {0}

from_first : (signed : Bool) (ns : List Lexeme) (n : Number) (rest : List Lexeme) (r : Range) → IsNumberToken signed ns n
    → FirstRest signed n rest r → IsRange signed (ns ++ rest) r
from_first signed ns n rest r h (first_ends e q) =
    subst (λ (r : Range). IsRange signed (ns ++ rest) r) q
    (subst (λ (l : List Lexeme). IsRange signed l (make_range n (Some n)))
    (sym (append-nil ns) ∙ ap (λ (l : List Lexeme). ns ++ l) (sym e)) (single h))
from_first signed ns n rest r h (first_goes_on x w (to_number k q) e) =
    subst (λ (r : Range). IsRange signed (ns ++ rest) r) q (between x h w k (ap (λ (l : List Lexeme). ns ++ l) e))
from_first signed ns n rest r h (first_goes_on x w (to_max y m a q) e) =
    subst (λ (r : Range). IsRange signed (ns ++ rest) r) q (up_from x y h w m (ap (λ (l : List Lexeme). ns ++ l) (e ∙ ap (λ (l : List Lexeme). x ∷ l) a)))

minus_first : (signed : Bool) (x : Lexeme) → signed ≡ true → IsPunctuator x minus → (ys : List Lexeme) (r : Range)
    → MinusRest signed x.span ys r → IsRange signed (x ∷ ys) r
minus_first signed x t m ys r (minus_rest y v {rest = rest} e f a) =
    subst (λ (l : List Lexeme). IsRange signed (x ∷ l) r) (sym a) (from_first signed (x ∷ y ∷ []) (make_number true v (span_to x.span y.span)) rest r (negative x y v t m e) f)

minus_to : (signed : Bool) (n : Number) (x : Lexeme) → signed ≡ true → IsPunctuator x minus → (ys : List Lexeme) (r : Range)
    → ToMinusRest n x.span ys r → ToRest signed n (x ∷ ys) r
minus_to signed n x t m ys r (to_minus_rest y v e a q) =
    to_number (subst (λ (l : List Lexeme). IsNumberToken signed (x ∷ l) (make_number true v (span_to x.span y.span))) (sym a) (negative x y v t m e)) q

max_to : (signed : Bool) (n : Number) (x : Lexeme) → IsWord x (codes "max") → (ys : List Lexeme) (r : Range)
    → WholeRest (make_range n None) ys r → ToRest signed n (x ∷ ys) r
max_to signed n x m ys r (whole_rest a q) = to_max x m (ap (λ (l : List Lexeme). x ∷ l) a) q

whole_to : (signed : Bool) (n : Number) (x : Lexeme) (v : Decimal) → x.means ≡ integer v
    → (ys : List Lexeme) (r : Range) → WholeRest (make_range n (Some (make_number false v x.span))) ys r
    → ToRest signed n (x ∷ ys) r
whole_to signed n x v e ys r (whole_rest a q) = to_number (subst (λ (l : List Lexeme). IsNumberToken signed (x ∷ l) (make_number false v x.span)) (sym a) (whole x v e)) q

whole_to_minus : (n : Number) (s : Span) (x : Lexeme) (v : Decimal) → x.means ≡ integer v
    → (ys : List Lexeme) (r : Range) → WholeRest (make_range n (Some (make_number true v (span_to s x.span)))) ys r
    → ToMinusRest n s (x ∷ ys) r
whole_to_minus n s x v e ys r (whole_rest a q) = to_minus_rest x v e (ap (λ (l : List Lexeme). x ∷ l) a) q

pub range_back : (signed : Bool) (s : RangeState) (x : Lexeme) → RangeBack signed s x (advance_range signed s x)
unfolding advance_range
range_back signed ranges.Start x =
    either_is (RangeBack signed ranges.Start x) (signed && is_punctuator x.means minus) (Ok (ranges.Minus x.span)) (if_number x (λ v. ranges.First (make_number false v x.span)))
    (λ h. let b : (signed ≡ true) × (is_punctuator x.means minus ≡ true) = and_both signed (is_punctuator x.means minus) h in minus_first signed x b.0 (mark_is x.means minus b.1))
    (λ h. numbered_is (RangeBack signed ranges.Start x) x (λ v. ranges.First (make_number false v x.span))
    (λ v e. λ ys r k. from_first signed (x ∷ []) (make_number false v x.span) ys r (whole x v e) k) tt)
range_back signed (ranges.Minus s) x =
    numbered_is (RangeBack signed (ranges.Minus s) x) x (λ v. ranges.First (make_number true v (span_to s x.span))) (λ v e. λ ys r k. minus_rest x v e k refl) tt
range_back signed (ranges.First n) x =
    either_is (RangeBack signed (ranges.First n) x) (is_the_word x.means (codes "to")) (Ok (ranges.To n)) (wrong x)
    (λ h. λ ys r k. first_goes_on x (word_is x.means (codes "to") h) k refl) (λ h. tt)
range_back signed (ranges.To n) x =
    either_is (RangeBack signed (ranges.To n) x) (signed && is_punctuator x.means minus) (Ok (ranges.ToMinus n x.span))
    (if is_the_word x.means (codes "max") then Ok (ranges.Whole (make_range n None)) else if_number x (λ v. ranges.Whole (make_range n (Some (make_number false v x.span)))))
    (λ h. let b : (signed ≡ true) × (is_punctuator x.means minus ≡ true) = and_both signed (is_punctuator x.means minus) h in minus_to signed n x b.0 (mark_is x.means minus b.1))
    (λ h. either_is (RangeBack signed (ranges.To n) x) (is_the_word x.means (codes "max"))
    (Ok (ranges.Whole (make_range n None)))
    (if_number x (λ v. ranges.Whole (make_range n (Some (make_number false v x.span)))))
    (λ k. max_to signed n x (word_is x.means (codes "max") k))
    (λ k. numbered_is (RangeBack signed (ranges.To n) x) x (λ v. ranges.Whole (make_range n (Some (make_number false v x.span)))) (λ v e. whole_to signed n x v e) tt))
range_back signed (ranges.ToMinus n s) x =
    numbered_is (RangeBack signed (ranges.ToMinus n s) x) x (λ v. ranges.Whole (make_range n (Some (make_number true v (span_to s x.span))))) (λ v e. whole_to_minus n s x v e) tt
range_back signed (ranges.Whole q) x = tt

-- ---- ranges or names

abbrev pub Kept : Type 0
Kept = List Range ⊎ List Word

-- after a range and earlier ones
pub data BehindRange (signed : Bool) (rs : List Range) (all : List Lexeme) (out : Kept) : Type 0 where
  ranges_end : (z : Lexeme) → IsPunctuator z semicolon → all ≡ z ∷ [] → inl rs ≡ out → BehindRange signed rs all out
  range_comma : (x z : Lexeme) {ys : List Lexeme} {more : List Range} → IsPunctuator x comma → AreRanges signed ys more
      → IsPunctuator z semicolon → all ≡ x ∷ ys ++ z ∷ [] → inl (rs ++ more) ≡ out → BehindRange signed rs all out

pub data RangesFrom (signed : Bool) (rs : List Range) (s : RangeState) (all : List Lexeme) (out : Kept) : Type 0 where
  ranges_from : (ys : List Lexeme) {rest : List Lexeme} (r : Range) → RangeRest signed s ys r
      → BehindRange signed (rs ++ r ∷ []) rest out → all ≡ ys ++ rest → RangesFrom signed rs s all out

pub data NameList (ws : List Word) (all : List Lexeme) (out : Kept) : Type 0 where
  name_list : (z : Lexeme) {ys : List Lexeme} {more : List Word} → AreNameStrings ys more → IsPunctuator z semicolon
      → all ≡ ys ++ z ∷ [] → inr (ws ++ more) ≡ out → NameList ws all out

pub data NameRest (ws : List Word) (all : List Lexeme) (out : Kept) : Type 0 where
  names_end : (z : Lexeme) → IsPunctuator z semicolon → all ≡ z ∷ [] → inr ws ≡ out → NameRest ws all out
  name_comma : (x : Lexeme) {rest : List Lexeme} → IsPunctuator x comma → NameList ws rest out → all ≡ x ∷ rest
      → NameRest ws all out

pub data RangeList (signed : Bool) (rs : List Range) (all : List Lexeme) (out : Kept) : Type 0 where
  range_list : (z : Lexeme) {ys : List Lexeme} {more : List Range} → AreRanges signed ys more → IsPunctuator z semicolon
      → all ≡ ys ++ z ∷ [] → inl (rs ++ more) ≡ out → RangeList signed rs all out

pub data KeptFrom (signed : Bool) (all : List Lexeme) (out : Kept) : Type 0 where
  some_ranges : RangeList signed [] all out → KeptFrom signed all out
  some_names : NameList [] all out → KeptFrom signed all out

abbrev pub PartKept : Bool → ReservedPart → List Lexeme → Kept → Type 0
PartKept signed parts.Start ys out = KeptFrom signed ys out
PartKept signed (parts.Ranges rs s) ys out = RangesFrom signed rs s ys out
PartKept signed (parts.Name ws) ys out = NameRest ws ys out
PartKept signed (parts.NextName ws) ys out = NameList ws ys out

abbrev pub ReservedRest : ReservedState → List Lexeme → Kept → Type 0
ReservedRest s ys out = PartKept s.signed s.part ys out

abbrev pub ReservedBack : Bool → ReservedPart → Lexeme → Result ReservedStep ProtoFault → Type 0
ReservedBack signed p x (Ok (steps.More t)) = (ys : List Lexeme) (out : Kept) → PartKept t.signed t.part ys out → PartKept signed p (x ∷ ys) out
ReservedBack signed p x (Ok (steps.Ranges rs)) = PartKept signed p (x ∷ []) (inl rs)
ReservedBack signed p x (Ok (steps.Names ws)) = PartKept signed p (x ∷ []) (inr ws)
ReservedBack signed p x (Err e) = Unit {0}

list_from : (signed : Bool) (rs : List Range) (all : List Lexeme) (out : Kept)
    → RangesFrom signed rs ranges.Start all out → RangeList signed rs all out
list_from signed rs all out (ranges_from ys r k (ranges_end z s e q) a) = range_list z (one_range k) s (a ∙ ap (λ (l : List Lexeme). ys ++ l) e) q
list_from signed rs all out (ranges_from ys r k (range_comma x z {ys = zs} {more = more} c m s e q) a) =
    range_list z (more_ranges x k c m refl) s (a ∙ (ap (λ (l : List Lexeme). ys ++ l) e ∙ sym (append_assoc ys (x ∷ zs) (z ∷ []))))
    (ap (λ (l : List Range). inl l) (sym (append_assoc rs (r ∷ []) more)) ∙ q)

whole_is : (signed : Bool) (s : RangeState) (r : Range) → whole_range s ≡ Some r → RangeRest signed s [] r
whole_is signed ranges.Start r e = absurd (let t : ◌≡◌ {A = Option Range} None (Some r) = e in cc)
whole_is signed (ranges.Minus s) r e = absurd (let t : ◌≡◌ {A = Option Range} None (Some r) = e in cc)
whole_is signed (ranges.First n) r e = first_ends refl (let t : ◌≡◌ {A = Option Range} (Some (make_range n (Some n))) (Some r) = e in cc)
whole_is signed (ranges.To n) r e = absurd (let t : ◌≡◌ {A = Option Range} None (Some r) = e in cc)
whole_is signed (ranges.ToMinus n s) r e = absurd (let t : ◌≡◌ {A = Option Range} None (Some r) = e in cc)
whole_is signed (ranges.Whole q) r e = whole_rest refl (let t : ◌≡◌ {A = Option Range} (Some q) (Some r) = e in cc)

of_range_back : (signed : Bool) (rs : List Range) (s : RangeState) (x : Lexeme) (r : Result RangeState ProtoFault)
    → RangeBack signed s x r → ReservedBack signed (parts.Ranges rs s) x (of_range signed rs r)
of_range_back signed rs s x (Ok t) b = λ ys out k. by ys out k
  where
    by : (ys : List Lexeme) (out : Kept) → RangesFrom signed rs t ys out → RangesFrom signed rs s (x ∷ ys) out
    by ys out (ranges_from us r k c a) = ranges_from (x ∷ us) r (b us r k) c (ap (λ (l : List Lexeme). x ∷ l) a)
of_range_back signed rs s x (Err e) b = tt

behind_back : (signed : Bool) (rs : List Range) (s : RangeState) (x : Lexeme) (o : Option Range) → whole_range s ≡ o
    → ReservedBack signed (parts.Ranges rs s) x (after_range signed rs s x o)
behind_back signed rs s x None e = of_range_back signed rs s x (advance_range signed s x) (range_back signed s x)
behind_back signed rs s x (Some r) e =
    either_is (ReservedBack signed (parts.Ranges rs s) x) (is_punctuator x.means comma) (more_reserved signed (parts.Ranges (rs ++ r ∷ []) ranges.Start))
    (if is_punctuator x.means semicolon then Ok (steps.Ranges (rs ++ r ∷ [])) else of_range signed rs (advance_range signed s x))
    (λ h. λ ys out k. by (mark_is x.means comma h) ys out (list_from signed (rs ++ r ∷ []) ys out k))
    (λ h. either_is (ReservedBack signed (parts.Ranges rs s) x) (is_punctuator x.means semicolon) (Ok (steps.Ranges (rs ++ r ∷ []))) (of_range signed rs (advance_range signed s x))
    (λ k. ranges_from [] r (whole_is signed s r e) (ranges_end x (mark_is x.means semicolon k) refl refl) refl)
    (λ k. of_range_back signed rs s x (advance_range signed s x) (range_back signed s x)))
  where
    by : IsPunctuator x comma → (ys : List Lexeme) (out : Kept) → RangeList signed (rs ++ r ∷ []) ys out
        → RangesFrom signed rs s (x ∷ ys) out
    by c ys out (range_list z m k a q) = ranges_from [] r (whole_is signed s r e) (range_comma x z c m k (ap (λ (l : List Lexeme). x ∷ l) a) q) refl

-- the first name, or a further one
next_name : (ws : List Word) (x : Lexeme) (v : List ℕ) → x.means ≡ string v → (ys : List Lexeme) (out : Kept)
    → NameRest (ws ++ make_word v x.span ∷ []) ys out → NameList ws (x ∷ ys) out
next_name ws x v e ys out (names_end z s a q) = name_list z (one_name x v e) s (ap (λ (l : List Lexeme). x ∷ l) a) q
next_name ws x v e ys out (name_comma y c (name_list z {more = more} m s a q) b) =
    name_list z (more_names x y v e c m) s (ap (λ (l : List Lexeme). x ∷ l) (b ∙ ap (λ (l : List Lexeme). y ∷ l) a))
    (ap (λ (l : List Word). inr l) (sym (append_assoc ws (make_word v x.span ∷ []) more)) ∙ q)

start_ranges : (signed : Bool) (x : Lexeme) (r : Result RangeState ProtoFault) → RangeBack signed ranges.Start x r
    → ReservedBack signed parts.Start x (of_range signed [] r)
start_ranges signed x (Ok t) b = λ ys out k. some_ranges (list_from signed [] (x ∷ ys) out (by ys out k))
  where
    by : (ys : List Lexeme) (out : Kept) → RangesFrom signed [] t ys out
        → RangesFrom signed [] ranges.Start (x ∷ ys) out
    by ys out (ranges_from us r k c a) = ranges_from (x ∷ us) r (b us r k) c (ap (λ (l : List Lexeme). x ∷ l) a)
start_ranges signed x (Err e) b = tt

pub part_back : (signed : Bool) (p : ReservedPart) (x : Lexeme)
    → ReservedBack signed p x (advance_reserved_part signed p x)
part_back signed parts.Start x =
    either_is (ReservedBack signed parts.Start x) (is_string x.means) (reserved_name signed [] x) (advance_ranges signed [] ranges.Start x)
    (λ h. string_is (ReservedBack signed parts.Start x) x
    (λ v. steps.More (record { signed = signed; part = parts.Name ([] ++ make_word v x.span ∷ []) }))
    (λ v e. λ ys out k. some_names (next_name [] x v e ys out k)) tt)
    (λ h. start_ranges signed x (advance_range signed ranges.Start x) (range_back signed ranges.Start x))
part_back signed (parts.Ranges rs s) x = behind_back signed rs s x (whole_range s) refl
part_back signed (parts.Name ws) x =
    either_is (ReservedBack signed (parts.Name ws) x) (is_punctuator x.means semicolon) (Ok (steps.Names ws)) (if is_punctuator x.means comma then more_reserved signed (parts.NextName ws) else wrong x)
    (λ h. names_end x (mark_is x.means semicolon h) refl refl)
    (λ h. either_is (ReservedBack signed (parts.Name ws) x) (is_punctuator x.means comma)
    (more_reserved signed (parts.NextName ws)) (wrong x)
    (λ k. λ ys out r. name_comma x (mark_is x.means comma k) r refl) (λ k. tt))
part_back signed (parts.NextName ws) x =
    string_is (ReservedBack signed (parts.NextName ws) x) x
    (λ v. steps.More (record { signed = signed; part = parts.Name (ws ++ make_word v x.span ∷ []) }))
    (λ v e. λ ys out k. next_name ws x v e ys out k) tt
