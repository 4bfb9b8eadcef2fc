-- The first fault by the definition is the first one by the tests.
use Rattle.std.proofs.Common.{◌≡◌, ◌≢◌, ℕ, zero, suc, ◌+◌, ◌-◌, ◌<◌, ◌≤◌, ◌==◌, ◌||◌, not, Bool, true, false, cond}
use Rattle.std.proofs.Common.{List, [], ◌∷◌, ◌++◌, length, take, drop, Option, Some, None, refl, ap, sym, subst, ◌∙◌}
use Rattle.std.proofs.Common.{arith, inl, inr}
use Rattle.std.specs.Prelude.{slice_get, nat_lt}
use Rattle.std.specs.List.{Contains}
use Rattle.std.proofs.lemmas.Bool.{cases_lt, eq-eqb, lt-ltb}
use Rattle.std.proofs.lemmas.List.{take_all}
use Rattle.std.proofs.lemmas.Option.{slice_get_within}
use Rattle.mrpc_table.specs.Lines.{whole_lines, remainder_of}
use Rattle.table_text.specs.Faults.{IsFirstTableFault, IsTableFaultOf, HasReasonAt, at_line, too_long, at_end, IsFaultyEnd, unended, last_without_value, last_without_zero, no_form, order_of_reason, bytes_of_lines}
use Rattle.table_text.specs.Forms.{TableLineForm, enum, value, message, field, method, HasLineForm, HaveLineForms}
use Rattle.table_text.specs.LineTests.{TypeNames, NamesBefore, IsFirstFaultFound, IsFaultFound, names_after, names_after_line, names_in_lines, types_of}
use Rattle.table_text.specs.LineTests.{line_fault, end_fault, fault_at_line, lacks_value, lacks_zero, is_empty}
use Rattle.table_text.specs.LineTests.{has_short_names, has_one_too_many}
use Rattle.table_text.specs.Lines.{line_of}
use Rattle.table_text.specs.declared.fault.TableReason.{TableReason}
use Rattle.table_text.specs.declared.fault.TableReason.TheVariants.{Syntax, Number, Duplicate, UnknownType, MapKey, Limit}
use Rattle.table_text.specs.declared.fault.TableFault.{TableFault}
use Rattle.table_text.specs.declared.fault.TableFault.TheVariants as fault
use Rattle.table_text.specs.declared.line.TableLine.{TableLine}
use Rattle.table_text.proofs.Accepts.{some_line}
use Rattle.table_text.proofs.Clean.{is_clean}
use Rattle.table_text.proofs.FirstFaults.{no_fault_past}
use Rattle.table_text.proofs.FormAgainst.{AtMost, at_limit, stands_found, not_empty, syntax_least}
use Rattle.table_text.proofs.FormLines.{kept, says_line, line_said}
use Rattle.table_text.proofs.FormParts.{Fits, IsFormed, fits_step}
use Rattle.table_text.proofs.FormPlaces.{either_true, left_true, right_true}
use Rattle.table_text.proofs.FormReasons.{found_stands, some_in}
use Rattle.table_text.proofs.FormTests.{lacks_value_said, lacks_zero_said, said_lacks_value, said_lacks_zero}
use Rattle.table_text.proofs.LineLemmas.{here_is, take_drop, get_drop, get_end, fold_push, bytes_push}
use Rattle.table_text.proofs.OrderLemmas.{contains_nothing, contains_first}
use Rattle.table_text.proofs.ParseLemmas.{unsome}
use Rattle.table_text.proofs.SpellLemmas.{chosen}

-- ---- the forms of lines, one by one

record ZipEnds (line : List ℕ) (lines : List (List ℕ)) (fs : List TableLineForm) : Type 0 where
  front : List TableLineForm
  last : TableLineForm
  is : fs ≡ front ++ last ∷ []
  before : HaveLineForms lines front
  says : HasLineForm line last

zip_ends : (lines : List (List ℕ)) (line : List ℕ) (fs : List TableLineForm) → HaveLineForms (lines ++ line ∷ []) fs → ZipEnds line lines fs
zip_ends [] line [] h = absurd h
zip_ends [] line (f ∷ []) h = record { front = []; last = f; is = refl; before = tt; says = h.0 }
zip_ends [] line (f ∷ g ∷ fs) h = absurd h.1
zip_ends (l ∷ ls) line [] h = absurd h
zip_ends (l ∷ ls) line (f ∷ fs) h =
    let r = zip_ends ls line fs h.1 in
    record { front = f ∷ r.front; last = r.last; is = ap (λ (gs : List TableLineForm). f ∷ gs) r.is; before = (h.0, r.before); says = r.says }

zip_push : (lines : List (List ℕ)) (line : List ℕ) (fs : List TableLineForm) (f : TableLineForm) → HaveLineForms lines fs → HasLineForm line f → HaveLineForms (lines ++ line ∷ []) (fs ++ f ∷ [])
zip_push [] line [] f h says = (says, tt)
zip_push [] line (g ∷ gs) f h says = absurd h
zip_push (l ∷ ls) line [] f h says = absurd h
zip_push (l ∷ ls) line (g ∷ gs) f h says = (h.0, zip_push ls line gs f h.1 says)

formed_says : (line : List ℕ) (f : TableLineForm) → HasLineForm line f → IsFormed f
formed_says line (enum n) h = tt
formed_says line (value z n) h = tt
formed_says line (message n) h = tt
formed_says line (field i l k m) h = tt
formed_says line (method i s n x y) h = (h.3, h.4)

-- ---- the lines before a line, none of which is at fault

abbrev pub IsCleanTo : List ℕ → ℕ → Type 0
IsCleanTo text k = (i : ℕ) → i < k → fault_at_line text i ≡ None

less_clean : (text : List ℕ) (k : ℕ) → IsCleanTo text (suc k) → IsCleanTo text k
less_clean text k clean = λ i less. clean i (omega (arith, less))

here_clean : (text : List ℕ) (k : ℕ) (l : List ℕ) (more : List (List ℕ)) → IsCleanTo text (suc k) → drop k (whole_lines text) ≡ l ∷ more
    → line_fault (types_of (whole_lines text)) (names_in_lines (take k (whole_lines text))) (bytes_of_lines (take k (whole_lines text)) + length l + 1) (line_of l) ≡ None
here_clean text k l more clean e = sym (here_is (whole_lines text) (remainder_of text) k l more e) ∙ clean k (omega arith)

fits_to : (text : List ℕ) (k : ℕ) → k ≤ length (whole_lines text) → IsCleanTo text k → (fs : List TableLineForm)
    → HaveLineForms (take k (whole_lines text)) fs → Fits fs (names_in_lines (take k (whole_lines text)))
fits_to text zero within clean [] said = record {
  enums = refl;
  messages = refl;
  methods = refl;
  few = omega arith;
  part = inl refl;
  ordered = λ none. refl;
  formed = λ f c. absurd (contains_nothing f c);
}
fits_to text zero within clean (f ∷ fs) said = absurd said
fits_to text (suc k) within clean fs said =
    let ls = whole_lines text in
    let t = types_of ls in
    let at = some_line text k (omega arith) in
    let l = at.0 in
    let whole : take (suc k) ls ≡ take k ls ++ l ∷ [] = take_drop ls k l at.1 at.2 in
    let z = zip_ends (take k ls) l fs (subst (λ (xs : List (List ℕ)). HaveLineForms xs fs) whole said) in
    let b = names_in_lines (take k ls) in
    let fits = fits_to text k (omega arith) (less_clean text k clean) z.front z.before in
    let read : line_of l ≡ Some (kept z.last) = says_line l z.last z.says in
    let bytes = bytes_of_lines (take k ls) + length l + 1 in
    let none : line_fault t b bytes (Some (kept z.last)) ≡ None = ap (line_fault t b bytes) (sym read) ∙ here_clean text k l at.1 clean at.2 in
    let next = fits_step t z.front b bytes z.last (formed_says l z.last z.says) fits (is_clean t b bytes (kept z.last) none) in
    let pushed : names_in_lines (take (suc k) ls) ≡ names_after b (kept z.last) =
    ap names_in_lines whole ∙ fold_push (λ b line. names_after_line b (line_of line)) (names_in_lines []) (take k ls) l ∙ ap (names_after_line b) read in
    subst (Fits fs) (sym pushed) (subst (λ (gs : List TableLineForm). Fits gs (names_after b (kept z.last))) (sym z.is) next)

record SaidTo (lines : List (List ℕ)) : Type 0 where
  forms : List TableLineForm
  said : HaveLineForms lines forms

said_to : (text : List ℕ) (k : ℕ) → k ≤ length (whole_lines text) → IsCleanTo text k → SaidTo (take k (whole_lines text))
said_to text zero within clean = record { forms = []; said = tt }
said_to text (suc k) within clean =
    let ls = whole_lines text in
    let at = some_line text k (omega arith) in
    let whole : take (suc k) ls ≡ take k ls ++ at.0 ∷ [] = take_drop ls k at.0 at.1 at.2 in
    let before = said_to text k (omega arith) (less_clean text k clean) in
    let none = here_clean text k at.0 at.1 clean at.2 in
    subst SaidTo (sym whole) (push (take k ls) at.0 before (types_of ls) (names_in_lines (take k ls)) (bytes_of_lines (take k ls) + length at.0 + 1) (line_of at.0) refl none)
  where
    push : (lines : List (List ℕ)) (line : List ℕ) → SaidTo lines
        → (t : TypeNames) (b : NamesBefore) (bytes : ℕ) (o : Option TableLine) → line_of line ≡ o → line_fault t b bytes o ≡ None
        → SaidTo (lines ++ line ∷ [])
    push lines line before t b bytes None e none = absurd cc
    push lines line before t b bytes (Some l) e none =
        let said = line_said line l e in
        record { forms = before.forms ++ said.form ∷ []; said = zip_push lines line before.forms said.form before.said said.words }

-- ---- a reason that the tests find is one by the definition

bytes_to : (ls : List (List ℕ)) (k : ℕ) (l : List ℕ) (more : List (List ℕ)) → drop k ls ≡ l ∷ more → bytes_of_lines (take (k + 1) ls) ≡ bytes_of_lines (take k ls) + length l + 1
bytes_to ls k l more e =
    let next : k + 1 ≡ suc k = omega arith in
    ap (λ (n : ℕ). bytes_of_lines (take n ls)) next ∙ ap bytes_of_lines (take_drop ls k l more e) ∙ bytes_push (take k ls) l

line_stands : (text : List ℕ) (k : ℕ) (l : List ℕ) (more : List (List ℕ)) (q : TableReason)
    → k ≤ length (whole_lines text) → IsCleanTo text k → drop k (whole_lines text) ≡ l ∷ more → (o : Option TableLine)
    → line_of l ≡ o
    → line_fault (types_of (whole_lines text)) (names_in_lines (take k (whole_lines text))) (bytes_of_lines (take k (whole_lines text)) + length l + 1) o ≡ Some q → HasReasonAt text k q
line_stands text k l more q within clean at None read e =
    let ls = whole_lines text in
    let said = said_to text k within clean in
    let formless : (f : TableLineForm) → HasLineForm l f → ⊥ = λ f says. let clash : None ≡ Some (kept f) = sym read ∙ says_line l f says in absurd cc in
    at_line l said.forms (get_drop ls k l more at) said.said (no_form formless (sym (unsome e)))
line_stands text k l more q within clean at (Some form) read e =
    let ls = whole_lines text in
    let t = types_of ls in
    let b = names_in_lines (take k ls) in
    let bytes = bytes_of_lines (take k ls) + length l + 1 in
    let said = said_to text k within clean in
    let fits = fits_to text k within clean said.forms said.said in
    let f = line_said l form read in
    let given : line_fault t b bytes (Some (kept f.form)) ≡ Some q = ap (λ (x : TableLine). line_fault t b bytes (Some x)) f.is ∙ e in
    elim (found_stands ls said.forms b bytes l f.form q fits f.words given) [
      | inl stands ↦ at_line l said.forms (get_drop ls k l more at) said.said stands
      | inr long ↦ too_long l (get_drop ls k l more at) (omega (arith, long.0, bytes_to ls k l more at)) long.1
    ]

end_here : (text : List ℕ) → fault_at_line text (length (whole_lines text)) ≡ end_fault (names_in_lines (whole_lines text)) (remainder_of text)
end_here text =
    let ls = whole_lines text in
    let all : (length ls == length ls) ≡ true = eq-eqb (length ls) (length ls) refl in
    let none : slice_get ls (length ls) ≡ None = get_end ls (length ls) (omega arith) in
    rw (none, all) refl

all_taken : (text : List ℕ) → take (length (whole_lines text)) (whole_lines text) ≡ whole_lines text
all_taken text = take_all (length (whole_lines text)) (whole_lines text) (omega arith)

end_stands : (text : List ℕ) (q : TableReason) → IsCleanTo text (length (whole_lines text))
    → fault_at_line text (length (whole_lines text)) ≡ Some q → HasReasonAt text (length (whole_lines text)) q
end_stands text q clean e =
    let ls = whole_lines text in
    let b = names_in_lines ls in
    let said = said_to text (length ls) (omega arith) clean in
    let fits = subst (λ (xs : List (List ℕ)). Fits said.forms (names_in_lines xs)) (all_taken text) (fits_to text (length ls) (omega arith) clean said.forms said.said) in
    let all : HaveLineForms ls said.forms = subst (λ (xs : List (List ℕ)). HaveLineForms xs said.forms) (all_taken text) said.said in
    let given : end_fault b (remainder_of text) ≡ Some q = sym (end_here text) ∙ e in
    at_end said.forms refl all (elim (chosen (not (is_empty (remainder_of text)) || lacks_value b.open_part) (Some Syntax) (cond (lacks_zero b.open_part) (Some Number) None) (Some q) given) [
      | inl syntax ↦ elim (either_true (not (is_empty (remainder_of text))) (lacks_value b.open_part) syntax.0) [
        | inl some ↦
            let x = some_in (remainder_of text) some in
            unended (λ none. contains_nothing x.0 (subst (λ (xs : List ℕ). Contains xs x.0) none x.1)) (sym (unsome syntax.1))
        | inr lacks ↦ last_without_value (lacks_value_said said.forms b.open_part fits.part lacks.1) (sym (unsome syntax.1))
      ]
      | inr later ↦ elim (chosen (lacks_zero b.open_part) (Some Number) None (Some q) later) [
        | inl zero_less ↦ last_without_zero (lacks_zero_said said.forms b.open_part fits.part zero_less.0) (sym (unsome zero_less.1))
        | inr none ↦ absurd cc
      ]
    ])

pub found_against : (text : List ℕ) (k : ℕ) (q : TableReason) → IsCleanTo text k → fault_at_line text k ≡ Some q → HasReasonAt text k q
found_against text k q clean e =
    let ls = whole_lines text in
    elim (cases_lt k (length ls)) [
      | inl inside ↦
          let at = some_line text k inside in
          line_stands text k at.0 at.1 q (omega arith) clean at.2 (line_of at.0) refl (sym (here_is ls (remainder_of text) k at.0 at.1 at.2) ∙ e)
      | inr from ↦ elim (cases_lt (length ls) k) [
        | inl past ↦ let none : fault_at_line text k ≡ None = no_fault_past ls (remainder_of text) k (omega arith) in let clash : None ≡ Some q = sym none ∙ e in absurd cc
        | inr to ↦
            let same : length ls ≡ k = omega arith in
            subst (λ (n : ℕ). HasReasonAt text n q) same (end_stands text q (subst (IsCleanTo text) (sym same) clean) (ap (fault_at_line text) same ∙ e))
      ]
    ]

-- ---- if there is a reason by the definition, the tests find one

line_found : (text : List ℕ) (k : ℕ) (l : List ℕ) (q : TableReason) → slice_get (whole_lines text) k ≡ Some l
    → AtMost (line_fault (types_of (whole_lines text)) (names_in_lines (take k (whole_lines text)))
    (bytes_of_lines (take k (whole_lines text)) + length l + 1) (line_of l)) q → AtMost (fault_at_line text k) q
line_found text k l q get h =
    let ls = whole_lines text in
    let at = some_line text k (slice_get_within ls k l get) in
    let same : at.0 ≡ l = unsome (sym (get_drop ls k at.0 at.1 at.2) ∙ get) in
    subst (λ (o : Option TableReason). AtMost o q) (sym (here_is ls (remainder_of text) k l at.1 (at.2 ∙ ap (λ (x : List ℕ). x ∷ at.1) same))) h

long_found : (t : TypeNames) (b : NamesBefore) (bytes : ℕ) (o : Option TableLine) → 65536 < bytes → AtMost (line_fault t b bytes o) Limit
long_found t b bytes None long = record { reason = Syntax; is = refl; le = omega arith }
long_found t b bytes (Some l) long = at_limit t b bytes l (right_true (not (has_short_names l) || has_one_too_many b l) (nat_lt 65536 bytes) (lt-ltb 65536 bytes long))

some_rest : (rest : List ℕ) → rest ≢ [] → not (is_empty rest) ≡ true
some_rest [] some = absurd (some refl)
some_rest (c ∷ cs) some = not_empty (c ∷ cs) c (contains_first c cs)

end_found : (fs : List TableLineForm) (b : NamesBefore) (rest : List ℕ) (q : TableReason) → Fits fs b → IsFaultyEnd fs rest q → AtMost (end_fault b rest) q
end_found fs b rest q s (unended some e) =
    let test : (not (is_empty rest) || lacks_value b.open_part) ≡ true = left_true (not (is_empty rest)) (lacks_value b.open_part) (some_rest rest some) in
    record { reason = Syntax; is = rw test refl; le = syntax_least q }
end_found fs b rest q s (last_without_value lacks e) =
    let test : (not (is_empty rest) || lacks_value b.open_part) ≡ true = right_true (not (is_empty rest)) (lacks_value b.open_part) (said_lacks_value fs b.open_part s.part lacks) in
    record { reason = Syntax; is = rw test refl; le = syntax_least q }
end_found fs b rest q s (last_without_zero lacks e) =
    let test : lacks_zero b.open_part ≡ true = said_lacks_zero fs b.open_part s.part lacks in
    subst (λ (r : TableReason). AtMost (end_fault b rest) r) (sym e) (go (not (is_empty rest) || lacks_value b.open_part) (lacks_zero b.open_part) test)
  where
    go : (a z : Bool) → z ≡ true → AtMost (cond a (Some Syntax) (cond z (Some Number) None)) Number
    go true z is = record { reason = Syntax; is = refl; le = omega arith }
    go false true is = record { reason = Number; is = refl; le = omega arith }
    go false false is = absurd cc

pub against_found : (text : List ℕ) (k : ℕ) (q : TableReason) → IsCleanTo text k → HasReasonAt text k q → AtMost (fault_at_line text k) q
against_found text k q clean (at_line l fs get said stands) =
    let ls = whole_lines text in
    let within : k < length ls = slice_get_within ls k l get in
    line_found text k l q get (stands_found ls fs (names_in_lines (take k ls)) (bytes_of_lines (take k ls) + length l + 1) l q (fits_to text k (omega arith) clean fs said) stands)
against_found text k q clean (too_long l get long is) =
    let ls = whole_lines text in
    let at = some_line text k (slice_get_within ls k l get) in
    let same : at.0 ≡ l = unsome (sym (get_drop ls k at.0 at.1 at.2) ∙ get) in
    let bytes = bytes_to ls k l at.1 (at.2 ∙ ap (λ (x : List ℕ). x ∷ at.1) same) in
    subst (λ (r : TableReason). AtMost (fault_at_line text k) r) (sym is)
    (line_found text k l Limit get (long_found (types_of ls) (names_in_lines (take k ls)) (bytes_of_lines (take k ls) + length l + 1) (line_of l) (omega (arith, long, bytes))))
against_found text k q clean (at_end fs is said stands) =
    let ls = whole_lines text in
    let here = subst (IsCleanTo text) is clean in
    let taken : HaveLineForms (take (length ls) ls) fs = subst (λ (xs : List (List ℕ)). HaveLineForms xs fs) (sym (all_taken text)) said in
    let fits = subst (λ (xs : List (List ℕ)). Fits fs (names_in_lines xs)) (all_taken text) (fits_to text (length ls) (omega arith) here fs taken) in
    let h = end_found fs (names_in_lines ls) (remainder_of text) q fits stands in
    subst (λ (n : ℕ). AtMost (fault_at_line text n) q) (sym is) (subst (λ (o : Option TableReason). AtMost o q) (sym (end_here text)) h)

-- ---- both agree

reason_at : ℕ → TableReason
reason_at n = cond (n == 1) Syntax (cond (n == 2) Number (cond (n == 3) Duplicate (cond (n == 4) UnknownType (cond (n == 5) MapKey Limit))))

at_order : (q : TableReason) → reason_at (order_of_reason q) ≡ q
unfolding reason_at
at_order Syntax = refl
at_order Number = refl
at_order Duplicate = refl
at_order UnknownType = refl
at_order MapKey = refl
at_order Limit = refl

same_order : (p q : TableReason) → order_of_reason p ≡ order_of_reason q → p ≡ q
same_order p q e = sym (at_order p) ∙ ap reason_at e ∙ at_order q

-- without a reason by the definition, the tests find none
none_found : (text : List ℕ) (n : ℕ) → ((i : ℕ) (q : TableReason) → i < n → HasReasonAt text i q → ⊥) → IsCleanTo text n
none_found text zero none = λ i less. absurd (omega (arith, less))
none_found text (suc n) none =
    let before = none_found text n (λ i q less. none i q (omega (arith, less))) in
    λ i less. elim (cases_lt i n) [
      | inl front ↦ before i front
      | inr from ↦ let same : n ≡ i = omega (arith, less, from) in
          subst (λ (k : ℕ). fault_at_line text k ≡ None) same
          (here text n before (λ q. none n q (omega arith)) (fault_at_line text n) refl)
    ]
  where
    here : (text : List ℕ) (n : ℕ) → IsCleanTo text n → ((q : TableReason) → HasReasonAt text n q → ⊥)
        → (o : Option TableReason) → fault_at_line text n ≡ o → fault_at_line text n ≡ None
    here text n clean none None e = e
    here text n clean none (Some q) e = absurd (none q (found_against text n q clean e))

clean_before : (text : List ℕ) (line : ℕ) → ((i : ℕ) → i + 1 < line → fault_at_line text i ≡ None) → IsCleanTo text (line - 1)
clean_before text line none = λ i less. none i (omega (arith, less))

pub judged_first : (text : List ℕ) (line : ℕ) (q : TableReason) → IsFirstTableFault text line q → IsFirstFaultFound text line q
judged_first text line q h =
    let clean = none_found text (line - 1) (λ i p less. h.none_before i p (omega (arith, less))) in
    let found = against_found text (line - 1) q clean h.here in
    let stands = found_against text (line - 1) found.reason clean found.is in
    let least : order_of_reason q ≤ order_of_reason found.reason =
    elim (cases_lt (order_of_reason found.reason) (order_of_reason q))
    [ inl less ↦ absurd (h.first_reason found.reason less stands) | inr more ↦ more ] in
    let same : found.reason ≡ q = same_order found.reason q (omega (arith, least, found.le)) in
    record {
      counted = h.counted;
      here = found.is ∙ ap Some same;
      none_before = λ i less. clean i (omega (arith, less));
    }

pub first_judged : (text : List ℕ) (line : ℕ) (q : TableReason) → IsFirstFaultFound text line q → IsFirstTableFault text line q
first_judged text line q h =
    let clean = clean_before text line h.none_before in
    record {
      counted = h.counted;
      here = found_against text (line - 1) q clean h.here;
      first_reason = λ other less against.
          let found = against_found text (line - 1) other clean against in
          let same : q ≡ found.reason = unsome (sym h.here ∙ found.is) in
          let least : order_of_reason q ≤ order_of_reason other = subst (λ (r : TableReason). order_of_reason r ≤ order_of_reason other) (sym same) found.le in
          omega (arith, less, least);
      none_before = λ i other less against.
          let found = against_found text i other (λ j before. h.none_before j (omega (arith, before, less))) against in
          let clash : None ≡ Some found.reason = sym (h.none_before i less) ∙ found.is in absurd cc;
    }

pub first_of_judged : (text : List ℕ) (e : TableFault) → IsFaultFound text e → IsTableFaultOf text e
first_of_judged text (fault.At line q) h = first_judged text line q h
first_of_judged text fault.Memory h = tt
