-- The lines before an index, and one more; texts and first faults.
use Rattle.std.proofs.Common.{◌≡◌, ℕ, zero, suc, ◌+◌, ◌-◌, ◌<◌, ◌≤◌, ◌==◌, ◌⊎◌, List, [], ◌∷◌, ◌++◌, length, get_or}
use Rattle.std.proofs.Common.{take, drop, Option, Some, Result, Ok, Err, refl, sym, ap, subst, ◌∙◌, arith, inl, inr}
use Rattle.std.proofs.Common.{add-one}
use Rattle.std.specs.Prelude.{slice_get, if◌then◌else◌, IfOk, IfErr, MatchResult}
use Rattle.std.proofs.lemmas.List.{take_more, take_all}
use Rattle.std.proofs.lemmas.Option.{slice_get_within, slice_get_read, get_or_from_slice_get}
use Rattle.std.proofs.lemmas.Bool.{cases_lt}
use Rattle.mrpc_table.specs.declared.table.Table.{Table}
use Rattle.mrpc_table.specs.PolicyLines.{rule_reason_rank}
use Rattle.mrpc_table.specs.declared.policy_lines.RuleFault.{RuleFault}
use Rattle.mrpc_table.specs.declared.policy_lines.RuleFault.TheVariants as fault
use Rattle.mrpc_table.specs.declared.policy_lines.RuleReason.{RuleReason}
use Rattle.mrpc_table.specs.declared.policy_lines.RuleReason.TheVariants as reason
use Rattle.policy_redact.specs.Faults.{IsAgainstAt, at_line, too_many, no_line, IsFirstFault, IsFaultOf}
use Rattle.policy_redact.specs.Lines.{clear_line_of}
use Rattle.policy_redact.specs.Reading.{AreRead}
use Rattle.policy_redact.specs.LineContent.{judged_clear}
use Rattle.mrpc_table.specs.PolicyLines.{AreParsed}
use Rattle.policy_redact.specs.Texts.{clear_of_line, IsTextOf}
use Rattle.policy_redact.specs.declared.redact.Clear.{Clear}
use Rattle.policy_redact.proofs.Judging.{says, is_said, answers, against}

-- ---- clears of lines

said-push : (T : Table) (lines : List (List ℕ)) (clears : List Clear) (line : List ℕ) (clear : Clear) → AreParsed (clear_of_line T) lines clears → clear_of_line T line ≡ Some clear
    → AreParsed (clear_of_line T) (lines ++ line ∷ []) (clears ++ clear ∷ [])
said-push T [] [] line clear each said = (said, tt)
said-push T [] (c ∷ cs) line clear each said = absurd each
said-push T (l ∷ ls) [] line clear each said = absurd each
said-push T (l ∷ ls) (c ∷ cs) line clear each said = (each.0, said-push T ls cs line clear each.1 said)

length-said : (T : Table) (lines : List (List ℕ)) (clears : List Clear) → AreParsed (clear_of_line T) lines clears → length clears ≡ length lines
length-said T [] [] each = refl
length-said T [] (c ∷ cs) each = absurd each
length-said T (l ∷ ls) [] each = absurd each
length-said T (l ∷ ls) (c ∷ cs) each = ap suc (length-said T ls cs each.1)

some_same : (o : Option Clear) (a b : Clear) → o ≡ Some a → o ≡ Some b → a ≡ b
some_same o a b e d = cc

said-same : (T : Table) (lines : List (List ℕ)) (p q : List Clear) → AreParsed (clear_of_line T) lines p → AreParsed (clear_of_line T) lines q → p ≡ q
said-same T [] [] [] a b = refl
said-same T [] [] (d ∷ ds) a b = absurd b
said-same T [] (c ∷ cs) q a b = absurd a
said-same T (l ∷ ls) [] q a b = absurd a
said-same T (l ∷ ls) (c ∷ cs) [] a b = absurd b
said-same T (l ∷ ls) (c ∷ cs) (d ∷ ds) a b =
    ap (λ (e : Clear). e ∷ cs) (some_same (clear_of_line T l) c d a.0 b.0) ∙ ap (λ (es : List Clear). d ∷ es) (said-same T ls cs ds a.1 b.1)

said-at : (T : Table) (lines : List (List ℕ)) (clears : List Clear) (i : ℕ) (line : List ℕ)
    → AreParsed (clear_of_line T) lines clears → slice_get lines i ≡ Some line
    → (clear : Clear) × (clear_of_line T line ≡ Some clear)
said-at T [] clears i line each at = absurd cc
said-at T (l ∷ ls) [] i line each at = absurd each
said-at T (l ∷ ls) (c ∷ cs) zero line each at = let same : l ≡ line = cc in (c, subst (λ (k : List ℕ). clear_of_line T k ≡ Some c) same each.0)
said-at T (l ∷ ls) (c ∷ cs) (suc i) line each at = said-at T ls cs i line each.1 at

pub one-policy : (T : Table) (lines : List (List ℕ)) (p q : List Clear) → IsTextOf T lines p → IsTextOf T lines q → p ≡ q
one-policy T lines p q t u = said-same T lines p q t.each u.each

-- ---- the reasons against the line at an index

same_line : (o : Option (List ℕ)) (a b : List ℕ) → o ≡ Some a → o ≡ Some b → a ≡ b
same_line o a b e d = cc

-- for the first 64 lines the reason depends on the line alone
here-to : (T : Table) (lines : List (List ℕ)) (i : ℕ) (line : List ℕ) (q : RuleReason) → i < 64
    → slice_get lines i ≡ Some line → IsAgainstAt T lines i q → judged_clear T (clear_line_of line) ≡ Err q
here-to T lines i line q few at (at_line other e a) =
    let same = same_line (slice_get lines i) other line e at in subst (λ (l : List ℕ). judged_clear T (clear_line_of l) ≡ Err q) same (answers T other q a)
here-to T lines i line q few at (too_many within many is) = absurd (omega arith)
here-to T lines i line q few at (no_line none z is) = absurd (omega (arith, slice_get_within lines i line at, ap (λ (ls : List (List ℕ)). length ls) none))

one_answer : (r : Result Clear RuleReason) (q p : RuleReason) → r ≡ Err q → r ≡ Err p → q ≡ p
one_answer r q p e d = cc

not_both : (r : Result Clear RuleReason) (c : Clear) (q : RuleReason) → r ≡ Ok c → r ≡ Err q → ⊥
not_both r c q e d = cc

-- ---- one more line

below_or_at : (i : ℕ) (P : ℕ → Type 0) → ((j : ℕ) → j < i → P j) → P i → (j : ℕ) → j < i + 1 → P j
below_or_at i P below here j lt = elim (cases_lt j i) [ inl less ↦ below j less | inr more ↦ let same : i ≡ j = omega arith in subst P same here ]

take_next : (lines : List (List ℕ)) (i : ℕ) (line : List ℕ) → slice_get lines i ≡ Some line → take (i + 1) lines ≡ take i lines ++ line ∷ []
take_next lines i line at =
    take_more lines i line (slice_get_within lines i line at) ∙ ap (λ (l : List ℕ). take i lines ++ l ∷ []) (get_or_from_slice_get lines i line line at)

pub read-push : (T : Table) (lines : List (List ℕ)) (i : ℕ) (clears : List Clear) (line : List ℕ) (clear : Clear)
    → AreRead T lines i clears → i < 64 → slice_get lines i ≡ Some line
    → judged_clear T (clear_line_of line) ≡ Ok clear → AreRead T lines (i + 1) (clears ++ clear ∷ [])
read-push T lines i clears line clear read few at e = record {
  some = read.some;
  within = omega (arith, slice_get_within lines i line at);
  few = omega arith;
  said = subst (λ (ls : List (List ℕ)). AreParsed (clear_of_line T) ls (clears ++ clear ∷ []))
      (sym (take_next lines i line at))
      (said-push T (take i lines) clears line clear read.said (says T line clear e));
  clean = λ j q lt. below_or_at i (λ k. IsAgainstAt T lines k q → ⊥) (λ k less. read.clean k q less)
      (λ a. not_both (judged_clear T (clear_line_of line)) clear q e (here-to T lines i line q few at a)) j lt;
}

pub read-nothing : (T : Table) (lines : List (List ℕ)) → 0 < length lines → AreRead T lines 0 []
read-nothing T lines some = record {
  some = some;
  within = omega arith;
  few = omega arith;
  said = tt;
  clean = λ j q lt a. omega arith;
}

-- ---- the first fault, and the end

order_same : (p q : RuleReason) → rule_reason_rank p < rule_reason_rank q → q ≡ p → ⊥
order_same p q lt same = omega (arith, ap rule_reason_rank same)

pub fault-here : (T : Table) (lines : List (List ℕ)) (i : ℕ) (clears : List Clear) (line : List ℕ) (q : RuleReason)
    → AreRead T lines i clears → i < 64 → slice_get lines i ≡ Some line
    → judged_clear T (clear_line_of line) ≡ Err q → IsFirstFault T lines (i + 1) q
fault-here T lines i clears line q read few at e =
    let same : i ≡ i + 1 - 1 = omega arith in
    record {
      counted = omega arith;
      here = subst (λ (k : ℕ). IsAgainstAt T lines k q) same (at_line line at (against T line q e));
      first_reason = λ p lt a.
          order_same p q lt (one_answer (judged_clear T (clear_line_of line)) q p e (here-to T lines i line p few at (subst (λ (k : ℕ). IsAgainstAt T lines k p) (sym same) a)));
      none_before = λ j p lt. read.clean j p (omega arith);
    }

pub fault-many : (T : Table) (lines : List (List ℕ)) (i : ℕ) (clears : List Clear) → AreRead T lines i clears → 64 ≤ i
    → i < length lines → IsFirstFault T lines (i + 1) reason.Word
fault-many T lines i clears read many within =
    let same : i ≡ i + 1 - 1 = omega arith in
    record {
      counted = omega arith;
      here = subst (λ (k : ℕ). IsAgainstAt T lines k reason.Word) same (too_many within many refl);
      first_reason = λ p lt a. omega arith;
      none_before = λ j p lt. read.clean j p (omega arith);
    }

pub fault-empty : (T : Table) (lines : List (List ℕ)) → lines ≡ [] → IsFirstFault T lines 1 reason.Word
fault-empty T lines none = record {
  counted = omega arith;
  here = no_line none refl refl;
  first_reason = λ p lt a. omega arith;
  none_before = λ j p lt a. omega arith;
}

pub text-end : (T : Table) (lines : List (List ℕ)) (i : ℕ) (clears : List Clear) → AreRead T lines i clears → length lines ≤ i → IsTextOf T lines clears
text-end T lines i clears read last =
    let each = subst (λ (ls : List (List ℕ)). AreParsed (clear_of_line T) ls clears) (take_all i lines last) read.said in
    record {
      each = each;
      some = omega (arith, length-said T lines clears each, read.some);
      few = omega (arith, length-said T lines clears each, read.within, read.few);
    }

-- ---- never both

no-fault : (T : Table) (lines : List (List ℕ)) (clears : List Clear) → IsTextOf T lines clears → (i : ℕ) (q : RuleReason) → IsAgainstAt T lines i q → ⊥
no-fault T lines clears t i q (at_line line at a) =
    let clear = said-at T lines clears i line t.each at in not_both (judged_clear T (clear_line_of line)) clear.0 q (is_said T line clear.0 clear.1) (answers T line q a)
no-fault T lines clears t i q (too_many within many is) = omega (arith, length-said T lines clears t.each, t.few)
no-fault T lines clears t i q (no_line none z is) = omega (arith, length-said T lines clears t.each, t.some, ap (λ (ls : List (List ℕ)). length ls) none)

pub text-or-fault : (T : Table) (lines : List (List ℕ)) (policy : List Clear) (line : ℕ) (q : RuleReason) → IsTextOf T lines policy → IsFirstFault T lines line q → ⊥
text-or-fault T lines policy line q t f = no-fault T lines policy t (line - 1) q f.here

pub only-it : (T : Table) (lines : List (List ℕ)) (r : Result (List Clear) RuleFault) (policy : List Clear)
    → IfOk r (λ p. IsTextOf T lines p) → IfErr r (λ e. IsFaultOf T lines e) → IsTextOf T lines policy
    → MatchResult r (λ p. p ≡ policy) (λ e. e ≡ fault.Memory)
only-it T lines (Ok p) policy text _ t = one-policy T lines p policy text t
only-it T lines (Err (fault.At line q)) policy text f t = absurd (text-or-fault T lines policy line q t f)
only-it T lines (Err fault.Memory) policy text f t = refl

-- ---- one first fault

reason_at : ℕ → RuleReason
reason_at n =
    if n == 0 then reason.Word else if n == 1 then reason.Number else if n == 2 then reason.Name
    else if n == 3 then reason.Known else if n == 4 then reason.Path else reason.Default

reason_at-order : (q : RuleReason) → reason_at (rule_reason_rank q) ≡ q
unfolding reason_at
reason_at-order reason.Word = refl
reason_at-order reason.Number = refl
reason_at-order reason.Name = refl
reason_at-order reason.Known = refl
reason_at-order reason.Path = refl
reason_at-order reason.Default = refl

same_order : (p q : RuleReason) → rule_reason_rank p ≡ rule_reason_rank q → p ≡ q
same_order p q e = sym (reason_at-order p) ∙ ap reason_at e ∙ reason_at-order q

not_before : (T : Table) (lines : List (List ℕ)) (m n : ℕ) (r q : RuleReason) → IsFirstFault T lines m r → IsFirstFault T lines n q → n ≤ m
not_before T lines m n r q f g =
    elim (cases_lt m n) [ inl less ↦ let lt : m - 1 + 1 < n = omega (arith, f.counted) in absurd (g.none_before (m - 1) r lt f.here) | inr more ↦ more ]

not_earlier : (T : Table) (lines : List (List ℕ)) (m : ℕ) (r q : RuleReason) → IsFirstFault T lines m r → IsFirstFault T lines m q → rule_reason_rank q ≤ rule_reason_rank r
not_earlier T lines m r q f g = elim (cases_lt (rule_reason_rank r) (rule_reason_rank q)) [ inl less ↦ absurd (g.first_reason r less f.here) | inr more ↦ more ]

pub one-fault : (T : Table) (lines : List (List ℕ)) (m n : ℕ) (r q : RuleReason) → IsFirstFault T lines m r → IsFirstFault T lines n q → (m ≡ n) × (r ≡ q)
one-fault T lines m n r q f g =
    let same : m ≡ n = omega (arith, not_before T lines m n r q f g, not_before T lines n m q r g f) in
    let h : IsFirstFault T lines m q = subst (λ (k : ℕ). IsFirstFault T lines k q) (sym same) g in
    (same, same_order r q (omega (arith, not_earlier T lines m r q f h, not_earlier T lines m q r h f)))

-- ---- a text or a fault

at_drop : {X : Type 0} (xs : List X) (i : ℕ) (x : X) (ys : List X) → drop i xs ≡ x ∷ ys → slice_get xs i ≡ Some x
at_drop [] zero x ys e = absurd cc
at_drop [] (suc i) x ys e = absurd cc
at_drop (a ∷ xs) zero x ys e = cc
at_drop (a ∷ xs) (suc i) x ys e = at_drop xs i x ys e

next_drop : {X : Type 0} (xs : List X) (i : ℕ) (x : X) (ys : List X) → drop i xs ≡ x ∷ ys → drop (suc i) xs ≡ ys
next_drop [] zero x ys e = absurd cc
next_drop [] (suc i) x ys e = absurd cc
next_drop (a ∷ xs) zero x ys e = cc
next_drop (a ∷ xs) (suc i) x ys e = next_drop xs i x ys e

no_more : {X : Type 0} (xs : List X) (i : ℕ) → drop i xs ≡ [] → length xs ≤ i
no_more [] i e = omega arith
no_more (x ∷ xs) zero e = absurd cc
no_more (x ∷ xs) (suc i) e = omega (arith, no_more xs i e)

abbrev pub TextOrFault : Table → List (List ℕ) → Type 0
TextOrFault T lines = ((policy : List Clear) × IsTextOf T lines policy) ⊎ ((line : ℕ) × (q : RuleReason) × IsFirstFault T lines line q)

rest-either : (T : Table) (lines rest : List (List ℕ)) (i : ℕ) (front : List Clear) → AreRead T lines i front → drop i lines ≡ rest → TextOrFault T lines
rest-either T lines [] i front read here = inl (front, text-end T lines i front read (no_more lines i here))
rest-either T lines (line ∷ rest) i front read here =
    go (λ clear more. rest-either T lines rest (i + 1) (front ++ clear ∷ []) more (rw add-one (next_drop lines i line rest here))) (cases_lt i 64) (judged_clear T (clear_line_of line)) refl
  where
    at : slice_get lines i ≡ Some line
    at = at_drop lines i line rest here

    go : ((clear : Clear) → AreRead T lines (i + 1) (front ++ clear ∷ []) → TextOrFault T lines) → (i < 64) ⊎ (64 ≤ i)
        → (r : Result Clear RuleReason) → judged_clear T (clear_line_of line) ≡ r → TextOrFault T lines
    go on (inr many) r is = inr (i + 1, reason.Word, fault-many T lines i front read many (slice_get_within lines i line at))
    go on (inl few) (Err q) is = inr (i + 1, q, fault-here T lines i front line q read few at is)
    go on (inl few) (Ok clear) is = on clear (read-push T lines i front line clear read few at is)

pub text-or-first-fault : (T : Table) (lines : List (List ℕ)) → TextOrFault T lines
text-or-first-fault T [] = inr (1, reason.Word, fault-empty T [] refl)
text-or-first-fault T (line ∷ lines) = rest-either T (line ∷ lines) (line ∷ lines) 0 [] (read-nothing T (line ∷ lines) (omega arith)) refl

-- ---- the reader's result

pub fault-found : (T : Table) (lines : List (List ℕ)) (i : ℕ) (clears : List Clear) (line : List ℕ) (q : RuleReason)
    (e : RuleFault) → AreRead T lines i clears → i < 64 → i < length lines → line ≡ get_or lines i line
    → judged_clear T (clear_line_of line) ≡ Err q → e ≡ fault.At (i + 1) q → IsFaultOf T lines e
fault-found T lines i clears line q e read few within at is stands = rw stands (fault-here T lines i clears line q read few (slice_get_read lines (length lines) i line refl within at) is)

pub fault-beyond : (T : Table) (lines : List (List ℕ)) (i : ℕ) (clears : List Clear) (e : RuleFault)
    → AreRead T lines i clears → 64 ≤ i → i < length lines → e ≡ fault.At (i + 1) reason.Word → IsFaultOf T lines e
fault-beyond T lines i clears e read many within stands = rw stands (fault-many T lines i clears read many within)

pub read-next : (T : Table) (lines : List (List ℕ)) (i : ℕ) (clears more : List Clear) (line : List ℕ) (clear : Clear)
    → AreRead T lines i clears → i < 64 → i < length lines → line ≡ get_or lines i line
    → judged_clear T (clear_line_of line) ≡ Ok clear → more ≡ clears ++ clear ∷ [] → AreRead T lines (i + 1) more
read-next T lines i clears more line clear read few within at is pushed =
    subst (λ (cs : List Clear). AreRead T lines (i + 1) cs) (sym pushed) (read-push T lines i clears line clear read few (slice_get_read lines (length lines) i line refl within at) is)

pub text-read : (T : Table) (lines : List (List ℕ)) (i : ℕ) (clears policy : List Clear) → AreRead T lines i clears
    → length lines ≤ i → policy ≡ clears → IsTextOf T lines policy
text-read T lines i clears policy read last same = subst (λ (cs : List Clear). IsTextOf T lines cs) (sym same) (text-end T lines i clears read last)
