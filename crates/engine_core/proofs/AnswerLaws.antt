-- An entry has exactly one answer.
use Rattle.std.proofs.Common.{◌≡◌, ◌≢◌, ℕ, ◌-◌, ◌/◌, ◌<◌, ◌≤◌, ◌==◌, nat_lt, min, Bool, true, false, cond, ◌⊎◌, inl}
use Rattle.std.proofs.Common.{inr, List, length, Some, None, refl, ap, subst, arith}
use Rattle.std.specs.Prelude.{unwrap_or}
use Rattle.std.specs.List.{position_or_len}
use Rattle.std.proofs.lemmas.Bool.{cases_lt}
use Rattle.std.proofs.lemmas.Grind.{common_steps}
use Rattle.std.proofs.lemmas.Bool.Decides.{nat_tests}
use base.Stored.{Gv, gnil, gnum, gcons}
use Rattle.mrpc_table.specs.Node.{Node}
use Rattle.mrpc_table.specs.NodeCode.{node_code}
use Rattle.policy_access.specs.Verdict.{AccessPolicy, matches, verdict}
use Rattle.policy_access.specs.declared.rule.Rule.{Rule}
use Rattle.mrpc_table.specs.declared.call.Call.{Call}
use Rattle.policy_rate.specs.declared.rate.Rate.{Rate as RatePolicy}
use Rattle.policy_redact.specs.Redacting.{cleared}
use Rattle.policy_redact.specs.declared.redact.Clear.{Clear}
use Rattle.engine_core.specs.Policies.{IsNoting}
use Rattle.engine_core.specs.Answers.{Past, nothing, charged, drawn, counted, Answer, pass, deny, hold, refuse, over}
use Rattle.engine_core.specs.Answers.{note, redact, ticket_in, IsEntryAnswer, allows, denies, was_charged, charges, holds}
use Rattle.engine_core.specs.Answers.{refuses, is_within, is_over, draws, was_counted, counts, is_clear, redacts}
use Rattle.engine_core.specs.declared.policy.Policy.{Policy}
use Rattle.engine_core.specs.declared.policy.Policy.TheVariants.{Access, Rate, Quota, Count, Redact}
use Rattle.engine_core.specs.declared.outcome.Noted.TheVariants.{Charged, Drawn, Counted}

-- ---- trees are equal or not

same-num-by : (a b : ℕ) (t : Bool) → (a == b) ≡ t → (gnum a ≡ gnum b) ⊎ (gnum a ≢ gnum b)
same-num-by a b true is = inl (ap gnum (grind (arith, nat_tests, common_steps)))
same-num-by a b false is = inr (λ same. apart (cc)) where
  apart : a ≡ b → ⊥
  apart same = grind (arith, nat_tests, common_steps)

same-num : (a b : ℕ) → (gnum a ≡ gnum b) ⊎ (gnum a ≢ gnum b)
same-num a b = same-num-by a b (a == b) refl

same-pair : (a b c d : Gv) → (a ≡ c) ⊎ (a ≢ c) → (b ≡ d) ⊎ (b ≢ d) → (gcons a b ≡ gcons c d) ⊎ (gcons a b ≢ gcons c d)
same-pair a b c d (inl first) (inl second) = inl cc
same-pair a b c d (inl first) (inr other) = inr (λ same. other cc)
same-pair a b c d (inr other) second = inr (λ same. other cc)

same-code : (x y : Gv) → (x ≡ y) ⊎ (x ≢ y)
same-code gnil gnil = inl refl
same-code gnil (gnum n) = inr (λ same. cc)
same-code gnil (gcons a b) = inr (λ same. cc)
same-code (gnum n) gnil = inr (λ same. cc)
same-code (gnum n) (gnum m) = same-num n m
same-code (gnum n) (gcons a b) = inr (λ same. cc)
same-code (gcons a b) gnil = inr (λ same. cc)
same-code (gcons a b) (gnum n) = inr (λ same. cc)
same-code (gcons a b) (gcons c d) = same-pair a b c d (same-code a c) (same-code b d)

same-tree : (t u : Node) → (t ≡ u) ⊎ (t ≢ u)
same-tree t u = elim (same-code (node_code.code t) (node_code.code u)) [ inl same ↦ inl (node_code.inj t u same) | inr other ↦ inr (λ same. other (ap node_code.code same)) ]

-- ---- there is an answer

by-verdict : (p : AccessPolicy) (level moment : ℕ) (form : Call) (past : Past) (b : Bool) → (verdict p form).allow ≡ b
    → (answer : Answer) × IsEntryAnswer (Access p) level moment form past answer
by-verdict p level moment form past true is = (pass, allows p refl is refl)
by-verdict p level moment form past false is = (deny (verdict p form).rule, denies p refl is refl)

by-mode : (r : RatePolicy) (level moment : ℕ) (form : Call) (b : Bool) → level < r.per → r.hold ≡ b → (answer : Answer) × IsEntryAnswer (Rate r) level moment form nothing answer
by-mode r level moment form true less is = (hold level r.per, holds r refl refl less is refl)
by-mode r level moment form false less is = (refuse level r.per, refuses r refl refl less is refl)

by-level : (r : RatePolicy) (level moment : ℕ) (form : Call) → (answer : Answer) × IsEntryAnswer (Rate r) level moment form nothing answer
by-level r level moment form = elim (cases_lt level r.per)
    [ inl less ↦ by-mode r level moment form r.hold less refl | inr enough ↦ (note (Charged (level - r.per)), charges r refl refl enough refl) ]

by-ticket : (tenant per cap level moment ticket : ℕ) (form : Call) → (answer : Answer) × IsEntryAnswer (Quota tenant per cap) level moment form (drawn ticket) answer
by-ticket tenant per cap level moment ticket form = elim (cases_lt ticket cap)
    [ inl less ↦ (pass, is_within tenant per cap ticket refl refl less refl) | inr more ↦ (over ticket cap, is_over tenant per cap ticket refl refl more refl) ]

by-draw : (tenant per cap level moment : ℕ) (form : Call) (past : Past) → ((t : ℕ) → past ≢ drawn t)
    → (answer : Answer) × IsEntryAnswer (Quota tenant per cap) level moment form past answer
by-draw tenant per cap level moment form past none = (note (Drawn (min (moment / per) 1023) 0), draws tenant per cap 0 refl none refl)

by-clears : (clears : List Clear) (level moment : ℕ) (form : Call) (past : Past) → (answer : Answer) × IsEntryAnswer (Redact clears) level moment form past answer
by-clears clears level moment form past = elim (same-tree (cleared clears form) form.tree)
    [ inl same ↦ (pass, is_clear clears refl same refl) | inr other ↦ (redact, redacts clears refl other refl) ]

pub some_answer : (policy : Policy) (level moment : ℕ) (form : Call) (past : Past) → (answer : Answer) × IsEntryAnswer policy level moment form past answer
some_answer (Access p) level moment form past = by-verdict p level moment form past (verdict p form).allow refl
some_answer (Rate r) level moment form nothing = by-level r level moment form
some_answer (Rate r) level moment form charged = (pass, was_charged r refl (λ none. cc) refl)
some_answer (Rate r) level moment form (drawn t) = (pass, was_charged r refl (λ none. cc) refl)
some_answer (Rate r) level moment form counted = (pass, was_charged r refl (λ none. cc) refl)
some_answer (Quota tenant per cap) level moment form nothing = by-draw tenant per cap level moment form nothing (λ t none. cc)
some_answer (Quota tenant per cap) level moment form charged = by-draw tenant per cap level moment form charged (λ t none. cc)
some_answer (Quota tenant per cap) level moment form (drawn t) = by-ticket tenant per cap level moment t form
some_answer (Quota tenant per cap) level moment form counted = by-draw tenant per cap level moment form counted (λ t none. cc)
some_answer Count level moment form nothing = (note Counted, counts refl refl refl)
some_answer Count level moment form charged = (pass, was_counted refl (λ none. cc) refl)
some_answer Count level moment form (drawn t) = (pass, was_counted refl (λ none. cc) refl)
some_answer Count level moment form counted = (pass, was_counted refl (λ none. cc) refl)
some_answer (Redact clears) level moment form past = by-clears clears level moment form past

-- ---- at most one

pub one_answer : (policy : Policy) (level moment : ℕ) (form : Call) (past : Past) (a b : Answer)
    → IsEntryAnswer policy level moment form past a → IsEntryAnswer policy level moment form past b → ticket_in a ≡ ticket_in b → a ≡ b
one_answer policy level moment form past a b (allows p is allow first) second same = grind (arith, common_steps)
one_answer policy level moment form past a b (denies p is denied first) second same = grind (arith, common_steps)
one_answer policy level moment form past a b (was_charged r is some first) second same = grind (arith, common_steps)
one_answer policy level moment form past a b (charges r is none enough first) second same = grind (arith, common_steps)
one_answer policy level moment form past a b (holds r is none less mode first) second same = grind (arith, common_steps)
one_answer policy level moment form past a b (refuses r is none less mode first) second same = grind (arith, common_steps)
one_answer policy level moment form past a b (is_within t per cap ticket is some less first) second same = grind (arith, common_steps)
one_answer policy level moment form past a b (is_over t per cap ticket is some more first) second same = grind (arith, common_steps)
one_answer policy level moment form past a b (draws t per cap ticket is none first) second same = grind (arith, common_steps)
one_answer policy level moment form past a b (was_counted is some first) second same = grind (arith, common_steps)
one_answer policy level moment form past a b (counts is none first) second same = grind (arith, common_steps)
one_answer policy level moment form past a b (is_clear clears is left first) second same = grind (arith, common_steps)
one_answer policy level moment form past a b (redacts clears is other first) second same = grind (arith, common_steps)

-- ---- denials, and what allows at any time

deciding-by : (k n : ℕ) → unwrap_or (cond (nat_lt k n) (Some k) None) n ≤ n
deciding-by k n = grind (arith, nat_tests, common_steps)

-- the index of the deciding rule
pub deciding-within : (p : AccessPolicy) (form : Call) → (verdict p form).rule ≤ length p.rules
deciding-within p form = deciding-by (position_or_len (λ (r : Rule). matches r form) p.rules) (length p.rules)

pub denied-within : (p : AccessPolicy) (level moment rule : ℕ) (form : Call) (past : Past) → IsEntryAnswer (Access p) level moment form past (deny rule) → rule ≤ length p.rules
denied-within p level moment rule form past (allows q is allow at) = absurd cc
denied-within p level moment rule form past (denies q is denied at) =
    let policies : q ≡ p = cc in
    let rules : (verdict q form).rule ≡ rule = cc in
    subst (λ (r : AccessPolicy). rule ≤ length r.rules) policies (rw (← rules) (deciding-within q form))
denied-within p level moment rule form past (was_charged r is some at) = absurd cc
denied-within p level moment rule form past (charges r is none enough at) = absurd cc
denied-within p level moment rule form past (holds r is none less mode at) = absurd cc
denied-within p level moment rule form past (refuses r is none less mode at) = absurd cc
denied-within p level moment rule form past (is_within t per cap ticket is some less at) = absurd cc
denied-within p level moment rule form past (is_over t per cap ticket is some more at) = absurd cc
denied-within p level moment rule form past (draws t per cap ticket is none at) = absurd cc
denied-within p level moment rule form past (was_counted is some at) = absurd cc
denied-within p level moment rule form past (counts is none at) = absurd cc
denied-within p level moment rule form past (is_clear clears is left at) = absurd cc
denied-within p level moment rule form past (redacts clears is other at) = absurd cc

pub allows_at_any_time : (policy : Policy) (level moment other later : ℕ) (form : Call) (past : Past)
    → IsEntryAnswer policy level moment form past pass → IsEntryAnswer policy other later form past pass
allows_at_any_time policy level moment other later form past (allows p is allow at) = allows p is allow at
allows_at_any_time policy level moment other later form past (denies p is denied at) = absurd cc
allows_at_any_time policy level moment other later form past (was_charged r is some at) = was_charged r is some at
allows_at_any_time policy level moment other later form past (charges r is none enough at) = absurd cc
allows_at_any_time policy level moment other later form past (holds r is none less mode at) = absurd cc
allows_at_any_time policy level moment other later form past (refuses r is none less mode at) = absurd cc
allows_at_any_time policy level moment other later form past (is_within t per cap ticket is some less at) = is_within t per cap ticket is some less at
allows_at_any_time policy level moment other later form past (is_over t per cap ticket is some more at) = absurd cc
allows_at_any_time policy level moment other later form past (draws t per cap ticket is none at) = absurd cc
allows_at_any_time policy level moment other later form past (was_counted is some at) = was_counted is some at
allows_at_any_time policy level moment other later form past (counts is none at) = absurd cc
allows_at_any_time policy level moment other later form past (is_clear clears is left at) = is_clear clears is left at
allows_at_any_time policy level moment other later form past (redacts clears is differs at) = absurd cc

pub allows_by_notes : (policy : Policy) (level moment other later : ℕ) (form another : Call) (past : Past)
    → IsNoting policy → IsEntryAnswer policy level moment form past pass → IsEntryAnswer policy other later another past pass
allows_by_notes policy level moment other later form another past noting (allows p is allow at) = absurd (rw is at noting)
allows_by_notes policy level moment other later form another past noting (denies p is denied at) = absurd cc
allows_by_notes policy level moment other later form another past noting (was_charged r is some at) = was_charged r is some at
allows_by_notes policy level moment other later form another past noting (charges r is none enough at) = absurd cc
allows_by_notes policy level moment other later form another past noting (holds r is none less mode at) = absurd cc
allows_by_notes policy level moment other later form another past noting (refuses r is none less mode at) = absurd cc
allows_by_notes policy level moment other later form another past noting (is_within t per cap ticket is some less at) = is_within t per cap ticket is some less at
allows_by_notes policy level moment other later form another past noting (is_over t per cap ticket is some more at) = absurd cc
allows_by_notes policy level moment other later form another past noting (draws t per cap ticket is none at) = absurd cc
allows_by_notes policy level moment other later form another past noting (was_counted is some at) = was_counted is some at
allows_by_notes policy level moment other later form another past noting (counts is none at) = absurd cc
allows_by_notes policy level moment other later form another past noting (is_clear clears is left at) = absurd (rw is at noting)
allows_by_notes policy level moment other later form another past noting (redacts clears is differs at) = absurd cc
