-- Worked by hand: small histories that aren't legal.
use Rattle.std.proofs.Common.{◌≡◌, ℕ, ◌<◌, true, false, [], ◌∷◌, refl, sym, ap, ◌∙◌, arith}
use Rattle.std.proofs.lemmas.List.Elements.{All-head}
use Rattle.graph_form.specs.declared.reason.Reason.TheVariants.{Address}
use Rattle.policy_access.specs.Verdict.{AccessPolicy, verdict}
use Rattle.engine_core.specs.Answers.{Past, nothing, pass, IsEntryAnswer, allows, denies, was_charged, charges, holds, refuses, is_within, is_over, draws, was_counted, counts, is_clear, redacts}
use Rattle.engine_core.specs.Chains.{new_entry}
use Rattle.engine_core.specs.declared.policy.Policy.{Policy}
use Rattle.engine_core.specs.declared.policy.Policy.TheVariants.{Access}
use Rattle.call_history.specs.Legal.{IsLegalTrace}
use Rattle.call_history.specs.Rules.{IsAllowedInTrace}
use Rattle.call_history.specs.declared.happening.Cause.TheVariants as cause
use Rattle.call_history.specs.declared.happening.Happening.TheVariants.{Took, Moment, Charged, Sent, Refused}
use Rattle.call_history.specs.declared.happening.AcceptedCall.{AcceptedCall}
use Rattle.call_history.specs.declared.happening.TookCopy.TheVariants.{Malformed}
use Rattle.call_history.proofs.Rows.{acl, q, rl, but_150, denied_before, drawn_over, failing, upgraded_before}
use Rattle.call_history.proofs.Traces.{under, form_of}

-- ---- the denied call is sent

-- the policy denies a call with 150
denies-150 : (policy : Policy) (level moment : ℕ) (past : Past) → policy ≡ Access but_150 → IsEntryAnswer policy level moment (form_of 1 150) past pass → ⊥
denies-150 policy level moment past is (allows p is_p allow answer) =
    let same : p ≡ but_150 = cc in
    let denied : (verdict p (form_of 1 150)).allow ≡ false = ap (λ (r : AccessPolicy). (verdict r (form_of 1 150)).allow) same in
    let wrong : true ≡ false = sym allow ∙ denied in cc
denies-150 policy level moment past is (denies p is_p allow answer) = cc
denies-150 policy level moment past is (was_charged r is_p some answer) = cc
denies-150 policy level moment past is (charges r is_p none enough answer) = cc
denies-150 policy level moment past is (holds r is_p none less mode answer) = cc
denies-150 policy level moment past is (refuses r is_p none less mode answer) = cc
denies-150 policy level moment past is (is_within tenant per cap ticket is_p some less answer) = cc
denies-150 policy level moment past is (is_over tenant per cap ticket is_p some more answer) = cc
denies-150 policy level moment past is (draws tenant per cap ticket is_p none answer) = cc
denies-150 policy level moment past is (was_counted is_p some answer) = cc
denies-150 policy level moment past is (counts is_p none answer) = cc
denies-150 policy level moment past is (is_clear clears is_p left answer) = cc
denies-150 policy level moment past is (redacts clears is_p other answer) = cc

not-sent : IsLegalTrace under (Sent 1 19 ∷ denied_before) → ⊥
not-sent legal =
    let lets : IsAllowedInTrace under denied_before 1 (new_entry acl 1 (Access but_150)) =
    All-head (IsAllowedInTrace under denied_before 1) (new_entry acl 1 (Access but_150)) [] legal.prefix.1.in_order.allowed in
    denies-150 (Access but_150) 0 0 nothing refl lets

-- ---- a charged call is charged again

not-charged_twice : (left : ℕ) → IsLegalTrace under (Charged 2 rl left ∷ upgraded_before) → ⊥
not-charged_twice left legal =
    let first : 2 < 2 = All-head (λ other. other < 2) 2 (1 ∷ []) legal.prefix.1.notes_due.ascends in
    omega (arith, first)

-- ---- a ticket that isn't below the cap, and no refusal

not-over_and_on : (ms : ℕ) → IsLegalTrace under (Moment ms ∷ drawn_over) → ⊥
not-over_and_on ms legal =
    let wrong : Moment ms ≡ Refused 2 (cause.Quota q 1 1) = legal.prefix.1.drawn_refused _ 1 refl refl (omega arith) in cc

not-over_at_the_end : IsLegalTrace under drawn_over → ⊥
not-over_at_the_end legal = legal.closed.quota (record { policy = _; cap = 1; is_policy = refl; is_cap = refl; over = λ less. omega (arith, less) })

-- ---- a call is refused for the link, and the next pending one isn't

not-left : (ms : ℕ) → IsLegalTrace under (Moment ms ∷ failing) → ⊥
not-left ms legal = let wrong : Moment ms ≡ Refused 3 cause.Transport = legal.prefix.1.link_end.0 refl in cc

not-left_at_the_end : IsLegalTrace under failing → ⊥
not-left_at_the_end legal = legal.closed.link (record { failed = refl; some_pending = λ none. cc })

-- ---- a malformed call isn't refused

abbrev outside : AcceptedCall
outside = record { seq = 1; method = 0; number = 0; addr = 15; after = 1; count = 0; copy = Malformed Address 0 15 }

not-unrefused : (ms : ℕ) → IsLegalTrace under (Moment ms ∷ Took outside ∷ []) → ⊥
not-unrefused ms legal = let wrong : Moment ms ≡ Refused 1 cause.Malformed = legal.prefix.1.malformed in cc

not-unrefused_at_the_end : IsLegalTrace under (Took outside ∷ []) → ⊥
not-unrefused_at_the_end legal = legal.closed.malformed tt
