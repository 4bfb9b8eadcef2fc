-- Worked by hand: transitions in which a policy is upgraded after calls passed it, what each adds, and that the
-- history is legal.
use Rattle.std.proofs.Common.{◌≡◌, ℕ, true, false, inl, inr, List, [], ◌∷◌, codes, refl, ap, sym, ◌∙◌, arith}
use Rattle.std.specs.Prelude.{Contains}
use Rattle.engine_core.specs.Answers as answers
use Rattle.engine_core.specs.Chains.{Entry, new_entry, Refusal, IsReasonToReject, detaches_none, upgrades_none, is_taken, is_past, is_full, is_other}
use Rattle.engine_core.specs.Chains as chains
use Rattle.engine_core.specs.Turns as turns
use Rattle.engine_core.specs.declared.op.Op.TheVariants.{Attach, Upgrade}
use Rattle.engine_core.specs.declared.outcome.Noted.TheVariants as notes
use Rattle.engine_core.specs.declared.outcome.Outcome.TheVariants as outcomes
use Rattle.engine_core.specs.declared.outcome.Why.TheVariants.{Denied}
use Rattle.engine_core.specs.declared.policy.Policy.TheVariants.{Access}
use Rattle.call_history.specs.Transitions.{ConnState, Transition, accepts, operates, turns as has_turn_of, sends, takes, changes, has_turn, is_sent, AreTransitions, initial_state}
use Rattle.call_history.specs.Legal.{IsLegalTrace}
use Rattle.call_history.specs.declared.happening.Cause.TheVariants as cause
use Rattle.call_history.specs.declared.happening.Happening.TheVariants.{Sent, Refused}
use Rattle.call_history.specs.declared.happening.AcceptedCall.{AcceptedCall}
use Rattle.call_history.proofs.Further.{contains-cases}
use Rattle.call_history.proofs.Keeping.{course-begins, events-keep}
use Rattle.call_history.proofs.Prefixes.{StaysChain}
use Rattle.call_history.proofs.Rows.{with_number, request, acl, rl, no150, opening, but_150, holding, call_150}
use Rattle.policy_access.specs.Verdict.{AccessPolicy}
use Rattle.policy_rate.specs.declared.rate.Rate.{Rate as RatePolicy}
use Rattle.engine_core.specs.Policies.{is_same_kind}
use Rattle.call_history.proofs.Rows.{upgraded_before}
use Rattle.call_history.proofs.Traces.{under, form_of, normal_number, none-in, attached, taken_150, ready, long-7}

-- ---- an upgrade after two calls passed the old version

abbrev with_7 : AcceptedCall
with_7 = request 2 2 1 (with_number 7)

abbrev first_entry : Entry
first_entry = new_entry acl 1 opening

abbrev rate_entry : Entry
rate_entry = new_entry rl 2 (holding 2)

abbrev rate : RatePolicy
rate = record { amount = 1; per = 1000; burst = 2; hold = true }

abbrev second_entry : Entry
second_entry = record { name = acl; attach = 1; version = 2; policy = Access but_150 }

abbrev p1 : List ℕ
p1 = codes "p1"

abbrev p2 : List ℕ
p2 = codes "p2"

abbrev upgrade_events : List Transition
upgrade_events =
    operates (Attach 0 acl p1 opening) ∷ operates (Attach 1 rl rl (holding 2)) ∷ accepts call_150 ∷ accepts with_7
    ∷ has_turn_of 0 1 (outcomes.Passed notes.Nothing) ∷ has_turn_of 0 2 (outcomes.Passed notes.Nothing)
    ∷ has_turn_of 1 1 (outcomes.Passed (notes.Charged 1000)) ∷ has_turn_of 1 2 (outcomes.Passed (notes.Charged 0))
    ∷ operates (Upgrade acl p2 (Access but_150))
    ∷ has_turn_of 0 1 (outcomes.Refused notes.Nothing (Denied 0)) ∷ has_turn_of 0 2 (outcomes.Passed notes.Nothing)
    ∷ has_turn_of 1 2 (outcomes.Passed notes.Nothing) ∷ sends 2 18 ∷ []

abbrev upgrade_end : ConnState
upgrade_end = record { past = Sent 2 18 ∷ Refused 1 (cause.Access acl 2 no150) ∷ upgraded_before; row = []; ended = false }

apart-rl : Contains (acl ∷ []) rl → ⊥
apart-rl has = elim (contains-cases acl [] rl has) [ inl same ↦ (let first : ◌≡◌ {A = ℕ} 97 114 = cc in omega (arith, first)) | inr rest ↦ none-in rl rest ]

free-upgrade : (refusal : Refusal) → IsReasonToReject (first_entry ∷ rate_entry ∷ []) (Upgrade acl p2 (Access but_150)) refusal → ⊥
free-upgrade refusal (detaches_none n is not r) = cc
free-upgrade refusal (upgrades_none n l p is not r) = let names : acl ≡ n = cc in not (0, omega arith, names)
free-upgrade refusal (is_taken a n l p is some r) = cc
free-upgrade refusal (is_past a n l p is past r) = cc
free-upgrade refusal (is_full a n l p is full r) = cc
free-upgrade refusal (is_other n l p e is there named differs r) = elim (contains-cases first_entry (rate_entry ∷ []) e there) [
  | inl same ↦ first same
  | inr rest ↦ elim (contains-cases rate_entry [] e rest) [
    | inl same ↦ (let names : rl ≡ acl = ap (λ (x : Entry). x.name) same ∙ named ∙ called in let letter : ◌≡◌ {A = ℕ} 114 97 = cc in omega (arith, letter))
    | inr none ↦ none-in e none
  ]
]
  where
    called : n ≡ acl
    called = cc

    first : first_entry ≡ e → ⊥
    first same =
        let policies : p ≡ Access but_150 = cc in
        let kinds : is_same_kind e.policy p ≡ true = ap (λ (x : Entry). is_same_kind x.policy p) (sym same) ∙ ap (is_same_kind opening) policies in
        let wrong : false ≡ true = sym differs ∙ kinds in cc

abbrev all : AccessPolicy
all = record { rules = []; allow = true }

lead-upgraded : AreTransitions under initial_state upgrade_events upgrade_end
lead-upgraded = (
  _,
  changes (Attach 0 acl p1 opening) refl (attached [] 0 0 [] [] acl p1 opening (none-in acl) (omega arith) refl refl refl (omega arith)) refl,
  (
    _,
    changes (Attach 1 rl rl (holding 2)) refl (attached (first_entry ∷ []) 1 1 (first_entry ∷ []) [] rl rl (holding 2) apart-rl (omega arith) refl refl refl (omega arith)) refl,
    (
      _,
      takes call_150 refl refl (taken_150 _ (omega arith) refl) refl,
      (
        _,
        takes with_7 refl refl (record { number = refl; few = omega arith; loads = omega arith; copy = (omega arith, normal_number 7 (omega arith) (omega arith)) }) refl,
        (
          _,
          has_turn 0 1 (outcomes.Passed notes.Nothing) first_entry refl (record {
            entry = refl;
            first = refl;
            call = form_of 1 150;
            is_form = refl;
            comes = turns.passes (answers.allows all refl refl refl) refl;
          })
              refl,
          (
            _,
            has_turn 0 2 (outcomes.Passed notes.Nothing) first_entry refl (record {
              entry = refl;
              first = refl;
              call = form_of 2 7;
              is_form = refl;
              comes = turns.passes (answers.allows all refl refl refl) refl;
            })
                refl,
            (
              _,
              has_turn 1 1 (outcomes.Passed (notes.Charged 1000)) rate_entry refl (record {
                entry = refl;
                first = refl;
                call = form_of 1 150;
                is_form = refl;
                comes = turns.is_noted_and_passes (notes.Charged 1000) (answers.charges rate refl refl (omega arith) refl) (answers.was_charged rate refl (λ none. cc) refl) refl;
              }) refl,
              (
                _,
                has_turn 1 2 (outcomes.Passed (notes.Charged 0)) rate_entry refl (record {
                  entry = refl;
                  first = refl;
                  call = form_of 2 7;
                  is_form = refl;
                  comes = turns.is_noted_and_passes (notes.Charged 0) (answers.charges rate refl refl (omega arith) refl) (answers.was_charged rate refl (λ none. cc) refl) refl;
                }) refl,
                (
                  _,
                  changes (Upgrade acl p2 (Access but_150)) refl (record {
                    free = free-upgrade;
                    effect = chains.upgrades acl p2 (Access but_150) first_entry [] (rate_entry ∷ []) refl refl refl
                        refl;
                  }) refl,
                  (
                    _,
                    has_turn 0 1 (outcomes.Refused notes.Nothing (Denied 0)) second_entry refl
                        (record {
                          entry = refl;
                          first = refl;
                          call = form_of 1 150;
                          is_form = refl;
                          comes = turns.is_refused (Denied 0) (answers.denies but_150 refl refl refl) refl;
                        }) refl,
                    (
                      _,
                      has_turn 0 2 (outcomes.Passed notes.Nothing) second_entry refl
                          (record {
                            entry = refl;
                            first = refl;
                            call = form_of 2 7;
                            is_form = refl;
                            comes = turns.passes (answers.allows but_150 refl refl refl) refl;
                          }) refl,
                      (
                        _,
                        has_turn 1 2 (outcomes.Passed notes.Nothing) rate_entry refl
                            (record {
                              entry = refl;
                              first = refl;
                              call = form_of 2 7;
                              is_form = refl;
                              comes = turns.passes (answers.was_charged rate refl (λ none. cc) refl) refl;
                            }) refl,
                        (_, is_sent 2 18 refl refl (ready _ 2 7 refl refl (long-7 2)) refl, refl),
                      ),
                    ),
                  ),
                ),
              ),
            ),
          ),
        ),
      ),
    ),
  ),
)

legal-upgraded : StaysChain → IsLegalTrace under upgrade_end.past
legal-upgraded stays = (events-keep stays under initial_state upgrade_end upgrade_events (course-begins under) lead-upgraded).legal
