-- Drains worked by hand: one in which calls are charged until one is held, and one in which a field is cleared
-- and the entries start over.
use Rattle.std.proofs.Common.{true, false, [], ◌∷◌, refl, arith}
use Rattle.engine_core.specs.Answers as answers
use Rattle.engine_core.specs.Chains.{Entry, new_entry}
use Rattle.engine_core.specs.Turns as turns
use Rattle.engine_core.specs.declared.outcome.Noted.TheVariants as notes
use Rattle.engine_core.specs.declared.outcome.Outcome.TheVariants as outcomes
use Rattle.engine_core.specs.declared.op.Op.TheVariants.{Attach}
use Rattle.engine_core.specs.declared.policy.Policy.TheVariants.{Access, Redact}
use Rattle.call_history.specs.Trace.{Trace}
use Rattle.call_history.specs.Draining.{at_rest, again, HasTurns, is_idle, is_held, redacts, goes, is_over, next, begins_again, none, one, HasDrained, HasFailedDrain}
use Rattle.call_history.specs.Transitions.{ConnState, is_sent, link_failed}
use Rattle.call_history.specs.declared.happening.Happening.TheVariants.{Took, Op, Charged, Sent, Refused}
use Rattle.call_history.specs.declared.happening.Cause.TheVariants as cause
use Rattle.policy_rate.specs.declared.rate.Rate.{Rate as RatePolicy}
use Rattle.call_history.proofs.ClearTraces.{under_two, form_whole, acl_entry, clears, cut_entry, ready-cleared}
use Rattle.call_history.proofs.Rows.{acl, rl, cut, holding, seven, but_5, seven_nine, held, cleared}
use Rattle.call_history.proofs.Traces.{under, form_of, ready, long-7}

-- ---- three calls under a rate of two at once: two are charged and sent, and the third is held

abbrev rate : RatePolicy
rate = record { amount = 1; per = 1000; burst = 2; hold = true }

abbrev rate_entry : Entry
rate_entry = new_entry rl 1 (holding 2)

abbrev submitted : Trace
submitted = Took (seven 3) ∷ Took (seven 2) ∷ Took (seven 1) ∷ Op (Attach 0 rl rl (holding 2)) ∷ []

abbrev three_stand : ConnState
three_stand = record { past = submitted; row = (1, 0) ∷ (2, 0) ∷ (3, 0) ∷ []; ended = false }

abbrev two_charged : ConnState
two_charged = record { past = Charged 2 rl 0 ∷ Charged 1 rl 1000 ∷ submitted; row = (1, 1) ∷ (2, 1) ∷ (3, 0) ∷ []; ended = false }

abbrev two_sent : ConnState
two_sent = record { past = Sent 2 18 ∷ Sent 1 18 ∷ Charged 2 rl 0 ∷ Charged 1 rl 1000 ∷ submitted; row = (3, 0) ∷ []; ended = false }

turns-charged : HasTurns under 0 three_stand at_rest two_charged
turns-charged =
    goes three_stand two_charged at_rest 1 (outcomes.Passed (notes.Charged 1000)) rate_entry
    (record {
      entry = refl;
      first = refl;
      call = form_of 1 7;
      is_form = refl;
      comes = turns.is_noted_and_passes (notes.Charged 1000) (answers.charges rate refl refl (omega arith) refl)
          (answers.was_charged rate refl (λ none. cc) refl) refl;
    })
    tt
    (goes _ two_charged at_rest 2 (outcomes.Passed (notes.Charged 0)) rate_entry
    (record {
      entry = refl;
      first = refl;
      call = form_of 2 7;
      is_form = refl;
      comes = turns.is_noted_and_passes (notes.Charged 0) (answers.charges rate refl refl (omega arith) refl)
          (answers.was_charged rate refl (λ none. cc) refl) refl;
    })
    tt
    (is_held two_charged 3 0 1000 rate_entry
    (record { entry = refl; first = refl; call = form_of 3 7; is_form = refl; comes = turns.is_held 0 1000 (answers.holds rate refl refl (omega arith) refl refl) refl })))

drains-charged : HasDrained under three_stand two_sent
drains-charged = record {
  begins = record {
    between = two_charged;
    passes = next 0 three_stand two_charged two_charged (omega arith) turns-charged (is_over 1 two_charged refl);
    sent = one two_charged _ two_sent 1 18 (is_sent 1 18 refl refl (ready two_charged 1 7 refl refl (long-7 1)) refl)
        (one _ two_sent two_sent 2 18 (is_sent 2 18 refl refl (ready _ 2 7 refl refl (long-7 2)) refl) (none two_sent));
  };
  none_ready = refl;
}

-- the link fails after the first send, while the second call is ready
abbrev one_sent : ConnState
one_sent = record {
  past = Sent 1 18 ∷ Charged 2 rl 0 ∷ Charged 1 rl 1000 ∷ submitted;
  row = (2, 1) ∷ (3, 0) ∷ [];
  ended = false;
}

abbrev two_refused : ConnState
two_refused = record {
  past = Refused 3 cause.Transport ∷ Refused 2 cause.Transport ∷ one_sent.past;
  row = [];
  ended = true;
}

fails-charged : HasFailedDrain under three_stand two_refused
fails-charged = record {
  between = one_sent;
  begins = record {
    between = two_charged;
    passes = next 0 three_stand two_charged two_charged (omega arith) turns-charged (is_over 1 two_charged refl);
    sent = one two_charged one_sent one_sent 1 18 (is_sent 1 18 refl refl (ready two_charged 1 7 refl refl (long-7 1)) refl)
        (none one_sent);
  };
  ready = λ is. cc;
  failed = link_failed refl refl;
}

-- one millisecond less than the cost later, it is still held
abbrev too_early : ConnState
too_early = record { past = held; row = (3, 0) ∷ []; ended = false }

drains-too_early : HasDrained under too_early too_early
drains-too_early = record {
  begins = record {
    between = too_early;
    passes = next 0 too_early too_early too_early (omega arith)
        (is_held too_early 3 999 1000 rate_entry (record {
          entry = refl;
          first = refl;
          call = form_of 3 7;
          is_form = refl;
          comes =
              turns.is_held 999 1000 (answers.holds rate refl refl (omega arith) refl refl) refl;
        }))
        (is_over 1 too_early refl);
    sent = none too_early;
  };
  none_ready = refl;
}

-- ---- a field is cleared, and the previous policy is asked again

abbrev whole_stands : ConnState
whole_stands = record {
  past = Took seven_nine ∷ Op (Attach 1 cut cut (Redact clears)) ∷ Op (Attach 0 acl acl (Access but_5)) ∷ [];
  row = (1, 0) ∷ [];
  ended = false;
}

abbrev before_cut : ConnState
before_cut = record whole_stands { row = (1, 1) ∷ [] }

abbrev begun_again : ConnState
begun_again = record { past = cleared but_5; row = (1, 0) ∷ []; ended = false }

abbrev allowed_again : ConnState
allowed_again = record { past = cleared but_5; row = (1, 1) ∷ []; ended = false }

abbrev clear_now : ConnState
clear_now = record { past = cleared but_5; row = (1, 2) ∷ []; ended = false }

abbrev cleared_sent : ConnState
cleared_sent = record { past = Sent 1 18 ∷ cleared but_5; row = []; ended = false }

drains-cleared : HasDrained under_two whole_stands cleared_sent
drains-cleared = record {
  begins = record {
    between = clear_now;
    passes = next 0 whole_stands before_cut clear_now (omega arith) first_allowed
        (begins_again 1 before_cut begun_again clear_now (omega arith) cut_now
        (next 0 begun_again allowed_again clear_now (omega arith) second_allowed
        (next 1 allowed_again clear_now clear_now (omega arith) passed_cut (is_over 2 clear_now refl))));
    sent = one clear_now cleared_sent cleared_sent 1 18 (is_sent 1 18 refl refl (ready-cleared clear_now refl refl) refl) (none cleared_sent);
  };
  none_ready = refl;
}
  where
    first_allowed : HasTurns under_two 0 whole_stands at_rest before_cut
    first_allowed = goes whole_stands before_cut at_rest 1 (outcomes.Passed notes.Nothing) (acl_entry but_5)
        (record { entry = refl; first = refl; call = form_whole; is_form = refl; comes = turns.passes (answers.allows but_5 refl refl refl) refl }) tt (is_idle before_cut refl)

    cut_now : HasTurns under_two 1 before_cut again begun_again
    cut_now = redacts before_cut 1 cut_entry
        (record { entry = refl; first = refl; call = form_whole; is_form = refl; comes = turns.is_redacted (answers.redacts clears refl (λ same. cc) refl) refl })

    second_allowed : HasTurns under_two 0 begun_again at_rest allowed_again
    second_allowed = goes begun_again allowed_again at_rest 1 (outcomes.Passed notes.Nothing) (acl_entry but_5)
        (record { entry = refl; first = refl; call = form_of 1 7; is_form = refl; comes = turns.passes (answers.allows but_5 refl refl refl) refl }) tt (is_idle allowed_again refl)

    passed_cut : HasTurns under_two 1 allowed_again at_rest clear_now
    passed_cut = goes allowed_again clear_now at_rest 1 (outcomes.Passed notes.Nothing) cut_entry
        (record { entry = refl; first = refl; call = form_of 1 7; is_form = refl; comes = turns.passes (answers.is_clear clears refl refl refl) refl }) tt (is_idle clear_now refl)
