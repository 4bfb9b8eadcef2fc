-- Fields of a call are cleared; the call and all later ones start over at position 0.
use Rattle.std.proofs.Common.{◌≡◌, ◌≢◌, ℕ, cond, List, ◌∷◌, length, refl, ap, ◌∙◌, arith}
use Rattle.std.specs.Prelude.{Some, nat_lt, option_map}
use Rattle.std.proofs.lemmas.Bool.{ne_eqb}
use Rattle.mrpc_table.specs.declared.call.Call.{Call}
use Rattle.engine_core.specs.Answers.{redact, IsEntryAnswer}
use Rattle.engine_core.specs.Chains.{Entry}
use Rattle.call_history.specs.Trace.{Trace, chain, taken, form, level_in_trace, timestamp, noted, policy_in_trace, redacted}
use Rattle.call_history.specs.Transitions.{ConnState}
use Rattle.engine_core.specs.Moves.{restarted}
use Rattle.call_history.specs.Rules.{JudgeContext}
use Rattle.call_history.specs.declared.happening.Happening.TheVariants.{Redacted}
use Rattle.call_history.proofs.Going.{may-redact}
use Rattle.call_history.proofs.Holding.{Holds, stands-still, works-on}
use Rattle.call_history.proofs.Looking.{lets-still}
use Rattle.call_history.proofs.Noting.{IsTurn, gives-by}
use Rattle.call_history.proofs.Passing.{numbers-same, ended-still}
use Rattle.call_history.proofs.Rowed.{row-begins}

-- the form of another call is unchanged
pub form-others : (conn seq s version : ℕ) (name : List ℕ) (past : Trace) → seq ≢ s → form conn s (Redacted seq name version ∷ past) ≡ form conn s past
form-others conn seq s version name past apart =
    ap (λ b. cond b (option_map (redacted (policy_in_trace name past)) (form conn s past)) (form conn s past)) (ne_eqb seq s apart)

pub cleared_again : (u : JudgeContext) (c : ConnState) (position seq : ℕ) (e : Entry) (call : Call) → Holds u c → IsTurn u c position seq e → form u.conn seq c.past ≡ Some call
    → IsEntryAnswer e.policy (level_in_trace e.name c.past) (timestamp c.past) call (noted e.name seq c.past) redact
    → Holds u (record c { past = Redacted seq e.name e.version ∷ c.past; row = restarted seq c.row })
cleared_again u c position seq e call h turn is answers =
    let new : Trace = Redacted seq e.name e.version ∷ c.past in
    record {
      prefix = (
        h.prefix,
        may-redact u c.past seq e.name e.version turn.free (record { entry = e; at = turn.at; gives = gives-by u c.past seq e call redact is answers; present = refl }),
      );
      settled = record { malformed = λ awaits. awaits; quota = λ awaits. awaits; link = works-on new turn.free.works };
      row = row-begins u c.past new seq 0 (length (taken c.past)) (length (chain c.past).entries) c.row
          (λ s p less. stands-still u c.past new s p refl
          (λ d. lets-still u c.past new s d
          (form-others u.conn seq s e.version e.name c.past (λ same. omega (arith, same, less))) refl)) h.row;
      calls = numbers-same (λ call. cond (nat_lt call.0 seq) call.1 0) c.row ∙ h.calls;
      notes_ascend = h.notes_ascend;
      failed = h.failed;
      none_left = λ ended. ended-still (λ call. cond (nat_lt call.0 seq) call.1 0) c.row (h.none_left ended);
    }
