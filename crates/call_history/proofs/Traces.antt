-- Worked by hand: small lists of transitions, what each adds, the positions of its calls, and that the history
-- is legal.
use Rattle.std.proofs.Common.{◌≡◌, ℕ, ◌+◌, ◌<◌, ◌≤◌, ◌^◌, true, false, List, [], ◌∷◌, ◌++◌, codes, length, refl, arith}
use Rattle.std.specs.Prelude.{Contains, Some}
use Rattle.mrpc_table.specs.Normal.{IsNormal}
use Rattle.mrpc_table.specs.declared.table.Kind.TheVariants.{Uint64}
use Rattle.mrpc_table.specs.declared.table.Label.TheVariants.{Plain}
use Rattle.wire_base.specs.Encoding.{varint, groups}
use Rattle.mrpc_table.specs.declared.call.Call.{Call}
use Rattle.engine_core.specs.Answers as answers
use Rattle.engine_core.specs.Chains.{HasChanged, Entry, names_of, new_entry, Refusal, IsReasonToReject, detaches_none, upgrades_none, is_taken, is_past, is_full, is_other}
use Rattle.engine_core.specs.Chains as chains
use Rattle.engine_core.specs.Turns as turns
use Rattle.engine_core.specs.declared.op.Op.TheVariants.{Attach}
use Rattle.engine_core.specs.declared.outcome.Noted.TheVariants as notes
use Rattle.engine_core.specs.declared.outcome.Outcome.TheVariants as outcomes
use Rattle.engine_core.specs.declared.outcome.Why.TheVariants.{Denied}
use Rattle.engine_core.specs.declared.policy.Policy.{Policy}
use Rattle.engine_core.specs.declared.policy.Policy.TheVariants.{Access}
use Rattle.call_history.specs.Trace.{Trace, chain, form, pending_calls, taken}
use Rattle.engine_core.specs.Chains.{changed}
use Rattle.call_history.specs.Transitions.{ConnState, Transition, IsReady, accepts, operates, turns as has_turn_of, sends, fails, takes, changes, has_turn, is_sent, link_failed, AreTransitions, initial_state}
use Rattle.engine_core.specs.Moves.{first_at}
use Rattle.call_history.specs.Legal.{IsLegalTrace}
use Rattle.frame_transport.specs.declared.format.TheConstants.{HEADER_LEN}
use Rattle.call_history.specs.Rules.{JudgeContext, MayTake, payload}
use Rattle.call_history.specs.declared.happening.Cause.TheVariants as cause
use Rattle.call_history.specs.declared.happening.Happening.TheVariants.{Refused}
use Rattle.call_history.proofs.Keeping.{course-begins, events-keep}
use Rattle.call_history.proofs.Prefixes.{StaysChain}
use Rattle.call_history.proofs.Rows.{table, with_number, acl, but_150, seven, call_150, denied, failing}

abbrev pub under : JudgeContext
under = record { conn = 1; table = table; limit = 1024 }

-- ---- facts about calls and operations

pub normal_number : (v : ℕ) → 0 < v → v < 2 ^ 64 → IsNormal table 0 (with_number v)
normal_number v above fits = record {
  fields = (omega arith, (record { number = 1; name = codes "a"; kind = Uint64; label = Plain }, refl, λ (e : v ≡ 0). omega (arith, e, above), fits), tt);
  oneofs = λ o. omega arith;
  depth = omega arith;
}

-- the form of a request with this number in its field
abbrev pub form_of : ℕ → ℕ → Call
form_of seq v = record { conn = 1; seq = seq; method = 0; number = 0; tree = with_number v }

pub none-in : {X : Type 0} (x : X) → Contains [] x → ⊥
none-in x has = omega (arith, has.1)

-- an operation that the chain accepts
free-attach : (entries : List Entry) (at : ℕ) (name label : List ℕ) (policy : Policy) (refusal : Refusal)
    → (Contains (names_of entries) name → ⊥) → at ≤ length entries → length entries < 8
    → IsReasonToReject entries (Attach at name label policy) refusal → ⊥
free-attach entries at name label policy refusal none within few (detaches_none n is not r) = cc
free-attach entries at name label policy refusal none within few (upgrades_none n l p is not r) = cc
free-attach entries at name label policy refusal none within few (is_taken a n l p is some r) =
    let names : n ≡ name = cc in none (rw (← names) some)
free-attach entries at name label policy refusal none within few (is_past a n l p is past r) = let places : a ≡ at = cc in omega (arith, places, past, within)
free-attach entries at name label policy refusal none within few (is_full a n l p is full r) = omega (arith, full, few)
free-attach entries at name label policy refusal none within few (is_other n l p e is there named differs r) = cc

pub attached : (entries : List Entry) (many at : ℕ) (front back : List Entry) (name label : List ℕ) (policy : Policy)
    → (Contains (names_of entries) name → ⊥) → length entries < 8
    → entries ≡ front ++ back → length front ≡ at
    → changed (Attach at name label policy) (record { entries = entries; attached = many })
    ≡ record { entries = front ++ new_entry name (many + 1) policy ∷ back; attached = many + 1 }
    → at ≤ length entries
    → HasChanged (record { entries = entries; attached = many }) (Attach at name label policy) (changed (Attach at name label policy) (record { entries = entries; attached = many }))
attached entries many at front back name label policy none few whole place makes within = record {
  free = λ refusal. free-attach entries at name label policy refusal none within few;
  effect = chains.attaches at name label policy front back refl whole place makes;
}

-- ---- a call with 150, which the policy denies: a later store doesn't help

abbrev denied_events : List Transition
denied_events = operates (Attach 0 acl acl (Access but_150)) ∷ accepts call_150 ∷ has_turn_of 0 1 (outcomes.Refused notes.Nothing (Denied 0)) ∷ []

pub taken_150 : (past : Trace) → length (pending_calls past) < 64 → length (taken past) ≡ 0 → MayTake under past call_150
taken_150 past few none = record { number = omega (arith, none); few = few; loads = omega arith; copy = (omega arith, normal_number 150 (omega arith) (omega arith)) }

lead-denied : AreTransitions under initial_state denied_events (record { past = denied; row = []; ended = false })
lead-denied = (
  _,
  changes (Attach 0 acl acl (Access but_150)) refl (attached [] 0 0 [] [] acl acl (Access but_150) (none-in acl) (omega arith) refl refl refl (omega arith)) refl,
  (
    _,
    takes call_150 refl refl (taken_150 _ (omega arith) refl) refl,
    (
      _,
      has_turn 0 1 (outcomes.Refused notes.Nothing (Denied 0)) (new_entry acl 1 (Access but_150)) refl (record {
        entry = refl;
        first = refl;
        call = form_of 1 150;
        is_form = refl;
        comes = turns.is_refused (Denied 0) (answers.denies but_150 refl refl refl) refl;
      }) refl,
      refl,
    ),
  ),
)

legal-denied : StaysChain → IsLegalTrace under denied
legal-denied stays = (events-keep stays under initial_state (record { past = denied; row = []; ended = false }) denied_events (course-begins under) lead-denied).legal

-- ---- three calls of which one is sent before the link fails

abbrev failed_events : List Transition
failed_events = accepts (seven 1) ∷ accepts (seven 2) ∷ accepts (seven 3) ∷ sends 1 18 ∷ fails ∷ []

abbrev failed : Trace
failed = Refused 3 cause.Transport ∷ failing

pub taken_7 : (past : Trace) (seq : ℕ) → length (pending_calls past) < 64 → seq ≡ length (taken past) + 1 → MayTake under past (seven seq)
taken_7 past seq few next = record { number = next; few = few; loads = omega arith; copy = (omega arith, normal_number 7 (omega arith) (omega arith)) }

pub ready : (c : ConnState) (seq v : ℕ) → first_at (length (chain c.past).entries) c.row ≡ Some (seq, length (chain c.past).entries) → form 1 seq c.past ≡ Some (form_of seq v)
    → 18 ≡ HEADER_LEN + length (payload table (form_of seq v)) → IsReady under c seq 18
ready c seq v first is long = record { first = first; sent = form_of seq v; is_form = is; long = long }

pub long-7 : (seq : ℕ) → 18 ≡ HEADER_LEN + length (payload table (form_of seq 7))
unfolding varint groups
long-7 seq = refl

lead-failed : AreTransitions under initial_state failed_events (record { past = failed; row = []; ended = true })
lead-failed = (
  _,
  takes (seven 1) refl refl (taken_7 _ 1 (omega arith) refl) refl,
  (
    _,
    takes (seven 2) refl refl (taken_7 _ 2 (omega arith) refl) refl,
    (
      _,
      takes (seven 3) refl refl (taken_7 _ 3 (omega arith) refl) refl,
      (_, is_sent 1 18 refl refl (ready _ 1 7 refl refl (long-7 1)) refl, (_, link_failed refl refl, refl)),
    ),
  ),
)

legal-failed : StaysChain → IsLegalTrace under failed
legal-failed stays = (events-keep stays under initial_state (record { past = failed; row = []; ended = true }) failed_events (course-begins under) lead-failed).legal
