-- After a line the loads of a connection are still those of its calls.
use Rattle.std.proofs.Common.{◌≡◌, ℕ, ◌+◌, List, [], ◌∷◌, ◌++◌, refl, sym, subst}
use Rattle.mrpc_table.specs.declared.table.Table.{Table}
use Rattle.engine_core.specs.Chains.{Entry}
use Rattle.engine_core.specs.declared.outcome.Noted.{Noted}
use Rattle.engine_core.specs.declared.outcome.Noted.TheVariants as notes
use Rattle.engine_core.specs.declared.outcome.Outcome.{Outcome}
use Rattle.engine_core.specs.declared.outcome.Outcome.TheVariants as outcomes
use Rattle.call_history.specs.Trace.{Trace, pending_calls}
use Rattle.call_history.specs.Draining.{TurnsEnding, at_rest, again, HasTurns, is_idle, is_held, redacts, goes, IsPass, is_over, next, begins_again, HasSentSome, none, one, HasPartlyDrained}
use Rattle.call_history.specs.Transitions.{ConnState, IsTransition, Transition, accepts, sends, takes, is_away, changes, rises, stays, has_turn, is_sent, link_failed, trace_after_turn, with_note, refused_for_link}
use Rattle.call_history.specs.Loads.{AreSpelled, IsLoaded, Loads}
use Rattle.call_history.specs.Rules.{JudgeContext}
use Rattle.call_history.specs.declared.happening.Cause.TheVariants as cause
use Rattle.call_history.specs.declared.happening.Happening.TheVariants.{Took, Refused}
use Rattle.call_history.specs.declared.happening.AcceptedCall.{AcceptedCall}
use Rattle.call_history.specs.declared.happening.TookCopy.{TookCopy}
use Rattle.call_history.specs.declared.happening.TookCopy.TheVariants.{Copy, Malformed}

module _ (T : Table) (H limit : ℕ) where
  abbrev pub Spells : Trace → Loads → Type 0
  Spells past loads = AreSpelled T H limit past loads

  -- ---- events without loads

  note-spells : (name : List ℕ) (seq : ℕ) (n : Noted) (past : Trace) (loads : Loads) → Spells past loads → Spells (with_note name seq n past) loads
  note-spells name seq notes.Nothing past loads spelled = spelled
  note-spells name seq (notes.Charged left) past loads spelled = spelled
  note-spells name seq (notes.Drawn window ticket) past loads spelled = spelled
  note-spells name seq notes.Counted past loads spelled = spelled

  turned-spells : (e : Entry) (seq : ℕ) (outcome : Outcome) (c : ConnState) (loads : Loads) → Spells c.past loads → Spells (trace_after_turn e seq outcome c).past loads
  turned-spells e seq (outcomes.Passed n) c loads spelled = note-spells e.name seq n c.past loads spelled
  turned-spells e seq (outcomes.Held left cost) c loads spelled = spelled
  turned-spells e seq (outcomes.Refused n why) c loads spelled = note-spells e.name seq n c.past loads spelled
  turned-spells e seq outcomes.Redacted c loads spelled = spelled

  refused-spells : (calls : List AcceptedCall) (past : Trace) (loads : Loads) → Spells past loads → Spells (refused_for_link calls past) loads
  refused-spells [] past loads spelled = spelled
  refused-spells (call ∷ calls) past loads spelled = refused-spells calls (Refused call.seq cause.Transport ∷ past) loads spelled

  -- a transition that accepts no call
  pub event-spells : (u : JudgeContext) (old : ConnState) (event : Transition) (new : ConnState) (loads : Loads) → ((call : AcceptedCall) → event ≡ accepts call → ⊥) → IsTransition u old event new
      → Spells old.past loads → Spells new.past loads
  event-spells u old event new loads other (takes call is going may makes) spelled = absurd (other call is)
  event-spells u old event new loads other (is_away method number addr is full makes) spelled = subst (λ c. Spells c.past loads) (sym makes) spelled
  event-spells u old event new loads other (changes step is made makes) spelled = subst (λ c. Spells c.past loads) (sym makes) spelled
  event-spells u old event new loads other (rises ms is later makes) spelled = subst (λ c. Spells c.past loads) (sym makes) spelled
  event-spells u old event new loads other (stays ms is earlier makes) spelled = subst (λ c. Spells c.past loads) (sym makes) spelled
  event-spells u old event new loads other (has_turn position seq outcome e is turn makes) spelled =
      subst (λ c. Spells c.past loads) (sym makes) (turned-spells e seq outcome old loads spelled)
  event-spells u old event new loads other (is_sent seq bytes is going ready makes) spelled = subst (λ c. Spells c.past loads) (sym makes) spelled
  event-spells u old event new loads other (link_failed is makes) spelled = subst (λ c. Spells c.past loads) (sym makes) (refused-spells (pending_calls old.past) old.past loads spelled)

  -- ---- drains

  turns-spell : (u : JudgeContext) (position : ℕ) (old : ConnState) (ending : TurnsEnding) (new : ConnState) (loads : Loads)
      → HasTurns u position old ending new → Spells old.past loads → Spells new.past loads
  turns-spell u position old ending new loads (is_idle c empty) spelled = spelled
  turns-spell u position old ending new loads (is_held c seq level cost e turn) spelled = spelled
  turns-spell u position old ending new loads (redacts c seq e turn) spelled = spelled
  turns-spell u position old ending new loads (goes c d other seq outcome e turn done rest) spelled =
      turns-spell u position (trace_after_turn e seq outcome c) other d loads rest (turned-spells e seq outcome c loads spelled)

  passes-spell : (u : JudgeContext) (position : ℕ) (old new : ConnState) (loads : Loads) → IsPass u position old new → Spells old.past loads → Spells new.past loads
  passes-spell u position old new loads (is_over p c end) spelled = spelled
  passes-spell u position old new loads (next p c between d within these rest) spelled =
      passes-spell u (p + 1) between d loads rest (turns-spell u p c at_rest between loads these spelled)
  passes-spell u position old new loads (begins_again p c between d within these rest) spelled =
      passes-spell u 0 between d loads rest (turns-spell u p c again between loads these spelled)

  sends-spell : (u : JudgeContext) (old new : ConnState) (loads : Loads) → HasSentSome u old new → Spells old.past loads → Spells new.past loads
  sends-spell u old new loads (none c) spelled = spelled
  sends-spell u old new loads (one c between d seq bytes comes rest) spelled =
      sends-spell u between d loads rest (event-spells u c (sends seq bytes) between loads (λ call is. cc) comes spelled)

  pub begins-spell : (u : JudgeContext) (old new : ConnState) (loads : Loads) → HasPartlyDrained u old new → Spells old.past loads → Spells new.past loads
  begins-spell u old new loads begins spelled =
      sends-spell u begins.between new loads begins.sent (passes-spell u 0 old begins.between loads begins.passes spelled)

  -- ---- a call that is accepted

  -- an accepted call with a copy of which nothing is known
  abbrev accepted_as : AcceptedCall → TookCopy → ConnState → ConnState
  accepted_as call copy c = elim copy [
    | Copy tree ↦ record c { past = Took call ∷ c.past; row = c.row ++ (call.seq, 0) ∷ [] }
    | Malformed reason place value ↦ record c { past = Refused call.seq cause.Malformed ∷ Took call ∷ c.past }
  ]

  accepted-spells : (call : AcceptedCall) (copy : TookCopy) (c : ConnState) (loads own : Loads) → IsLoaded T H limit call own → Spells c.past loads
      → Spells (accepted_as call copy c).past (loads ++ own)
  accepted-spells call (Copy tree) c loads own loaded spelled = (loads, own, refl, loaded, spelled)
  accepted-spells call (Malformed reason place value) c loads own loaded spelled = (loads, own, refl, loaded, spelled)

  pub taking-spells : (u : JudgeContext) (old : ConnState) (call : AcceptedCall) (new : ConnState) (loads own : Loads) → IsTransition u old (accepts call) new → IsLoaded T H limit call own
      → Spells old.past loads → Spells new.past (loads ++ own)
  taking-spells u old call new loads own (takes other is going may makes) loaded spelled =
      let same : call ≡ other = cc in
      subst (λ c. Spells c.past (loads ++ own)) (sym makes)
      (accepted-spells other other.copy old loads own (subst (λ k. IsLoaded T H limit k own) same loaded) spelled)
  taking-spells u old call new loads own (is_away method number addr is full makes) loaded spelled = cc
  taking-spells u old call new loads own (changes step is made makes) loaded spelled = cc
  taking-spells u old call new loads own (rises ms is later makes) loaded spelled = cc
  taking-spells u old call new loads own (stays ms is earlier makes) loaded spelled = cc
  taking-spells u old call new loads own (has_turn position seq outcome e is turn makes) loaded spelled = cc
  taking-spells u old call new loads own (is_sent seq bytes is going ready makes) loaded spelled = cc
  taking-spells u old call new loads own (link_failed is makes) loaded spelled = cc
