-- A line leads an open connection to one next state, if the tickets that it draws are in turn.
use Rattle.std.proofs.Common.{◌≡◌, ℕ, ◌<◌, ◌⊎◌, inl, inr, List, [], ◌∷◌, ◌++◌, length, refl, sym, ap, ◌∙◌, subst, arith}
use Rattle.std.specs.Prelude.{None, Option, Some}
use Rattle.mrpc_base.specs.Heap.{races_with}
use Rattle.engine_core.specs.Moves.{first_at}
use Rattle.engine_core.specs.declared.op.Op.{Op}
use Rattle.engine_core.specs.declared.outcome.Outcome.{Outcome}
use Rattle.engine_core.specs.Chains.{Entry}
use Rattle.engine_core.specs.declared.call_row.TheConstants.{MAX_CALLS}
use Rattle.graph_form.specs.Malformed.{AreReadBy}
use Rattle.replay_script.specs.Lines.{op_in}
use Rattle.replay_script.specs.declared.script.ScriptLine.{ScriptLine}
use Rattle.replay_script.specs.declared.script.ScriptLine.TheVariants as line
use Rattle.replay_script.specs.declared.script.Script.{Script}
use Rattle.call_history.specs.Trace.{Trace, chain, pending_calls}
use Rattle.call_history.specs.Draining.{HasDrained}
use Rattle.call_history.specs.Transitions.{IsTransition, ConnState, IsEntryTurn, IsValidState, accepts, operates, sends, shows, trace_after_turn}
use Rattle.call_history.specs.Transitions.{turns, turns_away, takes, is_away as turned_away, changes, rises}
use Rattle.call_history.specs.Transitions.{stays as stays_so, has_turn as comes_round, is_sent as goes_out, link_failed}
use Rattle.call_history.specs.Loads.{IsLoaded, Loads}
use Rattle.call_history.specs.Rules.{JudgeContext}
use Rattle.call_history.specs.declared.happening.AcceptedCall.{AcceptedCall}
use Rattle.replay_run.specs.Follows.{OpenConnection, script_context, with_state, read_at, submitted, IsLineEffect, stores, races, submits, is_away, operates_on, advances_clock, is_idle, has_turn, none_ready, is_sent, drains}
use Rattle.replay_run.proofs.Adds.{adds-nothing}
use Rattle.replay_run.proofs.NextTicket.{IsInTurn}
use Rattle.replay_run.proofs.OneCall.{accepts-may, away-full, calls-alike}
use Rattle.replay_run.proofs.OneDrain.{AllTurn, drains-alike, no-first, none-sent, of_turn, one-ready, sends-ready, turn-alike}
use Rattle.replay_run.proofs.OneLaws.{OneLaws}
use Rattle.replay_run.proofs.Pasts.{IsAny}

-- ---- the effect of a line of each form

pub record Submits (s : Script) (method number addr : ℕ) (old new : OpenConnection) : Type 0 where
  pub call : AcceptedCall
  pub own : Loads
  pub course : ConnState
  pub method_is : call.method ≡ method
  pub number_is : call.number ≡ number
  pub addr_is : call.addr ≡ addr
  pub after : call.after ≡ length old.stores
  pub reads : AreReadBy (read_at old.stores old.races) 1 own
  pub loaded : IsLoaded s.table old.words s.loads call own
  pub comes : IsTransition (script_context s old.conn) old.course (accepts call) course
  pub effect : new ≡ submitted old own course

pub record TurnsAway (s : Script) (method number addr : ℕ) (old new : OpenConnection) : Type 0 where
  pub course : ConnState
  pub comes : IsTransition (script_context s old.conn) old.course (turns_away method number addr) course
  pub effect : new ≡ submitted old [] course

pub record Operates (s : Script) (step : Option Op) (old new : OpenConnection) : Type 0 where
  pub op : Op
  pub is : step ≡ Some op
  pub course : ConnState
  pub comes : IsTransition (script_context s old.conn) old.course (operates op) course
  pub effect : new ≡ with_state old course

pub record Shows (s : Script) (ms : ℕ) (old new : OpenConnection) : Type 0 where
  pub course : ConnState
  pub comes : IsTransition (script_context s old.conn) old.course (shows ms) course
  pub effect : new ≡ with_state old course

pub record Idles (position : ℕ) (old new : OpenConnection) : Type 0 where
  pub empty : first_at position old.course.row ≡ None
  pub effect : new ≡ old

pub record HasTurnAt (s : Script) (position : ℕ) (old new : OpenConnection) : Type 0 where
  pub seq : ℕ
  pub outcome : Outcome
  pub course : ConnState
  pub comes : IsTransition (script_context s old.conn) old.course (turns position seq outcome) course
  pub effect : new ≡ with_state old course

pub record SendsOne (s : Script) (old new : OpenConnection) : Type 0 where
  pub seq : ℕ
  pub bytes : ℕ
  pub course : ConnState
  pub comes : IsTransition (script_context s old.conn) old.course (sends seq bytes) course
  pub effect : new ≡ with_state old course

pub record DrainsAll (s : Script) (old new : OpenConnection) : Type 0 where
  pub course : ConnState
  pub drained : HasDrained (script_context s old.conn) old.course course
  pub effect : new ≡ with_state old course

abbrev pub DoesBy : Script → ScriptLine → OpenConnection → OpenConnection → Type 0
DoesBy s (line.Conn conn words) old new = ⊥
DoesBy s (line.Store conn place value) old new = new ≡ record old { stores = old.stores ++ (place, value) ∷ [] }
DoesBy s (line.Race conn load place value) old new = new ≡ record old { races = races_with old.races (record { load = load; place = place; value = value }) }
DoesBy s (line.Submit conn method number addr) old new = Submits s method number addr old new ⊎ TurnsAway s method number addr old new
DoesBy s (line.Attach conn at name policy) old new = Operates s (op_in s.declared.policies (line.Attach conn at name policy)) old new
DoesBy s (line.Detach conn name) old new = Operates s (op_in s.declared.policies (line.Detach conn name)) old new
DoesBy s (line.Upgrade conn name policy) old new = Operates s (op_in s.declared.policies (line.Upgrade conn name policy)) old new
DoesBy s (line.Moment conn ms) old new = Shows s ms old new
DoesBy s (line.Turn conn position) old new = Idles position old new ⊎ HasTurnAt s position old new
DoesBy s (line.Send conn) old new = Idles (length (chain old.course.past).entries) old new ⊎ SendsOne s old new
DoesBy s (line.Drain conn) old new = DrainsAll s old new

operates-by : (s : Script) (l : ScriptLine) (step : Op) (old new : OpenConnection) → op_in s.declared.policies l ≡ Some step → Operates s (op_in s.declared.policies l) old new → DoesBy s l old new
operates-by s (line.Conn conn words) step old new is does = let none : None ≡ Some step = is in absurd cc
operates-by s (line.Store conn place value) step old new is does = let none : None ≡ Some step = is in absurd cc
operates-by s (line.Race conn load place value) step old new is does = let none : None ≡ Some step = is in absurd cc
operates-by s (line.Submit conn method number addr) step old new is does = let none : None ≡ Some step = is in absurd cc
operates-by s (line.Attach conn at name policy) step old new is does = does
operates-by s (line.Detach conn name) step old new is does = does
operates-by s (line.Upgrade conn name policy) step old new is does = does
operates-by s (line.Moment conn ms) step old new is does = let none : None ≡ Some step = is in absurd cc
operates-by s (line.Turn conn position) step old new is does = let none : None ≡ Some step = is in absurd cc
operates-by s (line.Send conn) step old new is does = let none : None ≡ Some step = is in absurd cc
operates-by s (line.Drain conn) step old new is does = let none : None ≡ Some step = is in absurd cc

pub does-by : (s : Script) (l : ScriptLine) (old new : OpenConnection) → IsLineEffect s l old new → DoesBy s l old new
does-by s l old new (stores place value is makes) = subst (λ k. DoesBy s k old new) (sym is) makes
does-by s l old new (races load place value is makes) = subst (λ k. DoesBy s k old new) (sym is) makes
does-by s l old new (submits call own c is after read loaded comes makes) = subst (λ k. DoesBy s k old new) (sym is) (inl (record {
  call = call;
  own = own;
  course = c;
  method_is = refl;
  number_is = refl;
  addr_is = refl;
  after = after;
  reads = read;
  loaded = loaded;
  comes = comes;
  effect = makes;
}))
does-by s l old new (is_away method number addr c is comes makes) = subst (λ k. DoesBy s k old new) (sym is) (inr (record { course = c; comes = comes; effect = makes }))
does-by s l old new (operates_on step c is comes makes) = operates-by s l step old new is (record { op = step; is = is; course = c; comes = comes; effect = makes })
does-by s l old new (advances_clock ms c is comes makes) = subst (λ k. DoesBy s k old new) (sym is) (record { course = c; comes = comes; effect = makes })
does-by s l old new (is_idle position is empty makes) = subst (λ k. DoesBy s k old new) (sym is) (inl (record { empty = empty; effect = makes }))
does-by s l old new (has_turn position seq outcome c is comes makes) =
    subst (λ k. DoesBy s k old new) (sym is) (inr (record { seq = seq; outcome = outcome; course = c; comes = comes; effect = makes }))
does-by s l old new (none_ready is empty makes) = subst (λ k. DoesBy s k old new) (sym is) (inl (record { empty = empty; effect = makes }))
does-by s l old new (is_sent seq bytes c is comes makes) = subst (λ k. DoesBy s k old new) (sym is) (inr (record { seq = seq; bytes = bytes; course = c; comes = comes; effect = makes }))
does-by s l old new (drains c is drained makes) = subst (λ k. DoesBy s k old new) (sym is) (record { course = c; drained = drained; effect = makes })

-- ---- turns

record TurnsOne (u : JudgeContext) (old : ConnState) (position seq : ℕ) (outcome : Outcome) (new : ConnState) : Type 0 where
  entry : Entry
  turn : IsEntryTurn u old position seq outcome entry
  effect : new ≡ trace_after_turn entry seq outcome old

turns-one : (u : JudgeContext) (old : ConnState) (position seq : ℕ) (outcome : Outcome) (new : ConnState) → IsTransition u old (turns position seq outcome) new → TurnsOne u old position seq outcome new
turns-one u old position seq outcome new (takes other is going may makes) = absurd cc
turns-one u old position seq outcome new (turned_away m n a is full makes) = absurd cc
turns-one u old position seq outcome new (changes step is made makes) = absurd cc
turns-one u old position seq outcome new (rises ms is later makes) = absurd cc
turns-one u old position seq outcome new (stays_so ms is earlier makes) = absurd cc
turns-one u old position seq outcome new (comes_round p n o e is turn makes) =
    let at : p ≡ position = cc in
    let number : n ≡ seq = cc in
    let result : o ≡ outcome = cc in
    record {
      entry = e;
      turn = subst (λ k. IsEntryTurn u old k seq outcome e) at (subst (λ k. IsEntryTurn u old p k outcome e) number (subst (λ (k : Outcome). IsEntryTurn u old p n k e) result turn));
      effect = makes ∙ ap (λ k. trace_after_turn e k o old) number ∙ ap (λ (k : Outcome). trace_after_turn e seq k old) result;
    }
turns-one u old position seq outcome new (goes_out s b is going ready makes) = absurd cc
turns-one u old position seq outcome new (link_failed is makes) = absurd cc

-- ---- one line

module _ (laws : OneLaws) (s : Script) (told : (tenant window : ℕ) → List ℕ) (old : OpenConnection) (course : IsValidState (script_context s old.conn) old.course) where
  abbrev u : JudgeContext
  u = script_context s old.conn

  abbrev TurnsInTurn : Trace → Type 0
  TurnsInTurn past = IsInTurn told old.course.past past

  submits-alike : (method number addr : ℕ) (x y : OpenConnection) → Submits s method number addr old x → Submits s method number addr old y → x ≡ y
  submits-alike method number addr x y first second =
      let alike = calls-alike laws s.table old.words s.loads (read_at old.stores old.races) u old.course first.call second.call first.own second.own
      (accepts-may u old.course first.call first.course first.comes) (accepts-may u old.course second.call second.course second.comes)
      (first.method_is ∙ sym second.method_is) (first.number_is ∙ sym second.number_is) (first.addr_is ∙ sym second.addr_is) (first.after ∙ sym second.after)
      first.reads second.reads first.loaded second.loaded in
      let ends : first.course ≡ second.course =
      laws.end u old.course first.course second.course (accepts first.call) first.comes
      (subst (λ (call : AcceptedCall). IsTransition u old.course (accepts call) second.course) (sym alike.1) second.comes) in
      first.effect ∙ ap (λ (own : Loads). submitted old own first.course) alike.0 ∙ ap (λ (c : ConnState). submitted old second.own c) ends ∙ sym second.effect

  never-both : (method number addr : ℕ) (x y : OpenConnection) → Submits s method number addr old x → TurnsAway s method number addr old y → ⊥
  never-both method number addr x y first second =
      let few : length (pending_calls old.course.past) < MAX_CALLS = (accepts-may u old.course first.call first.course first.comes).few in
      let full : length (pending_calls old.course.past) ≡ MAX_CALLS = away-full u old.course method number addr second.course second.comes in
      omega (arith, few, full)

  submission-alike : (method number addr : ℕ) (x y : OpenConnection) → Submits s method number addr old x ⊎ TurnsAway s method number addr old x
      → Submits s method number addr old y ⊎ TurnsAway s method number addr old y → x ≡ y
  submission-alike method number addr x y (inl first) (inl second) = submits-alike method number addr x y first second
  submission-alike method number addr x y (inl first) (inr second) = absurd (never-both method number addr x y first second)
  submission-alike method number addr x y (inr first) (inl second) = absurd (never-both method number addr y x second first)
  submission-alike method number addr x y (inr first) (inr second) =
      first.effect ∙ ap (submitted old []) (laws.end u old.course first.course second.course (turns_away method number addr) first.comes second.comes) ∙ sym second.effect

  operates-alike : (step : Option Op) (x y : OpenConnection) → Operates s step old x → Operates s step old y → x ≡ y
  operates-alike step x y first second =
      let both : Some first.op ≡ Some second.op = sym first.is ∙ second.is in
      let same : second.op ≡ first.op = cc in
      first.effect
      ∙ ap (with_state old) (laws.end u old.course first.course second.course (operates first.op) first.comes
      (subst (λ (o : Op). IsTransition u old.course (operates o) second.course) same second.comes))
      ∙ sym second.effect

  course-turn : (c : ConnState) (x : OpenConnection) → x ≡ with_state old c → TurnsInTurn x.course.past → TurnsInTurn c.past
  course-turn c x makes turn = subst (λ (o : OpenConnection). TurnsInTurn o.course.past) makes turn

  turn-at-alike : (position : ℕ) (x y : OpenConnection) → HasTurnAt s position old x → HasTurnAt s position old y → TurnsInTurn x.course.past → TurnsInTurn y.course.past → x ≡ y
  turn-at-alike position x y first second turn-x turn-y =
      let one = turns-one u old.course position first.seq first.outcome first.course first.comes in
      let two = turns-one u old.course position second.seq second.outcome second.course second.comes in
      let alike : of_turn second.seq second.outcome two.entry ≡ of_turn first.seq first.outcome one.entry =
      turn-alike laws u told old.course.past old.course position first.seq second.seq first.outcome second.outcome
      one.entry two.entry course (adds-nothing IsAny old.course.past) one.turn two.turn
      (subst (λ (c : ConnState). TurnsInTurn c.past) one.effect (course-turn first.course x first.effect turn-x))
      (subst (λ (c : ConnState). TurnsInTurn c.past) two.effect (course-turn second.course y second.effect turn-y)) in
      first.effect ∙ ap (with_state old) (one.effect ∙ ap (λ (k : AllTurn). trace_after_turn k.2 k.0 k.1 old.course) (sym alike) ∙ sym two.effect) ∙ sym second.effect

  turning-alike : (position : ℕ) (x y : OpenConnection) → Idles position old x ⊎ HasTurnAt s position old x → Idles position old y ⊎ HasTurnAt s position old y
      → TurnsInTurn x.course.past → TurnsInTurn y.course.past → x ≡ y
  turning-alike position x y (inl first) (inl second) turn-x turn-y = first.effect ∙ sym second.effect
  turning-alike position x y (inl first) (inr second) turn-x turn-y =
      let two = turns-one u old.course position second.seq second.outcome second.course second.comes in
      absurd (no-first (second.seq, position) (sym first.empty ∙ two.turn.first))
  turning-alike position x y (inr first) (inl second) turn-x turn-y =
      let one = turns-one u old.course position first.seq first.outcome first.course first.comes in
      absurd (no-first (first.seq, position) (sym second.empty ∙ one.turn.first))
  turning-alike position x y (inr first) (inr second) turn-x turn-y = turn-at-alike position x y first second turn-x turn-y

  abbrev transport : ℕ
  transport = length (chain old.course.past).entries

  sending-alike : (x y : OpenConnection) → Idles transport old x ⊎ SendsOne s old x → Idles transport old y ⊎ SendsOne s old y → x ≡ y
  sending-alike x y (inl first) (inl second) = first.effect ∙ sym second.effect
  sending-alike x y (inl first) (inr second) =
      absurd (no-first (second.seq, transport) (sym first.empty ∙ (sends-ready u old.course second.seq second.bytes second.course second.comes).first))
  sending-alike x y (inr first) (inl second) =
      absurd (no-first (first.seq, transport) (sym second.empty ∙ (sends-ready u old.course first.seq first.bytes first.course first.comes).first))
  sending-alike x y (inr first) (inr second) =
      let alike = one-ready u old.course old.course refl first.seq second.seq first.bytes second.bytes (sends-ready u old.course first.seq first.bytes first.course first.comes)
      (sends-ready u old.course second.seq second.bytes second.course second.comes) in
      first.effect
      ∙ ap (with_state old) (laws.end u old.course first.course second.course (sends first.seq first.bytes) first.comes
      (subst (λ n. IsTransition u old.course (sends first.seq n) second.course) (sym alike.long)
      (subst (λ n. IsTransition u old.course (sends n second.bytes) second.course) (sym alike.number) second.comes)))
      ∙ sym second.effect

  draining-alike : (x y : OpenConnection) → DrainsAll s old x → DrainsAll s old y → TurnsInTurn x.course.past → TurnsInTurn y.course.past → x ≡ y
  draining-alike x y first second turn-x turn-y =
      let same : first.course ≡ second.course = elim (drains-alike laws u told old.course.past old.course first.course second.course course (adds-nothing IsAny old.course.past)
      first.drained.begins second.drained.begins (course-turn first.course x first.effect turn-x) (course-turn second.course y second.effect turn-y)) [
        | inl more ↦ sym (none-sent u first.course second.course first.drained.none_ready more)
        | inr more ↦ none-sent u second.course first.course second.drained.none_ready more
      ] in
      first.effect ∙ ap (with_state old) same ∙ sym second.effect

  lines-alike : (l : ScriptLine) (x y : OpenConnection) → DoesBy s l old x → DoesBy s l old y → TurnsInTurn x.course.past → TurnsInTurn y.course.past → x ≡ y
  lines-alike (line.Conn conn words) x y first second turn-x turn-y = absurd first
  lines-alike (line.Store conn place value) x y first second turn-x turn-y = first ∙ sym second
  lines-alike (line.Race conn load place value) x y first second turn-x turn-y = first ∙ sym second
  lines-alike (line.Submit conn method number addr) x y first second turn-x turn-y = submission-alike method number addr x y first second
  lines-alike (line.Attach conn at name policy) x y first second turn-x turn-y = operates-alike (op_in s.declared.policies (line.Attach conn at name policy)) x y first second
  lines-alike (line.Detach conn name) x y first second turn-x turn-y = operates-alike (op_in s.declared.policies (line.Detach conn name)) x y first second
  lines-alike (line.Upgrade conn name policy) x y first second turn-x turn-y = operates-alike (op_in s.declared.policies (line.Upgrade conn name policy)) x y first second
  lines-alike (line.Moment conn ms) x y first second turn-x turn-y =
      first.effect ∙ ap (with_state old) (laws.end u old.course first.course second.course (shows ms) first.comes second.comes) ∙ sym second.effect
  lines-alike (line.Turn conn position) x y first second turn-x turn-y = turning-alike position x y first second turn-x turn-y
  lines-alike (line.Send conn) x y first second turn-x turn-y = sending-alike x y first second
  lines-alike (line.Drain conn) x y first second turn-x turn-y = draining-alike x y first second turn-x turn-y

  pub does-alike : (l : ScriptLine) (x y : OpenConnection) → IsLineEffect s l old x → IsLineEffect s l old y → TurnsInTurn x.course.past → TurnsInTurn y.course.past → x ≡ y
  does-alike l x y first second turn-x turn-y = lines-alike l x y (does-by s l old x first) (does-by s l old y second) turn-x turn-y
