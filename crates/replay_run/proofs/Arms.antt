-- The results of the arms of a line on its connection.
use Rattle.std.proofs.Common.{◌≡◌, ◌≤◌, ℕ, List, refl, sym, ◌∙◌, subst}
use Rattle.std.specs.Prelude.{Err, IfErr, Ok, OnOk, Option, Result, Some}
use Rattle.mrpc_base.specs.Heap.{Heap}
use Rattle.mrpc_base.specs.Quota.{Counters}
use Rattle.mrpc_table.specs.declared.limits.TheConstants.{MAX_HEAP, MIN_HEAP}
use Rattle.engine_core.specs.declared.op.Op.{Op}
use Rattle.replay_script.specs.Lines.{op_in}
use Rattle.replay_script.specs.declared.script.ScriptLine.{ScriptLine}
use Rattle.replay_script.specs.declared.script.ScriptLine.TheVariants as line
use Rattle.replay_script.specs.declared.script.Script.{Script}
use Rattle.replay_run.specs.Kept.{AreInOrder, IsBrokenOn, IsBrokenFor, IsEffectFor, IsDoneOn, IsDoneFor, IsRaceQueued, IsOfScript}
use Rattle.replay_run.specs.Kept.{IsBetweenSubmissions, IsStored, HasKept, MayRun, MayOperate, OnRan, IsStoppedOn, IsStoppedFor}
use Rattle.replay_run.specs.declared.connection.RunConnection.{RunConnection}
use Rattle.replay_run.specs.declared.replay_error.ReplayError.{ReplayError}
use Rattle.replay_run.specs.declared.replay_error.ReplayError.TheVariants.{Memory, Out, Wire}
use Rattle.replay_run.proofs.Quiet.{IsQuiet, quiet-ran, race-does, store-does, stored_in}
use Rattle.replay_run.proofs.Races.{in_order-with}

pub no-wire : (result : Result (Unit {0}) ReplayError) → IfErr result (λ stop. stop ≡ Memory) → result ≡ Err Wire → ⊥
no-wire (Ok value) memory is = cc
no-wire (Err Wire) memory is = cc
no-wire (Err Memory) memory is = cc
no-wire (Err Out) memory is = cc

pub no-out : (result : Result (Unit {0}) ReplayError) → IfErr result (λ stop. stop ≡ Memory) → result ≡ Err Out → ⊥
no-out (Ok value) memory is = cc
no-out (Err Wire) memory is = cc
no-out (Err Memory) memory is = cc
no-out (Err Out) memory is = cc

on-ok : {P Q : Type 0} (result : Result (Unit {0}) ReplayError) → (P → Q) → OnOk result P → OnOk result Q
on-ok (Ok value) f p = f p
on-ok (Err stop) f p = tt

-- ---- stores and races

stored-keeps : (c : RunConnection) (heap : Heap) (place value : ℕ) → IsBetweenSubmissions c.heap → IsStored place value c.heap heap → HasKept c (stored_in c heap)
stored-keeps c heap place value rests stored = record {
  same = record { conn = refl; table = refl; limit = refl };
  rests = record {
    least = subst (λ n. MIN_HEAP ≤ n) (sym stored.size) rests.least;
    greatest = subst (λ n. n ≤ MAX_HEAP) (sym stored.size) rests.greatest;
    begun = stored.begun ∙ rests.begun;
    in_order = subst AreInOrder (sym stored.races) rests.in_order;
  };
  told = refl;
}

listed-keeps : (c : RunConnection) (heap : Heap) (load place value : ℕ) → IsBetweenSubmissions c.heap → IsRaceQueued load place value c.heap heap → HasKept c (stored_in c heap)
listed-keeps c heap load place value rests listed = record {
  same = record { conn = refl; table = refl; limit = refl };
  rests = record {
    least = subst (λ n. MIN_HEAP ≤ n) (sym listed.size) rests.least;
    greatest = subst (λ n. n ≤ MAX_HEAP) (sym listed.size) rests.greatest;
    begun = listed.begun ∙ rests.begun;
    in_order = subst AreInOrder (sym listed.races)
        (in_order-with c.heap.races (record { load = load; place = place; value = value }) rests.in_order);
  };
  told = refl;
}

module _ (s : Script) (l : ScriptLine) (c : RunConnection) (quotas : Counters) (wire : Option (List ℕ)) where
  pub store-ran : (heap : Heap) (place value : ℕ) (result : Result (Unit {0}) ReplayError) (Broken : Type 0) → l ≡ line.Store c.calls.conn place value → IsBetweenSubmissions c.heap
      → OnOk result (IsStored place value c.heap heap) → IfErr result (λ stop. stop ≡ Memory)
      → OnRan result (IsDoneOn s l c (stored_in c heap) quotas quotas wire wire) Broken (IsStoppedOn s l c wire wire) ⊥
  store-ran heap place value result Broken is rests stored memory =
      quiet-ran s l c (stored_in c heap) quotas wire result Broken (subst IsQuiet (sym is) tt)
      (on-ok result (λ (st : IsStored place value c.heap heap). store-does s l c heap place value is st) stored)
      (on-ok result (λ (st : IsStored place value c.heap heap). stored-keeps c heap place value rests st) stored) memory

  pub race-ran : (heap : Heap) (load place value : ℕ) (result : Result (Unit {0}) ReplayError) (Broken : Type 0) → l ≡ line.Race c.calls.conn load place value → IsBetweenSubmissions c.heap
      → OnOk result (IsRaceQueued load place value c.heap heap) → IfErr result (λ stop. stop ≡ Memory)
      → OnRan result (IsDoneOn s l c (stored_in c heap) quotas quotas wire wire) Broken (IsStoppedOn s l c wire wire) ⊥
  race-ran heap load place value result Broken is rests listed memory =
      quiet-ran s l c (stored_in c heap) quotas wire result Broken (subst IsQuiet (sym is) tt)
      (on-ok result (λ (li : IsRaceQueued load place value c.heap heap). race-does s l c heap load place value is li) listed)
      (on-ok result (λ (li : IsRaceQueued load place value c.heap heap). listed-keeps c heap load place value rests li) listed) memory

  -- a line of this kind, which neither turns nor sends
  pub change-ran : (d : RunConnection) (result : Result (Unit {0}) ReplayError) (Broken : Type 0) (Is : Script → ScriptLine → Type 0) → IsQuiet l → IsOfScript s c → Is s l
      → OnOk result (IsEffectFor Is c d) → OnOk result (HasKept c d) → IfErr result (λ stop. stop ≡ Memory)
      → OnRan result (IsDoneOn s l c d quotas quotas wire wire) Broken (IsStoppedOn s l c wire wire) ⊥
  change-ran d result Broken Is quiet of_script is does keeps memory =
      quiet-ran s l c d quotas wire result Broken quiet (on-ok result (λ (does_where : IsEffectFor Is c d). does_where s l of_script is) does) keeps memory

-- ---- operators

abbrev pub IsOperating : ScriptLine → Type 0
IsOperating (line.Attach conn at name policy) = Unit {0}
IsOperating (line.Detach conn name) = Unit {0}
IsOperating (line.Upgrade conn name policy) = Unit {0}
IsOperating _ = ⊥

pub operating-quiet : (l : ScriptLine) → IsOperating l → IsQuiet l
operating-quiet (line.Conn conn words) is = absurd is
operating-quiet (line.Store conn place value) is = absurd is
operating-quiet (line.Race conn load place value) is = absurd is
operating-quiet (line.Submit conn method number addr) is = absurd is
operating-quiet (line.Attach conn at name policy) is = tt
operating-quiet (line.Detach conn name) is = tt
operating-quiet (line.Upgrade conn name policy) is = tt
operating-quiet (line.Moment conn ms) is = absurd is
operating-quiet (line.Turn conn at) is = absurd is
operating-quiet (line.Send conn) is = absurd is
operating-quiet (line.Drain conn) is = absurd is

abbrev pub MayTakeStep : Script → ScriptLine → RunConnection → Type 0
MayTakeStep s l c = (step : Op) × (op_in s.declared.policies l ≡ Some step) × MayOperate step c.calls

pub may-operate : (s : Script) (l : ScriptLine) (c : RunConnection) → IsOperating l → MayRun s l c → MayTakeStep s l c
may-operate s (line.Conn conn words) c is may = absurd is
may-operate s (line.Store conn place value) c is may = absurd is
may-operate s (line.Race conn load place value) c is may = absurd is
may-operate s (line.Submit conn method number addr) c is may = absurd is
may-operate s (line.Attach conn at name policy) c is may = may
may-operate s (line.Detach conn name) c is may = may
may-operate s (line.Upgrade conn name policy) c is may = may
may-operate s (line.Moment conn ms) c is may = absurd is
may-operate s (line.Turn conn at) c is may = absurd is
may-operate s (line.Send conn) c is may = absurd is
may-operate s (line.Drain conn) c is may = absurd is

-- ---- turns, sends, drains

pub done-at : (s : Script) (l k : ScriptLine) (c d : RunConnection) (q q' : Counters) (w w' : Option (List ℕ)) → l ≡ k → IsDoneOn s k c d q q' w w' → IsDoneOn s l c d q q' w w'
done-at s l k c d q q' w w' is done = subst (λ (m : ScriptLine). IsDoneOn s m c d q q' w w') (sym is) done

pub ran-at : (s : Script) (l : ScriptLine) (line_on : ℕ → ScriptLine) (c d : RunConnection) (q q' : Counters)
    (w w' : Option (List ℕ)) (result : Result (Unit {0}) ReplayError) → IsOfScript s c → l ≡ line_on c.calls.conn
    → OnRan result (IsDoneFor line_on c d q q' w w') (IsBrokenFor line_on c d q q' w w') (IsStoppedFor line_on c w w') ⊥
    → OnRan result (IsDoneOn s l c d q q' w w') (IsBrokenOn s l c d q q' w w') (IsStoppedOn s l c w w') ⊥
ran-at s l line_on c d q q' w w' (Ok value) of_script is ran = subst (λ (m : ScriptLine). IsDoneOn s m c d q q' w w') (sym is) (ran s of_script)
ran-at s l line_on c d q q' w w' (Err Wire) of_script is ran = subst (λ (m : ScriptLine). IsBrokenOn s m c d q q' w w') (sym is) (ran s of_script)
ran-at s l line_on c d q q' w w' (Err Memory) of_script is ran = subst (λ (m : ScriptLine). IsStoppedOn s m c w w') (sym is) (ran s of_script)
ran-at s l line_on c d q q' w w' (Err Out) of_script is ran = ran
