-- The result of a line after its events are written.
use Rattle.std.proofs.Common.{◌≡◌, ◌≢◌, ℕ, false, List, refl, sym, subst, arith}
use Rattle.std.specs.Prelude.{Err, IfErr, Ok, OnErr, OnOk, Option, Result}
use Rattle.std.specs.Io.KnownBytes.{Appends}
use Rattle.mrpc_base.specs.Failures.{HasCause}
use Rattle.mrpc_base.specs.Quota.{Counters}
use Rattle.replay_script.specs.Lines.{is_conn}
use Rattle.replay_script.specs.declared.script.ScriptLine.{ScriptLine}
use Rattle.replay_script.specs.declared.script.ScriptLine.TheVariants as line
use Rattle.replay_script.specs.declared.script.Script.{Script}
use Rattle.conn_core.specs.Connections.{IsConnection}
use Rattle.replay_run.specs.Kept.{IsBrokenOn, IsDoneOn, IsDoneAndWritten, AreEventsWritten, OnRan, IsStoppedAt, IsPrefixWritten, after_failure, after_line, unwritten}
use Rattle.replay_run.specs.declared.connection.RunConnection.{RunConnection}
use Rattle.replay_run.specs.declared.replay_error.ReplayError.{ReplayError}
use Rattle.replay_run.specs.declared.replay_error.ReplayError.TheVariants.{Memory, Out, Wire}

module _ (s : Script) (l : ScriptLine) (c mid d : RunConnection) (quotas quotas' : Counters) (out out' wire wire' : Option (List ℕ)) where
  -- the line was done
  pub done-told : (result : Result (Unit {0}) ReplayError) (Broken : Type 0) → IsDoneOn s l c mid quotas quotas' wire wire' → IsConnection mid.calls → OnOk result (AreEventsWritten mid d)
      → OnOk result (Appends out out' (unwritten s.table mid)) → OnErr result (IsPrefixWritten out out' (unwritten s.table mid)) → result ≢ Err Wire
      → OnRan result (IsDoneAndWritten s l c d quotas quotas' out out' wire wire') Broken (IsStoppedAt s l c out out' wire wire') (IsStoppedAt s l c out out' wire wire')
  done-told (Ok value) Broken done sound told lines front no_wire =
      record { mid = mid; done = done; told = told; lines = lines; sound = subst IsConnection (sym told.calls) sound }
  done-told (Err Wire) Broken done sound told lines front no_wire = absurd (no_wire refl)
  done-told (Err Memory) Broken done sound told lines front no_wire = after_line mid quotas quotas' done front
  done-told (Err Out) Broken done sound told lines front no_wire = after_line mid quotas quotas' done front

  -- a send failed, and then writing stopped
  pub broken-stopped : (stop : ReplayError) (Done Broken : Type 0) → IsBrokenOn s l c mid quotas quotas' wire wire' → IsPrefixWritten out out' (unwritten s.table mid) → stop ≢ Wire
      → OnRan {T = Unit {0}} (Err stop) Done Broken (IsStoppedAt s l c out out' wire wire') (IsStoppedAt s l c out out' wire wire')
  broken-stopped Wire Done Broken broken front no_wire = absurd (no_wire refl)
  broken-stopped Memory Done Broken broken front no_wire = after_failure mid quotas quotas' broken front
  broken-stopped Out Done Broken broken front no_wire = after_failure mid quotas quotas' broken front

pub cause-none : {Failing : Type 0} (before now : ℕ) → (Failing → ⊥) → now ≡ before → HasCause Failing before now
cause-none before now none same = record { rose = λ f. absurd (none f); stays = λ _. same; never_falls = omega arith }

-- ---- a line of a script

-- it stopped out of memory
pub ran-stopped : (stop : ReplayError) (Done Broken Stopped : Type 0) → stop ≡ Memory → Stopped → OnRan {T = Unit {0}} (Err stop) Done Broken Stopped Stopped
ran-stopped Wire Done Broken Stopped is stopped = cc
ran-stopped Memory Done Broken Stopped is stopped = stopped
ran-stopped Out Done Broken Stopped is stopped = stopped

-- a connection was opened, or there was no memory for it
pub ran-opened : {Opened Done Stopped : Type 0} (Broken : Type 0) (result : Result (Unit {0}) ReplayError) → (Opened → Done) → OnOk result Opened
    → IfErr result (λ stop. stop ≡ Memory) → Stopped → OnRan result Done Broken Stopped Stopped
ran-opened Broken (Ok value) done opened memory stopped = done opened
ran-opened {Done = Done} {Stopped = Stopped} Broken (Err stop) done opened memory stopped =
    ran-stopped stop Done Broken Stopped memory stopped

pub not-conn : (l : ScriptLine) → ((conn words : ℕ) → l ≡ line.Conn conn words → ⊥) → is_conn l ≡ false
not-conn (line.Conn conn words) other = absurd (other conn words refl)
not-conn (line.Store conn place value) other = refl
not-conn (line.Race conn load place value) other = refl
not-conn (line.Submit conn method number addr) other = refl
not-conn (line.Attach conn at name policy) other = refl
not-conn (line.Detach conn name) other = refl
not-conn (line.Upgrade conn name policy) other = refl
not-conn (line.Moment conn ms) other = refl
not-conn (line.Turn conn at) other = refl
not-conn (line.Send conn) other = refl
not-conn (line.Drain conn) other = refl

pub ran-map : {D B M D' B' M' : Type 0} (result : Result (Unit {0}) ReplayError) → (D → D') → (B → B') → (M → M') → OnRan result D B M M → OnRan result D' B' M' M'
ran-map (Ok value) done broken stopped ran = done ran
ran-map (Err Wire) done broken stopped ran = broken ran
ran-map (Err Memory) done broken stopped ran = stopped ran
ran-map (Err Out) done broken stopped ran = stopped ran
