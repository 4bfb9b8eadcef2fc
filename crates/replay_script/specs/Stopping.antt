-- The code's own: where reading a text ends early.
use Rattle.std.specs.Prelude.{◌≡◌, ℕ, List, length}
use Rattle.mrpc_table.specs.declared.table.Table.{Table}
use Rattle.script_grammar.specs.declared.fault.ScriptFault.{ScriptFault}
use Rattle.script_grammar.specs.declared.fault.ScriptFault.TheVariants as fault
use Rattle.script_grammar.specs.declared.fault.ScriptReason.{ScriptReason}
use Rattle.replay_script.specs.LineReasons.{StateBefore}
use Rattle.replay_script.specs.Texts.{HasReached, IsFirstFaultAt}
use Rattle.replay_script.specs.declared.read.ScriptStop.{ScriptStop}
use Rattle.replay_script.specs.declared.read.ScriptStop.TheVariants as stop

pub record IsStopped (loads : ℕ) (T : Table) (text : List ℕ) (left : ℕ) (at : ℕ) (reason : ScriptReason) : Type 0 where
  pub before : StateBefore
  pub rest : List ℕ
  pub reaches : HasReached loads T text before rest
  pub left_is : left ≡ length rest
  pub stops : IsFirstFaultAt loads T before rest at reason

abbrev pub IsScriptStop : (loads : ℕ) → Table → List ℕ → ScriptStop → Type 0
IsScriptStop loads T text (stop.At left at reason) = IsStopped loads T text left at reason
IsScriptStop loads T text stop.Memory = Unit {0}

abbrev pub stopped : List ℕ → ScriptFault → ScriptStop
stopped rest (fault.At at reason) = stop.At (length rest) at reason
stopped rest fault.Memory = stop.Memory
