-- The code's own: declarations up to a line `audit`, and what ends them.
use Rattle.std.specs.Prelude.{◌≡◌, ℕ, List, ◌∷◌, ◌++◌, length}
use Rattle.mrpc_table.specs.declared.table.Table.{Table}
use Rattle.policy_declarations.specs.Declarations.{Declared, no_declarations}
use Rattle.script_grammar.specs.declared.fault.ScriptFault.{ScriptFault}
use Rattle.script_grammar.specs.declared.fault.ScriptFault.TheVariants as fault
use Rattle.script_grammar.specs.declared.fault.ScriptReason.{ScriptReason}
use Rattle.audit_check.specs.Inputs.{audit_word, HasDeclarations, IsFaultAfterDeclarations}
use Rattle.audit_check.specs.declared.input.ReadDeclarations.{ReadDeclarations}
use Rattle.audit_check.specs.declared.input.InputStop.{InputStop}
use Rattle.audit_check.specs.declared.input.InputStop.TheVariants.{At, Memory}

pub record AreReadDeclarations (T : Table) (text : List ℕ) (i : ReadDeclarations) : Type 0 where
  pub reads : HasDeclarations T no_declarations text i.declared i.rest.now
  pub rest_is : i.rest.now ≡ audit_word ++ 10 ∷ i.text.now

-- declarations end this many bytes before the end of the text, and this line of the remainder has the fault
pub record IsFaultAtRemainder (T : Table) (text : List ℕ) (left line : ℕ) (reason : ScriptReason) : Type 0 where
  pub declared : Declared
  pub rest : List ℕ
  pub reads : HasDeclarations T no_declarations text declared rest
  pub left_is : left ≡ length rest
  pub stop : IsFaultAfterDeclarations T declared rest line reason

abbrev pub IsInputStopOf : Table → List ℕ → InputStop → Type 0
IsInputStopOf T text (At left line reason) = IsFaultAtRemainder T text left line reason
IsInputStopOf T text Memory = Unit {0}

-- a declaration at the start of this many remaining bytes has a fault
abbrev pub input_stop_of : (left : ℕ) → ScriptFault → InputStop
input_stop_of left (fault.At line reason) = At left line reason
input_stop_of left fault.Memory = Memory
