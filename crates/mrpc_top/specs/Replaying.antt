-- What `replay` does with a text.
use Rattle.std.specs.Prelude.{ℕ, List, [], Option}
use Rattle.std.specs.Io.KnownBytes.{Appends}
use Rattle.script_grammar.specs.Reasons.{reason_word}
use Rattle.script_grammar.specs.declared.fault.ScriptReason.{ScriptReason}
use Rattle.replay_script.specs.Texts.{IsScriptText, IsScriptFault}
use Rattle.replay_script.specs.declared.script.Script.{Script}
use Rattle.replay_run.specs.Running.{IsFullRun, IsBrokenRun, IsStoppedRun}
use Rattle.text_commands.specs.FaultLines.{HasWrittenPrefix, fault_line}

-- a text is that of a script, which was run whole
abbrev pub HasReplayedText : List ℕ → Option (List ℕ) → Option (List ℕ) → Option (List ℕ) → Option (List ℕ) → Type 0
HasReplayedText text out out' wire wire' = (script : Script) × IsScriptText text script
    × IsFullRun script out out' wire wire'

-- a text is that of a script, which was run up to a send that failed
abbrev pub HasReplayedToFailure : List ℕ → Option (List ℕ) → Option (List ℕ) → Option (List ℕ) → Option (List ℕ)
    → Type 0
HasReplayedToFailure text out out' wire wire' = (script : Script) × IsScriptText text script
    × IsBrokenRun script out out' wire wire'

-- a text has a first fault, and is no script
abbrev pub HasScriptFault : List ℕ → Type 0
HasScriptFault text = (line : ℕ) × (reason : ScriptReason) × IsScriptFault text line reason

-- a text was rejected as a script: its first fault was written
pub record HasRejectedScript (text : List ℕ) (out out' : Option (List ℕ)) : Type 0 where
  pub line : ℕ
  pub reason : ScriptReason
  pub fault : IsScriptFault text line reason
  pub written : Appends out out' (fault_line line (reason_word reason))

-- A replay of a text ended early, and its output is a prefix of what it may write: nothing, a prefix of the
-- line of the text's first fault and no frame, or a prefix of what follows from its script.
pub data HasStoppedReplay (text : List ℕ) (out out' wire wire' : Option (List ℕ)) : Type 0 where
  before_all : Appends out out' [] → Appends wire wire' [] → HasStoppedReplay text out out' wire wire'
  in_fault : (line : ℕ) (reason : ScriptReason) → IsScriptFault text line reason
      → HasWrittenPrefix out out' (fault_line line (reason_word reason)) → Appends wire wire' []
      → HasStoppedReplay text out out' wire wire'
  in_run : (script : Script) → IsScriptText text script → IsStoppedRun script out out' wire wire'
      → HasStoppedReplay text out out' wire wire'
