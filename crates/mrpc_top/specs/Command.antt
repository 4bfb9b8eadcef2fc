-- What a command returns, and what it writes.
use Rattle.std.specs.Prelude.{◌≡◌, ℕ, ◌<◌, ◌⊎◌, List, [], ◌∷◌, codes, length, map, Option, String, string_bytes}
use Rattle.std.specs.declared.alloc.Global.{Global}
use Rattle.std.specs.Io.KnownBytes.{Appends}
use Rattle.text_commands.specs.FaultLines.{HasWrittenPrefix, fault_line}
use Rattle.text_commands.specs.Stopping.{HasEndedEarly}
use Rattle.text_commands.specs.Auditing.{HasAuditedText, HasRejectedAudit, HasAuditFault}
use Rattle.text_commands.specs.Checking.{HasCheckedText, IsCheckFault, HasRejectedProto}
use Rattle.text_commands.specs.Decoded.{HasDecodedToFault, HasDecodedText, HasDecodeFault}
use Rattle.text_commands.specs.declared.check.FaultLocation.{FaultLocation}
use Rattle.mrpc_base.specs.declared.whole_input.TheConstants.{MAX_INPUT}
use Rattle.mrpc_top.specs.Replaying.{HasReplayedText, HasReplayedToFailure, HasStoppedReplay, HasRejectedScript, HasScriptFault}
use Rattle.mrpc_base.specs.WholeInput.{IsInput, HasReadPast}
use Rattle.mrpc_top.specs.declared.command.Command.{Command}
use Rattle.mrpc_top.specs.declared.command.Command.TheVariants.{Replay, Decode, Check, Audit}

-- ---- commands

-- the word of a command
abbrev pub command_word : Command → List ℕ
command_word Replay = codes "replay"
command_word Decode = codes "decode"
command_word Check = codes "check"
command_word Audit = codes "audit"

-- the words are the word of the command alone
abbrev pub IsNamedCommand : List (String Global) → Command → Type 0
IsNamedCommand words command = map string_bytes words ≡ command_word command ∷ []

abbrev pub IsReplay : List (String Global) → Type 0
IsReplay words = IsNamedCommand words Replay

abbrev pub IsCommand : List (String Global) → Type 0
IsCommand words = (command : Command) × IsNamedCommand words command

-- ---- what a command does with a text

-- the command did its work on a text
abbrev pub HasWorkedOn : Command → List ℕ → Option (List ℕ) → Option (List ℕ) → Option (List ℕ) → Option (List ℕ)
    → Type 0
HasWorkedOn Replay text out out' wire wire' = HasReplayedText text out out' wire wire'
HasWorkedOn Decode text out out' wire wire' = HasDecodedText text out out'
HasWorkedOn Check text out out' wire wire' = HasCheckedText text out out'
HasWorkedOn Audit text out out' wire wire' = HasAuditedText text out out'

-- ---- what a command writes for a faulty text

-- the command wrote the first fault of a text, for `decode` after the lines of the frames before it
abbrev pub HasRejected : Command → List ℕ → Option (List ℕ) → Option (List ℕ) → Type 0
HasRejected Replay text out out' = HasRejectedScript text out out'
HasRejected Decode text out out' = HasDecodedToFault text out out'
HasRejected Check text out out' = HasRejectedProto text out out'
HasRejected Audit text out out' = HasRejectedAudit text out out'

-- ---- faulty texts

-- a text has a first fault for the command
abbrev pub HasTextFault : Command → List ℕ → Type 0
HasTextFault Replay text = HasScriptFault text
HasTextFault Decode text = HasDecodeFault text
HasTextFault Check text = (spot : FaultLocation) × (word : List ℕ) × IsCheckFault text spot word
HasTextFault Audit text = HasAuditFault text

-- ---- the whole input

-- the command did its work on an input
abbrev pub IsSuccess : Command → Option (List ℕ) → Option (List ℕ) → Option (List ℕ) → Option (List ℕ)
    → Option (List ℕ) → Type 0
IsSuccess command left out out' wire wire' = (text : List ℕ) × IsInput left text
    × HasWorkedOn command text out out' wire wire'

-- an input has a fault for the command: it is too long, or its text has a first fault; the fault's line was
-- written, for `decode` after the lines of the frames before it
abbrev pub IsRejected : Command → Option (List ℕ) → Option (List ℕ) → Option (List ℕ) → Option (List ℕ) → Type 0
IsRejected command left left' out out' =
    (HasReadPast MAX_INPUT left left' × Appends out out' (fault_line MAX_INPUT (codes "Input")))
    ⊎ ((text : List ℕ) × IsInput left text × HasRejected command text out out')

-- a text has a fault as the input of the command: it is too long, or has a first fault
abbrev pub HasInputFault : Command → List ℕ → Type 0
HasInputFault command text = (MAX_INPUT < length text) ⊎ HasTextFault command text

-- ---- replays whose frames can't be written

-- an input is that of a script, which was run up to a send that failed
abbrev pub IsFailedReplay : Option (List ℕ) → Option (List ℕ) → Option (List ℕ) → Option (List ℕ) → Option (List ℕ)
    → Type 0
IsFailedReplay left out out' wire wire' = (text : List ℕ) × IsInput left text
    × HasReplayedToFailure text out out' wire wire'

-- ---- commands that end early

-- The command ended early on a text, and its output is a prefix of what it may write. For a replay this is
-- `HasStoppedReplay`; for the others, a prefix of what they write if they work on the text or reject it.
abbrev pub HasStoppedOn : Command → List ℕ → Option (List ℕ) → Option (List ℕ) → Option (List ℕ) → Option (List ℕ)
    → Type 0
HasStoppedOn Replay text out out' wire wire' = HasStoppedReplay text out out' wire wire'
HasStoppedOn Decode text out out' wire wire' = HasEndedEarly (HasDecodedText text) (HasDecodedToFault text) out out'
HasStoppedOn Check text out out' wire wire' = HasEndedEarly (HasCheckedText text) (HasRejectedProto text) out out'
HasStoppedOn Audit text out out' wire wire' = HasEndedEarly (HasAuditedText text) (HasRejectedAudit text) out out'

-- A command ended early, and its output is a prefix of what it may write: nothing; a prefix of the line of
-- its fault, if the input is too long; or what `HasStoppedOn` allows.
pub data IsCutShort (command : Command) (left left' out out' wire wire' : Option (List ℕ)) : Type 0 where
  unread : Appends out out' [] → Appends wire wire' [] → IsCutShort command left left' out out' wire wire'
  too_long : HasReadPast MAX_INPUT left left' → HasWrittenPrefix out out' (fault_line MAX_INPUT (codes "Input"))
      → Appends wire wire' [] → IsCutShort command left left' out out' wire wire'
  of_text : (text : List ℕ) → IsInput left text → HasStoppedOn command text out out' wire wire'
      → IsCutShort command left left' out out' wire wire'
