-- A command does no work on a faulty text.
use Rattle.std.proofs.Common.{◌≡◌, ℕ, List, Option, sym, subst}
use Rattle.mrpc_table.specs.declared.table.Table.{Table}
use Rattle.script_grammar.specs.declared.fault.ScriptReason.{ScriptReason}
use Rattle.replay_script.specs.declared.script.Script.{Script}
use Rattle.replay_script.specs.Texts.{IsScriptText, IsScriptFault}
use Rattle.text_commands.specs.Auditing.{HasAuditedText, HasAuditFault, IsAuditAnswer, IsAuditFault}
use Rattle.text_commands.specs.Checking.{HasDeclaredTable, HasCheckedText, IsCheckFault}
use Rattle.text_commands.specs.DecodeInput.{IsInputOf, IsInputTextFault}
use Rattle.text_commands.specs.Decoded.{HasDecodedToFault, HasDecodedText, HasDecodeFault}
use Rattle.text_commands.specs.Decoded.HasDecodeFault.{fault_in_text, fault_in_stream}
use Rattle.text_commands.specs.Decoding.{IsCutAt, IsDecoded}
use Rattle.text_commands.specs.declared.check.FaultLocation.{FaultLocation}
use Rattle.mrpc_top.specs.Command.{HasTextFault, HasRejected, HasStoppedOn}
use Rattle.mrpc_top.specs.declared.command.Command.{Command}
use Rattle.mrpc_top.specs.declared.command.Command.TheVariants.{Replay, Decode, Check, Audit}

pub cuts : (command : Command) (text : List ℕ) (o o' : Option (List ℕ)) → command ≡ Decode → HasDecodedToFault text o o'
    → HasRejected command text o o'
cuts command text o o' e h = subst (λ (k : Command). HasRejected k text o o') (sym e) h

-- a text isn't both a script's and at fault
abbrev pub NeverBoth : Type 0
NeverBoth = (text : List ℕ) (s : Script) (line : ℕ) (r : ScriptReason) → IsScriptText text s → IsScriptFault text line r → ⊥

pub no_script : NeverBoth → (command : Command) (text : List ℕ) (s : Script) → command ≡ Replay → HasTextFault command text
    → IsScriptText text s → ⊥
no_script never command text s e fault spelled =
    let f : HasTextFault Replay text = subst (λ (k : Command). HasTextFault k text) e fault in
    never text s f.0 f.1 spelled f.2

-- a text has one table and one stream, and then no fault in its lines; and a stream that is decoded has no
-- fault
pub record DecodingLaw : Type 0 where
  pub parts : (text stream other : List ℕ) (T U : Table) → IsInputOf text T stream → IsInputOf text U other → (T ≡ U) × (stream ≡ other)
  pub no_text_fault : (text stream word : List ℕ) (T : Table) (line : ℕ) → IsInputOf text T stream → IsInputTextFault text line word → ⊥
  pub no_cut : (T : Table) (stream told other word : List ℕ) (place : ℕ) → IsDecoded T stream told → IsCutAt T 0 stream other place word → ⊥

pub no_fault_of : DecodingLaw → (text : List ℕ) (out out' : Option (List ℕ)) → HasDecodedText text out out' → HasDecodeFault text → ⊥
no_fault_of law text out out' d (fault_in_text line word fault) = law.no_text_fault text d.stream word d.table line d.holds fault
no_fault_of law text out out' d (fault_in_stream U other told place word holds cut) =
    let same = law.parts text d.stream other d.table U d.holds holds in
    law.no_cut d.table d.stream d.lines told word place d.decoded
    (subst (λ (s : List ℕ). IsCutAt d.table 0 s told place word) (sym same.1) (subst (λ (T : Table). IsCutAt T 0 other told place word) (sym same.0) cut))

pub no_decoding : DecodingLaw → (command : Command) (text : List ℕ) (o o' : Option (List ℕ)) → command ≡ Decode
    → HasTextFault command text → HasDecodedText text o o' → ⊥
no_decoding law command text o o' e fault d =
    no_fault_of law text o o' d (subst (λ (k : Command). HasTextFault k text) e fault)

-- a text isn't both checked and at fault, nor an audit both judged and at fault
abbrev pub NotBoth : Type 0
NotBoth = (text word : List ℕ) (T : Table) (spot : FaultLocation) → HasDeclaredTable text T → IsCheckFault text spot word → ⊥

abbrev pub NeverFaulty : Type 0
NeverFaulty = (input answer word : List ℕ) (line : ℕ) → IsAuditAnswer input answer → IsAuditFault input line word → ⊥

pub no_check : NotBoth → (command : Command) (text : List ℕ) (o o' : Option (List ℕ)) → command ≡ Check
    → HasTextFault command text → HasCheckedText text o o' → ⊥
no_check never command text o o' e fault d =
    let f : HasTextFault Check text = subst (λ (k : Command). HasTextFault k text) e fault in
    never text f.1 d.table f.0 d.checks f.2

pub no_audit : NeverFaulty → (command : Command) (text : List ℕ) (o o' : Option (List ℕ)) → command ≡ Audit
    → HasTextFault command text → HasAuditedText text o o' → ⊥
no_audit never command text o o' e fault d =
    let f : HasAuditFault text = subst (λ (k : Command). HasTextFault k text) e fault in
    never text d.answer f.1 f.0 d.is_answer f.2

-- what holds for the command and the text that were found holds for equal ones
pub stops-of : (found command : Command) (whole text : List ℕ) (out out' wire wire' : Option (List ℕ)) → found ≡ command
    → whole ≡ text → HasStoppedOn found whole out out' wire wire' → HasStoppedOn command text out out' wire wire'
stops-of found command whole text out out' wire wire' same is stops =
    subst (λ (t : List ℕ). HasStoppedOn command t out out' wire wire') is
    (subst (λ (k : Command). HasStoppedOn k whole out out' wire wire') same stops)
