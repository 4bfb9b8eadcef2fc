-- The output of a replay that ends early.
use Rattle.std.proofs.Common.{◌≡◌, ◌∙◌, ◌<◌, ◌≤◌, ap, arith, inl, inr, length, refl, subst, sym, ℕ, List, ◌∷◌, Option, Some}
use Rattle.std.specs.Prelude.{String}
use Rattle.std.specs.declared.alloc.Global.{Global}
use Rattle.script_grammar.specs.Reasons.{reason_word}
use Rattle.script_grammar.specs.declared.fault.ScriptReason.{ScriptReason}
use Rattle.replay_script.specs.Texts.{IsScriptText, IsScriptFault}
use Rattle.replay_script.specs.declared.script.Script.{Script}
use Rattle.text_commands.specs.FaultLines.{HasWrittenPrefix, fault_line}
use Rattle.mrpc_top.specs.Command.{HasInputFault, IsNamedCommand, IsReplay}
use Rattle.mrpc_base.specs.WholeInput.{IsAllOf}
use Rattle.mrpc_top.specs.Replaying.{HasStoppedReplay, HasScriptFault, in_fault}
use Rattle.mrpc_top.specs.declared.command.Command.{Command}
use Rattle.mrpc_top.specs.declared.command.Command.TheVariants.{Replay, Decode, Check, Audit}
use Rattle.mrpc_base.specs.declared.whole_input.TheConstants.{MAX_INPUT}
use Rattle.mrpc_top.proofs.Commands.{NeverBoth}
use Rattle.mrpc_top.proofs.KnownBytes.{appends-nothing}

pub refused_front : (text word : List ℕ) (line at : ℕ) (reason : ScriptReason) (out out' wire : Option (List ℕ))
    → IsScriptFault text line reason → at ≡ line → word ≡ reason_word reason → HasWrittenPrefix out out' (fault_line at word)
    → HasStoppedReplay text out out' wire wire
refused_front text word line at reason out out' wire fault l w front = in_fault line reason fault
    (subst (λ (n : ℕ). HasWrittenPrefix out out' (fault_line n (reason_word reason))) l
    (subst (λ (v : List ℕ). HasWrittenPrefix out out' (fault_line at v)) w front))
    (appends-nothing wire)

pub no_fault : NeverBoth → (text : List ℕ) (s : Script) → IsScriptText text s → HasScriptFault text → ⊥
no_fault never text s spelled f = never text s f.0 f.1 spelled f.2

-- the first byte of the first word
abbrev first_byte : List (List ℕ) → ℕ
first_byte ((b ∷ word) ∷ words) = b
first_byte _ = 0

pub is_replay : (words : List (String Global)) (command : Command) → IsNamedCommand words command → IsReplay words
    → command ≡ Replay
is_replay words Replay a b = refl
is_replay words Decode a b =
    let e : 100 ≡ 114 = ap first_byte (sym a ∙ b) in
    absurd (omega (arith, e))
is_replay words Check a b =
    let e : 99 ≡ 114 = ap first_byte (sym a ∙ b) in
    absurd (omega (arith, e))
is_replay words Audit a b =
    let e : 97 ≡ 114 = ap first_byte (sym a ∙ b) in
    absurd (omega (arith, e))

-- what was left of an input that was read to its end is its text
pub fault_of_whole : (left : Option (List ℕ)) (whole text : List ℕ) → length whole ≤ MAX_INPUT → IsAllOf left whole
    → left ≡ Some text → HasInputFault Replay text → HasScriptFault whole
fault_of_whole left whole text short all is (inl long) =
    let same : text ≡ whole = subst (λ (l : Option (List ℕ)). IsAllOf l whole) is all in
    absurd (omega (arith, short, subst (λ (t : List ℕ). MAX_INPUT < length t) same long))
fault_of_whole left whole text short all is (inr fault) =
    let same : text ≡ whole = subst (λ (l : Option (List ℕ)). IsAllOf l whole) is all in
    subst (λ (t : List ℕ). HasScriptFault t) same fault
