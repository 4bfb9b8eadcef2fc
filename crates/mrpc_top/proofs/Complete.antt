-- An input without a fault is worked on.
use Rattle.std.proofs.Common.{◌≡◌, ◌≢◌, ◌∙◌, ◌⊎◌, ◌<◌, ◌≤◌, ap, arith, inl, inr, length, length-append, refl}
use Rattle.std.proofs.Common.{sym, ℕ, List, [], ◌∷◌, Option, Some, None}
use Rattle.std.specs.Prelude.{String}
use Rattle.std.specs.declared.alloc.Global.{Global}
use Rattle.std.proofs.lemmas.Bool.{cases_eq}
use Rattle.text_commands.specs.Decoded.HasDecodedToFault.{in_text, in_stream}
use Rattle.text_commands.specs.Decoded.HasDecodeFault.{fault_in_text, fault_in_stream}
use Rattle.mrpc_base.specs.declared.whole_input.TheConstants.{MAX_INPUT}
use Rattle.mrpc_top.specs.Command.{HasTextFault, IsNamedCommand, HasRejected, command_word}
use Rattle.mrpc_base.specs.WholeInput.{HasReadPast}
use Rattle.mrpc_top.specs.declared.command.Command.{Command}
use Rattle.mrpc_top.specs.declared.command.Command.TheVariants.{Replay, Decode, Check, Audit}

-- a rejected text is at fault
pub refused-faulty : (command : Command) (text : List ℕ) (out out' : Option (List ℕ)) → HasRejected command text out out'
    → HasTextFault command text
refused-faulty Replay text out out' r = (r.line, r.reason, r.fault)
refused-faulty Decode text out out' (in_text line word fault written) = fault_in_text line word fault
refused-faulty Decode text out out' (in_stream table stream lines place word holds cut written) =
    fault_in_stream table stream lines place word holds cut
refused-faulty Check text out out' r = (r.spot, r.word, r.fault)
refused-faulty Audit text out out' r = (r.at, r.word, r.fault)

-- the first byte of the first word
abbrev first_byte : List (List ℕ) → ℕ
first_byte ((b ∷ word) ∷ words) = b
first_byte _ = 0

same-word : (a b : Command) → first_byte (command_word a ∷ []) ≡ first_byte (command_word b ∷ []) → a ≡ b
same-word Replay Replay e = refl
same-word Replay Decode e = absurd (omega (arith, e))
same-word Replay Check e = absurd (omega (arith, e))
same-word Replay Audit e = absurd (omega (arith, e))
same-word Decode Replay e = absurd (omega (arith, e))
same-word Decode Decode e = refl
same-word Decode Check e = absurd (omega (arith, e))
same-word Decode Audit e = absurd (omega (arith, e))
same-word Check Replay e = absurd (omega (arith, e))
same-word Check Decode e = absurd (omega (arith, e))
same-word Check Check e = refl
same-word Check Audit e = absurd (omega (arith, e))
same-word Audit Replay e = absurd (omega (arith, e))
same-word Audit Decode e = absurd (omega (arith, e))
same-word Audit Check e = absurd (omega (arith, e))
same-word Audit Audit e = refl

-- words name one command
pub one-command : (words : List (String Global)) (a b : Command) → IsNamedCommand words a → IsNamedCommand words b → a ≡ b
one-command words a b one other = same-word a b (ap first_byte (sym one ∙ other))

-- if more than the limit was read, more than the limit was left to read
pub past-limit : (left left' : Option (List ℕ)) (text : List ℕ) → HasReadPast MAX_INPUT left left' → left ≡ Some text
    → MAX_INPUT < length text
past-limit None left' text past is = absurd cc
past-limit (Some bytes) None text past is = absurd past.2
past-limit (Some bytes) (Some more) text past is =
    let same : bytes ≡ text = cc in
    omega (arith, past.1, ap length past.2, length-append past.0 more, ap length same)

-- the remaining statuses
pub done-or-short : (status : ℕ) → status ≤ 6 → status ≢ 1 → status ≢ 2 → status ≢ 4 → status ≢ 5 → status ≢ 6
    → (status ≡ 0) ⊎ (status ≡ 3)
done-or-short status most a b c d e =
    elim (cases_eq status 0) [
      | inl zero ↦ inl zero
      | inr other ↦ inr (omega (arith, most, a, b, c, d, e, other))
    ]
