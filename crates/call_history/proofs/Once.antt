-- No call is noted twice since one attachment.
use Rattle.std.proofs.Common.{◌≡◌, ℕ, List, subst}
use Rattle.std.specs.Prelude.{IsSomeAnd, Option, Some, None}
use Rattle.mrpc_table.specs.declared.call.Call.{Call}
use Rattle.engine_core.specs.Answers.{Past, nothing, note, IsEntryAnswer}
use Rattle.engine_core.specs.declared.outcome.Noted.{Noted}
use Rattle.engine_core.specs.declared.policy.Policy.{Policy}
use Rattle.call_history.specs.Trace.{Trace, chain, form, level_in_trace, timestamp, noted}
use Rattle.call_history.specs.Legal.{IsLegalPrefix}
use Rattle.call_history.specs.Rules.{JudgeContext, IsNoteDue}
use Rattle.call_history.proofs.Chained.{contains-in}
use Rattle.call_history.proofs.Fitting.{Fits, fitting, none-noted}
use Rattle.call_history.proofs.Prefixes.{StaysChain}

gives-none : (policy : Policy) (level_in_trace timestamp : ℕ) (form : Option Call) (past : Past) (n : Noted) → Fits policy past
    → IsSomeAnd form (λ call. IsEntryAnswer policy level_in_trace timestamp call past (note n)) → past ≡ nothing
gives-none policy level_in_trace timestamp None past n fits gives = absurd gives
gives-none policy level_in_trace timestamp (Some call) past n fits gives = none-noted policy level_in_trace timestamp call past n fits gives

pub called-once : StaysChain → (u : JudgeContext) (past : Trace) (seq : ℕ) (name : List ℕ) (n : Noted) → IsLegalPrefix u past
    → IsNoteDue u past seq name n → noted name seq past ≡ nothing
called-once chains u past seq name n prefix due =
    let e = due.meets.entry in
    let at = due.meets.at in
    subst (λ (k : List ℕ). noted k seq past ≡ nothing) at.named
    (gives-none e.policy (level_in_trace e.name past) (timestamp past) (form u.conn seq past) (noted e.name seq past) n
    (fitting chains u past seq prefix e (contains-in (chain past).entries at.front at.back e at.entries)) due.meets.gives)
