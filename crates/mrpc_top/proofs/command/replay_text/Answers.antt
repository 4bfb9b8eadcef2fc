use Rattle.std.proofs.Common.{◌∙◌, ap, arith, inl, inr}
use Rattle.script_grammar.specs.Reasons.{reason_word}
use Rattle.mrpc_top.specs.Replaying.{in_run}
use Rattle.mrpc_top.proofs.Replays.{no_fault, refused_front}
use Rattle.mrpc_top.proofs.command.replay_text.Goals as goal

pub returns-in-Ok-clause-done : goal.returns-in-Ok-clause-done
returns-in-Ok-clause-done g c done = (c.in-Ok.script, c.in-Ok.ensures.read, c.replay-status.ensures.done done)

pub returns-in-Ok-clause-broken : goal.returns-in-Ok-clause-broken
returns-in-Ok-clause-broken g c failed = (c.in-Ok.script, c.in-Ok.ensures.read, c.replay-status.ensures.broken failed)

pub returns-in-Ok-clause-cut_short : goal.returns-in-Ok-clause-cut_short
returns-in-Ok-clause-cut_short g c e =
    in_run c.in-Ok.script c.in-Ok.ensures.read (c.replay-status.ensures.stopped e)

pub returns-in-Ok-clause-unsent : goal.returns-in-Ok-clause-unsent
returns-in-Ok-clause-unsent g c sent =
    elim sent [
      | inl e ↦ absurd (c.replay-status.ensures.sound e)
      | inr fault ↦ absurd (no_fault c.replay_script_or_fault.ensures.not_both c.args.text.now c.in-Ok.script c.in-Ok.ensures.read fault)
    ]

pub returns-in-Err-At-clause-cut_short : goal.returns-in-Err-At-clause-cut_short
returns-in-Err-At-clause-cut_short g c e =
    let first = rw c.in-Err-At.field-0-is at c.in-Err-At.ensures.fault in
    refused_front _ _ _ _ _ _ _ _ first c.in-Err-At.line-is
    (c.as_bytes.ensures.value ∙ c.word.ensures ∙ ap reason_word c.in-Err-At.reason-is)
    (c.write_fault.ensures.front (λ faulty.
    elim e [
      | inl memory ↦ omega (arith, memory, faulty)
      | inr failed ↦ omega (arith, failed, faulty)
    ]))
