use Rattle.std.proofs.Common.{arith, refl, sym}
use Rattle.mrpc_top.proofs.Commands.{cuts, no_audit, no_check, no_decoding, no_script, stops-of}
use Rattle.mrpc_top.specs.declared.command.Command.TheVariants.{Replay, Decode, Check, Audit}
use Rattle.mrpc_top.proofs.command.run.Goals as goal

pub returns-in-Replay-clause-refused : goal.returns-in-Replay-clause-refused
returns-in-Replay-clause-refused g c fault = (
  λ done.
      let d = c.replay_text.ensures.done done in
      no_script c.replay_is_unique.ensures.never_both c.args.command c.args.text.now d.0 c.in-Replay.is fault d.1,
  λ failed.
      let d = c.replay_text.ensures.broken failed in
      no_script c.replay_is_unique.ensures.never_both c.args.command c.args.text.now d.0 c.in-Replay.is fault d.1,
)

pub returns-in-Decode-clause-faulty : goal.returns-in-Decode-clause-faulty
returns-in-Decode-clause-faulty g c faulty =
    cuts c.args.command c.args.text.now (g.K.Sink.written c.args.out.now) (g.K.Sink.written c.decode_to.new.out)
    c.in-Decode.is (c.decode_to.ensures.cut faulty)

pub returns-in-Decode-clause-refused : goal.returns-in-Decode-clause-refused
returns-in-Decode-clause-refused g c fault = (
  λ done. no_decoding
      (record {
        parts = c.decoding_is_unique.ensures.parts;
        no_text_fault = c.decoding_is_unique.ensures.no_text_fault;
        no_cut = c.decoding_is_unique.ensures.no_cut;
      })
      c.args.command
      c.args.text.now
      (g.K.Sink.written c.args.out.now)
      (g.K.Sink.written c.decode_to.new.out)
      c.in-Decode.is
      fault
      (c.decode_to.ensures.done done),
  λ failed. omega (arith, failed, c.decode_to.ensures.statuses),
)

pub returns-in-Check-clause-refused : goal.returns-in-Check-clause-refused
returns-in-Check-clause-refused g c fault = (
  λ done. no_check c.checked_table_is_unique.ensures.never_both c.args.command c.args.text.now (g.K.Sink.written c.args.out.now)
      (g.K.Sink.written c.check_to.new.out) c.in-Check.is fault (c.check_to.ensures.done done),
  λ failed. omega (arith, failed, c.check_to.ensures.statuses),
)

pub returns-in-Audit-clause-refused : goal.returns-in-Audit-clause-refused
returns-in-Audit-clause-refused g c fault = (
  λ done. no_audit c.audit_answer_is_unique.ensures.never_both c.args.command c.args.text.now (g.K.Sink.written c.args.out.now)
      (g.K.Sink.written c.audit_to.new.out) c.in-Audit.is fault (c.audit_to.ensures.done done),
  λ failed. omega (arith, failed, c.audit_to.ensures.statuses),
)

pub returns-in-Replay-clause-cut_short : goal.returns-in-Replay-clause-cut_short
returns-in-Replay-clause-cut_short g c e =
    stops-of Replay c.args.command c.args.text.now c.args.text.now _ _ _ _ (sym c.in-Replay.is) refl (c.replay_text.ensures.cut_short e)

pub returns-in-Decode-clause-cut_short : goal.returns-in-Decode-clause-cut_short
returns-in-Decode-clause-cut_short g c e =
    stops-of Decode c.args.command c.args.text.now c.args.text.now _ _ _ _ (sym c.in-Decode.is) refl (c.decode_to.ensures.early e)

pub returns-in-Check-clause-cut_short : goal.returns-in-Check-clause-cut_short
returns-in-Check-clause-cut_short g c e =
    stops-of Check c.args.command c.args.text.now c.args.text.now _ _ _ _ (sym c.in-Check.is) refl (c.check_to.ensures.early e)

pub returns-in-Audit-clause-cut_short : goal.returns-in-Audit-clause-cut_short
returns-in-Audit-clause-cut_short g c e =
    stops-of Audit c.args.command c.args.text.now c.args.text.now _ _ _ _ (sym c.in-Audit.is) refl (c.audit_to.ensures.early e)
