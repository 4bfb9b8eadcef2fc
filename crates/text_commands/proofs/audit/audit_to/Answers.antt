use Rattle.std.proofs.Common.{◌≡◌, ℕ, List, false, refl, subst, rules}
use Rattle.std.specs.Prelude.{IsTrue}
use Rattle.std.specs.Io.KnownBytes.{Appends}
use Rattle.text_commands.specs.FaultLines.{HasWrittenPrefix, fault_line}
use Rattle.text_commands.specs.Stopping.HasEndedEarly.{in_rejection, in_work}
use Rattle.text_commands.proofs.Fronts.{not_faulty}
use Rattle.text_commands.proofs.audit.audit_to.Goals as goal

pub returns-in-Err-At-clause-faulty : goal.returns-in-Err-At-clause-faulty
returns-in-Err-At-clause-faulty g c = λ faulty.
    let first = rw c.in-Err-At.field-0-is at c.in-Err-At.ensures.failure in
    record {
      at = c.in-Err-At.line;
      word = c.in-Err-At.word.now;
      fault = rw (c.in-Err-At.line-is, c.in-Err-At.word-is) first;
      written = subst (λ bytes. Appends (g.K.Sink.written c.args.out.now) (g.K.Sink.written c.write_fault.new.out) (fault_line c.in-Err-At.line bytes))
          c.as_bytes.ensures.value (c.write_fault.ensures.written faulty);
    }

pub returns-then-write_all-clause-done : goal.returns-then-write_all-clause-done
returns-then-write_all-clause-done g c = λ done.
    let yes : IsTrue c.write_all.result = search rules in
    record {
      answer = c.in-Ok.answer;
      is_answer = c.in-Ok.ensures.answer;
      written = subst (λ (bytes : List ℕ). Appends (g.K.Sink.written c.args.out.now) (g.K.Sink.written c.write_all.new.out) bytes)
          c.as_slice.ensures (c.write_all.ensures.done yes);
    }

pub returns-in-Err-At-clause-early : goal.returns-in-Err-At-clause-early
returns-in-Err-At-clause-early g c e =
    let first = rw c.in-Err-At.field-0-is at c.in-Err-At.ensures.failure in
    let line = c.in-Err-At.line in
    let word = c.in-Err-At.word.now in
    in_rejection (fault_line line word)
    (record { at = line; word = word; fault = rw (c.in-Err-At.line-is, c.in-Err-At.word-is) first; written = refl })
    (subst (λ (bytes : List ℕ). HasWrittenPrefix (g.K.Sink.written c.args.out.now) (g.K.Sink.written c.write_fault.new.out) (fault_line line bytes))
    c.as_bytes.ensures.value (c.write_fault.ensures.front (not_faulty c.write_fault.result e)))

pub returns-in-Ok-clause-early : goal.returns-in-Ok-clause-early
returns-in-Ok-clause-early g c e =
    let no : c.write_all.result ≡ false = search rules in
    let front = c.write_all.ensures.front no in
    in_work c.as_slice.result.now
    (record { answer = c.in-Ok.answer; is_answer = c.in-Ok.ensures.answer; written = c.as_slice.ensures })
    (front.0, front.2)
