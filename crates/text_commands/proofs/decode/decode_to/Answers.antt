use Rattle.std.proofs.Common.{◌≡◌, ◌∙◌, ◌++◌, [], List, ℕ, Err, inl, inr, ap, refl, sym, subst}
use Rattle.std.specs.Io.KnownBytes.{Appends}
use Rattle.text_commands.specs.FaultLines.{HasWrittenPrefix, fault_line}
use Rattle.text_commands.specs.Stopping.{HasEndedEarly}
use Rattle.text_commands.specs.Stopping.HasEndedEarly.{before_all, in_rejection}
use Rattle.text_commands.specs.Decoded.{HasDecodedToFault, HasDecodedText}
use Rattle.text_commands.specs.Decoded.HasDecodedToFault.{in_text, in_stream}
use Rattle.text_commands.specs.DecodeInput.{IsInputTextFault}
use Rattle.text_commands.specs.Decoding.{IsCutAt}
use Rattle.text_commands.specs.declared.decoding.DecodeError.TheVariants.{Fault, Memory as NoMemory, Out}
use Rattle.text_commands.proofs.DecodeFronts.{decoded_early}
use Rattle.text_commands.proofs.DecodeTexts.{told_fault}
use Rattle.text_commands.proofs.Fronts.{front-behind, not_faulty}
use Rattle.text_commands.proofs.KnownBytes.{appends-more, appends-nothing}
use Rattle.text_commands.proofs.decode.decode_to.Goals as goal
use Rattle.text_commands.proofs.decode.decode_to.Goals.{in-Ok, in-Err}

pub returns-in-Err-Fault-clause-cut : goal.returns-in-Err-Fault-clause-cut
returns-in-Err-Fault-clause-cut g c = λ faulty.
    let old = g.K.Sink.written c.args.out.now in
    let new = g.K.Sink.written c.write_fault.new.out in
    let place = c.in-Err-Fault.place in
    let word = c.in-Err-Fault.word in
    let fault : c.in-Err-Fault.field-0 ≡ Fault place word = rw c.in-Err-Fault.is at c.in-Err-Fault.field-0-is in
    let written : Appends (g.K.Sink.written c.match-read_head.out) new (fault_line place word.now) =
    subst (λ bytes. Appends (g.K.Sink.written c.match-read_head.out) new (fault_line place bytes)) c.as_bytes.ensures.value (c.write_fault.ensures.written faulty) in
    elim c.match-read_head.branch [
      | in-Ok w ↦
          let mid = g.K.Sink.written w.decode_stream-told.new.out in
          let behind : Appends mid new (fault_line place word.now) = subst (λ out. Appends (g.K.Sink.written out) new (fault_line place word.now)) w.out-is written in
          let cut = told_fault (λ p w'. (lines : List ℕ) × IsCutAt w.in-Ok.table 0 w.in-Ok.stream.now lines p w'
          × Appends old mid lines) w.decode_stream-told.result c.in-Err-Fault.field-0 place word
          (sym w.told-is ∙ c.in-Err-Fault.is) fault w.decode_stream-told.ensures.cut in
          in_stream w.in-Ok.table w.in-Ok.stream.now cut.0 place word.now w.in-Ok.ensures.read cut.1 (appends-more old mid new cut.0 (fault_line place word.now) cut.2 behind)
      | in-Err w ↦
          let first : IsInputTextFault c.args.text.now place word.now =
          told_fault (IsInputTextFault c.args.text.now) (Err w.in-Err.cut) c.in-Err-Fault.field-0 place word
          (sym w.told-is ∙ c.in-Err-Fault.is) fault w.in-Err.ensures.cut in
          in_text place word.now first (subst (λ out. Appends (g.K.Sink.written out) new (fault_line place word.now)) w.out-is written)
    ]

pub returns-in-Err-Fault-clause-early : goal.returns-in-Err-Fault-clause-early
returns-in-Err-Fault-clause-early g c e =
    let old = g.K.Sink.written c.args.out.now in
    let new = g.K.Sink.written c.write_fault.new.out in
    let place = c.in-Err-Fault.place in
    let word = c.in-Err-Fault.word in
    let fault : c.in-Err-Fault.field-0 ≡ Fault place word = rw c.in-Err-Fault.is at c.in-Err-Fault.field-0-is in
    let written : HasWrittenPrefix (g.K.Sink.written c.match-read_head.out) new (fault_line place word.now) =
    subst (λ (bytes : List ℕ). HasWrittenPrefix (g.K.Sink.written c.match-read_head.out) new (fault_line place bytes)) c.as_bytes.ensures.value
    (c.write_fault.ensures.front (not_faulty c.write_fault.result e)) in
    elim c.match-read_head.branch [
      | in-Ok w ↦
          let mid = g.K.Sink.written w.decode_stream-told.new.out in
          let behind : HasWrittenPrefix mid new (fault_line place word.now) = subst (λ out. HasWrittenPrefix (g.K.Sink.written out) new (fault_line place word.now)) w.out-is written in
          let cut = told_fault (λ p w'. (lines : List ℕ) × IsCutAt w.in-Ok.table 0 w.in-Ok.stream.now lines p w'
          × Appends old mid lines) w.decode_stream-told.result c.in-Err-Fault.field-0 place word
          (sym w.told-is ∙ c.in-Err-Fault.is) fault w.decode_stream-told.ensures.cut in
          in_rejection (cut.0 ++ fault_line place word.now)
          (in_stream w.in-Ok.table w.in-Ok.stream.now cut.0 place word.now w.in-Ok.ensures.read cut.1 refl)
          (front-behind old mid new cut.0 (fault_line place word.now) cut.2 behind)
      | in-Err w ↦
          let first : IsInputTextFault c.args.text.now place word.now =
          told_fault (IsInputTextFault c.args.text.now) (Err w.in-Err.cut) c.in-Err-Fault.field-0 place word
          (sym w.told-is ∙ c.in-Err-Fault.is) fault w.in-Err.ensures.cut in
          in_rejection (fault_line place word.now) (in_text place word.now first refl)
          (subst (λ out. HasWrittenPrefix (g.K.Sink.written out) new (fault_line place word.now)) w.out-is written)
    ]

pub returns-in-Err-Memory-clause-early : goal.returns-in-Err-Memory-clause-early
returns-in-Err-Memory-clause-early g c e =
    let which : c.in-Err-Memory.field-0 ≡ NoMemory = rw c.in-Err-Memory.is at c.in-Err-Memory.field-0-is in
    elim c.match-read_head.branch [
      | in-Ok w ↦
          let stopped : w.decode_stream-told.result ≡ Err NoMemory = sym w.told-is ∙ c.in-Err-Memory.is ∙ ap Err which in
          subst (λ out. HasEndedEarly (HasDecodedText c.args.text.now) (HasDecodedToFault c.args.text.now) (g.K.Sink.written c.args.out.now) (g.K.Sink.written out))
          (sym w.out-is)
          (decoded_early _ _ _ _ _ w.in-Ok.ensures.read (w.decode_stream-told.ensures.early (inl stopped)))
      | in-Err w ↦ before_all (subst (λ out. Appends (g.K.Sink.written c.args.out.now) (g.K.Sink.written out) []) (sym w.out-is) (appends-nothing _))
    ]

pub returns-in-Err-Out-clause-early : goal.returns-in-Err-Out-clause-early
returns-in-Err-Out-clause-early g c e =
    let which : c.in-Err-Out.field-0 ≡ Out = rw c.in-Err-Out.is at c.in-Err-Out.field-0-is in
    elim c.match-read_head.branch [
      | in-Ok w ↦
          let stopped : w.decode_stream-told.result ≡ Err Out = sym w.told-is ∙ c.in-Err-Out.is ∙ ap Err which in
          subst (λ out. HasEndedEarly (HasDecodedText c.args.text.now) (HasDecodedToFault c.args.text.now) (g.K.Sink.written c.args.out.now) (g.K.Sink.written out))
          (sym w.out-is)
          (decoded_early _ _ _ _ _ w.in-Ok.ensures.read (w.decode_stream-told.ensures.early (inr stopped)))
      | in-Err w ↦ before_all (subst (λ out. Appends (g.K.Sink.written c.args.out.now) (g.K.Sink.written out) []) (sym w.out-is) (appends-nothing _))
    ]
