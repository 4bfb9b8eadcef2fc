use Rattle.std.proofs.Common.{◌≡◌, ◌≢◌, ◌∙◌, ◌<◌, [], ◌++◌, List, ℕ, Err, drop, refl, sym, ap, subst, arith, rules}
use Rattle.std.specs.Prelude.{All}
use Rattle.std.specs.Io.KnownBytes.{Appends}
use Rattle.std.proofs.lemmas.Bool.{true≢false}
use Rattle.std.proofs.lemmas.List.Elements.{All-from_get_or}
use Rattle.std.proofs.lemmas.Result.{err_from_is_err_and}
use Rattle.text_commands.specs.Decoding.{IsCutAt}
use Rattle.text_commands.specs.FaultLines.{HasWrittenPrefix}
use Rattle.text_commands.specs.declared.decoding.DecodeError.TheVariants.{Memory as NoMemory}
use Rattle.text_commands.proofs.DecodeFronts.{ok_not_err, piece_early, same_err, told_early}
use Rattle.text_commands.proofs.Fronts.{front-whole}
use Rattle.text_commands.proofs.KnownBytes.{appends-nothing, appends-more}
use Rattle.text_commands.proofs.Decodings.{on_fault, tells_nothing, tells_more, cut_behind, all_told}
use Rattle.text_commands.proofs.decoding.decode_stream.Goals as goal
use Rattle.text_commands.proofs.decoding.decode_stream.Goals.{in-Err-Memory, in_default, in_default-2}

pub loop-place-init : goal.loop-place-init
loop-place-init g c = (
  record {
    text = [];
    tells = tells_nothing c.args.table.now c.args.stream.now 0;
    appends = appends-nothing (g.K.Sink.written c.args.out.now);
  },
  refl,
)

pub returns-in_err-place-clause-cut : goal.returns-in_err-place-clause-cut
returns-in_err-place-clause-cut g c =
    let T = c.args.table.now in
    let stream = c.args.stream.now in
    let before = c.loop-place.invariant.0 in
    let lines = c.append_lines-told.new.lines in
    let cut : (place : ℕ) (word : List ℕ) → (text : List ℕ) × (lines ≡ c.new-lines.result ++ text) × IsCutAt T c.loop-place.place (drop c.loop-place.place stream) text place word
    → (text : List ℕ) × IsCutAt T 0 stream text place word × Appends (g.K.Sink.written c.args.out.now) (g.K.Sink.written c.write_all.new.out) text =
    λ place word h.
    let written : c.as_slice.result.now ≡ h.0 = c.as_slice.ensures ∙ h.1 ∙ ap (λ (bs : List ℕ). bs ++ h.0) c.new-lines.ensures in (
      before.text ++ h.0,
      cut_behind c.meaning_law.ensures.frames _ _ _ _ _ _ _ _ before.tells h.2,
      appends-more _ _ _ _ _ before.appends (subst (Appends (g.K.Sink.written c.loop-place.out) (g.K.Sink.written c.write_all.new.out)) written (c.if-not-write_all.ensures.done refl)),
    ) in
    let same = err_from_is_err_and c.from_residual-in_err-place.result c.from_residual-in_err-place.ensures.1 in
    rw (same.1, same.2) (on_fault _ _ cut _ c.in_err-place.ensures.cut)

pub loop-place-preserved : goal.loop-place-preserved
loop-place-preserved g c =
    let before = c.loop-place.invariant in
    let told = c.in_ok-place.ensures.told in
    let written : c.as_slice.result.now ≡ told.0 = c.as_slice.ensures ∙ told.1 ∙ ap (λ (bs : List ℕ). bs ++ told.0) c.new-lines.ensures in
    let same : g.K.Sink.failures c.write_all.new.out ≡ g.K.Sink.failures c.loop-place.out = c.if-not-write_all.ensures.cause.stays true≢false in (
      record {
        text = before.0.text ++ told.0;
        tells = tells_more c.meaning_law.ensures.frames _ _ _ _ _ _ _ before.0.tells told.2;
        appends = appends-more _ _ _ _ _ before.0.appends
            (subst (Appends (g.K.Sink.written c.loop-place.out) (g.K.Sink.written c.write_all.new.out)) written
            (c.if-not-write_all.ensures.done refl));
      },
      same ∙ before.1,
    )

pub returns-clause-done : goal.returns-clause-done
returns-clause-done g c =
    let before = c.loop-place.invariant.0 in
    (before.text, all_told c.meaning_law.ensures.frames c.args.table.now c.args.stream.now c.loop-place.place before.text before.tells (omega arith), before.appends)

pub returns-in_err-room-clause-early : goal.returns-in_err-room-clause-early
returns-in_err-room-clause-early g c e =
    let stream = c.args.stream.now in
    let bytes : All (λ byte. byte < 256) stream = All-from_get_or (λ byte. byte < 256) stream 0 (λ i within. omega (arith, c.type_inv.stream i)) in
    let old = g.K.Sink.written c.args.out.now in
    told_early c.meaning_law.ensures c.args.table.now stream 0 [] old old bytes (tells_nothing c.args.table.now stream 0) (appends-nothing old)

pub returns-then-matches-clause-early : goal.returns-then-matches-clause-early
returns-then-matches-clause-early g c e =
    let stream = c.args.stream.now in
    let bytes : All (λ byte. byte < 256) stream = All-from_get_or (λ byte. byte < 256) stream 0 (λ i within. omega (arith, c.type_inv.stream i)) in
    let before = c.loop-place.invariant.0 in
    told_early c.meaning_law.ensures c.args.table.now stream c.loop-place.place before.text (g.K.Sink.written c.args.out.now)
    (g.K.Sink.written c.loop-place.out) bytes before.tells before.appends

pub returns-then-not-write_all-clause-early : goal.returns-then-not-write_all-clause-early
returns-then-not-write_all-clause-early g c e =
    let stream = c.args.stream.now in
    let bytes : All (λ byte. byte < 256) stream = All-from_get_or (λ byte. byte < 256) stream 0 (λ i within. omega (arith, c.type_inv.stream i)) in
    let before = c.loop-place.invariant.0 in
    let front = c.if-not-write_all.ensures.front refl in
    let no_memory : c.append_lines-told.result ≢ Err NoMemory = λ p. elim c.match-matches.branch [
      | in-Err-Memory w ↦ true≢false (sym w.matches-is ∙ c.if-matches.false)
      | in_default w ↦
          let other : w.in_default.field-0 ≢ NoMemory = search rules in
          other (same_err c.append_lines-told.result w.in_default.field-0 NoMemory w.in_default.is p)
      | in_default-2 w ↦ ok_not_err c.append_lines-told.result w.in_default.field-0 NoMemory w.in_default.is p
    ] in
    piece_early c.meaning_law.ensures c.args.table.now stream c.loop-place.place before.text c.new-lines.result
    c.append_lines-told.new.lines c.append_lines-told.result (g.K.Sink.written c.args.out.now)
    (g.K.Sink.written c.loop-place.out) (g.K.Sink.written c.write_all.new.out) bytes before.tells c.new-lines.ensures
    c.append_lines-told.ensures.told c.append_lines-told.ensures.cut no_memory c.append_lines-told.ensures.not_out before.appends
    (subst (HasWrittenPrefix (g.K.Sink.written c.loop-place.out) (g.K.Sink.written c.write_all.new.out)) c.as_slice.ensures (front.0, front.2))

pub returns-in_err-place-clause-early : goal.returns-in_err-place-clause-early
returns-in_err-place-clause-early g c e =
    let stream = c.args.stream.now in
    let bytes : All (λ byte. byte < 256) stream = All-from_get_or (λ byte. byte < 256) stream 0 (λ i within. omega (arith, c.type_inv.stream i)) in
    let before = c.loop-place.invariant.0 in
    let no_memory : c.append_lines-told.result ≢ Err NoMemory = λ p. elim c.match-matches.branch [
      | in-Err-Memory w ↦ true≢false (sym w.matches-is ∙ c.if-matches.false)
      | in_default w ↦
          let other : w.in_default.field-0 ≢ NoMemory = search rules in
          other (same_err c.append_lines-told.result w.in_default.field-0 NoMemory w.in_default.is p)
      | in_default-2 w ↦ ok_not_err c.append_lines-told.result w.in_default.field-0 NoMemory w.in_default.is p
    ] in
    piece_early c.meaning_law.ensures c.args.table.now stream c.loop-place.place before.text c.new-lines.result
    c.append_lines-told.new.lines c.append_lines-told.result (g.K.Sink.written c.args.out.now)
    (g.K.Sink.written c.loop-place.out) (g.K.Sink.written c.write_all.new.out) bytes before.tells c.new-lines.ensures
    c.append_lines-told.ensures.told c.append_lines-told.ensures.cut no_memory c.append_lines-told.ensures.not_out before.appends
    (front-whole _ _ _ (subst (λ (bs : List ℕ). Appends (g.K.Sink.written c.loop-place.out) (g.K.Sink.written c.write_all.new.out) bs)
    c.as_slice.ensures (c.if-not-write_all.ensures.done refl)))
