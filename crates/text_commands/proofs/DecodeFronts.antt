-- Lines of frames before an offset are a prefix of all lines of their stream.
use Rattle.std.proofs.Common.{◌≡◌, ◌≢◌, ◌∙◌, ◌<◌, inl, inr, ℕ, List, [], ◌++◌, drop, Option, Result, Ok, Err, ap, refl, subst}
use Rattle.std.specs.Prelude.{All, IfErr, IfOk}
use Rattle.std.specs.Io.KnownBytes.{Appends}
use Rattle.std.proofs.lemmas.List.Elements.{All-drop}
use Rattle.mrpc_table.specs.declared.table.Table.{Table}
use Rattle.text_commands.specs.DecodeInput.{IsInputOf, OnFault}
use Rattle.text_commands.specs.Decoded.{HasDecodedToFault, HasDecodedText}
use Rattle.text_commands.specs.Decoded.HasDecodedToFault.{in_stream}
use Rattle.text_commands.specs.Decoding.{IsCutAt}
use Rattle.text_commands.specs.FaultLines.{HasWrittenPrefix, fault_line}
use Rattle.text_commands.specs.Laws.{MeaningLaw}
use Rattle.text_commands.specs.Stopping.{HasEndedEarly}
use Rattle.text_commands.specs.Stopping.HasEndedEarly.{in_rejection, in_work}
use Rattle.text_commands.specs.LineRanges.{AreAllLines, AreLinesBetween, HasDecodedPrefix}
use Rattle.text_commands.specs.declared.decoding.DecodeError.{DecodeError}
use Rattle.text_commands.specs.declared.decoding.DecodeError.TheVariants.{Fault, Memory as NoMemory, Out}
use Rattle.text_commands.proofs.DecodeNeither.{told_or_cut_from}
use Rattle.text_commands.proofs.Decodings.{cut_behind, lines-append, splits_more, tells_more}
use Rattle.text_commands.proofs.Fronts.{front-behind, front-on, front-whole}

-- the lines of the frames before an offset, followed by some text, are all lines of the stream
all_from : MeaningLaw → (T : Table) (stream : List ℕ) (mid : ℕ) (text : List ℕ) → All (λ byte. byte < 256) stream
    → AreLinesBetween T stream 0 mid text → (more : List ℕ) × AreAllLines T stream (text ++ more)
all_from law T stream mid text bytes x =
    elim (told_or_cut_from law T mid (drop mid stream) (All-drop (λ byte. byte < 256) mid stream bytes)) [
      | inl d ↦ (
        d.0,
        inl (record {
          frames = x.frames ++ d.1.frames;
          splits = splits_more law.frames T stream 0 mid text d.1.frames [] x d.1.splits;
          lines = lines-append T x.frames d.1.frames text d.0 x.lines d.1.lines;
        }),
      )
      | inr cut ↦ (cut.0, inr (cut.1, cut.2, cut_behind law.frames T stream 0 mid text cut.0 cut.1 cut.2 x cut.3))
    ]

-- if these lines were written, a prefix of all lines was
pub told_early : MeaningLaw → (T : Table) (stream : List ℕ) (mid : ℕ) (text : List ℕ) (out out' : Option (List ℕ))
    → All (λ byte. byte < 256) stream → AreLinesBetween T stream 0 mid text → Appends out out' text → HasDecodedPrefix T stream out out'
told_early law T stream mid text out out' bytes x a =
    let all = all_from law T stream mid text bytes x in
    record {
      lines = text ++ all.0;
      all_told = all.1;
      written = front-on out out' text all.0 (front-whole out out' text a);
    }

-- also if a prefix of the next lines was written after them
pub piece_early : MeaningLaw → (T : Table) (stream : List ℕ) (mid : ℕ) (text old lines : List ℕ)
    (told : Result ℕ DecodeError) (out between out' : Option (List ℕ)) → All (λ byte. byte < 256) stream → AreLinesBetween T stream 0 mid text
    → old ≡ [] → IfOk told (λ to. (piece : List ℕ) × (lines ≡ old ++ piece) × AreLinesBetween T stream mid to piece)
    → IfErr told (OnFault (λ place word. (piece : List ℕ) × (lines ≡ old ++ piece)
    × IsCutAt T mid (drop mid stream) piece place word))
    → told ≢ Err NoMemory → told ≢ Err Out → Appends out between text → HasWrittenPrefix between out' lines
    → HasDecodedPrefix T stream out out'
piece_early law T stream mid text old lines (Ok to) out between out' bytes x none ok cut memory failed a w =
    let same : lines ≡ ok.0 = ok.1 ∙ ap (λ (bs : List ℕ). bs ++ ok.0) none in
    let all = all_from law T stream to (text ++ ok.0) bytes (tells_more law.frames T stream 0 mid to text ok.0 x ok.2) in
    record {
      lines = (text ++ ok.0) ++ all.0;
      all_told = all.1;
      written = front-on out out' (text ++ ok.0) all.0
          (front-behind out between out' text ok.0 a (subst (HasWrittenPrefix between out') same w));
    }
piece_early law T stream mid text old lines (Err (Fault place word)) out between out' bytes x none ok cut memory failed a w =
    let same : lines ≡ cut.0 = cut.1 ∙ ap (λ (bs : List ℕ). bs ++ cut.0) none in
    record {
      lines = text ++ cut.0;
      all_told = inr (place, word.now, cut_behind law.frames T stream 0 mid text cut.0 place word.now x cut.2);
      written = front-behind out between out' text cut.0 a (subst (HasWrittenPrefix between out') same w);
    }
piece_early law T stream mid text old lines (Err NoMemory) out between out' bytes x none ok cut memory failed a w =
    absurd (memory refl)
piece_early law T stream mid text old lines (Err Out) out between out' bytes x none ok cut memory failed a w =
    absurd (failed refl)

-- a prefix of all lines of a stream is a prefix of what is written for its text
pub decoded_early : (text stream : List ℕ) (T : Table) (out out' : Option (List ℕ)) → IsInputOf text T stream
    → HasDecodedPrefix T stream out out' → HasEndedEarly (HasDecodedText text) (HasDecodedToFault text) out out'
decoded_early text stream T out out' holds t =
    elim t.all_told [
      | inl decoded ↦ in_work t.lines
          (record { table = T; stream = stream; holds = holds; lines = t.lines; decoded = decoded; written = refl })
          t.written
      | inr cut ↦ in_rejection (t.lines ++ fault_line cut.0 cut.1) (in_stream T stream t.lines cut.0 cut.1 holds cut.2 refl)
          (front-on out out' t.lines (fault_line cut.0 cut.1) t.written)
    ]

-- a result is of one kind, with one error
pub ok_not_err : {X E : Type 0} (r : Result X E) (x : X) (e : E) → r ≡ Ok x → r ≡ Err e → ⊥
ok_not_err r x e ok err = cc

pub same_err : {X E : Type 0} (r : Result X E) (e f : E) → r ≡ Err e → r ≡ Err f → e ≡ f
same_err r e f one other = cc
