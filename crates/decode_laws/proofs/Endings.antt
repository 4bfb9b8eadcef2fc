-- How views of frames end, in the terms of `decode`.
use Rattle.std.proofs.Common.{ℕ, List, Option}
use Rattle.mrpc_table.specs.declared.table.Table.{Table}
use Rattle.frame_transport.specs.declared.format.Frame.{Frame}
use Rattle.std.specs.Prelude.{drop}
use Rattle.text_commands.specs.Decoding.{AreLinesOf, IsCutAt}
use Rattle.frame_view.specs.Faults.{IsFaultOfNext}
use Rattle.frame_view.specs.FrameRanges.{AreFramesBetween}
use Rattle.frame_view.specs.Written.{HasViewedToFault, HasViewedText, in_text, in_stream}
use Rattle.decode_laws.specs.Decodings.{IsDecodable, IsDecodeFault, fault_of_text, fault_of_stream}
use Rattle.decode_laws.proofs.Lines.{lines_of}
use Rattle.decode_laws.proofs.Texts.{holds_there, fault_there}

-- a fault after frames with lines is the fault of `decode`
abbrev pub CutLaw : Type 0
CutLaw = (T : Table) (stream lines word : List ℕ) (to place : ℕ) (fs : List Frame) → AreFramesBetween stream 0 to fs
    → AreLinesOf T fs lines → IsFaultOfNext T to (drop to stream) place word → IsCutAt T 0 stream lines place word

pub cut_there : CutLaw → (text word : List ℕ) (place : ℕ) (out out' : Option (List ℕ)) → HasViewedToFault text out out' place word → IsDecodeFault text place word
cut_there law text word place out out' (in_text fault written) = fault_of_text (fault_there text word place fault)
cut_there law text word place out out' (in_stream T stream shown to frames holds stands views fault written) =
    let lines = lines_of T frames shown views in
    fault_of_stream T stream lines.0 (holds_there text stream T holds) (law T stream lines.0 word to place frames stands lines.1 fault)

pub done_there : (text : List ℕ) (out out' : Option (List ℕ)) → HasViewedText text out out' → IsDecodable text
done_there text out out' v =
    let lines = lines_of v.table v.frames v.shown v.views in
    record {
      table = v.table;
      stream = v.stream;
      holds = holds_there text v.stream v.table v.holds;
      lines = lines.0;
      decoded = record { frames = v.frames; splits = v.splits; lines = lines.1 };
    }
