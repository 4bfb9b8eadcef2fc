-- The faults of a stream in the terms of `decode`.
use Rattle.std.proofs.Common.{◌≡◌, ℕ, ◌+◌, List, [], ◌∷◌, ◌++◌, length, drop, Option, Some, None, sym, ap, subst, ◌∙◌, append_assoc, append-nil}
use Rattle.std.proofs.lemmas.List.Elements.{All-append, All-nil, All-cons}
use Rattle.std.proofs.lemmas.List.Concat.{flat_map-append}
use Rattle.mrpc_table.specs.declared.table.Table.{Table}
use Rattle.frame_transport.specs.Frames.{IsFrame, bytes_of_frame, concat_frames, AreConsecutiveFrom, IsPartial, HasHeaderFault, IsSplitOf}
use Rattle.frame_transport.specs.FramesInPlace.{IsFrameAt}
use Rattle.frame_transport.specs.declared.format.Frame.{Frame}
use Rattle.frame_transport.specs.declared.fault.FeedFault.{FeedFault}
use Rattle.frame_transport.specs.declared.fault.FeedFault.TheVariants.{Version, Kind, TooLong, Memory}
use Rattle.text_commands.specs.Decoding.{AreLinesOf, AreFirstFrames, IsCutAt, in_frame, in_header, in_short_frame}
use Rattle.text_commands.specs.Decoding.{IsFaultOfFrame as IsDecodeFaultIn, no_method as decode_no_method, in_payload as decode_in_payload, IsFaultOfHeader as IsDecodeFaultOfHeader}
use Rattle.frame_view.specs.Faults.{IsFaultOfFrame, no_method, in_payload, IsFaultOfHeader}
use Rattle.frame_view.specs.Faults.{IsFramingFault, in_header as header_front, too_short, IsFaultOfNext, of_framing, of_frame}
use Rattle.frame_view.specs.FrameRanges.{AreFramesBetween}

-- laws of consecutive frames
abbrev pub PlaceLaw : Type 0
PlaceLaw = (place : ℕ) (frames others : List Frame) → AreConsecutiveFrom place frames
    → AreConsecutiveFrom (place + length (concat_frames frames)) others → AreConsecutiveFrom place (frames ++ others)

-- the fault of the same bytes at the same offset
fault_at : (place other : ℕ) (bytes : List ℕ) (fault : Option FeedFault) → place ≡ other → HasHeaderFault place bytes fault → HasHeaderFault other bytes fault
fault_at place other bytes fault p h = subst (λ (n : ℕ). HasHeaderFault n bytes fault) p h

-- the frames split the stream
split_at : (stream : List ℕ) (to : ℕ) (fs : List Frame) → AreFramesBetween stream 0 to fs → IsPartial (drop to stream) → IsSplitOf 0 stream fs (drop to stream)
split_at stream to fs x partial = record { whole = x.whole; each = x.each; places = x.places; partial = partial }

header_there : (fault : FeedFault) (place : ℕ) (word : List ℕ) → IsFaultOfHeader fault place word → IsDecodeFaultOfHeader fault place word
header_there (Version at value) place word h = h
header_there (Kind at value) place word h = h
header_there (TooLong at value) place word h = h
header_there Memory place word h = h

frame_there : (T : Table) (f : Frame) (place : ℕ) (word : List ℕ) → IsFaultOfFrame T f place word → IsDecodeFaultIn T f place word
frame_there T f place word (no_method kind none at is) = decode_no_method kind none at is
frame_there T f place word (in_payload reason at kind known first stands is) = decode_in_payload reason at kind known first stands is

at_front : (T : Table) (stream lines : List ℕ) (to place : ℕ) (word : List ℕ) (fs : List Frame) → AreFramesBetween stream 0 to fs → AreLinesOf T fs lines
    → IsFramingFault to (drop to stream) place word → IsCutAt T 0 stream lines place word
at_front T stream lines to place word fs x told (header_front fault h is) =
    in_header fs (drop to stream) fault (split_at stream to fs x h.partial) told
    (fault_at to (0 + length (concat_frames fs)) (drop to stream) (Some fault) x.end h.first)
    (header_there fault place word is)
at_front T stream lines to place word fs x told (too_short h some at short) =
    in_short_frame fs (drop to stream) (split_at stream to fs x h.partial) told
    (fault_at to (0 + length (concat_frames fs)) (drop to stream) None x.end h.first)
    some (at ∙ x.end) short

joined-more : (fs : List Frame) (f : Frame) (more : List ℕ) → concat_frames fs ++ (bytes_of_frame f ++ more) ≡ concat_frames (fs ++ f ∷ []) ++ more
joined-more fs f more =
    sym (append_assoc (concat_frames fs) (bytes_of_frame f) more)
    ∙ ap (λ (bs : List ℕ). (concat_frames fs ++ bs) ++ more) (sym (append-nil (bytes_of_frame f)))
    ∙ ap (λ (bs : List ℕ). bs ++ more) (sym (flat_map-append bytes_of_frame fs (f ∷ [])))

-- the frames and the next one are a prefix
in_front : PlaceLaw → (stream : List ℕ) (to : ℕ) (fs : List Frame) (f : Frame) → AreFramesBetween stream 0 to fs → IsFrameAt to (drop to stream) f → AreFirstFrames 0 stream (fs ++ f ∷ [])
in_front law stream to fs f x h = record {
  more = drop (16 + length f.payload) (drop to stream);
  whole = x.whole ∙ ap (λ (bs : List ℕ). concat_frames fs ++ bs) h.whole ∙ joined-more fs f (drop (16 + length f.payload) (drop to stream));
  each = All-append IsFrame fs (f ∷ []) x.each (All-cons IsFrame f [] h.frame (All-nil IsFrame));
  places = law 0 fs (f ∷ []) x.places (h.stands ∙ x.end, tt);
}

pub cut_here : PlaceLaw → (T : Table) (stream lines word : List ℕ) (to place : ℕ) (fs : List Frame) → AreFramesBetween stream 0 to fs → AreLinesOf T fs lines
    → IsFaultOfNext T to (drop to stream) place word → IsCutAt T 0 stream lines place word
cut_here law T stream lines word to place fs x told (of_framing front) = at_front T stream lines to place word fs x told front
cut_here law T stream lines word to place fs x told (of_frame f h fault) = in_frame fs f (in_front law stream to fs f x h) told (frame_there T f place word fault)
