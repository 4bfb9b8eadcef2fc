-- The code's own: the parts of a feed: the numbers of a header, the start of a stream that comes in two parts, and how
-- it splits.
use Rattle.std.specs.Prelude.{◌≡◌, ℕ, ◌+◌, ◌-◌, ◌<◌, ◌≤◌, List, [], ◌∷◌, ◌++◌, length, take, drop, slice_index, Option, Some, None}
use Rattle.byteorder.specs.Endian.{big_number}
use Rattle.frame_transport.specs.Frames.{IsFrame, bytes_of_frame, concat_frames, IsSplitOf, length_field, HasHeaderFault, HasNoFrame}
use Rattle.frame_transport.specs.declared.format.Frame.{Frame}
use Rattle.frame_transport.specs.declared.format.TheConstants.{HEADER_LEN, MAX_PAYLOAD, METHOD_PLACE}
use Rattle.frame_transport.specs.declared.fault.FeedFault.{FeedFault}
use Rattle.frame_transport.specs.declared.header.FrameHeader.{FrameHeader}
use Rattle.frame_transport.specs.declared.parsed_header.ParsedHeader.{ParsedHeader}
use Rattle.frame_transport.specs.declared.parsed_header.ParsedHeader.TheVariants.{Fault as BadField, Short, Clear}
use Rattle.frame_transport.specs.declared.parsed_frame.ParsedFrame.{ParsedFrame}
use Rattle.frame_transport.specs.declared.parsed_frame.ParsedFrame.TheVariants.{Whole, Partial, Fault}

-- the numbers of the header at the start
pub record IsHeaderOf (bytes : List ℕ) (h : FrameHeader) : Type 0 where
  pub size : h.length ≡ length_field bytes
  pub kind : h.kind ≡ slice_index bytes 4
  pub version : h.version ≡ slice_index bytes 5
  pub method : h.method ≡ big_number 2 (drop METHOD_PLACE bytes)
  pub conn : h.conn ≡ big_number 4 (drop 8 bytes)
  pub number : h.number ≡ big_number 4 (drop 12 bytes)

-- the bytes of the header: the first 16 of the two parts, or all if they are fewer
abbrev pub header_part : List ℕ → List ℕ → List ℕ
header_part begun piece = take HEADER_LEN (begun ++ piece)

-- the two parts have all bytes of the header
abbrev pub HasWholeHeader : List ℕ → List ℕ → Type 0
HasWholeHeader begun piece = HEADER_LEN ≤ length (header_part begun piece)

-- the header of the two parts has no fault, and the first part doesn't have its whole frame
pub record IsClear (place : ℕ) (begun piece : List ℕ) (h : FrameHeader) : Type 0 where
  pub clean : HasHeaderFault place (header_part begun piece) None
  pub long : HasWholeHeader begun piece
  pub header : IsHeaderOf (header_part begun piece) h
  pub small : h.length ≤ MAX_PAYLOAD
  pub longer : length begun < HEADER_LEN + h.length

-- the number of bytes of a frame, its header included
abbrev pub frame_size : Frame → ℕ
frame_size f = HEADER_LEN + length f.payload

-- what the second part has after the end of the frame
abbrev pub after_frame : List ℕ → List ℕ → Frame → List ℕ
after_frame begun piece f = drop (frame_size f - length begun) piece

-- the frame starts with the first part, and ends in the second
pub record IsFrameOfParts (place : ℕ) (begun piece : List ℕ) (f : Frame) : Type 0 where
  pub frame : IsFrame f
  pub stands : f.place ≡ place
  pub longer : length begun < frame_size f
  pub within : frame_size f ≤ length begun + length piece
  pub bytes : begun ++ piece ≡ bytes_of_frame f ++ after_frame begun piece f

-- the bytes have no whole frame, but this fault
abbrev pub HasOnlyFault : ℕ → List ℕ → FeedFault → Type 0
HasOnlyFault place bytes fault = HasNoFrame place bytes (Some fault)

-- the bytes have no whole frame, and no fault so far
abbrev pub IsUnfinished : ℕ → List ℕ → Type 0
IsUnfinished place bytes = HasNoFrame place bytes None

-- what the two parts have up to their first header: a fault, too few bytes to decide, or a header without a fault
abbrev pub HasBeginning : ℕ → List ℕ → List ℕ → ParsedHeader → Type 0
HasBeginning place begun piece (BadField fault) = HasOnlyFault place (begun ++ piece) fault
HasBeginning place begun piece Short = IsUnfinished place (begun ++ piece)
HasBeginning place begun piece (Clear header) = IsClear place begun piece header

-- what the two parts have first: a whole frame, a part of one, or a fault
abbrev pub IsParsedFrame : ℕ → List ℕ → List ℕ → ParsedFrame → Type 0
IsParsedFrame place begun piece (Whole frame) = IsFrameOfParts place begun piece frame
IsParsedFrame place begun piece Partial = IsUnfinished place (begun ++ piece)
IsParsedFrame place begun piece (Fault fault) = HasOnlyFault place (begun ++ piece) fault

-- the bytes after these frames: the remainder of the piece, preceded by the partial frame if there are no whole frames
abbrev pub remainder_after : List Frame → List ℕ → List ℕ → List ℕ
remainder_after [] begun left = begun ++ left
remainder_after (f ∷ fs) begun left = left

-- Two parts, the first byte at this offset, split into these frames, which end at that offset, and the bytes after
-- them, which have this fault, or none so far. These bytes remain of the piece.
pub record IsSplitOfParts (place : ℕ) (begun piece : List ℕ) (frames : List Frame) (end : ℕ) (left : List ℕ)
    (fault : Option FeedFault) : Type 0 where
  pub splits : IsSplitOf place (begun ++ piece) frames (remainder_after frames begun left)
  pub behind : end ≡ place + length (concat_frames frames)
  pub first : HasHeaderFault end (remainder_after frames begun left) fault
  pub fewer : length left ≤ length piece
