-- The frames of a stream: the whole frames at its start, and the remainder after them, which doesn't start with a whole
-- frame and may have a fault.
use Rattle.std.specs.Prelude.{◌≡◌, ℕ, ◌+◌, ◌^◌, ◌<◌, ◌≤◌, ◌⊎◌, List, [], ◌∷◌, ◌++◌, length, All, slice_index, Option, Some, None}
use Rattle.std.specs.List.{flat_map}
use Rattle.byteorder.specs.Endian.{big_number}
use Rattle.frame_transport.specs.Bytes.{frame_bytes}
use Rattle.frame_transport.specs.declared.format.Frame.{Frame}
use Rattle.frame_transport.specs.declared.format.TheConstants.{HEADER_LEN, MAX_PAYLOAD, VERSION, HELLO_VERSION, REQUEST, HELLO}
use Rattle.frame_transport.specs.declared.fault.FeedFault.{FeedFault}
use Rattle.frame_transport.specs.declared.fault.FeedFault.TheVariants.{Version, Kind, TooLong}

-- the kinds of frames: a request, a reply and a hello
abbrev pub IsKind : ℕ → Type 0
IsKind kind = (REQUEST ≤ kind) × (kind ≤ HELLO)

-- each kind has version 1, and a hello also version 2
abbrev pub HasVersion : ℕ → ℕ → Type 0
HasVersion kind version = (version ≡ VERSION) ⊎ ((kind ≡ HELLO) × (version ≡ HELLO_VERSION))

-- the payload isn't too long, and the numbers fit their fields
pub record IsFrame (f : Frame) : Type 0 where
  pub kind : IsKind f.kind
  pub version : HasVersion f.kind f.version
  pub short : length f.payload ≤ MAX_PAYLOAD
  pub method : f.method < 2 ^ 16
  pub conn : f.conn < 2 ^ 32
  pub number : f.number < 2 ^ 32

-- the bytes of a frame
abbrev pub bytes_of_frame : Frame → List ℕ
bytes_of_frame f = frame_bytes f.kind f.version f.method f.conn f.number f.payload

-- the bytes of frames, concatenated
abbrev pub concat_frames : List Frame → List ℕ
concat_frames frames = flat_map bytes_of_frame frames

-- the first frame is at this offset, and each other one at the end of the previous one
abbrev pub AreConsecutiveFrom : ℕ → List Frame → Type 0
AreConsecutiveFrom place [] = Unit {0}
AreConsecutiveFrom place (f ∷ fs) = (f.place ≡ place) × AreConsecutiveFrom (place + length (bytes_of_frame f)) fs

-- the bytes don't start with a whole frame
abbrev pub IsPartial : List ℕ → Type 0
IsPartial bytes = (f : Frame) (more : List ℕ) → IsFrame f → bytes ≡ bytes_of_frame f ++ more → ⊥

-- the length, the kind and the version in a header
unfoldable pub length_field : List ℕ → ℕ
length_field bytes = big_number 4 bytes

abbrev pub kind_field : List ℕ → ℕ
kind_field bytes = slice_index bytes 4

abbrev pub version_field : List ℕ → ℕ
version_field bytes = slice_index bytes 5

-- A frame that starts with these bytes at this offset is at fault. Its length is too long, or else its kind doesn't
-- exist, or else its kind doesn't have its version. Each field counts as soon as it is complete.
pub data IsFaultAt (place : ℕ) (bytes : List ℕ) (fault : FeedFault) : Type 0 where
  long : 4 ≤ length bytes → MAX_PAYLOAD < length_field bytes → fault ≡ TooLong place (length_field bytes)
      → IsFaultAt place bytes fault
  no_kind : 5 ≤ length bytes → length_field bytes ≤ MAX_PAYLOAD → (IsKind (kind_field bytes) → ⊥)
      → fault ≡ Kind (place + 4) (kind_field bytes) → IsFaultAt place bytes fault
  no_version : 6 ≤ length bytes → length_field bytes ≤ MAX_PAYLOAD → IsKind (kind_field bytes)
      → (HasVersion (kind_field bytes) (version_field bytes) → ⊥)
      → fault ≡ Version (place + 5) (version_field bytes) → IsFaultAt place bytes fault

-- the bytes have the fault, or none so far
abbrev pub HasHeaderFault : ℕ → List ℕ → Option FeedFault → Type 0
HasHeaderFault place bytes (Some fault) = IsFaultAt place bytes fault
HasHeaderFault place bytes None = (fault : FeedFault) → IsFaultAt place bytes fault → ⊥

-- the stream doesn't start with a whole frame, and has this fault, or none so far
pub record HasNoFrame (place : ℕ) (stream : List ℕ) (fault : Option FeedFault) : Type 0 where
  pub partial : IsPartial stream
  pub first : HasHeaderFault place stream fault

-- the stream, whose first byte is at this offset, is these frames followed by this remainder
pub record IsSplitOf (place : ℕ) (stream : List ℕ) (frames : List Frame) (rest : List ℕ) : Type 0 where
  pub whole : stream ≡ concat_frames frames ++ rest
  pub each : All IsFrame frames
  pub places : AreConsecutiveFrom place frames
  pub partial : IsPartial rest

-- after its whole frames the stream has this fault, or none so far
pub record HasFaultSoFar (place : ℕ) (stream : List ℕ) (fault : Option FeedFault) : Type 0 where
  pub frames : List Frame
  pub rest : List ℕ
  pub splits : IsSplitOf place stream frames rest
  pub first : HasHeaderFault (place + length (concat_frames frames)) rest fault

-- each stream of bytes splits
abbrev pub AllStreamsSplit : Type 0
AllStreamsSplit = (place : ℕ) (stream : List ℕ) → All (λ byte. byte < 256) stream
    → (frames : List Frame) × (rest : List ℕ) × IsSplitOf place stream frames rest

-- in at most one way
abbrev pub IsSplitUnique : Type 0
IsSplitUnique = (place : ℕ) (stream : List ℕ) (frames others : List Frame) (rest more : List ℕ)
    → IsSplitOf place stream frames rest → IsSplitOf place stream others more → (frames ≡ others) × (rest ≡ more)

-- the first fault and the frames before it stay, whatever follows in the stream
abbrev pub IsFaultStable : Type 0
IsFaultStable = (place : ℕ) (stream more : List ℕ) (frames : List Frame) (rest : List ℕ) (fault : FeedFault)
    → IsSplitOf place stream frames rest → IsFaultAt (place + length (concat_frames frames)) rest fault
    → IsSplitOf place (stream ++ more) frames (rest ++ more)
    × IsFaultAt (place + length (concat_frames frames)) (rest ++ more) fault

-- so a stream of bytes has a first fault, or none so far
abbrev pub AllStreamsHaveFaultOrNone : Type 0
AllStreamsHaveFaultOrNone = (place : ℕ) (stream : List ℕ) → All (λ byte. byte < 256) stream
    → (fault : Option FeedFault) × HasFaultSoFar place stream fault

-- and at most one of the two: what the stream has, a first fault or none so far, is unique
abbrev pub IsFaultUnique : Type 0
IsFaultUnique = (place : ℕ) (stream : List ℕ) (fault other : Option FeedFault) → HasFaultSoFar place stream fault
    → HasFaultSoFar place stream other → fault ≡ other

-- bytes with neither a whole frame nor a fault are fewer than those of a frame with the largest payload
abbrev pub IsPartialBounded : Type 0
IsPartialBounded = (place : ℕ) (bytes : List ℕ) → All (λ byte. byte < 256) bytes → IsPartial bytes → HasHeaderFault place bytes None
    → length bytes < HEADER_LEN + MAX_PAYLOAD
