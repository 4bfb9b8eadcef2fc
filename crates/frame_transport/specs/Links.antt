-- The data of a link over a sink, as contracts see it.
use Rattle.std.specs.Prelude.{◌≡◌, ◌≤◌, ℕ, Bool, List, [], ◌++◌, Option, Some, None}
use Rattle.std.specs.List.{flat_map}
use Rattle.std.specs.Borrow.{GName}
use Rattle.std.specs.Io.KnownBytes.{Appends}
use Rattle.mrpc_base.specs.Failures.{HasRisen}
use Rattle.mrpc_base.specs.Sinks.{HasAppendedPrefix}
use Rattle.frame_transport.specs.declared.byte_link.ByteLink.{ByteLink}
use mathlib.Core.Path.{refl, sym}
use mathlib.Core.List.{append-nil}

-- the sink, as the link leaves it
abbrev pub sink_of : {W : Type 0} → ByteLink W → W
sink_of link = link.sink.now

-- the ghost name of the borrow of the sink, which identifies the sink
abbrev pub sink_name : {W : Type 0} → ByteLink W → GName
sink_name link = link.sink.ghost_name

-- the frames that were sent, in order
abbrev pub link_frames : {W : Type 0} → ByteLink W → List (List ℕ)
link_frames link = link.handed.frames

-- whether a receive has returned `End`
abbrev pub has_ended : {W : Type 0} → ByteLink W → Bool
has_ended link = link.ended

-- how many sends have failed
abbrev pub failures_of : {W : Type 0} → ByteLink W → ℕ
failures_of link = link.failures

-- The second link is a later state of the first. It is over the same sink. As long as no send has failed, the sink
-- gained exactly the frames sent since, concatenated, and none of its writes failed.
pub record IsLater {W : Type 0} (written : W → Option (List ℕ)) (failures : W → ℕ) (old new : ByteLink W) : Type 0 where
  pub same_sink : sink_name new ≡ sink_name old
  pub more : List (List ℕ)
  pub handed : link_frames new ≡ link_frames old ++ more
  pub gained : failures_of new ≡ 0 → Appends (written (sink_of old)) (written (sink_of new)) (flat_map (λ frame. frame) more)
  pub same_faults : failures_of new ≡ 0 → failures (sink_of new) ≡ failures (sink_of old)

appends-nothing : (bytes : Option (List ℕ)) → Appends bytes bytes []
appends-nothing None = tt
appends-nothing (Some bytes) = sym (append-nil bytes)

-- a link is a later state of itself
pub link-itself : {W : Type 0} (written : W → Option (List ℕ)) (failures : W → ℕ) (link : ByteLink W)
    → IsLater written failures link link
link-itself written failures link = record {
  same_sink = refl;
  more = [];
  handed = sym (append-nil (link_frames link));
  gained = λ none. appends-nothing (written (sink_of link));
  same_faults = λ none. refl;
}

-- a send failed: a proper prefix of the frame was written, since a write failed
pub record IsFailedSend {W : Type 0} (written : W → Option (List ℕ)) (failures : W → ℕ) (old : ByteLink W) (frame : List ℕ)
    (new : ByteLink W) : Type 0 where
  pub same_sink : sink_name new ≡ sink_name old
  pub front : HasAppendedPrefix (written (sink_of old)) (written (sink_of new)) frame
  pub rose : HasRisen (failures (sink_of old)) (failures (sink_of new))
  pub never_falls : failures (sink_of old) ≤ failures (sink_of new)
