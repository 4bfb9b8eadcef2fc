-- What a sink gains through one call after another.
use Rattle.std.proofs.Common.{◌≡◌, ◌≢◌, ℕ, List, [], ◌∷◌, ◌++◌, Option, Some, None, refl, ap, sym, subst, ◌∙◌, append_assoc, append-nil}
use Rattle.std.proofs.lemmas.List.Concat.{flat_map-append}
use Rattle.std.specs.List.{flat_map}
use Rattle.std.specs.Io.KnownBytes.{Appends}
use Rattle.mrpc_base.specs.Failures.{HasCause}
use Rattle.mrpc_base.specs.declared.link.Handed.{Handed}
use Rattle.mrpc_base.specs.declared.link.Handed.TheVariants.{Done, Failed, Memory}
use Rattle.frame_transport.specs.Links.{sink_of, sink_name, link_frames, failures_of, IsLater}
use Rattle.frame_transport.specs.declared.byte_link.ByteLink.{ByteLink}

abbrev out : List (List ℕ) → List ℕ
out = flat_map (λ frame. frame)

appends-more : (a b c : Option (List ℕ)) (xs ys : List ℕ) → Appends a b xs → Appends b c ys → Appends a c (xs ++ ys)
appends-more None b c xs ys h i = tt
appends-more (Some a) None c xs ys h i = absurd h
appends-more (Some a) (Some b) None xs ys h i = absurd i
appends-more (Some a) (Some b) (Some c) xs ys h i = i ∙ ap (λ bs. bs ++ ys) h ∙ append_assoc a xs ys

out-more : (more : List (List ℕ)) (frame : List ℕ) → out (more ++ frame ∷ []) ≡ out more ++ frame
out-more more frame = flat_map-append (λ f. f) more (frame ∷ []) ∙ ap (λ bs. out more ++ bs) (append-nil frame)

-- a whole frame was sent
handed-later : {W : Type 0} (written : W → Option (List ℕ)) (failures : W → ℕ) (first old new : ByteLink W) (frame : List ℕ)
    → IsLater written failures first old → sink_name new ≡ sink_name old → link_frames new ≡ link_frames old ++ frame ∷ []
    → failures_of new ≡ failures_of old → Appends (written (sink_of old)) (written (sink_of new)) frame
    → failures (sink_of new) ≡ failures (sink_of old) → IsLater written failures first new
handed-later written failures first old new frame h same handed kept gains sound = record {
  same_sink = same ∙ h.same_sink;
  more = h.more ++ frame ∷ [];
  handed = handed ∙ ap (λ fs. fs ++ frame ∷ []) h.handed ∙ append_assoc (link_frames first) h.more (frame ∷ []);
  gained = λ none. subst (λ bs. Appends (written (sink_of first)) (written (sink_of new)) bs) (sym (out-more h.more frame))
      (appends-more (written (sink_of first)) (written (sink_of old)) (written (sink_of new)) (out h.more) frame (h.gained (sym kept ∙ none)) gains);
  same_faults = λ none. sound ∙ h.same_faults (sym kept ∙ none);
}

-- a send failed
failed-later : {W : Type 0} (written : W → Option (List ℕ)) (failures : W → ℕ) (first old new : ByteLink W)
    → IsLater written failures first old → sink_name new ≡ sink_name old → link_frames new ≡ link_frames old → failures_of new ≢ 0
    → IsLater written failures first new
failed-later written failures first old new h same handed rose = record {
  same_sink = same ∙ h.same_sink;
  more = h.more;
  handed = handed ∙ h.handed;
  gained = λ none. absurd (rose none);
  same_faults = λ none. absurd (rose none);
}

-- nothing was sent
pub idle-later : {W : Type 0} (written : W → Option (List ℕ)) (failures : W → ℕ) (first old new : ByteLink W)
    → IsLater written failures first old → sink_name new ≡ sink_name old → link_frames new ≡ link_frames old
    → failures_of new ≡ failures_of old → sink_of new ≡ sink_of old → IsLater written failures first new
idle-later written failures first old new h same handed kept still = record {
  same_sink = same ∙ h.same_sink;
  more = h.more;
  handed = handed ∙ h.handed;
  gained = λ none. subst (λ sink. Appends (written (sink_of first)) (written sink) (out h.more)) (sym still) (h.gained (sym kept ∙ none));
  same_faults = λ none. ap failures still ∙ h.same_faults (sym kept ∙ none);
}

-- the result of a send determines which of the two
pub sent-later : {W : Type 0} (written : W → Option (List ℕ)) (failures : W → ℕ) (first old new : ByteLink W) (frame : List ℕ)
    (result : Handed) → IsLater written failures first old → sink_name new ≡ sink_name old
    → (result ≡ Done → link_frames new ≡ link_frames old ++ frame ∷ []) → (result ≢ Done → link_frames new ≡ link_frames old)
    → (result ≡ Done → Appends (written (sink_of old)) (written (sink_of new)) frame)
    → HasCause (result ≡ Failed) (failures_of old) (failures_of new)
    → HasCause (result ≡ Failed) (failures (sink_of old)) (failures (sink_of new))
    → (result ≡ Failed → failures_of new ≢ 0) → result ≢ Memory → IsLater written failures first new
sent-later written failures first old new frame Done h same done kept gains counted cause rose never =
    handed-later written failures first old new frame h same (done refl) (counted.stays (λ e. cc)) (gains refl) (cause.stays (λ e. cc))
sent-later written failures first old new frame Failed h same done kept gains counted cause rose never =
    failed-later written failures first old new h same (kept (λ e. cc)) (rose refl)
sent-later written failures first old new frame Memory h same done kept gains counted cause rose never = absurd (never refl)
