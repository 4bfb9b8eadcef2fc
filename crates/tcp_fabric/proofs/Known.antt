-- How the bytes that a socket knows grow.
use Rattle.std.proofs.Common.{◌≡◌, ◌≢◌, ℕ, List, [], ◌∷◌, ◌++◌, Option, Some, None, IfSome, refl, ap, sym, ◌∙◌, append_assoc}
use Rattle.std.specs.Io.KnownBytes.{append_known}
use Rattle.std.specs.List.{concat}
use Rattle.std.proofs.lemmas.List.{append-nil}
use Rattle.std.proofs.lemmas.List.Folds.{concat-append}
use mathlib.Core.List.{IsPrefix}
use Rattle.std.specs.Io.KnownBytes.{Keeps}
use Rattle.mrpc_base.specs.Links.{OnNoneCame}
use Rattle.tcp_fabric.specs.declared.link.SendState.{SendState}
use Rattle.tcp_fabric.specs.declared.link.SendState.TheVariants.{Open, Cut}
use Rattle.mrpc_base.specs.declared.link.Came.{Came}
use Rattle.mrpc_base.specs.declared.link.Came.TheVariants.{Bytes, Idle, End, Failed, Memory}
use Rattle.tcp_fabric.specs.Link.{IsReceivedNext}

pub append_known-nil : (known : Option (List ℕ)) → append_known known [] ≡ known
append_known-nil None = refl
append_known-nil (Some bytes) = ap Some (append-nil bytes)

pub append_known-more : (known : Option (List ℕ)) (xs ys : List ℕ) → append_known (append_known known xs) ys ≡ append_known known (xs ++ ys)
append_known-more None xs ys = refl
append_known-more (Some bytes) xs ys = ap Some (append_assoc bytes xs ys)

pub concat-snoc : (frames : List (List ℕ)) (frame : List ℕ) → concat (frames ++ frame ∷ []) ≡ concat frames ++ frame
concat-snoc frames frame = concat-append frames (frame ∷ []) ∙ ap (λ bytes. concat frames ++ bytes) (append-nil frame)

-- one more frame was taken completely
pub sent-whole : (sent now : Option (List ℕ)) (frames : List (List ℕ)) (frame : List ℕ)
    → IfSome sent (λ bytes. bytes ≡ concat frames) → now ≡ append_known sent frame
    → IfSome now (λ bytes. bytes ≡ concat (frames ++ frame ∷ []))
sent-whole None now frames frame is grew = rw grew tt
sent-whole (Some bytes) now frames frame is grew = rw grew (ap (λ front. front ++ frame) is ∙ sym (concat-snoc frames frame))

-- if what was taken is the frames, the frames are a prefix of it
pub sent-front : (sent : Option (List ℕ)) (frames : List (List ℕ)) → IfSome sent (λ bytes. bytes ≡ concat frames) → IfSome sent (λ bytes. IsPrefix (concat frames) bytes)
sent-front None frames is = tt
sent-front (Some bytes) frames is = ([], append-nil (concat frames) ∙ sym is)

-- bytes that arrived and were received are in order
pub came-in-order : (came now : Option (List ℕ)) (pieces : List (List ℕ)) (piece waiting left : List ℕ)
    → IfSome came (λ bytes. bytes ≡ concat pieces ++ waiting) → IsReceivedNext piece came waiting now left
    → IfSome now (λ bytes. bytes ≡ concat (pieces ++ piece ∷ []) ++ left)
came-in-order None now pieces piece waiting left is (read, grew, moved) = rw grew tt
came-in-order (Some bytes) now pieces piece waiting left is (read, grew, moved) =
    rw grew (ap (λ front. front ++ read) is ∙ append_assoc (concat pieces) waiting read ∙ ap (λ rest. concat pieces ++ rest) moved
    ∙ sym (append_assoc (concat pieces) piece left) ∙ ap (λ front. front ++ left) (sym (concat-snoc pieces piece)))

-- bytes that arrived are read ahead after the earlier ones
pub came-waits : (came now : Option (List ℕ)) (given waiting left : List ℕ)
    → IfSome came (λ bytes. bytes ≡ given ++ waiting) → IsReceivedNext [] came waiting now left
    → IfSome now (λ bytes. bytes ≡ given ++ left)
came-waits None now given waiting left is (read, grew, moved) = rw grew tt
came-waits (Some bytes) now given waiting left is (read, grew, moved) =
    rw grew (ap (λ front. front ++ read) is ∙ append_assoc given waiting read ∙ ap (λ rest. given ++ rest) moved)

-- ---- after a result without bytes

-- known bytes are unchanged
pub keeps-none : (came : Came) (given given_now : List ℕ) (other : Type 0) → OnNoneCame came ((given_now ≡ given) × other) → OnNoneCame came (Keeps (Some given) (Some given_now))
keeps-none (Bytes n) given given_now other told = tt
keeps-none Idle given given_now other told = told.0
keeps-none End given given_now other told = told.0
keeps-none Failed given given_now other told = told.0
keeps-none Memory given given_now other told = told.0

-- an open side isn't cut
pub not-cut : (side : SendState) → side ≡ Open → side ≢ Cut
not-cut side is cut = let e : Open ≡ Cut = sym is ∙ cut in cc (e)
