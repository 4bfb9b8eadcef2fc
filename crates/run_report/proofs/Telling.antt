-- Texts of connections, one after another, and how many of their lines count.
use Rattle.std.proofs.Common.{◌≡◌, ℕ, suc, ◌+◌, ◌<◌, ◌≤◌, ◌↔◌, Bool, true, false, List, [], ◌∷◌, ◌++◌, length, refl, sym}
use Rattle.std.proofs.Common.{ap, ◌∙◌, subst, append_assoc, append-nil, length-append, take, get_or, take-suc, arith}
use Rattle.std.proofs.lemmas.List.{append_cancel_left}
use Rattle.std.specs.Prelude.{IsTrue}
use Rattle.std.specs.List.{AllZip, concat, flat_map}
use Rattle.std.proofs.lemmas.List.Folds.{concat-append}
use Rattle.call_history.specs.declared.happening.Happening.{Happening}
use Rattle.call_history.specs.declared.happening.Happening.TheVariants.{Took, Away, Op, Moment, Charged, Drawn, Counted, Redacted, Sent, Refused}
use Rattle.call_history.specs.declared.happening.AcceptedCall.{AcceptedCall}
use Rattle.run_report.specs.Counting.{counted}
use Rattle.receive_core.specs.ReceiverTraces.{ReceiverTrace}
use Rattle.message_delivery.specs.Arriving.{HasTrace, IsArrivalTrace}
use Rattle.message_delivery.specs.declared.arrivals.Arrivals.{Arrivals}
use Rattle.run_report.specs.ConnectionReport.{IsStreamRemainder}

-- ---- index by index

pub zip-more : {X Y : Type 0} (R : X → Y → Type 0) (xs : List X) (ys : List Y) (x : X) (y : Y) → AllZip R xs ys → R x y
    → AllZip R (xs ++ x ∷ []) (ys ++ y ∷ [])
zip-more R [] [] x y all is = (is, tt)
zip-more R [] (w ∷ ys) x y all is = absurd all
zip-more R (v ∷ xs) [] x y all is = absurd all
zip-more R (v ∷ xs) (w ∷ ys) x y all is = (all.0, zip-more R xs ys x y all.1 is)

-- the item at an index follows those before it
pub zip-next : {X Y : Type 0} (R : X → Y → Type 0) (xs : List X) (i : ℕ) (x : X) (before after : List Y) (y : Y) → i < length xs
    → x ≡ get_or xs i x → AllZip R (take i xs) before → R x y → after ≡ before ++ y ∷ [] → AllZip R (take (i + 1) xs) after
zip-next {X} {Y} R xs i x before after y less at all is more =
    let place : suc i ≡ i + 1 = omega arith in
    let next : take i xs ++ x ∷ [] ≡ take (i + 1) xs =
    ap (λ (z : X). take i xs ++ z ∷ []) at ∙ sym (take-suc xs i x less) ∙ ap (λ n. take n xs) place in
    subst (λ (l : List Y). AllZip R (take (i + 1) xs) l) (sym more)
    (subst (λ (l : List X). AllZip R l (before ++ y ∷ [])) next (zip-more R (take i xs) before x y all is))

-- a last text follows all others
pub joined-last : (texts all : List (List ℕ)) (last first second : List ℕ) → all ≡ texts ++ last ∷ [] → last ≡ first ++ second
    → concat all ≡ concat texts ++ first ++ second
joined-last texts all last first second more is =
    ap concat more ∙ concat-append texts (last ∷ []) ∙ ap (λ t. concat texts ++ t) (append-nil last ∙ is)
    ∙ sym (append_assoc (concat texts) first second)

-- ---- the number of lines that count

counted-few : (calls : List AcceptedCall) (h : Happening) → length (counted calls h) ≤ 1
counted-few calls (Took call) = omega arith
counted-few calls (Away method number addr) = omega arith
counted-few calls (Op step) = omega arith
counted-few calls (Moment ms) = omega arith
counted-few calls (Charged seq name level) = omega arith
counted-few calls (Drawn seq name window ticket) = omega arith
counted-few calls (Counted seq name) = omega arith
counted-few calls (Redacted seq name version) = omega arith
counted-few calls (Sent seq bytes) = omega arith
counted-few calls (Refused seq why) = omega arith

pub few-counted : (calls : List AcceptedCall) (hs : List Happening) → length (flat_map (counted calls) hs) ≤ length hs
few-counted calls [] = omega arith
few-counted calls (h ∷ hs) =
    let rest = few-counted calls hs in
    let one = counted-few calls h in
    let both = length-append (counted calls h) (flat_map (counted calls) hs) in
    omega (arith, rest, one, both)

-- ---- the remainder, by any trace of the stream

pub left-any : (conn : ℕ) (failed : Bool) (a : Arrivals) (out next : List ℕ) → HasTrace a
    → ((life : ReceiverTrace) → IsArrivalTrace life a → (text : List ℕ) × IsStreamRemainder conn failed life text × (next ≡ out ++ text))
    → (left : List ℕ) × ((life : ReceiverTrace) → IsArrivalTrace life a → IsStreamRemainder conn failed life left) × (next ≡ out ++ left)
left-any conn failed a out next arriving told =
    let first : (text : List ℕ) × IsStreamRemainder conn failed arriving.0 text × (next ≡ out ++ text) = told arriving.0 arriving.1 in (
      first.0,
      λ life lived.
          let more : (text : List ℕ) × IsStreamRemainder conn failed life text × (next ≡ out ++ text) = told life lived in
          let same : more.0 ≡ first.0 = append_cancel_left out more.0 first.0 (sym more.2 ∙ first.2) in
          subst (λ text. IsStreamRemainder conn failed life text) same more.1,
      first.2,
    )

pub same-flag : (b c : Bool) → IsTrue b ↔ (c ≡ true) → b ≡ c
same-flag true c is = sym (is.0 refl)
same-flag false true is = is.1 refl
same-flag false false is = refl
