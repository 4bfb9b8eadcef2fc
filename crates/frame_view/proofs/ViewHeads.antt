-- The faults of a text before a stream.
use Rattle.std.proofs.Common.{◌≡◌, ℕ, ◌+◌, eqb, true, List, ◌++◌, length, take, drop, Bor, Some, ap, ◌∙◌}
use Rattle.std.specs.Cmp.Lexicographic.{pointwise}
use Rattle.std.proofs.lemmas.Bool.Decides.{Decides-eqb}
use Rattle.std.proofs.lemmas.Slice.Eq.{strip_prefix_is}
use Rattle.table_text.specs.TableText.{HasTableAfter, IsEndless}
use Rattle.frame_view.specs.Input.{decode_preamble, decode_header, table_keyword}

-- a prefix was removed
abbrev pub IsTakenOff : List ℕ → List ℕ → List ℕ → Type 0
IsTakenOff front text rest = (pointwise eqb (take (length front) text) front ≡ true) × (rest ≡ drop (length front) text) × (length rest + length front ≡ length text)

-- after the first two lines no `end` line follows
pub endless_of : (text : List ℕ) (behind rest : Bor (List ℕ)) → IsTakenOff decode_header text behind.now → IsTakenOff table_keyword behind.now rest.now
    → ((t stream : List ℕ) → HasTableAfter decode_preamble text t stream → ⊥) → IsEndless decode_preamble text rest.now
endless_of text behind rest first second none =
    let first_is : text ≡ decode_header ++ behind.now = strip_prefix_is Decides-eqb text decode_header (Some behind) first in
    let second_is : behind.now ≡ table_keyword ++ rest.now = strip_prefix_is Decides-eqb behind.now table_keyword (Some rest) second in
    record { text_is = first_is ∙ ap (λ (t : List ℕ). decode_header ++ t) second_is; endless = none }
