-- Parts that are written in order.
use Rattle.std.proofs.Common.{◌≡◌, ℕ, zero, suc, ◌+◌, ◌<◌, ◌≤◌, List, [], ◌∷◌, ◌++◌, Option, length, take, drop, get_or, refl, sym}
use Rattle.std.proofs.Common.{ap, ◌∙◌, subst, append-nil, take-suc, drop-cons, arith}
use Rattle.std.proofs.lemmas.List.{take-append-drop, take-append-le}
use Rattle.std.specs.List.{concat}
use Rattle.std.specs.Io.KnownBytes.{Appends}
use Rattle.std.proofs.lemmas.List.Folds.{concat-append}
use Rattle.text_commands.specs.FaultLines.{HasWrittenPrefix}
use Rattle.mrpc_top.proofs.KnownBytes.{appends-more}

front-of : (before part rest : List ℕ) (many k : ℕ) → k ≡ length before + many → many ≤ length part
    → take k (before ++ (part ++ rest)) ≡ before ++ take many part
front-of [] part rest many k is few =
    let same : k ≡ many = omega (arith, is) in ap (λ n. take n (part ++ rest)) same ∙ take-append-le many part rest few
front-of (b ∷ before) part rest many zero is few = absurd (omega (arith, is))
front-of (b ∷ before) part rest many (suc k) is few =
    ap (λ t. b ∷ t) (front-of before part rest many k (omega (arith, is)) few)

module _ (parts : List (List ℕ)) (i : ℕ) (part : List ℕ) (less : i < length parts) (at : part ≡ get_or parts i part) where
  -- the parts before an index, followed by the part there
  pub joined-next : concat (take (i + 1) parts) ≡ concat (take i parts) ++ part
  joined-next =
      let place : i + 1 ≡ suc i = omega arith in
      ap (λ n. concat (take n parts)) place ∙ ap concat (take-suc parts i part less)
      ∙ concat-append (take i parts) (get_or parts i part ∷ [])
      ∙ ap (λ t. concat (take i parts) ++ t) (append-nil (get_or parts i part) ∙ sym at)

  -- so a prefix of the part, after those parts, is a prefix of all
  pub front-next : (old mid new : Option (List ℕ)) (many : ℕ) → many ≤ length part → Appends old mid (concat (take i parts))
      → Appends mid new (take many part) → HasWrittenPrefix old new (concat parts)
  front-next old mid new many few so more =
      let before : List ℕ = concat (take i parts) in
      let rest : List ℕ = concat (drop (suc i) parts) in
      let all : concat parts ≡ before ++ (part ++ rest) =
      ap concat (sym (take-append-drop i parts)) ∙ concat-append (take i parts) (drop i parts)
      ∙ ap (λ t. before ++ concat t) (drop-cons parts i part less) ∙ ap (λ t. before ++ (t ++ rest)) (sym at) in
      let front : take (length before + many) (concat parts) ≡ before ++ take many part =
      ap (λ t. take (length before + many) t) all ∙ front-of before part rest many (length before + many) refl few in
      (length before + many, subst (Appends old new) (sym front) (appends-more old mid new before (take many part) so more))
