-- Block numbers are judged, one by one.
use Rattle.std.proofs.Common.{◌≡◌, ◌≢◌, inl, inr, All, ℕ, List, [], ◌∷◌, ◌++◌, refl, sym, ap, subst, ◌∙◌, append_assoc}
use Rattle.std.proofs.Common.{IsPermutation, Result, Ok, Err, OnOk, OnErr, is_err, true, false}
use Rattle.std.proofs.lemmas.List.Sorted.{IsPermutation-append, IsPermutation-append_comm, IsPermutation-refl, IsPermutation-trans}
use Rattle.std.proofs.lemmas.Bool.{true≢false}
use Rattle.receive_heap.specs.Layout.{IsWithout}
use Rattle.receive_heap.specs.declared.extents.Block.{Block}
use Rattle.message_delivery.specs.Noticing.{AreJudged, IsCounting, IsReclaiming, IsWithoutEach}
use Rattle.message_delivery.specs.declared.reclaims.Reclaims.{Reclaims}

-- the invariant of a loop over the numbers
abbrev pub HasJudged : Reclaims → Reclaims → List Block → List Block → Type 0
HasJudged old new held left = (numbers back : List ℕ) → IsReclaiming numbers back old → (more : List ℕ)
    × (gained : List ℕ) × IsReclaiming (numbers ++ more) (back ++ gained) new × IsWithoutEach gained held left

-- and its invariant for each number
abbrev pub HasJudgedEach : Reclaims → Reclaims → List Block → List Block → Type 0
HasJudgedEach old new held left = (numbers : List ℕ) → IsCounting numbers old → (more : List ℕ) × (back : List ℕ)
    × (refused : List ℕ) × IsCounting (numbers ++ more) new × (new.not_held.items ≡ old.not_held.items ++ refused)
    × AreJudged more back refused held left

one-back : (numbers back refused : List ℕ) (number : ℕ) (old between new : List Block)
    → AreJudged numbers back refused old between → IsWithout number between new
    → AreJudged (numbers ++ number ∷ []) (back ++ number ∷ []) refused old new
one-back [] back refused number old between new judged without = inl (
  new,
  [],
  ap (λ xs. xs ++ number ∷ []) judged.0,
  subst (λ b. IsWithout number b new) judged.2 without,
  (refl, judged.1, refl),
)
one-back (first ∷ numbers) back refused number old between new judged without = elim judged [
  | inl it ↦ inl (it.0, it.1 ++ number ∷ [], ap (λ xs. xs ++ number ∷ []) it.2, it.3, one-back numbers it.1 refused number it.0 between new it.4 without)
  | inr it ↦ inr (it.0, it.1, it.2, one-back numbers back it.0 number old between new it.3 without)
]

one-refused : (numbers back refused : List ℕ) (number : ℕ) (old new : List Block)
    → AreJudged numbers back refused old new → All (λ (held : Block). held.number ≢ number) new
    → AreJudged (numbers ++ number ∷ []) back (refused ++ number ∷ []) old new
one-refused [] back refused number old new judged none = inr (
  [],
  ap (λ xs. xs ++ number ∷ []) judged.1,
  subst (All (λ (held : Block). held.number ≢ number)) judged.2 none,
  (judged.0, refl, judged.2),
)
one-refused (first ∷ numbers) back refused number old new judged none = elim judged [
  | inl it ↦ inl (it.0, it.1, it.2, it.3, one-refused numbers it.1 refused number it.0 new it.4 none)
  | inr it ↦ inr (it.0 ++ number ∷ [], ap (λ xs. xs ++ number ∷ []) it.1, it.2, one-refused numbers back it.0 number old new it.3 none)
]

-- a number named a held block
pub each-back : (old mid new : Reclaims) (held between left : List Block) (number : ℕ)
    → HasJudgedEach old mid held between
    → ((numbers : List ℕ) → IsCounting numbers mid → IsCounting (numbers ++ number ∷ []) new)
    → new.not_held.items ≡ mid.not_held.items → IsWithout number between left → HasJudgedEach old new held left
each-back old mid new held between left number judged counts same without numbers h =
    let j = judged numbers h in (
      j.0 ++ number ∷ [],
      j.1 ++ number ∷ [],
      j.2,
      subst (λ xs. IsCounting xs new) (append_assoc numbers j.0 (number ∷ [])) (counts (numbers ++ j.0) j.3),
      same ∙ j.4,
      one-back j.0 j.1 j.2 number held between left j.5 without,
    )

-- and one that named none
pub each-refused : (old mid new : Reclaims) (held left : List Block) (number : ℕ) → HasJudgedEach old mid held left
    → ((numbers : List ℕ) → IsCounting numbers mid → IsCounting (numbers ++ number ∷ []) new)
    → new.not_held.items ≡ mid.not_held.items ++ number ∷ []
    → All (λ (block : Block). block.number ≢ number) left → HasJudgedEach old new held left
each-refused old mid new held left number judged counts grown none numbers h =
    let j = judged numbers h in (
      j.0 ++ number ∷ [],
      j.1,
      j.2 ++ number ∷ [],
      subst (λ xs. IsCounting xs new) (append_assoc numbers j.0 (number ∷ [])) (counts (numbers ++ j.0) j.3),
      grown ∙ ap (λ xs. xs ++ number ∷ []) j.4 ∙ append_assoc old.not_held.items j.2 (number ∷ []),
      one-refused j.0 j.1 j.2 number held left j.5 none,
    )

-- the ring returned no number
pub each-same : (old mid new : Reclaims) (held left : List Block) → HasJudgedEach old mid held left
    → ((numbers : List ℕ) → IsCounting numbers mid → IsCounting numbers new)
    → new.not_held.items ≡ mid.not_held.items → HasJudgedEach old new held left
each-same old mid new held left judged counts same numbers h =
    let j = judged numbers h in (j.0, j.1, j.2, counts (numbers ++ j.0) j.3, same ∙ j.4, j.5)

loses-more : (gained : List ℕ) (number : ℕ) (old between new : List Block) → IsWithoutEach gained old between
    → IsWithout number between new → IsWithoutEach (gained ++ number ∷ []) old new
loses-more [] number old between new same without =
    (new, subst (λ b. IsWithout number b new) same without, refl)
loses-more (first ∷ gained) number old between new each without =
    (each.0, each.1, loses-more gained number each.0 between new each.2 without)

-- a number named a held block
pub judged-back : (old mid new : Reclaims) (held between left : List Block) (number : ℕ) → HasJudged old mid held between
    → ((numbers : List ℕ) → IsCounting numbers mid → IsCounting (numbers ++ number ∷ []) new)
    → new.not_held.items ≡ mid.not_held.items → IsWithout number between left → HasJudged old new held left
judged-back old mid new held between left number judged counts same without numbers back h =
    let j = judged numbers back h in (
      j.0 ++ number ∷ [],
      j.1 ++ number ∷ [],
      record {
        counting = subst (λ xs. IsCounting xs new) (append_assoc numbers j.0 (number ∷ [])) (counts (numbers ++ j.0)
            j.2.counting);
        split = subst (λ xs. IsPermutation xs (new.not_held.items ++ (back ++ (j.1 ++ number ∷ []))))
            (append_assoc numbers j.0 (number ∷ []))
            (subst (IsPermutation ((numbers ++ j.0) ++ number ∷ []))
            (append_assoc mid.not_held.items (back ++ j.1) (number ∷ []) ∙ ap (λ xs. mid.not_held.items ++ xs)
            (append_assoc back j.1 (number ∷ [])) ∙ ap (λ xs. xs ++ (back ++ (j.1 ++ number ∷ []))) (sym same))
            (IsPermutation-append (numbers ++ j.0) (mid.not_held.items ++ (back ++ j.1)) (number ∷ []) (number ∷ [])
            j.2.split (IsPermutation-refl (number ∷ []))));
      },
      loses-more j.1 number held between left j.3 without,
    )

-- and one that named none
pub judged-not : (old mid new : Reclaims) (held left : List Block) (number : ℕ) → HasJudged old mid held left
    → ((numbers : List ℕ) → IsCounting numbers mid → IsCounting (numbers ++ number ∷ []) new)
    → new.not_held.items ≡ mid.not_held.items ++ number ∷ [] → HasJudged old new held left
judged-not old mid new held left number judged counts grown numbers back h =
    let j = judged numbers back h in (
      j.0 ++ number ∷ [],
      j.1,
      record {
        counting = subst (λ xs. IsCounting xs new) (append_assoc numbers j.0 (number ∷ [])) (counts (numbers ++ j.0)
            j.2.counting);
        split = subst (λ xs. IsPermutation xs (new.not_held.items ++ (back ++ j.1)))
            (append_assoc numbers j.0 (number ∷ []))
            (IsPermutation-trans ((numbers ++ j.0) ++ number ∷ [])
            ((mid.not_held.items ++ (back ++ j.1)) ++ number ∷ []) (new.not_held.items ++ (back ++ j.1))
            (IsPermutation-append (numbers ++ j.0) (mid.not_held.items ++ (back ++ j.1)) (number ∷ []) (number ∷ [])
            j.2.split (IsPermutation-refl (number ∷ [])))
            (subst (IsPermutation ((mid.not_held.items ++ (back ++ j.1)) ++ number ∷ []))
            (ap (λ xs. xs ++ (back ++ j.1)) (sym grown))
            (between mid.not_held.items (back ++ j.1) number)));
      },
      j.3,
    )
  where
    between : (xs ys : List ℕ) (x : ℕ) → IsPermutation ((xs ++ ys) ++ x ∷ []) ((xs ++ x ∷ []) ++ ys)
    between xs ys x = subst (λ zs. IsPermutation zs ((xs ++ x ∷ []) ++ ys)) (sym (append_assoc xs ys (x ∷ [])))
        (subst (IsPermutation (xs ++ (ys ++ x ∷ []))) (sym (append_assoc xs (x ∷ []) ys))
        (IsPermutation-append xs xs (ys ++ x ∷ []) (x ∷ ys) (IsPermutation-refl xs)
        (IsPermutation-append_comm ys (x ∷ []))))

-- the ring returned no number
pub judged-same : (old mid new : Reclaims) (held left : List Block) → HasJudged old mid held left
    → ((numbers : List ℕ) → IsCounting numbers mid → IsCounting numbers new)
    → new.not_held.items ≡ mid.not_held.items → HasJudged old new held left
judged-same old mid new held left judged counts same numbers back h =
    let j = judged numbers back h in (
      j.0,
      j.1,
      record {
        counting = counts (numbers ++ j.0) j.2.counting;
        split = subst (λ xs. IsPermutation (numbers ++ j.0) (xs ++ (back ++ j.1))) (sym same) j.2.split;
      },
      j.3,
    )

-- what holds of a success, and of an error
pub ok-of : {A E P : Type 0} (r : Result A E) → is_err r ≡ false → OnOk r P → P
ok-of (Ok x) is h = h
ok-of (Err e) is h = absurd (true≢false is)

pub err-of : {A E P : Type 0} (r : Result A E) → is_err r ≡ true → OnErr r P → P
err-of (Ok x) is h = absurd (true≢false (sym is))
err-of (Err e) is h = h
