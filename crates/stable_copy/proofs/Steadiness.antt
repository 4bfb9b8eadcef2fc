-- What a reader's loads mean for words that nobody stores.
use Rattle.std.proofs.Common.{◌≡◌, ℕ, zero, suc, ◌+◌, ◌-◌, ◌≤◌, if◌then◌else◌, ◌==◌, true, false, Bool, refl, sym, ap}
use Rattle.std.proofs.Common.{List, [], ◌∷◌, ◌++◌, length, take, drop, subst, ◌∙◌, arith}
use Rattle.std.proofs.Common.{append_assoc, append-nil, length-append}
use Rattle.std.specs.List.{AllByRecursion}
use Rattle.std.proofs.lemmas.Bool.Decides.{Decides-eqb}
use Rattle.std.proofs.lemmas.List.Elements.{recursion_from_All}
use Rattle.mrpc_base.specs.Heap.{AreLoads, word_after}
use Rattle.graph_form.specs.Placed.{Placed, loads}
use Rattle.graph_form.specs.Malformed.{AreReadBy}
use Rattle.shared_heap.specs.Fresh.{Reading, AfterLoad, IsPrefix, HasNoStoreTo}
use Rattle.stable_copy.specs.Unmodified.{IsUnmodifiedSince}

abbrev pub Words : Type 0
Words = List (ℕ × ℕ)

-- ---- what a reader knows is extended

begins-further : (a b c : Words) → IsPrefix a b → IsPrefix b c → IsPrefix a c
begins-further a b c h g = (g.0 ++ h.0, h.1 ∙ ap (λ z. z ++ h.0) g.1 ∙ append_assoc c g.0 h.0)

length-begun : (a b : Words) → IsPrefix a b → length b ≤ length a
length-begun a b h = omega (arith, ap length h.1, length-append b h.0)

record GoesOn (old new : Reading) : Type 0 where
  pub known : IsPrefix new.known old.known
  pub heap : new.heap ≡ old.heap

goes-on : (old new : Reading) (own : Words) → AreLoads AfterLoad old own new → GoesOn old new
goes-on old new [] h = subst (GoesOn old) (sym h) (record { known = ([], sym (append-nil old.known)); heap = refl })
goes-on old new (load ∷ own) h =
    let rest = goes-on h.0 new own h.2 in
    record { known = begins-further new.known h.0.known old.known rest.known h.1.grows; heap = rest.heap ∙ h.1.heap }

-- ---- a load of a place to which no store after the first ones goes gives the value that those made

module _ (all : Words) (after : ℕ) where
  abbrev made : ℕ → ℕ
  made place = word_after (take after all) place

  abbrev Rests : ℕ → Type 0
  Rests place = HasNoStoreTo place (drop after all)

  abbrev pub Steady : ℕ × ℕ → Type 0
  Steady load = Rests load.0 → load.1 ≡ made load.0

  steady : (old new : Reading) (own : Words)
      → AreLoads AfterLoad old own new → IsPrefix all new.known → after ≤ length old.known
      → AllByRecursion Steady own
  steady old new [] h begins within = tt
  steady old new (load ∷ own) h begins within =
      let rest = goes-on h.0 new own h.2 in
      let here : IsPrefix all h.0.known = begins-further all new.known h.0.known begins rest.known in
      let within' : after ≤ length h.0.known = omega (arith, within, length-begun h.0.known old.known h.1.grows) in
      (λ none. h.1.untouched all after here within none, steady h.0 new own h.2 begins within')

-- ---- one reading of places for both the loads that were made and those of the graph

abbrev pub value_at : Words → (ℕ → ℕ) → ℕ → ℕ → ℕ
value_at [] otherwise k place = otherwise place
value_at (load ∷ own) otherwise zero place = if load.0 == place then load.1 else otherwise place
value_at (load ∷ own) otherwise (suc k) place = value_at own otherwise k place

reads-same : (r s : ℕ → ℕ → ℕ) (k : ℕ) (xs : Words)
    → ((j place : ℕ) → k ≤ j → s j place ≡ r j place) → AreReadBy r k xs → AreReadBy s k xs
reads-same r s k [] e h = tt
reads-same r s k (x ∷ xs) e h =
    let later = reads-same r s (k + 1) xs (λ j place below. e j place (omega (arith, below))) h.1 in
    (h.0 ∙ sym (e k x.0 (omega arith)), later)

chosen : (p v w : ℕ) → (if p == p then v else w) ≡ v
chosen p v w = ap (λ b. if b then v else w) ((Decides-eqb p p).1 refl)

abbrev pub reading : Words → (ℕ → ℕ) → ℕ → ℕ → ℕ → ℕ
reading own otherwise first k place = value_at own otherwise (k - first) place

pub own-reads : (own : Words) (otherwise : ℕ → ℕ) (b : ℕ) → AreReadBy (reading own otherwise b) b own
own-reads [] otherwise b = tt
own-reads (load ∷ own) otherwise b =
    let none : b - b ≡ 0 = omega arith in
    let here : reading (load ∷ own) otherwise b b load.0 ≡ load.1
    = ap (λ k. value_at (load ∷ own) otherwise k load.0) none ∙ chosen load.0 load.1 (otherwise load.0) in
    let rest : AreReadBy (reading (load ∷ own) otherwise b) (b + 1) own
    = reads-same (reading own otherwise (b + 1)) (reading (load ∷ own) otherwise b) (b + 1) own
    (λ j place below.
    let e : j - b ≡ suc (j - (b + 1)) = omega (arith, below) in
    ap (λ k. value_at (load ∷ own) otherwise k place) e)
    (own-reads own otherwise (b + 1)) in
    (sym here, rest)

abbrev Agrees : (ℕ → ℕ) → ℕ → ℕ × ℕ → Type 0
Agrees otherwise place load = load.0 ≡ place → load.1 ≡ otherwise place

chosen-alike : (b : Bool) (v w : ℕ) → (b ≡ true → v ≡ w) → (if b then v else w) ≡ w
chosen-alike true v w h = h refl
chosen-alike false v w h = refl

either : (p q v w : ℕ) → (p ≡ q → v ≡ w) → (if p == q then v else w) ≡ w
either p q v w h = chosen-alike (p == q) v w (λ same. h ((Decides-eqb p q).0 same))

at-agrees : (own : Words) (otherwise : ℕ → ℕ) (k place : ℕ)
    → AllByRecursion (Agrees otherwise place) own → value_at own otherwise k place ≡ otherwise place
at-agrees [] otherwise k place h = refl
at-agrees (load ∷ own) otherwise zero place h = either load.0 place load.1 (otherwise place) h.0
at-agrees (load ∷ own) otherwise (suc k) place h = at-agrees own otherwise k place h.1

module _ (all : Words) (after : ℕ) where
  agreeing : (own : Words) (place : ℕ) → Rests all after place
      → AllByRecursion (Steady all after) own → AllByRecursion (Agrees (made all after) place) own
  agreeing [] place none h = tt
  agreeing (load ∷ own) place none h =
      let here : load.0 ≡ place → load.1 ≡ made all after place
      = λ same. h.0 (subst (Rests all after) (sym same) none) ∙ ap (made all after) same in
      (here, agreeing own place none h.1)

  others-read : (own : Words) (b k : ℕ) (ys : Words) → AllByRecursion (Steady all after) own
      → AllByRecursion (λ (word : ℕ × ℕ). word.1 ≡ made all after word.0) ys
      → AllByRecursion (λ (word : ℕ × ℕ). Rests all after word.0) ys
      → AreReadBy (reading own (made all after) b) k ys
  others-read own b k [] s h g = tt
  others-read own b k (y ∷ ys) s h g =
      let same = at-agrees own (made all after) (k - b) y.0 (agreeing own y.0 g.0 s) in
      (h.0 ∙ sym same, others-read own b (k + 1) ys s h.1 g.1)

  pub graph-reads : (old new : Reading) (own : Words) (P : Placed)
      → AreLoads AfterLoad old own new → IsPrefix all new.known → after ≤ length old.known
      → IsUnmodifiedSince all after P → AreReadBy (reading own (made all after) 1) 1 (loads P)
  graph-reads old new own P h begins within u =
      others-read own 1 1 (loads P) (steady all after old new own h begins within)
      (recursion_from_All (λ (word : ℕ × ℕ). word.1 ≡ made all after word.0) (loads P) u.stands)
      (recursion_from_All (λ (word : ℕ × ℕ). Rests all after word.0) (loads P) u.untouched)
