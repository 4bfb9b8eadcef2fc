-- Trees without the fields at some paths.
use Rattle.std.proofs.Common.{◌≡◌, ◌≢◌, ℕ, ◌<◌, ◌≤◌, ◌==◌, ◌||◌, ◌⊎◌, Bool, true, false, if◌then◌else◌, List, [], ◌∷◌}
use Rattle.std.proofs.Common.{refl, ap, ◌∙◌, arith, inl, inr}
use Rattle.std.proofs.lemmas.Bool.{eq-eqb}
use Rattle.std.specs.Str.{bytes_eq}
use Rattle.mrpc_table.specs.Node.{Node, no_fields, field, Content, one, many, pairs, Item, number, run, node}
use Rattle.mrpc_table.specs.Weight.{weight, content_weight, item_weight}
use Rattle.mrpc_table.specs.PathTrees.{IsTreeAscendingFrom, IsAscendingContent, IsAscendingItem}
use Rattle.policy_redact.specs.Without.{without, content_without, item_without}

-- ---- only the set of paths counts

pub without-same : (p q : List ℕ → Bool) (t : Node) → ((path : List ℕ) → p path ≡ q path) → without p t ≡ without q t
without-same p q t same = let e : p ≡ q = λ i path. same path i in ap (λ (at : List ℕ → Bool). without at t) e

-- ---- no path

mutual
  pub without-nothing : (t : Node) → without (λ path. false) t ≡ t
  without-nothing no_fields = refl
  without-nothing (field n c t) = ap (λ (d : Content). field n d (without (λ path. false) t)) (content_without-nothing c) ∙ ap (field n c) (without-nothing t)

  pub content_without-nothing : (c : Content) → content_without (λ path. false) c ≡ c
  content_without-nothing (one i) = ap one (item_without-nothing i)
  content_without-nothing (many is) = refl
  content_without-nothing (pairs ps) = refl

  item_without-nothing : (i : Item) → item_without (λ path. false) i ≡ i
  item_without-nothing (number n) = refl
  item_without-nothing (run bytes) = refl
  item_without-nothing (node t) = ap node (without-nothing t)

-- ---- some paths, and then others

abbrev either : (List ℕ → Bool) → (List ℕ → Bool) → List ℕ → Bool
either p q path = p path || q path

mutual
  pub without-without : (p q : List ℕ → Bool) (t : Node) → without q (without p t) ≡ without (λ path. p path || q path) t
  without-without p q no_fields = refl
  without-without p q (field n c t) =
      elim (p (n ∷ [])) as (λ (b : Bool). without q (if b then without p t else field n (content_without (λ path. p (n ∷ path)) c) (without p t))
      ≡ (if b || q (n ∷ []) then without (either p q) t else field n (content_without (λ path. p (n ∷ path) || q (n ∷ path)) c) (without (either p q) t))) [
        | true ↦ without-without p q t
        | false ↦
            elim (q (n ∷ [])) as (λ (b : Bool).
            (if b then without q (without p t) else field n (content_without (λ path. q (n ∷ path)) (content_without (λ path. p (n ∷ path)) c)) (without q (without p t)))
            ≡ (if b then without (either p q) t else field n (content_without (λ path. p (n ∷ path) || q (n ∷ path)) c) (without (either p q) t))) [
              | true ↦ without-without p q t
              | false ↦
                  ap (λ (d : Content). field n d (without q (without p t))) (content_without-without (λ path. p (n ∷ path)) (λ path. q (n ∷ path)) c)
                  ∙ ap (field n (content_without (λ path. p (n ∷ path) || q (n ∷ path)) c)) (without-without p q t)
            ]
      ]

  content_without-without : (p q : List ℕ → Bool) (c : Content) → content_without q (content_without p c) ≡ content_without (λ path. p path || q path) c
  content_without-without p q (one i) = ap one (item_without-without p q i)
  content_without-without p q (many is) = refl
  content_without-without p q (pairs ps) = refl

  item_without-without : (p q : List ℕ → Bool) (i : Item) → item_without q (item_without p i) ≡ item_without (λ path. p path || q path) i
  item_without-without p q (number n) = refl
  item_without-without p q (run bytes) = refl
  item_without-without p q (node t) = ap node (without-without p q t)

-- ---- the resulting tree ascends, and is no larger

pub lower : (low last : ℕ) (t : Node) → low ≤ last → IsTreeAscendingFrom last t → IsTreeAscendingFrom low t
lower low last no_fields le up = tt
lower low last (field n c t) le up = (omega (arith, up.0), up.1, up.2)

le_of : (n last : ℕ) → last < n → last ≤ n
le_of n last lt = omega arith

mutual
  pub without-ascends : (p : List ℕ → Bool) (last : ℕ) (t : Node) → IsTreeAscendingFrom last t → IsTreeAscendingFrom last (without p t)
  without-ascends p last no_fields up = tt
  without-ascends p last (field n c t) up =
      elim (p (n ∷ [])) as (λ (b : Bool). IsTreeAscendingFrom last (if b then without p t else field n (content_without (λ path. p (n ∷ path)) c) (without p t))) [
        | true ↦ lower last n (without p t) (le_of n last up.0) (without-ascends p n t up.2)
        | false ↦ (up.0, content_without-ascends (λ path. p (n ∷ path)) c up.1, without-ascends p n t up.2)
      ]

  content_without-ascends : (p : List ℕ → Bool) (c : Content) → IsAscendingContent c → IsAscendingContent (content_without p c)
  content_without-ascends p (one i) up = item_without-ascends p i up
  content_without-ascends p (many is) up = tt
  content_without-ascends p (pairs ps) up = tt

  item_without-ascends : (p : List ℕ → Bool) (i : Item) → IsAscendingItem i → IsAscendingItem (item_without p i)
  item_without-ascends p (number n) up = tt
  item_without-ascends p (run bytes) up = tt
  item_without-ascends p (node t) up = without-ascends p 0 t up

-- ---- one path

differ : (m n : ℕ) → m ≢ n → (n == m) ≡ false
differ m n ne = grind arith

pub other : (m n : ℕ) (path : List ℕ) (c : Content) (t : Node) → m ≢ n → without (bytes_eq (n ∷ path)) (field m c t) ≡ field m c (without (bytes_eq (n ∷ path)) t)
other m n path c t ne = rw (differ m n ne) (ap (λ (d : Content). field m d (without (bytes_eq (n ∷ path)) t)) (content_without-nothing c))

pub at_end : (n : ℕ) (c : Content) (t : Node) → without (bytes_eq (n ∷ [])) (field n c t) ≡ without (bytes_eq (n ∷ [])) t
at_end n c t = rw (eq-eqb n n refl) refl

pub on_way : (n m : ℕ) (path : List ℕ) (c : Content) (t : Node)
    → without (bytes_eq (n ∷ m ∷ path)) (field n c t) ≡ field n (content_without (bytes_eq (m ∷ path)) c) (without (bytes_eq (n ∷ m ∷ path)) t)
on_way n m path c t = rw (eq-eqb n n refl) refl

pub above : (t : Node) (last n : ℕ) (path : List ℕ) → IsTreeAscendingFrom last t → n ≤ last → without (bytes_eq (n ∷ path)) t ≡ t
above no_fields last n path up le = refl
above (field m c t) last n path up le = other m n path c t (omega (arith, up.0)) ∙ ap (field m c) (above t m n path up.2 (omega (arith, up.0)))

-- ---- the result is the tree itself, or a lighter one

no_heavier : (t u : Node) → (t ≡ u) ⊎ (weight t < weight u) → weight t ≤ weight u
no_heavier t u (inl same) = omega (arith, ap weight same)
no_heavier t u (inr less) = omega arith

one_less : (n : ℕ) (c : Content) (t u : Node) → weight t ≤ weight u → weight t < weight (field n c u)
one_less n c t u le = omega arith

or_lighter : (n : ℕ) (c d : Content) (t u : Node) → (c ≡ d) ⊎ (content_weight c < content_weight d) → (t ≡ u) ⊎ (weight t < weight u)
    → (field n c t ≡ field n d u) ⊎ (weight (field n c t) < weight (field n d u))
or_lighter n c d t u (inl e) (inl f) = inl (ap (λ (x : Content). field n x t) e ∙ ap (field n d) f)
or_lighter n c d t u (inl e) (inr less) = inr (omega (arith, ap content_weight e, less))
or_lighter n c d t u (inr less) (inl f) = inr (omega (arith, ap weight f, less))
or_lighter n c d t u (inr less) (inr more) = inr (omega (arith, less, more))

inside_one : (t u : Node) → (t ≡ u) ⊎ (weight t < weight u) → (node t ≡ node u) ⊎ (item_weight (node t) < item_weight (node u))
inside_one t u (inl same) = inl (ap node same)
inside_one t u (inr less) = inr (omega (arith, less))

in_field : (i j : Item) → (i ≡ j) ⊎ (item_weight i < item_weight j) → (one i ≡ one j) ⊎ (content_weight (one i) < content_weight (one j))
in_field i j (inl same) = inl (ap one same)
in_field i j (inr less) = inr less

mutual
  pub without-lighter : (p : List ℕ → Bool) (t : Node) → (without p t ≡ t) ⊎ (weight (without p t) < weight t)
  without-lighter p no_fields = inl refl
  without-lighter p (field n c t) =
      elim (p (n ∷ [])) as (λ (b : Bool).
      ((if b then without p t else field n (content_without (λ path. p (n ∷ path)) c) (without p t)) ≡ field n c t)
      ⊎ (weight (if b then without p t else field n (content_without (λ path. p (n ∷ path)) c) (without p t)) < weight (field n c t))) [
        | true ↦ inr (one_less n c (without p t) t (no_heavier (without p t) t (without-lighter p t)))
        | false ↦ or_lighter n (content_without (λ path. p (n ∷ path)) c) c (without p t) t (content_without-lighter (λ path. p (n ∷ path)) c) (without-lighter p t)
      ]

  content_without-lighter : (p : List ℕ → Bool) (c : Content) → (content_without p c ≡ c) ⊎ (content_weight (content_without p c) < content_weight c)
  content_without-lighter p (one i) = in_field (item_without p i) i (item_without-lighter p i)
  content_without-lighter p (many is) = inl refl
  content_without-lighter p (pairs ps) = inl refl

  item_without-lighter : (p : List ℕ → Bool) (i : Item) → (item_without p i ≡ i) ⊎ (item_weight (item_without p i) < item_weight i)
  item_without-lighter p (number n) = inl refl
  item_without-lighter p (run bytes) = inl refl
  item_without-lighter p (node t) = inside_one (without p t) t (without-lighter p t)
