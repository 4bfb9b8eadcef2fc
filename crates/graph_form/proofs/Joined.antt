-- Placed trees in parts, and that their loads determine them.
use Rattle.std.proofs.Common.{◌≡◌, ◌⊎◌, inl, ⊎_elim, ℕ, List, [], ◌∷◌, ◌++◌, refl, sym, ap, subst, ◌∙◌}
use Rattle.std.proofs.lemmas.List.{append_assoc}
use Rattle.mrpc_table.specs.declared.table.Table.{Table}
use Rattle.graph_form.specs.Roles.{WordRole, Expected, expected_after}
use Rattle.graph_form.specs.Placed.{Placed, nothing, first, word, loads, IsValidWord, IsInvalid, IsPlaced, AreSound}
use Rattle.graph_form.specs.Malformed.{Loaded, loaded_words}
use Rattle.graph_form.specs.Loading.{AreExpectedAfter}

-- the words of one placed tree, followed by those of another
abbrev pub join : Placed → Placed → Placed
join nothing Q = Q
join (first w P) Q = first w (join P Q)

pub placed-join : (T : Table) (H : ℕ) (a b : Expected) (P Q : Placed) → IsPlaced T H a P → IsPlaced T H b Q → IsPlaced T H (a ++ b) (join P Q)
placed-join T H [] b nothing Q h k = k
placed-join T H [] b (first w P) Q h k = absurd h
placed-join T H (e ∷ es) b nothing Q h k = absurd h
placed-join T H (e ∷ es) b (first (word p v c) P) Q h k = (h.0, h.1, h.2, placed-join T H es b P Q h.3 k)

-- a placed tree of words that are expected in two parts
pub record InParts (T : Table) (H : ℕ) (a b : Expected) (P : Placed) : Type 0 where
  pub front : Placed
  pub rest : Placed
  pub is : P ≡ join front rest
  pub front_is : IsPlaced T H a front
  pub rest_is : IsPlaced T H b rest

pub placed-parts : (T : Table) (H : ℕ) (a b : Expected) (P : Placed) → IsPlaced T H (a ++ b) P → InParts T H a b P
placed-parts T H [] b P h = record { front = nothing; rest = P; is = refl; front_is = tt; rest_is = h }
placed-parts T H (e ∷ es) b nothing h = absurd h
placed-parts T H (e ∷ es) b (first (word p v c) P) h =
    let parts = placed-parts T H es b P h.3 in
    record {
      front = first (word p v c) parts.front;
      rest = parts.rest;
      is = ap (first (word p v c)) parts.is;
      front_is = (h.0, h.1, h.2, parts.front_is);
      rest_is = parts.rest_is;
    }

pub loaded_words-join : (T : Table) (H : ℕ) (a b : Expected) (P Q : Placed) → IsPlaced T H a P → loaded_words T (a ++ b) (join P Q) ≡ loaded_words T a P ++ loaded_words T b Q
loaded_words-join T H [] b nothing Q h = refl
loaded_words-join T H [] b (first w P) Q h = absurd h
loaded_words-join T H (e ∷ es) b nothing Q h = absurd h
loaded_words-join T H (e ∷ es) b (first (word p v c) P) Q h =
    let w : Loaded = record { role = e.0; place = p; number = v } in
    let inner = loaded_words T (expected_after T e.0 p v) c in
    ap (λ ws. w ∷ inner ++ ws) (loaded_words-join T H es b P Q h.3) ∙ ap (λ ws. w ∷ ws) (sym (append_assoc inner (loaded_words T es P) (loaded_words T b Q)))

-- ---- loads determine placed trees

heads : {X : Type 0} (x y : X) (xs ys : List X) → x ∷ xs ≡ y ∷ ys → (x ≡ y) × (xs ≡ ys)
heads x y xs ys e = (cc, cc)

parts-same : (x y : ℕ × ℕ) → x ≡ y → (x.0 ≡ y.0) × (x.1 ≡ y.1)
parts-same x y e = (ap (λ z. z.0) e, ap (λ z. z.1) e)

abbrev Standing : Table → ℕ → WordRole → ℕ → ℕ → Placed → Type 0
Standing T H role p v c = (IsValidWord T H role v × IsPlaced T H (expected_after T role p v) c) ⊎ (IsInvalid T H role v × (c ≡ nothing))

pub loads-same : (T : Table) (H : ℕ) (es : Expected) (P Q : Placed) (xs ys : List (ℕ × ℕ)) → IsPlaced T H es P
    → IsPlaced T H es Q → loads P ++ xs ≡ loads Q ++ ys → (P ≡ Q) × (xs ≡ ys)
loads-same T H [] nothing nothing xs ys h k e = (refl, e)
loads-same T H [] nothing (first w Q) xs ys h k e = absurd k
loads-same T H [] (first w P) Q xs ys h k e = absurd h
loads-same T H (f ∷ es) nothing Q xs ys h k e = absurd h
loads-same T H (f ∷ es) (first (word p v c) P) nothing xs ys h k e = absurd k
loads-same T H (f ∷ es) (first (word p v c) P) (first (word q u d) Q) xs ys h k e =
    let both = heads (p, v) (q, u) ((loads c ++ loads P) ++ xs) ((loads d ++ loads Q) ++ ys) e in
    let same = parts-same (p, v) (q, u) both.0 in
    let left : loads c ++ (loads P ++ xs) ≡ loads d ++ (loads Q ++ ys) = sym (append_assoc (loads c) (loads P) xs) ∙ both.1 ∙ append_assoc (loads d) (loads Q) ys in
    let there : Standing T H f.0 p v d = subst (λ z. Standing T H f.0 p z d) (sym same.1) (subst (λ z. Standing T H f.0 z u d) (sym same.0) k.2) in
    let inner : (c ≡ d) × (loads P ++ xs ≡ loads Q ++ ys) =
    ⊎_elim
    (λ fine. ⊎_elim
    (λ other. loads-same T H (expected_after T f.0 p v) c d (loads P ++ xs) (loads Q ++ ys) fine.1 other.1 left)
    (λ faulty. absurd (fine.0 faulty.0.0 faulty.0.1))
    there)
    (λ faulty. ⊎_elim
    (λ other. absurd (other.0 faulty.0.0 faulty.0.1))
    (λ other.
    let alike : c ≡ d = faulty.1 ∙ sym other.1 in
    let short : loads P ++ xs ≡ loads Q ++ ys =
    ap (λ z. loads z ++ (loads P ++ xs)) (sym faulty.1) ∙ left ∙ ap (λ z. loads z ++ (loads Q ++ ys)) other.1 in
    (alike, short))
    there)
    h.2 in
    let rest = loads-same T H es P Q xs ys h.3 k.3 inner.1 in
    (ap (λ z. first (word z v c) P) same.0 ∙ ap (λ z. first (word q z c) P) same.1 ∙ ap (λ z. first (word q u z) P) inner.0 ∙ ap (first (word q u d)) rest.0, rest.1)

-- ---- a sound placed tree, and the words that its loads lead to

pub placed-sound : (T : Table) (H : ℕ) (es : Expected) (P : Placed) → AreSound T H es P → IsPlaced T H es P
placed-sound T H [] nothing h = tt
placed-sound T H [] (first w P) h = absurd h
placed-sound T H (e ∷ es) nothing h = absurd h
placed-sound T H (e ∷ es) (first (word p v c) P) h = (h.0, h.1, inl (h.2, placed-sound T H (expected_after T e.0 p v) c h.3), placed-sound T H es P h.4)

pub leads-then : (T : Table) (H : ℕ) (a b c : Expected) (xs ys : List (ℕ × ℕ)) → AreExpectedAfter T H a xs b → AreExpectedAfter T H b ys c → AreExpectedAfter T H a (xs ++ ys) c
leads-then T H a b c [] ys h k = subst (λ es. AreExpectedAfter T H es ys c) (sym h) k
leads-then T H [] b c (x ∷ xs) ys h k = absurd h
leads-then T H (e ∷ es) b c (x ∷ xs) ys h k = (h.0, h.1, h.2, leads-then T H (expected_after T e.0 x.0 x.1 ++ es) b c xs ys h.3 k)

pub sound-leads : (T : Table) (H : ℕ) (es next : Expected) (P : Placed) → AreSound T H es P → AreExpectedAfter T H (es ++ next) (loads P) next
sound-leads T H [] next nothing h = refl
sound-leads T H [] next (first w P) h = absurd h
sound-leads T H (e ∷ es) next nothing h = absurd h
sound-leads T H (e ∷ es) next (first (word p v c) P) h =
    let inside = sound-leads T H (expected_after T e.0 p v) (es ++ next) c h.3 in
    let after = sound-leads T H es next P h.4 in
    (h.0, h.1, h.2, leads-then T H (expected_after T e.0 p v ++ (es ++ next)) (es ++ next) next (loads c) (loads P) inside after)
