-- What was read of a graph determines the outcome of its loads.
use Rattle.std.proofs.Common.{◌≡◌, ⊎_elim, ℕ, ◌+◌, ◌<◌, ◌≤◌, List, [], ◌∷◌, ◌++◌, length, get_or, refl, sym, ap}
use Rattle.std.proofs.Common.{subst, ◌∙◌, arith, length-append, append-nil}
use Rattle.std.proofs.lemmas.Bool.{cases_lt}
use Rattle.std.proofs.lemmas.List.{append_assoc, map-append}
use Rattle.std.proofs.lemmas.List.Elements.{All-head, All-tail}
use Rattle.mrpc_table.specs.declared.table.Table.{Table}
use Rattle.graph_form.specs.declared.reason.Reason.{Reason}
use Rattle.graph_form.specs.declared.reason.Reason.TheVariants.{Address, Presence, Case, Length, Utf8, Narrow, Depth, Loads, NoMethod}
use Rattle.graph_form.specs.Roles.{WordRole, Expected, expected_after, node_words, size_words}
use Rattle.graph_form.specs.Placed.{Placed, nothing, first, word, loads, IsSpanInHeap, IsValidWord, IsPlaced, IsSound}
use Rattle.graph_form.specs.Forgotten.{tree_of}
use Rattle.graph_form.specs.Malformed.{Loaded, loaded_words, loads_of_words, AreValidWords, reason_rank, IsInvalidFirst, IsMalformed}
use Rattle.graph_form.specs.Malformed.{no_root, offends, too_many, GraphOutcome, copied, malformed, HasOutcome, is_copied}
use Rattle.graph_form.specs.Malformed.{is_malformed, AreReadBy}
use Rattle.graph_form.specs.Loading.{AreExpectedAfter}
use Rattle.graph_form.proofs.Joined.{join, placed-join, loaded_words-join, placed-sound, sound-leads, loads-same}

-- ---- the first words of a placed tree, if all are valid, lead to the next

record LeadsToWord (T : Table) (H : ℕ) (es : Expected) (before : List Loaded) (next : Loaded) : Type 0 where
  role : WordRole
  rest : Expected
  leads : AreExpectedAfter T H es (loads_of_words before) ((role, next.place) ∷ rest)
  is : role ≡ next.role

heads : {X : Type 0} (x y : X) (xs ys : List X) → x ∷ xs ≡ y ∷ ys → (x ≡ y) × (xs ≡ ys)
heads x y xs ys e = (cc, cc)

leads-to-word : (T : Table) (H : ℕ) (es : Expected) (P : Placed) (before : List Loaded) (next : Loaded)
    (after : List Loaded) → IsPlaced T H es P → loaded_words T es P ≡ before ++ next ∷ after → AreValidWords T H before
    → LeadsToWord T H es before next
leads-to-word T H [] P [] next after h e fine = absurd (cc)
leads-to-word T H [] P (b ∷ bs) next after h e fine = absurd (cc)
leads-to-word T H (f ∷ es) nothing before next after h e fine = absurd h
leads-to-word T H (f ∷ es) (first (word p v c) P) [] next after h e fine =
    let w : Loaded = record { role = f.0; place = p; number = v } in
    let same : w ≡ next = (heads w next (loaded_words T (expected_after T f.0 p v) c ++ loaded_words T es P) after e).0 in
    let place : f.1 ≡ next.place = sym h.0 ∙ ap (λ (z : Loaded). z.place) same in
    record { role = f.0; rest = es; leads = ap (λ q. (f.0, q) ∷ es) place; is = ap (λ (z : Loaded). z.role) same }
leads-to-word T H (f ∷ es) (first (word p v c) P) (b ∷ bs) next after h e fine =
    let inner = expected_after T f.0 p v in
    let w : Loaded = record { role = f.0; place = p; number = v } in
    let both = heads w b (loaded_words T inner c ++ loaded_words T es P) (bs ++ next ∷ after) e in
    let good : IsValidWord T H f.0 v = subst (λ (z : Loaded). IsValidWord T H z.role z.number) (sym both.0) (All-head (λ (z : Loaded). IsValidWord T H z.role z.number) b bs fine) in
    let content : IsPlaced T H inner c = ⊎_elim (λ s. s.1) (λ s. absurd (good s.0.0 s.0.1)) h.2 in
    let order : loaded_words T (inner ++ es) (join c P) ≡ bs ++ next ∷ after = loaded_words-join T H inner es c P content ∙ both.1 in
    let rest = leads-to-word T H (inner ++ es) (join c P) bs next after (placed-join T H inner es c P content h.3) order (All-tail (λ (z : Loaded). IsValidWord T H z.role z.number) b bs fine) in
    let here : AreExpectedAfter T H (f ∷ es) ((p, v) ∷ loads_of_words bs) ((rest.role, next.place) ∷ rest.rest) = (h.0, h.1, good, rest.leads) in
    record {
      role = rest.role;
      rest = rest.rest;
      leads = subst (λ (z : Loaded). AreExpectedAfter T H (f ∷ es) ((z.place, z.number) ∷ loads_of_words bs) ((rest.role, next.place) ∷ rest.rest)) both.0 here;
      is = rest.is;
    }

-- ---- of two readings of one graph the shorter is a prefix of the longer

record GoesOn (T : Table) (H : ℕ) (reading : ℕ → ℕ → ℕ) (k : ℕ) (from to : Expected) (xs ys : List (ℕ × ℕ)) : Type 0 where
  more : List (ℕ × ℕ)
  is : ys ≡ xs ++ more
  leads : AreExpectedAfter T H from more to
  reads : AreReadBy reading (k + length xs) more

pair-same : (x y : ℕ × ℕ) → x.0 ≡ y.0 → x.1 ≡ y.1 → x ≡ y
pair-same x y e f = ap (λ z. (z, x.1)) e ∙ ap (λ z. (y.0, z)) f

goes-on : (T : Table) (H : ℕ) (reading : ℕ → ℕ → ℕ) (k : ℕ) (es from to : Expected) (xs ys : List (ℕ × ℕ))
    → AreExpectedAfter T H es xs from → AreExpectedAfter T H es ys to → AreReadBy reading k xs → AreReadBy reading k ys
    → length xs ≤ length ys → GoesOn T H reading k from to xs ys
goes-on T H reading k es from to [] ys h g r s le = record {
  more = ys;
  is = refl;
  leads = subst (λ z. AreExpectedAfter T H z ys to) h g;
  reads = subst (λ n. AreReadBy reading n ys) (omega arith) s;
}
goes-on T H reading k [] from to (x ∷ xs) ys h g r s le = absurd h
goes-on T H reading k (e ∷ es) from to (x ∷ xs) [] h g r s le = absurd (omega (arith, le))
goes-on T H reading k (e ∷ es) from to (x ∷ xs) (y ∷ ys) h g r s le =
    let place : x.0 ≡ y.0 = h.0 ∙ sym g.0 in
    let value : x.1 ≡ y.1 = r.0 ∙ ap (reading k) place ∙ sym s.0 in
    let same = pair-same x y place value in
    let left : AreExpectedAfter T H (expected_after T e.0 y.0 y.1 ++ es) xs from = subst (λ (z : ℕ × ℕ). AreExpectedAfter T H (expected_after T e.0 z.0 z.1 ++ es) xs from) same h.3 in
    let rest = goes-on T H reading (k + 1) (expected_after T e.0 y.0 y.1 ++ es) from to xs ys left g.3 r.1 s.1 (omega (arith, le)) in
    record {
      more = rest.more;
      is = ap (λ z. z ∷ ys) (sym same) ∙ ap (λ zs. x ∷ zs) rest.is;
      leads = rest.leads;
      reads = subst (λ n. AreReadBy reading n rest.more) (omega arith) rest.reads;
    }

empty : {X : Type 0} (xs : List X) → length xs ≡ 0 → xs ≡ []
empty [] h = refl
empty (x ∷ xs) h = absurd (omega (arith, h))

last-same : {X : Type 0} (us vs : List X) (x y : X) → us ++ x ∷ [] ≡ vs ++ y ∷ [] → x ≡ y
last-same [] [] x y e = (heads x y [] [] e).0
last-same [] (b ∷ vs) x y e = absurd (let n = ap length (heads x b [] (vs ++ y ∷ []) e).1 in let m = length-append vs (y ∷ []) in omega (arith, n, m))
last-same (a ∷ us) [] x y e = absurd (let n = ap length (heads a y (us ++ x ∷ []) [] e).1 in let m = length-append us (x ∷ []) in omega (arith, n, m))
last-same (a ∷ us) (b ∷ vs) x y e = last-same us vs x y (heads a b (us ++ x ∷ []) (vs ++ y ∷ []) e).1

reads-front : (reading : ℕ → ℕ → ℕ) (k : ℕ) (xs ys : List (ℕ × ℕ)) → AreReadBy reading k (xs ++ ys) → AreReadBy reading k xs × AreReadBy reading (k + length xs) ys
reads-front reading k [] ys r = (tt, subst (λ n. AreReadBy reading n ys) (omega arith) r)
reads-front reading k (x ∷ xs) ys r =
    let rest = reads-front reading (k + 1) xs ys r.1 in
    ((r.0, rest.0), subst (λ n. AreReadBy reading n ys) (omega arith) rest.1)

-- if nothing is expected, no loads lead further
nothing-more : (T : Table) (H : ℕ) (more : List (ℕ × ℕ)) (e : WordRole × ℕ) (rest : Expected) → AreExpectedAfter T H [] more (e ∷ rest) → ⊥
nothing-more T H [] e rest h = cc
nothing-more T H (x ∷ more) e rest h = h

none-left : (T : Table) (H : ℕ) (more : List (ℕ × ℕ)) → AreExpectedAfter T H [] more [] → more ≡ []
none-left T H [] h = refl
none-left T H (x ∷ more) h = absurd h

-- no load follows an invalid word
stops : (T : Table) (H : ℕ) (reading : ℕ → ℕ → ℕ) (k : ℕ) (e : WordRole × ℕ) (rest to : Expected) (x : ℕ × ℕ)
    (more : List (ℕ × ℕ)) (v : ℕ) (reason : Reason) → AreExpectedAfter T H (e ∷ rest) (x ∷ more) to
    → AreReadBy reading k (x ∷ more) → v ≡ reading k e.1 → IsInvalidFirst T H e.0 v reason → ⊥
stops T H reading k e rest to x more v reason h r is bad =
    let same : x.1 ≡ v = r.0 ∙ ap (reading k) h.0 ∙ sym is in
    subst (IsValidWord T H e.0) same h.2 reason bad.offends

offence-more : (T : Table) (H : ℕ) (reading : ℕ → ℕ → ℕ) (k : ℕ) (e : WordRole × ℕ) (rest to : Expected)
    (more : List (ℕ × ℕ)) (v : ℕ) (reason : Reason) → AreExpectedAfter T H (e ∷ rest) more to → AreReadBy reading k more
    → v ≡ reading k e.1 → IsInvalidFirst T H e.0 v reason → 0 < length more → ⊥
offence-more T H reading k e rest to [] v reason h r is bad some = omega (arith, some)
offence-more T H reading k e rest to (x ∷ more) v reason h r is bad some = stops T H reading k e rest to x more v reason h r is bad

-- ---- how loads end

data Ends (T : Table) (H msg address limit : ℕ) (xs : List (ℕ × ℕ)) (o : GraphOutcome) : Type 0 where
  sound : (P : Placed) → IsSound T H msg address P → AreExpectedAfter T H (node_words T msg 1 address) xs [] → xs ≡ loads P
      → length xs ≤ limit → o ≡ copied (tree_of T msg P) → Ends T H msg address limit xs o
  outside : (IsSpanInHeap H address (size_words T msg) → ⊥) → xs ≡ [] → o ≡ malformed Address 0 address → Ends T H msg address limit xs o
  offence : IsSpanInHeap H address (size_words T msg)
      → (ys : List (ℕ × ℕ)) (e : WordRole × ℕ) (rest : Expected) (v : ℕ) (reason : Reason)
      → AreExpectedAfter T H (node_words T msg 1 address) ys (e ∷ rest) → IsInvalidFirst T H e.0 v reason
      → xs ≡ ys ++ (e.1, v) ∷ [] → length xs ≤ limit → o ≡ malformed reason e.1 v → Ends T H msg address limit xs o
  full : IsSpanInHeap H address (size_words T msg) → (ys : List (ℕ × ℕ)) (x : ℕ × ℕ) (e : WordRole × ℕ) (rest : Expected)
      → AreExpectedAfter T H (node_words T msg 1 address) xs (e ∷ rest) → xs ≡ ys ++ x ∷ [] → length xs ≡ limit
      → o ≡ malformed Loads x.0 x.1 → Ends T H msg address limit xs o

loads-last : (before : List Loaded) (w : Loaded) → loads_of_words (before ++ w ∷ []) ≡ loads_of_words before ++ (w.place, w.number) ∷ []
loads-last before w = map-append (λ (u : Loaded). (u.place, u.number)) before (w ∷ [])

split : {X : Type 0} (before after : List X) (last : X) → (before ++ last ∷ []) ++ after ≡ before ++ last ∷ after
split before after last = append_assoc before (last ∷ []) after

ends-malformed : (T : Table) (H msg address limit : ℕ) (xs : List (ℕ × ℕ)) (o : GraphOutcome) (reason : Reason)
    (place v : ℕ) → IsMalformed T H msg address limit xs reason place v → o ≡ malformed reason place v
    → Ends T H msg address limit xs o
ends-malformed T H msg address limit xs o reason place v (no_root away none r p w) is =
    outside away none (is ∙ ap (λ z. malformed z place v) r ∙ ap (λ z. malformed Address z v) p ∙ ap (malformed Address 0) w)
ends-malformed T H msg address limit xs o reason place v (offends before after last begins fine bad few l p w) is =
    let to = leads-to-word T H (node_words T msg 1 address) begins.placed before last after begins.words (begins.order ∙ split before after last) fine in
    offence begins.root (loads_of_words before) (to.role, last.place) to.rest last.number reason to.leads (subst (λ z. IsInvalidFirst T H z last.number reason) (sym to.is) bad)
    (l ∙ loads-last before last) few (is ∙ ap (λ z. malformed reason z v) p ∙ ap (malformed reason last.place) w)
ends-malformed T H msg address limit xs o reason place v (too_many before after last next begins fine count l r p w) is =
    let to = leads-to-word T H (node_words T msg 1 address) begins.placed (before ++ last ∷ []) next after begins.words begins.order fine in
    full begins.root (loads_of_words before) (last.place, last.number) (to.role, next.place) to.rest
    (subst (λ z. AreExpectedAfter T H (node_words T msg 1 address) z ((to.role, next.place) ∷ to.rest)) (sym l) to.leads)
    (l ∙ loads-last before last) count (is ∙ ap (λ z. malformed z place v) r ∙ ap (λ z. malformed Loads z v) p ∙ ap (malformed Loads last.place) w)

ends : (T : Table) (H msg address limit : ℕ) (xs : List (ℕ × ℕ)) (o : GraphOutcome) → HasOutcome T H msg address limit xs o → Ends T H msg address limit xs o
ends T H msg address limit xs o (is_copied P h l few is) =
    sound P h (subst (λ z. AreExpectedAfter T H (node_words T msg 1 address) z []) (sym l)
    (subst (λ es. AreExpectedAfter T H es (loads P) []) (append-nil (node_words T msg 1 address))
    (sound-leads T H (node_words T msg 1 address) [] P h.words))) l few is
ends T H msg address limit xs o (is_malformed reason place v h is) = ends-malformed T H msg address limit xs o reason place v h is

-- ---- two ends of one reading are equal

abbrev at-order : ℕ → Reason
at-order n = get_or (NoMethod ∷ Presence ∷ Case ∷ Length ∷ Narrow ∷ Utf8 ∷ Address ∷ Depth ∷ Loads ∷ []) n NoMethod

of-order : (r : Reason) → at-order (reason_rank r) ≡ r
of-order Presence = refl
of-order Case = refl
of-order Length = refl
of-order Narrow = refl
of-order Utf8 = refl
of-order Address = refl
of-order Depth = refl
of-order Loads = refl
of-order NoMethod = refl

reasons-same : (T : Table) (H : ℕ) (role : WordRole) (v : ℕ) (r q : Reason) → IsInvalidFirst T H role v r → IsInvalidFirst T H role v q → r ≡ q
reasons-same T H role v r q a b =
    let one = a.first q b.offends in
    let other = b.first r a.offends in
    let same : reason_rank r ≡ reason_rank q = omega (arith, one, other) in
    sym (of-order r) ∙ ap at-order same ∙ of-order q

abbrev Same : List (ℕ × ℕ) → List (ℕ × ℕ) → GraphOutcome → GraphOutcome → Type 0
Same xs ys o q = (xs ≡ ys) × (o ≡ q)

same-sound : (T : Table) (H msg address : ℕ) (P Q : Placed) → IsSound T H msg address P → IsSound T H msg address Q → loads P ≡ loads Q → P ≡ Q
same-sound T H msg address P Q h g e =
    (loads-same T H (node_words T msg 1 address) P Q [] [] (placed-sound T H (node_words T msg 1 address) P h.words)
    (placed-sound T H (node_words T msg 1 address) Q g.words)
    (append-nil (loads P) ∙ e ∙ sym (append-nil (loads Q)))).0

-- one reading doesn't give both the loads of a sound tree and loads that lead to a further word, unless the latter
-- exceed the limit
sound-not_led : (T : Table) (H : ℕ) (reading : ℕ → ℕ → ℕ) (es : Expected) (xs ys : List (ℕ × ℕ)) (e : WordRole × ℕ)
    (rest : Expected) → AreExpectedAfter T H es xs [] → AreExpectedAfter T H es ys (e ∷ rest) → AreReadBy reading 1 xs
    → AreReadBy reading 1 ys → length xs ≤ length ys → ⊥
sound-not_led T H reading es xs ys e rest h g r s le =
    let on = goes-on T H reading 1 es [] (e ∷ rest) xs ys h g r s le in
    nothing-more T H on.more e rest on.leads

-- loads that end at an invalid word aren't a prefix of longer ones
offence-last : (T : Table) (H : ℕ) (reading : ℕ → ℕ → ℕ) (es to : Expected) (ys zs : List (ℕ × ℕ)) (e : WordRole × ℕ)
    (rest : Expected) (v : ℕ) (reason : Reason) → AreExpectedAfter T H es ys (e ∷ rest) → IsInvalidFirst T H e.0 v reason
    → AreReadBy reading 1 (ys ++ (e.1, v) ∷ []) → AreExpectedAfter T H es zs to → AreReadBy reading 1 zs → length ys < length zs
    → ⊥
offence-last T H reading es to ys zs e rest v reason h bad r g s less =
    let front = reads-front reading 1 ys ((e.1, v) ∷ []) r in
    let on = goes-on T H reading 1 es (e ∷ rest) to ys zs h g front.0 s (omega (arith, less)) in
    let long : length zs ≡ length ys + length on.more = ap length on.is ∙ length-append ys on.more in
    offence-more T H reading (1 + length ys) e rest to on.more v reason on.leads on.reads front.1.0 bad (omega (arith, long, less))

-- two invalid words of one reading, the second no earlier
same-offence : (T : Table) (H : ℕ) (reading : ℕ → ℕ → ℕ) (es : Expected) (ys zs : List (ℕ × ℕ)) (e f : WordRole × ℕ)
    (rest more : Expected) (v u : ℕ) (r q : Reason) → AreExpectedAfter T H es ys (e ∷ rest) → IsInvalidFirst T H e.0 v r
    → AreReadBy reading 1 (ys ++ (e.1, v) ∷ []) → AreExpectedAfter T H es zs (f ∷ more) → IsInvalidFirst T H f.0 u q
    → AreReadBy reading 1 (zs ++ (f.1, u) ∷ []) → length ys ≤ length zs
    → Same (ys ++ (e.1, v) ∷ []) (zs ++ (f.1, u) ∷ []) (malformed r e.1 v) (malformed q f.1 u)
same-offence T H reading es ys zs e f rest more v u r q h bad s g worse t le =
    let front = reads-front reading 1 ys ((e.1, v) ∷ []) s in
    let expected_after = reads-front reading 1 zs ((f.1, u) ∷ []) t in
    ⊎_elim
    (λ less. absurd (offence-last T H reading es (f ∷ more) ys zs e rest v r h bad s g expected_after.0 less))
    (λ no.
    let on = goes-on T H reading 1 es (e ∷ rest) (f ∷ more) ys zs h g front.0 expected_after.0 le in
    let long : length zs ≡ length ys + length on.more = ap length on.is ∙ length-append ys on.more in
    let none : on.more ≡ [] = empty on.more (omega (arith, long, no)) in
    let lists : zs ≡ ys = on.is ∙ ap (λ z. ys ++ z) none ∙ append-nil ys in
    let words : e ≡ f = (heads e f rest more (subst (λ z. AreExpectedAfter T H (e ∷ rest) z (f ∷ more)) none on.leads)).0 in
    let value : v ≡ u = front.1.0 ∙ ap (reading (1 + length ys)) (ap (λ z. z.1) words) ∙ ap (λ n. reading (1 + n) f.1) (ap length (sym lists)) ∙ sym expected_after.1.0 in
    let reason : r ≡ q = reasons-same T H f.0 u r q (subst (λ z. IsInvalidFirst T H f.0 z r) value (subst (λ (z : WordRole × ℕ). IsInvalidFirst T H z.0 v r) words bad)) worse in (
      ap (λ z. z ++ (e.1, v) ∷ []) (sym lists) ∙ ap (λ (z : WordRole × ℕ). zs ++ (z.1, v) ∷ []) words ∙ ap (λ n. zs ++ (f.1, n) ∷ []) value,
      ap (λ z. malformed z e.1 v) reason ∙ ap (λ (z : WordRole × ℕ). malformed q z.1 v) words ∙ ap (malformed q f.1) value,
    ))
    (cases_lt (length ys) (length zs))

-- two readings that end at the limit
same-full : (T : Table) (H : ℕ) (reading : ℕ → ℕ → ℕ) (es : Expected) (xs ys us vs : List (ℕ × ℕ)) (x y : ℕ × ℕ)
    (p q : WordRole × ℕ) (rest more : Expected) → AreExpectedAfter T H es xs (p ∷ rest) → AreExpectedAfter T H es ys (q ∷ more)
    → AreReadBy reading 1 xs → AreReadBy reading 1 ys → length xs ≡ length ys → xs ≡ us ++ x ∷ [] → ys ≡ vs ++ y ∷ []
    → Same xs ys (malformed Loads x.0 x.1) (malformed Loads y.0 y.1)
same-full T H reading es xs ys us vs x y p q rest more h g r s count xl yl =
    let on = goes-on T H reading 1 es (p ∷ rest) (q ∷ more) xs ys h g r s (omega (arith, count)) in
    let long : length ys ≡ length xs + length on.more = ap length on.is ∙ length-append xs on.more in
    let none : on.more ≡ [] = empty on.more (omega (arith, long, count)) in
    let lists : xs ≡ ys = sym (append-nil xs) ∙ ap (λ z. xs ++ z) (sym none) ∙ sym on.is in
    let last : x ≡ y = last-same us vs x y (sym xl ∙ lists ∙ yl) in
    (lists, ap (λ z. malformed Loads z x.1) (ap (λ z. z.0) last) ∙ ap (malformed Loads y.0) (ap (λ z. z.1) last))

swapped : (xs ys : List (ℕ × ℕ)) (o q : GraphOutcome) → Same ys xs q o → Same xs ys o q
swapped xs ys o q h = (sym h.0, sym h.1)

abbrev Expecting : Table → ℕ → ℕ → Expected
Expecting T msg address = node_words T msg 1 address

-- one reading doesn't give both a sound tree and a malformed graph
sound-offence : (T : Table) (H : ℕ) (reading : ℕ → ℕ → ℕ) (es : Expected) (xs ys : List (ℕ × ℕ)) (e : WordRole × ℕ)
    (rest : Expected) (v : ℕ) (reason : Reason) → AreExpectedAfter T H es xs [] → AreReadBy reading 1 xs
    → AreExpectedAfter T H es ys (e ∷ rest) → IsInvalidFirst T H e.0 v reason → AreReadBy reading 1 (ys ++ (e.1, v) ∷ []) → ⊥
sound-offence T H reading es xs ys e rest v reason h r g bad s =
    ⊎_elim
    (λ less. offence-last T H reading es [] ys xs e rest v reason g bad s h r less)
    (λ no. sound-not_led T H reading es xs ys e rest h g r (reads-front reading 1 ys ((e.1, v) ∷ []) s).0 no)
    (cases_lt (length ys) (length xs))

same-end : (T : Table) (H msg address limit : ℕ) (reading : ℕ → ℕ → ℕ) (xs ys : List (ℕ × ℕ)) (o q : GraphOutcome)
    → AreReadBy reading 1 xs → AreReadBy reading 1 ys → Ends T H msg address limit xs o → Ends T H msg address limit ys q
    → Same xs ys o q
same-end T H msg address limit reading xs ys o q r s (sound P h l e few is) (sound Q g m f more js) =
    let es = Expecting T msg address in
    let lists : xs ≡ ys =
    ⊎_elim
    (λ less. (let on = goes-on T H reading 1 es [] [] xs ys l m r s (omega (arith, less)) in sym (on.is ∙ ap (λ z. xs ++ z) (none-left T H on.more on.leads) ∙ append-nil xs)))
    (λ no. (let on = goes-on T H reading 1 es [] [] ys xs m l s r no in on.is ∙ ap (λ z. ys ++ z) (none-left T H on.more on.leads) ∙ append-nil ys))
    (cases_lt (length xs) (length ys)) in
    (lists, is ∙ ap (λ z. copied (tree_of T msg z)) (same-sound T H msg address P Q h g (sym e ∙ lists ∙ f)) ∙ sym js)
same-end T H msg address limit reading xs ys o q r s (sound P h l e few is) (outside away none js) = absurd (away h.root)
same-end T H msg address limit reading xs ys o q r s (sound P h l e few is) (offence root zs w rest v reason m bad f more js) =
    absurd (sound-offence T H reading (Expecting T msg address) xs zs w rest v reason l r m bad (subst (AreReadBy reading 1) f s))
same-end T H msg address limit reading xs ys o q r s (sound P h l e few is) (full root zs x w rest m f count js) =
    absurd (sound-not_led T H reading (Expecting T msg address) xs ys w rest l m r s (omega (arith, few, count)))
same-end T H msg address limit reading xs ys o q r s (outside away none is) (sound Q g m f more js) = absurd (away g.root)
same-end T H msg address limit reading xs ys o q r s (outside away none is) (outside far nil js) = (none ∙ sym nil, is ∙ sym js)
same-end T H msg address limit reading xs ys o q r s (outside away none is) (offence root zs w rest v reason m bad f more js) = absurd (away root)
same-end T H msg address limit reading xs ys o q r s (outside away none is) (full root zs x w rest m f count js) = absurd (away root)
same-end T H msg address limit reading xs ys o q r s (offence root zs w rest v reason l bad e few is) (sound Q g m f more js) =
    absurd (sound-offence T H reading (Expecting T msg address) ys zs w rest v reason m s l bad (subst (AreReadBy reading 1) e r))
same-end T H msg address limit reading xs ys o q r s (offence root zs w rest v reason l bad e few is) (outside away none js) = absurd (away root)
same-end T H msg address limit reading xs ys o q r s (offence root us w rest v reason l bad e few is) (offence there vs z more u other m worse f less js) =
    let es = Expecting T msg address in
    let a = subst (AreReadBy reading 1) e r in
    let b = subst (AreReadBy reading 1) f s in
    let same =
    ⊎_elim
    (λ short. same-offence T H reading es us vs w z rest more v u reason other l bad a m worse b (omega (arith, short)))
    (λ no. swapped (us ++ (w.1, v) ∷ []) (vs ++ (z.1, u) ∷ []) (malformed reason w.1 v) (malformed other z.1 u)
    (same-offence T H reading es vs us z w more rest u v other reason m worse b l bad a no))
    (cases_lt (length us) (length vs)) in
    (e ∙ same.0 ∙ sym f, is ∙ same.1 ∙ sym js)
same-end T H msg address limit reading xs ys o q r s (offence root zs w rest v reason l bad e few is) (full there us x z more m f count js) =
    let a = subst (AreReadBy reading 1) e r in
    let long = ap length e ∙ length-append zs ((w.1, v) ∷ []) in
    absurd (offence-last T H reading (Expecting T msg address) (z ∷ more) zs ys w rest v reason l bad a m s (omega (arith, long, few, count)))
same-end T H msg address limit reading xs ys o q r s (full root us x w rest l e count is) (sound Q g m f more js) =
    absurd (sound-not_led T H reading (Expecting T msg address) ys xs w rest m l s r (omega (arith, more, count)))
same-end T H msg address limit reading xs ys o q r s (full root us x w rest l e count is) (outside away none js) = absurd (away root)
same-end T H msg address limit reading xs ys o q r s (full root us x w rest l e count is) (offence there zs z more v reason m bad f few js) =
    let b = subst (AreReadBy reading 1) f s in
    let long = ap length f ∙ length-append zs ((z.1, v) ∷ []) in
    absurd (offence-last T H reading (Expecting T msg address) (w ∷ rest) zs xs z more v reason m bad b l r (omega (arith, long, few, count)))
same-end T H msg address limit reading xs ys o q r s (full root us x w rest l e count is) (full there vs y z more m f whole js) =
    let same = same-full T H reading (Expecting T msg address) xs ys us vs x y w z rest more l m r s (count ∙ sym whole) e f in
    (same.0, is ∙ same.1 ∙ sym js)

pub outcome-determined : (T : Table) (H msg address limit : ℕ) (reading : ℕ → ℕ
    → ℕ) (xs ys : List (ℕ × ℕ)) (o q : GraphOutcome) → AreReadBy reading 1 xs → AreReadBy reading 1 ys
    → HasOutcome T H msg address limit xs o → HasOutcome T H msg address limit ys q → (xs ≡ ys) × (o ≡ q)
outcome-determined T H msg address limit reading xs ys o q r s h g =
    same-end T H msg address limit reading xs ys o q r s (ends T H msg address limit xs o h) (ends T H msg address limit ys q g)
