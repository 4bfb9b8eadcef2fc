-- Each move of an end preserves the rule of the queue.
use Rattle.std.proofs.Common.{◌≡◌, ◌≢◌, ◌<◌, ◌≤◌, ◌+◌, ◌-◌, ℕ, zero, suc, true, true≢false, List, [], ◌∷◌, ◌++◌}
use Rattle.std.proofs.Common.{length, length-append, set, sym, refl, ap, ◌∙◌, subst, ⊎_elim, inl, inr, append_assoc}
use Rattle.std.proofs.Common.{arith}
use Rattle.std.proofs.lemmas.List.{append-nil}
use mathlib.Core.Option.{some, some-ne-none}
use mathlib.Core.List.{IsPrefix}
use lib.ListN.{get_elem?}
use Rattle.crossbeam_queue.specs.Fifo.{Pushes, Pops, Forks, Merges, Learns}
use Rattle.crossbeam_queue.proofs.Lists.{at_set, at_snoc}
use Rattle.spsc_queue.specs.declared.side.Side.{Side}
use Rattle.spsc_queue.specs.Sides.{putting, taking, both, knowing, neither, ArePrefixComparable, longer, IsQueued, IsConsistentSide, IsFifo}

module _ {T : Type 0} where
  at_end : (l : List (Side T)) (a b : Side T) (j : ℕ) → get_elem? l j ≢ some b → get_elem? (l ++ a ∷ []) j ≡ some b → j ≡ length l
  at_end [] a b zero n e = refl
  at_end [] a b (suc j) n e = absurd (some-ne-none b (sym e))
  at_end (x ∷ xs) a b zero n e = absurd (n e)
  at_end (x ∷ xs) a b (suc j) n e = ap suc (at_end xs a b j n e)

  abbrev Each : (ℕ → Side T → Type 0) → List (Side T) → Type 0
  Each F views = (port : ℕ) (v : Side T) → get_elem? views port ≡ some v → F port v

  each_set : (F : ℕ → Side T → Type 0) (views : List (Side T)) (port : ℕ) (w : Side T) → F port w
      → ((j : ℕ) (u : Side T) → j ≢ port → get_elem? views j ≡ some u → F j u) → Each F (set views port w)
  each_set F views port w mine others j u e = ⊎_elim (λ (x : (j ≡ port) × (w ≡ u)). subst (λ (y : ℕ × Side T). F y.0 y.1) (λ i. (sym x.0 i, x.1 i)) mine)
      (λ (x : (j ≢ port) × (get_elem? views j ≡ some u)). others j u x.0 x.1) (at_set views port j w u e)

  fits_knowing : (writer reader port : ℕ) (put taken known : List T) → IsPrefix known taken → IsConsistentSide writer reader put taken port (knowing known)
  fits_knowing writer reader port put taken known begins = record {
    puts = λ p. absurd (true≢false (sym p));
    takes = λ p. absurd (true≢false (sym p));
    told = (put, refl);
    known = begins;
  }

  fits_neither : (writer reader port : ℕ) (put taken : List T) → IsConsistentSide writer reader put taken port neither
  fits_neither writer reader port put taken = fits_knowing writer reader port put taken [] (taken, refl)

  whole : (xs : List T) → IsPrefix xs xs
  whole xs = ([], append-nil xs)

  same_begins : (xs ys : List T) → xs ≡ ys → IsPrefix xs ys
  same_begins xs ys same = ([], append-nil xs ∙ same)

  -- the longer of two prefixes is a prefix
  longer_begins : (xs ys all : List T) → IsPrefix xs all → IsPrefix ys all → IsPrefix (longer xs ys) all
  longer_begins [] ys all p q = q
  longer_begins (x ∷ xs) [] all p q = p
  longer_begins (x ∷ xs) (y ∷ ys) [] p q = absurd (cc (p.1))
  longer_begins (x ∷ xs) (y ∷ ys) (z ∷ zs) p q =
      let r : IsPrefix (longer xs ys) zs = longer_begins xs ys zs (p.0, cc (p.1)) (q.0, cc (q.1)) in (r.0, cc (r.1, p.1))

  -- and no shorter than either
  pub longer_first : (xs ys : List T) → length xs ≤ length (longer xs ys)
  longer_first [] ys = omega arith
  longer_first (x ∷ xs) [] = omega arith
  longer_first (x ∷ xs) (y ∷ ys) = omega (arith, longer_first xs ys)

  pub longer_second : (xs ys : List T) → length ys ≤ length (longer xs ys)
  longer_second [] ys = omega arith
  longer_second (x ∷ xs) [] = omega arith
  longer_second (x ∷ xs) (y ∷ ys) = omega (arith, longer_second xs ys)

  no_longer : (xs ys : List T) → IsPrefix xs ys → length xs ≤ length ys
  no_longer xs ys p = omega (arith, ap length p.1, length-append xs p.0)

  prefix_longer : (xs ys : List T) (x : T) → IsPrefix xs ys → IsPrefix xs (ys ++ x ∷ [])
  prefix_longer xs ys x p = (p.0 ++ x ∷ [], sym (append_assoc xs p.0 (x ∷ [])) ∙ ap (λ l. l ++ x ∷ []) p.1)

  -- of two prefixes of one list, one is a prefix of the other
  agree : (xs ys all : List T) → IsPrefix xs all → IsPrefix ys all → ArePrefixComparable xs ys
  agree [] ys all p q = inl (ys, refl)
  agree (x ∷ xs) [] all p q = inr (x ∷ xs, refl)
  agree (x ∷ xs) (y ∷ ys) [] p q = absurd (cc (p.1))
  agree (x ∷ xs) (y ∷ ys) (z ∷ zs) p q =
      let heads : x ≡ y = cc (p.1, q.1) in
      ⊎_elim (λ (r : IsPrefix xs ys). inl (r.0, cc (heads, r.1))) (λ (r : IsPrefix ys xs). inr (r.0, cc (heads, r.1))) (agree xs ys zs (p.0, cc (p.1)) (q.0, cc (q.1)))

  pub begins : IsFifo {T = T} [] (both [] [] [] [] ∷ [])
  begins = (
    0,
    0,
    [],
    [],
    refl,
    each_set (IsConsistentSide 0 0 [] []) (both [] [] [] [] ∷ []) 0 (both [] [] [] []) (record { puts = λ _. (refl, refl); takes = λ _. (refl, refl); told = ([], refl); known = ([], refl) })
        (λ j u other e. absurd (other (at_end [] _ u j (λ x. some-ne-none u (sym x)) e))),
  )

  pub puts : (n port : ℕ) (v : Side T) (x : T) → v.puts ≡ true → Pushes IsFifo n port v x (λ w. w ≡ putting (v.put ++ x ∷ []) v.known)
  puts n port v x may items views _ h at =
      let w : Side T = putting (v.put ++ x ∷ []) v.known in
      let mine = h.5 port v at in
      let put = h.2 ++ x ∷ [] in (
        w,
        (
          h.0,
          h.1,
          put,
          h.3,
          ap (λ l. l ++ x ∷ []) h.4 ∙ append_assoc h.3 items (x ∷ []),
          each_set (IsConsistentSide h.0 h.1 put h.3) views port w
              (record {
                puts = λ _. ((mine.puts may).0, ap (λ l. l ++ x ∷ []) (mine.puts may).1);
                takes = λ p. absurd (true≢false (sym p));
                told = (put, refl);
                known = mine.known;
              })
              (λ j u other e. let f = h.5 j u e in
              record {
                puts = λ p. absurd (other ((f.puts p).0 ∙ sym (mine.puts may).0));
                takes = f.takes;
                told = prefix_longer u.told h.2 x f.told;
                known = f.known;
              }),
        ),
        refl,
      )

  pub takes : (port : ℕ) (v : Side T) → v.takes ≡ true → Pops IsFifo port v (λ x w. (w ≡ taking (v.taken ++ x ∷ []) v.told) × ArePrefixComparable w.told w.taken)
  takes port v may x items views h at =
      let w : Side T = taking (v.taken ++ x ∷ []) v.told in
      let mine = h.5 port v at in
      let taken = h.3 ++ x ∷ [] in
      let all : (v.taken ++ x ∷ []) ++ items ≡ h.2 = append_assoc v.taken (x ∷ []) items ∙ ap (λ l. l ++ x ∷ items) (mine.takes may).1 ∙ sym h.4 in (
        w,
        (
          h.0,
          h.1,
          h.2,
          taken,
          h.4 ∙ sym (append_assoc h.3 (x ∷ []) items),
          each_set (IsConsistentSide h.0 h.1 h.2 taken) views port w (record {
            puts = λ p. absurd (true≢false (sym p));
            takes = λ _. ((mine.takes may).0, ap (λ l. l ++ x ∷ []) (mine.takes may).1);
            told = mine.told;
            known = (taken, refl);
          })
              (λ j u other e. let f = h.5 j u e in
              record {
                puts = f.puts;
                takes = λ p. absurd (other ((f.takes p).0 ∙ sym (mine.takes may).0));
                told = f.told;
                known = prefix_longer u.known h.3 x f.known;
              }),
        ),
        (refl, agree v.told (v.taken ++ x ∷ []) h.2 mine.told (items, all)),
      )

  -- a pass that knows no more than was popped is compatible with any other
  knows_beside : (port : ℕ) (v : Side T) (known : List T) → ((writer reader : ℕ) (put taken : List T) → IsConsistentSide writer reader put taken port v → IsPrefix known taken)
      → Forks IsFifo port v v (knowing known)
  knows_beside port v known begins items views h at = (
    h.0,
    h.1,
    h.2,
    h.3,
    h.4,
    λ j u e. ⊎_elim (λ x. each_set (IsConsistentSide h.0 h.1 h.2 h.3) views port v (h.5 port v at) (λ i y _ there. h.5 i y there) j u x)
        (λ (is : knowing known ≡ u). subst (IsConsistentSide h.0 h.1 h.2 h.3 j) is
        (fits_knowing h.0 h.1 j h.2 h.3 known (begins h.0 h.1 h.2 h.3 (h.5 port v at))))
        (at_snoc (set views port v) (knowing known) u j e),
  )

  pub admits_neither : (port : ℕ) (v : Side T) → Forks IsFifo port v v neither
  admits_neither port v = knows_beside port v [] (λ _ _ _ taken _. (taken, refl))

  pub tells : (port : ℕ) (v : Side T) → v.takes ≡ true → Forks IsFifo port v v (knowing v.taken)
  tells port v may = knows_beside port v v.taken (λ _ _ _ taken f. same_begins v.taken taken (f.takes may).1)

  -- a pass with both roles is split into two
  pub parts : (port : ℕ) (v : Side T) → v.puts ≡ true → v.takes ≡ true → Forks IsFifo port v (putting v.put v.known) (taking v.taken v.told)
  parts port v a b items views h at =
      let l : Side T = putting v.put v.known in
      let r : Side T = taking v.taken v.told in
      let mine = h.5 port v at in
      let vs : List (Side T) = set views port l in
      let Old : ℕ → Side T → Type 0 = λ j u. (u.puts ≡ true → (j ≡ h.0) × (u.put ≡ h.2)) × (u.takes ≢ true) × IsPrefix u.told h.2 × IsPrefix u.known h.3 in
      let old : Each Old vs = each_set Old views port l ((λ _. mine.puts a), (λ p. true≢false (sym p)), (h.2, refl), mine.known)
      (λ j u other e. let f = h.5 j u e in (f.puts, (λ p. other ((f.takes p).0 ∙ sym (mine.takes b).0)), f.told, f.known)) in (
        h.0,
        length vs,
        h.2,
        h.3,
        h.4,
        λ j u e. ⊎_elim (λ x. let o = old j u x in record { puts = o.0; takes = λ p. absurd (o.1 p); told = o.2; known = o.3 })
            (λ (is : r ≡ u). record {
              puts = λ p. absurd (true≢false (sym (ap (λ (y : Side T). y.puts) is ∙ p)));
              takes = λ p. (at_end vs r u j (λ x. (old j u x).1 p) e, ap (λ (y : Side T). y.taken) (sym is) ∙ (mine.takes b).1);
              told = subst (λ (y : Side T). IsPrefix y.told h.2) is mine.told;
              known = subst (λ (y : Side T). IsPrefix y.known h.3) is (h.3, refl);
            }) (at_snoc vs r u j e),
      )

  -- one pass takes over what another knew; the other then knows nothing
  takes_in : (port : ℕ) (v : Side T) (other : ℕ) (u w : Side T)
      → ((writer reader : ℕ) (put taken : List T) → IsConsistentSide writer reader put taken port v → IsConsistentSide writer reader put taken other u
      → (reader' : ℕ) × IsConsistentSide writer reader' put taken port w × ((j : ℕ) (y : Side T) → j ≢ other → j ≢ port
      → IsConsistentSide writer reader put taken j y → IsConsistentSide writer reader' put taken j y))
      → Merges IsFifo port v other u w neither
  takes_in port v other u w step items views h at two at' =
      let vs : List (Side T) = set views port w in
      let was : get_elem? views other ≡ some u = ⊎_elim (λ x. absurd (two x.0)) (λ x. x.1) (at_set views port other w u at') in
      let s = step h.0 h.1 h.2 h.3 (h.5 port v at) (h.5 other u was) in
      let Now : ℕ → Side T → Type 0 = λ j y. j ≢ other → IsConsistentSide h.0 s.0 h.2 h.3 j y in
      let now : Each Now vs = each_set Now views port w (λ _. s.1) (λ j y apart e away. s.2 j y away apart (h.5 j y e)) in
      (h.0, s.0, h.2, h.3, h.4, each_set (IsConsistentSide h.0 s.0 h.2 h.3) vs other neither (fits_neither h.0 s.0 other h.2 h.3) (λ j y apart e. now j y e apart))

  -- the two roles are joined
  pub joins : (port : ℕ) (v : Side T) (other : ℕ) (u : Side T) → v.puts ≡ true → u.takes ≡ true → Merges IsFifo port v other u (both v.put u.taken v.put v.known) neither
  joins port v other u a b =
      takes_in port v other u (both v.put u.taken v.put v.known) (λ writer reader put taken mine theirs.
      let t = theirs.takes b in (
        port,
        record { puts = λ _. mine.puts a; takes = λ _. (refl, t.1); told = same_begins v.put put (mine.puts a).1; known = mine.known },
        λ j y away _ f. record { puts = f.puts; takes = λ p. absurd (away ((f.takes p).0 ∙ sym t.0)); told = f.told; known = f.known },
      ))

  -- the producer learns what was popped
  pub hears : (port : ℕ) (v : Side T) (other : ℕ) (u : Side T) → v.puts ≡ true → Merges IsFifo port v other u (putting v.put (longer v.known u.known)) neither
  hears port v other u a =
      takes_in port v other u (putting v.put (longer v.known u.known)) (λ writer reader put taken mine theirs. (
        reader,
        record {
          puts = λ _. mine.puts a;
          takes = λ p. absurd (true≢false (sym p));
          told = (put, refl);
          known = longer_begins v.known u.known taken mine.known theirs.known;
        },
        λ j y _ _ f. f,
      ))

  pub counts : (port : ℕ) (v : Side T) → v.puts ≡ true → Learns IsFifo port v (IsQueued v.put v.known)
  counts port v may items views h at = let mine = h.5 port v at in (h.3, sym h.4 ∙ sym (mine.puts may).1, mine.known)

  pub behind : (port : ℕ) (v : Side T) → v.puts ≡ true → Learns IsFifo port v (λ items. length v.known ≤ length v.put)
  behind port v may items views h at =
      let mine = h.5 port v at in
      omega (arith, no_longer v.known h.3 mine.known, ap length h.4, length-append h.3 items, ap length (mine.puts may).1)

  pub finds : (port : ℕ) (v : Side T) → v.takes ≡ true → Learns IsFifo port v (λ items. IsPrefix v.told (v.taken ++ items))
  finds port v may items views h at =
      let mine = h.5 port v at in
      let all : h.2 ≡ v.taken ++ items = h.4 ∙ ap (λ l. l ++ items) (sym (mine.takes may).1) in
      (mine.told.0, mine.told.1 ∙ all)

  pub compares : (port : ℕ) (v : Side T) → v.puts ≡ true → v.takes ≡ true → Learns IsFifo port v (λ items. v.taken ++ items ≡ v.put)
  compares port v a b items views h at = let mine = h.5 port v at in ap (λ l. l ++ items) (mine.takes b).1 ∙ sym h.4 ∙ sym (mine.puts a).1

-- ---- a slot that is known to be free

-- learning of more popped items never makes more slots free than there are
pub fits_free : {T : Type 0} (v u : Side T) (free capacity heard taken : ℕ) → free + length v.put ≡ capacity + heard → taken ≤ length u.known
    → length (longer v.known u.known) ≤ length v.put → heard < taken → free + (taken - heard) ≤ capacity
fits_free v u free capacity heard taken places counted few more =
    omega (arith, places, counted, few, more, longer_second v.known u.known)
