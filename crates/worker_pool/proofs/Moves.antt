-- Each access of a pass preserves the rule of a pool's queue.
use Rattle.std.proofs.Common.{◌≡◌, ◌≢◌, ◌<◌, ◌≤◌, ◌+◌, ◌-◌, ℕ, zero, suc, List, [], ◌∷◌, ◌++◌, length, length-append}
use Rattle.std.proofs.Common.{set, refl, sym, ap, ◌∙◌, subst, ⊎_elim, append_assoc, append-nil, arith}
use Rattle.std.specs.Prelude.{IsPermutation}
use Rattle.std.specs.List.{range_with_len}
use Rattle.std.proofs.lemmas.List.{length-map, map-append, set-set, set_comm}
use Rattle.std.proofs.lemmas.List.Concat.{flat_map-append}
use Rattle.std.proofs.lemmas.List.FromFn.{length-range_with_len}
use Rattle.std.proofs.lemmas.List.Sorted.{IsPermutation-append_comm, IsPermutation-append_left}
use Rattle.std.proofs.lemmas.List.Sorted.{IsPermutation-append_right, IsPermutation-refl, IsPermutation-sym}
use Rattle.std.proofs.lemmas.List.Sorted.{IsPermutation-trans, length_permutation}
use Rattle.std.proofs.lemmas.List.Sums.{sum_by_push}
use mathlib.Core.Option.{some, some-injective, some-ne-none}
use lib.ListN.{get_elem?}
use Rattle.crossbeam_queue.specs.Fifo.{Pushes, Pops, Forks, Merges, Learns}
use Rattle.crossbeam_queue.proofs.Lists.{at_set, at_snoc, set_again, set_else}
use Rattle.worker_pool.specs.declared.pass_view.PassView.{PassView}
use Rattle.worker_pool.specs.declared.pass_view.NumberedItem.{NumberedItem}
use Rattle.worker_pool.specs.declared.limits.TheConstants.{MAX_POOL_ITEMS}
use Rattle.worker_pool.specs.Rule.{KnowsRoom, IsViewOfPool, KnowsAllItems, IsLaterItem, IsPooled, AreAllOnce, IsTakeStep, all_parts, hand, numbers_of, numbers_out, without_last}
use Rattle.worker_pool.specs.Later.{IsLater}
use Rattle.worker_pool.proofs.Lists.{every_append, every_implies, get_here, get_more, others_none, out_alone, out_more, out_most, out_same, sum_set, there}

range_snoc : (a n : ℕ) → range_with_len a (suc n) ≡ range_with_len a n ++ (a + n) ∷ []
range_snoc a zero = ap (λ (k : ℕ). k ∷ []) (omega arith)
range_snoc a (suc n) =
    let last : (a + 1) + n ≡ a + suc n = omega arith in
    ap (λ (l : List ℕ). a ∷ l) (range_snoc (a + 1) n ∙ ap (λ (k : ℕ). range_with_len (a + 1) n ++ k ∷ []) last)

not_none : (n : ℕ) → n ≢ 0 → 0 < n
not_none zero ne = absurd (ne refl)
not_none (suc n) ne = omega arith

not_empty : (xs : List ℕ) → xs ≢ [] → 0 < length xs
not_empty [] ne = absurd (ne refl)
not_empty (x ∷ xs) ne = omega arith

module _ {T : Type 0} where
  -- one more item, with the next number
  once_more : (firsts : List T) (x : T) (k : ℕ) (numbers : List ℕ) → k ≡ length firsts → AreAllOnce firsts numbers → AreAllOnce (firsts ++ x ∷ []) (numbers ++ k ∷ [])
  once_more firsts x k numbers next once =
      let n : ℕ = length firsts in
      let long : length (firsts ++ x ∷ []) ≡ suc n = omega (arith, length-append firsts (x ∷ [])) in
      let last : 0 + n ≡ k = omega (arith, next) in
      let range : range_with_len 0 (length (firsts ++ x ∷ [])) ≡ range_with_len 0 n ++ k ∷ []
      = ap (range_with_len 0) long ∙ range_snoc 0 n ∙ ap (λ (m : ℕ). range_with_len 0 n ++ m ∷ []) last in
      subst (λ l. IsPermutation l (numbers ++ k ∷ [])) (sym range) (IsPermutation-append_left (k ∷ []) _ _ once)

  same_once : (firsts : List T) (xs ys : List ℕ) → xs ≡ ys → AreAllOnce firsts xs → AreAllOnce firsts ys
  same_once firsts xs ys e once = subst (AreAllOnce firsts) e once

  fits_set : (firsts : List T) (views : List (PassView T)) (pass : ℕ) (w : PassView T) → IsViewOfPool firsts w
      → ((j : ℕ) (u : PassView T) → j ≢ pass → get_elem? views j ≡ some u → IsViewOfPool firsts u)
      → (j : ℕ) (u : PassView T) → get_elem? (set views pass w) j ≡ some u → IsViewOfPool firsts u
  fits_set firsts views pass w new old j u e = ⊎_elim (λ (x : (j ≡ pass) × (w ≡ u)). subst (IsViewOfPool firsts) x.1 new)
      (λ (x : (j ≢ pass) × (get_elem? views j ≡ some u)). old j u x.0 x.1) (at_set views pass j w u e)

module _ {T : Type 0} (since : T → T → Type 0) where
  one_more : (firsts more : List T) (x : NumberedItem T) → IsLaterItem since firsts x → IsLaterItem since (firsts ++ more) x
  one_more firsts more x h = get_more firsts more x.number (λ first. IsLater since first x.item.value) h

  pub begins : IsPooled since [] (hand all_parts [] [] ∷ [])
  begins = record {
    firsts = [];
    once = IsPermutation-refl [];
    queued = tt;
    few = omega arith;
    parts = refl;
    passes = one;
  }
    where
      one : (pass : ℕ) (v : PassView T) → get_elem? (hand all_parts [] [] ∷ []) pass ≡ some v → IsViewOfPool [] v
      one zero v e = subst (IsViewOfPool []) (some-injective _ _ e) (record { knows = λ _. refl; idle = λ _. refl })
      one (suc pass) v e = absurd (some-ne-none v (sym e))

  -- what a pass with a part knows of the slots
  pub rooms : (pass : ℕ) (v : PassView T) → 0 < v.parts → Learns (IsPooled since) pass v (KnowsRoom v)
  rooms pass v some_part items views h at =
      let same : v.firsts ≡ h.firsts = (h.passes pass v at).knows some_part in
      let long : length v.firsts ≡ length h.firsts = ap length same in
      let most : length v.held ≤ length (numbers_out views) = out_most (λ (u : PassView T). u.held) views pass v at in
      let all : length (numbers_out views ++ numbers_of items) ≡ length (range_with_len 0 (length h.firsts)) = length_permutation _ _ h.once in
      let range : length (range_with_len 0 (length h.firsts)) ≡ length h.firsts = length-range_with_len 0 (length h.firsts) in
      let both : length (numbers_out views ++ numbers_of items) ≡ length (numbers_out views) + length (numbers_of items) = length-append (numbers_out views) (numbers_of items) in
      let queued : length (numbers_of items) ≡ length items = length-map items (λ (x : NumberedItem T). x.number) in
      let few = h.few in
      (omega (arith, long, most, all, range, both, queued), omega (arith, long, few))

  -- if a pass holds an item, the queue has a free slot
  pub place : (items : List (NumberedItem T)) (views : List (PassView T)) → IsPooled since items views
      → (pass : ℕ) (v : PassView T) → get_elem? views pass ≡ some v → v.held ≢ [] → length items < MAX_POOL_ITEMS
  place items views rule pass v at some_held =
      let part : 0 < v.parts = not_none v.parts (λ none. some_held ((rule.passes pass v at).idle none)) in
      let room = rooms pass v part items views rule at in
      let one : 0 < length v.held = not_empty v.held some_held in
      let few = room.0 in
      let most = room.1 in
      omega (arith, few, most, one)

  -- what a pass with all parts knows of the items
  pub wholes : (pass : ℕ) (v : PassView T) → Learns (IsPooled since) pass v (KnowsAllItems v)
  wholes pass v items views h at all =
      let same : v.firsts ≡ h.firsts = (h.passes pass v at).knows (omega (arith, all)) in
      let alone : numbers_out views ≡ v.held
      = out_alone (λ (u : PassView T). u.held) views pass v at
      (λ j u e apart. (h.passes j u e).idle (others_none (λ (u : PassView T). u.parts) views pass v at (all ∙ sym h.parts) j u e apart)) in
      subst (λ firsts. AreAllOnce firsts (v.held ++ numbers_of items)) (sym same)
      (same_once h.firsts _ _ (ap (λ l. l ++ numbers_of items) alone) h.once)

  pub enters : (n pass : ℕ) (v : PassView T) (x : NumberedItem T) → v.parts ≡ all_parts → x.number ≡ length v.firsts → length v.firsts < MAX_POOL_ITEMS
      → Pushes (IsPooled since) n pass v x (λ w. w ≡ hand v.parts v.held (v.firsts ++ x.item.value ∷ []))
  enters n pass v x all next few items views _ h at =
      let w : PassView T = hand v.parts v.held (v.firsts ++ x.item.value ∷ []) in
      let same : v.firsts ≡ h.firsts = (h.passes pass v at).knows (omega (arith, all)) in
      let firsts : List T = h.firsts ++ x.item.value ∷ [] in
      let number : x.number ≡ length h.firsts = next ∙ ap length same in
      let out : numbers_out (set views pass w) ≡ numbers_out views = out_same (λ (u : PassView T). u.held) views pass v w at refl in
      let queue : numbers_of (items ++ x ∷ []) ≡ numbers_of items ++ x.number ∷ [] = map-append (λ (y : NumberedItem T). y.number) items (x ∷ []) in
      let list : (numbers_out views ++ numbers_of items) ++ x.number ∷ [] ≡ numbers_out (set views pass w) ++ numbers_of (items ++ x ∷ [])
      = append_assoc (numbers_out views) (numbers_of items) (x.number ∷ []) ∙ (λ i. sym out i ++ sym queue i) in
      let long : length firsts ≡ length v.firsts + 1 = length-append h.firsts (x.item.value ∷ []) ∙ ap (λ (l : List T). length l + 1) (sym same) in
      let sums = sum_set (λ (u : PassView T). u.parts) views pass v w at in
      let whole = h.parts in (
        w,
        record {
          firsts = firsts;
          once = same_once firsts _ _ list (once_more h.firsts x.item.value x.number _ number h.once);
          queued = every_append (IsLaterItem since firsts) items (x ∷ [])
              (every_implies (IsLaterItem since h.firsts) (IsLaterItem since firsts) (one_more h.firsts (x.item.value ∷ []))
              items h.queued)
              (get_here h.firsts x.item.value [] x.number (λ first. IsLater since first x.item.value) number (λ first since_first. since_first), tt);
          few = omega (arith, long, few);
          parts = omega (arith, sums, whole);
          passes = fits_set firsts views pass w (record { knows = λ _. ap (λ l. l ++ x.item.value ∷ []) same; idle = λ none. absurd (omega (arith, none, all)) })
              (λ j u other e. let none : u.parts ≡ 0 = others_none (λ (y : PassView T). y.parts) views pass v at (all ∙ sym h.parts) j u e other in
              record { knows = λ some_part. absurd (omega (arith, none, some_part)); idle = (h.passes j u e).idle });
        },
        refl,
      )

  pub takes : (pass : ℕ) (v : PassView T) → 0 < v.parts → Pops (IsPooled since) pass v (IsTakeStep since v)
  takes pass v some_part x items views h at =
      let w : PassView T = hand v.parts (v.held ++ x.number ∷ []) v.firsts in
      let same : v.firsts ≡ h.firsts = (h.passes pass v at).knows some_part in
      let out : IsPermutation (numbers_out views ++ x.number ∷ []) (numbers_out (set views pass w)) = out_more (λ (u : PassView T). u.held) views pass v w (x.number ∷ []) at refl in
      let list : numbers_out views ++ (x.number ∷ numbers_of items) ≡ (numbers_out views ++ x.number ∷ [])
      ++ numbers_of items = sym (append_assoc (numbers_out views) (x.number ∷ []) (numbers_of items)) in
      let sums = sum_set (λ (u : PassView T). u.parts) views pass v w at in
      let whole = h.parts in
      let rule : IsPooled since items (set views pass w) = record {
        firsts = h.firsts;
        once = IsPermutation-trans _ _ _ (same_once h.firsts _ _ list h.once) (IsPermutation-append_left (numbers_of items) _ _ out);
        queued = h.queued.1;
        few = h.few;
        parts = omega (arith, sums, whole);
        passes = fits_set h.firsts views pass w (record { knows = λ _. same; idle = λ none. absurd (omega (arith, none, some_part)) }) (λ j u _ e. h.passes j u e);
      } in
      let room = (rooms pass w some_part items (set views pass w) rule (there views pass v w at)).0 in (
        w,
        rule,
        record {
          view = refl;
          one = subst (λ firsts. IsLaterItem since firsts x) (sym same) h.queued.0;
          few = omega (arith, room);
        },
      )

  pub returns : (n pass : ℕ) (v : PassView T) (x : NumberedItem T) → 0 < v.parts → IsLaterItem since v.firsts x → v.held ≡ without_last v.held ++ x.number ∷ []
      → Pushes (IsPooled since) n pass v x (λ w. w ≡ hand v.parts (without_last v.held) v.firsts)
  returns n pass v x some_part one in_hand items views _ h at =
      let w : PassView T = hand v.parts (without_last v.held) v.firsts in
      let new : List (PassView T) = set views pass w in
      let same : v.firsts ≡ h.firsts = (h.passes pass v at).knows some_part in
      let back : set new pass v ≡ views = set-set views pass w v ∙ set_again views pass v at in
      let out : IsPermutation (numbers_out new ++ x.number ∷ []) (numbers_out views)
      = subst (λ l. IsPermutation (numbers_out new ++ x.number ∷ []) (numbers_out l)) back
      (out_more (λ (u : PassView T). u.held) new pass w v (x.number ∷ []) (there views pass v w at) in_hand) in
      let waiting : IsPermutation ((numbers_out new ++ x.number ∷ []) ++ numbers_of items) (numbers_out new ++ (numbers_of items ++ x.number ∷ []))
      = subst (λ l. IsPermutation l (numbers_out new ++ (numbers_of items ++ x.number ∷ []))) (sym (append_assoc (numbers_out new) (x.number ∷ []) (numbers_of items)))
      (IsPermutation-append_right (numbers_out new) _ _ (IsPermutation-append_comm (x.number ∷ []) (numbers_of items))) in
      let queue : numbers_of (items ++ x ∷ []) ≡ numbers_of items ++ x.number ∷ [] = map-append (λ (y : NumberedItem T). y.number) items (x ∷ []) in
      let sums = sum_set (λ (u : PassView T). u.parts) views pass v w at in
      let whole = h.parts in (
        w,
        record {
          firsts = h.firsts;
          once = same_once h.firsts _ _ (ap (λ l. numbers_out new ++ l) (sym queue))
              (IsPermutation-trans _ _ _ h.once (IsPermutation-trans _ _ _ (IsPermutation-append_left (numbers_of items) _ _ (IsPermutation-sym _ _ out)) waiting));
          queued = every_append (IsLaterItem since h.firsts) items (x ∷ []) h.queued (subst (λ firsts. IsLaterItem since firsts x) same one, tt);
          few = h.few;
          parts = omega (arith, sums, whole);
          passes = fits_set h.firsts views pass w (record { knows = λ _. same; idle = λ none. absurd (omega (arith, none, some_part)) }) (λ j u _ e. h.passes j u e);
        },
        refl,
      )

  pub forks : (pass : ℕ) (v : PassView T) → 1 < v.parts → Forks (IsPooled since) pass v (hand (v.parts - 1) v.held v.firsts) (hand 1 [] v.firsts)
  forks pass v parts items views h at =
      let left : PassView T = hand (v.parts - 1) v.held v.firsts in
      let right : PassView T = hand 1 [] v.firsts in
      let new : List (PassView T) = set views pass left in
      let same : v.firsts ≡ h.firsts = (h.passes pass v at).knows (omega (arith, parts)) in
      let out : numbers_out (new ++ right ∷ []) ≡ numbers_out views
      = flat_map-append (λ (u : PassView T). u.held) new (right ∷ []) ∙ append-nil (numbers_out new) ∙ out_same (λ (u : PassView T). u.held) views pass v left at refl in
      let sums = sum_set (λ (u : PassView T). u.parts) views pass v left at in
      let pushed = sum_by_push (λ (u : PassView T). u.parts) new right in
      let whole = h.parts in
      record {
        firsts = h.firsts;
        once = same_once h.firsts _ _ (ap (λ l. l ++ numbers_of items) (sym out)) h.once;
        queued = h.queued;
        few = h.few;
        parts = omega (arith, sums, pushed, whole, parts);
        passes = λ j u e. ⊎_elim
            (λ (old : get_elem? new j ≡ some u). fits_set h.firsts views pass left (record {
              knows = λ _. same;
              idle = λ none. absurd (omega (arith, none, parts));
            }) (λ k y _ e'. h.passes k y e') j u old)
            (λ (is : right ≡ u). subst (IsViewOfPool h.firsts) is (record { knows = λ _. same; idle = λ _. refl })) (at_snoc new right u j e);
      }

  pub merges : (pass : ℕ) (v : PassView T) (other : ℕ) (u : PassView T) → 0 < v.parts
      → Merges (IsPooled since) pass v other u (hand (v.parts + u.parts) (v.held ++ u.held) v.firsts) (hand 0 [] [])
  merges pass v other u some_part items views h at apart at' =
      let both : PassView T = hand (v.parts + u.parts) (v.held ++ u.held) v.firsts in
      let spent : PassView T = hand 0 [] [] in
      let held : PassView T → List ℕ = λ y. y.held in
      let same : v.firsts ≡ h.firsts = (h.passes pass v at).knows some_part in
      let was : get_elem? views other ≡ some u = sym (set_else views pass other both apart) ∙ at' in
      let less : List (PassView T) = set views other spent in
      let back : set less other u ≡ views = set-set views other spent u ∙ set_again views other u was in
      let lost : IsPermutation (numbers_out less ++ u.held) (numbers_out views)
      = subst (λ l. IsPermutation (numbers_out less ++ u.held) (numbers_out l)) back (out_more held less other spent u u.held (there views other u spent was) refl) in
      let here : get_elem? less pass ≡ some v = set_else views other pass spent (λ e. apart (sym e)) ∙ at in
      let swapped : set less pass both ≡ set (set views pass both) other spent = set_comm views other pass spent both apart in
      let won : IsPermutation (numbers_out less ++ u.held) (numbers_out (set (set views pass both) other spent))
      = subst (λ l. IsPermutation (numbers_out less ++ u.held) (numbers_out l)) swapped (out_more held less pass v both u.held here refl) in
      let out : IsPermutation (numbers_out views) (numbers_out (set (set views pass both) other spent)) = IsPermutation-trans _ _ _ (IsPermutation-sym _ _ lost) won in
      let sums = sum_set (λ (y : PassView T). y.parts) views pass v both at in
      let others = sum_set (λ (y : PassView T). y.parts) (set views pass both) other u spent at' in
      let whole = h.parts in
      record {
        firsts = h.firsts;
        once = IsPermutation-trans _ _ _ h.once (IsPermutation-append_left (numbers_of items) _ _ out);
        queued = h.queued;
        few = h.few;
        parts = omega (arith, sums, others, whole);
        passes = fits_set h.firsts (set views pass both) other spent (record { knows = λ p. absurd (omega (arith, p)); idle = λ _. refl })
            (λ j y _ e. fits_set h.firsts views pass both (record { knows = λ _. same; idle = λ none. absurd (omega (arith, none, some_part)) }) (λ k z _ e'. h.passes k z e') j y e);
      }
