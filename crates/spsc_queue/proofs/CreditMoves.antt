-- Each move of a queue of credits preserves its rule.
use Rattle.std.proofs.Common.{◌≡◌, ◌≢◌, ℕ, zero, suc, true, false, true≢false, List, [], ◌∷◌, ◌++◌, set, sym, refl, ap, ◌∙◌, subst, ⊎_elim}
use mathlib.Core.Option.{some, some-injective, some-ne-none}
use lib.ListN.{get_elem?}
use Rattle.atomic_table.specs.Seated.{TableId}
use Rattle.crossbeam_queue.specs.Fifo.{Pushes, Pops, PopsFrom, PushesAfter, Forks, Learns}
use Rattle.crossbeam_queue.proofs.Lists.{at_set, at_snoc}
use Rattle.spsc_queue.specs.declared.credit.Credit.{Credit}
use Rattle.spsc_queue.specs.declared.credit.CreditDesk.{CreditDesk}
use Rattle.spsc_queue.specs.Names.{no_queue}
use Rattle.spsc_queue.specs.Credits.{desk_of, unnamed, AreAllOf, IsDeskOf, AreOfOne}

first_only : (port : ℕ) (v : CreditDesk) → get_elem? (unnamed ∷ []) port ≡ some v → (port ≡ 0) × (v ≡ unnamed)
first_only zero v e = (refl, sym (some-injective _ _ e))
first_only (suc port) v e = absurd (some-ne-none v (sym e))

module _ {T : Type 0} where
  abbrev Of : TableId → Credit T → Type 0
  Of queue credit = credit.pass.table_id ≡ queue

  -- what a call of a named pass guarantees
  abbrev Same : CreditDesk → Credit T → CreditDesk → Type 0
  Same v x w = (w ≡ v) × Of v.queue x

  pub begins : AreOfOne {T = T} [] (unnamed ∷ [])
  begins = record {
    queue = no_queue;
    all = tt;
    fits = λ port v e.
        let is = first_only port v e in record {
          named = λ n. absurd (true≢false (sym n ∙ ap (λ (d : CreditDesk). d.named) is.1));
          empty = λ _. refl;
          alone = λ _ other u there. (first_only other u there).0 ∙ sym is.0;
        };
  }

  -- the one pass is split into two, which know the queue
  pub names : (queue : TableId) (port : ℕ) (v : CreditDesk) → v.named ≡ false → Forks (AreOfOne {T = T}) port v (desk_of queue) (desk_of queue)
  names queue port v not items views h at =
      let fits = h.fits port v at in
      let is_named : (j : ℕ) (u : CreditDesk) → desk_of queue ≡ u → IsDeskOf queue items (set views port (desk_of queue) ++ desk_of queue ∷ []) j u = λ j u is.
      record {
        named = λ _. ap (λ (d : CreditDesk). d.queue) (sym is);
        empty = λ n. absurd (true≢false (ap (λ (d : CreditDesk). d.named) is ∙ n));
        alone = λ n. absurd (true≢false (ap (λ (d : CreditDesk). d.named) is ∙ n));
      } in record {
        queue = queue;
        all = subst (AreAllOf queue) (sym (fits.empty not)) tt;
        fits = λ j u e. ⊎_elim
            (λ x. ⊎_elim (λ (y : (j ≡ port) × (desk_of queue ≡ u)). is_named j u y.1)
            (λ (y : (j ≢ port) × (get_elem? views j ≡ some u)). absurd (y.0 (fits.alone not j u y.1))) (at_set views port j (desk_of queue) u x))
            (λ (is : desk_of queue ≡ u). is_named j u is)
            (at_snoc (set views port (desk_of queue)) (desk_of queue) u j e);
      }

  -- if one pass is named, each is, and the queued credits may change
  stays : (queue : TableId) (items items' : List (Credit T)) (views : List CreditDesk) (port : ℕ) (v : CreditDesk) → v.named ≡ true → get_elem? views port ≡ some v
      → ((j : ℕ) (u : CreditDesk) → get_elem? views j ≡ some u → IsDeskOf queue items views j u)
      → (j : ℕ) (u : CreditDesk) → get_elem? (set views port v) j ≡ some u → IsDeskOf queue items' (set views port v) j u
  stays queue items items' views port v is_named at h j u e =
      let there : get_elem? views j ≡ some u = ⊎_elim (λ (x : (j ≡ port) × (v ≡ u)). subst (λ (y : ℕ × CreditDesk). get_elem? views y.0 ≡ some y.1) (λ i. (sym x.0 i, x.1 i)) at)
      (λ (x : (j ≢ port) × (get_elem? views j ≡ some u)). x.1) (at_set views port j v u e) in
      let f = h j u there in
      let never : u.named ≡ false → ⊥ = λ not.
      let same : port ≡ j = f.alone not port v at in
      let one : v ≡ u = some-injective _ _ (sym at ∙ ap (get_elem? views) same ∙ there) in
      true≢false (sym is_named ∙ ap (λ (d : CreditDesk). d.named) one ∙ not) in
      record {
        named = f.named;
        empty = λ not. absurd (never not);
        alone = λ not. absurd (never not);
      }

  all_snoc : (queue : TableId) (xs : List (Credit T)) (x : Credit T) → AreAllOf queue xs → Of queue x → AreAllOf queue (xs ++ x ∷ [])
  all_snoc queue [] x a of = (of, tt)
  all_snoc queue (y ∷ ys) x a of = (a.0, all_snoc queue ys x a.1 of)

  pub sends : (n port : ℕ) (v : CreditDesk) (x : Credit T) → v.named ≡ true → Of v.queue x → Pushes AreOfOne n port v x (Same v x)
  sends n port v x is_named of items views _ h at = (
    v,
    record {
      queue = h.queue;
      all = all_snoc h.queue items x h.all (of ∙ (h.fits port v at).named is_named);
      fits = stays h.queue items (items ++ x ∷ []) views port v is_named at h.fits;
    },
    (refl, of),
  )

  pub hears : (port : ℕ) (v : CreditDesk) → v.named ≡ true → Pops AreOfOne port v (Same v)
  hears port v is_named x items views h at = (
    v,
    record { queue = h.queue; all = h.all.1; fits = stays h.queue (x ∷ items) items views port v is_named at h.fits },
    (refl, h.all.0 ∙ sym ((h.fits port v at).named is_named)),
  )

  pub hears_from : (n port : ℕ) (v : CreditDesk) → v.named ≡ true → PopsFrom AreOfOne n port v (Same v)
  hears_from n port v is_named x items views _ h at = hears port v is_named x items views h at

  pub sends_after : (n port : ℕ) (v : CreditDesk) (x : Credit T) → v.named ≡ true → Of v.queue x → PushesAfter AreOfOne n port (Same v) x Same
  sends_after n port v x is_named of old w was =
      let same : w ≡ v = was.0 in
      sends n port w x (ap (λ (d : CreditDesk). d.named) same ∙ is_named) (of ∙ ap (λ (d : CreditDesk). d.queue) (sym same))

  pub no_lesson : (port : ℕ) (v : CreditDesk) → Learns (AreOfOne {T = T}) port v (λ items. Unit {0})
  no_lesson port v items views h at = tt
