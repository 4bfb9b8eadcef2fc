-- A chain as the code keeps it applies and refuses the operations that an engine's chain does.
use Rattle.std.proofs.Common.{◌≡◌, ℕ, zero, suc, ◌+◌, ◌<◌, ◌≤◌, ◌^◌, Bool, true, false, if◌then◌else◌, List, [], ◌∷◌}
use Rattle.std.proofs.Common.{◌++◌, length, get_or, map, take, drop, set, Contains, Option, Some, None, refl, sym, ap}
use Rattle.std.proofs.Common.{◌∙◌, subst, inl, inr, arith}
use Rattle.std.specs.Prelude.{slice_get, position, is_some, nat_lt}
use Rattle.std.specs.List.{insert, remove}
use Rattle.std.specs.Str.{bytes_eq}
use Rattle.std.proofs.lemmas.Bool.{both_ways, ltb-false}
use Rattle.std.proofs.lemmas.List.{map-append, take-map, take-append-drop, length-map, length-take-le, set_split}
use Rattle.std.proofs.lemmas.Option.{same_Some, slice_get_read}
use Rattle.mrpc_table.specs.Lines.{in_64_bits}
use Rattle.mrpc_table.specs.Valid.{AreDistinct}
use Rattle.mrpc_table.specs.declared.words.Decimal.TheVariants.{Small, Large}
use Rattle.engine_core.specs.Chains.{Chain, Entry, IsReasonToReject, IsChain, Refusal, names_of, new_entry, refusal_rank, upgraded}
use Rattle.engine_core.specs.Chains as chains
use Rattle.engine_core.specs.Policies.{is_same_kind}
use Rattle.engine_core.specs.declared.op.Op.TheVariants as op
use Rattle.engine_core.specs.declared.policy.Policy.{Policy}
use Rattle.scenario_entries.specs.ChainEntries.{IsChangeOrRefusal, AreEntriesOf, outline_policies}
use Rattle.scenario_entries.specs.declared.chain.ChainEntry.{ChainEntry}
use Rattle.scenario.specs.declared.fault.ScenarioReason.TheVariants as reason
use Rattle.scenario_entries.proofs.Lists.{position_map, there_cases, there_first, there_more}
use Rattle.scenario_entries.proofs.Naming as naming

-- ---- lists

drop_map : {X Y : Type 0} (f : X → Y) (n : ℕ) (xs : List X) → drop n (map f xs) ≡ map f (drop n xs)
drop_map f zero xs = refl
drop_map f (suc n) [] = refl
drop_map f (suc n) (x ∷ xs) = drop_map f n xs

map_two : {X Y : Type 0} (f : X → Y) (m n : ℕ) (xs : List X) → map f (take m xs ++ drop n xs) ≡ take m (map f xs) ++ drop n (map f xs)
map_two f m n xs =
    map-append f (take m xs) (drop n xs)
    ∙ ap (λ z. z ++ map f (drop n xs)) (sym (take-map f m xs))
    ∙ ap (λ z. take m (map f xs) ++ z) (sym (drop_map f n xs))

map_three : {X Y : Type 0} (f : X → Y) (m n : ℕ) (xs : List X) (x : X) → map f (take m xs ++ x ∷ drop n xs) ≡ take m (map f xs) ++ f x ∷ drop n (map f xs)
map_three f m n xs x =
    map-append f (take m xs) (x ∷ drop n xs)
    ∙ ap (λ z. z ++ f x ∷ map f (drop n xs)) (sym (take-map f m xs))
    ∙ ap (λ z. take m (map f xs) ++ f x ∷ z) (sym (drop_map f n xs))

split_at : {X : Type 0} (xs : List X) (i : ℕ) (x : X) → slice_get xs i ≡ Some x → xs ≡ take i xs ++ x ∷ drop (suc i) xs
split_at [] i x e = absurd cc
split_at (y ∷ ys) zero x e = ap (λ z. z ∷ ys) (same_Some y x e)
split_at (y ∷ ys) (suc i) x e = ap (λ zs. y ∷ zs) (split_at ys i x e)

get_there : {X : Type 0} (xs : List X) (i : ℕ) (x : X) → slice_get xs i ≡ Some x → Contains xs x
get_there [] i x e = absurd cc
get_there (y ∷ ys) zero x e = subst (λ (z : _). Contains (y ∷ ys) z) (same_Some y x e) (there_first y ys)
get_there (y ∷ ys) (suc i) x e = there_more y ys x (get_there ys i x e)

get_map : {X Y : Type 0} (f : X → Y) (xs : List X) (i : ℕ) (x : X) → slice_get xs i ≡ Some x → slice_get (map f xs) i ≡ Some (f x)
get_map f [] i x e = absurd cc
get_map f (y ∷ ys) zero x e = ap (λ z. Some (f z)) (same_Some y x e)
get_map f (y ∷ ys) (suc i) x e = get_map f ys i x e

there_map : {X Y : Type 0} (f : X → Y) (xs : List X) (x : X) → Contains xs x → Contains (map f xs) (f x)
there_map f [] x h = absurd (let within = h.1 in omega (arith, within))
there_map f (y ∷ ys) x h = elim (there_cases y ys x h) [
  | inl is ↦ subst (λ (z : _). Contains (map f (y ∷ ys)) (f z)) is (there_first (f y) (map f ys))
  | inr more ↦ there_more (f y) (map f ys) (f x) (there_map f ys x more)
]

-- of items with distinct names, each name has one item
distinct_same : {X : Type 0} (f : X → List ℕ) (xs : List X) (x y : X) → AreDistinct (map f xs) → Contains xs x → Contains xs y → f x ≡ f y → x ≡ y
distinct_same f [] x y d h k e = absurd (let within = h.1 in omega (arith, within))
distinct_same f (z ∷ zs) x y d h k e = elim (there_cases z zs x h) [
  | inl one ↦ elim (there_cases z zs y k) [
    | inl two ↦ sym one ∙ two
    | inr more ↦ absurd (d.0 (subst (λ (n : List ℕ). Contains (map f zs) n) (sym e ∙ ap f (sym one)) (there_map f zs y more)))
  ]
  | inr more ↦ elim (there_cases z zs y k) [
    | inl two ↦ absurd (d.0 (subst (λ (n : List ℕ). Contains (map f zs) n) (e ∙ ap f (sym two)) (there_map f zs x more)))
    | inr others ↦ distinct_same f zs x y d.1 more others e
  ]
]

-- ---- positions

small_by : (b : Bool) (at x : ℕ) → Small x ≡ (if b then Small at else Large) → at ≡ x
small_by true at x e = cc
small_by false at x e = absurd cc

pub small_is : (at x : ℕ) → Small x ≡ in_64_bits at → at ≡ x
small_is at x e = small_by (nat_lt at (2 ^ 64)) at x e

large_by : (b : Bool) (at : ℕ) → Large ≡ (if b then Small at else Large) → b ≡ false
large_by true at e = absurd cc
large_by false at e = refl

pub large_is : (at : ℕ) → Large ≡ in_64_bits at → 2 ^ 64 ≤ at
large_is at e = ltb-false at (2 ^ 64) (large_by (nat_lt at (2 ^ 64)) at e)

-- ---- operations

pub none_from : (o : Option ℕ) → is_some o ≡ false → o ≡ None
none_from None e = refl
none_from (Some n) e = absurd cc

least : (r : Refusal) → refusal_rank r < 1 → ⊥
least (chains.no_such n) h = absurd (omega (arith, h))
least (chains.taken n) h = absurd (omega (arith, h))
least (chains.no_place n) h = absurd (omega (arith, h))
least (chains.full n) h = absurd (omega (arith, h))
least (chains.other_kind n) h = absurd (omega (arith, h))

later : (r q : Refusal) (n : ℕ) → r ≡ q → refusal_rank r < n → n ≤ refusal_rank q → ⊥
later r q n is less most = let e = ap refusal_rank is in absurd (omega (arith, e, less, most))

module _ (entries : List ChainEntry) (c : Chain) (kept : AreEntriesOf entries c) where
  place_same : (n : List ℕ) → position (λ e. bytes_eq e.name n) c.entries ≡ position (λ e. bytes_eq e.name.now n) entries
  place_same n =
      position_map (λ (e : Entry). (e.name, e.policy)) (λ k. bytes_eq k.0 n) c.entries
      ∙ ap (position (λ (k : List ℕ × Policy). bytes_eq k.0 n)) (sym kept)
      ∙ sym (position_map (λ (e : ChainEntry). (e.name.now, e.policy.now)) (λ k. bytes_eq k.0 n) entries)

  pub count_same : length entries ≡ length c.entries
  count_same =
      sym (length-map entries (λ e. (e.name.now, e.policy.now))) ∙ ap length kept ∙ length-map c.entries (λ e. (e.name, e.policy))

  lacks : (n : List ℕ) → position (λ e. bytes_eq e.name.now n) entries ≡ None → Contains (names_of c.entries) n → ⊥
  lacks n none h = naming.none_there (λ (e : Entry). e.name) n c.entries (place_same n ∙ none) h

  has : (n : List ℕ) → is_some (position (λ e. bytes_eq e.name.now n) entries) ≡ true → Contains (names_of c.entries) n
  has n some = naming.there (λ (e : Entry). e.name) n c.entries (ap is_some (place_same n) ∙ some)

  found : (n : List ℕ) (i : ℕ) → position (λ e. bytes_eq e.name.now n) entries ≡ Some i → naming.IsPlace (λ (e : Entry). e.name) n c.entries i
  found n i some = naming.place_is (λ (e : Entry). e.name) n c.entries i (place_same n ∙ some)

  pub within_kept : (n : List ℕ) (i : ℕ) → position (λ e. bytes_eq e.name.now n) entries ≡ Some i → i < length entries
  within_kept n i some = let within = (found n i some).within in omega (arith, within, count_same)

  pub at_kept : (n : List ℕ) (i : ℕ) (e : ChainEntry) → position (λ e. bytes_eq e.name.now n) entries ≡ Some i → e ≡ get_or entries i e
      → slice_get entries i ≡ Some e
  at_kept n i e some is = slice_get_read entries (length entries) i e refl (within_kept n i some) is

  -- ---- detaching

  pub detach_refused : (n : List ℕ) → position (λ e. bytes_eq e.name.now n) entries ≡ None
      → IsChangeOrRefusal c (op.Detach n) entries (Some reason.NoSuch)
  detach_refused n none = (
    chains.no_such n,
    record {
      against = chains.detaches_none n refl (lacks n none) refl;
      first = λ other less against. least other less;
    },
    refl,
  )

  detach_free : (n : List ℕ) (r : Refusal) → Contains (names_of c.entries) n → IsReasonToReject c.entries (op.Detach n) r → ⊥
  detach_free n r there (chains.detaches_none m is none why) =
      let same : n ≡ m = cc in none (subst (λ (x : List ℕ). Contains (names_of c.entries) x) same there)
  detach_free n r there (chains.upgrades_none m label p is none why) = absurd cc
  detach_free n r there (chains.is_taken at m label p is h why) = absurd cc
  detach_free n r there (chains.is_past at m label p is h why) = absurd cc
  detach_free n r there (chains.is_full at m label p is h why) = absurd cc
  detach_free n r there (chains.is_other m label p e is h named kind why) = absurd cc

  pub detached : (n : List ℕ) (i : ℕ) → position (λ e. bytes_eq e.name.now n) entries ≡ Some i
      → IsChangeOrRefusal c (op.Detach n) (remove entries i) None
  detached n i some =
      let at = found n i some in
      let there = has n (ap is_some some) in (
        record { entries = remove c.entries i; attached = c.attached },
        record {
          free = λ r against. detach_free n r there against;
          effect = chains.detaches n at.item (take i c.entries) (drop (suc i) c.entries) refl (split_at c.entries i at.item at.at) at.same refl;
        },
        kept_without i,
      )
    where
      kept_without : (i : ℕ) → outline_policies (remove entries i) ≡ map (λ (e : Entry). (e.name, e.policy)) (remove c.entries i)
      kept_without i =
          map_two (λ (e : ChainEntry). (e.name.now, e.policy.now)) i (suc i) entries
          ∙ ap (λ (ks : List (List ℕ × Policy)). take i ks ++ drop (suc i) ks) kept
          ∙ sym (map_two (λ (e : Entry). (e.name, e.policy)) i (suc i) c.entries)

  -- ---- attaching

  pub attach_taken : (at : ℕ) (n label : List ℕ) (p : Policy) → is_some (position (λ e. bytes_eq e.name.now n) entries) ≡ true
      → IsChangeOrRefusal c (op.Attach at n label p) entries (Some reason.Taken)
  attach_taken at n label p some = (
    chains.taken n,
    record {
      against = chains.is_taken at n label p refl (has n some) refl;
      first = λ other less against. elim against [
        | chains.detaches_none m is none why ↦ absurd cc
        | chains.upgrades_none m l q is none why ↦ absurd cc
        | chains.is_taken a m l q is h why ↦ later other (chains.taken m) 2 why less (omega arith)
        | chains.is_past a m l q is h why ↦ later other (chains.no_place a) 2 why less (omega arith)
        | chains.is_full a m l q is h why ↦ later other (chains.full (length c.entries)) 2 why less (omega arith)
        | chains.is_other m l q e is h named kind why ↦ absurd cc
      ];
    },
    refl,
  )

  pub attach_past : (at : ℕ) (n label : List ℕ) (p : Policy) → position (λ e. bytes_eq e.name.now n) entries ≡ None → length entries < at
      → IsChangeOrRefusal c (op.Attach at n label p) entries (Some reason.At)
  attach_past at n label p none past = (
    chains.no_place at,
    record {
      against = chains.is_past at n label p refl (omega (arith, past, count_same)) refl;
      first = λ other less against. elim against [
        | chains.detaches_none m is none' why ↦ absurd cc
        | chains.upgrades_none m l q is none' why ↦ absurd cc
        | chains.is_taken a m l q is h why ↦ (let same : n ≡ m = cc in lacks n none (subst (λ (x : List ℕ). Contains (names_of c.entries) x) (sym same) h))
        | chains.is_past a m l q is h why ↦ later other (chains.no_place a) 3 why less (omega arith)
        | chains.is_full a m l q is h why ↦ later other (chains.full (length c.entries)) 3 why less (omega arith)
        | chains.is_other m l q e is h named kind why ↦ absurd cc
      ];
    },
    refl,
  )

  attach_free : (at : ℕ) (n label : List ℕ) (p : Policy) (r : Refusal) → (Contains (names_of c.entries) n → ⊥) → at ≤ length c.entries
      → length c.entries < 8 → IsReasonToReject c.entries (op.Attach at n label p) r → ⊥
  attach_free at n label p r none within few (chains.detaches_none m is h why) = absurd cc
  attach_free at n label p r none within few (chains.upgrades_none m l q is h why) = absurd cc
  attach_free at n label p r none within few (chains.is_taken a m l q is h why) =
      let same : n ≡ m = cc in none (subst (λ (x : List ℕ). Contains (names_of c.entries) x) (sym same) h)
  attach_free at n label p r none within few (chains.is_past a m l q is h why) = (let same : at ≡ a = cc in absurd (omega (arith, same, within, h)))
  attach_free at n label p r none within few (chains.is_full a m l q is h why) = absurd (omega (arith, few, h))
  attach_free at n label p r none within few (chains.is_other m l q e is h named kind why) = absurd cc

  pub attach_full : (at : ℕ) (n label : List ℕ) (p : Policy) → position (λ e. bytes_eq e.name.now n) entries ≡ None → at ≤ length entries
      → 8 ≤ length entries → IsChangeOrRefusal c (op.Attach at n label p) entries (Some reason.ChainFull)
  attach_full at n label p none within many = (
    chains.full (length c.entries),
    record {
      against = chains.is_full at n label p refl (omega (arith, many, count_same)) refl;
      first = λ other less against. elim against [
        | chains.detaches_none m is none' why ↦ absurd cc
        | chains.upgrades_none m l q is none' why ↦ absurd cc
        | chains.is_taken a m l q is h why ↦ (let same : n ≡ m = cc in lacks n none (subst (λ (x : List ℕ). Contains (names_of c.entries) x) (sym same) h))
        | chains.is_past a m l q is h why ↦ (let same : at ≡ a = cc in absurd (omega (arith, same, within, h, count_same)))
        | chains.is_full a m l q is h why ↦ later other (chains.full (length c.entries)) 4 why less (omega arith)
        | chains.is_other m l q e is h named kind why ↦ absurd cc
      ];
    },
    refl,
  )

  pub attached : (at : ℕ) (n label : List ℕ) (p : Policy) (e : ChainEntry) → e.name.now ≡ n → e.policy.now ≡ p
      → position (λ e. bytes_eq e.name.now n) entries ≡ None → at ≤ length entries → length entries < 8
      → IsChangeOrRefusal c (op.Attach at n label p) (insert entries at e) None
  attached at n label p e name policy none within few = (
    record { entries = take at c.entries ++ new_entry n (c.attached + 1) p ∷ drop at c.entries; attached = c.attached + 1 },
    record {
      free = λ r against. attach_free at n label p r (lacks n none) (omega (arith, within, count_same)) (omega (arith, few, count_same)) against;
      effect = chains.attaches at n label p (take at c.entries) (drop at c.entries) refl (sym (take-append-drop at c.entries))
          (length-take-le at c.entries (omega (arith, within, count_same))) refl;
    },
    map_three (λ (x : ChainEntry). (x.name.now, x.policy.now)) at at entries e ∙ ap (λ (k : List ℕ × Policy). take at (outline_policies entries) ++ k ∷ drop at (outline_policies entries)) pair
        ∙ ap (λ (ks : List (List ℕ × Policy)). take at ks ++ (n, p) ∷ drop at ks) kept
        ∙ sym (map_three (λ (x : Entry). (x.name, x.policy)) at at c.entries (new_entry n (c.attached + 1) p)),
  )
    where
      pair : ◌≡◌ {A = List ℕ × Policy} (e.name.now, e.policy.now) (n, p)
      pair = ap (λ (x : List ℕ). (x, e.policy.now)) name ∙ ap (λ (x : Policy). (n, x)) policy

  -- ---- upgrading

  pub upgrade_refused : (n label : List ℕ) (p : Policy) → position (λ e. bytes_eq e.name.now n) entries ≡ None
      → IsChangeOrRefusal c (op.Upgrade n label p) entries (Some reason.NoSuch)
  upgrade_refused n label p none = (
    chains.no_such n,
    record {
      against = chains.upgrades_none n label p refl (lacks n none) refl;
      first = λ other less against. least other less;
    },
    refl,
  )

  same_entry : (n : List ℕ) (i : ℕ) (e : ChainEntry) (some : position (λ e. bytes_eq e.name.now n) entries ≡ Some i)
      → slice_get entries i ≡ Some e → e.policy.now ≡ (found n i some).item.policy
  same_entry n i e some at =
      let here = get_map (λ (x : ChainEntry). (x.name.now, x.policy.now)) entries i e at in
      let there = get_map (λ (x : Entry). (x.name, x.policy)) c.entries i (found n i some).item (found n i some).at in
      let same = same_Some _ _ (sym here ∙ ap (λ (ks : List (List ℕ × Policy)). slice_get ks i) kept ∙ there) in
      ap (λ (k : List ℕ × Policy). k.1) same

  pub upgrade_other : (n label : List ℕ) (p : Policy) (i : ℕ) (e : ChainEntry) → position (λ e. bytes_eq e.name.now n) entries ≡ Some i
      → slice_get entries i ≡ Some e → is_same_kind e.policy.now p ≡ false
      → IsChangeOrRefusal c (op.Upgrade n label p) entries (Some reason.OtherKind)
  upgrade_other n label p i e some at other_kind =
      let here = found n i some in
      let there = has n (ap is_some some) in (
        chains.other_kind n,
        record {
          against = chains.is_other n label p here.item refl (get_there c.entries i here.item here.at) here.same
              (ap (λ (q : Policy). is_same_kind q p) (sym (same_entry n i e some at)) ∙ other_kind) refl;
          first = λ other less against. elim against [
            | chains.detaches_none m is none why ↦ absurd cc
            | chains.upgrades_none m l q is none why ↦ (let same : n ≡ m = cc in none (subst (λ (x : List ℕ). Contains (names_of c.entries) x) same there))
            | chains.is_taken a m l q is h why ↦ absurd cc
            | chains.is_past a m l q is h why ↦ absurd cc
            | chains.is_full a m l q is h why ↦ absurd cc
            | chains.is_other m l q f is h named kind why ↦ later other (chains.other_kind m) 5 why less (omega arith)
          ];
        },
        refl,
      )

  upgrade_free : IsChain c → (n label : List ℕ) (p : Policy) (item : Entry) (r : Refusal) → Contains c.entries item → item.name ≡ n
      → is_same_kind item.policy p ≡ true → IsReasonToReject c.entries (op.Upgrade n label p) r → ⊥
  upgrade_free sound n label p item r there named kind (chains.detaches_none m is h why) = absurd cc
  upgrade_free sound n label p item r there named kind (chains.upgrades_none m l q is none why) =
      let same : n ≡ m = cc in
      none (subst (λ (x : List ℕ). Contains (names_of c.entries) x) (named ∙ same) (there_map (λ (e : Entry). e.name) c.entries item there))
  upgrade_free sound n label p item r there named kind (chains.is_taken a m l q is h why) = absurd cc
  upgrade_free sound n label p item r there named kind (chains.is_past a m l q is h why) = absurd cc
  upgrade_free sound n label p item r there named kind (chains.is_full a m l q is h why) = absurd cc
  upgrade_free sound n label p item r there named kind (chains.is_other m l q e is h named' other why) =
      let same : n ≡ m = cc in
      let policies : p ≡ q = cc in
      let one = distinct_same (λ (x : Entry). x.name) c.entries e item sound.names h there (named' ∙ sym same ∙ sym named) in
      both_ways (is_same_kind item.policy p) (ap (λ (x : Entry). is_same_kind x.policy p) (sym one) ∙ ap (is_same_kind e.policy) policies ∙ other) kind

  pub upgraded_to : IsChain c → (n label : List ℕ) (p : Policy) (i : ℕ) (e f : ChainEntry) → position (λ e. bytes_eq e.name.now n) entries ≡ Some i
      → slice_get entries i ≡ Some e → is_same_kind e.policy.now p ≡ true → f.name.now ≡ e.name.now → f.policy.now ≡ p
      → IsChangeOrRefusal c (op.Upgrade n label p) (set entries i f) None
  upgraded_to sound n label p i e f some at kind name policy =
      let here = found n i some in
      let fits = ap (λ (q : Policy). is_same_kind q p) (sym (same_entry n i e some at)) ∙ kind in (
        record { entries = take i c.entries ++ upgraded here.item p ∷ drop (suc i) c.entries; attached = c.attached },
        record {
          free = λ r against. upgrade_free sound n label p here.item r (get_there c.entries i here.item here.at) here.same fits against;
          effect = chains.upgrades n label p here.item (take i c.entries) (drop (suc i) c.entries) refl (split_at c.entries i here.item here.at) here.same refl;
        },
        kept_with here.item here.at,
      )
    where
      within : i < length entries
      within = omega (arith, (found n i some).within, count_same)

      same_pair : (item : Entry) → slice_get c.entries i ≡ Some item → ◌≡◌ {A = List ℕ × Policy} (f.name.now, f.policy.now) (item.name, p)
      same_pair item there =
          let one = get_map (λ (x : ChainEntry). (x.name.now, x.policy.now)) entries i e at in
          let two = get_map (λ (x : Entry). (x.name, x.policy)) c.entries i item there in
          let same = same_Some _ _ (sym one ∙ ap (λ (ks : List (List ℕ × Policy)). slice_get ks i) kept ∙ two) in
          ap (λ (x : List ℕ). (x, f.policy.now)) (name ∙ ap (λ (k : List ℕ × Policy). k.0) same) ∙ ap (λ (x : Policy). (item.name, x)) policy

      kept_with : (item : Entry) → slice_get c.entries i ≡ Some item
          → outline_policies (set entries i f) ≡ map (λ (x : Entry). (x.name, x.policy)) (take i c.entries ++ upgraded item p ∷ drop (suc i) c.entries)
      kept_with item there =
          ap outline_policies (set_split entries i f within)
          ∙ map_three (λ (x : ChainEntry). (x.name.now, x.policy.now)) i (suc i) entries f
          ∙ ap (λ (k : List ℕ × Policy). take i (outline_policies entries) ++ k ∷ drop (suc i) (outline_policies entries)) (same_pair item there)
          ∙ ap (λ (ks : List (List ℕ × Policy)). take i ks ++ (item.name, p) ∷ drop (suc i) ks) kept
          ∙ sym (map_three (λ (x : Entry). (x.name, x.policy)) i (suc i) c.entries (upgraded item p))
