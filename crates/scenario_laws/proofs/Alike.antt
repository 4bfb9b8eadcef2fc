-- Chains that differ only in their policies, but not in the policies' sorts, apply and refuse the same operations.
use Rattle.std.proofs.Common.{◌≡◌, ◌⊎◌, ℕ, zero, suc, ◌+◌, Bool, true, false, not, cond, if◌then◌else◌, List, [], ◌∷◌}
use Rattle.std.proofs.Common.{◌++◌, length, map, filter, take, drop, Contains, refl, sym, ap, ◌∙◌, subst, inl, inr}
use Rattle.std.proofs.Common.{arith, bytes_eq}
use Rattle.std.proofs.lemmas.Bool.{cases_Bool}
use Rattle.std.proofs.lemmas.List.{length-map, map-append, take-map}
use Rattle.engine_core.specs.Chains.{Chain, HasChanged, Entry, IsReasonToReject, IsChain, Refusal, IsRejection, changed, names_of}
use Rattle.engine_core.specs.Chains as chains
use Rattle.engine_core.specs.Policies.{is_same_kind}
use Rattle.engine_core.specs.declared.op.Op.{Op}
use Rattle.engine_core.specs.declared.op.Op.TheVariants as op
use Rattle.engine_core.specs.declared.policy.Policy.{Policy}
use Rattle.run_plan.specs.Chains.{IsChangedBy}
use Rattle.scenario.specs.Applications.{IsFirstRefusedOp}
use Rattle.scenario_lines.specs.Programs.{Each}
use Rattle.scenario_laws.proofs.Lists.{there_map, there_unmap}
use Rattle.scenario_laws.proofs.Sorts.{PolicySort, same_kinds, sort_of}

-- ---- the laws of chains in use

pub record Laws : Type 0 where
  pub either : (before : Chain) (o : Op) → IsChain before → ((after : Chain) × HasChanged before o after) ⊎ ((refusal : Refusal) × IsRejection before o refusal)
  pub stays : (before after : Chain) (o : Op) → IsChain before → HasChanged before o after → IsChain after
  pub only : (before after : Chain) (o : Op) → IsChain before → HasChanged before o after → after ≡ changed o before
  pub unless_refused : (before : Chain) (o : Op) → IsChain before → ((refusal : Refusal) → IsRejection before o refusal → ⊥) → HasChanged before o (changed o before)

-- ---- a chain without its policies

abbrev pub seen_of : List Entry → List (List ℕ × PolicySort)
seen_of entries = map (λ e. (e.name, sort_of e.policy)) entries

-- operations that differ only in their policies, but not in the policies' sorts
pub data AreAlike (o o' : Op) : Type 0 where
  attaches : (at : ℕ) (n l l' : List ℕ) (p p' : Policy) → sort_of p ≡ sort_of p' → o ≡ op.Attach at n l p → o' ≡ op.Attach at n l' p' → AreAlike o o'
  detaches : (n : List ℕ) → o ≡ op.Detach n → o' ≡ op.Detach n → AreAlike o o'
  upgrades : (n l l' : List ℕ) (p p' : Policy) → sort_of p ≡ sort_of p' → o ≡ op.Upgrade n l p → o' ≡ op.Upgrade n l' p' → AreAlike o o'

-- ---- lists

drop_map : {X Y : Type 0} (f : X → Y) (n : ℕ) (xs : List X) → drop n (map f xs) ≡ map f (drop n xs)
drop_map f zero xs = refl
drop_map f (suc n) [] = refl
drop_map f (suc n) (x ∷ xs) = drop_map f n xs

map_three : {X Y : Type 0} (f : X → Y) (m n : ℕ) (xs : List X) (x : X) → map f (take m xs ++ x ∷ drop n xs) ≡ take m (map f xs) ++ f x ∷ drop n (map f xs)
map_three f m n xs x =
    map-append f (take m xs) (x ∷ drop n xs)
    ∙ ap (λ z. z ++ f x ∷ map f (drop n xs)) (sym (take-map f m xs))
    ∙ ap (λ z. take m (map f xs) ++ f x ∷ z) (sym (drop_map f n xs))

map_filter : {X Y : Type 0} (f : X → Y) (p : Y → Bool) (xs : List X) → map f (filter (λ x. p (f x)) xs) ≡ filter p (map f xs)
map_filter f p [] = refl
map_filter {X = X} {Y = Y} f p (x ∷ xs) = elim (cases_Bool (p (f x))) [
  | inl is ↦
      ap (λ (b : Bool). map f (cond b (x ∷ filter (λ (z : X). p (f z)) xs) (filter (λ (z : X). p (f z)) xs))) is
      ∙ ap (λ (ys : List Y). f x ∷ ys) (map_filter f p xs)
      ∙ sym (ap (λ (b : Bool). cond b (f x ∷ filter p (map f xs)) (filter p (map f xs))) is)
  | inr isnt ↦
      ap (λ (b : Bool). map f (cond b (x ∷ filter (λ (z : X). p (f z)) xs) (filter (λ (z : X). p (f z)) xs))) isnt
      ∙ map_filter f p xs
      ∙ sym (ap (λ (b : Bool). cond b (f x ∷ filter p (map f xs)) (filter p (map f xs))) isnt)
]

map_map : {X Y : Type 0} (f : X → Y) (g : X → X) (h : Y → Y) → ((x : X) → f (g x) ≡ h (f x)) → (xs : List X) → map f (map g xs) ≡ map h (map f xs)
map_map f g h same [] = refl
map_map {Y = Y} f g h same (x ∷ xs) = ap (λ (y : Y). y ∷ map f (map g xs)) (same x) ∙ ap (λ (ys : List Y). h (f x) ∷ ys) (map_map f g h same xs)

-- ---- the effect of an operation

with_sort : List ℕ → PolicySort → List ℕ × PolicySort → List ℕ × PolicySort
with_sort n s k = if bytes_eq k.0 n then (k.0, s) else k

upgraded_seen : (n : List ℕ) (p : Policy) (e : Entry)
    → ◌≡◌ {A = List ℕ × PolicySort} ((if chains.is_named n e then chains.upgraded e p else e).name, sort_of (if chains.is_named n e then chains.upgraded e p else e).policy)
    (with_sort n (sort_of p) (e.name, sort_of e.policy))
unfolding with_sort
upgraded_seen n p e = named (bytes_eq e.name n)
  where
    named : (b : Bool) → ◌≡◌ {A = List ℕ × PolicySort} ((if b then chains.upgraded e p else e).name, sort_of (if b then chains.upgraded e p else e).policy)
        (if b then (e.name, sort_of p) else (e.name, sort_of e.policy))
    named true = refl
    named false = refl

seen_attached : (at k : ℕ) (n : List ℕ) (p : Policy) (es : List Entry)
    → seen_of (take at es ++ chains.new_entry n k p ∷ drop at es) ≡ take at (seen_of es) ++ (n, sort_of p) ∷ drop at (seen_of es)
seen_attached at k n p es = map_three (λ (e : Entry). (e.name, sort_of e.policy)) at at es (chains.new_entry n k p)

seen_detached : (n : List ℕ) (es : List Entry) → seen_of (filter (λ e. not (chains.is_named n e)) es) ≡ filter (λ s. not (bytes_eq s.0 n)) (seen_of es)
seen_detached n es = map_filter (λ (e : Entry). (e.name, sort_of e.policy)) (λ (s : List ℕ × PolicySort). not (bytes_eq s.0 n)) es

seen_upgraded : (n : List ℕ) (p : Policy) (es : List Entry)
    → seen_of (map (λ e. if chains.is_named n e then chains.upgraded e p else e) es) ≡ map (with_sort n (sort_of p)) (seen_of es)
seen_upgraded n p es =
    map_map (λ (e : Entry). (e.name, sort_of e.policy)) (λ (e : Entry). if chains.is_named n e then chains.upgraded e p else e) (with_sort n (sort_of p))
    (upgraded_seen n p) es

module _ (c c' : Chain) (same : seen_of c.entries ≡ seen_of c'.entries) where
  changed_alike : (o o' : Op) → AreAlike o o' → seen_of (changed o c).entries ≡ seen_of (changed o' c').entries
  changed_alike o o' (attaches at n l l' p p' sorts is is') =
      ap (λ (x : Op). seen_of (changed x c).entries) is
      ∙ seen_attached at (c.attached + 1) n p c.entries
      ∙ ap (λ (ks : List (List ℕ × PolicySort)). take at ks ++ (n, sort_of p) ∷ drop at ks) same
      ∙ ap (λ (s : PolicySort). take at (seen_of c'.entries) ++ (n, s) ∷ drop at (seen_of c'.entries)) sorts
      ∙ sym (seen_attached at (c'.attached + 1) n p' c'.entries)
      ∙ sym (ap (λ (x : Op). seen_of (changed x c').entries) is')
  changed_alike o o' (detaches n is is') =
      ap (λ (x : Op). seen_of (changed x c).entries) is
      ∙ seen_detached n c.entries
      ∙ ap (filter (λ (s : List ℕ × PolicySort). not (bytes_eq s.0 n))) same
      ∙ sym (seen_detached n c'.entries)
      ∙ sym (ap (λ (x : Op). seen_of (changed x c').entries) is')
  changed_alike o o' (upgrades n l l' p p' sorts is is') =
      ap (λ (x : Op). seen_of (changed x c).entries) is
      ∙ seen_upgraded n p c.entries
      ∙ ap (map (with_sort n (sort_of p))) same
      ∙ ap (λ (s : PolicySort). map (with_sort n s) (seen_of c'.entries)) sorts
      ∙ sym (seen_upgraded n p' c'.entries)
      ∙ sym (ap (λ (x : Op). seen_of (changed x c').entries) is')

  -- ---- refusals of an operation

  names_same : names_of c.entries ≡ names_of c'.entries
  names_same =
      sym (map_names c.entries) ∙ ap (map (λ (s : List ℕ × PolicySort). s.0)) same ∙ map_names c'.entries
    where
      map_names : (es : List Entry) → map (λ (s : List ℕ × PolicySort). s.0) (seen_of es) ≡ names_of es
      map_names [] = refl
      map_names (e ∷ es) = ap (λ (ns : List (List ℕ)). e.name ∷ ns) (map_names es)

  count_same : length c.entries ≡ length c'.entries
  count_same =
      sym (length-map c.entries (λ e. (e.name, sort_of e.policy))) ∙ ap length same ∙ length-map c'.entries (λ e. (e.name, sort_of e.policy))

  named_to : (n : List ℕ) → Contains (names_of c.entries) n → Contains (names_of c'.entries) n
  named_to n h = subst (λ (ns : List (List ℕ)). Contains ns n) names_same h

  named_from : (n : List ℕ) → Contains (names_of c'.entries) n → Contains (names_of c.entries) n
  named_from n h = subst (λ (ns : List (List ℕ)). Contains ns n) (sym names_same) h

  -- an entry of the other chain has one here with its name and sort
  entry_from : (e : Entry) → Contains c'.entries e → (f : Entry) × Contains c.entries f × (f.name ≡ e.name) × (sort_of f.policy ≡ sort_of e.policy)
  entry_from e h =
      let seen : Entry → List ℕ × PolicySort = λ x. (x.name, sort_of x.policy) in
      let there = subst (λ (ks : List (List ℕ × PolicySort)). Contains ks (seen e)) (sym same) (there_map seen c'.entries e h) in
      let f = there_unmap seen c.entries (seen e) there in
      (f.0, f.1, ap (λ (k : List ℕ × PolicySort). k.0) f.2, ap (λ (k : List ℕ × PolicySort). k.1) f.2)

  -- a refusal of the other operation is one of this operation
  against_alike : (o o' : Op) (r : Refusal) → AreAlike o o' → IsReasonToReject c'.entries o' r → (q : Refusal) × IsReasonToReject c.entries o q
  against_alike o o' r (attaches at n l l' p p' sorts is is') h = elim h [
    | chains.detaches_none m e none why ↦ absurd (let no : op.Attach at n l' p' ≡ op.Detach m = sym is' ∙ e in cc)
    | chains.upgrades_none m k q e none why ↦ absurd (let no : op.Attach at n l' p' ≡ op.Upgrade m k q = sym is' ∙ e in cc)
    | chains.is_taken a m k q e there why ↦
        let name : n ≡ m = (let both : op.Attach at n l' p' ≡ op.Attach a m k q = sym is' ∙ e in cc) in
        (chains.taken n, chains.is_taken at n l p is (named_from n (subst (λ (x : List ℕ). Contains (names_of c'.entries) x) (sym name) there)) refl)
    | chains.is_past a m k q e past why ↦
        let place : at ≡ a = (let both : op.Attach at n l' p' ≡ op.Attach a m k q = sym is' ∙ e in cc) in
        (chains.no_place at, chains.is_past at n l p is (omega (arith, past, place, count_same)) refl)
    | chains.is_full a m k q e many why ↦ (chains.full (length c.entries), chains.is_full at n l p is (omega (arith, many, count_same)) refl)
    | chains.is_other m k q f e there named kind why ↦ absurd (let no : op.Attach at n l' p' ≡ op.Upgrade m k q = sym is' ∙ e in cc)
  ]
  against_alike o o' r (detaches n is is') h = elim h [
    | chains.detaches_none m e none why ↦
        let name : n ≡ m = (let both : op.Detach n ≡ op.Detach m = sym is' ∙ e in cc) in
        (chains.no_such n, chains.detaches_none n is (λ there. none (subst (λ (x : List ℕ). Contains (names_of c'.entries) x) name (named_to n there))) refl)
    | chains.upgrades_none m k q e none why ↦ absurd (let no : op.Detach n ≡ op.Upgrade m k q = sym is' ∙ e in cc)
    | chains.is_taken a m k q e there why ↦ absurd (let no : op.Detach n ≡ op.Attach a m k q = sym is' ∙ e in cc)
    | chains.is_past a m k q e past why ↦ absurd (let no : op.Detach n ≡ op.Attach a m k q = sym is' ∙ e in cc)
    | chains.is_full a m k q e many why ↦ absurd (let no : op.Detach n ≡ op.Attach a m k q = sym is' ∙ e in cc)
    | chains.is_other m k q f e there named kind why ↦ absurd (let no : op.Detach n ≡ op.Upgrade m k q = sym is' ∙ e in cc)
  ]
  against_alike o o' r (upgrades n l l' p p' sorts is is') h = elim h [
    | chains.detaches_none m e none why ↦ absurd (let no : op.Upgrade n l' p' ≡ op.Detach m = sym is' ∙ e in cc)
    | chains.upgrades_none m k q e none why ↦
        let name : n ≡ m = (let both : op.Upgrade n l' p' ≡ op.Upgrade m k q = sym is' ∙ e in cc) in
        (chains.no_such n, chains.upgrades_none n l p is (λ there. none (subst (λ (x : List ℕ). Contains (names_of c'.entries) x) name (named_to n there))) refl)
    | chains.is_taken a m k q e there why ↦ absurd (let no : op.Upgrade n l' p' ≡ op.Attach a m k q = sym is' ∙ e in cc)
    | chains.is_past a m k q e past why ↦ absurd (let no : op.Upgrade n l' p' ≡ op.Attach a m k q = sym is' ∙ e in cc)
    | chains.is_full a m k q e many why ↦ absurd (let no : op.Upgrade n l' p' ≡ op.Attach a m k q = sym is' ∙ e in cc)
    | chains.is_other m k q f e there named kind why ↦
        let both : op.Upgrade n l' p' ≡ op.Upgrade m k q = sym is' ∙ e in
        let name : n ≡ m = cc in
        let policy : p' ≡ q = cc in
        let g = entry_from f there in
        let kinds : is_same_kind g.0.policy p ≡ is_same_kind f.policy q =
        same_kinds g.0.policy p f.policy q g.3 (sorts ∙ ap sort_of policy) in
        (chains.other_kind n, chains.is_other n l p g.0 is g.1 (g.2 ∙ named ∙ sym name) (kinds ∙ kind) refl)
  ]

-- ---- operations one after another

module _ (laws : Laws) where
  -- operations of which none is refused all change the chain
  pub walk : (start : Chain) (ops : List Op) → IsChain start → ((r : Refusal) → IsFirstRefusedOp start ops r → ⊥) → (after : Chain) × IsChangedBy start ops after
  walk start [] sound none = (start, refl)
  walk start (o ∷ ops) sound none = elim (laws.either start o sound) [
    | inl made ↦
        let rest = walk made.0 ops (laws.stays start made.0 o sound made.1) (λ r f. none r (record {
          front = o ∷ f.front;
          step = f.step;
          back = f.back;
          whole = ap (λ (xs : List Op). o ∷ xs) f.whole;
          before = f.before;
          change = (made.0, made.1, f.change);
          refuses = f.refuses;
        })) in
        (rest.0, (made.0, made.1, rest.1))
    | inr refused ↦
        absurd (none refused.0 (record { front = []; step = o; back = ops; whole = refl; before = start; change = refl; refuses = refused.1 }))
  ]

  pub changing_sound : (a b : Chain) (xs : List Op) → IsChain a → IsChangedBy a xs b → IsChain b
  changing_sound a b [] sound same = subst IsChain (sym same) sound
  changing_sound a b (x ∷ xs) sound h = changing_sound h.0 b xs (laws.stays a h.0 x sound h.1) h.2

  pub follow : (c c' : Chain) (ops ops' : List Op) (after : Chain) → IsChain c → IsChain c' → seen_of c.entries ≡ seen_of c'.entries
      → Each AreAlike ops ops' → IsChangedBy c ops after → (after' : Chain) × IsChangedBy c' ops' after'
  follow c c' [] [] after sound sound' same alike change = (c', refl)
  follow c c' [] (o' ∷ ops') after sound sound' same alike change = absurd alike
  follow c c' (o ∷ ops) [] after sound sound' same alike change = absurd alike
  follow c c' (o ∷ ops) (o' ∷ ops') after sound sound' same alike change =
      let made = laws.unless_refused c' o' sound' (λ r refused.
      let q = against_alike c c' same o o' r alike.0 refused.against in
      change.1.free q.0 q.1) in
      let is = laws.only c change.0 o sound change.1 in
      let next = ap (λ (x : Chain). seen_of x.entries) is ∙ changed_alike c c' same o o' alike.0 in
      let rest = follow change.0 (changed o' c') ops ops' after (laws.stays c change.0 o sound change.1) (laws.stays c' (changed o' c') o' sound' made) next
      alike.1 change.2 in
      (rest.0, (changed o' c', made, rest.1))

pub changing_append : (a b c : Chain) (xs ys : List Op) → IsChangedBy a xs b → IsChangedBy b ys c → IsChangedBy a (xs ++ ys) c
changing_append a b c [] ys h k = subst (λ (x : Chain). IsChangedBy x ys c) h k
changing_append a b c (x ∷ xs) ys h k = (h.0, h.1, changing_append h.0 b c xs ys h.2 k)
