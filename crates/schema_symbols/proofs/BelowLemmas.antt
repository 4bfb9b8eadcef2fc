-- The names directly below scopes.
use Rattle.std.proofs.Common.{◌≡◌, ℕ, ◌+◌, ◌-◌, ◌<◌, ◌≤◌, ◌⊎◌, ⊎_elim, inl, inr, Bool, true, false, cond, set}
use Rattle.std.proofs.Common.{length-set, get_or-set_same, get_or-set_other, List, [], ◌∷◌, ◌++◌, length, take}
use Rattle.std.proofs.Common.{get_or, Some, refl, ap, sym, ◌∙◌, subst, arith, length-append}
use Rattle.std.specs.Prelude.{slice_get, ◌==◌, Contains}
use Rattle.std.proofs.lemmas.Bool.{cases_lt, cases_eq, eqb-true}
use Rattle.std.proofs.lemmas.List.{append_assoc, take_at, take_all, length-take-le, get_or_default, get_or_append_left, get_or_at, length_push}
use Rattle.std.proofs.lemmas.List.Elements.{Contains-push_cases, Contains-append_left, Contains-push}
use Rattle.std.proofs.lemmas.Option.{slice_get_within, slice_get-get_or, get_or_from_slice_get}
use Rattle.std.specs.Global.{Vec}
use Rattle.proto_ast.specs.Joined.{Joined, package_at, enclosing_of, enclosing_of_enum}
use Rattle.proto_ast.specs.declared.file.Span.{Span}
use Rattle.proto_ast.specs.declared.joined.Enclosing.{Enclosing}
use Rattle.proto_ast.specs.declared.joined.Enclosing.TheVariants as home
use Rattle.schema_symbols.specs.Scopes.{IsScope, of_file}
use Rattle.schema_symbols.specs.Numbers.{AreWellNested, IsEnclosing, IsScopeNumber, IsSymbolAt, message, enum}
use Rattle.schema_symbols.specs.Below.{with_prefix, is_one, IsKnownBelow, KnowsMore, KnowsPackage, KnowsBelow, HasOnlyNextPart, IsBusyFrom, IsBusy, AreBusy}
use Rattle.schema_symbols.specs.declared.symbol.Symbol.{Symbol}
use Rattle.schema_symbols.specs.declared.below.KnownBelow.{KnownBelow}
use Rattle.schema_symbols.specs.declared.below.KnownBelow.TheVariants.{Nothing, One, Several}
use Rattle.schema_symbols.proofs.ScopeLemmas.{last_same, some_at, scope_one, number_full, message_place, enum_place}
use Rattle.schema_symbols.proofs.NumberLemmas.{front_more}

-- ---- more is known

at_same : (b : Bool) (other scope s : ℕ) → (other == scope) ≡ b → other ≡ s → IsKnownBelow (cond b (One other) Several) s
at_same true other scope s e same = same
at_same false other scope s e same = tt

pub with_has : (b : KnownBelow) (scope s : ℕ) → IsKnownBelow b s → IsKnownBelow (with_prefix b scope) s
with_has Nothing scope s h = absurd h
with_has (One other) scope s h = at_same (other == scope) other scope s refl h
with_has Several scope s h = tt

at_new : (b : Bool) (other scope : ℕ) → (other == scope) ≡ b → IsKnownBelow (cond b (One other) Several) scope
at_new true other scope e = eqb-true other scope e
at_new false other scope e = tt

pub with_new : (b : KnownBelow) (scope : ℕ) → IsKnownBelow (with_prefix b scope) scope
with_new Nothing scope = refl
with_new (One other) scope = at_new (other == scope) other scope refl
with_new Several scope = tt

pub with_several : (b : KnownBelow) (scope : ℕ) → b ≡ Several → with_prefix b scope ≡ Several
with_several b scope e = ap (λ (q : KnownBelow). with_prefix q scope) e

pub grows_more : {xs ys zs : List KnownBelow} → KnowsMore xs ys → KnowsMore ys zs → KnowsMore xs zs
grows_more g h = record {
  same_length = h.same_length ∙ g.same_length;
  has = λ k s x. h.has k s (g.has k s x);
  several = λ k e. h.several k (g.several k e);
}

set_cases : (xs : List KnownBelow) (i k : ℕ) (b : KnownBelow) → i < length xs → ((k ≡ i) × (get_or (set xs i b) k Nothing ≡ b)) ⊎ (get_or (set xs i b) k Nothing ≡ get_or xs k Nothing)
set_cases xs i k b l =
    ⊎_elim
    (λ (e : k ≡ i). inl (e, subst (λ (j : ℕ). get_or (set xs i b) j Nothing ≡ b) (sym e) (get_or-set_same xs i b Nothing l)))
    (λ (ne : k ≡ i → ⊥). inr (get_or-set_other xs i k b Nothing ne))
    (cases_eq k i)

pub grows_set : (xs : List KnownBelow) (i : ℕ) (b : KnownBelow) → i < length xs
    → ((s : ℕ) → IsKnownBelow (get_or xs i Nothing) s → IsKnownBelow b s) → (get_or xs i Nothing ≡ Several → b ≡ Several)
    → KnowsMore xs (set xs i b)
grows_set xs i b l has several = record {
  same_length = length-set xs i b;
  has = λ k s h.
      ⊎_elim
      (λ (at : (k ≡ i) × (get_or (set xs i b) k Nothing ≡ b)).
      subst (λ (q : KnownBelow). IsKnownBelow q s) (sym at.1) (has s (subst (λ (j : ℕ). IsKnownBelow (get_or xs j Nothing) s) at.0 h)))
      (λ (same : get_or (set xs i b) k Nothing ≡ get_or xs k Nothing). subst (λ (q : KnownBelow). IsKnownBelow q s) (sym same) h)
      (set_cases xs i k b l);
  several = λ k e.
      ⊎_elim
      (λ (at : (k ≡ i) × (get_or (set xs i b) k Nothing ≡ b)).
      at.1 ∙ several (subst (λ (j : ℕ). get_or xs j Nothing ≡ Several) at.0 e))
      (λ (same : get_or (set xs i b) k Nothing ≡ get_or xs k Nothing). same ∙ e)
      (set_cases xs i k b l);
}

pub grows_front : (xs : List KnownBelow) (i scope : ℕ) (d : KnownBelow) → i < length xs → d ≡ get_or xs i d → KnowsMore xs (set xs i (with_prefix d scope))
grows_front xs i scope d l is =
    let e : get_or xs i Nothing ≡ d = get_or_default xs i Nothing d l ∙ sym is in
    grows_set xs i (with_prefix d scope) l
    (λ s h. with_has d scope s (subst (λ (q : KnownBelow). IsKnownBelow q s) e h))
    (λ h. with_several d scope (sym e ∙ h))

pub grows_several : (xs : List KnownBelow) (i : ℕ) → i < length xs → KnowsMore xs (set xs i Several)
grows_several xs i l = grows_set xs i Several l (λ s h. tt) (λ h. refl)

pub notes_more : {F : Joined} {file : ℕ} {xs ys : List KnownBelow} → KnowsMore xs ys → KnowsPackage F file xs → KnowsPackage F file ys
notes_more g n = record {
  next = λ m k l number. let w = n.next m k l number in (w.0, w.1, g.has k w.0 w.2);
  last = λ k number. g.several k (n.last k number);
}

-- ---- the enclosing scope of a type

pub record TypeHome (F : Joined) (full : List (List ℕ)) : Type 0 where
  pub its_home : Enclosing
  pub outer : List (List ℕ)
  pub name : List ℕ
  pub place : IsEnclosing F its_home
  pub up : IsScope F its_home outer
  pub is : full ≡ outer ++ name ∷ []

pub type_home : {F : Joined} {named : Symbol} {full : List (List ℕ)} {span : Span} → AreWellNested F → IsSymbolAt F named full span → TypeHome F full
type_home behind (message i m {outer} at up) = record {
  its_home = enclosing_of m;
  outer = outer;
  name = m.name.name;
  place = message_place behind i m at;
  up = up;
  is = refl;
}
type_home behind (enum i e {outer} at up) = record {
  its_home = enclosing_of_enum e;
  outer = outer;
  name = e.name.name;
  place = enum_place behind i e at;
  up = up;
  is = refl;
}

-- the enclosing scope of a declaration is known to have more
pub home_several : {F : Joined} {below : List KnownBelow} → KnowsBelow F below → (p : Enclosing) (s : List (List ℕ)) (k : ℕ)
    → IsEnclosing F p → IsScope F p s → IsScopeNumber F s k → get_or below k Nothing ≡ Several
home_several {F} tells (home.File g) s k place up number =
    let e : s ≡ package_at F g = scope_one up (of_file g) in
    (tells.files g place).last k (subst (λ (q : List (List ℕ)). IsScopeNumber F q k) e number)
home_several tells (home.Message i) s k place up number = tells.messages i k s up number

-- ---- only the next part is below

module _ (F : Joined) (below : List KnownBelow) (file n k w : ℕ) (behind : AreWellNested F) (tells : KnowsBelow F below)
    (there : file < length F.heads) (short : n ≤ length (package_at F file))
    (number : IsScopeNumber F (take n (package_at F file)) k) (one : get_or below k Nothing ≡ One w) where
  not_several : get_or below k Nothing ≡ Several → ⊥
  not_several e = let z : One w ≡ Several = sym one ∙ e in cc

  only_types : (named : Symbol) (name : List ℕ) (span : Span) → IsSymbolAt F named (take n (package_at F file) ++ name ∷ []) span → ⊥
  only_types named name span stands =
      let t = type_home behind stands in
      let e = last_same (take n (package_at F file)) t.outer name t.name t.is in
      not_several (home_several tells t.its_home t.outer k t.place t.up (subst (λ (q : List (List ℕ)). IsScopeNumber F q k) e.0 number))

  less : n < length (package_at F file)
  less =
      ⊎_elim
      (λ (l : n < length (package_at F file)). l)
      (λ (all : length (package_at F file) ≤ n).
      absurd (not_several ((tells.files file there).last k (subst (λ (q : List (List ℕ)). IsScopeNumber F q k) (take_all n (package_at F file) all) number))))
      (cases_lt n (length (package_at F file)))

  -- the next prefix of a file whose package starts there
  next_is : (other : ℕ) → other < length F.heads → n < length (package_at F other)
      → take n (package_at F other) ≡ take n (package_at F file) → IsScopeNumber F (take (n + 1) (package_at F other)) w
  next_is other l long same =
      let v = (tells.files other l).next n k long (subst (λ (q : List (List ℕ)). IsScopeNumber F q k) (sym same) number) in
      let e : w ≡ v.0 = subst (λ (q : KnownBelow). IsKnownBelow q v.0) one v.2 in
      subst (IsScopeNumber F (take (n + 1) (package_at F other))) (sym e) v.1

  only_fronts : (other : ℕ) (name : List ℕ) (rest : List (List ℕ)) → other < length F.heads
      → package_at F other ≡ take n (package_at F file) ++ name ∷ rest → slice_get (package_at F file) n ≡ Some name
  only_fronts other name rest l e =
      let count : length (take n (package_at F file)) ≡ n = length-take-le n (package_at F file) short in
      let long : n < length (package_at F other) = omega (arith, ap length e, length-append (take n (package_at F file)) (name ∷ rest)) in
      let same : take n (package_at F other) ≡ take n (package_at F file) = ap (take n) e ∙ take_at (take n (package_at F file)) (name ∷ rest) n count in
      let f : package_at F other ≡ (take n (package_at F file) ++ name ∷ []) ++ rest = e ∙ sym (append_assoc (take n (package_at F file)) (name ∷ []) rest) in
      let more : take (n + 1) (package_at F other) ≡ take n (package_at F file) ++ name ∷ [] =
      ap (take (n + 1)) f ∙ take_at (take n (package_at F file) ++ name ∷ []) rest (n + 1) (omega (arith, length-append (take n (package_at F file)) (name ∷ []))) in
      let own = some_at (package_at F file) n less in
      let whole : take n (package_at F file) ++ name ∷ [] ≡ take n (package_at F file) ++ own.0 ∷ [] =
      sym more ∙ number_full (next_is other l long same) (next_is file there less refl) ∙ front_more (package_at F file) n own.0 own.1 in
      own.1 ∙ ap Some (sym (last_same (take n (package_at F file)) (take n (package_at F file)) name own.0 whole).1)

  pub only_own : HasOnlyNextPart F file n
  only_own = record { no_types = only_types; fronts = only_fronts }

-- ---- the busy prefixes

pub busy_none : {F : Joined} (file n : ℕ) → length (package_at F file) < n → IsBusyFrom F file n []
busy_none file n past = record {
  within = λ m c. absurd (omega (arith, c.1));
  above = λ j l. absurd (omega arith);
  descend = λ i j l r. absurd (omega arith);
  others = λ m a b. absurd (omega arith);
}

pub busy_skip : {F : Joined} {file n : ℕ} {busy : List ℕ} → 0 < n → HasOnlyNextPart F file (n - 1) → IsBusyFrom F file n busy → IsBusyFrom F file (n - 1) busy
busy_skip {F} {file} {n} {busy} some only h = record {
  within = h.within;
  above = λ j l. omega (arith, h.above j l);
  descend = h.descend;
  others = λ m a b.
      ⊎_elim
      (λ (new : m < n). let e : n - 1 ≡ m = omega arith in inr (subst (HasOnlyNextPart F file) e only))
      (λ (old : n ≤ m). h.others m old b)
      (cases_lt m n);
}

pub busy_more : {F : Joined} {file n : ℕ} {busy : List ℕ} → 0 < n → n ≤ length (package_at F file) + 1
    → IsBusyFrom F file n busy → IsBusyFrom F file (n - 1) (busy ++ (n - 1) ∷ [])
busy_more {F} {file} {n} {busy} some short h =
    let long : length (busy ++ (n - 1) ∷ []) ≡ length busy + 1 = length_push busy (n - 1) in
    let front : (j : ℕ) → j < length busy → get_or (busy ++ (n - 1) ∷ []) j 0 ≡ get_or busy j 0 = λ j l. get_or_append_left busy ((n - 1) ∷ []) 0 j l in
    let last : (j : ℕ) → length busy ≡ j → get_or (busy ++ (n - 1) ∷ []) j 0 ≡ n - 1 = λ j e. get_or_at busy (n - 1) [] 0 j e in
    record {
      within = λ m c.
          ⊎_elim
          (λ (old : Contains busy m). h.within m old)
          (λ (new : n - 1 ≡ m). omega arith)
          (Contains-push_cases busy (n - 1) m c);
      above = λ j l.
          ⊎_elim
          (λ (old : j < length busy). omega (arith, front j old, h.above j old))
          (λ (new : length busy ≤ j). omega (arith, last j (omega (arith, long))))
          (cases_lt j (length busy));
      descend = λ i j l r.
          ⊎_elim
          (λ (old : j < length busy). omega (arith, front j old, front i (omega arith), h.descend i j l old))
          (λ (new : length busy ≤ j).
          let b : i < length busy = omega (arith, long) in
          omega (arith, last j (omega (arith, long)), front i b, h.above i b))
          (cases_lt j (length busy));
      others = λ m a b.
          ⊎_elim
          (λ (new : m < n).
          let e : n - 1 ≡ m = omega arith in
          inl (subst (Contains (busy ++ (n - 1) ∷ [])) e (Contains-push busy (n - 1))))
          (λ (old : n ≤ m).
          ⊎_elim
          (λ (c : Contains busy m). inl (Contains-append_left busy ((n - 1) ∷ []) m c))
          (λ (only : HasOnlyNextPart F file m). inr only)
          (h.others m old b))
          (cases_lt m n);
    }

pub busy_all : {F : Joined} {file n : ℕ} {busy : List ℕ} → n ≡ 0 → IsBusyFrom F file n busy → IsBusy F file busy
busy_all e h = record { within = h.within; descend = h.descend; others = λ m b. h.others m (omega arith) b }

pub is_one_of : (b : KnownBelow) → is_one b ≡ true → (w : ℕ) × (b ≡ One w)
is_one_of Nothing e = absurd cc
is_one_of (One w) e = (w, refl)
is_one_of Several e = absurd cc

pub more_busy : {F : Joined} (n : ℕ) (all : List (Vec ℕ)) (v : Vec ℕ) → AreBusy F n all → IsBusy F n v.items → AreBusy F (n + 1) (all ++ v ∷ [])
more_busy {F} n all v known new = record {
  count = length_push all v ∙ ap (λ (q : ℕ). q + 1) known.count;
  each = λ file q at.
      let l : file < length (all ++ v ∷ []) = slice_get_within (all ++ v ∷ []) file q at in
      let is : get_or (all ++ v ∷ []) file q ≡ q = get_or_from_slice_get (all ++ v ∷ []) file q q at in
      ⊎_elim
      (λ (old : file < length all).
      known.each file q (slice_get-get_or all file q old ∙ ap Some (sym (get_or_append_left all (v ∷ []) q file old) ∙ is)))
      (λ (last : length all ≤ file).
      let e : n ≡ file = omega (arith, l, length_push all v, known.count) in
      let same : v ≡ q = sym (get_or_at all v [] q file (known.count ∙ e)) ∙ is in
      subst (λ (k : ℕ). IsBusy F k q.items) e (subst (λ (w : Vec ℕ). IsBusy F n w.items) same new))
      (cases_lt file (length all));
}
