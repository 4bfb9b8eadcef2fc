-- How scopes are numbered.
use Rattle.std.proofs.Common.{◌≡◌, ℕ, ◌+◌, ◌<◌, ◌≤◌, ◌⊎◌, ⊎_elim, inl, inr, true, false, cond, List, [], ◌∷◌, ◌++◌}
use Rattle.std.proofs.Common.{length, take, get_or, Option, Some, None, refl, ap, sym, ◌∙◌, subst, arith}
use Rattle.std.specs.Prelude.{slice_get}
use Rattle.std.specs.Option.{unwrap_or}
use Rattle.std.proofs.lemmas.Bool.{cases_lt}
use Rattle.std.proofs.lemmas.List.{get_or_append_left, get_or_at, length_push, take_more}
use Rattle.std.proofs.lemmas.Option.{same_Some, slice_get_within, slice_get-get_or, get_or_from_slice_get}
use Rattle.proto_ast.specs.Joined.{Joined, package_at, enclosing_in, enclosing_of}
use Rattle.proto_ast.specs.declared.file.MessageDecl.{MessageDecl}
use Rattle.proto_ast.specs.declared.joined.Enclosing.{Enclosing}
use Rattle.proto_ast.specs.declared.joined.Enclosing.TheVariants as home
use Rattle.schema_symbols.specs.Scopes.{IsScope, of_file}
use Rattle.schema_symbols.specs.Numbers.{AreWellNested, IsEnclosing, IsListedScope, a_front, a_message_scope, IsScopeNumber, prefixes_before, all_prefix_count}
use Rattle.schema_symbols.specs.Children.{child, same_child}
use Rattle.schema_symbols.specs.Numbered.{AreNumbers, KnowsScopes, HasNumberedScopes, AreDepths, IsPackage, ArePackages, scope_number_of, package_number, HasScopeNumber}
use Rattle.schema_symbols.specs.declared.numbering.Numbering.{Numbering}
use Rattle.schema_symbols.specs.declared.numbering.Package.{Package}
use Rattle.schema_symbols.proofs.Keys.{same_child_parts, same_child_itself, cases, at_true, at_false}
use Rattle.schema_symbols.proofs.ScopeLemmas.{last_same, some_at, listed_full, number_full, number_same, fronts_one, scope_one, message_file}

-- ---- the next index

module _ (F : Joined) (x y : Numbering) (p k n : ℕ) (s : List (List ℕ)) (name : List ℕ) (known : HasNumberedScopes F p x)
    (here : IsListedScope F p (s ++ name ∷ [])) (outer : IsScopeNumber F s k)
    (n_is : n ≡ unwrap_or (child x.inner k name) (length x.numbers.items))
    (items : y.numbers.items ≡ x.numbers.items ++ n ∷ [])
    (changed : (l : ℕ) (o : List ℕ) → child y.inner l o ≡ cond (same_child k name l o) (Some n) (child x.inner l o)) where
  by_known : (o : Option ℕ) → child x.inner k name ≡ o → IsScopeNumber F (s ++ name ∷ []) n
  by_known (Some v) e =
      let r = known.inner.sound k name v e in
      let same : r.0 ≡ s = number_full r.1 outer in
      let is : n ≡ v = n_is ∙ ap (λ (o : Option ℕ). unwrap_or o (length x.numbers.items)) e in
      subst (IsScopeNumber F (s ++ name ∷ [])) (sym is) (subst (λ (q : List (List ℕ)). IsScopeNumber F (q ++ name ∷ []) v) same r.2)
  by_known None e =
      let is : n ≡ p = n_is ∙ ap (λ (o : Option ℕ). unwrap_or o (length x.numbers.items)) e ∙ known.count in
      record {
        listed = subst (λ (q : ℕ). IsListedScope F q (s ++ name ∷ [])) (sym is) here;
        first = λ l less listed. let w = known.inner.whole l s name k (omega arith) listed outer in absurd cc;
      }

  pub number_next : IsScopeNumber F (s ++ name ∷ []) n
  number_next = by_known (child x.inner k name) refl

  sound_at : (l : ℕ) (o : List ℕ) (v : ℕ) → child y.inner l o ≡ Some v
      → (same_child k name l o ≡ true) ⊎ (same_child k name l o ≡ false)
      → (t : List (List ℕ)) × IsScopeNumber F t l × IsScopeNumber F (t ++ o ∷ []) v
  sound_at l o v e (inl t) =
      let ps = same_child_parts k name l o t in
      let is : Some v ≡ Some n = sym e ∙ at_true (same_child k name l o) (Some n) (child x.inner l o) (child y.inner l o) t (changed l o) in
      let same : v ≡ n = same_Some v n is in
      let number : IsScopeNumber F (s ++ o ∷ []) n = subst (λ (q : List ℕ). IsScopeNumber F (s ++ q ∷ []) n) ps.1 number_next in
      (s, subst (IsScopeNumber F s) ps.0 outer, subst (IsScopeNumber F (s ++ o ∷ [])) (sym same) number)
  sound_at l o v e (inr f) =
      known.inner.sound l o v (sym (at_false (same_child k name l o) (Some n) (child x.inner l o) (child y.inner l o) f (changed l o)) ∙ e)

  whole_at : (place : ℕ) (t : List (List ℕ)) (o : List ℕ) (l : ℕ) → place < p + 1 → IsListedScope F place (t ++ o ∷ [])
      → IsScopeNumber F t l → (same_child k name l o ≡ true) ⊎ (same_child k name l o ≡ false)
      → (v : ℕ) × (child y.inner l o ≡ Some v)
  whole_at place t o l less listed number (inl is) =
      (n, at_true (same_child k name l o) (Some n) (child x.inner l o) (child y.inner l o) is (changed l o))
  whole_at place t o l less listed number (inr f) =
      ⊎_elim
      (λ (old : place < p).
      let w = known.inner.whole place t o l old listed number in
      (w.0, at_false (same_child k name l o) (Some n) (child x.inner l o) (child y.inner l o) f (changed l o) ∙ w.1))
      (λ (new : p ≤ place).
      let e : place ≡ p = omega arith in
      let same = last_same t s o name (listed_full listed here e) in
      let one : l ≡ k = number_same number (subst (λ (q : List (List ℕ)). IsScopeNumber F q k) (sym same.0) outer) in
      let is : same_child k name l o ≡ true =
      subst (λ (q : ℕ). same_child q name l o ≡ true) one
      (subst (λ (q : List ℕ). same_child l q l o ≡ true) same.1 (same_child_itself l o)) in
      absurd (let z : true ≡ false = sym is ∙ f in cc))
      (cases_lt place p)

  numbers_next : AreNumbers F (x.numbers.items ++ n ∷ [])
  numbers_next = record {
    each = λ j t l listed.
        ⊎_elim
        (λ (old : j < length x.numbers.items).
        subst (IsScopeNumber F t) (sym (get_or_append_left x.numbers.items (n ∷ []) 0 j old)) (known.numbers.each j t old listed))
        (λ (new : length x.numbers.items ≤ j).
        let e : j ≡ p = omega (arith, length_push x.numbers.items n, known.count) in
        let same : s ++ name ∷ [] ≡ t = sym (listed_full listed here e) in
        let at : get_or (x.numbers.items ++ n ∷ []) j 0 ≡ n = get_or_at x.numbers.items n [] 0 j (omega (arith, known.count)) in
        subst (IsScopeNumber F t) (sym at) (subst (λ (q : List (List ℕ)). IsScopeNumber F q n) same number_next))
        (cases_lt j (length x.numbers.items));
  }

  pub next_numbered : HasNumberedScopes F (p + 1) y
  next_numbered = record {
    count = ap length items ∙ length_push x.numbers.items n ∙ ap (λ (q : ℕ). q + 1) known.count;
    numbers = subst (AreNumbers F) (sym items) numbers_next;
    inner = record {
      sound = λ l o v e. sound_at l o v e (cases (same_child k name l o));
      whole = λ place t o l less listed number. whole_at place t o l less listed number (cases (same_child k name l o));
    };
  }

no_push : {X : Type 0} (xs : List X) (x : X) → [] ≡ xs ++ x ∷ [] → ⊥
no_push xs x e = omega (arith, ap length e, length_push xs x)

pub root_number : (F : Joined) → 0 < length F.heads → IsScopeNumber F [] 0
root_number F l = record {
  listed = a_front 0 0 l (omega arith) refl refl;
  first = λ k less listed. absurd (omega arith);
}

pub root_numbered : {F : Joined} {x y : Numbering} (p : ℕ) → HasNumberedScopes F p x → IsListedScope F p [] → 0 < length F.heads
    → y.numbers.items ≡ x.numbers.items ++ 0 ∷ [] → y.inner ≡ x.inner → HasNumberedScopes F (p + 1) y
root_numbered {F} {x} {y} p known here some items inner = record {
  count = ap length items ∙ length_push x.numbers.items 0 ∙ ap (λ (q : ℕ). q + 1) known.count;
  numbers = record {
    each = λ j t l listed.
        let long : length (x.numbers.items ++ 0 ∷ []) ≡ length x.numbers.items + 1 = length_push x.numbers.items 0 in
        let is : get_or y.numbers.items j 0 ≡ get_or (x.numbers.items ++ 0 ∷ []) j 0 = ap (λ (q : List ℕ). get_or q j 0) items in
        ⊎_elim
        (λ (old : j < length x.numbers.items).
        subst (IsScopeNumber F t) (sym (is ∙ get_or_append_left x.numbers.items (0 ∷ []) 0 j old)) (known.numbers.each j t old listed))
        (λ (new : length x.numbers.items ≤ j).
        let e : j ≡ p = omega (arith, ap length items, known.count) in
        let same : [] ≡ t = sym (listed_full listed here e) in
        let at : get_or (x.numbers.items ++ 0 ∷ []) j 0 ≡ 0 = get_or_at x.numbers.items 0 [] 0 j (omega (arith, known.count)) in
        subst (IsScopeNumber F t) (sym (is ∙ at)) (subst (λ (q : List (List ℕ)). IsScopeNumber F q 0) same (root_number F some)))
        (cases_lt j (length x.numbers.items));
  };
  inner = subst (λ q. KnowsScopes F (p + 1) (child q)) (sym inner) (record {
    sound = known.inner.sound;
    whole = λ place t o l less listed number.
        ⊎_elim
        (λ (old : place < p). known.inner.whole place t o l old listed number)
        (λ (new : p ≤ place). let e : p ≡ place = omega arith in absurd (no_push t o (listed_full here listed e)))
        (cases_lt place p);
  });
}

-- ---- the prefixes of a package

pub front_listed : (F : Joined) (file n : ℕ) → file < length F.heads → n ≤ length (package_at F file) → IsListedScope F (prefixes_before F file + n) (take n (package_at F file))
front_listed F file n l short = a_front file n l short refl refl

pub front_more : (P : List (List ℕ)) (n : ℕ) (part : List ℕ) → slice_get P n ≡ Some part → take (n + 1) P ≡ take n P ++ part ∷ []
front_more P n part e =
    let l : n < length P = slice_get_within P n part e in
    take_more P n part l ∙ ap (λ (q : List ℕ). take n P ++ q ∷ []) (get_or_from_slice_get P n part part e)

pub depth_next : {F : Joined} (file d : ℕ) (depths : List ℕ) → file < length F.heads → d ≤ length (package_at F file)
    → AreDepths F (prefixes_before F file + d) depths → AreDepths F (prefixes_before F file + d + 1) (depths ++ d ∷ [])
depth_next {F} file d depths l short known = record {
  count = length_push depths d ∙ ap (λ (q : ℕ). q + 1) known.count;
  each = λ other e there within less.
      ⊎_elim
      (λ (old : prefixes_before F other + e < prefixes_before F file + d).
      get_or_append_left depths (d ∷ []) 0 (prefixes_before F other + e) (omega (arith, known.count)) ∙ known.each other e there within old)
      (λ (new : prefixes_before F file + d ≤ prefixes_before F other + e).
      let same : prefixes_before F other + e ≡ prefixes_before F file + d = omega arith in
      let f : other ≡ file = fronts_one F other file e d there l within short same in
      let g : prefixes_before F other ≡ prefixes_before F file = ap (prefixes_before F) f in
      let is : d ≡ e = omega arith in
      get_or_at depths d [] 0 (prefixes_before F other + e) (known.count ∙ sym same) ∙ is)
      (cases_lt (prefixes_before F other + e) (prefixes_before F file + d));
}

-- ---- packages

pub more_packages : {F : Joined} (n : ℕ) (packages : List Package) (p : Package) → ArePackages F n packages → IsPackage F n p → ArePackages F (n + 1) (packages ++ p ∷ [])
more_packages {F} n packages p known new = record {
  count = length_push packages p ∙ ap (λ (q : ℕ). q + 1) known.count;
  each = λ file q at.
      let l : file < length (packages ++ p ∷ []) = slice_get_within (packages ++ p ∷ []) file q at in
      let is : get_or (packages ++ p ∷ []) file q ≡ q = get_or_from_slice_get (packages ++ p ∷ []) file q q at in
      ⊎_elim
      (λ (old : file < length packages).
      known.each file q (slice_get-get_or packages file q old ∙ ap Some (sym (get_or_append_left packages (p ∷ []) q file old) ∙ is)))
      (λ (last : length packages ≤ file).
      let e : n ≡ file = omega (arith, l, length_push packages p, known.count) in
      let same : p ≡ q = sym (get_or_at packages p [] q file (known.count ∙ e)) ∙ is in
      subst (λ (k : ℕ). IsPackage F k q) e (subst (IsPackage F n) same new))
      (cases_lt file (length packages));
}

-- ---- enclosing files and messages

pub number_known : {F : Joined} {packages : List Package} {numbers : List ℕ} (n : ℕ)
    → ArePackages F (length F.heads) packages → AreNumbers F numbers → (p : Enclosing) (s : List (List ℕ)) → n ≡ all_prefix_count F
    → HasScopeNumber packages n numbers p → IsScope F p s → IsScopeNumber F s (scope_number_of packages n numbers p)
number_known {F} {packages} {numbers} n known numbered (home.File k) s e within scope =
    let p = some_at packages k within in
    let is : IsScopeNumber F (package_at F k) (package_number (slice_get packages k)) =
    subst (λ o. IsScopeNumber F (package_at F k) (package_number o)) (sym p.1) (known.each k p.0 p.1).its_number in
    subst (λ (q : List (List ℕ)). IsScopeNumber F q (package_number (slice_get packages k))) (scope_one (of_file k) scope) is
number_known {F} {packages} {numbers} n known numbered (home.Message i) s e within scope =
    numbered.each (n + i) s within (a_message_scope i (ap (λ (q : ℕ). q + i) e) scope)

within_in : (packages : List Package) (n : ℕ) (numbers : List ℕ) (file : ℕ) (p : Option ℕ) → file < length packages
    → ((q : ℕ) → p ≡ Some q → n + q < length numbers) → HasScopeNumber packages n numbers (enclosing_in file p)
within_in packages n numbers file None l below = l
within_in packages n numbers file (Some q) l below = below q refl

pub message_within : {F : Joined} (packages : List Package) (n : ℕ) (numbers : List ℕ) (i : ℕ) (m : MessageDecl)
    → AreWellNested F → length packages ≡ length F.heads → n + i ≤ length numbers → slice_get F.messages i ≡ Some m
    → HasScopeNumber packages n numbers (enclosing_of m)
message_within {F} packages n numbers i m behind all long at =
    within_in packages n numbers m.file m.parent (omega (arith, message_file behind i m at))
    (λ q e. omega (arith, behind.messages i q m at e))

pub place_within : (F : Joined) (packages : List Package) (n : ℕ) (numbers : List ℕ) (p : Enclosing)
    → length packages ≡ length F.heads → n + length F.messages ≡ length numbers → IsEnclosing F p
    → HasScopeNumber packages n numbers p
place_within F packages n numbers (home.File k) all long here = omega arith
place_within F packages n numbers (home.Message i) all long here = omega arith
