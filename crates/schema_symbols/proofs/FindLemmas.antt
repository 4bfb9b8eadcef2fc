-- Look-ups.
use Rattle.std.proofs.Common.{◌≡◌, ◌≢◌, ℕ, zero, suc, ◌+◌, ◌<◌, ◌≤◌, ◌⊎◌, ⊎_elim, Bool, true, false, cond, max, List}
use Rattle.std.proofs.Common.{[], ◌∷◌, ◌++◌, length, take, get_or, Option, Some, None, refl, ap, sym, ◌∙◌, subst}
use Rattle.std.proofs.Common.{arith, length-append, add-one}
use Rattle.std.specs.Prelude.{slice_get, is_some, Contains, MatchOption, nat_le, ◌↔◌}
use Rattle.std.specs.Global.{Vec}
use Rattle.std.proofs.lemmas.Bool.{cases_lt, cases_order, leb-true, leb-false}
use Rattle.std.proofs.lemmas.List.{append_assoc, take-append-le, take_at, take_all, take_more, get_or_default}
use Rattle.std.proofs.lemmas.List.Elements.{Contains-push_cases, Contains-append_left, Contains-push}
use Rattle.std.proofs.lemmas.Option.{same_Some, slice_get_within, slice_get_read}
use Rattle.mrpc_table.specs.Names.{parts_of}
use Rattle.proto_ast.specs.Joined.{Joined, CanSee, enclosing_of, enclosing_in, package_at}
use Rattle.proto_ast.specs.declared.file.Span.{Span}
use Rattle.proto_ast.specs.declared.file.MessageDecl.{MessageDecl}
use Rattle.proto_ast.specs.declared.file.EnumDecl.{EnumDecl}
use Rattle.proto_ast.specs.declared.joined.Enclosing.{Enclosing}
use Rattle.proto_ast.specs.declared.joined.Enclosing.TheVariants as home
use Rattle.schema_symbols.specs.Scopes.{IsScope, of_file, a_message, an_enum, is_type, DeclKind, IsPackagePrefix, IsDeclarationOf}
use Rattle.schema_symbols.specs.Scopes.{message as a_message_of, enum as an_enum_of, IsVisibleName, a_type, a_package}
use Rattle.schema_symbols.specs.Scopes.{IsDecisiveScope, here, outward, IsMeaningOf, absolute, relative, IsVisibleDeclaration, IsReferenceTo}
use Rattle.schema_symbols.specs.Numbers.{AreWellNested, IsListedScope, a_front, IsScopeNumber, IsSymbolAt, message, enum, IsOfFile, message_of, enum_of, IsSeen, IsFirstSymbol, decl_kind}
use Rattle.schema_symbols.specs.Lookups.{IsLookupResult, HasNoType, IsUnresolved}
use Rattle.schema_symbols.specs.PackagePrefixes.{CanSeePrefix}
use Rattle.schema_symbols.specs.Types.{KnowsTypes}
use Rattle.schema_symbols.specs.Below.{HasOnlyNextPart, IsBusy, AreBusy}
use Rattle.schema_symbols.specs.Deepest.{IsDeepest, IsVisibleNameAt, IsNextPartAt, IsDeepestBusy, IsFirstVisible, earlier_of, larger_of, IsReachedOutward, enclosing_rank}
use Rattle.schema_symbols.specs.SymbolTableKept.{IsSymbolTableOf, AreScopes}
use Rattle.schema_symbols.specs.declared.symbol_table.SymbolTable.TheInside.{Inside}
use Rattle.schema_symbols.specs.declared.symbol.Symbol.{Symbol}
use Rattle.schema_symbols.specs.declared.symbol.DeclaredType.{DeclaredType}
use Rattle.schema_symbols.proofs.ScopeLemmas.{last_same, scope_one, message_scope, number_full, contains_at}
use Rattle.schema_symbols.proofs.Meaning.{declared_stands, decides_one, decides_out, means_parts, absolute_full}
use Rattle.schema_symbols.proofs.NumberLemmas.{front_more}
use Rattle.schema_symbols.proofs.PlaceLemmas.{begins_there, front_of, scope_listed}
use Rattle.schema_symbols.proofs.TypeLemmas.{among}
use Rattle.schema_symbols.proofs.BelowLemmas.{type_home}

-- ---- visible names

pub stands_declared : {F : Joined} {named : Symbol} {full : List (List ℕ)} {span : Span} {file : ℕ}
    → IsSymbolAt F named full span → IsOfFile F named file
    → IsDeclarationOf F file (decl_kind named) full span × (is_type (decl_kind named) ≡ true)
stands_declared {F} (message i m {outer} at up) (message_of j n there) =
    let same : m ≡ n = same_Some m n (sym at ∙ there) in (
      subst (λ (q : ℕ). IsDeclarationOf F q a_message (outer ++ m.name.name ∷ []) m.name.span)
          (ap (λ (d : MessageDecl). d.file) same) (a_message_of m (contains_at F.messages i m at) up),
      refl,
    )
stands_declared {F} (enum i m {outer} at up) (enum_of j n there) =
    let same : m ≡ n = same_Some m n (sym at ∙ there) in
    (subst (λ (q : ℕ). IsDeclarationOf F q an_enum (outer ++ m.name.name ∷ []) m.name.span) (ap (λ (d : EnumDecl). d.file) same) (an_enum_of m (contains_at F.enums i m at) up), refl)

pub first_there : {F : Joined} {file : ℕ} {named : Symbol} {full : List (List ℕ)} → IsFirstSymbol F file named full → IsVisibleName F file full
first_there {F} {file} {named} f =
    let d = stands_declared f.stands f.seen.stands_in in
    a_type f.seen.other (decl_kind named) f.span f.seen.seen d.0 d.1

pub there_front : {F : Joined} {file : ℕ} {full : List (List ℕ)} → HasNoType F file full → IsVisibleName F file full → CanSeePrefix F file full
there_front none (a_type other sort span sees declares typ) =
    let t = declared_stands declares typ in
    absurd (none t.named span (record { other = other; stands_in = t.of; seen = sees }) t.stands)
there_front none (a_package other rest sees e) = record { other = other; seen = sees; its_front = record { rest = rest; begins = e } }

pub front_there : {F : Joined} {file : ℕ} {full : List (List ℕ)} → CanSeePrefix F file full → IsVisibleName F file full
front_there s = a_package s.other s.its_front.rest s.seen s.its_front.begins

pub some_push : (s : List (List ℕ)) (name : List ℕ) → 0 < length (s ++ name ∷ [])
some_push s name = omega (arith, length-append s (name ∷ []))

pub there_iff : {F : Joined} {file : ℕ} {full : List (List ℕ)} (b : Bool) → HasNoType F file full → (b ≡ true) ↔ CanSeePrefix F file full → (b ≡ true) ↔ IsVisibleName F file full
there_iff b none s = (λ h. front_there (s.0 h), λ t. s.1 (there_front none t))

front_at : {F : Joined} (file : ℕ) (full rest : List (List ℕ)) → package_at F file ≡ full ++ rest → 0 < length full → (place : ℕ) × IsListedScope F place full
front_at {F} file full rest e some =
    let f = front_of F file full rest e some in
    (_, a_front file (length full) f.there f.short refl (sym f.is))

pub not_listed : {F : Joined} {file : ℕ} {full : List (List ℕ)} → 0 < length full → ((place : ℕ) → IsListedScope F place full → ⊥) → CanSeePrefix F file full → ⊥
not_listed some none s =
    let l = front_at s.other _ s.its_front.rest s.its_front.begins some in
    none l.0 l.1

pub not_front : {F : Joined} {full : List (List ℕ)} → 0 < length full → ((place : ℕ) → IsListedScope F place full → ⊥) → IsPackagePrefix F full → ⊥
not_front some none f =
    let l = front_at f.file _ f.rest f.begins some in
    none l.0 l.1

-- ---- the first declaration

pub first_skip : {F : Joined} {file : ℕ} (xs : List DeclaredType) (x : DeclaredType) (r : Option DeclaredType)
    → (CanSee F file x.file → ⊥) → IsFirstVisible F file xs r → IsFirstVisible F file (xs ++ x ∷ []) r
first_skip {F} {file} xs x None not none = λ d c s.
    ⊎_elim
    (λ (old : Contains xs d). none d old s)
    (λ (new : x ≡ d). not (subst (λ (q : DeclaredType). CanSee F file q.file) (sym new) s))
    (Contains-push_cases xs x d c)
first_skip {F} {file} xs x (Some b) not h = (
  Contains-append_left xs (x ∷ []) b h.0,
  h.1,
  λ d c s.
      ⊎_elim
      (λ (old : Contains xs d). h.2 d old s)
      (λ (new : x ≡ d). absurd (not (subst (λ (q : DeclaredType). CanSee F file q.file) (sym new) s)))
      (Contains-push_cases xs x d c),
)

take_by : {F : Joined} {file : ℕ} (xs : List DeclaredType) (x b : DeclaredType) (t : Bool) → nat_le b.start x.start ≡ t
    → CanSee F file x.file → IsFirstVisible F file xs (Some b) → IsFirstVisible F file (xs ++ x ∷ []) (Some (cond t b x))
take_by xs x b true e sees h = (
  Contains-append_left xs (x ∷ []) b h.0,
  h.1,
  λ d c s.
      ⊎_elim
      (λ (old : Contains xs d). h.2 d old s)
      (λ (new : x ≡ d). omega (arith, leb-true b.start x.start e, ap (λ (q : DeclaredType). q.start) new))
      (Contains-push_cases xs x d c),
)
take_by xs x b false e sees h = (
  Contains-push xs x,
  sees,
  λ d c s.
      ⊎_elim
      (λ (old : Contains xs d). omega (arith, h.2 d old s, leb-false b.start x.start e))
      (λ (new : x ≡ d). omega (arith, ap (λ (q : DeclaredType). q.start) new))
      (Contains-push_cases xs x d c),
)

pub first_take : {F : Joined} {file : ℕ} (xs : List DeclaredType) (x : DeclaredType) (r : Option DeclaredType)
    → CanSee F file x.file → IsFirstVisible F file xs r → IsFirstVisible F file (xs ++ x ∷ []) (Some (earlier_of r x))
first_take xs x None sees none = (
  Contains-push xs x,
  sees,
  λ d c s.
      ⊎_elim
      (λ (old : Contains xs d). absurd (none d old s))
      (λ (new : x ≡ d). omega (arith, ap (λ (q : DeclaredType). q.start) new))
      (Contains-push_cases xs x d c),
)
first_take xs x (Some b) sees h = take_by xs x b (nat_le b.start x.start) refl sees h

pub first_known : {F : Joined} {file k : ℕ} {outer : List (List ℕ)} {at : ℕ → List ℕ → List DeclaredType} (name : List ℕ)
    (b : DeclaredType) → KnowsTypes F (length F.messages) (length F.enums) at → IsScopeNumber F outer k
    → IsFirstVisible F file (at k name) (Some b) → IsFirstSymbol F file b.named (outer ++ name ∷ [])
first_known {F} {file} {k} {outer} {at} name b known number h =
    let r = known.sound k name b h.0 in
    let same : r.0 ≡ outer = number_full r.2 number in
    record {
      span = r.1;
      stands = subst (λ (x : List (List ℕ)). IsSymbolAt F b.named (x ++ name ∷ []) r.1) same r.3;
      seen = record { other = b.file; stands_in = r.5; seen = h.1 };
      first = λ other u seen stands.
          let w = known.whole other outer name u k seen.other (among stands) stands seen.stands_in number in
          let sees : CanSee F file w.0.file = subst (CanSee F file) (sym w.2) seen.seen in
          omega (arith, w.3, r.4, h.2 w.0 w.1 sees);
    }

pub none_known : {F : Joined} {file k : ℕ} {outer : List (List ℕ)} {at : ℕ → List ℕ → List DeclaredType} (name : List ℕ)
    → KnowsTypes F (length F.messages) (length F.enums) at → IsScopeNumber F outer k → IsFirstVisible F file (at k name) None
    → HasNoType F file (outer ++ name ∷ [])
none_known {F} {file} {k} {outer} {at} name known number none named span seen stands =
    let w = known.whole named outer name span k seen.other (among stands) stands seen.stands_in number in
    none w.0 w.1 (subst (CanSee F file) (sym w.2) seen.seen)

-- ---- inward

pub none_inside : {F : Joined} {file : ℕ} (t : List (List ℕ)) (part : List ℕ) (more : List (List ℕ)) → AreWellNested F
    → ((place : ℕ) → IsListedScope F place (t ++ part ∷ []) → ⊥) → 0 < length more → HasNoType F file (t ++ part ∷ more)
none_inside {F} {file} t part more behind none some named span seen stands =
    let h = type_home behind stands in
    let count : length (t ++ part ∷ []) ≡ length t + 1 = length-append t (part ∷ []) in
    let long : length (t ++ part ∷ []) ≤ length h.outer =
    omega (arith, count, ap length h.is, length-append t (part ∷ more), length-append h.outer (h.name ∷ [])) in
    let regroup : (t ++ part ∷ []) ++ more ≡ h.outer ++ h.name ∷ [] = append_assoc t (part ∷ []) more ∙ h.is in
    let front : take (length (t ++ part ∷ [])) h.outer ≡ t ++ part ∷ [] =
    sym (take-append-le (length (t ++ part ∷ [])) h.outer (h.name ∷ []) long) ∙ ap (take (length (t ++ part ∷ [])))
    (sym regroup) ∙ take_at (t ++ part ∷ []) more (length (t ++ part ∷ [])) refl in
    let l = scope_listed behind h.place h.up (length (t ++ part ∷ [])) long in
    none l.0 (subst (IsListedScope F l.0) front l.1)

-- ---- outward

pub reaches_out : {F : Joined} {file : ℕ} {name : List ℕ} {s : List (List ℕ)} {i : ℕ} {m : MessageDecl}
    → (r : IsReachedOutward F file name s (home.Message i)) → (IsVisibleName F file (r.reached ++ name ∷ []) → ⊥)
    → slice_get F.messages i ≡ Some m → IsReachedOutward F file name s (enclosing_of m)
reaches_out {F} {file} {name} {s} {i} {m} r not at =
    let ms = message_scope r.stands in
    let same : ms.decl ≡ m = same_Some ms.decl m (sym ms.at ∙ at) in
    record {
      reached = ms.outer;
      stands = subst (λ (d : MessageDecl). IsScope F (enclosing_of d) ms.outer) same ms.up;
      outward = λ d x. r.outward d (outward ms.decl.name.name ms.is not x);
      inward = λ d x. decides_out ms.decl.name.name ms.is not (r.inward d x);
    }

pub reaches_start : {F : Joined} {file : ℕ} {name : List ℕ} {s : List (List ℕ)} {p : Enclosing} → IsScope F p s → IsReachedOutward F file name s p
reaches_start {s} h = record { reached = s; stands = h; outward = λ d x. x; inward = λ d x. x }

abbrev pub Deciding : Joined → ℕ → List ℕ → List (List ℕ) → Option ℕ → Type 0
Deciding F file name scope r =
    MatchOption r ((decisive : List (List ℕ)) → IsDecisiveScope F file name scope decisive → ⊥)
    (λ k. (decisive : List (List ℕ)) × IsScopeNumber F decisive k × IsDecisiveScope F file name scope decisive)

pub file_decides : {F : Joined} {file its_file : ℕ} {name : List ℕ} {scope : List (List ℕ)} (r : Option ℕ)
    → IsReachedOutward F file name scope (home.File its_file) → Deciding F file name (package_at F its_file) r
    → Deciding F file name scope r
file_decides {F} {file} {its_file} {name} None h none = λ d x.
    let e : h.reached ≡ package_at F its_file = scope_one h.stands (of_file its_file) in
    none d (subst (λ (q : List (List ℕ)). IsDecisiveScope F file name q d) e (h.inward d x))
file_decides {F} {file} {its_file} {name} (Some k) h w =
    let e : package_at F its_file ≡ h.reached = scope_one (of_file its_file) h.stands in
    (w.0, w.1, h.outward w.0 (subst (λ (q : List (List ℕ)). IsDecisiveScope F file name q w.0) e w.2))

-- ---- the longest prefix that has a name

module _ (F : Joined) (file its_file : ℕ) (name : List ℕ) where
  abbrev P : List (List ℕ)
  P = package_at F its_file

  pub own_there : (n : ℕ) → IsNextPartAt F file its_file name n → IsVisibleNameAt F file its_file name n
  own_there n h = record { within = omega (arith, slice_get_within P n name h.its_part); there = front_there h.seen }

  pub only_own_at : (n : ℕ) → HasOnlyNextPart F its_file n → IsVisibleNameAt F file its_file name n → IsNextPartAt F file its_file name n
  only_own_at n only h =
      let s = there_front (λ named span seen stands. only.no_types named name span stands) h.there in
      let l = begins_there F s.other (take n P ++ name ∷ []) s.its_front.rest s.its_front.begins (some_push (take n P) name) in
      let e : package_at F s.other ≡ take n P ++ name ∷ s.its_front.rest = s.its_front.begins ∙ append_assoc (take n P) (name ∷ []) s.its_front.rest in
      record { its_part = only.fronts s.other name s.its_front.rest l e; seen = s }

  pub deepest_larger : (own busy : Option ℕ) → IsDeepest (IsNextPartAt F file its_file name) own
      → IsDeepestBusy F file its_file name busy → IsDeepest (IsVisibleNameAt F file its_file name) (larger_of own busy)
  deepest_larger None None none all = λ n h. none n (all n h)
  deepest_larger None (Some m) none h = (h.0, λ p l there. none p (h.1 p l there))
  deepest_larger (Some n) None h all = (own_there n h.0, λ p l there. h.1 p l (all p there))
  deepest_larger (Some n) (Some m) h g = (
    ⊎_elim
        (λ (l : n < m). subst (IsVisibleNameAt F file its_file name) (let e : m ≡ max n m = omega arith in e) g.0)
        (λ (l : m ≤ n). subst (IsVisibleNameAt F file its_file name) (let e : n ≡ max n m = omega arith in e) (own_there n h.0))
        (cases_lt n m),
    λ p l there. h.1 p (omega (arith, l)) (g.1 p (omega (arith, l)) there),
  )

  module _ (j : ℕ) (there : IsVisibleNameAt F file its_file name j) (last : (m : ℕ) → j < m → IsVisibleNameAt F file its_file name m → ⊥) where
    decides_front : (n : ℕ) → j ≤ n → n ≤ length P → IsDecisiveScope F file name (take n P) (take j P)
    decides_front zero a b =
        let z : j ≡ 0 = omega arith in
        subst (λ (k : ℕ). IsDecisiveScope F file name (take k P) (take j P)) z (here there.there)
    decides_front (suc n) a b =
        ⊎_elim
        (λ (less : j < suc n).
        let more : take (suc n) P ≡ take n P ++ get_or P n [] ∷ [] = subst (λ (k : ℕ). take k P ≡ take n P ++ get_or P n [] ∷ []) (add-one n) (take_more P n [] (omega arith)) in
        outward (get_or P n []) more (λ t. last (suc n) less (record { within = b; there = t })) (decides_front n (omega arith) (omega arith)))
        (λ (same : suc n ≤ j).
        let z : j ≡ suc n = omega arith in
        subst (λ (k : ℕ). IsDecisiveScope F file name (take k P) (take j P)) z (here there.there))
        (cases_lt j (suc n))

    pub decides_package : IsDecisiveScope F file name P (take j P)
    decides_package =
        subst (λ (q : List (List ℕ)). IsDecisiveScope F file name q (take j P)) (take_all (length P) P (omega arith)) (decides_front (length P) there.within (omega arith))

  module _ (none : (m : ℕ) → IsVisibleNameAt F file its_file name m → ⊥) where
    none_front : (n : ℕ) (s d : List (List ℕ)) → s ≡ take n P → n ≤ length P → IsDecisiveScope F file name s d → ⊥
    none_front n s d e l (here t) = none n (record { within = l; there = subst (λ (k : List (List ℕ)). IsVisibleName F file (k ++ name ∷ [])) e t })
    none_front zero s d e l (outward last {outer} is not rest) = absurd (omega (arith, ap length is, ap length e, length-append outer (last ∷ [])))
    none_front (suc n) s d e l (outward last {outer} is not rest) =
        let more : take (suc n) P ≡ take n P ++ get_or P n [] ∷ [] = subst (λ (k : ℕ). take k P ≡ take n P ++ get_or P n [] ∷ []) (add-one n) (take_more P n [] (omega arith)) in
        let o : outer ≡ take n P = (last_same outer (take n P) last (get_or P n []) (sym is ∙ e ∙ more)).0 in
        none_front n outer d o (omega arith) rest

    pub none_package : (d : List (List ℕ)) → IsDecisiveScope F file name P d → ⊥
    none_package d h = none_front (length P) P d (sym (take_all (length P) P (omega arith))) (omega arith) h

-- ---- the busy prefixes of a package

module _ (F : Joined) (file its_file : ℕ) (name : List ℕ) (busy : List ℕ) (known : IsBusy F its_file busy) where
  at_busy : (m : ℕ) → (Contains busy m → ⊥) → IsVisibleNameAt F file its_file name m → IsNextPartAt F file its_file name m
  at_busy m not h =
      ⊎_elim
      (λ (c : Contains busy m). absurd (not c))
      (λ (only : HasOnlyNextPart F its_file m). only_own_at F file its_file name m only h)
      (known.others m h.within)

  pub none_busy : (n : ℕ) → length busy ≤ n → ((j : ℕ) → j < n → IsVisibleNameAt F file its_file name (get_or busy j 0) → ⊥) → IsDeepestBusy F file its_file name None
  none_busy n all none = λ m h.
      at_busy m
      (λ c.
      let e : get_or busy c.0 0 ≡ m = get_or_default busy c.0 0 m c.1 ∙ c.2 in
      none c.0 (omega (arith, c.1)) (subst (IsVisibleNameAt F file its_file name) (sym e) h))
      h

  pub some_busy : (i n : ℕ) → i < length busy → n ≡ get_or busy i 0
      → ((j : ℕ) → j < i → IsVisibleNameAt F file its_file name (get_or busy j 0) → ⊥)
      → IsVisibleName F file (take n (package_at F its_file) ++ name ∷ []) → IsDeepestBusy F file its_file name (Some n)
  some_busy i n l is none there = (
    record {
      within = known.within n (i, l, get_or_default busy i n 0 l ∙ sym is);
      there = there;
    },
    λ m less h.
        at_busy m
        (λ c.
        let e : get_or busy c.0 0 ≡ m = get_or_default busy c.0 0 m c.1 ∙ c.2 in
        ⊎_elim
        (λ (before : c.0 < i). none c.0 before (subst (IsVisibleNameAt F file its_file name) (sym e) h))
        (λ (from : i ≤ c.0).
        ⊎_elim
        (λ (same : i ≡ c.0). let f : get_or busy i 0 ≡ get_or busy c.0 0 = ap (λ (q : ℕ). get_or busy q 0) same in omega arith)
        (λ (apart : (i < c.0) ⊎ (c.0 < i)).
        ⊎_elim (λ (behind : i < c.0). omega (arith, known.descend i c.0 behind c.1)) (λ (before : c.0 < i). omega arith) apart)
        (cases_order i c.0))
        (cases_lt c.0 i))
        h,
  )

-- ---- what a reference means

pub named_stands : {F : Joined} {file : ℕ} {sort : DeclKind} {full : List (List ℕ)} → IsVisibleDeclaration F file sort full
    → (named : Symbol) × (span : Span) × IsSeen F file named × IsSymbolAt F named full span
named_stands x =
    let t = declared_stands x.declared x.names_type in
    (t.named, x.span, record { other = x.other; stands_in = t.of; seen = x.seen }, t.stands)

pub names_first : {F : Joined} {file : ℕ} {s full : List (List ℕ)} {name : List ℕ} {named : Symbol}
    → IsMeaningOf F file s name full → IsFirstSymbol F file named full → IsReferenceTo F file s name (decl_kind named) full
names_first {F} {file} {s} {full} {name} {named} means first =
    let d = stands_declared first.stands first.seen.stands_in in
    record {
      means = means;
      finds = record {
        span = first.span;
        other = first.seen.other;
        seen = first.seen.seen;
        declared = d.0;
        names_type = d.1;
        first = λ another its_sort t sees declared typ.
            let u = declared_stands declared typ in
            first.first u.named t (record { other = another; stands_in = u.of; seen = sees }) u.stands;
      };
    }

pub found_outward : (F : Joined) (file : ℕ) (scope d : List (List ℕ)) (name part : List ℕ) (others : List (List ℕ))
    (r : Option Symbol) → parts_of name ≡ part ∷ others → part ≢ [] → IsDecisiveScope F file part scope d
    → MatchOption r (HasNoType F file (d ++ parts_of name)) (λ named. IsFirstSymbol F file named (d ++ parts_of name))
    → IsLookupResult F file scope name r
found_outward F file scope d name part others None is apart decides none =
    λ sort full n.
    let m = means_parts part others is apart n.means in
    let same : m.0 ≡ d = decides_one m.1 decides in
    let e : full ≡ d ++ parts_of name = m.2 ∙ ap (λ (x : List (List ℕ)). x ++ parts_of name) same in
    let t = named_stands n.finds in
    none t.0 t.1 t.2 (subst (λ (x : List (List ℕ)). IsSymbolAt F t.0 x t.1) e t.3)
found_outward F file scope d name part others (Some named) is apart decides first =
    let means : IsMeaningOf F file scope name (d ++ parts_of name) =
    subst (λ (x : List (List ℕ)). IsMeaningOf F file scope name (d ++ x)) (sym is) (relative name part is apart decides) in
    (d ++ parts_of name, names_first means first, first)

pub names_nothing : {F : Joined} {file : ℕ} {scope : List (List ℕ)} {name : List ℕ} (part : List ℕ)
    (others : List (List ℕ)) → parts_of name ≡ part ∷ others → part ≢ []
    → ((d : List (List ℕ)) → IsDecisiveScope F file part scope d → ⊥) → IsUnresolved F file scope name
names_nothing part others is apart none sort full n =
    let m = means_parts part others is apart n.means in
    none m.0 m.1

pub found_absolute : (F : Joined) (file : ℕ) (scope : List (List ℕ)) (name rest : List ℕ) (r : Option Symbol)
    → name ≡ 46 ∷ rest
    → MatchOption r (HasNoType F file (parts_of rest)) (λ named. IsFirstSymbol F file named (parts_of rest))
    → IsLookupResult F file scope name r
found_absolute F file scope name rest None is none =
    λ sort full n.
    let e : full ≡ parts_of rest = absolute_full rest is n.means in
    let t = named_stands n.finds in
    none t.0 t.1 t.2 (subst (λ (x : List (List ℕ)). IsSymbolAt F t.0 x t.1) e t.3)
found_absolute F file scope name rest (Some named) is first =
    let means : IsMeaningOf F file scope name (parts_of rest) =
    subst (λ (x : List ℕ). IsMeaningOf F file scope x (parts_of rest)) (sym is) (absolute rest) in
    (parts_of rest, names_first means first, first)

no_means : {F : Joined} {file : ℕ} {scope : List (List ℕ)} {name other : List ℕ} {f : List (List ℕ)}
    (others : List (List ℕ)) → ((rest : List ℕ) → name ≢ 46 ∷ rest) → parts_of name ≡ [] ∷ others
    → IsMeaningOf F file scope other f → other ≡ name → ⊥
no_means others not_dot is (absolute more) e = not_dot more (sym e)
no_means others not_dot is (relative other first {others = more} cuts apart decides) e =
    let t : first ∷ more ≡ [] ∷ others = sym cuts ∙ ap parts_of e ∙ is in
    let u : first ≡ [] = cc in
    apart u

pub nothing_first : (F : Joined) (file : ℕ) (scope : List (List ℕ)) (name : List ℕ) (others : List (List ℕ))
    → ((rest : List ℕ) → name ≢ 46 ∷ rest) → parts_of name ≡ [] ∷ others → IsUnresolved F file scope name
nothing_first F file scope name others not_dot is sort full n = no_means others not_dot is n.means refl

-- ---- results

pub kept : (s : Inside) {F : Joined} → s.places ≡ F → AreScopes s → IsSymbolTableOf F s
kept s e h = subst (λ (G : Joined). IsSymbolTableOf G s) e h

pub some_first : {X : Type 0} (r : Option X) (P : Type 0) (Q : X → Type 0) → true ≡ is_some r → MatchOption r P Q → (x : X) × Q x
some_first None P Q e h = absurd cc
some_first (Some x) P Q e h = (x, h)

pub none_first : {X : Type 0} (r : Option X) (P : Type 0) (Q : X → Type 0) → false ≡ is_some r → MatchOption r P Q → P
none_first None P Q e h = h
none_first (Some x) P Q e h = absurd cc

pub busy_known : {F : Joined} {all : List (Vec ℕ)} → AreBusy F (length F.heads) all → (file : ℕ) (v : Vec ℕ)
    → file < length F.heads → v ≡ get_or all file v → IsBusy F file v.items
busy_known {F} {all} known file v l is = known.each file v (slice_get_read all (length all) file v refl (omega (arith, known.count)) is)

rank_in : (i file : ℕ) (p : Option ℕ) → ((q : ℕ) → p ≡ Some q → q < i) → enclosing_rank (enclosing_in file p) < i + 1
rank_in i file None below = omega arith
rank_in i file (Some q) below = omega (arith, below q refl)

pub home_below : {F : Joined} → AreWellNested F → (i : ℕ) (m : MessageDecl) → slice_get F.messages i ≡ Some m → enclosing_rank (enclosing_of m) < i + 1
home_below behind i m at = rank_in i m.file m.parent (λ q e. behind.messages i q m at e)

pub seen_own : {F : Joined} {file its_file : ℕ} (name : List ℕ) (n : ℕ)
    → slice_get (package_at F its_file) n ≡ Some name → CanSeePrefix F file (take (n + 1) (package_at F its_file))
    → IsNextPartAt F file its_file name n
seen_own {F} {file} {its_file} name n at s = record {
  its_part = at;
  seen = subst (CanSeePrefix F file) (front_more (package_at F its_file) n name at) s;
}

pub own_seen : {F : Joined} {file its_file : ℕ} {name : List ℕ} {n : ℕ} → IsNextPartAt F file its_file name n → CanSeePrefix F file (take (n + 1) (package_at F its_file))
own_seen {F} {file} {its_file} {name} {n} h =
    subst (CanSeePrefix F file) (sym (front_more (package_at F its_file) n name h.its_part)) h.seen
