-- Entries that are collected one after another.
use Rattle.std.proofs.Common.{◌≡◌, ℕ, zero, suc, ◌+◌, ◌<◌, ◌⊎◌, inl, inr, List, [], ◌∷◌, ◌++◌, length, map, take}
use Rattle.std.proofs.Common.{get_or, refl, sym, ap, ◌∙◌, subst, arith}
use Rattle.std.specs.Prelude.{Some, slice_get, Contains}
use Rattle.std.proofs.lemmas.Bool.{cases_lt}
use Rattle.std.proofs.lemmas.List.{map-append, take_more}
use Rattle.std.proofs.lemmas.List.Elements.{Contains-append_left, Contains-append_right, Contains-append_cases, Contains-push, Contains-push_cases}
use Rattle.std.proofs.lemmas.Option.{same_Some, slice_get_within, slice_get_read, get_or_from_slice_get}
use Rattle.proto_ast.specs.declared.file.FieldDecl.{FieldDecl}
use Rattle.proto_ast.specs.declared.file.MessageDecl.{MessageDecl}
use Rattle.proto_ast.specs.declared.file.ValueDecl.{ValueDecl}
use Rattle.proto_ast.specs.declared.file.EnumDecl.{EnumDecl}
use Rattle.proto_ast.specs.declared.file.RpcDecl.{RpcDecl}
use Rattle.proto_ast.specs.declared.file.ServiceDecl.{ServiceDecl}
use Rattle.proto_ast.specs.Joined.{Joined, enclosing_of, enclosing_of_enum}
use Rattle.proto_ast.specs.declared.joined.Enclosing.{Enclosing}
use Rattle.proto_ast.specs.declared.joined.Enclosing.TheVariants as home
use Rattle.schema_symbols.specs.Numbers.{scope_count}
use Rattle.schema_validation.specs.Entries
use Rattle.schema_validation.specs.Entries.{NameEntry, name_entry, name_entry_of, entries_of, HasNumber, IsEntryOfMessage, IsEntryOfEnum, IsEntryOfService, IsEntryOfFirst, IsEntryOfAny, HasAddedEntries, HaveNumbers, AreStarts}
use Rattle.schema_validation.specs.declared.names.DeclaredName.{DeclaredName}
use Rattle.schema_validation.specs.declared.names.Starts.{Starts}

-- ---- elements of lists

pub get_contains : {X : Type 0} (xs : List X) (i : ℕ) (x : X) → slice_get xs i ≡ Some x → Contains xs x
get_contains xs i x e = (i, slice_get_within xs i x e, get_or_from_slice_get xs i x x e)

pub contains_get : {X : Type 0} (xs : List X) (x : X) → Contains xs x → (i : ℕ) × (slice_get xs i ≡ Some x)
contains_get xs x c = (c.0, slice_get_read xs (length xs) c.0 x refl c.1 (sym c.2))

pub mapped_get : {X Y : Type 0} (f : X → Y) (xs : List X) (i : ℕ) (x : X) → slice_get xs i ≡ Some x
    → slice_get (map f xs) i ≡ Some (f x)
mapped_get f [] i x e = absurd cc
mapped_get f (y ∷ ys) zero x e = ap Some (ap f (same_Some y x e))
mapped_get f (y ∷ ys) (suc i) x e = mapped_get f ys i x e

pub map_contains : {X Y : Type 0} (f : X → Y) (xs : List X) (x : X) → Contains xs x → Contains (map f xs) (f x)
map_contains f xs x c =
    let g = contains_get xs x c in
    get_contains (map f xs) g.0 (f x) (mapped_get f xs g.0 x g.1)

map_from : {X Y : Type 0} (f : X → Y) (xs : List X) (i : ℕ) (y : Y) → slice_get (map f xs) i ≡ Some y
    → (x : X) × Contains xs x × (y ≡ f x)
map_from f [] i y e = absurd cc
map_from f (x ∷ xs) zero y e = (x, get_contains (x ∷ xs) 0 x refl, sym (same_Some (f x) y e))
map_from f (x ∷ xs) (suc i) y e =
    let r = map_from f xs i y e in
    (r.0, Contains-append_right (x ∷ []) xs r.0 r.1, r.2)

pub contains_map : {X Y : Type 0} (f : X → Y) (xs : List X) (y : Y) → Contains (map f xs) y
    → (x : X) × Contains xs x × (y ≡ f x)
contains_map f xs y c =
    let g = contains_get (map f xs) y c in
    map_from f xs g.0 y g.1

-- ---- one after another

pub adds_then : (P Q R : NameEntry → Type 0) (a b c : List NameEntry) → HasAddedEntries P a b → HasAddedEntries Q b c
    → ((e : NameEntry) → (P e ⊎ Q e) → R e) → ((e : NameEntry) → R e → P e ⊎ Q e) → HasAddedEntries R a c
adds_then P Q R a b c p q to from = record {
  one = λ e h. elim (q.one e h) [
    | inl x ↦ elim (p.one e x) [ inl y ↦ inl y | inr y ↦ inr (to e (inl y)) ]
    | inr x ↦ inr (to e (inr x))
  ];
  each = λ e h. elim h [
    | inl x ↦ q.each e (inl (p.each e (inl x)))
    | inr x ↦ elim (from e x) [ inl y ↦ q.each e (inl (p.each e (inr y))) | inr y ↦ q.each e (inr y) ]
  ];
}

first_to : {X : Type 0} (xs : List X) (of : ℕ → X → NameEntry → Type 0) (i : ℕ) (x : X) → slice_get xs i ≡ Some x
    → (e : NameEntry) → (IsEntryOfFirst i xs of e ⊎ of i x e) → IsEntryOfFirst (i + 1) xs of e
first_to xs of i x at e (inl o) =
    let l : o.place < i = o.below in
    record { place = o.place; thing = o.thing; below = omega arith; at = o.at; is = o.is }
first_to xs of i x at e (inr o) = record { place = i; thing = x; below = omega arith; at = at; is = o }

first_from : {X : Type 0} (xs : List X) (of : ℕ → X → NameEntry → Type 0) (i : ℕ) (x : X) → slice_get xs i ≡ Some x
    → (e : NameEntry) → IsEntryOfFirst (i + 1) xs of e → IsEntryOfFirst i xs of e ⊎ of i x e
first_from {X} xs of i x at e o =
    let l : o.place < i + 1 = o.below in
    elim (cases_lt o.place i) [
      | inl k ↦ inl (record { place = o.place; thing = o.thing; below = k; at = o.at; is = o.is })
      | inr k ↦
          let same : o.place ≡ i = omega arith in
          let found : slice_get xs i ≡ Some o.thing = subst (λ (j : ℕ). slice_get xs j ≡ Some o.thing) same o.at in
          inr (subst (λ (y : X). of i y e) (same_Some o.thing x (sym found ∙ at))
          (subst (λ (j : ℕ). of j o.thing e) same o.is))
    ]

pub adds_next : {X : Type 0} (xs : List X) (of : ℕ → X → NameEntry → Type 0) (i : ℕ) (x : X) (a b c : List NameEntry)
    → slice_get xs i ≡ Some x → HasAddedEntries (IsEntryOfFirst i xs of) a b → HasAddedEntries (of i x) b c → HasAddedEntries (IsEntryOfFirst (i + 1) xs of) a c
adds_next xs of i x a b c at p q =
    adds_then (IsEntryOfFirst i xs of) (of i x) (IsEntryOfFirst (i + 1) xs of) a b c p q
    (first_to xs of i x at) (first_from xs of i x at)

pub adds_all : {X : Type 0} (xs : List X) (of : ℕ → X → NameEntry → Type 0) (i : ℕ) (a b : List NameEntry) → i ≡ length xs
    → HasAddedEntries (IsEntryOfFirst i xs of) a b → HasAddedEntries (IsEntryOfAny xs of) a b
adds_all xs of i a b e p = subst (λ (n : ℕ). HasAddedEntries (IsEntryOfFirst n xs of) a b) e p

-- ---- names that are added

adds_one : (d : NameEntry) (a b : List NameEntry) → b ≡ a ++ d ∷ [] → HasAddedEntries (λ e. e ≡ d) a b
adds_one d a b is = record {
  one = λ e h. elim (Contains-push_cases a d e (subst (λ (l : List NameEntry). Contains l e) is h)) [
    | inl x ↦ inl x
    | inr x ↦ inr (sym x)
  ];
  each = λ e h. subst (λ (l : List NameEntry). Contains l e) (sym is) (elim h [
    | inl x ↦ Contains-append_left a (d ∷ []) e x
    | inr x ↦ subst (Contains (a ++ d ∷ [])) (sym x) (Contains-push a d)
  ]);
}

abbrev IsMapped : {X : Type 0} → (X → NameEntry) → List X → NameEntry → Type 0
IsMapped {X} f xs e = (x : X) × Contains xs x × (e ≡ f x)

adds_map : {X : Type 0} (f : X → NameEntry) (xs : List X) (a b : List NameEntry) → b ≡ a ++ map f xs → HasAddedEntries (IsMapped f xs) a b
adds_map f xs a b is = record {
  one = λ e h. elim (Contains-append_cases a (map f xs) e (subst (λ (l : List NameEntry). Contains l e) is h)) [
    | inl x ↦ inl x
    | inr x ↦ inr (contains_map f xs e x)
  ];
  each = λ e h. subst (λ (l : List NameEntry). Contains l e) (sym is) (elim h [
    | inl x ↦ Contains-append_left a (map f xs) e x
    | inr x ↦ subst (Contains (a ++ map f xs)) (sym x.2)
        (Contains-append_right a (map f xs) (f x.0) (map_contains f xs x.0 x.1))
  ]);
}

-- a name that is pushed
pub pushed : (ds es : List DeclaredName) (d : DeclaredName) (e : NameEntry) → es ≡ ds ++ d ∷ [] → name_entry_of d ≡ e
    → entries_of es ≡ entries_of ds ++ e ∷ []
pushed ds es d e is same =
    ap entries_of is ∙ (map-append name_entry_of ds (d ∷ []) ∙ ap (λ (x : NameEntry). entries_of ds ++ x ∷ []) same)

-- the only number of an enclosing file or message
abbrev pub IsTheNumber : Joined → Enclosing → ℕ → Type 0
IsTheNumber F place k = HasNumber F place k × ((j : ℕ) → HasNumber F place j → j ≡ k)

module _ (F : Joined) (i : ℕ) (m : MessageDecl) (k l : ℕ) (outer : IsTheNumber F (enclosing_of m) k)
    (inner : IsTheNumber F (home.Message i) l) where
  abbrev FieldOrName : NameEntry → Type 0
  FieldOrName e = (e ≡ name_entry k m.name) ⊎ IsMapped (λ (f : FieldDecl). name_entry l f.name) m.fields e

  message_to : (e : NameEntry) → (FieldOrName e ⊎ IsMapped (name_entry l) m.oneofs e) → IsEntryOfMessage F i m e
  message_to e (inl (inl p)) = subst (IsEntryOfMessage F i m) (sym p) (Entries.message k outer.0)
  message_to e (inl (inr p)) = subst (IsEntryOfMessage F i m) (sym p.2) (Entries.field l p.0 inner.0 p.1)
  message_to e (inr p) = subst (IsEntryOfMessage F i m) (sym p.2) (Entries.oneof l p.0 inner.0 p.1)

  message_from : (e : NameEntry) → IsEntryOfMessage F i m e → FieldOrName e ⊎ IsMapped (name_entry l) m.oneofs e
  message_from e (Entries.message j h) = inl (inl (ap (λ (n : ℕ). name_entry n m.name) (outer.1 j h)))
  message_from e (Entries.field j f h c) = inl (inr (f, c, ap (λ (n : ℕ). name_entry n f.name) (inner.1 j h)))
  message_from e (Entries.oneof j o h c) = inr (o, c, ap (λ (n : ℕ). name_entry n o) (inner.1 j h))

  pub adds_message : (a b c d : List NameEntry) → b ≡ a ++ name_entry k m.name ∷ []
      → c ≡ b ++ map (λ (f : FieldDecl). name_entry l f.name) m.fields → d ≡ c ++ map (name_entry l) m.oneofs
      → HasAddedEntries (IsEntryOfMessage F i m) a d
  adds_message a b c d one fields oneofs =
      adds_then FieldOrName (IsMapped (name_entry l) m.oneofs) (IsEntryOfMessage F i m) a c d
      (adds_then (λ e. e ≡ name_entry k m.name) (IsMapped (λ (f : FieldDecl). name_entry l f.name) m.fields) FieldOrName a b c
      (adds_one (name_entry k m.name) a b one) (adds_map (λ (f : FieldDecl). name_entry l f.name) m.fields b c fields)
      (λ e h. h) (λ e h. h))
      (adds_map (name_entry l) m.oneofs c d oneofs) message_to message_from

module _ (F : Joined) (i : ℕ) (x : EnumDecl) (k : ℕ) (outer : IsTheNumber F (enclosing_of_enum x) k) where
  abbrev EnumParts : NameEntry → Type 0
  EnumParts e = (e ≡ name_entry k x.name) ⊎ IsMapped (λ (v : ValueDecl). name_entry k v.name) x.values e

  enum_to : (e : NameEntry) → EnumParts e → IsEntryOfEnum F i x e
  enum_to e (inl p) = subst (IsEntryOfEnum F i x) (sym p) (Entries.enum k outer.0)
  enum_to e (inr p) = subst (IsEntryOfEnum F i x) (sym p.2) (Entries.value k p.0 outer.0 p.1)

  enum_from : (e : NameEntry) → IsEntryOfEnum F i x e → EnumParts e
  enum_from e (Entries.enum j h) = inl (ap (λ (n : ℕ). name_entry n x.name) (outer.1 j h))
  enum_from e (Entries.value j v h c) = inr (v, c, ap (λ (n : ℕ). name_entry n v.name) (outer.1 j h))

  pub adds_enum : (a b c : List NameEntry) → b ≡ a ++ name_entry k x.name ∷ []
      → c ≡ b ++ map (λ (v : ValueDecl). name_entry k v.name) x.values → HasAddedEntries (IsEntryOfEnum F i x) a c
  adds_enum a b c one values =
      adds_then (λ e. e ≡ name_entry k x.name) (IsMapped (λ (v : ValueDecl). name_entry k v.name) x.values) (IsEntryOfEnum F i x) a b c
      (adds_one (name_entry k x.name) a b one) (adds_map (λ (v : ValueDecl). name_entry k v.name) x.values b c values)
      enum_to enum_from

module _ (F : Joined) (i : ℕ) (x : ServiceDecl) (k l : ℕ) (outer : IsTheNumber F (home.File x.file) k)
    (own : l ≡ scope_count F + i) where
  abbrev ServiceParts : NameEntry → Type 0
  ServiceParts e = (e ≡ name_entry k x.name) ⊎ IsMapped (λ (r : RpcDecl). name_entry l r.name) x.rpcs e

  service_to : (e : NameEntry) → ServiceParts e → IsEntryOfService F i x e
  service_to e (inl p) = subst (IsEntryOfService F i x) (sym p) (Entries.service k outer.0)
  service_to e (inr p) =
      subst (IsEntryOfService F i x) (sym (p.2 ∙ ap (λ (n : ℕ). name_entry n p.0.name) own)) (Entries.rpc p.0 p.1)

  service_from : (e : NameEntry) → IsEntryOfService F i x e → ServiceParts e
  service_from e (Entries.service j h) = inl (ap (λ (n : ℕ). name_entry n x.name) (outer.1 j h))
  service_from e (Entries.rpc r c) = inr (r, c, ap (λ (n : ℕ). name_entry n r.name) (sym own))

  pub adds_service : (a b c : List NameEntry) → b ≡ a ++ name_entry k x.name ∷ []
      → c ≡ b ++ map (λ (r : RpcDecl). name_entry l r.name) x.rpcs → HasAddedEntries (IsEntryOfService F i x) a c
  adds_service a b c one rpcs =
      adds_then (λ e. e ≡ name_entry k x.name) (IsMapped (λ (r : RpcDecl). name_entry l r.name) x.rpcs) (IsEntryOfService F i x) a b c
      (adds_one (name_entry k x.name) a b one) (adds_map (λ (r : RpcDecl). name_entry l r.name) x.rpcs b c rpcs)
      service_to service_from

-- ---- numbers

pub numbers_next : {X : Type 0} (F : Joined) (xs : List X) (stands_in : X → Enclosing) (i : ℕ) (x : X)
    → slice_get xs i ≡ Some x → HaveNumbers F i xs stands_in → ((k : ℕ) × HasNumber F (stands_in x) k)
    → HaveNumbers F (i + 1) xs stands_in
numbers_next {X} F xs stands_in i x at known own j y l e = elim (cases_lt j i) [
  | inl k ↦ known j y k e
  | inr k ↦
      let same : j ≡ i = omega arith in
      let here : slice_get xs i ≡ Some y = subst (λ (n : ℕ). slice_get xs n ≡ Some y) same e in
      subst (λ (z : X). (n : ℕ) × HasNumber F (stands_in z) n) (same_Some x y (sym at ∙ here)) own
]

pub numbers_all : {X : Type 0} (F : Joined) (xs : List X) (stands_in : X → Enclosing) (i : ℕ) → i ≡ length xs
    → HaveNumbers F i xs stands_in → HaveNumbers F (length xs) xs stands_in
numbers_all F xs stands_in i e known = subst (λ (n : ℕ). HaveNumbers F n xs stands_in) e known

-- ---- starts

pub starts_next : (names : List DeclaredName) (i : ℕ) (d : DeclaredName) (s : Starts) → i < length names
    → AreStarts (entries_of (take i names) ++ name_entry_of (get_or names i d) ∷ []) s
    → AreStarts (entries_of (take (i + 1) names)) s
starts_next names i d s l known =
    subst (λ (es : List NameEntry). AreStarts es s)
    (sym (pushed (take i names) (take (i + 1) names) (get_or names i d) (name_entry_of (get_or names i d))
    (take_more names i d l) refl)) known
