-- The first occurrences of the names of entries.
use Rattle.std.proofs.Common.{◌≡◌, ℕ, ◌+◌, ◌<◌, ◌⊎◌, inl, inr, Bool, true, false, cond, List, [], ◌∷◌, ◌++◌, length}
use Rattle.std.proofs.Common.{get_or, refl, sym, ap, ◌∙◌, subst, arith}
use Rattle.std.specs.Prelude.{◌↔◌, Option, Some, slice_get}
use Rattle.std.specs.Cmp.{Equal-is}
use Rattle.std.specs.Ordering.{nat_cmp, ordering_then, is_eq}
use Rattle.std.specs.Cmp.Lexicographic.{slice_cmp}
use Rattle.std.specs.declared.cmp.Ordering.{Ordering}
use Rattle.std.specs.declared.cmp.Ordering.TheVariants.{Equal}
use Rattle.std.proofs.lemmas.Bool.{false≢true}
use Rattle.std.proofs.lemmas.Cmp.{tied_itself, nat_cmp_total, nat_list_cmp_total}
use Rattle.std.proofs.lemmas.Map.Lookups.{exact_pairs, exact_unsigned, exact_bytes}
use Rattle.std.proofs.lemmas.List.Elements.{Contains-append_left, Contains-push, Contains-push_cases}
use Rattle.std.proofs.lemmas.List.{get_or_default}
use Rattle.std.proofs.lemmas.Option.{same_Some, slice_get_read}
use Rattle.proto_ast.specs.declared.file.Span.{Span}
use Rattle.schema_validation.specs.Recording.{first_violation_of, HasRecorded, IsOfFirst, IsOfElement}
use Rattle.schema_validation.specs.Entries.{NameEntry, HasEarlierStart, IsEarlierThan, start_in, AreStarts, IsRedeclared, name_entry_of, entries_of}
use Rattle.schema_validation.specs.declared.reason.ResolveReason.{ResolveReason}
use Rattle.schema_validation.specs.declared.reason.ResolveReason.TheVariants.{DuplicateName}
use Rattle.schema_validation.specs.declared.first.FirstViolation.{FirstViolation}
use Rattle.schema_validation.specs.declared.names.DeclaredName.{DeclaredName}
use Rattle.schema_validation.specs.declared.names.Starts.{Starts}
use Rattle.schema_validation.proofs.Meetings.{meets_when, meets_next}
use Rattle.schema_validation.proofs.EntryLists.{mapped_get}

-- the two names and their scopes are equal
abbrev same_child : ℕ → List ℕ → ℕ → List ℕ → Bool
same_child scope name k other = is_eq (ordering_then (nat_cmp scope k) (slice_cmp nat_cmp name other))

same_parts : (a : ℕ) (x : List ℕ) (k : ℕ) (y : List ℕ) → same_child a x k y ≡ true → (a ≡ k) × (x ≡ y)
same_parts a x k y h =
    let e : ordering_then (nat_cmp a k) (slice_cmp nat_cmp x y) ≡ Equal =
    (Equal-is (ordering_then (nat_cmp a k) (slice_cmp nat_cmp x y))).0 h in
    let p : ◌≡◌ {A = ℕ × List ℕ} (a, x) (k, y) =
    exact_pairs nat_cmp (slice_cmp nat_cmp) exact_unsigned exact_bytes (a, x) (k, y) e in
    (ap (λ (q : ℕ × List ℕ). q.0) p, ap (λ (q : ℕ × List ℕ). q.1) p)

same_itself : (k : ℕ) (x : List ℕ) → same_child k x k x ≡ true
same_itself k x =
    ap (λ (o : Ordering). is_eq (ordering_then o (slice_cmp nat_cmp x x))) (tied_itself nat_cmp_total k)
    ∙ ap is_eq (tied_itself nat_list_cmp_total x)

same_from : (a : ℕ) (x : List ℕ) (k : ℕ) (y : List ℕ) → a ≡ k → x ≡ y → same_child a x k y ≡ true
same_from a x k y e f =
    subst (λ (b : ℕ). same_child a x b y ≡ true) e
    (subst (λ (z : List ℕ). same_child a x a z ≡ true) f (same_itself a x))

starts_wider : (es : List NameEntry) (d : NameEntry) (k : ℕ) (name : List ℕ) (place : ℕ) → HasEarlierStart es k name place
    → HasEarlierStart (es ++ d ∷ []) k name place
starts_wider es d k name place s = record {
  earlier = s.earlier;
  among = Contains-append_left es (d ∷ []) s.earlier s.among;
  in_scope = s.in_scope;
  named = s.named;
  before = s.before;
}

starts_split : (es : List NameEntry) (d : NameEntry) (k : ℕ) (name : List ℕ) (place : ℕ)
    → HasEarlierStart (es ++ d ∷ []) k name place
    → HasEarlierStart es k name place ⊎ ((d.scope ≡ k) × (d.name ≡ name) × (d.span.start < place))
starts_split es d k name place s = elim (Contains-push_cases es d s.earlier s.among) [
  | inl c ↦ inl (record {
    earlier = s.earlier;
    among = c;
    in_scope = s.in_scope;
    named = s.named;
    before = s.before;
  })
  | inr e ↦ inr (
    ap (λ (x : NameEntry). x.scope) e ∙ s.in_scope,
    ap (λ (x : NameEntry). x.name) e ∙ s.named,
    subst (λ (x : NameEntry). x.span.start < place) (sym e) s.before,
  )
]

is_first : (o : Option ℕ) (start place : ℕ) → o ≡ Some start → IsEarlierThan o place → start < place
is_first o start place e b =
    let same : b.first ≡ start = same_Some b.first start (sym b.is ∙ e) in
    let l : b.first < place = b.before in
    omega arith

module _ (old new : Starts) (es : List NameEntry) (d : NameEntry) (start : ℕ)
    (lesser : (place : ℕ) → (start < place) ↔ (IsEarlierThan (start_in old d.scope d.name) place ⊎ (d.span.start < place)))
    (put : (k : ℕ) (name : List ℕ)
    → start_in new k name ≡ cond (same_child d.scope d.name k name) (Some start) (start_in old k name))
    (known : AreStarts es old) where
  abbrev Agrees : ℕ → List ℕ → Type 0
  Agrees k name = (place : ℕ) → IsEarlierThan (start_in new k name) place ↔ HasEarlierStart (es ++ d ∷ []) k name place

  own_start : start_in new d.scope d.name ≡ Some start
  own_start =
      put d.scope d.name
      ∙ ap (λ (b : Bool). cond b (Some start) (start_in old d.scope d.name)) (same_itself d.scope d.name)

  own_to : (place : ℕ) → IsEarlierThan (start_in new d.scope d.name) place → HasEarlierStart (es ++ d ∷ []) d.scope d.name place
  own_to place b = elim ((lesser place).0 (is_first (start_in new d.scope d.name) start place own_start b)) [
    | inl p ↦ starts_wider es d d.scope d.name place ((known d.scope d.name place).0 p)
    | inr p ↦ record {
      earlier = d;
      among = Contains-push es d;
      in_scope = refl;
      named = refl;
      before = p;
    }
  ]

  own_from : (place : ℕ) → HasEarlierStart (es ++ d ∷ []) d.scope d.name place
      → IsEarlierThan (start_in new d.scope d.name) place
  own_from place s =
      let l : start < place = elim (starts_split es d d.scope d.name place s) [
        | inl p ↦ (lesser place).1 (inl ((known d.scope d.name place).1 p))
        | inr p ↦ (lesser place).1 (inr p.2)
      ] in
      record { first = start; is = own_start; before = l }

  own : Agrees d.scope d.name
  own place = (own_to place, own_from place)

  other : (k : ℕ) (name : List ℕ) → same_child d.scope d.name k name ≡ false → Agrees k name
  other k name apart place =
      let same : start_in new k name ≡ start_in old k name =
      put k name ∙ ap (λ (b : Bool). cond b (Some start) (start_in old k name)) apart in (
        λ b. starts_wider es d k name place
            ((known k name place).0 (subst (λ (o : Option ℕ). IsEarlierThan o place) same b)),
        λ s. elim (starts_split es d k name place s) [
          | inl p ↦ subst (λ (o : Option ℕ). IsEarlierThan o place) (sym same) ((known k name place).1 p)
          | inr p ↦ absurd (false≢true (sym apart ∙ same_from d.scope d.name k name p.0 p.1))
        ],
      )

  agrees : (k : ℕ) (name : List ℕ) (b : Bool) → same_child d.scope d.name k name ≡ b → Agrees k name
  agrees k name true e =
      let p = same_parts d.scope d.name k name e in
      subst (λ (j : ℕ). Agrees j name) p.0 (subst (λ (x : List ℕ). Agrees d.scope x) p.1 own)
  agrees k name false e = other k name e

  pub starts_put : AreStarts (es ++ d ∷ []) new
  starts_put k name place = agrees k name (same_child d.scope d.name k name) refl place

-- ---- a name that also starts earlier

module _ (names : List DeclaredName) (starts : Starts) (known : AreStarts (entries_of names) starts) where
  abbrev Later : ℕ → NameEntry → ResolveReason → Span → Type 0
  Later = IsRedeclared (entries_of names)

  -- the next name is checked
  pub meets_later : (i : ℕ) (d : DeclaredName) (later : Bool) (a b c : FirstViolation) → i < length names
      → ((later ≡ true)
      ↔ IsEarlierThan (start_in starts (get_or names i d).scope (get_or names i d).name.now) (get_or names i d).span.start)
      → c.found
      ≡ cond later (Some (first_violation_of b.found (record { reason = DuplicateName; span = (get_or names i d).span }))) b.found
      → HasRecorded (IsOfFirst i (IsOfElement (entries_of names) Later)) a b
      → HasRecorded (IsOfFirst (i + 1) (IsOfElement (entries_of names) Later)) a c
  meets_later i d later a b c l test noted met =
      let x : DeclaredName = get_or names i d in
      let at : slice_get (entries_of names) i ≡ Some (name_entry_of x) =
      mapped_get name_entry_of names i x (slice_get_read names (length names) i x refl l (get_or_default names i d x l)) in
      let agrees = known x.scope x.name.now x.span.start in
      meets_next (entries_of names) Later i (name_entry_of x) a b c at met
      (meets_when (HasEarlierStart (entries_of names) x.scope x.name.now x.span.start) later DuplicateName x.span b c
      (λ e. agrees.0 (test.0 e)) (λ s. test.1 (agrees.1 s)) noted)
