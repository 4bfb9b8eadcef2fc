-- The violations of the types of a field are those that their checks record.
use Rattle.std.proofs.Common.{◌≡◌, ℕ, ◌⊎◌, inl, inr, Bool, true, false, cond, not, List, refl, sym, subst}
use Rattle.std.specs.Prelude.{Option, Some, is_some, MatchOption}
use Rattle.mrpc_table.specs.Words.{is_key}
use Rattle.mrpc_table.specs.declared.table.Kind.{Kind}
use Rattle.proto_ast.specs.declared.file.Word.{Word}
use Rattle.proto_ast.specs.declared.file.Span.{Span}
use Rattle.proto_ast.specs.declared.file.FieldType.{FieldType}
use Rattle.proto_ast.specs.declared.file.FieldType.TheVariants.{Named, Map, NestedMap}
use Rattle.proto_ast.specs.declared.file.FieldDecl.{FieldDecl}
use Rattle.proto_ast.specs.Joined.{Joined}
use Rattle.schema_symbols.specs.Numbers.{decl_kind}
use Rattle.schema_validation.specs.Types.{IsNoScalar}
use Rattle.schema_validation.specs.Members
use Rattle.schema_symbols.specs.Lookups.{IsUnresolved}
use Rattle.schema_validation.specs.Members.{Is, IsNoType, IsKeyViolation, IsMisplacedMap, IsTypeViolation}
use Rattle.schema_validation.specs.Shapes.{IsType, may_be_key}
use Rattle.schema_validation.specs.Recording.{first_violation_of, IsWhere, HasRecorded}
use Rattle.schema_validation.specs.declared.types.TypeOf.{TypeOf}
use Rattle.schema_validation.specs.declared.types.TypeOf.TheVariants.{Scalar, Named as OfName}
use Rattle.schema_validation.specs.declared.reason.ResolveReason.{ResolveReason}
use Rattle.schema_validation.specs.declared.reason.ResolveReason.TheVariants.{UnknownName, MapKey, MapPlace}
use Rattle.schema_validation.specs.declared.first.FirstViolation.{FirstViolation}
use Rattle.schema_validation.proofs.Scalars.{scalar_one}
use Rattle.schema_validation.proofs.Meetings.{meets_noted, meets_where, meets_as}
use Rattle.schema_validation.proofs.Unless.{meets_unless}

-- ---- an unknown type

abbrev IsNone : Joined → ℕ → List (List ℕ) → Word → Type 0
IsNone F file scope w = IsNoScalar w.name × IsUnresolved F file scope w.name

known_type : (F : Joined) (file : ℕ) (scope : List (List ℕ)) (w : Word) (t : TypeOf) → IsType F file scope w.name t
    → IsNone F file scope w → ⊥
known_type F file scope w (Scalar k) is none = none.0 k is
known_type F file scope w (OfName n) is none = none.1 (decl_kind n) is.1.0 is.1.1

pub meets_no_type : (F : Joined) (file : ℕ) (scope : List (List ℕ)) (w : Word) (o : Option TypeOf) (missing : Bool)
    (a b : FirstViolation)
    → is_some o ≡ not missing
    → MatchOption o (IsNoScalar w.name × IsUnresolved F file scope w.name) (IsType F file scope w.name)
    → b.found ≡ cond missing (Some (first_violation_of a.found (record { reason = UnknownName; span = w.span }))) a.found
    → HasRecorded (IsNoType F file scope w) a b
meets_no_type F file scope w o missing a b e m is =
    meets_as (λ q s. IsNone F file scope w × Is UnknownName w.span q s) (IsNoType F file scope w) a b
    (meets_unless (IsNone F file scope w) (IsType F file scope w.name) o missing UnknownName w.span a b e m
    (λ t h. known_type F file scope w t) is)
    (λ q s p. record { no_scalar = p.0.0; unknown = p.0.1; is = p.1 })
    (λ q s p. ((p.no_scalar, p.unknown), p.is))

-- ---- the key of a map

not_true : (b : Bool) → not b ≡ true → b ≡ false
not_true true e = absurd cc
not_true false e = refl

true_not : (b : Bool) → b ≡ false → not b ≡ true
true_not true e = absurd cc
true_not false e = refl

key_to : (F : Joined) (file : ℕ) (scope : List (List ℕ)) (key : Word) (t : TypeOf) → IsType F file scope key.name t
    → (q : ResolveReason) (s : Span) → IsWhere (not (may_be_key t)) MapKey key.span q s
    → IsKeyViolation F file scope key q s
key_to F file scope key (Scalar k) is q s p = Members.scalar_key k is (not_true (is_key k) p.0) p.1
key_to F file scope key (OfName n) is q s p = Members.type_key (decl_kind n) is.1.0 is.0 is.1.1 p.1

key_from : (F : Joined) (file : ℕ) (scope : List (List ℕ)) (key : Word) (t : TypeOf) → IsType F file scope key.name t
    → (q : ResolveReason) (s : Span) → IsKeyViolation F file scope key q s
    → IsWhere (not (may_be_key t)) MapKey key.span q s
key_from F file scope key t is q s (Members.unknown_key p) =
    absurd (known_type F file scope key t is (p.no_scalar, p.unknown))
key_from F file scope key (Scalar k) is q s (Members.scalar_key j named bad here) =
    (true_not (is_key k) (subst (λ (i : Kind). is_key i ≡ false) (scalar_one key.name j k named is) bad), here)
key_from F file scope key (OfName n) is q s (Members.scalar_key j named bad here) = absurd (is.0 j named)
key_from F file scope key (Scalar k) is q s (Members.type_key sort full none names here) = absurd (none k is)
key_from F file scope key (OfName n) is q s (Members.type_key sort full none names here) = (refl, here)

pub meets_key : (F : Joined) (file : ℕ) (scope : List (List ℕ)) (key : Word) (t : TypeOf) (bad : Bool) (a b : FirstViolation)
    → IsType F file scope key.name t → bad ≡ not (may_be_key t)
    → b.found ≡ cond bad (Some (first_violation_of a.found (record { reason = MapKey; span = key.span }))) a.found
    → HasRecorded (IsKeyViolation F file scope key) a b
meets_key F file scope key t bad a b is e noted =
    meets_as (IsWhere (not (may_be_key t)) MapKey key.span) (IsKeyViolation F file scope key) a b
    (meets_where (not (may_be_key t)) MapKey key.span a b
    (subst (λ (x : Bool). b.found ≡ cond x (Some (first_violation_of a.found (record { reason = MapKey; span = key.span })))
    a.found)
    e noted))
    (key_to F file scope key t is) (key_from F file scope key t is)

no_key_from : (F : Joined) (file : ℕ) (scope : List (List ℕ)) (key : Word)
    → IsNoScalar key.name × IsUnresolved F file scope key.name
    → (q : ResolveReason) (s : Span) → IsKeyViolation F file scope key q s → Is UnknownName key.span q s
no_key_from F file scope key none q s (Members.unknown_key p) = p.is
no_key_from F file scope key none q s (Members.scalar_key j named bad here) = absurd (none.0 j named)
no_key_from F file scope key none q s (Members.type_key sort full n names here) = absurd (none.1 sort full names)

pub meets_no_key : (F : Joined) (file : ℕ) (scope : List (List ℕ)) (key : Word) (a b : FirstViolation)
    → IsNoScalar key.name × IsUnresolved F file scope key.name
    → b.found ≡ Some (first_violation_of a.found (record { reason = UnknownName; span = key.span }))
    → HasRecorded (IsKeyViolation F file scope key) a b
meets_no_key F file scope key a b none noted =
    meets_as (Is UnknownName key.span) (IsKeyViolation F file scope key) a b (meets_noted UnknownName key.span a b noted)
    (λ q s p. Members.unknown_key (record { no_scalar = none.0; unknown = none.1; is = p }))
    (no_key_from F file scope key none)

-- ---- the types of a field

abbrev pub KindOffends : Joined → ℕ → List (List ℕ) → FieldType → ResolveReason → Span → Type 0
KindOffends F file scope (Named w) q s = IsNoType F file scope w q s
KindOffends F file scope (Map k v) q s = IsKeyViolation F file scope k q s ⊎ IsNoType F file scope v q s
KindOffends F file scope (NestedMap k) q s = IsKeyViolation F file scope k q s

kind_to : (F : Joined) (file : ℕ) (scope : List (List ℕ)) (f : FieldDecl) (kind : FieldType) → f.kind ≡ kind
    → (q : ResolveReason) (s : Span) → KindOffends F file scope kind q s → IsTypeViolation F file scope f q s
kind_to F file scope f (Named w) e q s p = Members.unknown_type w e p
kind_to F file scope f (Map k v) e q s (inl p) = Members.bad_key k v e p
kind_to F file scope f (Map k v) e q s (inr p) = Members.unknown_value k v e p
kind_to F file scope f (NestedMap k) e q s p = Members.bad_outer_key k e p

pub type_to : (F : Joined) (file : ℕ) (scope : List (List ℕ)) (f : FieldDecl) (q : ResolveReason) (s : Span)
    → (KindOffends F file scope f.kind q s ⊎ (IsMisplacedMap f × Is MapPlace f.name.span q s))
    → IsTypeViolation F file scope f q s
type_to F file scope f q s (inl p) = kind_to F file scope f f.kind refl q s p
type_to F file scope f q s (inr p) = Members.misplaced p.0 p.1

pub type_from : (F : Joined) (file : ℕ) (scope : List (List ℕ)) (f : FieldDecl) (q : ResolveReason) (s : Span)
    → IsTypeViolation F file scope f q s → KindOffends F file scope f.kind q s
    ⊎ (IsMisplacedMap f × Is MapPlace f.name.span q s)
type_from F file scope f q s (Members.unknown_type w e p) =
    inl (subst (λ (k : FieldType). KindOffends F file scope k q s) (sym e) p)
type_from F file scope f q s (Members.bad_key k v e p) =
    inl (subst (λ (k : FieldType). KindOffends F file scope k q s) (sym e) (inl p))
type_from F file scope f q s (Members.bad_outer_key k e p) =
    inl (subst (λ (x : FieldType). KindOffends F file scope x q s) (sym e) p)
type_from F file scope f q s (Members.unknown_value k v e p) =
    inl (subst (λ (k : FieldType). KindOffends F file scope k q s) (sym e) (inr p))
type_from F file scope f q s (Members.misplaced p is) = inr (p, is)
