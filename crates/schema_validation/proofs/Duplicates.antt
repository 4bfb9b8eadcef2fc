-- Duplicate names: the entries by numbers of scopes agree with the full names, and those with the number of a service
-- are two rpcs of the service with the same name.
use Rattle.std.proofs.Common.{◌≡◌, ℕ, ◌+◌, ◌<◌, ◌⊎◌, inl, inr, true, List, [], ◌∷◌, ◌++◌, length, refl, sym, ap, ◌∙◌, subst, arith, length-append}
use Rattle.std.specs.Prelude.{Some, slice_get, Contains}
use Rattle.std.proofs.lemmas.List.{append_assoc}
use Rattle.std.proofs.lemmas.Option.{same_Some, slice_get_within}
use Rattle.proto_ast.specs.declared.file.Span.{Span}
use Rattle.proto_ast.specs.declared.file.MessageDecl.{MessageDecl}
use Rattle.proto_ast.specs.declared.file.EnumDecl.{EnumDecl}
use Rattle.proto_ast.specs.declared.file.RpcDecl.{RpcDecl}
use Rattle.proto_ast.specs.declared.file.ServiceDecl.{ServiceDecl}
use Rattle.proto_ast.specs.Joined.{Joined, enclosing_of, enclosing_of_enum, package_at}
use Rattle.proto_ast.specs.declared.joined.Enclosing.{Enclosing}
use Rattle.proto_ast.specs.declared.joined.Enclosing.TheVariants as home
use Rattle.schema_symbols.specs.Scopes
use Rattle.schema_symbols.specs.Scopes.{IsScope, of_file, of_message, DeclKind, a_message, an_enum, no_type, is_type, IsDeclarationOf, IsPackagePrefix}
use Rattle.schema_symbols.specs.Numbers.{IsScopeNumber, scope_count}
use Rattle.schema_validation.specs.Violations
use Rattle.schema_validation.specs.Violations.{IsDuplicate}
use Rattle.schema_validation.specs.Recording.{HasRecorded, IsOfAny, IsOfElement, IsDuplicateViolation}
use Rattle.schema_validation.specs.Entries
use Rattle.schema_validation.specs.Entries.{NameEntry, name_entry, HasNumber, HaveNumbers, HaveOwnNumbers, IsEntryOfMessage, IsEntryOfEnum, IsEntryOfService, IsEntryOfAny, HasAddedEntries, IsRedeclared, IsPackageNamed}
use Rattle.schema_validation.specs.declared.reason.ResolveReason.{ResolveReason}
use Rattle.schema_validation.specs.declared.reason.ResolveReason.TheVariants.{DuplicateName}
use Rattle.schema_validation.specs.declared.first.FirstViolation.{FirstViolation}
use Rattle.schema_validation.proofs.Meetings.{meets_as}
use Rattle.schema_validation.proofs.EntryLists.{get_contains, contains_get}

-- ---- lists

pub last_same : {X : Type 0} (xs ys : List X) (x y : X) → xs ++ x ∷ [] ≡ ys ++ y ∷ [] → (xs ≡ ys) × (x ≡ y)
last_same [] [] x y e = let h : x ≡ y = cc in (refl, h)
last_same {X} [] (b ∷ ys) x y e = absurd (omega (arith, ap length e, length-append ys (y ∷ [])))
last_same {X} (a ∷ xs) [] x y e = absurd (omega (arith, ap length e, length-append xs (x ∷ [])))
last_same (a ∷ xs) (b ∷ ys) x y e =
    let rest : xs ++ x ∷ [] ≡ ys ++ y ∷ [] = cc in
    let r = last_same xs ys x y rest in
    let head : a ≡ b = cc in
    let front : xs ≡ ys = r.0 in
    let whole : a ∷ xs ≡ b ∷ ys = cc in
    (whole, r.1)

-- two elements at the end
two_last : {X : Type 0} (xs : List X) (x y : X) → (xs ++ x ∷ []) ++ y ∷ [] ≡ xs ++ x ∷ y ∷ []
two_last xs x y = append_assoc xs (x ∷ []) (y ∷ [])

-- ---- full names

-- the scope of a message
record MessageScope (F : Joined) (i : ℕ) (s : List (List ℕ)) : Type 0 where
  pub decl : MessageDecl
  pub outer : List (List ℕ)
  pub at : slice_get F.messages i ≡ Some decl
  pub up : IsScope F (enclosing_of decl) outer
  pub is : s ≡ outer ++ decl.name.name ∷ []

message_scope : {F : Joined} {i : ℕ} {s : List (List ℕ)} → IsScope F (home.Message i) s → MessageScope F i s
message_scope (of_message i m {outer} at up) = record { decl = m; outer = outer; at = at; up = up; is = refl }

-- the laws of numbers
pub record Laws (F : Joined) : Type 0 where
  pub scope : (s t : List (List ℕ)) (k : ℕ) → IsScopeNumber F s k → IsScopeNumber F t k → s ≡ t
  pub number : (s : List (List ℕ)) (k l : ℕ) → IsScopeNumber F s k → IsScopeNumber F s l → k ≡ l
  pub small : (s : List (List ℕ)) (k : ℕ) → IsScopeNumber F s k → k < scope_count F
  pub place : (p : Enclosing) (s t : List (List ℕ)) → IsScope F p s → IsScope F p t → s ≡ t

-- the entries that are collected
abbrev IsKept : Joined → NameEntry → Type 0
IsKept F e = (IsEntryOfAny F.messages (IsEntryOfMessage F) e ⊎ IsEntryOfAny F.enums (IsEntryOfEnum F) e) ⊎ IsEntryOfAny F.services (IsEntryOfService F) e

pub record Keeps (F : Joined) (es : List NameEntry) : Type 0 where
  pub one : (e : NameEntry) → Contains es e → IsKept F e
  pub each : (e : NameEntry) → IsKept F e → Contains es e

pub keeps : (F : Joined) (none a b c : List NameEntry) → none ≡ [] → HasAddedEntries (IsEntryOfAny F.messages (IsEntryOfMessage F)) none a
    → HasAddedEntries (IsEntryOfAny F.enums (IsEntryOfEnum F)) a b → HasAddedEntries (IsEntryOfAny F.services (IsEntryOfService F)) b c → Keeps F c
keeps F none a b c empty p q r = record {
  one = λ e h. elim (r.one e h) [
    | inr z ↦ inr z
    | inl y ↦ elim (q.one e y) [
      | inr z ↦ inl (inr z)
      | inl x ↦ elim (p.one e x) [
        | inr z ↦ inl (inl z)
        | inl w ↦
            let v : Contains [] e = subst (λ (l : List NameEntry). Contains l e) empty w in
            let l : v.0 < 0 = v.1 in
            absurd (omega arith)
      ]
    ]
  ];
  each = λ e h. elim h [
    | inl x ↦ r.each e (inl (elim x [
      | inl y ↦ q.each e (inl (p.each e (inr y)))
      | inr y ↦ q.each e (inr y)
    ]))
    | inr x ↦ r.each e (inr x)
  ];
}

-- the scopes that enclose declarations have numbers
pub record Numbered (F : Joined) : Type 0 where
  pub of_messages : HaveNumbers F (length F.messages) F.messages enclosing_of
  pub own : HaveOwnNumbers F (length F.messages)
  pub of_enums : HaveNumbers F (length F.enums) F.enums enclosing_of_enum
  pub of_services : HaveNumbers F (length F.services) F.services (λ s. home.File s.file)

module _ (F : Joined) (es : List NameEntry) (laws : Laws F) (numbers : Numbered F) (kept : Keeps F es) where
  -- ---- collected entries are declared

  data IsDeclared (e : NameEntry) : Type 0 where
    in_scope : (file : ℕ) (sort : DeclKind) (full : List (List ℕ)) → IsScopeNumber F full e.scope
        → IsDeclarationOf F file sort (full ++ e.name ∷ []) e.span → IsDeclared e
    in_service : (i : ℕ) (s : ServiceDecl) (r : RpcDecl) → slice_get F.services i ≡ Some s → Contains s.rpcs r
        → e ≡ name_entry (scope_count F + i) r.name → IsDeclared e

  declared_message : (i : ℕ) (m : MessageDecl) (e : NameEntry) → slice_get F.messages i ≡ Some m → IsEntryOfMessage F i m e
      → IsDeclared e
  declared_message i m e at (Entries.message k h) =
      in_scope m.file a_message h.full h.number (Scopes.message m (get_contains F.messages i m at) h.is_scope)
  declared_message i m e at (Entries.field k f h c) =
      let ms = message_scope h.is_scope in
      let same : ms.decl ≡ m = same_Some ms.decl m (sym ms.at ∙ at) in
      let up : IsScope F (enclosing_of m) ms.outer =
      subst (λ (d : MessageDecl). IsScope F (enclosing_of d) ms.outer) same ms.up in
      let is : h.full ++ f.name.name ∷ [] ≡ ms.outer ++ m.name.name ∷ f.name.name ∷ [] =
      ap (λ (s : List (List ℕ)). s ++ f.name.name ∷ [])
      (ms.is ∙ ap (λ (d : MessageDecl). ms.outer ++ d.name.name ∷ []) same)
      ∙ two_last ms.outer m.name.name f.name.name in
      in_scope m.file no_type h.full h.number
      (subst (λ (s : List (List ℕ)). IsDeclarationOf F m.file no_type s f.name.span) (sym is)
      (Scopes.field m f (get_contains F.messages i m at) c up))
  declared_message i m e at (Entries.oneof k o h c) =
      let ms = message_scope h.is_scope in
      let same : ms.decl ≡ m = same_Some ms.decl m (sym ms.at ∙ at) in
      let up : IsScope F (enclosing_of m) ms.outer =
      subst (λ (d : MessageDecl). IsScope F (enclosing_of d) ms.outer) same ms.up in
      let is : h.full ++ o.name ∷ [] ≡ ms.outer ++ m.name.name ∷ o.name ∷ [] =
      ap (λ (s : List (List ℕ)). s ++ o.name ∷ [])
      (ms.is ∙ ap (λ (d : MessageDecl). ms.outer ++ d.name.name ∷ []) same)
      ∙ two_last ms.outer m.name.name o.name in
      in_scope m.file no_type h.full h.number
      (subst (λ (s : List (List ℕ)). IsDeclarationOf F m.file no_type s o.span) (sym is)
      (Scopes.oneof m o (get_contains F.messages i m at) c up))

  declared_enum : (i : ℕ) (x : EnumDecl) (e : NameEntry) → slice_get F.enums i ≡ Some x → IsEntryOfEnum F i x e → IsDeclared e
  declared_enum i x e at (Entries.enum k h) =
      in_scope x.file an_enum h.full h.number (Scopes.enum x (get_contains F.enums i x at) h.is_scope)
  declared_enum i x e at (Entries.value k v h c) =
      in_scope x.file no_type h.full h.number (Scopes.value x v (get_contains F.enums i x at) c h.is_scope)

  declared_service : (i : ℕ) (s : ServiceDecl) (e : NameEntry) → slice_get F.services i ≡ Some s → IsEntryOfService F i s e
      → IsDeclared e
  declared_service i s e at (Entries.service k h) =
      let same : h.full ≡ package_at F s.file =
      laws.place (home.File s.file) h.full (package_at F s.file) h.is_scope (of_file s.file) in
      in_scope s.file no_type h.full h.number
      (subst (λ (l : List (List ℕ)). IsDeclarationOf F s.file no_type (l ++ s.name.name ∷ []) s.name.span) (sym same)
      (Scopes.service s (get_contains F.services i s at)))
  declared_service i s e at (Entries.rpc r c) = in_service i s r at c refl

  declared : (e : NameEntry) → IsKept F e → IsDeclared e
  declared e (inl (inl o)) = declared_message o.place o.thing e o.at o.is
  declared e (inl (inr o)) = declared_enum o.place o.thing e o.at o.is
  declared e (inr o) = declared_service o.place o.thing e o.at o.is

  -- ---- an entry that is later in its scope is a duplicate

  twice : (d e : NameEntry) → d.scope ≡ e.scope → d.name ≡ e.name → d.span.start < e.span.start
      → IsDeclared d → IsDeclared e → IsDuplicate F e.span
  twice d e scope name l (in_scope j a s n p) (in_scope k b t o q) =
      let same : s ≡ t = laws.scope s t e.scope (subst (IsScopeNumber F s) scope n) o in
      let full : s ++ d.name ∷ [] ≡ t ++ e.name ∷ [] = cc in
      Violations.declared j k a b (t ++ e.name ∷ []) d.span
      (subst (λ (x : List (List ℕ)). IsDeclarationOf F j a x d.span) full p) q l
  twice d e scope name l (in_scope j a s n p) (in_service i x r at c is) =
      absurd (omega (arith, laws.small s d.scope n, scope, ap (λ (y : NameEntry). y.scope) is))
  twice d e scope name l (in_service i x r at c is) (in_scope k b t o q) =
      absurd (omega (arith, laws.small t e.scope o, scope, ap (λ (y : NameEntry). y.scope) is))
  twice d e scope name l (in_service i x r at c is) (in_service j y q bt b es) =
      let place : i ≡ j = omega (arith, scope, ap (λ (z : NameEntry). z.scope) is, ap (λ (z : NameEntry). z.scope) es) in
      let same : y ≡ x = same_Some y x (sym bt ∙ (ap (slice_get F.services) (sym place) ∙ at)) in
      let names : r.name.name ≡ q.name.name =
      sym (ap (λ (z : NameEntry). z.name) is) ∙ (name ∙ ap (λ (z : NameEntry). z.name) es) in
      let one : d.span ≡ r.name.span = ap (λ (z : NameEntry). z.span) is in
      let other : e.span ≡ q.name.span = ap (λ (z : NameEntry). z.span) es in
      let before : r.name.span.start < q.name.span.start =
      omega (arith, l, ap (λ (z : Span). z.start) one, ap (λ (z : Span). z.start) other) in
      Violations.two_rpcs x r q (get_contains F.services i x at) c
      (subst (λ (z : ServiceDecl). Contains z.rpcs q) same b) names before other

  abbrev Later : ResolveReason → Span → Type 0
  Later = IsOfAny (IsOfElement es (IsRedeclared es))

  -- the violations that are recorded
  abbrev pub Noted : ResolveReason → Span → Type 0
  Noted q s =
      (Later q s ⊎ IsOfAny (IsOfElement F.messages (λ i m. IsPackageNamed F (enclosing_of m) m.name)) q s)
      ⊎ IsOfAny (IsOfElement F.enums (λ i e. IsPackageNamed F (enclosing_of_enum e) e.name)) q s

  noted_twice : (q : ResolveReason) (s : Span) → Noted q s → IsDuplicateViolation F q s
  noted_twice q s (inl (inl n)) =
      let e = n.is.element in
      let b = n.is.is.0 in (
        e.span,
        twice b.earlier e b.in_scope b.named b.before (declared b.earlier (kept.one b.earlier b.among))
            (declared e (kept.one e (get_contains es n.place e n.is.at))),
        n.is.is.1,
      )
  noted_twice q s (inl (inr n)) =
      let m = n.is.element in (
        m.name.span,
        Violations.a_package m.file a_message (n.is.is.scope ++ m.name.name ∷ [])
            (Scopes.message m (get_contains F.messages n.place m n.is.at) n.is.is.is_scope) refl n.is.is.front,
        n.is.is.is,
      )
  noted_twice q s (inr n) =
      let x = n.is.element in (
        x.name.span,
        Violations.a_package x.file an_enum (n.is.is.scope ++ x.name.name ∷ [])
            (Scopes.enum x (get_contains F.enums n.place x n.is.at) n.is.is.is_scope) refl n.is.is.front,
        n.is.is.is,
      )

  -- ---- duplicates are recorded

  -- a declaration is collected, with the number of its scope
  record IsGathered (full : List (List ℕ)) (span : Span) : Type 0 where
    scope : List (List ℕ)
    name : List ℕ
    number : ℕ
    is_number : IsScopeNumber F scope number
    is : full ≡ scope ++ name ∷ []
    among : Contains es (record { scope = number; name = name; span = span })

  message_number : (i : ℕ) (m : MessageDecl) → slice_get F.messages i ≡ Some m → (k : ℕ) × HasNumber F (enclosing_of m) k
  message_number i m at = numbers.of_messages i m (slice_get_within F.messages i m at) at

  enum_number : (i : ℕ) (x : EnumDecl) → slice_get F.enums i ≡ Some x → (k : ℕ) × HasNumber F (enclosing_of_enum x) k
  enum_number i x at = numbers.of_enums i x (slice_get_within F.enums i x at) at

  service_number : (i : ℕ) (x : ServiceDecl) → slice_get F.services i ≡ Some x
      → (k : ℕ) × HasNumber F (home.File x.file) k
  service_number i x at = numbers.of_services i x (slice_get_within F.services i x at) at

  keep_message : (i : ℕ) (m : MessageDecl) (e : NameEntry) → slice_get F.messages i ≡ Some m → IsEntryOfMessage F i m e
      → Contains es e
  keep_message i m e at o =
      kept.each e (inl (inl (record {
        place = i;
        thing = m;
        below = slice_get_within F.messages i m at;
        at = at;
        is = o;
      })))

  keep_enum : (i : ℕ) (x : EnumDecl) (e : NameEntry) → slice_get F.enums i ≡ Some x → IsEntryOfEnum F i x e
      → Contains es e
  keep_enum i x e at o =
      kept.each e (inl (inr (record {
        place = i;
        thing = x;
        below = slice_get_within F.enums i x at;
        at = at;
        is = o;
      })))

  keep_service : (i : ℕ) (x : ServiceDecl) (e : NameEntry) → slice_get F.services i ≡ Some x → IsEntryOfService F i x e
      → Contains es e
  keep_service i x e at o =
      kept.each e (inr (record {
        place = i;
        thing = x;
        below = slice_get_within F.services i x at;
        at = at;
        is = o;
      }))

  -- the number of an enclosing file or message is that of its scope
  number_of : (place : Enclosing) (scope : List (List ℕ)) (k : ℕ) → IsScope F place scope → HasNumber F place k
      → IsScopeNumber F scope k
  number_of place scope k is h =
      subst (λ (s : List (List ℕ)). IsScopeNumber F s k) (laws.place place h.full scope h.is_scope is) h.number

  gathered : (file : ℕ) (sort : DeclKind) (full : List (List ℕ)) (span : Span) → IsDeclarationOf F file sort full span
      → IsGathered full span
  gathered file sort full span (Scopes.message m {outer} c is) =
      let p = contains_get F.messages m c in
      let k = message_number p.0 m p.1 in
      record {
        scope = outer;
        name = m.name.name;
        number = k.0;
        is_number = number_of (enclosing_of m) outer k.0 is k.1;
        is = refl;
        among = keep_message p.0 m (name_entry k.0 m.name) p.1 (Entries.message k.0 k.1);
      }
  gathered file sort full span (Scopes.enum x {outer} c is) =
      let p = contains_get F.enums x c in
      let k = enum_number p.0 x p.1 in
      record {
        scope = outer;
        name = x.name.name;
        number = k.0;
        is_number = number_of (enclosing_of_enum x) outer k.0 is k.1;
        is = refl;
        among = keep_enum p.0 x (name_entry k.0 x.name) p.1 (Entries.enum k.0 k.1);
      }
  gathered file sort full span (Scopes.service x c) =
      let p = contains_get F.services x c in
      let k = service_number p.0 x p.1 in
      record {
        scope = package_at F x.file;
        name = x.name.name;
        number = k.0;
        is_number = number_of (home.File x.file) (package_at F x.file) k.0 (of_file x.file) k.1;
        is = refl;
        among = keep_service p.0 x (name_entry k.0 x.name) p.1 (Entries.service k.0 k.1);
      }
  gathered file sort full span (Scopes.value x v {outer} c d is) =
      let p = contains_get F.enums x c in
      let k = enum_number p.0 x p.1 in
      record {
        scope = outer;
        name = v.name.name;
        number = k.0;
        is_number = number_of (enclosing_of_enum x) outer k.0 is k.1;
        is = refl;
        among = keep_enum p.0 x (name_entry k.0 v.name) p.1 (Entries.value k.0 v k.1 d);
      }
  gathered file sort full span (Scopes.field m f {outer} c d is) =
      let p = contains_get F.messages m c in
      let k = numbers.own p.0 (slice_get_within F.messages p.0 m p.1) in
      let own : IsScope F (home.Message p.0) (outer ++ m.name.name ∷ []) = of_message p.0 m p.1 is in
      record {
        scope = outer ++ m.name.name ∷ [];
        name = f.name.name;
        number = k.0;
        is_number = number_of (home.Message p.0) (outer ++ m.name.name ∷ []) k.0 own k.1;
        is = sym (two_last outer m.name.name f.name.name);
        among = keep_message p.0 m (name_entry k.0 f.name) p.1 (Entries.field k.0 f k.1 d);
      }
  gathered file sort full span (Scopes.oneof m w {outer} c d is) =
      let p = contains_get F.messages m c in
      let k = numbers.own p.0 (slice_get_within F.messages p.0 m p.1) in
      let own : IsScope F (home.Message p.0) (outer ++ m.name.name ∷ []) = of_message p.0 m p.1 is in
      record {
        scope = outer ++ m.name.name ∷ [];
        name = w.name;
        number = k.0;
        is_number = number_of (home.Message p.0) (outer ++ m.name.name ∷ []) k.0 own k.1;
        is = sym (two_last outer m.name.name w.name);
        among = keep_message p.0 m (name_entry k.0 w) p.1 (Entries.oneof k.0 w k.1 d);
      }

  -- the later one of two entries of one scope
  later_noted : (x y : NameEntry) → Contains es x → Contains es y → x.scope ≡ y.scope → x.name ≡ y.name
      → x.span.start < y.span.start → Noted DuplicateName y.span
  later_noted x y c d scope name l =
      let p = contains_get es y d in
      inl (inl (record {
        place = p.0;
        is = record {
          element = y;
          at = p.1;
          is = (record { earlier = x; among = c; in_scope = scope; named = name; before = l }, (refl, refl));
        };
      }))

  pair_noted : (full : List (List ℕ)) (s t : Span) → s.start < t.start → IsGathered full s → IsGathered full t
      → Noted DuplicateName t
  pair_noted full s t l a b =
      let same = last_same a.scope b.scope a.name b.name (sym a.is ∙ b.is) in
      let number : a.number ≡ b.number =
      laws.number b.scope a.number b.number
      (subst (λ (x : List (List ℕ)). IsScopeNumber F x a.number) same.0 a.is_number) b.is_number in
      later_noted (record { scope = a.number; name = a.name; span = s })
      (record { scope = b.number; name = b.name; span = t })
      a.among b.among number same.1 l

  rpcs_noted : (x : ServiceDecl) (r u : RpcDecl) → Contains F.services x → Contains x.rpcs r → Contains x.rpcs u
      → r.name.name ≡ u.name.name → r.name.span.start < u.name.span.start → Noted DuplicateName u.name.span
  rpcs_noted x r u c d e name l =
      let p = contains_get F.services x c in
      let scope = scope_count F + p.0 in
      later_noted (name_entry scope r.name) (name_entry scope u.name)
      (keep_service p.0 x (name_entry scope r.name) p.1 (Entries.rpc r d))
      (keep_service p.0 x (name_entry scope u.name) p.1 (Entries.rpc u e)) refl name l

  -- a type with the name of a package
  type_noted : (file : ℕ) (sort : DeclKind) (full : List (List ℕ)) (span : Span) → IsDeclarationOf F file sort full span
      → is_type sort ≡ true → IsPackagePrefix F full → Noted DuplicateName span
  type_noted file sort full span (Scopes.message m {outer} c is) h front =
      let p = contains_get F.messages m c in
      inl (inr (record {
        place = p.0;
        is = record {
          element = m;
          at = p.1;
          is = record { scope = outer; is_scope = is; front = front; is = (refl, refl) };
        };
      }))
  type_noted file sort full span (Scopes.enum x {outer} c is) h front =
      let p = contains_get F.enums x c in
      inr (record {
        place = p.0;
        is = record {
          element = x;
          at = p.1;
          is = record { scope = outer; is_scope = is; front = front; is = (refl, refl) };
        };
      })
  type_noted file sort full span (Scopes.service x c) h front = absurd cc
  type_noted file sort full span (Scopes.value e v c d is) h front = absurd cc
  type_noted file sort full span (Scopes.field m f c d is) h front = absurd cc
  type_noted file sort full span (Scopes.oneof m o c d is) h front = absurd cc

  span_noted : (span : Span) → IsDuplicate F span → Noted DuplicateName span
  span_noted span (Violations.declared j k a b full earlier d e l) =
      pair_noted full earlier span l (gathered j a full earlier d) (gathered k b full span e)
  span_noted span (Violations.a_package k sort full d t front) = type_noted k sort full span d t front
  span_noted span (Violations.two_rpcs x r u c d e name l is) =
      subst (Noted DuplicateName) (sym is) (rpcs_noted x r u c d e name l)

  twice_noted : (q : ResolveReason) (s : Span) → IsDuplicateViolation F q s → Noted q s
  twice_noted q s p =
      subst (λ (r : ResolveReason). Noted r s) (sym p.2.0)
      (subst (Noted DuplicateName) (sym p.2.1) (span_noted p.0 p.1))

  pub meets_twice : (a b : FirstViolation) → HasRecorded Noted a b → HasRecorded (IsDuplicateViolation F) a b
  meets_twice a b m = meets_as Noted (IsDuplicateViolation F) a b m noted_twice twice_noted
