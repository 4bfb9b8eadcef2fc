-- Every violation is at a name or a number, so files in order have at most one first violation.
use Rattle.std.proofs.Common.{◌≡◌, ℕ, zero, suc, ◌≤◌, ◌⊎◌, inl, inr, List, [], ◌∷◌, ◌++◌, length, map, refl, sym, ap, ◌∙◌, subst, arith}
use Rattle.std.specs.Prelude.{Some, slice_get, Contains}
use Rattle.std.specs.List.{flat_map}
use Rattle.std.proofs.lemmas.Option.{same_Some, none-some, slice_get_read}
use Rattle.proto_ast.specs.declared.file.Span.{Span}
use Rattle.proto_ast.specs.declared.file.Word.{Word}
use Rattle.proto_ast.specs.declared.file.FieldType.TheVariants.{Map, NestedMap}
use Rattle.proto_ast.specs.declared.file.FieldDecl.{FieldDecl}
use Rattle.proto_ast.specs.declared.file.MessageDecl.{MessageDecl}
use Rattle.proto_ast.specs.declared.file.EnumDecl.{EnumDecl}
use Rattle.proto_ast.specs.declared.file.RpcDecl.{RpcDecl}
use Rattle.proto_ast.specs.declared.file.ServiceDecl.{ServiceDecl}
use Rattle.proto_ast.specs.Joined.{Joined}
use Rattle.proto_ast.specs.Order
use Rattle.proto_ast.specs.Together
use Rattle.proto_ast.specs.Order.{DeclPart, its_type, its_key, its_value, its_name, its_number, its_input, its_output}
use Rattle.proto_ast.specs.Together.{DeclIndex, IsPartSpan, IsOrdered, message_decl, field_decl, oneof_decl, enum_decl, value_decl, service_decl, rpc_decl, package_decl}
use Rattle.schema_symbols.specs.Scopes
use Rattle.schema_symbols.specs.Scopes.{DeclKind, IsDeclarationOf}
use Rattle.schema_validation.specs.Methods.{service_rpcs}
use Rattle.schema_validation.specs.Members
use Rattle.schema_validation.specs.Members.{IsKeyViolation, IsTypeViolation, IsNumberViolation, IsValueViolation, IsNameViolation, IsMessageViolation, IsEnumViolation, IsMethodViolation}
use Rattle.schema_validation.specs.Lines
use Rattle.schema_validation.specs.Lines.{HasLine, IsPastTextLimit}
use Rattle.schema_validation.specs.Violations
use Rattle.schema_validation.specs.Violations.{IsDuplicate, IsLongInFull, IsViolated, IsNoLaterViolation, HasFirstViolation, violation_rank}
use Rattle.schema_validation.specs.declared.reason.ResolveReason.{ResolveReason}
use Rattle.schema_validation.specs.declared.reason.ResolveReason.TheVariants.{UnknownName, NumberRange, DuplicateNumber}
use Rattle.schema_validation.specs.declared.reason.ResolveReason.TheVariants.{DuplicateName, Reserved, FirstEnum}
use Rattle.schema_validation.specs.declared.reason.ResolveReason.TheVariants.{MapKey, MapPlace, Limit}
use Rattle.schema_validation.specs.declared.reason.ResolveReason.TheVariants.{Import as HasImport}

-- a name or a number has this span
abbrev Stands : Joined → Span → Type 0
Stands F s = (x : DeclIndex) × (p : DeclPart) × IsPartSpan F s x p

-- ---- indices

placed : {X : Type 0} (xs : List X) (x : X) → Contains xs x → (i : ℕ) × (slice_get xs i ≡ Some x)
placed xs x c = (c.0, slice_get_read xs (length xs) c.0 x refl c.1 (sym c.2))

-- an element of the pairs of an item with its parts, or of the elements after them
mapped_or_later : (s : ServiceDecl) (rs : List RpcDecl) (later : List (ServiceDecl × RpcDecl)) (i : ℕ)
    (x : ServiceDecl) (r : RpcDecl) → slice_get (map (λ y. (s, y)) rs ++ later) i ≡ Some (x, r)
    → ((s ≡ x) × ((j : ℕ) × (slice_get rs j ≡ Some r))) ⊎ ((k : ℕ) × (slice_get later k ≡ Some (x, r)))
mapped_or_later s [] later i x r e = inr (i, e)
mapped_or_later s (y ∷ ys) later zero x r e =
    let p : ◌≡◌ {A = ServiceDecl × RpcDecl} (s, y) (x, r) = same_Some (s, y) (x, r) e in
    inl (ap (λ (q : ServiceDecl × RpcDecl). q.0) p, (0, ap (λ (q : ServiceDecl × RpcDecl). Some q.1) p))
mapped_or_later s (y ∷ ys) later (suc i) x r e = elim (mapped_or_later s ys later i x r e) [
  | inl p ↦ inl (p.0, (suc p.1.0, p.1.1))
  | inr p ↦ inr p
]

rpc_placed : (services : List ServiceDecl) (i : ℕ) (x : ServiceDecl) (r : RpcDecl)
    → slice_get (flat_map service_rpcs services) i ≡ Some (x, r)
    → (a : ℕ) × (b : ℕ) × (slice_get services a ≡ Some x) × (slice_get x.rpcs b ≡ Some r)
rpc_placed [] i x r e = absurd (none-some (x, r) e)
rpc_placed (s ∷ ss) i x r e = elim (mapped_or_later s s.rpcs (flat_map service_rpcs ss) i x r e) [
  | inl p ↦ (0, p.1.0, ap Some p.0, subst (λ (y : ServiceDecl). slice_get y.rpcs p.1.0 ≡ Some r) p.0 p.1.1)
  | inr p ↦
      let o = rpc_placed ss p.0 x r p.1 in
      (suc o.0, o.1, o.2, o.3)
]

-- ---- members

module _ (F : Joined) (s : Span) where
  key_stands : (G : Joined) (file : ℕ) (scope : List (List ℕ)) (i j : ℕ) (m : MessageDecl) (f : FieldDecl) (k v : Word)
      (q : ResolveReason) → slice_get F.messages i ≡ Some m → slice_get m.fields j ≡ Some f
      → f.kind ≡ Map k v → IsKeyViolation G file scope k q s → Stands F s
  key_stands G file scope i j m f k v q at fat e (Members.unknown_key o) =
      (field_decl i j, its_key, Together.field i j m f at fat (Order.map_key k v e o.is.1))
  key_stands G file scope i j m f k v q at fat e (Members.scalar_key n a b is) =
      (field_decl i j, its_key, Together.field i j m f at fat (Order.map_key k v e is.1))
  key_stands G file scope i j m f k v q at fat e (Members.type_key a b c d is) =
      (field_decl i j, its_key, Together.field i j m f at fat (Order.map_key k v e is.1))

  outer_stands : (G : Joined) (file : ℕ) (scope : List (List ℕ)) (i j : ℕ) (m : MessageDecl) (f : FieldDecl) (k : Word)
      (q : ResolveReason) → slice_get F.messages i ≡ Some m → slice_get m.fields j ≡ Some f
      → f.kind ≡ NestedMap k → IsKeyViolation G file scope k q s → Stands F s
  outer_stands G file scope i j m f k q at fat e (Members.unknown_key o) =
      (field_decl i j, its_key, Together.field i j m f at fat (Order.outer_key k e o.is.1))
  outer_stands G file scope i j m f k q at fat e (Members.scalar_key n a b is) =
      (field_decl i j, its_key, Together.field i j m f at fat (Order.outer_key k e is.1))
  outer_stands G file scope i j m f k q at fat e (Members.type_key a b c d is) =
      (field_decl i j, its_key, Together.field i j m f at fat (Order.outer_key k e is.1))

  type_stands : (G : Joined) (file : ℕ) (scope : List (List ℕ)) (i j : ℕ) (m : MessageDecl) (f : FieldDecl)
      (q : ResolveReason) → slice_get F.messages i ≡ Some m → slice_get m.fields j ≡ Some f
      → IsTypeViolation G file scope f q s → Stands F s
  type_stands G file scope i j m f q at fat (Members.unknown_type w e o) =
      (field_decl i j, its_type, Together.field i j m f at fat (Order.field_type w e o.is.1))
  type_stands G file scope i j m f q at fat (Members.bad_key k v e o) = key_stands G file scope i j m f k v q at fat e o
  type_stands G file scope i j m f q at fat (Members.bad_outer_key k e o) = outer_stands G file scope i j m f k q at fat e o
  type_stands G file scope i j m f q at fat (Members.unknown_value k v e o) =
      (field_decl i j, its_value, Together.field i j m f at fat (Order.map_value k v e o.is.1))
  type_stands G file scope i j m f q at fat (Members.misplaced o is) =
      (field_decl i j, its_name, Together.field i j m f at fat (Order.field_name is.1))

  number_stands : (i j : ℕ) (m : MessageDecl) (q : ResolveReason) → slice_get F.messages i ≡ Some m
      → IsNumberViolation m j q s → Stands F s
  number_stands i j m q at (Members.number_out_of_range f fat o is) =
      (field_decl i j, its_number, Together.field i j m f at fat (Order.field_number is.1))
  number_stands i j m q at (Members.number_met_before f g k fat l gat e is) =
      (field_decl i j, its_number, Together.field i j m f at fat (Order.field_number is.1))
  number_stands i j m q at (Members.number_reserved f fat o is) =
      (field_decl i j, its_number, Together.field i j m f at fat (Order.field_number is.1))

  value_stands : (i j : ℕ) (e : EnumDecl) (q : ResolveReason) → slice_get F.enums i ≡ Some e
      → IsValueViolation e j q s → Stands F s
  value_stands i j e q at (Members.value_out_of_range v vat o is) =
      (value_decl i j, its_number, Together.value i j e v at vat (Order.value_number is.1))
  value_stands i j e q at (Members.value_reserved v vat o is) =
      (value_decl i j, its_number, Together.value i j e v at vat (Order.value_number is.1))
  value_stands i j e q at (Members.first_not_zero v vat z o is) =
      (value_decl i j, its_number, Together.value i j e v at vat (Order.value_number is.1))

  name_is : (names : List Word) (limit i : ℕ) (w : Word) (q : ResolveReason) → IsNameViolation names limit i w q s
      → s ≡ w.span
  name_is names limit i w q (Members.name_reserved o is) = is.1
  name_is names limit i w q (Members.name_long o) = o.1.1
  name_is names limit i w q (Members.name_too_many o is) = is.1

  message_stands : (G : Joined) (file : ℕ) (scope : List (List ℕ)) (n i : ℕ) (m : MessageDecl) (q : ResolveReason)
      → slice_get F.messages i ≡ Some m → IsMessageViolation G file scope n m q s → Stands F s
  message_stands G file scope n i m q at (Members.too_many_messages l is) =
      (message_decl i, its_name, Together.message i m at is.1)
  message_stands G file scope n i m q at (Members.long_message o) =
      (message_decl i, its_name, Together.message i m at o.1.1)
  message_stands G file scope n i m q at (Members.of_type j f fat o) = type_stands G file scope i j m f q at fat o
  message_stands G file scope n i m q at (Members.of_number j o) = number_stands i j m q at o
  message_stands G file scope n i m q at (Members.of_name j f fat o) =
      (field_decl i j, its_name, Together.field i j m f at fat (Order.field_name (name_is m.names _ j f.name q o)))
  message_stands G file scope n i m q at (Members.of_oneof j w oat o) =
      (oneof_decl i j, its_name, Together.oneof i j m w at oat o.1.1)

  enum_stands : (n i : ℕ) (e : EnumDecl) (q : ResolveReason) → slice_get F.enums i ≡ Some e
      → IsEnumViolation n e q s → Stands F s
  enum_stands n i e q at (Members.too_many_enums l is) = (enum_decl i, its_name, Together.enum i e at is.1)
  enum_stands n i e q at (Members.long_enum o) = (enum_decl i, its_name, Together.enum i e at o.1.1)
  enum_stands n i e q at (Members.of_value j o) = value_stands i j e q at o
  enum_stands n i e q at (Members.of_value_name j v vat o) =
      (value_decl i j, its_name, Together.value i j e v at vat (Order.value_name (name_is e.names _ j v.name q o)))

  method_stands : (G : Joined) (file : ℕ) (scope : List (List ℕ)) (n a b : ℕ) (x : ServiceDecl) (r : RpcDecl)
      (q : ResolveReason) → slice_get F.services a ≡ Some x → slice_get x.rpcs b ≡ Some r
      → IsMethodViolation G file scope n r q s → Stands F s
  method_stands G file scope n a b x r q at rat (Members.too_many_methods l is) =
      (rpc_decl a b, its_name, Together.rpc a b x r at rat (Order.rpc_name is.1))
  method_stands G file scope n a b x r q at rat (Members.long_method o) =
      (rpc_decl a b, its_name, Together.rpc a b x r at rat (Order.rpc_name o.1.1))
  method_stands G file scope n a b x r q at rat (Members.no_input o is) =
      (rpc_decl a b, its_input, Together.rpc a b x r at rat (Order.rpc_input is.1))
  method_stands G file scope n a b x r q at rat (Members.no_output o is) =
      (rpc_decl a b, its_output, Together.rpc a b x r at rat (Order.rpc_output is.1))

-- ---- declarations and lines

declared_stands : (F : Joined) (file : ℕ) (sort : DeclKind) (full : List (List ℕ)) (s : Span) → IsDeclarationOf F file sort full s
    → Stands F s
declared_stands F file sort full s (Scopes.message m c is) =
    let p = placed F.messages m c in
    (message_decl p.0, its_name, Together.message p.0 m p.1 refl)
declared_stands F file sort full s (Scopes.enum e c is) =
    let p = placed F.enums e c in
    (enum_decl p.0, its_name, Together.enum p.0 e p.1 refl)
declared_stands F file sort full s (Scopes.service x c) =
    let p = placed F.services x c in
    (service_decl p.0, its_name, Together.service p.0 x p.1 refl)
declared_stands F file sort full s (Scopes.value e v c d is) =
    let p = placed F.enums e c in
    let o = placed e.values v d in
    (value_decl p.0 o.0, its_name, Together.value p.0 o.0 e v p.1 o.1 (Order.value_name refl))
declared_stands F file sort full s (Scopes.field m f c d is) =
    let p = placed F.messages m c in
    let o = placed m.fields f d in
    (field_decl p.0 o.0, its_name, Together.field p.0 o.0 m f p.1 o.1 (Order.field_name refl))
declared_stands F file sort full s (Scopes.oneof m w c d is) =
    let p = placed F.messages m c in
    let o = placed m.oneofs w d in
    (oneof_decl p.0 o.0, its_name, Together.oneof p.0 o.0 m w p.1 o.1 refl)

line_stands : (F : Joined) (s : Span) (line : List ℕ) → HasLine F s line → Stands F s
line_stands F s line (Lines.of_message m c is) =
    let p = placed F.messages m c in
    (message_decl p.0, its_name, Together.message p.0 m p.1 refl)
line_stands F s line (Lines.of_enum e c is) =
    let p = placed F.enums e c in
    (enum_decl p.0, its_name, Together.enum p.0 e p.1 refl)
line_stands F s line (Lines.of_value e v h fits) =
    let p = placed F.enums e h.enum in
    let o = placed e.values v h.value in
    (value_decl p.0 o.0, its_name, Together.value p.0 o.0 e v p.1 o.1 (Order.value_name refl))
line_stands F s line (Lines.of_field m f n h e k form) =
    let o = placed m.fields f h.field in
    (field_decl h.place o.0, its_name, Together.field h.place o.0 m f h.message o.1 (Order.field_name refl))
line_stands F s line (Lines.of_method x r i at a b) =
    let p = rpc_placed F.services i x r at in
    (rpc_decl p.0 p.1, its_name, Together.rpc p.0 p.1 x r p.2 p.3 (Order.rpc_name refl))

-- ---- violations

twice_stands : (F : Joined) (s : Span) → IsDuplicate F s → Stands F s
twice_stands F s (Violations.declared j k a b full earlier d e l) = declared_stands F k b full s e
twice_stands F s (Violations.a_package k sort full d t front) = declared_stands F k sort full s d
twice_stands F s (Violations.two_rpcs x r t c d e name l is) =
    let p = placed F.services x c in
    let o = placed x.rpcs t e in
    (rpc_decl p.0 o.0, its_name, Together.rpc p.0 o.0 x t p.1 o.1 (Order.rpc_name is))

long_stands : (F : Joined) (s : Span) → IsLongInFull F s → Stands F s
long_stands F s (Violations.a_type k sort full d t l) = declared_stands F k sort full s d
long_stands F s (Violations.a_service x c l e) =
    let p = placed F.services x c in
    (service_decl p.0, its_name, Together.service p.0 x p.1 e)

text_stands : (F : Joined) (s : Span) → IsPastTextLimit F s → Stands F s
text_stands F s p =
    let k = p.last.0 in
    let has = p.are k (s, p.own) p.last.1 in
    line_stands F s p.own (subst (λ (l : Span × List ℕ). HasLine F l.0 l.1) p.last.2 has)

pub offends_stands : (F : Joined) (q : ResolveReason) (s : Span) → IsViolated F q s → Stands F s
offends_stands F q s (Violations.of_message i m at is o) = message_stands F s _ _ _ _ i m q at o
offends_stands F q s (Violations.of_enum i e at o) = enum_stands F s _ i e q at o
offends_stands F q s (Violations.of_service i x at o) = (service_decl i, its_name, Together.service i x at o.1.1)
offends_stands F q s (Violations.of_method i x r at o) =
    let p = rpc_placed F.services i x r at in
    method_stands F s _ _ _ _ p.0 p.1 x r q p.2 p.3 o
offends_stands F q s (Violations.of_package k h w at e l is) =
    (package_decl k, its_name, Together.package_name k h w at e is.1)
offends_stands F q s (Violations.twice span t is) = subst (Stands F) (sym is.1) (twice_stands F span t)
offends_stands F q s (Violations.long_in_full span t is) = subst (Stands F) (sym is.1) (long_stands F span t)
offends_stands F q s (Violations.long_text span t is) = subst (Stands F) (sym is.1) (text_stands F span t)

-- ---- the first violation is unique

-- the reason of a rank
reason_of : ℕ → ResolveReason
reason_of (suc zero) = UnknownName
reason_of (suc (suc zero)) = NumberRange
reason_of (suc (suc (suc zero))) = DuplicateNumber
reason_of (suc (suc (suc (suc zero)))) = DuplicateName
reason_of (suc (suc (suc (suc (suc zero))))) = Reserved
reason_of (suc (suc (suc (suc (suc (suc zero)))))) = FirstEnum
reason_of (suc (suc (suc (suc (suc (suc (suc zero))))))) = MapKey
reason_of (suc (suc (suc (suc (suc (suc (suc (suc zero)))))))) = MapPlace
reason_of (suc (suc (suc (suc (suc (suc (suc (suc (suc zero))))))))) = Limit
reason_of n = HasImport

reason_back : (q : ResolveReason) → reason_of (violation_rank q) ≡ q
unfolding reason_of
reason_back UnknownName = refl
reason_back NumberRange = refl
reason_back DuplicateNumber = refl
reason_back DuplicateName = refl
reason_back Reserved = refl
reason_back FirstEnum = refl
reason_back MapKey = refl
reason_back MapPlace = refl
reason_back Limit = refl
reason_back HasImport = refl

one_reason : (q r : ResolveReason) → violation_rank q ≡ violation_rank r → q ≡ r
one_reason q r e = sym (reason_back q) ∙ (ap reason_of e ∙ reason_back r)

one_start : (q r : ResolveReason) (s t : Span) → IsNoLaterViolation q s r t → IsNoLaterViolation r t q s
    → (s.start ≡ t.start) × (violation_rank q ≡ violation_rank r)
one_start q r s t (inl a) (inl b) = absurd (omega arith)
one_start q r s t (inl a) (inr b) = let e : t.start ≡ s.start = b.0 in absurd (omega arith)
one_start q r s t (inr a) (inl b) = let e : s.start ≡ t.start = a.0 in absurd (omega arith)
one_start q r s t (inr a) (inr b) =
    let k : violation_rank q ≤ violation_rank r = a.1 in
    let l : violation_rank r ≤ violation_rank q = b.1 in
    (a.0, omega arith)

-- two first violations of files in order are equal
pub first_is_one : (F : Joined) (q r : ResolveReason) (s t : Span) → IsOrdered F → HasFirstViolation F q s → HasFirstViolation F r t
    → (q ≡ r) × (s ≡ t)
first_is_one F q r s t order a b =
    let same = one_start q r s t (a.first r t b.offence) (b.first q s a.offence) in
    let x = offends_stands F q s a.offence in
    let y = offends_stands F r t b.offence in
    (one_reason q r same.1, (order.apart x.0 y.0 x.1 y.1 s t x.2 y.2 same.0).2)
