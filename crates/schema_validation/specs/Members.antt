-- Violations of single messages, enums and services, and the name or number where each one is (Protocol Buffers,
-- proto3 language guide; the limits, and where each violation is, are this project's own). Each reason is at a span:
-- `Is REASON SPAN` is that one violation.
use Rattle.std.specs.Prelude.{◌≡◌, ◌≢◌, ℕ, ℤ, pos, ◌<◌, ◌≤◌, ◌≤ℤ◌, false, List, Some, IfSome, slice_get, Contains, FitsSigned}
use Rattle.std.specs.Int.{w32}
use Rattle.mrpc_table.specs.Names.{is_short}
use Rattle.mrpc_table.specs.Valid.{IsFieldNumber}
use Rattle.mrpc_table.specs.Words.{is_key}
use Rattle.mrpc_table.specs.declared.limits.TheConstants.{MAX_MESSAGES, MAX_ENUMS, MAX_METHODS, MAX_FIELDS, MAX_VALUES}
use Rattle.mrpc_table.specs.declared.table.Kind.{Kind}
use Rattle.proto_ast.specs.declared.file.Word.{Word}
use Rattle.proto_ast.specs.declared.file.Span.{Span}
use Rattle.proto_ast.specs.declared.file.Range.{Range}
use Rattle.proto_ast.specs.declared.file.FieldLabel.TheVariants.{Plain}
use Rattle.proto_ast.specs.declared.file.FieldType.TheVariants.{Named, Map, NestedMap}
use Rattle.proto_ast.specs.declared.file.FieldDecl.{FieldDecl}
use Rattle.proto_ast.specs.declared.file.MessageDecl.{MessageDecl}
use Rattle.proto_ast.specs.declared.file.ValueDecl.{ValueDecl}
use Rattle.proto_ast.specs.declared.file.EnumDecl.{EnumDecl}
use Rattle.proto_ast.specs.declared.file.RpcDecl.{RpcDecl}
use Rattle.proto_ast.specs.Joined.{Joined}
use Rattle.schema_symbols.specs.Scopes.{DeclKind, a_message, IsReferenceTo}
use Rattle.schema_symbols.specs.Lookups.{IsUnresolved}
use Rattle.schema_validation.specs.Types.{signed_value, IsScalar, IsNoScalar}
use Rattle.schema_validation.specs.declared.reason.ResolveReason.{ResolveReason}
use Rattle.schema_validation.specs.declared.reason.ResolveReason.TheVariants.{UnknownName, NumberRange, DuplicateNumber, Reserved, FirstEnum, MapKey, MapPlace, Limit}

-- this reason, here
abbrev pub Is : ResolveReason → Span → ResolveReason → Span → Type 0
Is reason span q s = (q ≡ reason) × (s ≡ span)

-- ---- types of fields and rpcs

abbrev pub IsNoMessage : Joined → ℕ → List (List ℕ) → List ℕ → Type 0
IsNoMessage F file scope name = (full : List (List ℕ)) → IsReferenceTo F file scope name a_message full → ⊥

-- the type of a field or of a map's value is not a scalar, and no message or enum has this name
pub record IsNoType (F : Joined) (file : ℕ) (scope : List (List ℕ)) (w : Word) (q : ResolveReason)
    (s : Span) : Type 0 where
  pub no_scalar : IsNoScalar w.name
  pub unknown : IsUnresolved F file scope w.name
  pub is : Is UnknownName w.span q s

-- the key of a map is an unknown name, a scalar that can't be a key, or a message or enum
pub data IsKeyViolation (F : Joined) (file : ℕ) (scope : List (List ℕ)) (key : Word) (q : ResolveReason)
    (s : Span) : Type 0 where
  unknown_key : IsNoType F file scope key q s → IsKeyViolation F file scope key q s
  scalar_key : (k : Kind) → IsScalar key.name k → is_key k ≡ false → Is MapKey key.span q s
      → IsKeyViolation F file scope key q s
  type_key : (sort : DeclKind) (full : List (List ℕ)) → IsNoScalar key.name → IsReferenceTo F file scope key.name sort full
      → Is MapKey key.span q s → IsKeyViolation F file scope key q s

-- a map that is the value of a map, has a label, or is in a oneof
pub data IsMisplacedMap (f : FieldDecl) : Type 0 where
  nested : (key : Word) → f.kind ≡ NestedMap key → IsMisplacedMap f
  labelled : (key value : Word) → f.kind ≡ Map key value → f.label ≢ Plain → IsMisplacedMap f
  in_oneof : (key value : Word) (o : ℕ) → f.kind ≡ Map key value → f.oneof ≡ Some o → IsMisplacedMap f

pub data IsTypeViolation (F : Joined) (file : ℕ) (scope : List (List ℕ)) (f : FieldDecl) (q : ResolveReason)
    (s : Span) : Type 0 where
  unknown_type : (w : Word) → f.kind ≡ Named w → IsNoType F file scope w q s → IsTypeViolation F file scope f q s
  bad_key : (k v : Word) → f.kind ≡ Map k v → IsKeyViolation F file scope k q s → IsTypeViolation F file scope f q s
  -- of the types of a map whose value is a map, only the outer key is checked
  bad_outer_key : (k : Word) → f.kind ≡ NestedMap k → IsKeyViolation F file scope k q s → IsTypeViolation F file scope f q s
  unknown_value : (k v : Word) → f.kind ≡ Map k v → IsNoType F file scope v q s → IsTypeViolation F file scope f q s
  misplaced : IsMisplacedMap f → Is MapPlace f.name.span q s → IsTypeViolation F file scope f q s

-- ---- numbers

abbrev pub IsFieldNumberOf : ℤ → Type 0
IsFieldNumberOf n = (k : ℕ) × (n ≡ pos k) × IsFieldNumber k

pub record IsInDeclaredRange (r : Range) (n : ℤ) : Type 0 where
  pub at_least : signed_value r.first ≤ℤ n
  pub at_most : IfSome r.last (λ last. n ≤ℤ signed_value last)

abbrev pub IsReserved : List Range → ℤ → Type 0
IsReserved ranges n = (r : Range) × Contains ranges r × IsInDeclaredRange r n

abbrev pub IsReservedName : List Word → List ℕ → Type 0
IsReservedName words name = (w : Word) × Contains words w × (w.name ≡ name)

-- the violations of the number of the field with an index
pub data IsNumberViolation (m : MessageDecl) (i : ℕ) (q : ResolveReason) (s : Span) : Type 0 where
  number_out_of_range : (f : FieldDecl) → slice_get m.fields i ≡ Some f → (IsFieldNumberOf (signed_value f.number) → ⊥)
      → Is NumberRange f.number.span q s → IsNumberViolation m i q s
  number_met_before : (f g : FieldDecl) (j : ℕ) → slice_get m.fields i ≡ Some f → j < i → slice_get m.fields j ≡ Some g
      → signed_value g.number ≡ signed_value f.number → Is DuplicateNumber f.number.span q s → IsNumberViolation m i q s
  number_reserved : (f : FieldDecl) → slice_get m.fields i ≡ Some f → IsReserved m.ranges (signed_value f.number)
      → Is Reserved f.number.span q s → IsNumberViolation m i q s

-- the violations of the number of the value with an index
pub data IsValueViolation (e : EnumDecl) (i : ℕ) (q : ResolveReason) (s : Span) : Type 0 where
  value_out_of_range : (v : ValueDecl) → slice_get e.values i ≡ Some v → (FitsSigned w32 (signed_value v.number) → ⊥)
      → Is NumberRange v.number.span q s → IsValueViolation e i q s
  value_reserved : (v : ValueDecl) → slice_get e.values i ≡ Some v → IsReserved e.ranges (signed_value v.number)
      → Is Reserved v.number.span q s → IsValueViolation e i q s
  first_not_zero : (v : ValueDecl) → slice_get e.values i ≡ Some v → i ≡ 0 → signed_value v.number ≢ pos 0
      → Is FirstEnum v.number.span q s → IsValueViolation e i q s

-- ---- names

-- a name of more than 64 bytes
abbrev pub IsLong : Word → ResolveReason → Span → Type 0
IsLong w q s = (is_short w.name ≡ false) × Is Limit w.span q s

-- the violations of a name: it is reserved, long, or past a limit
pub data IsNameViolation (names : List Word) (limit i : ℕ) (w : Word) (q : ResolveReason) (s : Span) : Type 0 where
  name_reserved : IsReservedName names w.name → Is Reserved w.span q s → IsNameViolation names limit i w q s
  name_long : IsLong w q s → IsNameViolation names limit i w q s
  name_too_many : limit ≤ i → Is Limit w.span q s → IsNameViolation names limit i w q s

-- ---- messages, enums and methods, after n others

pub data IsMessageViolation (F : Joined) (file : ℕ) (scope : List (List ℕ)) (n : ℕ) (m : MessageDecl) (q : ResolveReason)
    (s : Span) : Type 0 where
  too_many_messages : MAX_MESSAGES ≤ n → Is Limit m.name.span q s → IsMessageViolation F file scope n m q s
  long_message : IsLong m.name q s → IsMessageViolation F file scope n m q s
  of_type : (i : ℕ) (f : FieldDecl) → slice_get m.fields i ≡ Some f → IsTypeViolation F file scope f q s
      → IsMessageViolation F file scope n m q s
  of_number : (i : ℕ) → IsNumberViolation m i q s → IsMessageViolation F file scope n m q s
  of_name : (i : ℕ) (f : FieldDecl) → slice_get m.fields i ≡ Some f → IsNameViolation m.names MAX_FIELDS i f.name q s
      → IsMessageViolation F file scope n m q s
  of_oneof : (i : ℕ) (o : Word) → slice_get m.oneofs i ≡ Some o → IsLong o q s → IsMessageViolation F file scope n m q s

pub data IsEnumViolation (n : ℕ) (e : EnumDecl) (q : ResolveReason) (s : Span) : Type 0 where
  too_many_enums : MAX_ENUMS ≤ n → Is Limit e.name.span q s → IsEnumViolation n e q s
  long_enum : IsLong e.name q s → IsEnumViolation n e q s
  of_value : (i : ℕ) → IsValueViolation e i q s → IsEnumViolation n e q s
  of_value_name : (i : ℕ) (v : ValueDecl) → slice_get e.values i ≡ Some v → IsNameViolation e.names MAX_VALUES i v.name q s
      → IsEnumViolation n e q s

-- the types of an rpc are looked up in the package, and must be messages
pub data IsMethodViolation (F : Joined) (file : ℕ) (scope : List (List ℕ)) (n : ℕ) (r : RpcDecl) (q : ResolveReason)
    (s : Span) : Type 0 where
  too_many_methods : MAX_METHODS ≤ n → Is Limit r.name.span q s → IsMethodViolation F file scope n r q s
  long_method : IsLong r.name q s → IsMethodViolation F file scope n r q s
  no_input : IsNoMessage F file scope r.input.name → Is UnknownName r.input.span q s
      → IsMethodViolation F file scope n r q s
  no_output : IsNoMessage F file scope r.output.name → Is UnknownName r.output.span q s
      → IsMethodViolation F file scope n r q s
