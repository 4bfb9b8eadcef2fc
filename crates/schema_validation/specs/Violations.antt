-- Violations of files, and where they are (Protocol Buffers, proto3 language guide; the limits, and the name or
-- number where each violation is, are this project's own). Only the first one counts.
use Rattle.std.specs.Prelude.{◌≡◌, ◌⊎◌, ℕ, ◌<◌, ◌≤◌, true, false, List, [], ◌∷◌, ◌++◌, length, Option, Some, None, slice_get, Contains}
use Rattle.mrpc_table.specs.Names.{is_short_full}
use Rattle.mrpc_table.specs.declared.limits.TheConstants.{MAX_FULL_NAME}
use Rattle.proto_ast.specs.declared.file.Word.{Word}
use Rattle.proto_ast.specs.declared.file.Span.{Span}
use Rattle.proto_ast.specs.declared.file.Import.{Import}
use Rattle.proto_ast.specs.declared.file.MessageDecl.{MessageDecl}
use Rattle.proto_ast.specs.declared.file.EnumDecl.{EnumDecl}
use Rattle.proto_ast.specs.declared.file.RpcDecl.{RpcDecl}
use Rattle.proto_ast.specs.declared.file.ServiceDecl.{ServiceDecl}
use Rattle.proto_ast.specs.declared.file.File.{File}
use Rattle.proto_ast.specs.declared.joined.Head.{Head}
use Rattle.proto_ast.specs.declared.joined.Enclosing.TheVariants as home
use Rattle.proto_ast.specs.Joined.{Joined, alone, package_at}
use Rattle.schema_symbols.specs.Scopes.{DeclKind, is_type, text_of, IsScope, IsDeclarationOf, IsPackagePrefix}
use Rattle.schema_validation.specs.Methods.{rpcs_of}
use Rattle.schema_validation.specs.Members.{Is, IsLong, IsMessageViolation, IsEnumViolation, IsMethodViolation}
use Rattle.schema_validation.specs.Lines.{IsPastTextLimit}
use Rattle.schema_validation.specs.declared.first.Violation.{Violation}
use Rattle.schema_validation.specs.declared.reason.ResolveReason.{ResolveReason}
use Rattle.schema_validation.specs.declared.reason.ResolveReason.TheVariants.{UnknownName, NumberRange, DuplicateNumber, DuplicateName, Reserved, FirstEnum, MapKey, MapPlace, Limit, Import as HasImport}

-- ---- full names

-- a duplicate name, or a type with the name of a package or of a prefix of one
pub data IsDuplicate (F : Joined) (span : Span) : Type 0 where
  -- two declarations of one scope, at the later one
  declared : (j k : ℕ) (a b : DeclKind) (full : List (List ℕ)) (earlier : Span) → IsDeclarationOf F j a full earlier
      → IsDeclarationOf F k b full span → earlier.start < span.start → IsDuplicate F span
  -- a type with the name of a package
  a_package : (k : ℕ) (sort : DeclKind) (full : List (List ℕ)) → IsDeclarationOf F k sort full span → is_type sort ≡ true
      → IsPackagePrefix F full → IsDuplicate F span
  -- two rpcs of one service, at the later one
  two_rpcs : (s : ServiceDecl) (r x : RpcDecl) → Contains F.services s → Contains s.rpcs r → Contains s.rpcs x
      → r.name.name ≡ x.name.name → r.name.span.start < x.name.span.start → span ≡ x.name.span → IsDuplicate F span

-- a message, enum or service whose full name has more than 255 bytes
pub data IsLongInFull (F : Joined) (span : Span) : Type 0 where
  a_type : (k : ℕ) (sort : DeclKind) (full : List (List ℕ)) → IsDeclarationOf F k sort full span → is_type sort ≡ true
      → MAX_FULL_NAME < length (text_of full) → IsLongInFull F span
  a_service : (s : ServiceDecl) → Contains F.services s
      → MAX_FULL_NAME < length (text_of (package_at F s.file ++ s.name.name ∷ [])) → span ≡ s.name.span
      → IsLongInFull F span

-- ---- violations

pub data IsViolated (F : Joined) (q : ResolveReason) (s : Span) : Type 0 where
  of_message : (i : ℕ) (m : MessageDecl) {scope : List (List ℕ)} → slice_get F.messages i ≡ Some m
      → IsScope F (home.Message i) scope → IsMessageViolation F m.file scope i m q s → IsViolated F q s
  of_enum : (i : ℕ) (e : EnumDecl) → slice_get F.enums i ≡ Some e → IsEnumViolation i e q s → IsViolated F q s
  of_service : (i : ℕ) (x : ServiceDecl) → slice_get F.services i ≡ Some x → IsLong x.name q s → IsViolated F q s
  of_method : (i : ℕ) (x : ServiceDecl) (r : RpcDecl) → slice_get (rpcs_of F) i ≡ Some (x, r)
      → IsMethodViolation F x.file (package_at F x.file) i r q s → IsViolated F q s
  -- a package with a part of more than 64 bytes, or with more than 255 bytes
  of_package : (k : ℕ) (h : Head) (w : Word) → slice_get F.heads k ≡ Some h → h.package ≡ Some w
      → is_short_full w.name ≡ false → Is Limit w.span q s → IsViolated F q s
  twice : (span : Span) → IsDuplicate F span → Is DuplicateName span q s → IsViolated F q s
  long_in_full : (span : Span) → IsLongInFull F span → Is Limit span q s → IsViolated F q s
  long_text : (span : Span) → IsPastTextLimit F span → Is Limit span q s → IsViolated F q s

-- ---- a file alone

-- a file alone has no other file to import
pub data IsFileViolation (F : File) (q : ResolveReason) (s : Span) : Type 0 where
  offends : IsViolated (alone F) q s → IsFileViolation F q s
  has_import : (x : Import) → slice_get F.imports 0 ≡ Some x → Is HasImport x.span q s → IsFileViolation F q s

-- ---- the first one

-- the order of the reasons at one offset
abbrev pub violation_rank : ResolveReason → ℕ
violation_rank UnknownName = 1
violation_rank NumberRange = 2
violation_rank DuplicateNumber = 3
violation_rank DuplicateName = 4
violation_rank Reserved = 5
violation_rank FirstEnum = 6
violation_rank MapKey = 7
violation_rank MapPlace = 8
violation_rank Limit = 9
violation_rank HasImport = 10

abbrev pub IsNoLaterViolation : ResolveReason → Span → ResolveReason → Span → Type 0
IsNoLaterViolation q s r t = (s.start < t.start) ⊎ ((s.start ≡ t.start) × (violation_rank q ≤ violation_rank r))

-- the first violation of a file is here
pub record HasFirstFileViolation (F : File) (q : ResolveReason) (span : Span) : Type 0 where
  pub offence : IsFileViolation F q span
  pub first : (r : ResolveReason) (t : Span) → IsFileViolation F r t → IsNoLaterViolation q span r t

-- the first violation of files that are resolved together is here
pub record HasFirstViolation (F : Joined) (q : ResolveReason) (span : Span) : Type 0 where
  pub offence : IsViolated F q span
  pub first : (r : ResolveReason) (t : Span) → IsViolated F r t → IsNoLaterViolation q span r t

-- the result is the first violation of files that are resolved together, or there is none
abbrev pub IsFirstViolation : Joined → Option Violation → Type 0
IsFirstViolation F None = (q : ResolveReason) (s : Span) → IsViolated F q s → ⊥
IsFirstViolation F (Some o) = HasFirstViolation F o.reason o.span

-- the result is the first violation of a file alone, or there is none
abbrev pub IsFirstFileViolation : File → Option Violation → Type 0
IsFirstFileViolation F None = (q : ResolveReason) (s : Span) → IsFileViolation F q s → ⊥
IsFirstFileViolation F (Some o) = HasFirstFileViolation F o.reason o.span
