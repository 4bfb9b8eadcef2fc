-- What files resolve to: their table if they have no violation, and else their first violation.
use Rattle.mrpc_table.specs.declared.table.Table.{Table}
use Rattle.proto_ast.specs.Joined.{Joined, alone}
use Rattle.proto_ast.specs.declared.file.Span.{Span}
use Rattle.proto_ast.specs.declared.file.File.{File}
use Rattle.schema_validation.specs.Violations.{IsViolated, HasFirstViolation, IsFileViolation, HasFirstFileViolation}
use Rattle.schema_validation.specs.declared.reason.ResolveReason.{ResolveReason}
use Rattle.schema_resolve.specs.Tables.{IsTableOf}
use Rattle.schema_resolve.specs.declared.fault.ResolveFault.{ResolveFault}
use Rattle.schema_resolve.specs.declared.fault.ResolveFault.TheVariants as fault

-- ---- files that are resolved together

-- the files have no violation
abbrev pub HasNoViolation : Joined → Type 0
HasNoViolation F = (q : ResolveReason) (span : Span) → IsViolated F q span → ⊥

pub record AreResolvedTogether (F : Joined) (T : Table) : Type 0 where
  pub table : IsTableOf F T
  pub clean : HasNoViolation F

-- what a fault means for the files; `Memory` means nothing
abbrev pub IsFaultOfAll : Joined → ResolveFault → Type 0
IsFaultOfAll F (fault.At q start end line) = HasFirstViolation F q (record { start = start; end = end; line = line })
IsFaultOfAll F fault.Memory = Unit {0}

-- ---- a file alone

-- a file resolves to a table; alone, a file with an import doesn't
pub record Resolves (F : File) (T : Table) : Type 0 where
  pub table : IsTableOf (alone F) T
  pub clean : (q : ResolveReason) (span : Span) → IsFileViolation F q span → ⊥

-- what a fault means for a file; `Memory` means nothing
abbrev pub IsFaultOf : File → ResolveFault → Type 0
IsFaultOf F (fault.At q start end line) = HasFirstFileViolation F q (record { start = start; end = end; line = line })
IsFaultOf F fault.Memory = Unit {0}
