-- The payload of a hello (this project's own): the service's full name, a line feed, and the canonical text of the
-- table.
use Rattle.std.specs.Prelude.{◌≡◌, ◌≢◌, ◌⊎◌, ℕ, ◌+◌, List, ◌∷◌, ◌++◌, All}
use Rattle.mrpc_table.specs.Names.{IsFullName}
use Rattle.mrpc_table.specs.Text.{table_text}
use Rattle.mrpc_table.specs.Valid.{IsValid}
use Rattle.mrpc_table.specs.declared.table.Table.{Table}
use Rattle.table_text.specs.Faults.{IsFirstTableFault}
use Rattle.table_text.specs.declared.fault.TableReason.{TableReason}
use Rattle.schema_binding.specs.declared.fault.HelloFault.{HelloFault}
use Rattle.schema_binding.specs.declared.fault.HelloFault.TheVariants.{Bad, Memory}

abbrev pub hello_payload : List ℕ → Table → List ℕ
hello_payload service T = service ++ 10 ∷ table_text T

-- the code's own: the text is the canonical text of this valid table
pub record IsTextOf (text : List ℕ) (T : Table) : Type 0 where
  pub valid : IsValid T
  pub whole : text ≡ table_text T

-- the payload is that of this service and this table
pub record IsHello (payload service : List ℕ) (T : Table) : Type 0 where
  pub named : IsFullName service
  pub valid : IsValid T
  pub whole : payload ≡ hello_payload service T

-- the bytes have no line feed
abbrev pub HasNoLineFeed : List ℕ → Type 0
HasNoLineFeed bytes = All (λ byte. byte ≢ 10) bytes

-- The first line at fault, counted from 1. It is line 1, which lacks its line feed or is no full name, or one of the
-- lines of the table's text after it, or the line after them.
pub data IsFirstFaultyLine (payload : List ℕ) (line : ℕ) : Type 0 where
  no_line_feed : HasNoLineFeed payload → line ≡ 1 → IsFirstFaultyLine payload line
  no_full_name : (first text : List ℕ) → payload ≡ first ++ 10 ∷ text → HasNoLineFeed first → (IsFullName first → ⊥)
      → line ≡ 1 → IsFirstFaultyLine payload line
  no_table : (service text : List ℕ) (at : ℕ) (reason : TableReason) → payload ≡ service ++ 10 ∷ text
      → IsFullName service
      → IsFirstTableFault text at reason → line ≡ at + 1 → IsFirstFaultyLine payload line

-- what a fault means of a payload; `Memory` can come with any payload
abbrev pub IsHelloFaultOf : List ℕ → HelloFault → Type 0
IsHelloFaultOf payload (Bad line) = IsFirstFaultyLine payload line
IsHelloFaultOf payload Memory = Unit {0}

-- the code's own: what a fault means of the text after the service
abbrev pub IsTableTextFaultOf : List ℕ → HelloFault → Type 0
IsTableTextFaultOf text (Bad line) = (at : ℕ) × (reason : TableReason) × IsFirstTableFault text at reason
    × (line ≡ at + 1)
IsTableTextFaultOf text Memory = Unit {0}

-- a payload has at most one service and one table
abbrev pub IsHelloUnique : Type 0
IsHelloUnique = (payload service other : List ℕ) (T U : Table) → IsHello payload service T → IsHello payload other U
    → (service ≡ other) × (T ≡ U)

-- it has at most one first line at fault
abbrev pub IsFaultyLineUnique : Type 0
IsFaultyLineUnique = (payload : List ℕ) (line other : ℕ) → IsFirstFaultyLine payload line
    → IsFirstFaultyLine payload other → line ≡ other

-- it never has both
abbrev pub IsHelloExclusive : Type 0
IsHelloExclusive = (payload service : List ℕ) (T : Table) (line : ℕ) → IsHello payload service T
    → IsFirstFaultyLine payload line → ⊥

-- and it has one of the two
abbrev pub IsHelloOrFaulty : Type 0
IsHelloOrFaulty = (payload : List ℕ)
    → ((service : List ℕ) × (T : Table) × IsHello payload service T) ⊎ ((line : ℕ) × IsFirstFaultyLine payload line)
