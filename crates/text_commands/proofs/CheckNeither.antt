-- A text never has neither a table nor a fault.
use Rattle.std.proofs.Common.{ℕ, ◌+◌, ◌<◌, List, length, inl, inr, arith}
use Rattle.std.specs.Prelude.{codes}
use Rattle.mrpc_table.specs.declared.table.Table.{Table}
use Rattle.proto_set.specs.Bundle.{BundledFile as PackedFile, IsBundle, IsBundleOf}
use Rattle.proto_grammar.specs.Reason.{proto_word}
use Rattle.schema_validation.specs.Reason.{resolve_word}
use Rattle.schema_files.specs.Reason.{files_word}
use Rattle.schema_files.specs.Resolving.{IsFirstFilesFault}
use Rattle.schema_files.specs.declared.fault.FilesFault.{FilesFault}
use Rattle.schema_files.specs.declared.fault.FilesFault.TheVariants as files_fault
use Rattle.text_commands.specs.Checking.{HasDeclaredTable, IsCheckFault}
use Rattle.text_commands.specs.Checking.HasDeclaredTable.{a_file, a_set}
use Rattle.text_commands.specs.Checking.IsCheckFault.{unread, unresolved, no_such_file, wrong_path, in_set}
use Rattle.text_commands.specs.Laws.{FileLaw, SetLaw}
use Rattle.text_commands.specs.declared.check.FaultLocation.{FaultLocation}
use Rattle.text_commands.specs.declared.check.FaultLocation.TheVariants.{Line, InFile, OfFile}

abbrev HasNoTable : List ℕ → Type 0
HasNoTable text = (T : Table) → HasDeclaredTable text T → ⊥

abbrev HasNoFault : List ℕ → Type 0
HasNoFault text = (spot : FaultLocation) (word : List ℕ) → IsCheckFault text spot word → ⊥

file_neither : FileLaw → (text : List ℕ) → (IsBundle text → ⊥) → HasNoTable text → HasNoFault text → ⊥
file_neither law text alone no_table no_fault =
    elim (law.either text) [
      | inl F ↦
          law.never_neither text F.0 F.1 (λ T resolves. no_table T (a_file F.0 alone F.1 resolves))
          (λ q s offence. no_fault (Line s.line) (resolve_word q) (unresolved F.0 q s alone F.1 offence))
      | inr e ↦ no_fault (Line e.1.line) (proto_word e.0) (unread e.0 e.1 alone e.2)
    ]

first_broken : (text : List ℕ) (files : List PackedFile) → IsBundle text → IsBundleOf text files → HasNoFault text
    → (e : FilesFault) → IsFirstFilesFault files e → ⊥
first_broken text files set are no_fault (files_fault.Path i) stands =
    no_fault (OfFile (i + 1)) (codes "Path") (wrong_path files i set are stands)
first_broken text files set are no_fault (files_fault.At i l q) stands =
    no_fault (InFile (i + 1) l) (files_word q) (in_set files i l q set are stands)
first_broken text files set are no_fault files_fault.Memory none = none

set_neither : SetLaw → (text : List ℕ) → IsBundle text → HasNoTable text → HasNoFault text → ⊥
set_neither law text set no_table no_fault =
    elim (law.either text set) [
      | inl those ↦
          let some : 0 < length those.0 = omega (arith, those.1.some) in
          law.never_neither those.0 some (λ T resolves. no_table T (a_set those.0 set those.1 resolves))
          (first_broken text those.0 set those.1 no_fault)
      | inr e ↦ no_fault (OfFile e.0) (codes "Bundle") (no_such_file e.0 set e.1)
    ]

pub no_check_neither : FileLaw → SetLaw → (text : List ℕ) → HasNoTable text → HasNoFault text → ⊥
no_check_neither law sets text no_table no_fault =
    file_neither law text (λ set. set_neither sets text set no_table no_fault) no_table no_fault
