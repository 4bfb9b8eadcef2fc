-- A text has one table or one fault.
use Rattle.std.proofs.Common.{◌≡◌, ℕ, ◌+◌, List, ap, subst, refl}
use Rattle.mrpc_table.specs.declared.table.Table.{Table}
use Rattle.proto_set.specs.Bundle.{BundledFile as PackedFile, IsBundleOf}
use Rattle.proto_ast.specs.declared.file.File.{File}
use Rattle.proto_ast.specs.declared.file.Span.{Span}
use Rattle.proto_grammar.specs.Reason.{proto_word}
use Rattle.schema_validation.specs.Violations.{HasFirstFileViolation}
use Rattle.schema_validation.specs.Reason.{resolve_word}
use Rattle.schema_resolve.specs.Resolving.{Resolves}
use Rattle.schema_files.specs.Reason.{files_word}
use Rattle.schema_files.specs.Resolving.{AreResolvedTo, IsFirstFilesFault}
use Rattle.schema_files.specs.declared.fault.FilesReason.{FilesReason}
use Rattle.schema_files.specs.declared.fault.FilesFault.{FilesFault}
use Rattle.schema_files.specs.declared.fault.FilesFault.TheVariants as files_fault
use Rattle.text_commands.specs.Checking.{HasDeclaredTable, IsCheckFault}
use Rattle.text_commands.specs.Checking.HasDeclaredTable.{a_file, a_set}
use Rattle.text_commands.specs.Checking.IsCheckFault.{unread, unresolved, no_such_file, wrong_path, in_set}
use Rattle.text_commands.specs.Laws.{FileLaw, SetLaw}
use Rattle.text_commands.specs.declared.check.FaultLocation.{FaultLocation}
use Rattle.text_commands.specs.declared.check.FaultLocation.TheVariants.{Line, InFile, OfFile}

-- ---- sets of files

same_set : SetLaw → {text : List ℕ} {files others : List PackedFile} → IsBundleOf text files → IsBundleOf text others → others ≡ files
same_set law {text} {files} {others} a b = law.set_is_unique text others files b a

set_fault : SetLaw → {text : List ℕ} {files others : List PackedFile} → IsBundleOf text files → IsBundleOf text others
    → (e : FilesFault) → IsFirstFilesFault others e → IsFirstFilesFault files e
set_fault law {text} {files} {others} a b e fault =
    subst (λ (fs : List PackedFile). IsFirstFilesFault fs e) (same_set law a b) fault

same_path : (i j : ℕ) → files_fault.Path i ≡ files_fault.Path j → i ≡ j
same_path i j e = cc

same_file : (i j l k : ℕ) (q r : FilesReason) → files_fault.At i l q ≡ files_fault.At j k r → (i ≡ j) × (l ≡ k) × (q ≡ r)
same_file i j l k q r e = (cc, cc, cc)

not_path : (i j l : ℕ) (q : FilesReason) → files_fault.Path i ≡ files_fault.At j l q → ⊥
not_path i j l q e = absurd cc

-- ---- one table

pub one_of_each : FileLaw → SetLaw → (text : List ℕ) (T U : Table) → HasDeclaredTable text T → HasDeclaredTable text U → T ≡ U
one_of_each law sets text T U (a_file F alone reads resolves) (a_file G alone' reads' resolves') =
    let same = law.file_is_unique text G F reads' reads in
    let other : Resolves F U = subst (λ (f : File). Resolves f U) same resolves' in
    law.table_is_unique text F T U reads resolves.table other.table
one_of_each law sets text T U (a_file F alone reads resolves) (a_set files set are resolves') = absurd (alone set)
one_of_each law sets text T U (a_set files set are resolves) (a_file G alone reads resolves') = absurd (alone set)
one_of_each law sets text T U (a_set files set are resolves) (a_set others set' are' resolves') =
    sets.table_is_unique files T U resolves (subst (λ (fs : List PackedFile). AreResolvedTo fs U) (same_set sets are are') resolves')

-- ---- one fault

pub one_check_fault : FileLaw → SetLaw → (text : List ℕ) (m n : FaultLocation) (w v : List ℕ) → IsCheckFault text m w → IsCheckFault text n v
    → (m ≡ n) × (w ≡ v)
one_check_fault law sets text m n w v (unread q s alone fault) (unread r t alone' fault') =
    let same = law.fault_is_unique text q r s t fault fault' in
    (ap (λ (x : Span). Line x.line) same.1, ap proto_word same.0)
one_check_fault law sets text m n w v (unread q s alone fault) (unresolved G r t alone' reads offence) =
    absurd (law.file_or_fault text G q s reads fault)
one_check_fault law sets text m n w v (unread q s alone fault) (no_such_file k set broken) = absurd (alone set)
one_check_fault law sets text m n w v (unread q s alone fault) (wrong_path files i set are refused) = absurd (alone set)
one_check_fault law sets text m n w v (unread q s alone fault) (in_set files i l r set are stands) = absurd (alone set)
one_check_fault law sets text m n w v (unresolved F q s alone reads offence) (unread r t alone' fault) =
    absurd (law.file_or_fault text F r t reads fault)
one_check_fault law sets text m n w v (unresolved F q s alone reads offence) (unresolved G r t alone' reads' offence') =
    let here : HasFirstFileViolation F r t = subst (λ (f : File). HasFirstFileViolation f r t) (law.file_is_unique text G F reads' reads) offence' in
    let same = law.violation_is_unique text F q r s t reads offence here in
    (ap (λ (x : Span). Line x.line) same.1, ap resolve_word same.0)
one_check_fault law sets text m n w v (unresolved F q s alone reads offence) (no_such_file k set broken) = absurd (alone set)
one_check_fault law sets text m n w v (unresolved F q s alone reads offence) (wrong_path files i set are refused) = absurd (alone set)
one_check_fault law sets text m n w v (unresolved F q s alone reads offence) (in_set files i l r set are stands) = absurd (alone set)
one_check_fault law sets text m n w v (no_such_file k set broken) (unread r t alone fault) = absurd (alone set)
one_check_fault law sets text m n w v (no_such_file k set broken) (unresolved G r t alone reads offence) = absurd (alone set)
one_check_fault law sets text m n w v (no_such_file k set broken) (no_such_file l set' broken') =
    (ap OfFile (sets.fault_is_unique text k l broken broken'), refl)
one_check_fault law sets text m n w v (no_such_file k set broken) (wrong_path files i set' are refused) =
    absurd (sets.set_or_fault text files k are broken)
one_check_fault law sets text m n w v (no_such_file k set broken) (in_set files i l r set' are stands) =
    absurd (sets.set_or_fault text files k are broken)
one_check_fault law sets text m n w v (wrong_path files i set are refused) (unread r t alone fault) = absurd (alone set)
one_check_fault law sets text m n w v (wrong_path files i set are refused) (unresolved G r t alone reads offence) = absurd (alone set)
one_check_fault law sets text m n w v (wrong_path files i set are refused) (no_such_file l set' broken) =
    absurd (sets.set_or_fault text files l are broken)
one_check_fault law sets text m n w v (wrong_path files i set are refused) (wrong_path others j set' are' refused') =
    let same = same_path i j (sets.files_fault_is_unique files (files_fault.Path i) (files_fault.Path j) refused (set_fault sets are are' (files_fault.Path j) refused')) in
    (ap (λ (k : ℕ). OfFile (k + 1)) same, refl)
one_check_fault law sets text m n w v (wrong_path files i set are refused) (in_set others j k r set' are' stands) =
    absurd (not_path i j k r (sets.files_fault_is_unique files (files_fault.Path i) (files_fault.At j k r) refused (set_fault sets are are' (files_fault.At j k r) stands)))
one_check_fault law sets text m n w v (in_set files i l q set are stands) (unread r t alone fault) = absurd (alone set)
one_check_fault law sets text m n w v (in_set files i l q set are stands) (unresolved G r t alone reads offence) = absurd (alone set)
one_check_fault law sets text m n w v (in_set files i l q set are stands) (no_such_file k set' broken) =
    absurd (sets.set_or_fault text files k are broken)
one_check_fault law sets text m n w v (in_set files i l q set are stands) (wrong_path others j set' are' refused) =
    absurd (not_path j i l q (sets.files_fault_is_unique files (files_fault.Path j) (files_fault.At i l q) (set_fault sets are are' (files_fault.Path j) refused) stands))
one_check_fault law sets text m n w v (in_set files i l q set are stands) (in_set others j k r set' are' stands') =
    let same = same_file i j l k q r (sets.files_fault_is_unique files (files_fault.At i l q) (files_fault.At j k r) stands (set_fault sets are are' (files_fault.At j k r) stands')) in
    let place : i ≡ j = same.0 in
    let line : l ≡ k = same.1 in
    let spot : InFile (i + 1) l ≡ InFile (j + 1) k = cc in
    (spot, ap files_word same.2)

-- ---- never both

pub no_check_fault : FileLaw → SetLaw → (text word : List ℕ) (T : Table) (spot : FaultLocation) → HasDeclaredTable text T → IsCheckFault text spot word → ⊥
no_check_fault law sets text word T spot (a_file F alone reads resolves) (unread q s alone' fault) = law.file_or_fault text F q s reads fault
no_check_fault law sets text word T spot (a_file F alone reads resolves) (unresolved G q s alone' reads' offence) =
    law.table_or_violation F T q s resolves (subst (λ (f : File). HasFirstFileViolation f q s) (law.file_is_unique text G F reads' reads) offence)
no_check_fault law sets text word T spot (a_file F alone reads resolves) (no_such_file k set broken) = alone set
no_check_fault law sets text word T spot (a_file F alone reads resolves) (wrong_path files i set are refused) = alone set
no_check_fault law sets text word T spot (a_file F alone reads resolves) (in_set files i l q set are stands) = alone set
no_check_fault law sets text word T spot (a_set files set are resolves) (unread q s alone fault) = alone set
no_check_fault law sets text word T spot (a_set files set are resolves) (unresolved G q s alone reads offence) = alone set
no_check_fault law sets text word T spot (a_set files set are resolves) (no_such_file k set' broken) =
    sets.set_or_fault text files k are broken
no_check_fault law sets text word T spot (a_set files set are resolves) (wrong_path others i set' are' refused) =
    sets.table_or_files_fault files T (files_fault.Path i) resolves (set_fault sets are are' (files_fault.Path i) refused)
no_check_fault law sets text word T spot (a_set files set are resolves) (in_set others i l q set' are' stands) =
    sets.table_or_files_fault files T (files_fault.At i l q) resolves (set_fault sets are are' (files_fault.At i l q) stands)
