-- The words for reasons in the text of faults.
use Rattle.std.specs.Prelude.{ℕ, List, codes}
use Rattle.proto_set.specs.declared.import_fault.ImportReason.{ImportReason}
use Rattle.proto_set.specs.declared.import_fault.ImportReason.TheVariants.{Missing, Twice, Cycle}

abbrev pub import_word : ImportReason → List ℕ
import_word Missing = codes "Missing"
import_word Twice = codes "Twice"
import_word Cycle = codes "Cycle"
