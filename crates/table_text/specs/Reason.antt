-- The words of printed faults.
use Rattle.std.specs.Prelude.{ℕ, List, codes}
use Rattle.table_text.specs.declared.fault.TableReason.{TableReason}
use Rattle.table_text.specs.declared.fault.TableReason.TheVariants.{Syntax, Number, Duplicate, UnknownType, MapKey, Limit}

abbrev pub table_reason_word : TableReason → List ℕ
table_reason_word Syntax = codes "Syntax"
table_reason_word Number = codes "Number"
table_reason_word Duplicate = codes "Duplicate"
table_reason_word UnknownType = codes "UnknownType"
table_reason_word MapKey = codes "MapKey"
table_reason_word Limit = codes "Limit"
