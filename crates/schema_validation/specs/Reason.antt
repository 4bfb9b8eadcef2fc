-- The words for reasons in the text of faults.
use Rattle.std.specs.Prelude.{ℕ, List, codes}
use Rattle.schema_validation.specs.declared.reason.ResolveReason.{ResolveReason}
use Rattle.schema_validation.specs.declared.reason.ResolveReason.TheVariants.{UnknownName, NumberRange, DuplicateNumber, DuplicateName, Reserved, FirstEnum, MapKey, MapPlace, Limit, Import}

abbrev pub resolve_word : ResolveReason → List ℕ
resolve_word UnknownName = codes "UnknownName"
resolve_word NumberRange = codes "NumberRange"
resolve_word DuplicateNumber = codes "DuplicateNumber"
resolve_word DuplicateName = codes "DuplicateName"
resolve_word Reserved = codes "Reserved"
resolve_word FirstEnum = codes "FirstEnum"
resolve_word MapKey = codes "MapKey"
resolve_word MapPlace = codes "MapPlace"
resolve_word Limit = codes "Limit"
resolve_word Import = codes "Import"
