-- The words for reasons in the text of faults.
use Rattle.std.specs.Prelude.{ℕ, List, codes}
use Rattle.proto_grammar.specs.declared.fault.ProtoReason.{ProtoReason}
use Rattle.proto_grammar.specs.declared.fault.ProtoReason.TheVariants.{Token, Expected, Import, Stream, Group, Extend, Syntax2, Nesting}

abbrev pub proto_word : ProtoReason → List ℕ
proto_word Token = codes "Token"
proto_word Expected = codes "Expected"
proto_word Import = codes "Import"
proto_word Stream = codes "Stream"
proto_word Group = codes "Group"
proto_word Extend = codes "Extend"
proto_word Syntax2 = codes "Syntax2"
proto_word Nesting = codes "Nesting"
