-- The reasons of faults: those of a record, and the words of printed faults.
use Rattle.std.specs.Prelude.{ℕ, List, codes}
use Rattle.wire_base.specs.declared.fault.WireReason.{WireReason}
use Rattle.wire_base.specs.declared.fault.WireReason.TheVariants as wire
use Rattle.wire_decode.specs.declared.fault.DecodeReason.{DecodeReason}
use Rattle.wire_decode.specs.declared.fault.DecodeReason.TheVariants.{Varint, TagRange, NumberZero, WireType, Short, Utf8, PackedLength, Depth}

-- the reason why there is no record at an offset, as a reason of a message's fault
abbrev pub decode_reason_of : WireReason → DecodeReason
decode_reason_of wire.Varint = Varint
decode_reason_of wire.TagRange = TagRange
decode_reason_of wire.NumberZero = NumberZero
decode_reason_of wire.WireType = WireType
decode_reason_of wire.Short = Short

-- the word that names a reason
abbrev pub decode_reason_word : DecodeReason → List ℕ
decode_reason_word Varint = codes "Varint"
decode_reason_word TagRange = codes "TagRange"
decode_reason_word NumberZero = codes "NumberZero"
decode_reason_word WireType = codes "WireType"
decode_reason_word Short = codes "Short"
decode_reason_word Utf8 = codes "Utf8"
decode_reason_word PackedLength = codes "PackedLength"
decode_reason_word Depth = codes "Depth"
