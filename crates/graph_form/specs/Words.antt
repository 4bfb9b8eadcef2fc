-- The words for the reasons in lines that the program prints.
use Rattle.std.specs.Prelude.{ℕ, List, codes}
use Rattle.graph_form.specs.declared.reason.Reason.{Reason}
use Rattle.graph_form.specs.declared.reason.Reason.TheVariants.{Address, Presence, Case, Length, Utf8, Narrow, Depth, Loads, NoMethod}

abbrev pub graph_reason_word : Reason → List ℕ
graph_reason_word Address = codes "Address"
graph_reason_word Presence = codes "Presence"
graph_reason_word Case = codes "Case"
graph_reason_word Length = codes "Length"
graph_reason_word Utf8 = codes "Utf8"
graph_reason_word Narrow = codes "Narrow"
graph_reason_word Depth = codes "Depth"
graph_reason_word Loads = codes "Loads"
graph_reason_word NoMethod = codes "NoMethod"
