-- The line of the enum and the lines of the values so far are written.
use Rattle.std.proofs.Common.{◌≡◌, ◌++◌, ◌∷◌, [], codes, take}
use Rattle.std.specs.List.{flat_map}
use Rattle.mrpc_table.specs.Text.{line, value_line}
use Rattle.table_text.proofs.text.put_enum.Given as goal

abbrev pub invariant-loop-value : goal.invariant-loop-value
invariant-loop-value l = l.out ≡ l.fn.out ++ (line (codes "enum" ∷ l.fn.choices.name ∷ []) ++ flat_map value_line (take l.value-index l.value-items))
