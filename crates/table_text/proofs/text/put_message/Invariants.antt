-- The line of the message and the lines of the fields so far are written.
use Rattle.std.proofs.Common.{◌≡◌, ◌++◌, ◌∷◌, [], codes, take}
use Rattle.std.specs.List.{flat_map}
use Rattle.mrpc_table.specs.Text.{line, field_line}
use Rattle.table_text.proofs.text.put_message.Given as goal

abbrev pub invariant-loop-field : goal.invariant-loop-field
invariant-loop-field l =
    l.out ≡ l.fn.out ++ (line (codes "message" ∷ l.fn.message.name ∷ [])
    ++ flat_map (field_line l.fn.table l.fn.message.oneofs) (take l.field-index l.field-items))
