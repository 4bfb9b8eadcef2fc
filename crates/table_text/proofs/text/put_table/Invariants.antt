-- The lines of the parts so far are written.
use Rattle.std.proofs.Common.{◌≡◌, ◌++◌, take}
use Rattle.std.specs.List.{flat_map, enumerate_from}
use Rattle.mrpc_table.specs.Text.{enum_lines, message_lines, method_line}
use Rattle.table_text.proofs.text.put_table.Given as goal

abbrev pub invariant-loop-choices : goal.invariant-loop-choices
invariant-loop-choices l = l.out ≡ flat_map enum_lines (take l.choices-index l.choices-items)

abbrev pub invariant-loop-message : goal.invariant-loop-message
invariant-loop-message l = l.out ≡ flat_map enum_lines l.fn.table.enums ++ flat_map (message_lines l.fn.table) (take l.message-index l.message-items)

abbrev pub invariant-loop-index : goal.invariant-loop-index
invariant-loop-index l =
    l.out ≡ (flat_map enum_lines l.fn.table.enums ++ flat_map (message_lines l.fn.table) l.fn.table.messages)
    ++ flat_map (method_line l.fn.table) (enumerate_from 0 (take l.index l.method-items))
