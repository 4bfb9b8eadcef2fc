-- The code's own: the content of a line, or the reason against it.
use Rattle.std.specs.Prelude.{ℕ, Option, Some, None, Result, Ok, Err}
use Rattle.mrpc_table.specs.declared.table.Table.{Table}
use Rattle.mrpc_table.specs.declared.path.Path.{Path}
use Rattle.mrpc_table.specs.PolicyLines.{index_of}
use Rattle.mrpc_table.specs.declared.policy_lines.RuleReason.{RuleReason}
use Rattle.mrpc_table.specs.declared.policy_lines.RuleReason.TheVariants as reason
use Rattle.policy_redact.specs.Texts.{clear_of, path_in_call}
use Rattle.policy_redact.specs.declared.line.ClearLine.{ClearLine}
use Rattle.policy_redact.specs.declared.redact.Clear.{Clear}

abbrev pub clear_of_path : ClearLine → ℕ → Option Path → Result Clear RuleReason
clear_of_path l method None = Err reason.Path
clear_of_path l method (Some path) = Ok (clear_of method l.sort path)

abbrev pub clear_of_index : Table → ClearLine → Option ℕ → Result Clear RuleReason
clear_of_index T l None = Err reason.Number
clear_of_index T l (Some method) = clear_of_path l method (path_in_call T method l.sort l.path)

abbrev pub judged_clear : Table → Option ClearLine → Result Clear RuleReason
judged_clear T None = Err reason.Word
judged_clear T (Some l) = clear_of_index T l (index_of l.index)
