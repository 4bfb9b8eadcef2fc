-- The words in the remainder of a line, and the earlier of two reasons.
use Rattle.std.specs.Prelude.{ℕ, nat_le, if◌then◌else◌, List, [], Option, Some, None}
use Rattle.std.specs.Borrow.{Bor}
use Rattle.mrpc_table.specs.Lines.{words_of}
use Rattle.script_grammar.specs.Reasons.{script_reason_rank}
use Rattle.script_grammar.specs.declared.fault.ScriptReason.{ScriptReason}

abbrev pub words_in : Option (Bor (List ℕ)) → List (List ℕ)
words_in None = []
words_in (Some text) = words_of text.now

-- the code's own: of two reasons, the one with the lower rank
abbrev pub earlier : Option ScriptReason → ScriptReason → ScriptReason
earlier None reason = reason
earlier (Some other) reason = if nat_le (script_reason_rank other) (script_reason_rank reason) then other else reason
