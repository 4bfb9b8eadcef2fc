use Rattle.std.proofs.Common.{◌≡◌, ◌≤◌, ◌-◌, length}
use Rattle.proto_lexer.specs.Tokens.{line_of_offset}
use Rattle.proto_schema.specs.StatementReading.{depth, draft_of}
use Rattle.proto_schema.proofs.Next.{Goes}
use Rattle.proto_schema.proofs.read.read_statements.Given as goal

-- the next token is read after the last one, and the result of the tokens after it is that of the text
abbrev pub invariant-tokens : goal.invariant-tokens
invariant-tokens l = record {
  within : l.last.end ≤ length l.text;
  line : l.last.line ≡ line_of_offset l.text l.last.end;
  depth : depth l.state ≤ l.last.end;
  comes : Goes l.text l.fn.semicolon.end l.last.end (draft_of l.draft) l.state;
}

abbrev pub decreases-tokens : goal.decreases-tokens
decreases-tokens l = length l.text - l.last.end
