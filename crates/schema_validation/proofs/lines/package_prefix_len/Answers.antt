use Rattle.std.proofs.Common.{◌+◌, ℕ, Option, sym, ap, ◌∙◌}
use Rattle.proto_ast.specs.declared.file.Word.{Word}
use Rattle.proto_ast.specs.Joined.{package_parts}
use Rattle.mrpc_table.specs.Capped.{capped}
use Rattle.schema_validation.specs.Lengths.{prefix_length}
use Rattle.schema_validation.proofs.FullLengths.{package_length}
use Rattle.schema_validation.proofs.lines.package_prefix_len.Goals as goal

pub returns-in-Some : goal.returns-in-Some
returns-in-Some c =
    c.saturating_add.ensures ∙ ap (λ (n : ℕ). capped (n + 1)) c.len.ensures
    ∙ ap capped (sym (package_length c.in-Some.word))
    ∙ ap (λ (w : Option Word). capped (prefix_length (package_parts w))) (sym c.in-Some.is)
