use Rattle.std.proofs.Common.{◌≡◌, ◌∙◌, ◌+◌, ◌<◌, rules, length, ℕ, sym, subst}
use Rattle.std.proofs.lemmas.Grind.{get_or_default_zero}
use Rattle.proto_ast.specs.Together.{rpc_decl}
use Rattle.mrpc_table.specs.Capped.{capped}
use Rattle.schema_validation.specs.Lengths.{IsLengthAt}
use Rattle.schema_validation.proofs.LineLengths.{message_in, sums_four, method_line, no_output}
use Rattle.schema_validation.proofs.FullLengths.{file_kept}
use Rattle.schema_validation.proofs.lines.method_length.Goals as goal

pub returns-in_err-output : goal.returns-in_err-output
returns-in_err-output c = λ i j at rat count.
    let F = c.args.scopes.now in
    subst (IsLengthAt F (rpc_decl i j) c.args.rpc.now.name.span) (sym c.from_residual-in_err-output.ensures)
    (no_output F i j c.args.service.now c.args.rpc.now at rat (c.in_err-output.ensures.none c.requires.ordered))

pub index-requires : goal.index-requires
index-requires c =
    let e = c.in_ok-input.ensures.some in
    let l : c.in_ok-input.input < length c.args.lengths.now.messages.items =
    message_in c.args.scopes.now c.args.lengths.now c.requires.lengths c.in_ok-input.input e.0 e.2.span e.2.stands in
    search rules

pub index-requires-2 : goal.index-requires-2
index-requires-2 c =
    let e = c.in_ok-output.ensures.some in
    let l : c.in_ok-output.output < length c.args.lengths.now.messages.items =
    message_in c.args.scopes.now c.args.lengths.now c.requires.lengths c.in_ok-output.output e.0 e.2.span e.2.stands in
    search rules

pub returns : goal.returns
returns c = λ i j at rat count.
    let F = c.args.scopes.now in
    let kept = c.args.lengths.now in
    let a = c.in_ok-input.ensures.some in
    let b = c.in_ok-output.ensures.some in
    let in_a = message_in F kept c.requires.lengths c.in_ok-input.input a.0 a.2.span a.2.stands in
    let in_b = message_in F kept c.requires.lengths c.in_ok-output.output b.0 b.2.span b.2.stands in
    let input = c.index.ensures ∙ get_or_default_zero kept.messages.items c.in_ok-input.input c.index.result.now in_a in
    let output = c.index-2.ensures
    ∙ get_or_default_zero kept.messages.items c.in_ok-output.output c.index-2.result.now in_b in
    method_line F kept c.requires.lengths i j c.args.index c.args.service.now c.args.rpc.now c.in_ok-input.input
    c.in_ok-output.output a.0 b.0 c.saturating_add-4.result at rat count c.requires.file a.1 b.1 a.2 b.2
    (sums_four _ c.digits-front.result _ c.len.result _ _ _ c.saturating_add.result c.saturating_add-2.result
    c.saturating_add-3.result c.saturating_add-4.result c.digits-front.ensures.is c.len.ensures
    (subst (λ (n : ℕ). c.saturating_add.result ≡ capped (12 + c.digits-front.result + n)) c.full.ensures
    c.saturating_add.ensures) c.saturating_add-2.ensures
    (subst (λ (n : ℕ). c.saturating_add-3.result ≡ capped (c.saturating_add-2.result + n)) input
    c.saturating_add-3.ensures)
    (subst (λ (n : ℕ). c.saturating_add-4.result ≡ capped (c.saturating_add-3.result + n)) output
    c.saturating_add-4.ensures))

pub full-requires : goal.full-requires
full-requires c =
    let F = c.args.scopes.now in
    file_kept F (length F.messages) (length F.enums) c.args.lengths.now c.requires.lengths c.args.service.now.file
    c.requires.file
