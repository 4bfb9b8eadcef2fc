use Rattle.std.proofs.Common.{◌≡◌, ◌≤◌, ◌<◌, ◌+◌, false, true, ap, sym, subst, ◌∙◌, arith}
use Rattle.std.proofs.lemmas.Result.{err_from_is_err_and}
use Rattle.proto_lexer.specs.Tokens.{is_last}
use Rattle.proto_grammar.specs.Lexemes.{lexeme}
use Rattle.proto_schema.specs.StatementReading.{read, draft_of, is_over, depth}
use Rattle.proto_schema.specs.declared.statement.StatementState.{StatementState}
use Rattle.proto_schema.proofs.Next.{Goes, goes_on, goes_fail, goes_over}
use Rattle.proto_schema.proofs.read.read_statements.Goals as goal

pub returns-in_default : goal.returns-in_default
returns-in_default c = λ ts a.
    let text = c.args.text.now in
    let over : is_over (draft_of c.tokens.draft) c.tokens.state (lexeme c.args.text.now c.next-token.result) ≡ true = c.in_default.ensures text in
    goes_over text c.args.semicolon.end c.tokens.last.end c.next-token.result (draft_of c.tokens.draft) c.tokens.state
    c.next-token.ensures.list over c.tokens.invariant.comes ts a ∙ ap read (sym c.into_file.ensures)

pub take-requires-clause-depth : goal.take-requires-clause-depth
take-requires-clause-depth c =
    let same : depth c.in-Some.begun ≡ depth c.tokens.state = ap depth (c.in-Some.ensures c.args.text.now).0 in
    let small : depth c.tokens.state ≤ c.tokens.last.end = c.tokens.invariant.depth in
    omega arith

pub returns-in_err-state : goal.returns-in_err-state
returns-in_err-state c = λ ts a.
    let text = c.args.text.now in
    let d = draft_of c.tokens.draft in
    let begun = c.in-Some.begun in
    let goes = c.in-Some.ensures text in
    let comes : Goes c.args.text.now c.args.semicolon.end c.tokens.last.end (draft_of c.tokens.draft) c.in-Some.begun =
    subst (λ (s : StatementState). Goes text c.args.semicolon.end c.tokens.last.end d s) (sym goes.0) c.tokens.invariant.comes in
    let p = err_from_is_err_and c.from_residual.result c.from_residual.ensures.1 in
    rw (p.1, p.2)
    (goes_fail text c.args.semicolon.end c.tokens.last.end c.next-token.result d begun c.in_err-state.field-0.0 c.next-token.ensures.list goes.1 c.in_err-state.ensures.reads comes ts a)

pub tokens-preserved : goal.tokens-preserved
tokens-preserved c =
    let text = c.args.text.now in
    let d = draft_of c.tokens.draft in
    let begun = c.in-Some.begun in
    let goes = c.in-Some.ensures text in
    let comes : Goes c.args.text.now c.args.semicolon.end c.tokens.last.end (draft_of c.tokens.draft) c.in-Some.begun =
    subst (λ (s : StatementState). Goes text c.args.semicolon.end c.tokens.last.end d s) (sym goes.0) c.tokens.invariant.comes in
    let more : is_last c.next-token.result.kind ≡ false = c.in_ok-state.ensures.goes_on.0 in
    let grows : depth c.in_ok-state.state ≤ depth c.in-Some.begun + 1 = c.in_ok-state.ensures.goes_on.1 in
    let same : depth c.in-Some.begun ≡ depth c.tokens.state = ap depth goes.0 in
    let behind : c.tokens.last.end < c.next-token.result.end = c.next-token.ensures.goes_on more in
    let small : depth c.tokens.state ≤ c.tokens.last.end = c.tokens.invariant.depth in
    record {
      within = c.next-token.ensures.next.within;
      line = sym (c.next-token.ensures.same_line more);
      depth = omega arith;
      comes = goes_on text c.args.semicolon.end c.tokens.last.end c.next-token.result d
          (draft_of c.take.new.draft) begun c.in_ok-state.state c.next-token.ensures.list more goes.1
          c.in_ok-state.ensures.reads comes;
    }
