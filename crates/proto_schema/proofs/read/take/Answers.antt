use Rattle.std.proofs.Common.{◌≡◌, ap, sym, subst, ◌∙◌}
use Rattle.std.specs.Prelude.{Ok, Result}
use Rattle.std.proofs.lemmas.Result.{err_from_is_err_and}
use Rattle.proto_grammar.specs.Lexemes.{Lexeme, lexeme}
use Rattle.proto_schema.specs.StatementReading.{IsFailedOutcome, outcome_after_step, draft_of, statement_place, advance_statement}
use Rattle.proto_grammar.specs.declared.fault.ProtoFault.{ProtoFault}
use Rattle.proto_schema.specs.declared.statement.StatementPlace.{StatementPlace}
use Rattle.proto_schema.specs.declared.statement.StatementState.{StatementState}
use Rattle.proto_schema.specs.declared.statement.StatementEffect.{StatementEffect}
use Rattle.proto_schema.specs.declared.statement.StatementStep.{StatementStep}
use Rattle.proto_schema.specs.declared.statement.StatementStep.TheVariants as steps
use Rattle.proto_schema.proofs.read.take.Goals as goal

-- the token is the last one of a statement
whole : (p q : StatementPlace) (s : StatementState) (x : Lexeme) (t : StatementStep) (v : StatementEffect) → q ≡ p → advance_statement q s x ≡ Ok t
    → t ≡ steps.Done v → advance_statement p s x ≡ Ok (steps.Done v)
whole p q s x t v e h k = ap (λ (r : StatementPlace). advance_statement r s x) (sym e) ∙ (h ∙ ap (λ (u : StatementStep). Ok u) k)

pub returns-in_err-add-in-Done-clause-reads : goal.returns-in_err-add-in-Done-clause-reads
returns-in_err-add-in-Done-clause-reads c =
    let text = c.args.text.now in
    let d = draft_of c.args.draft.now in
    let x = lexeme c.args.text.now c.args.token.now in
    let e = whole (statement_place d) c.place.result c.args.state x c.in_ok-state.field-0 c.in-Done.says c.place.ensures c.in_ok-state.ensures c.in-Done.is in
    let p = err_from_is_err_and c.from_residual-in_err-add-in-Done.result c.from_residual-in_err-add-in-Done.ensures.1 in
    rw (p.1, p.2)
    (λ xs.
    subst (λ (r : Result StatementStep ProtoFault). IsFailedOutcome c.in_err-add-in-Done.field-0.0 (outcome_after_step d x xs r)) (sym e)
    (c.in_err-add-in-Done.ensures text xs))

pub returns-in_ok-add-in-Done-clause-reads : goal.returns-in_ok-add-in-Done-clause-reads
returns-in_ok-add-in-Done-clause-reads c = λ xs.
    let text = c.args.text.now in
    let d = draft_of c.args.draft.now in
    let x = lexeme c.args.text.now c.args.token.now in
    let e = whole (statement_place d) c.place.result c.args.state x c.in_ok-state.field-0 c.in-Done.says c.place.ensures c.in_ok-state.ensures c.in-Done.is in
    ap (λ (r : Result StatementStep ProtoFault). outcome_after_step d x xs r) e ∙ c.in_ok-add-in-Done.ensures text xs
