use Rattle.std.proofs.Common.{List, ℕ, refl, sym, subst, ◌∙◌}
use Rattle.std.proofs.lemmas.Bool.{false≢true}
use Rattle.std.proofs.lemmas.Result.{err_from_is_err_and}
use Rattle.schema_binding.specs.Hello.{IsHello}
use Rattle.schema_binding.proofs.Payloads.{bad_without_feed, says_nothing_without_feed, bad_name, says_nothing_of_name, said, said_in_pieces, bad_behind}
use Rattle.schema_binding.proofs.hello_form.on_hello.Goals as goal

pub returns-in_default-clause-only : goal.returns-in_default-clause-only
returns-in_default-clause-only c = λ service table h. absurd (says_nothing_without_feed c.args.payload.now service table c.in_default.ensures.parts h)

pub returns-in_default-clause-fault : goal.returns-in_default-clause-fault
returns-in_default-clause-fault c = bad_without_feed c.args.payload.now c.in_default.ensures.parts

pub returns-then-not-is_full_name-clause-only : goal.returns-then-not-is_full_name-clause-only
returns-then-not-is_full_name-clause-only c = λ service table h.
    absurd (says_nothing_of_name c.args.payload.now c.in-Some.service.now c.in-Some.text.now service table c.in-Some.ensures.parts
    (λ named. false≢true (c.if-not-is_full_name.ensures.1 named)) h)

pub returns-then-not-is_full_name-clause-fault : goal.returns-then-not-is_full_name-clause-fault
returns-then-not-is_full_name-clause-fault c =
    bad_name c.args.payload.now c.in-Some.service.now c.in-Some.text.now c.in-Some.ensures.parts (λ named. false≢true (c.if-not-is_full_name.ensures.1 named))

pub returns-in_err-table-clause-only : goal.returns-in_err-table-clause-only
returns-in_err-table-clause-only c = λ service table h.
    let p = err_from_is_err_and c.from_residual.result c.from_residual.ensures.1 in
    rw (p.1, p.2) (c.in_err-table.ensures.only table (said_in_pieces c.args.payload.now c.in-Some.service.now c.in-Some.text.now service table c.in-Some.ensures.parts h).1)

pub returns-in_err-table-clause-fault : goal.returns-in_err-table-clause-fault
returns-in_err-table-clause-fault c =
    let p = err_from_is_err_and c.from_residual.result c.from_residual.ensures.1 in
    rw (p.1, p.2)
    (bad_behind c.args.payload.now c.in-Some.service.now c.in-Some.text.now c.in_err-table.field-0.0
    c.in-Some.ensures.parts (c.if-not-is_full_name.ensures.0 refl) c.in_err-table.ensures.fault)

pub returns-clause-read : goal.returns-clause-read
returns-clause-read c =
    subst (λ (name : List ℕ). IsHello c.args.payload.now name c.in_ok-table.table) (sym c.in_ok-from_slice.ensures)
    (said c.args.payload.now c.in-Some.service.now c.in-Some.text.now c.in_ok-table.table c.in-Some.ensures.parts (c.if-not-is_full_name.ensures.0 refl) c.in_ok-table.ensures.read)

pub returns-clause-only : goal.returns-clause-only
returns-clause-only c = λ service table h.
    let is = said_in_pieces c.args.payload.now c.in-Some.service.now c.in-Some.text.now service table c.in-Some.ensures.parts h in
    λ i. ((c.in_ok-from_slice.ensures ∙ is.0) i, c.in_ok-table.ensures.only table is.1 i)
