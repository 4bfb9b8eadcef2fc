use Rattle.std.proofs.Common.{List, ℕ, subst, inl}
use Rattle.std.proofs.lemmas.Result.{err_from_is_err_and}
use Rattle.mrpc_table.specs.Text.{table_text}
use Rattle.table_text.specs.TableText.{HasTableAfter}
use Rattle.script_grammar.proofs.OneFront.{table_fault_of, front_of}
use Rattle.script_grammar.proofs.preamble.preamble_of.Goals as goal

pub missing_end_fault-requires-clause-head : goal.missing_end_fault-requires-clause-head
missing_end_fault-requires-clause-head c = c.in_ok-head.ensures.head.0

pub missing_end_fault-requires-clause-endless : goal.missing_end_fault-requires-clause-endless
missing_end_fault-requires-clause-endless c = record { text_is = c.in_ok-head.ensures.head.1; endless = λ table rest h. c.in_default.ensures.only table rest h }

pub returns-in_err-table-clause-fault : goal.returns-in_err-table-clause-fault
returns-in_err-table-clause-fault c =
    let head = c.in_ok-head.head in
    let p = err_from_is_err_and c.from_residual-in_err-table.result c.from_residual-in_err-table.ensures.1 in
    rw (p.1, p.2)
    (table_fault_of c.args.first.now c.args.text.now head.front.now c.in-Some.front.now head.loads
    c.in_err-table.field-0.0 c.in_ok-head.ensures.head.0 (inl (c.in-Some.behind.now, c.in-Some.ensures.found))
    c.in_err-table.ensures.fault)

pub returns-clause-read : goal.returns-clause-read
returns-clause-read c =
    let text = c.args.text.now in
    let head = c.in_ok-head.head in
    let table = c.in_ok-table.table in
    let read = c.in_ok-table.ensures.table in
    let behind = c.in-Some.behind.now in
    let found : HasTableAfter head.front.now text (table_text table) behind = subst (λ (t : List ℕ). HasTableAfter head.front.now text t behind) read.1 c.in-Some.ensures.found in
    front_of c.args.first.now text head.front.now behind head.loads table c.in_ok-head.ensures.head.0 read.0 found
