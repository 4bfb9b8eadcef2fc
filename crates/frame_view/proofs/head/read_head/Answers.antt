use Rattle.std.proofs.Common.{◌≡◌, ◌∙◌, ◌+◌, ◌++◌, Some, None, inl, inr, ap, subst}
use Rattle.std.proofs.lemmas.Bool.Decides.{Decides-eqb}
use Rattle.std.proofs.lemmas.Result.{err_from_is_err_and}
use Rattle.std.proofs.lemmas.Slice.Eq.{strip_prefix_is}
use Rattle.std.specs.Prelude.{codes}
use Rattle.table_text.specs.TableText.{IsEndless}
use Rattle.frame_view.specs.Input.{IsInputTextFault, IsFaultOfTable, decode_preamble, decode_header, table_keyword}
use Rattle.frame_view.specs.Input.IsInputTextFault.{no_second_line, in_table, no_end}
use Rattle.frame_view.proofs.ViewHeads.{endless_of}
use Rattle.frame_view.proofs.OnFaults.{on_fault}
use Rattle.frame_view.proofs.head.read_head.Goals as goal

pub returns-in_default-strip_prefix-clause-fault : goal.returns-in_default-strip_prefix-clause-fault
returns-in_default-strip_prefix-clause-fault c =
    let text = c.args.text.now in
    let behind = c.in-Some.behind.now in
    let first : text ≡ decode_header ++ behind = strip_prefix_is Decides-eqb text decode_header (Some c.in-Some.behind) c.in-Some.ensures.cases in
    let none = strip_prefix_is Decides-eqb behind table_keyword None c.in_default-strip_prefix.ensures.cases in
    on_fault (λ place word. (place ≡ 2) × (word ≡ codes "Word")) (IsInputTextFault text) c.at-in_default-strip_prefix.result
    (λ place word is. no_second_line behind first none is.0 is.1) c.at-in_default-strip_prefix.ensures.is

pub returns-in_err-read_lines-in-Some-split_table-clause-fault :
    goal.returns-in_err-read_lines-in-Some-split_table-clause-fault
returns-in_err-read_lines-in-Some-split_table-clause-fault c =
    let table = c.in-Some-split_table.table.now in
    let p = err_from_is_err_and c.from_residual.result c.from_residual.ensures.1 in
    rw (p.1, p.2)
    (on_fault (IsFaultOfTable table) (IsInputTextFault c.args.text.now) c.in_err-read_lines-in-Some-split_table.field-0.0
    (λ place word fault. in_table table (inl (c.in-Some-split_table.stream.now, c.in-Some-split_table.ensures.found)) fault)
    c.in_err-read_lines-in-Some-split_table.ensures.fault)

pub returns-in_err-read_lines-in-None-clause-fault :
    goal.returns-in_err-read_lines-in-None-clause-fault
returns-in_err-read_lines-in-None-clause-fault c =
    let rest = c.in-Some-strip_prefix.rest.now in
    let endless : IsEndless decode_preamble c.args.text.now rest =
    endless_of c.args.text.now c.in-Some.behind c.in-Some-strip_prefix.rest c.in-Some.ensures.cases
    c.in-Some-strip_prefix.ensures.cases c.in-None.ensures.only in
    let p = err_from_is_err_and c.from_residual-in_err-read_lines-in-None.result c.from_residual-in_err-read_lines-in-None.ensures.1 in
    rw (p.1, p.2)
    (on_fault (IsFaultOfTable rest) (IsInputTextFault c.args.text.now) c.in_err-read_lines-in-None.field-0.0
    (λ place word fault. in_table rest (inr endless) fault)
    c.in_err-read_lines-in-None.ensures.fault)

pub returns-in_ok-read_lines-in-None-clause-fault : goal.returns-in_ok-read_lines-in-None-clause-fault
returns-in_ok-read_lines-in-None-clause-fault c =
    let text = c.args.text.now in
    let table = c.in_ok-read_lines-in-None.field-0 in
    let read = c.in_ok-read_lines-in-None.ensures.read in
    let endless : IsEndless decode_preamble text c.in-Some-strip_prefix.rest.now =
    endless_of text c.in-Some.behind c.in-Some-strip_prefix.rest c.in-Some.ensures.cases
    c.in-Some-strip_prefix.ensures.cases c.in-None.ensures.only in
    on_fault (λ place word. (place ≡ c.line_count.result + 1) × (word ≡ codes "Word")) (IsInputTextFault text) c.at-in-None.result
    (λ place word is. no_end table read.0 (subst (IsEndless decode_preamble text) read.1 endless) (is.0 ∙ ap (λ n. n + 1) c.line_count.ensures.count) is.1)
    c.at-in-None.ensures.is
