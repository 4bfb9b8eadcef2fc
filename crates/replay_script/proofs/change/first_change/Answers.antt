use Rattle.std.proofs.Common.{refl, sym, ap, subst, ◌∙◌, arith, length, ℕ}
use Rattle.std.specs.Prelude.{MatchResult}
use Rattle.mrpc_table.specs.Lines.{words_of}
use Rattle.replay_script.specs.Changes.{state_of_body, IsChangeOfLine, IsLineFault, IsFirstFaultOf}
use Rattle.replay_script.specs.Texts.{no_feed}
use Rattle.replay_script.proofs.Changing.{skipped_change, said_change, line_stop, formless_stop, item_change, item_stop}
use Rattle.replay_script.proofs.LineForms.{item_of}
use Rattle.replay_script.proofs.TextLines.{cut_is, last_is}
use Rattle.replay_script.proofs.change.first_change.Goals as goal

pub returns-in_default : goal.returns-in_default
returns-in_default c =
    let text = c.args.text.now in
    let some = c.requires.some in
    subst (IsFirstFaultOf c.args.loads c.args.table.now (state_of_body c.args.declared.now c.args.body.now) text) (sym c.fault.ensures)
    (no_feed (last_is text c.in_default.ensures.parts) (λ none. (let short = ap (length {A = ℕ}) none in omega (arith, some, short))) refl refl)

pub returns-then-is_skipped : goal.returns-then-is_skipped
returns-then-is_skipped c =
    let text = c.args.text.now in
    let before = cut_is text c.in-Some.line.now c.in-Some.behind.now c.in-Some.ensures.parts in
    skipped_change c.word_laws.ensures c.args.loads c.args.table.now (state_of_body c.args.declared.now c.args.body.now) text
    c.in-Some.line.now c.in-Some.behind.now before (sym c.is_skipped.ensures ∙ c.if-is_skipped.true)

pub returns-in_default-form_of : goal.returns-in_default-form_of
returns-in_default-form_of c =
    let text = c.args.text.now in
    let b = state_of_body c.args.declared.now c.args.body.now in
    let before = cut_is text c.in-Some.line.now c.in-Some.behind.now c.in-Some.ensures.parts in
    subst (IsFirstFaultOf c.args.loads c.args.table.now b text) (sym c.fault-in_default-form_of.ensures)
    (formless_stop c.word_laws.ensures c.args.loads c.args.table.now b text c.in-Some.line.now c.in-Some.behind.now
    before (sym c.is_skipped.ensures ∙ c.if-is_skipped.false) (sym c.form_of.ensures ∙ c.in_default-form_of.is))

pub returns-in-Ok : goal.returns-in-Ok
returns-in-Ok c =
    let text = c.args.text.now in
    let b = state_of_body c.args.declared.now c.args.body.now in
    let line = c.in-Some.line.now in
    let before = cut_is text line c.in-Some.behind.now c.in-Some.ensures.parts in
    said_change c.word_laws.ensures c.args.loads c.args.table.now b text line c.in-Some.behind.now c.in-Ok.change
    before (subst (λ r. MatchResult r (IsChangeOfLine c.args.loads b line) (IsLineFault c.args.loads b line))
    c.in-Ok.is c.in-Some-frequent_line.ensures)

pub returns-in-Err : goal.returns-in-Err
returns-in-Err c =
    let text = c.args.text.now in
    let b = state_of_body c.args.declared.now c.args.body.now in
    let line = c.in-Some.line.now in
    let before = cut_is text line c.in-Some.behind.now c.in-Some.ensures.parts in
    line_stop c.word_laws.ensures c.args.loads c.args.table.now b text line c.in-Some.behind.now c.in-Err.fault before
    (subst (λ r. MatchResult r (IsChangeOfLine c.args.loads b line) (IsLineFault c.args.loads b line)) c.in-Err.is
    c.in-Some-frequent_line.ensures)

pub returns-in-Ok-declaration : goal.returns-in-Ok-declaration
returns-in-Ok-declaration c =
    let text = c.args.text.now in
    let b = state_of_body c.args.declared.now c.args.body.now in
    let line = c.in-Some.line.now in
    let before = cut_is text line c.in-Some.behind.now c.in-Some.ensures.parts in
    item_change c.word_laws.ensures c.args.loads c.args.table.now b text line c.in-Some.behind.now
    c.in-Ok-declaration.left.now c.in-Some-of_form.form c.in-Ok-declaration.item before
    (item_of (words_of line) c.in-Some-form_of.form (sym c.form_of.ensures ∙ c.in-Some-form_of.is)
    ∙ sym c.of_form.ensures ∙ c.in-Some-of_form.is) c.in-Ok-declaration.ensures.0 c.in-Ok-declaration.ensures.1

pub returns-in-Err-declaration : goal.returns-in-Err-declaration
returns-in-Err-declaration c =
    let text = c.args.text.now in
    let b = state_of_body c.args.declared.now c.args.body.now in
    let line = c.in-Some.line.now in
    let before = cut_is text line c.in-Some.behind.now c.in-Some.ensures.parts in
    item_stop c.word_laws.ensures c.args.loads c.args.table.now b text line c.in-Some.behind.now c.in-Some-of_form.form
    c.in-Err-declaration.fault before
    (item_of (words_of line) c.in-Some-form_of.form (sym c.form_of.ensures ∙ c.in-Some-form_of.is)
    ∙ sym c.of_form.ensures ∙ c.in-Some-of_form.is) c.in-Err-declaration.ensures

pub returns-in-Ok-change_of_line : goal.returns-in-Ok-change_of_line
returns-in-Ok-change_of_line c =
    let text = c.args.text.now in
    let b = state_of_body c.args.declared.now c.args.body.now in
    let before = cut_is text c.in-Some.line.now c.in-Some.behind.now c.in-Some.ensures.parts in
    said_change c.word_laws.ensures c.args.loads c.args.table.now b text c.in-Some.line.now c.in-Some.behind.now c.in-Ok-change_of_line.change before c.in-Ok-change_of_line.ensures

pub returns-in-Err-change_of_line : goal.returns-in-Err-change_of_line
returns-in-Err-change_of_line c =
    let text = c.args.text.now in
    let b = state_of_body c.args.declared.now c.args.body.now in
    let before = cut_is text c.in-Some.line.now c.in-Some.behind.now c.in-Some.ensures.parts in
    line_stop c.word_laws.ensures c.args.loads c.args.table.now b text c.in-Some.line.now c.in-Some.behind.now c.in-Err-change_of_line.fault before c.in-Err-change_of_line.ensures
