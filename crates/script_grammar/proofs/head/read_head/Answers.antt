use Rattle.std.proofs.Common.{◌≡◌, ◌++◌, ℕ, List, Some, None, refl, sym, subst, ◌∙◌}
use Rattle.std.proofs.lemmas.Bool.Decides.{Decides-eqb}
use Rattle.std.proofs.lemmas.Slice.Eq.{strip_prefix_is}
use Rattle.script_grammar.specs.Preambles.{table_line, loads_line, IsHead, default_loads, limited, IsFaultOfPreamble, no_first_line}
use Rattle.script_grammar.proofs.HeadTexts.{at_second_line, at_third_line, usual_head, limited_head, same_parts}
use Rattle.script_grammar.proofs.head.read_head.Goals as goal

pub returns-in_default-clause-fault : goal.returns-in_default-clause-fault
returns-in_default-clause-fault c =
    let first_line = c.args.first.now in
    let text = c.args.text.now in
    let none = strip_prefix_is Decides-eqb text first_line None c.in_default.ensures.cases in
    subst (IsFaultOfPreamble first_line text) (sym c.fault.ensures) (no_first_line none refl refl)

pub returns-in-Some-strip_prefix-clause-head : goal.returns-in-Some-strip_prefix-clause-head
returns-in-Some-strip_prefix-clause-head c =
    let first_line = c.args.first.now in
    let text = c.args.text.now in
    let second = c.in-Some.second in
    let behind = c.in-Some-strip_prefix.behind in
    let is = strip_prefix_is Decides-eqb text first_line (Some second) c.in-Some.ensures.cases in
    let table = strip_prefix_is Decides-eqb second.now table_line (Some behind) c.in-Some-strip_prefix.ensures.cases in
    let e = c.head_before.ensures in
    let whole : text ≡ (first_line ++ table_line) ++ behind.now = usual_head first_line text second.now behind.now is table in
    let front = e.front (first_line ++ table_line) whole in
    (default_loads front e.loads, whole ∙ same_parts (first_line ++ table_line) c.head_before.result.front.now behind.now c.head_before.result.behind.now (sym front) (sym e.behind))

pub returns-in-Err-clause-fault : goal.returns-in-Err-clause-fault
returns-in-Err-clause-fault c =
    let first_line = c.args.first.now in
    let text = c.args.text.now in
    let second = c.in-Some.second in
    let is = strip_prefix_is Decides-eqb text first_line (Some second) c.in-Some.ensures.cases in
    let other = strip_prefix_is Decides-eqb second.now table_line None c.in_default-strip_prefix.ensures.cases in
    subst (IsFaultOfPreamble first_line text) (sym c.fault-in-Err.ensures) (at_second_line first_line text second.now c.in-Err.reason is other c.in-Err.ensures.fault)

pub returns-in-Some-strip_prefix-2-clause-head : goal.returns-in-Some-strip_prefix-2-clause-head
returns-in-Some-strip_prefix-2-clause-head c =
    let first_line = c.args.first.now in
    let text = c.args.text.now in
    let second = c.in-Some.second in
    let third = c.in-Ok.limit.1 in
    let behind = c.in-Some-strip_prefix-2.behind in
    let h = c.in-Ok.ensures.limit in
    let is = strip_prefix_is Decides-eqb text first_line (Some second) c.in-Some.ensures.cases in
    let table = strip_prefix_is Decides-eqb third.now table_line (Some behind) c.in-Some-strip_prefix-2.ensures.cases in
    let e = c.head_before-in-Some-strip_prefix-2.ensures in
    let lines : List ℕ = first_line ++ (loads_line h.word ++ table_line) in
    let whole : text ≡ lines ++ behind.now = limited_head first_line text second.now third.now behind.now c.in-Ok.limit.0 is h table in
    let front = e.front lines whole in
    let result = c.head_before-in-Some-strip_prefix-2.result in (
      subst (IsHead first_line result.front.now) (sym e.loads) (limited h.word front h.number h.limit),
      whole ∙ same_parts lines result.front.now behind.now result.behind.now (sym front) (sym e.behind),
    )

pub returns-in-None-clause-fault : goal.returns-in-None-clause-fault
returns-in-None-clause-fault c =
    let first_line = c.args.first.now in
    let text = c.args.text.now in
    let second = c.in-Some.second in
    let third = c.in-Ok.limit.1 in
    let is = strip_prefix_is Decides-eqb text first_line (Some second) c.in-Some.ensures.cases in
    let other = strip_prefix_is Decides-eqb third.now table_line None c.in-None.ensures.cases in
    subst (IsFaultOfPreamble first_line text) (sym c.fault-in-None.ensures) (at_third_line first_line text second.now third.now c.in-Ok.limit.0 is c.in-Ok.ensures.limit other)
