use Rattle.std.proofs.Common.{◌≡◌, ◌-◌, [], length, take, refl, sym, ◌∙◌}
use Rattle.std.specs.Prelude.{codes}
use Rattle.std.proofs.lemmas.Bool.{false≢true}
use Rattle.std.proofs.lemmas.Slice.Eq.{bytes_eq-Decides}
use Rattle.table_text.proofs.TableCuts.{cut_from, cut_to, cut_here, cut_nowhere, one_cut, passed_more}
use Rattle.table_text.proofs.table_split.split_at_end.Goals as goal

pub returns-then-eq-clause-found : goal.returns-then-eq-clause-found
returns-then-eq-clause-found c =
    let text = c.args.text.now in
    let rest = c.loop-line.rest.now in
    let same : c.in-Some.line.now ≡ codes "end" = (bytes_eq-Decides c.in-Some.line.now (codes "end")).0 (sym c.if-eq.ensures) in
    cut_to [] text text (take (length text - length rest) text) c.in-Some.behind.now refl
    (cut_here text rest c.in-Some.line.now c.in-Some.behind.now c.loop-line.invariant c.in-Some.ensures.parts
    same)

pub returns-then-eq-clause-only : goal.returns-then-eq-clause-only
returns-then-eq-clause-only c = λ table more h.
    let text = c.args.text.now in
    let rest = c.loop-line.rest.now in
    let same : c.in-Some.line.now ≡ codes "end" = (bytes_eq-Decides c.in-Some.line.now (codes "end")).0 (sym c.if-eq.ensures) in
    let mine = cut_here text rest c.in-Some.line.now c.in-Some.behind.now c.loop-line.invariant c.in-Some.ensures.parts same in
    let one = one_cut text (take (length text - length rest) text) c.in-Some.behind.now table more mine (cut_from [] text text table more refl h) in
    (sym one.0, sym one.1)

pub loop-line-preserved : goal.loop-line-preserved
loop-line-preserved c =
    passed_more c.args.text.now c.loop-line.rest.now c.in-Some.line.now c.in-Some.behind.now c.loop-line.invariant c.in-Some.ensures.parts
    (λ e. false≢true (c.if-eq.ensures ∙ (bytes_eq-Decides c.in-Some.line.now (codes "end")).1 e))

pub returns-clause-only : goal.returns-clause-only
returns-clause-only c = λ table rest h.
    cut_nowhere c.args.text.now c.loop-line.rest.now table rest c.loop-line.invariant c.in_default.ensures.parts (cut_from [] c.args.text.now c.args.text.now table rest refl h)
