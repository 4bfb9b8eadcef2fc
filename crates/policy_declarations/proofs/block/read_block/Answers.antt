use Rattle.std.proofs.Common.{ℕ, List, [], ◌∷◌, ◌++◌, sym, ap, ◌∙◌}
use Rattle.policy_declarations.specs.Blocks.{kept_lines}
use Rattle.policy_declarations.proofs.InnerLines.{done_more, inner_done, left_done, inner_end, left_end, kept_more, kept_same}
use Rattle.policy_declarations.proofs.block.read_block.Goals as goal

pub returns-then-is_end-clause-lines : goal.returns-then-is_end-clause-lines
returns-then-is_end-clause-lines c =
    let i = c.loop-line.invariant in
    let is = sym c.is_end.ensures ∙ c.if-is_end.true in
    i.2 ∙ ap (kept_lines c.args.skips) (sym (inner_done c.args.text.now i.0 c.loop-line.rest.now c.in-Some.line.now c.in-Some.behind.now i.1 c.in-Some.ensures.parts is))

pub returns-then-is_end-clause-rest : goal.returns-then-is_end-clause-rest
returns-then-is_end-clause-rest c =
    let i = c.loop-line.invariant in
    let is = sym c.is_end.ensures ∙ c.if-is_end.true in
    left_done c.args.text.now i.0 c.loop-line.rest.now c.in-Some.line.now c.in-Some.behind i.1 c.in-Some.ensures.parts is

pub loop-line-preserved-in_ok-push : goal.loop-line-preserved-in_ok-push
loop-line-preserved-in_ok-push c =
    let i = c.loop-line.invariant in
    let line = c.in-Some.line.now in
    let isnt = sym c.is_end.ensures ∙ c.if-is_end.false in
    let is = sym c.is_kept.ensures ∙ c.if-is_kept.true in (
      i.0 ++ line ∷ [],
      done_more c.args.text.now i.0 c.loop-line.rest.now line c.in-Some.behind.now i.1 c.in-Some.ensures.parts isnt,
      c.in_ok-push.ensures.ok ∙ ap (λ (x : List ℕ). c.loop-line.lines ++ x ∷ []) c.in_ok-from_slice.ensures ∙ ap (λ (ls : List (List ℕ)). ls ++ line ∷ []) i.2
          ∙ sym (kept_more c.args.skips i.0 line is),
    )

pub loop-line-preserved : goal.loop-line-preserved
loop-line-preserved c =
    let i = c.loop-line.invariant in
    let line = c.in-Some.line.now in
    let isnt = sym c.is_end.ensures ∙ c.if-is_end.false in
    let other = sym c.is_kept.ensures ∙ c.if-is_kept.false in (
      i.0 ++ line ∷ [],
      done_more c.args.text.now i.0 c.loop-line.rest.now line c.in-Some.behind.now i.1 c.in-Some.ensures.parts isnt,
      i.2 ∙ sym (kept_same c.args.skips i.0 line other),
    )

pub returns-clause-lines : goal.returns-clause-lines
returns-clause-lines c =
    let i = c.loop-line.invariant in
    i.2 ∙ ap (kept_lines c.args.skips) (sym (inner_end c.args.text.now i.0 c.loop-line.rest.now i.1 c.in_default.ensures.parts))

pub returns-clause-rest : goal.returns-clause-rest
returns-clause-rest c =
    let i = c.loop-line.invariant in
    left_end c.args.text.now i.0 c.loop-line.rest.now i.1 c.in_default.ensures.parts
