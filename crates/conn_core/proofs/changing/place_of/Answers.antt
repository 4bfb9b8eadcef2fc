use Rattle.std.proofs.Common.{List, ℕ, ap, sym, ◌∙◌}
use Rattle.std.specs.Str.{bytes_eq}
use Rattle.conn_core.proofs.Placing.{behind-more, here-placed}
use Rattle.conn_core.proofs.changing.place_of.Goals as goal

pub returns-then-eq : goal.returns-then-eq
returns-then-eq c = here-placed c.args.name.now c.args.chain.now.engines c.loop-at.at c.engine.result.now
    c.engine.ensures
    (ap (λ (a : List ℕ). bytes_eq a c.args.name.now) (sym (c.as_slice.ensures ∙ c.name.ensures)) ∙ ap
    (bytes_eq c.as_slice.result.now) (sym c.as_slice-in-loop-at.ensures)
    ∙ sym c.eq.ensures ∙ c.if-eq.true) c.loop-at.invariant

pub loop-at-preserved : goal.loop-at-preserved
loop-at-preserved c = behind-more c.args.name.now c.args.chain.now.engines c.loop-at.at c.engine.result.now
    c.engine.ensures
    (ap (λ (a : List ℕ). bytes_eq a c.args.name.now) (sym (c.as_slice.ensures ∙ c.name.ensures)) ∙ ap
    (bytes_eq c.as_slice.result.now) (sym c.as_slice-in-loop-at.ensures)
    ∙ sym c.eq.ensures ∙ c.if-eq.false) c.loop-at.invariant
