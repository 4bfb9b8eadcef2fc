use Rattle.std.proofs.Common.{ap, refl, sym, subst, false, ◌∙◌}
use Rattle.spsc_queue.specs.Pieces.{bytes_of_pieces, frames_of_pieces}
use Rattle.mem_fabric.specs.Pair.{IsOutgoing}
use Rattle.mem_fabric.proofs.pair_link.PairLink.new.Goals as goal

pub invariant_of-result : goal.invariant_of-result
invariant_of-result g c = (
  subst (IsOutgoing false) (sym c.requires.put) refl,
  (false, subst (IsOutgoing false) (sym (c.new.ensures.told ∙ c.requires.told)) refl),
  λ e. absurd (cc (e)),
  λ _. c.requires.free,
)

pub returns : goal.returns
returns g c =
    cc (ap frames_of_pieces c.requires.put, c.new.ensures.given, ap bytes_of_pieces (c.new.ensures.told ∙ c.requires.told), c.new.ensures.queue)
