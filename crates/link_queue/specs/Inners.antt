-- The frames that a writer forwarded.
use Rattle.std.specs.Prelude.{ℕ, List}
use Rattle.mrpc_base.specs.declared.link.Link.{Ghosts}
use Rattle.link_queue.specs.declared.inner.InnerLink.{InnerLink}
use Rattle.link_queue.specs.Known.{frames_since}

-- the frames that the inner link sent since the writer got it
abbrev pub forwarded : {L : Type 0} {g : Ghosts L} → InnerLink L g → List (List ℕ)
forwarded {g = g} inner = frames_since (g.handed inner.link.start) (g.handed inner.link.now)
