use Rattle.std.proofs.Common.{◌≡◌, ◌++◌, List, ℕ, Option, IfSome, take, ap, sym, subst, ◌∙◌}
use Rattle.std.specs.List.{concat}
use mathlib.Core.List.{IsPrefix}
use Rattle.tcp_fabric.proofs.Known.{came-in-order, concat-snoc}
use Rattle.tcp_fabric.proofs.link.SocketLinkLink.receive.Goals as goal

pub invariant_of-self : goal.invariant_of-self
invariant_of-self g c =
    let inv = c.self.invariant in
    let same = sym c.in-Bytes.ensures.same_taken in (
      subst (λ (sent : Option (List ℕ)). IfSome sent (λ bytes. IsPrefix (concat c.self.inside.handed.pieces) bytes)) same inv.0,
      λ whole. subst (λ (sent : Option (List ℕ)). IfSome sent (λ bytes. bytes ≡ concat c.self.inside.handed.pieces)) same (inv.1 whole),
      subst (λ (pieces : List (List ℕ)). IfSome (g.S.Socket.given c.read-came.new.self.socket)
          (λ bytes. bytes ≡ concat pieces ++ c.read-came.new.self.ahead)) (sym c.with-self-inside.ensures)
          (came-in-order (g.S.Socket.given c.self.inside.wire.socket) (g.S.Socket.given c.read-came.new.self.socket)
          c.self.inside.given.pieces (take c.in-Bytes.count c.read-came.new.buf) c.self.inside.wire.ahead
          c.read-came.new.self.ahead inv.2 c.in-Bytes.ensures.came),
    )

pub returns-in-Bytes-clause-appended : goal.returns-in-Bytes-clause-appended
returns-in-Bytes-clause-appended g c =
    ap concat c.with-self-inside.ensures ∙ concat-snoc c.self.inside.given.pieces (take c.in-Bytes.count c.read-came.new.buf)
    ∙ ap (λ (given : List ℕ). given ++ take c.in-Bytes.count c.read-came.new.buf) (ap (λ l. l.given) c.self.view_is)
