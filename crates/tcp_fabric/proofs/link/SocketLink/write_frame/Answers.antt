use Rattle.std.proofs.Common.{◌≡◌, List, ℕ, Option, IfSome, take, ap, sym, subst, ◌∙◌, arith}
use Rattle.std.specs.List.{concat}
use Rattle.std.specs.Io.KnownBytes.{append_known}
use mathlib.Core.List.{IsPrefix}
use Rattle.tcp_fabric.proofs.Known.{append_known-nil, sent-whole, sent-front, came-waits, not-cut}
use Rattle.tcp_fabric.proofs.link.SocketLink.write_frame.Goals as goal

pub invariant_of-self : goal.invariant_of-self
invariant_of-self g c =
    let inv = c.self.invariant in
    let e = c.in-Ok.ensures in
    let now = g.S.Socket.taken c.write_all.new.self.socket in
    let was = inv.1 (not-cut c.self.inside.outgoing (ap (λ l. l.outgoing) c.self.view_is ∙ c.requires)) in
    let whole =
    subst (λ (pieces : List (List ℕ)). IfSome now (λ bytes. bytes ≡ concat pieces)) (sym c.with-self-inside.ensures)
    (sent-whole (g.S.Socket.taken c.self.inside.wire.socket) now c.self.inside.handed.pieces c.args.frame.now was e.whole) in (
      sent-front now c.with-self-inside.result.pieces whole,
      λ _. whole,
      came-waits (g.S.Socket.given c.self.inside.wire.socket) (g.S.Socket.given c.write_all.new.self.socket)
          (concat c.self.inside.given.pieces) c.self.inside.wire.ahead c.write_all.new.self.ahead inv.2 e.came,
    )

pub invariant_of-self-else-eq : goal.invariant_of-self-else-eq
invariant_of-self-else-eq g c =
    let inv = c.self.invariant in
    let e = c.in-Err.ensures in
    let old = g.S.Socket.taken c.self.inside.wire.socket in
    let none : c.in-Err.cut.done ≡ 0 = omega (arith, c.if-cut-gt0.false) in
    let same : old ≡ g.S.Socket.taken c.write_all.new.self.socket = sym (e.part.1 ∙ ap (λ n. append_known old (take n c.args.frame.now)) none ∙ append_known-nil old) in (
      subst (λ (sent : Option (List ℕ)). IfSome sent (λ bytes. IsPrefix (concat c.self.inside.handed.pieces) bytes)) same inv.0,
      λ whole. subst (λ (sent : Option (List ℕ)). IfSome sent (λ bytes. bytes ≡ concat c.self.inside.handed.pieces)) same (inv.1 whole),
      came-waits (g.S.Socket.given c.self.inside.wire.socket) (g.S.Socket.given c.write_all.new.self.socket)
          (concat c.self.inside.given.pieces) c.self.inside.wire.ahead c.write_all.new.self.ahead inv.2 e.came,
    )
