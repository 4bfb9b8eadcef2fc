use Rattle.std.proofs.Common.{◌≡◌, take, drop, length-drop, ap, sym, ◌∙◌, arith}
use Rattle.std.proofs.Math.Seq.{take-add}
use Rattle.std.proofs.lemmas.List.{take_rest}
use Rattle.std.specs.Io.KnownBytes.{append_known}
use Rattle.tcp_fabric.proofs.Known.{append_known-more}
use Rattle.tcp_fabric.proofs.wire.Wire.write_all.Goals as goal

pub loop-preserved-in-Took : goal.loop-preserved-in-Took
loop-preserved-in-Took g c =
    let e = c.in-Took.ensures in
    let inv = c.loop.invariant in
    let piece = c.args.piece.now in
    let done = c.loop.done in
    let count = c.in-Took.count in
    let before = g.S.Socket.taken c.args.self.now.socket in
    let grew : g.S.Socket.taken c.write.new.self ≡ append_known (g.S.Socket.taken c.loop.self.socket) (take count (drop done piece)) = rw (take_rest piece done) at e.appended in (
      tt,
      tt,
      omega (arith, e.count, length-drop done piece),
      grew ∙ ap (λ known. append_known known (take count (drop done piece))) inv.3
          ∙ append_known-more before (take done piece) (take count (drop done piece))
          ∙ ap (append_known before) (sym (take-add done count piece)),
      (inv.4.0, e.same_given ∙ inv.4.1, inv.4.2),
      inv.5,
    )
