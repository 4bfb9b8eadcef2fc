use Rattle.std.proofs.Common.{List, ℕ, ◌∷◌, ap, subst, IsPermutation}
use Rattle.slab.specs.Slab.{values}
use Rattle.tcp_fabric.specs.Link.{LinkEnd}
use Rattle.tcp_fabric.proofs.Slots.{one_more}
use Rattle.tcp_fabric.proofs.fabric.TcpFabricFabric.keep.Goals as goal

pub returns-clause-back : goal.returns-clause-back
returns-clause-back g c =
    let x : ℕ × LinkEnd = (c.args.conn, c.args.link) in
    let e = c.insert_reserved.ensures in
    subst (λ (old : List (ℕ × LinkEnd)). IsPermutation (values c.insert_reserved.new.self) (x ∷ old)) (ap (λ v. v.back) c.self.view_is)
    (one_more c.self.inside.back.slots c.insert_reserved.new.self.slots c.insert_reserved.result x e.was_vacant e.updates.changed e.updates.others)
