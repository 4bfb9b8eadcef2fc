use Rattle.std.proofs.Common.{refl, replicate, rules}
use Rattle.frame_transport.proofs.Joints.{gathered}
use Rattle.frame_transport.proofs.header.HeaderPart.of.Goals as goal

pub returns : goal.returns
returns c =
    gathered c.args.begun.now c.args.piece.now (replicate 16 0) c.copy_from_slice.new.self c.copy_from_slice-2.new.self c.min-old.result c.min-new.result
    refl (search rules) (search rules) (search rules) (search rules)
