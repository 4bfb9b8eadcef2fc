use Rattle.std.proofs.Common.{[], false, arith}
use Rattle.proto_set.specs.Seeing.{IsLinked}
use Rattle.proto_set.specs.declared.links.ImportLink.{ImportLink}
use Rattle.proto_set.proofs.Seeing.{more_start, linked_none, linked_more, linked_all}
use Rattle.proto_set.proofs.seen.SeenFiles.see_imports.Goals as goal

abbrev none : ImportLink
none = record { file = 0; public = false }

pub loop-link-init : goal.loop-link-init
loop-link-init c = more_start (IsLinked []) c.args.self.now linked_none

pub see-requires : goal.see-requires
see-requires c =
    omega (arith, c.requires c.loop-link.link-index none c.loop-link-test.true, c.loop-link.invariant.count)

pub loop-link-preserved : goal.loop-link-preserved
loop-link-preserved c =
    linked_more c.args.links.now c.loop-link.link-index none c.args.self.now c.loop-link.self c.see.new.self
    c.loop-link-test.true c.loop-link.invariant c.in_ok-see.ensures

pub returns : goal.returns
returns c =
    linked_all c.args.links.now c.loop-link.link-index c.args.self.now c.loop-link.self c.loop-link-test.false
    c.loop-link.invariant
