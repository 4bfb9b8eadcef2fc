use Rattle.std.proofs.Common.{◌+◌, [], false, take, sym, subst, arith}
use Rattle.proto_set.specs.Seeing.{HasSeenMore, IsLinkedPublicly}
use Rattle.proto_set.specs.declared.links.ImportLink.{ImportLink}
use Rattle.proto_set.specs.declared.seen.SeenFiles.{SeenFiles}
use Rattle.proto_set.proofs.Seeing.{more_start, public_none, public_more, public_skip, public_all}
use Rattle.proto_set.proofs.seen.SeenFiles.see_public.Goals as goal
use Rattle.proto_set.proofs.seen.SeenFiles.see_public.Goals.{then-link+in_ok-see, else-link}

abbrev none : ImportLink
none = record { file = 0; public = false }

pub loop-link-init : goal.loop-link-init
loop-link-init c = more_start (IsLinkedPublicly []) c.args.self.now public_none

pub see-requires : goal.see-requires
see-requires c =
    omega (arith, c.requires c.loop-link.link-index none c.loop-link-test.true, c.loop-link.invariant.count)

pub loop-link-preserved : goal.loop-link-preserved
loop-link-preserved c =
    let links = c.args.links.now in
    let i = c.loop-link.link-index in
    let old = c.args.self.now in
    elim c.if-link.branch [
      | then-link+in_ok-see w ↦
          subst (λ (s : SeenFiles). HasSeenMore (IsLinkedPublicly (take (i + 1) links)) old s) (sym w.self-is)
          (public_more links i none old c.loop-link.self w.see.new.self c.loop-link-test.true w.if-link.true c.loop-link.invariant w.in_ok-see.ensures)
      | else-link w ↦
          subst (λ (s : SeenFiles). HasSeenMore (IsLinkedPublicly (take (i + 1) links)) old s) (sym w.self-is)
          (public_skip links i none old c.loop-link.self c.loop-link-test.true w.if-link.false c.loop-link.invariant)
    ]

pub returns : goal.returns
returns c =
    public_all c.args.links.now c.loop-link.link-index c.args.self.now c.loop-link.self c.loop-link-test.false
    c.loop-link.invariant
