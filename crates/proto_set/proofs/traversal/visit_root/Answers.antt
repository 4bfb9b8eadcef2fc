use Rattle.std.proofs.Common.{◌≡◌, Some, length, sym, ap, ◌∙◌, arith}
use Rattle.std.specs.Prelude.{slice_get}
use Rattle.std.proofs.lemmas.List.{nil_from_length}
use Rattle.std.proofs.lemmas.Option.{slice_get-get_or}
use Rattle.proto_set.specs.declared.traversal.Traversal.{Traversal}
use Rattle.proto_set.proofs.Linked.{link_leads, link_file}
use Rattle.proto_set.proofs.Walked.{walk_first, innermost, innermost_file, walk_left, walk_done, no_link, followed, ringed, less_followed, less_gone}
use Rattle.proto_set.proofs.traversal.visit_root.Goals as goal

pub loop-frame-init : goal.loop-frame-init
loop-frame-init c =
    walk_first c.args.graph.now c.len.result c.in_ok-walk.walk.frames.items c.in_ok-walk.walk.marks.items c.len.ensures c.requires c.in_ok-walk.ensures.frames c.in_ok-walk.ensures.marks

pub links-requires : goal.links-requires
links-requires c =
    let h = innermost c.pop.new.self.items c.in-Some.frame c.in-Some.ensures.items c.loop-frame.invariant in
    omega (arith, innermost_file h, h.shows.count)

pub index_mut-requires : goal.index_mut-requires
index_mut-requires c =
    let h = innermost c.pop.new.self.items c.in-Some.frame c.in-Some.ensures.items c.loop-frame.invariant in
    omega (arith, innermost_file h, c.loop-frame.walk.marks.ok.0)

pub loop-frame-smaller-in-None : goal.loop-frame-smaller-in-None
loop-frame-smaller-in-None c =
    less_gone c.args.graph.now c.pop.new.self.items c.loop-frame.walk.frames.items c.in-Some.frame c.loop-frame.walk.marks.items c.in-Some.ensures.items

pub loop-frame-preserved-in-None : goal.loop-frame-preserved-in-None
loop-frame-preserved-in-None c =
    let h = innermost c.pop.new.self.items c.in-Some.frame c.in-Some.ensures.items c.loop-frame.invariant in
    walk_left h (no_link c.links.ensures c.in-None.ensures.lookup.3)

pub follow-requires-clause-here : goal.follow-requires-clause-here
follow-requires-clause-here c =
    let xs = c.links.result.now in
    let n = c.in-Some.frame.next in
    let l = c.in-Some-get.link.now in
    let g = c.in-Some-get.ensures.lookup.3 in
    let at : slice_get xs n ≡ Some l = slice_get-get_or xs n l g.0 ∙ ap Some (sym (g.1 l)) in
    omega (arith, link_file (link_leads c.links.ensures n l at), c.loop-frame.invariant.shows.count)

pub returns-then-branch : goal.returns-then-branch
returns-then-branch c =
    let h = innermost c.pop.new.self.items c.in-Some.frame c.in-Some.ensures.items c.loop-frame.invariant in
    let xs = c.links.result.now in
    let n = c.in-Some.frame.next in
    let l = c.in-Some-get.link.now in
    let g = c.in-Some-get.ensures.lookup.3 in
    let at : slice_get xs n ≡ Some l = slice_get-get_or xs n l g.0 ∙ ap Some (sym (g.1 l)) in
    let old : Traversal = record { frames = c.pop.new.self; marks = c.loop-frame.walk.marks } in
    ringed old c.follow.new.self c.in-Some.frame l c.in_ok-follow-in-Some-get.field-0 c.if-branch.true h (link_leads c.links.ensures n l at)
    c.in_ok-follow-in-Some-get.ensures

pub loop-frame-smaller : goal.loop-frame-smaller
loop-frame-smaller c =
    let xs = c.links.result.now in
    let n = c.in-Some.frame.next in
    let l = c.in-Some-get.link.now in
    let g = c.in-Some-get.ensures.lookup.3 in
    let at : slice_get xs n ≡ Some l = slice_get-get_or xs n l g.0 ∙ ap Some (sym (g.1 l)) in
    let old : Traversal = record { frames = c.pop.new.self; marks = c.loop-frame.walk.marks } in
    less_followed c.args.graph.now old c.follow.new.self c.loop-frame.walk.frames.items c.in-Some.frame l c.in_ok-follow-in-Some-get.field-0 c.if-branch.false
    c.in-Some.ensures.items (link_leads c.links.ensures n l at) c.in_ok-follow-in-Some-get.ensures

pub loop-frame-preserved : goal.loop-frame-preserved
loop-frame-preserved c =
    let h = innermost c.pop.new.self.items c.in-Some.frame c.in-Some.ensures.items c.loop-frame.invariant in
    let xs = c.links.result.now in
    let n = c.in-Some.frame.next in
    let l = c.in-Some-get.link.now in
    let g = c.in-Some-get.ensures.lookup.3 in
    let at : slice_get xs n ≡ Some l = slice_get-get_or xs n l g.0 ∙ ap Some (sym (g.1 l)) in
    let old : Traversal = record { frames = c.pop.new.self; marks = c.loop-frame.walk.marks } in
    followed old c.follow.new.self c.in-Some.frame l c.in_ok-follow-in-Some-get.field-0 c.if-branch.false h (link_leads c.links.ensures n l at)
    c.in_ok-follow-in-Some-get.ensures

pub returns : goal.returns
returns c =
    let none : length c.loop-frame.walk.frames.items ≡ 0 = omega (arith, c.in_default.ensures.cases.0, c.loop-frame.walk.frames.ok.0) in
    walk_done (nil_from_length c.loop-frame.walk.frames.items none) c.loop-frame.invariant
