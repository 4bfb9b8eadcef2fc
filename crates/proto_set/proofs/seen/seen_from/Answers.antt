use Rattle.std.proofs.Common.{◌≡◌, List, Bool, true, false, Some, length, refl, sym, ap, ◌∙◌, subst, arith}
use Rattle.std.specs.Prelude.{slice_get}
use Rattle.std.proofs.lemmas.List.{nil_from_length, length-replicate}
use Rattle.proto_set.specs.declared.seen.SeenFiles.{SeenFiles}
use Rattle.proto_set.proofs.Visited.{paths_apart}
use Rattle.proto_set.proofs.Seeing.{links_within, sees_start, sees_more, seen_is, both_ok}
use Rattle.proto_set.proofs.seen.seen_from.Goals as goal

pub see_imports-requires : goal.see_imports-requires
see_imports-requires c =
    links_within c.links.ensures (length c.see.new.self.marks.items)
    (c.in_ok-see.ensures.count ∙ ap length c.in_ok-seen.ensures.marks ∙ length-replicate c.len.result false ∙ c.len.ensures)

pub loop-next-init : goal.loop-next-init
loop-next-init c =
    sees_start c.args.graph.now c.args.file c.len.result c.links.result.now c.in_ok-seen.seen c.see.new.self
    c.see_imports.new.self (paths_apart c.requires.own) c.len.ensures c.links.ensures c.in_ok-seen.ensures.marks
    c.in_ok-seen.ensures.next c.in_ok-see.ensures c.in_ok-see_imports.ensures

pub see_public-requires : goal.see_public-requires
see_public-requires c =
    links_within c.links-in-Some.ensures (length c.loop-next.seen.marks.items) c.loop-next.invariant.count

pub loop-next-preserved : goal.loop-next-preserved
loop-next-preserved c =
    let popped : SeenFiles = record { marks = c.loop-next.seen.marks; next = c.pop.new.self } in
    sees_more c.args.graph.now c.args.file c.in-Some.next c.links-in-Some.result.now c.loop-next.seen popped
    c.see_public.new.self (paths_apart c.requires.own) c.links-in-Some.ensures refl c.in-Some.ensures.items
    c.in_ok-see_public.ensures c.loop-next.invariant

pub returns : goal.returns
returns c =
    let set = c.args.graph.now in
    let s = c.loop-next.seen in
    let none : length s.next.items ≡ 0 = omega (arith, c.in_default.ensures.cases.0, s.next.ok.0) in
    let e = nil_from_length s.next.items none in
    both_ok c.marked.result c.marked.ensures.those c.marked.ensures.ascend
    (λ v those ascend.
    seen_is set c.args.file s v c.loop-next.invariant e
    (λ k. (
      λ m. subst (λ (bs : List Bool). slice_get bs k ≡ Some true) c.deref.ensures.value ((those k).0 m),
      λ m. (those k).1 (subst (λ (bs : List Bool). slice_get bs k ≡ Some true) (sym c.deref.ensures.value) m),
    ))
    ascend)
