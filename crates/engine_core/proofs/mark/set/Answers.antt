use Rattle.std.proofs.Common.{◌≡◌, ◌==◌, List, None, Some, length, drop, ap, sym, ◌∙◌, set, arith}
use Rattle.std.specs.Prelude.{position}
use Rattle.std.specs.List.{slice_set}
use Rattle.std.proofs.lemmas.List.{length-set, take_at}
use Rattle.engine_core.specs.declared.mark.Mark.{Mark}
use Rattle.engine_core.specs.declared.mark.MarkNote.TheVariants.{Counted}
use Rattle.engine_core.proofs.MarkLemmas.{few-others, marked-at, marked-behind}
use Rattle.engine_core.proofs.mark.set.Goals as goal

pub push-requires : goal.push-requires
push-requires c =
    let none : position (λ (m : Mark). m.attach == c.args.attach) c.args.marks.now.items ≡ None =
    ap (λ (ms : List Mark). position (λ (m : Mark). m.attach == c.args.attach) ms) (sym c.as_slice.ensures.value)
    ∙ sym c.in-None.ensures in
    omega (arith, c.requires, few-others c.args.attach c.args.marks.now.items (record { attach = 0; note = Counted }) none)

pub returns-in-Some : goal.returns-in-Some
returns-in-Some c =
    let new : Mark = record { attach = c.args.attach; note = c.args.note } in
    let place : position (λ (m : Mark). m.attach == c.args.attach) c.args.marks.now.items ≡ Some c.in-Some.place =
    ap (λ (ms : List Mark). position (λ (m : Mark). m.attach == c.args.attach) ms) (sym c.as_slice.ensures.value)
    ∙ sym c.in-Some.ensures in
    let is : slice_set c.deref_mut.result.now c.in-Some.place new ≡ set c.args.marks.now.items c.in-Some.place new =
    ap (λ (ms : List Mark). slice_set ms c.in-Some.place new) c.deref_mut.ensures.value in
    take_at (slice_set c.deref_mut.result.now c.in-Some.place new)
    (drop (length (slice_set c.deref_mut.result.now c.in-Some.place new)) c.args.marks.now.items) (length c.args.marks.now.items)
    (omega (arith, ap (λ (ms : List Mark). length ms) is, length-set c.args.marks.now.items c.in-Some.place new))
    ∙ is ∙ marked-at c.args.attach c.in-Some.place c.args.note c.args.marks.now.items place

pub returns-in-None : goal.returns-in-None
returns-in-None c =
    let none : position (λ (m : Mark). m.attach == c.args.attach) c.args.marks.now.items ≡ None =
    ap (λ (ms : List Mark). position (λ (m : Mark). m.attach == c.args.attach) ms) (sym c.as_slice.ensures.value)
    ∙ sym c.in-None.ensures in
    c.push.ensures.items ∙ marked-behind c.args.attach c.args.note c.args.marks.now.items none
