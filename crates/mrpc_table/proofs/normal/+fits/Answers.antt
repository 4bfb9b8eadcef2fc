use Rattle.std.proofs.Common.{◌≡◌, ◌<◌, length, sym, refl, arith, Some, subst}
use Rattle.mrpc_table.specs.Normal.{field_at}
use Rattle.mrpc_table.specs.NormalParts.{IsNormalWithin}
use Rattle.mrpc_table.proofs.FitLemmas.{no_room, kind_known, map_key_known, label_placed, rest_more, whole_down, whole_up, many_is, pairs_is, has_some}
use Rattle.mrpc_table.proofs.normal.+fits.Goals as goal

pub fields_fit-content_fits-requires : goal.fields_fit-content_fits-requires
fields_fit-content_fits-requires t c =
    let e : field_at c.args.message.now.fields c.loop-number-item.result.0 ≡ Some c.in-Some.field.now = sym c.in-Some.ensures in (
      omega arith,
      (
        c.requires.valid,
        (
          kind_known c.args.table.now c.args.message.now c.loop-number-item.result.0 c.in-Some.field.now
              c.requires.message e,
          map_key_known c.args.table.now c.args.message.now c.loop-number-item.result.0 c.in-Some.field.now
              c.requires.message e,
        ),
      ),
    )

pub fields_fit-take_member-requires : goal.fields_fit-take_member-requires
fields_fit-take_member-requires t c =
    let e : field_at c.args.message.now.fields c.loop-number-item.result.0 ≡ Some c.in-Some.field.now = sym c.in-Some.ensures in
    label_placed c.args.table.now c.args.message.now c.loop-number-item.result.0 (length c.loop-number.taken) c.in-Some.field.now c.requires.message e c.loop-number.invariant.1

pub fields_fit-loop-number-preserved : goal.fields_fit-loop-number-preserved
fields_fit-loop-number-preserved t c =
    let e : field_at c.args.message.now.fields c.loop-number-item.result.0 ≡ Some c.in-Some.field.now = sym c.in-Some.ensures in
    let placed = label_placed c.args.table.now c.args.message.now c.loop-number-item.result.0
    (length c.loop-number.taken) c.in-Some.field.now c.requires.message e c.loop-number.invariant.1 in
    let fits = c.if-not-content_fits.ensures.0 refl in
    let free = sym c.if-not-take_member.ensures.free in (
      rw c.if-not-take_member.ensures.after
          (rest_more c.args.table.now c.args.message.now.fields c.args.room c.loop-number.last c.loop-number.taken
          c.in-Some.field.now c.deref-number-items.result.now c.loop-number.number-index c.loop-number-item.result _
          c.loop-number-test.true c.loop-number-item.is e placed c.if-number-last.false fits free
          c.loop-number.invariant.0),
      omega (arith, c.take_member.auto.taken, c.loop-number.invariant.1),
    )

pub tree_fits-returns-then-room-eq0 : goal.tree_fits-returns-then-room-eq0
tree_fits-returns-then-room-eq0 t c =
    (λ e. absurd cc, λ h. absurd (no_room c.args.table.now c.args.msg c.args.tree.now (subst (λ r. IsNormalWithin c.args.table.now c.args.msg r c.args.tree.now) c.if-room-eq0.true h)))

pub tree_fits-returns : goal.tree_fits-returns
tree_fits-returns t c =
    let both = c.fields_fit.ensures in
    let within : c.args.msg < length c.args.table.now.messages = c.requires.known in (
      λ e. whole_up c.args.table.now c.args.msg c.args.room 128 c.index-as_slice-msg.result c.args.tree.now within (rw (← c.as_slice.ensures) c.index-as_slice-msg.is) (both.0 e),
      λ h. both.1 (whole_down c.args.table.now c.args.msg c.args.room 128 c.index-as_slice-msg.result c.args.tree.now within (rw (← c.as_slice.ensures) c.index-as_slice-msg.is) h),
    )

pub content_fits-returns-then-not-is_empty : goal.content_fits-returns-then-not-is_empty
content_fits-returns-then-not-is_empty t c =
    rw c.in-Many.is (many_is c.args.table.now c.args.field.now c.args.room c.in-Many.values.items c.items_fit.result
    (c.if-not-can_have_many.ensures.0 refl)
    (has_some _ _ _ c.deref.ensures.value c.deref.ensures.len c.if-not-is_empty.ensures)
    (rw (← c.deref.ensures.value) c.items_fit.ensures))

pub content_fits-returns-then-not-is_empty-2 : goal.content_fits-returns-then-not-is_empty-2
content_fits-returns-then-not-is_empty-2 t c =
    rw c.in-Pairs.is (pairs_is c.args.table.now c.args.field.now c.args.room c.in-Map.key c.in-Pairs.entries.items
    c.keys_ascend.result c.in-Map.is
    (has_some _ _ _ c.deref-then-not-is_empty-2.ensures.value c.deref-then-not-is_empty-2.ensures.len
    c.if-not-is_empty-2.ensures) (rw (← c.deref-in-Pairs.ensures.value) (c.if-not-pairs_fit.ensures.0 refl))
    (rw (← c.deref-then-not-is_empty-2.ensures.value) c.keys_ascend.ensures))
