use Rattle.std.proofs.Common.{rules, arith}
use Rattle.shared_heap.proofs.Steps.{begins, splits_it}
use Rattle.shared_heap.proofs.opening.open.Goals as goal

pub of_words-requires : goal.of_words-requires
of_words-requires c = begins _ _ (search rules)

pub split_seat-reading-requires : goal.split_seat-reading-requires
split_seat-reading-requires c =
    let t = c.in_ok-table.ensures in
    let items = c.as_slice.ensures.value in
    let len = c.in_ok-zeros.ensures.len in
    rw (c.deref.ensures, c.in_ok-table-2.ensures.ok) (t.2, omega (arith, t.0, c.as_slice.ensures.len, len, c.requires.at_least), splits_it c.in_ok-table.table.shared.key _ _)
