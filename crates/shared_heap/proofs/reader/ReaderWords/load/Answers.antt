use Rattle.std.proofs.Common.{◌<◌, ◌≤◌, length, sym, ap, ◌∙◌, arith}
use Rattle.std.specs.Arc.{arc_value}
use Rattle.atomic_table.specs.Seated.{TableId}
use Rattle.shared_heap.proofs.Steps.{loads_it}
use Rattle.shared_heap.proofs.Freshness.{numbered_load, untouched}
use Rattle.shared_heap.proofs.reader.ReaderWords.load.Goals as goal

pub load-requires : goal.load-requires
load-requires c =
    let i = c.self.invariant in
    let t = (arc_value c.self.inside.words).shared in
    let p : c.args.place < c.self.inside.seat.table_id.words = rw (← c.self.view_is) at c.requires.in_heap in
    let words = ap (λ (z : TableId). z.words) i.of_table in
    let inside : c.args.place < t.key = omega (arith, p, i.sized) in
    rw c.deref.ensures (i.of_table, omega (arith, p, words), loads_it t.key t.table_id.slots c.self.inside.seat.id c.self.inside.seat.me c.args.place inside)

pub invariant_of-self : goal.invariant_of-self
invariant_of-self c =
    let i = c.self.invariant in
    let same = c.load.ensures.0 in
    let words = ap (λ (z : TableId). z.words) same in
    let l = c.load.ensures.2 in
    record {
      of_table = same ∙ i.of_table;
      sized = i.sized ∙ sym words;
      some_words = omega (arith, i.some_words, words);
      empty = l.slots ∙ i.empty;
      numbered = rw l.loads (numbered_load _ _ _ c.args.place c.load.result _ l.learns.known (omega arith) l.value i.numbered);
    }

pub returns-clause-untouched : goal.returns-clause-untouched
returns-clause-untouched c = λ all after goes_on known none.
    let l = c.load.ensures.2 in
    let within : after ≤ length c.self.inside.seat.me.0.known = rw (← c.self.view_is) at known in
    l.value ∙ untouched _ _ all c.args.place after l.learns.known goes_on within none

pub returns-clause-changes : goal.returns-clause-changes
returns-clause-changes c =
    let i = c.self.invariant in
    let l = c.load.ensures.2 in
    rw (← c.self.view_is) (record {
      loads = l.loads;
      grows = l.learns.known;
      last = l.value;
      untouched = λ all after goes_on known none. l.value ∙ untouched _ _ all c.args.place after l.learns.known goes_on known none;
      heap = c.load.ensures.0;
      whole = l.last;
      none_left = l.learns.last;
    })
