use Rattle.std.proofs.Common.{◌≡◌, ◌<◌, true, List, ℕ, ap, sym, subst, ◌∙◌}
use Rattle.std.specs.List.{concat}
use mathlib.Core.List.{IsPrefix}
use Rattle.spsc_queue.specs.Ends.{pushed_of}
use Rattle.spsc_queue.specs.Pieces.{bytes_of_pieces, frames_of_pieces}
use Rattle.spsc_queue.specs.Readers.{delivered_by, popped_by, known_pushed_by}
use Rattle.mem_fabric.specs.Pair.{IsOutgoing}
use Rattle.mem_fabric.proofs.Outgoing.{met_after_end, bytes_of_frames}
use Rattle.mem_fabric.proofs.pair_link.meet.Goals as goal

pub invariant_of-first : goal.invariant_of-first
invariant_of-first g c =
    let e = c.meet.ensures in
    let to = c.first.inside.incoming in
    let from = c.second.inside.out in (
      subst (IsOutgoing c.first.inside.finished) (sym c.meet-2.ensures.put) c.first.invariant.0,
      (c.second.inside.finished, subst (IsOutgoing c.second.inside.finished) (sym (e.told ∙ e.put)) c.second.invariant.0),
      λ ended. (met_after_end c.second.inside.finished (pushed_of from) (pushed_of c.meet.new.producer) (popped_by to)
          (popped_by c.meet.new.self) (known_pushed_by to) (known_pushed_by c.meet.new.self) (delivered_by to) (delivered_by c.meet.new.self)
          c.second.invariant.0 e.put e.taken e.given e.told e.in_order (c.first.invariant.2 ended)).2,
      λ unfinished. subst (λ (n : ℕ). 0 < n) (sym c.meet-2.ensures.free) (c.first.invariant.3 unfinished),
    )

pub invariant_of-second : goal.invariant_of-second
invariant_of-second g c =
    let e = c.meet-2.ensures in
    let to = c.second.inside.incoming in
    let from = c.first.inside.out in (
      subst (IsOutgoing c.second.inside.finished) (sym c.meet.ensures.put) c.second.invariant.0,
      (c.first.inside.finished, subst (IsOutgoing c.first.inside.finished) (sym (e.told ∙ e.put)) c.first.invariant.0),
      λ ended. (met_after_end c.first.inside.finished (pushed_of from) (pushed_of c.meet-2.new.producer) (popped_by to)
          (popped_by c.meet-2.new.self) (known_pushed_by to) (known_pushed_by c.meet-2.new.self) (delivered_by to)
          (delivered_by c.meet-2.new.self)
          c.first.invariant.0 e.put e.taken e.given e.told e.in_order (c.second.invariant.2 ended)).2,
      λ unfinished. subst (λ (n : ℕ). 0 < n) (sym c.meet.ensures.free) (c.second.invariant.3 unfinished),
    )

pub returns-clause-to_second : goal.returns-clause-to_second
returns-clause-to_second g c =
    let e = c.meet-2.ensures in
    let to = c.second.inside.incoming in
    let from = c.first.inside.out in
    let all = λ (ended : c.second.inside.ended ≡ true). met_after_end c.first.inside.finished (pushed_of from)
    (pushed_of c.meet-2.new.producer) (popped_by to) (popped_by c.meet-2.new.self) (known_pushed_by to)
    (known_pushed_by c.meet-2.new.self) (delivered_by to) (delivered_by c.meet-2.new.self)
    c.first.invariant.0 e.put e.taken e.given e.told e.in_order (c.second.invariant.2 ended) in
    record {
      in_order = subst (λ (b : List ℕ). IsPrefix (delivered_by c.meet-2.new.self) b) (bytes_of_frames (pushed_of c.meet-2.new.producer)) e.bytes;
      whole = λ ended. (all ended).1;
      finished = λ ended. (all ended).0;
    }

pub returns-clause-to_first : goal.returns-clause-to_first
returns-clause-to_first g c =
    let e = c.meet.ensures in
    let to = c.first.inside.incoming in
    let from = c.second.inside.out in
    let all = λ (ended : c.first.inside.ended ≡ true). met_after_end c.second.inside.finished (pushed_of from)
    (pushed_of c.meet.new.producer) (popped_by to) (popped_by c.meet.new.self) (known_pushed_by to) (known_pushed_by c.meet.new.self)
    (delivered_by to) (delivered_by c.meet.new.self)
    c.second.invariant.0 e.put e.taken e.given e.told e.in_order (c.first.invariant.2 ended) in
    record {
      in_order = subst (λ (b : List ℕ). IsPrefix (delivered_by c.meet.new.self) b) (bytes_of_frames (pushed_of c.meet.new.producer)) e.bytes;
      whole = λ ended. (all ended).1;
      finished = λ ended. (all ended).0;
    }

pub returns-clause-first : goal.returns-clause-first
returns-clause-first g c =
    let told : bytes_of_pieces (known_pushed_by c.meet.new.self) ≡ concat (frames_of_pieces (pushed_of c.second.inside.out)) =
    ap bytes_of_pieces (c.meet.ensures.told ∙ c.meet.ensures.put) ∙ bytes_of_frames (pushed_of c.second.inside.out) in
    rw (← c.first.view_is, ← c.second.view_is) (cc (told, c.meet-2.ensures.put, c.meet.ensures.given, c.meet-2.ensures.producer_queue, c.meet.ensures.reader_queue))

pub returns-clause-second : goal.returns-clause-second
returns-clause-second g c =
    let told : bytes_of_pieces (known_pushed_by c.meet-2.new.self) ≡ concat (frames_of_pieces (pushed_of c.first.inside.out)) =
    ap bytes_of_pieces (c.meet-2.ensures.told ∙ c.meet-2.ensures.put) ∙ bytes_of_frames (pushed_of c.first.inside.out) in
    rw (← c.first.view_is, ← c.second.view_is) (cc (told, c.meet.ensures.put, c.meet-2.ensures.given, c.meet.ensures.producer_queue, c.meet-2.ensures.reader_queue))
