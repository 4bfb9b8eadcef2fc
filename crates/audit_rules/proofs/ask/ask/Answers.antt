use Rattle.std.proofs.Common.{◌<◌, ◌∙◌, ℕ, length, arith, sym, subst}
use Rattle.std.proofs.lemmas.List.{length-map}
use Rattle.engine_core.specs.Marks.{PendingCall, seqs_of}
use Rattle.audit_rules.specs.Asking.{HasPassedFirst}
use Rattle.audit_rules.proofs.Asked.{entries-same, numbers-same, of-table, apart-same}
use Rattle.audit_rules.proofs.Entries.{apart-rising, found, not-named, not-passed, not-standing, zip-at}
use Rattle.audit_rules.proofs.Numbers.{within}
use Rattle.audit_rules.proofs.Turned.{asked-turn}
use Rattle.audit_rules.proofs.ask.ask.Goals as goal

pub returns-in_err-place-clause-none : goal.returns-in_err-place-clause-none
returns-in_err-place-clause-none c = λ u past n row stands. rw c.from_residual.ensures (λ e at.
    not-standing u past c.args.engines.now n c.args.calls.now row.ties.same_chain (c.chain_after_event.ensures.is_chain u past row.prefix).names stands
    c.args.name.now c.args.seq e c.in_err-place.ensures.none at)

pub returns-in_err-at-clause-none : goal.returns-in_err-at-clause-none
returns-in_err-at-clause-none c = λ u past n row stands. rw c.from_residual-in_err-at.ensures (λ e at.
    not-named u past c.args.engines.now n c.args.calls.now row.ties.same_chain (c.chain_after_event.ensures.is_chain u past row.prefix).names stands
    c.args.name.now c.args.seq e (sym c.in_err-at.ensures) at)

pub index-from-requires : goal.index-from-requires
index-from-requires c =
    omega (
      arith,
      within (seqs_of c.args.calls.now) c.in_ok-place.place c.args.seq c.in_ok-place.ensures.found,
      length-map c.args.calls.now (λ (s : PendingCall). s.call.seq),
    )

pub reaches-requires-clause-place : goal.reaches-requires-clause-place
reaches-requires-clause-place c =
    omega (
      arith,
      within (seqs_of c.args.calls.now) c.in_ok-place.place c.args.seq c.in_ok-place.ensures.found,
      length-map c.args.calls.now (λ (s : PendingCall). s.call.seq),
    )

pub returns-then-not-reaches-clause-none : goal.returns-then-not-reaches-clause-none
returns-then-not-reaches-clause-none c = λ u past n row stands e at.
    (let there = found c.args.name.now c.in_ok-at.at c.args.engines.now (sym c.in_ok-at.ensures) in
    not-passed u past c.args.engines.now n c.args.calls.now row.ties.same_chain (c.chain_after_event.ensures.is_chain u past row.prefix).names stands
    c.args.name.now c.args.seq c.in_ok-at.at e there.engine there.at there.named
    (c.if-not-reaches.ensures.stops u past n c.args.seq row.prefix row.ties (apart-rising 0 c.requires.rising.0 c.args.calls.now c.requires.rising.1) row.shows c.in_ok-place.ensures.found
    (subst (λ (r : ℕ). HasPassedFirst u past c.args.seq r) (sym c.index-from.ensures)
    (zip-at (HasPassedFirst u past) (seqs_of c.args.calls.now) c.args.reached.now.items c.in_ok-place.place c.args.seq
    c.index-from.result.now row.reaches c.in_ok-place.ensures.found))) at)

pub index_mut-requires : goal.index_mut-requires
index_mut-requires c =
    omega (
      arith,
      within (seqs_of c.args.calls.now) c.in_ok-place.place c.args.seq c.in_ok-place.ensures.found,
      length-map c.args.calls.now (λ (s : PendingCall). s.call.seq),
    )

pub work-outcome-requires-clause-place : goal.work-outcome-requires-clause-place
work-outcome-requires-clause-place c =
    let here : c.in_ok-place.place < length (seqs_of c.reaches.new.calls) =
    rw c.reaches.ensures.numbers
    (within (seqs_of c.args.calls.now) c.in_ok-place.place c.args.seq c.in_ok-place.ensures.found) in
    omega (arith, length-map c.reaches.new.calls (λ (s : PendingCall). s.call.seq))

pub returns-clause-numbers : goal.returns-clause-numbers
returns-clause-numbers c = numbers-same c.reaches.new.engines c.reaches.new.calls c.in_ok-at.at c.in_ok-place.place
    c.args.now c.work-outcome.result c.work-outcome.new.engines c.work-outcome.new.calls
    c.work-outcome.ensures.works ∙ c.reaches.ensures.numbers

pub returns-clause-entries : goal.returns-clause-entries
returns-clause-entries c = entries-same c.reaches.new.engines c.reaches.new.calls c.in_ok-at.at c.in_ok-place.place
    c.args.now c.work-outcome.result c.work-outcome.new.engines c.work-outcome.new.calls
    c.work-outcome.ensures.works ∙ c.reaches.ensures.entries

pub returns-clause-of_table : goal.returns-clause-of_table
returns-clause-of_table c = of-table c.reaches.new.engines c.reaches.new.calls c.in_ok-at.at c.in_ok-place.place
    c.args.now c.work-outcome.result c.work-outcome.new.engines c.work-outcome.new.calls
    c.work-outcome.ensures.works c.args.table.now c.reaches.ensures.of_table

pub returns-clause-asked : goal.returns-clause-asked
returns-clause-asked c = λ u past n row stands.
    (let apart = apart-rising 0 c.requires.rising.0 c.args.calls.now c.requires.rising.1 in
    asked-turn u past n c.args.engines.now c.args.calls.now c.args.reached.now.items c.args.seq c.args.name.now
    c.args.now c.in_ok-place.place c.in_ok-at.at c.reaches.new.engines c.reaches.new.calls
    c.work-outcome.result c.work-outcome.new.engines c.work-outcome.new.calls row (c.chain_after_event.ensures.is_chain u past row.prefix).names stands c.in_ok-place.ensures.found
    (sym c.in_ok-at.ensures) (c.if-not-reaches.ensures.ties u past n row.prefix row.ties apart) (apart-same c.args.calls.now c.reaches.new.calls c.reaches.ensures.numbers apart)
    c.reaches.ensures.numbers c.reaches.ensures.entries
    (c.if-not-reaches.ensures.passes u past n c.args.seq row.prefix row.ties apart row.shows c.in_ok-place.ensures.found
    (subst (λ (r : ℕ). HasPassedFirst u past c.args.seq r) (sym c.index-from.ensures)
    (zip-at (HasPassedFirst u past) (seqs_of c.args.calls.now) c.args.reached.now.items c.in_ok-place.place c.args.seq
    c.index-from.result.now row.reaches c.in_ok-place.ensures.found)))
    c.work-outcome.ensures.works c.ties_after_event.ensures.works)
