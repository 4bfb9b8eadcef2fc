use Rattle.std.proofs.Common.{false, true, ◌≡◌, ℕ, ◌≤◌, ◌<◌, ◌∙◌, List, length, map, slice_get, arith, ap, refl, sym, subst}
use Rattle.std.specs.Prelude.{IsTrue, Some}
use Rattle.std.proofs.lemmas.Grind.{common_steps}
use Rattle.std.proofs.lemmas.List.{length-map}
use Rattle.mrpc_table.specs.Calls.{IsCallOf}
use Rattle.engine_core.specs.Chains.{Chain}
use Rattle.engine_core.specs.Engines.{EngineParts}
use Rattle.engine_core.specs.Marks.{PendingCall, seqs_of}
use Rattle.std.specs.List.{AllZip}
use Rattle.call_history.specs.Trace.{chain}
use Rattle.call_history.specs.Ties.{AreTied}
use Rattle.audit_rules.specs.Asking.{HasPassedFirst}
use Rattle.audit_rules.specs.CheckerState.{pending_numbers, checker_context}
use Rattle.audit_rules.proofs.Asked.{All-at, map-at}
use Rattle.audit_rules.proofs.Entries.{apart-rising, zip-at}
use Rattle.audit_rules.proofs.Known.{free-numbers, known-places, known-rising, known-standing}
use Rattle.audit_rules.proofs.Numbers.{within}
use Rattle.audit_rules.proofs.Sends.{frame-of, passes-all, sends}
use Rattle.audit_rules.proofs.Clocks.{written-back}
use Rattle.audit_rules.proofs.Going.{latest-same}
use Rattle.audit_rules.proofs.Worked.{knows-worked}
use Rattle.audit_rules.proofs.checker.Checker.send.Goals as goal

pub returns-then-not-reaches-clause-sends_not : goal.returns-then-not-reaches-clause-sends_not
returns-then-not-reaches-clause-sends_not c = λ past knows sent.
    (let first : slice_get (pending_numbers c.args.self.now) 0 ≡ Some c.args.seq = grind (arith, common_steps, c.first_pending.ensures, c.ne.ensures, c.if-ne.false) in
    let first_call : slice_get (seqs_of c.args.self.now.calls) 0 ≡ Some c.args.seq =
    subst (λ (ns : List ℕ). slice_get ns 0 ≡ Some c.args.seq) (free-numbers c.args.self.now.left (seqs_of c.args.self.now.calls) c.requires.free) first in
    c.if-not-reaches.ensures.stops (checker_context c.args.table.now c.args.self.now) past c.args.self.now.attached c.args.seq knows.row.prefix (rw c.deref_mut.ensures.value knows.row.ties)
    (apart-rising 0 c.args.self.now.taken c.args.self.now.calls (known-rising c.args.table.now past c.args.self.now knows c.requires.free)) knows.row.shows first_call
    (subst (λ (r : ℕ). HasPassedFirst (checker_context c.args.table.now c.args.self.now) past c.args.seq r) (sym c.index-from.ensures)
    (zip-at (HasPassedFirst (checker_context c.args.table.now c.args.self.now) past) (seqs_of c.args.self.now.calls)
    c.args.self.now.reached.items 0 c.args.seq c.index-from.result.now knows.row.reaches first_call))
    (passes-all (checker_context c.args.table.now c.args.self.now) past c.args.seq c.args.bytes c.len-at.result sent))

pub is_frame_of-requires-clause-of_table : goal.is_frame_of-requires-clause-of_table
is_frame_of-requires-clause-of_table c =
    rw c.call.ensures (All-at (λ (s : PendingCall). IsCallOf c.args.table.now s.call) c.reaches.new.calls 0
    c.at.result.now c.reaches.ensures.of_table c.at.ensures)

pub returns-then-not-is_frame_of-clause-sends_not : goal.returns-then-not-is_frame_of-clause-sends_not
returns-then-not-is_frame_of-clause-sends_not c = λ past knows sent.
    (let first : slice_get (pending_numbers c.args.self.now) 0 ≡ Some c.args.seq = grind (arith, common_steps, c.first_pending.ensures, c.ne.ensures, c.if-ne.false) in
    let first_call : slice_get (seqs_of c.args.self.now.calls) 0 ≡ Some c.args.seq =
    subst (λ (ns : List ℕ). slice_get ns 0 ≡ Some c.args.seq) (free-numbers c.args.self.now.left (seqs_of c.args.self.now.calls) c.requires.free) first in
    let apart = apart-rising 0 c.args.self.now.taken c.args.self.now.calls (known-rising c.args.table.now past c.args.self.now knows c.requires.free) in
    let ties = c.if-not-reaches.ensures.ties (checker_context c.args.table.now c.args.self.now) past c.args.self.now.attached knows.row.prefix (rw c.deref_mut.ensures.value knows.row.ties) apart in
    let stands = c.reaches.ensures.numbers ∙ known-standing c.args.table.now past c.args.self.now knows c.requires.free in
    let first_new : slice_get (seqs_of c.reaches.new.calls) 0 ≡ Some c.args.seq = rw c.reaches.ensures.numbers first_call in
    let long = frame-of (checker_context c.args.table.now c.args.self.now) past c.args.self.now.attached c.args.seq c.args.bytes
    c.len-at.result c.reaches.new.engines c.reaches.new.calls ties stands first_new c.at.result.now c.at.ensures
    sent in
    let is_frame : IsTrue c.is_frame_of.result = c.is_frame_of.ensures.1 (rw c.call.ensures long) in
    let wrong : false ≡ true = sym c.if-not-is_frame_of.true ∙ is_frame in cc)

pub remove_call-requires-clause-place : goal.remove_call-requires-clause-place
remove_call-requires-clause-place c =
    let places = known-places c.args.table.now c.requires.knowing.0 c.args.self.now c.requires.knowing.1 in
    let here : 0 < length (seqs_of c.reaches.new.calls) =
    within (seqs_of c.reaches.new.calls) 0 c.at.result.now.call.seq
    (map-at (λ (s : PendingCall). s.call.seq) c.reaches.new.calls 0 c.at.result.now c.at.ensures) in
    omega (arith, places, length-map c.args.self.now.calls (λ (s : PendingCall). s.call.seq), ap (λ (ns : List ℕ). length ns) c.reaches.ensures.numbers)

pub returns-clause-sends : goal.returns-clause-sends
returns-clause-sends c = λ past knows.
    (let first : slice_get (pending_numbers c.args.self.now) 0 ≡ Some c.args.seq = grind (arith, common_steps, c.first_pending.ensures, c.ne.ensures, c.if-ne.false) in
    let first_call : slice_get (seqs_of c.args.self.now.calls) 0 ≡ Some c.args.seq =
    subst (λ (ns : List ℕ). slice_get ns 0 ≡ Some c.args.seq) (free-numbers c.args.self.now.left (seqs_of c.args.self.now.calls) c.requires.free) first in
    let apart = apart-rising 0 c.args.self.now.taken c.args.self.now.calls (known-rising c.args.table.now past c.args.self.now knows c.requires.free) in
    let ties = c.if-not-reaches.ensures.ties (checker_context c.args.table.now c.args.self.now) past c.args.self.now.attached knows.row.prefix (rw c.deref_mut.ensures.value knows.row.ties) apart in
    let stands = c.reaches.ensures.numbers ∙ known-standing c.args.table.now past c.args.self.now knows c.requires.free in
    let first_new : slice_get (seqs_of c.reaches.new.calls) 0 ≡ Some c.args.seq = rw c.reaches.ensures.numbers first_call in
    let lets = c.if-not-reaches.ensures.passes (checker_context c.args.table.now c.args.self.now) past c.args.self.now.attached
    c.args.seq knows.row.prefix (rw c.deref_mut.ensures.value knows.row.ties) apart
    knows.row.shows first_call (subst (λ (r : ℕ). HasPassedFirst (checker_context c.args.table.now c.args.self.now) past c.args.seq r) (sym c.index-from.ensures)
    (zip-at (HasPassedFirst (checker_context c.args.table.now c.args.self.now) past) (seqs_of c.args.self.now.calls)
    c.args.self.now.reached.items 0 c.args.seq c.index-from.result.now knows.row.reaches first_call)) in
    let entries : length (map (λ (e : EngineParts). e.entry) c.args.self.now.engines.items)
    ≡ length (chain past).entries = ap (λ (c : Chain). length c.entries) knows.row.ties.same_chain in
    let all : length (chain past).entries ≤ c.len-at.result = omega (arith, entries, length-map c.args.self.now.engines.items (λ (e : EngineParts). e.entry), c.len-at.ensures) in
    let is_frame : IsTrue c.is_frame_of.result = c.if-not-is_frame_of.false in
    sends (checker_context c.args.table.now c.args.self.now) past c.args.self.now.attached c.args.seq c.args.bytes
    c.len-at.result c.reaches.new.engines c.reaches.new.calls ties stands first_new c.at.result.now c.at.ensures
    all lets (rw (sym c.call.ensures) (c.is_frame_of.ensures.0 is_frame)))

pub returns-clause-knows : goal.returns-clause-knows
returns-clause-knows c = λ past knows may.
    (let first : slice_get (pending_numbers c.args.self.now) 0 ≡ Some c.args.seq = grind (arith, common_steps, c.first_pending.ensures, c.ne.ensures, c.if-ne.false) in
    let first_call : slice_get (seqs_of c.args.self.now.calls) 0 ≡ Some c.args.seq =
    subst (λ (ns : List ℕ). slice_get ns 0 ≡ Some c.args.seq) (free-numbers c.args.self.now.left (seqs_of c.args.self.now.calls) c.requires.free) first in
    let apart = apart-rising 0 c.args.self.now.taken c.args.self.now.calls (known-rising c.args.table.now past c.args.self.now knows c.requires.free) in
    let ties = c.if-not-reaches.ensures.ties (checker_context c.args.table.now c.args.self.now) past c.args.self.now.attached knows.row.prefix (rw c.deref_mut.ensures.value knows.row.ties) apart in
    let first_new : slice_get (seqs_of c.reaches.new.calls) 0 ≡ Some c.args.seq = rw c.reaches.ensures.numbers first_call in
    let lent : length c.deref_mut.result.now ≡ length c.args.self.now.engines.items = ap (λ (es : List EngineParts). length es) c.deref_mut.ensures.value in
    let many : length c.args.self.now.engines.items ≡ c.args.self.now.engines.len = omega (arith, c.args.self.now.engines.ok.0) in
    let kept : length c.reaches.new.engines ≡ length c.args.self.now.engines.items = omega (arith, lent, c.reaches.auto.engines) in
    let back = written-back c.args.self.now.engines.items c.reaches.new.engines c.args.self.now.engines.len kept many in
    let same : map (λ (e : EngineParts). e.entry) c.reaches.new.engines ≡ map (λ (e : EngineParts). e.entry) c.args.self.now.engines.items =
    c.reaches.ensures.entries ∙ ap (λ (es : List EngineParts). map (λ (e : EngineParts). e.entry) es) c.deref_mut.ensures.value in
    let u = checker_context c.args.table.now c.args.self.now in
    let entries = ap (λ (es : List EngineParts). map (λ (e : EngineParts). e.entry) es) back ∙ same in
    c.remove_call.ensures.sent c.args.table.now past c.args.seq c.args.bytes
    (knows-worked c.args.table.now past past c.args.self.now _ knows c.requires.free c.requires.free refl knows.row.prefix
    (subst (λ (es : List EngineParts). AreTied u.conn past es c.args.self.now.attached c.reaches.new.calls) (sym back) ties)
    (subst (λ (ns : List ℕ). AllZip (HasPassedFirst u past) ns c.args.self.now.reached.items) (sym c.reaches.ensures.numbers) knows.row.reaches) refl c.reaches.ensures.numbers refl refl
    (latest-same past c.args.self.now.engines.items _ c.args.self.now.latest.items entries knows.latest) refl knows.left c.reaches.ensures.of_table (omega arith) entries
    (record {
      few_engines = omega (
        arith,
        knows.room.few_engines,
        ap (λ (es : List EngineParts). length es) back,
        kept,
      );
      engines = knows.room.engines;
      latest = knows.room.latest;
      calls = knows.room.calls;
    }))
    c.requires.free first_new may)
