use Rattle.std.proofs.Common.{◌≡◌, ℕ, ◌∙◌, List, length, map, arith, ap, refl, sym, subst}
use Rattle.std.proofs.lemmas.Bool.{OnTrue_at, OnTrue_from}
use Rattle.std.specs.List.{AllZip}
use Rattle.engine_core.specs.Engines.{EngineParts}
use Rattle.engine_core.specs.declared.TheConstants.{MAX_ENGINES}
use Rattle.call_history.specs.Ties.{AreTied}
use Rattle.engine_core.specs.Marks.{seqs_of}
use Rattle.audit_rules.specs.Asking.{HasPassedFirst}
use Rattle.audit_rules.specs.CheckerState.{checker_context}
use Rattle.audit_rules.proofs.Clocks.{written-back}
use Rattle.audit_rules.proofs.Entries.{apart-rising, zip-at}
use Rattle.audit_rules.proofs.Going.{latest-same}
use Rattle.audit_rules.proofs.Known.{known-places, known-rising}
use Rattle.audit_rules.proofs.Worked.{knows-worked}
use Rattle.audit_rules.proofs.checker.Checker.reaches_place.Goals as goal

pub index-from-requires : goal.index-from-requires
index-from-requires c = omega (arith, known-places c.args.table.now c.requires.known.0 (record c.args.self.now { told = 0; position = MAX_ENGINES }) c.requires.known.2.knows)

pub reaches-requires-clause-engine : goal.reaches-requires-clause-engine
reaches-requires-clause-engine c = omega (arith, ap (λ (es : List EngineParts). length es) c.deref_mut.ensures.value)

pub reaches-requires-clause-few : goal.reaches-requires-clause-few
reaches-requires-clause-few c = omega (arith, c.requires.known.2.knows.room.few_engines, ap (λ (es : List EngineParts). length es) c.deref_mut.ensures.value)

pub reaches-requires-clause-of_table : goal.reaches-requires-clause-of_table
reaches-requires-clause-of_table c = c.requires.known.2.knows.of_table

pub returns-clause-passes : goal.returns-clause-passes
returns-clause-passes c = λ past positions seq known there.
    (let u = checker_context c.args.table.now c.args.self.now in
    let apart = apart-rising 0 c.args.self.now.taken c.args.self.now.calls
    (known-rising c.args.table.now past (record c.args.self.now { told = 0; position = MAX_ENGINES }) known.knows
    known.settled) in
    c.reaches.ensures.passes u past c.args.self.now.attached seq known.knows.row.prefix (rw c.deref_mut.ensures.value known.knows.row.ties) apart known.knows.row.shows there
    (subst (λ (r : ℕ). HasPassedFirst u past seq r) (sym c.index-from.ensures)
    (zip-at (HasPassedFirst u past) (seqs_of c.args.self.now.calls) c.args.self.now.reached.items c.args.self.now.told seq c.index-from.result.now known.knows.row.reaches there)))

pub returns-clause-stops : goal.returns-clause-stops
returns-clause-stops c = λ past positions seq known there.
    (let u = checker_context c.args.table.now c.args.self.now in
    let apart = apart-rising 0 c.args.self.now.taken c.args.self.now.calls
    (known-rising c.args.table.now past (record c.args.self.now { told = 0; position = MAX_ENGINES }) known.knows
    known.settled) in
    c.reaches.ensures.stops u past c.args.self.now.attached seq known.knows.row.prefix (rw c.deref_mut.ensures.value known.knows.row.ties) apart known.knows.row.shows there
    (subst (λ (r : ℕ). HasPassedFirst u past seq r) (sym c.index-from.ensures)
    (zip-at (HasPassedFirst u past) (seqs_of c.args.self.now.calls) c.args.self.now.reached.items c.args.self.now.told seq c.index-from.result.now known.knows.row.reaches there)))

pub returns-clause-entries : goal.returns-clause-entries
returns-clause-entries c =
    let lent : length c.deref_mut.result.now ≡ length c.args.self.now.engines.items = ap (λ (es : List EngineParts). length es) c.deref_mut.ensures.value in
    let many : length c.args.self.now.engines.items ≡ c.args.self.now.engines.len = omega (arith, c.args.self.now.engines.ok.0) in
    let kept : length c.reaches.new.engines ≡ length c.args.self.now.engines.items = omega (arith, lent, c.reaches.auto.engines) in
    let back = written-back c.args.self.now.engines.items c.reaches.new.engines c.args.self.now.engines.len kept many in
    ap (λ (es : List EngineParts). map (λ (e : EngineParts). e.entry) es) back ∙ (c.reaches.ensures.entries
    ∙ ap (λ (es : List EngineParts). map (λ (e : EngineParts). e.entry) es) c.deref_mut.ensures.value)

pub returns-clause-told : goal.returns-clause-told
returns-clause-told c = λ past positions known. OnTrue_from c.reaches.result _ (λ on.
    (let u = checker_context c.args.table.now c.args.self.now in
    let apart = apart-rising 0 c.args.self.now.taken c.args.self.now.calls
    (known-rising c.args.table.now past (record c.args.self.now { told = 0; position = MAX_ENGINES }) known.knows
    known.settled) in
    let ties = OnTrue_at on c.reaches.ensures.ties u past c.args.self.now.attached known.knows.row.prefix (rw c.deref_mut.ensures.value known.knows.row.ties) apart in
    let lent : length c.deref_mut.result.now ≡ length c.args.self.now.engines.items = ap (λ (es : List EngineParts). length es) c.deref_mut.ensures.value in
    let many : length c.args.self.now.engines.items ≡ c.args.self.now.engines.len = omega (arith, c.args.self.now.engines.ok.0) in
    let kept : length c.reaches.new.engines ≡ length c.args.self.now.engines.items = omega (arith, lent, c.reaches.auto.engines) in
    let back = written-back c.args.self.now.engines.items c.reaches.new.engines c.args.self.now.engines.len kept many in
    let same : map (λ (e : EngineParts). e.entry) c.reaches.new.engines ≡ map (λ (e : EngineParts). e.entry) c.args.self.now.engines.items =
    c.reaches.ensures.entries ∙ ap (λ (es : List EngineParts). map (λ (e : EngineParts). e.entry) es) c.deref_mut.ensures.value in
    let entries = ap (λ (es : List EngineParts). map (λ (e : EngineParts). e.entry) es) back ∙ same in
    record {
      knows = knows-worked c.args.table.now past past (record c.args.self.now { told = 0; position = MAX_ENGINES }) _ known.knows known.settled known.settled refl known.knows.row.prefix
          (subst (λ (es : List EngineParts). AreTied u.conn past es c.args.self.now.attached c.reaches.new.calls) (sym back) ties)
          (subst (λ (ns : List ℕ). AllZip (HasPassedFirst u past) ns c.args.self.now.reached.items)
          (sym c.reaches.ensures.numbers) known.knows.row.reaches) refl c.reaches.ensures.numbers refl refl
          (latest-same past c.args.self.now.engines.items _ c.args.self.now.latest.items entries known.knows.latest) refl known.knows.left c.reaches.ensures.of_table (omega arith) entries
          (record {
            few_engines = omega (arith, known.knows.room.few_engines, ap (λ (es : List EngineParts). length es) back, kept);
            engines = known.knows.room.engines;
            latest = known.knows.room.latest;
            calls = known.knows.room.calls;
          });
      settled = known.settled;
      told = known.told;
      position = known.position;
    }))
