use Rattle.std.proofs.Common.{◌≡◌, ◌≤◌, ◌∙◌, ℕ, List, Some, false, true, length, map, slice_get, arith, ap, refl, sym, subst}
use Rattle.std.proofs.lemmas.List.{length-map}
use Rattle.engine_core.specs.Chains.{Entry}
use Rattle.engine_core.specs.Engines.{EngineParts}
use Rattle.engine_core.specs.Marks.{PendingCall, seqs_of}
use Rattle.call_history.specs.Rules.{JudgeContext}
use Rattle.audit_rules.specs.Asking.{HasPassedFirst}
use Rattle.audit_rules.specs.CheckerState.{KnowsListed, checker_context}
use Rattle.audit_rules.specs.PendingLines.{IsNextPending, entry_name_at}
use Rattle.audit_rules.specs.declared.checker.Checker.{Checker}
use Rattle.audit_rules.proofs.Numbers.{within}
use Rattle.audit_rules.proofs.Telling.{next-call, next-falls, next-held, next-lets, next-named, next-within, tells-next, told-more}
use Rattle.audit_rules.proofs.checker.Checker.check_stands.Goals as goal

pub reaches_place-requires-clause-call : goal.reaches_place-requires-clause-call
reaches_place-requires-clause-call c =
    omega (
      arith,
      within (seqs_of c.args.self.now.calls) c.args.self.now.told c.args.seq
          c.if-not-is_next_listed.ensures.next,
      length-map c.args.self.now.calls (λ (s : PendingCall). s.call.seq),
    )

pub returns-then-not-is_next_listed-clause-tells : goal.returns-then-not-is_next_listed-clause-tells
returns-then-not-is_next_listed-clause-tells c = λ past positions known. (
  λ wrong. absurd cc,
  λ next. absurd (c.if-not-is_next_listed.ensures.not_next (next-call c.args.table.now past positions c.args.self.now known c.args.seq c.args.position c.args.name.now c.args.held next)
      (next-within c.args.table.now past positions c.args.self.now known c.args.seq c.args.position c.args.name.now c.args.held next)
      (next-falls c.args.table.now past positions c.args.self.now known c.args.seq c.args.position c.args.name.now c.args.held next)),
)

pub returns-then-not-reaches_place-clause-tells : goal.returns-then-not-reaches_place-clause-tells
returns-then-not-reaches_place-clause-tells c = λ past positions known. (
  λ wrong. absurd cc,
  λ next. absurd (c.if-not-reaches_place.ensures.stops past positions c.args.seq known
      (next-call c.args.table.now past positions c.args.self.now known c.args.seq c.args.position c.args.name.now c.args.held next)
      (next-lets c.args.table.now past positions c.args.self.now known c.args.seq c.args.position c.args.name.now c.args.held next)),
)

pub returns-then-not-is_named_at-clause-tells : goal.returns-then-not-is_named_at-clause-tells
returns-then-not-is_named_at-clause-tells c = λ past positions known. (
  λ wrong. absurd cc,
  λ next.
      (let T = c.args.table.now in
      let c1 = c.reaches_place.new.self in
      let known1 : KnowsListed T past positions c1 = c.if-not-reaches_place.ensures.told past positions known in
      let same : checker_context T c1 ≡ checker_context T c.args.self.now = ap (λ (d : Checker). checker_context T d) c.reaches_place.ensures.rest in
      let next1 = subst (λ (u : JudgeContext). IsNextPending u past positions c.args.seq c.args.position c.args.name.now c.args.held) (sym same) next in
      let named = next-named T past positions c1 known1 c.args.seq c.args.position c.args.name.now c.args.held next1 in
      let is = c.is_named_at.ensures.1 (subst (λ (es : List EngineParts). c.args.name.now ≡ entry_name_at (map (λ e. e.entry) es) c.args.position) (sym c.deref.ensures.value) named) in
      let wrong : false ≡ true = sym c.if-not-is_named_at.true ∙ is in
      wrong),
)

pub returns-then-not-is_same_hold-clause-tells : goal.returns-then-not-is_same_hold-clause-tells
returns-then-not-is_same_hold-clause-tells c = λ past positions known. (
  λ wrong. absurd cc,
  λ next.
      (let T = c.args.table.now in
      let c1 = c.reaches_place.new.self in
      let known1 : KnowsListed T past positions c1 = c.if-not-reaches_place.ensures.told past positions known in
      let same : checker_context T c1 ≡ checker_context T c.args.self.now = ap (λ (d : Checker). checker_context T d) c.reaches_place.ensures.rest in
      let next1 = subst (λ (u : JudgeContext). IsNextPending u past positions c.args.seq c.args.position c.args.name.now c.args.held) (sym same) next in
      let falls = next-falls T past positions c1 known1 c.args.seq c.args.position c.args.name.now c.args.held next1 in
      let equal = next-held T past positions c1 known1 c.args.seq c.args.position c.args.name.now c.args.held c.answer_is_unique.ensures.at_most next1 c.held_at.result
      (λ call is. c.held_at.ensures T past positions call known1 is falls) in
      let wrong : false ≡ true = sym c.if-not-is_same_hold.true ∙ c.is_same_hold.ensures.1 equal in
      wrong),
)

pub returns-clause-tells : goal.returns-clause-tells
returns-clause-tells c = λ past positions known. (
  λ yes.
      (let T = c.args.table.now in
      let c1 = c.reaches_place.new.self in
      let known1 : KnowsListed T past positions c1 = c.if-not-reaches_place.ensures.told past positions known in
      let same : checker_context T c1 ≡ checker_context T c.args.self.now = ap (λ (d : Checker). checker_context T d) c.reaches_place.ensures.rest in
      let told : c1.told ≡ c.args.self.now.told = ap (λ (d : Checker). d.told) c.reaches_place.ensures.rest in
      let position : c1.position ≡ c.args.self.now.position = ap (λ (d : Checker). d.position) c.reaches_place.ensures.rest in
      let first : slice_get (seqs_of c.args.self.now.calls) c.args.self.now.told ≡ Some c.args.seq = c.if-not-is_next_listed.ensures.next in
      let first1 : slice_get (seqs_of c1.calls) c1.told ≡ Some c.args.seq = ap (λ (k : ℕ). slice_get (seqs_of c1.calls) k) told
      ∙ (ap (λ (ns : List ℕ). slice_get ns c.args.self.now.told) c.reaches_place.ensures.numbers ∙ first) in
      let falls1 : c.args.position ≤ c1.position = omega (arith, position, c.if-not-is_next_listed.ensures.falls) in
      let inside1 : c.args.position ≤ length c1.engines.items = omega (
        arith,
        c.if-not-is_next_listed.ensures.within,
        ap (λ (es : List Entry). length es) c.reaches_place.ensures.entries,
        length-map c1.engines.items (λ (e : EngineParts). e.entry),
        length-map c.args.self.now.engines.items (λ (e : EngineParts). e.entry),
      ) in
      let lets = subst (λ (u : JudgeContext). HasPassedFirst u past c.args.seq c.args.position) (sym same) (c.if-not-reaches_place.ensures.passes past positions c.args.seq known first) in
      let named = subst (λ (es : List EngineParts). c.args.name.now ≡ entry_name_at (map (λ e. e.entry) es) c.args.position)
      c.deref.ensures.value (c.is_named_at.ensures.0 c.if-not-is_named_at.false) in
      let equal = c.is_same_hold.ensures.0 c.if-not-is_same_hold.false in
      subst (λ (u : JudgeContext). IsNextPending u past positions c.args.seq c.args.position c.args.name.now c.args.held) same
      (tells-next T past positions c1 known1 c.args.seq c.args.position c.args.name.now c.args.held first1 inside1 falls1 lets named c.held_at.result
      (λ call is. c.held_at.ensures T past positions call known1 is falls1) equal)),
  λ next. refl,
)

pub returns-clause-told : goal.returns-clause-told
returns-clause-told c = λ past positions known yes.
    (let position : c.reaches_place.new.self.position ≡ c.args.self.now.position = ap (λ (d : Checker). d.position) c.reaches_place.ensures.rest in
    told-more c.args.table.now past positions c.reaches_place.new.self (c.if-not-reaches_place.ensures.told past positions known) c.args.position
    (omega (arith, position, c.if-not-is_next_listed.ensures.falls)))
