use Rattle.std.proofs.Common.{◌≡◌, ◌∙◌, List, Some, length, map, slice_get, arith, ap, refl, sym, subst}
use Rattle.std.proofs.lemmas.Option.{slice_get-get_or}
use Rattle.engine_core.specs.Chains.{Entry}
use Rattle.engine_core.specs.Engines.{EngineParts}
use Rattle.engine_core.specs.Marks.{PendingCall, seqs_of}
use Rattle.audit_rules.specs.CheckerState.{checker_context}
use Rattle.audit_rules.proofs.Asked.{map-at}
use Rattle.audit_rules.proofs.Telling.{first-there, holds-told, none-holds, not-first, told-entries, told-few, told-many, told-number}
use Rattle.audit_rules.proofs.checker.Checker.held_at.Goals as goal

pub returns-then-not-is_first_at : goal.returns-then-not-is_first_at
returns-then-not-is_first_at c = λ T past positions call known is falls.
    not-first (checker_context T c.args.self.now) past positions call c.args.at (told-few T past positions c.args.self.now known) (c.if-not-is_first_at.ensures.not_first ∙ known.position)

pub returns-in_err-engine : goal.returns-in_err-engine
returns-in_err-engine c = λ T past positions call known is falls. rw c.from_residual.ensures (none-holds (checker_context T c.args.self.now) past positions call c.args.at
    (omega (arith, told-many T past positions c.args.self.now known, c.in_err-engine.ensures.lookup.3, ap (λ (es : List EngineParts). length es) c.deref.ensures.value)))

pub returns : goal.returns
returns c = λ T past positions call known is falls.
    (let e : EngineParts = c.in_ok-engine.engine.now in
    let g = c.in_ok-engine.ensures.lookup.3 in
    let lent : slice_get c.deref.result.now c.args.at ≡ Some e = slice_get-get_or c.deref.result.now c.args.at e g.0 ∙ ap (λ (x : EngineParts). Some x) (sym (g.1 e)) in
    let here : slice_get c.args.self.now.engines.items c.args.at ≡ Some e = subst (λ (es : List EngineParts). slice_get es c.args.at ≡ Some e) c.deref.ensures.value lent in
    let first : slice_get (seqs_of c.args.self.now.calls) c.args.self.now.told ≡ Some call.seq = told-number T past positions c.args.self.now known call is in
    let own : slice_get (seqs_of c.args.self.now.calls) c.args.self.now.told ≡ Some c.at.result.now.call.seq =
    map-at (λ (s : PendingCall). s.call.seq) c.args.self.now.calls c.args.self.now.told c.at.result.now c.at.ensures in
    let number : c.at.result.now.call.seq ≡ call.seq = cc in
    let entry : slice_get (map (λ (e : EngineParts). e.entry) c.args.self.now.engines.items) c.args.at
    ≡ Some e.entry = map-at (λ (e : EngineParts). e.entry) c.args.self.now.engines.items c.args.at e here in
    holds-told (checker_context T c.args.self.now) past c.args.self.now.attached c.args.at c.args.self.now.told call.seq
    c.args.self.now.engines.items c.args.self.now.calls known.knows.row.ties e c.at.result.now here
    c.at.ensures number call positions c.held.result refl (subst (λ (es : List Entry). slice_get es c.args.at ≡ Some e.entry) (told-entries T past positions c.args.self.now known) entry)
    (first-there positions c.args.at (omega (arith, falls, known.position))
    (λ some same. c.if-not-is_first_at.ensures.first (omega (arith, some, known.told))
    (same ∙ sym known.position)))
    c.held.ensures.holds c.held.ensures.none)
