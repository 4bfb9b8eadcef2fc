use Rattle.std.proofs.Common.{ℕ, List, length, ap, arith, refl, subst, sym, ◌∙◌}
use Rattle.std.specs.Prelude.{Some}
use Rattle.std.proofs.lemmas.List.{length-map}
use Rattle.mrpc_table.specs.Calls.{IsCallOf}
use Rattle.mrpc_table.specs.declared.call.Call.{Call}
use Rattle.engine_core.specs.Marks.{PendingCall}
use Rattle.call_history.specs.Trace.{copied, pending_calls}
use Rattle.call_history.specs.Legal.{HasNoCopy}
use Rattle.call_history.specs.Rules.{IsValidCopy}
use Rattle.call_history.specs.declared.happening.AcceptedCall.{AcceptedCall}
use Rattle.call_history.specs.declared.happening.TookCopy.{TookCopy}
use Rattle.audit_rules.proofs.Known.{known-places, known-standing}
use Rattle.audit_rules.proofs.Taking.{knows-took, knows-waits}
use Rattle.audit_rules.proofs.checker.Checker.accept.Goals as goal

pub push-requires : goal.push-requires
push-requires c =
    let few = c.requires.may.3.few in
    let same = ap (λ (ns : List ℕ). length ns) (known-standing c.requires.may.0 c.requires.may.1 c.args.self.now c.requires.may.2 c.requires.free) in
    omega (arith, few, same, length-map c.args.self.now.calls (λ (s : PendingCall). s.call.seq), length-map (pending_calls c.requires.may.1) (λ (call : AcceptedCall). call.seq))

pub push_back_reserved-requires : goal.push_back_reserved-requires
push_back_reserved-requires c =
    let few = c.requires.may.3.few in
    let same = ap (λ (ns : List ℕ). length ns) (known-standing c.requires.may.0 c.requires.may.1 c.args.self.now c.requires.may.2 c.requires.free) in
    omega (
      arith,
      few,
      same,
      c.requires.may.2.room.calls,
      known-places c.requires.may.0 c.requires.may.1 c.args.self.now c.requires.may.2,
      length-map c.args.self.now.calls (λ (s : PendingCall). s.call.seq),
      length-map (pending_calls c.requires.may.1) (λ (call : AcceptedCall). call.seq),
    )

pub returns-in-Copy-clause-knows : goal.returns-in-Copy-clause-knows
returns-in-Copy-clause-knows c = λ T past knows may.
    (let is = c.in-Copy.is in
    let by = subst (λ (k : TookCopy). IsValidCopy T c.args.call k) is may.numbered.copy in
    knows-took T past c.args.call c.args.self.now knows may c.forms_after_event.ensures.taken_another c.pending_after_event.ensures.taken _ c.new.result c.ties_after_event.ensures.takes
    (subst (λ (k : TookCopy). HasNoCopy k → ⊥) (sym is) (λ none. none)) refl c.push.ensures c.push_back_reserved.ensures.items c.push_back_reserved.ensures.capacity
    (ap (λ (k : TookCopy). copied c.args.self.now.conn c.args.call k) is ∙ ap (λ (call : Call). Some call) (sym c.new.ensures.call)) c.new.ensures.marks
    (ap (λ (call : Call). call.seq) c.new.ensures.call) (subst (λ (call : Call). IsCallOf T call) (sym c.new.ensures.call) (record { method = by.0; tree = by.1 })))

pub returns-in-Malformed-clause-knows : goal.returns-in-Malformed-clause-knows
returns-in-Malformed-clause-knows c = λ T past knows may.
    knows-waits T past c.args.call c.args.self.now knows may c.forms_after_event.ensures.taken_another c.pending_after_event.ensures.taken c.ties_after_event.ensures.takes_none
    (subst (λ (k : TookCopy). HasNoCopy k) (sym c.in-Malformed.is) tt)
