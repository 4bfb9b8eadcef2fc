use Rattle.std.proofs.Common.{◌≡◌, ℕ, List, [], slice_get, subst, sym}
use Rattle.std.specs.Prelude.{None, Some}
use Rattle.engine_core.specs.Marks.{PendingCall, seqs_of}
use Rattle.call_history.specs.Trace.{pending_calls}
use Rattle.call_history.specs.declared.happening.Cause.TheVariants.{Transport}
use Rattle.audit_rules.proofs.Known.{known-standing}
use Rattle.audit_rules.proofs.Taking.{first-stands}
use Rattle.audit_rules.proofs.checker.Checker.refuse_for_link.Goals as goal

pub returns-then-is_empty-clause-knows : goal.returns-then-is_empty-clause-knows
returns-then-is_empty-clause-knows c = λ T past seq knows free may.
    (let there : slice_get (seqs_of c.args.self.now.calls) 0 ≡ Some seq =
    subst (λ (ns : List ℕ). slice_get ns 0 ≡ Some seq) (sym (known-standing T past c.args.self.now knows free))
    (first-stands (pending_calls past) seq may.link_end.1) in
    let none : c.args.self.now.calls ≡ [] = c.is_empty.ensures.0 c.if-is_empty.true in
    let wrong : None ≡ Some seq = subst (λ (cs : List PendingCall). slice_get (seqs_of cs) 0 ≡ Some seq) none there in
    absurd cc)

pub returns-clause-knows : goal.returns-clause-knows
returns-clause-knows c = λ T past seq knows free may.
    (let there : slice_get (seqs_of c.args.self.now.calls) 0 ≡ Some seq =
    subst (λ (ns : List ℕ). slice_get ns 0 ≡ Some seq) (sym (known-standing T past c.args.self.now knows free))
    (first-stands (pending_calls past) seq may.link_end.1) in
    c.remove_call.ensures.refused T past seq Transport knows free there may)
