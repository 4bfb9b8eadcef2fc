use Rattle.std.proofs.Common.{◌≡◌, ◌<◌, ◌+◌, List, length, get_or, take, ap, sym, ◌∙◌, subst, refl}
use Rattle.mrpc_table.specs.Node.{Node}
use Rattle.mrpc_table.specs.Calls.{message_at}
use Rattle.mrpc_table.specs.PathTrees.{IsAscendingTree}
use Rattle.mrpc_table.specs.declared.call.Call.{Call}
use Rattle.mrpc_table.specs.Calls.{IsCallOf}
use Rattle.policy_redact.specs.Redacting.{cleared_call}
use Rattle.policy_redact.specs.declared.redact.Clear.{Clear}
use Rattle.policy_redact.proofs.Listed.{nothing-listed, cleared-ascends, more-cleared, smaller-still, unchanged-still}
use Rattle.policy_redact.proofs.Normality.{call-fits}
use Rattle.policy_redact.proofs.redact.Redact.clear.Goals as goal

pub loop-clear-init : goal.loop-clear-init
loop-clear-init c = record {
  left = ap (λ (t : Node). record c.args.call.now { tree = t }) (sym (nothing-listed c.args.call.now));
  smaller = tt;
  unchanged = refl;
  fits = λ T fits. fits;
}

pub remove_from-changed-requires : goal.remove_from-changed-requires
remove_from-changed-requires c =
    let fits = c.requires in
    let start = c.args.call.now in
    let up = c.normal_ascends.ensures fits.0 (message_at fits.0 start.method start.number) start.tree fits.1.tree in
    subst (λ (call : Call). IsAscendingTree call.tree) (sym c.loop-clear.invariant.left) (cleared-ascends _ start up)

pub loop-clear-preserved : goal.loop-clear-preserved
loop-clear-preserved c =
    let step = c.remove_from-changed in
    let before = c.loop-clear.invariant in
    let listed = c.as_slice-clear-items.ensures ∙ c.self.view_is in
    let within = subst (λ (cs : List Clear). c.loop-clear.clear-index < length cs) listed c.loop-clear-test.true in
    let at = subst (λ (cs : List Clear). c.clear-item.result ≡ get_or cs c.loop-clear.clear-index c.clear-item.result) listed c.clear-item.is in
    let left : step.new.call ≡ cleared_call (take (c.loop-clear.clear-index + 1) c.args.self.now) c.args.call.now =
    more-cleared c.args.self.now c.loop-clear.clear-index c.clear-item.result c.args.call.now c.loop-clear.call step.new.call within at before.left step.ensures.left in
    record {
      left = left;
      smaller = smaller-still c.loop-clear.changed step.result c.args.call.now c.loop-clear.call step.new.call before.smaller before.unchanged step.ensures.smaller step.ensures.unchanged;
      unchanged = unchanged-still c.loop-clear.changed step.result c.args.call.now c.loop-clear.call step.new.call before.unchanged step.ensures.unchanged;
      fits = λ T fits. subst (λ (call : Call). IsCallOf T call) (sym left) (call-fits T (take (c.loop-clear.clear-index + 1) c.args.self.now) c.args.call.now fits);
    }
