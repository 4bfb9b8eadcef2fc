use Rattle.std.proofs.Common.{ℕ, ◌∷◌, [], ◌++◌, ◌∙◌, refl, subst}
use Rattle.call_history.specs.Legal.{trace_of}
use Rattle.call_history.specs.Rules.{CanFollow}
use Rattle.audit_check.specs.Checking.{context_on}
use Rattle.audit_check.specs.States.{KnowsAll}
use Rattle.audit_check.proofs.Stages.{if_none_at, prefixes_more, stage_at}
use Rattle.audit_check.proofs.stage.Stage.apply_event.Goals as goal

pub returns-in-None : goal.returns-in-None
returns-in-None c limit h stage line =
    let T = c.args.table.now in
    let connections = c.in-Events.connections in
    let next = c.args.next in
    let now = stage_at T limit h [] c.args.self.now connections c.in-Events.is stage in
    let asked = c.in_ok-check-in-Events.ensures in
    let M : ℕ → Type 0 = λ limit. CanFollow (context_on T limit next.conn) (trace_of next.conn h) next.what in
    let may = subst M now.same_limit (if_none_at c.in_ok-check-in-Events.field-0 (M connections.limit) c.in-None.is (asked.may h now.knows)) in
    record {
      untold = refl;
      knows = if_none_at c.in_ok-check-in-Events.field-0 (KnowsAll T (h ++ next ∷ []) c.check.new.self) c.in-None.is (asked.knows h now.knows);
      same_limit = c.check.ensures.limit ∙ now.same_limit;
      prefixes = prefixes_more T limit h next now.prefixes may;
    }
