use Rattle.std.proofs.Common.{[], arith, ◌∷◌, ◌∙◌, sym, subst, IfNone, IfSome}
use Rattle.call_history.specs.Trace.{Trace}
use Rattle.call_history.specs.Legal.{trace_of}
use Rattle.call_history.specs.Rules.{CanFollow, JudgeContext}
use Rattle.audit_rules.specs.BrokenRules.{IsFirstBrokenRule}
use Rattle.audit_rules.specs.CheckerState.{IsCheckerAfter}
use Rattle.audit_check.proofs.Known.{carry, far_more, in_map, none_map, nothing_behind}
use Rattle.audit_check.proofs.connections.Checkers.check_first.Goals as goal

pub returns-clause-may : goal.returns-clause-may
returns-clause-may c h known =
    let T = c.args.table.now in
    let conn = c.args.next.conn in
    let none = nothing_behind T c.args.self.now.limit conn (trace_of conn h) _ (in_map c.args.self.now.near.items _ conn c.requires.far ∙ c.requires.first) (known.knows conn) in
    let P : JudgeContext → Trace → Type 0 = λ u past. IfNone c.check-rule.result (CanFollow u past c.args.next.what) in
    carry P (c.in_ok-checker.ensures.conn T) (sym none) (c.check-rule.ensures.may [] (c.in_ok-checker.ensures.knows T))

pub returns-clause-knows : goal.returns-clause-knows
returns-clause-knows c h known =
    let T = c.args.table.now in
    let conn = c.args.next.conn in
    let none = nothing_behind T c.args.self.now.limit conn (trace_of conn h) _ (in_map c.args.self.now.near.items _ conn c.requires.far ∙ c.requires.first) (known.knows conn) in
    let P : Trace → Type 0 = λ past. IsCheckerAfter T (c.args.next.what ∷ past) c.check-rule.new.self in
    none_map c.check-rule.result
    (λ k. record {
      knows = far_more T c.args.self.now.limit h c.args.next c.args.self.now.near.items c.args.self.now.far c.insert.new.self c.check-rule.new.self known.knows
          c.requires.far c.in_ok-insert.ensures.updates (subst P (sym none) k) (c.check-rule.ensures.same T ∙ c.in_ok-checker.ensures.conn T);
      few = known.few;
    })
    (c.check-rule.ensures.knows [] (c.in_ok-checker.ensures.knows T))

pub returns-clause-breaks : goal.returns-clause-breaks
returns-clause-breaks c h known =
    let T = c.args.table.now in
    let conn = c.args.next.conn in
    let none = nothing_behind T c.args.self.now.limit conn (trace_of conn h) _ (in_map c.args.self.now.near.items _ conn c.requires.far ∙ c.requires.first) (known.knows conn) in
    let P : JudgeContext → Trace → Type 0 = λ u past. IfSome c.check-rule.result (IsFirstBrokenRule u past c.args.next.what) in
    carry P (c.in_ok-checker.ensures.conn T) (sym none) (c.check-rule.ensures.breaks [] (c.in_ok-checker.ensures.knows T))

pub check-rule-requires-clause-knowing : goal.check-rule-requires-clause-knowing
check-rule-requires-clause-knowing c = ([], c.in_ok-checker.ensures.knows c.args.table.now, omega arith)
