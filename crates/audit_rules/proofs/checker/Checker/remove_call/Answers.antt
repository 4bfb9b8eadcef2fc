use Rattle.std.proofs.Common.{Bool, ◌≡◌, ◌<◌, ap, arith, refl, subst}
use Rattle.std.specs.Prelude.{OnSome, remove}
use Rattle.std.specs.VecDeque.{deque_len}
use Rattle.call_history.specs.declared.happening.Happening.TheVariants.{Refused, Sent}
use Rattle.audit_rules.specs.declared.obligation.Obligation.TheVariants.{Nothing}
use Rattle.audit_rules.proofs.States.{knows-left, refused-fate, sent-fate}
use Rattle.audit_rules.proofs.checker.Checker.remove_call.Goals as goal

pub returns-clause-sent : goal.returns-clause-sent
returns-clause-sent c = λ T past seq bytes knows free there may.
    (let inside : c.args.place < deque_len c.args.self.now.reached = omega arith in
    let gone : c.remove.new.self.items ≡ remove c.args.self.now.reached.items c.args.place =
    subst (λ r. OnSome r (c.remove.new.self.items ≡ remove c.args.self.now.reached.items c.args.place))
    (c.remove.ensures.succeeds 0 inside) c.remove.ensures.items in
    knows-left T past (Sent seq bytes) c.args.self.now _ seq c.args.place knows free may (sent-fate c.ties_after_event.ensures.sends c.pending_after_event.ensures.sent past seq bytes) there
    c.ties_after_event.ensures.leaves (ap (λ (failed : Bool). record c.args.self.now { calls = c.drop_at.new.self; reached = c.remove.new.self; left = Nothing; failed = failed }) knows.failed)
    c.drop_at.ensures gone c.remove.ensures.capacity)

pub returns-clause-refused : goal.returns-clause-refused
returns-clause-refused c = λ T past seq why knows free there may.
    (let inside : c.args.place < deque_len c.args.self.now.reached = omega arith in
    let gone : c.remove.new.self.items ≡ remove c.args.self.now.reached.items c.args.place =
    subst (λ r. OnSome r (c.remove.new.self.items ≡ remove c.args.self.now.reached.items c.args.place))
    (c.remove.ensures.succeeds 0 inside) c.remove.ensures.items in
    knows-left T past (Refused seq why) c.args.self.now _ seq c.args.place knows free may (refused-fate c.ties_after_event.ensures.refuses c.pending_after_event.ensures.refused past seq why) there
    c.ties_after_event.ensures.leaves refl c.drop_at.ensures gone c.remove.ensures.capacity)
