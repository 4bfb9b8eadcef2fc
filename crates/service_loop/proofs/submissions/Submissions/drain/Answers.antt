use Rattle.std.proofs.Common.{◌≡◌, false, inl, inr, refl, sym, ◌∙◌}
use Rattle.engine_core.specs.Policies.{KnowsTenantOf}
use Rattle.conn_core.specs.Connections.{conn_trace}
use Rattle.conn_core.specs.declared.answers.Drained.TheVariants as drained
use Rattle.service_loop.specs.ScheduledOps.{all_taken}
use Rattle.service_loop.proofs.Chained.{engines-first}
use Rattle.service_loop.proofs.Ending.{Ends, cause-ends, drained-ends, ends-done, ends-failed, serves-ends}
use Rattle.service_loop.proofs.Taking.{untrue}
use Rattle.service_loop.proofs.submissions.Submissions.drain.Goals as goal

pub drain-drained-requires : goal.drain-drained-requires
drain-drained-requires g c = record {
  known = (engines-first (KnowsTenantOf (g.Q.Tickets.knows c.args.tickets.now))
      (all_taken c.args.self.now.calls.closed (conn_trace c.args.self.now.conn)) c.args.self.now.conn
      c.args.self.now.steps.now c.args.self.now.applied c.is_connection.ensures c.requires.serving.came
      c.requires.known).policies;
}

pub returns-in-Done : goal.returns-in-Done
returns-in-Done g c =
    let unended : c.args.self.now.conn.ended ≡ false = untrue c.args.self.now.conn.ended c.if-ended.ensures.1 in
    let ends : Ends (c.drain-drained.result ≡ drained.Failed) c.args.self.now.conn c.drain-drained.new.self =
    elim c.in-Done.is [
      | inl is ↦ ends-done (c.drain-drained.result
          ≡ drained.Failed) c.args.self.now.conn c.drain-drained.new.self unended
          (λ failed. (let wrong : drained.Done ≡ drained.Failed = sym is ∙ failed in cc))
          (c.drain-drained.ensures.done is) (c.drain-drained.ensures.settled is)
      | inr is ↦ ends-failed (c.drain-drained.result ≡ drained.Failed) c.args.self.now.conn c.drain-drained.new.self
          (c.drain-drained.ensures.failed is).between unended is (c.drain-drained.ensures.failed is).front
          (c.drain-drained.ensures.failed is).failed c.is_connection-2.ensures.is_valid_state
    ] in
    record {
      serving = serves-ends (c.drain-drained.result ≡ drained.Failed) c.args.self.now.conn c.drain-drained.new.self
          c.args.self.now.reader c.args.self.now.calls c.args.self.now.steps.now c.args.self.now.applied
          c.args.self.now.accepted ends c.drain-drained.ensures.same c.requires.serving;
      settled = ends.settled;
      drained = drained-ends (c.drain-drained.result
          ≡ drained.Failed) c.args.self.now.conn c.drain-drained.new.self ends;
      handed = c.drain-drained.ensures.handed;
      draws = c.drain-drained.ensures.draws;
      cause = cause-ends (c.drain-drained.result ≡ drained.Failed) c.args.self.now.conn c.drain-drained.new.self
          (g.L.Link.failures c.args.link.now) (g.L.Link.failures c.drain-drained.new.link) ends
          c.drain-drained.ensures.cause;
      same = record {
        conn = c.drain-drained.ensures.same;
        heap = refl;
        ring = refl;
        ring_heap = refl;
        steps = refl;
      };
      calls = refl;
      applied = refl;
      finished = refl;
      given = c.drain-drained.ensures.given;
      link_ended = c.drain-drained.ensures.link_ended;
      same_link = c.drain-drained.ensures.same_link;
      same_quotas = c.drain-drained.ensures.draws.since;
      knows = c.drain-drained.ensures.draws.knows;
      accepted = refl;
    }
