use Rattle.service_wiring.proofs.pooled_connection.PooledConnection.visit.Goals as goal

pub returns : goal.returns
returns g c = record {
  same_item = λ first is. c.since_is_transitive.ensures.later first c.args.self.now c.visit_endpoint.new.endpoint is
      (rw c.self.view_is at c.visit_endpoint.ensures.turned);
  ends = c.visit_endpoint.ensures.over;
}
