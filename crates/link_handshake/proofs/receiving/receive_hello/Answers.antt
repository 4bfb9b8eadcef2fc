use Rattle.link_handshake.proofs.Heard.{told-so}
use Rattle.link_handshake.proofs.receiving.receive_hello.Goals as goal

pub returns-then-is_none-clause-unbound : goal.returns-then-is_none-clause-unbound
returns-then-is_none-clause-unbound g c =
    let come = c.in_ok-receive_first.ensures.come in
    let told = c.without_frame.ensures c.args.service.now come.stream come.fault come.lived in
    record { stream = come.stream; fault = come.fault; came = come.came; unbound = told.1; says = told.0 }

pub returns-clause-bound : goal.returns-clause-bound
returns-clause-bound g c is =
    let come = c.in_ok-receive_first.ensures.come in
    let bound = c.take_first.ensures.bound come.stream come.fault come.lived is in record {
      stream = come.stream;
      fault = come.fault;
      hello = bound.0;
      came = come.came;
      bound = bound.1;
      lived = bound.2;
    }

pub returns-clause-unbound : goal.returns-clause-unbound
returns-clause-unbound g c =
    let come = c.in_ok-receive_first.ensures.come in
    told-so _ _ c.take_first.result
    (λ why told. record { stream = come.stream; fault = come.fault; came = come.came; unbound = told.1; says = told.0 })
    (c.take_first.ensures.unbound come.stream come.fault come.lived)
