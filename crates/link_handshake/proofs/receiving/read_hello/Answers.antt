use Rattle.link_handshake.specs.Handshake.{bad_hello}
use Rattle.link_handshake.proofs.Heard.{bad-line, disagreement}
use Rattle.link_handshake.proofs.receiving.read_hello.Goals as goal

pub returns-in-Err-Bad-clause-unbound : goal.returns-in-Err-Bad-clause-unbound
returns-in-Err-Bad-clause-unbound c = (
  tt,
  λ stream fault state begins.
      bad_hello c.args.hello.now c.in-Err-Bad.line begins c.requires.kind
      (bad-line c.args.hello.now.payload c.as_slice.result.now c.in-Err-Bad.field-0 c.in-Err-Bad.line c.as_slice.ensures
      c.in-Err-Bad.field-0-is c.in-Err-Bad.ensures.fault) (cc),
)

pub returns-clause-unbound : goal.returns-clause-unbound
returns-clause-unbound c =
    disagreement c.args.table.now c.in-Ok.theirs c.args.service.now c.in-Ok._service c.as_slice.result.now
    c.args.hello.now c.in_ok-disagrees-in-Err.field-0 c.in-Err.why c.requires.kind c.as_slice.ensures
    c.in-Ok.ensures.read c.in-Err.ensures.refused c.in_ok-disagrees-in-Err.ensures
