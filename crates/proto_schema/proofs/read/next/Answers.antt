use Rattle.proto_schema.proofs.Next.{begins_next}
use Rattle.proto_schema.proofs.read.next.Goals as goal

pub returns-clause-list : goal.returns-clause-list
returns-clause-list c = λ ts h.
    begins_next c.args.text.now c.args.place c.next_token.result ts (λ u v. c.next_token_is_determined.ensures.one c.args.text.now c.args.place u v) c.next_token.ensures.next h
