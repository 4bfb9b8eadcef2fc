use Rattle.proto_schema.proofs.read.add.Goals as goal

pub returns-in-Open : goal.returns-in-Open
returns-in-Open c = λ text xs. rw c.in-Open.is (c.open.ensures text xs)
