use Rattle.proto_schema.proofs.Texts.{answer_reads, answer_is_file, answer_is_fault}
use Rattle.proto_schema.proofs.read.read_proto.Goals as goal

pub returns-clause-reads : goal.returns-clause-reads
returns-clause-reads c = answer_reads c.args.text.now c.read_tokens.result (c.token_list_is_determined.ensures.some c.args.text.now) c.read_tokens.ensures

pub returns-clause-only : goal.returns-clause-only
returns-clause-only c = λ f h. answer_is_file c.args.text.now c.read_tokens.result f c.read_tokens.ensures h

pub returns-clause-fault : goal.returns-clause-fault
returns-clause-fault c = answer_is_fault c.args.text.now c.read_tokens.result (c.token_list_is_determined.ensures.some c.args.text.now) c.read_tokens.ensures
