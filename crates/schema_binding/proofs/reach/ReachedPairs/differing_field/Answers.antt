use Rattle.std.proofs.Common.{◌∙◌, arith}
use Rattle.schema_binding.proofs.Reaching.{partner_is, differing_of}
use Rattle.schema_binding.proofs.reach.ReachedPairs.differing_field.Goals as goal

pub differing_field-requires-clause-pair : goal.differing_field-requires-clause-pair
differing_field-requires-clause-pair c =
    let r = c.args.self.now in
    c.requires.paired.pairs c.args.our c.in_ok-their.their
    (partner_is r c.args.our c.index.result.now (omega (arith, c.requires.within, c.requires.paired.room)) c.index.ensures ∙ c.in_ok-their.was)

pub returns : goal.returns
returns c =
    let r = c.args.self.now in
    differing_of c.args.ours.now c.args.theirs.now r c.args.our c.in_ok-their.their c.differing_field.result
    (partner_is r c.args.our c.index.result.now (omega (arith, c.requires.within, c.requires.paired.room)) c.index.ensures ∙ c.in_ok-their.was)
    c.differing_field.ensures
