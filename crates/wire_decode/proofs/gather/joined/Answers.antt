use Rattle.std.proofs.lemmas.Result.{IfOk-weaker}
use Rattle.mrpc_table.specs.View.{content_of}
use Rattle.wire_decode.proofs.Gathering.{joined-both, last-both, list-both}
use Rattle.wire_decode.proofs.gather.joined.Goals as goal

pub returns-in-Listed : goal.returns-in-Listed
returns-in-Listed c = IfOk-weaker c.listed.result _ _ (λ v h. list-both (content_of c.args.before) (content_of c.args.content) (content_of v) c.args.form c.in-Listed.is h) c.listed.ensures

pub returns-in-Joined : goal.returns-in-Joined
returns-in-Joined c =
    IfOk-weaker c.singles.result _ _ (λ v h. joined-both (content_of c.args.before) (content_of c.args.content)
    (content_of v) c.args.form c.in-Joined.is h) c.singles.ensures

pub returns-in-Last : goal.returns-in-Last
returns-in-Last c =
    IfOk-weaker c.singles-in-Last.result _ _ (λ v h. last-both (content_of c.args.before) (content_of c.args.content)
    (content_of v) c.args.form c.in-Last.is h) c.singles-in-Last.ensures
