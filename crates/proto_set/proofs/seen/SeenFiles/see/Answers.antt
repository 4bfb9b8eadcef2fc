use Rattle.std.proofs.Common.{Some, refl, ap, ◌∙◌}
use Rattle.std.proofs.lemmas.Option.{slice_get_read}
use Rattle.proto_set.proofs.Seeing.{more_none, more_one}
use Rattle.proto_set.proofs.seen.SeenFiles.see.Goals as goal

pub returns-in_ok-push : goal.returns-in_ok-push
returns-in_ok-push c =
    more_one c.args.file c.args.self.now _
    (slice_get_read c.args.self.now.marks.items _ c.args.file c.index.result.now refl c.requires c.index.ensures ∙ ap Some c.if-not-index.true)
    refl c.in_ok-push.ensures.items

pub returns-else-not-index : goal.returns-else-not-index
returns-else-not-index c =
    more_none c.args.file c.args.self.now _ refl refl
    (slice_get_read c.args.self.now.marks.items _ c.args.file c.index.result.now refl c.requires c.index.ensures ∙ ap Some c.if-not-index.false)
