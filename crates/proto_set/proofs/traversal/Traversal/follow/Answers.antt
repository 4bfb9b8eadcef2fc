use Rattle.std.proofs.Common.{List, ◌∷◌, [], ◌++◌, Some, refl, ap, ◌∙◌}
use Rattle.std.proofs.lemmas.Option.{slice_get_read}
use Rattle.proto_set.specs.Traversing.{first_frame, enters, closes, passes}
use Rattle.proto_set.specs.declared.traversal.VisitFrame.{VisitFrame}
use Rattle.proto_set.proofs.traversal.Traversal.follow.Goals as goal

pub returns-in_ok-enter-in-New : goal.returns-in_ok-enter-in-New
returns-in_ok-enter-in-New c =
    let marks = c.args.self.now.marks.items in
    enters (slice_get_read marks _ c.args.link.file c.index.result.now refl c.requires.here c.index.ensures ∙ ap Some c.in-New.is)
    c.in_ok-enter-in-New.ensures.marks
    (c.in_ok-enter-in-New.ensures.frames ∙ ap (λ (fs : List VisitFrame). fs ++ first_frame c.args.link.file ∷ []) c.in_ok-push.ensures.items)

pub returns-in-Visiting : goal.returns-in-Visiting
returns-in-Visiting c =
    let marks = c.args.self.now.marks.items in
    closes (slice_get_read marks _ c.args.link.file c.index.result.now refl c.requires.here c.index.ensures ∙ ap Some c.in-Visiting.is)

pub returns-in-Left : goal.returns-in-Left
returns-in-Left c =
    let marks = c.args.self.now.marks.items in
    passes (slice_get_read marks _ c.args.link.file c.index.result.now refl c.requires.here c.index.ensures ∙ ap Some c.in-Left.is)
    refl c.in_ok-push.ensures.items
