use Rattle.std.proofs.Common.{◌≡◌, List, ap, sym, ◌∙◌, subst, get_or}
use Rattle.std.proofs.lemmas.Option.{slice_get-get_or}
use Rattle.engine_core.specs.Marks.{IsOneEach, PendingCall, note_of}
use Rattle.engine_core.specs.declared.mark.Mark.{Mark}
use Rattle.engine_core.specs.declared.mark.MarkNote.TheVariants.{Allowed}
use Rattle.engine_core.proofs.MarkLemmas.{note-at}
use Rattle.engine_core.proofs.standing.Standing.note_at.Goals as goal

pub returns-then-marks-likely : goal.returns-then-marks-likely
returns-then-marks-likely c =
    let marks : List Mark = c.as_slice-marks.result.now in
    let other : Mark = record { attach = 0; note = Allowed 0 } in
    let seen : marks ≡ c.args.self.now.marks = c.as_slice-marks.ensures.value ∙ ap (λ (s : PendingCall). s.marks) c.self.view_is in
    let one : IsOneEach marks = subst (λ (ms : List Mark). IsOneEach ms) (sym c.as_slice-marks.ensures.value) c.self.invariant in
    sym (note-at c.args.attach c.args.likely marks (get_or marks c.args.likely other) one
    (slice_get-get_or marks c.args.likely other c.if-likely-marks.true) c.if-marks-likely.true)
    ∙ ap (λ (ms : List Mark). note_of ms c.args.attach) seen
