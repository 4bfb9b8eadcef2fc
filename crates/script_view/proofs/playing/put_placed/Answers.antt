use Rattle.std.proofs.Common.{ℕ, ◌+◌, ◌*◌, ◌<◌, max, IsTrue, length, ap, subst, ◌∙◌, arith, rules}
use Rattle.frame_transport.specs.FramesInPlace.{owned_frame}
use Rattle.replay_script.specs.declared.limits.TheConstants.{MAX_WORK}
use Rattle.script_view.specs.Playing.{lines_of_call}
use Rattle.script_view.specs.Unplayable.{IsUnplayable, too_much}
use Rattle.script_view.specs.ReplayRanges.{plays_call, call_counts_of}
use Rattle.script_view.proofs.Making.{on_fault, too_many, made_is}
use Rattle.script_view.proofs.playing.put_placed.Goals as goal

pub returns-then-not-add-clause-fault : goal.returns-then-not-add-clause-fault
returns-then-not-add-clause-fault c =
    λ T made.
    let before = call_counts_of c.args.calls.now in
    let f = owned_frame c.args.frame.now in
    let blanks = c.args.blanks in
    let placed = c.args.placed.now in
    let much : MAX_WORK < (before.calls + blanks + 1) * max before.loads (length placed.words) =
    subst (λ (n : ℕ). MAX_WORK < (before.calls + blanks + 1) * max before.loads n) c.len.ensures (too_many _ MAX_WORK c.add.result c.add.ensures.few (search rules)) in
    on_fault _ (λ place word. (size : ℕ) → IsUnplayable T before size f place word) _
    (λ place word is size. too_much blanks placed made much (let at = is.0 in omega arith) is.1) c.unplayable.ensures

pub returns-clause-made : goal.returns-clause-made
returns-clause-made c =
    λ T made.
    let before = call_counts_of c.args.calls.now in
    let f = owned_frame c.args.frame.now in
    let blanks = c.args.blanks in
    let placed = c.args.placed.now in
    let taken : IsTrue c.add.result = search rules in (
      lines_of_call f c.args.last blanks placed.words,
      c.in_ok-put_lines.ensures,
      plays_call blanks placed made (ap (λ (l : ℕ). lines_of_call f l blanks placed.words) c.requires.last)
          (made_is (c.add.ensures.counts taken) (c.add.ensures.total taken)
          (c.add.ensures.loads taken ∙ ap (λ (n : ℕ). max before.loads n) c.len.ensures)),
    )
