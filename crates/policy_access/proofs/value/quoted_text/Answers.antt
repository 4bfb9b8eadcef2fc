use Rattle.std.proofs.Common.{sym}
use Rattle.policy_access.proofs.Words.{no_text_before, no_text_behind}
use Rattle.policy_access.proofs.value.quoted_text.Goals as goal
use Rattle.policy_access.proofs.value.quoted_text.Goals.{else-is_empty-via-then-is_empty+else-is_empty-2, else-is_empty-via-else-is_empty}

pub returns-else-is_empty : goal.returns-else-is_empty
returns-else-is_empty c =
    elim c.else-is_empty.branch [
      | else-is_empty-via-then-is_empty+else-is_empty-2 w ↦
          sym (no_text_behind c.args.word.now c.in_ok-before.before.now c.in_ok-before.rest.now c.in_ok-text.text.now c.in_ok-text.after.now
          c.in_ok-before.ensures.parts c.in_ok-text.ensures.parts (sym w.if-is_empty.ensures) (sym w.if-is_empty-2.ensures))
      | else-is_empty-via-else-is_empty w ↦
          sym (no_text_before c.args.word.now c.in_ok-before.before.now _ c.in_ok-before.ensures.parts (sym w.if-is_empty.ensures))
    ]
