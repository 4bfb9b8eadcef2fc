-- What a command has written that ends before its work is done.
use Rattle.std.specs.Prelude.{List, [], ℕ, Option, Some}
use Rattle.std.specs.Io.KnownBytes.{Appends}
use Rattle.text_commands.specs.FaultLines.{HasWrittenPrefix}

-- A command ended early, and its output is a prefix of what it may write: nothing, or a prefix of a text. If
-- all of the text were written to an empty output, the command would have worked on its input or rejected it,
-- in the sense of `Works` and `Refuses`.
pub data HasEndedEarly (Works Refuses : Option (List ℕ) → Option (List ℕ) → Type 0) (out out' : Option (List ℕ))
    : Type 0 where
  before_all : Appends out out' [] → HasEndedEarly Works Refuses out out'
  in_work : (told : List ℕ) → Works (Some []) (Some told) → HasWrittenPrefix out out' told
      → HasEndedEarly Works Refuses out out'
  in_rejection : (told : List ℕ) → Refuses (Some []) (Some told) → HasWrittenPrefix out out' told
      → HasEndedEarly Works Refuses out out'
