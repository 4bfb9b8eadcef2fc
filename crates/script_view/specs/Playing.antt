-- The lines of a replay script that send a frame (this project's own format; `replay_script` reads it).
use Rattle.std.specs.Prelude.{◌≡◌, ℕ, zero, suc, ◌+◌, ◌<◌, ◌==◌, List, [], ◌∷◌, ◌++◌, codes, if◌then◌else◌}
use Rattle.std.specs.Fmt.{decimal}
use Rattle.std.specs.List.{flat_map}
use Rattle.mrpc_table.specs.Text.{line}
use Rattle.frame_transport.specs.declared.format.Frame.{Frame}
use Rattle.frame_transport.specs.declared.format.TheConstants.{REQUEST}
use Rattle.script_view.specs.declared.limits.TheConstants.{FIRST_PLACE, MAX_REPLAY_WORDS}

-- a hello becomes a comment
abbrev pub hello_comment : List ℕ
hello_comment = codes "# a hello, which isn't replayed\n"

-- a connection is opened, with as many words as it may have
abbrev pub conn_line : ℕ → List ℕ
conn_line conn = line (codes "conn" ∷ decimal conn ∷ decimal MAX_REPLAY_WORDS ∷ [])

-- a submission at place 0, where no message can be: it is refused at once, and takes a number
abbrev pub blank_line : ℕ → List ℕ
blank_line conn = line (codes "submit" ∷ decimal conn ∷ codes "0" ∷ codes "0" ∷ [])

unfoldable pub blank_lines : ℕ → ℕ → List ℕ
blank_lines conn zero = []
blank_lines conn (suc more) = blank_line conn ++ blank_lines conn more

-- a word is stored at its place
abbrev pub store_line : ℕ → ℕ × ℕ → List ℕ
store_line conn word = line (codes "store" ∷ decimal conn ∷ decimal word.0 ∷ decimal word.1 ∷ [])

abbrev pub store_lines : ℕ → List (ℕ × ℕ) → List ℕ
store_lines conn words = flat_map (store_line conn) words

-- the message at the first place is submitted; a reply has the number that it answers
abbrev pub request_line : (conn method : ℕ) → List ℕ
request_line conn method = line (codes "submit" ∷ decimal conn ∷ decimal method ∷ decimal FIRST_PLACE ∷ [])

abbrev pub reply_line : (conn method number : ℕ) → List ℕ
reply_line conn method number =
    line (codes "submit" ∷ decimal conn ∷ decimal method ∷ decimal FIRST_PLACE ∷ decimal number ∷ [])

abbrev pub submit_line : Frame → List ℕ
submit_line f = if f.kind == REQUEST then request_line f.conn f.method else reply_line f.conn f.method f.number

abbrev pub send_line : ℕ → List ℕ
send_line conn = line (codes "send" ∷ decimal conn ∷ [])

-- The number of a call's frame, if its connection has the last number `last` and then this number of
-- submissions without a message: a request has the next number, and a reply that of the request it answers,
-- whatever its own is.
pub data IsNumberedAfter (f : Frame) (last blanks : ℕ) : Type 0 where
  request : f.kind ≡ REQUEST → f.number ≡ last + blanks + 1 → IsNumberedAfter f last blanks
  reply : (f.kind ≡ REQUEST → ⊥) → 0 < f.number → blanks ≡ 0 → IsNumberedAfter f last blanks

-- all lines for the frame of a call whose message has these words
abbrev pub lines_of_call : Frame → ℕ → ℕ → List (ℕ × ℕ) → List ℕ
lines_of_call f last blanks words =
    (if last == 0 then conn_line f.conn else [])
    ++ (blank_lines f.conn blanks ++ (store_lines f.conn words ++ (submit_line f ++ send_line f.conn)))
