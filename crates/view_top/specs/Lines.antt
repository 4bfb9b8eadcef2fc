-- The events of connections that the lines of a text have.
use Rattle.std.specs.Prelude.{ℕ, ◌^◌, ◌==◌, nat_lt, List, ◌∷◌, codes, Option, Some, None, option_map, if◌then◌else◌}
use Rattle.std.specs.List.{filter_map, slice_split, join_with_byte}
use Rattle.std.specs.Option.{option_and_then}
use Rattle.std.specs.Str.{bytes_eq}
use Rattle.mrpc_table.specs.Lines.{number_of, whole_lines}

-- a call was accepted, sent, or refused for a cause; an operator's operation, or a timestamp of the clock, in
-- its words
pub data LineEvent : Type 0 where
  took : (seq method : ℕ) → LineEvent
  sent : (seq : ℕ) → LineEvent
  refused : (seq : ℕ) (cause : List ℕ) → LineEvent
  operation : (words : List ℕ) → LineEvent
  moment : (words : List ℕ) → LineEvent

pub record ConnLineEvent : Type 0 where
  pub conn : ℕ
  pub what : LineEvent

-- the part before the first space, and the part after it
abbrev pub first_and_others : List (List ℕ) → Option (List ℕ × List ℕ)
first_and_others (word ∷ next ∷ more) = Some (word, join_with_byte 32 (next ∷ more))
first_and_others _ = None

abbrev pub split_first_word : List ℕ → Option (List ℕ × List ℕ)
split_first_word words = first_and_others (slice_split (λ c. c == 32) words)

-- a number of 64 bits
abbrev pub within_u64 : ℕ → Option ℕ
within_u64 n = if nat_lt n (2 ^ 64) then Some n else None

-- the number that the first of several words spells, and what follows it
abbrev pub with_spelled_number : List ℕ × List ℕ → Option (ℕ × List ℕ)
with_spelled_number p = option_map (λ n. (n, p.1)) (option_and_then within_u64 (number_of p.0))

abbrev pub split_first_number : List ℕ → Option (ℕ × List ℕ)
split_first_number words = option_and_then with_spelled_number (split_first_word words)

-- the event for a word, a call's number, and what follows that number
abbrev pub call_event : (word : List ℕ) (seq : ℕ) (behind : List ℕ) → Option LineEvent
call_event word seq behind =
    if bytes_eq word (codes "took") then option_map (λ p. took seq p.0) (split_first_number behind)
    else (if bytes_eq word (codes "sent") then Some (sent seq)
    else (if bytes_eq word (codes "refused") then Some (refused seq behind) else None))

-- the event for a word, and what follows a connection's number
abbrev pub event_of_word : (word words : List ℕ) → Option LineEvent
event_of_word word words =
    if bytes_eq word (codes "op") then Some (operation words)
    else (if bytes_eq word (codes "moment") then Some (moment words)
    else option_and_then (λ p. call_event word p.0 p.1) (split_first_number words))

abbrev pub event_on_conn : (word : List ℕ) → ℕ × List ℕ → Option ConnLineEvent
event_on_conn word p = option_map (λ w. record { conn = p.0; what = w }) (event_of_word word p.1)

-- the event of a line, if it starts with such a word and a connection's number
abbrev pub event_of_line : List ℕ → Option ConnLineEvent
event_of_line line = option_and_then (λ p. option_and_then (event_on_conn p.0) (split_first_number p.1))
    (split_first_word line)

-- the events of a text's lines, in order
abbrev pub events_of_text : List ℕ → List ConnLineEvent
events_of_text text = filter_map event_of_line (whole_lines text)
