-- The code's own: what the words of a line after the connection mean.
use Rattle.std.specs.Prelude.{ℕ, ◌^◌, List, codes, Option, Some, None, if◌then◌else◌}
use Rattle.std.specs.Str.{bytes_eq}
use Rattle.engine_core.specs.declared.op.Op.{Op as Step}
use Rattle.engine_core.specs.declared.op.Op.TheVariants.{Attach, Detach, Upgrade}
use Rattle.engine_core.specs.declared.policy.Policy.{Policy}
use Rattle.call_history.specs.declared.happening.Cause.{Cause}
use Rattle.call_history.specs.declared.happening.Cause.TheVariants as cause
use Rattle.call_history.specs.declared.happening.Happening.{Happening}
use Rattle.call_history.specs.declared.happening.Happening.TheVariants.{Away, Moment, Charged, Drawn, Counted, Redacted, Sent, Refused}
use Rattle.policy_declarations.specs.Declarations.{Declared}
use Rattle.audit_text.specs.Labels.{policy_under}
use Rattle.audit_text.specs.Lines.{WordList}
use Rattle.audit_text.specs.Reading.{◌>>=◌, read_end, read_word, read_last_number, read_name, read_number}

unfoldable pub read_away : WordList → Option Happening
read_away words = do
  method ← read_number (2 ^ 16) words
  number ← read_number (2 ^ 32) method.1
  addr ← read_last_number (2 ^ 64) number.1
  Some (Away method.0 number.0 addr)

unfoldable pub read_moment : WordList → Option Happening
read_moment words = do
  ms ← read_last_number (2 ^ 64) words
  Some (Moment ms)

unfoldable pub read_sent : WordList → Option Happening
read_sent words = do
  seq ← read_number (2 ^ 32) words
  bytes ← read_last_number (2 ^ 64) seq.1
  Some (Sent seq.0 bytes)

-- ---- notes

unfoldable pub read_note : WordList → Option (ℕ × List ℕ × WordList)
read_note words = do
  seq ← read_number (2 ^ 32) words
  name ← read_name seq.1
  Some (seq.0, name.0, name.1)

unfoldable pub read_charged : WordList → Option Happening
read_charged words = do
  note ← read_note words
  level ← read_last_number (2 ^ 64) note.2
  Some (Charged note.0 note.1 level)

unfoldable pub read_drawn : WordList → Option Happening
read_drawn words = do
  note ← read_note words
  window ← read_number (2 ^ 64) note.2
  ticket ← read_last_number (2 ^ 64) window.1
  Some (Drawn note.0 note.1 window.0 ticket)

unfoldable pub read_counted : WordList → Option Happening
read_counted words = do
  note ← read_note words
  end ← read_end note.2
  Some (Counted note.0 note.1)

unfoldable pub read_redacted : WordList → Option Happening
read_redacted words = do
  note ← read_note words
  version ← read_last_number (2 ^ 32) note.2
  Some (Redacted note.0 note.1 version)

-- ---- causes

unfoldable pub read_access_cause : WordList → Option Cause
read_access_cause words = do
  name ← read_name words
  version ← read_number (2 ^ 32) name.1
  rule ← read_name version.1
  end ← read_end rule.1
  Some (cause.Access name.0 version.0 rule.0)

unfoldable pub read_entry_cause : WordList → Option (List ℕ × ℕ × ℕ)
read_entry_cause words = do
  name ← read_name words
  left ← read_number (2 ^ 64) name.1
  right ← read_last_number (2 ^ 64) left.1
  Some (name.0, left.0, right)

unfoldable pub read_rate_cause : WordList → Option Cause
read_rate_cause words = do
  by ← read_entry_cause words
  Some (cause.Rate by.0 by.1 by.2)

unfoldable pub read_quota_cause : WordList → Option Cause
read_quota_cause words = do
  by ← read_entry_cause words
  Some (cause.Quota by.0 by.1 by.2)

abbrev pub read_bare_cause : Cause → WordList → Option Cause
read_bare_cause why words = do
  end ← read_end words
  Some why

abbrev pub cause_from : List ℕ → WordList → Option Cause
cause_from word words =
    if bytes_eq word (codes "malformed") then read_bare_cause cause.Malformed words
    else if bytes_eq word (codes "access") then read_access_cause words
    else if bytes_eq word (codes "rate") then read_rate_cause words
    else if bytes_eq word (codes "quota") then read_quota_cause words
    else if bytes_eq word (codes "transport") then read_bare_cause cause.Transport words
    else None

unfoldable pub read_cause : WordList → Option Cause
read_cause words = do
  word ← read_word words
  cause_from word.0 word.1

unfoldable pub read_refused : WordList → Option Happening
read_refused words = do
  seq ← read_number (2 ^ 32) words
  why ← read_cause seq.1
  Some (Refused seq.0 why)

-- ---- operations

-- a declared label as the last word, and its policy
unfoldable pub read_label : Declared → WordList → Option (List ℕ × Policy)
read_label declared words = do
  label ← read_name words
  end ← read_end label.1
  policy ← policy_under label.0 declared
  Some (label.0, policy)

unfoldable pub read_attach : Declared → WordList → Option Step
read_attach declared words = do
  at ← read_number (2 ^ 32) words
  name ← read_name at.1
  label ← read_label declared name.1
  Some (Attach at.0 name.0 label.0 label.1)

unfoldable pub read_detach : WordList → Option Step
read_detach words = do
  name ← read_name words
  end ← read_end name.1
  Some (Detach name.0)

unfoldable pub read_upgrade : Declared → WordList → Option Step
read_upgrade declared words = do
  name ← read_name words
  label ← read_label declared name.1
  Some (Upgrade name.0 label.0 label.1)

abbrev pub step_from : Declared → List ℕ → WordList → Option Step
step_from declared word words =
    if bytes_eq word (codes "attach") then read_attach declared words
    else if bytes_eq word (codes "detach") then read_detach words
    else if bytes_eq word (codes "upgrade") then read_upgrade declared words
    else None

unfoldable pub read_op : Declared → WordList → Option Step
read_op declared words = do
  word ← read_word words
  step_from declared word.0 word.1
