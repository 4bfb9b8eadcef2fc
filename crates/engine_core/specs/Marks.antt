-- The marks of a pending call, and what they mean.
use Rattle.std.specs.Prelude.{◌≡◌, ℕ, ◌<◌, ◌≤◌, ◌==◌, Bool, true, false, not, List, ◌∷◌, [], filter, find, map, Option, Some, None, option_map}
use Rattle.std.specs.List.{list_any}
use Rattle.policy_access.specs.Verdict.{verdict}
use Rattle.mrpc_table.specs.declared.call.Call.{Call}
use Rattle.engine_core.specs.Answers.{Past, nothing, charged, drawn, counted}
use Rattle.engine_core.specs.Chains.{Entry}
use Rattle.engine_core.specs.declared.policy.Policy.{Policy}
use Rattle.engine_core.specs.declared.policy.Policy.TheVariants.{Access}
use Rattle.engine_core.specs.declared.mark.Mark.{Mark}
use Rattle.engine_core.specs.declared.mark.MarkNote.{MarkNote}
use Rattle.engine_core.specs.declared.mark.MarkNote.TheVariants.{Allowed, Charged, Drawn, Counted}

-- a pending call, with its marks
pub record PendingCall : Type 0 where
  pub call : Call
  pub marks : List Mark

-- the numbers of calls
abbrev pub seqs_of : List PendingCall → List ℕ
seqs_of calls = map (λ s. s.call.seq) calls

-- the mark of an attachment
abbrev pub note_of : List Mark → ℕ → Option MarkNote
note_of marks attach = option_map (λ m. m.note) (find (λ m. m.attach == attach) marks)

-- the call has marks of attachments up to this one alone
abbrev pub HasMarksUpTo : ℕ → PendingCall → Type 0
HasMarksUpTo attached s = (attach : ℕ) → attached < attach → note_of s.marks attach ≡ None

-- no attachment has two marks
abbrev pub IsOneEach : List Mark → Type 0
IsOneEach [] = Unit {0}
IsOneEach (m ∷ ms) = (list_any (λ n. n.attach == m.attach) ms ≡ false) × IsOneEach ms

-- what a mark notes; that an access policy allowed the call is no note
abbrev pub past_by : Option MarkNote → Past
past_by None = nothing
past_by (Some (Allowed version)) = nothing
past_by (Some Charged) = charged
past_by (Some (Drawn ticket)) = drawn ticket
past_by (Some Counted) = counted

-- what was noted for an attachment, by the marks
abbrev pub past_of : List Mark → ℕ → Past
past_of marks attach = past_by (note_of marks attach)

-- the code's own: a mark that an access policy allowed the call
abbrev pub is_allowing : MarkNote → Bool
is_allowing (Allowed version) = true
is_allowing _ = false

-- by a mark, the access policy of this version allowed the call
abbrev pub is_allowed_by : ℕ → Option MarkNote → Bool
is_allowed_by version (Some (Allowed v)) = v == version
is_allowed_by version _ = false

abbrev pub is_allowed : List Mark → ℕ → ℕ → Bool
is_allowed marks attach version = is_allowed_by version (note_of marks attach)

-- the marks of the other attachments
abbrev pub other_marks : ℕ → List Mark → List Mark
other_marks attach marks = filter (λ m. not (m.attach == attach)) marks

-- the call is allowed, if the policy is an access policy; others have no condition
abbrev pub IsAllowing : Policy → Call → Type 0
IsAllowing (Access p) call = (verdict p call).allow ≡ true
IsAllowing _ call = Unit {0}

-- nothing is noted, if the policy is an access policy
abbrev pub IsSilent : Policy → Past → Type 0
IsSilent (Access p) past = past ≡ nothing
IsSilent _ past = Unit {0}

-- The marks of a call are true for an entry. No mark is of a later version. If a mark means that the present version
-- allowed the call, the policy does allow it.
pub record IsTrueFor (e : Entry) (s : PendingCall) : Type 0 where
  pub silent : IsSilent e.policy (past_of s.marks e.attach)
  pub present : (version : ℕ) → is_allowed s.marks e.attach version ≡ true → version ≤ e.version
  pub allowing : is_allowed s.marks e.attach e.version ≡ true → IsAllowing e.policy s.call
