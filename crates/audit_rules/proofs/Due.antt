-- An entry's answer to a call, and what an audit reports of it.
use Rattle.std.proofs.Common.{◌≡◌, ◌≢◌, ℕ, ◌<◌, ◌≤◌, List, [], ◌∷◌, length, refl, sym, ap, subst, arith}
use Rattle.std.specs.Prelude.{All, IsSomeAnd, Option, Some, None}
use Rattle.std.proofs.lemmas.List.Elements.{All-cons, All-head, All-nil, All-tail}
use Rattle.mrpc_table.specs.declared.call.Call.{Call}
use Rattle.policy_access.specs.Verdict.{AccessPolicy}
use Rattle.engine_core.specs.Answers.{Answer, IsEntryAnswer, Past, deny, hold, note, pass, redact, ticket_in}
use Rattle.engine_core.specs.Chains.{Entry}
use Rattle.engine_core.specs.Engines.{EngineParts}
use Rattle.engine_core.specs.Marks.{PendingCall}
use Rattle.engine_core.specs.Turns.{noted_in, refusal}
use Rattle.engine_core.specs.declared.outcome.Noted.{Noted}
use Rattle.engine_core.specs.declared.outcome.Noted.TheVariants.{Nothing, Charged, Drawn, Counted}
use Rattle.engine_core.specs.declared.outcome.Outcome.{Outcome}
use Rattle.engine_core.specs.declared.outcome.Outcome.TheVariants.{Passed, Held, Refused, Redacted}
use Rattle.engine_core.specs.declared.outcome.Why.{Why}
use Rattle.engine_core.specs.declared.outcome.Why.TheVariants.{Denied, Short, Over}
use Rattle.engine_core.specs.declared.policy.Policy.{Policy}
use Rattle.engine_core.specs.declared.policy.Policy.TheVariants.{Access}
use Rattle.call_history.specs.Trace.{Trace, form, level_in_trace, timestamp, noted, noted_calls}
use Rattle.call_history.specs.Rules.{IsAnswerInTrace, IsNoteDue, IsPendingAnswer, JudgeContext}
use Rattle.audit_rules.specs.Asking.{IsEntryOutcome, answer_of}
use Rattle.audit_rules.specs.CheckerState.{greatest}
use Rattle.audit_rules.specs.declared.ask.EntryOutcome.{EntryOutcome}
use Rattle.audit_rules.proofs.Asked.{OneAnswer, one-gives}

-- ---- answers and outcomes

pub noted-answer : (outcome : Outcome) (n : Noted) → noted_in outcome ≡ n → n ≢ Nothing → answer_of outcome ≡ note n
noted-answer (Passed Nothing) n is some = absurd (some (sym is))
noted-answer (Passed (Charged left)) n is some = ap note is
noted-answer (Passed (Drawn window ticket)) n is some = ap note is
noted-answer (Passed Counted) n is some = ap note is
noted-answer (Held level_in_trace cost) n is some = absurd (some (sym is))
noted-answer (Refused Nothing why) n is some = absurd (some (sym is))
noted-answer (Refused (Charged left) why) n is some = ap note is
noted-answer (Refused (Drawn window ticket) why) n is some = ap note is
noted-answer (Refused Counted why) n is some = ap note is
noted-answer Redacted n is some = absurd (some (sym is))

refusal-no-note : (why : Why) (n : Noted) → refusal why ≡ note n → ⊥
refusal-no-note (Denied rule) n is = cc
refusal-no-note (Short level_in_trace cost) n is = cc
refusal-no-note (Over ticket cap) n is = cc

refusal-no-pass : (why : Why) (a : Answer) → refusal why ≡ a → a ≡ redact → ⊥
refusal-no-pass (Denied rule) a is other = cc
refusal-no-pass (Short level_in_trace cost) a is other = cc
refusal-no-pass (Over ticket cap) a is other = cc

pub answer-noted : (outcome : Outcome) (n : Noted) → answer_of outcome ≡ note n → noted_in outcome ≡ n
answer-noted (Passed Nothing) n is = absurd cc
answer-noted (Passed (Charged left)) n is = cc
answer-noted (Passed (Drawn window ticket)) n is = cc
answer-noted (Passed Counted) n is = cc
answer-noted (Held level_in_trace cost) n is = absurd cc
answer-noted (Refused Nothing why) n is = absurd (refusal-no-note why n is)
answer-noted (Refused (Charged left) why) n is = cc
answer-noted (Refused (Drawn window ticket) why) n is = cc
answer-noted (Refused Counted why) n is = cc
answer-noted Redacted n is = absurd cc

pub answer-redacted : (outcome : Outcome) → answer_of outcome ≡ redact → outcome ≡ Redacted
answer-redacted (Passed Nothing) is = absurd cc
answer-redacted (Passed (Charged left)) is = absurd cc
answer-redacted (Passed (Drawn window ticket)) is = absurd cc
answer-redacted (Passed Counted) is = absurd cc
answer-redacted (Held level_in_trace cost) is = absurd cc
answer-redacted (Refused Nothing why) is = absurd (refusal-no-pass why (refusal why) refl is)
answer-redacted (Refused (Charged left) why) is = absurd cc
answer-redacted (Refused (Drawn window ticket) why) is = absurd cc
answer-redacted (Refused Counted why) is = absurd cc
answer-redacted Redacted is = refl

refusal-same : (a b : Why) → refusal a ≡ refusal b → a ≡ b
refusal-same (Denied r) (Denied s) is = cc
refusal-same (Denied r) (Short level_in_trace cost) is = absurd cc
refusal-same (Denied r) (Over ticket cap) is = absurd cc
refusal-same (Short level_in_trace cost) (Denied s) is = absurd cc
refusal-same (Short level_in_trace cost) (Short l c) is = cc
refusal-same (Short level_in_trace cost) (Over ticket cap) is = absurd cc
refusal-same (Over ticket cap) (Denied s) is = absurd cc
refusal-same (Over ticket cap) (Short l c) is = absurd cc
refusal-same (Over ticket cap) (Over t k) is = cc

pub refusal-ticket : (why : Why) → ticket_in (refusal why) ≡ None
refusal-ticket (Denied rule) = refl
refusal-ticket (Short level_in_trace cost) = refl
refusal-ticket (Over ticket cap) = refl

refusal-held : (why : Why) (level_in_trace cost : ℕ) → hold level_in_trace cost ≡ refusal why → ⊥
refusal-held (Denied rule) level_in_trace cost is = cc
refusal-held (Short l c) level_in_trace cost is = cc
refusal-held (Over ticket cap) level_in_trace cost is = cc

refusal-passed : (why : Why) → pass ≡ refusal why → ⊥
refusal-passed (Denied rule) is = cc
refusal-passed (Short l c) is = cc
refusal-passed (Over ticket cap) is = cc

pub answer-refused : (outcome : Outcome) (why : Why) → answer_of outcome ≡ refusal why → outcome ≡ Refused Nothing why
answer-refused (Passed Nothing) why is = absurd (refusal-passed why is)
answer-refused (Passed (Charged left)) why is = absurd (refusal-no-note why (Charged left) (sym is))
answer-refused (Passed (Drawn window ticket)) why is = absurd (refusal-no-note why (Drawn window ticket) (sym is))
answer-refused (Passed Counted) why is = absurd (refusal-no-note why Counted (sym is))
answer-refused (Held level_in_trace cost) why is = absurd (refusal-held why level_in_trace cost is)
answer-refused (Refused Nothing other) why is = ap (λ (w : Why). Refused Nothing w) (refusal-same other why is)
answer-refused (Refused (Charged left) other) why is = absurd (refusal-no-note why (Charged left) (sym is))
answer-refused (Refused (Drawn window ticket) other) why is = absurd (refusal-no-note why (Drawn window ticket) (sym is))
answer-refused (Refused Counted other) why is = absurd (refusal-no-note why Counted (sym is))
answer-refused Redacted why is = absurd (refusal-no-pass why (refusal why) refl (sym is))

-- ---- the rule of a denial

abbrev pub ByARule : Type 0
ByARule = (p : AccessPolicy) (level_in_trace timestamp rule : ℕ) (form : Call) (past : Past) → IsEntryAnswer (Access p) level_in_trace timestamp form past (deny rule) → rule ≤ length p.rules

denied-by : ByARule → (policy : Policy) (level_in_trace timestamp rule : ℕ) (form : Option Call) (past : Past) (p : AccessPolicy) → policy ≡ Access p
    → IsSomeAnd form (λ call. IsEntryAnswer policy level_in_trace timestamp call past (deny rule)) → rule ≤ length p.rules
denied-by law policy level_in_trace timestamp rule None past p is gives = absurd gives
denied-by law policy level_in_trace timestamp rule (Some call) past p is gives = law p level_in_trace timestamp rule call past (subst (λ (q : Policy). IsEntryAnswer q level_in_trace timestamp call past (deny rule)) is gives)

pub denied-few : ByARule → (u : JudgeContext) (past : Trace) (e : Entry) (seq : ℕ) (p : AccessPolicy) (rule : ℕ)
    → e.policy ≡ Access p → IsAnswerInTrace u past e seq (deny rule) → rule ≤ length p.rules
denied-few law u past e seq p rule is gives = denied-by law e.policy (level_in_trace e.name past) (timestamp past) rule (form u.conn seq past) (noted e.name seq past) p is gives

-- ---- the greatest number

pub greatest-all : (ns : List ℕ) (n : ℕ) → greatest ns < n → All (λ other. other < n) ns
greatest-all [] n less = All-nil (λ other. other < n)
greatest-all (m ∷ ns) n less = All-cons (λ other. other < n) m ns (omega arith) (greatest-all ns n (omega arith))

pub all-greatest : (ns : List ℕ) (n : ℕ) → 0 < n → All (λ other. other < n) ns → greatest ns < n
all-greatest [] n some all = some
all-greatest (m ∷ ns) n some all =
    let first = All-head (λ other. other < n) m ns all in
    let rest = all-greatest ns n some (All-tail (λ other. other < n) m ns all) in
    omega arith

-- ---- the entry that was asked

module _ (u : JudgeContext) (past : Trace) (attached seq : ℕ) (name : List ℕ) (a : EntryOutcome) (calls : List PendingCall) (es' : List EngineParts) (calls' : List PendingCall)
    (reached' : List ℕ) (asked : IsEntryOutcome u past attached seq name a calls es' calls' reached') where
  pub meets : (answer : Answer) → answer_of a.outcome ≡ answer → IsPendingAnswer u past seq name answer
  meets answer is = record { entry = asked.entry; at = asked.is_at; gives = subst (λ (x : Answer). IsAnswerInTrace u past asked.entry seq x) is asked.gives }

  pub met : OneAnswer → (answer : Answer) → ticket_in answer ≡ None → IsPendingAnswer u past seq name answer → answer_of a.outcome ≡ answer
  met one answer no_ticket m =
      let same : m.entry ≡ asked.entry = asked.only m.entry m.at in
      sym (one-gives one u past asked.entry seq answer (answer_of a.outcome) no_ticket (subst (λ (e : Entry). IsAnswerInTrace u past e seq answer) same m.gives) asked.gives)

  pub called-for : (n : Noted) (latest : ℕ) → answer_of a.outcome ≡ note n → latest ≡ greatest (noted_calls name past) → latest < seq → IsNoteDue u past seq name n
  called-for n latest is greatest_is less = record {
    meets = meets (note n) is;
    ascends = greatest-all (noted_calls name past) seq (subst (λ (k : ℕ). k < seq) greatest_is less);
  }

  pub not-called : (n : Noted) (latest : ℕ) → 0 < seq → latest ≡ greatest (noted_calls name past) → seq ≤ latest → IsNoteDue u past seq name n → ⊥
  not-called n latest some greatest_is more due = omega (arith, greatest_is, all-greatest (noted_calls name past) seq some due.ascends)
