-- An entry lets a call pass after its note on it.
use Rattle.std.proofs.Common.{◌≡◌, ◌≢◌, ℕ, ◌-◌, ◌/◌, ◌<◌, ◌==◌, ◌&&◌, Bool, cond, min, List, ◌∷◌, refl, sym, ap, ◌∙◌, subst}
use Rattle.std.specs.Prelude.{IsSomeAnd, Option, None, Some}
use Rattle.std.specs.Str.{bytes_eq}
use Rattle.std.proofs.lemmas.Bool.{eq-eqb}
use Rattle.mrpc_table.specs.declared.call.Call.{Call}
use Rattle.engine_core.specs.Answers.{IsEntryAnswer, Past, charged, counted, drawn, note, nothing, pass, past_after, ticket_in}
use Rattle.engine_core.specs.Answers.{allows, denies, was_charged, charges, holds, refuses, is_within, is_over, draws, was_counted}
use Rattle.engine_core.specs.Answers.{counts, is_clear, redacts}
use Rattle.engine_core.specs.Chains.{Entry}
use Rattle.engine_core.specs.declared.outcome.Noted.{Noted}
use Rattle.engine_core.specs.declared.outcome.Noted.TheVariants as notes
use Rattle.engine_core.specs.declared.policy.Policy.{Policy}
use Rattle.call_history.specs.Trace.{Trace, form, level_in_trace, timestamp, noted}
use Rattle.call_history.specs.Transitions.{with_note}
use Rattle.call_history.specs.Rules.{IsAnswerInTrace, IsAllowedInTrace, JudgeContext, cap_of}
use Rattle.call_history.specs.declared.happening.Happening.{Happening}
use Rattle.call_history.specs.declared.happening.Happening.TheVariants.{Charged, Counted, Drawn}
use Rattle.audit_rules.proofs.Worked.{bytes-same}

-- a noted ticket is below the cap of a policy
abbrev pub IsBelow : Policy → Noted → Type 0
IsBelow policy n = (window ticket cap : ℕ) → n ≡ notes.Drawn window ticket → cap_of policy ≡ Some cap → ticket < cap

-- the note is no ticket
pub no-ticket : (policy : Policy) (n : Noted) → ticket_in (note n) ≡ None → IsBelow policy n
no-ticket policy n none = λ window ticket cap is quota. (let some : ticket_in (note n) ≡ Some ticket = ap (λ (k : Noted). ticket_in (note k)) is in
    let wrong : Some ticket ≡ None = sym some ∙ none in cc)

passes-noted : (policy : Policy) (l m l' m' : ℕ) (call : Call) (past past' : Past) (n : Noted) → IsEntryAnswer policy l m call past (note n)
    → past' ≡ past_after n past → IsBelow policy n → IsEntryAnswer policy l' m' call past' pass
passes-noted policy l m l' m' call past past' n (allows p is allow answer) behind below = absurd cc
passes-noted policy l m l' m' call past past' n (denies p is allow answer) behind below = absurd cc
passes-noted policy l m l' m' call past past' n (was_charged r is some answer) behind below = absurd cc
passes-noted policy l m l' m' call past past' n (charges r is none enough answer) behind below =
    let same : n ≡ notes.Charged (l - r.per) = cc in
    let now : past' ≡ charged = behind ∙ ap (λ (k : Noted). past_after k past) same in
    was_charged r is (λ no. (let wrong : charged ≡ nothing = sym now ∙ no in cc)) refl
passes-noted policy l m l' m' call past past' n (holds r is none less mode answer) behind below = absurd cc
passes-noted policy l m l' m' call past past' n (refuses r is none less mode answer) behind below = absurd cc
passes-noted policy l m l' m' call past past' n (is_within tenant per cap ticket is some less answer) behind below = absurd cc
passes-noted policy l m l' m' call past past' n (is_over tenant per cap ticket is some more answer) behind below = absurd cc
passes-noted policy l m l' m' call past past' n (draws tenant per cap ticket is none answer) behind below =
    let same : n ≡ notes.Drawn (min (m / per) 1023) ticket = cc in
    is_within tenant per cap ticket is (behind ∙ ap (λ (k : Noted). past_after k past) same) (below (min (m / per) 1023) ticket cap same (ap cap_of is)) refl
passes-noted policy l m l' m' call past past' n (was_counted is some answer) behind below = absurd cc
passes-noted policy l m l' m' call past past' n (counts is none answer) behind below =
    let same : n ≡ notes.Counted = cc in
    let now : past' ≡ counted = behind ∙ ap (λ (k : Noted). past_after k past) same in
    was_counted is (λ no. (let wrong : counted ≡ nothing = sym now ∙ no in cc)) refl
passes-noted policy l m l' m' call past past' n (is_clear clears is left answer) behind below = absurd cc
passes-noted policy l m l' m' call past past' n (redacts clears is other answer) behind below = absurd cc

some-noted : (policy : Policy) (l m l' m' : ℕ) (f : Option Call) (past past' : Past) (n : Noted) → IsSomeAnd f (λ call. IsEntryAnswer policy l m call past (note n))
    → past' ≡ past_after n past → IsBelow policy n → IsSomeAnd f (λ call. IsEntryAnswer policy l' m' call past' pass)
some-noted policy l m l' m' None past past' n gives behind below = absurd gives
some-noted policy l m l' m' (Some call) past past' n gives behind below = passes-noted policy l m l' m' call past past' n gives behind below

noted-here : (p rest : Past) (name : List ℕ) (seq : ℕ) → cond ((seq == seq) && bytes_eq name name) p rest ≡ p
noted-here p rest name seq = ap (λ (b : Bool). cond (b && bytes_eq name name) p rest) (eq-eqb seq seq refl)
    ∙ ap (λ (b : Bool). cond b p rest) (bytes-same name name refl)

-- the note is what the trace has for the call at the entry
note-own : (past : Trace) (name : List ℕ) (seq : ℕ) (n : Noted) (what : Happening) → n ≢ notes.Nothing → with_note name seq n past ≡ what ∷ past
    → noted name seq (what ∷ past) ≡ past_after n (noted name seq past)
note-own past name seq notes.Nothing what some is = absurd (some refl)
note-own past name seq (notes.Charged left) what some is =
    let same : Charged seq name left ≡ what = cc in
    subst (λ (w : Happening). noted name seq (w ∷ past) ≡ charged) same (noted-here charged (noted name seq past) name seq)
note-own past name seq (notes.Drawn window ticket) what some is =
    let same : Drawn seq name window ticket ≡ what = cc in
    subst (λ (w : Happening). noted name seq (w ∷ past) ≡ drawn ticket) same (noted-here (drawn ticket) (noted name seq past) name seq)
note-own past name seq notes.Counted what some is =
    let same : Counted seq name ≡ what = cc in
    subst (λ (w : Happening). noted name seq (w ∷ past) ≡ counted) same (noted-here counted (noted name seq past) name seq)

pub lets-noted : (u : JudgeContext) (past : Trace) (seq : ℕ) (n : Noted) (what : Happening) (e : Entry) → n ≢ notes.Nothing → with_note e.name seq n past ≡ what ∷ past
    → form u.conn seq (what ∷ past) ≡ form u.conn seq past → IsAnswerInTrace u past e seq (note n) → IsBelow e.policy n → IsAllowedInTrace u (what ∷ past) seq e
lets-noted u past seq n what e some is forms gives below =
    subst (λ (f : Option Call). IsSomeAnd f (λ call. IsEntryAnswer e.policy (level_in_trace e.name (what ∷ past)) (timestamp (what ∷ past)) call (noted e.name seq (what ∷ past)) pass)) (sym forms)
    (some-noted e.policy (level_in_trace e.name past) (timestamp past) (level_in_trace e.name (what ∷ past)) (timestamp (what ∷ past)) (form u.conn seq past)
    (noted e.name seq past) (noted e.name seq (what ∷ past)) n gives (note-own past e.name seq n what some is) below)
