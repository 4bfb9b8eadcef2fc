-- A ticket that an audit line reports as drawn for a call.
use Rattle.std.proofs.Common.{◌≡◌, ◌≢◌, ℕ, zero, suc, Bool, cond, List, [], ◌∷◌, refl, sym, ap, ◌∙◌, slice_get, subst}
use Rattle.std.specs.Prelude.{Contains, IsSomeAnd, Option, None, Some, find, option_map}
use Rattle.mrpc_table.specs.Valid.{AreDistinct}
use Rattle.mrpc_table.specs.declared.call.Call.{Call}
use Rattle.engine_core.specs.Answers.{Answer, IsEntryAnswer, Past, note, ticket_in, allows, denies, was_charged, charges}
use Rattle.engine_core.specs.Answers.{holds, refuses, is_within, is_over, draws, was_counted, counts, is_clear}
use Rattle.engine_core.specs.Answers.{redacts}
use Rattle.engine_core.specs.Chains.{Entry, is_named, names_of}
use Rattle.engine_core.specs.Engines.{EngineParts}
use Rattle.engine_core.specs.Marks.{PendingCall}
use Rattle.engine_core.specs.Turns.{noted_in}
use Rattle.engine_core.specs.declared.outcome.Noted.TheVariants.{Drawn}
use Rattle.engine_core.specs.declared.policy.Policy.{Policy}
use Rattle.call_history.specs.Trace.{Trace, chain, form, level_in_trace, timestamp, noted, policy_in_trace}
use Rattle.call_history.specs.Rules.{IsAnswerInTrace, IsPendingAnswer, JudgeContext}
use Rattle.audit_rules.specs.Asking.{IsEntryOutcome, answer_of}
use Rattle.audit_rules.specs.declared.ask.EntryOutcome.{EntryOutcome}
use Rattle.audit_rules.proofs.Asked.{OneAnswer, no-draw}
use Rattle.audit_rules.proofs.Due.{answer-noted}
use Rattle.audit_rules.proofs.Entries.{named-is}
use Rattle.audit_rules.proofs.Worked.{bytes-other, names-at}

-- if a ticket is to be drawn, any ticket can be
drawn-any : (policy : Policy) (level_in_trace timestamp : ℕ) (form : Call) (past : Past) (window ticket t : ℕ) → IsEntryAnswer policy level_in_trace timestamp form past (note (Drawn window ticket))
    → IsEntryAnswer policy level_in_trace timestamp form past (note (Drawn window t))
drawn-any policy level_in_trace timestamp form past window ticket t (allows p is allow answer) = absurd cc
drawn-any policy level_in_trace timestamp form past window ticket t (denies p is allow answer) = absurd cc
drawn-any policy level_in_trace timestamp form past window ticket t (was_charged r is some answer) = absurd cc
drawn-any policy level_in_trace timestamp form past window ticket t (charges r is none enough answer) = absurd cc
drawn-any policy level_in_trace timestamp form past window ticket t (holds r is none less mode answer) = absurd cc
drawn-any policy level_in_trace timestamp form past window ticket t (refuses r is none less mode answer) = absurd cc
drawn-any policy level_in_trace timestamp form past window ticket t (is_within tenant per cap k is some less answer) = absurd cc
drawn-any policy level_in_trace timestamp form past window ticket t (is_over tenant per cap k is some more answer) = absurd cc
drawn-any policy level_in_trace timestamp form past window ticket t (draws tenant per cap k is none answer) = draws tenant per cap t is none cc
drawn-any policy level_in_trace timestamp form past window ticket t (was_counted is some answer) = absurd cc
drawn-any policy level_in_trace timestamp form past window ticket t (counts is none answer) = absurd cc
drawn-any policy level_in_trace timestamp form past window ticket t (is_clear clears is left answer) = absurd cc
drawn-any policy level_in_trace timestamp form past window ticket t (redacts clears is other answer) = absurd cc

-- an answer is a draw in this window
abbrev IsDraw : ℕ → Answer → Type 0
IsDraw window a = (t : ℕ) × (a ≡ note (Drawn window t))

some-draw : OneAnswer → (policy : Policy) (level_in_trace timestamp : ℕ) (form : Call) (past : Past) (window ticket : ℕ) (a : Answer) (t : Option ℕ) → ticket_in a ≡ t
    → IsEntryAnswer policy level_in_trace timestamp form past (note (Drawn window ticket)) → IsEntryAnswer policy level_in_trace timestamp form past a → IsDraw window a
some-draw one policy level_in_trace timestamp form past window ticket a None is due gives =
    let none : ticket_in (note (Drawn window ticket)) ≡ None = no-draw policy level_in_trace timestamp form past a (note (Drawn window ticket)) gives is due in
    absurd cc
some-draw one policy level_in_trace timestamp form past window ticket a (Some t) is due gives =
    (t, one policy level_in_trace timestamp form past a (note (Drawn window t)) gives (drawn-any policy level_in_trace timestamp form past window ticket t due) is)

draw-by : OneAnswer → (policy : Policy) (level_in_trace timestamp : ℕ) (form : Option Call) (past : Past) (window ticket : ℕ) (a : Answer)
    → IsSomeAnd form (λ call. IsEntryAnswer policy level_in_trace timestamp call past (note (Drawn window ticket))) → IsSomeAnd form (λ call. IsEntryAnswer policy level_in_trace timestamp call past a) → IsDraw window a
draw-by one policy level_in_trace timestamp None past window ticket a due gives = absurd due
draw-by one policy level_in_trace timestamp (Some call) past window ticket a due gives = some-draw one policy level_in_trace timestamp call past window ticket a (ticket_in a) refl due gives

module _ (u : JudgeContext) (past : Trace) (attached seq : ℕ) (name : List ℕ) (a : EntryOutcome) (calls : List PendingCall) (es' : List EngineParts) (calls' : List PendingCall)
    (reached' : List ℕ) (asked : IsEntryOutcome u past attached seq name a calls es' calls' reached') where
  -- if a draw is due, the entry drew in its window
  pub due-drawn : OneAnswer → (window ticket : ℕ) → IsPendingAnswer u past seq name (note (Drawn window ticket)) → (t : ℕ) × (noted_in a.outcome ≡ Drawn window t)
  due-drawn one window ticket m =
      let same : m.entry ≡ asked.entry = asked.only m.entry m.at in
      let due : IsAnswerInTrace u past asked.entry seq (note (Drawn window ticket)) = subst (λ (e : Entry). IsAnswerInTrace u past e seq (note (Drawn window ticket))) same m.gives in
      let is : IsDraw window (answer_of a.outcome) = draw-by one asked.entry.policy (level_in_trace asked.entry.name past)
      (timestamp past) (form u.conn seq past) (noted asked.entry.name seq past) window ticket
      (answer_of a.outcome) due asked.gives in
      (is.0, answer-noted a.outcome (Drawn window is.0) is.1)

find-at : (es : List Entry) (p : ℕ) (e : Entry) (name : List ℕ) → AreDistinct (names_of es) → slice_get es p ≡ Some e → e.name ≡ name → find (is_named name) es ≡ Some e
find-at [] p e name apart is named = absurd cc
find-at (x ∷ xs) zero e name apart is named =
    let there : x ≡ e = cc in
    ap (λ (b : Bool). cond b (Some x) (find (is_named name) xs)) (named-is name x (ap (λ (e : Entry). e.name) there ∙ named)) ∙ ap (λ (e : Entry). Some e) there
find-at (x ∷ xs) (suc p) e name apart is named =
    let other : x.name ≢ name = λ same. apart.0 (subst (λ (m : List ℕ). Contains (names_of xs) m) (named ∙ sym same) (names-at xs p e is)) in
    ap (λ (b : Bool). cond b (Some x) (find (is_named name) xs)) (bytes-other x.name name other) ∙ find-at xs p e name apart.1 is named

pub policy-at : (past : Trace) (p : ℕ) (e : Entry) (name : List ℕ) → AreDistinct (names_of (chain past).entries) → slice_get (chain past).entries p ≡ Some e → e.name ≡ name
    → policy_in_trace name past ≡ Some e.policy
policy-at past p e name apart is named = ap (λ (f : Option Entry). option_map (λ e. e.policy) f) (find-at (chain past).entries p e name apart is named)
