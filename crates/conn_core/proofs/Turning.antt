-- The engine at a position has a turn, and the call's marks and levels still agree with the trace.
use Rattle.std.proofs.Common.{◌≡◌, ◌≢◌, ℕ, List, ◌∷◌, map, slice_get, refl, ap, sym, ◌∙◌, subst}
use Rattle.std.specs.Prelude.{All, Some}
use Rattle.std.proofs.lemmas.List.Elements.{All-head, All-tail, All-map, All-weaker, All-set}
use Rattle.engine_core.specs.Answers.{Past, past_after, level_after_note}
use Rattle.mrpc_table.specs.Valid.{AreDistinct}
use Rattle.mrpc_table.specs.declared.call.Call.{Call}
use Rattle.engine_core.specs.Chains.{Entry, IsChain, attachments_of, names_of}
use Rattle.engine_core.specs.Engines.{EngineParts}
use Rattle.engine_core.specs.Marks.{IsSilent, IsTrueFor, PendingCall, note_of, past_by, past_of, seqs_of}
use Rattle.engine_core.specs.Moves.{first_at}
use Rattle.engine_core.specs.Turns.{IsTurnOutcome, form_after, noted_in}
use Rattle.engine_core.specs.Working.{AreMarksAfterTurn}
use Rattle.engine_core.specs.declared.outcome.Outcome.{Outcome}
use Rattle.engine_core.specs.declared.outcome.Outcome.TheVariants.{Passed, Held, Refused, Redacted}
use Rattle.engine_core.specs.declared.policy.Policy.{Policy}
use Rattle.engine_core.specs.declared.policy.Policy.TheVariants as policies
use Rattle.chain_upgrade.specs.Chains.{ChainParts, IsEngineTurn, AreAscending, IsChainState, chain_of_state}
use Rattle.call_history.specs.Trace.{Trace, chain, form, level_in_trace, timestamp, noted, policy_in_trace}
use Rattle.call_history.specs.Transitions.{ConnState, trace_after_turn, IsEntryTurn as HasTurnBehind}
use Rattle.call_history.specs.Rules.{JudgeContext}
use Rattle.conn_core.proofs.Apart.{all-after, all-keyed, calls-apart, policy-at}
use Rattle.conn_core.proofs.Fitting.{Fits}
use Rattle.conn_core.proofs.Lists.{all-at, all-back, all-both, all-front, all-of-map, all-set, map-at, map-set-same, map-map}
use Rattle.conn_core.proofs.Turned.{chain-turned, form-turned, form-turned_another, level-turned, level-turned_other}
use Rattle.conn_core.proofs.Turned.{moment-turned, noted-turned, noted-turned_another, noted-turned_elsewhere}

-- ---- the turn, by the trace

entry-at : (conn position timestamp seq : ℕ) (past : Trace) (outcome : Outcome) (before after : ChainParts)
    → Fits conn past before → (has : IsEngineTurn before position timestamp seq outcome after)
    → slice_get (chain past).entries position ≡ Some has.engine.entry
entry-at conn position timestamp seq past outcome before after fits has =
    subst (λ c. slice_get c.entries position ≡ Some has.engine.entry) fits.same_chain
    (map-at (λ (e : EngineParts). e.entry) before.engines position has.engine has.is_engine)

-- what holds of all calls holds of that of the turn
pub of-call : (P : PendingCall → Type 0) (before after : ChainParts) (position timestamp seq : ℕ) (outcome : Outcome)
    → (has : IsEngineTurn before position timestamp seq outcome after) → All P before.calls → P has.call
of-call P before after position timestamp seq outcome has all =
    All-head P has.call has.back (all-back P has.front (has.call ∷ has.back) (subst (All P) has.calls_before all))

pub turn-behind : (u : JudgeContext) (c : ConnState) (before after : ChainParts) (position seq : ℕ) (outcome : Outcome)
    → Fits u.conn c.past before
    → (has : IsEngineTurn before position (timestamp c.past) seq outcome after) → first_at position c.row ≡ Some (seq, position)
    → HasTurnBehind u c position seq outcome has.engine.entry
turn-behind u c before after position seq outcome fits has first =
    let e : Entry = has.engine.entry in
    let level-is : has.engine.level ≡ level_in_trace e.name c.past =
    all-at (λ (e : EngineParts). e.level
    ≡ level_in_trace e.entry.name c.past) before.engines position has.engine has.is_engine fits.levels in
    let notes : All (λ (e : EngineParts). past_of has.call.marks e.entry.attach
    ≡ noted e.entry.name has.call.call.seq c.past) before.engines =
    of-call (λ (s : PendingCall). All (λ (e : EngineParts). past_of s.marks e.entry.attach
    ≡ noted e.entry.name s.call.seq c.past) before.engines) before after position
    (timestamp c.past) seq outcome has fits.notes in
    let note-is : past_of has.call.marks e.attach ≡ noted e.name has.call.call.seq c.past =
    all-at (λ (e : EngineParts). past_of has.call.marks e.entry.attach
    ≡ noted e.entry.name has.call.call.seq c.past) before.engines position has.engine has.is_engine notes in
    let form-is : form u.conn has.call.call.seq c.past ≡ Some has.call.call =
    of-call (λ (s : PendingCall). form u.conn s.call.seq c.past ≡ Some s.call) before after position
    (timestamp c.past) seq outcome has fits.forms in record {
      entry = entry-at u.conn position (timestamp c.past) seq c.past outcome before after fits has;
      first = first;
      call = has.call.call;
      is_form = subst (λ (n : ℕ). form u.conn n c.past ≡ Some has.call.call) has.number form-is;
      comes = subst (λ (l : ℕ). IsTurnOutcome e.policy l (timestamp c.past) has.call.call (noted e.name seq c.past) outcome)
          level-is
          (subst (λ (p : Past). IsTurnOutcome e.policy has.engine.level (timestamp c.past) has.call.call p outcome)
          (note-is ∙ ap (λ (n : ℕ). noted e.name n c.past) has.number) has.comes);
    }

-- ---- marks

-- the notes of the call for each entry of the chain, after the turn
call-notes : (entries : List Entry) (position seq : ℕ) (outcome : Outcome) (c : ConnState) (e : Entry)
    (call met call' : PendingCall) → slice_get entries position ≡ Some e
    → IsChain (chain c.past) → (chain c.past).entries ≡ entries
    → All (λ y. past_of call.marks y.attach ≡ noted y.name seq c.past) entries
    → All (λ y. note_of met.marks y.attach ≡ note_of call.marks y.attach) entries
    → IsSilent e.policy (past_of call.marks e.attach) → AreMarksAfterTurn e outcome met call'
    → All (λ y. past_of call'.marks y.attach ≡ noted y.name seq (trace_after_turn e seq outcome c).past) entries
call-notes entries position seq outcome c e call met call' is is-chain same notes kept silent leaves =
    all-keyed (λ (y : Entry). (past_of call.marks y.attach ≡ noted y.name seq c.past)
    × (note_of met.marks y.attach ≡ note_of call.marks y.attach))
    (λ (y : Entry). past_of call'.marks y.attach ≡ noted y.name seq (trace_after_turn e seq outcome c).past) entries position e is
    (subst (λ (es : List Entry). AreDistinct (names_of es)) same is-chain.names)
    (subst (λ (es : List Entry). AreDistinct (attachments_of es)) same is-chain.attachments)
    (λ y name attach both. leaves.others y.attach attach ∙ ap past_by both.1 ∙ both.0 ∙ sym
    (noted-turned_elsewhere e y.name seq seq outcome c (λ eq. name (sym eq))))
    (λ both.
    let met-is : past_of met.marks e.attach ≡ past_of call.marks e.attach = ap past_by both.1 in
    leaves.noted (subst (IsSilent e.policy) (sym met-is) silent) ∙ ap (past_after (noted_in outcome))
    (met-is ∙ both.0) ∙ sym (noted-turned e seq outcome c))
    (all-both (λ (y : Entry). past_of call.marks y.attach
    ≡ noted y.name seq c.past) (λ (y : Entry). note_of met.marks y.attach ≡ note_of call.marks y.attach)
    (λ (y : Entry). (past_of call.marks y.attach ≡ noted y.name seq c.past)
    × (note_of met.marks y.attach ≡ note_of call.marks y.attach)) (λ y a b. (a, b)) entries notes kept)

-- a turn doesn't change a call's number
form-seq : (outcome : Outcome) (policy : Policy) (call : Call) → (form_after outcome policy call).seq ≡ call.seq
form-seq (Passed noted) policy call = refl
form-seq (Held left cost) policy call = refl
form-seq (Refused noted why) policy call = refl
form-seq Redacted (policies.Access p) call = refl
form-seq Redacted (policies.Rate r) call = refl
form-seq Redacted (policies.Quota tenant per cap) call = refl
form-seq Redacted policies.Count call = refl
form-seq Redacted (policies.Redact clears) call = refl

-- a fact about all entries, as a fact about engines
over-entries : (P : Entry → Type 0) (engines : List EngineParts) → All (λ e. P e.entry) engines
    → All P (map (λ e. e.entry) engines)
over-entries P engines all = All-map P (λ (e : EngineParts). e.entry) engines all

over-engines : (P : Entry → Type 0) (engines engines' : List EngineParts)
    → map (λ e. e.entry) engines' ≡ map (λ e. e.entry) engines
    → All P (map (λ e. e.entry) engines) → All (λ e. P e.entry) engines'
over-engines P engines engines' same all =
    all-of-map (λ (e : EngineParts). e.entry) P engines' (subst (All P) (sym same) all)

-- ---- levels, marks and forms

pub fits-turned : (u : JudgeContext) (c : ConnState) (before after : ChainParts) (position seq : ℕ) (outcome : Outcome)
    → Fits u.conn c.past before → IsChainState before
    → (has : IsEngineTurn before position (timestamp c.past) seq outcome after) → after.attached ≡ before.attached
    → Fits u.conn (trace_after_turn has.engine.entry seq outcome c).past after
fits-turned u c before after position seq outcome fits stands has attached =
    let e : Entry = has.engine.entry in
    let past' : Trace = (trace_after_turn e seq outcome c).past in
    let entries : map (λ (x : EngineParts). x.entry) after.engines ≡ map (λ (x : EngineParts). x.entry) before.engines =
    ap (map (λ (x : EngineParts). x.entry)) has.engines ∙ map-set-same
    (λ (x : EngineParts). x.entry) before.engines position has.engine has.engine' has.is_engine
    has.leaves_engine.entry in
    let same-chain : chain_of_state after ≡ chain_of_state before = ap (λ es. record {
      entries = es;
      attached = after.attached;
    }) entries ∙ ap (λ n. record {
      entries = (chain_of_state before).entries;
      attached = n;
    }) attached in
    let is-chain : IsChain (chain c.past) = subst IsChain fits.same_chain stands.stands.chain in
    let same : (chain c.past).entries ≡ (chain_of_state before).entries = sym (ap (λ ch. ch.entries) fits.same_chain) in
    let at : slice_get (chain_of_state before).entries position ≡ Some e =
    map-at (λ (x : EngineParts). x.entry) before.engines position has.engine has.is_engine in
    let policy : policy_in_trace e.name c.past ≡ Some e.policy =
    policy-at c.past position e is-chain
    (entry-at u.conn position (timestamp c.past) seq c.past outcome before after fits has) in
    let apart = calls-apart has.front has.call has.back
    (subst (λ (calls : List PendingCall). AreAscending (seqs_of calls)) has.calls_before stands.stands.ascend) in
    let old-notes = subst (All (λ (s : PendingCall). All (λ (x : EngineParts). past_of s.marks x.entry.attach
    ≡ noted x.entry.name s.call.seq c.past) before.engines)) has.calls_before fits.notes in
    let old-forms = subst (All (λ (s : PendingCall). form u.conn s.call.seq c.past ≡ Some s.call)) has.calls_before fits.forms
    in
    let silent : IsSilent e.policy (past_of has.call.marks e.attach) =
    (of-call (λ (s : PendingCall). IsTrueFor e s) before after position (timestamp c.past) seq outcome has
    (all-at (λ (x : EngineParts). All (λ (s : PendingCall). IsTrueFor x.entry s) before.calls) before.engines position
    has.engine has.is_engine stands.stands.true_for)).silent in
    let form-of-call : form u.conn seq c.past ≡ Some has.call.call =
    subst (λ (n : ℕ). form u.conn n c.past ≡ Some has.call.call) has.number
    (of-call (λ (s : PendingCall). form u.conn s.call.seq c.past ≡ Some s.call) before after position
    (timestamp c.past) seq outcome has fits.forms) in
    let notes-of-call : All (λ (x : EngineParts). past_of has.call.marks x.entry.attach
    ≡ noted x.entry.name seq c.past) before.engines =
    subst (λ (n : ℕ). All (λ (x : EngineParts). past_of has.call.marks x.entry.attach
    ≡ noted x.entry.name n c.past) before.engines) has.number
    (of-call (λ (s : PendingCall). All (λ (x : EngineParts). past_of s.marks x.entry.attach
    ≡ noted x.entry.name s.call.seq c.past) before.engines) before after position
    (timestamp c.past) seq outcome has fits.notes) in
    let number' : has.call'.call.seq ≡ seq =
    ap (λ (call : Call). call.seq) has.leaves_call.form ∙ form-seq outcome e.policy has.call.call ∙ has.number in
    let other-notes : (s : PendingCall) → s.call.seq ≢ has.call.call.seq
    → All (λ (x : EngineParts). past_of s.marks x.entry.attach ≡ noted x.entry.name s.call.seq c.past) before.engines
    → All (λ (x : EngineParts). past_of s.marks x.entry.attach ≡ noted x.entry.name s.call.seq past') after.engines =
    λ s other notes.
    over-engines (λ (y : Entry). past_of s.marks y.attach
    ≡ noted y.name s.call.seq past') before.engines after.engines entries
    (All-weaker (λ (y : Entry). past_of s.marks y.attach ≡ noted y.name s.call.seq c.past)
    (λ (y : Entry). past_of s.marks y.attach ≡ noted y.name s.call.seq past')
    (λ y is. is ∙ sym (noted-turned_another e y.name seq s.call.seq outcome c (λ eq. other (sym eq ∙ sym has.number))))
    (chain_of_state before).entries (over-entries (λ (y : Entry). past_of s.marks y.attach
    ≡ noted y.name s.call.seq c.past) before.engines notes)) in
    let own-notes : All (λ (x : EngineParts). past_of has.call'.marks x.entry.attach
    ≡ noted x.entry.name has.call'.call.seq past') after.engines =
    over-engines (λ (y : Entry). past_of has.call'.marks y.attach
    ≡ noted y.name has.call'.call.seq past') before.engines after.engines entries
    (subst (λ (n : ℕ). All (λ (y : Entry). past_of has.call'.marks y.attach
    ≡ noted y.name n past') (chain_of_state before).entries) (sym number')
    (call-notes (chain_of_state before).entries position seq outcome c e has.call has.met has.call' at is-chain same
    (over-entries (λ (y : Entry). past_of has.call.marks y.attach
    ≡ noted y.name seq c.past) before.engines notes-of-call)
    (over-entries (λ (y : Entry). note_of has.met.marks y.attach
    ≡ note_of has.call.marks y.attach) before.engines has.keeps.kept) silent has.leaves_marks)) in
    let other-forms : (s : PendingCall) → s.call.seq ≢ has.call.call.seq → form u.conn s.call.seq c.past ≡ Some s.call
    → form u.conn s.call.seq past' ≡ Some s.call = λ s other is.
    form-turned_another u.conn e seq s.call.seq outcome c (λ eq. other (sym eq ∙ sym has.number)) ∙ is in
    let own-form : form u.conn has.call'.call.seq past' ≡ Some has.call'.call =
    ap (λ (n : ℕ). form u.conn n past') number' ∙ form-turned u.conn e seq outcome c has.call.call form-of-call policy ∙
    ap (λ (call : Call). Some call) (sym has.leaves_call.form) in
    record {
      same_chain = same-chain ∙ fits.same_chain ∙ sym (chain-turned e seq outcome c);
      levels = subst (All (λ (x : EngineParts). x.level ≡ level_in_trace x.entry.name past')) (sym has.engines)
          (all-set (λ (x : EngineParts). x.entry.name) (λ (x : EngineParts). x.level
          ≡ level_in_trace x.entry.name c.past) (λ (x : EngineParts). x.level
          ≡ level_in_trace x.entry.name past') before.engines position
          has.engine has.engine' has.is_engine
          (subst AreDistinct (map-map (λ (x : EngineParts). x.entry) (λ (y : Entry). y.name) before.engines)
          stands.stands.chain.names)
          (λ x name is. is ∙ sym (level-turned_other e x.entry.name seq outcome c (λ eq. name (sym eq))))
          (has.leaves_engine.level ∙ ap (level_after_note (noted_in outcome))
          (all-at (λ (x : EngineParts). x.level
          ≡ level_in_trace x.entry.name c.past) before.engines position has.engine has.is_engine fits.levels)
          ∙ sym (level-turned e seq outcome c) ∙ ap (λ (y : Entry). level_in_trace y.name past') (sym has.leaves_engine.entry))
          fits.levels);
      moments = subst (All (λ (x : EngineParts). x.last ≡ timestamp past')) (sym has.engines)
          (All-set (λ (x : EngineParts). x.last ≡ timestamp past') before.engines position has.engine'
          (has.leaves_engine.last ∙ all-at (λ (x : EngineParts). x.last
          ≡ timestamp c.past) before.engines position has.engine has.is_engine fits.moments ∙ sym
          (moment-turned e seq outcome c))
          (All-weaker (λ (x : EngineParts). x.last ≡ timestamp c.past) (λ (x : EngineParts). x.last
          ≡ timestamp past') (λ x is. is ∙ sym (moment-turned e seq outcome c)) before.engines fits.moments));
      notes = subst (All (λ (s : PendingCall). All (λ (x : EngineParts). past_of s.marks x.entry.attach
          ≡ noted x.entry.name s.call.seq past') after.engines)) (sym has.calls)
          (all-after (λ (s : PendingCall). All (λ (x : EngineParts). past_of s.marks x.entry.attach
          ≡ noted x.entry.name s.call.seq past') after.engines) outcome has.front has.call' has.back
          (all-both (λ (s : PendingCall). s.call.seq ≢ has.call.call.seq)
          (λ (s : PendingCall). All (λ (x : EngineParts). past_of s.marks x.entry.attach
          ≡ noted x.entry.name s.call.seq c.past) before.engines)
          (λ (s : PendingCall). All (λ (x : EngineParts). past_of s.marks x.entry.attach
          ≡ noted x.entry.name s.call.seq past') after.engines) other-notes has.front apart.0
          (all-front (λ (s : PendingCall). All (λ (x : EngineParts). past_of s.marks x.entry.attach
          ≡ noted x.entry.name s.call.seq c.past) before.engines) has.front (has.call ∷ has.back) old-notes))
          own-notes
          (all-both (λ (s : PendingCall). s.call.seq ≢ has.call.call.seq)
          (λ (s : PendingCall). All (λ (x : EngineParts). past_of s.marks x.entry.attach
          ≡ noted x.entry.name s.call.seq c.past) before.engines)
          (λ (s : PendingCall). All (λ (x : EngineParts). past_of s.marks x.entry.attach
          ≡ noted x.entry.name s.call.seq past') after.engines) other-notes has.back apart.1
          (All-tail (λ (s : PendingCall). All (λ (x : EngineParts). past_of s.marks x.entry.attach
          ≡ noted x.entry.name s.call.seq c.past) before.engines) has.call has.back
          (all-back (λ (s : PendingCall). All (λ (x : EngineParts). past_of s.marks x.entry.attach
          ≡ noted x.entry.name s.call.seq c.past) before.engines) has.front (has.call ∷ has.back) old-notes))));
      forms = subst (All (λ (s : PendingCall). form u.conn s.call.seq past' ≡ Some s.call)) (sym has.calls)
          (all-after (λ (s : PendingCall). form u.conn s.call.seq past'
          ≡ Some s.call) outcome has.front has.call' has.back
          (all-both (λ (s : PendingCall). s.call.seq ≢ has.call.call.seq)
          (λ (s : PendingCall). form u.conn s.call.seq c.past
          ≡ Some s.call) (λ (s : PendingCall). form u.conn s.call.seq past' ≡ Some s.call)
          other-forms has.front apart.0 (all-front (λ (s : PendingCall). form u.conn s.call.seq c.past
          ≡ Some s.call) has.front (has.call ∷ has.back) old-forms))
          own-form
          (all-both (λ (s : PendingCall). s.call.seq ≢ has.call.call.seq)
          (λ (s : PendingCall). form u.conn s.call.seq c.past
          ≡ Some s.call) (λ (s : PendingCall). form u.conn s.call.seq past' ≡ Some s.call)
          other-forms has.back apart.1 (All-tail (λ (s : PendingCall). form u.conn s.call.seq c.past
          ≡ Some s.call) has.call has.back
          (all-back (λ (s : PendingCall). form u.conn s.call.seq c.past
          ≡ Some s.call) has.front (has.call ∷ has.back) old-forms))));
    }
