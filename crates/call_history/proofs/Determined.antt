-- A transition leads from a state to at most one other. The outcome of a turn follows from the state, up to its
-- ticket.
use Rattle.std.proofs.Common.{◌≡◌, ℕ, Bool, true, cond, [], ◌∷◌, sym, ap, ◌∙◌, subst}
use Rattle.std.specs.Prelude.{Option, Some, None, nat_lt, slice_get}
use Rattle.std.proofs.lemmas.Bool.{lt-ltb, le-ltb}
use Rattle.mrpc_table.specs.declared.call.Call.{Call}
use Rattle.engine_core.specs.Answers.{Past, note, ticket_in}
use Rattle.engine_core.specs.Chains.{Entry}
use Rattle.engine_core.specs.Moves.{moved_by, without_call}
use Rattle.engine_core.specs.Turns.{IsTurnOutcome, noted_in}
use Rattle.engine_core.specs.declared.outcome.Outcome.{Outcome}
use Rattle.engine_core.specs.declared.policy.Policy.{Policy}
use Rattle.call_history.specs.Trace.{chain, level_in_trace, timestamp, noted, pending_calls}
use Rattle.call_history.specs.Transitions.{ConnState, Transition, accepts, turns_away, operates, shows, turns, sends, fails, IsTransition}
use Rattle.call_history.specs.Transitions.{takes, is_away, changes, rises, stays, has_turn, is_sent, link_failed, IsEntryTurn}
use Rattle.call_history.specs.Transitions.{accepted, refused_for_link, trace_after_turn}
use Rattle.call_history.specs.Rules.{JudgeContext}
use Rattle.call_history.specs.declared.happening.Happening.TheVariants.{Away, Op, Moment, Sent}
use Rattle.call_history.proofs.Settling.{same-number}

-- ---- where a transition leads

abbrev turned_by : Option Entry → ℕ → Outcome → ConnState → ConnState
turned_by None seq outcome old = old
turned_by (Some e) seq outcome old = trace_after_turn e seq outcome old

abbrev end_of : ConnState → Transition → ConnState
end_of old (accepts call) = accepted call old
end_of old (turns_away method number addr) = record old { past = Away method number addr ∷ old.past }
end_of old (operates step) = record old { past = Op step ∷ old.past; row = moved_by step (chain old.past).entries old.row }
end_of old (shows ms) = cond (nat_lt (timestamp old.past) ms) (record old { past = Moment ms ∷ old.past }) old
end_of old (turns position seq outcome) = turned_by (slice_get (chain old.past).entries position) seq outcome old
end_of old (sends seq bytes) = record old { past = Sent seq bytes ∷ old.past; row = without_call seq old.row }
end_of old fails = record { past = refused_for_link (pending_calls old.past) old.past; row = []; ended = true }

leads-there : (u : JudgeContext) (old new : ConnState) (event : Transition) → IsTransition u old event new → new ≡ end_of old event
leads-there u old new event (takes call is running may new_is) = new_is ∙ sym (ap (end_of old) is)
leads-there u old new event (is_away method number addr is full new_is) = new_is ∙ sym (ap (end_of old) is)
leads-there u old new event (changes step is may new_is) = new_is ∙ sym (ap (end_of old) is)
leads-there u old new event (rises ms is above new_is) =
    new_is ∙ ap (λ (b : Bool). cond b (record old { past = Moment ms ∷ old.past }) old) (sym (lt-ltb (timestamp old.past) ms above)) ∙ sym (ap (end_of old) is)
leads-there u old new event (stays ms is below new_is) =
    new_is ∙ ap (λ (b : Bool). cond b (record old { past = Moment ms ∷ old.past }) old) (sym (le-ltb (timestamp old.past) ms below)) ∙ sym (ap (end_of old) is)
leads-there u old new event (has_turn position seq outcome e is has new_is) =
    new_is ∙ ap (λ (entry : Option Entry). turned_by entry seq outcome old) (sym has.entry) ∙ sym (ap (end_of old) is)
leads-there u old new event (is_sent seq bytes is running ready new_is) = new_is ∙ sym (ap (end_of old) is)
leads-there u old new event (link_failed is new_is) = new_is ∙ sym (ap (end_of old) is)

pub one-end : (u : JudgeContext) (old new other : ConnState) (event : Transition) → IsTransition u old event new → IsTransition u old event other → new ≡ other
one-end u old new other event first second = leads-there u old new event first ∙ sym (leads-there u old other event second)

-- ---- the outcome of a turn

-- a turn has one outcome, up to the ticket of a draw
abbrev pub OneOutcome : Type 0
OneOutcome = (policy : Policy) (level_in_trace timestamp : ℕ) (form : Call) (past : Past) (a b : Outcome) → IsTurnOutcome policy level_in_trace timestamp form past a → IsTurnOutcome policy level_in_trace timestamp form past b
    → ticket_in (note (noted_in a)) ≡ ticket_in (note (noted_in b)) → a ≡ b

same-turn : OneOutcome → (u : JudgeContext) (c : ConnState) (position s : ℕ) (a b : Outcome) (e : Entry) → IsEntryTurn u c position s a e → IsEntryTurn u c position s b e
    → ticket_in (note (noted_in a)) ≡ ticket_in (note (noted_in b)) → a ≡ b
same-turn one u c position s a b e first second tickets =
    let both : Some second.call ≡ Some first.call = sym second.is_form ∙ first.is_form in
    let same : second.call ≡ first.call = cc in
    one e.policy (level_in_trace e.name c.past) (timestamp c.past) first.call (noted e.name s c.past) a b first.comes
    (subst (λ (call : Call). IsTurnOutcome e.policy (level_in_trace e.name c.past) (timestamp c.past) call (noted e.name s c.past) b) same second.comes) tickets

pub one-turn : OneOutcome → (u : JudgeContext) (c : ConnState) (position s t : ℕ) (a b : Outcome) (d e : Entry) → IsEntryTurn u c position s a d → IsEntryTurn u c position t b e
    → (s ≡ t) × (d ≡ e) × (ticket_in (note (noted_in a)) ≡ ticket_in (note (noted_in b)) → a ≡ b)
one-turn one u c position s t a b d e first second =
    let number : s ≡ t = same-number (s, position) (t, position) (sym first.first ∙ second.first) in
    let both : Some d ≡ Some e = sym first.entry ∙ second.entry in
    let entry : d ≡ e = cc in (
      number,
      entry,
      same-turn one u c position s a b d first
          (subst (λ (n : ℕ). IsEntryTurn u c position n b d) (sym number) (subst (λ (x : Entry). IsEntryTurn u c position t b x) (sym entry) second)),
    )
