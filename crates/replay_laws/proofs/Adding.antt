-- What turns and sends of a drain add to a connection's trace.
use Rattle.std.proofs.Common.{◌≡◌, ℕ, ◌+◌, List, [], ◌∷◌, ◌++◌, map, reverse, refl, sym, ap, ◌∙◌, append_assoc}
use Rattle.std.proofs.lemmas.List.{reverse-append}
use Rattle.engine_core.specs.Chains.{Entry}
use Rattle.engine_core.specs.declared.outcome.Noted.{Noted}
use Rattle.engine_core.specs.declared.outcome.Noted.TheVariants as notes
use Rattle.engine_core.specs.declared.outcome.Outcome.{Outcome}
use Rattle.engine_core.specs.declared.outcome.Outcome.TheVariants as outcomes
use Rattle.call_history.specs.Trace.{Trace}
use Rattle.call_history.specs.Draining.{HasPartlyDrained, TurnsEnding, IsPass, HasSentSome, HasTurns, again, at_rest, begins_again, goes, is_held, is_idle, is_over, next, none, one, redacts}
use Rattle.call_history.specs.Transitions.{IsTransition, ConnState, cause_of, with_note, refused_for_link, sends, trace_after_turn, takes, is_away, changes, rises, stays, has_turn, is_sent, link_failed}
use Rattle.call_history.specs.Rules.{JudgeContext}
use Rattle.call_history.specs.declared.happening.Cause.TheVariants as cause
use Rattle.call_history.specs.declared.happening.Happening.{Happening}
use Rattle.call_history.specs.declared.happening.Happening.TheVariants.{Charged, Counted, Drawn, Redacted, Refused, Sent}
use Rattle.call_history.specs.declared.happening.AcceptedCall.{AcceptedCall}

-- events were added, and the link is as before
pub record AddsTo (old new : ConnState) : Type 0 where
  pub more : List Happening
  pub past : new.past ≡ more ++ old.past
  pub going : new.ended ≡ old.ended

pub adds-none : (c : ConnState) → AddsTo c c
adds-none c = record { more = []; past = refl; going = refl }

adds-then : (a b c : ConnState) → AddsTo a b → AddsTo b c → AddsTo a c
adds-then a b c first second = record {
  more = second.more ++ first.more;
  past = second.past ∙ ap (λ (p : Trace). second.more ++ p) first.past ∙ sym (append_assoc second.more first.more a.past);
  going = second.going ∙ first.going;
}

note-adds : (name : List ℕ) (seq : ℕ) (n : Noted) (past : Trace) → (more : List Happening) × (with_note name seq n past ≡ more ++ past)
note-adds name seq notes.Nothing past = ([], refl)
note-adds name seq (notes.Charged left) past = (Charged seq name left ∷ [], refl)
note-adds name seq (notes.Drawn window ticket) past = (Drawn seq name window ticket ∷ [], refl)
note-adds name seq notes.Counted past = (Counted seq name ∷ [], refl)

turned-adds : (e : Entry) (seq : ℕ) (outcome : Outcome) (c : ConnState) → AddsTo c (trace_after_turn e seq outcome c)
turned-adds e seq (outcomes.Passed n) c =
    let note = note-adds e.name seq n c.past in record { more = note.0; past = note.1; going = refl }
turned-adds e seq (outcomes.Held left cost) c = adds-none c
turned-adds e seq (outcomes.Refused n why) c =
    let note = note-adds e.name seq n c.past in
    let x : Happening = Refused seq (cause_of e why) in
    record { more = x ∷ note.0; past = ap (λ (p : Trace). x ∷ p) note.1; going = refl }
turned-adds e seq outcomes.Redacted c = record { more = Redacted seq e.name e.version ∷ []; past = refl; going = refl }

turns-add : (u : JudgeContext) (position : ℕ) (old : ConnState) (ending : TurnsEnding) (new : ConnState) → HasTurns u position old ending new → AddsTo old new
turns-add u position old ending new (is_idle c empty) = adds-none c
turns-add u position old ending new (is_held c seq level cost e turn) = adds-none c
turns-add u position old ending new (redacts c seq e turn) = turned-adds e seq outcomes.Redacted c
turns-add u position old ending new (goes c d end seq outcome e turn done rest) =
    adds-then c (trace_after_turn e seq outcome c) d (turned-adds e seq outcome c) (turns-add u position (trace_after_turn e seq outcome c) end d rest)

passes-add : (u : JudgeContext) (position : ℕ) (old new : ConnState) → IsPass u position old new → AddsTo old new
passes-add u position old new (is_over p c end) = adds-none c
passes-add u position old new (next p c mid d low turns rest) =
    adds-then c mid d (turns-add u p c at_rest mid turns) (passes-add u (p + 1) mid d rest)
passes-add u position old new (begins_again p c mid d low turns rest) =
    adds-then c mid d (turns-add u p c again mid turns) (passes-add u 0 mid d rest)

sending-adds : (u : JudgeContext) (old : ConnState) (seq bytes : ℕ) (new : ConnState) → IsTransition u old (sends seq bytes) new → AddsTo old new
sending-adds u old seq bytes new (takes call is going may makes) = cc
sending-adds u old seq bytes new (is_away method number addr is full makes) = cc
sending-adds u old seq bytes new (changes step is made makes) = cc
sending-adds u old seq bytes new (rises ms is later makes) = cc
sending-adds u old seq bytes new (stays ms is earlier makes) = cc
sending-adds u old seq bytes new (has_turn position s outcome e is turn makes) = cc
sending-adds u old seq bytes new (is_sent s b is going ready makes) = record {
  more = Sent s b ∷ [];
  past = ap (λ (c : ConnState). c.past) makes;
  going = ap (λ (c : ConnState). c.ended) makes;
}
sending-adds u old seq bytes new (link_failed is makes) = cc

sends-add : (u : JudgeContext) (old new : ConnState) → HasSentSome u old new → AddsTo old new
sends-add u old new (none c) = adds-none c
sends-add u old new (one c mid d seq bytes comes rest) =
    adds-then c mid d (sending-adds u c seq bytes mid comes) (sends-add u mid d rest)

pub begins-add : (u : JudgeContext) (old new : ConnState) → HasPartlyDrained u old new → AddsTo old new
begins-add u old new begins =
    adds-then old begins.between new (passes-add u 0 old begins.between begins.passes) (sends-add u begins.between new begins.sent)

-- sends, one more after them, and then others
pub sends-behind : (u : JudgeContext) (old mid after end : ConnState) (seq bytes : ℕ) → HasSentSome u old mid → IsTransition u mid (sends seq bytes) after → HasSentSome u after end
    → HasSentSome u old end
sends-behind u old mid after end seq bytes (none c) comes rest = one c after end seq bytes comes rest
sends-behind u old mid after end seq bytes (one c first d s b sent more) comes rest =
    one c first end s b sent (sends-behind u first d after end seq bytes more comes rest)

-- ---- the end of a link

abbrev pub refusal_of : AcceptedCall → Happening
refusal_of call = Refused call.seq cause.Transport

pub refused-past : (calls : List AcceptedCall) (past : Trace) → refused_for_link calls past ≡ reverse (map refusal_of calls) ++ past
refused-past [] past = refl
refused-past (call ∷ calls) past =
    refused-past calls (refusal_of call ∷ past)
    ∙ sym (append_assoc (reverse (map refusal_of calls)) (refusal_of call ∷ []) past)
    ∙ ap (λ (p : Trace). p ++ past) (sym (reverse-append (refusal_of call ∷ []) (map refusal_of calls)))
