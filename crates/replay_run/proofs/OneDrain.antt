-- Two drains of a connection agree up to the end of the shorter one. Each turn has the same outcome if tickets are in
-- turn, and calls are sent in the same order.
use Rattle.std.proofs.Common.{◌≡◌, ℕ, ◌+◌, ◌<◌, ◌⊎◌, inl, inr, List, length, refl, sym, ap, ◌∙◌, subst, arith}
use Rattle.std.specs.Prelude.{None, Some}
use Rattle.mrpc_table.specs.declared.call.Call.{Call}
use Rattle.frame_transport.specs.declared.format.TheConstants.{HEADER_LEN}
use Rattle.engine_core.specs.Answers.{note, ticket_in}
use Rattle.engine_core.specs.Chains.{Entry}
use Rattle.engine_core.specs.Moves.{first_at}
use Rattle.engine_core.specs.Turns.{IsTurnOutcome, noted_in}
use Rattle.engine_core.specs.declared.outcome.Outcome.{Outcome}
use Rattle.engine_core.specs.declared.outcome.Outcome.TheVariants as outcomes
use Rattle.call_history.specs.Trace.{Trace, chain, form, level_in_trace, timestamp, noted, policy_in_trace}
use Rattle.call_history.specs.Draining.{TurnsEnding, at_rest, again, IsFinalOutcome, HasTurns, is_idle, is_held, redacts, goes, IsPass, is_over, next, begins_again, HasSentSome, none, one, HasPartlyDrained}
use Rattle.call_history.specs.Transitions.{IsTransition, ConnState, IsEntryTurn, IsValidState, IsReady, with_note, sends, trace_after_turn, turns, takes, is_away, changes, rises, stays, has_turn, is_sent, link_failed}
use Rattle.call_history.specs.Rules.{JudgeContext, payload}
use Rattle.call_history.specs.declared.happening.Happening.TheVariants.{Redacted}
use Rattle.replay_run.proofs.Adds.{Adds, IsOfDrain, adds-more, adds-nothing, adds-one, passes-add, sends-add, turned-drains, turns-add}
use Rattle.replay_run.proofs.Named.{policy-at}
use Rattle.replay_run.proofs.NextTicket.{IsInTurn, earlier, one-ticket}
use Rattle.replay_run.proofs.OneLaws.{OneLaws}
use Rattle.replay_run.proofs.OneTurn.{same-ticket}
use Rattle.replay_run.proofs.Pasts.{IsAny, any-adds}

-- ---- the first call at a position

pub no-first : (call : ℕ × ℕ) → None ≡ Some call → ⊥
no-first call is = absurd cc

first-number : (a b : ℕ × ℕ) → Some a ≡ Some b → a.0 ≡ b.0
first-number a b is = let same : a ≡ b = cc in ap (λ (call : ℕ × ℕ). call.0) same

-- ---- the trace after a turn

-- its note comes first
note-first : (e : Entry) (seq : ℕ) (outcome : Outcome) (c : ConnState) → Adds IsAny (with_note e.name seq (noted_in outcome) c.past) (trace_after_turn e seq outcome c).past
note-first e seq (outcomes.Passed n) c = adds-nothing IsAny (with_note e.name seq n c.past)
note-first e seq (outcomes.Held level_in_trace cost) c = adds-nothing IsAny c.past
note-first e seq (outcomes.Refused n why) c = adds-one IsAny _ (with_note e.name seq n c.past) tt
note-first e seq outcomes.Redacted c = adds-one IsAny (Redacted seq e.name e.version) c.past tt

-- ---- how turns continue

-- how an entry continues after a turn with this outcome
abbrev TurnsBehind : JudgeContext → ℕ → Outcome → ConnState → TurnsEnding → ConnState → Type 0
TurnsBehind u position (outcomes.Passed n) c ending new = HasTurns u position c ending new
TurnsBehind u position (outcomes.Held level_in_trace cost) c ending new = (ending ≡ at_rest) × (new ≡ c)
TurnsBehind u position (outcomes.Refused n why) c ending new = HasTurns u position c ending new
TurnsBehind u position outcomes.Redacted c ending new = (ending ≡ again) × (new ≡ c)

data TurnsBy (u : JudgeContext) (position : ℕ) (old : ConnState) (ending : TurnsEnding) (new : ConnState) : Type 0 where
  no_call : first_at position old.row ≡ None → ending ≡ at_rest → new ≡ old → TurnsBy u position old ending new
  by_turn : (seq : ℕ) (outcome : Outcome) (e : Entry) → IsEntryTurn u old position seq outcome e → Adds IsOfDrain (trace_after_turn e seq outcome old).past new.past
      → TurnsBehind u position outcome (trace_after_turn e seq outcome old) ending new → TurnsBy u position old ending new

going-on : (u : JudgeContext) (position : ℕ) (outcome : Outcome) (c : ConnState) (ending : TurnsEnding) (new : ConnState) → IsFinalOutcome outcome → HasTurns u position c ending new
    → TurnsBehind u position outcome c ending new
going-on u position (outcomes.Passed n) c ending new done rest = rest
going-on u position (outcomes.Held level_in_trace cost) c ending new done rest = absurd done
going-on u position (outcomes.Refused n why) c ending new done rest = rest
going-on u position outcomes.Redacted c ending new done rest = absurd done

gone-on : (u : JudgeContext) (position : ℕ) (outcome : Outcome) (c : ConnState) (ending : TurnsEnding) (new : ConnState) → IsFinalOutcome outcome → TurnsBehind u position outcome c ending new
    → HasTurns u position c ending new
gone-on u position (outcomes.Passed n) c ending new done rest = rest
gone-on u position (outcomes.Held level_in_trace cost) c ending new done rest = absurd done
gone-on u position (outcomes.Refused n why) c ending new done rest = rest
gone-on u position outcomes.Redacted c ending new done rest = absurd done

turns-by : (u : JudgeContext) (position : ℕ) (old : ConnState) (ending : TurnsEnding) (new : ConnState) → HasTurns u position old ending new → TurnsBy u position old ending new
turns-by u position old ending new (is_idle c empty) = no_call empty refl refl
turns-by u position old ending new (is_held c seq level_in_trace cost e turn) = by_turn seq (outcomes.Held level_in_trace cost) e turn (adds-nothing IsOfDrain c.past) (refl, refl)
turns-by u position old ending new (redacts c seq e turn) =
    by_turn seq outcomes.Redacted e turn (adds-nothing IsOfDrain (trace_after_turn e seq outcomes.Redacted c).past) (refl, refl)
turns-by u position old ending new (goes c d other seq outcome e turn done rest) =
    by_turn seq outcome e turn (turns-add u position (trace_after_turn e seq outcome c) other d rest) (going-on u position outcome (trace_after_turn e seq outcome c) other d done rest)

-- after an entry's turns those of the next one follow, or all start again
abbrev PassesBehind : JudgeContext → ℕ → TurnsEnding → ConnState → ConnState → Type 0
PassesBehind u position at_rest c new = IsPass u (position + 1) c new
PassesBehind u position again c new = IsPass u 0 c new

data PassesBy (u : JudgeContext) (position : ℕ) (old new : ConnState) : Type 0 where
  no_entry : position ≡ length (chain old.past).entries → new ≡ old → PassesBy u position old new
  by_turns : (ending : TurnsEnding) (between : ConnState) → position < length (chain old.past).entries → HasTurns u position old ending between → Adds IsOfDrain between.past new.past
      → PassesBehind u position ending between new → PassesBy u position old new

passes-by : (u : JudgeContext) (position : ℕ) (old new : ConnState) → IsPass u position old new → PassesBy u position old new
passes-by u position old new (is_over p c end) = no_entry end refl
passes-by u position old new (next p c between d within these rest) = by_turns at_rest between within these (passes-add u (p + 1) between d rest) rest
passes-by u position old new (begins_again p c between d within these rest) = by_turns again between within these (passes-add u 0 between d rest) rest

-- ---- sends

pub sends-ready : (u : JudgeContext) (old : ConnState) (seq bytes : ℕ) (new : ConnState) → IsTransition u old (sends seq bytes) new → IsReady u old seq bytes
sends-ready u old seq bytes new (takes call is going may makes) = absurd cc
sends-ready u old seq bytes new (is_away method number addr is full makes) = absurd cc
sends-ready u old seq bytes new (changes step is made makes) = absurd cc
sends-ready u old seq bytes new (rises ms is later makes) = absurd cc
sends-ready u old seq bytes new (stays ms is earlier_moment makes) = absurd cc
sends-ready u old seq bytes new (has_turn position s outcome e is turn makes) = absurd cc
sends-ready u old seq bytes new (is_sent s b is going ready makes) =
    let number : s ≡ seq = cc in
    let long : b ≡ bytes = cc in
    subst (λ n. IsReady u old seq n) long (subst (λ n. IsReady u old n b) number ready)
sends-ready u old seq bytes new (link_failed is makes) = absurd cc

pub record AreAlike (s t a b : ℕ) (x y : Call) : Type 0 where
  pub number : s ≡ t
  pub long : a ≡ b
  pub call : x ≡ y

-- one call is ready, in one form
pub one-ready : (u : JudgeContext) (c d : ConnState) → c ≡ d → (s t a b : ℕ) (first : IsReady u c s a) (second : IsReady u d t b) → AreAlike s t a b first.sent second.sent
one-ready u c d same s t a b first second =
    let number : s ≡ t = first-number (s, length (chain c.past).entries) (t, length (chain d.past).entries)
    (sym first.first ∙ ap (λ (k : ConnState). first_at (length (chain k.past).entries) k.row) same ∙ second.first) in
    let forms : Some first.sent ≡ Some second.sent = sym first.is_form ∙ (λ i. form u.conn (number i) (same i).past) ∙ second.is_form in
    let call : first.sent ≡ second.sent = cc in
    record { number = number; long = first.long ∙ ap (λ k. HEADER_LEN + length (payload u.table k)) call ∙ sym second.long; call = call }

pub data SendsBy (u : JudgeContext) (old new : ConnState) : Type 0 where
  no_more : new ≡ old → SendsBy u old new
  by_one : (between : ConnState) (seq bytes : ℕ) → IsTransition u old (sends seq bytes) between → HasSentSome u between new → SendsBy u old new

pub sends-by : (u : JudgeContext) (old new : ConnState) → HasSentSome u old new → SendsBy u old new
sends-by u old new (none c) = no_more refl
sends-by u old new (one c between d seq bytes comes rest) = by_one between seq bytes comes rest

-- if no call is ready, none is sent
pub none-sent : (u : JudgeContext) (old new : ConnState) → first_at (length (chain old.past).entries) old.row ≡ None → HasSentSome u old new → new ≡ old
none-sent u old new empty some = elim (sends-by u old new some) [
  | no_more same ↦ same
  | by_one between seq bytes comes rest ↦ absurd (no-first (seq, length (chain old.past).entries) (sym empty ∙ (sends-ready u old seq bytes between comes).first))
]

module _ (laws : OneLaws) (u : JudgeContext) where
  pub sends-alike : (old x y : ConnState) → HasSentSome u old x → HasSentSome u old y → HasSentSome u x y ⊎ HasSentSome u y x
  sends-alike old x y (none c) second = inl second
  sends-alike old x y (one c between d seq bytes comes rest) second = elim (sends-by u c y second) [
    | no_more same ↦ inr (subst (λ (k : ConnState). HasSentSome u k d) (sym same) (one c between d seq bytes comes rest))
    | by_one other s b came others ↦ (
        let alike = one-ready u c c refl seq s bytes b (sends-ready u c seq bytes between comes) (sends-ready u c s b other came) in
        let again_so : IsTransition u c (sends seq bytes) other = subst (λ n. IsTransition u c (sends seq n) other) (sym alike.long) (subst (λ n. IsTransition u c (sends n b) other) (sym alike.number) came) in
        let same : between ≡ other = laws.end u c between other (sends seq bytes) comes again_so in
        sends-alike between d y rest (subst (λ (k : ConnState). HasSentSome u k y) (sym same) others)
        )
  ]

-- ---- turns

-- the call of a turn, its outcome, and the entry
abbrev pub AllTurn : Type 0
AllTurn = ℕ × Outcome × Entry

abbrev pub of_turn : ℕ → Outcome → Entry → AllTurn
of_turn seq outcome e = (seq, outcome, e)

module _ (laws : OneLaws) (u : JudgeContext) (told : (tenant window : ℕ) → List ℕ) (base : Trace) where
  abbrev TurnsInTurn : Trace → Type 0
  TurnsInTurn past = IsInTurn told base past

  turn-course : (position seq : ℕ) (outcome : Outcome) (e : Entry) (c : ConnState) → IsValidState u c → IsEntryTurn u c position seq outcome e → IsValidState u (trace_after_turn e seq outcome c)
  turn-course position seq outcome e c course turn =
      laws.history.event u c (trace_after_turn e seq outcome c) (turns position seq outcome) course (has_turn position seq outcome e refl turn refl)

  turns-course : (position : ℕ) (old : ConnState) (ending : TurnsEnding) (new : ConnState) → IsValidState u old → HasTurns u position old ending new → IsValidState u new
  turns-course position old ending new course (is_idle c empty) = course
  turns-course position old ending new course (is_held c seq level_in_trace cost e turn) = course
  turns-course position old ending new course (redacts c seq e turn) = turn-course position seq outcomes.Redacted e c course turn
  turns-course position old ending new course (goes c d other seq outcome e turn done rest) =
      turns-course position (trace_after_turn e seq outcome c) other d (turn-course position seq outcome e c course turn) rest

  behind-turn : (e : Entry) (seq : ℕ) (outcome : Outcome) (c : ConnState) → Adds IsAny base c.past → Adds IsAny base (trace_after_turn e seq outcome c).past
  behind-turn e seq outcome c above = adds-more IsAny base c.past (trace_after_turn e seq outcome c).past above
      (any-adds IsOfDrain c.past (trace_after_turn e seq outcome c).past (turned-drains e seq outcome c))

  -- a turn of one entry with one call
  same-outcome : (c : ConnState) (position seq : ℕ) (a b : Outcome) (e : Entry) → IsValidState u c → Adds IsAny base c.past → IsEntryTurn u c position seq a e → IsEntryTurn u c position seq b e
      → TurnsInTurn (trace_after_turn e seq a c).past → TurnsInTurn (trace_after_turn e seq b c).past → ticket_in (note (noted_in a)) ≡ ticket_in (note (noted_in b))
  same-outcome c position seq a b e course above first second turn-a turn-b =
      let both : Some second.call ≡ Some first.call = sym second.is_form ∙ first.is_form in
      let same : second.call ≡ first.call = cc in
      let policy : policy_in_trace e.name c.past ≡ Some e.policy = policy-at c.past position e (laws.is_chain u c.past course.legal.prefix) first.entry in
      same-ticket e.policy (level_in_trace e.name c.past) (timestamp c.past) first.call (noted e.name seq c.past) a b first.comes
      (subst (λ (call : Call). IsTurnOutcome e.policy (level_in_trace e.name c.past) (timestamp c.past) call (noted e.name seq c.past) b) same second.comes)
      (λ tenant per most window s t is drawn_a drawn_b.
      one-ticket told base IsAny seq e.name window s t c.past tenant per most (policy ∙ ap (λ p. Some p) is) above
      (subst (λ n. TurnsInTurn (with_note e.name seq n c.past)) drawn_a
      (earlier told base IsAny (with_note e.name seq (noted_in a) c.past) (trace_after_turn e seq a c).past
      (note-first e seq a c) turn-a))
      (subst (λ n. TurnsInTurn (with_note e.name seq n c.past)) drawn_b
      (earlier told base IsAny (with_note e.name seq (noted_in b) c.past) (trace_after_turn e seq b c).past
      (note-first e seq b c) turn-b)))
      (noted_in a) (noted_in b) refl refl

  -- a turn at a position
  pub turn-alike : (c : ConnState) (position s t : ℕ) (a b : Outcome) (d e : Entry) → IsValidState u c → Adds IsAny base c.past → IsEntryTurn u c position s a d → IsEntryTurn u c position t b e
      → TurnsInTurn (trace_after_turn d s a c).past → TurnsInTurn (trace_after_turn e t b c).past → of_turn t b e ≡ of_turn s a d
  turn-alike c position s t a b d e course above first second turn-a turn-b =
      let both = laws.turn u c position s t a b d e first second in
      let second_so : IsEntryTurn u c position s b d = subst (λ (k : Entry). IsEntryTurn u c position s b k) (sym both.1) (subst (λ n. IsEntryTurn u c position n b e) (sym both.0) second) in
      let turn-so : TurnsInTurn (trace_after_turn d s b c).past =
      subst (λ (k : Entry). TurnsInTurn (trace_after_turn k s b c).past) (sym both.1) (subst (λ n. TurnsInTurn (trace_after_turn e n b c).past) (sym both.0) turn-b) in
      let outcome : a ≡ b = both.2 (same-outcome c position s a b d course above first second_so turn-a turn-so) in
      λ i. of_turn (sym both.0 i) (sym outcome i) (sym both.1 i)

  turns-alike : (position : ℕ) (old : ConnState) (e f : TurnsEnding) (x y : ConnState) → IsValidState u old → Adds IsAny base old.past → HasTurns u position old e x → HasTurns u position old f y
      → TurnsInTurn x.past → TurnsInTurn y.past → (e ≡ f) × (x ≡ y)
  turns-alike position old e f x y course above (is_idle c empty) second turn-x turn-y = elim (turns-by u position c f y second) [
    | no_call none_there rest same ↦ (sym rest, sym same)
    | by_turn seq outcome entry turn adds behind ↦ absurd (no-first (seq, position) (sym empty ∙ turn.first))
  ]
  turns-alike position old e f x y course above (is_held c seq left cost entry turn) second turn-x turn-y = elim (turns-by u position c f y second) [
    | no_call none_there rest same ↦ absurd (no-first (seq, position) (sym none_there ∙ turn.first))
    | by_turn s outcome other turned_too adds behind ↦ (
        let alike : of_turn s outcome other ≡ of_turn seq (outcomes.Held left cost) entry =
        turn-alike c position seq s (outcomes.Held left cost) outcome entry other course above turn turned_too turn-x
        (earlier told base IsOfDrain (trace_after_turn other s outcome c).past y.past adds turn-y) in
        let ends = subst (λ (k : AllTurn). TurnsBehind u position k.1 (trace_after_turn k.2 k.0 k.1 c) f y) alike behind in
        (sym ends.0, sym ends.1)
        )
  ]
  turns-alike position old e f x y course above (redacts c seq entry turn) second turn-x turn-y = elim (turns-by u position c f y second) [
    | no_call none_there rest same ↦ absurd (no-first (seq, position) (sym none_there ∙ turn.first))
    | by_turn s outcome other turned_too adds behind ↦ (
        let alike : of_turn s outcome other ≡ of_turn seq outcomes.Redacted entry =
        turn-alike c position seq s outcomes.Redacted outcome entry other course above turn turned_too turn-x
        (earlier told base IsOfDrain (trace_after_turn other s outcome c).past y.past adds turn-y) in
        let ends = subst (λ (k : AllTurn). TurnsBehind u position k.1 (trace_after_turn k.2 k.0 k.1 c) f y) alike behind in
        (sym ends.0, sym ends.1)
        )
  ]
  turns-alike position old e f x y course above (goes c d ending seq outcome entry turn done rest) second turn-x turn-y = elim (turns-by u position c f y second) [
    | no_call none_there at_end same ↦ absurd (no-first (seq, position) (sym none_there ∙ turn.first))
    | by_turn s result other turned_too adds behind ↦ (
        let alike : of_turn s result other ≡ of_turn seq outcome entry =
        turn-alike c position seq s outcome result entry other course above turn turned_too
        (earlier told base IsOfDrain (trace_after_turn entry seq outcome c).past d.past (turns-add u position (trace_after_turn entry seq outcome c) ending d rest) turn-x)
        (earlier told base IsOfDrain (trace_after_turn other s result c).past y.past adds turn-y) in
        let others = gone-on u position outcome (trace_after_turn entry seq outcome c) f y done (subst (λ (k : AllTurn). TurnsBehind u position k.1 (trace_after_turn k.2 k.0 k.1 c) f y) alike behind) in
        turns-alike position (trace_after_turn entry seq outcome c) ending f d y
        (turn-course position seq outcome entry c course turn) (behind-turn entry seq outcome c above) rest others
        turn-x turn-y
        )
  ]

  -- ---- a drain

  above-turns : (position : ℕ) (old : ConnState) (ending : TurnsEnding) (new : ConnState) → Adds IsAny base old.past → HasTurns u position old ending new → Adds IsAny base new.past
  above-turns position old ending new above these = adds-more IsAny base old.past new.past above (any-adds IsOfDrain old.past new.past (turns-add u position old ending new these))

  passes-alike : (position : ℕ) (old x y : ConnState) → IsValidState u old → Adds IsAny base old.past
      → IsPass u position old x → IsPass u position old y → TurnsInTurn x.past → TurnsInTurn y.past
      → x ≡ y
  passes-alike position old x y course above (is_over p c end) second turn-x turn-y = elim (passes-by u p c y second) [
    | no_entry ended same ↦ sym same
    | by_turns ending between within these adds behind ↦ absurd (omega (arith, end, within))
  ]
  passes-alike position old x y course above (next p c between d within these rest) second turn-x turn-y = elim (passes-by u p c y second) [
    | no_entry ended same ↦ absurd (omega (arith, ended, within))
    | by_turns ending other within_too others adds behind ↦ (
        let alike = turns-alike p c at_rest ending between other course above these others
        (earlier told base IsOfDrain between.past d.past (passes-add u (p + 1) between d rest) turn-x) (earlier told base IsOfDrain other.past y.past adds turn-y) in
        passes-alike (p + 1) between d y (turns-course p c at_rest between course these) (above-turns p c at_rest between above these) rest
        (subst (λ (k : ConnState). PassesBehind u p at_rest k y) (sym alike.1) (subst (λ (k : TurnsEnding). PassesBehind u p k other y) (sym alike.0) behind)) turn-x turn-y
        )
  ]
  passes-alike position old x y course above (begins_again p c between d within these rest) second turn-x turn-y = elim (passes-by u p c y second) [
    | no_entry ended same ↦ absurd (omega (arith, ended, within))
    | by_turns ending other within_too others adds behind ↦ (
        let alike = turns-alike p c again ending between other course above these others
        (earlier told base IsOfDrain between.past d.past (passes-add u 0 between d rest) turn-x) (earlier told base IsOfDrain other.past y.past adds turn-y) in
        passes-alike 0 between d y (turns-course p c again between course these) (above-turns p c again between above these) rest
        (subst (λ (k : ConnState). PassesBehind u p again k y) (sym alike.1) (subst (λ (k : TurnsEnding). PassesBehind u p k other y) (sym alike.0) behind)) turn-x turn-y
        )
  ]

  -- one of two partial drains is the other and more sends
  pub drains-alike : (old x y : ConnState) → IsValidState u old → Adds IsAny base old.past → HasPartlyDrained u old x → HasPartlyDrained u old y → TurnsInTurn x.past → TurnsInTurn y.past
      → HasSentSome u x y ⊎ HasSentSome u y x
  drains-alike old x y course above first second turn-x turn-y =
      let same : first.between ≡ second.between =
      passes-alike 0 old first.between second.between course above first.passes second.passes
      (earlier told base IsOfDrain first.between.past x.past (sends-add u first.between x first.sent) turn-x)
      (earlier told base IsOfDrain second.between.past y.past (sends-add u second.between y second.sent) turn-y) in
      sends-alike laws u first.between x y first.sent (subst (λ (k : ConnState). HasSentSome u k y) (sym same) second.sent)
