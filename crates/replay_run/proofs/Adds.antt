-- What a transition adds to a trace, and what it preserves.
use Rattle.std.proofs.Common.{◌≡◌, ℕ, ◌+◌, List, [], ◌∷◌, ◌++◌, refl, sym, ap, ◌∙◌, subst, append_assoc, append-nil}
use Rattle.std.specs.List.{AllByRecursion}
use Rattle.mrpc_table.specs.declared.table.Table.{Table}
use Rattle.engine_core.specs.Chains.{Entry}
use Rattle.engine_core.specs.declared.outcome.Noted.{Noted}
use Rattle.engine_core.specs.declared.outcome.Noted.TheVariants as notes
use Rattle.engine_core.specs.declared.outcome.Outcome.{Outcome}
use Rattle.engine_core.specs.declared.outcome.Outcome.TheVariants as outcomes
use Rattle.call_history.specs.Trace.{Trace, chain, pending_calls, taken}
use Rattle.call_history.specs.Draining.{TurnsEnding, at_rest, again, HasTurns, is_idle, is_held, redacts, goes, IsPass, is_over, next, begins_again, HasSentSome, none, one, HasPartlyDrained}
use Rattle.call_history.specs.Transitions.{ConnState, IsTransition, Transition, accepts, operates, sends, shows, turns, turns_away, fails}
use Rattle.call_history.specs.Transitions.{takes, is_away, changes, rises, stays, has_turn, is_sent, link_failed, trace_after_turn}
use Rattle.call_history.specs.Transitions.{with_note, refused_for_link}
use Rattle.call_history.specs.Frames.{frames_of_trace}
use Rattle.call_history.specs.Rules.{JudgeContext}
use Rattle.call_history.specs.Tickets.{tickets_of_trace}
use Rattle.call_history.specs.declared.happening.Cause.TheVariants as cause
use Rattle.call_history.specs.declared.happening.Happening.{Happening}
use Rattle.call_history.specs.declared.happening.Happening.TheVariants.{Took, Away, Op, Moment, Charged, Drawn, Counted, Redacted, Sent, Refused}
use Rattle.call_history.specs.declared.happening.AcceptedCall.{AcceptedCall}
use Rattle.call_history.specs.declared.happening.TookCopy.{TookCopy}
use Rattle.call_history.specs.declared.happening.TookCopy.TheVariants.{Copy, Malformed}

-- the events of turns and failures
abbrev pub IsOfTurn : Happening → Type 0
IsOfTurn (Took call) = ⊥
IsOfTurn (Away method number addr) = ⊥
IsOfTurn (Op step) = ⊥
IsOfTurn (Moment ms) = ⊥
IsOfTurn (Charged seq name left) = Unit {0}
IsOfTurn (Drawn seq name window ticket) = Unit {0}
IsOfTurn (Counted seq name) = Unit {0}
IsOfTurn (Redacted seq name version) = Unit {0}
IsOfTurn (Sent seq bytes) = ⊥
IsOfTurn (Refused seq why) = Unit {0}

-- the events of drains
abbrev pub IsOfDrain : Happening → Type 0
IsOfDrain (Took call) = ⊥
IsOfDrain (Away method number addr) = ⊥
IsOfDrain (Op step) = ⊥
IsOfDrain (Moment ms) = ⊥
IsOfDrain (Charged seq name left) = Unit {0}
IsOfDrain (Drawn seq name window ticket) = Unit {0}
IsOfDrain (Counted seq name) = Unit {0}
IsOfDrain (Redacted seq name version) = Unit {0}
IsOfDrain (Sent seq bytes) = Unit {0}
IsOfDrain (Refused seq why) = Unit {0}

-- the events of submissions, operators and clocks
abbrev pub IsOfChange : Happening → Type 0
IsOfChange (Took call) = Unit {0}
IsOfChange (Away method number addr) = Unit {0}
IsOfChange (Op step) = Unit {0}
IsOfChange (Moment ms) = Unit {0}
IsOfChange (Charged seq name left) = ⊥
IsOfChange (Drawn seq name window ticket) = ⊥
IsOfChange (Counted seq name) = ⊥
IsOfChange (Redacted seq name version) = ⊥
IsOfChange (Sent seq bytes) = ⊥
IsOfChange (Refused seq why) = Unit {0}

-- events of a kind were added to a trace
pub record Adds (P : Happening → Type 0) (old new : Trace) : Type 0 where
  pub more : List Happening
  pub each : AllByRecursion P more
  pub is : new ≡ more ++ old

pub adds-nothing : (P : Happening → Type 0) (past : Trace) → Adds P past past
adds-nothing P past = record { more = []; each = tt; is = refl }

pub adds-one : (P : Happening → Type 0) (x : Happening) (past : Trace) → P x → Adds P past (x ∷ past)
adds-one P x past holds = record { more = x ∷ []; each = (holds, tt); is = refl }

pub all-append : (P : Happening → Type 0) (xs ys : List Happening) → AllByRecursion P xs → AllByRecursion P ys → AllByRecursion P (xs ++ ys)
all-append P [] ys a b = b
all-append P (x ∷ xs) ys a b = (a.0, all-append P xs ys a.1 b)

pub adds-more : (P : Happening → Type 0) (old mid new : Trace) → Adds P old mid → Adds P mid new → Adds P old new
adds-more P old mid new a b = record {
  more = b.more ++ a.more;
  each = all-append P b.more a.more b.each a.each;
  is = b.is ∙ ap (λ past. b.more ++ past) a.is ∙ sym (append_assoc b.more a.more old);
}

pub all-weaker : (P Q : Happening → Type 0) → ((x : Happening) → P x → Q x) → (xs : List Happening) → AllByRecursion P xs → AllByRecursion Q xs
all-weaker P Q gives [] a = tt
all-weaker P Q gives (x ∷ xs) a = (gives x a.0, all-weaker P Q gives xs a.1)

pub adds-weaker : (P Q : Happening → Type 0) → ((x : Happening) → P x → Q x) → (old new : Trace) → Adds P old new → Adds Q old new
adds-weaker P Q gives old new a = record { more = a.more; each = all-weaker P Q gives a.more a.each; is = a.is }

pub turn-drains : (x : Happening) → IsOfTurn x → IsOfDrain x
turn-drains (Took call) holds = absurd holds
turn-drains (Away method number addr) holds = absurd holds
turn-drains (Op step) holds = absurd holds
turn-drains (Moment ms) holds = absurd holds
turn-drains (Charged seq name left) holds = tt
turn-drains (Drawn seq name window ticket) holds = tt
turn-drains (Counted seq name) holds = tt
turn-drains (Redacted seq name version) holds = tt
turn-drains (Sent seq bytes) holds = absurd holds
turn-drains (Refused seq why) holds = tt

-- ---- what stays

unmoved-by : (X : Type 0) (f : Trace → X) (P : Happening → Type 0) → ((x : Happening) (past : Trace) → P x → f (x ∷ past) ≡ f past)
    → (more : List Happening) (old : Trace) → AllByRecursion P more → f (more ++ old) ≡ f old
unmoved-by X f P keeps [] old each = refl
unmoved-by X f P keeps (x ∷ more) old each = keeps x (more ++ old) each.0 ∙ unmoved-by X f P keeps more old each.1

pub unmoved : (X : Type 0) (f : Trace → X) (P : Happening → Type 0) → ((x : Happening) (past : Trace) → P x → f (x ∷ past) ≡ f past)
    → (old new : Trace) → Adds P old new → f new ≡ f old
unmoved X f P keeps old new a = ap f a.is ∙ unmoved-by X f P keeps a.more old a.each

pub chain-kept : (x : Happening) (past : Trace) → IsOfDrain x → chain (x ∷ past) ≡ chain past
chain-kept (Took call) past holds = absurd holds
chain-kept (Away method number addr) past holds = absurd holds
chain-kept (Op step) past holds = absurd holds
chain-kept (Moment ms) past holds = absurd holds
chain-kept (Charged seq name left) past holds = refl
chain-kept (Drawn seq name window ticket) past holds = refl
chain-kept (Counted seq name) past holds = refl
chain-kept (Redacted seq name version) past holds = refl
chain-kept (Sent seq bytes) past holds = refl
chain-kept (Refused seq why) past holds = refl

pub taken-kept : (x : Happening) (past : Trace) → IsOfDrain x → taken (x ∷ past) ≡ taken past
taken-kept (Took call) past holds = absurd holds
taken-kept (Away method number addr) past holds = absurd holds
taken-kept (Op step) past holds = absurd holds
taken-kept (Moment ms) past holds = absurd holds
taken-kept (Charged seq name left) past holds = refl
taken-kept (Drawn seq name window ticket) past holds = refl
taken-kept (Counted seq name) past holds = refl
taken-kept (Redacted seq name version) past holds = refl
taken-kept (Sent seq bytes) past holds = refl
taken-kept (Refused seq why) past holds = refl

module _ (T : Table) (conn : ℕ) where
  pub frames-kept-by_turn : (x : Happening) (past : Trace) → IsOfTurn x → frames_of_trace T conn (x ∷ past) ≡ frames_of_trace T conn past
  frames-kept-by_turn (Took call) past holds = absurd holds
  frames-kept-by_turn (Away method number addr) past holds = absurd holds
  frames-kept-by_turn (Op step) past holds = absurd holds
  frames-kept-by_turn (Moment ms) past holds = absurd holds
  frames-kept-by_turn (Charged seq name left) past holds = append-nil (frames_of_trace T conn past)
  frames-kept-by_turn (Drawn seq name window ticket) past holds = append-nil (frames_of_trace T conn past)
  frames-kept-by_turn (Counted seq name) past holds = append-nil (frames_of_trace T conn past)
  frames-kept-by_turn (Redacted seq name version) past holds = append-nil (frames_of_trace T conn past)
  frames-kept-by_turn (Sent seq bytes) past holds = absurd holds
  frames-kept-by_turn (Refused seq why) past holds = append-nil (frames_of_trace T conn past)

  pub frames-kept-by_change : (x : Happening) (past : Trace) → IsOfChange x → frames_of_trace T conn (x ∷ past) ≡ frames_of_trace T conn past
  frames-kept-by_change (Took call) past holds = append-nil (frames_of_trace T conn past)
  frames-kept-by_change (Away method number addr) past holds = append-nil (frames_of_trace T conn past)
  frames-kept-by_change (Op step) past holds = append-nil (frames_of_trace T conn past)
  frames-kept-by_change (Moment ms) past holds = append-nil (frames_of_trace T conn past)
  frames-kept-by_change (Charged seq name left) past holds = absurd holds
  frames-kept-by_change (Drawn seq name window ticket) past holds = absurd holds
  frames-kept-by_change (Counted seq name) past holds = absurd holds
  frames-kept-by_change (Redacted seq name version) past holds = absurd holds
  frames-kept-by_change (Sent seq bytes) past holds = absurd holds
  frames-kept-by_change (Refused seq why) past holds = append-nil (frames_of_trace T conn past)

module _ (tenant window : ℕ) where
  pub tickets-kept-by_change : (x : Happening) (past : Trace) → IsOfChange x → tickets_of_trace tenant window (x ∷ past) ≡ tickets_of_trace tenant window past
  tickets-kept-by_change (Took call) past holds = append-nil (tickets_of_trace tenant window past)
  tickets-kept-by_change (Away method number addr) past holds = append-nil (tickets_of_trace tenant window past)
  tickets-kept-by_change (Op step) past holds = append-nil (tickets_of_trace tenant window past)
  tickets-kept-by_change (Moment ms) past holds = append-nil (tickets_of_trace tenant window past)
  tickets-kept-by_change (Charged seq name left) past holds = absurd holds
  tickets-kept-by_change (Drawn seq name at ticket) past holds = absurd holds
  tickets-kept-by_change (Counted seq name) past holds = absurd holds
  tickets-kept-by_change (Redacted seq name version) past holds = absurd holds
  tickets-kept-by_change (Sent seq bytes) past holds = absurd holds
  tickets-kept-by_change (Refused seq why) past holds = append-nil (tickets_of_trace tenant window past)

-- ---- transitions

note-adds : (name : List ℕ) (seq : ℕ) (n : Noted) (past : Trace) → Adds IsOfTurn past (with_note name seq n past)
note-adds name seq notes.Nothing past = adds-nothing IsOfTurn past
note-adds name seq (notes.Charged left) past = adds-one IsOfTurn (Charged seq name left) past tt
note-adds name seq (notes.Drawn window ticket) past = adds-one IsOfTurn (Drawn seq name window ticket) past tt
note-adds name seq notes.Counted past = adds-one IsOfTurn (Counted seq name) past tt

pub turned-adds : (e : Entry) (seq : ℕ) (outcome : Outcome) (c : ConnState) → Adds IsOfTurn c.past (trace_after_turn e seq outcome c).past
turned-adds e seq (outcomes.Passed n) c = note-adds e.name seq n c.past
turned-adds e seq (outcomes.Held left cost) c = adds-nothing IsOfTurn c.past
turned-adds e seq (outcomes.Refused n why) c =
    adds-more IsOfTurn c.past (with_note e.name seq n c.past) (trace_after_turn e seq (outcomes.Refused n why) c).past (note-adds e.name seq n c.past)
    (adds-one IsOfTurn _ (with_note e.name seq n c.past) tt)
turned-adds e seq outcomes.Redacted c = adds-one IsOfTurn (Redacted seq e.name e.version) c.past tt

refused-adds : (calls : List AcceptedCall) (past : Trace) → Adds IsOfTurn past (refused_for_link calls past)
refused-adds [] past = adds-nothing IsOfTurn past
refused-adds (call ∷ calls) past =
    let x : Happening = Refused call.seq cause.Transport in
    adds-more IsOfTurn past (x ∷ past) (refused_for_link calls (x ∷ past)) (adds-one IsOfTurn x past tt) (refused-adds calls (x ∷ past))

-- an accepted call with a copy of which nothing is known
abbrev pub accepted_as : AcceptedCall → TookCopy → ConnState → ConnState
accepted_as call copy c = elim copy [
  | Copy tree ↦ record c { past = Took call ∷ c.past; row = c.row ++ (call.seq, 0) ∷ [] }
  | Malformed reason place value ↦ record c { past = Refused call.seq cause.Malformed ∷ Took call ∷ c.past }
]

accepted-adds : (call : AcceptedCall) (copy : TookCopy) (c : ConnState) → Adds IsOfChange c.past (accepted_as call copy c).past
accepted-adds call (Copy tree) c = adds-one IsOfChange (Took call) c.past tt
accepted-adds call (Malformed reason place value) c = record {
  more = Refused call.seq cause.Malformed ∷ Took call ∷ [];
  each = (tt, (tt, tt));
  is = refl;
}

-- turns and failures of the link
abbrev pub IsTurning : Transition → Type 0
IsTurning (accepts call) = ⊥
IsTurning (turns_away method number addr) = ⊥
IsTurning (operates step) = ⊥
IsTurning (shows ms) = ⊥
IsTurning (turns position seq outcome) = Unit {0}
IsTurning (sends seq bytes) = ⊥
IsTurning fails = Unit {0}

abbrev pub IsChanging : Transition → Type 0
IsChanging (accepts call) = Unit {0}
IsChanging (turns_away method number addr) = Unit {0}
IsChanging (operates step) = Unit {0}
IsChanging (shows ms) = Unit {0}
IsChanging (turns position seq outcome) = ⊥
IsChanging (sends seq bytes) = ⊥
IsChanging fails = ⊥

pub turning-adds : (u : JudgeContext) (old : ConnState) (event : Transition) (new : ConnState) → IsTurning event → IsTransition u old event new → Adds IsOfTurn old.past new.past
turning-adds u old event new turning (takes call is going may makes) = absurd (subst IsTurning is turning)
turning-adds u old event new turning (is_away method number addr is full makes) = absurd (subst IsTurning is turning)
turning-adds u old event new turning (changes step is made makes) = absurd (subst IsTurning is turning)
turning-adds u old event new turning (rises ms is later makes) = absurd (subst IsTurning is turning)
turning-adds u old event new turning (stays ms is earlier makes) = absurd (subst IsTurning is turning)
turning-adds u old event new turning (has_turn position seq outcome e is turn makes) =
    subst (λ (c : ConnState). Adds IsOfTurn old.past c.past) (sym makes) (turned-adds e seq outcome old)
turning-adds u old event new turning (is_sent seq bytes is going ready makes) = absurd (subst IsTurning is turning)
turning-adds u old event new turning (link_failed is makes) =
    subst (λ (c : ConnState). Adds IsOfTurn old.past c.past) (sym makes) (refused-adds (pending_calls old.past) old.past)

pub changing-adds : (u : JudgeContext) (old : ConnState) (event : Transition) (new : ConnState) → IsChanging event → IsTransition u old event new → Adds IsOfChange old.past new.past
changing-adds u old event new changing (takes call is going may makes) =
    subst (λ (c : ConnState). Adds IsOfChange old.past c.past) (sym makes) (accepted-adds call call.copy old)
changing-adds u old event new changing (is_away method number addr is full makes) =
    subst (λ (c : ConnState). Adds IsOfChange old.past c.past) (sym makes) (adds-one IsOfChange (Away method number addr) old.past tt)
changing-adds u old event new changing (changes step is made makes) =
    subst (λ (c : ConnState). Adds IsOfChange old.past c.past) (sym makes) (adds-one IsOfChange (Op step) old.past tt)
changing-adds u old event new changing (rises ms is later makes) =
    subst (λ (c : ConnState). Adds IsOfChange old.past c.past) (sym makes) (adds-one IsOfChange (Moment ms) old.past tt)
changing-adds u old event new changing (stays ms is earlier makes) =
    subst (λ (c : ConnState). Adds IsOfChange old.past c.past) (sym makes) (adds-nothing IsOfChange old.past)
changing-adds u old event new changing (has_turn position seq outcome e is turn makes) = absurd (subst IsChanging is changing)
changing-adds u old event new changing (is_sent seq bytes is going ready makes) = absurd (subst IsChanging is changing)
changing-adds u old event new changing (link_failed is makes) = absurd (subst IsChanging is changing)

-- a call that is sent
pub sending-adds : (u : JudgeContext) (old : ConnState) (seq bytes : ℕ) (new : ConnState) → IsTransition u old (sends seq bytes) new → Adds IsOfDrain old.past new.past
sending-adds u old seq bytes new (takes call is going may makes) = absurd (subst IsChanging (sym is) tt)
sending-adds u old seq bytes new (is_away method number addr is full makes) = absurd (subst IsChanging (sym is) tt)
sending-adds u old seq bytes new (changes step is made makes) = absurd (subst IsChanging (sym is) tt)
sending-adds u old seq bytes new (rises ms is later makes) = absurd (subst IsChanging (sym is) tt)
sending-adds u old seq bytes new (stays ms is earlier makes) = absurd (subst IsChanging (sym is) tt)
sending-adds u old seq bytes new (has_turn position s outcome e is turn makes) = absurd (subst IsTurning (sym is) tt)
sending-adds u old seq bytes new (is_sent s b is going ready makes) =
    subst (λ (c : ConnState). Adds IsOfDrain old.past c.past) (sym makes) (adds-one IsOfDrain (Sent s b) old.past tt)
sending-adds u old seq bytes new (link_failed is makes) = absurd (subst IsTurning (sym is) tt)

-- ---- drains

pub turned-drains : (e : Entry) (seq : ℕ) (outcome : Outcome) (c : ConnState) → Adds IsOfDrain c.past (trace_after_turn e seq outcome c).past
turned-drains e seq outcome c = adds-weaker IsOfTurn IsOfDrain turn-drains c.past (trace_after_turn e seq outcome c).past (turned-adds e seq outcome c)

pub turns-add : (u : JudgeContext) (position : ℕ) (old : ConnState) (ending : TurnsEnding) (new : ConnState) → HasTurns u position old ending new → Adds IsOfDrain old.past new.past
turns-add u position old ending new (is_idle c empty) = adds-nothing IsOfDrain c.past
turns-add u position old ending new (is_held c seq level cost e turn) = adds-nothing IsOfDrain c.past
turns-add u position old ending new (redacts c seq e turn) = turned-drains e seq outcomes.Redacted c
turns-add u position old ending new (goes c d other seq outcome e turn done rest) =
    adds-more IsOfDrain c.past (trace_after_turn e seq outcome c).past d.past (turned-drains e seq outcome c) (turns-add u position (trace_after_turn e seq outcome c) other d rest)

pub passes-add : (u : JudgeContext) (position : ℕ) (old new : ConnState) → IsPass u position old new → Adds IsOfDrain old.past new.past
passes-add u position old new (is_over p c end) = adds-nothing IsOfDrain c.past
passes-add u position old new (next p c between d within these rest) =
    adds-more IsOfDrain c.past between.past d.past (turns-add u p c at_rest between these) (passes-add u (p + 1) between d rest)
passes-add u position old new (begins_again p c between d within these rest) =
    adds-more IsOfDrain c.past between.past d.past (turns-add u p c again between these) (passes-add u 0 between d rest)

pub sends-add : (u : JudgeContext) (old new : ConnState) → HasSentSome u old new → Adds IsOfDrain old.past new.past
sends-add u old new (none c) = adds-nothing IsOfDrain c.past
sends-add u old new (one c between d seq bytes comes rest) =
    adds-more IsOfDrain c.past between.past d.past (sending-adds u c seq bytes between comes) (sends-add u between d rest)

pub begins-adds : (u : JudgeContext) (old new : ConnState) → HasPartlyDrained u old new → Adds IsOfDrain old.past new.past
begins-adds u old new begins =
    adds-more IsOfDrain old.past begins.between.past new.past (passes-add u 0 old begins.between begins.passes) (sends-add u begins.between new begins.sent)
