-- The outcome of an entry's turn for a call implies the entry's answer, by the trace.
use Rattle.std.proofs.Common.{◌≡◌, ◌≢◌, ℕ, add-one, ◌+◌, ◌<◌, ◌≤◌, zero, suc, List, [], ◌∷◌, map, take, set}
use Rattle.std.proofs.Common.{slice_get, refl, sym, ap, ◌∙◌, subst, arith}
use Rattle.std.specs.Prelude.{All, IsSomeAnd, Option, Some, None}
use Rattle.std.proofs.lemmas.List.Elements.{All-cons, All-head, All-nil, All-set, All-tail}
use Rattle.mrpc_table.specs.Calls.{IsCallOf}
use Rattle.mrpc_table.specs.declared.call.Call.{Call}
use Rattle.mrpc_table.specs.declared.table.Table.{Table}
use Rattle.engine_core.specs.Answers.{Past, drawn, Answer, pass, note, ticket_in, IsEntryAnswer, allows, denies}
use Rattle.engine_core.specs.Answers.{was_charged, charges, holds, refuses, is_within, is_over, draws, was_counted}
use Rattle.engine_core.specs.Answers.{counts, is_clear, redacts}
use Rattle.engine_core.specs.Chains.{Chain, Entry}
use Rattle.engine_core.specs.Engines.{EngineParts, chain_of_engines}
use Rattle.engine_core.specs.Marks.{IsTrueFor, PendingCall, note_of, past_of, seqs_of}
use Rattle.engine_core.specs.Turns.{IsTurnOutcome, form_after, passes, is_noted_and_passes, is_held, is_refused, is_noted_and_refused, is_redacted}
use Rattle.engine_core.specs.Working.{HasWorked}
use Rattle.engine_core.specs.declared.outcome.Noted.{Noted}
use Rattle.engine_core.specs.declared.outcome.Noted.TheVariants.{Nothing, Charged, Drawn, Counted}
use Rattle.engine_core.specs.declared.outcome.Outcome.{Outcome}
use Rattle.engine_core.specs.declared.outcome.Outcome.TheVariants.{Passed, Held, Refused, Redacted}
use Rattle.engine_core.specs.declared.outcome.Why.{Why}
use Rattle.engine_core.specs.declared.policy.Policy.{Policy}
use Rattle.engine_core.specs.declared.policy.Policy.TheVariants.{Access, Rate, Quota, Count, Redact}
use Rattle.call_history.specs.Trace.{Trace, chain, form, level_in_trace, timestamp, noted}
use Rattle.call_history.specs.Legal.{IsLegalPrefix}
use Rattle.call_history.specs.Rules.{IsAnswerInTrace, IsAllowedInTrace, JudgeContext}
use Rattle.call_history.specs.Ties.{AreNumbersApart, AreTied, IsCallOfTrace, IsEngineOfTrace, IsNumberApart, AreTiedAfterTurn, worked}
use Rattle.audit_rules.specs.Asking.{HasPassedFirst, answer_of}

-- ---- lists

pub All-at : {X : Type 0} (P : X → Type 0) (xs : List X) (p : ℕ) (x : X) → All P xs → slice_get xs p ≡ Some x → P x
All-at P [] p x all is = absurd cc
All-at P (z ∷ zs) zero x all is = let there : z ≡ x = cc in rw (sym there) (All-head P z zs all)
All-at P (z ∷ zs) (suc p) x all is = All-at P zs p x (All-tail P z zs all) is

pub same-map : {X Y : Type 0} (f : X → Y) (xs : List X) (p : ℕ) (x y : X) → slice_get xs p ≡ Some x → f y ≡ f x → map f (set xs p y) ≡ map f xs
same-map f [] p x y is same = refl
same-map f (z ∷ zs) zero x y is same = let there : z ≡ x = cc in cc
same-map f (z ∷ zs) (suc p) x y is same = let rest = same-map f zs p x y is same in cc

pub map-at : {X Y : Type 0} (f : X → Y) (xs : List X) (p : ℕ) (x : X) → slice_get xs p ≡ Some x → slice_get (map f xs) p ≡ Some (f x)
map-at f [] p x is = absurd cc
map-at {Y = Y} f (z ∷ zs) zero x is = let there : z ≡ x = cc in ap (λ (y : Y). Some y) (ap f there)
map-at f (z ∷ zs) (suc p) x is = map-at f zs p x is

pub lets-more : {X : Type 0} (P : X → Type 0) (xs : List X) (p : ℕ) (x : X) → slice_get xs p ≡ Some x → P x → All P (take p xs) → All P (take (suc p) xs)
lets-more P [] p x is own all = absurd cc
lets-more P (z ∷ zs) zero x is own all = let there : z ≡ x = cc in All-cons P z [] (rw there own) (All-nil P)
lets-more P (z ∷ zs) (suc p) x is own all = All-cons P z (take (suc p) zs) (All-head P z (take p zs) all) (lets-more P zs p x is own (All-tail P z (take p zs) all))

pub lets-not : {X : Type 0} (P : X → Type 0) (xs : List X) (p m : ℕ) (x : X) → slice_get xs p ≡ Some x → p < m → All P (take m xs) → P x
lets-not P [] p m x is less all = absurd cc
lets-not P (z ∷ zs) p zero x is less all = absurd (omega arith)
lets-not P (z ∷ zs) zero (suc m) x is less all = let there : z ≡ x = cc in rw (sym there) (All-head P z (take m zs) all)
lets-not P (z ∷ zs) (suc p) (suc m) x is less all = lets-not P zs p m x is (omega arith) (All-tail P z (take m zs) all)

-- ---- answers

no-note : (policy : Policy) (level_in_trace timestamp : ℕ) (form : Call) (past : Past) → IsEntryAnswer policy level_in_trace timestamp form past (note Nothing) → ⊥
no-note policy level_in_trace timestamp form past (allows p is allow answer) = cc
no-note policy level_in_trace timestamp form past (denies p is allow answer) = cc
no-note policy level_in_trace timestamp form past (was_charged r is some answer) = cc
no-note policy level_in_trace timestamp form past (charges r is none enough answer) = cc
no-note policy level_in_trace timestamp form past (holds r is none less mode answer) = cc
no-note policy level_in_trace timestamp form past (refuses r is none less mode answer) = cc
no-note policy level_in_trace timestamp form past (is_within tenant per cap ticket is some less answer) = cc
no-note policy level_in_trace timestamp form past (is_over tenant per cap ticket is some more answer) = cc
no-note policy level_in_trace timestamp form past (draws tenant per cap ticket is none answer) = cc
no-note policy level_in_trace timestamp form past (was_counted is some answer) = cc
no-note policy level_in_trace timestamp form past (counts is none answer) = cc
no-note policy level_in_trace timestamp form past (is_clear clears is left answer) = cc
no-note policy level_in_trace timestamp form past (redacts clears is other answer) = cc

passed-note : (policy : Policy) (level_in_trace timestamp : ℕ) (form : Call) (past : Past) (n : Noted) → IsEntryAnswer policy level_in_trace timestamp form past (note n)
    → IsEntryAnswer policy level_in_trace timestamp form past (answer_of (Passed n))
passed-note policy level_in_trace timestamp form past Nothing answers = absurd (no-note policy level_in_trace timestamp form past answers)
passed-note policy level_in_trace timestamp form past (Charged left) answers = answers
passed-note policy level_in_trace timestamp form past (Drawn window ticket) answers = answers
passed-note policy level_in_trace timestamp form past Counted answers = answers

refused-note : (policy : Policy) (level_in_trace timestamp : ℕ) (form : Call) (past : Past) (n : Noted) (why : Why) → IsEntryAnswer policy level_in_trace timestamp form past (note n)
    → IsEntryAnswer policy level_in_trace timestamp form past (answer_of (Refused n why))
refused-note policy level_in_trace timestamp form past Nothing why answers = absurd (no-note policy level_in_trace timestamp form past answers)
refused-note policy level_in_trace timestamp form past (Charged left) why answers = answers
refused-note policy level_in_trace timestamp form past (Drawn window ticket) why answers = answers
refused-note policy level_in_trace timestamp form past Counted why answers = answers

-- the answer that comes first in a turn is the entry's
pub comes-answer : (policy : Policy) (level_in_trace timestamp : ℕ) (form : Call) (past : Past) (outcome : Outcome) → IsTurnOutcome policy level_in_trace timestamp form past outcome
    → IsEntryAnswer policy level_in_trace timestamp form past (answer_of outcome)
comes-answer policy level_in_trace timestamp form past outcome (passes answers is) = subst (λ (o : Outcome). IsEntryAnswer policy level_in_trace timestamp form past (answer_of o)) (sym is) answers
comes-answer policy level_in_trace timestamp form past outcome (is_noted_and_passes n answers then_passes is) =
    subst (λ (o : Outcome). IsEntryAnswer policy level_in_trace timestamp form past (answer_of o)) (sym is) (passed-note policy level_in_trace timestamp form past n answers)
comes-answer policy level_in_trace timestamp form past outcome (is_held left cost answers is) = subst (λ (o : Outcome). IsEntryAnswer policy level_in_trace timestamp form past (answer_of o)) (sym is) answers
comes-answer policy level_in_trace timestamp form past outcome (is_refused why answers is) = subst (λ (o : Outcome). IsEntryAnswer policy level_in_trace timestamp form past (answer_of o)) (sym is) answers
comes-answer policy level_in_trace timestamp form past outcome (is_noted_and_refused n why answers then_refused is) =
    subst (λ (o : Outcome). IsEntryAnswer policy level_in_trace timestamp form past (answer_of o)) (sym is) (refused-note policy level_in_trace timestamp form past n why answers)
comes-answer policy level_in_trace timestamp form past outcome (is_redacted answers is) = subst (λ (o : Outcome). IsEntryAnswer policy level_in_trace timestamp form past (answer_of o)) (sym is) answers

-- if a ticket is to be drawn, the entry has no other answer
undrawn : (policy : Policy) (level_in_trace timestamp tenant per cap : ℕ) (form : Call) (past : Past) (a : Answer) → policy ≡ Quota tenant per cap
    → ((t : ℕ) → past ≢ drawn t) → IsEntryAnswer policy level_in_trace timestamp form past a → ticket_in a ≡ None → ⊥
undrawn policy level_in_trace timestamp tenant per cap form past a quota none (allows p is allow answer) no_ticket = cc
undrawn policy level_in_trace timestamp tenant per cap form past a quota none (denies p is allow answer) no_ticket = cc
undrawn policy level_in_trace timestamp tenant per cap form past a quota none (was_charged r is some answer) no_ticket = cc
undrawn policy level_in_trace timestamp tenant per cap form past a quota none (charges r is nothing_yet enough answer) no_ticket = cc
undrawn policy level_in_trace timestamp tenant per cap form past a quota none (holds r is nothing_yet less mode answer) no_ticket = cc
undrawn policy level_in_trace timestamp tenant per cap form past a quota none (refuses r is nothing_yet less mode answer) no_ticket = cc
undrawn policy level_in_trace timestamp tenant per cap form past a quota none (is_within t p c ticket is some less answer) no_ticket = none ticket some
undrawn policy level_in_trace timestamp tenant per cap form past a quota none (is_over t p c ticket is some more answer) no_ticket = none ticket some
undrawn policy level_in_trace timestamp tenant per cap form past a quota none (draws t p c ticket is none_yet answer) no_ticket =
    let wrong : Some ticket ≡ None = sym (ap ticket_in answer) ∙ no_ticket in cc
undrawn policy level_in_trace timestamp tenant per cap form past a quota none (was_counted is some answer) no_ticket = cc
undrawn policy level_in_trace timestamp tenant per cap form past a quota none (counts is nothing_yet answer) no_ticket = cc
undrawn policy level_in_trace timestamp tenant per cap form past a quota none (is_clear clears is left answer) no_ticket = cc
undrawn policy level_in_trace timestamp tenant per cap form past a quota none (redacts clears is other answer) no_ticket = cc

pub no-draw : (policy : Policy) (level_in_trace timestamp : ℕ) (form : Call) (past : Past) (a b : Answer) → IsEntryAnswer policy level_in_trace timestamp form past a → ticket_in a ≡ None
    → IsEntryAnswer policy level_in_trace timestamp form past b → ticket_in b ≡ None
no-draw policy level_in_trace timestamp form past a b gives no_ticket (allows p is allow answer) = ap ticket_in answer
no-draw policy level_in_trace timestamp form past a b gives no_ticket (denies p is allow answer) = ap ticket_in answer
no-draw policy level_in_trace timestamp form past a b gives no_ticket (was_charged r is some answer) = ap ticket_in answer
no-draw policy level_in_trace timestamp form past a b gives no_ticket (charges r is none enough answer) = ap ticket_in answer
no-draw policy level_in_trace timestamp form past a b gives no_ticket (holds r is none less mode answer) = ap ticket_in answer
no-draw policy level_in_trace timestamp form past a b gives no_ticket (refuses r is none less mode answer) = ap ticket_in answer
no-draw policy level_in_trace timestamp form past a b gives no_ticket (is_within t p c ticket is some less answer) = ap ticket_in answer
no-draw policy level_in_trace timestamp form past a b gives no_ticket (is_over t p c ticket is some more answer) = ap ticket_in answer
no-draw policy level_in_trace timestamp form past a b gives no_ticket (draws tenant per cap ticket is none answer) =
    absurd (undrawn policy level_in_trace timestamp tenant per cap form past a is none gives no_ticket)
no-draw policy level_in_trace timestamp form past a b gives no_ticket (was_counted is some answer) = ap ticket_in answer
no-draw policy level_in_trace timestamp form past a b gives no_ticket (counts is none answer) = ap ticket_in answer
no-draw policy level_in_trace timestamp form past a b gives no_ticket (is_clear clears is left answer) = ap ticket_in answer
no-draw policy level_in_trace timestamp form past a b gives no_ticket (redacts clears is other answer) = ap ticket_in answer

-- an entry has one answer to a call, apart from the ticket of a draw
abbrev pub OneAnswer : Type 0
OneAnswer = (policy : Policy) (level_in_trace timestamp : ℕ) (form : Call) (past : Past) (a b : Answer) → IsEntryAnswer policy level_in_trace timestamp form past a
    → IsEntryAnswer policy level_in_trace timestamp form past b → ticket_in a ≡ ticket_in b → a ≡ b

same-answer : OneAnswer → (policy : Policy) (level_in_trace timestamp : ℕ) (form : Option Call) (past : Past) (a b : Answer) → ticket_in a ≡ None
    → IsSomeAnd form (λ call. IsEntryAnswer policy level_in_trace timestamp call past a) → IsSomeAnd form (λ call. IsEntryAnswer policy level_in_trace timestamp call past b) → a ≡ b
same-answer one policy level_in_trace timestamp None past a b no_ticket gives_a gives_b = absurd gives_a
same-answer one policy level_in_trace timestamp (Some call) past a b no_ticket gives_a gives_b =
    one policy level_in_trace timestamp call past a b gives_a gives_b (no_ticket ∙ sym (no-draw policy level_in_trace timestamp call past a b gives_a no_ticket gives_b))

pub one-gives : OneAnswer → (u : JudgeContext) (past : Trace) (e : Entry) (seq : ℕ) (a b : Answer) → ticket_in a ≡ None → IsAnswerInTrace u past e seq a → IsAnswerInTrace u past e seq b → a ≡ b
one-gives one u past e seq a b no_ticket gives_a gives_b =
    same-answer one e.policy (level_in_trace e.name past) (timestamp past) (form u.conn seq past) (noted e.name seq past) a b no_ticket gives_a gives_b

-- ---- a turn

true-same : (e : Entry) (s t : PendingCall) → t.call ≡ s.call → note_of t.marks e.attach ≡ note_of s.marks e.attach → IsTrueFor e s → IsTrueFor e t
true-same e s t calls marks was = record {
  silent = rw marks was.silent;
  present = λ version allowed. was.present version (rw marks at allowed);
  allowing = λ allowed. rw calls (was.allowing (rw marks at allowed));
}

module _ (es : List EngineParts) (calls : List PendingCall) (p j now : ℕ) (outcome : Outcome) (es' : List EngineParts) (calls' : List PendingCall)
    (w : HasWorked es calls p j now outcome es' calls') where
  pub entries-same : map (λ e. e.entry) es' ≡ map (λ e. e.entry) es
  entries-same = ap (λ (xs : List EngineParts). map (λ e. e.entry) xs) w.others ∙ same-map (λ (e : EngineParts). e.entry) es p w.engine w.engine' w.is_engine w.leaves_engine.entry

  same-seq : (outcome : Outcome) (policy : Policy) (call : Call) → (form_after outcome policy call).seq ≡ call.seq
  same-seq (Passed n) policy call = refl
  same-seq (Held level_in_trace cost) policy call = refl
  same-seq (Refused n why) policy call = refl
  same-seq Redacted (Access p) call = refl
  same-seq Redacted (Rate r) call = refl
  same-seq Redacted (Quota tenant per cap) call = refl
  same-seq Redacted Count call = refl
  same-seq Redacted (Redact clears) call = refl

  pub numbers-same : seqs_of calls' ≡ seqs_of calls
  numbers-same = ap (λ (xs : List PendingCall). seqs_of xs) w.other_calls ∙ same-map (λ (s : PendingCall). s.call.seq) calls j w.call w.call' w.is_call
      (ap (λ (call : Call). call.seq) w.leaves_call.form ∙ same-seq outcome w.engine.entry.policy w.call.call)

  pub of-table : (T : Table) → All (λ s. IsCallOf T s.call) calls → All (λ s. IsCallOf T s.call) calls'
  of-table T all = subst (λ (xs : List PendingCall). All (λ s. IsCallOf T s.call) xs) (sym w.other_calls)
      (All-set (λ (s : PendingCall). IsCallOf T s.call) calls j w.call' (w.leaves_call.fits T (All-at (λ (s : PendingCall). IsCallOf T s.call) calls j w.call all w.is_call)) all)

  -- the entry of the turn is the one of the chain at this position
  pub entry-at : (past : Trace) (n : ℕ) → chain_of_engines es n ≡ chain past → slice_get (chain past).entries p ≡ Some w.engine.entry
  entry-at past n same = subst (λ (c : Chain). slice_get c.entries p ≡ Some w.engine.entry) same (map-at (λ (e : EngineParts). e.entry) es p w.engine w.is_engine)

  pub turn-gives : (u : JudgeContext) (past : Trace) (n seq : ℕ) → AreTied u.conn past es n calls → now ≡ timestamp past → slice_get (seqs_of calls) j ≡ Some seq
      → IsAnswerInTrace u past w.engine.entry seq (answer_of outcome)
  turn-gives u past n seq ties shows there =
      let own : IsCallOfTrace u.conn past es n w.call = All-at (IsCallOfTrace u.conn past es n) calls j w.call ties.calls_of_trace w.is_call in
      let engine : IsEngineOfTrace past w.engine = All-at (IsEngineOfTrace past) es p w.engine ties.engines_of_trace w.is_engine in
      let number : w.call.call.seq ≡ seq = cc (map-at (λ (s : PendingCall). s.call.seq) calls j w.call w.is_call, there) in
      let kept : note_of w.met.marks w.engine.entry.attach ≡ note_of w.call.marks w.engine.entry.attach =
      All-at (λ (e : EngineParts). note_of w.met.marks e.entry.attach ≡ note_of w.call.marks e.entry.attach) es p w.engine w.keeps.kept w.is_engine in
      let true_met : IsTrueFor w.engine.entry w.met =
      true-same w.engine.entry w.call w.met w.keeps.call kept (All-at (λ (e : EngineParts). IsTrueFor e.entry w.call) es p w.engine own.true_for w.is_engine) in
      let answers = comes-answer w.engine.entry.policy w.engine.level now w.met.call (past_of w.met.marks w.engine.entry.attach) outcome (w.turn.comes true_met.allowing) in
      let noted_is : past_of w.met.marks w.engine.entry.attach ≡ noted w.engine.entry.name w.call.call.seq past =
      rw kept (All-at (λ (e : EngineParts). past_of w.call.marks e.entry.attach ≡ noted e.entry.name w.call.call.seq past) es p w.engine own.notes w.is_engine) in
      let behind : IsEntryAnswer w.engine.entry.policy (level_in_trace w.engine.entry.name past) (timestamp past) w.call.call (noted w.engine.entry.name w.call.call.seq past) (answer_of outcome) =
      subst (λ (l : ℕ). IsEntryAnswer w.engine.entry.policy l (timestamp past) w.call.call (noted w.engine.entry.name w.call.call.seq past) (answer_of outcome)) engine.level
      (subst (λ (m : ℕ). IsEntryAnswer w.engine.entry.policy w.engine.level m w.call.call (noted w.engine.entry.name w.call.call.seq past) (answer_of outcome)) shows
      (subst (λ (q : Past). IsEntryAnswer w.engine.entry.policy w.engine.level now w.call.call q (answer_of outcome)) noted_is
      (subst (λ (call : Call). IsEntryAnswer w.engine.entry.policy w.engine.level now call (past_of w.met.marks w.engine.entry.attach) (answer_of outcome)) w.keeps.call answers))) in
      subst (λ (s : ℕ). IsAnswerInTrace u past w.engine.entry s (answer_of outcome)) number
      (subst (λ (f : Option Call).
      IsSomeAnd f (λ call. IsEntryAnswer w.engine.entry.policy (level_in_trace w.engine.entry.name past) (timestamp past) call
      (noted w.engine.entry.name w.call.call.seq past) (answer_of outcome)))
      (sym own.is_form) behind)

  pub turn-ties : AreTiedAfterTurn → (u : JudgeContext) (past : Trace) (n : ℕ) → IsLegalPrefix u past → AreTied u.conn past es n calls → AreNumbersApart calls → outcome ≡ Passed Nothing
      → AreTied u.conn past es' n calls'
  turn-ties law u past n prefix ties apart is = subst (λ (o : Outcome). AreTied u.conn (worked w.engine.entry w.call.call.seq o past) es' n calls') is
      (law u past es n calls p j now outcome es' calls' prefix ties apart w)

  pub turn-lets : (u : JudgeContext) (past : Trace) (n seq : ℕ) → AreTied u.conn past es n calls → now ≡ timestamp past → slice_get (seqs_of calls) j ≡ Some seq
      → outcome ≡ Passed Nothing → HasPassedFirst u past seq p → HasPassedFirst u past seq (p + 1)
  turn-lets u past n seq ties shows there is lets = rw add-one (lets-more (IsAllowedInTrace u past seq) (chain past).entries p w.engine.entry (entry-at past n ties.same_chain)
      (subst (λ (o : Outcome). IsAnswerInTrace u past w.engine.entry seq (answer_of o)) is (turn-gives u past n seq ties shows there)) lets)

  pub turn-stops : OneAnswer → (u : JudgeContext) (past : Trace) (n seq at : ℕ) → AreTied u.conn past es n calls → now ≡ timestamp past → slice_get (seqs_of calls) j ≡ Some seq
      → answer_of outcome ≢ pass → p < at → HasPassedFirst u past seq at → ⊥
  turn-stops one u past n seq at ties shows there other less lets = other (sym (one-gives one u past w.engine.entry seq pass (answer_of outcome) refl
      (lets-not (IsAllowedInTrace u past seq) (chain past).entries p at w.engine.entry (entry-at past n ties.same_chain) less lets) (turn-gives u past n seq ties shows there)))

-- ---- numbers

number-apart-same : (seq : ℕ) (calls calls' : List PendingCall) → seqs_of calls' ≡ seqs_of calls → IsNumberApart seq calls → IsNumberApart seq calls'
number-apart-same seq calls [] same apart = All-nil (λ s. s.call.seq ≢ seq)
number-apart-same seq [] (s' ∷ calls') same apart = absurd cc
number-apart-same seq (s ∷ calls) (s' ∷ calls') same apart =
    let here : s'.call.seq ≡ s.call.seq = cc in
    let rest : seqs_of calls' ≡ seqs_of calls = cc in
    All-cons (λ s. s.call.seq ≢ seq) s' calls' (λ is. All-head (λ s. s.call.seq ≢ seq) s calls apart (sym here ∙ is))
    (number-apart-same seq calls calls' rest (All-tail (λ s. s.call.seq ≢ seq) s calls apart))

pub apart-same : (calls calls' : List PendingCall) → seqs_of calls' ≡ seqs_of calls → AreNumbersApart calls → AreNumbersApart calls'
apart-same calls [] same apart = tt
apart-same [] (s' ∷ calls') same apart = absurd cc
apart-same (s ∷ calls) (s' ∷ calls') same apart =
    let here : s.call.seq ≡ s'.call.seq = cc in
    let rest : seqs_of calls' ≡ seqs_of calls = cc in
    (subst (λ (n : ℕ). IsNumberApart n calls') here (number-apart-same s.call.seq calls calls' rest apart.0), apart-same calls calls' rest apart.1)

pub lets-less : {X : Type 0} (P : X → Type 0) (xs : List X) (p m : ℕ) → p ≤ m → All P (take m xs) → All P (take p xs)
lets-less P [] zero m le all = All-nil P
lets-less P [] (suc p) m le all = All-nil P
lets-less P (z ∷ zs) zero m le all = All-nil P
lets-less P (z ∷ zs) (suc p) zero le all = absurd (omega arith)
lets-less P (z ∷ zs) (suc p) (suc m) le all = All-cons P z (take p zs) (All-head P z (take m zs) all) (lets-less P zs p m (omega arith) (All-tail P z (take m zs) all))
