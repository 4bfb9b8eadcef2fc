-- An engine works on a call: its note, its clears and its charge agree with the trace after the turn.
use Rattle.std.proofs.Common.{◌≡◌, ◌≢◌, ℕ, ◌<◌, ◌≤◌, inl, inr, List, [], ◌∷◌, length, map, get_or, refl, sym, ap, ◌∙◌, subst, arith}
use Rattle.std.specs.Prelude.{All, Contains, Option, Some, None, option_map}
use Rattle.std.proofs.lemmas.List.Elements.{All-set, Contains-get_or}
use Rattle.mrpc_table.specs.Valid.{AreDistinct}
use Rattle.mrpc_table.specs.declared.call.Call.{Call}
use Rattle.engine_core.specs.Answers.{Past, past_after, level_after_note}
use Rattle.engine_core.specs.Chains.{Chain, Entry, IsChain, attachments_of}
use Rattle.engine_core.specs.Engines.{EngineParts, chain_of_engines}
use Rattle.engine_core.specs.Marks.{HasMarksUpTo, IsTrueFor, PendingCall, note_of, past_of}
use Rattle.engine_core.specs.Turns.{form_after, noted_in}
use Rattle.engine_core.specs.Working.{HasWorked}
use Rattle.engine_core.specs.declared.outcome.Noted.{Noted}
use Rattle.engine_core.specs.declared.outcome.Noted.TheVariants as notes
use Rattle.engine_core.specs.declared.outcome.Outcome.{Outcome}
use Rattle.engine_core.specs.declared.outcome.Outcome.TheVariants.{Passed, Held, Refused, Redacted}
use Rattle.engine_core.specs.declared.policy.Policy.{Policy}
use Rattle.engine_core.specs.declared.policy.Policy.TheVariants.{Access, Rate, Quota, Count, Redact}
use Rattle.call_history.specs.Trace.{Trace, chain, form, level_in_trace, timestamp, noted, policy_in_trace, redacted}
use Rattle.call_history.specs.Transitions.{with_note}
use Rattle.call_history.specs.Ties.{AreNumbersApart, AreTied, IsCallOfTrace, IsEngineOfTrace, worked}
use Rattle.call_history.specs.declared.happening.Happening.TheVariants as what
use Rattle.call_history.proofs.Further.{contains-cases}
use Rattle.call_history.proofs.GoingOn.{form-cleared, level-charged, level-charged_other, noted-charged, noted-drawn, noted-counted}
use Rattle.call_history.proofs.Noting.{charge-note, draw-note, count-note, noted-call, noted-name}
use Rattle.call_history.proofs.Redacting.{form-others}
use Rattle.call_history.proofs.Tying.{All-at, contains-at, contains-map, policy-there, replaced, replaced-call, same-map}

-- ---- the trace after a turn

-- how a note changes levels and notes
record IsNoted (past new : Trace) (name : List ℕ) (seq : ℕ) (n : Noted) : Type 0 where
  chain_same : chain new ≡ chain past
  moment_same : timestamp new ≡ timestamp past
  form_same : (conn s : ℕ) → form conn s new ≡ form conn s past
  level_own : level_in_trace name new ≡ level_after_note n (level_in_trace name past)
  level_other : (other : List ℕ) → name ≢ other → level_in_trace other new ≡ level_in_trace other past
  noted_own : noted name seq new ≡ past_after n (noted name seq past)
  noted_call : (other : List ℕ) (s : ℕ) → seq ≢ s → noted other s new ≡ noted other s past
  noted_name : (other : List ℕ) (s : ℕ) → name ≢ other → noted other s new ≡ noted other s past

is-noted : (past : Trace) (name : List ℕ) (seq : ℕ) (n : Noted) → IsNoted past (with_note name seq n past) name seq n
is-noted past name seq notes.Nothing = record {
  chain_same = refl;
  moment_same = refl;
  form_same = λ conn s. refl;
  level_own = refl;
  level_other = λ other apart. refl;
  noted_own = refl;
  noted_call = λ other s apart. refl;
  noted_name = λ other s apart. refl;
}
is-noted past name seq (notes.Charged left) = record {
  chain_same = refl;
  moment_same = refl;
  form_same = λ conn s. refl;
  level_own = level-charged past seq left name;
  level_other = λ other apart. level-charged_other past seq left name other apart;
  noted_own = noted-charged past seq left name;
  noted_call = λ other s apart. noted-call past (what.Charged seq name left ∷ past) seq s name other (notes.Charged left) (charge-note past seq name left) apart;
  noted_name = λ other s apart. noted-name past (what.Charged seq name left ∷ past) seq s name other (notes.Charged left) (charge-note past seq name left) apart;
}
is-noted past name seq (notes.Drawn window ticket) = record {
  chain_same = refl;
  moment_same = refl;
  form_same = λ conn s. refl;
  level_own = refl;
  level_other = λ other apart. refl;
  noted_own = noted-drawn past seq window ticket name;
  noted_call = λ other s apart. noted-call past (what.Drawn seq name window ticket ∷ past) seq s name other (notes.Drawn window ticket) (draw-note past seq name window ticket) apart;
  noted_name = λ other s apart. noted-name past (what.Drawn seq name window ticket ∷ past) seq s name other (notes.Drawn window ticket) (draw-note past seq name window ticket) apart;
}
is-noted past name seq notes.Counted = record {
  chain_same = refl;
  moment_same = refl;
  form_same = λ conn s. refl;
  level_own = refl;
  level_other = λ other apart. refl;
  noted_own = noted-counted past seq name;
  noted_call = λ other s apart. noted-call past (what.Counted seq name ∷ past) seq s name other notes.Counted (count-note past seq name) apart;
  noted_name = λ other s apart. noted-name past (what.Counted seq name ∷ past) seq s name other notes.Counted (count-note past seq name) apart;
}

-- how a turn changes levels, notes and forms
record IsWorked (past new : Trace) (e : Entry) (seq : ℕ) (outcome : Outcome) : Type 0 where
  chain_same : chain new ≡ chain past
  moment_same : timestamp new ≡ timestamp past
  level_own : level_in_trace e.name new ≡ level_after_note (noted_in outcome) (level_in_trace e.name past)
  level_other : (other : List ℕ) → e.name ≢ other → level_in_trace other new ≡ level_in_trace other past
  noted_own : noted e.name seq new ≡ past_after (noted_in outcome) (noted e.name seq past)
  noted_call : (other : List ℕ) (s : ℕ) → seq ≢ s → noted other s new ≡ noted other s past
  noted_name : (other : List ℕ) (s : ℕ) → e.name ≢ other → noted other s new ≡ noted other s past
  form_call : (conn s : ℕ) → seq ≢ s → form conn s new ≡ form conn s past
  form_own : (conn : ℕ) (call : Call) → policy_in_trace e.name past ≡ Some e.policy → form conn seq past ≡ Some call
      → form conn seq new ≡ Some (form_after outcome e.policy call)

noted-worked : (past new : Trace) (e : Entry) (seq : ℕ) (outcome : Outcome) → IsNoted past new e.name seq (noted_in outcome)
    → ((call : Call) → form_after outcome e.policy call ≡ call) → IsWorked past new e seq outcome
noted-worked past new e seq outcome is kept = record {
  chain_same = is.chain_same;
  moment_same = is.moment_same;
  level_own = is.level_own;
  level_other = is.level_other;
  noted_own = is.noted_own;
  noted_call = is.noted_call;
  noted_name = is.noted_name;
  form_call = λ conn s apart. is.form_same conn s;
  form_own = λ conn call there was. is.form_same conn seq ∙ (was ∙ ap (λ (c : Call). Some c) (sym (kept call)));
}

cleared-form : (policy : Policy) (call : Call) → redacted (Some policy) call ≡ form_after Redacted policy call
cleared-form (Access p) call = refl
cleared-form (Rate r) call = refl
cleared-form (Quota tenant per cap) call = refl
cleared-form Count call = refl
cleared-form (Redact clears) call = refl

is-worked : (past : Trace) (e : Entry) (seq : ℕ) (outcome : Outcome) → IsWorked past (worked e seq outcome past) e seq outcome
is-worked past e seq (Passed n) = noted-worked past (with_note e.name seq n past) e seq (Passed n) (is-noted past e.name seq n) (λ call. refl)
is-worked past e seq (Held left cost) = noted-worked past past e seq (Held left cost) (is-noted past e.name seq notes.Nothing) (λ call. refl)
is-worked past e seq (Refused n why) = noted-worked past (with_note e.name seq n past) e seq (Refused n why) (is-noted past e.name seq n) (λ call. refl)
is-worked past e seq Redacted = record {
  chain_same = refl;
  moment_same = refl;
  level_own = refl;
  level_other = λ other apart. refl;
  noted_own = refl;
  noted_call = λ other s apart. refl;
  noted_name = λ other s apart. refl;
  form_call = λ conn s apart. form-others conn seq s e.version e.name past apart;
  form_own = λ conn call there was.
      form-cleared conn seq e.version e.name past
      ∙ (ap (λ (f : Option Call). option_map (redacted (policy_in_trace e.name past)) f) was
      ∙ (ap (λ (p : Option Policy). Some (redacted p call)) there ∙ ap (λ (c : Call). Some c) (cleared-form e.policy call)));
}

-- ---- marks

true-same : (e : Entry) (s t : PendingCall) → t.call ≡ s.call → note_of t.marks e.attach ≡ note_of s.marks e.attach → IsTrueFor e s → IsTrueFor e t
true-same e s t calls marks holds = record {
  silent = rw marks holds.silent;
  present = λ version allowed. holds.present version (rw marks at allowed);
  allowing = λ allowed. rw calls (holds.allowing (rw marks at allowed));
}

same-seq : (outcome : Outcome) (policy : Policy) (call : Call) → (form_after outcome policy call).seq ≡ call.seq
same-seq (Passed n) policy call = refl
same-seq (Held level_in_trace cost) policy call = refl
same-seq (Refused n why) policy call = refl
same-seq Redacted (Access p) call = refl
same-seq Redacted (Rate r) call = refl
same-seq Redacted (Quota tenant per cap) call = refl
same-seq Redacted Count call = refl
same-seq Redacted (Redact clears) call = refl

attached-apart : (es : List Entry) (n : ℕ) (e : Entry) → All (λ attach. attach ≤ n) (attachments_of es) → Contains es e → e.attach ≤ n
attached-apart es n e all has =
    let there : Contains (attachments_of es) e.attach = contains-map (λ (e : Entry). e.attach) es e has in
    subst (λ (k : ℕ). k ≤ n) there.2 (all there.0 e.attach there.1)

-- an attachment belongs to one entry
same-by : {X Y : Type 0} (f : X → Y) (xs : List X) (a b : X) → AreDistinct (map f xs) → Contains xs a → Contains xs b → f a ≡ f b → a ≡ b
same-by f [] a b apart has_a has_b same = absurd (omega (arith, has_a.1))
same-by {Y = Y} f (x ∷ xs) a b apart has_a has_b same = elim (contains-cases x xs a has_a) [
  | inl is_a ↦ elim (contains-cases x xs b has_b) [
    | inl is_b ↦ sym is_a ∙ is_b
    | inr in_b ↦ absurd (apart.0 (subst (λ (y : Y). Contains (map f xs) y) (sym same ∙ ap f (sym is_a)) (contains-map f xs b in_b)))
  ]
  | inr in_a ↦ elim (contains-cases x xs b has_b) [
    | inl is_b ↦ absurd (apart.0 (subst (λ (y : Y). Contains (map f xs) y) (same ∙ ap f (sym is_b)) (contains-map f xs a in_a)))
    | inr in_b ↦ same-by f xs a b apart.1 in_a in_b same
  ]
]

-- ---- engines and calls after a turn

module _ (conn : ℕ) (past : Trace) (es : List EngineParts) (n : ℕ) (calls : List PendingCall) (p j now : ℕ) (outcome : Outcome) (es' : List EngineParts)
    (calls' : List PendingCall) (chained : IsChain (chain past)) (ties : AreTied conn past es n calls) (apart : AreNumbersApart calls)
    (w : HasWorked es calls p j now outcome es' calls') where
  entry : Entry
  entry = w.engine.entry

  new : Trace
  new = worked w.engine.entry w.call.call.seq outcome past

  is : IsWorked past (worked w.engine.entry w.call.call.seq outcome past) w.engine.entry w.call.call.seq outcome
  is = is-worked past w.engine.entry w.call.call.seq outcome

  own-chain : IsChain (chain_of_engines es n)
  own-chain = subst IsChain (sym ties.same_chain) chained

  its-ties : IsCallOfTrace conn past es n w.call
  its-ties = All-at (IsCallOfTrace conn past es n) calls j w.call ties.calls_of_trace w.is_call

  same-entries : map (λ e. e.entry) es' ≡ map (λ e. e.entry) es
  same-entries = ap (λ (xs : List EngineParts). map (λ e. e.entry) xs) w.others ∙ same-map (λ (e : EngineParts). e.entry) es p w.engine w.engine' w.is_engine w.leaves_engine.entry

  -- what holds of the entry of each engine still does
  entries-kept : (P : Entry → Type 0) → All (λ e. P e.entry) es → All (λ e. P e.entry) es'
  entries-kept P all = subst (λ (xs : List EngineParts). All (λ e. P e.entry) xs) (sym w.others)
      (All-set (λ (e : EngineParts). P e.entry) es p w.engine' (subst P (sym w.leaves_engine.entry) (All-at (λ (e : EngineParts). P e.entry) es p w.engine all w.is_engine)) all)

  chain-kept : chain_of_engines es' n ≡ chain (worked w.engine.entry w.call.call.seq outcome past)
  chain-kept = ap (λ (xs : List Entry). let c : Chain = record { entries = xs; attached = n } in c) same-entries ∙ (ties.same_chain ∙ sym is.chain_same)

  engines-kept : All (IsEngineOfTrace (worked w.engine.entry w.call.call.seq outcome past)) es'
  engines-kept = subst (λ (xs : List EngineParts). All (IsEngineOfTrace (worked w.engine.entry w.call.call.seq outcome past)) xs) (sym w.others)
      (replaced (IsEngineOfTrace past) (IsEngineOfTrace (worked w.engine.entry w.call.call.seq outcome past)) es p w.engine w.engine'
      own-chain.names own-chain.attachments w.is_engine own others ties.engines_of_trace)
    where
      old : IsEngineOfTrace past w.engine
      old = All-at (IsEngineOfTrace past) es p w.engine ties.engines_of_trace w.is_engine

      own : IsEngineOfTrace (worked w.engine.entry w.call.call.seq outcome past) w.engine'
      own = record {
        level =
            w.leaves_engine.level
            ∙ (ap (λ (l : ℕ). level_after_note (noted_in outcome) l) old.level
            ∙ (sym is.level_own ∙ ap (λ (e : Entry). level_in_trace e.name (worked w.engine.entry w.call.call.seq outcome past)) (sym w.leaves_engine.entry)));
        last = w.leaves_engine.last ∙ (old.last ∙ sym is.moment_same);
      }

      others : (x : EngineParts) → x.entry.name ≢ w.engine.entry.name → x.entry.attach ≢ w.engine.entry.attach → IsEngineOfTrace past x
          → IsEngineOfTrace (worked w.engine.entry w.call.call.seq outcome past) x
      others x names attaches was = record {
        level = was.level ∙ sym (is.level_other x.entry.name (λ same. names (sym same)));
        last = was.last ∙ sym is.moment_same;
      }

  -- a call that the turn didn't work on
  other-kept : (s : PendingCall) → s.call.seq ≢ w.call.call.seq → IsCallOfTrace conn past es n s
      → IsCallOfTrace conn (worked w.engine.entry w.call.call.seq outcome past) es' n s
  other-kept s apart was = record {
    is_form = is.form_call conn s.call.seq (λ same. apart (sym same)) ∙ was.is_form;
    notes = entries-kept (λ (e : Entry). past_of s.marks e.attach ≡ noted e.name s.call.seq (worked w.engine.entry w.call.call.seq outcome past))
        (λ k d inside. was.notes k d inside ∙ sym (is.noted_call (get_or es k d).entry.name s.call.seq (λ same. apart (sym same))));
    marked = was.marked;
    true_for = entries-kept (λ (e : Entry). IsTrueFor e s) was.true_for;
  }

  -- the call that it worked on

  number-kept : w.call'.call.seq ≡ w.call.call.seq
  number-kept = ap (λ (call : Call). call.seq) w.leaves_call.form ∙ same-seq outcome w.engine.entry.policy w.call.call

  met-kept : (k : ℕ) (d : EngineParts) → k < length es → past_of w.met.marks (get_or es k d).entry.attach ≡ noted (get_or es k d).entry.name w.call.call.seq past
  met-kept k d inside = let kept = w.keeps.kept k d inside in rw kept (its-ties.notes k d inside)

  met-at : past_of w.met.marks w.engine.entry.attach ≡ noted w.engine.entry.name w.call.call.seq past
  met-at = All-at (λ (e : EngineParts). past_of w.met.marks e.entry.attach ≡ noted e.entry.name w.call.call.seq past) es p w.engine met-kept w.is_engine

  true-met : (k : ℕ) (d : EngineParts) → k < length es → IsTrueFor (get_or es k d).entry w.met
  true-met k d inside = true-same (get_or es k d).entry w.call w.met w.keeps.call (w.keeps.kept k d inside) (its-ties.true_for k d inside)

  entry-in : Contains (map (λ e. e.entry) es) w.engine.entry
  entry-in = contains-map (λ (e : EngineParts). e.entry) es w.engine (contains-at es p w.engine w.is_engine)

  true-left : (k : ℕ) (d : EngineParts) → k < length es → IsTrueFor (get_or es k d).entry w.call'
  true-left k d inside = w.leaves_marks.stays_true (get_or es k d).entry
      (same-by (λ (e : Entry). e.attach) (map (λ (e : EngineParts). e.entry) es) (get_or es k d).entry w.engine.entry own-chain.attachments
      (contains-map (λ (e : EngineParts). e.entry) es (get_or es k d) (Contains-get_or es k d inside)) entry-in)
      (true-met k d inside)

  marked-left : HasMarksUpTo n w.call'
  marked-left attach above =
      let own : w.engine.entry.attach ≤ n = attached-apart (map (λ (e : EngineParts). e.entry) es) n w.engine.entry own-chain.numbered entry-in in
      let other : attach ≢ w.engine.entry.attach = λ same. omega arith in
      let none : note_of w.met.marks attach ≡ None = w.keeps.none attach (its-ties.marked attach above) in
      w.leaves_marks.others_none attach other none

  silent-met : IsTrueFor w.engine.entry w.met
  silent-met = All-at (λ (e : EngineParts). IsTrueFor e.entry w.met) es p w.engine true-met w.is_engine

  notes-left : All (λ e. past_of w.call'.marks e.entry.attach ≡ noted e.entry.name w.call.call.seq (worked w.engine.entry w.call.call.seq outcome past)) es'
  notes-left = subst
      (λ (xs : List EngineParts).
      All (λ e. past_of w.call'.marks e.entry.attach ≡ noted e.entry.name w.call.call.seq
      (worked w.engine.entry w.call.call.seq outcome past)) xs) (sym w.others)
      (replaced (λ e. past_of w.met.marks e.entry.attach ≡ noted e.entry.name w.call.call.seq past)
      (λ e. past_of w.call'.marks e.entry.attach ≡ noted e.entry.name w.call.call.seq (worked w.engine.entry w.call.call.seq outcome past)) es p w.engine w.engine'
      own-chain.names own-chain.attachments w.is_engine own others met-kept)
    where
      own-entry : past_of w.call'.marks w.engine.entry.attach ≡ noted w.engine.entry.name w.call.call.seq (worked w.engine.entry w.call.call.seq outcome past)
      own-entry = w.leaves_marks.noted silent-met.silent ∙ (ap (λ (was : Past). past_after (noted_in outcome) was) met-at ∙ sym is.noted_own)

      own : past_of w.call'.marks w.engine'.entry.attach ≡ noted w.engine'.entry.name w.call.call.seq (worked w.engine.entry w.call.call.seq outcome past)
      own = subst (λ (e : Entry). past_of w.call'.marks e.attach ≡ noted e.name w.call.call.seq (worked w.engine.entry w.call.call.seq outcome past)) (sym w.leaves_engine.entry) own-entry

      others : (x : EngineParts) → x.entry.name ≢ w.engine.entry.name → x.entry.attach ≢ w.engine.entry.attach
          → past_of w.met.marks x.entry.attach ≡ noted x.entry.name w.call.call.seq past
          → past_of w.call'.marks x.entry.attach ≡ noted x.entry.name w.call.call.seq (worked w.engine.entry w.call.call.seq outcome past)
      others x names attaches was = w.leaves_marks.others x.entry.attach attaches ∙ (was ∙ sym (is.noted_name x.entry.name w.call.call.seq (λ same. names (sym same))))

  call-kept : IsCallOfTrace conn (worked w.engine.entry w.call.call.seq outcome past) es' n w.call'
  call-kept = record {
    is_form = subst (λ (k : ℕ). form conn k (worked w.engine.entry w.call.call.seq outcome past) ≡ Some w.call'.call) (sym number-kept)
        (is.form_own conn w.call.call (policy-there past es n w.engine chained ties.same_chain (contains-at es p w.engine w.is_engine)) its-ties.is_form
        ∙ ap (λ (c : Call). Some c) (sym w.leaves_call.form));
    notes = subst (λ (k : ℕ).
        All (λ e. past_of w.call'.marks e.entry.attach
        ≡ noted e.entry.name k (worked w.engine.entry w.call.call.seq outcome past)) es')
        (sym number-kept) notes-left;
    marked = marked-left;
    true_for = entries-kept (λ (e : Entry). IsTrueFor e w.call') true-left;
  }

  pub tied-worked : AreTied conn (worked w.engine.entry w.call.call.seq outcome past) es' n calls'
  tied-worked = record {
    same_chain = chain-kept;
    engines_of_trace = engines-kept;
    calls_of_trace = subst (λ (xs : List PendingCall). All (IsCallOfTrace conn (worked w.engine.entry w.call.call.seq outcome past) es' n) xs) (sym w.other_calls)
        (replaced-call (IsCallOfTrace conn past es n) (IsCallOfTrace conn (worked w.engine.entry w.call.call.seq outcome past) es' n) calls j w.call w.call' apart w.is_call
        call-kept other-kept ties.calls_of_trace);
  }
