-- A call is accepted, an operation changes the engines, and the clock advances.
use Rattle.std.proofs.Common.{◌≡◌, ◌≢◌, ℕ, ◌+◌, ◌-◌, ◌<◌, ◌≤◌, max, zero, suc, Bool, true, false, not, cond, ◌&&◌}
use Rattle.std.proofs.Common.{◌==◌, if◌then◌else◌, List, [], ◌∷◌, ◌++◌, length, map, filter, set, insert}
use Rattle.std.proofs.Common.{remove, get_or, slice_get, refl, sym, ap, ◌∙◌, subst, arith}
use Rattle.std.specs.Prelude.{All, Contains, Option, Some, None}
use Rattle.std.specs.Str.{bytes_eq}
use Rattle.std.proofs.lemmas.Bool.{and_right, ne_eqb}
use Rattle.std.proofs.lemmas.List.Elements.{All-head, All-map, All-push, All-set, All-tail, All-weaker}
use Rattle.mrpc_table.specs.Valid.{AreDistinct}
use Rattle.mrpc_table.specs.declared.call.Call.{Call}
use Rattle.engine_core.specs.Answers.{Past, nothing, charged, drawn, counted}
use Rattle.engine_core.specs.Chains.{Chain, HasChanged, Entry, IsChain, changed, is_named, is_taken, names_of, new_entry, taken as taken_name, upgraded}
use Rattle.engine_core.specs.Engines.{EngineParts, chain_of_engines, clocked}
use Rattle.engine_core.specs.Marks.{IsTrueFor, PendingCall, note_of, past_of}
use Rattle.engine_core.specs.Policies.{initial_level, level_after_time, level_after_upgrade}
use Rattle.engine_core.specs.declared.op.Op.TheVariants.{Attach, Detach, Upgrade}
use Rattle.engine_core.specs.declared.policy.Policy.{Policy}
use Rattle.call_history.specs.Trace.{Trace, chain, converted, copied, filled, level_in_trace, timestamp, noted, noted_calls, policy_in_trace, taken, with_tree}
use Rattle.call_history.specs.Legal.{IsLegalPrefix}
use Rattle.call_history.specs.Rules.{JudgeContext}
use Rattle.call_history.specs.Ties.{AreTied, IsCallOfTrace, IsEngineOfTrace, IsNumberApart}
use Rattle.call_history.specs.declared.happening.Happening.TheVariants.{Took, Op, Moment, Charged, Drawn, Counted}
use Rattle.call_history.specs.declared.happening.AcceptedCall.{AcceptedCall}
use Rattle.call_history.specs.declared.happening.TookCopy.{TookCopy}
use Rattle.call_history.specs.declared.happening.TookCopy.TheVariants.{Copy, Malformed}
use Rattle.call_history.proofs.Accepting.{form-other}
use Rattle.call_history.proofs.Chained.{all-step}
use Rattle.call_history.proofs.GoingOn.{form-own, level-attached, level-attached_other, level-upgraded, level-upgraded_other, noted-attached, noted-attached_other}
use Rattle.call_history.proofs.Looking.{equal-name, other-name}
use Rattle.call_history.proofs.Prefixes.{StaysChain, chained, noted-few}
use Rattle.call_history.proofs.Tying.{All-at, All-insert, All-remove, contains-at, insert-map, named-in, policy-there, remove-map, replaced}

-- a call without a mark of an entry's attachment has true marks for the entry
abbrev pub TrueUnmarked : Type 0
TrueUnmarked = (e : Entry) (s : PendingCall) → note_of s.marks e.attach ≡ None → IsTrueFor e s

-- ---- a call is accepted

copied-number : (conn : ℕ) (call : AcceptedCall) (copy : TookCopy) (made : Call) → copied conn call copy ≡ Some made → made.seq ≡ call.seq
copied-number conn call (Copy tree) made is = let same : with_tree conn call tree ≡ made = cc in ap (λ (c : Call). c.seq) (sym same)
copied-number conn call (Malformed reason place value) made is = absurd cc

unnoted-one : (p : Past) (call seq : ℕ) (b : Bool) (calls : List ℕ) (rest : Past) → All (λ other. other ≢ seq) (cond b (call ∷ calls) calls)
    → (All (λ other. other ≢ seq) calls → rest ≡ nothing) → cond ((call == seq) && b) p rest ≡ nothing
unnoted-one p call seq true calls rest apart further =
    ap (λ t. cond (t && true) p rest) (ne_eqb call seq (All-head (λ other. other ≢ seq) call calls apart))
    ∙ further (All-tail (λ other. other ≢ seq) call calls apart)
unnoted-one p call seq false calls rest apart further =
    ap (λ t. cond t p rest) (and_right (call == seq) false refl) ∙ further apart

unnoted-new : (seq : ℕ) (b : Bool) (calls : List ℕ) (rest : Past) → All (λ other. other ≢ seq) (cond b [] calls)
    → (All (λ other. other ≢ seq) calls → rest ≡ nothing) → cond b nothing rest ≡ nothing
unnoted-new seq true calls rest apart further = refl
unnoted-new seq false calls rest apart further = further apart

-- nothing was noted of a call that no entry noted
unnoted : (past : Trace) (name : List ℕ) (seq : ℕ) → All (λ other. other ≢ seq) (noted_calls name past) → noted name seq past ≡ nothing
unnoted [] name seq apart = refl
unnoted (Op (Attach at other label policy) ∷ past) name seq apart = unnoted-new seq (bytes_eq other name) (noted_calls name past) (noted name seq past) apart (unnoted past name seq)
unnoted (Charged call other left ∷ past) name seq apart = unnoted-one charged call seq (bytes_eq other name) (noted_calls name past) (noted name seq past) apart (unnoted past name seq)
unnoted (Drawn call other window ticket ∷ past) name seq apart =
    unnoted-one (drawn ticket) call seq (bytes_eq other name) (noted_calls name past) (noted name seq past) apart
    (unnoted past name seq)
unnoted (Counted call other ∷ past) name seq apart = unnoted-one counted call seq (bytes_eq other name) (noted_calls name past) (noted name seq past) apart (unnoted past name seq)
unnoted (x ∷ past) name seq apart = unnoted past name seq apart

fresh : (u : JudgeContext) (past : Trace) (name : List ℕ) (seq : ℕ) → IsLegalPrefix u past → seq ≡ length (taken past) + 1 → noted name seq past ≡ nothing
fresh u past name seq prefix next = unnoted past name seq
    (All-weaker (λ other. other ≤ length (taken past)) (λ other. other ≢ seq) (λ other few same. omega arith) (noted_calls name past) (noted-few u past name prefix))

pub took-other : (conn : ℕ) (past : Trace) (es : List EngineParts) (n : ℕ) (calls : List PendingCall) (call : AcceptedCall) → AreTied conn past es n calls
    → IsNumberApart call.seq calls → AreTied conn (Took call ∷ past) es n calls
took-other conn past es n calls call ties apart = record {
  same_chain = ties.same_chain;
  engines_of_trace = λ k d inside. (let was = ties.engines_of_trace k d inside in record { level = was.level; last = was.last });
  calls_of_trace = λ k d inside. (let was = ties.calls_of_trace k d inside in record {
    is_form = form-other conn (get_or calls k d).call.seq past call (λ same. apart k d inside (sym same)) ∙ was.is_form;
    notes = was.notes;
    marked = was.marked;
    true_for = was.true_for;
  });
}

pub takes-on : TrueUnmarked → (u : JudgeContext) (past : Trace) (es : List EngineParts) (n : ℕ) (calls : List PendingCall) (call : AcceptedCall) (s : PendingCall) → IsLegalPrefix u past
    → AreTied u.conn past es n calls → IsNumberApart call.seq calls → call.seq ≡ length (taken past) + 1 → copied u.conn call call.copy ≡ Some s.call → s.marks ≡ []
    → AreTied u.conn (Took call ∷ past) es n (calls ++ s ∷ [])
takes-on unmarked u past es n calls call s prefix ties apart next is none =
    let others = took-other u.conn past es n calls call ties apart in
    record {
      same_chain = others.same_chain;
      engines_of_trace = others.engines_of_trace;
      calls_of_trace = All-push (IsCallOfTrace u.conn (Took call ∷ past) es n) calls s others.calls_of_trace own;
    }
  where
    number : s.call.seq ≡ call.seq
    number = copied-number u.conn call call.copy s.call is

    no-note : (attach : ℕ) → note_of s.marks attach ≡ None
    no-note attach = rw none refl

    own : IsCallOfTrace u.conn (Took call ∷ past) es n s
    own = record {
      is_form = form-own u.conn s.call.seq past call (sym number) ∙ is;
      notes = λ k d inside. (let gone = no-note (get_or es k d).entry.attach in rw gone (sym (fresh u past (get_or es k d).entry.name s.call.seq prefix (number ∙ next))));
      marked = λ attach above. no-note attach;
      true_for = λ k d inside. unmarked (get_or es k d).entry s (no-note (get_or es k d).entry.attach);
    }

-- ---- an entry is attached

pub attaches-on : TrueUnmarked → (conn : ℕ) (past : Trace) (es : List EngineParts) (n : ℕ) (calls : List PendingCall) (at : ℕ) (name label : List ℕ) (policy : Policy)
    → AreTied conn past es n calls → HasChanged (chain past) (Attach at name label policy) (changed (Attach at name label policy) (chain past))
    → AreTied conn (Op (Attach at name label policy) ∷ past)
    (insert es at (record { entry = new_entry name (n + 1) policy; level = initial_level policy; last = timestamp past })) (n + 1) calls
attaches-on unmarked conn past es n calls at name label policy ties changes = record {
  same_chain = same;
  engines_of_trace = All-insert (IsEngineOfTrace (Op (Attach at name label policy) ∷ past)) es at
      (record { entry = new_entry name (n + 1) policy; level = initial_level policy; last = timestamp past })
      (all-step (IsEngineOfTrace past) (IsEngineOfTrace (Op (Attach at name label policy) ∷ past)) es other-engine ties.engines_of_trace) own-engine;
  calls_of_trace = λ k d inside. call-kept (get_or calls k d) (ties.calls_of_trace k d inside);
}
  where
    entries : map (λ e. e.entry) es ≡ (chain past).entries
    entries = ap (λ (c : Chain). c.entries) ties.same_chain

    same : chain_of_engines (insert es at (record {
      entry = new_entry name (n + 1) policy;
      level = initial_level policy;
      last = timestamp past;
    })) (n + 1) ≡ chain (Op (Attach at name label policy) ∷ past)
    same = ap (λ (xs : List Entry). let c : Chain = record { entries = xs; attached = n + 1 } in c)
        (insert-map (λ (e : EngineParts). e.entry) es at (record { entry = new_entry name (n + 1) policy; level = initial_level policy; last = timestamp past }))
        ∙ ap (λ (c : Chain). changed (Attach at name label policy) c) ties.same_chain

    no-name : (e : EngineParts) → Contains es e → name ≢ e.entry.name
    no-name e has same = changes.free (taken_name name) (is_taken at name label policy refl
        (subst (λ (xs : List Entry). Contains (names_of xs) name) entries (subst (λ (m : List ℕ). Contains (names_of (map (λ e. e.entry) es)) m) (sym same) (named-in es e has))) refl)

    own-engine : IsEngineOfTrace (Op (Attach at name label policy) ∷ past) (record { entry = new_entry name (n + 1) policy; level = initial_level policy; last = timestamp past })
    own-engine = record { level = sym (level-attached past at name label policy); last = refl }

    other-engine : (e : EngineParts) → Contains es e → IsEngineOfTrace past e → IsEngineOfTrace (Op (Attach at name label policy) ∷ past) e
    other-engine e has was = record { level = was.level ∙ sym (level-attached_other past at name e.entry.name label policy (no-name e has)); last = was.last }

    call-kept : (s : PendingCall) → IsCallOfTrace conn past es n s
        → IsCallOfTrace conn (Op (Attach at name label policy) ∷ past)
        (insert es at (record {
          entry = new_entry name (n + 1) policy;
          level = initial_level policy;
          last = timestamp past;
        })) (n + 1) s
    call-kept s was =
        let none : note_of s.marks (n + 1) ≡ None = was.marked (n + 1) (omega arith) in
        record {
          is_form = was.is_form;
          notes = All-insert (λ e. past_of s.marks e.entry.attach ≡ noted e.entry.name s.call.seq (Op (Attach at name label policy) ∷ past)) es at
              (record { entry = new_entry name (n + 1) policy; level = initial_level policy; last = timestamp past })
              (all-step (λ e. past_of s.marks e.entry.attach ≡ noted e.entry.name s.call.seq past)
              (λ e. past_of s.marks e.entry.attach ≡ noted e.entry.name s.call.seq (Op (Attach at name label policy) ∷ past)) es
              (λ e has is. is ∙ sym (noted-attached_other past at s.call.seq name e.entry.name label policy (no-name e has))) was.notes)
              (rw none (sym (noted-attached past at s.call.seq name label policy)));
          marked = λ attach above. was.marked attach (omega (arith, above));
          true_for = All-insert (λ e. IsTrueFor e.entry s) es at (record { entry = new_entry name (n + 1) policy; level = initial_level policy; last = timestamp past })
              was.true_for (unmarked (new_entry name (n + 1) policy) s none);
        }

-- ---- the entry with a name is detached, or gets another policy

none-named : (name : List ℕ) (es : List Entry) → (Contains (names_of es) name → ⊥) → filter (λ e. not (is_named name e)) es ≡ es
none-named name [] none = refl
none-named name (x ∷ xs) none =
    let other : is_named name x ≡ false = other-name x.name name (λ same. none (0, omega arith, same)) in
    let rest = none-named name xs (λ has. none (suc has.0, omega (arith, has.1), has.2)) in
    rw (other, rest) refl

none-upgraded : (name : List ℕ) (policy : Policy) (es : List Entry) → (Contains (names_of es) name → ⊥)
    → map (λ e. if is_named name e then upgraded e policy else e) es ≡ es
none-upgraded name policy [] none = refl
none-upgraded name policy (x ∷ xs) none =
    let other : is_named name x ≡ false = other-name x.name name (λ same. none (0, omega arith, same)) in
    let rest = none-upgraded name policy xs (λ has. none (suc has.0, omega (arith, has.1), has.2)) in
    rw (other, rest) refl

names-at : (es : List EngineParts) (p : ℕ) (e : EngineParts) → slice_get es p ≡ Some e → Contains (names_of (map (λ e. e.entry) es)) e.entry.name
names-at es p e is = named-in es e (contains-at es p e is)

pub without-named : (name : List ℕ) (es : List EngineParts) (p : ℕ) (e : EngineParts) → AreDistinct (names_of (map (λ e. e.entry) es)) → slice_get es p ≡ Some e
    → e.entry.name ≡ name → filter (λ e. not (is_named name e)) (map (λ e. e.entry) es) ≡ remove (map (λ e. e.entry) es) p
without-named name [] p e apart is same = absurd cc
without-named name (x ∷ xs) zero e apart is same =
    let here : x ≡ e = cc in
    let there : x.entry.name ≡ name = ap (λ (e : EngineParts). e.entry.name) here ∙ same in
    let mine : is_named name x.entry ≡ true = equal-name x.entry.name name there in
    rw mine (none-named name (map (λ (e : EngineParts). e.entry) xs) (λ has. apart.0 (rw there has)))
without-named name (x ∷ xs) (suc p) e apart is same =
    let other : is_named name x.entry ≡ false = other-name x.entry.name name (λ mine. apart.0 (rw (mine ∙ sym same) (names-at xs p e is))) in
    let rest = without-named name xs p e apart.1 is same in
    rw other (ap (λ (ys : List Entry). x.entry ∷ ys) rest)

pub upgraded-named : (name : List ℕ) (policy : Policy) (es : List EngineParts) (p : ℕ) (e : EngineParts) → AreDistinct (names_of (map (λ e. e.entry) es))
    → slice_get es p ≡ Some e → e.entry.name ≡ name
    → map (λ e. if is_named name e then upgraded e policy else e) (map (λ e. e.entry) es) ≡ set (map (λ e. e.entry) es) p (upgraded e.entry policy)
upgraded-named name policy [] p e apart is same = absurd cc
upgraded-named name policy (x ∷ xs) zero e apart is same =
    let there : x ≡ e = cc in
    let named : x.entry.name ≡ name = ap (λ (e : EngineParts). e.entry.name) there ∙ same in
    let mine : is_named name x.entry ≡ true = equal-name x.entry.name name named in
    let rest = none-upgraded name policy (map (λ (e : EngineParts). e.entry) xs) (λ has. apart.0 (rw named has)) in
    rw (mine, rest) (ap (λ (e : EngineParts). upgraded e.entry policy ∷ map (λ (e : EngineParts). e.entry) xs) there)
upgraded-named name policy (x ∷ xs) (suc p) e apart is same =
    let other : is_named name x.entry ≡ false = other-name x.entry.name name (λ mine. apart.0 (rw (mine ∙ sym same) (names-at xs p e is))) in
    let rest = upgraded-named name policy xs p e apart.1 is same in
    rw other (ap (λ (ys : List Entry). x.entry ∷ ys) rest)

chain-there : (past : Trace) (es : List EngineParts) (n : ℕ) → chain_of_engines es n ≡ chain past → IsChain (chain past) → IsChain (chain_of_engines es n)
chain-there past es n same is = subst IsChain (sym same) is

pub detaches-on : StaysChain → (u : JudgeContext) (past : Trace) (es : List EngineParts) (n : ℕ) (calls : List PendingCall) (name : List ℕ) (p : ℕ) (e : EngineParts) → IsLegalPrefix u past
    → AreTied u.conn past es n calls → slice_get es p ≡ Some e → e.entry.name ≡ name → AreTied u.conn (Op (Detach name) ∷ past) (remove es p) n calls
detaches-on stays u past es n calls name p e prefix ties is same =
    let is_chain : IsChain (chain_of_engines es n) = chain-there past es n ties.same_chain (chained stays u past prefix) in
    record {
      same_chain =
          ap (λ (xs : List Entry). let c : Chain = record { entries = xs; attached = n } in c)
          (remove-map (λ (e : EngineParts). e.entry) es p ∙ sym (without-named name es p e is_chain.names is same))
          ∙ ap (λ (c : Chain). changed (Detach name) c) ties.same_chain;
      engines_of_trace = All-remove (IsEngineOfTrace (Op (Detach name) ∷ past)) es p
          (λ k d inside. (let was = ties.engines_of_trace k d inside in record { level = was.level; last = was.last }));
      calls_of_trace = λ k d inside. (let was = ties.calls_of_trace k d inside in record {
        is_form = was.is_form;
        notes = All-remove (λ e. past_of (get_or calls k d).marks e.entry.attach ≡ noted e.entry.name (get_or calls k d).call.seq past) es p was.notes;
        marked = was.marked;
        true_for = All-remove (λ e. IsTrueFor e.entry (get_or calls k d)) es p was.true_for;
      });
    }

map-set : {X Y : Type 0} (f : X → Y) (xs : List X) (p : ℕ) (x : X) → map f (set xs p x) ≡ set (map f xs) p (f x)
map-set f [] p x = refl
map-set f (z ∷ zs) zero x = refl
map-set {Y = Y} f (z ∷ zs) (suc p) x = ap (λ (ys : List Y). f z ∷ ys) (map-set f zs p x)

pub upgrades-on : StaysChain → (u : JudgeContext) (past : Trace) (es : List EngineParts) (n : ℕ) (calls : List PendingCall)
    (name label : List ℕ) (policy : Policy) (p : ℕ) (e e' : EngineParts)
    → IsLegalPrefix u past → AreTied u.conn past es n calls → slice_get es p ≡ Some e → e.entry.name ≡ name
    → e'.entry ≡ upgraded e.entry policy → e'.level ≡ level_after_upgrade e.entry.policy policy e.level → e'.last ≡ e.last
    → ((s : PendingCall) → IsTrueFor e.entry s → IsTrueFor e'.entry s)
    → AreTied u.conn (Op (Upgrade name label policy) ∷ past) (set es p e') n calls
upgrades-on stays u past es n calls name label policy p e e' prefix ties is same entry_is level_is last_is true_still = record {
  same_chain =
      ap (λ (xs : List Entry). let c : Chain = record { entries = xs; attached = n } in c)
      (map-set (λ (e : EngineParts). e.entry) es p e'
      ∙ (ap (λ (x : Entry). set (map (λ (e : EngineParts). e.entry) es) p x) entry_is
      ∙ sym (upgraded-named name policy es p e is_chain.names is same)))
      ∙ ap (λ (c : Chain). changed (Upgrade name label policy) c) ties.same_chain;
  engines_of_trace = replaced (IsEngineOfTrace past) (IsEngineOfTrace (Op (Upgrade name label policy) ∷ past)) es p e e' is_chain.names is_chain.attachments is own other ties.engines_of_trace;
  calls_of_trace = λ k d inside. call-kept (get_or calls k d) (ties.calls_of_trace k d inside);
}
  where
    is_chain : IsChain (chain_of_engines es n)
    is_chain = chain-there past es n ties.same_chain (chained stays u past prefix)

    old : IsEngineOfTrace past e
    old = All-at (IsEngineOfTrace past) es p e ties.engines_of_trace is

    there : policy_in_trace name past ≡ Some e.entry.policy
    there = subst (λ (m : List ℕ). policy_in_trace m past ≡ Some e.entry.policy) same (policy-there past es n e (chained stays u past prefix) ties.same_chain (contains-at es p e is))

    named : e'.entry.name ≡ name
    named = ap (λ (x : Entry). x.name) entry_is ∙ same

    own : IsEngineOfTrace (Op (Upgrade name label policy) ∷ past) e'
    own = record {
      level =
          level_is ∙ (ap (λ (l : ℕ). level_after_upgrade e.entry.policy policy l) (old.level ∙ ap (λ (m : List ℕ). level_in_trace m past) same)
          ∙ (ap (λ (found : Option Policy). converted found policy (level_in_trace name past)) (sym there)
          ∙ (sym (level-upgraded past name label policy) ∙ ap (λ (m : List ℕ). level_in_trace m (Op (Upgrade name label policy) ∷ past)) (sym named))));
      last = last_is ∙ old.last;
    }

    other : (x : EngineParts) → x.entry.name ≢ e.entry.name → x.entry.attach ≢ e.entry.attach → IsEngineOfTrace past x → IsEngineOfTrace (Op (Upgrade name label policy) ∷ past) x
    other x names attaches was = record {
      level = was.level ∙ sym (level-upgraded_other past name x.entry.name label policy (λ equal. names (sym equal ∙ sym same)));
      last = was.last;
    }

    call-kept : (s : PendingCall) → IsCallOfTrace u.conn past es n s → IsCallOfTrace u.conn (Op (Upgrade name label policy) ∷ past) (set es p e') n s
    call-kept s was = record {
      is_form = was.is_form;
      notes = All-set (λ e. past_of s.marks e.entry.attach ≡ noted e.entry.name s.call.seq past) es p e'
          (subst (λ (x : Entry). past_of s.marks x.attach ≡ noted x.name s.call.seq past) (sym entry_is)
          (All-at (λ e. past_of s.marks e.entry.attach ≡ noted e.entry.name s.call.seq past) es p e was.notes is)) was.notes;
      marked = was.marked;
      true_for = All-set (λ e. IsTrueFor e.entry s) es p e' (true_still s (All-at (λ e. IsTrueFor e.entry s) es p e was.true_for is)) was.true_for;
    }

-- ---- the clock advances

same-entries : (now : ℕ) (es : List EngineParts) → map (λ e. e.entry) (map (λ e. clocked now e) es) ≡ map (λ e. e.entry) es
same-entries now [] = refl
same-entries now (e ∷ es) = let rest = same-entries now es in cc

pub shows-on : StaysChain → (u : JudgeContext) (past : Trace) (es : List EngineParts) (n : ℕ) (calls : List PendingCall) (now : ℕ) → IsLegalPrefix u past → AreTied u.conn past es n calls
    → timestamp past < now → AreTied u.conn (Moment now ∷ past) (map (λ e. clocked now e) es) n calls
shows-on stays u past es n calls now prefix ties later = record {
  same_chain = ap (λ (xs : List Entry). let c : Chain = record { entries = xs; attached = n } in c) (same-entries now es) ∙ ties.same_chain;
  engines_of_trace = All-map (IsEngineOfTrace (Moment now ∷ past)) (λ (e : EngineParts). clocked now e) es
      (all-step (IsEngineOfTrace past) (λ e. IsEngineOfTrace (Moment now ∷ past) (clocked now e)) es engine-kept ties.engines_of_trace);
  calls_of_trace = λ k d inside. (let was = ties.calls_of_trace k d inside in record {
    is_form = was.is_form;
    notes = All-map (λ e. past_of (get_or calls k d).marks e.entry.attach ≡ noted e.entry.name (get_or calls k d).call.seq past) (λ (e : EngineParts). clocked now e) es was.notes;
    marked = was.marked;
    true_for = All-map (λ e. IsTrueFor e.entry (get_or calls k d)) (λ (e : EngineParts). clocked now e) es was.true_for;
  });
}
  where
    engine-kept : (e : EngineParts) → Contains es e → IsEngineOfTrace past e → IsEngineOfTrace (Moment now ∷ past) (clocked now e)
    engine-kept e has was = record {
      level =
          ap (λ (l : ℕ). level_after_time e.entry.policy l (now - e.last)) was.level
          ∙ (ap (λ (m : ℕ). level_after_time e.entry.policy (level_in_trace e.entry.name past) (now - m)) was.last
          ∙ ap (λ (found : Option Policy). filled found (now - timestamp past) (level_in_trace e.entry.name past))
          (sym (policy-there past es n e (chained stays u past prefix) ties.same_chain has)));
      last = ap (λ (m : ℕ). max m now) was.last ∙ omega (arith, later);
    }

pub leaves-on : (conn : ℕ) (past : Trace) (es : List EngineParts) (n : ℕ) (calls : List PendingCall) (place : ℕ) → AreTied conn past es n calls
    → AreTied conn past es n (remove calls place)
leaves-on conn past es n calls place ties = record {
  same_chain = ties.same_chain;
  engines_of_trace = ties.engines_of_trace;
  calls_of_trace = All-remove (IsCallOfTrace conn past es n) calls place ties.calls_of_trace;
}
