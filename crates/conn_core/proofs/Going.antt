-- A timestamp, a rejected submission, a send, and a failure of the link: levels, marks and forms still agree.
use Rattle.std.proofs.Common.{◌≡◌, ℕ, ◌+◌, ◌-◌, ◌<◌, List, [], ◌∷◌, ◌++◌, get_or, map, reverse, slice_get, suc, take}
use Rattle.std.proofs.Common.{zero, add-one, refl, ap, sym, ◌∙◌, subst, arith}
use Rattle.std.specs.Prelude.{All, Some}
use Rattle.std.proofs.lemmas.List.{append_assoc, append-nil}
use Rattle.std.proofs.lemmas.List.Elements.{All-nil, All-tail, All-map}
use Rattle.engine_core.specs.Chains.{Chain, Entry, IsChain}
use Rattle.engine_core.specs.Engines.{EngineParts, clocked}
use Rattle.engine_core.specs.Marks.{PendingCall, past_of, seqs_of}
use Rattle.engine_core.specs.Policies.{level_after_time}
use Rattle.chain_upgrade.specs.Chains.{ChainParts, chain_of_state}
use Rattle.call_history.specs.Trace.{Trace, chain, filled, form, level_in_trace, timestamp, noted, policy_in_trace, taken}
use Rattle.call_history.specs.Transitions.{refused_for_link}
use Rattle.call_history.specs.declared.happening.Cause.TheVariants as cause
use Rattle.call_history.specs.declared.happening.Happening.{Happening}
use Rattle.call_history.specs.declared.happening.Happening.TheVariants.{Away, Moment, Refused, Sent}
use Rattle.call_history.specs.declared.happening.AcceptedCall.{AcceptedCall}
use Rattle.conn_core.specs.Invariant.{failure_events}
use Rattle.conn_core.proofs.Apart.{all-policies}
use Rattle.conn_core.proofs.Fitting.{Fits}
use Rattle.conn_core.proofs.Lists.{all-both, all-of-map}
use Rattle.conn_core.proofs.Told.{behind-one}

-- ---- a rejected submission

pub fits-away : (conn method number addr : ℕ) (past : Trace) (c : ChainParts) → Fits conn past c
    → Fits conn (Away method number addr ∷ past) c
fits-away conn method number addr past c fits =
    record {
      same_chain = fits.same_chain;
      levels = fits.levels;
      moments = fits.moments;
      notes = fits.notes;
      forms = fits.forms;
    }

-- ---- a timestamp

same-engines : (now : ℕ) (engines : List EngineParts)
    → map (λ e. e.entry) (map (λ e. clocked now e) engines) ≡ map (λ e. e.entry) engines
same-engines now [] = refl
same-engines now (e ∷ engines) = ap (λ es. e.entry ∷ es) (same-engines now engines)

-- a level that time fills
clocked-level : (now : ℕ) (past : Trace) (e : EngineParts) → e.level ≡ level_in_trace e.entry.name past → e.last ≡ timestamp past
    → policy_in_trace e.entry.name past ≡ Some e.entry.policy
    → (clocked now e).level ≡ level_in_trace e.entry.name (Moment now ∷ past)
clocked-level now past e level-is last-is policy-is =
    ap (λ l. level_after_time e.entry.policy l (now - e.last)) level-is ∙ ap (λ m.
    level_after_time e.entry.policy (level_in_trace e.entry.name past) (now - m)) last-is
    ∙ ap (λ p. filled p (now - timestamp past) (level_in_trace e.entry.name past)) (sym policy-is)

pub fits-clocked : (conn now : ℕ) (past : Trace) (c c' : ChainParts) → Fits conn past c → IsChain (chain past)
    → timestamp past < now
    → c'.engines ≡ map (λ e. clocked now e) c.engines → c'.attached ≡ c.attached → c'.calls ≡ c.calls
    → Fits conn (Moment now ∷ past) c'
fits-clocked conn now past c c' fits is-chain later engines attached calls =
    let entries : map (λ (e : EngineParts). e.entry) c'.engines ≡ map (λ (e : EngineParts). e.entry) c.engines =
    ap (map (λ (e : EngineParts). e.entry)) engines ∙ same-engines now c.engines in
    let same : chain_of_state c' ≡ chain_of_state c = ap (λ es. record {
      entries = es;
      attached = c'.attached;
    }) entries ∙ ap (λ n. record {
      entries = (chain_of_state c).entries;
      attached = n;
    }) attached in
    let policies : All (λ (e : EngineParts). policy_in_trace e.entry.name past ≡ Some e.entry.policy) c.engines =
    all-of-map (λ (e : EngineParts). e.entry) (λ (y : Entry). policy_in_trace y.name past ≡ Some y.policy) c.engines
    (subst (λ (ch : Chain). All (λ (y : Entry). policy_in_trace y.name past ≡ Some y.policy) ch.entries) (sym fits.same_chain)
    (all-policies past is-chain)) in
    let over : (P : Entry → Type 0) → All (λ (e : EngineParts). P e.entry) c.engines
    → All (λ (e : EngineParts). P e.entry) c'.engines = λ P all.
    all-of-map (λ (e : EngineParts). e.entry) P c'.engines
    (subst (All P) (sym entries) (All-map P (λ (e : EngineParts). e.entry) c.engines all)) in record {
      same_chain = same ∙ fits.same_chain;
      levels = subst (All (λ (e : EngineParts). e.level ≡ level_in_trace e.entry.name (Moment now ∷ past))) (sym engines)
          (All-map (λ (e : EngineParts). e.level ≡ level_in_trace e.entry.name (Moment now ∷ past))
          (λ (e : EngineParts). clocked now e) c.engines
          (all-both (λ (e : EngineParts). (e.level ≡ level_in_trace e.entry.name past)
          × (e.last ≡ timestamp past)) (λ (e : EngineParts). policy_in_trace e.entry.name past ≡ Some e.entry.policy)
          (λ (e : EngineParts). (clocked now e).level ≡ level_in_trace e.entry.name (Moment now ∷ past)) (λ e both policy.
          clocked-level now past e both.0 both.1 policy) c.engines
          (all-both (λ (e : EngineParts). e.level ≡ level_in_trace e.entry.name past) (λ (e : EngineParts). e.last
          ≡ timestamp past) (λ (e : EngineParts). (e.level ≡ level_in_trace e.entry.name past) × (e.last ≡ timestamp past))
          (λ e a b. (a, b)) c.engines fits.levels fits.moments) policies));
      moments = subst (All (λ (e : EngineParts). e.last ≡ now)) (sym engines)
          (All-map (λ (e : EngineParts). e.last ≡ now) (λ (e : EngineParts). clocked now e) c.engines
          (λ k d within. let last = fits.moments k d within in omega (arith, last, later)));
      notes = subst (All (λ (s : PendingCall). All (λ (e : EngineParts). past_of s.marks e.entry.attach
          ≡ noted e.entry.name s.call.seq past) c'.engines)) (sym calls)
          (λ k d within. over (λ (y : Entry). past_of (get_or c.calls k d).marks y.attach
          ≡ noted y.name (get_or c.calls k d).call.seq past) (fits.notes k d within));
      forms = subst (All (λ (s : PendingCall). form conn s.call.seq past ≡ Some s.call)) (sym calls) fits.forms;
    }

-- ---- a send

pub fits-sent : (conn seq bytes : ℕ) (past : Trace) (c c' : ChainParts) (s : PendingCall) → Fits conn past c
    → c.calls ≡ s ∷ c'.calls → c'.engines ≡ c.engines
    → c'.attached ≡ c.attached → Fits conn (Sent seq bytes ∷ past) c'
fits-sent conn seq bytes past c c' s fits calls engines attached = record {
  same_chain = ap (λ es. record { entries = map (λ (e : EngineParts). e.entry) es; attached = c'.attached }) engines
      ∙ ap (λ n. record {
        entries = map (λ (e : EngineParts). e.entry) c.engines;
        attached = n;
      }) attached ∙ fits.same_chain;
  levels = subst (All (λ (e : EngineParts). e.level ≡ level_in_trace e.entry.name past)) (sym engines) fits.levels;
  moments = subst (All (λ (e : EngineParts). e.last ≡ timestamp past)) (sym engines) fits.moments;
  notes = subst (λ (es : List EngineParts). All
      (λ (t : PendingCall). All (λ (e : EngineParts). past_of t.marks e.entry.attach
      ≡ noted e.entry.name t.call.seq past) es) c'.calls) (sym engines)
      (All-tail (λ (t : PendingCall). All (λ (e : EngineParts). past_of t.marks e.entry.attach
      ≡ noted e.entry.name t.call.seq past) c.engines) s c'.calls
      (subst (All (λ (t : PendingCall). All (λ (e : EngineParts). past_of t.marks e.entry.attach
      ≡ noted e.entry.name t.call.seq past) c.engines)) calls fits.notes));
  forms = All-tail (λ (t : PendingCall). form conn t.call.seq past ≡ Some t.call) s c'.calls
      (subst (All (λ (t : PendingCall). form conn t.call.seq past ≡ Some t.call)) calls fits.forms);
}

-- ---- a failure of the link

pub failure-is : (calls : List PendingCall) (ts : List AcceptedCall) (h : List Happening)
    → seqs_of calls ≡ map (λ t. t.seq) ts
    → reverse (h ++ failure_events calls) ≡ refused_for_link ts (reverse h)
failure-is [] [] h same = ap reverse (append-nil h)
failure-is [] (t ∷ ts) h same = absurd cc
failure-is (s ∷ calls) [] h same = absurd cc
failure-is (s ∷ calls) (t ∷ ts) h same =
    let number : s.call.seq ≡ t.seq = cc in
    let rest : seqs_of calls ≡ map (λ (t : AcceptedCall). t.seq) ts = cc in
    ap reverse (sym (append_assoc h (Refused s.call.seq cause.Transport ∷ []) (failure_events calls)))
    ∙ failure-is calls ts (h ++ Refused s.call.seq cause.Transport ∷ []) rest
    ∙ ap (refused_for_link ts)
    (behind-one h (Refused s.call.seq cause.Transport) ∙ ap (λ (n : ℕ). Refused n cause.Transport
    ∷ reverse h) number)

pub level-failed : (name : List ℕ) (ts : List AcceptedCall) (past : Trace)
    → level_in_trace name (refused_for_link ts past) ≡ level_in_trace name past
level-failed name [] past = refl
level-failed name (t ∷ ts) past = level-failed name ts (Refused t.seq cause.Transport ∷ past)

pub moment-failed : (ts : List AcceptedCall) (past : Trace) → timestamp (refused_for_link ts past) ≡ timestamp past
moment-failed [] past = refl
moment-failed (t ∷ ts) past = moment-failed ts (Refused t.seq cause.Transport ∷ past)

pub chain-failed : (ts : List AcceptedCall) (past : Trace) → chain (refused_for_link ts past) ≡ chain past
chain-failed [] past = refl
chain-failed (t ∷ ts) past = chain-failed ts (Refused t.seq cause.Transport ∷ past)

pub taken-failed : (ts : List AcceptedCall) (past : Trace) → taken (refused_for_link ts past) ≡ taken past
taken-failed [] past = refl
taken-failed (t ∷ ts) past = taken-failed ts (Refused t.seq cause.Transport ∷ past)

pub fits-failed : (conn : ℕ) (ts : List AcceptedCall) (past : Trace) (c : ChainParts) → Fits conn past c
    → Fits conn (refused_for_link ts past) (record c { calls = []; row = [] })
fits-failed conn ts past c fits = record {
  same_chain = fits.same_chain ∙ sym (chain-failed ts past);
  levels = λ k d within. fits.levels k d within ∙ sym (level-failed (get_or c.engines k d).entry.name ts past);
  moments = λ k d within. fits.moments k d within ∙ sym (moment-failed ts past);
  notes = All-nil (λ (s : PendingCall). All (λ (e : EngineParts). past_of s.marks e.entry.attach
      ≡ noted e.entry.name s.call.seq (refused_for_link ts past)) c.engines);
  forms = All-nil (λ (s : PendingCall). form conn s.call.seq (refused_for_link ts past) ≡ Some s.call);
}

failure-suc : (calls : List PendingCall) (i : ℕ) (s : PendingCall) → slice_get calls i ≡ Some s
    → failure_events (take (suc i) calls) ≡ failure_events (take i calls) ++ Refused s.call.seq cause.Transport ∷ []
failure-suc [] i s is = absurd cc
failure-suc (x ∷ calls) zero s is = let same : x ≡ s =
    cc in ap (λ (t : PendingCall). Refused t.call.seq cause.Transport ∷ []) same
failure-suc (x ∷ calls) (suc i) s is =
    ap (λ (h : List Happening). Refused x.call.seq cause.Transport ∷ h) (failure-suc calls i s is)

pub failure-more : (calls : List PendingCall) (i : ℕ) (s : PendingCall) → slice_get calls i ≡ Some s
    → failure_events (take (i + 1) calls) ≡ failure_events (take i calls) ++ Refused s.call.seq cause.Transport ∷ []
failure-more calls i s is = rw add-one (failure-suc calls i s is)
