-- An operation: levels, marks and forms still agree with the trace, and the indices of operations with the
-- engines.
use Rattle.std.proofs.Common.{◌≡◌, ℕ, ◌+◌, zero, suc, Bool, true, false, cond, List, [], ◌∷◌, ◌++◌, length, map, set}
use Rattle.std.proofs.Common.{take, drop, insert, remove, get_or, slice_get, refl, ap, sym, ◌∙◌, subst, arith}
use Rattle.std.proofs.Common.{add-one}
use Rattle.std.specs.Prelude.{All, Contains, Some}
use Rattle.std.specs.List.{AllZip}
use Rattle.std.proofs.lemmas.List.{get_or_append_left, get_or_push, length_push, map-append, map-set, take-map}
use Rattle.std.proofs.lemmas.List.Elements.{All-set}
use Rattle.std.proofs.lemmas.Slice.Eq.{bytes_eq-Decides}
use Rattle.mrpc_table.specs.Valid.{AreDistinct}
use Rattle.engine_core.specs.Chains.{Chain, HasChanged, Entry, IsChain, IsChangeOf, attaches, detaches, upgrades, changed, is_named, is_taken, names_of, new_entry, taken, upgraded}
use Rattle.engine_core.specs.Engines.{EngineParts}
use Rattle.engine_core.specs.Marks.{PendingCall, past_by, past_of}
use Rattle.engine_core.specs.Moves.{position_of}
use Rattle.engine_core.specs.Policies.{initial_level, level_after_upgrade}
use Rattle.engine_core.specs.declared.op.Op.{Op as Step}
use Rattle.engine_core.specs.declared.op.Op.TheVariants.{Attach, Detach, Upgrade}
use Rattle.engine_core.specs.declared.policy.Policy.{Policy}
use Rattle.chain_upgrade.specs.Chains.{ChainParts, IsChainState, chain_of_state}
use Rattle.call_history.specs.Trace.{Trace, chain, converted, form, level_in_trace, timestamp, noted, policy_in_trace}
use Rattle.call_history.specs.declared.happening.Happening.TheVariants.{Op}
use Rattle.conn_core.specs.Invariant.{IsChanged, IsPolicyOp, HasSetPolicy, op_indices_after}
use Rattle.conn_core.proofs.Apart.{policy-at}
use Rattle.conn_core.proofs.Fitting.{Fits}
use Rattle.conn_core.proofs.Lists.{all-at, all-insert, all-others, all-remove, all-set, map-at, map-map, zip-insert, zip-remove, zip-set, zip-weaker}
use Rattle.conn_core.proofs.Told.{equal-name, level-attached, level-attached_other, level-upgraded, level-upgraded_other, noted-attached, noted-attached_other}

-- the chain after an operation is `changed`
abbrev pub ChangesOnly : Type 0
ChangesOnly = (before after : Chain) (op : Step) → IsChain before → HasChanged before op after → after ≡ changed op before

pub same-chain : ChangesOnly → (conn now : ℕ) (past : Trace) (step : Step) (c c' : ChainParts) → Fits conn past c
    → IsChainState c → IsChanged step now c c' → chain_of_state c' ≡ chain (Op step ∷ past)
same-chain only conn now past step c c' fits stands h =
    only (chain_of_state c) (chain_of_state c') step stands.stands.chain h.changes ∙ ap (changed step) fits.same_chain

-- ---- an attachment

new-name : (at : ℕ) (name label : List ℕ) (policy : Policy) (c : ChainParts) (after : Chain)
    → HasChanged (chain_of_state c) (Attach at name label policy) after
    → Contains (map (λ e. e.entry.name) c.engines) name → ⊥
new-name at name label policy c after h has =
    h.free (taken name) (is_taken at name label policy refl
    (subst (λ ns. Contains ns name) (sym (map-map (λ (e : EngineParts). e.entry) (λ (y : Entry). y.name) c.engines))
    has) refl)

fits-attached : ChangesOnly
    → (conn now at : ℕ) (name label : List ℕ) (policy : Policy) (past : Trace) (c c' : ChainParts) → Fits conn past c
    → IsChainState c
    → IsChanged (Attach at name label policy) now c c' → now ≡ timestamp past
    → Fits conn (Op (Attach at name label policy) ∷ past) c'
fits-attached only conn now at name label policy past c c' fits stands h latest =
    let new : EngineParts = record {
      entry = new_entry name (c.attached + 1) policy;
      level = initial_level policy;
      last = now;
    } in
    let past' : Trace = Op (Attach at name label policy) ∷ past in
    let none = new-name at name label policy c (chain_of_state c') h.changes in record {
      same_chain = same-chain only conn now past (Attach at name label policy) c c' fits stands h;
      levels = subst (All (λ (e : EngineParts). e.level ≡ level_in_trace e.entry.name past')) (sym h.engines)
          (all-insert (λ (e : EngineParts). e.level ≡ level_in_trace e.entry.name past') c.engines at new
          (all-others (λ (e : EngineParts). e.entry.name) (λ (e : EngineParts). e.level
          ≡ level_in_trace e.entry.name past) (λ (e : EngineParts). e.level ≡ level_in_trace e.entry.name past') c.engines name none
          (λ e other is. is ∙ sym (level-attached_other past at name e.entry.name label policy (λ eq. other (sym eq))))
          fits.levels)
          (sym (level-attached past at name label policy)));
      moments = subst (All (λ (e : EngineParts). e.last ≡ timestamp past)) (sym h.engines)
          (all-insert (λ (e : EngineParts). e.last ≡ timestamp past) c.engines at new fits.moments latest);
      notes = subst (λ (cs : List PendingCall). All
          (λ (s : PendingCall). All (λ (e : EngineParts). past_of s.marks e.entry.attach
          ≡ noted e.entry.name s.call.seq past') c'.engines) cs) (sym h.calls)
          (λ k d within.
          let s : PendingCall = get_or c.calls k d in
          subst (All (λ (e : EngineParts). past_of s.marks e.entry.attach ≡ noted e.entry.name s.call.seq past'))
          (sym h.engines)
          (all-insert (λ (e : EngineParts). past_of s.marks e.entry.attach
          ≡ noted e.entry.name s.call.seq past') c.engines at new
          (all-others (λ (e : EngineParts). e.entry.name) (λ (e : EngineParts). past_of s.marks e.entry.attach
          ≡ noted e.entry.name s.call.seq past)
          (λ (e : EngineParts). past_of s.marks e.entry.attach
          ≡ noted e.entry.name s.call.seq past') c.engines name none
          (λ e other is. is ∙ sym (noted-attached_other past at s.call.seq name e.entry.name label policy (λ eq.
          other (sym eq)))) (fits.notes k d within))
          (ap past_by (stands.stands.marks k d within (c.attached + 1) (omega arith)) ∙ sym
          (noted-attached past at s.call.seq name label policy))));
      forms = subst (All (λ (s : PendingCall). form conn s.call.seq past ≡ Some s.call)) (sym h.calls) fits.forms;
    }

-- ---- a detachment

fits-detached : ChangesOnly → (conn now : ℕ) (name : List ℕ) (past : Trace) (c c' : ChainParts) → Fits conn past c
    → IsChainState c
    → IsChanged (Detach name) now c c' → Fits conn (Op (Detach name) ∷ past) c'
fits-detached only conn now name past c c' fits stands h = record {
  same_chain = same-chain only conn now past (Detach name) c c' fits stands h;
  levels = subst (All (λ (e : EngineParts). e.level ≡ level_in_trace e.entry.name past)) (sym h.engines)
      (all-remove (λ (e : EngineParts). e.level ≡ level_in_trace e.entry.name past) c.engines
      (position_of name (chain_of_state c).entries) fits.levels);
  moments = subst (All (λ (e : EngineParts). e.last ≡ timestamp past)) (sym h.engines)
      (all-remove (λ (e : EngineParts). e.last
      ≡ timestamp past) c.engines (position_of name (chain_of_state c).entries) fits.moments);
  notes = subst (λ (cs : List PendingCall). All
      (λ (s : PendingCall). All (λ (e : EngineParts). past_of s.marks e.entry.attach
      ≡ noted e.entry.name s.call.seq past) c'.engines) cs) (sym h.calls)
      (λ k d within. subst (All (λ (e : EngineParts). past_of (get_or c.calls k d).marks e.entry.attach
      ≡ noted e.entry.name (get_or c.calls k d).call.seq past)) (sym h.engines)
      (all-remove (λ (e : EngineParts). past_of (get_or c.calls k d).marks e.entry.attach
      ≡ noted e.entry.name (get_or c.calls k d).call.seq past) c.engines
      (position_of name (chain_of_state c).entries) (fits.notes k d within)));
  forms = subst (All (λ (s : PendingCall). form conn s.call.seq past ≡ Some s.call)) (sym h.calls) fits.forms;
}

-- ---- an upgrade

-- the entry with a name, and its engine
pub record Named (engines : List EngineParts) (name : List ℕ) : Type 0 where
  pub engine : EngineParts
  pub at : slice_get engines (position_of name (map (λ e. e.entry) engines)) ≡ Some engine
  pub named : engine.entry.name ≡ name

not-both : (b : Bool) → b ≡ true → b ≡ false → ⊥
not-both b is isnt = absurd cc

contains-rest : (name : List ℕ) (x : EngineParts) (engines : List EngineParts)
    → Contains (map (λ e. e.entry.name) (x ∷ engines)) name → (x.entry.name ≡ name → ⊥)
    → Contains (map (λ e. e.entry.name) engines) name
contains-rest name x engines (zero, within, is) other = absurd (other is)
contains-rest name x engines (suc k, within, is) other = (k, omega (arith, within), is)

named-here : (name : List ℕ) (x : EngineParts) (engines : List EngineParts) (b : Bool) → is_named name x.entry ≡ b
    → Contains (map (λ e. e.entry.name) (x ∷ engines)) name
    → (Contains (map (λ e. e.entry.name) engines) name → Named engines name) → Named (x ∷ engines) name
named-here name x engines true is has rest = record {
  engine = x;
  at = ap (λ b. slice_get (x ∷ engines) (cond b 0 (position_of name (map (λ (e : EngineParts). e.entry) engines) + 1))) is;
  named = (bytes_eq-Decides x.entry.name name).0 is;
}
named-here name x engines false is has rest =
    let there = rest (contains-rest name x engines has (λ same.
    absurd (not-both (is_named name x.entry) (equal-name x.entry.name name same) is))) in record {
      engine = there.engine;
      at = ap (λ b. slice_get (x ∷ engines) (cond b 0 (position_of name (map (λ (e : EngineParts). e.entry) engines) + 1)))
          is
          ∙ rw add-one there.at;
      named = there.named;
    }

pub has-named : (name : List ℕ) (engines : List EngineParts) → Contains (map (λ e. e.entry.name) engines) name
    → Named engines name
has-named name [] has = absurd (omega (arith, has.1))
has-named name (x ∷ engines) has = named-here name x engines (is_named name x.entry) refl has (has-named name engines)

contains-middle : (name : List ℕ) (front : List Entry) (e : Entry) (back : List Entry) → e.name ≡ name
    → Contains (names_of (front ++ e ∷ back)) name
contains-middle name [] e back named = (0, omega arith, named)
contains-middle name (x ∷ front) e back named = let rest = contains-middle name front e back named in
    (suc rest.0, omega (arith, rest.1), rest.2)

upgrade-has : (name label : List ℕ) (policy : Policy) (c : ChainParts) (after : Chain)
    → IsChangeOf (chain_of_state c) (Upgrade name label policy) after → Contains (map (λ e. e.entry.name) c.engines) name
upgrade-has name label policy c after (attaches at name' label' policy' front back is entries long is-after) = absurd cc
upgrade-has name label policy c after (detaches name' e front back is entries named is-after) = absurd cc
upgrade-has name label policy c after (upgrades name' label' policy' e front back is entries named is-after) =
    let same : name' ≡ name = cc in
    subst (λ ns. Contains ns name) (map-map (λ (x : EngineParts). x.entry) (λ (y : Entry). y.name) c.engines)
    (subst (λ (es : List Entry). Contains (names_of es) name) (sym entries)
    (contains-middle name front e back (named ∙ same)))

pub detach-has : (name : List ℕ) (c : ChainParts) (after : Chain) → IsChangeOf (chain_of_state c) (Detach name) after
    → Contains (map (λ e. e.entry.name) c.engines) name
detach-has name c after (attaches at name' label' policy' front back is entries long is-after) = absurd cc
detach-has name c after (detaches name' e front back is entries named is-after) =
    let same : name' ≡ name = cc in
    subst (λ ns. Contains ns name) (map-map (λ (x : EngineParts). x.entry) (λ (y : Entry). y.name) c.engines)
    (subst (λ (es : List Entry). Contains (names_of es) name) (sym entries)
    (contains-middle name front e back (named ∙ same)))
detach-has name c after (upgrades name' label' policy' e front back is entries named is-after) = absurd cc

pub upgraded-engine : (name label : List ℕ) (policy : Policy) (c : ChainParts) (after : Chain)
    → HasChanged (chain_of_state c) (Upgrade name label policy) after → Named c.engines name
upgraded-engine name label policy c after h = has-named name c.engines (upgrade-has name label policy c after h.effect)

fits-upgraded : ChangesOnly → (conn now : ℕ) (name label : List ℕ) (policy : Policy) (past : Trace) (c c' : ChainParts)
    → Fits conn past c → IsChainState c
    → IsChanged (Upgrade name label policy) now c c' → Fits conn (Op (Upgrade name label policy) ∷ past) c'
fits-upgraded only conn now name label policy past c c' fits stands h =
    let place : ℕ = position_of name (chain_of_state c).entries in
    let n = upgraded-engine name label policy c (chain_of_state c') h.changes in
    let e : EngineParts = n.engine in
    let new : EngineParts = record {
      entry = upgraded e.entry policy;
      level = level_after_upgrade e.entry.policy policy e.level;
      last = e.last;
    } in
    let engines : c'.engines ≡ set c.engines place new = h.engines e n.at in
    let past' : Trace = Op (Upgrade name label policy) ∷ past in
    let is-chain : IsChain (chain past) = subst IsChain fits.same_chain stands.stands.chain in
    let policy-is : policy_in_trace e.entry.name past ≡ Some e.entry.policy =
    policy-at past place e.entry is-chain (subst (λ (ch : Chain). slice_get ch.entries place
    ≡ Some e.entry) fits.same_chain (map-at (λ (x : EngineParts). x.entry) c.engines place e n.at)) in
    let level-is : level_after_upgrade e.entry.policy policy e.level ≡ level_in_trace e.entry.name past' =
    ap (level_after_upgrade e.entry.policy policy) (all-at (λ (x : EngineParts). x.level
    ≡ level_in_trace x.entry.name past) c.engines place e n.at fits.levels)
    ∙ ap (λ p. converted p policy (level_in_trace e.entry.name past)) (sym policy-is)
    ∙ sym (level-upgraded past e.entry.name label policy)
    ∙ ap (λ m. level_in_trace e.entry.name (Op (Upgrade m label policy) ∷ past)) n.named in record {
      same_chain = same-chain only conn now past (Upgrade name label policy) c c' fits stands h;
      levels = subst (All (λ (x : EngineParts). x.level ≡ level_in_trace x.entry.name past')) (sym engines)
          (all-set (λ (x : EngineParts). x.entry.name) (λ (x : EngineParts). x.level
          ≡ level_in_trace x.entry.name past) (λ (x : EngineParts). x.level
          ≡ level_in_trace x.entry.name past') c.engines place e new n.at
          (subst AreDistinct (map-map (λ (x : EngineParts). x.entry) (λ (y : Entry). y.name) c.engines)
          stands.stands.chain.names)
          (λ x other is. is ∙ sym (level-upgraded_other past name x.entry.name label policy (λ eq.
          other (sym eq ∙ sym n.named)))) level-is fits.levels);
      moments = subst (All (λ (x : EngineParts). x.last ≡ timestamp past)) (sym engines)
          (All-set (λ (x : EngineParts). x.last ≡ timestamp past) c.engines place new (all-at (λ (x : EngineParts). x.last
          ≡ timestamp past) c.engines place e n.at fits.moments) fits.moments);
      notes = subst (λ (cs : List PendingCall). All
          (λ (s : PendingCall). All (λ (x : EngineParts). past_of s.marks x.entry.attach
          ≡ noted x.entry.name s.call.seq past) c'.engines) cs) (sym h.calls)
          (λ k d within. subst (All (λ (x : EngineParts). past_of (get_or c.calls k d).marks x.entry.attach
          ≡ noted x.entry.name (get_or c.calls k d).call.seq past)) (sym engines)
          (All-set (λ (x : EngineParts). past_of (get_or c.calls k d).marks x.entry.attach
          ≡ noted x.entry.name (get_or c.calls k d).call.seq past) c.engines place new
          (all-at (λ (x : EngineParts). past_of (get_or c.calls k d).marks x.entry.attach
          ≡ noted x.entry.name (get_or c.calls k d).call.seq past) c.engines place e n.at (fits.notes k d within))
          (fits.notes k d within)));
      forms = subst (All (λ (s : PendingCall). form conn s.call.seq past ≡ Some s.call)) (sym h.calls) fits.forms;
    }

pub fits-changed : ChangesOnly → (conn now : ℕ) (step : Step) (past : Trace) (c c' : ChainParts) → Fits conn past c
    → IsChainState c → IsChanged step now c c' → now ≡ timestamp past
    → Fits conn (Op step ∷ past) c'
fits-changed only conn now (Attach at name label policy) past c c' fits stands h latest =
    fits-attached only conn now at name label policy past c c' fits stands h latest
fits-changed only conn now (Detach name) past c c' fits stands h latest =
    fits-detached only conn now name past c c' fits stands h
fits-changed only conn now (Upgrade name label policy) past c c' fits stands h latest =
    fits-upgraded only conn now name label policy past c c' fits stands h

-- ---- the indices of operations

drop-map : {X Y : Type 0} (f : X → Y) (n : ℕ) (xs : List X) → drop n (map f xs) ≡ map f (drop n xs)
drop-map f zero xs = refl
drop-map f (suc n) [] = refl
drop-map f (suc n) (x ∷ xs) = drop-map f n xs

step-still : (steps : List Step) (step : Step) (place : ℕ) (e : Entry) → IsPolicyOp steps place e
    → IsPolicyOp (steps ++ step ∷ []) place e
step-still steps step place e h = record {
  within = omega (arith, length_push steps step, h.within);
  put = subst (λ (s : Step). HasSetPolicy s e) (sym (get_or_append_left steps (step ∷ []) (Detach []) place h.within)) h.put;
}

step-new : (steps : List Step) (step : Step) (place : ℕ) (e : Entry) → place ≡ length steps → HasSetPolicy step e
    → IsPolicyOp (steps ++ step ∷ []) place e
step-new steps step place e at puts = record {
  within = omega (arith, length_push steps step, at);
  put = subst (λ (s : Step). HasSetPolicy s e) (sym (get_or_push steps step (Detach []) place (sym at))) puts;
}

entries-removed : (engines : List EngineParts) (i : ℕ)
    → map (λ e. e.entry) (remove engines i) ≡ remove (map (λ e. e.entry) engines) i
entries-removed engines i =
    map-append (λ (e : EngineParts). e.entry) (take i engines) (drop (suc i) engines)
    ∙ ap (λ xs. xs ++ map (λ (e : EngineParts). e.entry) (drop (suc i) engines))
    (sym (take-map (λ (e : EngineParts). e.entry) i engines))
    ∙ ap (λ xs. take i (map (λ (e : EngineParts). e.entry) engines) ++ xs)
    (sym (drop-map (λ (e : EngineParts). e.entry) (suc i) engines))

entries-inserted : (engines : List EngineParts) (i : ℕ) (new : EngineParts)
    → map (λ e. e.entry) (insert engines i new) ≡ insert (map (λ e. e.entry) engines) i new.entry
entries-inserted engines i new =
    map-append (λ (e : EngineParts). e.entry) (take i engines) (new ∷ drop i engines)
    ∙ ap (λ xs. xs ++ new.entry ∷ map (λ (e : EngineParts). e.entry) (drop i engines))
    (sym (take-map (λ (e : EngineParts). e.entry) i engines))
    ∙ ap (λ xs. take i (map (λ (e : EngineParts). e.entry) engines) ++ new.entry ∷ xs)
    (sym (drop-map (λ (e : EngineParts). e.entry) i engines))

pub places-changed : (step : Step) (now place : ℕ) (steps : List Step) (places : List ℕ) (c c' : ChainParts)
    → IsChanged step now c c' → place ≡ length steps
    → AllZip (IsPolicyOp steps) places (chain_of_state c).entries
    → AllZip (IsPolicyOp (steps ++ step ∷ [])) (op_indices_after step (chain_of_state c).entries place places)
    (chain_of_state c').entries
places-changed (Attach at name label policy) now place steps places c c' h is zips =
    let step : Step = Attach at name label policy in
    let new : EngineParts = record {
      entry = new_entry name (c.attached + 1) policy;
      level = initial_level policy;
      last = now;
    } in
    subst (λ es. AllZip (IsPolicyOp (steps ++ step ∷ [])) (insert places at place) es)
    (sym (ap (map (λ (e : EngineParts). e.entry)) h.engines ∙ entries-inserted c.engines at new))
    (zip-insert (IsPolicyOp (steps ++ step ∷ [])) places (chain_of_state c).entries at place new.entry
    (zip-weaker (IsPolicyOp steps) (IsPolicyOp (steps ++ step ∷ [])) (step-still steps step) places
    (chain_of_state c).entries zips) (step-new steps step place new.entry is (refl, refl)))
places-changed (Detach name) now place steps places c c' h is zips =
    subst (λ es. AllZip (IsPolicyOp (steps ++ Detach name ∷ [])) (remove places (position_of name (chain_of_state c).entries)) es)
    (sym (ap (map (λ (e : EngineParts). e.entry)) h.engines ∙ entries-removed c.engines
    (position_of name (chain_of_state c).entries)))
    (zip-remove (IsPolicyOp (steps ++ Detach name ∷ [])) places (chain_of_state c).entries (position_of name (chain_of_state c).entries)
    (zip-weaker (IsPolicyOp steps) (IsPolicyOp (steps ++ Detach name ∷ [])) (step-still steps (Detach name)) places
    (chain_of_state c).entries zips))
places-changed (Upgrade name label policy) now place steps places c c' h is zips =
    let step : Step = Upgrade name label policy in
    let at : ℕ = position_of name (chain_of_state c).entries in
    let n = upgraded-engine name label policy c (chain_of_state c') h.changes in
    let new : EngineParts = record {
      entry = upgraded n.engine.entry policy;
      level = level_after_upgrade n.engine.entry.policy policy n.engine.level;
      last = n.engine.last;
    } in
    subst (λ es. AllZip (IsPolicyOp (steps ++ step ∷ [])) (set places at place) es)
    (sym (ap (map (λ (e : EngineParts). e.entry)) (h.engines n.engine n.at) ∙ map-set
    (λ (e : EngineParts). e.entry) c.engines at new))
    (zip-set (IsPolicyOp (steps ++ step ∷ [])) places (chain_of_state c).entries at place new.entry
    (zip-weaker (IsPolicyOp steps) (IsPolicyOp (steps ++ step ∷ [])) (step-still steps step) places
    (chain_of_state c).entries zips) (step-new steps step place new.entry is (sym n.named, refl)))
