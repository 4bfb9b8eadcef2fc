-- The position of the engine with a name, and what the chain's results mean for an operation.
use Rattle.std.proofs.Common.{◌≡◌, ℕ, ◌+◌, ◌<◌, ◌≤◌, zero, suc, true, false, cond, List, [], ◌∷◌, length, map, drop}
use Rattle.std.proofs.Common.{insert, set, slice_get, refl, ap, ◌∙◌, subst, arith}
use Rattle.std.specs.Prelude.{Err, Ok, OnOk, Result, Some}
use Rattle.std.specs.Str.{bytes_eq}
use Rattle.std.proofs.lemmas.List.{length-map}
use Rattle.engine_core.specs.Chains.{Chain, HasChanged, is_past, new_entry, no_place, upgraded}
use Rattle.engine_core.specs.Engines.{EngineParts}
use Rattle.engine_core.specs.Moves.{returned_to, position_of}
use Rattle.engine_core.specs.Policies.{initial_level, level_after_upgrade}
use Rattle.engine_core.specs.declared.op.Op.TheVariants.{Attach, Detach, Upgrade}
use Rattle.engine_core.specs.declared.policy.Policy.{Policy}
use Rattle.chain_upgrade.specs.Chains.{ChainParts, chain_of_state}
use Rattle.conn_core.specs.Invariant.{IsChanged}
use Rattle.conn_core.proofs.Changed.{detach-has, has-named, upgraded-engine}
use Rattle.conn_core.proofs.Lists.{map-at, within-at}

-- ---- the position of a name

drop-at : {X : Type 0} (xs : List X) (i : ℕ) (x : X) → slice_get xs i ≡ Some x → drop i xs ≡ x ∷ drop (suc i) xs
drop-at [] i x is = absurd cc
drop-at (y ∷ xs) zero x is = let same : y ≡ x = cc in ap (λ z. z ∷ xs) same
drop-at (y ∷ xs) (suc i) x is = drop-at xs i x is

-- none of the first `at` entries has the name
abbrev pub IsBehind : List ℕ → List EngineParts → ℕ → Type 0
IsBehind name engines at =
    position_of name (map (λ e. e.entry) engines) ≡ at + position_of name (drop at (map (λ e. e.entry) engines))

rest-at : (name : List ℕ) (engines : List EngineParts) (at : ℕ) (e : EngineParts) → slice_get engines at ≡ Some e
    → position_of name (drop at (map (λ e. e.entry) engines))
    ≡ cond (bytes_eq e.entry.name name) 0 (position_of name (drop (suc at) (map (λ e. e.entry) engines)) + 1)
rest-at name engines at e is =
    ap (position_of name) (drop-at (map (λ (e : EngineParts). e.entry) engines) at e.entry
    (map-at (λ (e : EngineParts). e.entry) engines at e is))

pub here-placed : (name : List ℕ) (engines : List EngineParts) (at : ℕ) (e : EngineParts)
    → slice_get engines at ≡ Some e → bytes_eq e.entry.name name ≡ true → IsBehind name engines at
    → at ≡ position_of name (map (λ e. e.entry) engines)
here-placed name engines at e is named behind =
    let none : position_of name (drop at (map (λ (e : EngineParts). e.entry) engines)) ≡ 0 =
    rest-at name engines at e is ∙ ap (λ b.
    cond b 0 (position_of name (drop (suc at) (map (λ (e : EngineParts). e.entry) engines)) + 1)) named in
    omega (arith, behind, none)

pub behind-more : (name : List ℕ) (engines : List EngineParts) (at : ℕ) (e : EngineParts)
    → slice_get engines at ≡ Some e → bytes_eq e.entry.name name ≡ false → IsBehind name engines at
    → IsBehind name engines (at + 1)
behind-more name engines at e is other behind =
    let rest : position_of name (drop at (map (λ (e : EngineParts). e.entry) engines))
    ≡ position_of name (drop (suc at) (map (λ (e : EngineParts). e.entry) engines)) + 1 =
    rest-at name engines at e is ∙ ap (λ b.
    cond b 0 (position_of name (drop (suc at) (map (λ (e : EngineParts). e.entry) engines)) + 1)) other in
    let next : position_of name (drop (at + 1) (map (λ (e : EngineParts). e.entry) engines))
    ≡ position_of name (drop (suc at) (map (λ (e : EngineParts). e.entry) engines)) =
    (let one : at + 1 ≡ suc at = omega arith in
    ap (λ n. position_of name (drop n (map (λ (e : EngineParts). e.entry) engines))) one) in
    omega (arith, behind, rest, next)

-- ---- an attachment

pub attach-within : (c : ChainParts) (at : ℕ) (name label : List ℕ) (policy : Policy) (after : Chain)
    → HasChanged (chain_of_state c) (Attach at name label policy) after → at ≤ length c.engines
attach-within c at name label policy after h =
    let no : length (chain_of_state c).entries < at → ⊥ =
    λ past. h.free (no_place at) (is_past at name label policy refl past refl) in
    omega (arith, no, length-map c.engines (λ (e : EngineParts). e.entry))

pub attach-changed : (c c' : ChainParts) (at now : ℕ) (name name' label : List ℕ) (policy policy' : Policy)
    → name' ≡ name → policy' ≡ policy
    → HasChanged (chain_of_state c) (Attach at name' label policy') (chain_of_state c')
    → c'.engines ≡ insert c.engines at (record {
      entry = new_entry name' (c.attached + 1) policy';
      level = initial_level policy';
      last = now;
    })
    → c'.calls ≡ c.calls → c'.row ≡ returned_to at c.row → IsChanged (Attach at name label policy) now c c'
attach-changed c c' at now name name' label policy policy' same-name same-policy changes engines calls row =
    subst (λ (n : List ℕ). IsChanged (Attach at n label policy) now c c') same-name
    (subst (λ (p : Policy). IsChanged (Attach at name' label p) now c c') same-policy
    (record { changes = changes; engines = engines; calls = calls; row = row }))

-- ---- a detachment

pub detach-within : (c : ChainParts) (name : List ℕ) (after : Chain) → HasChanged (chain_of_state c) (Detach name) after
    → position_of name (chain_of_state c).entries < length c.engines
detach-within c name after h = let n = has-named name c.engines (detach-has name c after h.effect) in
    within-at c.engines (position_of name (chain_of_state c).entries) n.engine n.at

-- ---- an upgrade

pub upgrade-within : (c : ChainParts) (name label : List ℕ) (policy : Policy) (after : Chain)
    → HasChanged (chain_of_state c) (Upgrade name label policy) after
    → position_of name (chain_of_state c).entries < length c.engines
upgrade-within c name label policy after h = let n = upgraded-engine name label policy c after h in
    within-at c.engines (position_of name (chain_of_state c).entries) n.engine n.at

pub upgrade-changed : (c c' : ChainParts) (now : ℕ) (name name' label : List ℕ) (policy policy' : Policy) → name' ≡ name
    → policy' ≡ policy
    → HasChanged (chain_of_state c) (Upgrade name' label policy') (chain_of_state c')
    → ((e : EngineParts) → slice_get c.engines (position_of name' (chain_of_state c).entries) ≡ Some e
    → c'.engines ≡ set c.engines (position_of name' (chain_of_state c).entries) (record {
      entry = upgraded e.entry policy';
      level = level_after_upgrade e.entry.policy policy' e.level;
      last = e.last;
    }))
    → c'.calls ≡ c.calls → c'.row ≡ returned_to (position_of name' (chain_of_state c).entries) c.row
    → IsChanged (Upgrade name label policy) now c c'
upgrade-changed c c' now name name' label policy policy' same-name same-policy changes engines calls row =
    subst (λ (n : List ℕ). IsChanged (Upgrade n label policy) now c c') same-name
    (subst (λ (p : Policy). IsChanged (Upgrade name' label p) now c c') same-policy
    (record { changes = changes; engines = engines; calls = calls; row = row }))

-- ---- results

pub on-ok : {X E : Type 0} (P Q : Type 0) → (P → Q) → (r : Result X E) → OnOk r P → OnOk r Q
on-ok P Q weak (Ok x) h = weak h
on-ok P Q weak (Err e) h = tt
