-- The position of the engine with a name, and the effect of an operation on the engines.
use Rattle.std.proofs.Common.{subst, ◌≡◌, ℕ, ◌+◌, ◌<◌, ◌≤◌, zero, suc, Bool, true, false, cond, nat_lt, if◌then◌else◌}
use Rattle.std.proofs.Common.{List, [], ◌∷◌, length, map, set, get_or, remove, slice_get, Contains, Option, Some}
use Rattle.std.proofs.Common.{None, is_some, refl, ap, sym, ◌∙◌, arith}
use Rattle.std.specs.List.{position, position_or_len}
use Rattle.std.proofs.lemmas.Bool.Decides.{nat_tests}
use Rattle.std.proofs.lemmas.Grind.{common_steps}
use Rattle.std.proofs.lemmas.List.{map-set}
use Rattle.std.proofs.lemmas.List.Quantifiers.{position-Some}
use Rattle.std.proofs.lemmas.List.Recursion.{is_position_or_len}
use Rattle.std.proofs.lemmas.Option.{slice_get-get_or}
use Rattle.std.proofs.lemmas.Slice.Eq.{bytes_eq-Decides}
use Rattle.engine_core.specs.Chains.{HasChanged, Chain, Entry, IsChain, Refusal, IsRejection, changed, is_named, names_of, upgraded}
use Rattle.engine_core.specs.Engines.{EngineParts}
use Rattle.engine_core.specs.Moves.{position_of}
use Rattle.engine_core.specs.Policies.{is_same_kind, level_after_upgrade}
use Rattle.engine_core.specs.declared.policy.Policy.{Policy}
use Rattle.engine_core.specs.declared.op.Op.{Op}
use Rattle.engine_core.specs.declared.op.Op.TheVariants.{Detach, Upgrade}
use Rattle.chain_upgrade.proofs.Stands.{remove-map}
use Rattle.chain_upgrade.proofs.Steps.{free-detach, free-upgrade, named-is, upgraded-named, without-named, has_first}

-- ---- the first position of a name

-- the engine with a name is at a position
pub record IsFound (name : List ℕ) (place : ℕ) (es : List EngineParts) : Type 0 where
  pub it : EngineParts
  pub within : place < length es
  pub at : slice_get es place ≡ Some it
  pub named : it.entry.name ≡ name
  pub place_is : position_of name (map (λ e. e.entry) es) ≡ place
  pub has : Contains (names_of (map (λ e. e.entry) es)) name

named-from : (name : List ℕ) (e : Entry) → is_named name e ≡ true → e.name ≡ name
named-from name e test = grind (arith, common_steps, bytes_eq-Decides)

one-more : (b : Bool) (n : ℕ) → (if b then 0 else n + 1) ≡ cond b 0 (1 + n)
one-more true n = refl
one-more false n = omega arith

place-len : (name : List ℕ) (es : List EngineParts) → position_of name (map (λ e. e.entry) es) ≡ position_or_len (λ e. is_named name e.entry) es
place-len name es = is_position_or_len (λ (es : List EngineParts). position_of name (map (λ e. e.entry) es)) (λ (e : EngineParts). is_named name e.entry) refl
    (λ x xs. one-more (is_named name x.entry) (position_of name (map (λ e. e.entry) xs))) es

first-is : (b : Bool) (n place : ℕ) → cond b (Some n) None ≡ Some place → n ≡ place
first-is true n place is = cc
first-is false n place is = absurd cc

no-first : (b : Bool) (n : ℕ) → cond b (Some n) None ≡ None → b ≡ false
no-first true n is = absurd cc
no-first false n is = refl

past-it : (n m : ℕ) → nat_lt n m ≡ false → m ≤ n
past-it n m test = grind (arith, nat_tests)

less-then : (b : Bool) (n m : ℕ) → n < m → (if b then 0 else n + 1) < suc m
less-then true n m less = omega arith
less-then false n m less = omega arith

place-within : (name : List ℕ) (es : List EngineParts) (j : ℕ) → j < length (names_of (map (λ e. e.entry) es))
    → get_or (names_of (map (λ e. e.entry) es)) j name ≡ name → position_of name (map (λ e. e.entry) es) < length es
place-within name [] j inside same = absurd (omega arith)
place-within name (x ∷ xs) zero inside same = let mine = named-is name x.entry same in rw mine (omega arith)
place-within name (x ∷ xs) (suc j) inside same =
    less-then (is_named name x.entry) (position_of name (map (λ e. e.entry) xs)) (length xs) (place-within name xs j (omega arith) same)

pub found : (name : List ℕ) (place : ℕ) (es : List EngineParts) → position (λ e. is_named name e.entry) es ≡ Some place → IsFound name place es
found name place [] is = absurd cc
found name place (x ∷ xs) is =
    let p = position-Some (λ (e : EngineParts). is_named name e.entry) (x ∷ xs) place x is in
    let named : (get_or (x ∷ xs) place x).entry.name ≡ name = named-from name (get_or (x ∷ xs) place x).entry p.1 in
    record {
      it = get_or (x ∷ xs) place x;
      within = p.0;
      at = slice_get-get_or (x ∷ xs) place x p.0;
      named = named;
      place_is = place-len name (x ∷ xs)
          ∙ first-is (nat_lt (position_or_len (λ (e : EngineParts). is_named name e.entry) (x ∷ xs)) (length (x ∷ xs)))
          (position_or_len (λ (e : EngineParts). is_named name e.entry) (x ∷ xs)) place is;
      has = has_first (x ∷ xs) place x name p.0 named;
    }

pub none-found : (name : List ℕ) (es : List EngineParts) → position (λ e. is_named name e.entry) es ≡ None
    → Contains (names_of (map (λ e. e.entry) es)) name → ⊥
none-found name es is has =
    let past : length es ≤ position_or_len (λ (e : EngineParts). is_named name e.entry) es =
    past-it (position_or_len (λ (e : EngineParts). is_named name e.entry) es) (length es)
    (no-first (nat_lt (position_or_len (λ (e : EngineParts). is_named name e.entry) es) (length es)) (position_or_len (λ (e : EngineParts). is_named name e.entry) es) is) in
    omega (arith, place-len name es, place-within name es has.0 has.1 has.2)

-- ---- an operation on it

pub map-at : {X Y : Type 0} (f : X → Y) (xs : List X) (p : ℕ) (x : X) → slice_get xs p ≡ Some x → slice_get (map f xs) p ≡ Some (f x)
map-at f [] p x is = absurd cc
map-at {X = X} f (z ∷ zs) zero x is = let there : z ≡ x = cc in ap (λ (x : X). Some (f x)) there
map-at f (z ∷ zs) (suc p) x is = map-at f zs p x is

-- it is detached
pub detach-changes : (es : List EngineParts) (n p : ℕ) (name : List ℕ)
    → ((before : Chain) (op : Op) → IsChain before → ((r : Refusal) → IsRejection before op r → ⊥) → HasChanged before op (changed op before))
    → IsChain (record { entries = map (λ e. e.entry) es; attached = n }) → IsFound name p es
    → HasChanged (record { entries = map (λ e. e.entry) es; attached = n }) (Detach name)
    (record { entries = map (λ e. e.entry) (remove es p); attached = n })
detach-changes es n p name law chain it =
    let gone = without-named name (map (λ e. e.entry) es) p it.it.entry chain.names (map-at (λ (e : EngineParts). e.entry) es p it.it it.at) it.named in
    subst (λ (entries : List Entry). HasChanged (record { entries = map (λ e. e.entry) es; attached = n }) (Detach name) (record { entries = entries; attached = n }))
    (gone ∙ sym (remove-map (λ (e : EngineParts). e.entry) es p))
    (law (record { entries = map (λ e. e.entry) es; attached = n }) (Detach name) chain
    (λ r refuses. free-detach (map (λ e. e.entry) es) name r it.has refuses.against))

-- its policy is replaced
pub upgrade-changes : (es : List EngineParts) (n p : ℕ) (name label : List ℕ) (policy : Policy) (e e' : EngineParts)
    → ((before : Chain) (op : Op) → IsChain before → ((r : Refusal) → IsRejection before op r → ⊥) → HasChanged before op (changed op before))
    → IsChain (record { entries = map (λ e. e.entry) es; attached = n }) → slice_get es p ≡ Some e → e.entry.name ≡ name
    → is_same_kind e.entry.policy policy ≡ true → e'.entry ≡ upgraded e.entry policy
    → HasChanged (record { entries = map (λ e. e.entry) es; attached = n }) (Upgrade name label policy)
    (record { entries = map (λ e. e.entry) (set es p e'); attached = n })
upgrade-changes es n p name label policy e e' law chain at named kind is =
    let there = map-at (λ (e : EngineParts). e.entry) es p e at in
    let put = upgraded-named name policy (map (λ e. e.entry) es) p e.entry chain.names there named in
    subst (λ (entries : List Entry). HasChanged (record { entries = map (λ e. e.entry) es; attached = n }) (Upgrade name label policy) (record { entries = entries; attached = n }))
    (put ∙ (ap (λ (x : Entry). set (map (λ e. e.entry) es) p x) (sym is) ∙ sym (map-set (λ (e : EngineParts). e.entry) es p e')))
    (law (record { entries = map (λ e. e.entry) es; attached = n }) (Upgrade name label policy) chain
    (λ r refuses. free-upgrade (map (λ e. e.entry) es) name label policy r p e.entry chain.names there named kind refuses.against))

-- ---- whether one has the name

pub has-found : (name : List ℕ) (es : List EngineParts) (o : Option ℕ) → o ≡ position (λ e. is_named name e.entry) es → is_some o ≡ true
    → Contains (names_of (map (λ e. e.entry) es)) name
has-found name es None is test = absurd cc
has-found name es (Some p) is test = (found name p es (sym is)).has

pub none-has : (name : List ℕ) (es : List EngineParts) (o : Option ℕ) → o ≡ position (λ e. is_named name e.entry) es → is_some o ≡ false
    → Contains (names_of (map (λ e. e.entry) es)) name → ⊥
none-has name es None is test = none-found name es (sym is)
none-has name es (Some p) is test = absurd cc

-- the engine after an upgrade
pub upgraded-is : (policy : Policy) (e e' : EngineParts) → e'.entry ≡ upgraded e.entry policy → e'.level ≡ level_after_upgrade e.entry.policy policy e.level
    → e'.last ≡ e.last → e' ≡ record { entry = upgraded e.entry policy; level = level_after_upgrade e.entry.policy policy e.level; last = e.last }
upgraded-is policy e e' entry level last =
    ap {B = EngineParts} (λ (x : Entry). record { entry = x; level = e'.level; last = e'.last }) entry
    ∙ (ap {B = EngineParts} (λ (l : ℕ). record { entry = upgraded e.entry policy; level = l; last = e'.last }) level
    ∙ ap {B = EngineParts} (λ (m : ℕ). record { entry = upgraded e.entry policy; level = level_after_upgrade e.entry.policy policy e.level; last = m }) last)
