-- The reasons against an operation, and its effect on the engines.
use Rattle.std.proofs.Common.{subst, ◌≡◌, ◌≢◌, ℕ, ◌+◌, ◌<◌, ◌≤◌, zero, suc, true, false, not, if◌then◌else◌, ◌⊎◌, inl}
use Rattle.std.proofs.Common.{inr, List, [], ◌∷◌, length, map, filter, set, get_or, insert, remove, slice_get}
use Rattle.std.proofs.Common.{Contains, Some, refl, ap, sym, ◌∙◌, arith}
use Rattle.std.proofs.lemmas.Grind.{common_steps}
use Rattle.std.proofs.lemmas.Slice.Eq.{bytes_eq-Decides}
use Rattle.mrpc_table.specs.Valid.{AreDistinct}
use Rattle.chain_upgrade.proofs.Stands.{insert-map}
use Rattle.engine_core.specs.Policies.{is_same_kind}
use Rattle.engine_core.specs.Chains.{IsChain, new_entry, HasChanged, changed, Entry, Chain, Refusal, no_such, taken}
use Rattle.engine_core.specs.Chains.{no_place, full, other_kind, refusal_rank, IsReasonToReject, detaches_none, upgrades_none}
use Rattle.engine_core.specs.Chains.{is_taken, is_past, is_full, is_other, IsRejection, names_of, upgraded, is_named}
use Rattle.engine_core.specs.Engines.{EngineParts}
use Rattle.engine_core.specs.declared.policy.Policy.{Policy}
use Rattle.engine_core.specs.declared.op.Op.{Op}
use Rattle.engine_core.specs.declared.op.Op.TheVariants.{Attach, Detach, Upgrade}

-- ---- an attachment

-- the reasons against one, by their order
pub attach-order : (es : List Entry) (at : ℕ) (name label : List ℕ) (policy : Policy) (r : Refusal) → IsReasonToReject es (Attach at name label policy) r
    → ((refusal_rank r ≡ 2) × Contains (names_of es) name) ⊎ (((refusal_rank r ≡ 3) × (length es < at)) ⊎ ((refusal_rank r ≡ 4) × (8 ≤ length es)))
attach-order es at name label policy r (detaches_none name' is none s) = absurd cc
attach-order es at name label policy r (upgrades_none name' label' policy' is none s) = absurd cc
attach-order es at name label policy r (is_taken at' name' label' policy' is has s) =
    let same : name ≡ name' = cc in
    inl (ap refusal_rank s, rw same has)
attach-order es at name label policy r (is_past at' name' label' policy' is past s) =
    let same : at ≡ at' = cc in
    inr (inl (ap refusal_rank s, omega arith))
attach-order es at name label policy r (is_full at' name' label' policy' is many s) = inr (inr (ap refusal_rank s, many))
attach-order es at name label policy r (is_other name' label' policy' e is there named other s) = absurd cc

pub refuses-taken : (c : Chain) (at : ℕ) (name label : List ℕ) (policy : Policy) → Contains (names_of c.entries) name
    → IsRejection c (Attach at name label policy) (taken name)
refuses-taken c at name label policy has = record {
  against = is_taken at name label policy refl has refl;
  first = λ other less against. elim (attach-order c.entries at name label policy other against) [
    | inl is ↦ omega (arith, is.0)
    | inr rest ↦ elim rest [ inl is ↦ omega (arith, is.0) | inr is ↦ omega (arith, is.0) ]
  ];
}

pub refuses-place : (c : Chain) (at : ℕ) (name label : List ℕ) (policy : Policy) → (Contains (names_of c.entries) name → ⊥) → length c.entries < at
    → IsRejection c (Attach at name label policy) (no_place at)
refuses-place c at name label policy none past = record {
  against = is_past at name label policy refl past refl;
  first = λ other less against. elim (attach-order c.entries at name label policy other against) [
    | inl is ↦ none is.1
    | inr rest ↦ elim rest [ inl is ↦ omega (arith, is.0) | inr is ↦ omega (arith, is.0) ]
  ];
}

pub refuses-full : (c : Chain) (at : ℕ) (name label : List ℕ) (policy : Policy) → (Contains (names_of c.entries) name → ⊥) → at ≤ length c.entries
    → 8 ≤ length c.entries → IsRejection c (Attach at name label policy) (full (length c.entries))
refuses-full c at name label policy none within many = record {
  against = is_full at name label policy refl many refl;
  first = λ other less against. elim (attach-order c.entries at name label policy other against) [
    | inl is ↦ none is.1
    | inr rest ↦ elim rest [ inl is ↦ omega (arith, is.1) | inr is ↦ omega (arith, is.0) ]
  ];
}

pub free-attach : (es : List Entry) (at : ℕ) (name label : List ℕ) (policy : Policy) (r : Refusal) → (Contains (names_of es) name → ⊥) → at ≤ length es
    → length es < 8 → IsReasonToReject es (Attach at name label policy) r → ⊥
free-attach es at name label policy r none within few against = elim (attach-order es at name label policy r against) [
  | inl is ↦ none is.1
  | inr rest ↦ elim rest [ inl is ↦ omega (arith, is.1) | inr is ↦ omega (arith, is.1) ]
]

-- ---- an operation on the entry with a name

order-least : (r : Refusal) → 1 ≤ refusal_rank r
order-least (no_such name) = omega arith
order-least (taken name) = omega arith
order-least (no_place at) = omega arith
order-least (full entries) = omega arith
order-least (other_kind name) = omega arith

pub refuses-detach : (c : Chain) (name : List ℕ) → (Contains (names_of c.entries) name → ⊥) → IsRejection c (Detach name) (no_such name)
refuses-detach c name none = record {
  against = detaches_none name refl none refl;
  first = λ other less against. omega (arith, order-least other);
}

pub free-detach : (es : List Entry) (name : List ℕ) (r : Refusal) → Contains (names_of es) name → IsReasonToReject es (Detach name) r → ⊥
free-detach es name r has (detaches_none name' is none s) = let same : name ≡ name' = cc in none (rw same at has)
free-detach es name r has (upgrades_none name' label' policy' is none s) = absurd cc
free-detach es name r has (is_taken at' name' label' policy' is has' s) = absurd cc
free-detach es name r has (is_past at' name' label' policy' is past s) = absurd cc
free-detach es name r has (is_full at' name' label' policy' is many s) = absurd cc
free-detach es name r has (is_other name' label' policy' e is there named other s) = absurd cc

pub refuses-upgrade : (c : Chain) (name label : List ℕ) (policy : Policy) → (Contains (names_of c.entries) name → ⊥)
    → IsRejection c (Upgrade name label policy) (no_such name)
refuses-upgrade c name label policy none = record {
  against = upgrades_none name label policy refl none refl;
  first = λ other less against. omega (arith, order-least other);
}

-- the reason against an upgrade of an existing name: its entry is of another kind
upgrade-other : (es : List Entry) (name label : List ℕ) (policy : Policy) (r : Refusal) → Contains (names_of es) name
    → IsReasonToReject es (Upgrade name label policy) r
    → (refusal_rank r ≡ 5) × ((e : Entry) × Contains es e × (e.name ≡ name) × (is_same_kind e.policy policy ≡ false))
upgrade-other es name label policy r has (detaches_none name' is none s) = absurd cc
upgrade-other es name label policy r has (upgrades_none name' label' policy' is none s) = let same : name ≡ name' = cc in absurd (none (rw same at has))
upgrade-other es name label policy r has (is_taken at' name' label' policy' is has' s) = absurd cc
upgrade-other es name label policy r has (is_past at' name' label' policy' is past s) = absurd cc
upgrade-other es name label policy r has (is_full at' name' label' policy' is many s) = absurd cc
upgrade-other es name label policy r has (is_other name' label' policy' e is there named other s) =
    let same : name ≡ name' = cc in
    let kind : policy ≡ policy' = cc in
    (ap refusal_rank s, (e, there, named ∙ sym same, rw kind other))

pub refuses-kind : (c : Chain) (name label : List ℕ) (policy : Policy) (e : Entry) → Contains (names_of c.entries) name → Contains c.entries e → e.name ≡ name
    → is_same_kind e.policy policy ≡ false → IsRejection c (Upgrade name label policy) (other_kind name)
refuses-kind c name label policy e has there named other = record {
  against = is_other name label policy e refl there named other refl;
  first = λ r less against. omega (arith, (upgrade-other c.entries name label policy r has against).0);
}

-- ---- the entry with a name

pub named-is : (name : List ℕ) (e : Entry) → e.name ≡ name → is_named name e ≡ true
named-is name e same = grind (arith, common_steps, bytes_eq-Decides)

other-is : (name : List ℕ) (e : Entry) → e.name ≢ name → is_named name e ≡ false
other-is name e other = grind (arith, common_steps, bytes_eq-Decides)

names-at : (es : List Entry) (p : ℕ) (e : Entry) → slice_get es p ≡ Some e → Contains (names_of es) e.name
names-at [] p e is = absurd cc
names-at (x ∷ xs) zero e is = let there : x ≡ e = cc in (0, omega arith, ap (λ (e : Entry). e.name) there)
names-at (x ∷ xs) (suc p) e is = let rest = names-at xs p e is in (suc rest.0, omega (arith, rest.1), rest.2)

pub has-name : (es : List Entry) (p : ℕ) (e : Entry) (name : List ℕ) → slice_get es p ≡ Some e → e.name ≡ name → Contains (names_of es) name
has-name es p e name is same = rw (sym same) (names-at es p e is)

pub has-entry : (es : List Entry) (p : ℕ) (e : Entry) → slice_get es p ≡ Some e → Contains es e
has-entry [] p e is = absurd cc
has-entry (x ∷ xs) zero e is = let there : x ≡ e = cc in (0, omega arith, there)
has-entry (x ∷ xs) (suc p) e is = let rest = has-entry xs p e is in (suc rest.0, omega (arith, rest.1), rest.2)

none-named : (name : List ℕ) (es : List Entry) → (Contains (names_of es) name → ⊥) → filter (λ e. not (is_named name e)) es ≡ es
none-named name [] none = refl
none-named name (x ∷ xs) none =
    let other : is_named name x ≡ false = other-is name x (λ same. none (0, omega arith, same)) in
    let rest = none-named name xs (λ has. none (suc has.0, omega (arith, has.1), has.2)) in
    rw (other, rest) refl

none-upgraded : (name : List ℕ) (policy : Policy) (es : List Entry) → (Contains (names_of es) name → ⊥)
    → map (λ e. if is_named name e then upgraded e policy else e) es ≡ es
none-upgraded name policy [] none = refl
none-upgraded name policy (x ∷ xs) none =
    let other : is_named name x ≡ false = other-is name x (λ same. none (0, omega arith, same)) in
    let rest = none-upgraded name policy xs (λ has. none (suc has.0, omega (arith, has.1), has.2)) in
    rw (other, rest) refl

-- the entry with a name is removed
pub without-named : (name : List ℕ) (es : List Entry) (p : ℕ) (e : Entry) → AreDistinct (names_of es) → slice_get es p ≡ Some e → e.name ≡ name
    → filter (λ e. not (is_named name e)) es ≡ remove es p
without-named name [] p e apart is same = absurd cc
without-named name (x ∷ xs) zero e apart is same =
    let here : x ≡ e = cc in
    let there : x.name ≡ name = ap (λ (e : Entry). e.name) here ∙ same in
    let mine = named-is name x there in
    rw mine (none-named name xs (λ has. apart.0 (rw there has)))
without-named name (x ∷ xs) (suc p) e apart is same =
    let other = other-is name x (λ mine. apart.0 (rw (mine ∙ sym same) (names-at xs p e is))) in
    let rest = without-named name xs p e apart.1 is same in
    rw other (ap (λ (ys : List Entry). x ∷ ys) rest)

-- the entry with a name is upgraded
pub upgraded-named : (name : List ℕ) (policy : Policy) (es : List Entry) (p : ℕ) (e : Entry) → AreDistinct (names_of es) → slice_get es p ≡ Some e → e.name ≡ name
    → map (λ e. if is_named name e then upgraded e policy else e) es ≡ set es p (upgraded e policy)
upgraded-named name policy [] p e apart is same = absurd cc
upgraded-named name policy (x ∷ xs) zero e apart is same =
    let there : x ≡ e = cc in
    let named : x.name ≡ name = ap (λ (e : Entry). e.name) there ∙ same in
    let mine = named-is name x named in
    let rest = none-upgraded name policy xs (λ has. apart.0 (rw named has)) in
    rw (mine, rest) (ap (λ (e : Entry). upgraded e policy ∷ xs) there)
upgraded-named name policy (x ∷ xs) (suc p) e apart is same =
    let other = other-is name x (λ mine. apart.0 (rw (mine ∙ sym same) (names-at xs p e is))) in
    let rest = upgraded-named name policy xs p e apart.1 is same in
    rw other (ap (λ (ys : List Entry). x ∷ ys) rest)

names-within : (es : List Entry) (k : ℕ) (f : Entry) (name : List ℕ) → k < length es → get_or es k f ≡ f → f.name ≡ name → Contains (names_of es) name
names-within [] k f name inside at same = absurd (omega arith)
names-within (x ∷ xs) zero f name inside at same = (0, omega arith, ap (λ (e : Entry). e.name) at ∙ same)
names-within (x ∷ xs) (suc k) f name inside at same = let rest = names-within xs k f name (omega arith) at same in (suc rest.0, omega (arith, rest.1), rest.2)

-- two entries with one name are the same
one-at : (es : List Entry) (p k : ℕ) (e f : Entry) → AreDistinct (names_of es) → slice_get es p ≡ Some e → k < length es → get_or es k f ≡ f → f.name ≡ e.name → f ≡ e
one-at [] p k e f apart is inside at same = absurd cc
one-at (x ∷ xs) zero zero e f apart is inside at same = let first : x ≡ e = cc in sym at ∙ first
one-at (x ∷ xs) zero (suc k) e f apart is inside at same =
    let there : x ≡ e = cc in
    let first : x.name ≡ e.name = ap (λ (e : Entry). e.name) there in
    absurd (apart.0 (names-within xs k f x.name (omega arith) at (same ∙ sym first)))
one-at (x ∷ xs) (suc p) zero e f apart is inside at same =
    let named : x.name ≡ e.name = ap (λ (e : Entry). e.name) at ∙ same in
    absurd (apart.0 (rw named (names-at xs p e is)))
one-at (x ∷ xs) (suc p) (suc k) e f apart is inside at same = one-at xs p k e f apart.1 is (omega arith) at same

pub one-named : (es : List Entry) (p : ℕ) (e f : Entry) → AreDistinct (names_of es) → slice_get es p ≡ Some e → Contains es f → f.name ≡ e.name → f ≡ e
one-named es p e f apart is there same = one-at es p there.0 e f apart is there.1 there.2 same

pub free-upgrade : (es : List Entry) (name label : List ℕ) (policy : Policy) (r : Refusal) (p : ℕ) (e : Entry) → AreDistinct (names_of es) → slice_get es p ≡ Some e
    → e.name ≡ name → is_same_kind e.policy policy ≡ true → IsReasonToReject es (Upgrade name label policy) r → ⊥
free-upgrade es name label policy r p e apart is same kind against =
    let other = upgrade-other es name label policy r (has-name es p e name is same) against in
    let one : other.1.0 ≡ e = one-named es p e other.1.0 apart is other.1.1 (other.1.2 ∙ sym same) in
    let not_kind : is_same_kind e.policy policy ≡ false = rw one at other.1.3 in
    cc

-- an engine that is taken out, changed and put back
pub put-back : {X : Type 0} (xs : List X) (p : ℕ) (x : X) → p < length xs → insert (remove xs p) p x ≡ set xs p x
put-back [] p x inside = absurd (omega arith)
put-back (y ∷ ys) zero x inside = refl
put-back (y ∷ ys) (suc p) x inside = let rest = put-back ys p x (omega arith) in cc

pub has_first : (es : List EngineParts) (k : ℕ) (d : EngineParts) (name : List ℕ) → k < length es → (get_or es k d).entry.name ≡ name
    → Contains (names_of (map (λ e. e.entry) es)) name
has_first [] k d name inside same = absurd (omega arith)
has_first (x ∷ xs) zero d name inside same = (0, omega arith, same)
has_first (x ∷ xs) (suc k) d name inside same = let rest = has_first xs k d name (omega arith) same in (suc rest.0, omega (arith, rest.1), rest.2)

pub inserted-at : {X : Type 0} (xs : List X) (p : ℕ) (x : X) → p ≤ length xs → slice_get (insert xs p x) p ≡ Some x
inserted-at [] zero x le = refl
inserted-at [] (suc p) x le = absurd (omega arith)
inserted-at (y ∷ ys) zero x le = refl
inserted-at (y ∷ ys) (suc p) x le = inserted-at ys p x (omega arith)

-- an attachment
pub attach-changes : (es : List EngineParts) (n at : ℕ) (name label : List ℕ) (policy : Policy) (e : EngineParts)
    → ((before : Chain) (op : Op) → IsChain before → ((r : Refusal) → IsRejection before op r → ⊥) → HasChanged before op (changed op before))
    → IsChain (record { entries = map (λ e. e.entry) es; attached = n })
    → ((r : Refusal) → IsReasonToReject (map (λ e. e.entry) es) (Attach at name label policy) r → ⊥) → e.entry ≡ new_entry name (n + 1) policy
    → HasChanged (record { entries = map (λ e. e.entry) es; attached = n }) (Attach at name label policy)
    (record { entries = map (λ e. e.entry) (insert es at e); attached = n + 1 })
attach-changes es n at name label policy e law chain free is =
    let same : insert (map (λ e. e.entry) es) at (new_entry name (n + 1) policy) ≡ map (λ e. e.entry) (insert es at e) =
    ap (λ (x : Entry). insert (map (λ e. e.entry) es) at x) (sym is) ∙ sym (insert-map (λ (e : EngineParts). e.entry) es at e) in
    subst (λ (entries : List Entry). HasChanged (record { entries = map (λ e. e.entry) es; attached = n }) (Attach at name label policy) (record { entries = entries; attached = n + 1 })) same
    (law (record { entries = map (λ e. e.entry) es; attached = n }) (Attach at name label policy) chain (λ r refuses. free r refuses.against))
