-- The reasons for which a chain rejects an operation, and the first of them.
use Rattle.std.proofs.Common.{◌≡◌, ℕ, ◌<◌, ◌≤◌, zero, suc, true, false, not, ◌⊎◌, inl, inr, List, [], ◌∷◌, length}
use Rattle.std.proofs.Common.{Contains, Option, Some, None, refl, ap, sym, ◌∙◌, arith}
use Rattle.std.specs.Prelude.{nat_lt, nat_le, if◌then◌else◌}
use Rattle.std.proofs.lemmas.Bool.{cases_Bool, cond_both, ltb-true, ltb-false, leb-true, leb-false, and_parts, and_from, or_left, or_right, false≢true, not-true, not_from_false, not-false}
use Rattle.std.proofs.lemmas.Slice.Eq.{bytes_eq-Decides}
use Rattle.engine_core.specs.Policies.{is_same_kind}
use Rattle.engine_core.specs.Chains.{Entry, Chain, Refusal, no_such, taken, no_place, full, other_kind, refusal_rank}
use Rattle.engine_core.specs.Chains.{IsReasonToReject, detaches_none, upgrades_none, is_taken, is_past, is_full, is_other}
use Rattle.engine_core.specs.Chains.{IsRejection, names_of, is_named}
use Rattle.engine_core.specs.declared.policy.Policy.{Policy}
use Rattle.engine_core.specs.declared.op.Op.{Op}
use Rattle.engine_core.specs.declared.op.Op.TheVariants.{Attach, Detach, Upgrade}
use Rattle.script_grammar.specs.declared.fault.ScriptReason.{ScriptReason}
use Rattle.script_grammar.specs.declared.fault.ScriptReason.TheVariants as reason
use Rattle.replay_script.specs.Deciding.{has_name, is_other as is_other_entry, has_other, op_reason, unless}
use Rattle.replay_script.specs.Lines.{reason_of_refusal}

-- ---- an attachment

-- the reasons of one, in their order
pub attach-order : (es : List Entry) (at : ℕ) (name label : List ℕ) (policy : Policy) (r : Refusal) → IsReasonToReject es (Attach at name label policy) r
    → ((refusal_rank r ≡ 2) × Contains (names_of es) name) ⊎ (((refusal_rank r ≡ 3) × (length es < at)) ⊎ ((refusal_rank r ≡ 4) × (8 ≤ length es)))
attach-order es at name label policy r (detaches_none name' is none s) = absurd cc
attach-order es at name label policy r (upgrades_none name' label' policy' is none s) = absurd cc
attach-order es at name label policy r (is_taken at' name' label' policy' is has s) =
    let same : name ≡ name' = cc in
    inl (ap refusal_rank s, rw same has)
attach-order es at name label policy r (is_past at' name' label' policy' is past s) =
    let same : at ≡ at' = cc in
    inr (inl (ap refusal_rank s, omega arith))
attach-order es at name label policy r (is_full at' name' label' policy' is many s) = inr (inr (ap refusal_rank s, many))
attach-order es at name label policy r (is_other name' label' policy' e is there named other s) = absurd cc

pub refuses-taken : (c : Chain) (at : ℕ) (name label : List ℕ) (policy : Policy) → Contains (names_of c.entries) name
    → IsRejection c (Attach at name label policy) (taken name)
refuses-taken c at name label policy has = record {
  against = is_taken at name label policy refl has refl;
  first = λ other less against. elim (attach-order c.entries at name label policy other against) [
    | inl is ↦ omega (arith, is.0)
    | inr rest ↦ elim rest [ inl is ↦ omega (arith, is.0) | inr is ↦ omega (arith, is.0) ]
  ];
}

pub refuses-place : (c : Chain) (at : ℕ) (name label : List ℕ) (policy : Policy) → (Contains (names_of c.entries) name → ⊥) → length c.entries < at
    → IsRejection c (Attach at name label policy) (no_place at)
refuses-place c at name label policy none past = record {
  against = is_past at name label policy refl past refl;
  first = λ other less against. elim (attach-order c.entries at name label policy other against) [
    | inl is ↦ none is.1
    | inr rest ↦ elim rest [ inl is ↦ omega (arith, is.0) | inr is ↦ omega (arith, is.0) ]
  ];
}

pub refuses-full : (c : Chain) (at : ℕ) (name label : List ℕ) (policy : Policy) → (Contains (names_of c.entries) name → ⊥) → at ≤ length c.entries
    → 8 ≤ length c.entries → IsRejection c (Attach at name label policy) (full (length c.entries))
refuses-full c at name label policy none within many = record {
  against = is_full at name label policy refl many refl;
  first = λ other less against. elim (attach-order c.entries at name label policy other against) [
    | inl is ↦ none is.1
    | inr rest ↦ elim rest [ inl is ↦ omega (arith, is.1) | inr is ↦ omega (arith, is.0) ]
  ];
}

pub free-attach : (es : List Entry) (at : ℕ) (name label : List ℕ) (policy : Policy) (r : Refusal) → (Contains (names_of es) name → ⊥) → at ≤ length es
    → length es < 8 → IsReasonToReject es (Attach at name label policy) r → ⊥
free-attach es at name label policy r none within few against = elim (attach-order es at name label policy r against) [
  | inl is ↦ none is.1
  | inr rest ↦ elim rest [ inl is ↦ omega (arith, is.1) | inr is ↦ omega (arith, is.1) ]
]

-- ---- an operation on the entry of a name

order-least : (r : Refusal) → 1 ≤ refusal_rank r
order-least (no_such name) = omega arith
order-least (taken name) = omega arith
order-least (no_place at) = omega arith
order-least (full entries) = omega arith
order-least (other_kind name) = omega arith

pub refuses-detach : (c : Chain) (name : List ℕ) → (Contains (names_of c.entries) name → ⊥) → IsRejection c (Detach name) (no_such name)
refuses-detach c name none = record {
  against = detaches_none name refl none refl;
  first = λ other less against. omega (arith, order-least other);
}

pub free-detach : (es : List Entry) (name : List ℕ) (r : Refusal) → Contains (names_of es) name → IsReasonToReject es (Detach name) r → ⊥
free-detach es name r has (detaches_none name' is none s) = let same : name ≡ name' = cc in none (rw same at has)
free-detach es name r has (upgrades_none name' label' policy' is none s) = absurd cc
free-detach es name r has (is_taken at' name' label' policy' is has' s) = absurd cc
free-detach es name r has (is_past at' name' label' policy' is past s) = absurd cc
free-detach es name r has (is_full at' name' label' policy' is many s) = absurd cc
free-detach es name r has (is_other name' label' policy' e is there named other s) = absurd cc

pub refuses-upgrade : (c : Chain) (name label : List ℕ) (policy : Policy) → (Contains (names_of c.entries) name → ⊥)
    → IsRejection c (Upgrade name label policy) (no_such name)
refuses-upgrade c name label policy none = record {
  against = upgrades_none name label policy refl none refl;
  first = λ other less against. omega (arith, order-least other);
}

-- the reason of an upgrade whose name exists: an entry with the name is of another kind
upgrade-other : (es : List Entry) (name label : List ℕ) (policy : Policy) (r : Refusal) → Contains (names_of es) name
    → IsReasonToReject es (Upgrade name label policy) r
    → (refusal_rank r ≡ 5) × ((e : Entry) × Contains es e × (e.name ≡ name) × (is_same_kind e.policy policy ≡ false))
upgrade-other es name label policy r has (detaches_none name' is none s) = absurd cc
upgrade-other es name label policy r has (upgrades_none name' label' policy' is none s) = let same : name ≡ name' = cc in absurd (none (rw same at has))
upgrade-other es name label policy r has (is_taken at' name' label' policy' is has' s) = absurd cc
upgrade-other es name label policy r has (is_past at' name' label' policy' is past s) = absurd cc
upgrade-other es name label policy r has (is_full at' name' label' policy' is many s) = absurd cc
upgrade-other es name label policy r has (is_other name' label' policy' e is there named other s) =
    let same : name ≡ name' = cc in
    let kind : policy ≡ policy' = cc in
    (ap refusal_rank s, (e, there, named ∙ sym same, rw kind other))

pub refuses-kind : (c : Chain) (name label : List ℕ) (policy : Policy) (e : Entry) → Contains (names_of c.entries) name → Contains c.entries e → e.name ≡ name
    → is_same_kind e.policy policy ≡ false → IsRejection c (Upgrade name label policy) (other_kind name)
refuses-kind c name label policy e has there named other = record {
  against = is_other name label policy e refl there named other refl;
  first = λ r less against. omega (arith, (upgrade-other c.entries name label policy r has against).0);
}

-- ---- what the tests find

pub has-true : (name : List ℕ) (es : List Entry) → has_name name es ≡ true → Contains (names_of es) name
has-true name [] e = absurd (false≢true e)
has-true name (x ∷ xs) e = elim (cases_Bool (is_named name x)) [
  | inl is ↦ (0, omega arith, (bytes_eq-Decides x.name name).0 is)
  | inr isnt ↦
      let rest = has-true name xs (rw isnt at e) in
      (suc rest.0, (let within = rest.1 in omega (arith, within)), rest.2)
]

pub named-has : (name : List ℕ) (es : List Entry) → Contains (names_of es) name → has_name name es ≡ true
named-has name [] (k, within, same) = absurd (omega (arith, within))
named-has name (y ∷ ys) (zero, within, same) = or_left (is_named name y) (has_name name ys) ((bytes_eq-Decides y.name name).1 same)
named-has name (y ∷ ys) (suc k, within, same) = or_right (is_named name y) (has_name name ys) (named-has name ys (k, omega (arith, within), same))

pub has-false : (name : List ℕ) (es : List Entry) → has_name name es ≡ false → Contains (names_of es) name → ⊥
has-false name es e has = false≢true (sym e ∙ named-has name es has)

pub other-true : (name : List ℕ) (policy : Policy) (es : List Entry) → has_other name policy es ≡ true
    → (e : Entry) × Contains es e × (e.name ≡ name) × (is_same_kind e.policy policy ≡ false)
other-true name policy [] e = absurd (false≢true e)
other-true name policy (x ∷ xs) e = elim (cases_Bool (is_other_entry name policy x)) [
  | inl is ↦
      let parts = and_parts (is_named name x) (not (is_same_kind x.policy policy)) is in
      (x, (0, omega arith, refl), (bytes_eq-Decides x.name name).0 parts.0, not-true (is_same_kind x.policy policy) parts.1)
  | inr isnt ↦
      let rest = other-true name policy xs (rw isnt at e) in
      (rest.0, (suc rest.1.0, (let within = rest.1.1 in omega (arith, within)), rest.1.2), rest.2, rest.3)
]

pub other-has : (name : List ℕ) (policy : Policy) (es : List Entry) (e : Entry) → Contains es e → e.name ≡ name
    → is_same_kind e.policy policy ≡ false → has_other name policy es ≡ true
other-has name policy [] e (k, within, same) is kind = absurd (omega (arith, within))
other-has name policy (y ∷ ys) e (zero, within, same) is kind =
    or_left (is_other_entry name policy y) (has_other name policy ys)
    (and_from (is_named name y) (not (is_same_kind y.policy policy)) ((bytes_eq-Decides y.name name).1 (ap (λ (e : Entry). e.name) same ∙ is))
    (not_from_false (is_same_kind y.policy policy) (ap (λ (e : Entry). is_same_kind e.policy policy) same ∙ kind)))
other-has name policy (y ∷ ys) e (suc k, within, same) is kind =
    or_right (is_other_entry name policy y) (has_other name policy ys)
    (other-has name policy ys e (k, omega (arith, within), same) is kind)

pub free-upgrade : (es : List Entry) (name label : List ℕ) (policy : Policy) (r : Refusal)
    → Contains (names_of es) name → has_other name policy es ≡ false → IsReasonToReject es (Upgrade name label policy) r → ⊥
free-upgrade es name label policy r has none against =
    let found = (upgrade-other es name label policy r has against).1 in
    false≢true (sym none ∙ other-has name policy es found.0 found.1 found.2 found.3)

-- ---- the verdict of the tests

abbrev pub OpVerdict : Chain → Op → Option ScriptReason → Type 0
OpVerdict c o None = (refusal : Refusal) → IsReasonToReject c.entries o refusal → ⊥
OpVerdict c o (Some r) = (refusal : Refusal) × IsRejection c o refusal × (r ≡ reason_of_refusal refusal)

pub op_verdict : (c : Chain) (o : Op) → OpVerdict c o (op_reason o c.entries)
op_verdict c (Attach at name label policy) =
    let es = c.entries in
    let o : Op = Attach at name label policy in
    cond_both (has_name name es) (Some reason.Taken) (if nat_lt (length es) at then Some reason.At else if nat_le 8 (length es) then Some reason.ChainFull else None) (OpVerdict c o)
    (λ has. (taken name, refuses-taken c at name label policy (has-true name es has), refl))
    (λ free.
    cond_both (nat_lt (length es) at) (Some reason.At) (if nat_le 8 (length es) then Some reason.ChainFull else None) (OpVerdict c o)
    (λ past. (no_place at, refuses-place c at name label policy (has-false name es free) (ltb-true _ _ past), refl))
    (λ within.
    cond_both (nat_le 8 (length es)) (Some reason.ChainFull) None (OpVerdict c o)
    (λ many. (full (length es), refuses-full c at name label policy (has-false name es free) (ltb-false _ _ within) (leb-true _ _ many), refl))
    (λ few. (λ refusal against. free-attach es at name label policy refusal (has-false name es free) (ltb-false _ _ within) (leb-false _ _ few) against))))
op_verdict c (Detach name) =
    let es = c.entries in
    cond_both (has_name name es) None (Some reason.NoSuch) (OpVerdict c (Detach name))
    (λ has. (λ refusal against. free-detach es name refusal (has-true name es has) against))
    (λ none. (no_such name, refuses-detach c name (has-false name es none), refl))
op_verdict c (Upgrade name label policy) =
    let es = c.entries in
    let o : Op = Upgrade name label policy in
    cond_both (has_name name es) (unless (not (has_other name policy es)) reason.OtherKind) (Some reason.NoSuch) (OpVerdict c o)
    (λ has.
    cond_both (not (has_other name policy es)) None (Some reason.OtherKind) (OpVerdict c o)
    (λ none. (λ refusal against. free-upgrade es name label policy refusal (has-true name es has) (not-true (has_other name policy es) none) against))
    (λ some. (let e = other-true name policy es (not-false (has_other name policy es) some) in
    (other_kind name, refuses-kind c name label policy e.0 (has-true name es has) e.1 e.2 e.3, refl))))
    (λ none. (no_such name, refuses-upgrade c name label policy (has-false name es none), refl))
