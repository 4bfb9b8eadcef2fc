-- The effect of an operation on a chain, and the reason why it is rejected.
use Rattle.std.proofs.Common.{◌≡◌, ◌≢◌, ℕ, ◌+◌, ◌<◌, ◌≤◌, ◌==◌, zero, suc, Bool, true, false, not, if◌then◌else◌, ◌⊎◌}
use Rattle.std.proofs.Common.{inl, inr, List, [], ◌∷◌, ◌++◌, length, map, filter, take, drop, All, Contains}
use Rattle.std.proofs.Common.{slice_index_or, refl, ap, sym, ◌∙◌, subst, arith, take-append-drop, length-append}
use Rattle.std.proofs.Common.{length-take-le}
use Rattle.std.proofs.lemmas.Bool.{cases_lt}
use Rattle.std.proofs.lemmas.Grind.{common_steps}
use Rattle.std.proofs.lemmas.List.{map-append}
use Rattle.std.proofs.lemmas.Bool.Decides.{nat_tests}
use Rattle.std.proofs.lemmas.List.Elements.{All-contains, All-contains_itself, All-weaker, Contains-append_cases, Contains-append_left, Contains-append_right, Contains-push_cases}
use Rattle.std.proofs.lemmas.Slice.Eq.{bytes_eq-Decides}
use Rattle.mrpc_table.specs.Valid.{AreDistinct}
use Rattle.engine_core.specs.Policies.{is_same_kind}
use Rattle.engine_core.specs.Chains.{Entry, Chain, IsChain, Refusal, no_such, taken, no_place, full, other_kind}
use Rattle.engine_core.specs.Chains.{refusal_rank, IsReasonToReject, detaches_none, upgrades_none, is_taken, is_past, is_full}
use Rattle.engine_core.specs.Chains.{is_other, IsRejection, IsChangeOf, attaches, detaches, upgrades, HasChanged, names_of}
use Rattle.engine_core.specs.Chains.{attachments_of, new_entry, upgraded, is_named, changed}
use Rattle.engine_core.specs.declared.policy.Policy.{Policy}
use Rattle.engine_core.specs.declared.op.Op.{Op}
use Rattle.engine_core.specs.declared.op.Op.TheVariants.{Attach, Detach, Upgrade}

-- ---- at most one reason

same-against : (entries : List Entry) (op : Op) (r s : Refusal) → IsReasonToReject entries op r → IsReasonToReject entries op s → refusal_rank r ≡ refusal_rank s → r ≡ s
same-against entries op r s (detaches_none name is none first) second same = grind (arith, common_steps)
same-against entries op r s (upgrades_none name label policy is none first) second same = grind (arith, common_steps)
same-against entries op r s (is_taken at name label policy is some first) second same = grind (arith, common_steps)
same-against entries op r s (is_past at name label policy is past first) second same = grind (arith, common_steps)
same-against entries op r s (is_full at name label policy is more first) second same = grind (arith, common_steps)
same-against entries op r s (is_other name label policy e is there named other first) second same = grind (arith, common_steps)

same-order : (chain : Chain) (op : Op) (r s : Refusal) → IsRejection chain op r → IsRejection chain op s → refusal_rank r ≡ refusal_rank s
same-order chain op r s first second = elim (cases_lt (refusal_rank r) (refusal_rank s)) [
  | inl less ↦ absurd (second.first r less first.against)
  | inr more ↦ elim (cases_lt (refusal_rank s) (refusal_rank r)) [ inl less ↦ absurd (first.first s less second.against) | inr more' ↦ omega arith ]
]

pub one_refusal : (chain : Chain) (op : Op) (r s : Refusal) → IsRejection chain op r → IsRejection chain op s → r ≡ s
one_refusal chain op r s first second = same-against chain.entries op r s first.against second.against (same-order chain op r s first second)

pub not_both : (before after : Chain) (op : Op) (refusal : Refusal) → HasChanged before op after → IsRejection before op refusal → ⊥
not_both before after op refusal changes refuses = changes.free refusal refuses.against

-- ---- names are texts, and so equal or not

same-number : (a b : ℕ) (t : Bool) → (a == b) ≡ t → (a ≡ b) ⊎ (a ≢ b)
same-number a b true is = inl (grind (arith, nat_tests, common_steps))
same-number a b false is = inr (λ same. grind (arith, nat_tests, common_steps))

same-pair : (a b : ℕ) (xs ys : List ℕ) → (a ≡ b) ⊎ (a ≢ b) → (xs ≡ ys) ⊎ (xs ≢ ys) → (a ∷ xs ≡ b ∷ ys) ⊎ (a ∷ xs ≢ b ∷ ys)
same-pair a b xs ys (inl first) (inl rest) = inl cc
same-pair a b xs ys (inl first) (inr other) = inr (λ same. other cc)
same-pair a b xs ys (inr other) rest = inr (λ same. other cc)

same-text : (xs ys : List ℕ) → (xs ≡ ys) ⊎ (xs ≢ ys)
same-text [] [] = inl refl
same-text [] (y ∷ ys) = inr (λ same. cc)
same-text (x ∷ xs) [] = inr (λ same. cc)
same-text (x ∷ xs) (y ∷ ys) = same-pair x y xs ys (same-number x y (x == y) refl) (same-text xs ys)

Contains-nil : {X : Type 0} (x : X) → Contains [] x → ⊥
Contains-nil x has = omega (arith, has.1)

Contains-cons : {X : Type 0} (x : X) (xs : List X) (y : X) → Contains xs y → Contains (x ∷ xs) y
Contains-cons x xs y has = (suc has.0, omega (arith, has.1), has.2)

contained : {X : Type 0} (x : X) (xs : List X) (y : X) → Contains (x ∷ xs) y → (x ≡ y) ⊎ Contains xs y
contained x xs y has =
    elim (Contains-append_cases (x ∷ []) xs y has) [
      | inl first ↦ elim (Contains-push_cases [] x y first) [
        | inl none ↦ absurd (Contains-nil y none)
        | inr same ↦ inl
            same
      ]
      | inr rest ↦ inr rest
    ]

named : (name : List ℕ) (names : List (List ℕ)) → Contains names name ⊎ (Contains names name → ⊥)
named name [] = inr (Contains-nil name)
named name (x ∷ xs) = elim (same-text x name) [
  | inl same ↦ inl (0, omega arith, same)
  | inr other ↦ elim (named name xs) [
    | inl has ↦ inl (Contains-cons x xs name has)
    | inr none ↦ inr
        (λ has. elim (contained x xs name has) [ inl same ↦ other same | inr has' ↦ none has' ])
  ]
]

-- ---- at most one chain

same-front : {X : Type 0} (xs ys us vs : List X) → xs ++ ys ≡ us ++ vs → length xs ≡ length us → (xs ≡ us) × (ys ≡ vs)
same-front [] ys [] vs same len = (refl, same)
same-front [] ys (u ∷ us) vs same len = absurd cc
same-front (x ∷ xs) ys [] vs same len = absurd cc
same-front (x ∷ xs) ys (u ∷ us) vs same len =
    let behind : xs ++ ys ≡ us ++ vs = cc in
    let fewer : length xs ≡ length us = cc in
    let rest = same-front xs ys us vs behind fewer in
    let front : xs ≡ us = rest.0 in
    (cc, rest.1)

-- an entry with a name
pub has-entry : (front back : List Entry) (e : Entry) → Contains (names_of (front ++ e ∷ back)) e.name
has-entry [] back e = (0, omega arith, refl)
has-entry (x ∷ front) back e = Contains-cons x.name (names_of (front ++ e ∷ back)) e.name (has-entry front back e)

-- names are distinct, so an entry is at one position alone
not_twice : (x : Entry) (front back : List Entry) (e : Entry) → (Contains (names_of (front ++ e ∷ back)) x.name → ⊥) → x.name ≡ e.name → ⊥
not_twice x front back e apart same = apart (rw same (has-entry front back e))

same-place : (front back us vs : List Entry) (e f : Entry) → AreDistinct (names_of (front ++ e ∷ back)) → front ++ e ∷ back ≡ us ++ f ∷ vs → e.name ≡ f.name
    → (front ≡ us) × (e ≡ f) × (back ≡ vs)
same-place [] back [] vs e f apart same named = (refl, cc, cc)
same-place [] back (u ∷ us) vs e f apart same named =
    let behind : back ≡ us ++ f ∷ vs = cc in
    absurd (not_twice e us vs f (rw behind at apart.0) named)
same-place (x ∷ front) back [] vs e f apart same named =
    let first : x ≡ f = cc in
    absurd (not_twice x front back e apart.0 (ap (λ (y : Entry). y.name) first ∙ sym named))
same-place (x ∷ front) back (u ∷ us) vs e f apart same named =
    let behind : front ++ e ∷ back ≡ us ++ f ∷ vs = cc in
    let rest = same-place front back us vs e f apart.1 behind named in
    let front' : front ≡ us = rest.0 in
    (cc, rest.1, rest.2)

-- the entry with the name
split-at : (es : List Entry) (k : ℕ) (name : List ℕ) → k < length (names_of es) → slice_index_or (names_of es) k name ≡ name
    → (front : List Entry) × (e : Entry) × (back : List Entry) × (es ≡ front ++ e ∷ back) × (e.name ≡ name)
split-at [] k name within is = absurd (omega arith)
split-at (x ∷ es) zero name within is = ([], x, es, refl, is)
split-at (x ∷ es) (suc k) name within is =
    let rest = split-at es k name (omega arith) is in
    (x ∷ rest.0, rest.1, rest.2, ap (λ (xs : List Entry). x ∷ xs) rest.3, rest.4)

pub split : (es : List Entry) (name : List ℕ) → Contains (names_of es) name
    → (front : List Entry) × (e : Entry) × (back : List Entry) × (es ≡ front ++ e ∷ back) × (e.name ≡ name)
split es name has = split-at es has.0 name has.1 has.2

pub one_chain : (before after other : Chain) (op : Op) → IsChain before → IsChangeOf before op after → IsChangeOf before op other → after ≡ other
one_chain before after other op chain (attaches at name label policy front back is whole at_is result) (attaches at' name' label' policy' front' back' is' whole' at_is' result') =
    let places : at ≡ at' = cc in
    let same = same-front front back front' back' (sym whole ∙ whole') (at_is ∙ places ∙ sym at_is') in
    let fronts : front ≡ front' = same.0 in
    let backs : back ≡ back' = same.1 in
    cc
one_chain before after other op chain (attaches at name label policy front back is whole at_is result) (detaches name' e' front' back' is' whole' named' result') = absurd cc
one_chain before after other op chain (attaches at name label policy front back is whole at_is result) (upgrades name' label' policy' e' front' back' is' whole' named' result') = absurd cc
one_chain before after other op chain (detaches name e front back is whole named result) (attaches at' name' label' policy' front' back' is' whole' at_is' result') = absurd cc
one_chain before after other op chain (detaches name e front back is whole named result) (detaches name' e' front' back' is' whole' named' result') =
    let names : name ≡ name' = cc in
    let same = same-place front back front' back' e e' (rw whole at chain.names) (sym whole ∙ whole') (named ∙ names ∙ sym named') in
    let fronts : front ≡ front' = same.0 in
    let backs : back ≡ back' = same.2 in
    cc
one_chain before after other op chain (detaches name e front back is whole named result) (upgrades name' label' policy' e' front' back' is' whole' named' result') = absurd cc
one_chain before after other op chain (upgrades name label policy e front back is whole named result) (attaches at' name' label' policy' front' back' is' whole' at_is' result') = absurd cc
one_chain before after other op chain (upgrades name label policy e front back is whole named result) (detaches name' e' front' back' is' whole' named' result') = absurd cc
one_chain before after other op chain (upgrades name label policy e front back is whole named result) (upgrades name' label' policy' e' front' back' is' whole' named' result') =
    let names : name ≡ name' = cc in
    let same = same-place front back front' back' e e' (rw whole at chain.names) (sym whole ∙ whole') (named ∙ names ∙ sym named') in
    let fronts : front ≡ front' = same.0 in
    let backs : back ≡ back' = same.2 in
    let entries : e ≡ e' = same.1 in
    cc

-- ---- an operation changes a chain or is rejected

-- no reason against an attachment comes before the first of the three
against-attach : (entries : List Entry) (at : ℕ) (name label : List ℕ) (policy : Policy) (other : Refusal) → IsReasonToReject entries (Attach at name label policy) other
    → ((refusal_rank other ≡ 2) × Contains (names_of entries) name) ⊎ (((refusal_rank other ≡ 3) × (length entries < at)) ⊎ ((refusal_rank other ≡ 4) × (8 ≤ length entries)))
against-attach entries at name label policy other (detaches_none n is none r) = absurd cc
against-attach entries at name label policy other (upgrades_none n l p is none r) = absurd cc
against-attach entries at name label policy other (is_taken a n l p is some r) =
    let names : n ≡ name = cc in inl (ap refusal_rank r, subst (λ (m : List ℕ). Contains (names_of entries) m) names some)
against-attach entries at name label policy other (is_past a n l p is past r) =
    let places : a ≡ at = cc in inr (inl (ap refusal_rank r, rw (← places) past))
against-attach entries at name label policy other (is_full a n l p is more r) = inr (inr (ap refusal_rank r, more))
against-attach entries at name label policy other (is_other n l p e is there named differs r) = absurd cc

attach-changes : (before : Chain) (at : ℕ) (name label : List ℕ) (policy : Policy)
    → (Contains (names_of before.entries) name → ⊥) → at ≤ length before.entries → length before.entries < 8
    → (after : Chain) × HasChanged before (Attach at name label policy) after
attach-changes before at name label policy none within few = (
  record { entries = take at before.entries ++ new_entry name (before.attached + 1) policy ∷ drop at before.entries; attached = before.attached + 1 },
  record {
    free = λ other against. elim (against-attach before.entries at name label policy other against)
        [ inl taken' ↦ none taken'.1 | inr rest ↦ elim rest [ inl past ↦ omega (arith, past.1) | inr more ↦ omega (arith, more.1) ] ];
    effect = attaches at name label policy (take at before.entries) (drop at before.entries) refl (sym (take-append-drop at before.entries)) (length-take-le at before.entries within) refl;
  },
)

attach-taken : (before : Chain) (at : ℕ) (name label : List ℕ) (policy : Policy) → Contains (names_of before.entries) name → IsRejection before (Attach at name label policy) (taken name)
attach-taken before at name label policy some = record {
  against = is_taken at name label policy refl some refl;
  first = λ other less against. elim (against-attach before.entries at name label policy other against)
      [ inl taken' ↦ omega (arith, taken'.0) | inr rest ↦ elim rest [ inl past ↦ omega (arith, past.0) | inr more ↦ omega (arith, more.0) ] ];
}

attach-past : (before : Chain) (at : ℕ) (name label : List ℕ) (policy : Policy)
    → (Contains (names_of before.entries) name → ⊥) → length before.entries < at
    → IsRejection before (Attach at name label policy) (no_place at)
attach-past before at name label policy none past = record {
  against = is_past at name label policy refl past refl;
  first = λ other less against. elim (against-attach before.entries at name label policy other against)
      [ inl taken' ↦ none taken'.1 | inr rest ↦ elim rest [ inl past' ↦ omega (arith, past'.0) | inr more ↦ omega (arith, more.0) ] ];
}

attach-full : (before : Chain) (at : ℕ) (name label : List ℕ) (policy : Policy)
    → (Contains (names_of before.entries) name → ⊥) → at ≤ length before.entries → 8 ≤ length before.entries
    → IsRejection before (Attach at name label policy) (full (length before.entries))
attach-full before at name label policy none within more = record {
  against = is_full at name label policy refl more refl;
  first = λ other less against. elim (against-attach before.entries at name label policy other against)
      [ inl taken' ↦ none taken'.1 | inr rest ↦ elim rest [ inl past ↦ omega (arith, past.1) | inr more' ↦ omega (arith, more'.0) ] ];
}

either-attach : (before : Chain) (at : ℕ) (name label : List ℕ) (policy : Policy)
    → ((after : Chain) × HasChanged before (Attach at name label policy) after) ⊎ ((refusal : Refusal) × IsRejection before (Attach at name label policy) refusal)
either-attach before at name label policy = elim (named name (names_of before.entries)) [
  | inl some ↦ inr (taken name, attach-taken before at name label policy some)
  | inr none ↦ elim (cases_lt (length before.entries) at) [
    | inl past ↦ inr (no_place at, attach-past before at name label policy none past)
    | inr within ↦ elim (cases_lt (length before.entries) 8) [
      | inl few ↦ inl (attach-changes before at name label policy none within few)
      | inr more ↦ inr (full (length before.entries), attach-full before at name label policy none within more)
    ]
  ]
]

against-detach : (entries : List Entry) (name : List ℕ) (other : Refusal) → IsReasonToReject entries (Detach name) other → (refusal_rank other ≡ 1) × (Contains (names_of entries) name → ⊥)
against-detach entries name other (detaches_none n is none r) =
    let names : n ≡ name = cc in (ap refusal_rank r, λ has. none (subst (λ (m : List ℕ). Contains (names_of entries) m) (sym names) has))
against-detach entries name other (upgrades_none n l p is none r) = absurd cc
against-detach entries name other (is_taken a n l p is some r) = absurd cc
against-detach entries name other (is_past a n l p is past r) = absurd cc
against-detach entries name other (is_full a n l p is more r) = absurd cc
against-detach entries name other (is_other n l p e is there named differs r) = absurd cc

either-detach : (before : Chain) (name : List ℕ)
    → ((after : Chain) × HasChanged before (Detach name) after) ⊎ ((refusal : Refusal) × IsRejection before (Detach name) refusal)
either-detach before name = elim (named name (names_of before.entries)) [
  | inl some ↦ inl (detach-changes (split before.entries name some))
  | inr none ↦ inr (
    no_such name,
    record {
      against = detaches_none name refl none refl;
      first = λ other less against. omega (arith, (against-detach before.entries name other against).0);
    },
  )
]
  where
    detach-changes : (front : List Entry) × (e : Entry) × (back : List Entry) × (before.entries ≡ front ++ e ∷ back)
        × (e.name ≡ name) → (after : Chain) × HasChanged before (Detach name) after
    detach-changes cut = (
      record { entries = cut.0 ++ cut.2; attached = before.attached },
      record {
        free = λ other against. (against-detach before.entries name other against).1 (rw cut.3 (rw (← cut.4) (has-entry cut.0 cut.2 cut.1)));
        effect = detaches name cut.1 cut.0 cut.2 refl cut.3 cut.4 refl;
      },
    )

-- the position of an entry of a chain
cut-at : (es : List Entry) (k : ℕ) (e : Entry) → k < length es → slice_index_or es k e ≡ e → (front : List Entry) × (back : List Entry) × (es ≡ front ++ e ∷ back)
cut-at [] k e within is = absurd (omega arith)
cut-at (x ∷ es) zero e within is = ([], es, ap (λ (y : Entry). y ∷ es) is)
cut-at (x ∷ es) (suc k) e within is =
    let rest = cut-at es k e (omega arith) is in
    (x ∷ rest.0, rest.1, ap (λ (xs : List Entry). x ∷ xs) rest.2)

-- the only entry with a name
one_entry : (es front back : List Entry) (e f : Entry) → AreDistinct (names_of es) → es ≡ front ++ e ∷ back → Contains es f → f.name ≡ e.name → f ≡ e
one_entry es front back e f apart whole has named =
    let cut = cut-at es has.0 f has.1 has.2 in
    let same = same-place front back cut.0 cut.1 e f (rw whole at apart) (sym whole ∙ cut.2) (sym named) in
    sym same.1

against-upgrade : (entries : List Entry) (name label : List ℕ) (policy : Policy) (other : Refusal) → IsReasonToReject entries (Upgrade name label policy) other
    → ((refusal_rank other ≡ 1) × (Contains (names_of entries) name → ⊥))
    ⊎ ((refusal_rank other ≡ 5)
    × ((e : Entry) × Contains entries e × (e.name ≡ name) × (is_same_kind e.policy policy ≡ false)))
against-upgrade entries name label policy other (detaches_none n is none r) = absurd cc
against-upgrade entries name label policy other (upgrades_none n l p is none r) =
    let names : n ≡ name = cc in inl (ap refusal_rank r, λ has. none (subst (λ (m : List ℕ). Contains (names_of entries) m) (sym names) has))
against-upgrade entries name label policy other (is_taken a n l p is some r) = absurd cc
against-upgrade entries name label policy other (is_past a n l p is past r) = absurd cc
against-upgrade entries name label policy other (is_full a n l p is more r) = absurd cc
against-upgrade entries name label policy other (is_other n l p e is there named differs r) =
    let names : n ≡ name = cc in
    let policies : p ≡ policy = cc in
    inr (ap refusal_rank r, (e, there, named ∙ names, subst (λ (q : Policy). is_same_kind e.policy q ≡ false) policies differs))

abbrev Upgraded : Chain → List ℕ → List ℕ → Policy → Type 0
Upgraded before name label policy = ((after : Chain) × HasChanged before (Upgrade name label policy) after) ⊎ ((refusal : Refusal) × IsRejection before (Upgrade name label policy) refusal)

upgrade-by : (before : Chain) (name label : List ℕ) (policy : Policy) (front back : List Entry) (e : Entry) (b : Bool) → is_same_kind e.policy policy ≡ b
    → IsChain before → before.entries ≡ front ++ e ∷ back → e.name ≡ name → Contains (names_of before.entries) name → Upgraded before name label policy
upgrade-by before name label policy front back e true kind chain whole is some =
    inl (
      record { entries = front ++ upgraded e policy ∷ back; attached = before.attached },
      record {
        free = λ other against. elim (against-upgrade before.entries name label policy other against) [
          | inl none ↦ none.1 some
          | inr differs ↦ apart-kinds (one_entry before.entries front back e differs.1.0 chain.names whole differs.1.1 (differs.1.2 ∙ sym is)) differs.1.3
        ];
        effect = upgrades name label policy e front back refl whole is refl;
      },
    )
  where
    apart-kinds : {f : Entry} → f ≡ e → is_same_kind f.policy policy ≡ false → ⊥
    apart-kinds {f} same differs = cc
upgrade-by before name label policy front back e false kind chain whole is some =
    inr (
      other_kind name,
      record {
        against = is_other name label policy e refl (rw whole (Contains-append_right front (e ∷ back) e (0, omega arith, refl))) is kind refl;
        first = λ other less against. elim (against-upgrade before.entries name label policy other against) [ inl none ↦ none.1 some | inr differs ↦ omega (arith, differs.0) ];
      },
    )

either-upgrade : (before : Chain) (name label : List ℕ) (policy : Policy) → IsChain before → Upgraded before name label policy
either-upgrade before name label policy chain = elim (named name (names_of before.entries)) [
  | inl some ↦ by-cut some (split before.entries name some)
  | inr none ↦ inr (
    no_such name,
    record {
      against = upgrades_none name label policy refl none refl;
      first = λ other less against. elim (against-upgrade before.entries name label policy other against)
          [ inl none' ↦ omega (arith, none'.0) | inr differs ↦ omega (arith, differs.0) ];
    },
  )
]
  where
    by-cut : Contains (names_of before.entries) name → (front : List Entry) × (e : Entry) × (back : List Entry)
        × (before.entries ≡ front ++ e ∷ back) × (e.name ≡ name) → Upgraded before name label policy
    by-cut some cut = upgrade-by before name label policy cut.0 cut.2 cut.1 (is_same_kind cut.1.policy policy) refl chain cut.3 cut.4 some

pub either : (before : Chain) (op : Op) → IsChain before → ((after : Chain) × HasChanged before op after) ⊎ ((refusal : Refusal) × IsRejection before op refusal)
either before (Attach at name label policy) chain = either-attach before at name label policy
either before (Detach name) chain = either-detach before name
either before (Upgrade name label policy) chain = either-upgrade before name label policy chain

-- ---- an operation preserves the invariant

distinct-insert : {X : Type 0} (front back : List X) (x : X) → AreDistinct (front ++ back) → (Contains (front ++ back) x → ⊥) → AreDistinct (front ++ x ∷ back)
distinct-insert [] back x apart new = (new, apart)
distinct-insert (y ∷ front) back x apart new = (
  λ has. elim (Contains-append_cases front (x ∷ back) y has) [
    | inl there ↦ apart.0 (Contains-append_left front back y there)
    | inr behind ↦ elim (contained x back y behind) [ inl same ↦ new (0, omega arith, sym same) | inr there ↦ apart.0 (Contains-append_right front back y there) ]
  ],
  distinct-insert front back x apart.1 (λ has. new (Contains-cons y (front ++ back) x has)),
)

distinct-remove : {X : Type 0} (front back : List X) (x : X) → AreDistinct (front ++ x ∷ back) → AreDistinct (front ++ back)
distinct-remove [] back x apart = apart.1
distinct-remove (y ∷ front) back x apart = (
  λ has. apart.0 (elim (Contains-append_cases front back y has)
      [ inl there ↦ Contains-append_left front (x ∷ back) y there | inr behind ↦ Contains-append_right front (x ∷ back) y (Contains-cons x back y behind) ]),
  distinct-remove front back x apart.1,
)

-- like `distinct-insert`, for a mapped list
distinct-map-insert : {X Y : Type 0} (f : X → Y) (front back : List X) (x : X) → AreDistinct (map f (front ++ back))
    → (Contains (map f (front ++ back)) (f x) → ⊥) → AreDistinct (map f (front ++ x ∷ back))
distinct-map-insert f front back x apart new =
    rw (map-append f front (x ∷ back)) (distinct-insert (map f front) (map f back) (f x) (rw (map-append f front back) at apart) (λ has. new (rw (map-append f front back) has)))

distinct-map-remove : {X Y : Type 0} (f : X → Y) (front back : List X) (x : X) → AreDistinct (map f (front ++ x ∷ back)) → AreDistinct (map f (front ++ back))
distinct-map-remove f front back x apart =
    rw (map-append f front back) (distinct-remove (map f front) (map f back) (f x) (rw (map-append f front (x ∷ back)) at apart))

map-replace : {X Y : Type 0} (f : X → Y) (front back : List X) (x y : X) → f x ≡ f y → map f (front ++ x ∷ back) ≡ map f (front ++ y ∷ back)
map-replace f [] back x y same = ap (λ z. z ∷ map f back) same
map-replace f (z ∷ front) back x y same = ap (λ zs. f z ∷ zs) (map-replace f front back x y same)

Contains-insert : {X : Type 0} (front back : List X) (x y : X) → Contains (front ++ back) y → Contains (front ++ x ∷ back) y
Contains-insert front back x y has = elim (Contains-append_cases front back y has)
    [ inl there ↦ Contains-append_left front (x ∷ back) y there | inr behind ↦ Contains-append_right front (x ∷ back) y (Contains-cons x back y behind) ]

-- numbers that bound each element of a list
numbers-insert : (front back : List ℕ) (n m k : ℕ) → n ≤ k → m ≤ k → All (λ a. a ≤ n) (front ++ back) → All (λ a. a ≤ k) (front ++ m ∷ back)
numbers-insert front back n m k more last few =
    All-weaker (Contains (front ++ m ∷ back)) (λ a. a ≤ k)
    (λ a has. small a (Contains-append_cases front (m ∷ back) a has)) (front ++ m ∷ back)
    (All-contains_itself (front ++ m ∷ back))
  where
    below : (a : ℕ) → Contains (front ++ back) a → a ≤ k
    below a has = omega (arith, All-contains (λ b. b ≤ n) (front ++ back) a few has)

    small : (a : ℕ) → Contains front a ⊎ Contains (m ∷ back) a → a ≤ k
    small a (inl there) = below a (Contains-append_left front back a there)
    small a (inr behind) = elim (contained m back a behind) [ inl same ↦ omega arith | inr there ↦ below a (Contains-append_right front back a there) ]

numbers-remove : (front back : List ℕ) (n m : ℕ) → All (λ a. a ≤ n) (front ++ m ∷ back) → All (λ a. a ≤ n) (front ++ back)
numbers-remove front back n m few =
    All-weaker (Contains (front ++ back)) (λ a. a ≤ n) (λ a has. All-contains (λ b. b ≤ n) (front ++ m ∷ back) a few
    (Contains-insert front back m a has)) (front ++ back) (All-contains_itself (front ++ back))

above-all : (ns : List ℕ) (n : ℕ) → All (λ a. a ≤ n) ns → Contains ns (n + 1) → ⊥
above-all ns n few has = omega (arith, All-contains (λ a. a ≤ n) ns (n + 1) few has)

stays-attached : (before : Chain) (at : ℕ) (name label : List ℕ) (policy : Policy) (front back : List Entry) → IsChain before
    → ((refusal : Refusal) → IsReasonToReject before.entries (Attach at name label policy) refusal → ⊥) → before.entries ≡ front ++ back
    → IsChain (record { entries = front ++ new_entry name (before.attached + 1) policy ∷ back; attached = before.attached + 1 })
stays-attached before at name label policy front back chain free whole =
    let few : length before.entries < 8 =
    elim (cases_lt (length before.entries) 8) [
      | inl less ↦ less
      | inr more ↦ absurd
          (free (full (length before.entries)) (is_full at name label policy refl more refl))
    ] in
    record {
      few = omega (arith, ap length whole, length-append front back, length-append front (new_entry name (before.attached + 1) policy ∷ back));
      names = distinct-map-insert (λ (e : Entry). e.name) front back (new_entry name (before.attached + 1) policy) (rw whole at chain.names)
          (λ has. free (taken name) (is_taken at name label policy refl (rw whole has) refl));
      attachments = distinct-map-insert (λ (e : Entry). e.attach) front back (new_entry name (before.attached + 1) policy) (rw whole at chain.attachments)
          (λ has. above-all (attachments_of (front ++ back)) before.attached (rw whole at chain.numbered) has);
      numbered = rw (map-append (λ (e : Entry). e.attach) front (new_entry name (before.attached + 1) policy ∷ back))
          (numbers-insert (attachments_of front) (attachments_of back) before.attached (before.attached + 1) (before.attached + 1) (omega arith) (omega arith)
          (rw (whole, map-append (λ (e : Entry). e.attach) front back) at chain.numbered));
    }

stays-detached : (before : Chain) (e : Entry) (front back : List Entry) → IsChain before
    → before.entries ≡ front ++ e ∷ back → IsChain (record { entries = front ++ back; attached = before.attached })
stays-detached before e front back chain whole = record {
  few = omega (arith, chain.few, ap length whole, length-append front back, length-append front (e ∷ back));
  names = distinct-map-remove (λ (f : Entry). f.name) front back e (rw whole at chain.names);
  attachments = distinct-map-remove (λ (f : Entry). f.attach) front back e (rw whole at chain.attachments);
  numbered = rw (map-append (λ (f : Entry). f.attach) front back)
      (numbers-remove (attachments_of front) (attachments_of back) before.attached e.attach (rw (whole, map-append (λ (f : Entry). f.attach) front (e ∷ back)) at chain.numbered));
}

stays-upgraded : (before : Chain) (e : Entry) (policy : Policy) (front back : List Entry) → IsChain before → before.entries ≡ front ++ e ∷ back
    → IsChain (record { entries = front ++ upgraded e policy ∷ back; attached = before.attached })
stays-upgraded before e policy front back chain whole = record {
  few = omega (arith, chain.few, ap length whole, length-append front (upgraded e policy ∷ back), length-append front (e ∷ back));
  names = rw (map-replace (λ (f : Entry). f.name) front back (upgraded e policy) e refl) (rw whole at chain.names);
  attachments = rw (map-replace (λ (f : Entry). f.attach) front back (upgraded e policy) e refl) (rw whole at chain.attachments);
  numbered = rw (map-replace (λ (f : Entry). f.attach) front back (upgraded e policy) e refl) (rw whole at chain.numbered);
}

stays-made : (before after : Chain) (op : Op) → IsChain before → ((refusal : Refusal) → IsReasonToReject before.entries op refusal → ⊥) → IsChangeOf before op after → IsChain after
stays-made before after op chain free (attaches at name label policy front back is whole at_is result) =
    rw result (stays-attached before at name label policy front back chain (λ refusal against. free refusal (rw is against)) whole)
stays-made before after op chain free (detaches name e front back is whole named result) = rw result (stays-detached before e front back chain whole)
stays-made before after op chain free (upgrades name label policy e front back is whole named result) = rw result (stays-upgraded before e policy front back chain whole)

pub stays_chain : (before after : Chain) (op : Op) → IsChain before → HasChanged before op after → IsChain after
stays_chain before after op chain changes = stays-made before after op chain changes.free changes.effect

-- ---- the effect of an operation, as a function

named-is : (name : List ℕ) (e : Entry) → e.name ≡ name → is_named name e ≡ true
named-is name e same = (bytes_eq-Decides e.name name).1 same

named-not-by : (name : List ℕ) (e : Entry) (b : Bool) → is_named name e ≡ b → e.name ≢ name → is_named name e ≡ false
named-not-by name e true is other = absurd (other ((bytes_eq-Decides e.name name).0 is))
named-not-by name e false is other = is

named-not : (name : List ℕ) (e : Entry) → e.name ≢ name → is_named name e ≡ false
named-not name e other = named-not-by name e (is_named name e) refl other

not-first : (name : List ℕ) (x : Entry) (es : List Entry) → (Contains (names_of (x ∷ es)) name → ⊥) → is_named name x ≡ false
not-first name x es none = named-not name x (λ same. none (0, omega arith, same))

not-behind : (name : List ℕ) (x : Entry) (es : List Entry) → (Contains (names_of (x ∷ es)) name → ⊥) → Contains (names_of es) name → ⊥
not-behind name x es none has = none (Contains-cons x.name (names_of es) name has)

filter-all : (name : List ℕ) (es : List Entry) → (Contains (names_of es) name → ⊥) → filter (λ e. not (is_named name e)) es ≡ es
filter-all name [] none = refl
filter-all name (x ∷ es) none = rw (not-first name x es none) (ap (λ (ys : List Entry). x ∷ ys) (filter-all name es (not-behind name x es none)))

filter-one : (name : List ℕ) (front back : List Entry) (e : Entry) → AreDistinct (names_of (front ++ e ∷ back)) → e.name ≡ name
    → filter (λ f. not (is_named name f)) (front ++ e ∷ back) ≡ front ++ back
filter-one name [] back e apart is = rw (named-is name e is) (filter-all name back (λ has. apart.0 (rw is has)))
filter-one name (x ∷ front) back e apart is =
    rw (named-not name x (λ same. not_twice x front back e apart.0 (same ∙ sym is))) (ap (λ (ys : List Entry). x ∷ ys) (filter-one name front back e apart.1 is))

abbrev upgraded_where : List ℕ → Policy → Entry → Entry
upgraded_where name policy e = if is_named name e then upgraded e policy else e

map-all : (name : List ℕ) (policy : Policy) (es : List Entry) → (Contains (names_of es) name → ⊥) → map (upgraded_where name policy) es ≡ es
map-all name policy [] none = refl
map-all name policy (x ∷ es) none = rw (not-first name x es none) (ap (λ (ys : List Entry). x ∷ ys) (map-all name policy es (not-behind name x es none)))

map-one : (name : List ℕ) (policy : Policy) (front back : List Entry) (e : Entry) → AreDistinct (names_of (front ++ e ∷ back)) → e.name ≡ name
    → map (upgraded_where name policy) (front ++ e ∷ back) ≡ front ++ upgraded e policy ∷ back
map-one name policy [] back e apart is = rw (named-is name e is) (ap (λ (ys : List Entry). upgraded e policy ∷ ys) (map-all name policy back (λ has. apart.0 (rw is has))))
map-one name policy (x ∷ front) back e apart is =
    rw (named-not name x (λ same. not_twice x front back e apart.0 (same ∙ sym is))) (ap (λ (ys : List Entry). x ∷ ys) (map-one name policy front back e apart.1 is))

take-front : (front back : List Entry) → take (length front) (front ++ back) ≡ front
take-front [] back = refl
take-front (x ∷ front) back = ap (λ (ys : List Entry). x ∷ ys) (take-front front back)

drop-front : (front back : List Entry) → drop (length front) (front ++ back) ≡ back
drop-front [] back = refl
drop-front (x ∷ front) back = drop-front front back

pub is-changed : (before after : Chain) (op : Op) → IsChain before → IsChangeOf before op after → after ≡ changed op before
is-changed before after op chain (attaches at name label policy front back is whole at_is result) =
    let fronts : take at before.entries ≡ front = rw (whole, ← at_is) (take-front front back) in
    let backs : drop at before.entries ≡ back = rw (whole, ← at_is) (drop-front front back) in
    rw (result, is, fronts, backs) refl
is-changed before after op chain (detaches name e front back is whole named result) =
    let left : filter (λ f. not (is_named name f)) before.entries ≡ front ++ back = rw whole (filter-one name front back e (rw whole at chain.names) named) in
    rw (result, is, left) refl
is-changed before after op chain (upgrades name label policy e front back is whole named result) =
    let left : map (upgraded_where name policy) before.entries ≡ front ++ upgraded e policy ∷ back = rw whole (map-one name policy front back e (rw whole at chain.names) named) in
    rw (result, is, left) refl

pub changes-unless : (before : Chain) (op : Op) → IsChain before → ((refusal : Refusal) → IsRejection before op refusal → ⊥) → HasChanged before op (changed op before)
changes-unless before op chain free = elim (either before op chain) [
  | inl made ↦ subst (λ (after : Chain). HasChanged before op after) (is-changed before made.0 op chain made.1.effect) made.1
  | inr refused ↦ absurd (free refused.0 refused.1)
]
