-- If a chain accepts an operation, the result is the chain that `changed` computes.
use Rattle.std.proofs.Common.{◌≡◌, ◌≢◌, ℕ, ◌+◌, cond, if◌then◌else◌, not, List, [], ◌∷◌, ◌++◌, length, take, drop, refl, sym, ap, ◌∙◌, subst}
use Rattle.std.specs.Prelude.{Contains}
use Rattle.std.proofs.lemmas.List.{map-append}
use Rattle.std.proofs.lemmas.List.Elements.{filter-append}
use Rattle.mrpc_table.specs.Valid.{AreDistinct}
use Rattle.engine_core.specs.Chains.{Chain, IsChain, Entry, names_of, new_entry, upgraded, IsChangeOf, attaches, detaches, upgrades, HasChanged}
use Rattle.engine_core.specs.declared.op.Op.{Op as Step}
use Rattle.engine_core.specs.declared.op.Op.TheVariants.{Attach}
use Rattle.engine_core.specs.declared.policy.Policy.{Policy}
use Rattle.engine_core.specs.Chains.{changed, is_named}
use Rattle.call_history.proofs.Chained.{named-there, front-apart}
use Rattle.call_history.proofs.Detaching.{others_of}
use Rattle.call_history.proofs.Further.{contains-first, contains-later}
use Rattle.call_history.proofs.Looking.{equal-name, other-name}
use Rattle.call_history.proofs.Upgrading.{with_upgraded}

take-front : (front back : List Entry) → take (length front) (front ++ back) ≡ front
take-front [] back = refl
take-front (e ∷ front) back = ap (λ (es : List Entry). e ∷ es) (take-front front back)

drop-front : (front back : List Entry) → drop (length front) (front ++ back) ≡ back
drop-front [] back = refl
drop-front (e ∷ front) back = drop-front front back

-- a chain with these entries
abbrev with_entries : ℕ → List Entry → Chain
with_entries attached entries = record { entries = entries; attached = attached }

attach-is : (before : Chain) (at : ℕ) (name label : List ℕ) (policy : Policy) (front back : List Entry) → before.entries ≡ front ++ back → length front ≡ at
    → record { entries = front ++ new_entry name (before.attached + 1) policy ∷ back; attached = before.attached + 1 } ≡ changed (Attach at name label policy) before
attach-is before at name label policy front back whole place =
    let new : Entry = new_entry name (before.attached + 1) policy in
    let first : take at before.entries ≡ front = ap (λ n. take n before.entries) (sym place) ∙ ap (take (length front)) whole ∙ take-front front back in
    let last : drop at before.entries ≡ back = ap (λ n. drop n before.entries) (sym place) ∙ ap (drop (length front)) whole ∙ drop-front front back in
    ap (with_entries (before.attached + 1)) (ap (λ (es : List Entry). front ++ new ∷ es) (sym last) ∙ ap (λ (es : List Entry). es ++ new ∷ drop at before.entries) (sym first))

-- entries with other names are unchanged
kept : (name : List ℕ) (es : List Entry) → ((e : Entry) → Contains es e → e.name ≢ name) → others_of name es ≡ es
kept name [] apart = refl
kept name (e ∷ es) apart =
    ap (λ b. cond (not b) (e ∷ others_of name es) (others_of name es)) (other-name e.name name (apart e (contains-first e es e refl)))
    ∙ ap (λ (xs : List Entry). e ∷ xs) (kept name es (λ x has. apart x (contains-later e es x has)))

unchanged : (name : List ℕ) (policy : Policy) (es : List Entry) → ((e : Entry) → Contains es e → e.name ≢ name) → with_upgraded name policy es ≡ es
unchanged name policy [] apart = refl
unchanged name policy (e ∷ es) apart =
    ap (λ b. cond b (upgraded e policy) e ∷ with_upgraded name policy es) (other-name e.name name (apart e (contains-first e es e refl)))
    ∙ ap (λ (xs : List Entry). e ∷ xs) (unchanged name policy es (λ x has. apart x (contains-later e es x has)))

back-apart : (front back : List Entry) (e x : Entry) → AreDistinct (names_of (front ++ e ∷ back)) → Contains back x → x.name ≢ e.name
back-apart [] back e x apart has same = apart.0 (subst (λ (n : List ℕ). Contains (names_of back) n) same (named-there back x has))
back-apart (y ∷ front) back e x apart has same = back-apart front back e x apart.1 has same

detached-entries : (front back : List Entry) (e : Entry) → AreDistinct (names_of (front ++ e ∷ back)) → others_of e.name (front ++ e ∷ back) ≡ front ++ back
detached-entries front back e apart =
    filter-append (λ x. not (is_named e.name x)) front (e ∷ back)
    ∙ ap (λ b. others_of e.name front ++ cond (not b) (e ∷ others_of e.name back) (others_of e.name back)) (equal-name e.name e.name refl)
    ∙ ap (λ (xs : List Entry). xs ++ others_of e.name back) (kept e.name front (λ x has. front-apart front back e x apart has))
    ∙ ap (λ (xs : List Entry). front ++ xs) (kept e.name back (λ x has. back-apart front back e x apart has))

upgraded-entries : (front back : List Entry) (e : Entry) (policy : Policy)
    → AreDistinct (names_of (front ++ e ∷ back)) → with_upgraded e.name policy (front ++ e ∷ back) ≡ front
    ++ upgraded e policy ∷ back
upgraded-entries front back e policy apart =
    map-append (λ (x : Entry). if is_named e.name x then upgraded x policy else x) front (e ∷ back)
    ∙ ap (λ b. with_upgraded e.name policy front ++ cond b (upgraded e policy) e ∷ with_upgraded e.name policy back) (equal-name e.name e.name refl)
    ∙ ap (λ (xs : List Entry). xs ++ upgraded e policy ∷ with_upgraded e.name policy back) (unchanged e.name policy front (λ x has. front-apart front back e x apart has))
    ∙ ap (λ (xs : List Entry). front ++ upgraded e policy ∷ xs) (unchanged e.name policy back (λ x has. back-apart front back e x apart has))

makes-changed : (before after : Chain) (op : Step) → AreDistinct (names_of before.entries) → IsChangeOf before op after → after ≡ changed op before
makes-changed before after op apart (attaches at name label policy front back is whole place result) =
    result ∙ attach-is before at name label policy front back whole place ∙ ap (λ (o : Step). changed o before) (sym is)
makes-changed before after op apart (detaches name e front back is whole named result) =
    let distinct : AreDistinct (names_of (front ++ e ∷ back)) = subst (λ (es : List Entry). AreDistinct (names_of es)) whole apart in
    result
    ∙ ap (with_entries before.attached) (sym (detached-entries front back e distinct)
    ∙ ap (λ (n : List ℕ). others_of n (front ++ e ∷ back)) named ∙ ap (others_of name) (sym whole))
    ∙ ap (λ (o : Step). changed o before) (sym is)
makes-changed before after op apart (upgrades name label policy e front back is whole named result) =
    let distinct : AreDistinct (names_of (front ++ e ∷ back)) = subst (λ (es : List Entry). AreDistinct (names_of es)) whole apart in
    result
    ∙ ap (with_entries before.attached) (sym (upgraded-entries front back e policy distinct)
    ∙ ap (λ (n : List ℕ). with_upgraded n policy (front ++ e ∷ back)) named ∙ ap (with_upgraded name policy)
    (sym whole))
    ∙ ap (λ (o : Step). changed o before) (sym is)

pub changes-changed : (before after : Chain) (op : Step) → IsChain before → HasChanged before op after → after ≡ changed op before
changes-changed before after op chain changes = makes-changed before after op chain.names changes.effect
