-- The entry at a position of a chain is the one with its name.
use Rattle.std.proofs.Common.{◌≡◌, ◌≢◌, ℕ, zero, suc, cond, List, [], ◌∷◌, slice_get, find, Contains, Some, ap, sym, ◌∙◌, subst, arith}
use Rattle.std.specs.Prelude.{option_map}
use Rattle.std.specs.Str.{bytes_eq}
use Rattle.std.proofs.lemmas.Bool.{false_from_ne_true}
use Rattle.std.proofs.lemmas.Slice.Eq.{bytes_eq-Decides}
use Rattle.mrpc_table.specs.Valid.{AreDistinct}
use Rattle.engine_core.specs.Chains.{Entry, IsChain, is_named, names_of}
use Rattle.call_history.specs.Trace.{Trace, chain, policy_in_trace}

name-at : (xs : List Entry) (i : ℕ) (x : Entry) → slice_get xs i ≡ Some x → Contains (names_of xs) x.name
name-at [] i x is = absurd cc
name-at (y ∷ xs) zero x is = let same : y ≡ x = cc in (0, omega arith, ap (λ (e : Entry). e.name) same)
name-at (y ∷ xs) (suc i) x is = let rest = name-at xs i x is in (suc rest.0, omega (arith, rest.1), rest.2)

found : (xs : List Entry) (i : ℕ) (x : Entry) → slice_get xs i ≡ Some x → AreDistinct (names_of xs) → find (is_named x.name) xs ≡ Some x
found [] i x is names = absurd cc
found (y ∷ xs) zero x is names =
    let same : y ≡ x = cc in
    ap (λ b. cond b (Some y) (find (is_named x.name) xs)) ((bytes_eq-Decides y.name x.name).1 (ap (λ (e : Entry). e.name) same))
    ∙ ap (λ (e : Entry). Some e) same
found (y ∷ xs) (suc i) x is names =
    let apart : y.name ≢ x.name = λ same. names.0 (subst (Contains (names_of xs)) (sym same) (name-at xs i x is)) in
    ap (λ b. cond b (Some y) (find (is_named x.name) xs))
    (false_from_ne_true (bytes_eq y.name x.name) (λ is. apart ((bytes_eq-Decides y.name x.name).0 is)))
    ∙ found xs i x is names.1

-- the policy of an entry's name is its own
pub policy-at : (past : Trace) (i : ℕ) (x : Entry) → IsChain (chain past) → slice_get (chain past).entries i ≡ Some x → policy_in_trace x.name past ≡ Some x.policy
policy-at past i x is-chain is = ap (option_map (λ (e : Entry). e.policy)) (found (chain past).entries i x is is-chain.names)
