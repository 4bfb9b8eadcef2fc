-- Distinct calls and entries: by numbers, and by names and attachments.
use Rattle.std.proofs.Common.{◌≡◌, ◌≢◌, ℕ, ◌<◌, zero, suc, cond, List, [], ◌∷◌, ◌++◌, slice_get, find, Contains, Some, ap, sym, ◌∙◌, subst, arith}
use Rattle.std.specs.Prelude.{All, option_map}
use Rattle.std.proofs.lemmas.List.Elements.{All-nil, All-cons, All-head, All-tail, All-weaker, All-append}
use Rattle.mrpc_table.specs.Valid.{AreDistinct}
use Rattle.engine_core.specs.Chains.{Entry, IsChain, attachments_of, is_named, names_of}
use Rattle.engine_core.specs.Marks.{PendingCall, seqs_of}
use Rattle.engine_core.specs.declared.outcome.Outcome.{Outcome}
use Rattle.engine_core.specs.declared.outcome.Outcome.TheVariants.{Passed, Held, Refused, Redacted}
use Rattle.chain_upgrade.specs.Chains.{AreAscendingAbove, AreAscending, calls_after}
use Rattle.call_history.specs.Trace.{Trace, chain, policy_in_trace}
use Rattle.conn_core.proofs.Lists.{at-get}
use Rattle.conn_core.proofs.Told.{equal-name, other-name}

-- ---- calls

all-above : (low : ℕ) (calls : List PendingCall) → AreAscendingAbove low (seqs_of calls) → All (λ s. low < s.call.seq) calls
all-above low [] h = All-nil (λ (s : PendingCall). low < s.call.seq)
all-above low (s ∷ calls) h =
    All-cons (λ (s : PendingCall). low < s.call.seq) s calls h.0
    (All-weaker (λ (t : PendingCall). s.call.seq < t.call.seq) (λ (t : PendingCall). low < t.call.seq) (λ t less.
    omega (arith, less, h.0)) calls (all-above s.call.seq calls h.1))

above-all : (low : ℕ) (calls : List PendingCall) → AreAscendingAbove low (seqs_of calls) → All (λ s. s.call.seq ≢ low) calls
above-all low calls h = All-weaker (λ (s : PendingCall). low < s.call.seq) (λ (s : PendingCall). s.call.seq ≢ low)
    (λ s less same. omega (arith, less, same)) calls (all-above low calls h)

apart-above : (low : ℕ) (front : List PendingCall) (call : PendingCall) (back : List PendingCall)
    → AreAscendingAbove low (seqs_of (front ++ call ∷ back))
    → (low < call.call.seq) × All (λ s. s.call.seq ≢ call.call.seq) front × All (λ s. s.call.seq ≢ call.call.seq) back
apart-above low [] call back h =
    (h.0, All-nil (λ (s : PendingCall). s.call.seq ≢ call.call.seq), above-all call.call.seq back h.1)
apart-above low (x ∷ front) call back h =
    let rest = apart-above x.call.seq front call back h.1 in (
      omega (arith, h.0, rest.0),
      All-cons (λ (s : PendingCall). s.call.seq ≢ call.call.seq) x front (λ same.
          omega (arith, same, rest.0)) rest.1,
      rest.2,
    )

-- the others have other numbers
pub calls-apart : (front : List PendingCall) (call : PendingCall) (back : List PendingCall)
    → AreAscending (seqs_of (front ++ call ∷ back))
    → All (λ s. s.call.seq ≢ call.call.seq) front × All (λ s. s.call.seq ≢ call.call.seq) back
calls-apart [] call back h =
    (All-nil (λ (s : PendingCall). s.call.seq ≢ call.call.seq), above-all call.call.seq back h)
calls-apart (x ∷ front) call back h =
    let rest = apart-above x.call.seq front call back h in (
      All-cons (λ (s : PendingCall). s.call.seq ≢ call.call.seq) x front (λ same.
          omega (arith, same, rest.0)) rest.1,
      rest.2,
    )

-- what holds of the others and of the call holds after its turn
pub all-after : (Q : PendingCall
    → Type 0) (outcome : Outcome) (front : List PendingCall) (call : PendingCall) (back : List PendingCall)
    → All Q front → Q call → All Q back → All Q (calls_after outcome front call back)
all-after Q (Passed noted) front call back f c b = All-append Q front (call ∷ back) f (All-cons Q call back c b)
all-after Q (Held left cost) front call back f c b = All-append Q front (call ∷ back) f (All-cons Q call back c b)
all-after Q (Refused noted why) front call back f c b = All-append Q front back f b
all-after Q Redacted front call back f c b = All-append Q front (call ∷ back) f (All-cons Q call back c b)

-- ---- entries

all-keyed-apart : (P Q : Entry → Type 0) (x : Entry) → ((y : Entry) → y.name ≢ x.name → y.attach ≢ x.attach → P y → Q y)
    → (xs : List Entry)
    → (Contains (names_of xs) x.name → ⊥) → (Contains (attachments_of xs) x.attach → ⊥) → All P xs → All Q xs
all-keyed-apart P Q x other [] names attachments h = All-nil Q
all-keyed-apart P Q x other (y ∷ xs) names attachments h =
    All-cons Q y xs (other y (λ same. names (0, omega arith, same)) (λ same. attachments (0, omega arith, same))
    (All-head P y xs h))
    (all-keyed-apart P Q x other xs (λ there. names (suc there.0, omega (arith, there.1), there.2)) (λ there.
    attachments (suc there.0, omega (arith, there.1), there.2)) (All-tail P y xs h))

name-at : (xs : List Entry) (i : ℕ) (x : Entry) → slice_get xs i ≡ Some x → Contains (names_of xs) x.name
    × Contains (attachments_of xs) x.attach
name-at [] i x is = absurd cc
name-at (y ∷ xs) zero x is = let same : y ≡ x =
    cc in ((0, omega arith, ap (λ (e : Entry). e.name) same), (0, omega arith, ap (λ (e : Entry). e.attach) same))
name-at (y ∷ xs) (suc i) x is = let rest =
    name-at xs i x is in (
      (suc rest.0.0, omega (arith, rest.0.1), rest.0.2),
      (suc rest.1.0, omega (arith, rest.1.1), rest.1.2),
    )

-- what holds of an entry, and of those with other names and attachments, holds of all
pub all-keyed : (P Q : Entry → Type 0) (xs : List Entry) (i : ℕ) (x : Entry) → slice_get xs i ≡ Some x
    → AreDistinct (names_of xs) → AreDistinct (attachments_of xs)
    → ((y : Entry) → y.name ≢ x.name → y.attach ≢ x.attach → P y → Q y) → (P x → Q x) → All P xs → All Q xs
all-keyed P Q [] i x is names attachments other here h = absurd cc
all-keyed P Q (y ∷ xs) zero x is names attachments other here h =
    let same : y ≡ x = cc in
    All-cons Q y xs (subst Q (sym same) (here (subst P same (All-head P y xs h))))
    (all-keyed-apart P Q x other xs (λ there.
    names.0 (subst (λ (e : Entry). Contains (names_of xs) e.name) (sym same) there))
    (λ there. attachments.0 (subst (λ (e : Entry). Contains (attachments_of xs) e.attach) (sym same) there))
    (All-tail P y xs h))
all-keyed P Q (y ∷ xs) (suc i) x is names attachments other here h =
    let there = name-at xs i x is in
    All-cons Q y xs (other y (λ same. names.0 (subst (Contains (names_of xs)) (sym same) there.0)) (λ same.
    attachments.0 (subst (Contains (attachments_of xs)) (sym same) there.1)) (All-head P y xs h))
    (all-keyed P Q xs i x is names.1 attachments.1 other here (All-tail P y xs h))

found : (xs : List Entry) (i : ℕ) (x : Entry) → slice_get xs i ≡ Some x → AreDistinct (names_of xs)
    → find (is_named x.name) xs ≡ Some x
found [] i x is names = absurd cc
found (y ∷ xs) zero x is names =
    let same : y ≡ x = cc in
    ap (λ b. cond b (Some y) (find (is_named x.name) xs)) (equal-name y.name x.name (ap (λ (e : Entry). e.name) same)) ∙
    ap (λ (e : Entry). Some e) same
found (y ∷ xs) (suc i) x is names =
    ap (λ b. cond b (Some y) (find (is_named x.name) xs))
    (other-name y.name x.name (λ same. names.0 (subst (Contains (names_of xs)) (sym same) (name-at xs i x is).0)))
    ∙ found xs i x is names.1

-- the policy of an entry's name is its own
pub policy-at : (past : Trace) (i : ℕ) (x : Entry) → IsChain (chain past) → slice_get (chain past).entries i ≡ Some x
    → policy_in_trace x.name past ≡ Some x.policy
policy-at past i x is-chain is =
    ap (option_map (λ (e : Entry). e.policy)) (found (chain past).entries i x is is-chain.names)

pub all-policies : (past : Trace) → IsChain (chain past)
    → All (λ e. policy_in_trace e.name past ≡ Some e.policy) (chain past).entries
all-policies past is-chain = λ k d within. policy-at past k _ is-chain (at-get (chain past).entries k d within)
