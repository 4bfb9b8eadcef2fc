-- Detaching an entry keeps the others in their order.
use Rattle.std.proofs.Common.{◌≡◌, ℕ, ◌+◌, ◌-◌, ◌<◌, ◌≤◌, zero, suc, Bool, true, false, cond, if◌then◌else◌, not, inl}
use Rattle.std.proofs.Common.{inr, List, [], ◌∷◌, length, take, refl, sym, ap, ◌∙◌, subst, arith}
use Rattle.std.specs.Prelude.{All, Contains, filter, nat_lt}
use Rattle.std.specs.Str.{bytes_eq}
use Rattle.std.proofs.lemmas.Bool.{cases_lt, lt-ltb, le-ltb}
use Rattle.std.proofs.lemmas.List.Elements.{All-nil, All-cons, All-head, All-tail, All-weaker}
use Rattle.mrpc_table.specs.Valid.{AreDistinct}
use Rattle.engine_core.specs.Chains.{Chain, HasChanged, Entry, names_of, detaches_none, no_such}
use Rattle.engine_core.specs.declared.op.Op.TheVariants.{Detach}
use Rattle.call_history.specs.Trace.{chain}
use Rattle.engine_core.specs.Chains.{changed, is_named}
use Rattle.call_history.specs.Transitions.{ConnState}
use Rattle.engine_core.specs.Moves.{moved_up, position_of}
use Rattle.call_history.specs.Rules.{JudgeContext, IsAllowedInTrace}
use Rattle.call_history.specs.declared.happening.Happening.TheVariants.{Op}
use Rattle.call_history.proofs.Further.{contains-cases, contains-first, contains-later}
use Rattle.call_history.proofs.Holding.{Holds}
use Rattle.call_history.proofs.Looking.{same-name, equal-name, other-name, lets-still}
use Rattle.call_history.proofs.Operating.{moved-holds, all-none}
use Rattle.call_history.proofs.Prefixes.{StaysChain, chained}
use Rattle.call_history.proofs.Rowed.{StandsAt}

-- the entries after a detachment
abbrev pub others_of : List ℕ → List Entry → List Entry
others_of name es = filter (λ e. not (is_named name e)) es

-- the new position of a call when an entry is detached
abbrev moved : ℕ → ℕ → ℕ
moved place p = if nat_lt place p then p - 1 else p

pub others-same : (name : List ℕ) (es : List Entry) → (Contains (names_of es) name → ⊥) → others_of name es ≡ es
others-same name [] none = refl
others-same name (e ∷ es) none =
    ap (λ b. cond (not b) (e ∷ others_of name es) (others_of name es)) (other-name e.name name (λ same. none (contains-first e.name (names_of es) name same)))
    ∙ ap (λ (xs : List Entry). e ∷ xs) (others-same name es (λ has. none (contains-later e.name (names_of es) name has)))

-- an entry with the name is at its position
none-there : (name : List ℕ) (es : List Entry) → length es ≤ position_of name es → Contains (names_of es) name → ⊥
none-there name [] past has = omega (arith, has.1)
none-there name (e ∷ es) past has =
    let given : (b : Bool) → is_named name e ≡ b → length es + 1 ≤ cond b 0 (position_of name es + 1)
    → ⊥ = λ b. elim b as (λ b. is_named name e ≡ b → length es + 1 ≤ cond b 0 (position_of name es + 1) → ⊥) [
      | true ↦ λ test past. omega (arith, past)
      | false ↦ λ test past. elim (contains-cases e.name (names_of es) name has) [
        | inl same ↦ (let yes : bytes_eq e.name name ≡ true = equal-name e.name name same in let no : false ≡ true = sym test ∙ yes in cc)
        | inr rest ↦ none-there name es (omega (arith, past)) rest
      ]
    ] in
    given (is_named name e) refl (omega (arith, past))

there : (before after : Chain) (name : List ℕ) → HasChanged before (Detach name) after → position_of name before.entries < length before.entries
there before after name changes = elim (cases_lt (position_of name before.entries) (length before.entries)) [
  | inl less ↦ less
  | inr past ↦ absurd (changes.free (no_such name) (detaches_none name refl (none-there name before.entries past) refl))
]

one-fewer : (name : List ℕ) (es : List Entry) → AreDistinct (names_of es) → position_of name es < length es → length (others_of name es) + 1 ≡ length es
one-fewer name [] apart less = absurd (omega (arith, less))
one-fewer name (e ∷ es) apart less =
    let given : (b : Bool) → is_named name e ≡ b → cond b 0 (position_of name es + 1) < length es + 1
    → length (cond (not b) (e ∷ others_of name es) (others_of name es)) + 1 ≡ length es + 1 =
    λ b. elim b as (λ b. is_named name e ≡ b → cond b 0 (position_of name es + 1) < length es + 1
    → length (cond (not b) (e ∷ others_of name es) (others_of name es)) + 1 ≡ length es + 1) [
      | true ↦ λ test less. ap (λ (xs : List Entry). length xs + 1)
          (others-same name es
          (λ has. apart.0 (subst (λ (n : List ℕ). Contains (names_of es) n) (sym (same-name e.name name test)) has)))
      | false ↦ λ test less. omega (arith, one-fewer name es apart.1 (omega (arith, less)))
    ] in
    omega (arith, given (is_named name e) refl (omega (arith, less)))

-- what holds of the entries before a position holds of those before the new position
front-all : (P : Entry → Type 0) (name : List ℕ) (es : List Entry) (p k : ℕ) → AreDistinct (names_of es)
    → (p ≤ position_of name es → k ≡ p) → (position_of name es < p → k + 1 ≡ p)
    → All P (take p es) → All P (take k (others_of name es))
front-all P name [] p k apart before behind all = all-none P k
front-all P name (e ∷ es) zero k apart before behind all = subst (λ n. All P (take n (others_of name (e ∷ es)))) (sym (before (omega arith))) (All-nil P)
front-all P name (e ∷ es) (suc p) k apart before behind all =
    let given : (b : Bool) → is_named name e ≡ b → (suc p ≤ cond b 0 (position_of name es + 1) → k ≡ suc p) → (cond b 0 (position_of name es + 1) < suc p → k + 1 ≡ suc p)
    → All P (take k (cond (not b) (e ∷ others_of name es) (others_of name es))) =
    λ b. elim b as (λ b. is_named name e ≡ b → (suc p ≤ cond b 0 (position_of name es + 1) → k ≡ suc p)
    → (cond b 0 (position_of name es + 1) < suc p → k + 1 ≡ suc p)
    → All P (take k (cond (not b) (e ∷ others_of name es) (others_of name es)))) [
      | true ↦ λ test before behind. here test (omega (arith, behind (omega arith)))
      | false ↦ λ test before behind. later k (λ m le lt. front-all P name es p m apart.1 le lt (All-tail P e (take p es) all)) before behind
    ] in
    given (is_named name e) refl before behind
  where
    here : is_named name e ≡ true → k ≡ p → All P (take k (others_of name es))
    here test same =
        let others : others_of name es ≡ es = others-same name es (λ has. apart.0 (subst (λ (n : List ℕ). Contains (names_of es) n) (sym (same-name e.name name test)) has)) in
        subst (λ n. All P (take n (others_of name es))) (sym same) (subst (λ (xs : List Entry). All P (take p xs)) (sym others) (All-tail P e (take p es) all))

    later : (k : ℕ) → ((m : ℕ) → (p ≤ position_of name es → m ≡ p) → (position_of name es < p → m + 1 ≡ p) → All P (take m (others_of name es)))
        → (suc p ≤ position_of name es + 1 → k ≡ suc p) → (position_of name es + 1 < suc p → k + 1 ≡ suc p) → All P (take k (e ∷ others_of name es))
    later zero rest before behind = All-nil P
    later (suc m) rest before behind = All-cons P e (take m (others_of name es)) (All-head P e (take p es) all)
        (rest m (λ le. (let same : suc m ≡ suc p = before (omega (arith, le)) in omega (arith, same)))
        (λ lt. (let same : suc m + 1 ≡ suc p = behind (omega (arith, lt)) in omega (arith, same))))

moved-before : (place p : ℕ) → p ≤ place → moved place p ≡ p
moved-before place p le = ap (λ b. cond b (p - 1) p) (le-ltb place p le)

moved-behind : (place p : ℕ) → place < p → moved place p + 1 ≡ p
moved-behind place p less = let less_one : moved place p ≡ p - 1 = ap (λ b. cond b (p - 1) p) (lt-ltb place p less) in omega (arith, less_one, less)

moved-rises : (place p q : ℕ) → p ≤ q → moved place p ≤ moved place q
moved-rises place p q le = elim (cases_lt place p) [
  | inl less ↦ omega (arith, moved-behind place p less, moved-behind place q (omega (arith, less, le)), le)
  | inr before ↦ elim (cases_lt place q) [
    | inl less ↦ omega (arith, moved-before place p before, moved-behind place q less, before, less)
    | inr fits ↦ omega (arith, moved-before place p before, moved-before place q fits, le)
  ]
]

moved-within : (place p total left : ℕ) → place < total → left + 1 ≡ total → p ≤ total → moved place p ≤ left
moved-within place p total left there fewer le = elim (cases_lt place p) [
  | inl less ↦ omega (arith, moved-behind place p less, fewer, le)
  | inr before ↦ omega (arith, moved-before place p before, fewer, there, before)
]

pub detached_holds : (u : JudgeContext) (c : ConnState) (name : List ℕ) → StaysChain → Holds u c
    → HasChanged (chain c.past) (Detach name) (changed (Detach name) (chain c.past))
    → Holds u (record c { past = Op (Detach name) ∷ c.past; row = moved_up (position_of name (chain c.past).entries) c.row })
detached_holds u c name stays h changes =
    let apart : AreDistinct (names_of (chain c.past).entries) = (chained stays u c.past h.prefix).names in
    let stood : position_of name (chain c.past).entries < length (chain c.past).entries = there (chain c.past) (changed (Detach name) (chain c.past)) name changes in
    let fewer : length (others_of name (chain c.past).entries) + 1 ≡ length (chain c.past).entries = one-fewer name (chain c.past).entries apart stood in
    moved-holds u c (Detach name) (moved (position_of name (chain c.past).entries)) h changes (record {
      rises = moved-rises (position_of name (chain c.past).entries);
      keeps = keeps apart stood fewer;
      bound = moved-within (position_of name (chain c.past).entries) (length (chain c.past).entries)
          (length (chain c.past).entries) (length (others_of name (chain c.past).entries)) stood fewer (omega arith);
      ascend = h.notes_ascend;
    })
  where
    keeps : AreDistinct (names_of (chain c.past).entries) → position_of name (chain c.past).entries < length (chain c.past).entries
        → length (others_of name (chain c.past).entries) + 1 ≡ length (chain c.past).entries
        → (seq position : ℕ) → StandsAt u c.past seq position → StandsAt u (Op (Detach name) ∷ c.past) seq (moved (position_of name (chain c.past).entries) position)
    keeps apart stood fewer seq position stands = record {
      within = moved-within (position_of name (chain c.past).entries) position (length (chain c.past).entries) (length (others_of name (chain c.past).entries)) stood fewer stands.within;
      allowed = All-weaker (IsAllowedInTrace u c.past seq) (IsAllowedInTrace u (Op (Detach name) ∷ c.past) seq) (λ e. lets-still u c.past (Op (Detach name) ∷ c.past) seq e refl refl)
          (take (moved (position_of name (chain c.past).entries) position) (others_of name (chain c.past).entries))
          (front-all (IsAllowedInTrace u c.past seq) name (chain c.past).entries position (moved (position_of name (chain c.past).entries) position) apart
          (moved-before (position_of name (chain c.past).entries) position) (moved-behind (position_of name (chain c.past).entries) position) stands.allowed);
    }
