-- The first call at a position, and the level and cost at which it is held.
use Rattle.std.proofs.Common.{◌≡◌, ◌≢◌, ℕ, zero, suc, ◌+◌, ◌<◌, ◌≤◌, ◌⊎◌, inl, inr, Bool, true, false, nat_lt, nat_le}
use Rattle.std.proofs.Common.{List, [], ◌∷◌, All, length, map, Option, Some, None, refl, sym, ap, ◌∙◌, subst, arith}
use Rattle.std.specs.Prelude.{◌==◌, ◌&&◌, filter, slice_get}
use Rattle.std.specs.List.{Contains}
use Rattle.std.specs.Option.{option_and_then, option_map_or}
use Rattle.std.proofs.lemmas.Bool.{cond-true, cond-false}
use Rattle.std.proofs.lemmas.Bool.Decides.{nat_tests}
use Rattle.std.proofs.lemmas.List.Elements.{All-head, All-tail}
use Rattle.mrpc_table.specs.declared.call.Call.{Call}
use Rattle.policy_rate.specs.declared.rate.Rate.{Rate as RatePolicy}
use Rattle.engine_core.specs.Answers.{IsEntryAnswer, Past, allows, charged, charges, counted, counts, denies, draws, drawn}
use Rattle.engine_core.specs.Answers.{hold, holds, is_clear, is_over, is_within, nothing, redacts, refuses}
use Rattle.engine_core.specs.Answers.{was_charged, was_counted}
use Rattle.engine_core.specs.Chains.{Chain}
use Rattle.engine_core.specs.Engines.{EngineParts}
use Rattle.engine_core.specs.Marks.{PendingCall, past_of, seqs_of}
use Rattle.engine_core.specs.Moves.{Row, first_at}
use Rattle.engine_core.specs.declared.policy.Policy.{Policy}
use Rattle.engine_core.specs.declared.policy.Policy.TheVariants.{Access, Count, Quota, Rate, Redact}
use Rattle.chain_upgrade.specs.Chains.{ChainParts, AreAscendingAbove, AreAscending, IsFallingFrom}
use Rattle.call_history.specs.Trace.{level_in_trace, noted}
use Rattle.conn_core.specs.Connections.{Connection as Calls, IsConnection, conn_trace, conn_state}
use Rattle.connection_audit.specs.Pending.{entry_at, held_at, held_below, held_by, holding, is_first_at_position}

-- each index has an element
there : {A : Type 0} (xs : List A) (place : ℕ) → suc place ≤ length xs → (x : A) × (slice_get xs place ≡ Some x)
there [] place low = absurd (omega arith)
there (x ∷ xs) zero low = (x, refl)
there (x ∷ xs) (suc place) low = there xs place (omega arith)

-- ---- the answer of an entry

pub holds-by : (policy : Policy) (level_in_trace moment : ℕ) (form : Call) (past : Past) (low cost : ℕ) → IsEntryAnswer policy level_in_trace moment form past (hold low cost)
    → held_by policy level_in_trace past ≡ Some (record { level = low; cost = cost })
holds-by policy level_in_trace moment form past low cost (allows p is may answer) = cc
holds-by policy level_in_trace moment form past low cost (denies p is other answer) = cc
holds-by policy level_in_trace moment form past low cost (was_charged r is some answer) = cc
holds-by policy level_in_trace moment form past low cost (charges r is none enough answer) = cc
holds-by policy level_in_trace moment form past low cost (holds r is none below mode answer) =
    let test : nat_lt level_in_trace r.per ≡ true = grind (arith, nat_tests) in
    let both : (r.hold && nat_lt level_in_trace r.per) ≡ true = ap (λ b. b && nat_lt level_in_trace r.per) mode ∙ test in
    let one : level_in_trace ≡ low = cc in
    let other : r.per ≡ cost = cc in
    (λ i. held_by (is i) level_in_trace (none i)) ∙ cond-true (r.hold && nat_lt level_in_trace r.per) (Some (record { level = level_in_trace; cost = r.per })) None both
    ∙ (λ i. Some (record { level = one i; cost = other i }))
holds-by policy level_in_trace moment form past low cost (refuses r is none below mode answer) = cc
holds-by policy level_in_trace moment form past low cost (is_within tenant per cap ticket is was low' answer) = cc
holds-by policy level_in_trace moment form past low cost (is_over tenant per cap ticket is was high answer) = cc
holds-by policy level_in_trace moment form past low cost (draws tenant per cap ticket is none answer) = cc
holds-by policy level_in_trace moment form past low cost (was_counted is some answer) = cc
holds-by policy level_in_trace moment form past low cost (counts is none answer) = cc
holds-by policy level_in_trace moment form past low cost (is_clear clears is same answer) = cc
holds-by policy level_in_trace moment form past low cost (redacts clears is other answer) = cc

rate-none : (r : RatePolicy) (level_in_trace moment : ℕ) (form : Call) (mode test : Bool) → r.hold ≡ mode → nat_lt level_in_trace r.per ≡ test
    → ((low cost : ℕ) → IsEntryAnswer (Rate r) level_in_trace moment form nothing (hold low cost) → ⊥) → held_below r level_in_trace ≡ None
rate-none r level_in_trace moment form true true is below free =
    let less : level_in_trace < r.per = grind (arith, nat_tests) in
    absurd (free level_in_trace r.per (holds r refl refl less is refl))
rate-none r level_in_trace moment form true false is below free =
    cond-false (r.hold && nat_lt level_in_trace r.per) (Some (record { level = level_in_trace; cost = r.per })) None (ap (λ b. b && nat_lt level_in_trace r.per) is ∙ below)
rate-none r level_in_trace moment form false test is below free =
    cond-false (r.hold && nat_lt level_in_trace r.per) (Some (record { level = level_in_trace; cost = r.per })) None (ap (λ b. b && nat_lt level_in_trace r.per) is)

pub holds-not : (policy : Policy) (level_in_trace moment : ℕ) (form : Call) (past : Past) → ((low cost : ℕ) → IsEntryAnswer policy level_in_trace moment form past (hold low cost) → ⊥)
    → held_by policy level_in_trace past ≡ None
holds-not (Access p) level_in_trace moment form past free = refl
holds-not (Rate r) level_in_trace moment form nothing free = rate-none r level_in_trace moment form r.hold (nat_lt level_in_trace r.per) refl refl free
holds-not (Rate r) level_in_trace moment form charged free = refl
holds-not (Rate r) level_in_trace moment form (drawn ticket) free = refl
holds-not (Rate r) level_in_trace moment form counted free = refl
holds-not (Quota tenant per cap) level_in_trace moment form past free = refl
holds-not Count level_in_trace moment form past free = refl
holds-not (Redact clears) level_in_trace moment form past free = refl

-- ---- the first call at a position

-- how many calls are at later positions
abbrev pub behind_of : ℕ → Row → ℕ
behind_of at row = length (filter (λ call. nat_le (at + 1) call.1) row)

none-behind : (at top : ℕ) (row : Row) → IsFallingFrom top row → top ≤ at → behind_of at row ≡ 0
none-behind at top [] falls low = refl
none-behind at top (call ∷ row) falls low =
    let before : call.1 ≤ top = falls.0 in
    let test : nat_le (at + 1) call.1 ≡ false = grind (arith, nat_tests) in
    ap length (cond-false (nat_le (at + 1) call.1) (call ∷ filter (λ c. nat_le (at + 1) c.1) row) (filter (λ c. nat_le (at + 1) c.1) row) test)
    ∙ none-behind at call.1 row falls.1 (omega arith)

position-falls : (at top place seq : ℕ) (row : Row) → IsFallingFrom top row → slice_get row place ≡ Some (seq, at) → at ≤ top
position-falls at top place seq [] falls is = cc
position-falls at top zero seq (call ∷ row) falls is =
    let same : call ≡ (seq, at) = cc in
    subst (λ n. n ≤ top) (ap (λ (p : ℕ × ℕ). p.1) same) falls.0
position-falls at top (suc place) seq (call ∷ row) falls is =
    let later : at ≤ call.1 = position-falls at call.1 place seq row falls.1 is in
    let before : call.1 ≤ top = falls.0 in
    omega arith

here-or-past : (at place seq : ℕ) (call : ℕ × ℕ) (row : Row) → IsFallingFrom call.1 row → slice_get (call ∷ row) place ≡ Some (seq, at) → call.1 ≤ at → call.1 ≡ at
here-or-past at zero seq call row falls is low = let same : call ≡ (seq, at) = cc in ap (λ (p : ℕ × ℕ). p.1) same
here-or-past at (suc place) seq call row falls is low =
    let later : at ≤ call.1 = position-falls at call.1 place seq row falls is in
    omega arith

never-here : (at seq : ℕ) (call : ℕ × ℕ) (row : Row) → slice_get (call ∷ row) 0 ≡ Some (seq, at) → at < call.1 → ⊥
never-here at seq call row is past =
    let same : call ≡ (seq, at) = cc in
    let there : call.1 ≡ at = ap (λ (p : ℕ × ℕ). p.1) same in
    omega arith

less-or-not : (at n : ℕ) → (at < n) ⊎ (n ≤ at)
less-or-not at n = grind arith

-- the index of the first call at a position is the number of calls at later positions
pub record IsFirstThere (at place : ℕ) (row : Row) : Type 0 where
  pub low : behind_of at row ≤ place
  pub first : first_at at row ≡ slice_get row (behind_of at row)

abbrev rest_behind : ℕ → Row → Row
rest_behind at row = filter (λ c. nat_le (at + 1) c.1) row

module _ (at seq : ℕ) where
  first-past : (place : ℕ) (call : ℕ × ℕ) (row : Row) → at < call.1 → IsFirstThere at place row → IsFirstThere at (suc place) (call ∷ row)
  first-past place call row past found =
      let test : nat_le (at + 1) call.1 ≡ true = grind (arith, nat_tests) in
      let other : (call.1 == at) ≡ false = grind (arith, nat_tests) in
      let more : behind_of at (call ∷ row) ≡ suc (behind_of at row) = ap length (cond-true (nat_le (at + 1) call.1) (call ∷ rest_behind at row) (rest_behind at row) test) in
      record {
        low = subst (λ n. n ≤ suc place) (sym more) (let low : behind_of at row ≤ place = found.low in omega arith);
        first = cond-false (call.1 == at) (Some call) (first_at at row) other ∙ found.first ∙ ap (slice_get (call ∷ row)) (sym more);
      }

  first-here : (place : ℕ) (call : ℕ × ℕ) (row : Row) → IsFallingFrom call.1 row → call.1 ≡ at → IsFirstThere at place (call ∷ row)
  first-here place call row falls here =
      let test : nat_le (at + 1) call.1 ≡ false = grind (arith, nat_tests) in
      let same : (call.1 == at) ≡ true = grind (arith, nat_tests) in
      let none : behind_of at (call ∷ row) ≡ 0 =
      ap length (cond-false (nat_le (at + 1) call.1) (call ∷ rest_behind at row) (rest_behind at row) test) ∙ none-behind at call.1 row falls (omega arith) in
      record {
        low = subst (λ n. n ≤ place) (sym none) (omega arith);
        first = cond-true (call.1 == at) (Some call) (first_at at row) same ∙ ap (slice_get (call ∷ row)) (sym none);
      }

  pub first-there : (top place : ℕ) (row : Row) → IsFallingFrom top row → slice_get row place ≡ Some (seq, at) → IsFirstThere at place row
  first-there top place [] falls is = cc
  first-there top zero (call ∷ row) falls is = elim (less-or-not at call.1) [
    | inl past ↦ absurd (never-here at seq call row is past)
    | inr low ↦ first-here 0 call row falls.1 (here-or-past at 0 seq call row falls.1 is low)
  ]
  first-there top (suc place) (call ∷ row) falls is = elim (less-or-not at call.1) [
    | inl past ↦ first-past place call row past (first-there call.1 place row falls.1 is)
    | inr low ↦ first-here (suc place) call row falls.1 (here-or-past at (suc place) seq call row falls.1 is low)
  ]

above-at : (low place : ℕ) (y : ℕ × ℕ) (row : Row) → AreAscendingAbove low (map (λ (call : ℕ × ℕ). call.0) row) → slice_get row place ≡ Some y → low < y.0
above-at low place y [] above is = cc
above-at low zero y (call ∷ row) above is = let same : call ≡ y = cc in subst (λ (p : ℕ × ℕ). low < p.0) same above.0
above-at low (suc place) y (call ∷ row) above is =
    let later : call.0 < y.0 = above-at call.0 place y row above.1 is in
    let first : low < call.0 = above.0 in
    omega arith

ascends-tail : (low : ℕ) (ns : List ℕ) → AreAscendingAbove low ns → AreAscending ns
ascends-tail low [] above = tt
ascends-tail low (n ∷ ns) above = above.1

ascending-at : (i j : ℕ) (x y : ℕ × ℕ) (row : Row) → AreAscending (map (λ (call : ℕ × ℕ). call.0) row) → i < j
    → slice_get row i ≡ Some x → slice_get row j ≡ Some y → x.0 < y.0
ascending-at i j x y [] ascends low is there = cc
ascending-at i zero x y (call ∷ row) ascends low is there = absurd (omega arith)
ascending-at zero (suc j) x y (call ∷ row) ascends low is there =
    let same : call ≡ x = cc in subst (λ (p : ℕ × ℕ). p.0 < y.0) same (above-at call.0 j y row ascends there)
ascending-at (suc i) (suc j) x y (call ∷ row) ascends low is there =
    ascending-at i j x y row (ascends-tail call.0 (map (λ (c : ℕ × ℕ). c.0) row) ascends) (omega arith) is there

-- ---- lists

pub at-all : {A : Type 0} (P : A → Type 0) (xs : List A) (i : ℕ) (x : A) → All P xs → slice_get xs i ≡ Some x → P x
at-all P [] i x all is = cc
at-all P (y ∷ ys) zero x all is = let same : y ≡ x = cc in subst P same (All-head P y ys all)
at-all P (y ∷ ys) (suc i) x all is = at-all P ys i x (All-tail P y ys all) is

pub map-at : {A B : Type 0} (f : A → B) (xs : List A) (i : ℕ) (x : A) → slice_get xs i ≡ Some x → slice_get (map f xs) i ≡ Some (f x)
map-at f [] i x is = cc
map-at f (y ∷ ys) zero x is = let same : y ≡ x = cc in ap (λ z. Some (f z)) same
map-at f (y ∷ ys) (suc i) x is = map-at f ys i x is

pub contains-at : {A : Type 0} (xs : List A) (i : ℕ) (x : A) → slice_get xs i ≡ Some x → Contains xs x
contains-at [] i x is = cc
contains-at (y ∷ ys) zero x is = let same : y ≡ x = cc in (0, omega arith, same)
contains-at (y ∷ ys) (suc i) x is =
    let found : Contains ys x = contains-at ys i x is in
    let low : found.0 < length ys = found.1 in
    (suc found.0, omega arith, found.2)

pub called-at : (row : Row) (calls : List PendingCall) (place : ℕ) (x : ℕ × ℕ) → map (λ (call : ℕ × ℕ). call.0) row ≡ seqs_of calls → slice_get row place ≡ Some x
    → (s : PendingCall) × (slice_get calls place ≡ Some s) × (s.call.seq ≡ x.0)
called-at [] calls place x same is = cc
called-at (call ∷ row) [] place x same is = cc
called-at (call ∷ row) (s ∷ calls) zero x same is =
    let head : call.0 ≡ s.call.seq = cc in
    let it : call ≡ x = cc in
    (s, refl, sym head ∙ ap (λ (p : ℕ × ℕ). p.0) it)
called-at (call ∷ row) (s ∷ calls) (suc place) x same is =
    let tail : map (λ (c : ℕ × ℕ). c.0) row ≡ seqs_of calls = cc in
    called-at row calls place x tail is

-- ---- a connection

module _ (c : Calls) (sound : IsConnection c) (place seq at : ℕ) (is : slice_get c.chain.row place ≡ Some (seq, at)) where
  found : IsFirstThere at place c.chain.row
  found = first-there at seq (length c.chain.engines) place c.chain.row sound.is_chain_state.falls is

  -- the pending call at the index
  pub standing-there : (s : PendingCall) × (slice_get c.chain.calls place ≡ Some s) × (s.call.seq ≡ seq)
  standing-there = called-at c.chain.row c.chain.calls place (seq, at) sound.is_chain_state.row is

  pub first-is : place ≡ behind_of at c.chain.row → first_at at c.chain.row ≡ Some (seq, at)
  first-is there = found.first ∙ ap (slice_get c.chain.row) (sym there) ∙ is

  is-first : place ≡ behind_of at c.chain.row → is_first_at_position (conn_state c) (seq, at) ≡ true
  is-first there =
      let same : (seq == seq) ≡ true = grind (arith, nat_tests) in
      ap (λ o. option_map_or (λ (first : ℕ × ℕ). first.0 == seq) o false) (first-is there) ∙ same

  other-first : (x : ℕ × ℕ) → slice_get c.chain.row (behind_of at c.chain.row) ≡ Some x → behind_of at c.chain.row < place → is_first_at_position (conn_state c) (seq, at) ≡ false
  other-first x there low =
      let less : x.0 < seq = ascending-at (behind_of at c.chain.row) place x (seq, at) c.chain.row
      (subst AreAscending (sym sound.is_chain_state.row) sound.is_chain_state.stands.ascend) low there is in
      let other : (x.0 == seq) ≡ false = grind (arith, nat_tests) in
      ap (λ o. option_map_or (λ (first : ℕ × ℕ). first.0 == seq) o false) (found.first ∙ there) ∙ other

  none-first : slice_get c.chain.row (behind_of at c.chain.row) ≡ None → is_first_at_position (conn_state c) (seq, at) ≡ false
  none-first there = ap (λ o. option_map_or (λ (first : ℕ × ℕ). first.0 == seq) o false) (found.first ∙ there)

  not-first : (o : Option (ℕ × ℕ)) → slice_get c.chain.row (behind_of at c.chain.row) ≡ o → behind_of at c.chain.row < place → is_first_at_position (conn_state c) (seq, at) ≡ false
  not-first None there low = none-first there
  not-first (Some x) there low = other-first x there low

  -- a call that isn't the first at its position isn't held
  pub held-not : place ≢ behind_of at c.chain.row → holding (conn_state c) (seq, at) ≡ None
  held-not other =
      let low : behind_of at c.chain.row ≤ place = found.low in
      let less : behind_of at c.chain.row < place = omega arith in
      cond-false (is_first_at_position (conn_state c) (seq, at)) (option_and_then (held_at (conn_state c) (seq, at)) (entry_at (conn_state c) at)) None
      (not-first (slice_get c.chain.row (behind_of at c.chain.row)) refl less)

  -- the first one is held as the entry there answers
  pub held-first : (e : EngineParts) → slice_get c.chain.engines at ≡ Some e → place ≡ behind_of at c.chain.row
      → holding (conn_state c) (seq, at) ≡ held_by e.entry.policy e.level (past_of standing-there.0.marks e.entry.attach)
  held-first e there here =
      let s : PendingCall = standing-there.0 in
      let entry : entry_at (conn_state c) at ≡ Some e.entry =
      ap (λ (ch : Chain). slice_get ch.entries at) (sym sound.same_chain) ∙ map-at (λ (x : EngineParts). x.entry) c.chain.engines at e there in
      let level_is : e.level ≡ level_in_trace e.entry.name (conn_trace c) = at-all (λ (x : EngineParts). x.level ≡ level_in_trace x.entry.name (conn_trace c)) c.chain.engines at e sound.levels there in
      let note_is : past_of s.marks e.entry.attach ≡ noted e.entry.name s.call.seq (conn_trace c) =
      at-all (λ (x : EngineParts). past_of s.marks x.entry.attach ≡ noted x.entry.name s.call.seq (conn_trace c)) c.chain.engines at e
      (at-all (λ (y : PendingCall). All (λ (x : EngineParts). past_of y.marks x.entry.attach ≡ noted x.entry.name y.call.seq (conn_trace c)) c.chain.engines) c.chain.calls place s
      sound.notes standing-there.1) there in
      cond-true (is_first_at_position (conn_state c) (seq, at)) (option_and_then (held_at (conn_state c) (seq, at)) (entry_at (conn_state c) at)) None (is-first here)
      ∙ ap (option_and_then (held_at (conn_state c) (seq, at))) entry
      ∙ (λ i. held_by e.entry.policy (sym level_is i) (noted e.entry.name (sym standing-there.2 i) (conn_trace c)))
      ∙ ap (held_by e.entry.policy e.level) (sym note_is)

  -- the first call there is the one that its engine runs
  pub met-first : place ≡ behind_of at c.chain.row → first_at at c.chain.row ≡ Some (standing-there.0.call.seq, at)
  met-first here = first-is here ∙ ap (λ n. Some (n, at)) (sym standing-there.2)

  engine-there : at < length c.chain.engines → (e : EngineParts) × (slice_get c.chain.engines at ≡ Some e)
  engine-there low = there c.chain.engines at (omega arith)

  -- the answer of a chain for the first call at a position
  abbrev pub Meets : ChainParts → (EngineParts → PendingCall → ℕ → Type 0) → Type 0
  Meets ch Holds = (e : EngineParts) (s : PendingCall) (moment : ℕ) → slice_get ch.engines at ≡ Some e
      → first_at at ch.row ≡ Some (s.call.seq, at) → Contains ch.calls s → Holds e s moment

  pub held-some : (ch : ChainParts) (low cost : ℕ) → ch ≡ c.chain → place ≡ behind_of at c.chain.row → at < length c.chain.engines
      → Meets ch (λ e s moment. IsEntryAnswer e.entry.policy e.level moment s.call (past_of s.marks e.entry.attach) (hold low cost))
      → Some (record { level = low; cost = cost }) ≡ holding (conn_state c) (seq, at)
  held-some ch low cost same here within answers =
      let e : (e : EngineParts) × (slice_get c.chain.engines at ≡ Some e) = engine-there within in
      let s : PendingCall = standing-there.0 in
      let answer : IsEntryAnswer e.0.entry.policy e.0.level 0 s.call (past_of s.marks e.0.entry.attach) (hold low cost) =
      subst (λ (k : ChainParts). Meets k (λ e s moment. IsEntryAnswer e.entry.policy e.level moment s.call (past_of s.marks e.entry.attach) (hold low cost))) same answers
      e.0 s 0 e.1 (met-first here) (contains-at c.chain.calls place s standing-there.1) in
      sym (held-first e.0 e.1 here ∙ holds-by e.0.entry.policy e.0.level 0 s.call (past_of s.marks e.0.entry.attach) low cost answer)

  pub held-none : (ch : ChainParts) → ch ≡ c.chain → place ≡ behind_of at c.chain.row → at < length c.chain.engines
      → ((e : EngineParts) (s : PendingCall) (moment low cost : ℕ) → slice_get ch.engines at ≡ Some e → first_at at ch.row ≡ Some (s.call.seq, at) → Contains ch.calls s
      → IsEntryAnswer e.entry.policy e.level moment s.call (past_of s.marks e.entry.attach) (hold low cost) → ⊥)
      → None ≡ holding (conn_state c) (seq, at)
  held-none ch same here within free =
      let e : (e : EngineParts) × (slice_get c.chain.engines at ≡ Some e) = engine-there within in
      let s : PendingCall = standing-there.0 in
      sym (held-first e.0 e.1 here ∙ holds-not e.0.entry.policy e.0.level 0 s.call (past_of s.marks e.0.entry.attach) (λ low cost answer.
      free e.0 s 0 low cost (subst (λ (k : ChainParts). slice_get k.engines at ≡ Some e.0) (sym same) e.1)
      (subst (λ (k : ChainParts). first_at at k.row ≡ Some (s.call.seq, at)) (sym same) (met-first here))
      (subst (λ (k : ChainParts). Contains k.calls s) (sym same) (contains-at c.chain.calls place s standing-there.1)) answer))
