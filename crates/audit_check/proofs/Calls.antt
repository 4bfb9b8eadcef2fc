-- Pending calls, in the order of connections and numbers.
use Rattle.std.proofs.Common.{◌≡◌, ℕ, ◌+◌, ◌<◌, ◌≤◌, ◌⊎◌, Bool, true, false, List, [], ◌∷◌, ◌++◌, All, Contains}
use Rattle.std.proofs.Common.{length, map, filter, arith, refl, ap, sym, subst, ◌∙◌, inl, inr, cond, length-append}
use Rattle.std.specs.List.{AllByRecursion}
use Rattle.std.proofs.lemmas.Bool.Decides.{eqb_tells}
use Rattle.std.proofs.lemmas.List.Elements.{All-append, All-cons, All-contains, All-nil, Contains-append_cases, Contains-append_left, Contains-append_right}
use Rattle.call_history.specs.Trace.{Trace, pending_calls, is_pending, taken}
use Rattle.call_history.specs.Legal.{History, IsLegalPrefix, trace_of}
use Rattle.call_history.specs.Rules.{JudgeContext}
use Rattle.call_history.specs.declared.happening.Happening.TheVariants.{Took, Away, Op, Moment, Charged, Drawn, Counted, Redacted, Sent, Refused}
use Rattle.call_history.specs.declared.happening.AcceptedCall.{AcceptedCall}
use Rattle.audit_check.specs.Checking.{AreAllPending, AreOrdered, CallName, IsEarlierCall}
use Rattle.audit_check.specs.States.{AreAscending, calls_on_all, calls_on}

-- ---- members of lists

pub in_nothing : {X : Type 0} (x : X) → Contains [] x → ⊥
in_nothing x m = omega (arith, m.1)

pub in_one : {X : Type 0} (y x : X) → Contains (y ∷ []) x → y ≡ x
in_one {X} y x m = All-contains (λ z. y ≡ z) (y ∷ []) x (All-cons (λ z. y ≡ z) y [] refl (All-nil (λ z. y ≡ z))) m

pub in_more : {X : Type 0} (y x : X) (xs : List X) → Contains (y ∷ xs) x → (y ≡ x) ⊎ Contains xs x
in_more y x xs m = elim (Contains-append_cases (y ∷ []) xs x m) [
  | inl here ↦ inl (in_one y x here)
  | inr there ↦ inr there
]

pub in_first : {X : Type 0} (x : X) (xs : List X) → Contains (x ∷ xs) x
in_first x xs = (0, omega arith, refl)

pub in_later : {X : Type 0} (y x : X) (xs : List X) → Contains xs x → Contains (y ∷ xs) x
in_later y x xs m = Contains-append_right (y ∷ []) xs x m

pub in_map : {X Y : Type 0} (f : X → Y) (x : X) (xs : List X) → Contains xs x → Contains (map f xs) (f x)
in_map f x [] m = absurd (in_nothing x m)
in_map {Y = Y} f x (y ∷ xs) m = elim (in_more y x xs m) [
  | inl same ↦ let P : Y → Type 0 = λ z. Contains (f y ∷ map f xs) z in subst P (ap f same) (in_first (f y) (map f xs))
  | inr later ↦ in_later (f y) (f x) (map f xs) (in_map f x xs later)
]

pub from_map : {X Y : Type 0} (f : X → Y) (y : Y) (xs : List X) → Contains (map f xs) y → (x : X) × Contains xs x × (f x ≡ y)
from_map f y [] m = absurd (in_nothing y m)
from_map f y (x ∷ xs) m = elim (in_more (f x) y (map f xs) m) [
  | inl same ↦ (x, in_first x xs, same)
  | inr later ↦ let found = from_map f y xs later in (found.0, in_later x found.0 xs found.1, found.2)
]

pub in_or_not : (n : ℕ) (ns : List ℕ) → Contains ns n ⊎ (Contains ns n → ⊥)
in_or_not n [] = inr (in_nothing n)
in_or_not n (m ∷ ns) = elim (eqb_tells m n) [
  | inl same ↦ inl (let P : ℕ → Type 0 = λ k. Contains (m ∷ ns) k in subst P same.1 (in_first m ns))
  | inr other ↦ elim (in_or_not n ns) [
    | inl later ↦ inl (in_later m n ns later)
    | inr none ↦ inr (λ z. elim (in_more m n ns z) [ inl same ↦ other.1 same | inr later ↦ none later ])
  ]
]

-- ---- order

before_not : (a : CallName) → IsEarlierCall a a → ⊥
before_not a (inl less) = omega (arith, less)
before_not a (inr less) = omega (arith, less.1)

before_trans : (a b c : CallName) → IsEarlierCall a b → IsEarlierCall b c → IsEarlierCall a c
before_trans a b c (inl h) (inl k) = inl (omega (arith, h, k))
before_trans a b c (inl h) (inr k) = inl (omega (arith, h, k.0))
before_trans a b c (inr h) (inl k) = inl (omega (arith, h.0, k))
before_trans a b c (inr h) (inr k) = inr (h.0 ∙ k.0, omega (arith, h.1, k.1))

abbrev Within : List CallName → List CallName → Type 0
Within xs ys = (c : CallName) → Contains xs c → Contains ys c

first_same : (x y : CallName) (xs ys : List CallName) → AreOrdered (x ∷ xs) → AreOrdered (y ∷ ys) → Within (x ∷ xs) (y ∷ ys) → Within (y ∷ ys) (x ∷ xs) → x ≡ y
first_same x y xs ys up up' in' out = elim (in_more y x ys (in' x (in_first x xs))) [
  | inl same ↦ sym same
  | inr later ↦ elim (in_more x y xs (out y (in_first y ys))) [
    | inl same ↦ same
    | inr trace_of ↦ absurd (before_not x (before_trans x y x (All-contains (IsEarlierCall x) xs y up.0 trace_of) (All-contains (IsEarlierCall y) ys x up'.0 later)))
  ]
]

tail_within : (x : CallName) (xs ys : List CallName) → AreOrdered (x ∷ xs) → Within (x ∷ xs) (x ∷ ys) → Within xs ys
tail_within x xs ys up in' c m = elim (in_more x c ys (in' c (in_later x c xs m))) [
  | inl same ↦ absurd (before_not c (let P : CallName → Type 0 = λ a. IsEarlierCall a c in subst P same (All-contains (IsEarlierCall x) xs c up.0 m)))
  | inr later ↦ later
]

-- two lists that ascend and have the same calls are equal
same_calls : (xs ys : List CallName) → AreOrdered xs → AreOrdered ys → Within xs ys → Within ys xs → xs ≡ ys
same_calls [] [] up up' in' out = refl
same_calls [] (y ∷ ys) up up' in' out = absurd (in_nothing y (out y (in_first y ys)))
same_calls (x ∷ xs) [] up up' in' out = absurd (in_nothing x (in' x (in_first x xs)))
same_calls (x ∷ xs) (y ∷ ys) up up' in' out =
    let first = first_same x y xs ys up up' in' out in
    let Up : CallName → Type 0 = λ y. AreOrdered (y ∷ ys) in
    let In : CallName → Type 0 = λ y. Within (x ∷ xs) (y ∷ ys) in
    let Out : CallName → Type 0 = λ y. Within (y ∷ ys) (x ∷ xs) in
    let up'' = subst Up (sym first) up' in
    let rest = same_calls xs ys up.1 up'.1 (tail_within x xs ys up (subst In (sym first) in')) (tail_within x ys xs up'' (subst Out (sym first) out)) in
    (λ i. first i ∷ rest i)

pub one_standing : (h : History) (xs ys : List CallName) → AreAllPending h xs → AreAllPending h ys → xs ≡ ys
one_standing h xs ys a b =
    same_calls xs ys a.ascend b.ascend (λ c m. (b.each c.0 c.1).1 ((a.each c.0 c.1).0 m)) (λ c m. (a.each c.0 c.1).1 ((b.each c.0 c.1).0 m))

-- ---- the calls of a connection

abbrev pub Numbered : List AcceptedCall → Type 0
Numbered [] = Unit {0}
Numbered (call ∷ calls) = AllByRecursion (λ other. call.seq < other.seq) calls × Numbered calls

each_pushed : (P : AcceptedCall → Type 0) (calls : List AcceptedCall) (call : AcceptedCall) → AllByRecursion P calls → P call → AllByRecursion P (calls ++ call ∷ [])
each_pushed P [] call all here = (here, tt)
each_pushed P (c ∷ calls) call all here = (all.0, each_pushed P calls call all.1 here)

each_weaker : (P Q : AcceptedCall → Type 0) (calls : List AcceptedCall) → ((call : AcceptedCall) → P call → Q call) → AllByRecursion P calls → AllByRecursion Q calls
each_weaker P Q [] f all = tt
each_weaker P Q (c ∷ calls) f all = (f c all.0, each_weaker P Q calls f all.1)

pushed : (calls : List AcceptedCall) (call : AcceptedCall) → Numbered calls → AllByRecursion (λ other. other.seq < call.seq) calls → Numbered (calls ++ call ∷ [])
pushed [] call up below = (tt, tt)
pushed (c ∷ calls) call up below = (each_pushed (λ other. c.seq < other.seq) calls call up.0 below.0, pushed calls call up.1 below.1)

-- accepted calls have ascending numbers, up to how many there are
record AreNumbered (calls : List AcceptedCall) : Type 0 where
  up : Numbered calls
  low : AllByRecursion (λ other. other.seq ≤ length calls) calls

taken_numbered : (u : JudgeContext) (past : Trace) → IsLegalPrefix u past → AreNumbered (taken past)
taken_numbered u [] prefix = record { up = tt; low = tt }
taken_numbered u (Took call ∷ past) prefix =
    let earlier = taken_numbered u past prefix.0 in
    let number = prefix.1.numbered.number in
    let long : length (taken past ++ call ∷ []) ≡ length (taken past) + 1 = length-append (taken past) (call ∷ []) in
    record {
      up = pushed (taken past) call earlier.up
          (each_weaker (λ other. other.seq ≤ length (taken past)) (λ other. other.seq < call.seq) (taken past)
          (λ other le. omega (arith, number, le)) earlier.low);
      low = each_pushed (λ other. other.seq ≤ length (taken past ++ call ∷ [])) (taken past) call
          (each_weaker (λ other. other.seq ≤ length (taken past))
          (λ other. other.seq ≤ length (taken past ++ call ∷ [])) (taken past)
          (λ other le. omega (arith, long, le)) earlier.low) (omega (arith, number, long));
    }
taken_numbered u (Away method number addr ∷ past) prefix = taken_numbered u past prefix.0
taken_numbered u (Op step ∷ past) prefix = taken_numbered u past prefix.0
taken_numbered u (Moment ms ∷ past) prefix = taken_numbered u past prefix.0
taken_numbered u (Charged seq name left ∷ past) prefix = taken_numbered u past prefix.0
taken_numbered u (Drawn seq name window ticket ∷ past) prefix = taken_numbered u past prefix.0
taken_numbered u (Counted seq name ∷ past) prefix = taken_numbered u past prefix.0
taken_numbered u (Redacted seq name version ∷ past) prefix = taken_numbered u past prefix.0
taken_numbered u (Sent seq bytes ∷ past) prefix = taken_numbered u past prefix.0
taken_numbered u (Refused seq why ∷ past) prefix = taken_numbered u past prefix.0

kept_each : (P : AcceptedCall → Type 0) (b : Bool) (call : AcceptedCall) (calls : List AcceptedCall) → P call → AllByRecursion P calls → AllByRecursion P (cond b (call ∷ calls) calls)
kept_each P true call calls here all = (here, all)
kept_each P false call calls here all = all

filtered_each : (p : AcceptedCall → Bool) (P : AcceptedCall → Type 0) (calls : List AcceptedCall) → AllByRecursion P calls → AllByRecursion P (filter p calls)
filtered_each p P [] all = tt
filtered_each p P (call ∷ calls) all = kept_each P (p call) call (filter p calls) all.0 (filtered_each p P calls all.1)

kept_numbered : (b : Bool) (call : AcceptedCall) (calls : List AcceptedCall) → AllByRecursion (λ other. call.seq < other.seq) calls → Numbered calls → Numbered (cond b (call ∷ calls) calls)
kept_numbered true call calls below up = (below, up)
kept_numbered false call calls below up = up

filtered : (p : AcceptedCall → Bool) (calls : List AcceptedCall) → Numbered calls → Numbered (filter p calls)
filtered p [] up = tt
filtered p (call ∷ calls) up = kept_numbered (p call) call (filter p calls) (filtered_each p (λ other. call.seq < other.seq) calls up.0) (filtered p calls up.1)

pub standing_numbered : (u : JudgeContext) (past : Trace) → IsLegalPrefix u past → Numbered (pending_calls past)
standing_numbered u past prefix = filtered (is_pending past) (taken past) (taken_numbered u past prefix).up

-- ---- the calls of some connections

abbrev name_on : ℕ → AcceptedCall → CallName
name_on conn call = (conn, call.seq)

each_named : (conn : ℕ) (call : AcceptedCall) (calls : List AcceptedCall) → AllByRecursion (λ other. call.seq < other.seq) calls → All (IsEarlierCall (name_on conn call)) (map (name_on conn) calls)
each_named conn call [] all = All-nil (IsEarlierCall (name_on conn call))
each_named conn call (c ∷ calls) all = All-cons (IsEarlierCall (name_on conn call)) (name_on conn c) (map (name_on conn) calls) (inr (refl, all.0)) (each_named conn call calls all.1)

named_ascend : (conn : ℕ) (calls : List AcceptedCall) → Numbered calls → AreOrdered (map (name_on conn) calls)
named_ascend conn [] up = tt
named_ascend conn (call ∷ calls) up = (each_named conn call calls up.0, named_ascend conn calls up.1)

joined_ascend : (xs ys : List CallName) → AreOrdered xs → AreOrdered ys → ((x : CallName) → Contains xs x → All (IsEarlierCall x) ys) → AreOrdered (xs ++ ys)
joined_ascend [] ys up up' below = up'
joined_ascend (x ∷ xs) ys up up' below =
    (All-append (IsEarlierCall x) xs ys up.0 (below x (in_first x xs)), joined_ascend xs ys up.1 up' (λ c m. below c (in_later x c xs m)))

-- calls of connections above a number are on connections above it
calls_above : (h : History) (n : ℕ) (conns : List ℕ) → AllByRecursion (λ m. n < m) conns → (c : CallName) → Contains (calls_on_all h conns) c → n < c.0
calls_above h n [] all c m = absurd (in_nothing c m)
calls_above h n (conn ∷ conns) all c m = elim (Contains-append_cases (calls_on h conn) (calls_on_all h conns) c m) [
  | inl here ↦ let found = from_map (name_on conn) c (pending_calls (trace_of conn h)) here in let is = ap (λ (c : CallName). c.0) found.2 in omega (arith, is, all.0)
  | inr later ↦ calls_above h n conns all.1 c later
]

all_from : {X : Type 0} (P : X → Type 0) (xs : List X) → ((x : X) → Contains xs x → P x) → All P xs
all_from P [] f = All-nil P
all_from P (x ∷ xs) f = All-cons P x xs (f x (in_first x xs)) (all_from P xs (λ y m. f y (in_later x y xs m)))

calls_ascend : (h : History) (conns : List ℕ) → ((conn : ℕ) → Numbered (pending_calls (trace_of conn h))) → AreAscending conns → AreOrdered (calls_on_all h conns)
calls_ascend h [] up rise = tt
calls_ascend h (conn ∷ conns) up rise =
    joined_ascend (calls_on h conn) (calls_on_all h conns) (named_ascend conn (pending_calls (trace_of conn h)) (up conn)) (calls_ascend h conns up rise.1)
    (λ x m. all_from (IsEarlierCall x) (calls_on_all h conns) (λ c k.
    let found = from_map (name_on conn) x (pending_calls (trace_of conn h)) m in
    let is = ap (λ (c : CallName). c.0) found.2 in
    inl (omega (arith, is, calls_above h conn conns rise.0 c k))))

calls_in : (h : History) (conns : List ℕ) (conn seq : ℕ) → Contains conns conn
    → Contains (map (λ call. call.seq) (pending_calls (trace_of conn h))) seq → Contains (calls_on_all h conns) (conn, seq)
calls_in h [] conn seq m k = absurd (in_nothing conn m)
calls_in h (c ∷ conns) conn seq m k = elim (in_more c conn conns m) [
  | inl same ↦
      let found = from_map (λ call. call.seq) seq (pending_calls (trace_of conn h)) k in
      let is : name_on conn found.0 ≡ (conn, seq) = (λ i. (conn, found.2 i)) in
      let P : CallName → Type 0 = Contains (calls_on h conn) in
      let here = subst P is (in_map (name_on conn) found.0 (pending_calls (trace_of conn h)) found.1) in
      let Q : ℕ → Type 0 = λ c. Contains (calls_on h c) (conn, seq) in
      Contains-append_left (calls_on h c) (calls_on_all h conns) (conn, seq) (subst Q (sym same) here)
  | inr later ↦ Contains-append_right (calls_on h c) (calls_on_all h conns) (conn, seq) (calls_in h conns conn seq later k)
]

calls_out : (h : History) (conns : List ℕ) (conn seq : ℕ) → Contains (calls_on_all h conns) (conn, seq) → Contains (map (λ call. call.seq) (pending_calls (trace_of conn h))) seq
calls_out h [] conn seq m = absurd (in_nothing (conn, seq) m)
calls_out h (c ∷ conns) conn seq m = elim (Contains-append_cases (calls_on h c) (calls_on_all h conns) (conn, seq) m) [
  | inl here ↦
      let found = from_map (name_on c) (conn, seq) (pending_calls (trace_of c h)) here in
      let same : c ≡ conn = ap (λ (c : CallName). c.0) found.2 in
      let number : found.0.seq ≡ seq = ap (λ (c : CallName). c.1) found.2 in
      let P : ℕ → Type 0 = Contains (map (λ call. call.seq) (pending_calls (trace_of c h))) in
      let Q : ℕ → Type 0 = λ c. Contains (map (λ call. call.seq) (pending_calls (trace_of c h))) seq in
      subst Q same (subst P number (in_map (λ call. call.seq) found.0 (pending_calls (trace_of c h)) found.1))
  | inr later ↦ calls_out h conns conn seq later
]

-- connections that ascend, and beside which no connection has an event, have all pending calls
pub all_standing : (h : History) (conns : List ℕ) → ((conn : ℕ) → Numbered (pending_calls (trace_of conn h))) → AreAscending conns
    → ((conn : ℕ) → (Contains conns conn → ⊥) → trace_of conn h ≡ []) → AreAllPending h (calls_on_all h conns)
all_standing h conns up rise others = record {
  ascend = calls_ascend h conns up rise;
  each = λ conn seq. (
    calls_out h conns conn seq,
    λ m. elim (in_or_not conn conns) [
      | inl in' ↦ calls_in h conns conn seq in' m
      | inr out ↦
          let P : Trace → Type 0 = λ past. Contains (map (λ call. call.seq) (pending_calls past)) seq in
          absurd (in_nothing seq (subst P (others conn out) m))
    ],
  );
}
