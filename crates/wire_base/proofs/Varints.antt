-- The bytes of a varint, as they are written and as they are read.
use Rattle.std.proofs.Common.{◌≡◌, ℕ, zero, suc, ◌+◌, ◌-◌, ◌*◌, ◌/◌, ◌%◌, ◌^◌, ◌<◌, ◌≤◌, List, [], ◌∷◌, ◌++◌, length}
use Rattle.std.proofs.Common.{take, drop, set, All, get_or, refl, ap, sym, subst, ◌∙◌, arith, ⊎_elim, length-set}
use Rattle.std.specs.List.{slice_range}
use Rattle.std.proofs.lemmas.Bool.{cases_lt}
use Rattle.std.proofs.lemmas.Bool.Decides.{nat_tests}
use Rattle.std.proofs.lemmas.List.{take_more, take_more_set, get_or-drop, length-take-le, length-drop, append_assoc, drop_at, take_at, length-append, get_or_read, take_all}
use Rattle.std.proofs.lemmas.List.Elements.{All-head, All-tail, All-push, All-nil}
use Rattle.std.proofs.lemmas.Nat.{pow-add}
use Rattle.std.proofs.Math.Nat.{add-mod, mul-le-mul_left}
use Rattle.wire_base.specs.Encoding.{groups, varint}
use Rattle.wire_base.specs.Records.{HasVarintForm, group_sum, IsVarint, IsVarintAt}

pub groups-small : (m n : ℕ) → n < 128 → groups m n ≡ n ∷ []
unfolding groups
groups-small zero n h = refl
groups-small (suc m) n h = grind (arith, nat_tests)

pub groups-large : (m n : ℕ) → 128 ≤ n → groups (suc m) n ≡ (n % 128 + 128) ∷ groups m (n / 128)
unfolding groups
groups-large m n h = grind (arith, nat_tests)

pub groups-last : (n : ℕ) → groups 0 n ≡ n ∷ []
unfolding groups
groups-last n = refl

-- the remaining groups after one more was written
pub groups-step : (i n : ℕ) → i < 9 → 128 ≤ n → groups (9 - i) n ≡ (n % 128 + 128) ∷ groups (9 - (i + 1)) (n / 128)
groups-step i n h large =
    let e : 9 - i ≡ suc (9 - (i + 1)) = omega arith in
    ap (λ m. groups m n) e ∙ groups-large (9 - (i + 1)) n large

-- the remaining number, times the power of its position, stays at most the whole number
pub rest-small : (i n v : ℕ) → n * 128 ^ i ≤ v → n / 128 * 128 ^ (i + 1) ≤ v
rest-small i n v h =
    let power : 128 ^ (i + 1) ≡ 128 ^ i * 128 = pow-add 128 i 1 in
    let fewer : 128 ^ i * (n / 128 * 128) ≤ 128 ^ i * n = mul-le-mul_left (128 ^ i) (let e : n / 128 * 128 ≤ n = omega arith in e) in
    omega (arith, ap (λ p. n / 128 * p) power, fewer)

-- one more byte with the top bit set at the start
HasVarintForm-front : (b : ℕ) (bs : List ℕ) → 128 ≤ b → HasVarintForm bs → HasVarintForm (b ∷ bs)
HasVarintForm-front b [] h f = absurd f
HasVarintForm-front b (c ∷ bs) h f = (h, f)

-- bytes with the top bit set, and then the last byte
pub HasVarintForm-last : (bs : List ℕ) (b : ℕ) → All (λ x. 128 ≤ x) bs → b < 128 → HasVarintForm (bs ++ b ∷ [])
HasVarintForm-last [] b top h = h
HasVarintForm-last (x ∷ bs) b top h = HasVarintForm-front x (bs ++ b ∷ []) (All-head (λ x. 128 ≤ x) x bs top) (HasVarintForm-last bs b (All-tail (λ x. 128 ≤ x) x bs top) h)

-- one more group at the end
pub group_sum-last : (bs : List ℕ) (b : ℕ) → group_sum (bs ++ b ∷ []) ≡ group_sum bs + b % 128 * 2 ^ (7 * length bs)
group_sum-last [] b = omega arith
group_sum-last (x ∷ bs) b =
    let again = group_sum-last bs b in
    let power : 2 ^ (7 * length (x ∷ bs)) ≡ 128 * 2 ^ (7 * length bs) =
    ap (λ k. 2 ^ k) (let e : 7 * length (x ∷ bs) ≡ 7 + 7 * length bs = omega arith in e)
    ∙ pow-add 2 7 (7 * length bs) in
    let moved : b % 128 * (128 * 2 ^ (7 * length bs)) ≡ 128 * (b % 128 * 2 ^ (7 * length bs)) = omega arith in
    omega (arith, again, ap (λ p. b % 128 * p) power, moved)

-- one more byte of a range
pub slice_range-more : (bytes : List ℕ) (at i b : ℕ) → at ≤ i → i < length bytes → b ≡ get_or bytes i 0 → slice_range bytes at (i + 1) ≡ slice_range bytes at i ++ b ∷ []
slice_range-more bytes at i b from within is =
    let step = take_more (drop at bytes) (i - at) 0 (omega (arith, length-drop at bytes)) in
    let here : get_or (drop at bytes) (i - at) 0 ≡ b = get_or-drop at bytes (i - at) 0 ∙ ap (λ k. get_or bytes k 0) (let e : at + (i - at) ≡ i = omega arith in e) ∙ sym is in
    ap (λ k. take k (drop at bytes)) (let e : i + 1 - at ≡ i - at + 1 = omega arith in e) ∙ step ∙ ap (λ x. slice_range bytes at i ++ x ∷ []) here

pub length-slice_range : (bytes : List ℕ) (at i : ℕ) → at ≤ i → i ≤ length bytes → length (slice_range bytes at i) ≡ i - at
length-slice_range bytes at i from within = length-take-le (i - at) (drop at bytes) (omega (arith, length-drop at bytes))

-- the value after one more group was added
pub value-more : (bytes : List ℕ) (at i g v : ℕ) → at ≤ i → i < length bytes → g ≡ get_or bytes i 0 % 128
    → v ≡ group_sum (slice_range bytes at i) % 2 ^ 64
    → (v + (g * 2 ^ (7 * (i - at))) % 2 ^ 64) % 2 ^ 64 ≡ group_sum (slice_range bytes at (i + 1)) % 2 ^ 64
value-more bytes at i g v from within group value =
    let b = get_or bytes i 0 in
    let front = slice_range bytes at i in
    let long : length front ≡ i - at = length-slice_range bytes at i from (omega arith) in
    let sum : group_sum (slice_range bytes at (i + 1)) ≡ group_sum front + b % 128 * 2 ^ (7 * (i - at)) =
    ap group_sum (slice_range-more bytes at i b from within refl) ∙ group_sum-last front b
    ∙ ap (λ k. group_sum front + b % 128 * 2 ^ (7 * k)) long in
    ap (λ h. (v + (h * 2 ^ (7 * (i - at))) % 2 ^ 64) % 2 ^ 64) group
    ∙ ap (λ u. (u + (b % 128 * 2 ^ (7 * (i - at))) % 2 ^ 64) % 2 ^ 64) value
    ∙ sym (add-mod (group_sum front) (b % 128 * 2 ^ (7 * (i - at))) (2 ^ 64)) ∙ ap (λ s. s % 2 ^ 64) (sym sum)

pub top-more : (bytes : List ℕ) (at i b : ℕ) → at ≤ i → i < length bytes → b ≡ get_or bytes i 0 → 128 ≤ b
    → All (λ x. 128 ≤ x) (slice_range bytes at i) → All (λ x. 128 ≤ x) (slice_range bytes at (i + 1))
top-more bytes at i b from within is high top = rw (slice_range-more bytes at i b from within is) (All-push (λ x. 128 ≤ x) (slice_range bytes at i) b top high)

-- the last byte is there
pub VarintAt-last : (bytes : List ℕ) (at i b v : ℕ) → at ≤ i → i < at + 10 → i < length bytes → b ≡ get_or bytes i 0
    → b < 128 → All (λ x. 128 ≤ x) (slice_range bytes at i) → v ≡ group_sum (slice_range bytes at (i + 1)) % 2 ^ 64
    → IsVarintAt bytes at v (i + 1)
VarintAt-last bytes at i b v from near within is low top value = record {
  within = omega arith;
  spelled = record {
    form = rw (slice_range-more bytes at i b from within is) (HasVarintForm-last (slice_range bytes at i) b top low);
    short = omega (arith, length-slice_range bytes at (i + 1) (omega arith) (omega arith));
    value = value;
  };
}

-- the bytes that were written, and one more after them
pub groups-written : (bytes : List ℕ) (i b n m v : ℕ) → i < 9 → i < length bytes → 128 ≤ n → b ≡ n % 128 + 128
    → m ≡ n / 128 → take i bytes ++ groups (9 - i) n ≡ groups 9 v
    → take (i + 1) (set bytes i b) ++ groups (9 - (i + 1)) m ≡ groups 9 v
groups-written bytes i b n m v near long large byte rest written =
    let last : take (i + 1) (set bytes i b) ≡ take i bytes ++ b ∷ [] = take_more_set bytes i b long in
    let tail = groups (9 - (i + 1)) (n / 128) in
    ap (λ xs. xs ++ groups (9 - (i + 1)) m) last ∙ ap (λ k. (take i bytes ++ b ∷ []) ++ groups (9 - (i + 1)) k) rest
    ∙ append_assoc (take i bytes) (b ∷ []) tail ∙ ap (λ k. take i bytes ++ k ∷ tail) byte
    ∙ ap (λ xs. take i bytes ++ xs) (sym (groups-step i n near large)) ∙ written

-- the last byte is written
pub groups-done : (bytes : List ℕ) (i n v : ℕ) → i < 10 → i < length bytes → groups (9 - i) n ≡ n ∷ []
    → take i bytes ++ groups (9 - i) n ≡ groups 9 v → take (i + 1) (set bytes i n) ≡ groups 9 v
groups-done bytes i n v near long one written =
    take_more_set bytes i n long ∙ ap (λ xs. take i bytes ++ xs) (sym one) ∙ written

pub groups-end : (i n : ℕ) → 9 ≤ i → groups (9 - i) n ≡ n ∷ []
groups-end i n h = ap (λ m. groups m n) (let e : 9 - i ≡ 0 = omega arith in e) ∙ groups-last n

rest-below : (m n : ℕ) → n < 128 * 128 ^ suc m → n / 128 < 128 * 128 ^ m
rest-below m n h =
    let power : 128 ^ suc m ≡ 128 * 128 ^ m = ap (λ k. 128 ^ k) (let e : suc m ≡ 1 + m = omega arith in e) ∙ pow-add 128 1 m in
    omega (arith, power)

HasVarintForm-groups : (m n : ℕ) → n < 128 * 128 ^ m → HasVarintForm (groups m n)
HasVarintForm-groups zero n h = rw (groups-last n) (let e : n < 128 = omega arith in e)
HasVarintForm-groups (suc m) n h =
    ⊎_elim
    (λ small. rw (groups-small (suc m) n small) small)
    (λ large. rw (groups-large m n large) (HasVarintForm-front (n % 128 + 128) (groups m (n / 128)) (omega arith) (HasVarintForm-groups m (n / 128) (rest-below m n h))))
    (cases_lt n 128)

group_sum-groups : (m n : ℕ) → n < 128 * 128 ^ m → group_sum (groups m n) ≡ n
group_sum-groups zero n h = rw (groups-last n) (let e : n % 128 + 128 * 0 ≡ n = omega arith in e)
group_sum-groups (suc m) n h =
    ⊎_elim
    (λ small. rw (groups-small (suc m) n small) (let e : n % 128 + 128 * 0 ≡ n = omega arith in e))
    (λ large. rw (groups-large m n large) (let again = group_sum-groups m (n / 128) (rest-below m n h) in
    let e : (n % 128 + 128) % 128 + 128 * group_sum (groups m (n / 128)) ≡ n = omega (arith, again) in e))
    (cases_lt n 128)

length-groups : (m n : ℕ) → length (groups m n) ≤ m + 1
length-groups zero n = rw (groups-last n) (omega arith)
length-groups (suc m) n =
    ⊎_elim
    (λ small. omega (arith, ap length (groups-small (suc m) n small)))
    (λ large. omega (arith, ap length (groups-large m n large), length-groups m (n / 128)))
    (cases_lt n 128)

-- a varint has one to ten bytes
pub length-varint-most : (v : ℕ) → length (varint v) ≤ 10
unfolding varint
length-varint-most v = length-groups 9 v

pub length-varint-least : (v : ℕ) → 1 ≤ length (varint v)
unfolding varint
length-varint-least v = ⊎_elim (λ small. omega (arith, ap length (groups-small 9 v small))) (λ large. omega (arith, ap length (groups-large 8 v large))) (cases_lt v 128)

-- what is written as a varint is one
pub IsVarint-varint : (v : ℕ) → v < 2 ^ 64 → IsVarint (varint v) v
unfolding varint
IsVarint-varint v h =
    let below : v < 128 * 128 ^ 9 = omega arith in
    record {
      form = HasVarintForm-groups 9 v below;
      short = length-groups 9 v;
      value = let sum = group_sum-groups 9 v below in let e : v % 2 ^ 64 ≡ v = omega arith in sym (ap (λ s. s % 2 ^ 64) sum ∙ e);
    }

-- what was written as a varint is read back, whatever precedes and follows it
pub VarintAt-varint : (before after : List ℕ) (v : ℕ) → v < 2 ^ 64 → IsVarintAt (before ++ (varint v ++ after)) (length before) v (length before + length (varint v))
VarintAt-varint before after v h =
    let at = length before in
    let n = length (varint v) in
    let part : slice_range (before ++ (varint v ++ after)) at (at + n) ≡ varint v =
    ap (λ k. take k (drop at (before ++ (varint v ++ after)))) (let e : at + n - at ≡ n = omega arith in e)
    ∙ ap (take n) (drop_at before (varint v ++ after) at refl) ∙ take_at (varint v) after n refl in
    record {
      within = omega (arith, length-append before (varint v ++ after), length-append (varint v) after);
      spelled = rw part (IsVarint-varint v h);
    }

-- a byte without the top bit is a varint by itself
pub VarintAt-byte : (bytes : List ℕ) (at b v : ℕ) → at < length bytes → b ≡ get_or bytes at b → b < 128 → v ≡ b → IsVarintAt bytes at v (at + 1)
VarintAt-byte bytes at b v within is low value =
    let here = get_or_read bytes at b within is 0 in
    let none : slice_range bytes at at ≡ [] = ap (λ n. take n (drop at bytes)) (let e : at - at ≡ 0 = omega arith in e) in
    let one : slice_range bytes at (at + 1) ≡ b ∷ [] = slice_range-more bytes at at b (omega arith) within here ∙ ap (λ xs. xs ++ b ∷ []) none in
    let group : b ≡ (b % 128 + 128 * 0) % 2 ^ 64 = omega arith in
    VarintAt-last bytes at at b v (omega arith) (omega arith) within here low (rw none (All-nil (λ x. 128 ≤ x))) (value ∙ group ∙ sym (ap (λ xs. group_sum xs % 2 ^ 64) one))

shortest : (bs : List ℕ) → HasVarintForm bs → (m n : ℕ) → n ≤ group_sum bs → length (groups m n) ≤ length bs
shortest [] f m n h = absurd f
shortest (b ∷ []) f m n h = omega (arith, ap length (groups-small m n (let e : n < 128 = omega arith in e)))
shortest (b ∷ c ∷ bs) f zero n h = omega (arith, ap length (groups-last n))
shortest (b ∷ c ∷ bs) f (suc m) n h =
    ⊎_elim
    (λ small. omega (arith, ap length (groups-small (suc m) n small)))
    (λ large.
    let fewer : n / 128 ≤ group_sum (c ∷ bs) = omega (arith, h) in
    omega (arith, ap length (groups-large m n large), shortest (c ∷ bs) f.1 m (n / 128) fewer))
    (cases_lt n 128)

-- no varint of the number is shorter
pub varint-shortest : (bytes : List ℕ) (v : ℕ) → IsVarint bytes v → length (varint v) ≤ length bytes
unfolding varint
varint-shortest bytes v is =
    let value = is.value in
    shortest bytes is.form 9 v (omega (arith, value))

-- what was written is the shortest varint of the number
pub IsVarint-written : (bytes : List ℕ) (v : ℕ) → v < 2 ^ 64 → bytes ≡ varint v → IsVarint bytes v
IsVarint-written bytes v small is = rw is (IsVarint-varint v small)

pub written-shortest : (written : List ℕ) (v : ℕ) → written ≡ varint v → (bytes : List ℕ) → IsVarint bytes v → length written ≤ length bytes
written-shortest written v is bytes other = omega (arith, ap length is, varint-shortest bytes v other)

-- ---- how many bytes a varint has, by the size of its number

-- one group more for a number of more than seven bits
groups-longer : (m n : ℕ) → 128 ≤ n → length (groups (suc m) n) ≡ 1 + length (groups m (n / 128))
groups-longer m n large = omega (arith, ap length (groups-large m n large))

-- as many groups as the number has, if there is room for them
length-groups-at : (k m n : ℕ) → k ≤ m → 128 ^ k ≤ n → n < 128 * 128 ^ k → length (groups m n) ≡ k + 1
length-groups-at zero m n le least below = ap length (groups-small m n (omega (arith, below)))
length-groups-at (suc k) zero n le least below = absurd (omega (arith, le))
length-groups-at (suc k) (suc m) n le least below =
    let power : 128 ^ suc k ≡ 128 * 128 ^ k = ap (λ j. 128 ^ j) (let e : suc k ≡ 1 + k = omega arith in e) ∙ pow-add 128 1 k in
    let some : 1 ≤ 128 ^ k = pow-some k in
    let large : 128 ≤ n = omega (arith, least, power, some) in
    let inside : 128 ^ k ≤ n / 128 = omega (arith, least, power) in
    let again = length-groups-at k m (n / 128) (omega (arith, le)) inside (rest-below k n below) in
    omega (arith, groups-longer m n large, again)
  where
    pow-some : (k : ℕ) → 1 ≤ 128 ^ k
    pow-some zero = omega arith
    pow-some (suc k) =
        let power : 128 ^ suc k ≡ 128 * 128 ^ k = ap (λ j. 128 ^ j) (let e : suc k ≡ 1 + k = omega arith in e) ∙ pow-add 128 1 k in
        omega (arith, power, pow-some k)

-- a number with exactly k + 1 groups of seven bits
pub length-varint-at : (k v : ℕ) → k ≤ 9 → 128 ^ k ≤ v → v < 128 * 128 ^ k → length (varint v) ≡ k + 1
unfolding varint
length-varint-at k v le least below = length-groups-at k 9 v le least below

pub length-varint-small : (v : ℕ) → v < 128 → length (varint v) ≡ 1
unfolding varint
length-varint-small v h = ap length (groups-small 9 v h)

-- ---- writing as many groups as there is room for

length-groups-some : (m n : ℕ) → 1 ≤ length (groups m n)
length-groups-some zero n = omega (arith, ap length (groups-last n))
length-groups-some (suc m) n = ⊎_elim (λ small. omega (arith, ap length (groups-small (suc m) n small))) (λ large. omega (arith, groups-longer m n large)) (cases_lt n 128)

-- two groups or more have more than seven bits
two-groups : (m n : ℕ) → 2 ≤ length (groups m n) → 128 ≤ n
two-groups m n two = ⊎_elim (λ small. absurd (omega (arith, two, ap length (groups-small m n small)))) (λ large. large) (cases_lt n 128)

one-group : (m n : ℕ) → length (groups m n) ≡ 1 → groups m n ≡ n ∷ []
one-group zero n one = groups-last n
one-group (suc m) n one =
    ⊎_elim (λ small. groups-small (suc m) n small) (λ large. absurd (omega (arith, one, groups-longer m n large, length-groups-some m (n / 128)))) (cases_lt n 128)

length-left : (bytes : List ℕ) (i n v : ℕ) → i ≤ length bytes → length bytes ≡ length (groups 9 v)
    → take i bytes ++ groups (9 - i) n ≡ groups 9 v → length (groups (9 - i) n) ≡ length bytes - i
length-left bytes i n v within sized spelled =
    omega (arith, sized, ap length spelled, length-append (take i bytes) (groups (9 - i) n), length-take-le i bytes within)

-- the invariant of the loop
pub record AreFilled (bytes : List ℕ) (i n v : ℕ) : Type 0 where
  pub sized : length bytes ≡ length (varint v)
  pub small : n * 128 ^ i ≤ v
  pub spelled : take i bytes ++ groups (9 - i) n ≡ varint v

pub filled-first : (bytes : List ℕ) (v : ℕ) → length bytes ≡ length (varint v) → AreFilled bytes 0 v v
unfolding varint
filled-first bytes v sized = record { sized = sized; small = omega arith; spelled = refl }

pub filled-more : (bytes : List ℕ) (i n v : ℕ) → i + 1 < length bytes → AreFilled bytes i n v → AreFilled (set bytes i (n % 128 + 128)) (i + 1) (n / 128) v
unfolding varint
filled-more bytes i n v within was =
    let most = length-varint-most v in
    let sized = was.sized in
    let left = length-left bytes i n v (omega arith) sized was.spelled in
    let large = two-groups (9 - i) n (omega (arith, left)) in
    record {
      sized = length-set bytes i (n % 128 + 128) ∙ sized;
      small = rest-small i n v was.small;
      spelled = groups-written bytes i (n % 128 + 128) n (n / 128) v (omega (arith, most, sized)) (omega arith) large refl refl was.spelled;
    }

pub filled-done : (bytes : List ℕ) (i n v : ℕ) → i + 1 ≡ length bytes → AreFilled bytes i n v → set bytes i n ≡ varint v
unfolding varint
filled-done bytes i n v end was =
    let most = length-varint-most v in
    let sized = was.sized in
    let left = length-left bytes i n v (omega arith) sized was.spelled in
    let one = one-group (9 - i) n (omega (arith, left)) in
    sym (take_all (i + 1) (set bytes i n) (omega (arith, length-set bytes i n))) ∙ groups-done bytes i n v (omega (arith, most, sized)) (omega arith) one was.spelled

-- the last group fits a byte
pub filled-fits : (bytes : List ℕ) (i n v : ℕ) → i + 1 ≡ length bytes → v < 2 ^ 64 → AreFilled bytes i n v → n < 256
unfolding varint
filled-fits bytes i n v end bits was =
    ⊎_elim
    (λ small. omega (arith, small))
    (λ large.
    let most = length-varint-most v in
    let sized = was.sized in
    let left = length-left bytes i n v (omega arith) sized was.spelled in
    let nine : i ≡ 9 = no-more i n large (omega (arith, most, sized)) (omega (arith, left)) in
    let few = subst (λ k. n * 128 ^ k ≤ v) nine was.small in
    omega (arith, few))
    (cases_lt n 128)
  where
    no-more : (i n : ℕ) → 128 ≤ n → i ≤ 9 → length (groups (9 - i) n) ≡ 1 → i ≡ 9
    no-more i n large le one =
        ⊎_elim
        (λ less. absurd (let e : 9 - i ≡ suc (9 - (i + 1)) = omega (arith, less) in
        let f = ap length (ap (λ m. groups m n) e ∙ groups-large (9 - (i + 1)) n large) in
        omega (arith, one, f, length-groups-some (9 - (i + 1)) (n / 128))))
        (λ most. omega (arith, most, le))
        (cases_lt i 9)
