-- The number of bytes of varints, tags, numbers and runs.
use Rattle.std.proofs.Common.{◌≡◌, ⊎_elim, ℕ, zero, suc, ◌+◌, ◌*◌, ◌/◌, ◌^◌, ◌<◌, ◌≤◌, List, [], ◌∷◌, length, refl, ap, arith, length-append}
use Rattle.std.proofs.lemmas.Bool.{cases_lt}
use Rattle.std.proofs.lemmas.Bool.Decides.{nat_tests}
use Rattle.std.proofs.lemmas.Nat.{div_below}
use Rattle.std.proofs.Math.Nat.{pow-suc}
use Rattle.mrpc_table.specs.declared.table.Kind.{Kind}
use Rattle.mrpc_table.specs.declared.table.Kind.TheVariants.{Sint32, Sint64, Fixed32, Fixed64, Sfixed32, Sfixed64, Float, Double, Text, Octets, Message as OfMessage}
use Rattle.wire_base.specs.Encoding.{groups, varint, tag, delimited, number_bytes}
use Rattle.mrpc_table.specs.WireTypes.{wire_type_of}

-- ---- varints

groups-small : (more n : ℕ) → n < 128 → groups more n ≡ n ∷ []
unfolding groups
groups-small zero n h = refl
groups-small (suc more) n h = grind (arith, nat_tests)

groups-large : (more n : ℕ) → 128 ≤ n → length (groups (suc more) n) ≡ 1 + length (groups more (n / 128))
unfolding groups
groups-large more n h = grind (arith, nat_tests)

groups-last : (n : ℕ) → length (groups 0 n) ≡ 1
unfolding groups
groups-last n = refl

groups-short : (k more n : ℕ) → n < 128 ^ suc k → length (groups more n) ≤ suc k
groups-short k zero n h = omega (arith, groups-last n)
groups-short zero (suc more) n h = let e = ap length (groups-small (suc more) n h) in omega (arith, e)
groups-short (suc k) (suc more) n h =
    ⊎_elim
    (λ small. (let e = ap length (groups-small (suc more) n small) in omega (arith, e)))
    (λ large. (let rest = groups-short k more (n / 128) (div_below n 128 (128 ^ suc k) (omega arith) (let e = pow-suc 128 (suc k) in omega (arith, e, h))) in
    let e = groups-large more n large in omega (arith, e, rest)))
    (cases_lt n 128)

pub varint-short : (k n : ℕ) → n < 128 ^ suc k → length (varint n) ≤ suc k
unfolding varint
varint-short k n h = groups-short k 9 n h

-- ---- tags

pub wire_type-small : (k : Kind) → wire_type_of k ≤ 5
wire_type-small Fixed64 = omega arith
wire_type-small Sfixed64 = omega arith
wire_type-small Double = omega arith
wire_type-small Fixed32 = omega arith
wire_type-small Sfixed32 = omega arith
wire_type-small Float = omega arith
wire_type-small Text = omega arith
wire_type-small Octets = omega arith
wire_type-small (OfMessage i) = omega arith
wire_type-small _ = omega arith

pub tag-at_most_five : (n wire_type : ℕ) → n < 2 ^ 29 → wire_type ≤ 5 → length (tag n wire_type) ≤ 5
tag-at_most_five n wire_type h w = varint-short 4 (8 * n + wire_type) (omega (arith, h, w))

-- the tags of a key and of a value
pub tag-at_most_one : (n wire_type : ℕ) → n ≤ 2 → wire_type ≤ 5 → length (tag n wire_type) ≤ 1
tag-at_most_one n wire_type h w = varint-short 0 (8 * n + wire_type) (omega (arith, h, w))

-- ---- values

abbrev pub TenBytes : Type 0
TenBytes = (v : ℕ) → length (varint v) ≤ 10

pub number-at_most_ten : (ten : TenBytes) (k : Kind) (n : ℕ) → length (number_bytes k n) ≤ 10
number-at_most_ten ten Sint32 n = ten _
number-at_most_ten ten Sint64 n = ten _
number-at_most_ten ten Fixed64 n = omega arith
number-at_most_ten ten Sfixed64 n = omega arith
number-at_most_ten ten Double n = omega arith
number-at_most_ten ten Fixed32 n = omega arith
number-at_most_ten ten Sfixed32 n = omega arith
number-at_most_ten ten Float n = omega arith
number-at_most_ten ten _ n = ten n

-- bytes after their length, if the length has at most three bytes
pub delimited-short : (bytes : List ℕ) → length bytes < 2 ^ 21 → length (delimited bytes) ≤ 3 + length bytes
delimited-short bytes h =
    let prefix = varint-short 2 (length bytes) (omega (arith, h)) in
    let e = length-append (varint (length bytes)) bytes in
    omega (arith, prefix, e)
