use Rattle.std.proofs.Common.{◌≡◌, ◌+◌, ◌/◌, ◌%◌, ◌^◌, ◌<◌, ◌≤◌, [], ◌∷◌, ◌++◌, ℕ, length, ap, arith, length-append, lit≤}
use Rattle.std.specs.Fmt.{decimal}
use Rattle.std.proofs.lemmas.Fmt.{decimal_digit, decimal_step_wide, length-decimal-le_wide}
use Rattle.schema_validation.proofs.lines.digits.Goals as goal

few : (n : ℕ) → n < 2 ^ 128 → length (decimal n) ≤ 39
few n l =
    let a : 2 ^ 128 ≤ 10 ^ 39 = lit≤ tt in
    let b : 2 ^ 128 ≤ 10 ^ 64 = lit≤ tt in
    length-decimal-le_wide 39 n (omega arith) (omega arith) (omega arith)

step : (n : ℕ) → 10 ≤ n → n < 2 ^ 128 → length (decimal n) ≡ length (decimal (n / 10)) + 1
step n l u =
    let b : 2 ^ 128 ≤ 10 ^ 64 = lit≤ tt in
    let e : decimal n ≡ decimal (n / 10) ++ (48 + n % 10) ∷ [] = decimal_step_wide n l (omega arith) in
    omega (arith, ap length e, length-append (decimal (n / 10)) ((48 + n % 10) ∷ []))

one : (n : ℕ) → n < 10 → length (decimal n) ≡ 1
one n l = ap length (decimal_digit n l)

pub overflow_add-count : goal.overflow_add-count
overflow_add-count c = omega (arith, few c.args.number c.ranges.number.fits)

pub loop-rest-preserved : goal.loop-rest-preserved
loop-rest-preserved c = (
  omega arith,
  omega (arith, step c.loop-rest.rest c.loop-rest-test.true (omega (arith, c.ranges.number.fits))),
)

pub returns-clause-is : goal.returns-clause-is
returns-clause-is c = omega (arith, one c.loop-rest.rest c.loop-rest-test.false)

pub returns-clause-few : goal.returns-clause-few
returns-clause-few c =
    omega (arith, one c.loop-rest.rest c.loop-rest-test.false, few c.args.number c.ranges.number.fits)
