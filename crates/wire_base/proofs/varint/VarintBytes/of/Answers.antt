use Rattle.std.proofs.Common.{◌≡◌, ℕ, List, ◌-◌, ◌%◌, ◌+◌, ◌<◌, ◌++◌, refl, arith, ap, sym, take, set, length, length-set, ◌∙◌}
use Rattle.wire_base.specs.Encoding.{groups, varint}
use Rattle.wire_base.proofs.Varints.{groups-small, groups-end, groups-written, groups-done, rest-small, IsVarint-written, written-shortest}
use Rattle.wire_base.proofs.varint.VarintBytes.of.Goals as goal

pub loop-place-preserved : goal.loop-place-preserved
loop-place-preserved c =
    let i = c.loop-place.place in
    let was = c.loop-place.invariant in
    record {
      sized = length-set c.loop-place.bytes i (c.loop-place.rest % 128 + 128) ∙ was.sized;
      small = rest-small i c.loop-place.rest c.args.v was.small;
      spelled = groups-written c.loop-place.bytes i _ c.loop-place.rest _ c.args.v c.loop-place-test.true (let s =
          was.sized in omega (arith, s, c.loop-place-test.true)) c.if-rest-lt128.false refl refl was.spelled;
    }

written-short : (bytes : List ℕ) (i n v : ℕ) → i < 10 → length bytes ≡ 10 → n < 128
    → take i bytes ++ groups (9 - i) n ≡ groups 9 v → take (i + 1) (set bytes i n) ≡ varint v
unfolding varint
written-short bytes i n v near long small was = groups-done bytes i n v near (omega (arith, near, long)) (groups-small (9 - i) n small) was

written-long : (bytes : List ℕ) (i n v : ℕ) → i ≡ 9 → length bytes ≡ 10 → take i bytes ++ groups (9 - i) n ≡ groups 9 v → take 10 (set bytes 9 n) ≡ varint v
unfolding varint
written-long bytes i n v end long was =
    ap (λ k. take (k + 1) (set bytes k n)) (sym end) ∙ groups-done bytes i n v (omega arith) (omega (arith, end, long)) (groups-end i n (omega arith)) was

pub returns-then-rest-lt128 : goal.returns-then-rest-lt128
returns-then-rest-lt128 c =
    let is = written-short c.loop-place.bytes c.loop-place.place c.loop-place.rest c.args.v (omega arith) c.loop-place.invariant.sized c.if-rest-lt128.true c.loop-place.invariant.spelled in
    record { value = is; read = IsVarint-written _ c.args.v (omega arith) is; shortest = written-shortest _ c.args.v is }

pub returns : goal.returns
returns c =
    let is = written-long c.loop-place.bytes c.loop-place.place c.loop-place.rest c.args.v (omega arith) c.loop-place.invariant.sized c.loop-place.invariant.spelled in
    record { value = is; read = IsVarint-written _ c.args.v (omega arith) is; shortest = written-shortest _ c.args.v is }
