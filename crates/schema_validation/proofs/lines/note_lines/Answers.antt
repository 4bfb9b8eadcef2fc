use Rattle.std.proofs.Common.{◌≡◌, ◌+◌, ◌<◌, ◌-◌, ◌^◌, ℕ, length, take, get_or, true, arith, ltb}
use Rattle.std.proofs.lemmas.Bool.{ltb-true, lt-ltb}
use Rattle.std.specs.Prelude.{sum_by, min}
use Rattle.std.proofs.lemmas.List.Sums.{sum_by_more}
use Rattle.std.proofs.lemmas.Option.{slice_get-get_or}
use Rattle.mrpc_table.specs.declared.limits.TheConstants.{MAX_TEXT}
use Rattle.proto_ast.specs.declared.file.Span.{Span}
use Rattle.mrpc_table.specs.Capped.{capped}
use Rattle.schema_validation.specs.Lengths.{IsPast}
use Rattle.schema_validation.specs.declared.reason.ResolveReason.TheVariants.{Limit}
use Rattle.schema_validation.proofs.Meetings.{meets_when, meets_next, meets_elements}
use Rattle.schema_validation.proofs.lines.note_lines.Goals as goal

-- a capped sum exceeds the limit only if the sum does
is_past : (n m : ℕ) → n ≡ capped m → ltb MAX_TEXT n ≡ true → MAX_TEXT < m
is_past n m e t = omega (arith, ltb-true MAX_TEXT n t)

past : (n m : ℕ) → n ≡ capped m → MAX_TEXT < m → ltb MAX_TEXT n ≡ true
past n m e l = lt-ltb MAX_TEXT n (omega arith)

more : (total n sum all cut : ℕ) → total ≡ capped sum → cut ≡ min (total + n) (2 ^ 64 - 1) → all ≡ sum + n
    → cut ≡ capped all
more total n sum all cut a b e = omega arith

pub loop-i-preserved : goal.loop-i-preserved
loop-i-preserved c =
    let xs = c.args.lines.now in
    let i = c.loop-i.i in
    let none : Span × ℕ = (record { start = 0; end = 0; line = 0 }, 0) in
    let x = get_or xs i none in
    let l : i < length xs = c.loop-i-test.true in
    let sum = sum_by (λ (y : Span × ℕ). y.1) (take (i + 1) xs) in
    let total : c.saturating_add-total.result ≡ capped sum =
    more c.loop-i.total x.1 (sum_by (λ (y : Span × ℕ). y.1) (take i xs)) sum c.saturating_add-total.result
    c.loop-i.invariant.total c.saturating_add-total.ensures (sum_by_more (λ (y : Span × ℕ). y.1) xs i none l) in
    record {
      total = total;
      meets = meets_next xs (IsPast xs) i x c.args.first.now c.loop-i.first c.note_if.new.self
          (slice_get-get_or xs i none l) c.loop-i.invariant.meets
          (meets_when (MAX_TEXT < sum) (ltb MAX_TEXT c.saturating_add-total.result) Limit x.0 c.loop-i.first
          c.note_if.new.self (is_past c.saturating_add-total.result sum total)
          (past c.saturating_add-total.result sum total) c.note_if.ensures);
    }

pub returns : goal.returns
returns c =
    let xs = c.args.lines.now in
    let e : c.loop-i.i ≡ length xs = omega (arith, c.loop-i-test.false, c.loop-i.auto.i-end) in
    meets_elements xs (IsPast xs) c.loop-i.i c.args.first.now c.loop-i.first e c.loop-i.invariant.meets
