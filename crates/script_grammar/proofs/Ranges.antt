-- Numbers in their ranges.
use Rattle.std.proofs.Common.{◌≡◌, ◌⊎◌, ℕ, ◌<◌, ◌≤◌, ◌^◌, ◌&&◌, Result, Ok, Err, sym, ap, ◌∙◌, inl, inr, arith}
use Rattle.std.specs.Prelude.{nat_le, nat_lt}
use Rattle.std.proofs.lemmas.Bool.{and_from, and_parts, leb-true, le-leb, lt-ltb, le-ltb, false≢true, cases_Bool, cases_lt, cond-true, cond-false}
use Rattle.mrpc_table.specs.Lines.{in_64_bits}
use Rattle.mrpc_table.specs.declared.words.Decimal.TheVariants.{Small, Large}
use Rattle.script_grammar.specs.Limits.{within}
use Rattle.script_grammar.specs.declared.fault.ScriptReason.{ScriptReason}
use Rattle.script_grammar.specs.declared.fault.ScriptReason.TheVariants.{Number}

-- a test passes if the fact holds, and returns the reason otherwise
abbrev pub Tests : {X : Type 0} → Type 0 → Result X ScriptReason → X → ScriptReason → Type 0
Tests P r x reason = (P × (r ≡ Ok x)) ⊎ ((P → ⊥) × (r ≡ Err reason))

within_small : (least most n : ℕ) → Tests ((least ≤ n) × (n ≤ most)) (within least most (Small n)) n Number
within_small least most n =
    elim (cases_Bool (nat_le least n && nat_le n most)) [
      | inl holds ↦ let parts = and_parts (nat_le least n) (nat_le n most) holds in
          inl (
            (leb-true least n parts.0, leb-true n most parts.1),
            cond-true (nat_le least n && nat_le n most) (Ok n) (Err Number) holds,
          )
      | inr isnt ↦ inr (
        λ h. false≢true (sym isnt ∙ and_from (nat_le least n) (nat_le n most) (le-leb least n h.0) (le-leb n most h.1)),
        cond-false (nat_le least n && nat_le n most) (Ok n) (Err Number) isnt,
      )
    ]

in_64_bits-small : (n : ℕ) → n < 2 ^ 64 → in_64_bits n ≡ Small n
in_64_bits-small n small = cond-true (nat_lt n (2 ^ 64)) (Small n) Large (lt-ltb n (2 ^ 64) small)

in_64_bits-large : (n : ℕ) → 2 ^ 64 ≤ n → in_64_bits n ≡ Large
in_64_bits-large n large = cond-false (nat_lt n (2 ^ 64)) (Small n) Large (le-ltb n (2 ^ 64) large)

pub within_tests : (least most n : ℕ) → most < 2 ^ 64 → Tests ((least ≤ n) × (n ≤ most)) (within least most (in_64_bits n)) n Number
within_tests least most n bound =
    elim (cases_lt n (2 ^ 64)) [
      | inl small ↦ rw (in_64_bits-small n small) (within_small least most n)
      | inr large ↦ inr (λ h. omega (arith, h.1, bound, large), ap (within least most) (in_64_bits-large n large))
    ]
