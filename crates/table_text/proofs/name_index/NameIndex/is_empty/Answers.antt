use Rattle.std.proofs.Common.{◌≡◌, ℕ, zero, suc, ◌-◌, ◌^◌, ◌==◌, min, length, refl, sym, ◌∙◌, arith}
use Rattle.std.proofs.lemmas.Bool.{ne_eqb}
use Rattle.table_text.proofs.name_index.NameIndex.is_empty.Goals as goal

counted : (n m : ℕ) → m ≡ min n (2 ^ 32 - 1) → (m == 0) ≡ (n == 0)
counted zero m e = let none : m ≡ 0 = omega (arith, e) in rw none refl
counted (suc n) m e = ne_eqb m 0 (λ none. absurd (omega (arith, e))) ∙ sym (ne_eqb (suc n) 0 (λ none. absurd (omega arith)))

pub returns : goal.returns
returns c names h = counted (length names) c.args.self.now.count h.count
