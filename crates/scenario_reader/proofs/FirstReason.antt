-- The first of the reasons that hold, from those of the parts.
use Rattle.std.proofs.Common.{◌≡◌, ◌⊎◌, ℕ, ◌≤◌, nat_le, Bool, true, false, if◌then◌else◌, Option, Some, None, inl, inr, refl, sym, ap, subst, arith}
use Rattle.std.specs.Bool.{Decides}
use Rattle.std.proofs.lemmas.Bool.{leb-true, leb-false}
use Rattle.scenario.specs.Reasons.{IsFirstScenarioReason, IsSoFar, lower_ranked, scenario_reason_rank, reason_if}
use Rattle.scenario.specs.declared.fault.ScenarioReason.{ScenarioReason}

pub sofar_join : (A B C : ScenarioReason → Type 0) (x y : Option ScenarioReason) → IsSoFar A x → IsSoFar B y
    → ((q : ScenarioReason) → A q → C q) → ((q : ScenarioReason) → B q → C q) → ((q : ScenarioReason) → C q → A q ⊎ B q)
    → IsSoFar C (lower_ranked x y)
sofar_join A B C None None a b f g split = λ q c. elim (split q c) [ inl h ↦ a q h | inr h ↦ b q h ]
sofar_join A B C None (Some s) a b f g split = record {
  stands = g s b.stands;
  first = λ q c. elim (split q c) [ inl h ↦ absurd (a q h) | inr h ↦ b.first q h ];
}
sofar_join A B C (Some s) None a b f g split = record {
  stands = f s a.stands;
  first = λ q c. elim (split q c) [ inl h ↦ a.first q h | inr h ↦ absurd (b q h) ];
}
sofar_join A B C (Some s) (Some u) a b f g split = go (nat_le (scenario_reason_rank s) (scenario_reason_rank u)) refl where
  go : (less : Bool) → nat_le (scenario_reason_rank s) (scenario_reason_rank u) ≡ less → IsFirstScenarioReason C (if less then s else u)
  go true e = record {
    stands = f s a.stands;
    first = λ q c. elim (split q c) [
      | inl h ↦ a.first q h
      | inr h ↦ (let m = leb-true (scenario_reason_rank s) (scenario_reason_rank u) e in let n = b.first q h in omega (arith, m, n))
    ];
  }
  go false e = record {
    stands = g u b.stands;
    first = λ q c. elim (split q c) [
      | inl h ↦ (let m = leb-false (scenario_reason_rank s) (scenario_reason_rank u) e in let n = a.first q h in omega (arith, m, n))
      | inr h ↦ b.first q h
    ];
  }

pub flagged : (P : Type 0) (q : ScenarioReason) (b : Bool) → (b ≡ true → P) → (P → b ≡ true)
    → IsSoFar (λ x. P × (x ≡ q)) (reason_if b q)
flagged P q true given back = record { stands = (given refl, refl); first = λ other s. (let e = ap scenario_reason_rank s.1 in omega (arith, e)) }
flagged P q false given back = λ other s. absurd (let e = back s.0 in cc)

-- one of two reasons holds
abbrev pub Either : (ScenarioReason → Type 0) → (ScenarioReason → Type 0) → ScenarioReason → Type 0
Either A B q = A q ⊎ B q

pub joined : (A B : ScenarioReason → Type 0) (x y : Option ScenarioReason) → IsSoFar A x → IsSoFar B y → IsSoFar (Either A B) (lower_ranked x y)
joined A B x y a b = sofar_join A B (Either A B) x y a b (λ q h. inl h) (λ q h. inr h) (λ q h. h)

pub same_reasons : (A C : ScenarioReason → Type 0) (x : Option ScenarioReason) → IsSoFar A x → ((q : ScenarioReason) → A q → C q)
    → ((q : ScenarioReason) → C q → A q) → IsSoFar C x
same_reasons A C None a f g = λ q c. a q (g q c)
same_reasons A C (Some s) a f g = record { stands = f s a.stands; first = λ q c. a.first q (g q c) }

-- a reason that holds exactly if a test passes
abbrev pub Flag : Type 0 → ScenarioReason → ScenarioReason → Type 0
Flag P q x = P × (x ≡ q)

pub flag : (P : Type 0) (q : ScenarioReason) (b : Bool) → Decides b P → IsSoFar (Flag P q) (reason_if b q)
flag P q b d = flagged P q b d.0 d.1

-- ---- what no reason, and a first one, imply for the parts

-- a reason that no other can precede
pub alone_first : (C : ScenarioReason → Type 0) (q : ScenarioReason) → C q → ((other : ScenarioReason) → C other → scenario_reason_rank q ≤ scenario_reason_rank other)
    → IsFirstScenarioReason C q
alone_first C q stands least = record { stands = stands; first = least }

pub at_least : (r q : ScenarioReason) (n : ℕ) → r ≡ q → n ≤ scenario_reason_rank q → n ≤ scenario_reason_rank r
at_least r q n e h = subst (λ (x : ScenarioReason). n ≤ scenario_reason_rank x) (sym e) h
