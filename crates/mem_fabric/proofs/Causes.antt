-- Why a call fails, and the state of new ends.
use Rattle.std.proofs.Common.{◌≡◌, ◌≤◌, ℕ, List, Result, Ok, Err, refl, sym, subst, arith, IsPermutation}
use Rattle.std.specs.Prelude.{IfOk}
use Rattle.mrpc_base.specs.Failures.{HasCause, HasRisen, raised}
use Rattle.mem_fabric.specs.Opening.{IsFresh, fresh_end}
use Rattle.mem_fabric.specs.Pair.{PairEnd}
use Rattle.mem_fabric.specs.declared.injected.EndCalls.{EndCalls}

raised_rose : (n : ℕ) → HasRisen n (raised n)
raised_rose n = grind arith

pub failed_cause : (P : Type 0) (n : ℕ) → P → n ≤ raised n → HasCause P n (raised n)
failed_cause P n failed up = record { rose = λ _. raised_rose n; stays = λ other. absurd (other failed); never_falls = up }

pub no_cause : (P : Type 0) (n : ℕ) → (P → ⊥) → HasCause P n n
no_cause P n never = record { rose = λ failed. absurd (never failed); stays = λ _. refl; never_falls = omega arith }

-- an end with the calls of a connection is new
fresh : (calls : EndCalls) (sends receives : List ℕ) (end : PairEnd) → IsPermutation sends calls.sends.failing → IsPermutation receives calls.receives.failing
    → (calls.sends.calls ≡ 0) × (calls.receives.calls ≡ 0) × (calls.failures ≡ 0) → end ≡ fresh_end calls end.outward end.inward → IsFresh sends receives end
fresh calls sends receives end of_sends of_receives none e =
    subst (IsFresh sends receives) (sym e) (record {
      handed = refl;
      ended = refl;
      failures = none.2;
      new = record {
        finished = refl;
        given = refl;
        told = refl;
        sends_to_fail = of_sends;
        receives_to_fail = of_receives;
        sends = none.0;
        receives = none.1;
      };
    })

module _ {E : Type 0} where
  pub fresh_first : (r : Result (PairEnd × PairEnd) E) (calls : EndCalls) (sends receives : List ℕ)
      → IsPermutation sends calls.sends.failing → IsPermutation receives calls.receives.failing
      → (calls.sends.calls ≡ 0) × (calls.receives.calls ≡ 0) × (calls.failures ≡ 0)
      → IfOk r (λ ends. ends.0 ≡ fresh_end calls ends.0.outward ends.0.inward) → IfOk r (λ ends. IsFresh sends receives ends.0)
  fresh_first (Ok ends) calls sends receives of_sends of_receives none e = fresh calls sends receives ends.0 of_sends of_receives none e
  fresh_first (Err x) calls sends receives of_sends of_receives none e = tt

  pub fresh_second : (r : Result (PairEnd × PairEnd) E) (calls : EndCalls) (sends receives : List ℕ)
      → IsPermutation sends calls.sends.failing → IsPermutation receives calls.receives.failing
      → (calls.sends.calls ≡ 0) × (calls.receives.calls ≡ 0) × (calls.failures ≡ 0)
      → IfOk r (λ ends. ends.1 ≡ fresh_end calls ends.1.outward ends.1.inward) → IfOk r (λ ends. IsFresh sends receives ends.1)
  fresh_second (Ok ends) calls sends receives of_sends of_receives none e = fresh calls sends receives ends.1 of_sends of_receives none e
  fresh_second (Err x) calls sends receives of_sends of_receives none e = tt
