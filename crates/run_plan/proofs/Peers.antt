-- Linked connections.
use Rattle.std.proofs.Common.{◌≡◌, ◌≢◌, ◌⊎◌, ℕ, zero, suc, List, [], ◌∷◌, Contains, Some, inl, inr, refl, sym, ◌∙◌, subst, arith}
use Rattle.std.proofs.lemmas.Bool.Decides.{nat_tests}
use Rattle.std.proofs.lemmas.Grind.{common_steps}
use Rattle.mrpc_table.specs.Valid.{AreDistinct}
use Rattle.run_plan.specs.Links.{all_ends, peer_in}
use Rattle.run_plan.specs.declared.plan.LinkPlan.{LinkPlan}

-- both ends of a link are among all ends
first_end : (l : LinkPlan) (ls : List LinkPlan) → Contains (all_ends (l ∷ ls)) l.a
first_end l ls = (0, omega arith, refl)

second_end : (l : LinkPlan) (ls : List LinkPlan) → Contains (all_ends (l ∷ ls)) l.b
second_end l ls = (1, omega arith, refl)

later_end : (l : LinkPlan) (ls : List LinkPlan) (n : ℕ) → Contains (all_ends ls) n → Contains (all_ends (l ∷ ls)) n
later_end l ls n (k, within, same) = (suc (suc k), omega (arith, within), same)

-- each of all ends is an end of the first link or of a later one
which : (l : LinkPlan) (ls : List LinkPlan) (n : ℕ) → Contains (all_ends (l ∷ ls)) n
    → (l.a ≡ n) ⊎ ((l.b ≡ n) ⊎ Contains (all_ends ls) n)
which l ls n (zero, within, same) = inl same
which l ls n (suc zero, within, same) = inr (inl same)
which l ls n (suc (suc k), within, same) = inr (inr (k, omega (arith, within), same))

-- the peer by the first link, and by a later one
at_a : (l : LinkPlan) (ls : List LinkPlan) → peer_in (l ∷ ls) l.a ≡ Some l.b
at_a l ls = grind (arith, common_steps, nat_tests)

at_b : (l : LinkPlan) (ls : List LinkPlan) → l.a ≢ l.b → peer_in (l ∷ ls) l.b ≡ Some l.a
at_b l ls apart = grind (arith, common_steps, nat_tests)

behind : (l : LinkPlan) (ls : List LinkPlan) (n : ℕ) → l.a ≢ n → l.b ≢ n → peer_in (l ∷ ls) n ≡ peer_in ls n
behind l ls n a b = grind (arith, common_steps, nat_tests)

-- two connections are peers of each other
pub record Talk (links : List LinkPlan) (conn peer : ℕ) : Type 0 where
  pub there : peer_in links conn ≡ Some peer
  pub back : peer_in links peer ≡ Some conn
  pub end : Contains (all_ends links) peer
  pub apart : conn ≢ peer

talk_behind : (l : LinkPlan) (ls : List LinkPlan) (conn peer : ℕ) → AreDistinct (all_ends (l ∷ ls)) → Contains (all_ends ls) conn
    → Talk ls conn peer → Talk (l ∷ ls) conn peer
talk_behind l ls conn peer distinct has talk =
    let not_a : (n : ℕ) → Contains (all_ends ls) n → l.a ≢ n =
    λ n h e. distinct.0 (subst (λ (m : ℕ). Contains (l.b ∷ all_ends ls) m) (sym e) (suc h.0, omega (arith, h.1), h.2)) in
    let not_b : (n : ℕ) → Contains (all_ends ls) n → l.b ≢ n =
    λ n h e. distinct.1.0 (subst (λ (m : ℕ). Contains (all_ends ls) m) (sym e) h) in
    record {
      there = behind l ls conn (not_a conn has) (not_b conn has) ∙ talk.there;
      back = behind l ls peer (not_a peer talk.end) (not_b peer talk.end) ∙ talk.back;
      end = later_end l ls peer talk.end;
      apart = talk.apart;
    }

pub talks : (links : List LinkPlan) (conn : ℕ) → AreDistinct (all_ends links) → Contains (all_ends links) conn
    → (peer : ℕ) × Talk links conn peer
talks [] conn distinct (k, within, same) = absurd (omega (arith, within))
talks (l ∷ ls) conn distinct has =
    let apart : l.a ≢ l.b = λ e. distinct.0 (0, omega arith, sym e) in
    elim (which l ls conn has) [
      | inl a ↦ (
        l.b,
        record {
          there = subst (λ (n : ℕ). peer_in (l ∷ ls) n ≡ Some l.b) a (at_a l ls);
          back = subst (λ (n : ℕ). peer_in (l ∷ ls) l.b ≡ Some n) a (at_b l ls apart);
          end = second_end l ls;
          apart = λ e. apart (a ∙ e);
        },
      )
      | inr more ↦ elim more [
        | inl b ↦ (
          l.a,
          record {
            there = subst (λ (n : ℕ). peer_in (l ∷ ls) n ≡ Some l.a) b (at_b l ls apart);
            back = subst (λ (n : ℕ). peer_in (l ∷ ls) l.a ≡ Some n) b (at_a l ls);
            end = first_end l ls;
            apart = λ e. apart (sym (b ∙ e));
          },
        )
        | inr rest ↦
            let one = talks ls conn distinct.1.1 rest in
            (one.0, talk_behind l ls conn one.0 distinct rest one.1)
      ]
    ]
