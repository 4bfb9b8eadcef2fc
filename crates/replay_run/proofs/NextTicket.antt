-- Events of one connection after a history of all connections: if the tickets are in turn, the next one is determined.
use Rattle.std.proofs.Common.{◌≡◌, ℕ, ◌==◌, ◌&&◌, Bool, true, false, cond, List, [], ◌∷◌, ◌++◌, length, refl}
use Rattle.std.proofs.Common.{sym, ap, ◌∙◌, subst, append_assoc, append-nil}
use Rattle.std.specs.Prelude.{Option, Some}
use Rattle.std.specs.Option.{option_map_or}
use Rattle.std.proofs.lemmas.Bool.{eq-eqb}
use Rattle.engine_core.specs.declared.policy.Policy.{Policy}
use Rattle.engine_core.specs.declared.policy.Policy.TheVariants.{Quota}
use Rattle.call_history.specs.Trace.{Trace, policy_in_trace}
use Rattle.call_history.specs.Tickets.{tickets_drawn_by, is_quota_of, tickets_of_trace}
use Rattle.call_history.specs.declared.happening.Happening.{Happening}
use Rattle.call_history.specs.declared.happening.Happening.TheVariants.{Drawn}
use Rattle.replay_run.proofs.Adds.{Adds}
use Rattle.replay_run.proofs.Counting.{CountsFrom, counts-end, counts-front}

-- the tickets of a tenant's window in some events, added to others
pub record Told (tenant window : ℕ) (old new : Trace) : Type 0 where
  pub more : List ℕ
  pub is : tickets_of_trace tenant window new ≡ tickets_of_trace tenant window old ++ more

told-over : (tenant window : ℕ) (up old : Trace) → Told tenant window old (up ++ old)
told-over tenant window [] old = record { more = []; is = sym (append-nil (tickets_of_trace tenant window old)) }
told-over tenant window (x ∷ up) old =
    let rest : Told tenant window old (up ++ old) = told-over tenant window up old in
    let now : List ℕ = tickets_drawn_by tenant window x (up ++ old) in
    record {
      more = rest.more ++ now;
      is = ap (λ ts. ts ++ now) rest.is ∙ append_assoc (tickets_of_trace tenant window old) rest.more now;
    }

pub told-by : (tenant window : ℕ) (P : Happening → Type 0) (old new : Trace) → Adds P old new → Told tenant window old new
told-by tenant window P old new adds = subst (Told tenant window old) (sym adds.is) (told-over tenant window adds.more old)

draws-one : (here own : Bool) (ticket : ℕ) → here ≡ true → own ≡ true → cond (here && own) (ticket ∷ []) [] ≡ ticket ∷ []
draws-one true true ticket h o = refl
draws-one true false ticket h o = absurd cc
draws-one false own ticket h o = absurd cc

draw-told : (seq : ℕ) (name : List ℕ) (window ticket : ℕ) (past : Trace) (tenant per most : ℕ) → policy_in_trace name past ≡ Some (Quota tenant per most)
    → tickets_drawn_by tenant window (Drawn seq name window ticket) past ≡ ticket ∷ []
draw-told seq name window ticket past tenant per most policy =
    draws-one (window == window) (option_map_or (is_quota_of tenant) (policy_in_trace name past) false) ticket (eq-eqb window window refl)
    (ap (λ (p : Option Policy). option_map_or (is_quota_of tenant) p false) policy ∙ eq-eqb tenant tenant refl)

-- `told` are the tickets of all connections before the events of this one, which come after `base`
module _ (told : (tenant window : ℕ) → List ℕ) (base : Trace) where
  pub record IsInTurn (past : Trace) : Type 0 where
    pub counts : (tenant window : ℕ) (t : Told tenant window base past) → CountsFrom 0 (told tenant window ++ t.more)

  pub earlier : (P : Happening → Type 0) (past later : Trace) → Adds P past later → IsInTurn later → IsInTurn past
  earlier P past later adds turn = record {
    counts = λ tenant window t.
        let later_told : Told tenant window past later = told-by tenant window P past later adds in
        let both : Told tenant window base later = record {
          more = t.more ++ later_told.more;
          is = later_told.is ∙ ap (λ ts. ts ++ later_told.more) t.is ∙ append_assoc (tickets_of_trace tenant window base) t.more later_told.more;
        } in
        counts-front 0 (told tenant window ++ t.more) later_told.more
        (subst (CountsFrom 0) (sym (append_assoc (told tenant window) t.more later_told.more)) (turn.counts tenant window both));
  }

  next-ticket : (P : Happening → Type 0) (seq : ℕ) (name : List ℕ) (window ticket : ℕ) (past : Trace)
      (tenant per most : ℕ) → policy_in_trace name past ≡ Some (Quota tenant per most)
      → (adds : Adds P base past) → IsInTurn (Drawn seq name window ticket ∷ past) → ticket ≡ length (told tenant window ++ (told-by tenant window P base past adds).more)
  next-ticket P seq name window ticket past tenant per most policy adds turn =
      let t : Told tenant window base past = told-by tenant window P base past adds in
      let both : Told tenant window base (Drawn seq name window ticket ∷ past) = record {
        more = t.more ++ ticket ∷ [];
        is = ap (λ ts. ts ++ tickets_drawn_by tenant window (Drawn seq name window ticket) past) t.is
            ∙ ap (λ ds. (tickets_of_trace tenant window base ++ t.more) ++ ds) (draw-told seq name window ticket past tenant per most policy)
            ∙ append_assoc (tickets_of_trace tenant window base) t.more (ticket ∷ []);
      } in
      counts-end (told tenant window ++ t.more) ticket
      (subst (CountsFrom 0) (sym (append_assoc (told tenant window) t.more (ticket ∷ []))) (turn.counts tenant window both))

  pub one-ticket : (P : Happening → Type 0) (seq : ℕ) (name : List ℕ) (window s t : ℕ) (past : Trace)
      (tenant per most : ℕ) → policy_in_trace name past ≡ Some (Quota tenant per most)
      → Adds P base past → IsInTurn (Drawn seq name window s ∷ past) → IsInTurn (Drawn seq name window t ∷ past) → s ≡ t
  one-ticket P seq name window s t past tenant per most policy adds first second =
      next-ticket P seq name window s past tenant per most policy adds first ∙ sym (next-ticket P seq name window t past tenant per most policy adds second)
