-- The parts of a round, in order.
use Rattle.std.proofs.Common.{◌≡◌, ◌⊎◌, inl, inr, ℕ, ◌≤◌, List, [], ◌∷◌, ◌++◌, sym, ◌∙◌, subst, arith}
use Rattle.std.specs.Prelude.{All}
use Rattle.std.proofs.lemmas.List.Elements.{All-push}
use Rattle.call_history.specs.Trace.{timestamp}
use Rattle.call_history.specs.Tickets.{tickets_of_trace}
use Rattle.conn_core.specs.Connections.{Connection, conn_trace, conn_frames}
use Rattle.service_loop.specs.Calls.{timestamps_at_calls, timestamps_in}
use Rattle.service_loop.specs.Within.{IsDrainAdvance, HasTimestamp, IsSilentAdvance, HasTakenNow}

-- ---- frames, tickets and the end of the link, up to the drain

pub record ComesTo (a b : Connection) : Type 0 where
  pub frames : conn_frames b ≡ conn_frames a
  pub tickets : (tenant window : ℕ) → tickets_of_trace tenant window (conn_trace b) ≡ tickets_of_trace tenant window (conn_trace a)
  pub ended : b.ended ≡ a.ended

-- ---- timestamps

pub moments-later : (P : ℕ → Type 0) (now : ℕ) (xs ys : List ℕ) → P now → (ys ≡ xs) ⊎ (ys ≡ xs ++ now ∷ []) → All P xs
    → All P ys
moments-later P now xs ys new (inl same) all = subst (All P) (sym same) all
moments-later P now xs ys new (inr more) all = subst (All P) (sym more) (All-push P xs now all new)

-- how a round changes the timestamps, part by part
pub record GoesThrough (now : ℕ) (s t u v w : Connection) : Type 0 where
  pub steps : (timestamps_in (conn_trace t) ≡ timestamps_in (conn_trace s))
      × (timestamps_at_calls (conn_trace t) ≡ timestamps_at_calls (conn_trace s))
  pub shows : HasTimestamp now t u
  pub beside : IsSilentAdvance u v
  pub takes : HasTakenNow u v
  pub drains : IsDrainAdvance v w

pub moments-through : (P : ℕ → Type 0) (now : ℕ) (s t u v w : Connection) → GoesThrough now s t u v w → P now
    → All P (timestamps_in (conn_trace s)) → All P (timestamps_in (conn_trace w))
moments-through P now s t u v w goes new all =
    subst (All P) (sym (goes.drains.moments ∙ goes.beside.moments))
    (moments-later P now (timestamps_in (conn_trace t)) (timestamps_in (conn_trace u)) new goes.shows.moments
    (subst (All P) (sym goes.steps.0) all))

pub calls-through : (least now : ℕ) (s t u v w : Connection) → GoesThrough now s t u v w → least ≤ now
    → All (λ ms. least ≤ ms) (timestamps_at_calls (conn_trace s)) → All (λ ms. least ≤ ms) (timestamps_at_calls (conn_trace w))
calls-through least now s t u v w goes low all =
    subst (All (λ ms. least ≤ ms)) (sym goes.drains.at_calls)
    (moments-later (λ ms. least ≤ ms) (timestamp (conn_trace u)) (timestamps_at_calls (conn_trace u)) (timestamps_at_calls (conn_trace v))
    (omega (arith, low, goes.shows.latest)) goes.takes
    (subst (All (λ ms. least ≤ ms)) (sym (goes.shows.at_calls ∙ goes.steps.1)) all))
