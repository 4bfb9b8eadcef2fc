-- A submission is accepted as one call, by one list of loads.
use Rattle.std.proofs.Common.{◌≡◌, ℕ, ◌<◌, ◌≤◌, [], length, sym, ap, ◌∙◌, subst, arith}
use Rattle.mrpc_table.specs.Calls.{message_at}
use Rattle.mrpc_table.specs.declared.table.Table.{Table}
use Rattle.graph_form.specs.Malformed.{HasOutcome, GraphOutcome, AreReadBy, copied, malformed}
use Rattle.graph_form.specs.declared.reason.Reason.TheVariants.{NoMethod}
use Rattle.call_history.specs.Trace.{pending_calls}
use Rattle.call_history.specs.Transitions.{IsTransition, ConnState, accepts, turns_away, takes, is_away, changes, rises, stays, has_turn, is_sent, link_failed}
use Rattle.call_history.specs.Loads.{IsLoaded, IsCopyByLoads, Loads, is_copied, is_malformed, no_method}
use Rattle.call_history.specs.Rules.{MayTake, JudgeContext}
use Rattle.call_history.specs.declared.happening.AcceptedCall.{AcceptedCall}
use Rattle.call_history.specs.declared.happening.TookCopy.{TookCopy}
use Rattle.call_history.specs.declared.happening.TookCopy.TheVariants.{Copy, Malformed}
use Rattle.engine_core.specs.declared.call_row.TheConstants.{MAX_CALLS}
use Rattle.replay_run.proofs.OneLaws.{OneLaws}

-- ---- what an acceptance implies

pub accepts-may : (u : JudgeContext) (old : ConnState) (call : AcceptedCall) (new : ConnState) → IsTransition u old (accepts call) new → MayTake u old.past call
accepts-may u old call new (takes other is going may makes) = let same : other ≡ call = cc in subst (MayTake u old.past) same may
accepts-may u old call new (is_away method number addr is full makes) = absurd cc
accepts-may u old call new (changes step is made makes) = absurd cc
accepts-may u old call new (rises ms is later makes) = absurd cc
accepts-may u old call new (stays ms is earlier makes) = absurd cc
accepts-may u old call new (has_turn position s outcome e is turn makes) = absurd cc
accepts-may u old call new (is_sent s b is going ready makes) = absurd cc
accepts-may u old call new (link_failed is makes) = absurd cc

pub away-full : (u : JudgeContext) (old : ConnState) (method number addr : ℕ) (new : ConnState) → IsTransition u old (turns_away method number addr) new → length (pending_calls old.past) ≡ MAX_CALLS
away-full u old method number addr new (takes other is going may makes) = absurd cc
away-full u old method number addr new (is_away m n a is full makes) = full
away-full u old method number addr new (changes step is made makes) = absurd cc
away-full u old method number addr new (rises ms is later makes) = absurd cc
away-full u old method number addr new (stays ms is earlier makes) = absurd cc
away-full u old method number addr new (has_turn position s outcome e is turn makes) = absurd cc
away-full u old method number addr new (is_sent s b is going ready makes) = absurd cc
away-full u old method number addr new (link_failed is makes) = absurd cc

-- ---- the accepted call

abbrev copy_of : GraphOutcome → TookCopy
copy_of (copied tree) = Copy tree
copy_of (malformed reason place value) = Malformed reason place value

data TakenBy (T : Table) (H limit method number addr : ℕ) (own : Loads) (copy : TookCopy) : Type 0 where
  by_none : length T.methods ≤ method → own ≡ [] → copy ≡ Malformed NoMethod 0 method → TakenBy T H limit method number addr own copy
  by_graph : (outcome : GraphOutcome) → method < length T.methods → HasOutcome T H (message_at T method number) addr limit own outcome → copy ≡ copy_of outcome
      → TakenBy T H limit method number addr own copy

taken-by : (T : Table) (H limit method number addr : ℕ) (own : Loads) (copy : TookCopy) → IsCopyByLoads T H limit method number addr own copy → TakenBy T H limit method number addr own copy
taken-by T H limit method number addr own copy (no_method lacks none is) = by_none lacks none is
taken-by T H limit method number addr own copy (is_copied tree known comes is) = by_graph (copied tree) known comes is
taken-by T H limit method number addr own copy (is_malformed reason place value known comes is) = by_graph (malformed reason place value) known comes is

module _ (laws : OneLaws) (T : Table) (H limit : ℕ) (reads : ℕ → ℕ → ℕ) where
  takes-alike : (method number addr : ℕ) (own other : Loads) (a b : TookCopy) → AreReadBy reads 1 own → AreReadBy reads 1 other → TakenBy T H limit method number addr own a
      → TakenBy T H limit method number addr other b → (own ≡ other) × (a ≡ b)
  takes-alike method number addr own other a b read reads-too (by_none lacks none is) (by_none lacks_too none_too is_too) = (none ∙ sym none_too, is ∙ sym is_too)
  takes-alike method number addr own other a b read reads-too (by_none lacks none is) (by_graph outcome known comes is_too) = absurd (omega (arith, lacks, known))
  takes-alike method number addr own other a b read reads-too (by_graph outcome known comes is) (by_none lacks none is_too) = absurd (omega (arith, lacks, known))
  takes-alike method number addr own other a b read reads-too (by_graph outcome known comes is) (by_graph result known_too comes_too is_too) =
      let alike = laws.reading T H (message_at T method number) addr limit reads own other outcome result read reads-too comes comes_too in
      (alike.0, is ∙ ap copy_of alike.1 ∙ sym is_too)

  same-taken : (x y : AcceptedCall) → x.seq ≡ y.seq → x.method ≡ y.method → x.number ≡ y.number → x.addr ≡ y.addr
      → x.after ≡ y.after → x.count ≡ y.count → x.copy ≡ y.copy → x ≡ y
  same-taken x y seq method number addr after count copy = λ i. record {
    seq = seq i;
    method = method i;
    number = number i;
    addr = addr i;
    after = after i;
    count = count i;
    copy = copy i;
  }

  -- with the same method, number and address, after the same trace and the same number of stores
  pub calls-alike : (u : JudgeContext) (old : ConnState) (x y : AcceptedCall) (own other : Loads) → MayTake u old.past x
      → MayTake u old.past y → x.method ≡ y.method → x.number ≡ y.number → x.addr ≡ y.addr
      → x.after ≡ y.after → AreReadBy reads 1 own → AreReadBy reads 1 other → IsLoaded T H limit x own → IsLoaded T H limit y other → (own ≡ other) × (x ≡ y)
  calls-alike u old x y own other may may_too method number addr after read reads-too loaded loaded_too =
      let second : IsCopyByLoads T H limit x.method x.number x.addr other y.copy =
      subst (λ m. IsCopyByLoads T H limit m x.number x.addr other y.copy) (sym method)
      (subst (λ n. IsCopyByLoads T H limit y.method n x.addr other y.copy) (sym number)
      (subst (λ a. IsCopyByLoads T H limit y.method y.number a other y.copy) (sym addr) loaded_too.taken)) in
      let alike = takes-alike x.method x.number x.addr own other x.copy y.copy read reads-too
      (taken-by T H limit x.method x.number x.addr own x.copy loaded.taken) (taken-by T H limit x.method x.number x.addr other y.copy second) in
      (alike.0, same-taken x y (may.number ∙ sym may_too.number) method number addr after (loaded.counted ∙ ap length alike.0 ∙ sym loaded_too.counted) alike.1)
