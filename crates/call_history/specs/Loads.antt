-- The loads of the calls that were accepted on a connection (this project's own).
use Rattle.std.specs.Prelude.{◌≡◌, ℕ, ◌<◌, ◌≤◌, List, [], ◌∷◌, ◌++◌, length}
use Rattle.mrpc_table.specs.Calls.{message_at}
use Rattle.mrpc_table.specs.Node.{Node}
use Rattle.mrpc_table.specs.declared.table.Table.{Table}
use Rattle.graph_form.specs.Malformed.{HasOutcome, copied, malformed}
use Rattle.graph_form.specs.declared.reason.Reason.{Reason}
use Rattle.graph_form.specs.declared.reason.Reason.TheVariants.{NoMethod}
use Rattle.call_history.specs.Trace.{Trace}
use Rattle.call_history.specs.declared.happening.Happening.TheVariants.{Took}
use Rattle.call_history.specs.declared.happening.AcceptedCall.{AcceptedCall}
use Rattle.call_history.specs.declared.happening.TookCopy.{TookCopy}
use Rattle.call_history.specs.declared.happening.TookCopy.TheVariants.{Copy, Malformed}

-- loads of heap words, each a place and a value, in order
abbrev pub Loads : Type 0
Loads = List (ℕ × ℕ)

-- the copy of a call of a method at an address by these loads: a tree, or why the graph is malformed
pub data IsCopyByLoads (T : Table) (H limit method number addr : ℕ) (own : Loads) (copy : TookCopy) : Type 0 where
  -- the table has no such method, and nothing is loaded
  no_method : length T.methods ≤ method → own ≡ [] → copy ≡ Malformed NoMethod 0 method
      → IsCopyByLoads T H limit method number addr own copy
  is_copied : (tree : Node) → method < length T.methods
      → HasOutcome T H (message_at T method number) addr limit own (copied tree) → copy ≡ Copy tree
      → IsCopyByLoads T H limit method number addr own copy
  is_malformed : (reason : Reason) (place value : ℕ) → method < length T.methods
      → HasOutcome T H (message_at T method number) addr limit own (malformed reason place value)
      → copy ≡ Malformed reason place value
      → IsCopyByLoads T H limit method number addr own copy

-- the call was copied by these loads, from a heap of `H` words, and `count` is their number
pub record IsLoaded (T : Table) (H limit : ℕ) (call : AcceptedCall) (own : Loads) : Type 0 where
  pub taken : IsCopyByLoads T H limit call.method call.number call.addr own call.copy
  pub counted : call.count ≡ length own

-- The loads are those of the accepted calls, in order, as many as each call counts, and no others.
abbrev pub AreSpelled : Table → ℕ → ℕ → Trace → Loads → Type 0
AreSpelled T H limit [] loads = loads ≡ []
AreSpelled T H limit (Took call ∷ past) loads = (before : Loads) × (own : Loads) × (loads ≡ before ++ own)
    × IsLoaded T H limit call own × AreSpelled T H limit past before
AreSpelled T H limit (_ ∷ past) loads = AreSpelled T H limit past loads
