-- Which words of a heap belong to a message.
use Rattle.std.specs.Prelude.{◌≡◌, ℕ}
use Rattle.mrpc_table.specs.declared.table.Table.{Table}
use Rattle.graph_form.specs.Placed.{Placed, loads, IsSound}
use Rattle.graph_form.specs.declared.placed.Placed.{Placed as PlacedWords}

-- the words are the loads of this placed tree of the message, which is sound in a heap of H words
pub record AreWordsOf (T : Table) (H msg : ℕ) (P : Placed) (placed : PlacedWords) : Type 0 where
  pub sound : IsSound T H msg placed.address P
  pub words : placed.words ≡ loads P
