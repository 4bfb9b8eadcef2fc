-- The code's own: the invariants of a heap's ends.
use Rattle.std.specs.Prelude.{◌≡◌, ℕ, ◌≤◌, [], length}
use Rattle.atomic_table.specs.Seated.{TableId}
use Rattle.mrpc_table.specs.declared.limits.TheConstants.{MIN_HEAP}
use Rattle.shared_heap.specs.Fresh.{HaveLoadNumbers}
use Rattle.shared_heap.specs.Rule.{Seated, writer_view}

-- the seat of a reader of this table
pub record IsReading (of table : TableId) (size : ℕ) (me : Seated) : Type 0 where
  pub of_table : of ≡ table
  pub sized : size ≡ of.words
  pub some_words : MIN_HEAP ≤ of.words
  pub empty : me.1 ≡ []
  pub numbered : HaveLoadNumbers me.0.loads me.0.known

-- the seat of the writer of this table, after `made` stores
pub record IsWriting (of table : TableId) (size made : ℕ) (me : Seated) : Type 0 where
  pub of_table : of ≡ table
  pub sized : size ≡ of.words
  pub some_words : MIN_HEAP ≤ of.words
  pub keeps : me ≡ (writer_view me.0.known, [])
  pub counted : made ≡ length me.0.known

-- the seat of a note that knows `count` stores
pub record IsNote (count : ℕ) (me : Seated) : Type 0 where
  pub empty : me.1 ≡ []
  pub counted : count ≡ length me.0.known
