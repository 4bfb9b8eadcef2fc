-- The code's own: where loading stops before the end of the expected words.
use Rattle.std.specs.Prelude.{◌≡◌, ◌<◌, ◌^◌, ℕ, List, [], ◌∷◌, ◌++◌, length}
use Rattle.mrpc_table.specs.declared.table.Table.{Table}
use Rattle.graph_form.specs.declared.reason.Reason.{Reason}
use Rattle.graph_form.specs.declared.reason.Reason.TheVariants.{Loads}
use Rattle.graph_form.specs.Roles.{WordRole as Use, Expected}
use Rattle.graph_form.specs.Loading.{AreExpectedAfter}
use Rattle.graph_form.specs.Malformed.{IsInvalidFirst}

pub data HasStopped (T : Table) (H limit : ℕ) (es : Expected) (own : List (ℕ × ℕ)) (reason : Reason) : Type 0 where
  -- the last word is invalid
  at_word :
      (before : List (ℕ × ℕ)) (load : ℕ × ℕ) (e : Use × ℕ) (rest : Expected)
      → own ≡ before ++ load ∷ [] → length before < limit → AreExpectedAfter T H es before (e ∷ rest)
      → load.0 ≡ e.1 → load.1 < 2 ^ 64 → IsInvalidFirst T H e.0 load.1 reason
      → HasStopped T H limit es own reason
  -- the limit is reached, and a word is expected
  at_limit :
      (e : Use × ℕ) (rest : Expected)
      → length own ≡ limit → AreExpectedAfter T H es own (e ∷ rest) → reason ≡ Loads
      → HasStopped T H limit es own reason
