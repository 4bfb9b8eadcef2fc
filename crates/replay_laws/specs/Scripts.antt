-- Scripts in which a drain of a connection follows its last submission (this project's own).
use Rattle.std.specs.Prelude.{◌≡◌, ◌≢◌, ℕ, true, List, ◌∷◌, ◌++◌, All}
use Rattle.replay_script.specs.Lines.{conn_of, is_submit}
use Rattle.replay_script.specs.declared.script.ScriptLine.{ScriptLine}
use Rattle.replay_script.specs.declared.script.ScriptLine.TheVariants.{Drain}
use Rattle.replay_script.specs.declared.script.Script.{Script}

-- no submission of the connection follows this drain of it
pub record IsDrainedLast (s : Script) (conn : ℕ) : Type 0 where
  pub front : List ScriptLine
  pub back : List ScriptLine
  pub order : s.lines ≡ front ++ Drain conn ∷ back
  pub others : All (λ l. is_submit l ≡ true → conn_of l ≢ conn) back
