-- The code's own: what a loaded word leads to.
use Rattle.std.specs.Prelude.{◌≡◌, ℕ, ◌++◌, Option, MatchOption}
use Rattle.mrpc_table.specs.declared.table.Table.{Table}
use Rattle.graph_form.specs.declared.reason.Reason.{Reason}
use Rattle.graph_form.specs.Roles.{WordRole as Use, Expected, expected_after}
use Rattle.graph_form.specs.Placed.{IsValidWord}
use Rattle.graph_form.specs.Malformed.{IsInvalidFirst}
use Rattle.graph_copy.specs.declared.walk.Walk.{Walk}
use Rattle.graph_copy.specs.Expected.{expected}

-- these words are expected before all others
abbrev pub AreExpectedFirst : Table → Expected → Walk → Walk → Type 0
AreExpectedFirst T words before after = expected T after ≡ words ++ expected T before

-- a word is valid and the words that it leads to are expected, or it is invalid and this is the first reason
abbrev pub IsFollowed : Table → Use × ℕ → ℕ → Walk → Walk → Option Reason → Type 0
IsFollowed T e v before after found =
    MatchOption found (IsValidWord T before.size e.0 v × AreExpectedFirst T (expected_after T e.0 e.1 v) before after)
    (λ reason. IsInvalidFirst T before.size e.0 v reason)
