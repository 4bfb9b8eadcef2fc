-- The code's own: the first of some expected words.
use Rattle.std.specs.Prelude.{◌≡◌, ℕ, List, [], ◌∷◌, ◌++◌, Option, MatchOption}
use Rattle.mrpc_table.specs.declared.table.Table.{Table}
use Rattle.graph_form.specs.Roles.{Expected}
use Rattle.graph_copy.specs.declared.role.Role.{Role}
use Rattle.graph_copy.specs.declared.walk.WalkFrame.{WalkFrame}
use Rattle.graph_copy.specs.Expected.{layout_role, stack_words}

-- There is no word, and the frames are unchanged. Or the first word is found, and the frames have the others.
abbrev pub HasOpenedFrame : Table → Expected → List WalkFrame → List WalkFrame → Option (Role × ℕ) → Type 0
HasOpenedFrame T words before after found =
    MatchOption found ((words ≡ []) × (after ≡ before))
    (λ w. words ++ stack_words T before ≡ (layout_role T w.0, w.1) ∷ stack_words T after)
