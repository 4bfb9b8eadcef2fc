-- Parts of a text.
use Rattle.std.specs.Prelude.{ℕ, ◌≤◌, List, length}
use Rattle.scenario_toml.specs.declared.span.TextSpan.{TextSpan}

-- a part of the text, which may be empty
abbrev pub IsSpanOf : List ℕ → TextSpan → Type 0
IsSpanOf text s = (s.start ≤ s.end) × (s.end ≤ length text)
