-- Where a diagnostic points.
use Rattle.std.specs.Prelude.{ℕ, List, Option, IfSome}
use Rattle.diagnostics.specs.Diagnostics.{IsFaultSpan, IsSourceOf}
use Rattle.diagnostics.specs.declared.source_span.SourceSpan.{SourceSpan}

-- if it points anywhere, it points into a text of the input
abbrev pub IsLocatedIn : List ℕ → Option SourceSpan → Type 0
IsLocatedIn input part = IfSome part (λ p. IsSourceOf input p.text.now × IsFaultSpan p.text.now p.start p.end)
