-- The results of a copy.
use Rattle.std.specs.Prelude.{ℕ}
use Rattle.mrpc_table.specs.Node.{Node}
use Rattle.graph_form.specs.declared.reason.Reason.{Reason}
use Rattle.graph_copy.specs.declared.copying.CopyResult.{CopyResult}
use Rattle.graph_copy.specs.declared.copying.CopyResult.TheVariants.{Copied, Malformed}

-- a property of the tree, if the result is a copy
abbrev pub IfCopied : (Node → Type 0) → CopyResult → Type 0
IfCopied P (Copied tree loads) = P tree
IfCopied P (Malformed reason place value loads) = Unit {0}

-- a property of the reason, the place and the value, if the graph is malformed
abbrev pub IfMalformed : (Reason → ℕ → ℕ → Type 0) → CopyResult → Type 0
IfMalformed P (Copied tree loads) = Unit {0}
IfMalformed P (Malformed reason place value loads) = P reason place value

-- the number of loads that a result reports
abbrev pub load_count : CopyResult → ℕ
load_count (Copied tree loads) = loads
load_count (Malformed reason place value loads) = loads
