-- The part of a path that was followed so far.
use Rattle.std.proofs.Common.{ℕ, ◌+◌, List, ◌++◌}

-- numbers before those of a path
abbrev pub behind_way : List ℕ → List ℕ × ℕ → List ℕ × ℕ
behind_way ns w = (ns ++ w.0, w.1)
