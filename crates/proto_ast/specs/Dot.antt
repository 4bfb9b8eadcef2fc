-- The byte that separates the parts of a full name, and that a type's name may start with.
use Rattle.std.specs.Prelude.{ℕ}

abbrev pub dot : ℕ
dot = 46
