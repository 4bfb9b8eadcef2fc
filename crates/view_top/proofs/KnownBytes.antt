-- Nothing was appended.
use Rattle.std.proofs.Common.{ℕ, List, [], Option, Some, None, sym, append-nil}
use Rattle.std.specs.Io.KnownBytes.{Appends}

pub appends-nothing : (old : Option (List ℕ)) → Appends old old []
appends-nothing None = tt
appends-nothing (Some xs) = sym (append-nil xs)
