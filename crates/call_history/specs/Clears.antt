-- The policy versions that cleared fields of a call (this project's own).
use Rattle.std.specs.Prelude.{ℕ, ◌==◌, ◌&&◌, List, [], ◌∷◌, if◌then◌else◌}
use Rattle.std.specs.Str.{bytes_eq}
use Rattle.engine_core.specs.declared.op.Op.TheVariants.{Attach}
use Rattle.call_history.specs.Trace.{Trace}
use Rattle.call_history.specs.declared.happening.Happening.TheVariants.{Op, Redacted}

-- the versions under which the entry with a name cleared fields of a call since its latest attachment, latest
-- first
abbrev pub cleared_in : List ℕ → ℕ → Trace → List ℕ
cleared_in name seq [] = []
cleared_in name seq (Op (Attach at other label policy) ∷ past) =
    if bytes_eq other name then [] else cleared_in name seq past
cleared_in name seq (Redacted call other version ∷ past) =
    if (call == seq) && bytes_eq other name then version ∷ cleared_in name seq past else cleared_in name seq past
cleared_in name seq (_ ∷ past) = cleared_in name seq past
