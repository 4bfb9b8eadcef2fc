-- The code's own: the ends of the links of a run, as opened.
use Rattle.std.specs.Prelude.{ℕ, List, map}

-- an opened end of a link, with its connection
pub record OpenedEnd (L : Type 0) : Type 0 where
  pub conn : ℕ
  pub link : L

abbrev pub conns_of_ends : {L : Type 0} → List (OpenedEnd L) → List ℕ
conns_of_ends ends = map (λ e. e.conn) ends
