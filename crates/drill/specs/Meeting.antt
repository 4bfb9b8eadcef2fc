-- How the ends of links in memory relate (this project's own).
use Rattle.std.specs.Prelude.{◌≡◌, ◌≢◌, ℕ, List, Some, None, IsTrue}
use Rattle.std.specs.List.{concat}
use mathlib.Core.List.{IsPrefix}
use Rattle.mrpc_base.specs.declared.link.Link.{Ghosts as LinkMembers}

-- what one end gave is known, as it was all along; it is a prefix of what was handed to the other, and all of it
-- after the end
pub record IsLinkDelivery {L : Type 0} (of_link : LinkMembers L) (from to : L) : Type 0 where
  pub given : List ℕ
  pub known : of_link.given to ≡ Some given
  pub all_along : (first : L) → of_link.since first to → of_link.given first ≢ None
  pub in_order : IsPrefix given (concat (of_link.handed from))
  pub whole : IsTrue (of_link.ended to) → given ≡ concat (of_link.handed from)

-- the two ends of a link have met
abbrev pub HaveMet : {L : Type 0} → LinkMembers L → L → L → Type 0
HaveMet of_link a b = IsLinkDelivery of_link a b × IsLinkDelivery of_link b a
