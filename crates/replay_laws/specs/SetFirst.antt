-- Which calls are sent on a connection whose chain is set up first, and has access and count policies alone (this
-- project's own).
use Rattle.std.specs.Prelude.{◌≡◌, ℕ, Bool, true, List, [], ◌∷◌, Option, Some, None, if◌then◌else◌}
use Rattle.std.specs.List.{filter_map, list_all}
use Rattle.mrpc_table.specs.declared.call.Call.{Call}
use Rattle.policy_access.specs.Verdict.{verdict}
use Rattle.engine_core.specs.Chains.{Entry}
use Rattle.engine_core.specs.declared.policy.Policy.{Policy}
use Rattle.engine_core.specs.declared.policy.Policy.TheVariants.{Access, Count}
use Rattle.call_history.specs.Trace.{Trace, copied, taken}
use Rattle.call_history.specs.declared.happening.Happening.TheVariants.{Op}
use Rattle.call_history.specs.declared.happening.AcceptedCall.{AcceptedCall}

-- an access or a count policy
abbrev pub IsAccessOrCount : Policy → Type 0
IsAccessOrCount (Access p) = Unit {0}
IsAccessOrCount Count = Unit {0}
IsAccessOrCount _ = ⊥

-- such a policy allows a call: an access policy by its verdict, a count always
abbrev pub permits : Policy → Call → Bool
permits (Access p) call = (verdict p call).allow
permits _ call = true

-- the copy of a call, if it has one that all entries allow
abbrev pub allowed_of : List Entry → Option Call → Option Call
allowed_of entries None = None
allowed_of entries (Some call) = if list_all (λ e. permits e.policy call) entries then Some call else None

abbrev pub allowed_copy : ℕ → List Entry → AcceptedCall → Option Call
allowed_copy conn entries call = allowed_of entries (copied conn call call.copy)

-- the copies of the calls that all entries allow, in order
abbrev pub allowed_copies : ℕ → List Entry → List AcceptedCall → List Call
allowed_copies conn entries calls = filter_map (allowed_copy conn entries) calls

-- no operation came after an accepted call
abbrev pub IsSetFirst : Trace → Type 0
IsSetFirst [] = Unit {0}
IsSetFirst (Op step ∷ past) = taken past ≡ []
IsSetFirst (_ ∷ past) = IsSetFirst past
