-- Connections of applications, and the first reason of faults in a link between two of them (this project's own).
use Rattle.std.specs.Prelude.{◌≡◌, ℕ, ◌==◌, Bool, true, false, ◌&&◌, ◌||◌, not, List, Option, Some}
use Rattle.std.specs.List.{list_any}
use Rattle.run_plan.specs.declared.plan.LinkPlan.{LinkPlan}
use Rattle.toml.specs.Data.{Members}
use Rattle.scenario.specs.Applications.{entry_conn}
use Rattle.scenario.specs.Keys.{entry_role}
use Rattle.scenario.specs.Reasons.{lower_ranked, reason_if}
use Rattle.scenario.specs.declared.fault.ScenarioReason.{ScenarioReason}
use Rattle.scenario.specs.declared.fault.ScenarioReason.TheVariants.{Pair as NoPair, Unknown}
use Rattle.scenario.specs.declared.entry_words.RoleWord.{RoleWord}
use Rattle.scenario.specs.declared.entry_words.RoleWord.TheVariants as role
use Rattle.scenario_entries.specs.declared.link.AppConnection.{AppConnection}

-- an application with this role is on the connection
pub record IsAppConnectionOf (ms : Members) (port : AppConnection) : Type 0 where
  pub conn : port.conn ≡ entry_conn ms
  pub role : entry_role ms ≡ Some port.role

-- the code's own: the word of a client
abbrev pub is_client : RoleWord → Bool
is_client role.Client = true
is_client _ = false

abbrev pub is_on_link : ℕ → AppConnection → Bool
is_on_link conn port = port.conn == conn

abbrev pub has_app_connection : List AppConnection → ℕ → Bool
has_app_connection ports conn = list_any (is_on_link conn) ports

-- the code's own: the application on the connection is a client
abbrev pub has_client : List AppConnection → ℕ → Bool
has_client ports conn = list_any (λ port. (port.conn == conn) && is_client port.role) ports

-- the code's own: the connection is an end of one of the links
abbrev pub is_linked : List LinkPlan → ℕ → Bool
is_linked links conn = list_any (λ link. (link.a == conn) || (link.b == conn)) links

-- the code's own: the first reason, apart from the keys of the link and their ranges
abbrev pub first_link_reason : List AppConnection → List LinkPlan → ℕ → ℕ → Option ScenarioReason
first_link_reason ports links a b =
    lower_ranked (reason_if (not (has_app_connection ports a && has_app_connection ports b)) Unknown)
    (reason_if ((a == b) || (is_linked links a || is_linked links b) || not (has_client ports a || has_client ports b)) NoPair)
