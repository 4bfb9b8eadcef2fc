-- Connections, and the links between them (this project's own).
use Rattle.std.specs.Prelude.{◌≡◌, ◌⊎◌, ℕ, ◌==◌, Bool, ◌||◌, if◌then◌else◌, List, [], ◌∷◌, map, flat_map, All, Contains, Option, option_map}
use Rattle.std.specs.List.{find}
use Rattle.mrpc_table.specs.Lines.{IsIn}
use Rattle.mrpc_table.specs.Valid.{AreDistinct}
use Rattle.mrpc_table.specs.declared.limits.TheConstants.{MIN_HEAP, MAX_HEAP}
use Rattle.run_plan.specs.declared.application.Application.{Application}
use Rattle.run_plan.specs.declared.application.Role.{Role}
use Rattle.run_plan.specs.declared.application.Role.TheVariants as role
use Rattle.run_plan.specs.declared.limits.TheConstants.{MAX_CONNECTIONS, MAX_RING, MAX_WEIGHT}
use Rattle.run_plan.specs.declared.plan.LinkPlan.{LinkPlan}

-- the numbers of an application's connection are in range
pub record HasNumbersInRange (app : Application) : Type 0 where
  pub conn : IsIn 1 MAX_CONNECTIONS app.conn
  pub heap : IsIn MIN_HEAP MAX_HEAP app.heap
  pub receive : IsIn MIN_HEAP MAX_HEAP app.receive
  pub ring : IsIn 1 MAX_RING app.ring
  pub weight : IsIn 1 MAX_WEIGHT app.weight

abbrev pub connections_of : List Application → List ℕ
connections_of apps = map (λ app. app.conn) apps

-- the application on a connection
abbrev pub application_in : List Application → ℕ → Option Application
application_in apps conn = find (λ app. app.conn == conn) apps

abbrev pub IsClient : Role → Type 0
IsClient (role.Client program) = Unit {0}
IsClient _ = ⊥

-- the application on the connection is a client
pub record HasClient (apps : List Application) (conn : ℕ) : Type 0 where
  pub app : Application
  pub there : Contains apps app
  pub on : app.conn ≡ conn
  pub client : IsClient app.role

-- both ends of one link, and of a list of links
abbrev pub ends_of : LinkPlan → List ℕ
ends_of link = link.a ∷ link.b ∷ []

abbrev pub all_ends : List LinkPlan → List ℕ
all_ends links = flat_map ends_of links

-- each connection is in exactly one link, which has a client at one of its ends
pub record ArePaired (apps : List Application) (links : List LinkPlan) : Type 0 where
  pub distinct : AreDistinct (all_ends links)
  pub known : All (λ conn. Contains (connections_of apps) conn) (all_ends links)
  pub each : All (λ conn. Contains (all_ends links) conn) (connections_of apps)
  pub clients : All (λ link. HasClient apps link.a ⊎ HasClient apps link.b) links

-- the connection is one of the ends
abbrev pub is_link_end : ℕ → LinkPlan → Bool
is_link_end conn link = (link.a == conn) || (link.b == conn)

-- the link of a connection
abbrev pub link_in : List LinkPlan → ℕ → Option LinkPlan
link_in links conn = find (is_link_end conn) links

-- the other end
abbrev pub other_end : ℕ → LinkPlan → ℕ
other_end conn link = if link.a == conn then link.b else link.a

-- the connection at the other end of the link
abbrev pub peer_in : List LinkPlan → ℕ → Option ℕ
peer_in links conn = option_map (other_end conn) (link_in links conn)
