-- The keys of each table of a scenario, with the defaults and ranges of its numbers (this project's own).
use Rattle.std.specs.Prelude.{ℕ, ◌-◌, ◌^◌, Bool, true, false, ◌&&◌, ◌||◌, if◌then◌else◌, List, [], ◌∷◌, codes, Option, Some, None}
use Rattle.std.specs.Str.{bytes_eq}
use Rattle.mrpc_table.specs.declared.limits.TheConstants.{MIN_HEAP, MAX_HEAP, MAX_LOADS}
use Rattle.run_plan.specs.declared.limits.TheConstants.{MAX_CONNECTIONS, MAX_RING, MAX_WEIGHT, MAX_WORKERS}
use Rattle.toml.specs.Data.{Members}
use Rattle.scenario_toml.specs.Values.{TheTableKey, TheIntegerRange, required_key, new_range, optional_key, has_keys, text_or_empty}
use Rattle.scenario_toml.specs.declared.key.ValueType.TheVariants as shape
use Rattle.scenario.specs.declared.entry_words.PolicyKind.{PolicyKind}
use Rattle.scenario.specs.declared.entry_words.PolicyKind.TheVariants as kind
use Rattle.scenario.specs.declared.entry_words.RoleWord.{RoleWord}
use Rattle.scenario.specs.declared.entry_words.RoleWord.TheVariants as role

-- ---- the top table

abbrev pub top_keys : List TheTableKey
top_keys =
    required_key (codes "mrpc") shape.Integer ∷ required_key (codes "service") shape.Text ∷ required_key (codes "schema") shape.Text
    ∷ optional_key (codes "loads") shape.Integer ∷ optional_key (codes "workers") shape.Integer ∷ optional_key (codes "weighted") shape.Flag
    ∷ optional_key (codes "tenant") shape.Tables ∷ optional_key (codes "policy") shape.Tables ∷ optional_key (codes "app") shape.Tables
    ∷ optional_key (codes "link") shape.Tables ∷ optional_key (codes "operator") shape.Tables ∷ []

abbrev pub format : TheIntegerRange
format = new_range (codes "mrpc") 1 1 1

abbrev pub loads : TheIntegerRange
loads = new_range (codes "loads") 1024 1 MAX_LOADS

abbrev pub workers : TheIntegerRange
workers = new_range (codes "workers") 2 1 MAX_WORKERS

abbrev pub top_ranges : List TheIntegerRange
top_ranges = format ∷ loads ∷ workers ∷ []

-- ---- tenants

abbrev pub tenant_keys : List TheTableKey
tenant_keys = required_key (codes "name") shape.Text ∷ required_key (codes "per") shape.Integer ∷ []

-- milliseconds of a window or of the period of a rate
abbrev pub per : TheIntegerRange
per = new_range (codes "per") 1 1 86400000

-- ---- policies

abbrev pub policy_kind_of_word : List ℕ → Option PolicyKind
policy_kind_of_word word =
    if bytes_eq word (codes "access") then Some kind.Access
    else if bytes_eq word (codes "rate") then Some kind.Rate
    else if bytes_eq word (codes "quota") then Some kind.Quota
    else if bytes_eq word (codes "count") then Some kind.Count
    else if bytes_eq word (codes "redact") then Some kind.Redact
    else None

abbrev pub entry_kind : Members → Option PolicyKind
entry_kind ms = policy_kind_of_word (text_or_empty (codes "kind") ms)

abbrev pub own_keys : PolicyKind → List TheTableKey
own_keys kind.Access = required_key (codes "rules") shape.Texts ∷ []
own_keys kind.Rate =
    required_key (codes "amount") shape.Integer ∷ required_key (codes "per") shape.Integer ∷ required_key (codes "burst") shape.Integer
    ∷ required_key (codes "mode") shape.Text ∷ []
own_keys kind.Quota = required_key (codes "tenant") shape.Text ∷ required_key (codes "cap") shape.Integer ∷ []
own_keys kind.Count = []
own_keys kind.Redact = required_key (codes "clears") shape.Texts ∷ []

abbrev pub policy_keys : PolicyKind → List TheTableKey
policy_keys k = required_key (codes "name") shape.Text ∷ required_key (codes "kind") shape.Text ∷ own_keys k

-- a rate policy holds calls, or denies them
abbrev pub is_mode : List ℕ → Bool
is_mode word = bytes_eq word (codes "hold") || bytes_eq word (codes "deny")

abbrev pub has_mode : PolicyKind → Members → Bool
has_mode kind.Rate ms = is_mode (text_or_empty (codes "mode") ms)
has_mode _ ms = true

abbrev pub has_policy_keys : Option PolicyKind → Members → Bool
has_policy_keys None ms = false
has_policy_keys (Some k) ms = has_keys (policy_keys k) ms && has_mode k ms

abbrev pub amount : TheIntegerRange
amount = new_range (codes "amount") 1 1 1000000

abbrev pub burst : TheIntegerRange
burst = new_range (codes "burst") 1 1 1000000

abbrev pub cap : TheIntegerRange
cap = new_range (codes "cap") 0 0 (2 ^ 32 - 1)

abbrev pub policy_ranges : Option PolicyKind → List TheIntegerRange
policy_ranges (Some kind.Rate) = amount ∷ per ∷ burst ∷ []
policy_ranges (Some kind.Quota) = cap ∷ []
policy_ranges _ = []

-- ---- applications

abbrev pub role_of_word : List ℕ → Option RoleWord
role_of_word word =
    if bytes_eq word (codes "client") then Some role.Client
    else if bytes_eq word (codes "server") then Some role.Server
    else if bytes_eq word (codes "echo") then Some role.Echo
    else None

abbrev pub entry_role : Members → Option RoleWord
entry_role ms = role_of_word (text_or_empty (codes "role") ms)

abbrev pub program_keys : RoleWord → List TheTableKey
program_keys role.Echo = []
program_keys _ = required_key (codes "program") shape.Texts ∷ []

abbrev pub app_keys : RoleWord → List TheTableKey
app_keys r =
    required_key (codes "conn") shape.Integer ∷ required_key (codes "role") shape.Text ∷ optional_key (codes "heap") shape.Integer
    ∷ optional_key (codes "receive") shape.Integer ∷ optional_key (codes "ring") shape.Integer ∷ optional_key (codes "weight") shape.Integer
    ∷ optional_key (codes "chain") shape.Texts ∷ optional_key (codes "inbound") shape.Text ∷ optional_key (codes "schema") shape.Text ∷ program_keys r

abbrev pub has_app_keys : Option RoleWord → Members → Bool
has_app_keys None ms = false
has_app_keys (Some r) ms = has_keys (app_keys r) ms

-- the number of a connection, at one of several keys
abbrev pub conn_range_at : List ℕ → TheIntegerRange
conn_range_at key = new_range key 0 1 MAX_CONNECTIONS

abbrev pub conn : TheIntegerRange
conn = conn_range_at (codes "conn")

abbrev pub heap : TheIntegerRange
heap = new_range (codes "heap") 64 MIN_HEAP MAX_HEAP

abbrev pub receive : TheIntegerRange
receive = new_range (codes "receive") 1024 MIN_HEAP MAX_HEAP

abbrev pub ring : TheIntegerRange
ring = new_range (codes "ring") 4 1 MAX_RING

abbrev pub weight : TheIntegerRange
weight = new_range (codes "weight") 1 1 MAX_WEIGHT

abbrev pub app_ranges : List TheIntegerRange
app_ranges = conn ∷ heap ∷ receive ∷ ring ∷ weight ∷ []

-- ---- links and operators

abbrev pub link_keys : List TheTableKey
link_keys = required_key (codes "a") shape.Integer ∷ required_key (codes "b") shape.Integer ∷ []

abbrev pub end_a : TheIntegerRange
end_a = conn_range_at (codes "a")

abbrev pub end_b : TheIntegerRange
end_b = conn_range_at (codes "b")

abbrev pub link_ranges : List TheIntegerRange
link_ranges = end_a ∷ end_b ∷ []

abbrev pub operator_keys : List TheTableKey
operator_keys = required_key (codes "conn") shape.Integer ∷ required_key (codes "steps") shape.Texts ∷ []

abbrev pub operator_ranges : List TheIntegerRange
operator_ranges = conn ∷ []
