-- The code's own: the schemas of applications, and the policies read under them.
use Rattle.std.specs.Prelude.{◌≡◌, ◌⊎◌, ◌↔◌, ℕ, List, codes, Contains, Option, Some, None, IfSome, Result, Ok, Err}
use Rattle.mrpc_table.specs.Valid.{IsValid}
use Rattle.mrpc_table.specs.declared.table.Table.{Table}
use Rattle.run_plan.specs.declared.application.Application.{Application}
use Rattle.run_plan.specs.declared.application.OwnPolicy.{OwnPolicy}
use Rattle.run_plan.specs.declared.application.OwnSchema.{OwnSchema}
use Rattle.toml.specs.Data.{Members}
use Rattle.scenario.specs.Applications.{HasTable, entry_conn, policies_named_in, operator_tables}
use Rattle.scenario.specs.Operators.{HasPolicyName, step_lines_of}
use Rattle.scenario.specs.Scenarios.{IsOwnSchemaMeaning}
use Rattle.scenario.specs.declared.fault.ScenarioReason.{ScenarioReason}
use Rattle.scenario.specs.declared.fault.ScenarioReason.TheVariants.{Schema}
use Rattle.scenario_toml.specs.Values.{text_at}
use Rattle.scenario_entries.specs.Owning.{HasNamedFault}
use Rattle.scenario_reader.specs.AppContext.{IsPart}

-- the names are those of the policies that the steps name
abbrev pub AreStepNames : Members → List (List ℕ) → Type 0
AreStepNames ms names = (name : List ℕ) → Contains names name ↔ HasPolicyName (step_lines_of ms) name

-- an application, or a step of one of these operators on its connection, names a policy
abbrev pub IsUsedIn : List Members → Members → List ℕ → Type 0
IsUsedIn operators ms name =
    Contains (policies_named_in ms) name
    ⊎ ((operator : Members) × Contains operators operator × (entry_conn operator ≡ entry_conn ms)
    × HasPolicyName (step_lines_of operator) name)

-- the application's own schema has no table
pub record HasNoTable (ms : Members) (q : ScenarioReason) : Type 0 where
  pub text : List ℕ
  pub there : text_at (codes "schema") ms ≡ Some text
  pub none : (T : Table) → HasTable text T → ⊥
  pub is : q ≡ Schema

-- the own schema of an application has a fault with this reason: it has no table, or a policy that the application
-- names fails under it
abbrev pub HasAppOwnFault : Members → Members → ScenarioReason → Type 0
HasAppOwnFault all ms q = HasNoTable ms q ⊎ HasNamedFault all ms (Contains (policies_named_in ms)) q

-- the own schema, with the policies in use, if none of them fails under it
pub record IsOwn (all ms : Members) (own : OwnSchema) : Type 0 where
  pub text : List ℕ
  pub there : text_at (codes "schema") ms ≡ Some text
  pub table : HasTable text own.table
  pub valid : IsValid own.table
  pub says : ((q : ScenarioReason) → HasNamedFault all ms (IsUsedIn (operator_tables all) ms) q → ⊥)
      → IsOwnSchemaMeaning all ms text own

abbrev pub IsOwnOf : Members → Members → Option OwnSchema → Type 0
IsOwnOf all ms None = text_at (codes "schema") ms ≡ None
IsOwnOf all ms (Some own) = IsOwn all ms own

abbrev pub IsOwnRead : Members → Members → Result (Option OwnSchema) ScenarioReason → Type 0
IsOwnRead all ms = IsPart (HasAppOwnFault all ms) (IsOwnOf all ms)

-- the own schema with this table and the policies, or the first reason of its faults
abbrev pub IsOwnUnder : Members → Members → Table → Result (List OwnPolicy) ScenarioReason → Type 0
IsOwnUnder all ms table (Ok policies) = IsOwnRead all ms (Ok (Some (record { table = table; policies = policies })))
IsOwnUnder all ms table (Err q) = IsOwnRead all ms (Err q)

-- the own schema of an application has a valid table
abbrev pub IsValidOwn : Option OwnSchema → Type 0
IsValidOwn own = IfSome own (λ o. IsValid o.table)

abbrev pub HasValidOwn : Application → Type 0
HasValidOwn app = IsValidOwn app.own
