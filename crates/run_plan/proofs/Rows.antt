-- The definitions on a plan worked out by hand: a client on connection 1, and an echo on connection 2.
use Rattle.std.proofs.Common.{◌≡◌, ℕ, zero, suc, All, Contains, lit≤, lit<, ◌⊎◌, List, [], ◌∷◌, false, codes, Some, None, refl, inl, arith}
use Rattle.std.proofs.lemmas.List.Elements.{All-nil, All-cons}
use Rattle.mrpc_table.specs.Names.{IsName}
use Rattle.mrpc_table.specs.Valid.{IsValid}
use Rattle.mrpc_table.specs.declared.table.Table.{Table}
use Rattle.app_program.specs.declared.program.ProgramLine.{ProgramLine}
use Rattle.app_program.specs.declared.program.ProgramLine.TheVariants as program
use Rattle.app_program.specs.Programs.{IsClientLine, IsClientProgram}
use Rattle.policy_declarations.specs.Declarations.{no_declarations}
use Rattle.run_plan.specs.Chains.{empty_chain}
use Rattle.run_plan.specs.Plans.{IsPlan, IsApplication, work}
use Rattle.run_plan.specs.Links.{HasClient, peer_in}
use Rattle.run_plan.specs.declared.application.Application.{Application}
use Rattle.run_plan.specs.declared.application.Role.TheVariants as role
use Rattle.run_plan.specs.declared.plan.LinkPlan.{LinkPlan}
use Rattle.run_plan.specs.declared.plan.Plan.{Plan}

none : {X : Type 0} (P : X → Type 0) → All P []
none P = All-nil P

one : {X : Type 0} (P : X → Type 0) (x : X) → P x → All P (x ∷ [])
one P x p = All-cons P x [] p (All-nil P)

two : {X : Type 0} (P : X → Type 0) (x y : X) → P x → P y → All P (x ∷ y ∷ [])
two P x y p q = All-cons P x (y ∷ []) p (one P y q)

not_alone : (x y : ℕ) → (x ≡ y → ⊥) → Contains (x ∷ []) y → ⊥
not_alone x y apart (zero, within, same) = apart same
not_alone x y apart (suc k, within, same) = absurd (omega arith)

nothing_in : (y : ℕ) → Contains [] y → ⊥
nothing_in y (k, within, same) = absurd (omega arith)

abbrev lines : List ProgramLine
lines = program.Store 2 150 ∷ program.Submit 0 2 ∷ []

abbrev client : Application
client = record {
  conn = 1;
  role = role.Client lines;
  heap = 64;
  receive = 1024;
  ring = 4;
  weight = 1;
  chain = [];
  inbound = None;
  own = None;
}

abbrev echo : Application
echo = record {
  conn = 2;
  role = role.Echo;
  heap = 64;
  receive = 1024;
  ring = 4;
  weight = 1;
  chain = [];
  inbound = None;
  own = None;
}

abbrev link : LinkPlan
link = record { a = 1; b = 2 }

abbrev plan : Table → Plan
plan T = record {
  service = codes "S";
  loads = 1024;
  workers = 2;
  weighted = false;
  table = T;
  declared = no_declarations;
  applications = client ∷ echo ∷ [];
  links = link ∷ [];
  operators = [];
}

-- ---- what the plan guarantees

first_peer : (T : Table) → peer_in (plan T).links 1 ≡ Some 2
first_peer T = refl

second_peer : (T : Table) → peer_in (plan T).links 2 ≡ Some 1
second_peer T = refl

no_peer : (T : Table) → peer_in (plan T).links 3 ≡ None
no_peer T = refl

its_work : (T : Table) → work (plan T).loads (plan T).applications ≡ 2048
its_work T = refl

its_program : IsClientProgram 64 lines
its_program = record {
  each = two (IsClientLine 64) (program.Store 2 150) (program.Submit 0 2) (record { from_one = lit≤ tt; in_heap = lit< tt }) tt;
  stores = lit≤ tt;
  few = lit≤ tt;
}

its_client : (T : Table) → IsApplication (plan T) client
its_client T = record {
  port = record {
    conn = (lit≤ tt, lit≤ tt);
    heap = (lit≤ tt, lit≤ tt);
    receive = (lit≤ tt, lit≤ tt);
    ring = (lit≤ tt, lit≤ tt);
    weight = (lit≤ tt, lit≤ tt);
  };
  program = its_program;
  own = tt;
  inbound = tt;
  chain = record { ops = []; stand_for = refl; after = empty_chain; change = refl };
}

its_echo : (T : Table) → IsApplication (plan T) echo
its_echo T = record {
  port = record {
    conn = (lit≤ tt, lit≤ tt);
    heap = (lit≤ tt, lit≤ tt);
    receive = (lit≤ tt, lit≤ tt);
    ring = (lit≤ tt, lit≤ tt);
    weight = (lit≤ tt, lit≤ tt);
  };
  program = tt;
  own = tt;
  inbound = tt;
  chain = record { ops = []; stand_for = refl; after = empty_chain; change = refl };
}

its_promises : (T : Table) → IsValid T → IsPlan (plan T)
its_promises T valid = record {
  service = record { form = refl; short = refl };
  loads = (lit≤ tt, lit≤ tt);
  workers = (lit≤ tt, lit≤ tt);
  table = valid;
  declared = record {
    few = lit≤ tt;
    tenants_distinct = tt;
    policies_distinct = tt;
    tenants_named = none IsName;
    policies_named = none IsName;
    windows = All-nil _;
    policies = All-nil _;
  };
  read = All-nil _;
  windows = All-nil _;
  few = lit≤ tt;
  connections = (not_alone 2 1 (λ e. omega (arith, e)), (nothing_in 2, tt));
  applications = two (IsApplication (plan T)) client echo (its_client T) (its_echo T);
  pairs = record {
    distinct = (not_alone 2 1 (λ e. omega (arith, e)), (nothing_in 2, tt));
    known = two (Contains (1 ∷ 2 ∷ [])) 1 2 (0, lit< tt, refl) (1, lit< tt, refl);
    each = two (Contains (1 ∷ 2 ∷ [])) 1 2 (0, lit< tt, refl) (1, lit< tt, refl);
    clients = one (λ l. HasClient (client ∷ echo ∷ []) l.a ⊎ HasClient (client ∷ echo ∷ []) l.b) link
        (inl (record { app = client; there = (0, lit< tt, refl); on = refl; client = tt }));
  };
  operator_of = tt;
  operators = All-nil _;
  work = lit≤ tt;
}
