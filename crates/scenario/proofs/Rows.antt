-- The definitions on scenarios worked out by hand: a client on connection 1 linked with an echo on connection 2, and
-- faulty entries.
use Rattle.std.proofs.Common.{◌≡◌, ℕ, true, false, pos, List, [], ◌∷◌, codes, Some, None, refl, arith, lit≤, lit<}
use Rattle.mrpc_table.specs.declared.words.Decimal.TheVariants.{Small}
use Rattle.app_program.specs.declared.program.ProgramLine.TheVariants as program
use Rattle.policy_declarations.specs.declared.declaration.NamedPolicy.{NamedPolicy}
use Rattle.run_plan.specs.declared.application.Application.{Application}
use Rattle.run_plan.specs.declared.application.Role.TheVariants as plan_role
use Rattle.script_grammar.specs.WordKinds.{number, unbounded}
use Rattle.script_grammar.specs.Values.{plain}
use Rattle.toml.specs.Data.{string, integer, array, table, no_items, item, Members, no_members, member}
use Rattle.toml.specs.Parse.{parse_document}
use Rattle.toml.proofs.OnLiterals.{toml_on_literals}
use Rattle.scenario.specs.Applications.{IsAppFault, IsLinkFault, app_tables, tenant_tables}
use Rattle.scenario.specs.Applications as applications
use Rattle.scenario.specs.Scenarios as scenarios
use Rattle.scenario.specs.Keys.{format, loads, top_keys, workers}
use Rattle.scenario.specs.Lines.{submit_line_count}
use Rattle.scenario_lines.specs.Lines.{IsProgramLineMeaning, no_form}
use Rattle.scenario_lines.specs.Programs.{in_line}
use Rattle.scenario_lines.specs.declared.form.ProgramForm.TheVariants as line
use Rattle.scenario_lines.specs.declared.form.ProgramRole.TheVariants as of
use Rattle.scenario_lines.specs.declared.reason.LineReason.TheVariants as reason
use Rattle.scenario.specs.Scenarios.{IsAppMeaning, IsLinkMeaning, IsTopKeyFault}
use Rattle.scenario_toml.specs.Values.{flag_at, has_keys, number_or_default}
use Rattle.scenario.specs.declared.fault.ScenarioReason.TheVariants.{Key, Number, Name, Known, Unknown, Word, Pair as NoPair}

abbrev schema : List ℕ
schema = codes "syntax = \"proto3\";\nmessage M { uint64 a = 1; }\nservice S { rpc Get (M) returns (M); }\n"

abbrev client : Members
client =
    member (codes "conn") (integer (pos 1))
    (member (codes "program") (array (item (string (codes "store 2 150")) (item (string (codes "submit 0 2")) no_items)))
    (member (codes "role") (string (codes "client")) no_members))

abbrev echo : Members
echo = member (codes "conn") (integer (pos 2)) (member (codes "role") (string (codes "echo")) no_members)

abbrev link : Members
link = member (codes "a") (integer (pos 1)) (member (codes "b") (integer (pos 2)) no_members)

abbrev all : Members
all =
    member (codes "app") (array (item (table client) (item (table echo) no_items)))
    (member (codes "link") (array (item (table link) no_items))
    (member (codes "mrpc") (integer (pos 1))
    (member (codes "schema") (string schema) (member (codes "service") (string (codes "S")) no_members))))

-- ---- its meaning

its_keys : has_keys top_keys all ≡ true
its_keys = refl

its_loads : number_or_default loads all ≡ 1024
its_loads = refl

its_workers : number_or_default workers all ≡ 2
its_workers = refl

its_order : flag_at (codes "weighted") all ≡ false
its_order = refl

its_apps : app_tables all ≡ client ∷ echo ∷ []
its_apps = refl

its_tenants : tenant_tables all ≡ []
its_tenants = refl

its_store : IsProgramLineMeaning of.Client 64 (codes "store 2 150") (program.Store 2 150)
its_store = record {
  form = line.Store;
  meanings = unbounded (Small 2) ∷ number 150 ∷ [];
  is_line = record { form = refl; said = ((2, refl, refl), ((plain 150, refl, lit< tt, refl), tt)) };
  says = (refl, record { from_one = lit≤ tt; in_heap = lit< tt }, refl);
}

its_submit : IsProgramLineMeaning of.Client 64 (codes "submit 0 2") (program.Submit 0 2)
its_submit = record {
  form = line.Submit;
  meanings = number 0 ∷ number 2 ∷ [];
  is_line = record { form = refl; said = ((refl, (lit≤ tt, lit≤ tt)), ((refl, (lit≤ tt, lit≤ tt)), tt)) };
  says = (refl, refl);
}

its_calls : submit_line_count (codes "store 2 150" ∷ codes "submit 0 2" ∷ []) ≡ 1
its_calls = refl

abbrev its_client : Application
its_client = record {
  conn = 1;
  role = plan_role.Client (program.Store 2 150 ∷ program.Submit 0 2 ∷ []);
  heap = 64;
  receive = 1024;
  ring = 4;
  weight = 1;
  chain = [];
  inbound = None;
  own = None;
}

client_says : IsAppMeaning all client its_client
client_says = record {
  conn = refl;
  role = (refl, (its_store, (its_submit, tt)));
  heap = refl;
  receive = refl;
  ring = refl;
  weight = refl;
  chain = refl;
  inbound = refl;
  own = tt;
}

link_says : IsLinkMeaning link (record { a = 1; b = 2 })
link_says = record { a = refl; b = refl }

-- ---- faulty entries

abbrev bad_program : Members
bad_program =
    member (codes "program") (array (item (string (codes "stare 2 150")) no_items))
    (member (codes "role") (string (codes "client")) no_members)

-- `mrpc = 2`
other_format : IsTopKeyFault (member (codes "mrpc") (integer (pos 2)) no_members) Number
other_format = scenarios.out_of_range format (0, lit< tt, refl) refl refl

-- without `service`
no_service : IsTopKeyFault (member (codes "mrpc") (integer (pos 1)) (member (codes "schema") (string schema) no_members)) Key
no_service = scenarios.wrong_keys refl refl

-- a list of another type
no_list : IsTopKeyFault (member (codes "app") (integer (pos 1)) all) Key
no_list = scenarios.wrong_keys refl refl

-- a service that isn't a full name
no_full_name : IsTopKeyFault (member (codes "service") (string (codes "1S")) no_members) Name
no_full_name = scenarios.no_name (λ h. cc) refl

-- a line of no form
misspelled : (declared : List NamedPolicy) → IsAppFault all declared [] bad_program Word
misspelled declared =
    applications.in_program of.Client reason.Word refl (in_line (codes "stare 2 150") (0, lit< tt, refl) (no_form refl refl)) refl

-- the first connection again, a policy that isn't declared, a connection without a link
twice : (declared : List NamedPolicy) → IsAppFault all declared (client ∷ []) client Known
twice declared = applications.is_known (0, lit< tt, refl) refl

abbrev chained : Members
chained = member (codes "chain") (array (item (string (codes "c")) no_items)) no_members

undeclared : (declared : List NamedPolicy) → IsAppFault all declared [] chained Unknown
undeclared declared = applications.no_policy (codes "c") (0, lit< tt, refl) (λ h. omega (arith, h.1)) refl

-- a link to itself, a link to a connection that no application has, a second link
abbrev loop : Members
loop = member (codes "a") (integer (pos 1)) (member (codes "b") (integer (pos 1)) no_members)

itself : IsLinkFault all [] loop NoPair
itself = applications.to_itself refl refl

again : IsLinkFault all (link ∷ []) link NoPair
again = applications.is_linked 1 (0, lit< tt, refl) (0, lit< tt, refl) refl

-- ---- texts

-- this text as TOML
its_text : parse_document (codes "mrpc = 1\n[[app]]\nconn = 2\nrole = \"echo\"\n")
    ≡ Some (member (codes "app") (array (item (table echo) no_items))
    (member (codes "mrpc") (integer (pos 1)) no_members))
unfolding toml_on_literals
its_text = refl
