-- The scenario of the drill (this project's own).
use Rattle.std.specs.Prelude.{ℕ, ◌+◌, ◌-◌, ◌*◌, ◌%◌, true, false, List, [], ◌∷◌, map, flat_map, codes, Some, None}
use Rattle.std.specs.List.{range_with_len}
use Rattle.mrpc_table.specs.declared.call.CallKind.TheVariants.{Request}
use Rattle.mrpc_table.specs.declared.path.Path.{Path}
use Rattle.mrpc_table.specs.declared.table.Field.{Field}
use Rattle.mrpc_table.specs.declared.table.Kind.TheVariants.{Uint64}
use Rattle.mrpc_table.specs.declared.table.Label.TheVariants.{Plain}
use Rattle.mrpc_table.specs.declared.table.Message.{Message}
use Rattle.mrpc_table.specs.declared.table.Method.{Method}
use Rattle.mrpc_table.specs.declared.table.Table.{Table}
use Rattle.policy_access.specs.Verdict.{AccessPolicy}
use Rattle.policy_access.specs.declared.rule.CallSelector.TheVariants.{Calls as OfCalls}
use Rattle.policy_access.specs.declared.rule.Comparison.TheVariants.{Greater}
use Rattle.policy_access.specs.declared.rule.Condition.TheVariants.{Compares}
use Rattle.policy_access.specs.declared.rule.Operand.TheVariants.{Number}
use Rattle.policy_access.specs.declared.rule.Rule.{Rule}
use Rattle.engine_core.specs.declared.policy.Policy.TheVariants.{Access}
use Rattle.policy_declarations.specs.Declarations.{Declared}
use Rattle.policy_declarations.specs.declared.declaration.NamedPolicy.{NamedPolicy}
use Rattle.app_program.specs.declared.program.ProgramLine.{ProgramLine}
use Rattle.app_program.specs.declared.program.ProgramLine.TheVariants.{Store, Submit}
use Rattle.run_plan.specs.declared.application.Application.{Application}
use Rattle.run_plan.specs.declared.application.Role.TheVariants as role
use Rattle.run_plan.specs.declared.plan.LinkPlan.{LinkPlan}
use Rattle.run_plan.specs.declared.plan.Plan.{Plan}

-- ---- the schema: `message M { uint64 a = 1; } service S { rpc Get (M) returns (M); }`

abbrev pub field : Field
field = record { number = 1; name = codes "a"; kind = Uint64; label = Plain }

abbrev pub message : Message
message = record { name = codes "M"; fields = field ∷ []; oneofs = [] }

abbrev pub method : Method
method = record { service = codes "S"; name = codes "Get"; input = 0; output = 0 }

abbrev pub schema : Table
schema = record { messages = message ∷ []; enums = []; methods = method ∷ [] }

-- ---- the policy: denies a request whose number is above 49

-- the code's own: the first of the two lines that declare the policy
abbrev pub big_line : List ℕ
big_line = codes "rule big deny method 0 where 1 gt 49"

-- the code's own: the second line
abbrev pub default_line : List ℕ
default_line = codes "default allow"

abbrev pub number_field : Path
number_field = record { way = []; number = 1; kind = Uint64; label = Plain }

abbrev pub big : Rule
big = record {
  name = codes "big";
  allow = false;
  about = OfCalls (record {
    method = 0;
    sort = Request;
    test = Some (record { path = number_field; condition = Compares Greater (Number 49) });
  });
}

-- the policy of the two lines
abbrev pub acl : AccessPolicy
acl = record { rules = big ∷ []; allow = true }

abbrev pub named_acl : NamedPolicy
named_acl = record { name = codes "acl"; policy = Access acl }

abbrev pub only_acl : Declared
only_acl = record { tenants = []; policies = named_acl ∷ [] }

-- ---- programs

-- the value in a client's call, if each client submits this many calls
abbrev pub value : (calls client call : ℕ) → ℕ
value calls client call = (7 * call * call + 13 * client + 5 * calls) % 100

-- the place of its message in the heap: the calls cycle through six places
abbrev pub address : (call : ℕ) → ℕ
address call = 2 + 2 * ((call - 1) % 6)

-- a call's value is stored immediately before the call is submitted
abbrev pub client_call_lines : (calls client call : ℕ) → List ProgramLine
client_call_lines calls client call = Store (address call) (value calls client call) ∷ Submit 0 (address call) ∷ []

abbrev pub program : (calls client : ℕ) → List ProgramLine
program calls client = flat_map (client_call_lines calls client) (range_with_len 1 calls)

-- ---- applications and links

-- the numbers of the clients
abbrev pub clients : List ℕ
clients = 1 ∷ 2 ∷ 3 ∷ 4 ∷ []

-- client `number` has an odd connection, and its echo the next one
abbrev pub client : (calls number : ℕ) → Application
client calls number = record {
  conn = 2 * number - 1;
  role = role.Client (program calls number);
  heap = 64;
  receive = 1024;
  ring = 4;
  weight = 1;
  chain = 0 ∷ [];
  inbound = None;
  own = None;
}

abbrev pub echo : (number : ℕ) → Application
echo number = record {
  conn = 2 * number;
  role = role.Echo;
  heap = 64;
  receive = 1024;
  ring = 4;
  weight = 1;
  chain = [];
  inbound = None;
  own = None;
}

abbrev pub client_and_echo : (calls number : ℕ) → List Application
client_and_echo calls number = client calls number ∷ echo number ∷ []

abbrev pub applications : (calls : ℕ) → List Application
applications calls = flat_map (client_and_echo calls) clients

abbrev pub link_of_client : (number : ℕ) → LinkPlan
link_of_client number = record { a = 2 * number - 1; b = 2 * number }

abbrev pub links : List LinkPlan
links = map link_of_client clients

-- ---- the whole plan, in which each client submits this many calls

abbrev pub drill : (calls : ℕ) → Plan
drill calls = record {
  service = codes "S";
  loads = 1024;
  workers = 2;
  weighted = false;
  table = schema;
  declared = only_acl;
  applications = applications calls;
  links = links;
  operators = [];
}
