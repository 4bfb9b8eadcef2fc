-- The drill is a valid plan.
use Rattle.std.proofs.Common.{◌≡◌, ◌⊎◌, ℕ, zero, suc, ◌+◌, ◌≤◌, ◌<◌, All, Contains, List, [], ◌∷◌, length, codes, refl, inl, arith, lit≤, lit<}
use Rattle.std.specs.List.{range_with_len}
use Rattle.std.specs.Fmt.{digits}
use Rattle.std.proofs.lemmas.List.Elements.{All-from_recursion}
use Rattle.mrpc_table.specs.Names.{IsName}
use Rattle.mrpc_table.specs.Text.{table_text}
use Rattle.mrpc_table.specs.Valid.{AreDistinct, IsEnum, IsField, IsMessage, IsMethod, IsValid}
use Rattle.mrpc_table.specs.declared.limits.TheConstants.{MAX_TEXT}
use Rattle.engine_core.specs.Chains.{Chain, HasChanged, IsReasonToReject, Refusal, attaches, detaches_none, is_full, is_other, is_past, is_taken, new_entry, upgrades_none}
use Rattle.engine_core.specs.declared.op.Op.{Op}
use Rattle.engine_core.specs.declared.op.Op.TheVariants.{Attach}
use Rattle.engine_core.specs.declared.policy.Policy.TheVariants.{Access}
use Rattle.policy_declarations.specs.declared.declaration.NamedPolicy.{NamedPolicy}
use Rattle.policy_declarations.specs.declared.declaration.Tenant.{Tenant}
use Rattle.engine_core.specs.Policies.{IsPolicy, KnowsTenantOf}
use Rattle.policy_declarations.specs.Declarations.{AreValidDeclarations}
use Rattle.run_plan.specs.Chains.{IsReadUnder, empty_chain}
use Rattle.run_plan.specs.Plans.{IsApplication, IsOperator, IsPlan, HasWindow}
use Rattle.run_plan.specs.Links.{ArePaired, HasClient}
use Rattle.run_plan.specs.declared.plan.LinkPlan.{LinkPlan}
use Rattle.drill.specs.Drill.{acl, applications, big_line, client, default_line, drill, echo, field, links, message, method, named_acl, only_acl, schema}
use Rattle.drill.proofs.Policies.{text-of-acl}
use Rattle.drill.proofs.Programs.{is-program, submits-in}

-- ---- the schema

alone : {X : Type 0} (x : X) → AreDistinct (x ∷ [])
alone x = (λ has. absurd (omega (arith, has.1)), tt)

field-is : IsField schema 0 field
field-is = record {
  number = record { positive = omega arith; small = lit≤ tt; unreserved = inl (lit< tt) };
  name = record { form = refl; short = lit≤ tt };
  label = tt;
  kind = tt;
}

message-is : IsMessage schema message
message-is = record {
  name = record { form = refl; short = refl };
  few = lit≤ tt;
  fields = All-from_recursion (IsField schema 0) (field ∷ []) (field-is, tt);
  ascend = tt;
  names = alone (codes "a");
  oneofs = All-from_recursion IsName [] tt;
  oneof_names = tt;
  oneof_order = refl;
}

method-is : IsMethod schema method
method-is = record {
  service = record { form = refl; short = refl };
  name = record { form = refl; short = lit≤ tt };
  input = lit< tt;
  output = lit< tt;
}

text-short : length (table_text schema) ≤ MAX_TEXT
unfolding digits
text-short = lit≤ tt

pub schema-valid : IsValid schema
schema-valid = record {
  few_messages = lit≤ tt;
  few_enums = lit≤ tt;
  few_methods = lit≤ tt;
  enums = All-from_recursion IsEnum [] tt;
  enums_ascend = tt;
  messages = All-from_recursion (IsMessage schema) (message ∷ []) (message-is, tt);
  messages_ascend = tt;
  types = alone (codes "M");
  methods = All-from_recursion (IsMethod schema) (method ∷ []) (method-is, tt);
  method_names = alone (codes "S", codes "Get");
  short = text-short;
}

-- ---- the connections

above : (a n x : ℕ) → Contains (range_with_len a n) x → a ≤ x
above a zero x has = absurd (omega (arith, has.1))
above a (suc n) x (zero, within, same) = omega (arith, same)
above a (suc n) x (suc k, within, same) = let more : a + 1 ≤ x = above (a + 1) n x (k, omega (arith, within), same) in omega arith

distinct-range : (a n : ℕ) → AreDistinct (range_with_len a n)
distinct-range a zero = tt
distinct-range a (suc n) = (λ has. let more : a + 1 ≤ a = above (a + 1) n a has in omega arith, distinct-range (a + 1) n)

abbrev eight : List ℕ
eight = 1 ∷ 2 ∷ 3 ∷ 4 ∷ 5 ∷ 6 ∷ 7 ∷ 8 ∷ []

eight-distinct : AreDistinct eight
eight-distinct = distinct-range 1 8

eight-there : All (Contains eight) eight
eight-there = All-from_recursion (Contains eight) eight (
  (0, lit< tt, refl),
  (
    (1, lit< tt, refl),
    (
      (2, lit< tt, refl),
      ((3, lit< tt, refl), ((4, lit< tt, refl), ((5, lit< tt, refl), ((6, lit< tt, refl), ((7, lit< tt, refl), tt))))),
    ),
  ),
)

abbrev HasOne : ℕ → LinkPlan → Type 0
HasOne calls link = HasClient (applications calls) link.a ⊎ HasClient (applications calls) link.b

paired : (calls : ℕ) → ArePaired (applications calls) links
paired calls = record {
  distinct = eight-distinct;
  known = eight-there;
  each = eight-there;
  clients = All-from_recursion (HasOne calls) links (
    inl (record { app = client calls 1; there = (0, lit< tt, refl); on = refl; client = tt }),
    (
      inl (record { app = client calls 2; there = (2, lit< tt, refl); on = refl; client = tt }),
      (
        inl (record { app = client calls 3; there = (4, lit< tt, refl); on = refl; client = tt }),
        (inl (record { app = client calls 4; there = (6, lit< tt, refl); on = refl; client = tt }), tt),
      ),
    ),
  );
}

-- ---- the chains

abbrev attaching : Op
attaching = Attach 0 (codes "acl") (codes "acl") (Access acl)

abbrev one_entry : Chain
one_entry = record { entries = new_entry (codes "acl") 1 (Access acl) ∷ []; attached = 1 }

nothing-against : (refusal : Refusal) → IsReasonToReject [] attaching refusal → ⊥
nothing-against refusal (detaches_none name is none to) = cc
nothing-against refusal (upgrades_none name label policy is none to) = cc
nothing-against refusal (is_taken at name label policy is has to) = omega (arith, has.1)
nothing-against refusal (is_past at name label policy is past to) =
    let first : 0 ≡ at = cc in omega (arith, past, first)
nothing-against refusal (is_full at name label policy is full to) = omega (arith, full)
nothing-against refusal (is_other name label policy e is has named other to) = cc

attached : HasChanged empty_chain attaching one_entry
attached = record {
  free = nothing-against;
  effect = attaches 0 (codes "acl") (codes "acl") (Access acl) [] [] refl refl refl refl;
}

-- ---- the applications

client-is : (calls number : ℕ) → calls ≤ 2048 → 1 ≤ number → number ≤ 4 → IsApplication (drill calls) (client calls number)
client-is calls number few least most = record {
  port = record {
    conn = (omega arith, omega arith);
    heap = (lit≤ tt, lit≤ tt);
    receive = (lit≤ tt, lit≤ tt);
    ring = (lit≤ tt, lit≤ tt);
    weight = (lit≤ tt, lit≤ tt);
  };
  program = is-program calls number few;
  own = tt;
  inbound = tt;
  chain = record { ops = attaching ∷ []; stand_for = refl; after = one_entry; change = (one_entry, attached, refl) };
}

echo-is : (calls number : ℕ) → 1 ≤ number → number ≤ 4 → IsApplication (drill calls) (echo number)
echo-is calls number least most = record {
  port = record {
    conn = (omega arith, omega arith);
    heap = (lit≤ tt, lit≤ tt);
    receive = (lit≤ tt, lit≤ tt);
    ring = (lit≤ tt, lit≤ tt);
    weight = (lit≤ tt, lit≤ tt);
  };
  program = tt;
  own = tt;
  inbound = tt;
  chain = record { ops = []; stand_for = refl; after = empty_chain; change = refl };
}

all-are : (calls : ℕ) → calls ≤ 2048 → All (IsApplication (drill calls)) (applications calls)
all-are calls few = All-from_recursion (IsApplication (drill calls)) (applications calls) (
  client-is calls 1 few (lit≤ tt) (lit≤ tt),
  (
    echo-is calls 1 (lit≤ tt) (lit≤ tt),
    (
      client-is calls 2 few (lit≤ tt) (lit≤ tt),
      (
        echo-is calls 2 (lit≤ tt) (lit≤ tt),
        (
          client-is calls 3 few (lit≤ tt) (lit≤ tt),
          (
            echo-is calls 3 (lit≤ tt) (lit≤ tt),
            (client-is calls 4 few (lit≤ tt) (lit≤ tt), (echo-is calls 4 (lit≤ tt) (lit≤ tt), tt)),
          ),
        ),
      ),
    ),
  ),
)

-- ---- the plan

declared-sound : AreValidDeclarations only_acl
declared-sound = record {
  few = lit≤ tt;
  tenants_distinct = tt;
  policies_distinct = alone (codes "acl");
  tenants_named = All-from_recursion IsName [] tt;
  policies_named = All-from_recursion IsName (codes "acl" ∷ []) (record { form = refl; short = lit≤ tt }, tt);
  windows = All-from_recursion (λ (t : Tenant). (1 ≤ t.per) × (t.per ≤ 86400000)) [] tt;
  policies = All-from_recursion
      (λ (p : NamedPolicy). IsPolicy p.policy × KnowsTenantOf (λ place. place < 0) p.policy) (named_acl ∷ []) ((tt, tt), tt);
}

pub promises : (calls : ℕ) → calls ≤ 2048 → IsPlan (drill calls)
promises calls few = record {
  service = record { form = refl; short = refl };
  loads = (lit≤ tt, lit≤ tt);
  workers = (lit≤ tt, lit≤ tt);
  table = schema-valid;
  declared = declared-sound;
  read = All-from_recursion (λ (p : NamedPolicy). IsReadUnder schema p.policy) (named_acl ∷ [])
      ((big_line ∷ default_line ∷ [], text-of-acl), tt);
  windows = All-from_recursion (λ (p : NamedPolicy). HasWindow [] p.policy) (named_acl ∷ []) (tt, tt);
  few = lit≤ tt;
  connections = eight-distinct;
  applications = all-are calls few;
  pairs = paired calls;
  operator_of = tt;
  operators = All-from_recursion (IsOperator (drill calls)) [] tt;
  work = omega (arith, submits-in calls 1, submits-in calls 2, submits-in calls 3, submits-in calls 4);
}
