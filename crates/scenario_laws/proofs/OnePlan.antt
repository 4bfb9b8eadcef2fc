-- A scenario means one plan.
use Rattle.std.proofs.Common.{◌≡◌, ℕ, List, [], ◌∷◌, map, Contains, Option, Some, None, option_to_list, refl, sym, ap, ◌∙◌, subst}
use Rattle.std.specs.Prelude.{codes}
use Rattle.std.proofs.lemmas.Option.{same_Some}
use Rattle.mrpc_table.specs.declared.table.Table.{Table}
use Rattle.engine_core.specs.Chains.{Chain, HasChanged, IsChain}
use Rattle.engine_core.specs.declared.op.Op.{Op}
use Rattle.app_program.specs.declared.program.ProgramLine.{ProgramLine}
use Rattle.policy_declarations.specs.Declarations.{Declared}
use Rattle.policy_declarations.specs.declared.declaration.NamedPolicy.{NamedPolicy}
use Rattle.policy_declarations.specs.declared.declaration.Tenant.{Tenant}
use Rattle.run_plan.specs.Plans.{IsPlan}
use Rattle.run_plan.specs.declared.application.Application.{Application}
use Rattle.run_plan.specs.declared.application.Role.{Role}
use Rattle.run_plan.specs.declared.application.Role.TheVariants as plan_role
use Rattle.run_plan.specs.declared.operator.Operator.{Operator}
use Rattle.run_plan.specs.declared.operator.OperatorStep.{OperatorStep}
use Rattle.run_plan.specs.declared.plan.LinkPlan.{LinkPlan}
use Rattle.run_plan.specs.declared.plan.Plan.{Plan}
use Rattle.toml.specs.Data.{Members}
use Rattle.scenario_lines.specs.Lines.{IsProgramLineMeaning}
use Rattle.scenario_lines.specs.Programs.{Each}
use Rattle.scenario_lines.specs.declared.form.ProgramRole.TheVariants.{Client, Server}
use Rattle.scenario_toml.specs.Values.{number_or_default, text_at}
use Rattle.scenario.specs.Applications.{app_tables, link_tables, operator_tables, policy_tables, program_lines_of, tenant_tables}
use Rattle.scenario.specs.Keys.{heap}
use Rattle.scenario.specs.Operators.{step_lines_of}
use Rattle.scenario.specs.Policies.{IsPolicyMeaning, IsTenantMeaning}
use Rattle.scenario.specs.Scenarios.{IsAppMeaning, IsTextOf, IsLinkMeaning, IsOperatorMeaning, IsRoleMeaning, IsPlanOfScenario, IsStepMeaning}
use Rattle.scenario.specs.declared.entry_words.RoleWord.TheVariants as role
use Rattle.scenario_laws.proofs.Bounded.{step_bounded}
use Rattle.scenario_laws.proofs.Lists.{each_one, there_first, there_more}
use Rattle.scenario_laws.proofs.OneLine.{IsBounded, OneMeaning, one_line, one_step}
use Rattle.scenario_laws.proofs.OneOwn.{OneDeclaration, OneTable, own_one}

-- ---- records of equal fields

same_tenant : (n n' : List ℕ) (p p' : ℕ) → n ≡ n' → p ≡ p' → ◌≡◌ {A = Tenant} (record { name = n; per = p }) (record { name = n'; per = p' })
same_tenant n n' p p' a b = cc

same_pair : (a a' b b' : ℕ) → a ≡ a' → b ≡ b' → ◌≡◌ {A = LinkPlan} (record { a = a; b = b }) (record { a = a'; b = b' })
same_pair a a' b b' d e = cc

same_operator : (c c' : ℕ) (s s' : List OperatorStep) → c ≡ c' → s ≡ s' → ◌≡◌ {A = Operator} (record { conn = c; steps = s }) (record { conn = c'; steps = s' })
same_operator c c' s s' a b = cc

same_application : (a b : Application) → a.conn ≡ b.conn → a.role ≡ b.role → a.heap ≡ b.heap → a.receive ≡ b.receive → a.ring ≡ b.ring → a.weight ≡ b.weight
    → a.chain ≡ b.chain → a.inbound ≡ b.inbound → a.own ≡ b.own
    → ◌≡◌ {A = Application}
    (record { conn = a.conn; role = a.role; heap = a.heap; receive = a.receive; ring = a.ring; weight = a.weight; chain = a.chain; inbound = a.inbound; own = a.own })
    (record { conn = b.conn; role = b.role; heap = b.heap; receive = b.receive; ring = b.ring; weight = b.weight; chain = b.chain; inbound = b.inbound; own = b.own })
same_application a b conn role heap receive ring weight chain inbound own = cc

same_plan : (a b : Plan) → a.service ≡ b.service → a.loads ≡ b.loads → a.workers ≡ b.workers → a.weighted ≡ b.weighted → a.table ≡ b.table
    → a.declared ≡ b.declared → a.applications ≡ b.applications → a.links ≡ b.links → a.operators ≡ b.operators
    → ◌≡◌ {A = Plan}
    (record {
      service = a.service;
      loads = a.loads;
      workers = a.workers;
      weighted = a.weighted;
      table = a.table;
      declared = a.declared;
      applications = a.applications;
      links = a.links;
      operators = a.operators;
    })
    (record {
      service = b.service;
      loads = b.loads;
      workers = b.workers;
      weighted = b.weighted;
      table = b.table;
      declared = b.declared;
      applications = b.applications;
      links = b.links;
      operators = b.operators;
    })
same_plan a b service loads workers weighted table declared applications links operators = cc

-- ---- indices

same_somes : (xs ys : List ℕ) → map Some xs ≡ map Some ys → xs ≡ ys
same_somes [] [] e = refl
same_somes [] (y ∷ ys) e = absurd cc
same_somes (x ∷ xs) [] e = absurd cc
same_somes (x ∷ xs) (y ∷ ys) e =
    let here : x ≡ y = cc in
    let rest : map Some xs ≡ map Some ys = cc in
    ap (λ (z : ℕ). z ∷ xs) here ∙ ap (λ (zs : List ℕ). y ∷ zs) (same_somes xs ys rest)

same_option : (x y : Option ℕ) → option_to_list x ≡ option_to_list y → x ≡ y
same_option None None e = refl
same_option None (Some y) e = absurd cc
same_option (Some x) None e = absurd cc
same_option (Some x) (Some y) e = (let same : x ≡ y = cc in ap (λ (z : ℕ). Some z) same)

-- ---- entries

pub record OneLaws : Type 0 where
  pub meaning : OneMeaning
  pub table : OneTable
  pub declaration : OneDeclaration
  pub stays : (before after : Chain) (o : Op) → IsChain before → HasChanged before o after → IsChain after

tenant_one : (ms : Members) (a b : Tenant) → IsTenantMeaning ms a → IsTenantMeaning ms b → a ≡ b
tenant_one ms a b h k = same_tenant a.name b.name a.per b.per (h.name ∙ sym k.name) (h.per ∙ sym k.per)

link_one : (ms : Members) (x y : LinkPlan) → IsLinkMeaning ms x → IsLinkMeaning ms y → x ≡ y
link_one ms x y h k = same_pair x.a y.a x.b y.b (h.a ∙ sym k.a) (h.b ∙ sym k.b)

module _ (laws : OneLaws) (all : Members) where
  role_one : (ms : Members) (r s : Role) → IsRoleMeaning ms r → IsRoleMeaning ms s → r ≡ s
  role_one ms (plan_role.Client p) (plan_role.Client q) h k =
      ap (λ (x : List ProgramLine). plan_role.Client x)
      (each_one (IsProgramLineMeaning Client (number_or_default heap ms)) (program_lines_of ms) (λ t x y there a b. one_line laws.meaning Client (number_or_default heap ms) t x y a b) p q h.1 k.1)
  role_one ms (plan_role.Server p) (plan_role.Server q) h k =
      ap (λ (x : List ProgramLine). plan_role.Server x)
      (each_one (IsProgramLineMeaning Server (number_or_default heap ms)) (program_lines_of ms) (λ t x y there a b. one_line laws.meaning Server (number_or_default heap ms) t x y a b) p q h.1 k.1)
  role_one ms plan_role.Echo plan_role.Echo h k = refl
  role_one ms (plan_role.Client p) (plan_role.Server q) h k = absurd (let no : Some role.Client ≡ Some role.Server = sym h.0 ∙ k.0 in cc)
  role_one ms (plan_role.Client p) plan_role.Echo h k = absurd (let no : Some role.Client ≡ Some role.Echo = sym h.0 ∙ k in cc)
  role_one ms (plan_role.Server p) (plan_role.Client q) h k = absurd (let no : Some role.Server ≡ Some role.Client = sym h.0 ∙ k.0 in cc)
  role_one ms (plan_role.Server p) plan_role.Echo h k = absurd (let no : Some role.Server ≡ Some role.Echo = sym h.0 ∙ k in cc)
  role_one ms plan_role.Echo (plan_role.Client q) h k = absurd (let no : Some role.Echo ≡ Some role.Client = sym h ∙ k.0 in cc)
  role_one ms plan_role.Echo (plan_role.Server q) h k = absurd (let no : Some role.Echo ≡ Some role.Server = sym h ∙ k.0 in cc)

  app_one : (ms : Members) (a b : Application) → IsAppMeaning all ms a → IsAppMeaning all ms b → a ≡ b
  app_one ms a b h k =
      same_application a b (h.conn ∙ sym k.conn) (role_one ms a.role b.role h.role k.role) (h.heap ∙ sym k.heap) (h.receive ∙ sym k.receive)
      (h.ring ∙ sym k.ring) (h.weight ∙ sym k.weight) (same_somes a.chain b.chain (h.chain ∙ sym k.chain))
      (same_option a.inbound b.inbound (same_somes (option_to_list a.inbound) (option_to_list b.inbound) (h.inbound ∙ sym k.inbound)))
      (own_one laws.table laws.declaration all ms (text_at (codes "schema") ms) a.own b.own h.own k.own)

  steps_one : (lines : List (List ℕ)) (ss ts : List OperatorStep) → Each (IsStepMeaning all) lines ss → Each (IsStepMeaning all) lines ts
      → ((s : OperatorStep) → Contains ss s → IsBounded s.line) → ((t : OperatorStep) → Contains ts t → IsBounded t.line) → ss ≡ ts
  steps_one [] [] [] e f a b = refl
  steps_one [] (s ∷ ss) ts e f a b = absurd e
  steps_one [] [] (t ∷ ts) e f a b = absurd f
  steps_one (l ∷ lines) [] ts e f a b = absurd e
  steps_one (l ∷ lines) (s ∷ ss) [] e f a b = absurd f
  steps_one (l ∷ lines) (s ∷ ss) (t ∷ ts) e f a b =
      ap (λ (x : OperatorStep). x ∷ ss) (one_step laws.meaning all l s t e.0 f.0 (a s (there_first s ss)) (b t (there_first t ts)))
      ∙ ap (λ (xs : List OperatorStep). t ∷ xs)
      (steps_one lines ss ts e.1 f.1 (λ x there. a x (there_more s ss x there)) (λ x there. b x (there_more t ts x there)))

  operators_one : (entries : List Members) (os ps : List Operator) → Each (IsOperatorMeaning all) entries os → Each (IsOperatorMeaning all) entries ps
      → ((o : Operator) → Contains os o → (s : OperatorStep) → Contains o.steps s → IsBounded s.line)
      → ((p : Operator) → Contains ps p → (s : OperatorStep) → Contains p.steps s → IsBounded s.line) → os ≡ ps
  operators_one [] [] [] e f a b = refl
  operators_one [] (o ∷ os) ps e f a b = absurd e
  operators_one [] [] (p ∷ ps) e f a b = absurd f
  operators_one (m ∷ entries) [] ps e f a b = absurd e
  operators_one (m ∷ entries) (o ∷ os) [] e f a b = absurd f
  operators_one (m ∷ entries) (o ∷ os) (p ∷ ps) e f a b =
      let one = same_operator o.conn p.conn o.steps p.steps (e.0.conn ∙ sym f.0.conn)
      (steps_one (step_lines_of m) o.steps p.steps e.0.steps f.0.steps (a o (there_first o os)) (b p (there_first p ps))) in
      ap (λ (x : Operator). x ∷ os) one
      ∙ ap (λ (xs : List Operator). p ∷ xs)
      (operators_one entries os ps e.1 f.1 (λ x there. a x (there_more o os x there)) (λ x there. b x (there_more p ps x there)))

  plan_one : (a b : Plan) → IsPlanOfScenario all a → IsPlanOfScenario all b → IsPlan a → IsPlan b → a ≡ b
  plan_one a b h k sound sound' =
      let table = laws.table _ a.table b.table h.table k.table in
      let tenants = each_one IsTenantMeaning (tenant_tables all) (λ m x y there p q. tenant_one m x y p q) a.declared.tenants b.declared.tenants h.tenants k.tenants in
      let policies = laws.declaration b.table (tenant_tables all) (policy_tables all) a.declared.policies b.declared.policies
      (subst (λ (T : Table). Each (IsPolicyMeaning T (tenant_tables all)) (policy_tables all) a.declared.policies) table h.policies) k.policies in
      let made : List Tenant → List NamedPolicy → Declared = λ ts ps. record { tenants = ts; policies = ps } in
      same_plan a b (h.service ∙ sym k.service) (h.loads ∙ sym k.loads) (h.workers ∙ sym k.workers) (h.weighted ∙ sym k.weighted) table
      (ap (λ (ts : List Tenant). made ts a.declared.policies) tenants ∙ ap (made b.declared.tenants) policies)
      (each_one (IsAppMeaning all) (app_tables all) (λ m x y there p q. app_one m x y p q) a.applications b.applications h.applications k.applications)
      (each_one IsLinkMeaning (link_tables all) (λ m x y there p q. link_one m x y p q) a.links b.links h.links k.links)
      (operators_one (operator_tables all) a.operators b.operators h.operators k.operators
      (λ o there s in_steps. step_bounded laws.stays a sound o there s in_steps)
      (λ o there s in_steps. step_bounded laws.stays b sound' o there s in_steps))

pub text_one : (laws : OneLaws) (text : List ℕ) (a b : Plan) → IsTextOf text a → IsTextOf text b → IsPlan a → IsPlan b → a ≡ b
text_one laws text a b h k sound sound' =
    let same = same_Some h.all k.all (sym h.parsed.1 ∙ k.parsed.1) in
    plan_one laws k.all a b (subst (λ (m : Members). IsPlanOfScenario m a) same h.says) k.says sound sound'
