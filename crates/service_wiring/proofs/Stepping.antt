-- The operations for a connection: what lines mean, and what follows from the plan.
use Rattle.std.proofs.Common.{◌≡◌, ℕ, suc, ◌+◌, ◌<◌, ◌≤◌, ◌^◌, Bool, true, false, List, [], ◌∷◌, ◌++◌, map, length}
use Rattle.std.proofs.Common.{drop, get_or, add-one, Option, Some, None, cond, refl, sym, ap, subst, ◌∙◌, arith}
use Rattle.std.proofs.Common.{append_assoc, append-nil, length-append}
use Rattle.std.specs.Prelude.{◌==◌, All, IsSome, IfSome, slice_get, unwrap_or, option_map, option_and_then}
use Rattle.std.specs.List.{find}
use Rattle.std.proofs.lemmas.List.{drop_all, length-map, map-append}
use Rattle.std.proofs.lemmas.List.Elements.{All-cons, All-contains, All-head, All-nil, All-tail}
use Rattle.std.proofs.lemmas.Option.{get_or_from_slice_get, slice_get-get_or, slice_get_within}
use Rattle.std.proofs.Math.Seq.{drop-cons}
use Rattle.mrpc_table.specs.Valid.{IsAscendingBy}
use Rattle.mrpc_table.specs.declared.table.Table.{Table}
use Rattle.engine_core.specs.Chains.{Chain, HasChanged, Entry, IsChain, changed, IsChangeOf, attaches, detaches, upgrades}
use Rattle.engine_core.specs.Policies.{IsPolicy, KnowsTenantOf}
use Rattle.engine_core.specs.declared.op.Op.{Op}
use Rattle.engine_core.specs.declared.op.Op.TheVariants as op
use Rattle.engine_core.specs.declared.policy.Policy.{Policy}
use Rattle.engine_core.specs.declared.policy.Policy.TheVariants.{Access, Redact}
use Rattle.conn_core.specs.ConnectionSteps.{IfPolicy}
use Rattle.policy_declarations.specs.Declarations.{AreValidDeclarations}
use Rattle.policy_declarations.specs.declared.declaration.NamedPolicy.{NamedPolicy}
use Rattle.run_plan.specs.Chains.{IsChangedBy, HaveSameMeaning, attach_op, attachment_of, attach_lines, empty_chain, policy_name_at}
use Rattle.run_plan.specs.Chains.{chain_lines, op_of, operator_in, own_policy_in, policy_at, policy_by, app_policy}
use Rattle.run_plan.specs.Chains.{steps_of_operator, steps_on, with_policy}
use Rattle.run_plan.specs.Plans.{IsApplication, IsOperator, IsOwnPolicy, IsOwnSchema, IsPlan}
use Rattle.run_plan.specs.declared.application.Application.{Application}
use Rattle.run_plan.specs.declared.application.OwnPolicy.{OwnPolicy}
use Rattle.run_plan.specs.declared.application.OwnSchema.{OwnSchema}
use Rattle.run_plan.specs.declared.limits.TheConstants.{MAX_STEPS}
use Rattle.run_plan.specs.declared.operator.Operator.{Operator}
use Rattle.run_plan.specs.declared.operator.OperatorStep.{OperatorStep}
use Rattle.run_plan.specs.declared.operator.StepLine.{StepLine}
use Rattle.run_plan.specs.declared.operator.StepLine.TheVariants as line
use Rattle.run_plan.specs.declared.plan.Plan.{Plan}
use Rattle.service_loop.specs.ScheduledOps.{AreScheduledOps, AreCountsAscending, KnowTenants, HasNoRefusal}
use Rattle.service_loop.specs.declared.scheduled_op.ScheduledOp.{ScheduledOp}
use Rattle.service_wiring.specs.Listing.{AreListed, remaining_counts, remaining_lines}
use Rattle.service_wiring.specs.Scheduling.{AreOpsOfPlan, zero_each}

-- ---- what lines mean

attached-as : (at : ℕ) (label : Option (List ℕ)) (policy : Option Policy)
    → with_policy (op.Attach at (unwrap_or label [])) label policy ≡ with_policy (attach_op at) label policy
attached-as at (Some l) (Some p) = refl
attached-as at (Some l) None = refl
attached-as at None (Some p) = refl
attached-as at None None = refl

-- the attachment at a position is what its line means
pub attachment-is : (plan : Plan) (app : Application) (at place : ℕ) → slice_get app.chain at ≡ Some place
    → attachment_of plan app at
    ≡ op_of plan app (line.Attach at (unwrap_or (policy_name_at plan.declared.policies place) []) place)
attachment-is plan app at place is =
    ap (λ (x : Option ℕ). option_and_then
    (λ (p : ℕ). with_policy (attach_op at) (policy_name_at plan.declared.policies p) (app_policy plan app p)) x) is
    ∙ sym (attached-as at (policy_name_at plan.declared.policies place) (app_policy plan app place))

-- if all options of a list are present, so is each in its suffix
pub some-there : {X : Type 0} (xs : List X) (front rest : List (Option X)) (o : Option X)
    → map Some xs ≡ front ++ o ∷ rest → IsSome o
some-there [] [] rest o e = absurd cc
some-there [] (f ∷ front) rest o e = absurd cc
some-there {X = X} (x ∷ xs) [] rest o e = let head : Some x ≡ o = cc in subst (λ (y : Option X). IsSome y) head refl
some-there {X = X} (x ∷ xs) (f ∷ front) rest o e =
    let tail : map Some xs ≡ front ++ o ∷ rest = cc in some-there xs front rest o tail

-- ---- listing

pub listed-one : (plan : Plan) (app : Application) (steps : List ScheduledOp) (first : StepLine) (lines : List StepLine)
    (count : ℕ) (counts : List ℕ) (step : Op) → AreListed plan app steps (first ∷ lines) (count ∷ counts)
    → op_of plan app first ≡ Some step
    → AreListed plan app (steps ++ record { count = count; step = step } ∷ []) lines counts
listed-one plan app steps first lines count counts step h is = record {
  stand_for = h.stand_for
      ∙ ap (λ (x : Option Op). map (λ (due : ScheduledOp). Some due.step) steps ++ x ∷ map (op_of plan app) lines) is
      ∙ sym (append_assoc (map (λ (due : ScheduledOp). Some due.step) steps) (Some step ∷ []) (map (op_of plan app) lines))
      ∙ ap (λ (xs : List (Option Op)). xs ++ map (op_of plan app) lines)
      (sym (map-append (λ (due : ScheduledOp). Some due.step) steps (record { count = count; step = step } ∷ [])));
  in_order = h.in_order
      ∙ sym (append_assoc (map (λ (due : ScheduledOp). due.count) steps) (count ∷ []) counts)
      ∙ ap (λ (xs : List ℕ). xs ++ counts)
      (sym (map-append (λ (due : ScheduledOp). due.count) steps (record { count = count; step = step } ∷ [])));
}

listed-all : (plan : Plan) (app : Application) (steps : List ScheduledOp) → AreListed plan app steps [] []
    → AreOpsOfPlan plan app steps
listed-all plan app steps h = record {
  stand_for = h.stand_for ∙ append-nil (map (λ (due : ScheduledOp). Some due.step) steps);
  counts = sym (append-nil (map (λ (due : ScheduledOp). due.count) steps)) ∙ sym h.in_order;
}

-- after the last step all are listed
pub listed-past : (plan : Plan) (app : Application) (steps : List ScheduledOp) (later : List OperatorStep) (i : ℕ)
    → length later ≤ i → AreListed plan app steps (remaining_lines (drop i later)) (remaining_counts (drop i later))
    → AreOpsOfPlan plan app steps
listed-past plan app steps later i past h =
    listed-all plan app steps (subst (λ (xs : List OperatorStep). AreListed plan app steps (remaining_lines xs) (remaining_counts xs))
    (drop_all i later past) h)

-- ---- listing, position by position and step by step

module _ (plan : Plan) (app : Application) where
  -- the first of the remaining positions
  next-place : (at : ℕ) → at < length app.chain → drop at app.chain ≡ get_or app.chain at 0 ∷ drop (at + 1) app.chain
  next-place at within = rw add-one (drop-cons app.chain at 0 within)

  pub listed-place : (steps : List ScheduledOp) (at : ℕ) (due : ScheduledOp) (later : List OperatorStep) → at < length app.chain
      → due.count ≡ 0 → attachment_of plan app at ≡ Some due.step
      → AreListed plan app steps (attach_lines plan.declared.policies at (drop at app.chain) ++ remaining_lines later)
      (zero_each (drop at app.chain) ++ remaining_counts later)
      → AreListed plan app (steps ++ due ∷ [])
      (attach_lines plan.declared.policies (at + 1) (drop (at + 1) app.chain) ++ remaining_lines later)
      (zero_each (drop (at + 1) app.chain) ++ remaining_counts later)
  listed-place steps at due later within at_zero is h =
      let place = get_or app.chain at 0 in
      let rest = drop (at + 1) app.chain in
      let first = line.Attach at (unwrap_or (policy_name_at plan.declared.policies place) []) place in
      let lines = attach_lines plan.declared.policies (at + 1) rest ++ remaining_lines later in
      let counts = zero_each rest ++ remaining_counts later in
      let left : AreListed plan app steps (first ∷ lines) (0 ∷ counts) =
      subst (λ (xs : List ℕ). AreListed plan app steps (attach_lines plan.declared.policies at xs ++ remaining_lines later)
      (zero_each xs ++ remaining_counts later)) (next-place at within) h in
      let counted : AreListed plan app steps (first ∷ lines) (due.count ∷ counts) =
      subst (λ (n : ℕ). AreListed plan app steps (first ∷ lines) (n ∷ counts)) (sym at_zero) left in
      listed-one plan app steps first lines due.count counts due.step counted
      (sym (attachment-is plan app at place (slice_get-get_or app.chain at 0 within)) ∙ is)

  pub place-there : IsApplication plan app → (steps : List ScheduledOp) (at : ℕ) (lines : List StepLine) (counts : List ℕ)
      → at < length app.chain
      → AreListed plan app steps (attach_lines plan.declared.policies at (drop at app.chain) ++ lines) counts
      → IsSome (attachment_of plan app at)
  place-there a steps at lines counts within h =
      let place = get_or app.chain at 0 in
      let rest = drop (at + 1) app.chain in
      let first = line.Attach at (unwrap_or (policy_name_at plan.declared.policies place) []) place in
      let left : AreListed plan app steps (first ∷ (attach_lines plan.declared.policies (at + 1) rest ++ lines)) counts =
      subst (λ (xs : List ℕ). AreListed plan app steps (attach_lines plan.declared.policies at xs ++ lines) counts)
      (next-place at within) h in
      subst (λ (o : Option Op). IsSome o)
      (sym (attachment-is plan app at place (slice_get-get_or app.chain at 0 within)))
      (some-there a.chain.ops (map (λ (due : ScheduledOp). Some due.step) steps)
      (map (op_of plan app) (attach_lines plan.declared.policies (at + 1) rest ++ lines)) (op_of plan app first)
      (sym a.chain.stand_for ∙ left.stand_for))

  next-step : (later : List OperatorStep) (i : ℕ) (step : OperatorStep) → i < length later → step ≡ get_or later i step
      → drop i later ≡ step ∷ drop (i + 1) later
  next-step later i step within here =
      rw add-one (drop-cons later i step within ∙ ap (λ (x : OperatorStep). x ∷ drop (suc i) later) (sym here))

  pub step-there : IsApplication plan app → (steps : List ScheduledOp) (later : List OperatorStep) (i : ℕ) (step : OperatorStep)
      (counts : List ℕ) → i < length later → step ≡ get_or later i step
      → AreListed plan app steps (remaining_lines (drop i later)) counts → IsSome (op_of plan app step.line)
  step-there a steps later i step counts within here h =
      let left : AreListed plan app steps (step.line ∷ remaining_lines (drop (i + 1) later)) counts =
      subst (λ (xs : List OperatorStep). AreListed plan app steps (remaining_lines xs) counts)
      (next-step later i step within here) h in
      some-there a.chain.ops (map (λ (due : ScheduledOp). Some due.step) steps)
      (map (op_of plan app) (remaining_lines (drop (i + 1) later))) (op_of plan app step.line)
      (sym a.chain.stand_for ∙ left.stand_for)

-- ---- the operations that lines mean

with-cases : (f : List ℕ → Policy → Op) (label : Option (List ℕ)) (policy : Option Policy) (step : Op)
    → with_policy f label policy ≡ Some step
    → (l : List ℕ) × (p : Policy) × (policy ≡ Some p) × (step ≡ f l p)
with-cases f (Some l) (Some p) step is = (l, p, refl, (let same : f l p ≡ step = cc in sym same))
with-cases f (Some l) None step is = absurd cc
with-cases f None (Some p) step is = absurd cc
with-cases f None None step is = absurd cc

-- what holds of all policies of the connection holds of those of its operations
module _ (plan : Plan) (app : Application) (P : Policy → Type 0)
    (all : (place : ℕ) (p : Policy) → app_policy plan app place ≡ Some p → P p) where
  step-policy : (first : StepLine) (step : Op) → op_of plan app first ≡ Some step → IfPolicy step P
  step-policy (line.Attach at name place) step is =
      let found = with-cases (op.Attach at name) (policy_name_at plan.declared.policies place) (app_policy plan app place) step is
      in subst (λ (s : Op). IfPolicy s P) (sym found.3) (all place found.1 found.2)
  step-policy (line.Detach name) step is =
      let same : op.Detach name ≡ step = cc in subst (λ (s : Op). IfPolicy s P) same tt
  step-policy (line.Upgrade name place) step is =
      let found = with-cases (op.Upgrade name) (policy_name_at plan.declared.policies place) (app_policy plan app place) step is
      in subst (λ (s : Op). IfPolicy s P) (sym found.3) (all place found.1 found.2)

-- ---- chains

-- none of the operations is refused
pub changing-none : ((before after : Chain) (step : Op) → IsChain before → HasChanged before step after → IsChain after)
    → ((before after : Chain) (step : Op) → IsChain before → HasChanged before step after → after ≡ changed step before)
    → (before : Chain) (ops : List Op) (after : Chain) → IsChain before → IsChangedBy before ops after
    → HasNoRefusal before ops
changing-none stays only before [] after is ch = tt
changing-none stays only before (step ∷ ops) after is ch =
    let same : ch.0 ≡ changed step before = only before ch.0 step is ch.1 in (
      subst (λ (c : Chain). HasChanged before step c) same ch.1,
      subst (λ (c : Chain). HasNoRefusal c ops) same
          (changing-none stays only ch.0 ops after (stays before ch.0 step is ch.1) ch.2),
    )

same-ops : (steps : List ScheduledOp) (ops : List Op) → map Some ops ≡ map (λ (due : ScheduledOp). Some due.step) steps
    → ops ≡ map (λ (due : ScheduledOp). due.step) steps
same-ops [] [] e = refl
same-ops [] (o ∷ ops) e = absurd cc
same-ops (s ∷ steps) [] e = absurd cc
same-ops (s ∷ steps) (o ∷ ops) e =
    let head : o ≡ s.step = cc in
    let tail : map Some ops ≡ map (λ (due : ScheduledOp). Some due.step) steps = cc in
    let rest = same-ops steps ops tail in
    ap (λ (x : Op). x ∷ ops) head ∙ ap (λ (xs : List Op). s.step ∷ xs) rest

-- the entries of a chain after the first lines attach their policies
attach-more : (before after : Chain) (at : ℕ) (name label : List ℕ) (policy : Policy) (step : Op)
    → step ≡ op.Attach at name label policy → IsChangeOf before step after
    → length after.entries ≡ suc (length before.entries)
attach-more before after at name label policy step is (attaches at' name' label' policy' front back made_by parts place made) =
    let long : length (front ++ back) ≡ length front + length back = length-append front back in
    let all : length before.entries ≡ length (front ++ back) = ap (λ (es : List Entry). length es) parts in
    let new : length after.entries ≡ length front + suc (length back) =
    ap (λ (c : Chain). length c.entries) made ∙ length-append front _ in
    omega (arith, long, all, new)
attach-more before after at name label policy step is (detaches name' e front back made_by parts named made) =
    let wrong : op.Attach at name label policy ≡ op.Detach name' = sym is ∙ made_by in absurd cc
attach-more before after at name label policy step is (upgrades name' label' policy' e front back made_by parts named made) =
    let wrong : op.Attach at name label policy ≡ op.Upgrade name' label' policy' = sym is ∙ made_by in absurd cc

-- an initial chain has at most eight entries
pub few-attached : ((before after : Chain) (step : Op) → IsChain before → HasChanged before step after → IsChain after)
    → (plan : Plan) (app : Application) (places : List ℕ) (at : ℕ) (lines : List StepLine) (before : Chain)
    (ops : List Op) (after : Chain) → IsChain before
    → map (op_of plan app) (attach_lines plan.declared.policies at places ++ lines) ≡ map Some ops
    → IsChangedBy before ops after → length before.entries + length places ≤ 8
few-attached stays plan app [] at lines before ops after is e ch = let few = is.few in omega (arith, few)
few-attached stays plan app (place ∷ places) at lines before [] after is e ch = absurd cc
few-attached stays plan app (place ∷ places) at lines before (step ∷ ops) after is e ch =
    let label = policy_name_at plan.declared.policies place in
    let head : with_policy (op.Attach at (unwrap_or label [])) label (app_policy plan app place) ≡ Some step = cc in
    let tail : map (op_of plan app) (attach_lines plan.declared.policies (at + 1) places ++ lines) ≡ map Some ops = cc in
    let found = with-cases (op.Attach at (unwrap_or label [])) label (app_policy plan app place) step head in
    let more : length ch.0.entries ≡ suc (length before.entries) =
    attach-more before ch.0 at (unwrap_or label []) found.0 found.1 step found.3 ch.1.effect in
    let few = few-attached stays plan app places (at + 1) lines ch.0 ops after (stays before ch.0 step is ch.1) tail ch.2 in
    omega (arith, more, few)

-- ---- counts

abbrev pub AscendFrom : ℕ → List ℕ → Type 0
AscendFrom least [] = Unit {0}
AscendFrom least (n ∷ ns) = (least ≤ n) × AscendFrom n ns

ascend-counts : (least : ℕ) (steps : List ScheduledOp) → AscendFrom least (map (λ (due : ScheduledOp). due.count) steps)
    → AreCountsAscending least steps
ascend-counts least [] h = tt
ascend-counts least (due ∷ steps) h = (h.0, ascend-counts due.count steps h.1)

ascend-zeros : {A : Type 0} (xs : List A) (ns : List ℕ) → AscendFrom 0 ns → AscendFrom 0 (zero_each xs ++ ns)
ascend-zeros [] ns h = h
ascend-zeros (x ∷ xs) ns h = (omega arith, ascend-zeros xs ns h)

ascend-behind : (first : OperatorStep) (steps : List OperatorStep) → IsAscendingBy (λ (s t : OperatorStep). s.count ≤ t.count) (first ∷ steps)
    → AscendFrom first.count (remaining_counts steps)
ascend-behind first [] h = tt
ascend-behind first (next ∷ steps) h = (h.0, ascend-behind next steps h.1)

ascend-steps : (steps : List OperatorStep) → IsAscendingBy (λ (s t : OperatorStep). s.count ≤ t.count) steps
    → AscendFrom 0 (remaining_counts steps)
ascend-steps [] h = tt
ascend-steps (first ∷ steps) h = (omega arith, ascend-behind first steps h)

-- ---- what is found

map-some : {A B : Type 0} (f : A → B) (o : Option A) (y : B) → option_map f o ≡ Some y
    → (x : A) × (o ≡ Some x) × (f x ≡ y)
map-some f None y is = absurd cc
map-some f (Some x) y is = (x, refl, (let same : f x ≡ y = cc in same))

all-got : {X : Type 0} (P : X → Type 0) (xs : List X) (i : ℕ) (x : X) → All P xs → slice_get xs i ≡ Some x → P x
all-got P xs i x all is =
    All-contains P xs x all (i, slice_get_within xs i x is, get_or_from_slice_get xs i x x is)

-- what holds of all that can be found holds of what is found
found-cases : {X : Type 0} (P : X → Type 0) (b : Bool) (y : X) (rest : Option X) (x : X) → P y
    → (rest ≡ Some x → P x) → cond b (Some y) rest ≡ Some x → P x
found-cases P true y rest x here there is = let same : y ≡ x = cc in subst P same here
found-cases P false y rest x here there is = there is

found-one : {X : Type 0} (P : X → Type 0) (test : X → Bool) (xs : List X) (x : X) → All P xs → find test xs ≡ Some x
    → P x
found-one P test [] x all is = absurd cc
found-one P test (y ∷ xs) x all is =
    found-cases P (test y) y (find test xs) x (All-head P y xs all)
    (λ more. found-one P test xs x (All-tail P y xs all) more) is

abbrev pub IsListed : List OperatorStep → Type 0
IsListed steps = IsAscendingBy (λ (s t : OperatorStep). s.count ≤ t.count) steps × (length steps ≤ MAX_STEPS)

listed-in : (plan : Plan) (o : Option Operator) → ((x : Operator) → o ≡ Some x → IsOperator plan x)
    → IsListed (steps_of_operator o)
listed-in plan None h = (tt, omega arith)
listed-in plan (Some x) h = let is = h x refl in (is.counts, is.few)

pub listed-on : (plan : Plan) (conn : ℕ) → All (IsOperator plan) plan.operators
    → IsListed (steps_on plan.operators conn)
listed-on plan conn all = listed-in plan (operator_in plan.operators conn)
    (λ x is. found-one (IsOperator plan) (λ (operator : Operator). operator.conn == conn) plan.operators x all is)

-- ---- policies of the plan

abbrev pub IsKnown : Plan → Policy → Type 0
IsKnown plan p = IsPolicy p × KnowsTenantOf (λ place. place < length plan.declared.tenants) p

-- policies with the same meaning are known together
says-known : (plan : Plan) (T : Table) (p : Policy) (U : Table) (q : Policy) → HaveSameMeaning T p U q → IsKnown plan p
    → IsKnown plan q
says-known plan T (Access a) U (Access b) same h = (tt, tt)
says-known plan T (Redact a) U (Redact b) same h = (tt, tt)
says-known plan T p U q same h = subst (λ (x : Policy). IsKnown plan x) same h

shared-known : (plan : Plan) (place : ℕ) (p : Policy) → AreValidDeclarations plan.declared
    → policy_at plan.declared.policies place ≡ Some p → IsKnown plan p
shared-known plan place p sound is =
    let found = map-some (λ (q : NamedPolicy). q.policy) (slice_get plan.declared.policies place) p is in
    subst (λ (x : Policy). IsKnown plan x) found.2
    (all-got (λ (q : NamedPolicy). IsKnown plan q.policy) plan.declared.policies place found.0 sound.policies found.1)

known-by : (plan : Plan) (own : Option OwnSchema) (place : ℕ) (p : Policy) → AreValidDeclarations plan.declared
    → IfSome own (IsOwnSchema plan) → policy_by plan.declared.policies own place ≡ Some p → IsKnown plan p
known-by plan None place p sound h is = shared-known plan place p sound is
known-by plan (Some own) place p sound h is =
    let found = map-some (λ (q : OwnPolicy). q.policy) (own_policy_in own.policies place) p is in
    let owned = found-one (IsOwnPolicy plan.table plan.declared.policies own.table)
    (λ (x : OwnPolicy). x.place == place) own.policies found.0 h.policies found.1 in
    subst (λ (x : Policy). IsKnown plan x) found.2
    (says-known plan plan.table owned.there own.table found.0.policy owned.same
    (shared-known plan found.0.place owned.there sound owned.found))

pub all-known : (plan : Plan) (app : Application) → IsPlan plan → IsApplication plan app → (place : ℕ) (p : Policy)
    → app_policy plan app place ≡ Some p → IsKnown plan p
all-known plan app h a place p is = known-by plan app.own place p h.declared a.own is

-- ---- everything together

steps-known : (plan : Plan) (app : Application) (P : Policy → Type 0)
    → ((place : ℕ) (p : Policy) → app_policy plan app place ≡ Some p → P p) → (lines : List StepLine)
    (steps : List ScheduledOp) → map (op_of plan app) lines ≡ map (λ (due : ScheduledOp). Some due.step) steps
    → All (λ (due : ScheduledOp). IfPolicy due.step P) steps
steps-known plan app P all [] [] e = All-nil (λ (due : ScheduledOp). IfPolicy due.step P)
steps-known plan app P all [] (due ∷ steps) e = absurd cc
steps-known plan app P all (first ∷ lines) [] e = absurd cc
steps-known plan app P all (first ∷ lines) (due ∷ steps) e =
    let head : op_of plan app first ≡ Some due.step = cc in
    let tail : map (op_of plan app) lines ≡ map (λ (d : ScheduledOp). Some d.step) steps = cc in
    All-cons (λ (d : ScheduledOp). IfPolicy d.step P) due steps (step-policy plan app P all first due.step head)
    (steps-known plan app P all lines steps tail)

-- as many steps as counts
few-steps : (plan : Plan) (app : Application) (steps : List ScheduledOp) → AreOpsOfPlan plan app steps
    → length app.chain ≤ 8 → length (steps_on plan.operators app.conn) ≤ MAX_STEPS → length steps < 2 ^ 31
few-steps plan app steps is chain more =
    let many : length (map (λ (due : ScheduledOp). due.count) steps)
    ≡ length (zero_each app.chain ++ remaining_counts (steps_on plan.operators app.conn)) =
    ap (λ (ns : List ℕ). length ns) is.counts in
    let parts = length-append (zero_each app.chain) (remaining_counts (steps_on plan.operators app.conn)) in
    let one = length-map steps (λ (due : ScheduledOp). due.count) in
    let two = length-map {B = ℕ} app.chain (λ (x : ℕ). 0) in
    let three = length-map (steps_on plan.operators app.conn) (λ (step : OperatorStep). step.count) in
    omega (arith, many, parts, one, two, three, chain, more)

new-chain : IsChain empty_chain
new-chain = record {
  few = omega arith;
  names = tt;
  attachments = tt;
  numbered = All-nil (λ (attach : ℕ). attach ≤ 0);
}

module _ (stays : (before after : Chain) (step : Op) → IsChain before → HasChanged before step after → IsChain after)
    (only : (before after : Chain) (step : Op) → IsChain before → HasChanged before step after → after ≡ changed step before)
    (plan : Plan) (app : Application) (h : IsPlan plan) (a : IsApplication plan app) where
  pub few-places : length app.chain ≤ 8
  few-places = let few = few-attached stays plan app app.chain 0
      (map (λ (step : OperatorStep). step.line) (steps_on plan.operators app.conn)) empty_chain a.chain.ops a.chain.after new-chain
      a.chain.stand_for a.chain.change in
      omega (arith, few)

  pub are-steps : (steps : List ScheduledOp) → AreOpsOfPlan plan app steps → AreScheduledOps steps
  are-steps steps is =
      let listed = listed-on plan app.conn h.operators in
      let same : a.chain.ops ≡ map (λ (due : ScheduledOp). due.step) steps =
      same-ops steps a.chain.ops (sym a.chain.stand_for ∙ is.stand_for) in record {
        ascend = ascend-counts 0 steps (subst (λ (ns : List ℕ). AscendFrom 0 ns) (sym is.counts)
            (ascend-zeros app.chain (remaining_counts (steps_on plan.operators app.conn))
            (ascend-steps (steps_on plan.operators app.conn) listed.0)));
        refuses_none = subst (λ (ops : List Op). HasNoRefusal empty_chain ops) same
            (changing-none stays only empty_chain a.chain.ops a.chain.after new-chain a.chain.change);
        policies = steps-known plan app IsPolicy (λ place p there. (all-known plan app h a place p there).0)
            (chain_lines plan app) steps is.stand_for;
        few = few-steps plan app steps is few-places listed.1;
      }

  pub known-steps : (steps : List ScheduledOp) → AreOpsOfPlan plan app steps
      → KnowTenants (λ place. place < length plan.declared.tenants) steps
  known-steps steps is =
      steps-known plan app (KnowsTenantOf (λ place. place < length plan.declared.tenants))
      (λ place p there. (all-known plan app h a place p there).1) (chain_lines plan app) steps is.stand_for
