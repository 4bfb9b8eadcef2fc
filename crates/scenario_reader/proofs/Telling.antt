-- Step lines mean one step each, which names one policy and is one operation on a chain.
use Rattle.std.proofs.Common.{◌≡◌, ℕ, zero, suc, ◌+◌, List, [], ◌∷◌, map, Contains, Option, Some, None, refl, sym, ap, ◌∙◌, subst, inl, inr, arith}
use Rattle.std.specs.Prelude.{filter_map, option_and_then, slice_get}
use Rattle.std.proofs.lemmas.Option.{same_Some}
use Rattle.mrpc_table.specs.Lines.{words_of}
use Rattle.mrpc_table.specs.Valid.{AreDistinct}
use Rattle.engine_core.specs.declared.op.Op.{Op}
use Rattle.engine_core.specs.declared.op.Op.TheVariants as op
use Rattle.policy_declarations.specs.Declarations.{Declared, policy_names, policy_index}
use Rattle.policy_declarations.specs.declared.declaration.NamedPolicy.{NamedPolicy}
use Rattle.script_grammar.specs.Lines.{HaveMeanings}
use Rattle.script_grammar.specs.WordKinds.{Meaning}
use Rattle.scenario.specs.Applications.{AreAttached}
use Rattle.scenario.specs.Lines.{step_policy}
use Rattle.scenario.specs.Operators.{IsAttach, IsDetach, IsUpgrade, HasPolicyName, IsOpOfLine, attaches, detaches, upgrades}
use Rattle.scenario_lines.specs.Forms.{step_sorts}
use Rattle.scenario_lines.specs.Programs.{Each}
use Rattle.scenario_lines.specs.StepLines.{IsStepFormMeaning, IsStepTextFault, IsStepTextMeaning}
use Rattle.scenario_lines.specs.declared.form.StepForm.{StepForm}
use Rattle.scenario_lines.specs.declared.form.StepForm.TheVariants as step
use Rattle.scenario_lines.specs.declared.reason.LineReason.{LineReason}
use Rattle.scenario_lines.specs.declared.step.StepText.{StepText}
use Rattle.scenario_lines.specs.declared.step.StepText.TheVariants as text
use Rattle.scenario_reader.specs.StepLinesReading.{AreStepMeanings}
use Rattle.scenario_reader.specs.Walking.{AreOpsOf, IsOpOf, named_in}
use Rattle.scenario_reader.proofs.Lists.{none_in, there_cases, there_first, there_more}
use Rattle.scenario_reader.proofs.Naming as naming
use Rattle.scenario_reader.proofs.Stepping.{Laws, told_fine}

-- ---- the meaning of one line

pub record Again (a b : StepText) : Type 0 where
  pub form : StepForm
  pub meanings : List Meaning
  pub first : IsStepFormMeaning form meanings a
  pub second : IsStepFormMeaning form meanings b

policy_same : (f : StepForm) (ms : List Meaning) (a b : StepText) → IsStepFormMeaning f ms a → IsStepFormMeaning f ms b → step_policy a ≡ step_policy b
policy_same step.Attach ms (text.Attach c d n p) (text.Attach e g m q) x y = ap (λ (w : List ℕ). Some w) (x.3 ∙ sym y.3)
policy_same step.Attach ms (text.Attach c d n p) (text.Detach e m) x y = absurd y
policy_same step.Attach ms (text.Attach c d n p) (text.Upgrade e m q) x y = absurd y
policy_same step.Attach ms (text.Detach c n) b x y = absurd x
policy_same step.Attach ms (text.Upgrade c n p) b x y = absurd x
policy_same step.Detach ms (text.Attach c d n p) b x y = absurd x
policy_same step.Detach ms (text.Detach c n) (text.Attach e g m q) x y = absurd y
policy_same step.Detach ms (text.Detach c n) (text.Detach e m) x y = refl
policy_same step.Detach ms (text.Detach c n) (text.Upgrade e m q) x y = absurd y
policy_same step.Detach ms (text.Upgrade c n p) b x y = absurd x
policy_same step.Upgrade ms (text.Attach c d n p) b x y = absurd x
policy_same step.Upgrade ms (text.Detach c n) b x y = absurd x
policy_same step.Upgrade ms (text.Upgrade c n p) (text.Attach e g m q) x y = absurd y
policy_same step.Upgrade ms (text.Upgrade c n p) (text.Detach e m) x y = absurd y
policy_same step.Upgrade ms (text.Upgrade c n p) (text.Upgrade e m q) x y = ap (λ (w : List ℕ). Some w) (x.2 ∙ sym y.2)

attach_same : (f : StepForm) (ms : List Meaning) (a b : StepText) (at : ℕ) (n p : List ℕ) → IsStepFormMeaning f ms a → IsStepFormMeaning f ms b
    → IsAttach a at n p → IsAttach b at n p
attach_same step.Attach ms (text.Attach c d i j) (text.Attach e g k l) at n p x y h =
    (y.1 ∙ sym x.1 ∙ h.0, y.2 ∙ sym x.2 ∙ h.1, y.3 ∙ sym x.3 ∙ h.2)
attach_same step.Attach ms (text.Attach c d i j) (text.Detach e k) at n p x y h = absurd y
attach_same step.Attach ms (text.Attach c d i j) (text.Upgrade e k l) at n p x y h = absurd y
attach_same step.Detach ms (text.Attach c d i j) b at n p x y h = absurd x
attach_same step.Upgrade ms (text.Attach c d i j) b at n p x y h = absurd x
attach_same f ms (text.Detach c i) b at n p x y h = absurd h
attach_same f ms (text.Upgrade c i j) b at n p x y h = absurd h

detach_same : (f : StepForm) (ms : List Meaning) (a b : StepText) (n : List ℕ) → IsStepFormMeaning f ms a → IsStepFormMeaning f ms b
    → IsDetach a n → IsDetach b n
detach_same step.Detach ms (text.Detach c i) (text.Detach e k) n x y h = y.1 ∙ sym x.1 ∙ h
detach_same step.Detach ms (text.Detach c i) (text.Attach e g k l) n x y h = absurd y
detach_same step.Detach ms (text.Detach c i) (text.Upgrade e k l) n x y h = absurd y
detach_same step.Attach ms (text.Detach c i) b n x y h = absurd x
detach_same step.Upgrade ms (text.Detach c i) b n x y h = absurd x
detach_same f ms (text.Attach c d i j) b n x y h = absurd h
detach_same f ms (text.Upgrade c i j) b n x y h = absurd h

upgrade_same : (f : StepForm) (ms : List Meaning) (a b : StepText) (n p : List ℕ) → IsStepFormMeaning f ms a → IsStepFormMeaning f ms b
    → IsUpgrade a n p → IsUpgrade b n p
upgrade_same step.Upgrade ms (text.Upgrade c i j) (text.Upgrade e k l) n p x y h = (y.1 ∙ sym x.1 ∙ h.0, y.2 ∙ sym x.2 ∙ h.1)
upgrade_same step.Upgrade ms (text.Upgrade c i j) (text.Attach e g k l) n p x y h = absurd y
upgrade_same step.Upgrade ms (text.Upgrade c i j) (text.Detach e k) n p x y h = absurd y
upgrade_same step.Attach ms (text.Upgrade c i j) b n p x y h = absurd x
upgrade_same step.Detach ms (text.Upgrade c i j) b n p x y h = absurd x
upgrade_same f ms (text.Attach c d i j) b n p x y h = absurd h
upgrade_same f ms (text.Detach c i) b n p x y h = absurd h

-- ---- policies by their names

pub get_there : {X : Type 0} (xs : List X) (i : ℕ) (x : X) → slice_get xs i ≡ Some x → Contains xs x
get_there [] i x e = absurd cc
get_there (y ∷ ys) zero x e = subst (λ (z : _). Contains (y ∷ ys) z) (same_Some y x e) (there_first y ys)
get_there (y ∷ ys) (suc i) x e = there_more y ys x (get_there ys i x e)

pub there_map : {X Y : Type 0} (f : X → Y) (xs : List X) (x : X) → Contains xs x → Contains (map f xs) (f x)
there_map f [] x h = absurd (let within = h.1 in omega (arith, within))
there_map f (y ∷ ys) x h = elim (there_cases y ys x h) [
  | inl is ↦ subst (λ (z : _). Contains (map f (y ∷ ys)) (f z)) is (there_first (f y) (map f ys))
  | inr more ↦ there_more (f y) (map f ys) (f x) (there_map f ys x more)
]

-- of items with distinct names, each name has one item
pub distinct_same : {X Y : Type 0} (f : X → Y) (xs : List X) (x y : X) → AreDistinct (map f xs) → Contains xs x → Contains xs y
    → f x ≡ f y → x ≡ y
distinct_same f [] x y d h k e = absurd (let within = h.1 in omega (arith, within))
distinct_same {Y = Y} f (z ∷ zs) x y d h k e = elim (there_cases z zs x h) [
  | inl one ↦ elim (there_cases z zs y k) [
    | inl two ↦ sym one ∙ two
    | inr more ↦ absurd (d.0 (subst (λ (n : Y). Contains (map f zs) n) (sym e ∙ ap f (sym one)) (there_map f zs y more)))
  ]
  | inr more ↦ elim (there_cases z zs y k) [
    | inl two ↦ absurd (d.0 (subst (λ (n : Y). Contains (map f zs) n) (e ∙ ap f (sym two)) (there_map f zs x more)))
    | inr others ↦ distinct_same f zs x y d.1 more others e
  ]
]

named_by : (d : Declared) (name : List ℕ) (place : Option ℕ) (p : NamedPolicy) → place ≡ policy_index d name
    → AreDistinct (policy_names d) → Contains d.policies p → p.name ≡ name → option_and_then (slice_get d.policies) place ≡ Some p
named_by d name None p is distinct there same =
    absurd (naming.none_there (λ (q : NamedPolicy). q.name) name d.policies (sym is)
    (subst (λ (n : List ℕ). Contains (policy_names d) n) same (there_map (λ (q : NamedPolicy). q.name) d.policies p there)))
named_by d name (Some place) p is distinct there same =
    let found = naming.place_is (λ (q : NamedPolicy). q.name) name d.policies place (sym is) in
    let one = distinct_same (λ (q : NamedPolicy). q.name) d.policies found.item p distinct (get_there d.policies place found.item found.at) there
    (found.same ∙ sym same) in
    found.at ∙ ap (λ (q : NamedPolicy). Some q) one

pub named_found : (d : Declared) (name : List ℕ) (p : NamedPolicy) → AreDistinct (policy_names d) → Contains d.policies p → p.name ≡ name
    → named_in d name ≡ Some p
named_found d name p distinct there same = named_by d name (policy_index d name) p refl distinct there same

-- ---- attachments

pub attached_ops : (d : Declared) (at : ℕ) (names : List (List ℕ)) (ops : List Op) → AreDistinct (policy_names d)
    → AreAttached d.policies at names ops → AreOpsOf d at names ops
attached_ops d at [] [] distinct h = tt
attached_ops d at [] (o ∷ ops) distinct h = absurd h
attached_ops d at (name ∷ names) [] distinct h = absurd h
attached_ops d at (name ∷ names) (o ∷ ops) distinct h =
    let p = h.0.0 in (
      record {
        p = p;
        found = named_found d name p distinct h.0.1 h.0.2;
        is = h.0.3 ∙ ap (λ (n : List ℕ). op.Attach at name n p.policy) (sym h.0.2);
      },
      attached_ops d (at + 1) names ops distinct h.1,
    )

pub named_there : (d : Declared) (name : List ℕ) → Contains (policy_names d) name → (p : NamedPolicy) × Contains d.policies p × (p.name ≡ name)
named_there d name h = go d.policies h where
  go : (ps : List NamedPolicy) → Contains (map (λ (q : NamedPolicy). q.name) ps) name → (p : NamedPolicy) × Contains ps p × (p.name ≡ name)
  go [] k = absurd (none_in name k)
  go (q ∷ qs) k = elim (there_cases q.name (map (λ (p : NamedPolicy). p.name) qs) name k) [
    | inl is ↦ (q, there_first q qs, is)
    | inr more ↦ (let r = go qs more in (r.0, there_more q qs r.0 r.1, r.2))
  ]

pub attachments_are : (d : Declared) (at : ℕ) (names : List (List ℕ)) → ((name : List ℕ) → Contains names name → Contains (policy_names d) name)
    → (ops : List Op) × AreAttached d.policies at names ops
attachments_are d at [] all = ([], tt)
attachments_are d at (name ∷ names) all =
    let p = named_there d name (all name (there_first name names)) in
    let rest = attachments_are d (at + 1) names (λ n h. all n (there_more name names n h)) in
    (op.Attach at name name p.0.policy ∷ rest.0, ((p.0, p.1, p.2, refl), rest.1))

-- ---- the lines of an operator

module _ (laws : Laws) where
  again : (line : List ℕ) (a b : StepText) → IsStepTextMeaning line a → IsStepTextMeaning line b → Again a b
  again line a b p q =
      let form : p.form ≡ q.form = same_Some _ _ (sym p.is_form ∙ q.is_form) in
      let said = subst (λ (f : StepForm). HaveMeanings (step_sorts f) (words_of line) p.meanings) form p.said in
      let same = laws.one (step_sorts q.form) (words_of line) p.meanings q.meanings said q.said in
      record {
        form = q.form;
        meanings = q.meanings;
        first = subst (λ (ms : List Meaning). IsStepFormMeaning q.form ms a) same (subst (λ (f : StepForm). IsStepFormMeaning f p.meanings a) form p.tells);
        second = q.tells;
      }

  -- an operation on a chain, from the meaning of its line
  pub op_told : (d : Declared) (line : List ℕ) (told : StepText) (o : Op) → AreDistinct (policy_names d) → IsStepTextMeaning line told
      → IsOpOfLine d.policies line o → IsOpOf d told o
  op_told d line told o distinct says (attaches other at name p other_says is there e) =
      let two = again line other told other_says says in
      by_attach told (attach_same two.form two.meanings other told at name p.name two.first two.second is) where
        by_attach : (t : StepText) → IsAttach t at name p.name → IsOpOf d t o
        by_attach (text.Attach c g i j) h = (
          at,
          h.0,
          record {
            p = p;
            found = named_found d j.now p distinct there (sym h.2);
            is = e ∙ ap (λ (n : List ℕ). op.Attach at n p.name p.policy) (sym h.1);
          },
        )
        by_attach (text.Detach c i) h = absurd h
        by_attach (text.Upgrade c i j) h = absurd h
  op_told d line told o distinct says (detaches other name other_says is e) =
      let two = again line other told other_says says in
      by_detach told (detach_same two.form two.meanings other told name two.first two.second is) where
        by_detach : (t : StepText) → IsDetach t name → IsOpOf d t o
        by_detach (text.Attach c g i j) h = absurd h
        by_detach (text.Detach c i) h = e ∙ ap (λ (n : List ℕ). op.Detach n) (sym h)
        by_detach (text.Upgrade c i j) h = absurd h
  op_told d line told o distinct says (upgrades other name p other_says is there e) =
      let two = again line other told other_says says in
      by_upgrade told (upgrade_same two.form two.meanings other told name p.name two.first two.second is) where
        by_upgrade : (t : StepText) → IsUpgrade t name p.name → IsOpOf d t o
        by_upgrade (text.Attach c g i j) h = absurd h
        by_upgrade (text.Detach c i) h = absurd h
        by_upgrade (text.Upgrade c i j) h = record {
          p = p;
          found = named_found d j.now p distinct there (sym h.1);
          is = e ∙ ap (λ (n : List ℕ). op.Upgrade n p.name p.policy) (sym h.0);
        }

  pub ops_told : (d : Declared) (lines : List (List ℕ)) (told : List StepText) (ops : List Op) → AreDistinct (policy_names d)
      → Each IsStepTextMeaning lines told → Each (IsOpOfLine d.policies) lines ops → Each (IsOpOf d) told ops
  ops_told d [] [] [] distinct says steps = tt
  ops_told d [] [] (o ∷ ops) distinct says steps = absurd steps
  ops_told d [] (t ∷ told) ops distinct says steps = absurd says
  ops_told d (l ∷ lines) [] ops distinct says steps = absurd says
  ops_told d (l ∷ lines) (t ∷ told) [] distinct says steps = absurd steps
  ops_told d (l ∷ lines) (t ∷ told) (o ∷ ops) distinct says steps =
      (op_told d l t o distinct says.0 steps.0, ops_told d lines told ops distinct says.1 steps.1)

  -- if no line has a fault, each has a meaning
  pub all_tell : (lines : List (List ℕ)) (told : List StepText) → AreStepMeanings lines told
      → ((line : List ℕ) (why : LineReason) → Contains lines line → IsStepTextFault line why → ⊥) → Each IsStepTextMeaning lines told
  all_tell [] told t none = subst (λ (xs : List StepText). Each IsStepTextMeaning [] xs) (sym t) tt
  all_tell (l ∷ lines) told (inl (s, rest, says, is, more)) none =
      subst (λ (xs : List StepText). Each IsStepTextMeaning (l ∷ lines) xs) (sym is)
      (says, all_tell lines rest more (λ line why h. none line why (there_more l lines line h)))
  all_tell (l ∷ lines) told (inr (fault, more)) none = absurd (none l fault.0 (there_first l lines) fault.1)

  -- ---- the names

  add_named : (l : List ℕ) (lines : List (List ℕ)) (name : List ℕ) → HasPolicyName lines name → HasPolicyName (l ∷ lines) name
  add_named l lines name h = record {
    line = h.line;
    there = there_more l lines h.line h.there;
    told = h.told;
    says = h.says;
    policy = h.policy;
  }

  from_told : (l : List ℕ) (lines : List (List ℕ)) (s : StepText) (rest : List StepText) (name : List ℕ) (o : Option (List ℕ)) → IsStepTextMeaning l s
      → step_policy s ≡ o → Contains (filter_map step_policy (s ∷ rest)) name
      → (Contains (filter_map step_policy rest) name → HasPolicyName (l ∷ lines) name) → HasPolicyName (l ∷ lines) name
  from_told l lines (text.Attach c d i j) rest name o says is h back = elim (there_cases j.now (filter_map step_policy rest) name h) [
    | inl same ↦ record {
      line = l;
      there = there_first l lines;
      told = text.Attach c d i j;
      says = says;
      policy = ap (λ (w : List ℕ). Some w) same;
    }
    | inr more ↦ back more
  ]
  from_told l lines (text.Detach c i) rest name o says is h back = back h
  from_told l lines (text.Upgrade c i j) rest name o says is h back = elim (there_cases j.now (filter_map step_policy rest) name h) [
    | inl same ↦ record {
      line = l;
      there = there_first l lines;
      told = text.Upgrade c i j;
      says = says;
      policy = ap (λ (w : List ℕ). Some w) same;
    }
    | inr more ↦ back more
  ]

  pub named_from : (lines : List (List ℕ)) (told : List StepText) (name : List ℕ) → AreStepMeanings lines told
      → Contains (filter_map step_policy told) name → HasPolicyName lines name
  named_from [] told name t h = absurd (none_in name (subst (λ (xs : List StepText). Contains (filter_map step_policy xs) name) t h))
  named_from (l ∷ lines) told name (inl (s, rest, says, is, more)) h =
      from_told l lines s rest name (step_policy s) says refl (subst (λ (xs : List StepText). Contains (filter_map step_policy xs) name) is h)
      (λ k. add_named l lines name (named_from lines rest name more k))
  named_from (l ∷ lines) told name (inr (fault, more)) h = add_named l lines name (named_from lines told name more h)

  to_told : (s : StepText) (rest : List StepText) (name : List ℕ) → step_policy s ≡ Some name → Contains (filter_map step_policy (s ∷ rest)) name
  to_told (text.Attach c d i j) rest name e =
      subst (λ (w : List ℕ). Contains (j.now ∷ filter_map step_policy rest) w) (same_Some j.now name e) (there_first j.now (filter_map step_policy rest))
  to_told (text.Detach c i) rest name e = absurd cc
  to_told (text.Upgrade c i j) rest name e =
      subst (λ (w : List ℕ). Contains (j.now ∷ filter_map step_policy rest) w) (same_Some j.now name e) (there_first j.now (filter_map step_policy rest))

  behind_told : (s : StepText) (rest : List StepText) (name : List ℕ) → Contains (filter_map step_policy rest) name
      → Contains (filter_map step_policy (s ∷ rest)) name
  behind_told (text.Attach c d i j) rest name h = there_more j.now (filter_map step_policy rest) name h
  behind_told (text.Detach c i) rest name h = h
  behind_told (text.Upgrade c i j) rest name h = there_more j.now (filter_map step_policy rest) name h

  named_to_by : (lines : List (List ℕ)) (told : List StepText) (name line : List ℕ) (t : StepText) → AreStepMeanings lines told → Contains lines line
      → IsStepTextMeaning line t → step_policy t ≡ Some name → Contains (filter_map step_policy told) name
  named_to_by [] told name line t tell there says is = absurd (none_in line there)
  named_to_by (l ∷ lines) told name line t (inl (s, rest, says_s, e, more)) there says is =
      subst (λ (xs : List StepText). Contains (filter_map step_policy xs) name) (sym e) (elim (there_cases l lines line there) [
        | inl same ↦
            let two = again l s t says_s (subst (λ (x : List ℕ). IsStepTextMeaning x t) (sym same) says) in
            to_told s rest name (policy_same two.form two.meanings s t two.first two.second ∙ is)
        | inr behind ↦ behind_told s rest name (named_to_by lines rest name line t more behind says is)
      ])
  named_to_by (l ∷ lines) told name line t (inr (fault, more)) there says is = elim (there_cases l lines line there) [
    | inl same ↦ absurd (told_fine laws l t fault.0 (subst (λ (x : List ℕ). IsStepTextMeaning x t) (sym same) says) fault.1)
    | inr behind ↦ named_to_by lines told name line t more behind says is
  ]

  pub named_to : (lines : List (List ℕ)) (told : List StepText) (name : List ℕ) → AreStepMeanings lines told → HasPolicyName lines name
      → Contains (filter_map step_policy told) name
  named_to lines told name tell h = named_to_by lines told name h.line h.told tell h.there h.says h.policy
