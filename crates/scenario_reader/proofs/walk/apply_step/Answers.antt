use Rattle.std.proofs.Common.{ap, sym, ◌∙◌, subst}
use Rattle.std.specs.Prelude.{IfOk}
use Rattle.std.proofs.lemmas.Option.{same_Some}
use Rattle.engine_core.specs.declared.op.Op.{Op}
use Rattle.engine_core.specs.declared.op.Op.TheVariants as op
use Rattle.policy_declarations.specs.declared.declaration.NamedPolicy.{NamedPolicy}
use Rattle.scenario_entries.specs.ChainEntries.{IsChangeOrRefusal}
use Rattle.scenario_lines.specs.declared.step.StepText.{StepText}
use Rattle.scenario_reader.specs.Walking.{IsOpOf}
use Rattle.scenario_reader.proofs.walk.apply_step.Goals as goal

pub returns-in-Some : goal.returns-in-Some
returns-in-Some c = λ start o sound kept is.
    let told = subst (λ (t : StepText). IsOpOf c.args.declared.now t o) c.in-Attach.is is in
    let n = told.0 in
    let a = told.2 in
    let same = same_Some _ _ (c.in-Some.ensures ∙ a.found) in
    subst (λ (x : Op). IfOk c.attach.result (IsChangeOrRefusal start x c.attach.new.self.entries.items))
    (sym (a.is ∙ ap (λ (q : NamedPolicy). op.Attach n c.in-Attach.name.now a.p.name q.policy) (sym same)))
    (c.attach.ensures start n a.p.name sound kept told.1)

pub returns-in-Some-named_in : goal.returns-in-Some-named_in
returns-in-Some-named_in c = λ start o sound kept is.
    let a = subst (λ (t : StepText). IsOpOf c.args.declared.now t o) c.in-Upgrade.is is in
    let same = same_Some _ _ (c.in-Some-named_in.ensures ∙ a.found) in
    subst (λ (x : Op). IsChangeOrRefusal start x c.upgrade.new.self.entries.items c.upgrade.result)
    (sym (a.is ∙ ap (λ (q : NamedPolicy). op.Upgrade c.in-Upgrade.name.now a.p.name q.policy) (sym same)))
    (c.upgrade.ensures start a.p.name sound kept)
