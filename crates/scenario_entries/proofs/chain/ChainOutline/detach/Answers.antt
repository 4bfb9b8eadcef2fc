use Rattle.std.proofs.Common.{List, sym, ◌∙◌, subst, None}
use Rattle.engine_core.specs.declared.op.Op.TheVariants as op
use Rattle.scenario_entries.specs.ChainEntries.{IsChangeOrRefusal}
use Rattle.scenario_entries.specs.declared.chain.ChainEntry.{ChainEntry}
use Rattle.scenario_entries.proofs.Linking.{detach_refused, detached}
use Rattle.scenario_entries.proofs.chain.ChainOutline.detach.Goals as goal

pub returns-in-None : goal.returns-in-None
returns-in-None c = λ chain kept.
    detach_refused c.args.self.now.entries.items chain kept c.args.name.now (sym c.position.ensures ∙ c.in-None.is)

pub returns-in-Some : goal.returns-in-Some
returns-in-Some c = λ chain kept.
    subst (λ (es : List ChainEntry). IsChangeOrRefusal chain (op.Detach c.args.name.now) es None) (sym c.remove.ensures.items)
    (detached c.args.self.now.entries.items chain kept c.args.name.now c.in-Some.place (sym c.position.ensures ∙ c.in-Some.is))
