use Rattle.std.proofs.Common.{sym, ◌∙◌, refl}
use Rattle.scenario_entries.proofs.Linking.{at_kept, upgrade_other, upgrade_refused, upgraded_to}
use Rattle.scenario_entries.proofs.chain.ChainOutline.upgrade.Goals as goal

pub returns-in-None : goal.returns-in-None
returns-in-None c = λ chain label sound kept.
    upgrade_refused c.args.self.now.entries.items chain kept c.args.name.now label c.args.policy.now (sym c.position.ensures ∙ c.in-None.is)

pub returns-then-not-is_same_kind : goal.returns-then-not-is_same_kind
returns-then-not-is_same_kind c = λ chain label sound kept.
    let entries = c.args.self.now.entries.items in
    let some = sym c.position.ensures ∙ c.in-Some.is in
    upgrade_other entries chain kept c.args.name.now label c.args.policy.now c.in-Some.place c.index-entry.result.now some
    (at_kept entries chain kept c.args.name.now c.in-Some.place c.index-entry.result.now some c.index-entry.ensures)
    (sym c.is_same_kind.ensures ∙ c.if-not-is_same_kind.true)

pub returns-else-not-is_same_kind : goal.returns-else-not-is_same_kind
returns-else-not-is_same_kind c = λ chain label sound kept.
    let entries = c.args.self.now.entries.items in
    let some = sym c.position.ensures ∙ c.in-Some.is in
    upgraded_to entries chain kept sound c.args.name.now label c.args.policy.now c.in-Some.place c.index-entry.result.now
    (record { name = c.index-entry.result.now.name; policy = c.args.policy }) some
    (at_kept entries chain kept c.args.name.now c.in-Some.place c.index-entry.result.now some c.index-entry.ensures)
    (sym c.is_same_kind.ensures ∙ c.if-not-is_same_kind.false) refl refl
