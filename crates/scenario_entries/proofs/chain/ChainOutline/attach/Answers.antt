use Rattle.std.proofs.Common.{ℕ, List, sym, ap, ◌∙◌, subst, refl, None, arith}
use Rattle.std.specs.Prelude.{is_some}
use Rattle.std.specs.List.{insert}
use Rattle.engine_core.specs.declared.op.Op.TheVariants as op
use Rattle.scenario_entries.specs.ChainEntries.{IsChangeOrRefusal}
use Rattle.scenario_entries.specs.declared.chain.ChainEntry.{ChainEntry}
use Rattle.scenario_entries.proofs.Linking.{attach_full, attach_past, attach_taken, attached, none_from}
use Rattle.scenario_entries.proofs.chain.ChainOutline.attach.Goals as goal

pub returns-then-is_some : goal.returns-then-is_some
returns-then-is_some c = λ chain at label sound kept same.
    attach_taken c.args.self.now.entries.items chain kept at c.args.name.now label c.args.policy.now
    (ap is_some (sym c.position.ensures) ∙ sym c.is_some.ensures ∙ c.if-is_some.true)

pub returns-in_default : goal.returns-in_default
returns-in_default c = λ chain at label sound kept same.
    let none = sym c.position.ensures ∙ none_from c.position.result (sym c.is_some.ensures ∙ c.if-is_some.false) in
    let past = c.in_default.ensures.place at same in
    attach_past c.args.self.now.entries.items chain kept at c.args.name.now label c.args.policy.now none
    (omega (arith, past, c.len-count.ensures))

pub returns-then-count-ge-MAX_ENGINES : goal.returns-then-count-ge-MAX_ENGINES
returns-then-count-ge-MAX_ENGINES c = λ chain at label sound kept same.
    let none = sym c.position.ensures ∙ none_from c.position.result (sym c.is_some.ensures ∙ c.if-is_some.false) in
    let within = (c.in-Some.ensures.place at same).1 in
    attach_full c.args.self.now.entries.items chain kept at c.args.name.now label c.args.policy.now none
    (omega (arith, within, c.len-count.ensures)) (omega (arith, c.if-count-ge-MAX_ENGINES.true, c.len-count.ensures))

pub insert-requires : goal.insert-requires
insert-requires c = omega (arith, c.in-Some.ensures.within, c.len-count.ensures)

pub returns : goal.returns
returns c = λ chain at label sound kept same.
    let entries = c.args.self.now.entries.items in
    let e : ChainEntry = record { name = c.args.name; policy = c.args.policy } in
    let none = sym c.position.ensures ∙ none_from c.position.result (sym c.is_some.ensures ∙ c.if-is_some.false) in
    let placed = c.in-Some.ensures.place at same in
    let within = placed.1 in
    subst (λ (es : List ChainEntry). IsChangeOrRefusal chain (op.Attach at c.args.name.now label c.args.policy.now) es None) (sym c.in_ok-insert.ensures.items)
    (subst (λ (k : ℕ). IsChangeOrRefusal chain (op.Attach at c.args.name.now label c.args.policy.now) (insert entries k e) None) (sym placed.0)
    (attached entries chain kept at c.args.name.now label c.args.policy.now e refl refl none (omega (arith, within, c.len-count.ensures))
    (omega (arith, c.if-count-ge-MAX_ENGINES.false, c.len-count.ensures))))
