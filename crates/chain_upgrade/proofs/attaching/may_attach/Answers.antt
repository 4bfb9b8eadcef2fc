use Rattle.std.proofs.Common.{◌≤◌, ℕ, length, map, subst, sym, ◌∙◌, arith}
use Rattle.std.proofs.lemmas.List.{length-map}
use Rattle.engine_core.specs.Chains.{IsRejection, full}
use Rattle.engine_core.specs.Engines.{EngineParts}
use Rattle.engine_core.specs.declared.op.Op.TheVariants.{Attach}
use Rattle.chain_upgrade.proofs.Named.{has-found, none-has}
use Rattle.chain_upgrade.proofs.Steps.{free-attach, refuses-full, refuses-place, refuses-taken}
use Rattle.chain_upgrade.proofs.attaching.may_attach.Goals as goal

pub returns-then-is_some-clause-refused : goal.returns-then-is_some-clause-refused
returns-then-is_some-clause-refused c = λ attached label policy.
    refuses-taken (record { entries = map (λ e. e.entry) c.args.engines.now; attached = attached }) c.args.at c.args.name label policy
    (has-found c.args.name c.args.engines.now c.position_of.result c.position_of.ensures (sym c.is_some.ensures ∙ c.if-is_some.true))

pub returns-then-at-engines-clause-refused : goal.returns-then-at-engines-clause-refused
returns-then-at-engines-clause-refused c = λ attached label policy.
    refuses-place (record { entries = map (λ e. e.entry) c.args.engines.now; attached = attached }) c.args.at c.args.name label policy
    (none-has c.args.name c.args.engines.now c.position_of.result c.position_of.ensures (sym c.is_some.ensures ∙ c.if-is_some.false))
    (omega (arith, length-map c.args.engines.now (λ (e : EngineParts). e.entry), c.if-at-engines.true))

pub returns-then-engines-eq-MAX_ENGINES-clause-refused : goal.returns-then-engines-eq-MAX_ENGINES-clause-refused
returns-then-engines-eq-MAX_ENGINES-clause-refused c = λ attached label policy.
    subst (λ (n : ℕ). IsRejection (record { entries = map (λ e. e.entry) c.args.engines.now; attached = attached }) (Attach c.args.at c.args.name label policy) (full n))
    (length-map c.args.engines.now (λ (e : EngineParts). e.entry))
    (refuses-full (record { entries = map (λ e. e.entry) c.args.engines.now; attached = attached }) c.args.at c.args.name label policy
    (none-has c.args.name c.args.engines.now c.position_of.result c.position_of.ensures (sym c.is_some.ensures ∙ c.if-is_some.false))
    (omega (arith, length-map c.args.engines.now (λ (e : EngineParts). e.entry), c.if-at-engines.false))
    (omega (arith, length-map c.args.engines.now (λ (e : EngineParts). e.entry), c.if-engines-eq-MAX_ENGINES.true)))

pub returns-clause-free : goal.returns-clause-free
returns-clause-free c = λ label policy refusal against.
    free-attach (map (λ e. e.entry) c.args.engines.now) c.args.at c.args.name label policy refusal
    (none-has c.args.name c.args.engines.now c.position_of.result c.position_of.ensures (sym c.is_some.ensures ∙ c.if-is_some.false))
    (omega (arith, length-map c.args.engines.now (λ (e : EngineParts). e.entry), c.if-at-engines.false))
    (let most : length c.args.engines.now ≤ 8 = c.requires in
    omega (arith, length-map c.args.engines.now (λ (e : EngineParts). e.entry), c.if-engines-eq-MAX_ENGINES.false)) against
