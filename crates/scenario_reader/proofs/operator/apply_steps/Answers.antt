use Rattle.std.proofs.Common.{List, refl, sym, subst}
use Rattle.scenario_entries.specs.ChainEntries.{AreEntriesOf}
use Rattle.scenario_entries.specs.declared.chain.ChainEntry.{ChainEntry}
use Rattle.scenario_reader.proofs.operator.apply_steps.Goals as goal

pub returns-in-Some : goal.returns-in-Some
returns-in-Some c = λ start ops sound kept are.
    rw c.in-Some.is at (c.in_ok-reason.ensures start ops sound
    (subst (λ (es : List ChainEntry). AreEntriesOf es start) (sym c.in_ok-chain.ensures) kept) are)

pub returns : goal.returns
returns c = (
  refl,
  c.in_ok-plan_steps-in-None.ensures,
  λ start ops sound kept are.
      rw c.in-None.is at (c.in_ok-reason.ensures start ops sound
      (subst (λ (es : List ChainEntry). AreEntriesOf es start) (sym c.in_ok-chain.ensures) kept) are),
)
