use Rattle.std.proofs.Common.{List, ap, sym, ◌∙◌, subst, arith, vec_capacity}
use Rattle.engine_core.specs.Engines.{EngineParts}
use Rattle.engine_core.specs.Marks.{PendingCall, seqs_of}
use Rattle.engine_core.specs.Working.{HasWorked}
use Rattle.engine_core.specs.declared.outcome.Noted.TheVariants.{Nothing}
use Rattle.engine_core.specs.declared.outcome.Outcome.TheVariants.{Passed}
use Rattle.chain_upgrade.specs.Chains.{ChainParts}
use Rattle.chain_upgrade.specs.Cuts.{row_from}
use Rattle.chain_upgrade.specs.Kept.{IsKept}
use Rattle.chain_upgrade.proofs.AfterTurns.{in-either, work-kept, work-row}
use Rattle.chain_upgrade.proofs.MarksLeft.{have-at, have-turn}
use Rattle.chain_upgrade.proofs.chain.Chain.passes_unnoted.Goals as goal

pub invariant_of-self : goal.invariant_of-self
invariant_of-self c = (
  in-either c.pass_unnoted.result c.pass_unnoted.ensures.passed c.pass_unnoted.ensures.as_before
      (λ works. work-kept c.self.inside.engines.items (vec_capacity c.self.inside.engines) c.self.inside.attached c.args.at c.args.place 0
      c.self.inside.row c.self.inside.cuts.behind (Passed Nothing) c.self.inside.engines.items c.pass_unnoted.new.self c.self.invariant.0
      (subst (λ (es : List EngineParts). HasWorked es c.self.inside.row c.args.at c.args.place 0 (Passed Nothing) es c.pass_unnoted.new.self)
      c.as_slice-engines.ensures.value (works 0)))
      (λ same. subst (λ (calls : List PendingCall). IsKept c.self.inside.engines.items (vec_capacity c.self.inside.engines) c.self.inside.attached
      calls c.self.inside.cuts.behind) (sym same) c.self.invariant.0),
  in-either c.pass_unnoted.result c.pass_unnoted.ensures.passed c.pass_unnoted.ensures.as_before
      (λ works. have-turn c.self.inside.engines.items c.self.inside.stale c.args.at c.args.place 0 c.self.inside.row (Passed Nothing) c.self.inside.engines.items
      c.pass_unnoted.new.self (subst (λ (es : List EngineParts). HasWorked es c.self.inside.row c.args.at c.args.place 0 (Passed Nothing) es c.pass_unnoted.new.self)
      c.as_slice-engines.ensures.value (works 0)) c.self.invariant.1)
      (λ same. rw same c.self.invariant.1),
)

pub pass_unnoted-requires-clause-marks : goal.pass_unnoted-requires-clause-marks
pass_unnoted-requires-clause-marks c s is = rw c.as_slice-engines.ensures.value
    (have-at c.self.inside.engines.items c.self.inside.stale c.args.place c.self.inside.row s c.self.invariant.1 (omega (arith, c.if-place-self.false)) is)

pub returns-clause-row : goal.returns-clause-row
returns-clause-row c =
    in-either c.pass_unnoted.result c.pass_unnoted.ensures.passed c.pass_unnoted.ensures.as_before
    (λ works. work-row c.self.inside.engines.items (vec_capacity c.self.inside.engines) c.self.inside.attached c.args.at c.args.place 0
    c.self.inside.row c.self.inside.cuts.behind (Passed Nothing) c.self.inside.engines.items c.pass_unnoted.new.self c.self.invariant.0
    (subst (λ (es : List EngineParts). HasWorked es c.self.inside.row c.args.at c.args.place 0 (Passed Nothing) es c.pass_unnoted.new.self)
    c.as_slice-engines.ensures.value (works 0)) c.args.self.now c.self.view_is)
    (λ same. ap (λ (calls : List PendingCall). row_from 0 c.self.inside.cuts.behind (seqs_of calls)) same
    ∙ ap (λ (v : ChainParts). v.row) c.self.view_is)
