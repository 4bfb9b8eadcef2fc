use Rattle.std.proofs.Common.{inl, refl, subst, sym, ℕ, List}
use Rattle.mrpc_base.specs.WholeInput.{IsInput}
use Rattle.mrpc_top.specs.Runs.HasStoppedRun.{in_fault}
use Rattle.scenario.specs.Scenarios.{HasFault}
use Rattle.mrpc_top.proofs.RunAnswers.{fault_of_read, not_faulty}
use Rattle.mrpc_top.proofs.run.run_input.Goals as goal

pub returns-in-Whole-clause-refused : goal.returns-in-Whole-clause-refused
returns-in-Whole-clause-refused g c text is fault =
    let found = fault_of_read (g.S.Source.left c.args.input.now) c.in-Whole.text.items text c.in-Whole.ensures.whole.0
    c.in-Whole.ensures.whole.1 is fault in
    c.run_scenario.ensures.refused found.0 found.1
    (subst (λ (t : List ℕ). HasFault t found.0 found.1) (sym c.deref.ensures.value) found.2)

pub returns-in-Whole-clause-cut_short : goal.returns-in-Whole-clause-cut_short
returns-in-Whole-clause-cut_short g c e =
    let input = subst (λ (t : List ℕ). IsInput (g.S.Source.left c.args.input.now) t) (sym c.deref.ensures.value)
    (record { all = c.in-Whole.ensures.whole.1; short = c.in-Whole.ensures.whole.0 }) in
    c.run_scenario.ensures.cut_short _ _ input e

pub returns-in-TooLong-clause-cut_short : goal.returns-in-TooLong-clause-cut_short
returns-in-TooLong-clause-cut_short g c e =
    in_fault _ (inl (c.in-TooLong.ensures.too_long cc, refl)) (c.write_fault.ensures.front (not_faulty c.write_fault.result e))
