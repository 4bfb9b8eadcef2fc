use Rattle.std.proofs.Common.{List, ℕ, length, inr, ap, sym, ◌∙◌, arith, below_more}
use Rattle.mrpc_table.specs.Text.{message_name}
use Rattle.schema_binding.specs.Reach.{IsSameIn}
use Rattle.schema_binding.specs.declared.fault.AgreeFault.TheVariants.{Field}
use Rattle.schema_binding.proofs.Compared.{named}
use Rattle.schema_binding.proofs.Walks.{differs_first, differs_nowhere}
use Rattle.schema_binding.proofs.agreement.same_fields.Goals as goal

pub returns-in-Some-clause-differ : goal.returns-in-Some-clause-differ
returns-in-Some-clause-differ c =
    let T = c.args.ours.now in
    let our = c.loop-our.our in
    let number = c.in-Some.number in
    let is_named = named T our c.message-item.result c.as_slice-message-items.result.now c.as_slice-message-items.ensures
    (omega (arith, c.loop-our-test.true, ap length c.as_slice-message-items.ensures)) c.message-item.is in
    inr (
      message_name T our,
      number,
      differs_first T c.args.theirs.now c.args.service.now c.in_ok-reached.reached c.requires.ours c.requires.theirs
          c.in_ok-reached.ensures our number c.loop-our.invariant c.in-Some.ensures,
      ap (λ (name : List ℕ). Field name number) (c.in_ok-copied.ensures ∙ sym is_named),
    )

pub loop-our-preserved : goal.loop-our-preserved
loop-our-preserved c = below_more (IsSameIn c.args.ours.now c.args.theirs.now c.in_ok-reached.reached) c.loop-our.our c.loop-our.invariant c.in_default.ensures

pub returns-clause-same : goal.returns-clause-same
returns-clause-same c =
    differs_nowhere c.args.ours.now c.args.theirs.now c.args.service.now c.in_ok-reached.reached c.requires.ours c.requires.theirs c.in_ok-reached.ensures
    (λ k below. c.loop-our.invariant k (omega (arith, below, c.loop-our-test.false, ap length c.as_slice-message-items.ensures)))
