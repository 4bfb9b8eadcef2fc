use Rattle.std.proofs.Common.{◌+◌, ◌++◌, ◌∷◌, [], List, take, drop, refl, sym, subst, arith}
use Rattle.run_plan.specs.declared.operator.Operator.{Operator}
use Rattle.toml.specs.Data.{Members}
use Rattle.toml.specs.View.{table_view}
use Rattle.scenario.specs.Operators.{IsOperatorFault}
use Rattle.scenario.specs.Scenarios.{IsOperatorMeaning}
use Rattle.scenario_lines.specs.Programs.{Each}
use Rattle.scenario_entries.specs.Entries.{AreFaultFree, views}
use Rattle.scenario_reader.proofs.Lists.{each_push}
use Rattle.scenario_reader.proofs.Listing.{first_at, free_push, views_all, views_count, views_more, views_whole}
use Rattle.scenario_reader.proofs.operator.read_operators.Goals as goal

pub returns-in-Err : goal.returns-in-Err
returns-in-Err c = λ all T above joined distinct.
    let entries = c.args.entries.now in
    let i = c.loop-entry.entry-index in
    let e = c.entry-item.result in
    let within = c.loop-entry-test.true in
    let so_far = c.loop-entry.invariant.read all T above joined distinct in
    let behind = subst (λ (os : List Operator). Each (IsOperatorMeaning all) (views (take i entries)) os) (sym c.as_slice.ensures) so_far.1 in
    let count = views_count entries i e within c.entry-item.is in (
      c.loop-entry.number + 1,
      refl,
      first_at (IsOperatorFault all c.args.above.declared.now.policies) (views entries) (c.loop-entry.number + 1) (views (take i entries))
          (table_view e.now) (views (drop (i + 1) entries)) c.in-Err.reason (views_whole entries i e within c.entry-item.is)
          (omega (arith, c.loop-entry.invariant.numbered, count)) so_far.0
          (rw c.in-Err.is at (c.in_ok-operator.ensures all T (views (take i entries)) above joined distinct behind)),
    )

pub loop-entry-preserved : goal.loop-entry-preserved
loop-entry-preserved c = record {
  numbered = omega (arith, c.loop-entry.invariant.numbered);
  read = λ all T above joined distinct.
      let entries = c.args.entries.now in
      let i = c.loop-entry.entry-index in
      let e = c.entry-item.result in
      let within = c.loop-entry-test.true in
      let so_far = c.loop-entry.invariant.read all T above joined distinct in
      let behind = subst (λ (os : List Operator). Each (IsOperatorMeaning all) (views (take i entries)) os) (sym c.as_slice.ensures) so_far.1 in
      let read = rw c.in-Ok.is at (c.in_ok-operator.ensures all T (views (take i entries)) above joined distinct behind) in
      let more = views_more entries i e within c.entry-item.is in (
        subst (λ (vs : List Members). AreFaultFree (IsOperatorFault all c.args.above.declared.now.policies) vs) (sym more)
            (free_push (IsOperatorFault all c.args.above.declared.now.policies) (views (take i entries)) (table_view e.now) so_far.0 read.0),
        subst (λ (vs : List Members). Each (IsOperatorMeaning all) vs c.push.new.self) (sym more)
            (subst (λ (os : List Operator). Each (IsOperatorMeaning all) (views (take i entries) ++ table_view e.now ∷ []) os)
            (sym c.in_ok-push-in-Ok.ensures.ok)
            (each_push (IsOperatorMeaning all) (views (take i entries)) c.loop-entry.operators (table_view e.now) c.in-Ok.operator so_far.1 read.1)),
      );
}

pub returns : goal.returns
returns c = λ all T above joined distinct.
    let entries = c.args.entries.now in
    let i = c.loop-entry.entry-index in
    let so_far = c.loop-entry.invariant.read all T above joined distinct in
    let same = views_all entries i c.loop-entry-test.false in (
      subst (λ (vs : List Members). AreFaultFree (IsOperatorFault all c.args.above.declared.now.policies) vs) same so_far.0,
      subst (λ (vs : List Members). Each (IsOperatorMeaning all) vs c.loop-entry.operators) same so_far.1,
    )
