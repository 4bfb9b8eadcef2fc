use Rattle.std.proofs.Common.{◌+◌, ◌++◌, ◌∷◌, [], List, take, drop, refl, sym, subst, arith}
use Rattle.run_plan.specs.declared.plan.LinkPlan.{LinkPlan}
use Rattle.toml.specs.Data.{Members}
use Rattle.toml.specs.View.{table_view}
use Rattle.scenario_lines.specs.Programs.{Each}
use Rattle.scenario.specs.Applications.{IsLinkFault}
use Rattle.scenario.specs.Scenarios.{IsLinkMeaning}
use Rattle.scenario_entries.specs.Entries.{AreFaultFree, views}
use Rattle.scenario_entries.proofs.Lists.{each_push}
use Rattle.scenario_entries.proofs.Listing.{first_at, free_push, views_all, views_count, views_more, views_whole}
use Rattle.scenario_entries.proofs.link.read_links.Goals as goal

pub returns-in-Err : goal.returns-in-Err
returns-in-Err c = λ all on.
    let entries = c.args.entries.now in
    let i = c.loop-entry.entry-index in
    let e = c.entry-item.result in
    let within = c.loop-entry-test.true in
    let so_far = c.loop-entry.invariant.read all on in
    let behind = subst (λ (ls : List LinkPlan). Each IsLinkMeaning (views (take i entries)) ls) (sym c.as_slice.ensures) so_far.1 in
    let count = views_count entries i e within c.entry-item.is in (
      c.loop-entry.number + 1,
      refl,
      first_at (IsLinkFault all) (views entries) (c.loop-entry.number + 1) (views (take i entries)) (table_view e.now) (views (drop (i + 1) entries))
          c.in-Err.reason (views_whole entries i e within c.entry-item.is) (omega (arith, c.loop-entry.invariant.numbered, count)) so_far.0
          (c.in-Err.ensures all (views (take i entries)) on behind),
    )

pub loop-entry-preserved : goal.loop-entry-preserved
loop-entry-preserved c = record {
  numbered = omega (arith, c.loop-entry.invariant.numbered);
  read = λ all on.
      let entries = c.args.entries.now in
      let i = c.loop-entry.entry-index in
      let e = c.entry-item.result in
      let within = c.loop-entry-test.true in
      let so_far = c.loop-entry.invariant.read all on in
      let behind = subst (λ (ls : List LinkPlan). Each IsLinkMeaning (views (take i entries)) ls) (sym c.as_slice.ensures) so_far.1 in
      let read = c.in-Ok.ensures all (views (take i entries)) on behind in
      let more = views_more entries i e within c.entry-item.is in (
        subst (λ (vs : List Members). AreFaultFree (IsLinkFault all) vs) (sym more)
            (free_push (IsLinkFault all) (views (take i entries)) (table_view e.now) so_far.0 read.0),
        subst (λ (vs : List Members). Each IsLinkMeaning vs c.push.new.self) (sym more)
            (subst (λ (ls : List LinkPlan). Each IsLinkMeaning (views (take i entries) ++ table_view e.now ∷ []) ls) (sym c.in_ok-push-in-Ok.ensures.ok)
            (each_push IsLinkMeaning (views (take i entries)) c.loop-entry.links (table_view e.now) c.in-Ok.link so_far.1 read.1)),
      );
}

pub returns : goal.returns
returns c = λ all on.
    let entries = c.args.entries.now in
    let i = c.loop-entry.entry-index in
    let so_far = c.loop-entry.invariant.read all on in
    let same = views_all entries i c.loop-entry-test.false in (
      subst (λ (vs : List Members). AreFaultFree (IsLinkFault all) vs) same so_far.0,
      subst (λ (vs : List Members). Each IsLinkMeaning vs c.loop-entry.links) same so_far.1,
    )
