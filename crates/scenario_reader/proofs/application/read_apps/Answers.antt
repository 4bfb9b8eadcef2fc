use Rattle.std.proofs.Common.{◌+◌, [], List, All, length, map, sum, take, drop, refl, sym, ap, ◌∙◌, subst, arith}
use Rattle.std.proofs.lemmas.List.Elements.{All-nil, All-push}
use Rattle.run_plan.specs.declared.application.Application.{Application}
use Rattle.toml.specs.Data.{Members}
use Rattle.toml.specs.View.{table_view}
use Rattle.scenario.specs.Applications.{IsAppFault, entry_submissions}
use Rattle.scenario_lines.specs.Programs.{Each}
use Rattle.scenario_entries.specs.Entries.{AreFaultFree, views}
use Rattle.scenario_entries.specs.AppConnections.{IsAppConnectionOf}
use Rattle.scenario_entries.specs.declared.chain.ChainOutline.{ChainOutline}
use Rattle.scenario_entries.specs.declared.link.AppConnection.{AppConnection}
use Rattle.scenario_reader.specs.Joining.{AreJoined, IsApp, IsInitialChain}
use Rattle.scenario_reader.specs.Owning.{HasValidOwn}
use Rattle.scenario_reader.proofs.Growing.{both_longer, joined_more}
use Rattle.scenario_reader.proofs.Listing.{first_at, free_none, free_push, views_all, views_count, views_more, views_whole}
use Rattle.scenario_reader.proofs.application.read_apps.Goals as goal

pub loop-entry-init : goal.loop-entry-init
loop-entry-init c = record {
  numbered = refl;
  valid = subst (λ (xs : List Application). All HasValidOwn xs) (sym c.new-apps.ensures.applications) (All-nil HasValidOwn);
  chained =
      ap (λ (cs : List ChainOutline). length cs) c.new-apps.ensures.chains
      ∙ sym (ap (λ (xs : List Application). length xs) c.new-apps.ensures.applications);
  read = λ all T above. (
    free_none (IsAppFault all c.args.above.declared.now.policies),
    record {
      ports = subst (λ (ps : List AppConnection). Each IsAppConnectionOf [] ps) (sym c.new-apps.ensures.ports) tt;
      applications =
          subst (λ (xs : List Application). Each (IsApp all c.args.above.declared.now) [] xs) (sym c.new-apps.ensures.applications) tt;
      chains = subst (λ (cs : List ChainOutline). Each (λ ms chain. IsInitialChain c.args.above.declared.now.policies ms chain.entries.items) [] cs)
          (sym c.new-apps.ensures.chains) tt;
    },
    refl,
  );
}

pub returns-in-Err-clause-read : goal.returns-in-Err-clause-read
returns-in-Err-clause-read c = λ all T above.
    let entries = c.args.entries.now in
    let i = c.loop-entry.entry-index in
    let e = c.entry-item.result in
    let within = c.loop-entry-test.true in
    let so_far = c.loop-entry.invariant.read all T above in
    let count = views_count entries i e within c.entry-item.is in
    let on = subst (λ (ps : List AppConnection). Each IsAppConnectionOf (views (take i entries)) ps) (sym c.as_slice.ensures.value) so_far.1.ports in (
      c.loop-entry.number + 1,
      refl,
      first_at (IsAppFault all c.args.above.declared.now.policies) (views entries) (c.loop-entry.number + 1) (views (take i entries))
          (table_view e.now) (views (drop (i + 1) entries)) c.in-Err.reason (views_whole entries i e within c.entry-item.is)
          (omega (arith, c.loop-entry.invariant.numbered, count)) so_far.0
          (rw c.in-Err.is at (c.in_ok-joined.ensures.read all T (views (take i entries)) above on so_far.2)),
    )

pub loop-entry-preserved : goal.loop-entry-preserved
loop-entry-preserved c =
    let entries = c.args.entries.now in
    let i = c.loop-entry.entry-index in
    let e = c.entry-item.result in
    let j = c.in-Ok.joined in
    let within = c.loop-entry-test.true in
    let pushed = c.in_ok-push-in-Ok.ensures in
    let more = views_more entries i e within c.entry-item.is in
    record {
      numbered = omega (arith, c.loop-entry.invariant.numbered);
      valid =
          subst (λ (xs : List Application). All HasValidOwn xs) (sym pushed.applications)
          (All-push HasValidOwn c.loop-entry.apps.applications j.app c.loop-entry.invariant.valid (rw c.in-Ok.is at c.in_ok-joined.ensures.valid));
      chained = both_longer c.loop-entry.apps c.push.new.self j c.loop-entry.invariant.chained pushed.applications pushed.chains;
      read = λ all T above.
          let so_far = c.loop-entry.invariant.read all T above in
          let on = subst (λ (ps : List AppConnection). Each IsAppConnectionOf (views (take i entries)) ps) (sym c.as_slice.ensures.value) so_far.1.ports in
          let read = rw c.in-Ok.is at (c.in_ok-joined.ensures.read all T (views (take i entries)) above on so_far.2) in (
            subst (λ (vs : List Members). AreFaultFree (IsAppFault all c.args.above.declared.now.policies) vs) (sym more)
                (free_push (IsAppFault all c.args.above.declared.now.policies) (views (take i entries)) (table_view e.now) so_far.0 read.0),
            subst (λ (vs : List Members). AreJoined all c.args.above.declared.now vs c.push.new.self) (sym more)
                (joined_more all c.args.above.declared.now (views (take i entries)) (table_view e.now) c.loop-entry.apps c.push.new.self j so_far.1
                read.1 pushed.ports pushed.applications pushed.chains),
            read.1.submitted ∙ ap (λ (vs : List Members). sum (map entry_submissions vs)) (sym more),
          );
    }

pub returns-clause-read : goal.returns-clause-read
returns-clause-read c = λ all T above.
    let entries = c.args.entries.now in
    let i = c.loop-entry.entry-index in
    let so_far = c.loop-entry.invariant.read all T above in
    let same = views_all entries i c.loop-entry-test.false in (
      subst (λ (vs : List Members). AreFaultFree (IsAppFault all c.args.above.declared.now.policies) vs) same so_far.0,
      subst (λ (vs : List Members). AreJoined all c.args.above.declared.now vs c.loop-entry.apps) same so_far.1,
    )
