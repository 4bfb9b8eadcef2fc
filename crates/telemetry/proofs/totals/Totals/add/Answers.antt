use Rattle.std.proofs.Common.{List, ap, sym, ◌∙◌, subst, ◌+◌, ◌<◌, ◌^◌, ℕ}
use Rattle.std.specs.BTreeMap.{insert_entry}
use Rattle.std.specs.Ordering.{nat_cmp}
use Rattle.telemetry.specs.declared.counts.Counts.{Counts}
use Rattle.telemetry.specs.Counts.{count_named, one_more}
use Rattle.telemetry.specs.Totals.{sums_of}
use Rattle.telemetry.proofs.Adding.{one_more_fits, one_more_small, sums-added}
use Rattle.telemetry.proofs.totals.Totals.add.Goals as goal

pub one_more-counts-requires : goal.one_more-counts-requires
one_more-counts-requires c =
    let fits = subst (λ (t : List (ℕ × Counts)). count_named c.args.what (sums_of t) + 1 < 2 ^ 64) (sym c.self.view_is) c.requires in
    rw c.counts_of.ensures (one_more_fits c.self.inside.counts.entries c.args.method c.args.what fits)

pub invariant_of-self-2 : goal.invariant_of-self-2
invariant_of-self-2 c =
    let fits = subst (λ (t : List (ℕ × Counts)). count_named c.args.what (sums_of t) + 1 < 2 ^ 64) (sym c.self.view_is) c.requires in
    let value = c.one_more-counts.ensures ∙ ap (one_more c.args.what) c.counts_of.ensures in
    let is = c.in_ok-insert.ensures.entries ∙ ap (λ (v : Counts). insert_entry nat_cmp c.self.inside.counts.entries c.args.method v) value in
    let sums = ap sums_of is ∙ sums-added c.self.inside.counts.entries c.args.method c.args.what c.self.invariant.ascends in
    record {
      ascends = c.in_ok-insert.ensures.ordered;
      small = rw sums (one_more_small (sums_of c.self.inside.counts.entries) c.args.what c.self.invariant.small fits);
    }

pub returns-clause-sums : goal.returns-clause-sums
returns-clause-sums c =
    let value = c.one_more-counts.ensures ∙ ap (one_more c.args.what) c.counts_of.ensures in
    let is = c.in_ok-insert.ensures.entries ∙ ap (λ (v : Counts). insert_entry nat_cmp c.self.inside.counts.entries c.args.method v) value in
    rw (← c.self.view_is) (ap sums_of is ∙ sums-added c.self.inside.counts.entries c.args.method c.args.what c.self.invariant.ascends)
