use Rattle.std.proofs.Common.{◌==◌, if◌then◌else◌, ℕ, List, unwrap_or, Option, ap, ◌∙◌, subst}
use Rattle.std.specs.BTreeMap.{get, insert_entry}
use Rattle.std.specs.Ordering.{nat_cmp}
use Rattle.telemetry.specs.declared.counts.Counts.{Counts}
use Rattle.telemetry.specs.Counts.{no_counts, plus}
use Rattle.telemetry.specs.Totals.{counts_in}
use Rattle.telemetry.proofs.Merging.{IsMerging, inserted_at, merge_more, sum_fits}
use Rattle.telemetry.proofs.totals.merged.Goals as goal

pub plus-sum-requires : goal.plus-sum-requires
plus-sum-requires c =
    let merging = subst (λ (left : List (ℕ × Counts)). IsMerging c.args.counts.now.entries c.args.others.now.entries
    c.loop-method.merged.entries left) c.in-Some.ensures.steps c.loop-method.invariant in
    rw c.counts_of.ensures (sum_fits c.args.counts.now.entries c.args.others.now.entries c.loop-method.merged.entries
    c.next.new.self c.in-Some.method.now c.in-Some.more.now merging c.requires)

pub loop-method-preserved : goal.loop-method-preserved
loop-method-preserved c =
    let merging = subst (λ (left : List (ℕ × Counts)). IsMerging c.args.counts.now.entries c.args.others.now.entries
    c.loop-method.merged.entries left) c.in-Some.ensures.steps c.loop-method.invariant in
    let value = c.plus-sum.ensures ∙ ap (λ (v : Counts). plus v c.in-Some.more.now) c.counts_of.ensures in
    let is = c.in_ok-insert.ensures.entries ∙ ap (λ (v : Counts). insert_entry nat_cmp c.loop-method.merged.entries c.in-Some.method.now v) value in
    let updates = c.in_ok-insert.ensures.updates in
    merge_more c.args.counts.now.entries c.args.others.now.entries c.loop-method.merged.entries c.next.new.self
    c.insert.new.self.entries c.in-Some.method.now c.in-Some.more.now merging is c.in_ok-insert.ensures.ordered
    (λ m. ap (λ (o : Option Counts). unwrap_or o no_counts) (updates.0 m)
    ∙ inserted_at c.in-Some.method.now m c.plus-sum.result (get nat_cmp c.loop-method.merged m)
    ∙ ap (λ (v : Counts). if m == c.in-Some.method.now then v else counts_in c.loop-method.merged.entries m) value)
