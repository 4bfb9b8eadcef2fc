use Rattle.std.proofs.Common.{List, ℕ, refl, ap, subst}
use mathlib.Core.List.{IsPrefix}
use Rattle.spsc_queue.specs.Readers.{delivered_by, popped_by, known_pushed_by}
use Rattle.link_queue.specs.declared.orders.News.TheVariants.{End, Failed}
use Rattle.link_queue.proofs.Pieces.{found_among, found_too, finds_all}
use Rattle.link_queue.proofs.queue_link.QueueLink.read.Goals as goal

pub invariant_of-self-in-Sentinel-End : goal.invariant_of-self-in-Sentinel-End
invariant_of-self-in-Sentinel-End g c =
    let inv = c.self.invariant.1 in
    let e = c.in-Sentinel-End.ensures in (
      c.self.invariant.0,
      record {
        ends = λ _. found_among End _ _ _ e.mark c.in-Sentinel-End.field-0-is;
        gave = λ _. e.all;
        fails = λ f. found_too Failed _ _ _ e.mark (inv.fails f);
        counts = inv.counts;
      },
    )

pub invariant_of-self-in-Sentinel-Failed : goal.invariant_of-self-in-Sentinel-Failed
invariant_of-self-in-Sentinel-Failed g c =
    let inv = c.self.invariant.1 in
    let e = c.in-Sentinel-Failed.ensures in (
      c.self.invariant.0,
      record {
        ends = λ h. found_too End _ _ _ e.mark (inv.ends h);
        gave = λ _. e.all;
        fails = λ _. found_among Failed _ _ _ e.mark c.in-Sentinel-Failed.field-0-is;
        counts = λ _. refl;
      },
    )

pub returns-in-Nothing-clause-idle : goal.returns-in-Nothing-clause-idle
returns-in-Nothing-clause-idle g c =
    let e = c.in-Nothing.ensures in
    λ _. subst (λ (t : List ℕ). IsPrefix t (delivered_by c.read.new.self)) (ap (λ v. v.told) c.self.view_is)
    (finds_all (known_pushed_by c.self.inside.incoming) (popped_by c.read.new.self) (delivered_by c.read.new.self) e.empty
    e.all)
