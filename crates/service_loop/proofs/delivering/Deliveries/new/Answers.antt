use Rattle.std.proofs.Common.{◌++◌, [], IsPermutation, refl, subst, sym}
use Rattle.std.proofs.lemmas.List.Sorted.{IsPermutation-refl}
use Rattle.service_loop.proofs.Delivered.{delivered-none, neither, told-none-yet}
use Rattle.service_loop.proofs.delivering.Deliveries.new.Goals as goal

pub returns-clause-delivered : goal.returns-clause-delivered
returns-clause-delivered c life lived none =
    delivered-none life _ lived none
    (told-none-yet c.args.arrivals.writer.heap _ c.new.ensures.items c.requires.new_rings.0 c.requires.new_rings.1 refl
    refl c.requires.one_heap)
    (record {
      counting = record { taken = c.requires.new_rings.2; count = refl; closed = sym c.requires.new_rings.3 };
      split = subst (λ xs. IsPermutation [] (xs ++ [])) (sym c.new-2.ensures.items) (IsPermutation-refl []);
    })
    c.requires.none_held c.requires.few (neither c.args.rings.notices c.args.rings.blocks)
