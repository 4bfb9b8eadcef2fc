use Rattle.std.proofs.Common.{refl, sym}
use Rattle.std.proofs.lemmas.Option.{none-some}
use Rattle.drill.proofs.laws.links_in_memory_meet.Goals as goal

pub returns-clause-met : goal.returns-clause-met
returns-clause-met g c a b to_b to_a = (
  record {
    given = b.given;
    known = refl;
    all_along = λ first later none. none-some first.given (sym none);
    in_order = to_b.in_order;
    whole = to_b.whole;
  },
  record {
    given = a.given;
    known = refl;
    all_along = λ first later none. none-some first.given (sym none);
    in_order = to_a.in_order;
    whole = to_a.whole;
  },
)

pub returns-clause-before : goal.returns-clause-before
returns-clause-before g c a b to_b to_a = (
  record {
    given = b.given;
    known = refl;
    all_along = λ first later none. none-some first.given (sym none);
    in_order = to_b.in_order;
    whole = to_b.whole;
  },
  record {
    given = a.given;
    known = refl;
    all_along = λ first later none. none-some first.given (sym none);
    in_order = to_a.in_order;
    whole = to_a.whole;
  },
)
