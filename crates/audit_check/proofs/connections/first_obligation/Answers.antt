use Rattle.std.proofs.Common.{◌≡◌, ℕ, List, [], ◌∷◌, ◌++◌, Contains, Some, map, append_assoc, ap, sym, ◌∙◌, subst}
use Rattle.std.specs.BTreeMap.{get}
use Rattle.std.specs.Map.Iter.{deref_pair}
use Rattle.std.specs.Ordering.{nat_cmp}
use Rattle.std.proofs.lemmas.List.{append-nil, map-append}
use Rattle.std.proofs.lemmas.List.Elements.{All-contains, Contains-append_left, Contains-push}
use Rattle.std.proofs.lemmas.Map.Iter.{rest_all, rest_more}
use Rattle.call_history.specs.Legal.{trace_of}
use Rattle.audit_rules.specs.declared.checker.Checker.{Checker}
use Rattle.audit_check.specs.States.{IsFirstObligationIn}
use Rattle.audit_check.proofs.Known.{known_by}
use Rattle.audit_check.proofs.Opens.{all_settled, first_of_all, one_more}
use Rattle.audit_check.proofs.connections.first_obligation.Goals as goal

pub loop-checker-preserved : goal.loop-checker-preserved
loop-checker-preserved c =
    let inv = c.loop-checker.invariant in
    let m = c.args.checkers.now in
    let conn = c.in-Some.field-0-0.now in
    let checker = c.in-Some.checker.now in
    let rest = rest_more deref_pair c.loop-checker.checker-iterator c.next.new.self c.next.result _ c.in-Some.is c.next.ensures.steps in
    let done : List (ℕ × Checker) = inv.0 ++ (conn, checker) ∷ [] in
    let whole : m.entries ≡ done ++ c.next.new.self =
    inv.1 ∙ ap (λ (l : List (ℕ × Checker)). inv.0 ++ l) rest ∙ sym (append_assoc inv.0 ((conn, checker) ∷ []) c.next.new.self) in
    let InEntries : List (ℕ × Checker) → Type 0 = λ entries. Contains entries (conn, checker) in
    let member = subst InEntries (sym whole) (Contains-append_left done c.next.new.self (conn, checker) (Contains-push inv.0 (conn, checker))) in
    let found : get nat_cmp m conn ≡ Some checker = All-contains (λ e. get nat_cmp m e.0 ≡ Some e.1) m.entries (
      conn,
      checker,
    ) c.into_iter-checker-iterator.ensures.into_iter_gives.6 member in (
      done,
      whole,
      λ T limit h known.
          let knows = known_by T limit conn (trace_of conn h) _ checker (sym found) (known conn) in
          let P : List ℕ → Type 0 = λ conns. IsFirstObligationIn h conns c.earlier-first.result in
          subst P (sym (map-append (λ e. e.0) inv.0 ((conn, checker) ∷ [])))
          (one_more h (map (λ e. e.0) inv.0) conn c.loop-checker.first c.first_obligation.result c.earlier-first.result c.earlier-first.ensures (inv.2 T limit h known)
          (c.first_obligation.ensures.settled T (trace_of conn h) knows.0) (c.first_obligation.ensures.open T (trace_of conn h) knows.0)),
    )

all_done : {X : Type 0} (entries done rest : List X) → entries ≡ done ++ rest → rest ≡ [] → done ≡ entries
all_done entries done rest e none = sym (e ∙ ap (λ l. done ++ l) none ∙ append-nil done)

pub returns-clause-settled : goal.returns-clause-settled
returns-clause-settled c T limit h known =
    let inv = c.loop-checker.invariant in
    let m = c.args.checkers.now in
    let none = rest_all deref_pair c.loop-checker.checker-iterator c.next.new.self c.next.result c.in-None.is c.next.ensures.steps in
    let done = all_done m.entries inv.0 c.loop-checker.checker-iterator inv.1 none in
    let P : List (ℕ × Checker) → Type 0 = λ entries. IsFirstObligationIn h (map (λ e. e.0) entries) c.loop-checker.first in
    all_settled T limit h m c.loop-checker.first known (subst P done (inv.2 T limit h known))

pub returns-clause-open : goal.returns-clause-open
returns-clause-open c T limit h known =
    let inv = c.loop-checker.invariant in
    let m = c.args.checkers.now in
    let none = rest_all deref_pair c.loop-checker.checker-iterator c.next.new.self c.next.result c.in-None.is c.next.ensures.steps in
    let done = all_done m.entries inv.0 c.loop-checker.checker-iterator inv.1 none in
    let P : List (ℕ × Checker) → Type 0 = λ entries. IsFirstObligationIn h (map (λ e. e.0) entries) c.loop-checker.first in
    first_of_all T limit h m c.loop-checker.first known (subst P done (inv.2 T limit h known))
