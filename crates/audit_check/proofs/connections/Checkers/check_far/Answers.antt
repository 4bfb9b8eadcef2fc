use Rattle.std.proofs.Common.{ℕ, arith, subst, ◌∙◌, sym, rules}
use Rattle.std.specs.BTreeMap.{BTreeMap}
use Rattle.call_history.specs.Legal.{trace_of}
use Rattle.audit_rules.specs.declared.checker.Checker.{Checker}
use Rattle.audit_check.specs.States.{KnowsAll}
use Rattle.audit_check.proofs.Known.{behind-short, far_more, in_map, known_by, none_map}
use Rattle.audit_check.proofs.connections.Checkers.check_far.Goals as goal

pub check-requires-clause-knowing : goal.check-requires-clause-knowing
check-requires-clause-knowing c =
    let T = c.args.table.now in
    let conn = c.args.next.conn in
    let h = c.requires.known.0 in
    let found = c.in-Some.ensures.value ∙ sym (in_map c.args.self.now.near.items _ conn c.requires.far) in
    let known = known_by T c.args.self.now.limit conn (trace_of conn h) _ c.in-Some.checker.now found (c.requires.known.1.knows conn) in
    (trace_of conn h, known.0, omega (arith, behind-short conn h, c.requires.known.2))

pub returns-in-Some-clause-knows : goal.returns-in-Some-clause-knows
returns-in-Some-clause-knows c h known =
    let T = c.args.table.now in
    let conn = c.args.next.conn in
    let limit = c.args.self.now.limit in
    let near = c.args.self.now.near.items in
    let found = c.in-Some.ensures.value ∙ sym (in_map near _ conn c.requires.far) in
    let here = known_by T limit conn (trace_of conn h) _ c.in-Some.checker.now found (known.knows conn) in
    let after = c.check.new.self in
    none_map c.check.result
    (λ k. record {
      knows = far_more T limit h c.args.next near c.args.self.now.far (c.get_mut.follows.lender after) after known.knows c.requires.far
          ((c.get_mut.follows.holds after).3 (search rules)) k (c.check.ensures.same T ∙ here.1);
      few = known.few;
    })
    (c.check.ensures.knows (trace_of conn h) here.0)

pub returns-in-None-clause-knows : goal.returns-in-None-clause-knows
returns-in-None-clause-knows c h known =
    let now = c.args.self.now in
    let P : BTreeMap ℕ Checker → Type 0 = λ far. KnowsAll c.args.table.now h (record { limit = now.limit; near = now.near; far = far }) in
    c.check_first.ensures.knows h (subst P (sym c.get_mut.follows.holds-at-none) known)
