use Rattle.std.proofs.Common.{◌≡◌, ℕ, List, [], ◌∷◌, arith, refl, ap, sym, subst, length, length-append, slice_get}
use Rattle.audit_rules.specs.CheckerState.{checker_context}
use Rattle.audit_rules.specs.declared.checker.Checker.{Checker}
use Rattle.audit_check.specs.Checking.{context_on}
use Rattle.audit_check.specs.States.{KnowsOn}
use Rattle.audit_check.proofs.Known.{all_open, open_more}
use Rattle.audit_check.proofs.connections.Checkers.new.Goals as goal

pub loop-conn-init : goal.loop-conn-init
loop-conn-init c = record {
  many = ap length c.new-near.ensures.items;
  knows = λ T conn. let P : List Checker → Type 0 = λ cs. KnowsOn T c.args.limit conn [] (slice_get cs conn) in subst P (sym c.new-near.ensures.items) refl;
}

pub loop-conn-preserved : goal.loop-conn-preserved
loop-conn-preserved c =
    let inv = c.loop-conn.invariant in
    let near = c.loop-conn.near.items in
    let checker = c.in_ok-checker.checker in
    record {
      many = omega (arith, inv.many, ap length c.in_ok-push.ensures.items, length-append near (checker ∷ []));
      knows = λ T.
          let P : List Checker → Type 0 = λ cs. (conn : ℕ) → KnowsOn T c.args.limit conn [] (slice_get cs conn) in
          let judges = subst (λ (q : ℕ). checker_context T checker ≡ context_on T c.args.limit q) (sym inv.many) (c.in_ok-checker.ensures.conn T) in
          subst P (sym c.in_ok-push.ensures.items) (open_more T c.args.limit near checker (inv.knows T) (c.in_ok-checker.ensures.knows T) judges);
    }

pub returns-clause-knows : goal.returns-clause-knows
returns-clause-knows c T =
    let inv = c.loop-conn.invariant in
    record { knows = all_open T c.args.limit c.loop-conn.near.items c.new-far.result c.new-far.ensures.empty (inv.knows T); few = omega (arith, inv.many) }
