use Rattle.std.proofs.Common.{◌≡◌, ℕ, arith, sym, subst, ◌∙◌, length, Some}
use Rattle.std.specs.BTreeMap.{Updates, get}
use Rattle.std.specs.Ordering.{nat_cmp}
use Rattle.audit_check.proofs.Known.{in_map, moved}
use Rattle.audit_check.proofs.connections.Checkers.gather.Goals as goal

pub loop-checker-preserved : goal.loop-checker-preserved
loop-checker-preserved c =
    let inv = c.loop-checker.invariant in
    let left = c.pop.new.self.items in
    let U : ℕ → Type 0 = λ q. Updates nat_cmp c.loop-checker.all c.put.new.all q (Some c.in-Some.checker) in
    let updates = subst U (let e : c.len.result ≡ length left = omega (arith, c.len.ensures, c.pop.new.self.ok.0) in e) c.in_ok-put.ensures in
    record {
      all = λ conn.
          moved c.loop-checker.near.items left c.loop-checker.all c.put.new.all c.in-Some.checker c.in-Some.ensures.items updates conn
          ∙ inv.all conn;
      few = omega (arith, inv.few, c.pop.ensures.len);
    }

pub returns : goal.returns
returns c conn =
    let inv = c.loop-checker.invariant in
    sym (in_map c.loop-checker.near.items (get nat_cmp c.loop-checker.all conn) conn (omega (arith, c.in_default.ensures.cases.0, c.loop-checker.near.ok.0))) ∙ inv.all conn
