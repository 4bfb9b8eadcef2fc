use Rattle.std.proofs.Common.{◌≡◌, length, arith}
use Rattle.std.proofs.lemmas.Bool.Decides.{nat_tests}
use Rattle.std.proofs.lemmas.Grind.{common_steps}
use Rattle.audit_rules.proofs.Telling.{told-all}
use Rattle.audit_rules.proofs.checker.Checker.are_all_listed.Goals as goal

pub returns : goal.returns
returns c = λ T past positions known.
    (let all = told-all T past positions c.args.self.now known in (
      λ is. all.1 (let same : c.args.self.now.told ≡ length c.args.self.now.calls = grind (arith, common_steps, nat_tests, is, c.len.ensures.count) in same),
      λ every. (let same : c.args.self.now.told ≡ length c.args.self.now.calls = all.0 every in grind (arith, common_steps, nat_tests, same, c.len.ensures.count)),
    ))
