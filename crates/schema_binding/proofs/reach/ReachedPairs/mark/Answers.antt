use Rattle.std.proofs.Common.{◌≡◌, true, false, refl}
use Rattle.std.specs.Prelude.{is_some}
use Rattle.schema_binding.proofs.Reaching.{partner_is, not_marked, marked_again, marks_new}
use Rattle.schema_binding.proofs.reach.ReachedPairs.mark.Goals as goal

pub returns-then-is_some : goal.returns-then-is_some
returns-then-is_some c =
    let some : is_some c.index.result.now ≡ true = cc in
    marked_again c.args.self.now c.args.our c.args.their c.index.result.now (partner_is c.args.self.now c.args.our c.index.result.now c.requires c.index.ensures) some

pub returns : goal.returns
returns c =
    let none : is_some c.index.result.now ≡ false = cc in
    marks_new c.args.self.now _ c.args.our c.args.their c.requires
    (not_marked c.args.self.now c.args.our c.index.result.now (partner_is c.args.self.now c.args.our c.index.result.now c.requires c.index.ensures) none)
    refl c.in_ok-push.ensures.items
