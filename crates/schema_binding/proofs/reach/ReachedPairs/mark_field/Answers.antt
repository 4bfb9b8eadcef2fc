use Rattle.std.proofs.Common.{length, sym}
use Rattle.std.proofs.lemmas.List.Elements.{All-contains}
use Rattle.std.proofs.lemmas.Result.{on_ok_weaker}
use Rattle.mrpc_table.specs.Valid.{IsField}
use Rattle.schema_binding.specs.Places.{AreOfType, IsShared}
use Rattle.schema_binding.proofs.Order.{field_known}
use Rattle.schema_binding.proofs.Reaching.{gains_for}
use Rattle.schema_binding.proofs.reach.ReachedPairs.mark_field.Goals as goal

pub mark_type-requires-clause-their : goal.mark_type-requires-clause-their
mark_type-requires-clause-their c =
    let known = c.in-Some.known.now in
    let found = field_known c.args.other.now.fields c.args.field.now.number known (sym c.in-Some.ensures) in
    let is : IsField c.args.theirs.now (length c.args.other.now.oneofs) known =
    All-contains (IsField c.args.theirs.now (length c.args.other.now.oneofs)) c.args.other.now.fields known c.requires.other.fields found.has in
    is.kind

pub returns-in-Some-clause-gains : goal.returns-in-Some-clause-gains
returns-in-Some-clause-gains c =
    let T = c.args.ours.now in
    let U = c.args.theirs.now in
    let field = c.args.field.now in
    let known = c.in-Some.known.now in
    on_ok_weaker c.mark_type.result
    (λ g. gains_for T U c.args.self.now c.mark_type.new.self (AreOfType T U field.kind known.kind) (IsShared T U field c.args.other.now)
    (λ type t. record { known = known; is = sym c.in-Some.ensures; types = t }) g)
    c.mark_type.ensures.gains
