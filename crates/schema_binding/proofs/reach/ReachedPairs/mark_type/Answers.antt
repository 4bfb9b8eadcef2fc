use Rattle.std.proofs.Common.{◌<◌, length, refl}
use Rattle.std.proofs.lemmas.Result.{on_ok_weaker}
use Rattle.mrpc_table.specs.Text.{message_name}
use Rattle.schema_binding.specs.Places.{AreOfType, IsPair}
use Rattle.schema_binding.proofs.Reaching.{mark_gains, of_both}
use Rattle.schema_binding.proofs.reach.ReachedPairs.mark_type.Goals as goal

pub returns-then-is_same_message-clause-gains : goal.returns-then-is_same_message-clause-gains
returns-then-is_same_message-clause-gains c =
    let T = c.args.ours.now in
    let U = c.args.theirs.now in
    let i = c.in-Message.left in
    let j = c.in-Message-their.right in
    let ours : i < length T.messages = rw c.in-Message.is at c.requires.our in
    let theirs : j < length U.messages = rw c.in-Message-their.is at c.requires.their in
    let pair : IsPair T U i j = record { ours = ours; theirs = theirs; same = c.if-is_same_message.ensures.0 refl } in
    let why : AreOfType T U c.args.our c.args.their (message_name T i) = rw (c.in-Message.is, c.in-Message-their.is) (of_both T U i j (c.if-is_same_message.ensures.0 refl)) in
    on_ok_weaker c.mark.result (λ m. mark_gains T U c.args.self.now c.mark.new.self i j (AreOfType T U c.args.our c.args.their) c.requires.paired pair why m) c.mark.ensures
