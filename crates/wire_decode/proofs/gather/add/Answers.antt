use Rattle.std.proofs.Common.{◌∙◌, ap}
use Rattle.mrpc_table.specs.Node.{push_field}
use Rattle.mrpc_table.specs.View.{node_of, content_of}
use Rattle.wire_decode.proofs.Views.{node_of-last}
use Rattle.wire_decode.proofs.Adding.{added-next, added-same, added-at}
use Rattle.wire_decode.proofs.gather.add.Goals as goal

pub returns-in_ok-push-in-Some : goal.returns-in_ok-push-in-Some
returns-in_ok-push-in-Some c =
    let popped = c.pop.new.self.items in
    let front = node_of popped in
    let n = c.args.number in
    let old = ap node_of c.in-Some.ensures.items ∙ node_of-last popped (c.in-Some.last, c.in-Some.before)
    ∙ ap (λ m. push_field front m (content_of c.in-Some.before)) c.if-last-number.true in
    let new = ap node_of c.in_ok-push-in-Some.ensures.items ∙ node_of-last popped (n, c.in_ok-whole-in-Some.whole) in
    added-at c.args.form (node_of c.args.held.now.items) (push_field front n (content_of c.in-Some.before)) n
    (content_of c.args.content) (node_of c.push.new.self.items)
    (push_field front n (content_of c.in_ok-whole-in-Some.whole)) old new
    (added-same c.args.form front n (content_of c.in-Some.before) (content_of c.args.content) (content_of c.in_ok-whole-in-Some.whole) c.in_ok-whole-in-Some.ensures)

pub returns-in_ok-push-in-Some-3 : goal.returns-in_ok-push-in-Some-3
returns-in_ok-push-in-Some-3 c =
    let popped = c.pop.new.self.items in
    let front = node_of popped in
    let n = c.args.number in
    let m = c.in-Some.last in
    let old = ap node_of c.in-Some.ensures.items ∙ node_of-last popped (m, c.in-Some.before) in
    let back = ap node_of c.in_ok-push-in-Some-2.ensures.items ∙ node_of-last popped (m, c.in-Some.before) in
    let new = ap node_of c.in_ok-push-in-Some-3.ensures.items ∙ node_of-last c.push-else-last-number.new.self.items
    (n, c.args.content) ∙ ap (λ t. push_field t n (content_of c.args.content)) back in
    added-at c.args.form (node_of c.args.held.now.items) (push_field front m (content_of c.in-Some.before)) n
    (content_of c.args.content) (node_of c.push-else-last-number-2.new.self.items)
    (push_field (push_field front m (content_of c.in-Some.before)) n (content_of c.args.content)) old new
    (added-next c.args.form front m n (content_of c.in-Some.before) (content_of c.args.content) c.if-last-number.false)
