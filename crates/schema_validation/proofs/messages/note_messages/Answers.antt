use Rattle.std.proofs.Common.{◌≡◌, ◌<◌, ℕ, List, length, sym, ap, subst, arith}
use Rattle.std.specs.Prelude.{Some, slice_get}
use Rattle.proto_ast.specs.Joined.{Joined}
use Rattle.proto_ast.specs.declared.joined.Enclosing.TheVariants as home
use Rattle.schema_symbols.specs.Scopes.{IsScope}
use Rattle.schema_validation.specs.Members.{IsMessageViolation}
use Rattle.schema_validation.specs.Recording.{HasRecorded, IsMessageViolationAt}
use Rattle.schema_validation.proofs.Formed.{stand_behind, message_file}
use Rattle.schema_validation.proofs.Judging.{meets_message_in}
use Rattle.schema_validation.proofs.Meetings.{meets_start, meets_next, meets_elements, item_at}
use Rattle.schema_validation.proofs.messages.note_messages.Goals as goal

pub loop-i-init : goal.loop-i-init
loop-i-init c = meets_start _ _

pub note_message-requires-clause-file : goal.note_message-requires-clause-file
note_message-requires-clause-file c =
    let F = c.args.files.now in
    let i = c.loop-i.i in
    let m = c.index-messages-i.result in
    let l : i < length F.messages = omega (arith, ap length c.messages-messages.ensures, c.loop-i-test.true) in
    let at : slice_get F.messages i ≡ Some m =
    item_at c.messages-messages.result.now F.messages i m c.messages-messages.ensures l c.index-messages-i.is in
    subst (λ (G : Joined). m.file < length G.heads) (sym c.requires.scopes) (message_file F c.requires.formed i m at)

pub loop-i-preserved : goal.loop-i-preserved
loop-i-preserved c =
    let F = c.args.files.now in
    let i = c.loop-i.i in
    let m = c.index-messages-i.result in
    let l : i < length F.messages = omega (arith, ap length c.messages-messages.ensures, c.loop-i-test.true) in
    let at : slice_get F.messages i ≡ Some m =
    item_at c.messages-messages.result.now F.messages i m c.messages-messages.ensures l c.index-messages-i.is in
    let one = c.scope_is_determined.ensures.exists F (home.Message i) (stand_behind F c.requires.formed) l in
    let step : (scope : List (List ℕ)) → IsScope F (home.Message i) scope
    → HasRecorded (IsMessageViolation F m.file scope i m) c.loop-i.first c.note_message.new.first =
    subst (λ (G : Joined). (scope : List (List ℕ)) → IsScope G (home.Message i) scope
    → HasRecorded (IsMessageViolation G m.file scope i m) c.loop-i.first c.note_message.new.first) c.requires.scopes
    c.in_ok-note_message.ensures in
    meets_next F.messages (IsMessageViolationAt F) i m c.args.first.now c.loop-i.first c.note_message.new.first at
    c.loop-i.invariant
    (meets_message_in F i m one.0 c.loop-i.first c.note_message.new.first one.1
    (λ t h. c.scope_is_determined.ensures.one F (home.Message i) t one.0 h one.1) (step one.0 one.1))

pub returns : goal.returns
returns c =
    let xs = c.args.files.now.messages in
    let e : c.loop-i.i ≡ length xs =
    omega (arith, ap length c.messages-messages.ensures, c.loop-i-test.false, c.loop-i.auto.i-end) in
    meets_elements xs (IsMessageViolationAt c.args.files.now) c.loop-i.i _ _ e c.loop-i.invariant
