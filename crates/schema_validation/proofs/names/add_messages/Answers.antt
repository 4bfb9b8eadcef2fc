use Rattle.std.proofs.Common.{◌≡◌, ℕ, ◌<◌, length, sym, ap, subst, arith, below_more}
use Rattle.std.specs.Prelude.{Some, slice_get}
use Rattle.proto_ast.specs.Joined.{Joined, enclosing_of}
use Rattle.proto_ast.specs.declared.joined.Enclosing.TheVariants as home
use Rattle.schema_symbols.specs.Numbers.{IsEnclosing}
use Rattle.schema_validation.specs.Entries.{IsEntryOfMessage, HasAddedEntries, HasNumber, HaveOwnNumbers, entries_of}
use Rattle.schema_validation.proofs.Meetings.{item_at}
use Rattle.schema_validation.proofs.Formed.{message_place}
use Rattle.schema_validation.proofs.EntryLists.{adds_next, adds_all, numbers_next, numbers_all}
use Rattle.schema_validation.proofs.names.add_messages.Goals as goal

pub add_message-requires-clause-home : goal.add_message-requires-clause-home
add_message-requires-clause-home c =
    let F = c.args.files.now in
    let m = c.index-messages-i.result in
    let l : c.loop-i.i < length F.messages = omega (arith, ap length c.messages-messages.ensures, c.loop-i-test.true) in
    let at : slice_get F.messages c.loop-i.i ≡ Some m =
    item_at c.messages-messages.result.now F.messages c.loop-i.i m
    c.messages-messages.ensures l c.index-messages-i.is in
    subst (λ (G : Joined). IsEnclosing G (enclosing_of m)) (sym c.requires.scopes)
    (message_place F c.requires.behind c.loop-i.i m at)

pub loop-i-preserved : goal.loop-i-preserved
loop-i-preserved c =
    let F = c.args.files.now in
    let m = c.index-messages-i.result in
    let l : c.loop-i.i < length F.messages = omega (arith, ap length c.messages-messages.ensures, c.loop-i-test.true) in
    let at : slice_get F.messages c.loop-i.i ≡ Some m =
    item_at c.messages-messages.result.now F.messages c.loop-i.i m
    c.messages-messages.ensures l c.index-messages-i.is in
    record {
      outer = numbers_next F F.messages enclosing_of c.loop-i.i m at c.loop-i.invariant.outer
          (subst (λ (G : Joined). (k : ℕ) × HasNumber G (enclosing_of m) k) c.requires.scopes
          c.in_ok-add_message.ensures.outer);
      own = below_more _ _ c.loop-i.invariant.own
          (subst (λ (G : Joined). (k : ℕ) × HasNumber G (home.Message c.loop-i.i) k) c.requires.scopes
          c.in_ok-add_message.ensures.own);
      names = adds_next F.messages (IsEntryOfMessage F) c.loop-i.i m _ _ _ at c.loop-i.invariant.names
          (subst (λ (G : Joined). HasAddedEntries (IsEntryOfMessage G c.loop-i.i m)
          (entries_of c.loop-i.names.items) (entries_of c.add_message.new.names.items))
          c.requires.scopes c.in_ok-add_message.ensures.names);
    }

pub returns-clause-outer : goal.returns-clause-outer
returns-clause-outer c =
    let F = c.args.files.now in
    let e : c.loop-i.i ≡ length F.messages =
    omega (arith, ap length c.messages-messages.ensures, c.loop-i-test.false, c.loop-i.auto.i-end) in
    numbers_all F F.messages enclosing_of c.loop-i.i e c.loop-i.invariant.outer

pub returns-clause-own : goal.returns-clause-own
returns-clause-own c =
    let F = c.args.files.now in
    let e : c.loop-i.i ≡ length F.messages =
    omega (arith, ap length c.messages-messages.ensures, c.loop-i-test.false, c.loop-i.auto.i-end) in
    subst (HaveOwnNumbers F) e c.loop-i.invariant.own

pub returns-clause-names : goal.returns-clause-names
returns-clause-names c =
    let F = c.args.files.now in
    let e : c.loop-i.i ≡ length F.messages =
    omega (arith, ap length c.messages-messages.ensures, c.loop-i-test.false, c.loop-i.auto.i-end) in
    adds_all F.messages (IsEntryOfMessage F) c.loop-i.i _ _ e c.loop-i.invariant.names
