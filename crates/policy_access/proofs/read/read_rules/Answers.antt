use Rattle.std.proofs.Common.{◌≡◌, ◌∙◌, ap, sym, arith, List, ℕ, length}
use Rattle.std.proofs.lemmas.List.{length-map}
use Rattle.policy_access.specs.Lines.{access_line_of}
use Rattle.policy_access.specs.Reading.{names_of_rules}
use Rattle.policy_access.specs.LineContent.{judged_line}
use Rattle.policy_access.specs.declared.rule.Rule.{Rule}
use Rattle.policy_access.proofs.ReadLemmas.{fault-first, fault-last, default-at, read-next, names-next, says_so}
use Rattle.policy_access.proofs.read.read_rules.Goals as goal

pub returns-in-Err-clause-fault : goal.returns-in-Err-clause-fault
returns-in-Err-clause-fault c =
    let count : c.len.result ≡ length (names_of_rules c.loop-place.so_far.rules.items) = omega (arith, length-map c.loop-place.so_far.rules.items (λ (r : Rule). r.name), c.len.ensures) in
    let is = c.in_ok-reason.ensures (names_of_rules c.loop-place.so_far.rules.items) c.loop-place.invariant.names count
    ∙ ap (λ (l : List ℕ). judged_line c.args.table.now (names_of_rules c.loop-place.so_far.rules.items) (access_line_of l))
    c.as_slice.ensures in
    fault-first c.args.table.now c.args.lines.now c.loop-place.place c.loop-place.so_far.rules.items c.index-lines-place.result c.in-Err.reason c.at.result c.loop-place.invariant.read
    c.loop-place-test.true c.index-lines-place.is (sym is ∙ c.in-Err.is) c.at.ensures

pub returns-in-Ok-Default-clause-default : goal.returns-in-Ok-Default-clause-default
returns-in-Ok-Default-clause-default c =
    let count : c.len.result ≡ length (names_of_rules c.loop-place.so_far.rules.items) = omega (arith, length-map c.loop-place.so_far.rules.items (λ (r : Rule). r.name), c.len.ensures) in
    let is = c.in_ok-reason.ensures (names_of_rules c.loop-place.so_far.rules.items) c.loop-place.invariant.names count
    ∙ ap (λ (l : List ℕ). judged_line c.args.table.now (names_of_rules c.loop-place.so_far.rules.items) (access_line_of l))
    c.as_slice.ensures in
    default-at c.args.table.now c.args.lines.now c.loop-place.place c.loop-place.so_far.rules.items
    c.index-lines-place.result c.in-Ok-Default.allow c.loop-place-test.true c.index-lines-place.is
    (sym is ∙ c.in-Ok-Default.is ∙ ap says_so c.in-Ok-Default.field-0-is)

pub loop-place-preserved : goal.loop-place-preserved
loop-place-preserved c =
    let count : c.len.result ≡ length (names_of_rules c.loop-place.so_far.rules.items) = omega (arith, length-map c.loop-place.so_far.rules.items (λ (r : Rule). r.name), c.len.ensures) in
    let is = c.in_ok-reason.ensures (names_of_rules c.loop-place.so_far.rules.items) c.loop-place.invariant.names count
    ∙ ap (λ (l : List ℕ). judged_line c.args.table.now (names_of_rules c.loop-place.so_far.rules.items) (access_line_of l))
    c.as_slice.ensures in
    let more = c.in_ok-add-in-Ok-Rule.ensures in
    record {
      read = read-next c.args.table.now c.args.lines.now c.loop-place.place c.loop-place.so_far.rules.items
          c.add.new.self.rules.items c.index-lines-place.result c.in-Ok-Rule.rule c.loop-place.invariant.read
          c.loop-place-test.true c.index-lines-place.is (sym is ∙ c.in-Ok-Rule.is ∙ ap says_so c.in-Ok-Rule.field-0-is) more.rules;
      names = names-next c.loop-place.so_far.rules.items c.add.new.self.rules.items c.in-Ok-Rule.rule c.add.new.self.names more.rules
          (more.names (names_of_rules c.loop-place.so_far.rules.items) c.loop-place.invariant.names);
    }

pub returns-clause-fault : goal.returns-clause-fault
returns-clause-fault c =
    fault-last c.args.table.now c.args.lines.now c.loop-place.so_far.rules.items c.loop-place.place c.at-2.result
    c.loop-place.invariant.read (omega (arith, c.loop-place.invariant.read.within, c.loop-place-test.false))
    c.at-2.ensures
