use Rattle.std.proofs.Common.{◌≡◌, ◌∙◌, ap, arith, List, ℕ, length}
use Rattle.std.proofs.lemmas.List.{length-map}
use Rattle.policy_access.specs.Lines.{access_line_of}
use Rattle.policy_access.specs.Reading.{names_of_rules}
use Rattle.policy_access.specs.LineContent.{judged_line, reason_after_default}
use Rattle.policy_access.specs.declared.rule.Rule.{Rule}
use Rattle.policy_access.proofs.ReadLemmas.{text-at, fault-next}
use Rattle.policy_access.proofs.read.finish.Goals as goal

pub returns-in_ok-into_access-in-None-clause-accepted : goal.returns-in_ok-into_access-in-None-clause-accepted
returns-in_ok-into_access-in-None-clause-accepted c =
    text-at c.args.table.now c.args.lines.now c.args.place c.args.so_far.rules.items c.args.allow c.in_ok-into_access-in-None.field-0 c.requires.read c.requires.default
    c.in-None.ensures.lookup.3 c.in_ok-into_access-in-None.ensures.0 c.in_ok-into_access-in-None.ensures.1

pub returns-in_ok-reason-in-Some-clause-fault : goal.returns-in_ok-reason-in-Some-clause-fault
returns-in_ok-reason-in-Some-clause-fault c =
    let count : c.len.result ≡ length (names_of_rules c.args.so_far.rules.items) = omega (arith, length-map c.args.so_far.rules.items (λ (r : Rule). r.name), c.len.ensures) in
    let stands = c.in_ok-reason-in-Some.ensures (names_of_rules c.args.so_far.rules.items) c.requires.names count
    ∙ ap (λ (l : List ℕ).
    reason_after_default (judged_line c.args.table.now (names_of_rules c.args.so_far.rules.items) (access_line_of l))) c.as_slice.ensures
    in
    fault-next c.args.table.now c.args.lines.now c.args.place c.args.so_far.rules.items c.args.allow
    c.in-Some.line.now c.in_ok-reason-in-Some.reason c.at.result c.requires.read c.requires.default
    c.in-Some.ensures.lookup.3.0 c.in-Some.ensures.lookup.1 stands c.at.ensures
