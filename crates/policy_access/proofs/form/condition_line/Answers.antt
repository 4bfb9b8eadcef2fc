use Rattle.policy_access.proofs.form.condition_line.Goals as goal

pub returns-in-Some : goal.returns-in-Some
returns-in-Some c =
    let rest = c.in-Some.ensures.more in
    rw (c.in-Some.ensures.words, rest.2) (c.compares.ensures rest.0 rest.1 rest.2)
