use Rattle.schema_validation.proofs.names.number_in.Goals as goal

pub returns-clause-has : goal.returns-clause-has
returns-clause-has c =
    let s = c.scope_is_determined.ensures.exists c.args.scopes.now c.args.home c.requires.behind c.requires.place in
    record { full = s.0; is_scope = s.1; number = c.number.ensures s.0 s.1 }

pub returns-clause-one : goal.returns-clause-one
returns-clause-one c k has =
    c.scope_number_is_unique.ensures.number c.args.scopes.now has.full k c.number.result has.number
    (c.number.ensures has.full has.is_scope)
