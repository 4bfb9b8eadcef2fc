use Rattle.audit_text.proofs.Fronts.{brief-told}
use Rattle.audit_text.proofs.short_line.read_happening_ref.Goals as goal

pub returns-clause-told : goal.returns-clause-told
returns-clause-told c = λ T declared.
    (let told = c.in_ok-what.ensures T declared in
    brief-told T c.in_ok-conn.conn c.in_ok-kind.kind c.in_ok-what.what c.args.text.now c.in_ok-kind.rest.now c.in_ok-conn.rest.now
    c.in_ok-what.rest.now told.1 c.in_ok-kind.ensures c.in_ok-conn.ensures.1 told.2)

pub returns-clause-writable : goal.returns-clause-writable
returns-clause-writable c = λ T declared.
    record { conn = c.in_ok-conn.ensures.0; told = (c.in_ok-what.ensures T declared).0 }
