use Rattle.link_handshake.proofs.OneGreeting.{bound-or-not, unbound-once}
use Rattle.link_handshake.proofs.laws.binding_is_unique.Goals as goal

pub returns-clause-never_both : goal.returns-clause-never_both
returns-clause-never_both c =
    bound-or-not c.split_is_unique.ensures.one_end c.split_is_unique.ensures.once c.hello_is_unique.ensures.once c.hello_is_unique.ensures.bad_once
    c.hello_is_unique.ensures.never_both c.agreement_is_decided.ensures.never_both c.agreement_is_decided.ensures.once

pub returns-clause-once : goal.returns-clause-once
returns-clause-once c =
    unbound-once c.split_is_unique.ensures.one_end c.split_is_unique.ensures.once c.hello_is_unique.ensures.once c.hello_is_unique.ensures.bad_once
    c.hello_is_unique.ensures.never_both c.agreement_is_decided.ensures.never_both c.agreement_is_decided.ensures.once
