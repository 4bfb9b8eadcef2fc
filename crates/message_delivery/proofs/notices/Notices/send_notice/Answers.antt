use Rattle.std.proofs.Common.{◌≡◌, ap, sym, ◌∙◌, refl, [], ◌∷◌, ◌++◌, subst, IfSome, arith}
use Rattle.message_delivery.specs.Noticing.{sent_on}
use Rattle.message_delivery.proofs.Reclaiming.{ok-of}
use Rattle.message_delivery.proofs.Told.{few-sent, first-is, front-is, gave}
use Rattle.message_delivery.proofs.notices.Notices.send_notice.Goals as goal

pub notice-requires : goal.notice-requires
notice-requires g c =
    first-is c.args.writer.now.heap c.requires.telling.0 c.args.self.now c.in-Some.message _ c.requires.telling.1
    (front-is c.args.self.now.waiting.items c.front.result c.in-Some.message _ c.front.ensures.variant
    (let ok = c.args.self.now.waiting.ok in omega (arith, ok))
    c.front.ensures.lookup (sym c.copied.ensures ∙ c.in-Some.is))

pub send-requires-clause-few : goal.send-requires-clause-few
send-requires-clause-few g c =
    few-sent c.args.writer.now.heap c.requires.telling.0 c.args.self.now c.in-Some-notices.notices c.requires.telling.1
    c.in-Some-notices.is

pub returns-clause-telling : goal.returns-clause-telling
returns-clause-telling g c placed h =
    gave c.args.writer.now.heap placed c.args.self.now _ c.in-Some.message c.notice.result h
    (front-is c.args.self.now.waiting.items c.front.result c.in-Some.message _ c.front.ensures.variant
    (let ok = c.args.self.now.waiting.ok in omega (arith, ok))
    c.front.ensures.lookup (sym c.copied.ensures ∙ c.in-Some.is) ∙ ap (λ xs. c.in-Some.message ∷ xs) (sym c.pop_front.ensures.rest))
    c.requires.none_owed refl
    (ok-of c.send.result (sym c.is_err.ensures.value ∙ c.if-is_err.false) c.send.ensures.sent ∙ ap
    (λ xs. xs ++ c.notice.result ∷ [])
    (sym (ap (λ o. sent_on o c.args.self.now.noticed) c.in-Some-notices.is)))
    c.notice.ensures.tells refl refl
    (c.send.ensures.heap ∙ subst (λ o. IfSome o (λ r. r.heap ≡ c.args.writer.now.heap)) c.in-Some-notices.is h.of_heap)
