use Rattle.std.proofs.Common.{◌≡◌, ◌<◌, ℕ, All, Some, None, sym, ap, subst, ◌∙◌, arith}
use Rattle.std.specs.Option.{option_copied}
use Rattle.receive_heap.specs.Layout.{Layout, IsFirstFit}
use Rattle.receive_core.specs.Fates.{IsFate, drops}
use Rattle.receive_core.specs.Decoding.{IsRefusal}
use Rattle.receive_core.specs.Turns.{ReceiverState}
use Rattle.receive_core.proofs.Turned.{refused_fate, dropped_turns, waiting_turns, ok_taken}
use Rattle.receive_core.proofs.inbound.Inbound.judge_first.Goals as goal

pub refusal-requires-clause-words : goal.refusal-requires-clause-words
refusal-requires-clause-words g c = omega (arith, c.size.ensures, c.requires.size, c.requires.words.0)

pub returns-in-Some-clause-turns : goal.returns-in-Some-clause-turns
returns-in-Some-clause-turns g c =
    let policy = option_copied c.args.policy in
    let f = c.requires.opened.0 in
    let words : c.size.result ≡ c.args.self.now.heap.words = c.size.ensures ∙ c.requires.size in
    let fate = subst (λ (w : ℕ). IsFate c.args.table.now policy c.args.self.now.conn w f (drops c.in-Some.why)) words
    (refused_fate c.args.table.now policy c.args.self.now.conn c.size.result f c.args.opened c.in-Some.why
    (omega (arith, words, c.requires.words.0)) (omega (arith, words, c.requires.words.1)) c.requires.opened.2 c.in-Some.ensures) in
    let dropped = c.drop_first.ensures.frame f c.requires.opened.1 in
    dropped_turns c.args.table.now policy c.args.self.now c.drop_first.new.self _ f c.in-Some.why c.drop_first.result fate dropped.1 c.drop_first.ensures.heap dropped.0

pub place_first-requires-clause-fits : goal.place_first-requires-clause-fits
place_first-requires-clause-fits g c place fit =
    let only : Some c.in-Some-fit.at ≡ Some place =
    c.in-Some-fit.ensures.only place (subst (λ (l : Layout). IsFirstFit l.holes c.args.opened.words place) (sym (ap (λ (r : ReceiverState). r.heap) c.self.view_is)) fit) in
    cc

pub returns-in-Some-fit-clause-turns : goal.returns-in-Some-fit-clause-turns
returns-in-Some-fit-clause-turns g c =
    let policy = option_copied c.args.policy in
    let words : c.size.result ≡ c.args.self.now.heap.words = c.size.ensures ∙ c.requires.size in
    let allowed = subst (λ (w : ℕ). IsRefusal policy w c.args.opened None) words c.in_default.ensures in
    ok_taken c.args.table.now policy c.args.self.now c.place_first.new.self _ _ c.requires.opened.0 c.args.opened c.place_first.result
    c.requires.words.1 c.requires.opened.1 c.requires.opened.2 allowed c.place_first.ensures.takes

pub returns-in-None-clause-turns : goal.returns-in-None-clause-turns
returns-in-None-clause-turns g c =
    let policy = option_copied c.args.policy in
    let words : c.size.result ≡ c.args.self.now.heap.words = c.size.ensures ∙ c.requires.size in
    let allowed = subst (λ (w : ℕ). IsRefusal policy w c.args.opened None) words c.in_default.ensures in
    let none = subst (λ (l : Layout). All (λ hole. hole.words < c.args.opened.words) l.holes) (ap (λ (r : ReceiverState). r.heap) c.self.view_is) c.in-None.ensures.none in
    let waits = c.keep_waiting.ensures.waits in
    waiting_turns c.args.table.now policy c.args.self.now c.keep_waiting.new.self _ c.requires.opened.0 c.args.opened waits.0 c.keep_waiting.result
    c.requires.words.1 c.requires.opened.1 c.requires.opened.2 allowed none waits.2 c.keep_waiting.ensures.stays waits.1
