use Rattle.std.proofs.Common.{◌≡◌, ◌+◌, ◌-◌, ◌==◌, ℕ, Bool, true, false, List, length, take, drop, sym, ◌∙◌, ap}
use Rattle.std.proofs.lemmas.List.{take_rest}
use Rattle.std.proofs.lemmas.Bool.{eqb-true, eqb-false}
use Rattle.proto_lexer.proofs.LineLemmas.{line_on}
use Rattle.proto_lexer.proofs.NextLemmas.{next_end, next_bad, next_word, goes_on, keeps_line}
use Rattle.proto_lexer.proofs.next.next_token.Goals as goal

rest_long : (text : List ℕ) (start : ℕ) (b r : Bool) → r ≡ (length (take (length text - start) (drop start text)) == 0) → r ≡ b → (length (drop start text) == 0) ≡ b
rest_long text start b r e f = rw (take_rest text start) at (sym e ∙ f)

pub returns-then-is_empty-clause-next : goal.returns-then-is_empty-clause-next
returns-then-is_empty-clause-next c =
    let start = c.gap_end-start.result in
    next_end c.args.text.now c.args.place start _ c.gap_end-start.ensures.bound.0 c.gap_end-start.ensures.bound.1 c.gap_end-start.ensures.gap
    (ap (λ n. c.args.line + n) c.line_feeds.ensures ∙ line_on c.args.text.now c.args.place start c.args.line c.gap_end-start.ensures.bound.0 c.requires.line)
    (eqb-true _ _ (rest_long c.args.text.now start true c.is_empty.result c.is_empty.ensures c.if-is_empty.true))

pub returns-in-None-clause-next : goal.returns-in-None-clause-next
returns-in-None-clause-next c =
    let start = c.gap_end-start.result in
    next_bad c.args.text.now c.args.place start _ c.gap_end-start.ensures.bound.0 c.gap_end-start.ensures.gap
    (ap (λ n. c.args.line + n) c.line_feeds.ensures ∙ line_on c.args.text.now c.args.place start c.args.line c.gap_end-start.ensures.bound.0 c.requires.line)
    (eqb-false _ _ (rest_long c.args.text.now start false c.is_empty.result c.is_empty.ensures c.if-is_empty.false))
    (rw (take_rest c.args.text.now start) at (sym c.leading_token.ensures.value ∙ c.in-None.is))

pub returns-in-Some-clause-next : goal.returns-in-Some-clause-next
returns-in-Some-clause-next c =
    let start = c.gap_end-start.result in
    next_word c.args.text.now c.args.place start _ c.in-Some.word c.gap_end-start.ensures.bound.0 c.gap_end-start.ensures.bound.1 c.gap_end-start.ensures.gap
    (ap (λ n. c.args.line + n) c.line_feeds.ensures ∙ line_on c.args.text.now c.args.place start c.args.line c.gap_end-start.ensures.bound.0 c.requires.line)
    (rw (take_rest c.args.text.now start) at (sym c.leading_token.ensures.value ∙ c.in-Some.is))

pub returns-in-Some-clause-goes_on : goal.returns-in-Some-clause-goes_on
returns-in-Some-clause-goes_on c = goes_on c.args.text.now c.args.place _ (returns-in-Some-clause-next c)

pub returns-in-Some-clause-same_line : goal.returns-in-Some-clause-same_line
returns-in-Some-clause-same_line c = keeps_line c.args.text.now c.args.place _ (returns-in-Some-clause-next c)
