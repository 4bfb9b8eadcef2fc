use Rattle.std.proofs.Common.{rules, ◌≡◌, ◌+◌, ◌-◌, ◌++◌, ◌∷◌, [], length, take, drop, ap, ◌∙◌, arith, length-append}
use Rattle.std.proofs.lemmas.List.{take_all}
use Rattle.audit_text.proofs.Histories.{drop-front, take-front}
use Rattle.audit_text.proofs.reading.first_line.Goals as goal

pub returns-clause-ends : goal.returns-clause-ends
returns-clause-ends c =
    λ front behind is none.
    let text = c.args.text.now in
    let end : c.line_end-end.result ≡ length front + 1 = c.line_end-end.ensures.first front behind is none in
    let line : take c.line_end-end.result text ≡ front ++ 10 ∷ [] = ap (λ k. take k text) end ∙ ap (take (length front + 1)) is ∙ take-front front behind in
    let rest : drop c.line_end-end.result text ≡ behind = ap (λ k. drop k text) end ∙ ap (drop (length front + 1)) is ∙ drop-front front behind in
    let long : length text ≡ length front + length (10 ∷ behind) = ap length is ∙ length-append front (10 ∷ behind) in
    let whole : take (length text - c.line_end-end.result) behind ≡ behind = take_all (length text - c.line_end-end.result) behind (omega (arith, long, end)) in
    (search (rules, line), ap (take (length text - c.line_end-end.result)) rest ∙ whole)
