use Rattle.std.proofs.Common.{◌≡◌, ◌∷◌, ◌++◌, [], map, ap, ◌∙◌, sym, append_assoc}
use Rattle.std.specs.Fmt.{decimal}
use Rattle.mrpc_table.specs.Lines.{after_spaces}
use Rattle.audit_text.proofs.Pieces.{line-pieces, on-ok}
use Rattle.audit_text.proofs.writing.append_numbers_by_words.Goals as goal

pub returns : goal.returns
returns c =
    let out = c.args.out.now in
    let pieces = c.args.word.now ++ after_spaces (map decimal c.args.numbers.now) in
    let begun : c.append_row.new.self ≡ out ++ pieces = c.in_ok-append_row.ensures in
    on-ok c.push.result _ _ c.push.ensures.ok (λ made.
    made ∙ ap (λ l. l ++ 10 ∷ []) begun ∙ append_assoc out pieces (10 ∷ [])
    ∙ ap (λ l. out ++ l) (sym (line-pieces c.args.word.now (map decimal c.args.numbers.now))))
