use Rattle.std.proofs.Common.{◌≡◌, ◌∷◌, ◌++◌, [], List, ℕ, map, ap, ◌∙◌, sym, append_assoc, refl, rules}
use Rattle.std.specs.Fmt.{decimal}
use Rattle.mrpc_table.specs.Lines.{after_spaces}
use Rattle.audit_text.proofs.Pieces.{line-pieces, on-ok, spaced-append}
use Rattle.audit_text.proofs.writing.append_note_by_words.Goals as goal

joined : (out front first name rest : List ℕ) → (((out ++ (front ++ first)) ++ name) ++ rest) ++ 10 ∷ [] ≡ out ++ ((front ++ (first ++ (name ++ rest))) ++ 10 ∷ [])
joined out front first name rest = simp append_assoc refl

pub returns : goal.returns
returns c =
    let out = c.args.out.now in
    let word = c.args.word.now in
    let conn = decimal c.args.conn in
    let seq = decimal c.args.seq in
    let name = c.args.name.now in
    let numbers = map decimal c.args.numbers.now in
    let first : c.append_row.new.self ≡ out ++ (word ++ after_spaces (conn ∷ seq ∷ [])) = search rules in
    let second : c.append_spaced.new.self ≡ c.append_row.new.self ++ 32 ∷ name = c.in_ok-append_spaced.ensures in
    let third : c.append_row-2.new.self ≡ c.append_spaced.new.self ++ after_spaces numbers = c.in_ok-append_row-2.ensures in
    on-ok c.push.result _ _ c.push.ensures.ok (λ made.
    made ∙ ap (λ l. l ++ 10 ∷ []) (third ∙ ap (λ l. l ++ after_spaces numbers) (second ∙ ap (λ l. l ++ 32 ∷ name) first))
    ∙ joined out word (after_spaces (conn ∷ seq ∷ [])) (32 ∷ name) (after_spaces numbers)
    ∙ ap (λ l. out ++ ((word ++ l) ++ 10 ∷ [])) (sym (spaced-append (conn ∷ seq ∷ []) (name ∷ numbers)))
    ∙ ap (λ l. out ++ l) (sym (line-pieces word (conn ∷ seq ∷ name ∷ numbers))))
