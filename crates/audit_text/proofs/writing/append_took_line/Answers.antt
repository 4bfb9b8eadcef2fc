use Rattle.std.proofs.Common.{◌≡◌, ◌∷◌, ◌++◌, [], List, ℕ, map, ap, ◌∙◌, sym, append_assoc, codes, refl, rules}
use Rattle.std.specs.Fmt.{decimal}
use Rattle.mrpc_table.specs.Calls.{message_at}
use Rattle.mrpc_table.specs.Lines.{after_spaces}
use Rattle.mrpc_table.specs.Text.{line}
use Rattle.audit_text.specs.Lines.{copy_words}
use Rattle.audit_text.specs.Pieces.{copy_words_of_encoding}
use Rattle.audit_text.proofs.Pieces.{line-pieces, told-copy, spaced-append, on-ok}
use Rattle.audit_text.proofs.writing.append_took_line.Goals as goal

joined : (out front numbers copy : List ℕ) → ((out ++ (front ++ numbers)) ++ copy) ++ 10 ∷ [] ≡ out ++ ((front ++ (numbers ++ copy)) ++ 10 ∷ [])
joined out front numbers copy = simp append_assoc refl

pub returns : goal.returns
returns c =
    λ T is.
    let call = c.args.call.now in
    let out = c.args.out.now in
    let numbers : List (List ℕ) = map decimal (c.args.conn ∷ call.seq ∷ call.method ∷ call.number ∷ call.addr ∷ call.after ∷ call.count ∷ []) in
    let words = copy_words T (message_at T call.method call.number) call.copy in
    let copy = copy_words_of_encoding c.args.encoding.now call.copy in
    let first : c.append_prefix.new.out ≡ out ++ (codes "took" ++ after_spaces numbers) = search rules in
    let second : c.append_copy.new.out ≡ c.append_prefix.new.out ++ after_spaces copy = c.in_ok-append_copy.ensures in
    let told : words ≡ copy = told-copy T call c.args.encoding.now is in
    on-ok c.push.result _ _ c.push.ensures.ok (λ made.
    made ∙ ap (λ l. l ++ 10 ∷ []) (second ∙ ap (λ l. l ++ after_spaces copy) first)
    ∙ joined out (codes "took") (after_spaces numbers) (after_spaces copy)
    ∙ ap (λ l. out ++ ((codes "took" ++ l) ++ 10 ∷ [])) (sym (spaced-append numbers copy))
    ∙ ap (λ l. out ++ l) (sym (line-pieces (codes "took") (numbers ++ copy)))
    ∙ ap (λ l. out ++ line (codes "took" ∷ (numbers ++ l))) (sym told))
