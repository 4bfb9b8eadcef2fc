use Rattle.std.proofs.Common.{◌≡◌, ℕ, List, ◌∷◌, ◌++◌, [], ap, refl, append_assoc, length, map, subst, sym, ◌∙◌, rules}
use Rattle.std.specs.Fmt.{decimal}
use Rattle.mrpc_table.specs.Lines.{after_spaces}
use Rattle.audit_text.specs.Pieces.{note_line}
use Rattle.wire_encode.specs.Written.{AreWrittenBefore}
use Rattle.audit_text.proofs.Pieces.{line-pieces, spaced-append}
use Rattle.audit_text.proofs.Written.{if-some, in-front}
use Rattle.audit_text.proofs.row.put_note.Goals as goal

joined : (front first name rest : List ℕ) → (front ++ first) ++ (32 ∷ (name ++ (rest ++ 10 ∷ []))) ≡ (front ++ (first ++ (32 ∷ (name ++ rest)))) ++ 10 ∷ []
joined front first name rest = simp append_assoc refl

note-pieces : (word : List ℕ) (conn seq : ℕ) (name numbers : List ℕ)
    → (word ++ after_spaces (decimal conn ∷ decimal seq ∷ [])) ++ (32 ∷ (name ++ (after_spaces (map decimal numbers) ++ 10 ∷ []))) ≡ note_line word conn seq name numbers
note-pieces word conn seq name numbers =
    let ns = map decimal numbers in
    joined word (after_spaces (decimal conn ∷ decimal seq ∷ [])) name (after_spaces ns)
    ∙ ap (λ l. (word ++ l) ++ 10 ∷ []) (sym (spaced-append (decimal conn ∷ decimal seq ∷ []) (name ∷ ns)))
    ∙ sym (line-pieces word (decimal conn ∷ decimal seq ∷ name ∷ ns))

pub returns : goal.returns
returns c =
    let row = c.args.row.now in
    let word = c.args.word.now in
    let name = c.args.name.now in
    let numbers = c.args.numbers.now in
    let feed : AreWrittenBefore row c.put_byte.new.row (length row) c.in_ok-feed.feed (10 ∷ []) = c.in_ok-feed.ensures in
    let told : AreWrittenBefore c.put_byte.new.row c.put_numbers.new.row c.in_ok-feed.feed c.in_ok-told.told (after_spaces (map decimal numbers)) = c.in_ok-told.ensures in
    let named : AreWrittenBefore c.put_numbers.new.row c.put_bytes.new.row c.in_ok-told.told c.in_ok-named.named name = c.in_ok-named.ensures in
    let space : AreWrittenBefore c.put_bytes.new.row c.put_byte-2.new.row c.in_ok-named.named c.in_ok-space.space (32 ∷ []) = c.in_ok-space.ensures in
    let behind = in-front c.in_ok-space.space (in-front c.in_ok-named.named (in-front c.in_ok-told.told feed told) named) space in
    let first : c.from.result ≡ c.args.conn = search rules in
    let second : c.from-2.result ≡ c.args.seq = search rules in
    let is = note-pieces word c.from.result c.from-2.result name numbers
    ∙ ap (λ n. note_line word n c.from-2.result name numbers) first ∙ ap (λ n. note_line word c.args.conn n name numbers) second in
    if-some c.put_prefix.result _ _ c.put_prefix.ensures (λ start front.
    subst (λ bytes. AreWrittenBefore row c.put_prefix.new.row (length row) start bytes) is (in-front start behind front))
