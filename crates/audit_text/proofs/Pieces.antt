-- Lines by the pieces in which they are appended.
use Rattle.std.proofs.Common.{◌≡◌, ℕ, List, [], ◌∷◌, ◌++◌, refl, sym, ap, ◌∙◌, append_assoc, append-nil, codes}
use Rattle.std.specs.Prelude.{Result, Ok, Err, OnOk}
use Rattle.mrpc_table.specs.Calls.{message_at}
use Rattle.mrpc_table.specs.Lines.{after_spaces}
use Rattle.mrpc_table.specs.Text.{line, spaced}
use Rattle.mrpc_table.specs.declared.table.Table.{Table}
use Rattle.call_history.specs.declared.happening.AcceptedCall.{AcceptedCall}
use Rattle.call_history.specs.declared.happening.TookCopy.{TookCopy}
use Rattle.call_history.specs.declared.happening.TookCopy.TheVariants.{Copy, Malformed}
use Rattle.audit_text.specs.Lines.{copy_words, encoding_of, hex_word}
use Rattle.audit_text.specs.Pieces.{copy_words_of_encoding}

-- words joined by spaces are the first, and the others after a space each
pub spaced-pieces : (w : List ℕ) (ws : List (List ℕ)) → spaced (w ∷ ws) ≡ w ++ after_spaces ws
spaced-pieces w [] = sym (append-nil w)
spaced-pieces w (v ∷ ws) = ap (λ l. w ++ 32 ∷ l) (spaced-pieces v ws)

pub line-pieces : (w : List ℕ) (ws : List (List ℕ)) → line (w ∷ ws) ≡ (w ++ after_spaces ws) ++ 10 ∷ []
line-pieces w ws = ap (λ l. l ++ 10 ∷ []) (spaced-pieces w ws)

pub spaced-append : (vs ws : List (List ℕ)) → after_spaces (vs ++ ws) ≡ after_spaces vs ++ after_spaces ws
spaced-append [] ws = refl
spaced-append (v ∷ vs) ws = ap (λ l. 32 ∷ v ++ l) (spaced-append vs ws) ∙ sym (append_assoc (32 ∷ v) (after_spaces vs) (after_spaces ws))

-- the words of a copy are determined by its encoding
copy-told : (T : Table) (call : AcceptedCall) (copy : TookCopy) (encoding : List ℕ) → encoding ≡ encoding_of T call copy
    → copy_words T (message_at T call.method call.number) copy ≡ copy_words_of_encoding encoding copy
copy-told T call (Copy tree) encoding is = ap (λ l. codes "copy" ∷ hex_word l ∷ []) (sym is)
copy-told T call (Malformed reason place value) encoding is = refl

pub told-copy : (T : Table) (call : AcceptedCall) (encoding : List ℕ) → encoding ≡ encoding_of T call call.copy
    → copy_words T (message_at T call.method call.number) call.copy ≡ copy_words_of_encoding encoding call.copy
told-copy T call encoding is = copy-told T call call.copy encoding is

-- what holds on success implies what follows from it
pub on-ok : {T E : Type 0} (r : Result T E) (P Q : Type 0) → OnOk r P → (P → Q) → OnOk r Q
on-ok (Ok x) P Q h f = f h
on-ok (Err e) P Q h f = tt
