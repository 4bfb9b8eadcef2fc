use Rattle.std.proofs.Common.{ℕ, List, ◌∷◌, ◌++◌, refl, ap, ◌∙◌}
use Rattle.std.specs.Fmt.{decimal}
use Rattle.audit_text.proofs.short_line.sent.Goals as goal

pub returns : goal.returns
returns c = λ T declared.
    (let seq = c.in_ok-seq.ensures in
    let bytes = c.in_ok-bytes.ensures in
    ((seq.0, bytes.0), refl, seq.1 ∙ ap (λ (l : List ℕ). decimal c.in_ok-seq.seq ++ 32 ∷ l) bytes.1))
