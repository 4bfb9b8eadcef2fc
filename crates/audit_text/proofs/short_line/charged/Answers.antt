use Rattle.std.proofs.Common.{ℕ, List, ◌∷◌, ◌++◌, refl, ap, ◌∙◌}
use Rattle.std.specs.Fmt.{decimal}
use Rattle.audit_text.proofs.short_line.charged.Goals as goal

pub returns : goal.returns
returns c = λ T declared.
    (let seq = c.in_ok-seq.ensures in
    let name = c.in_ok-name.ensures in
    let level = c.in_ok-level.ensures in (
      (seq.0, name.0, level.0),
      refl,
      seq.1 ∙ ap (λ (l : List ℕ). decimal c.in_ok-seq.seq ++ 32 ∷ l)
          (name.1 ∙ ap (λ (l : List ℕ). c.in_ok-name.name.now ++ 32 ∷ l) level.1),
    ))
