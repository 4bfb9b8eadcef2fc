use Rattle.std.proofs.Common.{ℕ, List, ◌∷◌, ◌++◌, refl, ap, ◌∙◌}
use Rattle.std.specs.Fmt.{decimal}
use Rattle.audit_text.proofs.short_line.drawn.Goals as goal

pub returns : goal.returns
returns c = λ T declared.
    (let seq = c.in_ok-seq.ensures in
    let name = c.in_ok-name.ensures in
    let window = c.in_ok-window.ensures in
    let ticket = c.in_ok-ticket.ensures in (
      (seq.0, name.0, window.0, ticket.0),
      refl,
      seq.1 ∙ ap (λ (l : List ℕ). decimal c.in_ok-seq.seq ++ 32 ∷ l)
          (name.1 ∙ ap (λ (l : List ℕ). c.in_ok-name.name.now ++ 32 ∷ l)
          (window.1 ∙ ap (λ (l : List ℕ). decimal c.in_ok-window.window ++ 32 ∷ l) ticket.1)),
    ))
