use Rattle.std.proofs.Common.{rules, ◌≡◌, ◌++◌, List, ℕ, ap, sym, ◌∙◌, take, drop, length, true}
use Rattle.std.specs.Str.{bytes_eq}
use Rattle.std.proofs.lemmas.List.{take-append-drop, take_rest}
use Rattle.std.proofs.lemmas.Slice.Eq.{bytes_eq-Decides}
use Rattle.audit_text.proofs.prefix.after_prefix.Goals as goal

pub returns : goal.returns
returns c =
    let text = c.args.text.now in
    let front = c.args.front.now in
    let n = length front in
    let same : bytes_eq (take n text) front ≡ true = search rules in
    let is : take n text ≡ front = (bytes_eq-Decides (take n text) front).0 same in
    sym (take-append-drop n text)
    ∙ ap (λ (l : List ℕ). l ++ drop n text) is
    ∙ ap (λ (l : List ℕ). front ++ l) (sym (take_rest text n))
