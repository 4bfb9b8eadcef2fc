use Rattle.std.proofs.Common.{ℕ, rules, subst, List}
use Rattle.std.proofs.lemmas.List.Sorted.{IsNonDecreasingBy-from_sort_by_key}
use Rattle.proto_ast.specs.declared.file.Span.{Span}
use Rattle.schema_validation.specs.Recording.{HasRecorded, IsOfAny, IsOfElement, IsLongTextViolation}
use Rattle.schema_validation.specs.Lengths.{IsPast}
use Rattle.schema_validation.proofs.Meetings.{meets_as}
use Rattle.schema_validation.proofs.Formed.{start_apart}
use Rattle.schema_validation.proofs.LinesOne.{line_one}
use Rattle.schema_validation.proofs.LinesPassing.{text_to, text_from}
use Rattle.schema_validation.proofs.lines.note_text.Goals as goal

pub returns : goal.returns
returns c =
    let F = c.args.files.now in
    let xs = c.add_methods.new.lines.items in
    let ys = c.sort_by_key.new.self.items in
    let up = IsNonDecreasingBy-from_sort_by_key (λ x. x.0.start) _ c.in_ok-sort_by_key.ensures.sorted
    (λ a r q k. search rules) in
    let one = line_one F (start_apart F c.requires.ordered) c.scope_is_determined.ensures.one c.reference_is_unique.ensures in
    let met : HasRecorded (IsOfAny (IsOfElement ys (IsPast ys))) c.args.first.now c.note_lines.new.first =
    subst (λ (zs : List (Span × ℕ)). HasRecorded (IsOfAny (IsOfElement zs (IsPast zs))) c.args.first.now c.note_lines.new.first)
    c.deref.ensures.value c.note_lines.ensures in
    meets_as (IsOfAny (IsOfElement ys (IsPast ys))) (IsLongTextViolation F) c.args.first.now c.note_lines.new.first met
    (text_to F xs ys c.in_ok-add_methods.ensures c.in_ok-sort_by_key.ensures.permutation up one)
    (text_from F xs ys c.in_ok-add_methods.ensures c.in_ok-sort_by_key.ensures.permutation up one)
