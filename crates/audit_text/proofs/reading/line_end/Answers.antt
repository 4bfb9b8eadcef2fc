use Rattle.std.proofs.Common.{rules, ◌≡◌, ◌∷◌, ◌==◌, []}
use Rattle.std.specs.List.{slice_split}
use Rattle.audit_text.proofs.Histories.{cut-end, uncut}
use Rattle.audit_text.proofs.reading.line_end.Goals as goal

pub returns-in-Some-clause-first : goal.returns-in-Some-clause-first
returns-in-Some-clause-first c =
    λ front behind is none.
    let cut : slice_split (λ c. c == 10) c.args.text.now ≡ c.in-Some.line.now ∷ slice_split (λ c. c == 10) c.in-Some.field-0-1.now = search rules in
    let end = cut-end c.args.text.now front behind c.in-Some.line.now (slice_split (λ c. c == 10) c.in-Some.field-0-1.now) cut is none in search (rules, end)

pub returns-in-None-clause-first : goal.returns-in-None-clause-first
returns-in-None-clause-first c =
    λ front behind is none.
    let cut : slice_split (λ c. c == 10) c.args.text.now ≡ c.args.text.now ∷ [] = search rules in absurd (uncut c.args.text.now front behind cut is none)
