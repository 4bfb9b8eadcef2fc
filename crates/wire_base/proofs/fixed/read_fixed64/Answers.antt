use Rattle.std.proofs.Common.{◌≡◌, ◌+◌, ◌-◌, ◌≤◌, ◌∙◌, refl, ap, length, take, drop, arith}
use Rattle.std.specs.Int.{w64, from_le_bytes}
use Rattle.std.specs.List.{slice_range}
use Rattle.std.proofs.lemmas.List.{take-take, length-take, length-drop}
use Rattle.wire_base.proofs.fixed.read_fixed64.Goals as goal

pub returns-in-Some-clause-found : goal.returns-in-Some-clause-found
returns-in-Some-clause-found c =
    let bytes = c.args.bytes.now in
    let start = c.args.at in
    let rest = length bytes - start in
    let enough : start + 8 ≤ length bytes = omega (arith, c.in-Some.ensures.cases.enough, length-take rest (drop start bytes), length-drop start bytes) in
    let part : c.in-Some.chunk.now ≡ slice_range bytes start (start + 8) =
    c.in-Some.ensures.cases.same ∙ take-take 8 rest (drop start bytes) (omega arith) ∙ ap (λ n. take n (drop start bytes)) (let e : 8 ≡ start + 8 - start = omega arith in e) in
    (refl, refl, enough, c.from_le_bytes.ensures ∙ ap (from_le_bytes w64) part)
