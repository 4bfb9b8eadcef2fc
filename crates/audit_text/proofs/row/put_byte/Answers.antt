use Rattle.std.proofs.Common.{◌≡◌, ◌+◌, ◌-◌, ◌∷◌, drop, ap, ◌∙◌, arith}
use Rattle.std.proofs.lemmas.List.{drop-set}
use Rattle.audit_text.proofs.row.put_byte.Goals as goal

pub returns : goal.returns
returns c =
    let end = c.args.end in
    let old = c.args.row.now in
    record {
      place = omega arith;
      written = drop-set old (end - 1) c.args.byte (omega (arith, c.requires))
          ∙ ap (λ n. c.args.byte ∷ drop n old) (let e : end - 1 + 1 ≡ end = omega arith in e);
    }
