use Rattle.std.proofs.Common.{◌≡◌, ◌+◌, ◌-◌, [], ◌∷◌, ◌++◌, drop, length, ap, sym, ◌∙◌, arith}
use Rattle.std.proofs.lemmas.List.{drop-set}
use Rattle.wire_base.specs.Encoding.{varint}
use Rattle.wire_encode.proofs.ShortVarints.{varint-small}
use Rattle.wire_encode.proofs.backward_buffer.write_byte.Goals as goal

pub returns : goal.returns
unfolding varint
returns c =
    let end = c.args.end in
    let old = c.args.out.now in
    let one : varint c.args.v ≡ c.args.v ∷ [] = varint-small c.args.v c.requires.small in
    record {
      place = omega (arith, ap length one, c.requires.room);
      written = drop-set old (end - 1) c.args.v (omega (arith, c.requires.room, c.requires.within))
          ∙ ap (λ n. c.args.v ∷ drop n old) (let e : end - 1 + 1 ≡ end = omega (arith, c.requires.room) in e)
          ∙ ap (λ bs. bs ++ drop end old) (sym one);
    }
