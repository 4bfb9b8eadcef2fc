use Rattle.std.proofs.Common.{codes}
use Rattle.std.proofs.lemmas.Result.{on_ok_weaker}
use Rattle.text_format.specs.Lines.{scalar_prefix}
use Rattle.text_format.proofs.Appending.{three}
use Rattle.text_format.proofs.entries.put_number_line.Goals as goal

pub returns : goal.returns
returns c =
    let told = c.in_ok-put_number.ensures in
    on_ok_weaker c.append.result
    (λ h. (
      told.0,
      told.1,
      three c.args.out.now c.put_scalar_prefix.new.out c.put_number.new.out c.append.new.self
          (scalar_prefix c.args.deep c.args.name.now) told.0 (codes "\n") c.in_ok-put_scalar_prefix.ensures told.2 h,
    ))
    c.append.ensures.ok
