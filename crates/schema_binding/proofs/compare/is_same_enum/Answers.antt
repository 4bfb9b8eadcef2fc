use Rattle.std.proofs.Common.{sym, ◌∙◌}
use Rattle.mrpc_table.specs.Text.{enum_name}
use Rattle.schema_binding.proofs.Compared.{equal_texts, named_enum}
use Rattle.schema_binding.proofs.compare.is_same_enum.Goals as goal

pub returns : goal.returns
returns c =
    equal_texts c.as_slice-3.result.now c.as_slice-4.result.now (enum_name c.args.ours.now c.args.our) (enum_name c.args.theirs.now c.args.their) c.eq.result
    (named_enum c.args.ours.now c.args.our c.index-as_slice-our.result c.as_slice.result.now c.as_slice.ensures c.requires.our c.index-as_slice-our.is ∙ sym c.as_slice-3.ensures)
    (named_enum c.args.theirs.now c.args.their c.index-as_slice-their.result c.as_slice-2.result.now
    c.as_slice-2.ensures c.requires.their c.index-as_slice-their.is ∙ sym c.as_slice-4.ensures)
    c.eq.ensures
