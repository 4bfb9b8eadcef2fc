use Rattle.std.proofs.Common.{[], refl}
use Rattle.std.specs.Prelude.{option_to_list}
use Rattle.std.specs.List.{filter_map}
use Rattle.mrpc_table.specs.Lines.{whole_lines}
use Rattle.table_text.specs.Lines.{without_prefix}
use Rattle.table_text.proofs.NamesLemmas.{names_none, names_first, names_end, filtered_first}
use Rattle.table_text.proofs.reach.names_with_prefix.Goals as goal

pub loop-line-init : goal.loop-line-init
loop-line-init c = names_none (filter_map (without_prefix c.args.prefix.now)) [] c.args.text.now c.new-names.result c.new-names.ensures

pub loop-line-preserved : goal.loop-line-preserved
loop-line-preserved c =
    let f = without_prefix c.args.prefix.now in
    let line = c.in-Some.line.now in
    let others = c.in-Some.others.now in
    names_first (filter_map f) [] c.args.text.now c.loop-line.rest.now line others c.loop-line.names c.add_with_prefix.new.names (option_to_list (f line)) c.in-Some.ensures.parts
    (filtered_first f line (whole_lines others)) c.in_ok-add_with_prefix.ensures c.loop-line.invariant

pub returns : goal.returns
returns c = names_end (filter_map (without_prefix c.args.prefix.now)) [] c.args.text.now c.loop-line.rest.now c.loop-line.names c.in_default.ensures.parts refl c.loop-line.invariant
