use Rattle.std.proofs.Common.{[], refl}
use Rattle.table_text.specs.Lines.{line_of}
use Rattle.table_text.specs.Reach.{used_in, used_by_line}
use Rattle.table_text.proofs.NamesLemmas.{names_none, names_first, names_end}
use Rattle.table_text.proofs.reach.names_used.Goals as goal

pub loop-line-init : goal.loop-line-init
loop-line-init c = names_none used_in [] c.args.text.now c.new-names.result c.new-names.ensures

pub loop-line-preserved : goal.loop-line-preserved
loop-line-preserved c =
    let line = c.in-Some.line.now in
    names_first used_in [] c.args.text.now c.loop-line.rest.now line c.in-Some.others.now c.loop-line.names c.add_line.new.names (used_by_line (line_of line)) c.in-Some.ensures.parts refl
    c.in_ok-add_line.ensures c.loop-line.invariant

pub returns : goal.returns
returns c = names_end used_in [] c.args.text.now c.loop-line.rest.now c.loop-line.names c.in_default.ensures.parts refl c.loop-line.invariant
