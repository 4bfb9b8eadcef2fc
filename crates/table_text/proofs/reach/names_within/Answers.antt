use Rattle.std.proofs.Common.{refl}
use Rattle.std.specs.Prelude.{option_to_list}
use Rattle.std.specs.List.{filter_map}
use Rattle.mrpc_table.specs.Lines.{whole_lines}
use Rattle.table_text.specs.Lines.{without_prefix}
use Rattle.table_text.specs.Reach.{used_with_prefix}
use Rattle.table_text.proofs.NamesLemmas.{names_none, names_first, names_end, filtered_first}
use Rattle.table_text.proofs.ReachLemmas.{nothing_kept}
use Rattle.table_text.proofs.reach.names_within.Goals as goal

pub returns-then-is_empty : goal.returns-then-is_empty
returns-then-is_empty c = λ wanted held.
    let told = c.is_empty.ensures wanted held in
    nothing_kept c.args.prefix.now c.in_ok-names.names (filter_map (without_prefix c.args.prefix.now) (whole_lines c.args.near.now)) wanted (whole_lines c.args.far.now)
    (cc) c.in_ok-names.ensures

pub loop-line-init : goal.loop-line-init
loop-line-init c = λ wanted held.
    names_none (filter_map (used_with_prefix wanted c.args.prefix.now))
    (filter_map (without_prefix c.args.prefix.now) (whole_lines c.args.near.now)) c.args.far.now c.in_ok-names.names
    c.in_ok-names.ensures

pub loop-line-preserved : goal.loop-line-preserved
loop-line-preserved c = λ wanted held.
    let f = used_with_prefix wanted c.args.prefix.now in
    let line = c.in-Some.line.now in
    let others = c.in-Some.others.now in
    names_first (filter_map f) (filter_map (without_prefix c.args.prefix.now) (whole_lines c.args.near.now)) c.args.far.now
    c.loop-line.rest.now line others c.loop-line.names c.add_used_with_prefix.new.names
    (option_to_list (f line)) c.in-Some.ensures.parts
    (filtered_first f line (whole_lines others)) (λ names h. c.in_ok-add_used_with_prefix.ensures names wanted h held) (c.loop-line.invariant wanted held)

pub returns : goal.returns
returns c = λ wanted held.
    names_end (filter_map (used_with_prefix wanted c.args.prefix.now))
    (filter_map (without_prefix c.args.prefix.now) (whole_lines c.args.near.now)) c.args.far.now c.loop-line.rest.now
    c.loop-line.names c.in_default.ensures.parts refl (c.loop-line.invariant wanted held)
