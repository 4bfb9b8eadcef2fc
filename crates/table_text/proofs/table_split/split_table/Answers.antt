use Rattle.std.proofs.Common.{◌++◌, [], Some, None, refl}
use Rattle.std.specs.Prelude.{codes}
use Rattle.std.proofs.lemmas.Bool.Decides.{Decides-eqb}
use Rattle.std.proofs.lemmas.Slice.Eq.{strip_prefix_is}
use Rattle.table_text.proofs.TableCuts.{cut_from, cut_to, some_behind}
use Rattle.table_text.proofs.table_split.split_table.Goals as goal

pub returns-in_err-strip_prefix-clause-only : goal.returns-in_err-strip_prefix-clause-only
returns-in_err-strip_prefix-clause-only c = λ table rest h.
    let none = strip_prefix_is Decides-eqb c.args.text.now c.args.head.now None c.in_err-strip_prefix.ensures.cases in
    rw c.from_residual.ensures (none (table ++ (codes "end\n" ++ rest)) h.text_is)

pub returns-clause-found : goal.returns-clause-found
returns-clause-found c =
    let text_is = strip_prefix_is Decides-eqb c.args.text.now c.args.head.now (Some c.in_ok-strip_prefix.field-0) c.in_ok-strip_prefix.ensures.cases in
    some_behind c.args.head.now c.args.text.now c.in_ok-strip_prefix.field-0.now c.split_at_end.result text_is c.split_at_end.ensures.found

pub returns-clause-only : goal.returns-clause-only
returns-clause-only c = λ table rest h.
    let body = c.in_ok-strip_prefix.field-0.now in
    let text_is = strip_prefix_is Decides-eqb c.args.text.now c.args.head.now (Some c.in_ok-strip_prefix.field-0) c.in_ok-strip_prefix.ensures.cases in
    c.split_at_end.ensures.only table rest (cut_to [] body body table rest refl (cut_from c.args.head.now c.args.text.now body table rest text_is h))
