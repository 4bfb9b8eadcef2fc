use Rattle.std.proofs.Common.{Some, None, codes, sym}
use Rattle.std.proofs.lemmas.Bool.Decides.{Decides-eqb}
use Rattle.std.proofs.lemmas.Slice.Eq.{strip_prefix_is}
use Rattle.mrpc_table.specs.Lines.{number_of}
use Rattle.proto_set.proofs.Cuts.{is_nothing, is_something, cut_from_parts, lacks_from_parts}
use Rattle.proto_set.proofs.Headers.{none_without_feed, none_without_file, none_without_space, none_without_path, none_without_number, not_counted, header_found}
use Rattle.proto_set.proofs.header.first_header.Goals as goal

pub returns-in_err-line-clause-none : goal.returns-in_err-line-clause-none
returns-in_err-line-clause-none c = rw c.from_residual.ensures (none_without_feed c.args.bytes.now (lacks_from_parts 10 c.args.bytes.now c.in_err-line.ensures.parts))

pub returns-in_err-words-clause-none : goal.returns-in_err-words-clause-none
returns-in_err-words-clause-none c =
    let none = strip_prefix_is Decides-eqb c.in_ok-line.line.now (codes "file ") None c.in_err-words.ensures.cases in
    rw c.from_residual-in_err-words.ensures
    (none_without_file c.args.bytes.now c.in_ok-line.line.now c.in_ok-line.behind.now
    (cut_from_parts 10 c.args.bytes.now c.in_ok-line.line.now c.in_ok-line.behind.now c.in_ok-line.ensures.parts)
    none)

pub returns-in_err-path-clause-none : goal.returns-in_err-path-clause-none
returns-in_err-path-clause-none c =
    let is = strip_prefix_is Decides-eqb c.in_ok-line.line.now (codes "file ") (Some c.in_ok-words.words) c.in_ok-words.ensures.cases in
    rw c.from_residual-in_err-path.ensures
    (none_without_space c.args.bytes.now c.in_ok-line.line.now c.in_ok-line.behind.now c.in_ok-words.words.now
    (cut_from_parts 10 c.args.bytes.now c.in_ok-line.line.now c.in_ok-line.behind.now c.in_ok-line.ensures.parts) is
    (lacks_from_parts 32 c.in_ok-words.words.now c.in_err-path.ensures.parts))

pub returns-then-is_empty-clause-none : goal.returns-then-is_empty-clause-none
returns-then-is_empty-clause-none c =
    let is = strip_prefix_is Decides-eqb c.in_ok-line.line.now (codes "file ") (Some c.in_ok-words.words) c.in_ok-words.ensures.cases in
    none_without_path c.args.bytes.now c.in_ok-line.line.now c.in_ok-line.behind.now c.in_ok-words.words.now c.in_ok-path.path.now c.in_ok-path.size.now
    (cut_from_parts 10 c.args.bytes.now c.in_ok-line.line.now c.in_ok-line.behind.now c.in_ok-line.ensures.parts) is
    (cut_from_parts 32 c.in_ok-words.words.now c.in_ok-path.path.now c.in_ok-path.size.now c.in_ok-path.ensures.parts) (is_nothing c.in_ok-path.path.now c.if-is_empty.ensures)

pub returns-in_err-size-clause-none : goal.returns-in_err-size-clause-none
returns-in_err-size-clause-none c =
    let is = strip_prefix_is Decides-eqb c.in_ok-line.line.now (codes "file ") (Some c.in_ok-words.words) c.in_ok-words.ensures.cases in
    rw c.from_residual-in_err-size.ensures
    (none_without_number c.args.bytes.now c.in_ok-line.line.now c.in_ok-line.behind.now c.in_ok-words.words.now c.in_ok-path.path.now c.in_ok-path.size.now
    (cut_from_parts 10 c.args.bytes.now c.in_ok-line.line.now c.in_ok-line.behind.now c.in_ok-line.ensures.parts) is
    (cut_from_parts 32 c.in_ok-words.words.now c.in_ok-path.path.now c.in_ok-path.size.now c.in_ok-path.ensures.parts)
    (not_counted (number_of c.in_ok-path.size.now) (sym c.in_err-size.ensures)))

pub returns-clause-found : goal.returns-clause-found
returns-clause-found c =
    let is = strip_prefix_is Decides-eqb c.in_ok-line.line.now (codes "file ") (Some c.in_ok-words.words) c.in_ok-words.ensures.cases in
    header_found c.args.bytes.now c.in_ok-line.line.now c.in_ok-line.behind.now c.in_ok-words.words.now c.in_ok-path.path.now c.in_ok-path.size.now c.in_ok-size.size
    (cut_from_parts 10 c.args.bytes.now c.in_ok-line.line.now c.in_ok-line.behind.now c.in_ok-line.ensures.parts) is
    (cut_from_parts 32 c.in_ok-words.words.now c.in_ok-path.path.now c.in_ok-path.size.now c.in_ok-path.ensures.parts)
    (is_something c.in_ok-path.path.now c.if-is_empty.ensures) (sym c.in_ok-size.ensures)
