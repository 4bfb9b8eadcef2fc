use Rattle.std.proofs.Common.{Some, None}
use Rattle.std.specs.Prelude.{codes}
use Rattle.std.proofs.lemmas.Bool.Decides.{Decides-eqb}
use Rattle.std.proofs.lemmas.Slice.Eq.{strip_prefix_is}
use Rattle.script_grammar.proofs.HeadTexts.{no_line, other_line, no_number, limit_read, limit_fault}
use Rattle.script_grammar.proofs.head.read_limit.Goals as goal

pub returns-in_default-clause-fault : goal.returns-in_default-clause-fault
returns-in_default-clause-fault c = no_line c.args.text.now c.in_default.ensures.parts

pub returns-in_default-strip_prefix-clause-fault :
    goal.returns-in_default-strip_prefix-clause-fault
returns-in_default-strip_prefix-clause-fault c =
    let line = c.in-Some.line.now in
    other_line c.args.text.now line c.in-Some.behind.now c.in-Some.ensures.parts (strip_prefix_is Decides-eqb line (codes "loads ") None c.in_default-strip_prefix.ensures.cases)

pub returns-in_default-number_of-clause-fault : goal.returns-in_default-number_of-clause-fault
returns-in_default-number_of-clause-fault c =
    let line = c.in-Some.line.now in
    let word = c.in-Some-strip_prefix.word in
    let is = strip_prefix_is Decides-eqb line (codes "loads ") (Some word) c.in-Some-strip_prefix.ensures.cases in
    no_number c.args.text.now line c.in-Some.behind.now word.now c.in-Some.ensures.parts is c.in_default-number_of.ensures

pub returns-in-Ok-clause-limit : goal.returns-in-Ok-clause-limit
returns-in-Ok-clause-limit c =
    let line = c.in-Some.line.now in
    let word = c.in-Some-strip_prefix.word in
    let is = strip_prefix_is Decides-eqb line (codes "loads ") (Some word) c.in-Some-strip_prefix.ensures.cases in
    limit_read c.args.text.now line c.in-Some.behind.now word.now c.in-Some-number_of.number c.in-Ok.loads c.in-Some.ensures.parts is c.in-Some-number_of.ensures c.in-Ok.ensures

pub returns-in-Err-clause-fault : goal.returns-in-Err-clause-fault
returns-in-Err-clause-fault c =
    let line = c.in-Some.line.now in
    let word = c.in-Some-strip_prefix.word in
    let is = strip_prefix_is Decides-eqb line (codes "loads ") (Some word) c.in-Some-strip_prefix.ensures.cases in
    limit_fault c.args.text.now line c.in-Some.behind.now word.now c.in-Some-number_of.number c.in-Err.reason c.in-Some.ensures.parts is c.in-Some-number_of.ensures c.in-Err.ensures
