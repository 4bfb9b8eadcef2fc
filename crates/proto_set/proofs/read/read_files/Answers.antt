use Rattle.std.proofs.Common.{None, sym, ◌∙◌}
use Rattle.std.proofs.lemmas.Bool.Decides.{Decides-eqb}
use Rattle.std.proofs.lemmas.Slice.Eq.{strip_prefix_is}
use Rattle.proto_set.specs.Bundle.{bundle_first_line}
use Rattle.std.specs.Vec.{vec_len}
use Rattle.proto_set.proofs.Cuts.{is_nothing, is_something}
use Rattle.proto_set.proofs.Reading.{breaks_full, breaks_here, some_packed, spelled, unended}
use Rattle.proto_set.proofs.read.read_files.Goals as goal

pub returns-then-len-eq-MAX_FILES-clause-fault : goal.returns-then-len-eq-MAX_FILES-clause-fault
returns-then-len-eq-MAX_FILES-clause-fault c =
    breaks_full c.args.input.now c.loop-rest.files.items c.loop-rest.rest.now c.len.result c.loop-rest.invariant (is_something c.loop-rest.rest.now c.loop-rest-test.ensures)
    (c.len.ensures ∙ c.loop-rest.files.ok.0) (c.len.ensures ∙ sym c.len-in-loop-rest.ensures ∙ c.if-len-eq-MAX_FILES.true)

pub returns-in_default-first_file-clause-fault : goal.returns-in_default-first_file-clause-fault
returns-in_default-first_file-clause-fault c =
    breaks_here c.args.input.now c.loop-rest.files.items c.loop-rest.rest.now c.len.result c.loop-rest.invariant (is_something c.loop-rest.rest.now c.loop-rest-test.ensures)
    c.in_default-first_file.ensures.none (c.len.ensures ∙ c.loop-rest.files.ok.0) (λ e. c.if-len-eq-MAX_FILES.false (c.len-in-loop-rest.ensures ∙ sym c.len.ensures ∙ e))

pub returns-clause-read : goal.returns-clause-read
returns-clause-read c =
    spelled c.args.input.now c.loop-rest.files.items c.loop-rest.rest.now c.loop-rest.invariant (is_nothing c.loop-rest.rest.now c.loop-rest-test.ensures)
    (some_packed c.loop-rest.files.items (vec_len c.loop-rest.files) c.loop-rest.files.ok.0 c.if-is_empty.ensures)

pub returns-in_default-clause-fault : goal.returns-in_default-clause-fault
returns-in_default-clause-fault c =
    unended c.args.input.now c.requires
    (strip_prefix_is Decides-eqb c.args.input.now bundle_first_line None c.in_default.ensures.cases)
