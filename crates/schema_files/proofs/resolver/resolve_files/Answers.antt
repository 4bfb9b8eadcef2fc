use Rattle.proto_set.specs.Named.{files_of}
use Rattle.schema_files.proofs.Whole.{faults_right}
use Rattle.schema_files.proofs.resolver.resolve_files.Goals as goal

pub returns-in-None-clause-fault : goal.returns-in-None-clause-fault
returns-in-None-clause-fault c =
    faults_right (files_of c.args.files.now) c.in-None.ensures.none c.resolve_valid_paths.result c.resolve_valid_paths.ensures.fault

pub returns-in-Some-clause-only : goal.returns-in-Some-clause-only
returns-in-Some-clause-only c = λ t R.
    absurd (c.valid_or_rejected.ensures.never_both (files_of c.args.files.now) c.in-Some.file R.paths c.in-Some.ensures.first)
