use Rattle.std.proofs.Common.{◌≡◌, take, subst}
use Rattle.std.specs.Prelude.{List}
use Rattle.std.proofs.lemmas.List.{take_all}
use Rattle.schema_validation.specs.Entries.{entries_of, AreStarts}
use Rattle.schema_validation.specs.declared.names.DeclaredName.{DeclaredName}
use Rattle.schema_validation.proofs.EntryLists.{starts_next}
use Rattle.schema_validation.proofs.names.Starts.new.Goals as goal

pub loop-i-preserved : goal.loop-i-preserved
loop-i-preserved c =
    starts_next c.args.names.now c.loop-i.i _ c.add.new.self c.loop-i-test.true
    (c.in_ok-add.ensures (entries_of (take c.loop-i.i c.args.names.now)) c.loop-i.invariant)

pub returns : goal.returns
returns c =
    let all : take c.loop-i.i c.args.names.now ≡ c.args.names.now =
    take_all c.loop-i.i c.args.names.now c.loop-i-test.false in
    subst (λ (xs : List DeclaredName). AreStarts (entries_of xs) c.loop-i.starts) all c.loop-i.invariant
