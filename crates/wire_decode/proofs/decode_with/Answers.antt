use Rattle.std.proofs.Common.{◌<◌, arith}
use Rattle.std.proofs.lemmas.List.Elements.{All-from_get_or}
use Rattle.std.proofs.lemmas.Result.{IfOk-weaker, IfErr-weaker}
use Rattle.wire_decode.proofs.WordForms.{AreBytes}
use Rattle.wire_decode.proofs.FaultPlaces.{fault-within}
use Rattle.wire_decode.proofs.Faulty.{faults_as}
use Rattle.wire_decode.proofs.UsableTables.{valid-ascends}
use Rattle.wire_decode.proofs.decode_with.Goals as goal

pub returns-clause-normal : goal.returns-clause-normal
returns-clause-normal c =
    let table = c.args.table.now in
    let bytes = c.args.bytes.now in
    let small : AreBytes bytes = All-from_get_or (λ b. b < 256) bytes 0 (λ i within. omega (arith, c.type_inv.bytes i)) in
    IfOk-weaker c.decoded.result _ _
    (λ t m. c.meaning_is_normal.ensures table c.args.msg bytes t c.requires.valid c.requires.known small
    (c.rules_and_reader_agree.ensures.meant table c.args.msg bytes t (valid-ascends table c.requires.valid) m))
    c.decoded.ensures.means

pub returns-clause-within : goal.returns-clause-within
returns-clause-within c = IfErr-weaker c.decoded.result _ _ (λ f h. faults_as _ _ f h (λ r p. fault-within)) c.decoded.ensures.fault

pub returns-clause-fault : goal.returns-clause-fault
returns-clause-fault c =
    IfErr-weaker c.decoded.result _ _
    (λ f h. faults_as _ _ f h (c.rules_and_reader_agree.ensures.first c.args.table.now c.args.msg c.args.bytes.now))
    c.decoded.ensures.fault

pub returns-clause-means : goal.returns-clause-means
returns-clause-means c =
    let table = c.args.table.now in
    IfOk-weaker c.decoded.result _ _ (λ t m. c.rules_and_reader_agree.ensures.meant table c.args.msg c.args.bytes.now t (valid-ascends table c.requires.valid) m) c.decoded.ensures.means

pub returns-clause-only : goal.returns-clause-only
returns-clause-only c t means =
    let table = c.args.table.now in
    c.decoded.ensures.only t (c.rules_and_reader_agree.ensures.merged table c.args.msg c.args.bytes.now t (valid-ascends table c.requires.valid) means)
