use Rattle.std.proofs.Common.{◌++◌, refl}
use Rattle.mrpc_table.specs.Normal.{fields_of}
use Rattle.wire_decode.specs.Merged.{join_fields, merged}
use Rattle.wire_decode.proofs.Shifting.{reads-joined, payloads-joined}
use Rattle.wire_decode.proofs.laws.meaning_of_joined_strings.Goals as goal

pub returns-clause-reads : goal.returns-clause-reads
returns-clause-reads c = reads-joined

pub returns-clause-merges : goal.returns-clause-merges
returns-clause-merges c = λ T msg a b t u first second. record {
  raw = join_fields t u;
  reads = reads-joined T 31 (fields_of T msg) a b t u first second;
  value = refl;
}

pub returns-clause-means : goal.returns-clause-means
returns-clause-means c = λ T msg a b t u ascend first second.
    c.rules_and_reader_agree.ensures.meant T msg (a ++ b) (merged T 32 msg (join_fields t u)) ascend (record {
      raw = join_fields t u;
      reads = reads-joined T 31 (fields_of T msg) a b t u first second;
      value = refl;
    })

pub returns-clause-payloads : goal.returns-clause-payloads
returns-clause-payloads c = payloads-joined
