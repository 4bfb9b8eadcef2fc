-- The meaning of bytes, and the message that their records are merged to.
use Rattle.std.proofs.Common.{◌≡◌, ℕ, List, sym, subst, ◌∙◌, ap}
use Rattle.mrpc_table.specs.Node.{Node}
use Rattle.mrpc_table.specs.Normal.{fields_of}
use Rattle.mrpc_table.specs.declared.table.Table.{Table}
use Rattle.mrpc_table.specs.Ascending.{AreAllFieldsAscending}
use Rattle.wire_decode.specs.Merged.{merged}
use Rattle.wire_decode.specs.RawMessages.{IsRawMessage}
use Rattle.wire_decode.specs.Meaning.{MeansIn}
use Rattle.wire_decode.specs.Means.{Means}
use Rattle.wire_decode.specs.MergedMessage.{IsMergedMessage}
use Rattle.wire_decode.proofs.WireLaws.{Law}
use Rattle.wire_decode.proofs.Unique.{reads-same}
use Rattle.wire_decode.proofs.Taken.{meaning, taken-suc, merged-taken}
use Rattle.wire_decode.proofs.Agreeing.{agree}

merged-meaning : (T : Table) (msg : ℕ) (raw : Node) → AreAllFieldsAscending T → merged T 32 msg raw ≡ meaning T 31 (fields_of T msg) raw
merged-meaning T msg raw a = sym (merged-taken T a 32 msg raw) ∙ taken-suc T 31 msg raw

pub means-of : Law → (T : Table) (msg : ℕ) (bytes : List ℕ) (t : Node) → AreAllFieldsAscending T → IsMergedMessage T msg bytes t → Means T msg bytes t
means-of law T msg bytes t a m = record {
  meaning = subst (λ (x : Node). MeansIn T 31 (fields_of T msg) bytes x) (sym (m.value ∙ merged-meaning T msg m.raw a)) ((agree law T 31 (fields_of T msg)).to bytes m.raw m.reads);
}

pub merges-of : Law → (T : Table) (msg : ℕ) (bytes : List ℕ) (t : Node) → AreAllFieldsAscending T → Means T msg bytes t → IsMergedMessage T msg bytes t
merges-of law T msg bytes t a m =
    let b = (agree law T 31 (fields_of T msg)).back bytes t m.meaning in
    record { raw = b.0; reads = b.1; value = b.2 ∙ sym (merged-meaning T msg b.0 a) }

-- in any table
pub some-meaning : Law → (T : Table) (msg : ℕ) (bytes : List ℕ) (raw : Node) → IsRawMessage T 31 (fields_of T msg) bytes 0 raw → (t : Node) × Means T msg bytes t
some-meaning law T msg bytes raw h = (meaning T 31 (fields_of T msg) raw, record { meaning = (agree law T 31 (fields_of T msg)).to bytes raw h })

pub meaning-reads : Law → (T : Table) (msg : ℕ) (bytes : List ℕ) (t : Node) → Means T msg bytes t
    → (raw : Node) × IsRawMessage T 31 (fields_of T msg) bytes 0 raw × (t ≡ meaning T 31 (fields_of T msg) raw)
meaning-reads law T msg bytes t m = (agree law T 31 (fields_of T msg)).back bytes t m.meaning

pub meaning-same : Law → (T : Table) (msg : ℕ) (bytes : List ℕ) (t u : Node) → Means T msg bytes t → Means T msg bytes u → t ≡ u
meaning-same law T msg bytes t u m n =
    let a = meaning-reads law T msg bytes t m in
    let b = meaning-reads law T msg bytes u n in
    a.2 ∙ ap (meaning T 31 (fields_of T msg)) (reads-same law a.1 b.1) ∙ sym b.2
