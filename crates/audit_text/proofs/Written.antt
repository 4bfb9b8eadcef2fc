-- Bytes that are written to a row from its end.
use Rattle.std.proofs.Common.{ℕ, List, ◌++◌, Option, Some, None, drop, ap, sym, ◌∙◌, append_assoc, arith}
use Rattle.std.proofs.lemmas.List.{length-append}
use Rattle.std.specs.Prelude.{IfSome}
use Rattle.wire_encode.specs.Written.{AreWrittenBefore}

-- what holds of an index where some bytes were written implies what follows from it
pub if-some : {X : Type 0} (r : Option X) (P Q : X → Type 0) → IfSome r P → ((x : X) → P x → Q x) → IfSome r Q
if-some (Some x) P Q h f = f x h
if-some None P Q h f = tt

-- bytes are written before others
pub in-front : {old mid new : List ℕ} {end place : ℕ} {behind front : List ℕ} (start : ℕ) → AreWrittenBefore old mid end place behind
    → AreWrittenBefore mid new place start front → AreWrittenBefore old new end start (front ++ behind)
in-front {old} {mid} {new} {end} {place} {behind} {front} start b f =
    record {
      place = omega (arith, b.place, f.place, length-append front behind);
      written = f.written ∙ ap (λ l. front ++ l) b.written ∙ sym (append_assoc front behind (drop end old));
    }
