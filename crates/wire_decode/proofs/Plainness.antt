-- Kinds of numbers and of runs, which are no messages.
use Rattle.std.proofs.Common.{◌≡◌, ℕ, List, false, true, refl, ap, sym, ◌∙◌}
use Rattle.mrpc_table.specs.Words.{is_numeric, IsWordForm}
use Rattle.mrpc_table.specs.Normal.{IsRun}
use Rattle.mrpc_table.specs.declared.table.Kind.{Kind}
use Rattle.mrpc_table.specs.declared.table.Kind.TheVariants.{Text, Octets, Message as OfMessage}
use Rattle.wire_decode.specs.Known.{is_message_kind}

pub word-numeric : (k : Kind) (n : ℕ) → IsWordForm k n → is_numeric k ≡ true
word-numeric Text n h = absurd h
word-numeric Octets n h = absurd h
word-numeric (OfMessage i) n h = absurd h
word-numeric _ n h = refl

pub run-not_numeric : (k : Kind) (bytes : List ℕ) → IsRun k bytes → is_numeric k ≡ false
run-not_numeric Text bytes h = refl
run-not_numeric Octets bytes h = refl
run-not_numeric _ bytes h = absurd h

pub word-plain : (k : Kind) (n : ℕ) → IsWordForm k n → is_message_kind k ≡ false
word-plain (OfMessage i) n h = absurd h
word-plain _ n h = refl

pub run-plain : (k : Kind) (bytes : List ℕ) → IsRun k bytes → is_message_kind k ≡ false
run-plain (OfMessage i) bytes h = absurd h
run-plain _ bytes h = refl

pub not_message : (k : Kind) (i : ℕ) → is_message_kind k ≡ false → k ≡ OfMessage i → ⊥
not_message k i plain e = let h : false ≡ true = sym plain ∙ ap is_message_kind e in cc
