-- Worked by hand: the rule of a queue on two items, and the bytes and sentinels of a few pieces.
use Rattle.std.proofs.Common.{◌≡◌, ℕ, zero, suc, true≢false, List, [], ◌∷◌, ◌++◌, length, length-append, refl, sym, ap, subst, inl, inr, arith}
use mathlib.Core.Option.{some, some-injective, some-ne-none}
use mathlib.Core.List.{IsPrefix}
use lib.ListN.{get_elem?}
use Rattle.spsc_queue.specs.declared.piece.Piece.{Piece}
use Rattle.spsc_queue.specs.declared.piece.Piece.TheVariants.{Bytes, Sentinel}
use Rattle.spsc_queue.specs.declared.side.Side.{Side}
use Rattle.spsc_queue.specs.Pieces.{bytes_of_pieces, sentinels_of}
use Rattle.spsc_queue.specs.Sides.{putting, taking, knowing, longer, ArePrefixComparable, IsQueued, IsConsistentSide, IsFifo}

-- ---- the rule, for a producer that pushed 7 and 8 and a consumer that popped some of them and knows of some

abbrev items_put : List ℕ
items_put = 7 ∷ 8 ∷ []

abbrev ends : List ℕ → List ℕ → List (Side ℕ)
ends taken told = putting items_put [] ∷ taking taken told ∷ []

-- each end agrees, if the consumer knows of a prefix
each : (taken told : List ℕ) → IsPrefix told items_put → (port : ℕ) (v : Side ℕ)
    → get_elem? (ends taken told) port ≡ some v → IsConsistentSide 0 1 items_put taken port v
each taken told begins zero v e =
    subst (IsConsistentSide 0 1 items_put taken 0) (some-injective _ _ e) record {
      puts = λ _. (refl, refl);
      takes = λ t. absurd (true≢false (sym t));
      told = (items_put, refl);
      known = (taken, refl);
    }
each taken told begins (suc zero) v e =
    subst (IsConsistentSide 0 1 items_put taken 1) (some-injective _ _ e) record {
      puts = λ p. absurd (true≢false (sym p));
      takes = λ _. (refl, refl);
      told = begins;
      known = (taken, refl);
    }
each taken told begins (suc (suc port)) v e = absurd (some-ne-none v (sym e))

both_wait : IsFifo items_put (ends [] [])
both_wait = (0, 1, items_put, [], refl, each [] [] (items_put, refl))

-- the first was popped by a consumer that knew of both
one_waits : IsFifo (8 ∷ []) (ends (7 ∷ []) items_put)
one_waits = (0, 1, items_put, 7 ∷ [], refl, each (7 ∷ []) items_put ([], refl))

-- what the two ends imply for all that was pushed and popped
apart : (items taken told : List ℕ) (rule : IsFifo items (ends taken told))
    → (items_put ≡ rule.2) × (taken ≡ rule.3)
apart items taken told rule =
    let first = (rule.5 0 (putting items_put []) refl).puts refl in
    let second = (rule.5 1 (taking taken told) refl).takes refl in
    (first.1, second.1)

-- no item overtakes another, is lost, is duplicated, or appears from nowhere
none_overtakes : IsFifo (7 ∷ []) (ends (8 ∷ []) []) → ⊥
none_overtakes rule = let s = apart (7 ∷ []) (8 ∷ []) [] rule in cc (s.0, s.1, rule.4)

none_lost : IsFifo [] (ends (7 ∷ []) []) → ⊥
none_lost rule = let s = apart [] (7 ∷ []) [] rule in cc (s.0, s.1, rule.4)

none_twice : IsFifo (7 ∷ 8 ∷ []) (ends (7 ∷ []) []) → ⊥
none_twice rule = let s = apart (7 ∷ 8 ∷ []) (7 ∷ []) [] rule in cc (s.0, s.1, rule.4)

none_from_nowhere : IsFifo (8 ∷ 9 ∷ []) (ends (7 ∷ []) []) → ⊥
none_from_nowhere rule = let s = apart (8 ∷ 9 ∷ []) (7 ∷ []) [] rule in cc (s.0, s.1, rule.4)

-- no end knows of an item that wasn't pushed
none_told : IsFifo [] (ends (7 ∷ 8 ∷ []) (9 ∷ [])) → ⊥
none_told rule =
    let s = apart [] (7 ∷ 8 ∷ []) (9 ∷ []) rule in
    let t = (rule.5 1 (taking (7 ∷ 8 ∷ []) (9 ∷ [])) refl).told in
    cc (s.0, t.1)

-- at most one end pushes
one_puts : IsFifo {T = ℕ} (7 ∷ []) (putting (7 ∷ []) [] ∷ putting (7 ∷ []) [] ∷ []) → ⊥
one_puts rule =
    let first = (rule.5 0 (putting (7 ∷ []) []) refl).puts refl in
    let second = (rule.5 1 (putting (7 ∷ []) []) refl).puts refl in
    cc (first.0, second.0)

-- no end takes an item for popped that wasn't
none_known : IsFifo (7 ∷ 8 ∷ []) (ends [] [] ++ knowing (7 ∷ []) ∷ []) → ⊥
none_known rule =
    let taken = (rule.5 1 (taking [] []) refl).takes refl in
    let known = (rule.5 2 (knowing (7 ∷ [])) refl).known in
    cc (taken.1, known.1)

-- 8 is queued, if 7 is known to be popped; then it can't be that both are queued
one_waits_behind : IsQueued items_put (7 ∷ []) (8 ∷ [])
one_waits_behind = (7 ∷ [], refl, ([], refl))

not_both : IsQueued items_put (7 ∷ []) items_put → ⊥
not_both w = let few = ap length w.1 in omega (arith, few, length-append w.0 items_put, ap length w.2.1, length-append (7 ∷ []) w.2.0)

the_longer : longer {T = ℕ} (7 ∷ []) (7 ∷ 8 ∷ []) ≡ 7 ∷ 8 ∷ []
the_longer = refl

-- of two prefixes of one list, one is a prefix of the other
begins : ArePrefixComparable {T = ℕ} (7 ∷ []) (7 ∷ 8 ∷ [])
begins = inl (8 ∷ [], refl)

is_begun : ArePrefixComparable {T = ℕ} (7 ∷ 8 ∷ []) (7 ∷ [])
is_begun = inr (8 ∷ [], refl)

neither_begins : ArePrefixComparable {T = ℕ} (7 ∷ []) (8 ∷ 7 ∷ []) → ⊥
neither_begins (inl p) = cc (p.1)
neither_begins (inr p) = cc (p.1)

-- ---- pieces of bytes with a sentinel between them

abbrev pieces : List (Piece ℕ)
pieces = Bytes (7 ∷ 8 ∷ []) ∷ Bytes [] ∷ Sentinel 5 ∷ Bytes (9 ∷ []) ∷ []

all_bytes : bytes_of_pieces pieces ≡ 7 ∷ 8 ∷ 9 ∷ []
all_bytes = refl

one_mark : sentinels_of pieces ≡ 5 ∷ []
one_mark = refl
