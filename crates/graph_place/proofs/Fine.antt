-- Which words are valid.
use Rattle.std.proofs.Common.{◌≡◌, ◌≢◌, ℕ, ◌+◌, ◌*◌, ◌/◌, ◌<◌, ◌≤◌, ◌^◌, Bool, false, List, ◌++◌, take, Some, arith, inl, inr}
use Rattle.std.specs.Str.{IsUtf8}
use Rattle.mrpc_table.specs.Normal.{field_at}
use Rattle.mrpc_table.specs.Words.{IsWordForm}
use Rattle.mrpc_table.specs.declared.table.Kind.{Kind}
use Rattle.mrpc_table.specs.declared.table.Kind.TheVariants.{Text}
use Rattle.mrpc_table.specs.declared.table.Label.TheVariants.{Member}
use Rattle.mrpc_table.specs.declared.table.Field.{Field}
use Rattle.mrpc_table.specs.declared.table.Table.{Table}
use Rattle.graph_form.specs.declared.reason.Reason.TheVariants.{Address, Presence, Case, Length, Utf8, Narrow, Depth}
use Rattle.graph_form.specs.Roles.{value, presence, run_length, run_presence, run_address, run_word, link, count}
use Rattle.graph_form.specs.Roles.{elements_address, entry_count, entries_address, case_word, element_words}
use Rattle.graph_form.specs.Roles.{run_words, size_words, word_bytes}
use Rattle.graph_form.specs.Placed.{IsValidWord}

pub fine_value : (T : Table) (H : ℕ) (k : Kind) (v : ℕ) → IsWordForm k v → IsValidWord T H (value k) v
fine_value T H k v form Narrow h = h form
fine_value T H k v form _ h = h

pub fine_presence : (T : Table) (H : ℕ) (k : Kind) (v : ℕ) → v ≤ 1 → IsValidWord T H (presence k) v
fine_presence T H k v few Presence h = omega (arith, few, h)
fine_presence T H k v few _ h = h

pub fine_run_length : (T : Table) (H : ℕ) (k : Kind) (v : ℕ) → run_words v < H → IsValidWord T H (run_length k) v
fine_run_length T H k v few Length h = omega (arith, few, h)
fine_run_length T H k v few _ h = h

pub fine_run_presence : (T : Table) (H : ℕ) (k : Kind) (v : ℕ) → (v + 6) / 8 < H → IsValidWord T H (run_presence k) v
fine_run_presence T H k v few Length h = omega (arith, few, h)
fine_run_presence T H k v few _ h = h

pub fine_run_address : (T : Table) (H : ℕ) (k : Kind) (bytes v : ℕ) → 1 ≤ v → v + run_words bytes ≤ H → IsValidWord T H (run_address k bytes) v
fine_run_address T H k bytes v from to Address h = h (record { from_one = from; to_end = to })
fine_run_address T H k bytes v from to _ h = h

pub fine_run_word : (T : Table) (H : ℕ) (k : Kind) (left : ℕ) (before : List ℕ) (v : ℕ)
    → (left < 8 → v < 2 ^ (8 * left)) → (k ≡ Text → left ≤ 8 → IsUtf8 (before ++ take left (word_bytes v)))
    → IsValidWord T H (run_word k left before) v
fine_run_word T H k left before v narrow text Narrow h = let below = narrow h.0 in omega (arith, below, h.1)
fine_run_word T H Text left before v narrow text Utf8 h = h.1 (text (λ i. Text) h.0)
fine_run_word T H k left before v narrow text _ h = h

pub fine_link : (T : Table) (H m depth : ℕ) (needed : Bool) (v : ℕ) → 1 ≤ v → v + size_words T m ≤ H → depth < 32 → IsValidWord T H (link m depth needed) v
fine_link T H m depth needed v from to few Address h = h.1 (record { from_one = from; to_end = to })
fine_link T H m depth needed v from to few Depth h = omega (arith, few, h.1)
fine_link T H m depth needed v from to few _ h = h

-- an absent message
pub fine_absent : (T : Table) (H m depth : ℕ) (needed : Bool) → needed ≡ false → IsValidWord T H (link m depth needed) 0
fine_absent T H m depth needed fails Address h = elim h.0 [ inl some ↦ some (λ i. 0) | inr must ↦ absurd (cc) ]
fine_absent T H m depth needed fails Depth h = h.0 (λ i. 0)
fine_absent T H m depth needed fails _ h = h

pub fine_count : (T : Table) (H : ℕ) (k : Kind) (depth v : ℕ) → v * element_words k < H → IsValidWord T H (count k depth) v
fine_count T H k depth v few Length h = omega (arith, few, h)
fine_count T H k depth v few _ h = h

pub fine_elements : (T : Table) (H : ℕ) (k : Kind) (elements depth v : ℕ) → 1 ≤ v → v + elements * element_words k ≤ H → IsValidWord T H (elements_address k elements depth) v
fine_elements T H k elements depth v from to Address h = h (record { from_one = from; to_end = to })
fine_elements T H k elements depth v from to _ h = h

pub fine_entry_count : (T : Table) (H : ℕ) (key k : Kind) (depth v : ℕ) → 4 * v < H → IsValidWord T H (entry_count key k depth) v
fine_entry_count T H key k depth v few Length h = omega (arith, few, h)
fine_entry_count T H key k depth v few _ h = h

pub fine_entries : (T : Table) (H : ℕ) (key k : Kind) (entries depth v : ℕ) → 1 ≤ v → v + 4 * entries ≤ H → IsValidWord T H (entries_address key k entries depth) v
fine_entries T H key k entries depth v from to Address h = h (record { from_one = from; to_end = to })
fine_entries T H key k entries depth v from to _ h = h

pub fine_case : (T : Table) (H : ℕ) (fs : List Field) (oneof depth v : ℕ)
    → (v ≢ 0 → (f : Field) × (field_at fs v ≡ Some f) × (f.label ≡ Member oneof))
    → IsValidWord T H (case_word fs oneof depth) v
fine_case T H fs oneof depth v known Case h = let f = known h.0 in h.1 f.0 f.1 f.2
fine_case T H fs oneof depth v known _ h = h
