-- A placed tree: a finite tree of words, each with its place and value. A table, a type and an address give the words
-- their roles. Also: its loads in order, and which words are invalid.
use Rattle.std.specs.Prelude.{◌≡◌, ◌≢◌, ◌⊎◌, ℕ, ◌+◌, ◌*◌, ◌/◌, ◌<◌, ◌≤◌, ◌^◌, IsTrue, List, [], ◌∷◌, ◌++◌, take, Some}
use Rattle.std.specs.Str.{IsUtf8}
use Rattle.mrpc_table.specs.Normal.{field_at}
use Rattle.mrpc_table.specs.Words.{IsWordForm}
use Rattle.mrpc_table.specs.declared.limits.TheConstants.{MAX_DEPTH}
use Rattle.mrpc_table.specs.declared.table.Kind.TheVariants.{Text}
use Rattle.mrpc_table.specs.declared.table.Label.TheVariants.{Member}
use Rattle.mrpc_table.specs.declared.table.Field.{Field}
use Rattle.mrpc_table.specs.declared.table.Table.{Table}
use Rattle.graph_form.specs.declared.reason.Reason.{Reason}
use Rattle.graph_form.specs.declared.reason.Reason.TheVariants.{Address, Presence, Case, Length, Utf8, Narrow, Depth}
use Rattle.graph_form.specs.Roles.{WordRole, value, presence, run_length, run_presence, run_address, run_word, link, count, elements_address, entry_count, entries_address, case_word, Expected, expected_after, element_words, node_words, run_words, size_words, word_bytes}

mutual
  -- words side by side, in order
  pub data Placed : Type 0 where
    nothing : Placed
    first : Word → Placed → Placed

  -- a word at a place, with the words that are loaded because of it
  pub data Word : Type 0 where
    word : (place number : ℕ) → (content : Placed) → Word

-- places and values in load order, depth first
abbrev pub loads : Placed → List (ℕ × ℕ)
loads nothing = []
loads (first (word place number content) others) = (place, number) ∷ loads content ++ loads others

-- a span of words is inside a heap of H words; word 0 belongs to no message
pub record IsSpanInHeap (H place words : ℕ) : Type 0 where
  pub from_one : 1 ≤ place
  pub to_end : place + words ≤ H

-- a word of the role with this number is invalid for the reason
abbrev pub IsInvalidWord : Table → ℕ → WordRole → ℕ → Reason → Type 0
IsInvalidWord T H (value k) v Narrow = IsWordForm k v → ⊥
IsInvalidWord T H (presence k) v Presence = 1 < v
IsInvalidWord T H (run_length k) v Length = H ≤ run_words v
IsInvalidWord T H (run_presence k) v Length = H ≤ (v + 6) / 8
IsInvalidWord T H (run_address k bytes) v Address = IsSpanInHeap H v (run_words bytes) → ⊥
IsInvalidWord T H (run_word k left before) v Narrow = (left < 8) × (2 ^ (8 * left) ≤ v)
IsInvalidWord T H (run_word Text left before) v Utf8 = (left ≤ 8) × (IsUtf8 (before ++ take left (word_bytes v)) → ⊥)
IsInvalidWord T H (link m depth needed) v Address = ((v ≢ 0) ⊎ IsTrue needed) × (IsSpanInHeap H v (size_words T m) → ⊥)
IsInvalidWord T H (link m depth needed) v Depth = (v ≢ 0) × (MAX_DEPTH ≤ depth)
IsInvalidWord T H (count k depth) v Length = H ≤ v * element_words k
IsInvalidWord T H (elements_address k elements depth) v Address = IsSpanInHeap H v (elements * element_words k) → ⊥
IsInvalidWord T H (entry_count key k depth) v Length = H ≤ 4 * v
IsInvalidWord T H (entries_address key k entries depth) v Address = IsSpanInHeap H v (4 * entries) → ⊥
IsInvalidWord T H (case_word fs oneof depth) v Case = (v ≢ 0)
    × ((f : Field) → field_at fs v ≡ Some f → f.label ≡ Member oneof → ⊥)
IsInvalidWord T H _ v _ = ⊥

abbrev pub IsValidWord : Table → ℕ → WordRole → ℕ → Type 0
IsValidWord T H role v = (reason : Reason) → IsInvalidWord T H role v reason → ⊥

abbrev pub IsInvalid : Table → ℕ → WordRole → ℕ → Type 0
IsInvalid T H role v = (reason : Reason) × IsInvalidWord T H role v reason

-- the words are the expected ones; an invalid word has no content
abbrev pub IsPlaced : Table → ℕ → Expected → Placed → Type 0
IsPlaced T H [] nothing = Unit {0}
IsPlaced T H (e ∷ es) (first (word place v content) others) =
    (place ≡ e.1) × (v < 2 ^ 64)
    × ((IsValidWord T H e.0 v × IsPlaced T H (expected_after T e.0 place v) content)
    ⊎ (IsInvalid T H e.0 v × (content ≡ nothing))) × IsPlaced T H es others
IsPlaced T H _ _ = ⊥

-- the words are the expected ones, and all are valid
abbrev pub AreSound : Table → ℕ → Expected → Placed → Type 0
AreSound T H [] nothing = Unit {0}
AreSound T H (e ∷ es) (first (word place v content) others) =
    (place ≡ e.1) × (v < 2 ^ 64) × IsValidWord T H e.0 v × AreSound T H (expected_after T e.0 place v) content
    × AreSound T H es others
AreSound T H _ _ = ⊥

-- a sound placed tree of the message at an index of the table, at an address of a heap of H words
pub record IsSound (T : Table) (H msg address : ℕ) (P : Placed) : Type 0 where
  pub root : IsSpanInHeap H address (size_words T msg)
  pub words : AreSound T H (node_words T msg 1 address) P
