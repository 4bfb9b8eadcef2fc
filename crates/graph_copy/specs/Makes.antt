-- The code's own: what is made from the loads of sound words.
use Rattle.std.specs.Prelude.{◌≡◌, ◌<◌, ◌^◌, ℕ, List, [], ◌∷◌, ◌++◌}
use Rattle.mrpc_table.specs.Node.{Node}
use Rattle.mrpc_table.specs.View.{content_of}
use Rattle.mrpc_table.specs.declared.tree.FieldValue.{FieldValue}
use Rattle.mrpc_table.specs.declared.table.Table.{Table}
use Rattle.mrpc_table.specs.declared.table.Field.{Field}
use Rattle.graph_form.specs.Roles.{WordRole as Use, Expected, expected_after, slots_from}
use Rattle.graph_form.specs.Placed.{Placed, Word, word, loads, IsValidWord, AreSound}
use Rattle.graph_form.specs.Forgotten.{insert_field, slots_tree}

-- the fields of a list added to a tree; the last one is added first
abbrev pub insert_all : List (ℕ × FieldValue) → Node → Node
insert_all [] t = t
insert_all (f ∷ fs) t = insert_field f.0 (content_of f.1) (insert_all fs t)

-- if a list starts with the loads of expected words, something is made of their placed tree, and the suffix remains
abbrev pub IsMadeFrom : Table → Expected → List (ℕ × ℕ) → List (ℕ × ℕ) → (Placed → Type 0) → Type 0
IsMadeFrom T es before after Made =
    (H : ℕ) (P : Placed) (rest : List (ℕ × ℕ)) → AreSound T H es P → before ≡ loads P ++ rest → Made P × (after ≡ rest)

-- like `IsMadeFrom`, for one word
abbrev pub IsMadeFromWord : Table → Use × ℕ → List (ℕ × ℕ) → List (ℕ × ℕ) → (Word → Type 0) → Type 0
IsMadeFromWord T e before after Made =
    (H v : ℕ) (content : Placed) (rest : List (ℕ × ℕ)) → v < 2 ^ 64 → IsValidWord T H e.0 v
    → AreSound T H (expected_after T e.0 e.1 v) content
    → before ≡ (e.1, v) ∷ loads content ++ rest → Made (word e.1 v content) × (after ≡ rest)

-- like `IsMadeFrom`, for what follows a word that was taken
abbrev pub IsMadeFromContent : Table → Use × ℕ → ℕ → List (ℕ × ℕ) → List (ℕ × ℕ) → (Placed → Type 0) → Type 0
IsMadeFromContent T e v before after Made =
    (H : ℕ) (content : Placed) (rest : List (ℕ × ℕ)) → IsValidWord T H e.0 v → AreSound T H (expected_after T e.0 e.1 v) content
    → before ≡ loads content ++ rest → Made content × (after ≡ rest)

-- Like `IsMadeFrom`, for the slots of fields, where other words are expected after them. The placed tree of those others
-- remains, and the fields are put before what it has.
pub record AreSlotsMade (T : Table) (H : ℕ) (fs slots : List Field) (others : Expected) (P : Placed)
    (rest after : List (ℕ × ℕ)) (found more : List (ℕ × FieldValue)) : Type 0 where
  pub left : Placed
  pub sound : AreSound T H others left
  pub after_is : after ≡ loads left ++ rest
  pub made : insert_all found (slots_tree T fs slots P) ≡ insert_all more (slots_tree T fs [] left)

abbrev pub IsMadeFromSlots : Table → List Field → List Field → ℕ → ℕ → List (ℕ × ℕ) → List (ℕ × ℕ) → List (ℕ × FieldValue)
    → List (ℕ × FieldValue) → Type 0
IsMadeFromSlots T fs slots depth place before after found more =
    (H : ℕ) (others : Expected) (P : Placed) (rest : List (ℕ × ℕ))
    → AreSound T H (slots_from slots depth place ++ others) P
    → before ≡ loads P ++ rest → AreSlotsMade T H fs slots others P rest after found more
