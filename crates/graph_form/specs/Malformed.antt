-- Which graphs are malformed: the loads up to the word that ends them, and the reason.
use Rattle.std.specs.Prelude.{◌≡◌, ◌+◌, ◌≤◌, ℕ, List, [], ◌∷◌, ◌++◌, length, map, All}
use Rattle.mrpc_table.specs.Node.{Node}
use Rattle.mrpc_table.specs.declared.table.Table.{Table}
use Rattle.graph_form.specs.declared.reason.Reason.{Reason}
use Rattle.graph_form.specs.declared.reason.Reason.TheVariants.{Address, Presence, Case, Length, Utf8, Narrow, Depth, Loads, NoMethod}
use Rattle.graph_form.specs.Roles.{WordRole, Expected, expected_after, node_words, size_words}
use Rattle.graph_form.specs.Placed.{Placed, nothing, first, word, loads as loads_in, IsSpanInHeap, IsInvalidWord, IsValidWord, IsPlaced, IsSound}
use Rattle.graph_form.specs.Forgotten.{tree_of}

-- a word that was loaded: its role, its place and its value
pub record Loaded : Type 0 where
  pub role : WordRole
  pub place : ℕ
  pub number : ℕ

-- the words of a placed tree in load order, each with its expected role
abbrev pub loaded_words : Table → Expected → Placed → List Loaded
loaded_words T [] P = []
loaded_words T (e ∷ es) nothing = []
loaded_words T (e ∷ es) (first (word place v content) others) =
    record { role = e.0; place = place; number = v } ∷ loaded_words T (expected_after T e.0 place v) content ++ loaded_words T es others

abbrev pub loads_of_words : List Loaded → List (ℕ × ℕ)
loads_of_words words = map (λ w. (w.place, w.number)) words

abbrev pub AreValidWords : Table → ℕ → List Loaded → Type 0
AreValidWords T H words = All (λ w. IsValidWord T H w.role w.number) words

-- The order of the reasons. If a word has several, the first one counts.
abbrev pub reason_rank : Reason → ℕ
reason_rank Presence = 1
reason_rank Case = 2
reason_rank Length = 3
reason_rank Narrow = 4
reason_rank Utf8 = 5
reason_rank Address = 6
reason_rank Depth = 7
reason_rank Loads = 8
reason_rank NoMethod = 9

-- a word of the role with this number is invalid, and this is the first reason
pub record IsInvalidFirst (T : Table) (H : ℕ) (role : WordRole) (v : ℕ) (reason : Reason) : Type 0 where
  pub offends : IsInvalidWord T H role v reason
  pub first : (other : Reason) → IsInvalidWord T H role v other → reason_rank reason ≤ reason_rank other

-- of a placed tree of the message at this address, `before` was loaded and `after` would come next
pub record IsLoadPrefix (T : Table) (H msg address : ℕ) (before after : List Loaded) : Type 0 where
  pub root : IsSpanInHeap H address (size_words T msg)
  pub placed : Placed
  pub words : IsPlaced T H (node_words T msg 1 address) placed
  pub order : loaded_words T (node_words T msg 1 address) placed ≡ before ++ after

-- The graph at an address is malformed by these loads, for a reason, at the place and value of the last load.
pub data IsMalformed (T : Table) (H msg address limit : ℕ) (loads : List (ℕ × ℕ)) (reason : Reason)
    (place value : ℕ) : Type 0 where
  -- the root isn't inside the heap, and nothing was loaded
  no_root :
      (IsSpanInHeap H address (size_words T msg) → ⊥)
      → loads ≡ [] → reason ≡ Address → place ≡ 0 → value ≡ address
      → IsMalformed T H msg address limit loads reason place value
  -- the last word is the first invalid one, within the limit
  offends :
      (before after : List Loaded) (last : Loaded)
      → IsLoadPrefix T H msg address (before ++ last ∷ []) after
      → AreValidWords T H before → IsInvalidFirst T H last.role last.number reason → length loads ≤ limit
      → loads ≡ loads_of_words (before ++ last ∷ []) → place ≡ last.place → value ≡ last.number
      → IsMalformed T H msg address limit loads reason place value
  -- the limit is reached, all loaded words are valid, and one more is needed
  too_many :
      (before after : List Loaded) (last next : Loaded)
      → IsLoadPrefix T H msg address (before ++ last ∷ []) (next ∷ after)
      → AreValidWords T H (before ++ last ∷ []) → length loads ≡ limit
      → loads ≡ loads_of_words (before ++ last ∷ []) → reason ≡ Loads → place ≡ last.place → value ≡ last.number
      → IsMalformed T H msg address limit loads reason place value

-- ---- the outcome of the loads of a graph

pub data GraphOutcome : Type 0 where
  copied : Node → GraphOutcome
  malformed : Reason → (place value : ℕ) → GraphOutcome

-- The loads are those of a sound placed tree, at most `limit`, and the outcome is its tree. Or the loads make the
-- graph malformed.
pub data HasOutcome (T : Table) (H msg address limit : ℕ) (loads : List (ℕ × ℕ)) (outcome : GraphOutcome) : Type 0 where
  is_copied :
      (P : Placed) → IsSound T H msg address P
      → loads ≡ loads_in P → length loads ≤ limit → outcome ≡ copied (tree_of T msg P)
      → HasOutcome T H msg address limit loads outcome
  is_malformed :
      (reason : Reason) (place value : ℕ)
      → IsMalformed T H msg address limit loads reason place value → outcome ≡ malformed reason place value
      → HasOutcome T H msg address limit loads outcome

-- each load has the value that a reading gives for its place and its number; numbers count from `k`
abbrev pub AreReadBy : (ℕ → ℕ → ℕ) → ℕ → List (ℕ × ℕ) → Type 0
AreReadBy reading k [] = Unit {0}
AreReadBy reading k (load ∷ loads) = (load.1 ≡ reading k load.0) × AreReadBy reading (k + 1) loads
