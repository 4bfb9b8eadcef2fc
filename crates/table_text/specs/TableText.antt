-- The text of a table within a text: after a head, and up to a line `end`.
use Rattle.std.specs.Prelude.{◌≡◌, ◌≢◌, ◌⊎◌, ℕ, List, [], ◌∷◌, ◌++◌, codes, All, Contains}
use Rattle.std.specs.List.{flat_map}

-- the text is the head, the table's text, the first line `end`, and the remainder; the table's text consists of whole
-- lines
pub record HasTableAfter (head text table rest : List ℕ) : Type 0 where
  -- without their line feeds
  pub lines : List (List ℕ)
  pub table_is : table ≡ flat_map (λ l. l ++ 10 ∷ []) lines
  pub whole : All (λ l. Contains l 10 → ⊥) lines
  pub before_end : All (λ l. l ≢ codes "end") lines
  pub text_is : text ≡ head ++ (table ++ (codes "end\n" ++ rest))

-- the text is the head and the table's text, and no line `end` follows the head
pub record IsEndless (head text table : List ℕ) : Type 0 where
  pub text_is : text ≡ head ++ table
  pub endless : (other rest : List ℕ) → HasTableAfter head text other rest → ⊥

-- this is the text of the table after the head: up to the first line `end`, or all of the remainder if there is none
abbrev pub IsTableAfter : (head text table : List ℕ) → Type 0
IsTableAfter head text table = ((rest : List ℕ) × HasTableAfter head text table rest) ⊎ IsEndless head text table
