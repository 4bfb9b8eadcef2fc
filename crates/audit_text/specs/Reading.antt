-- The code's own: how the words of a line are read, one after another.
use Rattle.std.specs.Prelude.{◌≡◌, ℕ, nat_lt, List, [], ◌∷◌, Option, Some, None, option_and_then, if◌then◌else◌, Result, Ok, Err}
use Rattle.std.specs.Borrow.{Bor}
use Rattle.mrpc_table.specs.Lines.{words_of, number_of}
use Rattle.mrpc_table.specs.Names.{is_name_form}
use Rattle.mrpc_table.specs.declared.memory.Memory.{Memory}
use Rattle.audit_text.specs.Lines.{WordList}

infixl 10 ◌>>=◌
abbrev pub ◌>>=◌ : {A B : Type 0} → Option A → (A → Option B) → Option B
o >>= f = option_and_then f o

-- the remaining words
abbrev pub words_in : Option (Bor (List ℕ)) → WordList
words_in None = []
words_in (Some text) = words_of text.now

-- a value is read exactly if the words are its words, unless the call runs out of memory
abbrev pub IsExactReading : {A : Type 0} → (A → Type 0) → (A → WordList) → WordList → Result (Option A) Memory → Type 0
IsExactReading Holds words_for words (Ok (Some x)) = Holds x × (words ≡ words_for x)
IsExactReading {A} Holds words_for words (Ok None) = (x : A) → Holds x → words ≡ words_for x → ⊥
IsExactReading Holds words_for words (Err e) = Unit {0}

-- ---- words

abbrev pub read_word : WordList → Option (List ℕ × WordList)
read_word [] = None
read_word (w ∷ ws) = Some (w, ws)

abbrev pub read_end : WordList → Option (Unit {0})
read_end [] = Some tt
read_end (w ∷ ws) = None

abbrev pub below : ℕ → ℕ → WordList → Option (ℕ × WordList)
below bound n words = if nat_lt n bound then Some (n, words) else None

abbrev pub number_from : ℕ → Option ℕ → WordList → Option (ℕ × WordList)
number_from bound None words = None
number_from bound (Some n) words = below bound n words

unfoldable pub read_number : ℕ → WordList → Option (ℕ × WordList)
read_number bound words = read_word words >>= (λ w. number_from bound (number_of w.0) w.1)

unfoldable pub read_last_number : ℕ → WordList → Option ℕ
read_last_number bound words = do
  n ← read_number bound words
  end ← read_end n.1
  Some n.0

unfoldable pub read_name : WordList → Option (List ℕ × WordList)
read_name words = read_word words >>= (λ w. if is_name_form w.0 then Some w else None)
