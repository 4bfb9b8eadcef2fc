-- The meanings and the faults of a word, by its kind (this project's own).
use Rattle.std.specs.Prelude.{◌≡◌, ◌≢◌, ◌⊎◌, ℕ, List, [], Option, Some, None, slice_get}
use Rattle.mrpc_table.specs.Lines.{IsIn, in_64_bits}
use Rattle.mrpc_table.specs.Names.{IsName}
use Rattle.mrpc_table.specs.declared.words.Decimal.{Decimal}
use Rattle.mrpc_table.specs.declared.words.Decimal.TheVariants.{Small}
use Rattle.script_grammar.specs.Keywords.{spelling}
use Rattle.script_grammar.specs.Values.{IsNumber, WrittenValue, IsValue, IsInRange, stored_word}
use Rattle.script_grammar.specs.declared.keyword.Keyword.{Keyword}
use Rattle.script_grammar.specs.declared.word_kind.WordKind.{WordKind}
use Rattle.script_grammar.specs.declared.word_kind.WordKind.TheVariants as sort
use Rattle.script_grammar.specs.declared.fault.ScriptReason.{ScriptReason}
use Rattle.script_grammar.specs.declared.fault.ScriptReason.TheVariants.{Number, Word, Name}

-- the meaning of a word, its value: a fixed word, a number, a number of any size, or a name
pub data Meaning : Type 0 where
  word : Keyword → Meaning
  number : ℕ → Meaning
  unbounded : Decimal → Meaning
  name : List ℕ → Meaning

-- a word of the sort has this meaning
abbrev pub HasMeaning : WordKind → List ℕ → Meaning → Type 0
HasMeaning (sort.Key k) w (word l) = (l ≡ k) × (w ≡ spelling k)
HasMeaning (sort.Fixed k) w (word l) = (l ≡ k) × (w ≡ spelling k)
HasMeaning (sort.Either k l) w (word m) = ((m ≡ k) ⊎ (m ≡ l)) × (w ≡ spelling m)
HasMeaning (sort.Number least most) w (number n) = IsNumber w n × IsIn least most n
HasMeaning sort.Unbounded w (unbounded d) = (n : ℕ) × IsNumber w n × (d ≡ in_64_bits n)
HasMeaning sort.Value w (number n) = (v : WrittenValue) × IsValue w v × IsInRange v × (n ≡ stored_word v)
HasMeaning sort.Name w (name x) = (x ≡ w) × IsName w
HasMeaning _ w _ = ⊥

-- a word is not one of the sort, for this reason
abbrev pub HasWordReason : WordKind → List ℕ → ScriptReason → Type 0
HasWordReason (sort.Key k) w reason = (w ≢ spelling k) × (reason ≡ Word)
HasWordReason (sort.Fixed k) w reason = (w ≢ spelling k) × (reason ≡ Word)
HasWordReason (sort.Either k l) w reason = (w ≢ spelling k) × (w ≢ spelling l) × (reason ≡ Word)
HasWordReason (sort.Number least most) w reason =
    (((n : ℕ) → IsNumber w n → ⊥) × (reason ≡ Word))
    ⊎ ((n : ℕ) × IsNumber w n × (IsIn least most n → ⊥) × (reason ≡ Number))
HasWordReason sort.Unbounded w reason = ((n : ℕ) → IsNumber w n → ⊥) × (reason ≡ Word)
HasWordReason sort.Value w reason =
    (((v : WrittenValue) → IsValue w v → ⊥) × (reason ≡ Word)) ⊎ ((v : WrittenValue) × IsValue w v × (IsInRange v → ⊥) × (reason ≡ Number))
HasWordReason sort.Name w reason = (IsName w → ⊥) × (reason ≡ Name)

-- ---- the meaning of the word at an index, counted from 0

abbrev pub number_in : Option Meaning → ℕ
number_in (Some (number n)) = n
number_in _ = 0

abbrev pub unbounded_in : Option Meaning → Decimal
unbounded_in (Some (unbounded d)) = d
unbounded_in _ = Small 0

abbrev pub name_in : Option Meaning → List ℕ
name_in (Some (name x)) = x
name_in _ = []

abbrev pub keyword_in : Option Meaning → Option Keyword
keyword_in (Some (word k)) = Some k
keyword_in _ = None

abbrev pub number_at : List Meaning → ℕ → ℕ
number_at meanings place = number_in (slice_get meanings place)

abbrev pub unbounded_at : List Meaning → ℕ → Decimal
unbounded_at meanings place = unbounded_in (slice_get meanings place)

abbrev pub name_at : List Meaning → ℕ → List ℕ
name_at meanings place = name_in (slice_get meanings place)

abbrev pub keyword_at : List Meaning → ℕ → Option Keyword
keyword_at meanings place = keyword_in (slice_get meanings place)
