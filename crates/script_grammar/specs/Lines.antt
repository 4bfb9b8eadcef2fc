-- The meanings of a line's words, the faults of a line, and which form a line has.
use Rattle.std.specs.Prelude.{◌≡◌, ◌≢◌, ◌⊎◌, ℕ, Bool, true, false, ◌&&◌, List, [], ◌∷◌, length}
use Rattle.std.specs.Str.{bytes_eq}
use Rattle.script_grammar.specs.Keywords.{spelling}
use Rattle.script_grammar.specs.WordKinds.{Meaning, HasMeaning, HasWordReason}
use Rattle.script_grammar.specs.declared.word_kind.WordKind.{WordKind}
use Rattle.script_grammar.specs.declared.word_kind.WordKind.TheVariants.{Key}
use Rattle.script_grammar.specs.declared.fault.ScriptReason.{ScriptReason}
use Rattle.script_grammar.specs.declared.fault.ScriptReason.TheVariants.{Word}

-- each word has its sort and this meaning
abbrev pub HaveMeanings : List WordKind → List (List ℕ) → List Meaning → Type 0
HaveMeanings [] [] [] = Unit {0}
HaveMeanings (s ∷ sorts) (w ∷ words) (m ∷ meanings) = HasMeaning s w m × HaveMeanings sorts words meanings
HaveMeanings _ _ _ = ⊥

-- at least one word has this reason, by its sort
abbrev pub HasReasonInWords : List WordKind → List (List ℕ) → ScriptReason → Type 0
HasReasonInWords (s ∷ sorts) (w ∷ words) reason = HasWordReason s w reason ⊎ HasReasonInWords sorts words reason
HasReasonInWords _ _ reason = ⊥

-- a line has this reason under a list of sorts; if the number of words differs, it is Word alone
pub data HasReason (sorts : List WordKind) (words : List (List ℕ)) (reason : ScriptReason) : Type 0 where
  miscounted : length words ≢ length sorts → reason ≡ Word → HasReason sorts words reason
  in_word : length words ≡ length sorts → HasReasonInWords sorts words reason → HasReason sorts words reason

-- a key word of a form has to match
abbrev pub fits_key : WordKind → List ℕ → Bool
fits_key (Key k) word = bytes_eq word (spelling k)
fits_key _ word = true

-- the words fit a form with these sorts: their number is equal, and each key word matches
abbrev pub has_form : List WordKind → List (List ℕ) → Bool
has_form [] [] = true
has_form (s ∷ sorts) (w ∷ words) = fits_key s w && has_form sorts words
has_form _ _ = false
