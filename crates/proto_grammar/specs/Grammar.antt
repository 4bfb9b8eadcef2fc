-- The parts of statements: names, types, numbers, options, reserved numbers and names (Protocol Buffers, proto3
-- language specification; where it is narrower or wider, this project's own).
use Rattle.std.specs.Prelude.{◌≡◌, ◌≢◌, ◌⊎◌, ℕ, suc, Bool, true, false, List, [], ◌∷◌, ◌++◌, codes, Option, Some, None}
use Rattle.std.specs.Prelude.{if◌then◌else◌}
use Rattle.mrpc_table.specs.declared.words.Decimal.{Decimal}
use Rattle.proto_grammar.specs.Lexemes.{Lexeme, integer, number, string, mark, the_end, none, is_the_word, is_one_of_words, IsWord}
use Rattle.proto_ast.specs.Dot.{dot}
use Rattle.proto_grammar.specs.Lexemes.{IsPunctuator, comma, equals, minus, plus, opening_brace, closing_brace}
use Rattle.proto_grammar.specs.Lexemes.{opening_paren, closing_paren, opening_bracket, closing_bracket, less, greater}
use Rattle.proto_grammar.specs.Lexemes.{span_to, make_word, dotted_name, rooted, make_number}
use Rattle.proto_ast.specs.declared.file.Word.{Word}
use Rattle.proto_ast.specs.declared.file.Number.{Number}
use Rattle.proto_ast.specs.declared.file.Range.{Range}
use Rattle.proto_ast.specs.declared.file.FieldType.{FieldType}
use Rattle.proto_ast.specs.declared.file.FieldType.TheVariants.{Named, Map, NestedMap}

-- ---- names

-- names joined by dots
pub data IsDottedName : List Lexeme → Word → Type 0 where
  one : (x : Lexeme) (name : List ℕ) → IsWord x name → IsDottedName (x ∷ []) (make_word name x.span)
  more : (x y : Lexeme) (name : List ℕ) (zs : List Lexeme) (w : Word) → IsWord x name → IsPunctuator y dot → IsDottedName zs w
      → IsDottedName (x ∷ y ∷ zs) (dotted_name name x.span w)

-- a full name, optionally after a dot
pub data IsTypeName : List Lexeme → Word → Type 0 where
  relative : {ys : List Lexeme} {w : Word} → IsDottedName ys w → IsTypeName ys w
  absolute : (x : Lexeme) {ys : List Lexeme} {w : Word} → IsPunctuator x dot → IsDottedName ys w
      → IsTypeName (x ∷ ys) (rooted x.span w)

-- the first of these tokens is one of these words
abbrev pub starts_with_word : List (List ℕ) → List Lexeme → Bool
starts_with_word words [] = false
starts_with_word words (x ∷ xs) = is_one_of_words x words

-- ---- types

-- the words that no type of a field starts with
abbrev pub group_word : List (List ℕ)
group_word = codes "group" ∷ []

-- in a oneof
abbrev pub member_words : List (List ℕ)
member_words = codes "option" ∷ group_word

-- in a message, if no label precedes the type
abbrev pub statement_words : List (List ℕ)
statement_words =
    codes "message" ∷ codes "enum" ∷ codes "oneof" ∷ codes "reserved" ∷ codes "extend" ∷ codes "extensions"
    ∷ codes "optional" ∷ codes "repeated" ∷ member_words

-- `map`, `<`, the type of a map's key, and a comma
pub data IsMapKey : List Lexeme → Word → Type 0 where
  map_key : (x y z : Lexeme) {ys all : List Lexeme} {w : Word} → IsWord x (codes "map") → IsPunctuator y less → IsTypeName ys w
      → starts_with_word group_word ys ≡ false → IsPunctuator z comma → all ≡ x ∷ y ∷ ys ++ z ∷ [] → IsMapKey all w

-- a map whose value is also a map, nested any number of times
pub data IsNestedMap : List Lexeme → Type 0 where
  innermost : (x : Lexeme) {ks ys all : List Lexeme} {k w : Word} → IsMapKey ks k → IsTypeName ys w
      → starts_with_word group_word ys ≡ false → IsPunctuator x greater → all ≡ ks ++ ys ++ x ∷ [] → IsNestedMap all
  around : (x : Lexeme) {ks ys all : List Lexeme} {k : Word} → IsMapKey ks k → IsNestedMap ys → IsPunctuator x greater
      → all ≡ ks ++ ys ++ x ∷ [] → IsNestedMap all

-- the type of a field, whose first word is none of these
pub data IsFieldType (words : List (List ℕ)) : List Lexeme → FieldType → Type 0 where
  named : {ys : List Lexeme} {w : Word} → IsTypeName ys w → starts_with_word words ys ≡ false → IsFieldType words ys (Named w)
  a_map : (x : Lexeme) {ks ys all : List Lexeme} {k w : Word} → IsMapKey ks k → IsTypeName ys w
      → starts_with_word group_word ys ≡ false → IsPunctuator x greater → all ≡ ks ++ ys ++ x ∷ []
      → IsFieldType words all (Map k w)
  map_of_maps : (x : Lexeme) {ks ys all : List Lexeme} {k : Word} → IsMapKey ks k → IsNestedMap ys → IsPunctuator x greater
      → all ≡ ks ++ ys ++ x ∷ [] → IsFieldType words all (NestedMap k)

-- the type of an rpc; nothing follows `stream`
pub data IsRpcType : List Lexeme → Word → Type 0 where
  stream_type : (x : Lexeme) → IsWord x (codes "stream") → IsRpcType (x ∷ []) (make_word (codes "stream") x.span)
  other_type : {ys : List Lexeme} {w : Word} → IsTypeName ys w → starts_with_word (codes "stream" ∷ group_word) ys ≡ false
      → IsRpcType ys w

-- ---- numbers

-- an integer; in an enum, optionally after `-`
pub data IsNumberToken (signed : Bool) : List Lexeme → Number → Type 0 where
  whole : (x : Lexeme) (value : Decimal) → x.means ≡ integer value
      → IsNumberToken signed (x ∷ []) (make_number false value x.span)
  negative : (x y : Lexeme) (value : Decimal) → signed ≡ true → IsPunctuator x minus → y.means ≡ integer value
      → IsNumberToken signed (x ∷ y ∷ []) (make_number true value (span_to x.span y.span))

-- ---- options

-- nested braces: a list of tokens whose end closes the last of n open braces, and no earlier token does
pub data ClosesBraces : ℕ → List Lexeme → Type 0 where
  last_brace : (x : Lexeme) → IsPunctuator x closing_brace → ClosesBraces 1 (x ∷ [])
  closing : (x : Lexeme) {n : ℕ} {ys : List Lexeme} → IsPunctuator x closing_brace → ClosesBraces (suc n) ys
      → ClosesBraces (suc (suc n)) (x ∷ ys)
  opening : (x : Lexeme) {n : ℕ} {ys : List Lexeme} → IsPunctuator x opening_brace → ClosesBraces (suc n) ys → ClosesBraces n (x ∷ ys)
  other : (x : Lexeme) {n : ℕ} {ys : List Lexeme} → x.means ≢ mark closing_brace → x.means ≢ mark opening_brace
      → x.means ≢ the_end → x.means ≢ none → ClosesBraces n ys → ClosesBraces n (x ∷ ys)

-- one or more strings
pub data AreStrings : List Lexeme → Type 0 where
  one_string : (x : Lexeme) (value : List ℕ) → x.means ≡ string value → AreStrings (x ∷ [])
  strings : (x : Lexeme) (value : List ℕ) {ys : List Lexeme} → x.means ≡ string value → AreStrings ys → AreStrings (x ∷ ys)

-- a number of any form
pub data IsAnyNumber (x : Lexeme) : Type 0 where
  an_integer : (value : Decimal) → x.means ≡ integer value → IsAnyNumber x
  a_number : x.means ≡ number → IsAnyNumber x

-- `true` or `false`, if it is the whole value
abbrev pub truth : List Lexeme → Option Bool
truth (x ∷ []) =
    if is_the_word x.means (codes "true") then Some true else if is_the_word x.means (codes "false") then Some false else None
truth _ = None

-- a full name, a number with an optional sign, strings, or a block in braces
pub data IsOptionValue : List Lexeme → Type 0 where
  a_name : {ys : List Lexeme} {w : Word} → IsDottedName ys w → IsOptionValue ys
  unsigned : (x : Lexeme) → IsAnyNumber x → IsOptionValue (x ∷ [])
  signed : (x y : Lexeme) → (IsPunctuator x minus) ⊎ (IsPunctuator x plus) → IsAnyNumber y → IsOptionValue (x ∷ y ∷ [])
  texts : {ys : List Lexeme} → AreStrings ys → IsOptionValue ys
  block : (x : Lexeme) {ys : List Lexeme} → IsPunctuator x opening_brace → ClosesBraces 1 ys → IsOptionValue (x ∷ ys)

-- a part of an option's name: a name, or a full name in parentheses, optionally after a dot
pub data IsOptionNamePart : List Lexeme → Type 0 where
  plain_part : (x : Lexeme) (name : List ℕ) → IsWord x name → IsOptionNamePart (x ∷ [])
  custom_part : (x z : Lexeme) {ys all : List Lexeme} {w : Word} → IsPunctuator x opening_paren → IsTypeName ys w
      → IsPunctuator z closing_paren → all ≡ x ∷ ys ++ z ∷ [] → IsOptionNamePart all

-- parts joined by dots
pub data IsOptionName : List Lexeme → Type 0 where
  one_part : {ys : List Lexeme} → IsOptionNamePart ys → IsOptionName ys
  parts : (x : Lexeme) {ys zs all : List Lexeme} → IsOptionNamePart ys → IsPunctuator x dot → IsOptionName zs → all ≡ ys ++ x ∷ zs
      → IsOptionName all

-- the name is `packed`
abbrev pub is_packed_name : List Lexeme → Bool
is_packed_name (x ∷ []) = is_the_word x.means (codes "packed")
is_packed_name _ = false

-- an option, and the value that it gives to `packed`
pub data IsOption : List Lexeme → Option Bool → Type 0 where
  option : (x : Lexeme) {ys zs all : List Lexeme} {says_packed : Option Bool} → IsOptionName ys → IsPunctuator x equals
      → IsOptionValue zs → all ≡ ys ++ x ∷ zs → says_packed ≡ (if is_packed_name ys then truth zs else None)
      → IsOption all says_packed

-- the last option that gives a value counts
abbrev pub latest : Option Bool → Option Bool → Option Bool
latest first (Some b) = Some b
latest first None = first

-- options separated by commas
pub data AreOptions : List Lexeme → Option Bool → Type 0 where
  one_option : {ys : List Lexeme} {b : Option Bool} → IsOption ys b → AreOptions ys b
  options : (x : Lexeme) {ys zs all : List Lexeme} {b d : Option Bool} → IsOption ys b → IsPunctuator x comma
      → AreOptions zs d → all ≡ ys ++ x ∷ zs → AreOptions all (latest b d)

-- options in brackets, or none
pub data AreFieldOptions : List Lexeme → Option Bool → Type 0 where
  no_options : AreFieldOptions [] None
  bracketed : (x z : Lexeme) {ys all : List Lexeme} {b : Option Bool} → IsPunctuator x opening_bracket → AreOptions ys b
      → IsPunctuator z closing_bracket → all ≡ x ∷ ys ++ z ∷ [] → AreFieldOptions all b

-- ---- reserved numbers and names

-- a number, numbers `a to b`, or numbers `a to max`
pub data IsRange (signed : Bool) : List Lexeme → Range → Type 0 where
  single : {ys : List Lexeme} {n : Number} → IsNumberToken signed ys n
      → IsRange signed ys (record { first = n; last = Some n })
  between : (x : Lexeme) {ys zs all : List Lexeme} {m n : Number} → IsNumberToken signed ys m → IsWord x (codes "to")
      → IsNumberToken signed zs n → all ≡ ys ++ x ∷ zs → IsRange signed all (record { first = m; last = Some n })
  up_from : (x y : Lexeme) {ys all : List Lexeme} {m : Number} → IsNumberToken signed ys m → IsWord x (codes "to")
      → IsWord y (codes "max") → all ≡ ys ++ x ∷ y ∷ [] → IsRange signed all (record { first = m; last = None })

pub data AreRanges (signed : Bool) : List Lexeme → List Range → Type 0 where
  one_range : {ys : List Lexeme} {r : Range} → IsRange signed ys r → AreRanges signed ys (r ∷ [])
  ranges : (x : Lexeme) {ys zs all : List Lexeme} {r : Range} {rs : List Range} → IsRange signed ys r → IsPunctuator x comma
      → AreRanges signed zs rs → all ≡ ys ++ x ∷ zs → AreRanges signed all (r ∷ rs)

pub data AreNameStrings : List Lexeme → List Word → Type 0 where
  one_name : (x : Lexeme) (name : List ℕ) → x.means ≡ string name → AreNameStrings (x ∷ []) (make_word name x.span ∷ [])
  names : (x y : Lexeme) (name : List ℕ) {ys : List Lexeme} {ws : List Word} → x.means ≡ string name → IsPunctuator y comma
      → AreNameStrings ys ws → AreNameStrings (x ∷ y ∷ ys) (make_word name x.span ∷ ws)
