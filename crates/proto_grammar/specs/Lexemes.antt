-- The tokens of a text with their meanings.
use Rattle.proto_ast.specs.Dot.{dot}
use Rattle.std.specs.Prelude.{◌≡◌, ℕ, ◌==◌, ◌||◌, Bool, true, false, List, ◌∷◌, ◌++◌, map}
use Rattle.std.specs.List.{list_any}
use Rattle.std.specs.Str.{bytes_eq}
use Rattle.mrpc_table.specs.declared.words.Decimal.{Decimal}
use Rattle.proto_lexer.specs.Tokens.{literal_of}
use Rattle.proto_lexer.specs.Strings.{string_value}
use Rattle.proto_lexer.specs.declared.token.TokenKind.{TokenKind}
use Rattle.proto_lexer.specs.declared.token.TokenKind.TheVariants as kinds
use Rattle.proto_lexer.specs.declared.token.Token.{Token}
use Rattle.proto_ast.specs.declared.file.Span.{Span}
use Rattle.proto_ast.specs.declared.file.Word.{Word}
use Rattle.proto_ast.specs.declared.file.Number.{Number}

-- what a token means: a name, an integer, another number, the value of a string, a punctuator, the end of the text,
-- or that no token starts here
pub data TokenMeaning : Type 0 where
  identifier : List ℕ → TokenMeaning
  integer : Decimal → TokenMeaning
  number : TokenMeaning
  string : List ℕ → TokenMeaning
  mark : ℕ → TokenMeaning
  the_end : TokenMeaning
  none : TokenMeaning

abbrev pub meaning : TokenKind → List ℕ → TokenMeaning
meaning kinds.Identifier literal = identifier literal
meaning (kinds.Integer value) literal = integer value
meaning kinds.Number literal = number
meaning kinds.Text literal = string (string_value literal)
meaning (kinds.Mark c) literal = mark c
meaning kinds.End literal = the_end
meaning kinds.Bad literal = none

pub record Lexeme : Type 0 where
  pub means : TokenMeaning
  pub span : Span

abbrev pub span_of : Token → Span
span_of t = record { start = t.start; end = t.end; line = t.line }

abbrev pub lexeme : List ℕ → Token → Lexeme
lexeme text t = record { means = meaning t.kind (literal_of text t); span = span_of t }

abbrev pub lexemes : List ℕ → List Token → List Lexeme
lexemes text ts = map (lexeme text) ts

-- what a lexeme is: this word, this punctuator
abbrev pub IsWord : Lexeme → List ℕ → Type 0
IsWord x word = x.means ≡ identifier word

abbrev pub IsPunctuator : Lexeme → ℕ → Type 0
IsPunctuator x c = x.means ≡ mark c

-- a lexeme is this word, or one of these
abbrev pub is_the_word : TokenMeaning → List ℕ → Bool
is_the_word (identifier name) word = bytes_eq name word
is_the_word _ word = false

abbrev pub is_one_of_words : Lexeme → List (List ℕ) → Bool
is_one_of_words x words = list_any (λ word. is_the_word x.means word) words

-- not a token here: `:` and `/` are tokens only inside braces
abbrev pub is_no_token : TokenMeaning → Bool
is_no_token none = true
is_no_token (mark c) = c == 58 || c == 47
is_no_token _ = false

-- a type's name, or a part of one
abbrev pub is_type_part : TokenMeaning → Bool
is_type_part (identifier name) = true
is_type_part (mark c) = c == dot
is_type_part _ = false

-- the punctuators, by name
abbrev pub comma : ℕ
comma = 44

abbrev pub semicolon : ℕ
semicolon = 59

abbrev pub equals : ℕ
equals = 61

abbrev pub minus : ℕ
minus = 45

abbrev pub plus : ℕ
plus = 43

abbrev pub opening_brace : ℕ
opening_brace = 123

abbrev pub closing_brace : ℕ
closing_brace = 125

abbrev pub opening_paren : ℕ
opening_paren = 40

abbrev pub closing_paren : ℕ
closing_paren = 41

abbrev pub opening_bracket : ℕ
opening_bracket = 91

abbrev pub closing_bracket : ℕ
closing_bracket = 93

abbrev pub less : ℕ
less = 60

abbrev pub greater : ℕ
greater = 62

-- the span from the start of one span to the end of another
abbrev pub span_to : Span → Span → Span
span_to a b = record { start = a.start; end = b.end; line = a.line }

abbrev pub make_word : List ℕ → Span → Word
make_word name span = record { name = name; span = span }

-- a name before a dot and another name, and a name after a dot
abbrev pub dotted_name : List ℕ → Span → Word → Word
dotted_name name span w = make_word (name ++ dot ∷ w.name) (span_to span w.span)

abbrev pub rooted : Span → Word → Word
rooted span w = make_word (dot ∷ w.name) (span_to span w.span)

abbrev pub make_number : Bool → Decimal → Span → Number
make_number negative value span = record { negative = negative; value = value; span = span }
