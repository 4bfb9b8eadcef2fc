-- The tokens of a text (Protocol Buffers, proto3 language specification, "Lexical elements").
use Rattle.std.specs.Prelude.{◌≡◌, ◌≢◌, ℕ, ◌+◌, ◌-◌, ◌≤◌, ◌==◌, Bool, true, false, List, [], ◌∷◌, ◌++◌, length, take}
use Rattle.std.specs.Prelude.{drop, count_by}
use Rattle.mrpc_table.specs.Names.{is_name_byte, is_name_form}
use Rattle.mrpc_table.specs.Lines.{in_64_bits}
use Rattle.proto_lexer.specs.Gaps.{first_satisfies, HasLeadingGap}
use Rattle.proto_lexer.specs.Literals.{IsInteger, IsNumber, continues_number, is_quote, IsBody, is_punctuator_byte, starts_number_or_comment}
use Rattle.proto_lexer.specs.declared.token.TokenKind.{TokenKind}
use Rattle.proto_lexer.specs.declared.token.TokenKind.TheVariants.{Identifier, Integer, Number, Text, Mark, End, Bad}
use Rattle.proto_lexer.specs.declared.token.Token.{Token}

-- a literal is a token of this kind, the longest one, and the remainder follows it
pub data IsToken (kind : TokenKind) (literal rest : List ℕ) : Type 0 where
  identifier : kind ≡ Identifier → is_name_form literal ≡ true → first_satisfies is_name_byte rest ≡ false
      → IsToken kind literal rest
  integer : (value : ℕ) → kind ≡ Integer (in_64_bits value) → IsInteger literal value → first_satisfies continues_number rest ≡ false
      → IsToken kind literal rest
  number : kind ≡ Number → IsNumber literal → first_satisfies continues_number rest ≡ false → IsToken kind literal rest
  string : (quote : ℕ) (body : List ℕ) → kind ≡ Text → is_quote quote ≡ true → literal ≡ quote ∷ body ++ quote ∷ []
      → IsBody quote body → IsToken kind literal rest
  mark : (c : ℕ) → kind ≡ Mark c → literal ≡ c ∷ [] → is_punctuator_byte c ≡ true → starts_number_or_comment c rest ≡ false
      → IsToken kind literal rest

-- neither a token nor a blank nor a comment starts here
pub record HasNoTokenOrGap (bytes : List ℕ) : Type 0 where
  pub more : bytes ≢ []
  pub no_gap : (rest : List ℕ) → HasLeadingGap bytes rest → rest ≡ bytes
  pub no_token : (kind : TokenKind) (literal rest : List ℕ) → bytes ≡ literal ++ rest → IsToken kind literal rest → ⊥

-- the bytes of a token
abbrev pub literal_of : List ℕ → Token → List ℕ
literal_of text t = take (t.end - t.start) (drop t.start text)

-- the line of an offset: 1, plus the number of line feeds before it
abbrev pub line_of_offset : List ℕ → ℕ → ℕ
line_of_offset text place = 1 + count_by (λ c. c == 10) (take place text)

-- what starts at the offset of t: a token, the end of the text, or neither
pub data IsTokenAt (text : List ℕ) (t : Token) : Type 0 where
  word : t.start ≤ t.end → IsToken t.kind (literal_of text t) (drop t.end text) → IsTokenAt text t
  the_end : t.kind ≡ End → t.start ≡ length text → t.end ≡ length text → IsTokenAt text t
  no_word : t.kind ≡ Bad → t.end ≡ t.start + 1 → HasNoTokenOrGap (drop t.start text) → IsTokenAt text t

-- t is the first token at or after an offset
pub record IsNextToken (text : List ℕ) (place : ℕ) (t : Token) : Type 0 where
  pub behind : place ≤ t.start
  pub within : t.end ≤ length text
  pub gap : HasLeadingGap (drop place text) (drop t.start text)
  pub line : t.line ≡ line_of_offset text t.start
  pub here : IsTokenAt text t

-- no token follows the end of the text or an offset where no token starts
abbrev pub is_last : TokenKind → Bool
is_last End = true
is_last Bad = true
is_last _ = false

-- the tokens of a text from an offset on
pub data AreTokens (text : List ℕ) : ℕ → List Token → Type 0 where
  last : {place : ℕ} {ts : List Token} (t : Token) → ts ≡ t ∷ [] → IsNextToken text place t → is_last t.kind ≡ true
      → AreTokens text place ts
  another : {place : ℕ} {ts : List Token} (t : Token) (others : List Token) → ts ≡ t ∷ others → IsNextToken text place t
      → is_last t.kind ≡ false → AreTokens text t.end others → AreTokens text place ts
