-- Which token of a text that is not a proto file is at fault first, and why (this project's own).
use Rattle.std.specs.Prelude.{◌≡◌, ◌≢◌, ℕ, ◌+◌, ◌<◌, ◌≤◌, Bool, true, false, List, [], ◌∷◌, ◌++◌, codes}
use Rattle.std.specs.Prelude.{length, take, Some, slice_get}
use Rattle.proto_lexer.specs.Tokens.{AreTokens}
use Rattle.proto_lexer.specs.declared.token.Token.{Token}
use Rattle.proto_grammar.specs.Lexemes.{Lexeme, TokenMeaning, string, the_end, lexemes, IsWord, is_no_token, is_type_part}
use Rattle.proto_grammar.specs.Lexemes.{IsPunctuator, less, equals, opening_brace, opening_paren, closing_paren, is_the_word}
use Rattle.proto_grammar.specs.Lexemes.{is_one_of_words}
use Rattle.proto_grammar.specs.Grammar.{IsMapKey, IsRpcType}
use Rattle.proto_schema.specs.Files.{Draft, IsAtFileLevel, IsAtMessageLevel, IsOutsideBlocks, a_oneof, a_service, IsFieldLabel, AreStatementsOf, AreFileTokens}
use Rattle.proto_schema.specs.declared.limits.TheConstants.{MAX_OPEN}
use Rattle.proto_ast.specs.declared.file.FieldLabel.{FieldLabel}
use Rattle.proto_ast.specs.declared.file.Word.{Word}
use Rattle.proto_ast.specs.declared.file.File.{File}
use Rattle.proto_ast.specs.declared.file.Span.{Span}
use Rattle.proto_grammar.specs.declared.fault.ProtoReason.{ProtoReason}
use Rattle.proto_grammar.specs.declared.fault.ProtoReason.TheVariants.{Token as NoToken, Expected, Import, Stream, Group}
use Rattle.proto_grammar.specs.declared.fault.ProtoReason.TheVariants.{Extend, Syntax2, Nesting}
use Rattle.proto_grammar.specs.declared.fault.ProtoFault.{ProtoFault}
use Rattle.proto_grammar.specs.declared.fault.ProtoFault.TheVariants as fault

-- ---- where a text breaks off

-- these tokens can be continued to a complete text
abbrev pub CanContinue : List Lexeme → Type 0
CanContinue xs = (ys : List Lexeme) × (file : File) × AreFileTokens (xs ++ ys) file

-- the token at an index
abbrev pub IsLexemeAt : List Lexeme → ℕ → Lexeme → Type 0
IsLexemeAt ts k x = slice_get ts k ≡ Some x

-- the tokens before this one can be continued to a complete text, and with it they can't
pub record IsBreak (ts : List Lexeme) (k : ℕ) (x : Lexeme) : Type 0 where
  pub here : IsLexemeAt ts k x
  pub before : CanContinue (take k ts)
  pub behind : CanContinue (take (k + 1) ts) → ⊥

-- a statement starts at an index, after statements that mean this
abbrev pub IsStatementStart : List Lexeme → ℕ → Draft → Type 0
IsStatementStart ts k d = AreStatementsOf (take k ts) d

-- ---- what a break means

-- after `import`, not a fault with the reason `Import`
abbrev pub is_path : TokenMeaning → Bool
is_path (string path) = true
is_path the_end = true
is_path m = is_the_word m (codes "public")

-- a token that isn't this word
abbrev pub IsOtherThan : Lexeme → List ℕ → Type 0
IsOtherThan x word = is_the_word x.means word ≡ false

-- it is a token
abbrev pub IsValidToken : Lexeme → Type 0
IsValidToken x = is_no_token x.means ≡ false

-- it is no token
abbrev pub IsNoToken : Lexeme → Type 0
IsNoToken x = is_no_token x.means ≡ true

-- after `import`, a fault with the reason `Import`
abbrev pub IsNoPath : Lexeme → Type 0
IsNoPath x = is_path x.means ≡ false

-- a name or a dot
abbrev pub IsTypePart : Lexeme → Type 0
IsTypePart x = is_type_part x.means ≡ true

-- `extend` or `extensions`
abbrev pub IsExtension : Lexeme → Type 0
IsExtension x = is_one_of_words x (codes "extend" ∷ codes "extensions" ∷ []) ≡ true

-- a statement is one of a service
abbrev pub InService : Draft → Type 0
InService d = d.block ≡ a_service

-- a statement is one of the oneof of this index, which has a field already, or none yet
abbrev pub InOneof : Draft → ℕ → Bool → Type 0
InOneof d i filled = d.block ≡ a_oneof i filled

-- the brace that was read last opened a message in 32 others
abbrev pub IsTooDeep : Draft → Type 0
IsTooDeep d = length d.messages ≡ MAX_OPEN + 1

-- `rpc NAME (`
pub data IsRpcOpening : List Lexeme → Type 0 where
  rpc_opening : (x y z : Lexeme) (name : List ℕ) → IsWord x (codes "rpc") → IsWord y name → IsPunctuator z opening_paren
      → IsRpcOpening (x ∷ y ∷ z ∷ [])

-- `) returns (`
pub data IsReturnsOpening : List Lexeme → Type 0 where
  returns_opening : (x y z : Lexeme) → IsPunctuator x closing_paren → IsWord y (codes "returns") → IsPunctuator z opening_paren
      → IsReturnsOpening (x ∷ y ∷ z ∷ [])

-- the tokens from the start of a statement up to an rpc's type, of its input or of its output
pub data IsBeforeRpcType (d : Draft) (all : List Lexeme) : Type 0 where
  input : InService d → IsRpcOpening all → IsBeforeRpcType d all
  output : {hs is rs : List Lexeme} {w : Word} → InService d → IsRpcOpening hs → IsRpcType is w → IsReturnsOpening rs
      → all ≡ hs ++ is ++ rs → IsBeforeRpcType d all

-- `map<`, or a map's key and a comma, any number of times
pub data IsBeforeMapPart : List Lexeme → Type 0 where
  key : (x y : Lexeme) → IsWord x (codes "map") → IsPunctuator y less → IsBeforeMapPart (x ∷ y ∷ [])
  value : {ks : List Lexeme} {w : Word} → IsMapKey ks w → IsBeforeMapPart ks
  inner : {ks ys all : List Lexeme} {w : Word} → IsMapKey ks w → IsBeforeMapPart ys → all ≡ ks ++ ys → IsBeforeMapPart all

-- the tokens from the start of a statement up to an index where a type's name starts
pub data IsBeforeType (d : Draft) (all : List Lexeme) : Type 0 where
  of_rpc : IsBeforeRpcType d all → IsBeforeType d all
  of_field : {label : FieldLabel} {words : List (List ℕ)} → IsAtMessageLevel d → IsFieldLabel all label words → IsBeforeType d all
  of_map : {ls ms : List Lexeme} {label : FieldLabel} {words : List (List ℕ)} → IsAtMessageLevel d → IsFieldLabel ls label words
      → IsBeforeMapPart ms → all ≡ ls ++ ms → IsBeforeType d all
  of_member : (i : ℕ) (filled : Bool) → InOneof d i filled → all ≡ [] → IsBeforeType d all
  of_member_map : (i : ℕ) (filled : Bool) → InOneof d i filled → IsBeforeMapPart all → IsBeforeType d all

-- the reasons other than `Expected`, each at its token
pub data IsSpecificFault (ts : List Lexeme) (k : ℕ) : ProtoReason → Type 0 where
  -- what is at the index is no token
  no_token : (x : Lexeme) → IsBreak ts k x → IsNoToken x → IsSpecificFault ts k NoToken
  -- `import` starts a statement of the file, and the token after it is no string, not `public` and not the end of the
  -- text
  import : (j : ℕ) (x y : Lexeme) (d : Draft) → k ≡ j + 1 → IsStatementStart ts j d → IsAtFileLevel d → IsLexemeAt ts j x
      → IsWord x (codes "import") → IsLexemeAt ts k y → IsValidToken y → IsNoPath y → IsSpecificFault ts k Import
  -- `stream` is where an rpc's type starts, and a name or a dot follows it
  stream : (xs ys zs : List Lexeme) (x y : Lexeme) (d : Draft) → ts ≡ xs ++ ys ++ x ∷ y ∷ zs → length (xs ++ ys) ≡ k
      → AreStatementsOf xs d → IsBeforeRpcType d ys → IsWord x (codes "stream") → IsTypePart y → IsSpecificFault ts k Stream
  -- `group` is where a type's name starts
  group : (xs ys zs : List Lexeme) (x : Lexeme) (d : Draft) → ts ≡ xs ++ ys ++ x ∷ zs → length (xs ++ ys) ≡ k
      → AreStatementsOf xs d → IsBeforeType d ys → IsWord x (codes "group") → IsSpecificFault ts k Group
  -- `extend` or `extensions` starts a statement of the file or of a message
  extend : (x : Lexeme) (d : Draft) → IsStatementStart ts k d → IsOutsideBlocks d → IsLexemeAt ts k x → IsExtension x → IsSpecificFault ts k Extend
  -- the first token isn't `syntax`
  no_syntax : (x : Lexeme) → k ≡ 0 → IsLexemeAt ts 0 x → IsValidToken x → IsOtherThan x (codes "syntax")
      → IsSpecificFault ts k Syntax2
  -- the first statement names another syntax
  other_syntax : (x y z : Lexeme) (us : List Lexeme) (value : List ℕ) → k ≡ 0 → ts ≡ x ∷ y ∷ z ∷ us
      → IsWord x (codes "syntax") → IsPunctuator y equals → z.means ≡ string value → value ≢ codes "proto3"
      → IsSpecificFault ts k Syntax2
  -- a brace opens a message in 32 others: after it no block of the innermost message is open
  nesting : (x : Lexeme) (d : Draft) → IsLexemeAt ts k x → IsPunctuator x opening_brace → IsStatementStart ts (k + 1) d → IsAtMessageLevel d
      → IsTooDeep d → IsSpecificFault ts k Nesting

-- a token is at fault for a reason: a specific one, or else `Expected`
pub data IsTokenFault (ts : List Lexeme) (k : ℕ) : ProtoReason → Type 0 where
  named : {q : ProtoReason} → IsSpecificFault ts k q → IsTokenFault ts k q
  expected : (x : Lexeme) → IsBreak ts k x → ((q : ProtoReason) (j : ℕ) → j ≤ k → IsSpecificFault ts j q → ⊥)
      → IsTokenFault ts k Expected

-- the first token at fault
pub record IsFirstFault (ts : List Lexeme) (k : ℕ) (q : ProtoReason) : Type 0 where
  pub here : IsTokenFault ts k q
  pub none_before : (j : ℕ) (p : ProtoReason) → j < k → IsTokenFault ts j p → ⊥

-- ---- texts

-- a text reads as a file: its tokens are those of a complete text, and no message is nested in 32 others
pub record IsProtoTextOf (text : List ℕ) (file : File) : Type 0 where
  pub tokens : List Token
  pub of_text : AreTokens text 0 tokens
  pub reads : AreFileTokens (lexemes text tokens) file
  pub shallow : (k : ℕ) → IsSpecificFault (lexemes text tokens) k Nesting → ⊥

-- the first fault of a text is here
pub record HasProtoFault (text : List ℕ) (q : ProtoReason) (span : Span) : Type 0 where
  pub tokens : List Token
  pub of_text : AreTokens text 0 tokens
  pub place : ℕ
  pub first : IsFirstFault (lexemes text tokens) place q
  pub token : Lexeme
  pub is : slice_get (lexemes text tokens) place ≡ Some token
  pub stands : token.span ≡ span

-- what a fault means for a text; `Memory` means nothing
abbrev pub IsFaultOf : List ℕ → ProtoFault → Type 0
IsFaultOf text (fault.At q start end line) = HasProtoFault text q (record { start = start; end = end; line = line })
IsFaultOf text fault.Memory = Unit {0}
