-- Statements, and what a text of statements declares (Protocol Buffers, proto3 language specification; the profile is
-- this project's own). A text is a list of statements. A statement that ends in `{` opens a block, and `}` closes the
-- innermost open one.
use Rattle.std.specs.Prelude.{◌≡◌, ◌≢◌, ℕ, zero, suc, ◌-◌, Bool, true, false, List, [], ◌∷◌, ◌++◌, codes, length}
use Rattle.std.specs.Prelude.{Option, Some, None, slice_get}
use Rattle.proto_grammar.specs.Lexemes.{Lexeme, string, the_end, IsWord, IsPunctuator, semicolon, equals, opening_brace}
use Rattle.proto_grammar.specs.Lexemes.{closing_brace, opening_paren, closing_paren, make_word}
use Rattle.proto_grammar.specs.Grammar.{IsDottedName, starts_with_word, member_words, statement_words, group_word, IsFieldType}
use Rattle.proto_grammar.specs.Grammar.{IsRpcType, IsNumberToken, IsOption, AreFieldOptions, AreRanges, AreNameStrings}
use Rattle.proto_ast.specs.declared.file.Word.{Word}
use Rattle.proto_ast.specs.declared.file.Number.{Number}
use Rattle.proto_ast.specs.declared.file.Range.{Range}
use Rattle.proto_ast.specs.declared.file.FieldLabel.{FieldLabel}
use Rattle.proto_ast.specs.declared.file.FieldLabel.TheVariants.{Plain, Optional, Repeated}
use Rattle.proto_ast.specs.declared.file.FieldType.{FieldType}
use Rattle.proto_ast.specs.declared.file.FieldDecl.{FieldDecl}
use Rattle.proto_ast.specs.declared.file.MessageDecl.{MessageDecl}
use Rattle.proto_ast.specs.declared.file.EnumDecl.{EnumDecl}
use Rattle.proto_ast.specs.declared.file.RpcDecl.{RpcDecl}
use Rattle.proto_ast.specs.declared.file.ServiceDecl.{ServiceDecl}
use Rattle.proto_ast.specs.declared.file.File.{File}

-- ---- what is declared so far, and what is open

-- The open block in the innermost open message, or in the file if no message is open.
pub data OpenBlock : Type 0 where
  -- No block is open.
  no_block : OpenBlock
  -- A oneof: its index among the oneofs of its message, and whether it has a field.
  a_oneof : (place : ℕ) (has_field : Bool) → OpenBlock
  -- An enum, the last one of the file, and whether it has a value.
  an_enum : (has_value : Bool) → OpenBlock
  -- A service, the last one of the file.
  a_service : OpenBlock
  -- The options of an rpc, in a service.
  an_rpc : OpenBlock

-- What the statements so far declare, and what is open after them.
pub record Draft : Type 0 where
  -- The declarations; those of open messages and blocks as far as they were read.
  pub file : File
  -- The open messages, by their indices among those of the file: the innermost first.
  pub messages : List ℕ
  -- The open block.
  pub block : OpenBlock

-- A statement is in the file itself: nothing is open.
abbrev pub IsAtFileLevel : Draft → Type 0
IsAtFileLevel draft = (draft.block ≡ no_block) × (draft.messages ≡ [])

-- A statement is in a message: one is open, and no block in it.
abbrev pub IsAtMessageLevel : Draft → Type 0
IsAtMessageLevel draft = (draft.block ≡ no_block) × (draft.messages ≢ [])

-- A statement is in the file or in a message.
abbrev pub IsOutsideBlocks : Draft → Type 0
IsOutsideBlocks draft = draft.block ≡ no_block

-- The index of the innermost open message, if one is open.
abbrev pub innermost_of : List ℕ → Option ℕ
innermost_of [] = None
innermost_of (place ∷ outer) = Some place

-- ---- a list with one element changed

-- Changes the element at an index. A list without that element stays as it is.
abbrev pub edit_at : {X : Type 0} → ℕ → (X → X) → List X → List X
edit_at place change [] = []
edit_at zero change (first ∷ others) = change first ∷ others
edit_at (suc place) change (first ∷ others) = first ∷ edit_at place change others

-- Changes the last element.
abbrev pub edit_last : {X : Type 0} → (X → X) → List X → List X
edit_last change list = edit_at (length list - 1) change list

-- Changes the open element, given its index. If none is open, the list stays as it is.
abbrev pub edit_open : {X : Type 0} → Option ℕ → (X → X) → List X → List X
edit_open None change list = list
edit_open (Some place) change list = edit_at place change list

-- ---- what a statement adds

-- Replaces the file of a draft.
abbrev pub draft_with_file : Draft → File → Draft
draft_with_file draft file = record { file = file; messages = draft.messages; block = draft.block }

-- Replaces the block of a draft.
abbrev pub with_block : Draft → OpenBlock → Draft
with_block draft block = record { file = draft.file; messages = draft.messages; block = block }

-- Changes the innermost open message of a draft.
abbrev pub in_message : Draft → (MessageDecl → MessageDecl) → Draft
in_message draft change =
    draft_with_file draft
    (record draft.file { messages = edit_open (innermost_of draft.messages) change draft.file.messages })

-- Changes the last enum of a draft's file.
abbrev pub in_enum : Draft → (EnumDecl → EnumDecl) → Draft
in_enum draft change = draft_with_file draft (record draft.file { enums = edit_last change draft.file.enums })

-- Changes the last service of a draft's file.
abbrev pub in_service : Draft → (ServiceDecl → ServiceDecl) → Draft
in_service draft change = draft_with_file draft (record draft.file { services = edit_last change draft.file.services })

-- Adds an empty message, which becomes the innermost open one.
abbrev pub open_message : Draft → Word → Draft
open_message draft name = record {
  file = record draft.file {
    messages = draft.file.messages ++ record {
      name = name;
      file = 0;
      parent = innermost_of draft.messages;
      fields = [];
      oneofs = [];
      ranges = [];
      names = [];
    } ∷ [];
  };
  messages = length draft.file.messages ∷ draft.messages;
  block = no_block;
}

-- Adds an enum without values, and opens it.
abbrev pub open_enum : Draft → Word → Draft
open_enum draft name = record {
  file = record draft.file {
    enums = draft.file.enums ++ record {
      name = name;
      file = 0;
      parent = innermost_of draft.messages;
      values = [];
      ranges = [];
      names = [];
    } ∷ [];
  };
  messages = draft.messages;
  block = an_enum false;
}

-- Adds a service without rpcs, and opens it.
abbrev pub open_service : Draft → Word → Draft
open_service draft name = record {
  file = record draft.file { services = draft.file.services ++ record { name = name; file = 0; rpcs = [] } ∷ [] };
  messages = draft.messages;
  block = a_service;
}

-- The number of oneofs of a message, if there is one.
abbrev pub oneofs_in_message : Option MessageDecl → ℕ
oneofs_in_message None = 0
oneofs_in_message (Some m) = length m.oneofs

-- The number of oneofs of the message at an index, if there is one: the index of its next oneof.
abbrev pub count_oneofs : Option ℕ → List MessageDecl → ℕ
count_oneofs None messages = 0
count_oneofs (Some place) messages = oneofs_in_message (slice_get messages place)

-- Adds a oneof to the innermost open message, after its others, and opens it without a field.
abbrev pub open_oneof : Draft → Word → Draft
open_oneof draft name =
    with_block (in_message draft (λ m. record m { oneofs = m.oneofs ++ name ∷ [] }))
    (a_oneof (count_oneofs (innermost_of draft.messages) draft.file.messages) false)

-- Adds a field to the innermost open message.
abbrev pub add_field : Draft → FieldDecl → Draft
add_field draft f = in_message draft (λ m. record m { fields = m.fields ++ f ∷ [] })

-- Adds an rpc to the last service.
abbrev pub add_rpc : Draft → RpcDecl → Draft
add_rpc draft r = in_service draft (λ s. record s { rpcs = s.rpcs ++ r ∷ [] })

-- `}` closes a block if one is open, and else the innermost message. A closed oneof has a field, a closed enum a
-- value.
pub data IsBlockEnd (draft : Draft) : Draft → Type 0 where
  message_ends : (place : ℕ) (outer : List ℕ) → draft.block ≡ no_block → draft.messages ≡ place ∷ outer
      → IsBlockEnd draft (record { file = draft.file; messages = outer; block = no_block })
  oneof_ends : (place : ℕ) → draft.block ≡ a_oneof place true → IsBlockEnd draft (with_block draft no_block)
  enum_ends : draft.block ≡ an_enum true → IsBlockEnd draft (with_block draft no_block)
  service_ends : draft.block ≡ a_service → IsBlockEnd draft (with_block draft no_block)
  rpc_ends : draft.block ≡ an_rpc → IsBlockEnd draft (with_block draft a_service)

-- ---- fields

-- A field, by its parts in the order of a statement; its oneof by its index in the message.
abbrev pub make_field : Word → Number → FieldType → FieldLabel → Option ℕ → Option Bool → FieldDecl
make_field name number kind label oneof packed =
    record { name = name; number = number; kind = kind; label = label; oneof = oneof; packed = packed }

-- `optional`, `repeated`, or no label; and the words that can't start the type after it
pub data IsFieldLabel : List Lexeme → FieldLabel → List (List ℕ) → Type 0 where
  plain : IsFieldLabel [] Plain statement_words
  optional : (x : Lexeme) → IsWord x (codes "optional") → IsFieldLabel (x ∷ []) Optional group_word
  repeated : (x : Lexeme) → IsWord x (codes "repeated") → IsFieldLabel (x ∷ []) Repeated group_word

-- `NAME = NUMBER [options];`, after the type of a field
pub data IsFieldEnd : List Lexeme → Word → Number → Option Bool → Type 0 where
  field_end : (x y z : Lexeme) (name : List ℕ) {ns os all : List Lexeme} {number : Number} {packed : Option Bool}
      → IsWord x name → IsPunctuator y equals → IsNumberToken false ns number → AreFieldOptions os packed → IsPunctuator z semicolon
      → all ≡ x ∷ y ∷ ns ++ os ++ z ∷ [] → IsFieldEnd all (make_word name x.span) number packed

-- ---- rpcs

-- `rpc NAME (TYPE) returns (TYPE)`
pub data IsRpcHead : List Lexeme → RpcDecl → Type 0 where
  rpc_head : (a b c d e f g : Lexeme) (name : List ℕ) {is os all : List Lexeme} {input output : Word}
      → IsWord a (codes "rpc") → IsWord b name → IsPunctuator c opening_paren → IsRpcType is input → IsPunctuator d closing_paren
      → IsWord e (codes "returns") → IsPunctuator f opening_paren → IsRpcType os output → IsPunctuator g closing_paren
      → all ≡ a ∷ b ∷ c ∷ is ++ d ∷ e ∷ f ∷ os ++ g ∷ []
      → IsRpcHead all (record { name = make_word name b.span; input = input; output = output })

-- ---- statements

-- These tokens are one statement. After statements that declare the draft d, they lead to another draft.
pub data IsStatement (d : Draft) (all : List Lexeme) : Draft → Type 0 where
  -- package FULLNAME;
  package_name : (x z : Lexeme) {ys : List Lexeme} {w : Word} → IsAtFileLevel d → d.file.package ≡ None
      → IsWord x (codes "package") → IsDottedName ys w → IsPunctuator z semicolon → all ≡ x ∷ ys ++ z ∷ []
      → IsStatement d all (draft_with_file d (record d.file { «package» = Some w }))
  -- import "PATH"; and import public "PATH";
  import : (x y z : Lexeme) (path : List ℕ) → IsAtFileLevel d → IsWord x (codes "import") → y.means ≡ string path
      → IsPunctuator z semicolon → all ≡ x ∷ y ∷ z ∷ []
      → IsStatement d all (draft_with_file d (record d.file {
        imports = d.file.imports ++ record { path = path; public = false; span = y.span } ∷ [];
      }))
  public_import : (x p y z : Lexeme) (path : List ℕ) → IsAtFileLevel d → IsWord x (codes "import") → IsWord p (codes "public")
      → y.means ≡ string path → IsPunctuator z semicolon → all ≡ x ∷ p ∷ y ∷ z ∷ []
      → IsStatement d all (draft_with_file d (record d.file {
        imports = d.file.imports ++ record { path = path; public = true; span = y.span } ∷ [];
      }))
  -- option NAME = VALUE; anywhere
  option : (x z : Lexeme) {ys : List Lexeme} {b : Option Bool} → IsWord x (codes "option") → IsOption ys b
      → IsPunctuator z semicolon → all ≡ x ∷ ys ++ z ∷ [] → IsStatement d all d
  -- ;
  empty : (x : Lexeme) → IsOutsideBlocks d → IsPunctuator x semicolon → all ≡ x ∷ [] → IsStatement d all d
  -- message NAME {, enum NAME {, service NAME {, oneof NAME {
  message : (x y z : Lexeme) (name : List ℕ) → IsOutsideBlocks d → IsWord x (codes "message") → IsWord y name
      → IsPunctuator z opening_brace → all ≡ x ∷ y ∷ z ∷ [] → IsStatement d all (open_message d (make_word name y.span))
  enum : (x y z : Lexeme) (name : List ℕ) → IsOutsideBlocks d → IsWord x (codes "enum") → IsWord y name → IsPunctuator z opening_brace
      → all ≡ x ∷ y ∷ z ∷ [] → IsStatement d all (open_enum d (make_word name y.span))
  service : (x y z : Lexeme) (name : List ℕ) → IsAtFileLevel d → IsWord x (codes "service") → IsWord y name
      → IsPunctuator z opening_brace → all ≡ x ∷ y ∷ z ∷ [] → IsStatement d all (open_service d (make_word name y.span))
  oneof : (x y z : Lexeme) (name : List ℕ) → IsAtMessageLevel d → IsWord x (codes "oneof") → IsWord y name
      → IsPunctuator z opening_brace → all ≡ x ∷ y ∷ z ∷ [] → IsStatement d all (open_oneof d (make_word name y.span))
  -- [optional | repeated] TYPE NAME = NUMBER [options];
  a_field : {ls ts es : List Lexeme} {label : FieldLabel} {words : List (List ℕ)} {kind : FieldType}
      {name : Word} {number : Number} {packed : Option Bool}
      → IsAtMessageLevel d → IsFieldLabel ls label words → IsFieldType words ts kind → IsFieldEnd es name number packed
      → all ≡ ls ++ ts ++ es → IsStatement d all (add_field d (make_field name number kind label None packed))
  -- TYPE NAME = NUMBER [options]; in a oneof
  member : (i : ℕ) (filled : Bool) {ts es : List Lexeme} {kind : FieldType}
      {name : Word} {number : Number} {packed : Option Bool}
      → d.block ≡ a_oneof i filled → IsFieldType member_words ts kind → IsFieldEnd es name number packed
      → all ≡ ts ++ es
      → IsStatement d all (with_block (add_field d (make_field name number kind Plain (Some i) packed)) (a_oneof i true))
  -- reserved 1, 3 to 5, 9 to max; and reserved "a", "b";
  reserved_numbers : (x z : Lexeme) {ys : List Lexeme} {rs : List Range} → IsAtMessageLevel d → IsWord x (codes "reserved")
      → AreRanges false ys rs → IsPunctuator z semicolon → all ≡ x ∷ ys ++ z ∷ []
      → IsStatement d all (in_message d (λ m. record m { ranges = m.ranges ++ rs }))
  reserved_names : (x z : Lexeme) {ys : List Lexeme} {ws : List Word} → IsAtMessageLevel d → IsWord x (codes "reserved")
      → AreNameStrings ys ws → IsPunctuator z semicolon → all ≡ x ∷ ys ++ z ∷ []
      → IsStatement d all (in_message d (λ m. record m { names = m.names ++ ws }))
  reserved_values : (x z : Lexeme) (filled : Bool) {ys : List Lexeme} {rs : List Range} → d.block ≡ an_enum filled
      → IsWord x (codes "reserved") → AreRanges true ys rs → IsPunctuator z semicolon → all ≡ x ∷ ys ++ z ∷ []
      → IsStatement d all (in_enum d (λ e. record e { ranges = e.ranges ++ rs }))
  reserved_value_names : (x z : Lexeme) (filled : Bool) {ys : List Lexeme} {ws : List Word} → d.block ≡ an_enum filled
      → IsWord x (codes "reserved") → AreNameStrings ys ws → IsPunctuator z semicolon → all ≡ x ∷ ys ++ z ∷ []
      → IsStatement d all (in_enum d (λ e. record e { names = e.names ++ ws }))
  -- NAME = NUMBER [options]; in an enum
  value : (x y z : Lexeme) (name : List ℕ) (filled : Bool) {ns os : List Lexeme} {number : Number}
      {packed : Option Bool}
      → d.block ≡ an_enum filled
      → IsWord x name → starts_with_word (codes "option" ∷ codes "reserved" ∷ []) all ≡ false → IsPunctuator y equals
      → IsNumberToken true ns number → AreFieldOptions os packed
      → IsPunctuator z semicolon → all ≡ x ∷ y ∷ ns ++ os ++ z ∷ []
      → IsStatement d all (with_block (in_enum d (λ e. record e {
        values = e.values ++ record { name = make_word name x.span; number = number } ∷ [];
      })) (an_enum true))
  -- rpc NAME (TYPE) returns (TYPE); and with a block of options
  rpc : (z : Lexeme) {ys : List Lexeme} {r : RpcDecl} → d.block ≡ a_service → IsRpcHead ys r → IsPunctuator z semicolon
      → all ≡ ys ++ z ∷ [] → IsStatement d all (add_rpc d r)
  rpc_with_options : (z : Lexeme) {ys : List Lexeme} {r : RpcDecl} → d.block ≡ a_service → IsRpcHead ys r
      → IsPunctuator z opening_brace → all ≡ ys ++ z ∷ [] → IsStatement d all (with_block (add_rpc d r) an_rpc)
  -- }
  close : (x : Lexeme) {other : Draft} → IsPunctuator x closing_brace → all ≡ x ∷ [] → IsBlockEnd d other
      → IsStatement d all other

-- ---- texts

-- The draft after the syntax statement alone.
abbrev pub initial_draft : Draft
initial_draft = record {
  file = record { «package» = None; imports = []; messages = []; enums = []; services = [] };
  messages = [];
  block = no_block;
}

-- syntax = "proto3";
pub data IsSyntaxStatement : List Lexeme → Type 0 where
  proto3 : (w x y z : Lexeme) → IsWord w (codes "syntax") → IsPunctuator x equals → y.means ≡ string (codes "proto3")
      → IsPunctuator z semicolon → IsSyntaxStatement (w ∷ x ∷ y ∷ z ∷ [])

-- The tokens are the syntax statement followed by statements, and declare this.
pub data AreStatementsOf : List Lexeme → Draft → Type 0 where
  start : {xs : List Lexeme} → IsSyntaxStatement xs → AreStatementsOf xs initial_draft
  another : {xs ys all : List Lexeme} {c d : Draft} → AreStatementsOf xs c → IsStatement c ys d → all ≡ xs ++ ys → AreStatementsOf all d

-- A text may end here: nothing is open.
abbrev pub IsComplete : Draft → Type 0
IsComplete draft = IsAtFileLevel draft

-- The tokens are those of a complete text with its end, and declare this file, without a limit on nesting.
pub data AreFileTokens : List Lexeme → File → Type 0 where
  whole : (x : Lexeme) {xs all : List Lexeme} {d : Draft} → AreStatementsOf xs d → IsComplete d → x.means ≡ the_end
      → all ≡ xs ++ x ∷ [] → AreFileTokens all d.file
