-- The code's own: statements, and a whole text, are read token by token.
use Rattle.std.specs.Prelude.{◌≡◌, ℕ, ◌==◌, nat_le, Bool, true, false, not, ◌&&◌, ◌||◌, if◌then◌else◌, List, [], ◌∷◌}
use Rattle.std.specs.Prelude.{◌++◌, codes, length, Option, Some, None, is_some, Result, Ok, Err}
use Rattle.std.specs.Str.{bytes_eq}
use Rattle.proto_lexer.specs.Tokens.{AreTokens, is_last}
use Rattle.proto_lexer.specs.declared.token.Token.{Token}
use Rattle.proto_ast.specs.Dot.{dot}
use Rattle.proto_grammar.specs.Lexemes.{TokenMeaning, identifier, string, mark, the_end, Lexeme, is_the_word, semicolon, equals}
use Rattle.proto_grammar.specs.Lexemes.{opening_brace, closing_brace, make_word}
use Rattle.proto_schema.specs.Files.{Draft, OpenBlock, no_block, a_oneof, an_enum, a_service, an_rpc, draft_with_file, with_block}
use Rattle.proto_schema.specs.Files.{in_message, in_enum, open_message, open_enum, open_service, open_oneof, add_field}
use Rattle.proto_schema.specs.Files.{add_rpc, initial_draft}
use Rattle.proto_schema.specs.declared.limits.TheConstants.{MAX_OPEN}
use Rattle.proto_grammar.specs.Lexemes.{is_no_token}
use Rattle.proto_grammar.specs.Advancing.{proto_fault_at, unexpected, wrong, if_name, is_punctuator, advance_full_name, advance_option}
use Rattle.proto_grammar.specs.Advancing.{next_option, advance_field, advance_reserved, advance_value, advance_rpc, option_depth}
use Rattle.proto_grammar.specs.Advancing.{field_depth, value_depth}
use Rattle.proto_ast.specs.declared.file.Span.{Span}
use Rattle.proto_ast.specs.declared.file.Word.{Word}
use Rattle.proto_ast.specs.declared.file.Import.{Import}
use Rattle.proto_ast.specs.declared.file.FieldLabel.{FieldLabel}
use Rattle.proto_ast.specs.declared.file.FieldLabel.TheVariants as labels
use Rattle.proto_ast.specs.declared.file.FieldDecl.{FieldDecl}
use Rattle.proto_ast.specs.declared.file.File.{File}
use Rattle.proto_grammar.specs.declared.fault.ProtoReason.TheVariants as reasons
use Rattle.proto_grammar.specs.declared.fault.ProtoFault.{ProtoFault}
use Rattle.proto_grammar.specs.declared.fault.ProtoFault.TheVariants as fault
use Rattle.proto_grammar.specs.declared.name.NameState.TheVariants as names
use Rattle.proto_grammar.specs.declared.name.NameStep.{NameStep}
use Rattle.proto_grammar.specs.declared.name.NameStep.TheVariants as name_steps
use Rattle.proto_grammar.specs.declared.option.OptionStep.{OptionStep}
use Rattle.proto_grammar.specs.declared.option.OptionStep.TheVariants as option_steps
use Rattle.proto_grammar.specs.declared.field.FieldState.TheVariants as fields
use Rattle.proto_grammar.specs.declared.field.FieldStep.{FieldStep}
use Rattle.proto_grammar.specs.declared.field.FieldStep.TheVariants as field_steps
use Rattle.proto_grammar.specs.declared.value.ValueState.TheVariants as values
use Rattle.proto_grammar.specs.declared.value.ValueStep.{ValueStep}
use Rattle.proto_grammar.specs.declared.value.ValueStep.TheVariants as value_steps
use Rattle.proto_grammar.specs.declared.rpc.RpcState.TheVariants as rpcs
use Rattle.proto_grammar.specs.declared.rpc.RpcStep.{RpcStep}
use Rattle.proto_grammar.specs.declared.rpc.RpcStep.TheVariants as rpc_steps
use Rattle.proto_grammar.specs.declared.reserved.ReservedPart.TheVariants as parts
use Rattle.proto_grammar.specs.declared.reserved.ReservedStep.{ReservedStep}
use Rattle.proto_grammar.specs.declared.reserved.ReservedStep.TheVariants as reserved_steps
use Rattle.proto_schema.specs.declared.draft.OpenBlock.{OpenBlock as CodeBlock}
use Rattle.proto_schema.specs.declared.draft.OpenBlock.TheVariants as block
use Rattle.proto_schema.specs.declared.draft.Draft.{Draft as CodeDraft}
use Rattle.proto_schema.specs.declared.statement.StatementPlace.{StatementPlace}
use Rattle.proto_schema.specs.declared.statement.StatementPlace.TheVariants as places
use Rattle.proto_schema.specs.declared.statement.Opening.{Opening}
use Rattle.proto_schema.specs.declared.statement.Opening.TheVariants as openings
use Rattle.proto_schema.specs.declared.statement.StatementState.{StatementState}
use Rattle.proto_schema.specs.declared.statement.StatementState.TheVariants as states
use Rattle.proto_schema.specs.declared.statement.StatementEffect.{StatementEffect}
use Rattle.proto_schema.specs.declared.statement.StatementEffect.TheVariants as said
use Rattle.proto_schema.specs.declared.statement.StatementStep.{StatementStep}
use Rattle.proto_schema.specs.declared.statement.StatementStep.TheVariants as steps

-- ---- where a statement is

abbrev pub place_of_block : List ℕ → Option Word → StatementPlace
place_of_block [] p = places.File (is_some p)
place_of_block (i ∷ is) p = places.Message

abbrev pub place_with : OpenBlock → List ℕ → Option Word → StatementPlace
place_with no_block is p = place_of_block is p
place_with (a_oneof i filled) is p = places.Oneof filled
place_with (an_enum filled) is p = places.Enum filled
place_with a_service is p = places.Service
place_with an_rpc is p = places.Rpc

abbrev pub block_of : CodeBlock → OpenBlock
block_of block.None = no_block
block_of (block.Oneof i filled) = a_oneof i filled
block_of (block.Enum filled) = an_enum filled
block_of block.Service = a_service
block_of block.Rpc = an_rpc

-- the stack, whose top is the end of the list, as a list with its top first
abbrev pub stack : List ℕ → List ℕ
stack [] = []
stack (x ∷ xs) = stack xs ++ x ∷ []

-- the draft that a draft of the code represents
abbrev pub draft_of : CodeDraft → Draft
draft_of d = record {
  file = record {
    «package» = d.package;
    imports = d.imports;
    messages = d.messages.items;
    enums = d.enums.items;
    services = d.services.items;
  };
  messages = stack d.nested.items;
  block = block_of d.block;
}

abbrev pub statement_place : Draft → StatementPlace
statement_place d = place_with d.block d.messages d.file.package

-- ---- the first token of a statement

abbrev pub more : StatementState → Result StatementStep ProtoFault
more s = Ok (steps.More s)

abbrev pub done : StatementEffect → Result StatementStep ProtoFault
done s = Ok (steps.Done s)

abbrev pub closes_in : StatementPlace → Bool
closes_in (places.File p) = false
closes_in places.Message = true
closes_in (places.Oneof filled) = filled
closes_in (places.Enum filled) = filled
closes_in places.Service = true
closes_in places.Rpc = true

-- `;` is a statement here
abbrev pub is_body : StatementPlace → Bool
is_body (places.File p) = true
is_body places.Message = true
is_body p = false

-- a field without a label may start here
abbrev pub has_fields : StatementPlace → Bool
has_fields places.Message = true
has_fields (places.Oneof filled) = true
has_fields p = false

abbrev pub of_field : Result FieldStep ProtoFault → Result StatementStep ProtoFault
of_field (Ok (field_steps.More s)) = more (states.Field s)
of_field (Ok (field_steps.Done f)) = done (said.Field f)
of_field (Err e) = Err e

abbrev pub start_field : Lexeme → Result StatementStep ProtoFault
start_field x = of_field (advance_field (fields.Type labels.Plain names.Start) x)

abbrev pub start_at_punctuator : StatementPlace → Lexeme → ℕ → Result StatementStep ProtoFault
start_at_punctuator p x c =
    if c == dot && has_fields p then start_field x
    else if c == semicolon && is_body p then done said.Nothing
    else if c == closing_brace && closes_in p then done said.Close
    else wrong x

-- `message`, `enum`, `service` and `oneof`, if they are allowed here
abbrev pub opening_of : Bool → List ℕ → Option Opening
opening_of in_file n =
    if bytes_eq n (codes "message") then Some openings.Message
    else if bytes_eq n (codes "enum") then Some openings.Enum
    else if in_file && bytes_eq n (codes "service") then Some openings.Service
    else if not in_file && bytes_eq n (codes "oneof") then Some openings.Oneof
    else None

abbrev pub is_extend : List ℕ → Bool
is_extend n = bytes_eq n (codes "extend") || bytes_eq n (codes "extensions")

abbrev pub start_in_file : Bool → List ℕ → Lexeme → Option Opening → Result StatementStep ProtoFault
start_in_file p n x (Some o) = more (states.Opening o)
start_in_file p n x None =
    if is_extend n then Err (proto_fault_at reasons.Extend x.span)
    else if not p && bytes_eq n (codes "package") then more (states.Package names.Start)
    else if bytes_eq n (codes "import") then more (states.Import false)
    else wrong x

abbrev pub start_reserved : Bool → Result StatementStep ProtoFault
start_reserved signed = more (states.Reserved (record { signed = signed; part = parts.Start }))

abbrev pub labelled : FieldLabel → Result StatementStep ProtoFault
labelled label = more (states.Field (fields.Type label names.Start))

abbrev pub start_in_message : List ℕ → Lexeme → Option Opening → Result StatementStep ProtoFault
start_in_message n x (Some o) = more (states.Opening o)
start_in_message n x None =
    if is_extend n then Err (proto_fault_at reasons.Extend x.span)
    else if bytes_eq n (codes "reserved") then start_reserved false
    else if bytes_eq n (codes "optional") then labelled labels.Optional
    else if bytes_eq n (codes "repeated") then labelled labels.Repeated
    else start_field x

abbrev pub start_at_word : StatementPlace → Lexeme → List ℕ → Result StatementStep ProtoFault
start_at_word (places.File p) x n = start_in_file p n x (opening_of true n)
start_at_word places.Message x n = start_in_message n x (opening_of false n)
start_at_word (places.Oneof filled) x n = start_field x
start_at_word (places.Enum filled) x n =
    if bytes_eq n (codes "reserved") then start_reserved true
    else more (states.Value (values.Named (make_word n x.span)))
start_at_word places.Service x n = if bytes_eq n (codes "rpc") then more (states.Rpc rpcs.Start) else wrong x
start_at_word places.Rpc x n = wrong x

abbrev pub advance_first_token : StatementPlace → Lexeme → TokenMeaning → Result StatementStep ProtoFault
advance_first_token p x (identifier n) = if bytes_eq n (codes "option") then more (states.Option next_option) else start_at_word p x n
advance_first_token p x (mark c) = start_at_punctuator p x c
advance_first_token p x m = wrong x

-- ---- further tokens

-- the `;` that ends a statement
abbrev pub end_statement : StatementEffect → Lexeme → Result StatementStep ProtoFault
end_statement s x = if is_punctuator x.means semicolon then done s else wrong x

abbrev pub of_package : Lexeme → Result NameStep ProtoFault → Result StatementStep ProtoFault
of_package x (Ok (name_steps.More s)) = more (states.Package s)
of_package x (Ok (name_steps.Whole w)) = end_statement (said.Package w) x
of_package x (Err e) = Err e

abbrev pub imported : Bool → List ℕ → Span → Import
imported public path s = record { path = path; public = public; span = s }

abbrev pub advance_import : Bool → Lexeme → TokenMeaning → Result StatementStep ProtoFault
advance_import public x (string path) = more (states.Imported (imported public path x.span))
advance_import public x the_end = wrong x
advance_import public x m =
    if not public && is_the_word m (codes "public") then more (states.Import true)
    else if is_no_token m || public then wrong x
    else Err (proto_fault_at reasons.Import x.span)

abbrev pub of_options : Lexeme → Result OptionStep ProtoFault → Result StatementStep ProtoFault
of_options x (Ok (option_steps.More s)) = more (states.Option s)
of_options x (Ok (option_steps.Whole says_packed)) = end_statement said.Nothing x
of_options x (Err e) = Err e

abbrev pub of_reserved : Result ReservedStep ProtoFault → Result StatementStep ProtoFault
of_reserved (Ok (reserved_steps.More s)) = more (states.Reserved s)
of_reserved (Ok (reserved_steps.Ranges rs)) = done (said.Ranges rs)
of_reserved (Ok (reserved_steps.Names ws)) = done (said.Names ws)
of_reserved (Err e) = Err e

abbrev pub of_value : Result ValueStep ProtoFault → Result StatementStep ProtoFault
of_value (Ok (value_steps.More s)) = more (states.Value s)
of_value (Ok (value_steps.Done v)) = done (said.Value v)
of_value (Err e) = Err e

abbrev pub of_rpc : Result RpcStep ProtoFault → Result StatementStep ProtoFault
of_rpc (Ok (rpc_steps.More s)) = more (states.Rpc s)
of_rpc (Ok (rpc_steps.Done r block)) = done (said.Rpc r block)
of_rpc (Err e) = Err e

unfoldable pub advance_statement : StatementPlace → StatementState → Lexeme → Result StatementStep ProtoFault
advance_statement p states.Begin x = advance_first_token p x x.means
advance_statement p (states.Package s) x = of_package x (advance_full_name s x)
advance_statement p (states.Import public) x = advance_import public x x.means
advance_statement p (states.Imported i) x = end_statement (said.Import i) x
advance_statement p (states.Option s) x = of_options x (advance_option s x)
advance_statement p (states.Opening o) x = if_name x (λ n. steps.More (states.Opened o (make_word n x.span)))
advance_statement p (states.Opened o w) x = if is_punctuator x.means opening_brace then done (said.Open o w) else wrong x
advance_statement p (states.Field s) x = of_field (advance_field s x)
advance_statement p (states.Reserved s) x = of_reserved (advance_reserved s x)
advance_statement p (states.Value s) x = of_value (advance_value s x)
advance_statement p (states.Rpc s) x = of_rpc (advance_rpc s x)

-- the number of open braces of an option, or of open maps of a type
abbrev pub depth : StatementState → ℕ
depth (states.Option s) = option_depth s
depth (states.Field s) = field_depth s
depth (states.Value s) = value_depth s
depth s = 0

-- ---- what a statement adds

abbrev pub in_oneof : OpenBlock → FieldDecl → FieldDecl
in_oneof (a_oneof i filled) f = record f { oneof = Some i }
in_oneof b f = f

abbrev pub filled_with : OpenBlock → OpenBlock
filled_with (a_oneof i filled) = a_oneof i true
filled_with b = b

abbrev pub is_enum : OpenBlock → Bool
is_enum (an_enum filled) = true
is_enum b = false

abbrev pub without_first : List ℕ → List ℕ
without_first [] = []
without_first (i ∷ is) = is

abbrev pub closed_draft : Draft → OpenBlock → Draft
closed_draft d no_block = record { file = d.file; messages = without_first d.messages; block = no_block }
closed_draft d an_rpc = with_block d a_service
closed_draft d b = with_block d no_block

abbrev pub draft_with : Draft → StatementEffect → Draft
draft_with d said.Nothing = d
draft_with d (said.Package w) = draft_with_file d (record d.file { «package» = Some w })
draft_with d (said.Import i) = draft_with_file d (record d.file { imports = d.file.imports ++ i ∷ [] })
draft_with d (said.Open openings.Message w) = open_message d w
draft_with d (said.Open openings.Enum w) = open_enum d w
draft_with d (said.Open openings.Service w) = open_service d w
draft_with d (said.Open openings.Oneof w) = open_oneof d w
draft_with d (said.Field f) = with_block (add_field d (in_oneof d.block f)) (filled_with d.block)
draft_with d (said.Ranges rs) =
    if is_enum d.block then in_enum d (λ e. record e { ranges = e.ranges ++ rs })
    else in_message d (λ m. record m { ranges = m.ranges ++ rs })
draft_with d (said.Names ws) =
    if is_enum d.block then in_enum d (λ e. record e { names = e.names ++ ws })
    else in_message d (λ m. record m { names = m.names ++ ws })
draft_with d (said.Value v) = with_block (in_enum d (λ e. record e { values = e.values ++ v ∷ [] })) (an_enum true)
draft_with d (said.Rpc r true) = with_block (add_rpc d r) an_rpc
draft_with d (said.Rpc r false) = add_rpc d r
draft_with d said.Close = closed_draft d d.block

-- ---- the whole text

-- the result of reading tokens: they are used up, the text ends and declares a file, or one of them is at fault
pub data ReadingOutcome : Type 0 where
  cut_off : Draft → StatementState → ReadingOutcome
  read : File → ReadingOutcome
  failed : ProtoFault → ReadingOutcome

abbrev pub is_begin : StatementState → Bool
is_begin states.Begin = true
is_begin s = false

abbrev pub is_file : StatementPlace → Bool
is_file (places.File p) = true
is_file p = false

abbrev pub is_end : TokenMeaning → Bool
is_end the_end = true
is_end m = false

-- a statement opens a message inside `MAX_OPEN` others
abbrev pub is_too_deep : Bool → Draft → StatementEffect → Bool
is_too_deep limited d (said.Open openings.Message w) = limited && nat_le MAX_OPEN (length d.messages)
is_too_deep limited d s = false

-- the result of the remaining tokens, given what one token does
abbrev pub after_token : (Draft → StatementState → ReadingOutcome) → Bool → Draft → Lexeme → Result StatementStep ProtoFault → ReadingOutcome
after_token go limited d x (Ok (steps.More t)) = go d t
after_token go limited d x (Ok (steps.Done t)) =
    if is_too_deep limited d t then failed (proto_fault_at reasons.Nesting x.span) else go (draft_with d t) states.Begin
after_token go limited d x (Err e) = failed e

-- the text ends here: nothing is open
abbrev pub is_over : Draft → StatementState → Lexeme → Bool
is_over d s x = is_end x.means && (is_begin s && is_file (statement_place d))

-- the result of the tokens from here on, with or without the limit on nested messages
unfoldable pub run : Bool → Draft → StatementState → List Lexeme → ReadingOutcome
run limited d s [] = cut_off d s
run limited d s (x ∷ xs) =
    if is_over d s x then read d.file
    else after_token (λ c t. run limited c t xs) limited d x (advance_statement (statement_place d) s x)

-- ---- the syntax statement

-- the tokens of a text are its syntax statement, followed by statements
abbrev pub after_syntax : Bool → List Lexeme → ReadingOutcome
after_syntax limited [] = cut_off initial_draft states.Begin
after_syntax limited (z ∷ zs) =
    if is_punctuator z.means semicolon then run limited initial_draft states.Begin zs else failed (unexpected z)

abbrev pub after_syntax_value : Bool → Lexeme → Lexeme → List Lexeme → TokenMeaning → ReadingOutcome
after_syntax_value limited w y zs (string value) =
    if bytes_eq value (codes "proto3") then after_syntax limited zs else failed (proto_fault_at reasons.Syntax2 w.span)
after_syntax_value limited w y zs m = failed (unexpected y)

abbrev pub after_syntax_equals : Bool → Lexeme → List Lexeme → ReadingOutcome
after_syntax_equals limited w [] = cut_off initial_draft states.Begin
after_syntax_equals limited w (y ∷ zs) = after_syntax_value limited w y zs y.means

abbrev pub after_syntax_word : Bool → Lexeme → List Lexeme → ReadingOutcome
after_syntax_word limited w [] = cut_off initial_draft states.Begin
after_syntax_word limited w (x ∷ zs) = if is_punctuator x.means equals then after_syntax_equals limited w zs else failed (unexpected x)

abbrev pub reading : Bool → List Lexeme → ReadingOutcome
reading limited [] = cut_off initial_draft states.Begin
reading limited (w ∷ zs) =
    if is_the_word w.means (codes "syntax") then after_syntax_word limited w zs
    else if is_no_token w.means then failed (unexpected w)
    else failed (proto_fault_at reasons.Syntax2 w.span)

-- ---- what the code returns

-- a part of the code returned what reading defines, or ran out of memory
abbrev pub IsFailedOutcome : ProtoFault → ReadingOutcome → Type 0
IsFailedOutcome fault.Memory o = Unit {0}
IsFailedOutcome e o = o ≡ failed e

abbrev pub IsReadingOutcome : Result File ProtoFault → ReadingOutcome → Type 0
IsReadingOutcome (Ok f) o = o ≡ read f
IsReadingOutcome (Err e) o = IsFailedOutcome e o

-- the result of a token that ends its statement: the remaining tokens continue with the draft, unless memory ran out
abbrev pub HasContinuation : {X : Type 0} → Result X ProtoFault → Draft → ReadingOutcome → List Lexeme → Type 0
HasContinuation (Ok u) d o xs = o ≡ run true d states.Begin xs
HasContinuation (Err e) d o xs = IsFailedOutcome e o

-- the result of the tokens after one, given what that one does to a statement
abbrev pub outcome_after_step : Draft → Lexeme → List Lexeme → Result StatementStep ProtoFault → ReadingOutcome
outcome_after_step d x xs r = after_token (λ c t. run true c t xs) true d x r

-- a list of tokens starts with this one, and the others follow it
pub data AreTokensFrom (text : List ℕ) (t : Token) : List Token → Type 0 where
  alone : {ts : List Token} → ts ≡ t ∷ [] → is_last t.kind ≡ true → AreTokensFrom text t ts
  with_others : {ts : List Token} (others : List Token) → ts ≡ t ∷ others → is_last t.kind ≡ false
      → AreTokens text t.end others → AreTokensFrom text t ts
