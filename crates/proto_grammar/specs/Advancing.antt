-- The code's own, here and in `proto_schema`: how a token continues a part of a statement, by the state of that part.
-- `Grammar` defines which tokens form a part and what it means; `proto_schema` proves that what is read is what is
-- defined there.
use Rattle.std.specs.Prelude.{◌≡◌, ℕ, ◌+◌, ◌-◌, ◌^◌, ◌<◌, ◌≤◌, length, ◌==◌, nat_le, Bool, true, false, ◌&&◌, ◌||◌}
use Rattle.std.specs.Prelude.{if◌then◌else◌, List, [], ◌∷◌, ◌++◌, codes, Option, Some, None, Result, Ok, Err}
use Rattle.std.specs.Str.{bytes_eq}
use Rattle.mrpc_table.specs.declared.words.Decimal.{Decimal}
use Rattle.proto_lexer.specs.Tokens.{literal_of}
use Rattle.proto_lexer.specs.declared.token.TokenKind.TheVariants.{Text}
use Rattle.proto_lexer.specs.declared.token.Token.{Token}
use Rattle.proto_grammar.specs.Lexemes.{TokenMeaning, identifier, integer, number, string, mark, the_end, none, Lexeme, is_the_word}
use Rattle.proto_ast.specs.Dot.{dot}
use Rattle.proto_grammar.specs.Lexemes.{comma, semicolon, equals, minus, plus, opening_brace, closing_brace}
use Rattle.proto_grammar.specs.Lexemes.{opening_paren, closing_paren, opening_bracket, closing_bracket, less, greater}
use Rattle.proto_grammar.specs.Lexemes.{span_to, make_word, make_number}
use Rattle.proto_grammar.specs.Grammar.{latest}
use Rattle.proto_grammar.specs.Lexemes.{is_no_token, is_type_part}
use Rattle.proto_ast.specs.declared.file.Span.{Span}
use Rattle.proto_ast.specs.declared.file.Word.{Word}
use Rattle.proto_ast.specs.declared.file.Number.{Number}
use Rattle.proto_ast.specs.declared.file.Range.{Range}
use Rattle.proto_ast.specs.declared.file.FieldLabel.{FieldLabel}
use Rattle.proto_ast.specs.declared.file.FieldType.{FieldType}
use Rattle.proto_ast.specs.declared.file.FieldType.TheVariants as types
use Rattle.proto_ast.specs.declared.file.FieldDecl.{FieldDecl}
use Rattle.proto_grammar.specs.declared.fault.ProtoReason.{ProtoReason}
use Rattle.proto_grammar.specs.declared.fault.ProtoReason.TheVariants as reasons
use Rattle.proto_grammar.specs.declared.fault.ProtoFault.{ProtoFault}
use Rattle.proto_grammar.specs.declared.fault.ProtoFault.TheVariants as fault
use Rattle.proto_grammar.specs.declared.name.NameState.{NameState}
use Rattle.proto_grammar.specs.declared.name.NameState.TheVariants as names
use Rattle.proto_grammar.specs.declared.name.NameStep.{NameStep}
use Rattle.proto_grammar.specs.declared.name.NameStep.TheVariants as name_steps
use Rattle.proto_grammar.specs.declared.option.OptionState.{OptionState}
use Rattle.proto_grammar.specs.declared.option.OptionState.TheVariants as option_states
use Rattle.proto_grammar.specs.declared.option.OptionStep.{OptionStep}
use Rattle.proto_grammar.specs.declared.option.OptionStep.TheVariants as option_steps
use Rattle.proto_grammar.specs.declared.tail.TailState.{TailState}
use Rattle.proto_grammar.specs.declared.tail.TailState.TheVariants as tails
use Rattle.proto_grammar.specs.declared.tail.TailStep.{TailStep}
use Rattle.proto_grammar.specs.declared.tail.TailStep.TheVariants as tail_steps
use Rattle.proto_grammar.specs.declared.field.FieldState.{FieldState}
use Rattle.proto_grammar.specs.declared.field.FieldState.TheVariants as fields
use Rattle.proto_grammar.specs.declared.field.FieldStep.{FieldStep}
use Rattle.proto_grammar.specs.declared.field.FieldStep.TheVariants as field_steps
use Rattle.proto_grammar.specs.declared.field.MapState.{MapState}
use Rattle.proto_grammar.specs.declared.field.MapState.TheVariants as maps
use Rattle.proto_grammar.specs.declared.field.MapStep.{MapStep}
use Rattle.proto_grammar.specs.declared.field.MapStep.TheVariants as map_steps
use Rattle.proto_grammar.specs.declared.value.ValueState.{ValueState}
use Rattle.proto_grammar.specs.declared.value.ValueState.TheVariants as values
use Rattle.proto_grammar.specs.declared.value.ValueStep.{ValueStep}
use Rattle.proto_grammar.specs.declared.value.ValueStep.TheVariants as value_steps
use Rattle.proto_grammar.specs.declared.rpc.RpcState.{RpcState}
use Rattle.proto_grammar.specs.declared.rpc.RpcState.TheVariants as rpcs
use Rattle.proto_grammar.specs.declared.rpc.RpcStep.{RpcStep}
use Rattle.proto_grammar.specs.declared.rpc.RpcStep.TheVariants as rpc_steps
use Rattle.proto_grammar.specs.declared.reserved.ReservedPart.{ReservedPart}
use Rattle.proto_grammar.specs.declared.reserved.ReservedPart.TheVariants as reserved
use Rattle.proto_grammar.specs.declared.reserved.RangeState.{RangeState}
use Rattle.proto_grammar.specs.declared.reserved.RangeState.TheVariants as ranges
use Rattle.proto_grammar.specs.declared.reserved.ReservedStep.{ReservedStep}
use Rattle.proto_grammar.specs.declared.reserved.ReservedStep.TheVariants as reserved_steps
use Rattle.proto_grammar.specs.declared.field.FieldHead.{FieldHead}
use Rattle.proto_grammar.specs.declared.reserved.ReservedState.{ReservedState}

-- ---- tokens

-- a token lies in a text, and a string has both its quotes
pub record IsTokenOfText (text : List ℕ) (t : Token) : Type 0 where
  pub small : length text < 2 ^ 62
  pub ordered : t.start ≤ t.end
  pub within : t.end ≤ length text
  pub quotes : t.kind ≡ Text → 2 ≤ length (literal_of text t)

-- ---- faults

abbrev pub proto_fault_at : ProtoReason → Span → ProtoFault
proto_fault_at q s = fault.At q s.start s.end s.line

abbrev pub unexpected : Lexeme → ProtoFault
unexpected x = proto_fault_at (if is_no_token x.means then reasons.Token else reasons.Expected) x.span

abbrev pub wrong : {X : Type 0} → Lexeme → Result X ProtoFault
wrong x = Err (unexpected x)

-- the code returned what reading defines, or is out of memory
abbrev pub IsErrorOf : {X : Type 0} → ProtoFault → Result X ProtoFault → Type 0
IsErrorOf fault.Memory read = Unit {0}
IsErrorOf e read = read ≡ Err e

abbrev pub IsResultOf : {X : Type 0} → Result X ProtoFault → Result X ProtoFault → Type 0
IsResultOf (Ok x) read = read ≡ Ok x
IsResultOf (Err e) read = IsErrorOf e read

-- ---- names

-- the result for a name; any other token is at fault
abbrev pub by_name : {X : Type 0} → Lexeme → (List ℕ → X) → TokenMeaning → Result X ProtoFault
by_name x f (identifier name) = Ok (f name)
by_name x f m = wrong x

abbrev pub if_name : {X : Type 0} → Lexeme → (List ℕ → X) → Result X ProtoFault
if_name x f = by_name x f x.means

abbrev pub is_punctuator : TokenMeaning → ℕ → Bool
is_punctuator (mark c) d = c == d
is_punctuator m d = false

abbrev pub name_part : List ℕ → Span → NameStep
name_part name span = name_steps.More (names.Part (make_word name span))

unfoldable pub advance_full_name : NameState → Lexeme → Result NameStep ProtoFault
advance_full_name names.Start x = if_name x (λ n. name_part n x.span)
advance_full_name (names.Rooted s) x = if_name x (λ n. name_part (dot ∷ n) (span_to s x.span))
advance_full_name (names.Part w) x = if is_punctuator x.means dot then Ok (name_steps.More (names.Dot w)) else Ok (name_steps.Whole w)
advance_full_name (names.Dot w) x = if_name x (λ n. name_part (w.name ++ dot ∷ n) (span_to w.span x.span))

abbrev pub advance_type_name : NameState → Lexeme → Result NameStep ProtoFault
advance_type_name names.Start x =
    if is_punctuator x.means dot then Ok (name_steps.More (names.Rooted x.span)) else advance_full_name names.Start x
advance_type_name s x = advance_full_name s x

-- a type's name that doesn't start with `group`
abbrev pub advance_field_type_name : NameState → Lexeme → Result NameStep ProtoFault
advance_field_type_name names.Start x =
    if is_the_word x.means (codes "group") then Err (proto_fault_at reasons.Group x.span) else advance_type_name names.Start x
advance_field_type_name s x = advance_type_name s x

-- ---- numbers

abbrev pub by_number : {X : Type 0} → Lexeme → (Decimal → X) → TokenMeaning → Result X ProtoFault
by_number x f (integer value) = Ok (f value)
by_number x f m = wrong x

abbrev pub if_number : {X : Type 0} → Lexeme → (Decimal → X) → Result X ProtoFault
if_number x f = by_number x f x.means

-- ---- options

abbrev pub more_option : OptionState → Result OptionStep ProtoFault
more_option s = Ok (option_steps.More s)

abbrev pub truth_of : Bool → TokenMeaning → Option Bool
truth_of packed m =
    if packed && is_the_word m (codes "true") then Some true else if packed && is_the_word m (codes "false") then Some false else None

abbrev pub value_start : Bool → Lexeme → TokenMeaning → Result OptionStep ProtoFault
value_start packed x (identifier name) = more_option (option_states.Value (truth_of packed (identifier name)))
value_start packed x (integer value) = more_option option_states.End
value_start packed x number = more_option option_states.End
value_start packed x (string value) = more_option option_states.Text
value_start packed x (mark c) =
    if c == plus || c == minus then more_option option_states.Sign
    else if c == opening_brace then more_option (option_states.Braces 1)
    else wrong x
value_start packed x the_end = wrong x
value_start packed x none = wrong x

-- the number of open braces
abbrev pub option_depth : OptionState → ℕ
option_depth (option_states.Braces depth) = depth
option_depth s = 0

abbrev pub is_number : TokenMeaning → Bool
is_number (integer value) = true
is_number number = true
is_number m = false

abbrev pub is_string : TokenMeaning → Bool
is_string (string value) = true
is_string m = false

abbrev pub advance_braces : ℕ → Lexeme → TokenMeaning → Result OptionStep ProtoFault
advance_braces depth x the_end = wrong x
advance_braces depth x none = wrong x
advance_braces depth x (mark c) =
    if c == opening_brace then more_option (option_states.Braces (depth + 1))
    else if c == closing_brace then
    if nat_le depth 1 then more_option option_states.End
    else more_option (option_states.Braces (depth - 1))
    else more_option (option_states.Braces depth)
advance_braces depth x m = more_option (option_states.Braces depth)

unfoldable pub advance_option : OptionState → Lexeme → Result OptionStep ProtoFault
advance_option (option_states.Name first) x =
    if is_punctuator x.means opening_paren then more_option option_states.Open
    else if_name x (λ n. option_steps.More (option_states.Part (first && is_the_word x.means (codes "packed"))))
advance_option option_states.Open x =
    if is_punctuator x.means dot then more_option option_states.OpenName
    else if_name x (λ n. option_steps.More option_states.Inner)
advance_option option_states.OpenName x = if_name x (λ n. option_steps.More option_states.Inner)
advance_option option_states.Inner x =
    if is_punctuator x.means dot then more_option option_states.OpenName
    else if is_punctuator x.means closing_paren then more_option (option_states.Part false)
    else wrong x
advance_option (option_states.Part packed) x =
    if is_punctuator x.means dot then more_option (option_states.Name false)
    else if is_punctuator x.means equals then more_option (option_states.Equals packed)
    else wrong x
advance_option (option_states.Equals packed) x = value_start packed x x.means
advance_option option_states.Sign x = if is_number x.means then more_option option_states.End else wrong x
advance_option (option_states.Value says_packed) x =
    if is_punctuator x.means dot then more_option option_states.ValueDot else Ok (option_steps.Whole says_packed)
advance_option option_states.ValueDot x = if_name x (λ n. option_steps.More (option_states.Value None))
advance_option option_states.Text x =
    if is_string x.means then more_option option_states.Text else Ok (option_steps.Whole None)
advance_option (option_states.Braces depth) x = advance_braces depth x x.means
advance_option option_states.End x = Ok (option_steps.Whole None)

-- ---- after a number

-- the name of an option comes next
abbrev pub next_option : OptionState
next_option = option_states.Name true

abbrev pub after_option : Option Bool → Lexeme → Result TailStep ProtoFault
after_option packed x =
    if is_punctuator x.means comma then Ok (tail_steps.More (tails.Options packed next_option))
    else if is_punctuator x.means closing_bracket then Ok (tail_steps.More (tails.Closed packed))
    else wrong x

abbrev pub of_option : Option Bool → Lexeme → Result OptionStep ProtoFault → Result TailStep ProtoFault
of_option packed x (Ok (option_steps.More s)) = Ok (tail_steps.More (tails.Options packed s))
of_option packed x (Ok (option_steps.Whole says_packed)) = after_option (latest packed says_packed) x
of_option packed x (Err e) = Err e

unfoldable pub advance_tail : TailState → Lexeme → Result TailStep ProtoFault
advance_tail tails.Start x =
    if is_punctuator x.means opening_bracket then Ok (tail_steps.More (tails.Options None next_option))
    else if is_punctuator x.means semicolon then Ok (tail_steps.Done None)
    else wrong x
advance_tail (tails.Options packed s) x = of_option packed x (advance_option s x)
advance_tail (tails.Closed packed) x = if is_punctuator x.means semicolon then Ok (tail_steps.Done packed) else wrong x

abbrev pub tail_depth : TailState → ℕ
tail_depth (tails.Options packed s) = option_depth s
tail_depth s = 0

-- ---- fields

abbrev pub more_field : FieldState → Result FieldStep ProtoFault
more_field s = Ok (field_steps.More s)

abbrev pub more_map : MapState → Result MapStep ProtoFault
more_map s = Ok (map_steps.More s)

-- the name is `map`, and `<` follows it
abbrev pub is_map_start : Word → Lexeme → Bool
is_map_start w x = is_punctuator x.means less && bytes_eq w.name (codes "map")

abbrev pub after_key : Lexeme → Result NameStep ProtoFault → Result NameStep ProtoFault
after_key x (Ok (name_steps.Whole w)) = if is_punctuator x.means comma then Ok (name_steps.Whole w) else wrong x
after_key x r = r

abbrev pub advance_map_key : NameState → Lexeme → Result NameStep ProtoFault
advance_map_key s x = after_key x (advance_field_type_name s x)

abbrev pub of_key : Result NameStep ProtoFault → Result MapStep ProtoFault
of_key (Ok (name_steps.More s)) = more_map (maps.Key s)
of_key (Ok (name_steps.Whole key)) = more_map (maps.Value key names.Start)
of_key (Err e) = Err e

abbrev pub of_inner_key : Word → ℕ → Result NameStep ProtoFault → Result MapStep ProtoFault
of_inner_key outer depth (Ok (name_steps.More s)) = more_map (maps.InnerKey outer depth s)
of_inner_key outer depth (Ok (name_steps.Whole key)) = more_map (maps.InnerValue outer depth names.Start)
of_inner_key outer depth (Err e) = Err e

abbrev pub of_map_value : Word → Lexeme → Result NameStep ProtoFault → Result MapStep ProtoFault
of_map_value key x (Ok (name_steps.More s)) = more_map (maps.Value key s)
of_map_value key x (Ok (name_steps.Whole w)) =
    if is_punctuator x.means greater then Ok (map_steps.Done (types.Map key w))
    else if is_map_start w x then more_map (maps.InnerKey key 1 names.Start)
    else wrong x
of_map_value key x (Err e) = Err e

abbrev pub of_inner_value : Word → ℕ → Lexeme → Result NameStep ProtoFault → Result MapStep ProtoFault
of_inner_value outer depth x (Ok (name_steps.More s)) = more_map (maps.InnerValue outer depth s)
of_inner_value outer depth x (Ok (name_steps.Whole w)) =
    if is_punctuator x.means greater then more_map (maps.Close outer depth)
    else if is_map_start w x then more_map (maps.InnerKey outer (depth + 1) names.Start)
    else wrong x
of_inner_value outer depth x (Err e) = Err e

abbrev pub close_map : Word → ℕ → MapStep
close_map outer depth =
    if nat_le depth 1 then map_steps.Done (types.NestedMap outer) else map_steps.More (maps.Close outer (depth - 1))

unfoldable pub advance_map : MapState → Lexeme → Result MapStep ProtoFault
advance_map (maps.Key s) x = of_key (advance_map_key s x)
advance_map (maps.InnerKey outer depth s) x = of_inner_key outer depth (advance_map_key s x)
advance_map (maps.Value key s) x = of_map_value key x (advance_field_type_name s x)
advance_map (maps.InnerValue outer depth s) x = of_inner_value outer depth x (advance_field_type_name s x)
advance_map (maps.Close outer depth) x = if is_punctuator x.means greater then Ok (close_map outer depth) else wrong x

-- the number of maps that are open in the outermost one
abbrev pub map_depth : MapState → ℕ
map_depth (maps.InnerKey outer depth s) = depth
map_depth (maps.InnerValue outer depth s) = depth
map_depth s = 0

abbrev pub field_head : FieldLabel → FieldType → Word → FieldHead
field_head label kind name = record { label = label; kind = kind; name = name }

abbrev pub advance_named_field : FieldLabel → FieldType → Lexeme → Result FieldStep ProtoFault
advance_named_field label kind x = if_name x (λ n. field_steps.More (fields.Named (field_head label kind (make_word n x.span))))

abbrev pub of_type : FieldLabel → Lexeme → Result NameStep ProtoFault → Result FieldStep ProtoFault
of_type label x (Ok (name_steps.More s)) = more_field (fields.Type label s)
of_type label x (Ok (name_steps.Whole w)) =
    if is_map_start w x then more_field (fields.Map label (maps.Key names.Start)) else advance_named_field label (types.Named w) x
of_type label x (Err e) = Err e

abbrev pub of_map : FieldLabel → Result MapStep ProtoFault → Result FieldStep ProtoFault
of_map label (Ok (map_steps.More s)) = more_field (fields.Map label s)
of_map label (Ok (map_steps.Done kind)) = more_field (fields.Typed label kind)
of_map label (Err e) = Err e

abbrev pub finished_field : FieldHead → Number → Option Bool → FieldDecl
finished_field h n packed =
    record { name = h.name; number = n; kind = h.kind; label = h.label; oneof = None; packed = packed }

abbrev pub of_tail : FieldHead → Number → Result TailStep ProtoFault → Result FieldStep ProtoFault
of_tail h n (Ok (tail_steps.More s)) = more_field (fields.Tail h n s)
of_tail h n (Ok (tail_steps.Done packed)) = Ok (field_steps.Done (finished_field h n packed))
of_tail h n (Err e) = Err e

unfoldable pub advance_field : FieldState → Lexeme → Result FieldStep ProtoFault
advance_field (fields.Type label s) x = of_type label x (advance_field_type_name s x)
advance_field (fields.Map label s) x = of_map label (advance_map s x)
advance_field (fields.Typed label kind) x = advance_named_field label kind x
advance_field (fields.Named h) x = if is_punctuator x.means equals then more_field (fields.Equals h) else wrong x
advance_field (fields.Equals h) x =
    if_number x (λ v. field_steps.More (fields.Tail h (make_number false v x.span) tails.Start))
advance_field (fields.Tail h n s) x = of_tail h n (advance_tail s x)

abbrev pub field_depth : FieldState → ℕ
field_depth (fields.Map label s) = map_depth s
field_depth (fields.Tail h n s) = tail_depth s
field_depth s = 0

-- ---- values of an enum

abbrev pub more_value : ValueState → Result ValueStep ProtoFault
more_value s = Ok (value_steps.More s)

abbrev pub of_value_tail : Word → Number → Result TailStep ProtoFault → Result ValueStep ProtoFault
of_value_tail name n (Ok (tail_steps.More s)) = more_value (values.Tail name n s)
of_value_tail name n (Ok (tail_steps.Done packed)) = Ok (value_steps.Done (record { name = name; number = n }))
of_value_tail name n (Err e) = Err e

unfoldable pub advance_value : ValueState → Lexeme → Result ValueStep ProtoFault
advance_value (values.Named name) x = if is_punctuator x.means equals then more_value (values.Equals name) else wrong x
advance_value (values.Equals name) x =
    if is_punctuator x.means minus then more_value (values.Minus name x.span)
    else if_number x (λ v. value_steps.More (values.Tail name (make_number false v x.span) tails.Start))
advance_value (values.Minus name s) x =
    if_number x (λ v. value_steps.More (values.Tail name (make_number true v (span_to s x.span)) tails.Start))
advance_value (values.Tail name n s) x = of_value_tail name n (advance_tail s x)

abbrev pub value_depth : ValueState → ℕ
value_depth (values.Tail name n s) = tail_depth s
value_depth s = 0

-- ---- methods

abbrev pub more_rpc : RpcState → Result RpcStep ProtoFault
more_rpc s = Ok (rpc_steps.More s)

-- `stream` is read, and a name or a dot follows
abbrev pub is_streaming : NameState → Lexeme → Bool
is_streaming (names.Part w) x = bytes_eq w.name (codes "stream") && is_type_part x.means
is_streaming s x = false

abbrev pub part_span : NameState → Span → Span
part_span (names.Part w) s = w.span
part_span n s = s

abbrev pub after_type : Lexeme → Result NameStep ProtoFault → Result NameStep ProtoFault
after_type x (Ok (name_steps.Whole w)) = if is_punctuator x.means closing_paren then Ok (name_steps.Whole w) else wrong x
after_type x r = r

abbrev pub advance_rpc_type : NameState → Lexeme → Result NameStep ProtoFault
advance_rpc_type s x =
    if is_streaming s x then Err (proto_fault_at reasons.Stream (part_span s x.span)) else after_type x (advance_field_type_name s x)

abbrev pub of_input : Word → Result NameStep ProtoFault → Result RpcStep ProtoFault
of_input name (Ok (name_steps.More s)) = more_rpc (rpcs.Input name s)
of_input name (Ok (name_steps.Whole w)) = more_rpc (rpcs.Returns name w)
of_input name (Err e) = Err e

abbrev pub of_output : Word → Word → Result NameStep ProtoFault → Result RpcStep ProtoFault
of_output name input (Ok (name_steps.More s)) = more_rpc (rpcs.Output name input s)
of_output name input (Ok (name_steps.Whole w)) = more_rpc (rpcs.End (record { name = name; input = input; output = w }))
of_output name input (Err e) = Err e

unfoldable pub advance_rpc : RpcState → Lexeme → Result RpcStep ProtoFault
advance_rpc rpcs.Start x = if_name x (λ n. rpc_steps.More (rpcs.Named (make_word n x.span)))
advance_rpc (rpcs.Named name) x = if is_punctuator x.means opening_paren then more_rpc (rpcs.Input name names.Start) else wrong x
advance_rpc (rpcs.Input name s) x = of_input name (advance_rpc_type s x)
advance_rpc (rpcs.Returns name input) x =
    if is_the_word x.means (codes "returns") then more_rpc (rpcs.Open name input) else wrong x
advance_rpc (rpcs.Open name input) x =
    if is_punctuator x.means opening_paren then more_rpc (rpcs.Output name input names.Start) else wrong x
advance_rpc (rpcs.Output name input s) x = of_output name input (advance_rpc_type s x)
advance_rpc (rpcs.End r) x =
    if is_punctuator x.means semicolon then Ok (rpc_steps.Done r false)
    else if is_punctuator x.means opening_brace then Ok (rpc_steps.Done r true)
    else wrong x

-- ---- reserved numbers and names

abbrev pub a_number : Bool → Decimal → Span → Number
a_number negative v s = make_number negative v s

abbrev pub make_range : Number → Option Number → Range
make_range first last = record { first = first; last = last }

-- a token of a range
unfoldable pub advance_range : Bool → RangeState → Lexeme → Result RangeState ProtoFault
advance_range signed ranges.Start x =
    if signed && is_punctuator x.means minus then Ok (ranges.Minus x.span)
    else if_number x (λ v. ranges.First (make_number false v x.span))
advance_range signed (ranges.Minus s) x = if_number x (λ v. ranges.First (make_number true v (span_to s x.span)))
advance_range signed (ranges.First n) x = if is_the_word x.means (codes "to") then Ok (ranges.To n) else wrong x
advance_range signed (ranges.To n) x =
    if signed && is_punctuator x.means minus then Ok (ranges.ToMinus n x.span)
    else if is_the_word x.means (codes "max") then Ok (ranges.Whole (make_range n None))
    else if_number x (λ v. ranges.Whole (make_range n (Some (make_number false v x.span))))
advance_range signed (ranges.ToMinus n s) x =
    if_number x (λ v. ranges.Whole (make_range n (Some (make_number true v (span_to s x.span)))))
advance_range signed (ranges.Whole r) x = wrong x

abbrev pub whole_range : RangeState → Option Range
whole_range (ranges.First n) = Some (make_range n (Some n))
whole_range (ranges.Whole r) = Some r
whole_range s = None

abbrev pub more_reserved : Bool → ReservedPart → Result ReservedStep ProtoFault
more_reserved signed p = Ok (reserved_steps.More (record { signed = signed; part = p }))

abbrev pub of_range : Bool → List Range → Result RangeState ProtoFault → Result ReservedStep ProtoFault
of_range signed rs (Ok s) = more_reserved signed (reserved.Ranges rs s)
of_range signed rs (Err e) = Err e

abbrev pub after_range : Bool → List Range → RangeState → Lexeme → Option Range → Result ReservedStep ProtoFault
after_range signed rs s x None = of_range signed rs (advance_range signed s x)
after_range signed rs s x (Some r) =
    if is_punctuator x.means comma then more_reserved signed (reserved.Ranges (rs ++ r ∷ []) ranges.Start)
    else if is_punctuator x.means semicolon then Ok (reserved_steps.Ranges (rs ++ r ∷ []))
    else of_range signed rs (advance_range signed s x)

abbrev pub advance_ranges : Bool → List Range → RangeState → Lexeme → Result ReservedStep ProtoFault
advance_ranges signed rs s x = after_range signed rs s x (whole_range s)

abbrev pub by_string : {X : Type 0} → Lexeme → (List ℕ → X) → TokenMeaning → Result X ProtoFault
by_string x f (string value) = Ok (f value)
by_string x f m = wrong x

abbrev pub if_string : {X : Type 0} → Lexeme → (List ℕ → X) → Result X ProtoFault
if_string x f = by_string x f x.means

abbrev pub reserved_name : Bool → List Word → Lexeme → Result ReservedStep ProtoFault
reserved_name signed ws x =
    if_string x (λ v.
    reserved_steps.More (record { signed = signed; part = reserved.Name (ws ++ make_word v x.span ∷ []) }))

abbrev pub advance_reserved_part : Bool → ReservedPart → Lexeme → Result ReservedStep ProtoFault
advance_reserved_part signed reserved.Start x =
    if is_string x.means then reserved_name signed [] x else advance_ranges signed [] ranges.Start x
advance_reserved_part signed (reserved.Ranges rs s) x = advance_ranges signed rs s x
advance_reserved_part signed (reserved.Name ws) x =
    if is_punctuator x.means semicolon then Ok (reserved_steps.Names ws)
    else if is_punctuator x.means comma then more_reserved signed (reserved.NextName ws)
    else wrong x
advance_reserved_part signed (reserved.NextName ws) x = reserved_name signed ws x

unfoldable pub advance_reserved : ReservedState → Lexeme → Result ReservedStep ProtoFault
advance_reserved s x = advance_reserved_part s.signed s.part x
