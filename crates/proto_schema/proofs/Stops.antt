-- At the end of the text, and where no token starts, no statement continues or ends.
use Rattle.std.proofs.Common.{◌≡◌, ℕ, Bool, true, false, List, [], codes, refl}
use Rattle.std.specs.Prelude.{Ok, Err, Result, Option, Some, None, ◌&&◌}
use Rattle.std.specs.Str.{bytes_eq}
use Rattle.proto_lexer.specs.Tokens.{literal_of, is_last}
use Rattle.proto_lexer.specs.declared.token.TokenKind.{TokenKind}
use Rattle.proto_lexer.specs.declared.token.TokenKind.TheVariants as kinds
use Rattle.proto_lexer.specs.declared.token.Token.{Token}
use Rattle.proto_grammar.specs.Lexemes.{TokenMeaning, identifier, integer, number, string, mark, the_end, none, Lexeme, meaning, lexeme, span_of}
use Rattle.proto_grammar.specs.Advancing.{advance_full_name, advance_field_type_name, after_key, advance_option, advance_tail, of_option}
use Rattle.proto_grammar.specs.Advancing.{advance_field, advance_map, of_key, of_inner_key, of_map_value, of_inner_value, of_type}
use Rattle.proto_grammar.specs.Advancing.{of_map, of_tail, advance_value, of_value_tail, advance_rpc, after_type}
use Rattle.proto_grammar.specs.Advancing.{is_streaming, of_input, of_output, advance_reserved, advance_reserved_part}
use Rattle.proto_grammar.specs.Advancing.{advance_range, whole_range, after_range, of_range}
use Rattle.proto_schema.specs.StatementReading.{advance_statement, depth, of_package, of_options, of_reserved, of_rpc}
use Rattle.proto_schema.specs.StatementReading
use Rattle.proto_ast.specs.declared.file.Span.{Span}
use Rattle.proto_ast.specs.declared.file.Word.{Word}
use Rattle.proto_ast.specs.declared.file.Number.{Number}
use Rattle.proto_ast.specs.declared.file.Range.{Range}
use Rattle.proto_ast.specs.declared.file.FieldLabel.{FieldLabel}
use Rattle.proto_grammar.specs.declared.fault.ProtoFault.{ProtoFault}
use Rattle.proto_grammar.specs.declared.name.NameState.{NameState}
use Rattle.proto_grammar.specs.declared.name.NameState.TheVariants as names
use Rattle.proto_grammar.specs.declared.name.NameStep.{NameStep}
use Rattle.proto_grammar.specs.declared.name.NameStep.TheVariants as name_steps
use Rattle.proto_grammar.specs.declared.option.OptionState.{OptionState}
use Rattle.proto_grammar.specs.declared.option.OptionState.TheVariants as options
use Rattle.proto_grammar.specs.declared.option.OptionStep.{OptionStep}
use Rattle.proto_grammar.specs.declared.option.OptionStep.TheVariants as option_steps
use Rattle.proto_grammar.specs.declared.tail.TailState.{TailState}
use Rattle.proto_grammar.specs.declared.tail.TailState.TheVariants as tails
use Rattle.proto_grammar.specs.declared.tail.TailStep.{TailStep}
use Rattle.proto_grammar.specs.declared.field.FieldHead.{FieldHead}
use Rattle.proto_grammar.specs.declared.field.FieldState.{FieldState}
use Rattle.proto_grammar.specs.declared.field.FieldState.TheVariants as fields
use Rattle.proto_grammar.specs.declared.field.FieldStep.{FieldStep}
use Rattle.proto_grammar.specs.declared.field.MapState.{MapState}
use Rattle.proto_grammar.specs.declared.field.MapState.TheVariants as maps
use Rattle.proto_grammar.specs.declared.field.MapStep.{MapStep}
use Rattle.proto_grammar.specs.declared.value.ValueState.{ValueState}
use Rattle.proto_grammar.specs.declared.value.ValueState.TheVariants as values
use Rattle.proto_grammar.specs.declared.value.ValueStep.{ValueStep}
use Rattle.proto_grammar.specs.declared.rpc.RpcState.{RpcState}
use Rattle.proto_grammar.specs.declared.rpc.RpcState.TheVariants as rpcs
use Rattle.proto_grammar.specs.declared.rpc.RpcStep.{RpcStep}
use Rattle.proto_grammar.specs.declared.reserved.ReservedPart.{ReservedPart}
use Rattle.proto_grammar.specs.declared.reserved.ReservedPart.TheVariants as parts
use Rattle.proto_grammar.specs.declared.reserved.RangeState.{RangeState}
use Rattle.proto_grammar.specs.declared.reserved.RangeState.TheVariants as ranges
use Rattle.proto_grammar.specs.declared.reserved.ReservedStep.{ReservedStep}
use Rattle.proto_schema.specs.declared.statement.StatementPlace.{StatementPlace}
use Rattle.proto_schema.specs.declared.statement.StatementState.{StatementState}
use Rattle.proto_schema.specs.declared.statement.StatementState.TheVariants as states
use Rattle.proto_schema.specs.declared.statement.StatementStep.{StatementStep}

-- ---- nothing continues where no token starts, or at the end

abbrev Stops : {X : Type 0} → Result X ProtoFault → Type 0
Stops (Ok x) = ⊥
Stops (Err e) = Unit {0}

abbrev NameStops : Result NameStep ProtoFault → Type 0
NameStops (Ok (name_steps.More s)) = ⊥
NameStops (Ok (name_steps.Whole w)) = Unit {0}
NameStops (Err e) = Unit {0}

abbrev OptionStops : Result OptionStep ProtoFault → Type 0
OptionStops (Ok (option_steps.More s)) = ⊥
OptionStops (Ok (option_steps.Whole b)) = Unit {0}
OptionStops (Err e) = Unit {0}

abbrev at_end : Span → Lexeme
at_end s = record { means = the_end; span = s }

abbrev at_none : Span → Lexeme
at_none s = record { means = none; span = s }

and_false : (b : Bool) → (b && false) ≡ false
and_false true = refl
and_false false = refl

name_end : (p : Span) (s : NameState) → NameStops (advance_field_type_name s (at_end p))
unfolding advance_full_name
name_end p names.Start = tt
name_end p (names.Rooted s) = tt
name_end p (names.Part w) = tt
name_end p (names.Dot w) = tt

full_end : (p : Span) (s : NameState) → NameStops (advance_full_name s (at_end p))
unfolding advance_full_name
full_end p names.Start = tt
full_end p (names.Rooted s) = tt
full_end p (names.Part w) = tt
full_end p (names.Dot w) = tt

option_end : (p : Span) (s : OptionState) → OptionStops (advance_option s (at_end p))
unfolding advance_option
option_end p (options.Name first) = tt
option_end p options.Open = tt
option_end p options.OpenName = tt
option_end p options.Inner = tt
option_end p (options.Part packed) = tt
option_end p (options.Equals packed) = tt
option_end p options.Sign = tt
option_end p (options.Value says_packed) = tt
option_end p options.ValueDot = tt
option_end p options.Text = tt
option_end p (options.Braces depth) = tt
option_end p options.End = tt

of_option_end : (p : Span) (packed : Option Bool) (r : Result OptionStep ProtoFault) → OptionStops r
    → Stops (of_option packed (at_end p) r)
of_option_end p packed (Ok (option_steps.More s)) h = absurd h
of_option_end p packed (Ok (option_steps.Whole b)) h = tt
of_option_end p packed (Err e) h = tt

tail_end : (p : Span) (s : TailState) → Stops (advance_tail s (at_end p))
unfolding advance_tail
tail_end p tails.Start = tt
tail_end p (tails.Options packed s) = of_option_end p packed (advance_option s (at_end p)) (option_end p s)
tail_end p (tails.Closed packed) = tt

of_key_end : (p : Span) (r : Result NameStep ProtoFault) → NameStops r → Stops (of_key (after_key (at_end p) r))
of_key_end p (Ok (name_steps.More s)) h = absurd h
of_key_end p (Ok (name_steps.Whole w)) h = tt
of_key_end p (Err e) h = tt

of_inner_key_end : (p : Span) (k0 : Word) (depth : ℕ) (r : Result NameStep ProtoFault) → NameStops r
    → Stops (of_inner_key k0 depth (after_key (at_end p) r))
of_inner_key_end p k0 depth (Ok (name_steps.More s)) h = absurd h
of_inner_key_end p k0 depth (Ok (name_steps.Whole w)) h = tt
of_inner_key_end p k0 depth (Err e) h = tt

of_value_end : (p : Span) (key : Word) (r : Result NameStep ProtoFault) → NameStops r
    → Stops (of_map_value key (at_end p) r)
of_value_end p key (Ok (name_steps.More s)) h = absurd h
of_value_end p key (Ok (name_steps.Whole w)) h = tt
of_value_end p key (Err e) h = tt

of_inner_value_end : (p : Span) (k0 : Word) (depth : ℕ) (r : Result NameStep ProtoFault) → NameStops r
    → Stops (of_inner_value k0 depth (at_end p) r)
of_inner_value_end p k0 depth (Ok (name_steps.More s)) h = absurd h
of_inner_value_end p k0 depth (Ok (name_steps.Whole w)) h = tt
of_inner_value_end p k0 depth (Err e) h = tt

map_end : (p : Span) (s : MapState) → Stops (advance_map s (at_end p))
unfolding advance_map
map_end p (maps.Key s) = of_key_end p (advance_field_type_name s (at_end p)) (name_end p s)
map_end p (maps.InnerKey k0 depth s) = of_inner_key_end p k0 depth (advance_field_type_name s (at_end p)) (name_end p s)
map_end p (maps.Value key s) = of_value_end p key (advance_field_type_name s (at_end p)) (name_end p s)
map_end p (maps.InnerValue k0 depth s) = of_inner_value_end p k0 depth (advance_field_type_name s (at_end p)) (name_end p s)
map_end p (maps.Close k0 depth) = tt

of_type_end : (p : Span) (label : FieldLabel) (r : Result NameStep ProtoFault) → NameStops r
    → Stops (of_type label (at_end p) r)
of_type_end p label (Ok (name_steps.More s)) h = absurd h
of_type_end p label (Ok (name_steps.Whole w)) h = tt
of_type_end p label (Err e) h = tt

of_map_stops : (label : FieldLabel) (r : Result MapStep ProtoFault) → Stops r → Stops (of_map label r)
of_map_stops label (Ok s) h = absurd h
of_map_stops label (Err e) h = tt

of_tail_stops : (h : FieldHead) (n : Number) (r : Result TailStep ProtoFault) → Stops r → Stops (of_tail h n r)
of_tail_stops h n (Ok s) k = absurd k
of_tail_stops h n (Err e) k = tt

field_end : (p : Span) (s : FieldState) → Stops (advance_field s (at_end p))
unfolding advance_field
field_end p (fields.Type label s) = of_type_end p label (advance_field_type_name s (at_end p)) (name_end p s)
field_end p (fields.Map label s) = of_map_stops label (advance_map s (at_end p)) (map_end p s)
field_end p (fields.Typed label kind) = tt
field_end p (fields.Named h) = tt
field_end p (fields.Equals h) = tt
field_end p (fields.Tail h n s) = of_tail_stops h n (advance_tail s (at_end p)) (tail_end p s)

of_value_tail_stops : (name : Word) (n : Number) (r : Result TailStep ProtoFault) → Stops r
    → Stops (of_value_tail name n r)
of_value_tail_stops name n (Ok s) k = absurd k
of_value_tail_stops name n (Err e) k = tt

value_end : (p : Span) (s : ValueState) → Stops (advance_value s (at_end p))
unfolding advance_value
value_end p (values.Named name) = tt
value_end p (values.Equals name) = tt
value_end p (values.Minus name s) = tt
value_end p (values.Tail name n s) = of_value_tail_stops name n (advance_tail s (at_end p)) (tail_end p s)

of_input_end : (p : Span) (name : Word) (r : Result NameStep ProtoFault) → NameStops r
    → Stops (of_input name (after_type (at_end p) r))
of_input_end p name (Ok (name_steps.More s)) h = absurd h
of_input_end p name (Ok (name_steps.Whole w)) h = tt
of_input_end p name (Err e) h = tt

of_output_end : (p : Span) (name input : Word) (r : Result NameStep ProtoFault) → NameStops r
    → Stops (of_output name input (after_type (at_end p) r))
of_output_end p name input (Ok (name_steps.More s)) h = absurd h
of_output_end p name input (Ok (name_steps.Whole w)) h = tt
of_output_end p name input (Err e) h = tt

no_stream_end : (p : Span) (s : NameState) → is_streaming s (at_end p) ≡ false
no_stream_end p names.Start = refl
no_stream_end p (names.Rooted s) = refl
no_stream_end p (names.Part w) = and_false (bytes_eq w.name (codes "stream"))
no_stream_end p (names.Dot w) = refl

rpc_end : (p : Span) (s : RpcState) → Stops (advance_rpc s (at_end p))
unfolding advance_rpc
rpc_end p rpcs.Start = tt
rpc_end p (rpcs.Named name) = tt
rpc_end p (rpcs.Input name s) = rw (no_stream_end p s) (of_input_end p name (advance_field_type_name s (at_end p)) (name_end p s))
rpc_end p (rpcs.Returns name input) = tt
rpc_end p (rpcs.Open name input) = tt
rpc_end p (rpcs.Output name input s) = rw (no_stream_end p s) (of_output_end p name input (advance_field_type_name s (at_end p)) (name_end p s))
rpc_end p (rpcs.End r) = tt

range_end : (p : Span) (signed : Bool) (s : RangeState) → Stops (advance_range signed s (at_end p))
unfolding advance_range
range_end p true ranges.Start = tt
range_end p false ranges.Start = tt
range_end p signed (ranges.Minus s) = tt
range_end p signed (ranges.First n) = tt
range_end p true (ranges.To n) = tt
range_end p false (ranges.To n) = tt
range_end p signed (ranges.ToMinus n s) = tt
range_end p signed (ranges.Whole r) = tt

of_range_stops : (signed : Bool) (rs : List Range) (r : Result RangeState ProtoFault) → Stops r
    → Stops (of_range signed rs r)
of_range_stops signed rs (Ok s) h = absurd h
of_range_stops signed rs (Err e) h = tt

behind_range_end : (p : Span) (signed : Bool) (rs : List Range) (s : RangeState) (r : Option Range)
    → Stops (after_range signed rs s (at_end p) r)
behind_range_end p signed rs s None = of_range_stops signed rs (advance_range signed s (at_end p)) (range_end p signed s)
behind_range_end p signed rs s (Some r) = of_range_stops signed rs (advance_range signed s (at_end p)) (range_end p signed s)

reserved_end : (p : Span) (signed : Bool) (s : ReservedPart) → Stops (advance_reserved_part signed s (at_end p))
reserved_end p signed parts.Start = behind_range_end p signed [] ranges.Start None
reserved_end p signed (parts.Ranges rs s) = behind_range_end p signed rs s (whole_range s)
reserved_end p signed (parts.Name ws) = tt
reserved_end p signed (parts.NextName ws) = tt

package_end : (p : Span) (r : Result NameStep ProtoFault) → NameStops r → Stops (of_package (at_end p) r)
package_end p (Ok (name_steps.More s)) h = absurd h
package_end p (Ok (name_steps.Whole w)) h = tt
package_end p (Err e) h = tt

options_end : (p : Span) (r : Result OptionStep ProtoFault) → OptionStops r → Stops (of_options (at_end p) r)
options_end p (Ok (option_steps.More s)) h = absurd h
options_end p (Ok (option_steps.Whole w)) h = tt
options_end p (Err e) h = tt

of_field_stops : (r : Result FieldStep ProtoFault) → Stops r → Stops (StatementReading.of_field r)
of_field_stops (Ok s) h = absurd h
of_field_stops (Err e) h = tt

of_value_stops : (r : Result ValueStep ProtoFault) → Stops r → Stops (StatementReading.of_value r)
of_value_stops (Ok s) h = absurd h
of_value_stops (Err e) h = tt

of_rpc_stops : (r : Result RpcStep ProtoFault) → Stops r → Stops (of_rpc r)
of_rpc_stops (Ok s) h = absurd h
of_rpc_stops (Err e) h = tt

of_reserved_stops : (r : Result ReservedStep ProtoFault) → Stops r → Stops (of_reserved r)
of_reserved_stops (Ok s) h = absurd h
of_reserved_stops (Err e) h = tt

statement_end : (p : Span) (place : StatementPlace) (s : StatementState) → Stops (advance_statement place s (at_end p))
unfolding advance_statement advance_reserved
statement_end p place states.Begin = tt
statement_end p place (states.Package s) = package_end p (advance_full_name s (at_end p)) (full_end p s)
statement_end p place (states.Import true) = tt
statement_end p place (states.Import false) = tt
statement_end p place (states.Imported i) = tt
statement_end p place (states.Option s) = options_end p (advance_option s (at_end p)) (option_end p s)
statement_end p place (states.Opening o) = tt
statement_end p place (states.Opened o w) = tt
statement_end p place (states.Field s) = of_field_stops (advance_field s (at_end p)) (field_end p s)
statement_end p place (states.Reserved s) = of_reserved_stops (advance_reserved s (at_end p)) (reserved_end p s.signed s.part)
statement_end p place (states.Value s) = of_value_stops (advance_value s (at_end p)) (value_end p s)
statement_end p place (states.Rpc s) = of_rpc_stops (advance_rpc s (at_end p)) (rpc_end p s)

name_none : (p : Span) (s : NameState) → NameStops (advance_field_type_name s (at_none p))
unfolding advance_full_name
name_none p names.Start = tt
name_none p (names.Rooted s) = tt
name_none p (names.Part w) = tt
name_none p (names.Dot w) = tt

full_none : (p : Span) (s : NameState) → NameStops (advance_full_name s (at_none p))
unfolding advance_full_name
full_none p names.Start = tt
full_none p (names.Rooted s) = tt
full_none p (names.Part w) = tt
full_none p (names.Dot w) = tt

option_none : (p : Span) (s : OptionState) → OptionStops (advance_option s (at_none p))
unfolding advance_option
option_none p (options.Name first) = tt
option_none p options.Open = tt
option_none p options.OpenName = tt
option_none p options.Inner = tt
option_none p (options.Part packed) = tt
option_none p (options.Equals packed) = tt
option_none p options.Sign = tt
option_none p (options.Value says_packed) = tt
option_none p options.ValueDot = tt
option_none p options.Text = tt
option_none p (options.Braces depth) = tt
option_none p options.End = tt

of_option_none : (p : Span) (packed : Option Bool) (r : Result OptionStep ProtoFault) → OptionStops r
    → Stops (of_option packed (at_none p) r)
of_option_none p packed (Ok (option_steps.More s)) h = absurd h
of_option_none p packed (Ok (option_steps.Whole b)) h = tt
of_option_none p packed (Err e) h = tt

tail_none : (p : Span) (s : TailState) → Stops (advance_tail s (at_none p))
unfolding advance_tail
tail_none p tails.Start = tt
tail_none p (tails.Options packed s) = of_option_none p packed (advance_option s (at_none p)) (option_none p s)
tail_none p (tails.Closed packed) = tt

of_key_none : (p : Span) (r : Result NameStep ProtoFault) → NameStops r → Stops (of_key (after_key (at_none p) r))
of_key_none p (Ok (name_steps.More s)) h = absurd h
of_key_none p (Ok (name_steps.Whole w)) h = tt
of_key_none p (Err e) h = tt

of_inner_key_none : (p : Span) (k0 : Word) (depth : ℕ) (r : Result NameStep ProtoFault) → NameStops r
    → Stops (of_inner_key k0 depth (after_key (at_none p) r))
of_inner_key_none p k0 depth (Ok (name_steps.More s)) h = absurd h
of_inner_key_none p k0 depth (Ok (name_steps.Whole w)) h = tt
of_inner_key_none p k0 depth (Err e) h = tt

of_value_none : (p : Span) (key : Word) (r : Result NameStep ProtoFault) → NameStops r
    → Stops (of_map_value key (at_none p) r)
of_value_none p key (Ok (name_steps.More s)) h = absurd h
of_value_none p key (Ok (name_steps.Whole w)) h = tt
of_value_none p key (Err e) h = tt

of_inner_value_none : (p : Span) (k0 : Word) (depth : ℕ) (r : Result NameStep ProtoFault) → NameStops r
    → Stops (of_inner_value k0 depth (at_none p) r)
of_inner_value_none p k0 depth (Ok (name_steps.More s)) h = absurd h
of_inner_value_none p k0 depth (Ok (name_steps.Whole w)) h = tt
of_inner_value_none p k0 depth (Err e) h = tt

map_none : (p : Span) (s : MapState) → Stops (advance_map s (at_none p))
unfolding advance_map
map_none p (maps.Key s) = of_key_none p (advance_field_type_name s (at_none p)) (name_none p s)
map_none p (maps.InnerKey k0 depth s) = of_inner_key_none p k0 depth (advance_field_type_name s (at_none p)) (name_none p s)
map_none p (maps.Value key s) = of_value_none p key (advance_field_type_name s (at_none p)) (name_none p s)
map_none p (maps.InnerValue k0 depth s) = of_inner_value_none p k0 depth (advance_field_type_name s (at_none p)) (name_none p s)
map_none p (maps.Close k0 depth) = tt

of_type_none : (p : Span) (label : FieldLabel) (r : Result NameStep ProtoFault) → NameStops r
    → Stops (of_type label (at_none p) r)
of_type_none p label (Ok (name_steps.More s)) h = absurd h
of_type_none p label (Ok (name_steps.Whole w)) h = tt
of_type_none p label (Err e) h = tt

field_none : (p : Span) (s : FieldState) → Stops (advance_field s (at_none p))
unfolding advance_field
field_none p (fields.Type label s) = of_type_none p label (advance_field_type_name s (at_none p)) (name_none p s)
field_none p (fields.Map label s) = of_map_stops label (advance_map s (at_none p)) (map_none p s)
field_none p (fields.Typed label kind) = tt
field_none p (fields.Named h) = tt
field_none p (fields.Equals h) = tt
field_none p (fields.Tail h n s) = of_tail_stops h n (advance_tail s (at_none p)) (tail_none p s)

value_none : (p : Span) (s : ValueState) → Stops (advance_value s (at_none p))
unfolding advance_value
value_none p (values.Named name) = tt
value_none p (values.Equals name) = tt
value_none p (values.Minus name s) = tt
value_none p (values.Tail name n s) = of_value_tail_stops name n (advance_tail s (at_none p)) (tail_none p s)

of_input_none : (p : Span) (name : Word) (r : Result NameStep ProtoFault) → NameStops r
    → Stops (of_input name (after_type (at_none p) r))
of_input_none p name (Ok (name_steps.More s)) h = absurd h
of_input_none p name (Ok (name_steps.Whole w)) h = tt
of_input_none p name (Err e) h = tt

of_output_none : (p : Span) (name input : Word) (r : Result NameStep ProtoFault) → NameStops r
    → Stops (of_output name input (after_type (at_none p) r))
of_output_none p name input (Ok (name_steps.More s)) h = absurd h
of_output_none p name input (Ok (name_steps.Whole w)) h = tt
of_output_none p name input (Err e) h = tt

no_stream_none : (p : Span) (s : NameState) → is_streaming s (at_none p) ≡ false
no_stream_none p names.Start = refl
no_stream_none p (names.Rooted s) = refl
no_stream_none p (names.Part w) = and_false (bytes_eq w.name (codes "stream"))
no_stream_none p (names.Dot w) = refl

rpc_none : (p : Span) (s : RpcState) → Stops (advance_rpc s (at_none p))
unfolding advance_rpc
rpc_none p rpcs.Start = tt
rpc_none p (rpcs.Named name) = tt
rpc_none p (rpcs.Input name s) = rw (no_stream_none p s) (of_input_none p name (advance_field_type_name s (at_none p)) (name_none p s))
rpc_none p (rpcs.Returns name input) = tt
rpc_none p (rpcs.Open name input) = tt
rpc_none p (rpcs.Output name input s) = rw (no_stream_none p s) (of_output_none p name input (advance_field_type_name s (at_none p)) (name_none p s))
rpc_none p (rpcs.End r) = tt

range_none : (p : Span) (signed : Bool) (s : RangeState) → Stops (advance_range signed s (at_none p))
unfolding advance_range
range_none p true ranges.Start = tt
range_none p false ranges.Start = tt
range_none p signed (ranges.Minus s) = tt
range_none p signed (ranges.First n) = tt
range_none p true (ranges.To n) = tt
range_none p false (ranges.To n) = tt
range_none p signed (ranges.ToMinus n s) = tt
range_none p signed (ranges.Whole r) = tt

behind_range_none : (p : Span) (signed : Bool) (rs : List Range) (s : RangeState) (r : Option Range)
    → Stops (after_range signed rs s (at_none p) r)
behind_range_none p signed rs s None = of_range_stops signed rs (advance_range signed s (at_none p)) (range_none p signed s)
behind_range_none p signed rs s (Some r) = of_range_stops signed rs (advance_range signed s (at_none p)) (range_none p signed s)

reserved_none : (p : Span) (signed : Bool) (s : ReservedPart) → Stops (advance_reserved_part signed s (at_none p))
reserved_none p signed parts.Start = behind_range_none p signed [] ranges.Start None
reserved_none p signed (parts.Ranges rs s) = behind_range_none p signed rs s (whole_range s)
reserved_none p signed (parts.Name ws) = tt
reserved_none p signed (parts.NextName ws) = tt

package_none : (p : Span) (r : Result NameStep ProtoFault) → NameStops r → Stops (of_package (at_none p) r)
package_none p (Ok (name_steps.More s)) h = absurd h
package_none p (Ok (name_steps.Whole w)) h = tt
package_none p (Err e) h = tt

options_none : (p : Span) (r : Result OptionStep ProtoFault) → OptionStops r → Stops (of_options (at_none p) r)
options_none p (Ok (option_steps.More s)) h = absurd h
options_none p (Ok (option_steps.Whole w)) h = tt
options_none p (Err e) h = tt

statement_none : (p : Span) (place : StatementPlace) (s : StatementState) → Stops (advance_statement place s (at_none p))
unfolding advance_statement advance_reserved
statement_none p place states.Begin = tt
statement_none p place (states.Package s) = package_none p (advance_full_name s (at_none p)) (full_none p s)
statement_none p place (states.Import true) = tt
statement_none p place (states.Import false) = tt
statement_none p place (states.Imported i) = tt
statement_none p place (states.Option s) = options_none p (advance_option s (at_none p)) (option_none p s)
statement_none p place (states.Opening o) = tt
statement_none p place (states.Opened o w) = tt
statement_none p place (states.Field s) = of_field_stops (advance_field s (at_none p)) (field_none p s)
statement_none p place (states.Reserved s) = of_reserved_stops (advance_reserved s (at_none p)) (reserved_none p s.signed s.part)
statement_none p place (states.Value s) = of_value_stops (advance_value s (at_none p)) (value_none p s)
statement_none p place (states.Rpc s) = of_rpc_stops (advance_rpc s (at_none p)) (rpc_none p s)

-- ---- any such token

stops_none : (r : Result StatementStep ProtoFault) → Stops r → (s : StatementStep) → r ≡ Ok s → ⊥
stops_none (Ok t) h s e = h
stops_none (Err f) h s e = cc

abbrev is_stop : TokenMeaning → Bool
is_stop the_end = true
is_stop none = true
is_stop m = false

at_stop : (m : TokenMeaning) → is_stop m ≡ true → (p : Span) (place : StatementPlace) (s : StatementState) → Stops (advance_statement place s (record { means = m; span = p }))
at_stop the_end h p place s = statement_end p place s
at_stop none h p place s = statement_none p place s
at_stop (identifier name) h p place s = absurd (let t : false ≡ true = h in cc)
at_stop (integer value) h p place s = absurd (let t : false ≡ true = h in cc)
at_stop number h p place s = absurd (let t : false ≡ true = h in cc)
at_stop (string value) h p place s = absurd (let t : false ≡ true = h in cc)
at_stop (mark c) h p place s = absurd (let t : false ≡ true = h in cc)

last_means : (k : TokenKind) (literal : List ℕ) → is_last k ≡ true → is_stop (meaning k literal) ≡ true
last_means kinds.End literal h = refl
last_means kinds.Bad literal h = refl
last_means kinds.Identifier literal h = absurd (let t : false ≡ true = h in cc)
last_means (kinds.Integer v) literal h = absurd (let t : false ≡ true = h in cc)
last_means kinds.Number literal h = absurd (let t : false ≡ true = h in cc)
last_means kinds.Text literal h = absurd (let t : false ≡ true = h in cc)
last_means (kinds.Mark c) literal h = absurd (let t : false ≡ true = h in cc)

-- a statement doesn't contain the last token of a text
pub takes_no_last : (text : List ℕ) (t : Token) (place : StatementPlace) (s : StatementState) (r : StatementStep)
    → advance_statement place s (lexeme text t) ≡ Ok r → is_last t.kind ≡ false
takes_no_last text t place s r e = by (is_last t.kind) refl
  where
    by : (b : Bool) → is_last t.kind ≡ b → is_last t.kind ≡ false
    by false h = h
    by true h = absurd (stops_none (advance_statement place s (lexeme text t)) (at_stop (meaning t.kind (literal_of text t)) (last_means t.kind (literal_of text t) h) (span_of t) place s) r e)
