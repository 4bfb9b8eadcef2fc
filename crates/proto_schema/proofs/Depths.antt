-- A token opens at most one more brace or map.
use Rattle.std.proofs.Common.{ℕ, ◌+◌, ◌-◌, ◌≤◌, ◌==◌, nat_le, Bool, true, false, List, codes, arith}
use Rattle.std.specs.Prelude.{Ok, Err, Result, Option, Some, None, if◌then◌else◌, not, ◌&&◌, ◌||◌}
use Rattle.std.specs.Str.{bytes_eq}
use Rattle.mrpc_table.specs.declared.words.Decimal.{Decimal}
use Rattle.proto_ast.specs.Dot.{dot}
use Rattle.proto_grammar.specs.Lexemes.{TokenMeaning, identifier, integer, number, string, mark, the_end, none, Lexeme}
use Rattle.proto_grammar.specs.Lexemes.{comma, semicolon, equals, minus, plus, opening_brace, closing_brace}
use Rattle.proto_grammar.specs.Lexemes.{opening_paren, closing_paren, opening_bracket, closing_bracket, greater}
use Rattle.proto_grammar.specs.Lexemes.{span_to, make_word, make_number, is_the_word}
use Rattle.proto_grammar.specs.Grammar.{latest}
use Rattle.proto_grammar.specs.Lexemes.{is_no_token}
use Rattle.proto_grammar.specs.Advancing.{proto_fault_at, wrong, is_punctuator, is_string, is_number, by_name, if_name, by_number}
use Rattle.proto_grammar.specs.Advancing.{if_number, advance_full_name, advance_field_type_name, advance_map_key, advance_option, option_depth}
use Rattle.proto_grammar.specs.Advancing.{more_option, value_start, advance_braces, advance_tail, tail_depth, of_option}
use Rattle.proto_grammar.specs.Advancing.{next_option, advance_field, field_depth, more_field, more_map, advance_map}
use Rattle.proto_grammar.specs.Advancing.{map_depth, close_map, is_map_start, of_key, of_inner_key, of_map_value, of_inner_value}
use Rattle.proto_grammar.specs.Advancing.{of_type, of_map, of_tail, advance_named_field, field_head, advance_value, value_depth}
use Rattle.proto_grammar.specs.Advancing.{of_value_tail, advance_rpc, advance_reserved}
use Rattle.proto_schema.specs.StatementReading.{advance_statement, depth, end_statement, advance_import, advance_first_token, start_field, of_package, of_options, of_reserved, of_rpc}
use Rattle.proto_schema.specs.StatementReading
use Rattle.proto_ast.specs.declared.file.Word.{Word}
use Rattle.proto_ast.specs.declared.file.Number.{Number}
use Rattle.proto_ast.specs.declared.file.FieldLabel.{FieldLabel}
use Rattle.proto_ast.specs.declared.file.FieldLabel.TheVariants as labels
use Rattle.proto_grammar.specs.declared.fault.ProtoReason.TheVariants as reasons
use Rattle.proto_grammar.specs.declared.fault.ProtoFault.{ProtoFault}
use Rattle.proto_grammar.specs.declared.name.NameState.TheVariants as names
use Rattle.proto_grammar.specs.declared.name.NameStep.{NameStep}
use Rattle.proto_grammar.specs.declared.name.NameStep.TheVariants as name_steps
use Rattle.proto_grammar.specs.declared.option.OptionState.{OptionState}
use Rattle.proto_grammar.specs.declared.option.OptionState.TheVariants as options
use Rattle.proto_grammar.specs.declared.option.OptionStep.{OptionStep}
use Rattle.proto_grammar.specs.declared.option.OptionStep.TheVariants as option_steps
use Rattle.proto_grammar.specs.declared.tail.TailState.{TailState}
use Rattle.proto_grammar.specs.declared.tail.TailState.TheVariants as tails
use Rattle.proto_grammar.specs.declared.tail.TailStep.{TailStep}
use Rattle.proto_grammar.specs.declared.tail.TailStep.TheVariants as tail_steps
use Rattle.proto_grammar.specs.declared.field.FieldHead.{FieldHead}
use Rattle.proto_ast.specs.declared.file.FieldType.{FieldType}
use Rattle.proto_ast.specs.declared.file.FieldType.TheVariants as types
use Rattle.proto_grammar.specs.declared.field.FieldState.{FieldState}
use Rattle.proto_grammar.specs.declared.field.FieldState.TheVariants as fields
use Rattle.proto_grammar.specs.declared.field.FieldStep.{FieldStep}
use Rattle.proto_grammar.specs.declared.field.FieldStep.TheVariants as field_steps
use Rattle.proto_grammar.specs.declared.field.MapState.{MapState}
use Rattle.proto_grammar.specs.declared.field.MapState.TheVariants as maps
use Rattle.proto_grammar.specs.declared.field.MapStep.{MapStep}
use Rattle.proto_grammar.specs.declared.field.MapStep.TheVariants as map_steps
use Rattle.proto_grammar.specs.declared.value.ValueState.{ValueState}
use Rattle.proto_grammar.specs.declared.value.ValueState.TheVariants as values
use Rattle.proto_grammar.specs.declared.value.ValueStep.{ValueStep}
use Rattle.proto_grammar.specs.declared.value.ValueStep.TheVariants as value_steps
use Rattle.proto_grammar.specs.declared.rpc.RpcState.TheVariants as rpcs
use Rattle.proto_grammar.specs.declared.rpc.RpcStep.{RpcStep}
use Rattle.proto_grammar.specs.declared.rpc.RpcStep.TheVariants as rpc_steps
use Rattle.proto_grammar.specs.declared.reserved.ReservedStep.{ReservedStep}
use Rattle.proto_grammar.specs.declared.reserved.ReservedStep.TheVariants as reserved_steps
use Rattle.proto_schema.specs.declared.statement.StatementPlace.{StatementPlace}
use Rattle.proto_schema.specs.declared.statement.StatementPlace.TheVariants as places
use Rattle.proto_schema.specs.declared.statement.StatementState.{StatementState}
use Rattle.proto_schema.specs.declared.statement.StatementState.TheVariants as states
use Rattle.proto_schema.specs.declared.statement.Opening.{Opening}
use Rattle.proto_schema.specs.declared.statement.StatementEffect.{StatementEffect}
use Rattle.proto_schema.specs.declared.statement.StatementEffect.TheVariants as said
use Rattle.proto_schema.specs.declared.statement.StatementStep.{StatementStep}
use Rattle.proto_schema.specs.declared.statement.StatementStep.TheVariants as steps

-- ---- choices

either : {A : Type 0} (P : A → Type 0) (b : Bool) (x y : A) → P x → P y → P (if b then x else y)
either P true x y h k = h
either P false x y h k = k

named : {X : Type 0} (P : Result X ProtoFault → Type 0) (x : Lexeme) (f : List ℕ → X) → ((n : List ℕ) → P (Ok (f n)))
    → P (wrong x) → P (if_name x f)
named {X} P x f h k = by x.means
  where
    by : (m : TokenMeaning) → P (by_name x f m)
    by (identifier name) = h name
    by (integer value) = k
    by number = k
    by (string value) = k
    by (mark c) = k
    by the_end = k
    by none = k

numbered : {X : Type 0} (P : Result X ProtoFault → Type 0) (x : Lexeme) (f : Decimal → X)
    → ((n : Decimal) → P (Ok (f n))) → P (wrong x) → P (if_number x f)
numbered {X} P x f h k = by x.means
  where
    by : (m : TokenMeaning) → P (by_number x f m)
    by (identifier name) = k
    by (integer value) = h value
    by number = k
    by (string value) = k
    by (mark c) = k
    by the_end = k
    by none = k

-- ---- the open braces and maps after a token

abbrev OptionWithin : ℕ → Result OptionStep ProtoFault → Type 0
OptionWithin n (Ok (option_steps.More s)) = option_depth s ≤ n
OptionWithin n r = Unit {0}

abbrev TailWithin : ℕ → Result TailStep ProtoFault → Type 0
TailWithin n (Ok (tail_steps.More s)) = tail_depth s ≤ n
TailWithin n r = Unit {0}

abbrev MapWithin : ℕ → Result MapStep ProtoFault → Type 0
MapWithin n (Ok (map_steps.More s)) = map_depth s ≤ n
MapWithin n r = Unit {0}

abbrev FieldWithin : ℕ → Result FieldStep ProtoFault → Type 0
FieldWithin n (Ok (field_steps.More s)) = field_depth s ≤ n
FieldWithin n r = Unit {0}

abbrev ValueWithin : ℕ → Result ValueStep ProtoFault → Type 0
ValueWithin n (Ok (value_steps.More s)) = value_depth s ≤ n
ValueWithin n r = Unit {0}

abbrev pub Within : ℕ → Result StatementStep ProtoFault → Type 0
Within n (Ok (steps.More s)) = depth s ≤ n
Within n r = Unit {0}

start_within : (packed : Bool) (x : Lexeme) (m : TokenMeaning) → OptionWithin 1 (value_start packed x m)
start_within packed x (identifier name) = omega arith
start_within packed x (integer value) = omega arith
start_within packed x number = omega arith
start_within packed x (string value) = omega arith
start_within packed x (mark c) =
    either (OptionWithin 1) (c == plus || c == minus) (more_option options.Sign) (if c == opening_brace then more_option (options.Braces 1) else wrong x) (omega arith)
    (either (OptionWithin 1) (c == opening_brace) (more_option (options.Braces 1)) (wrong x) (omega arith) tt)
start_within packed x the_end = tt
start_within packed x none = tt

brace_within : (n : ℕ) (x : Lexeme) (m : TokenMeaning) → OptionWithin (n + 1) (advance_braces n x m)
brace_within n x (identifier name) = omega arith
brace_within n x (integer value) = omega arith
brace_within n x number = omega arith
brace_within n x (string value) = omega arith
brace_within n x (mark c) =
    either (OptionWithin (n + 1)) (c == opening_brace) (more_option (options.Braces (n + 1)))
    (if c == closing_brace then if nat_le n 1 then more_option options.End else more_option (options.Braces (n - 1)) else more_option (options.Braces n)) (omega arith)
    (either (OptionWithin (n + 1)) (c == closing_brace) (if nat_le n 1 then more_option options.End else more_option (options.Braces (n - 1))) (more_option (options.Braces n))
    (either (OptionWithin (n + 1)) (nat_le n 1) (more_option options.End) (more_option (options.Braces (n - 1))) (omega arith) (omega arith)) (omega arith))
brace_within n x the_end = tt
brace_within n x none = tt

option_within : (s : OptionState) (x : Lexeme) → OptionWithin (option_depth s + 1) (advance_option s x)
unfolding advance_option
option_within (options.Name first) x =
    either (OptionWithin 1) (is_punctuator x.means opening_paren) (more_option options.Open)
    (if_name x (λ n. option_steps.More (options.Part (first && is_the_word x.means (codes "packed"))))) (omega arith)
    (named (OptionWithin 1) x (λ n. option_steps.More (options.Part (first && is_the_word x.means (codes "packed")))) (λ n. omega arith) tt)
option_within options.Open x =
    either (OptionWithin 1) (is_punctuator x.means dot) (more_option options.OpenName) (if_name x (λ n. option_steps.More options.Inner)) (omega arith)
    (named (OptionWithin 1) x (λ n. option_steps.More options.Inner) (λ n. omega arith) tt)
option_within options.OpenName x = named (OptionWithin 1) x (λ n. option_steps.More options.Inner) (λ n. omega arith) tt
option_within options.Inner x =
    either (OptionWithin 1) (is_punctuator x.means dot) (more_option options.OpenName) (if is_punctuator x.means closing_paren then more_option (options.Part false) else wrong x) (omega arith)
    (either (OptionWithin 1) (is_punctuator x.means closing_paren) (more_option (options.Part false)) (wrong x) (omega arith) tt)
option_within (options.Part packed) x =
    either (OptionWithin 1) (is_punctuator x.means dot) (more_option (options.Name false)) (if is_punctuator x.means equals then more_option (options.Equals packed) else wrong x) (omega arith)
    (either (OptionWithin 1) (is_punctuator x.means equals) (more_option (options.Equals packed)) (wrong x) (omega arith) tt)
option_within (options.Equals packed) x = start_within packed x x.means
option_within options.Sign x = either (OptionWithin 1) (is_number x.means) (more_option options.End) (wrong x) (omega arith) tt
option_within (options.Value b) x = either (OptionWithin 1) (is_punctuator x.means dot) (more_option options.ValueDot) (Ok (option_steps.Whole b)) (omega arith) tt
option_within options.ValueDot x = named (OptionWithin 1) x (λ n. option_steps.More (options.Value None)) (λ n. omega arith) tt
option_within options.Text x = either (OptionWithin 1) (is_string x.means) (more_option options.Text) (Ok (option_steps.Whole None)) (omega arith) tt
option_within (options.Braces n) x = brace_within n x x.means
option_within options.End x = tt

of_option_within : (n : ℕ) (packed : Option Bool) (x : Lexeme) (r : Result OptionStep ProtoFault) → OptionWithin n r
    → TailWithin n (of_option packed x r)
of_option_within n packed x (Ok (option_steps.More s)) h = h
of_option_within n packed x (Ok (option_steps.Whole b)) h =
    either (TailWithin n) (is_punctuator x.means comma) (Ok (tail_steps.More (tails.Options (latest packed b) next_option)))
    (if is_punctuator x.means closing_bracket then Ok (tail_steps.More (tails.Closed (latest packed b))) else wrong x)
    (omega arith)
    (either (TailWithin n) (is_punctuator x.means closing_bracket) (Ok (tail_steps.More (tails.Closed (latest packed b)))) (wrong x) (omega arith) tt)
of_option_within n packed x (Err e) h = tt

tail_within : (s : TailState) (x : Lexeme) → TailWithin (tail_depth s + 1) (advance_tail s x)
unfolding advance_tail
tail_within tails.Start x =
    either (TailWithin 1) (is_punctuator x.means opening_bracket) (Ok (tail_steps.More (tails.Options None next_option)))
    (if is_punctuator x.means semicolon then Ok (tail_steps.Done None) else wrong x) (omega arith)
    (either (TailWithin 1) (is_punctuator x.means semicolon) (Ok (tail_steps.Done None)) (wrong x) tt tt)
tail_within (tails.Options packed s) x = of_option_within (option_depth s + 1) packed x (advance_option s x) (option_within s x)
tail_within (tails.Closed packed) x = either (TailWithin 1) (is_punctuator x.means semicolon) (Ok (tail_steps.Done packed)) (wrong x) tt tt

of_key_within : (r : Result NameStep ProtoFault) → MapWithin 1 (of_key r)
of_key_within (Ok (name_steps.More s)) = omega arith
of_key_within (Ok (name_steps.Whole w)) = omega arith
of_key_within (Err e) = tt

of_inner_key_within : (k0 : Word) (n : ℕ) (r : Result NameStep ProtoFault) → MapWithin (n + 1) (of_inner_key k0 n r)
of_inner_key_within k0 n (Ok (name_steps.More s)) = omega arith
of_inner_key_within k0 n (Ok (name_steps.Whole w)) = omega arith
of_inner_key_within k0 n (Err e) = tt

of_value_within : (key : Word) (x : Lexeme) (r : Result NameStep ProtoFault) → MapWithin 1 (of_map_value key x r)
of_value_within key x (Ok (name_steps.More s)) = omega arith
of_value_within key x (Ok (name_steps.Whole w)) =
    either (MapWithin 1) (is_punctuator x.means greater) (Ok (map_steps.Done (types.Map key w))) (if is_map_start w x then more_map (maps.InnerKey key 1 names.Start) else wrong x) tt
    (either (MapWithin 1) (is_map_start w x) (more_map (maps.InnerKey key 1 names.Start)) (wrong x) (omega arith) tt)
of_value_within key x (Err e) = tt

of_inner_value_within : (k0 : Word) (n : ℕ) (x : Lexeme) (r : Result NameStep ProtoFault) → MapWithin (n + 1) (of_inner_value k0 n x r)
of_inner_value_within k0 n x (Ok (name_steps.More s)) = omega arith
of_inner_value_within k0 n x (Ok (name_steps.Whole w)) =
    either (MapWithin (n + 1)) (is_punctuator x.means greater) (more_map (maps.Close k0 n)) (if is_map_start w x then more_map (maps.InnerKey k0 (n + 1) names.Start) else wrong x) (omega arith)
    (either (MapWithin (n + 1)) (is_map_start w x) (more_map (maps.InnerKey k0 (n + 1) names.Start)) (wrong x) (omega arith) tt)
of_inner_value_within k0 n x (Err e) = tt

closed_within : (k0 : Word) (n : ℕ) → MapWithin 1 (Ok (close_map k0 n))
closed_within k0 n = by (nat_le n 1)
  where
    by : (b : Bool) → MapWithin 1 (Ok (if b then map_steps.Done (types.NestedMap k0) else map_steps.More (maps.Close k0 (n - 1))))
    by true = tt
    by false = omega arith

map_within : (s : MapState) (x : Lexeme) → MapWithin (map_depth s + 1) (advance_map s x)
unfolding advance_map
map_within (maps.Key s) x = of_key_within (advance_map_key s x)
map_within (maps.InnerKey k0 n s) x = of_inner_key_within k0 n (advance_map_key s x)
map_within (maps.Value key s) x = of_value_within key x (advance_field_type_name s x)
map_within (maps.InnerValue k0 n s) x = of_inner_value_within k0 n x (advance_field_type_name s x)
map_within (maps.Close k0 n) x = either (MapWithin 1) (is_punctuator x.means greater) (Ok (close_map k0 n)) (wrong x) (closed_within k0 n) tt

named_within : (label : FieldLabel) (kind : FieldType) (x : Lexeme) → FieldWithin 1 (advance_named_field label kind x)
named_within label kind x = named (FieldWithin 1) x (λ n. field_steps.More (fields.Named (field_head label kind (make_word n x.span)))) (λ n. omega arith) tt

of_type_within : (label : FieldLabel) (x : Lexeme) (r : Result NameStep ProtoFault) → FieldWithin 1 (of_type label x r)
of_type_within label x (Ok (name_steps.More s)) = omega arith
of_type_within label x (Ok (name_steps.Whole w)) =
    either (FieldWithin 1) (is_map_start w x) (more_field (fields.Map label (maps.Key names.Start))) (advance_named_field label (types.Named w) x) (omega arith) (named_within label (types.Named w) x)
of_type_within label x (Err e) = tt

of_map_within : (n : ℕ) (label : FieldLabel) (r : Result MapStep ProtoFault) → MapWithin n r
    → FieldWithin n (of_map label r)
of_map_within n label (Ok (map_steps.More s)) h = h
of_map_within n label (Ok (map_steps.Done kind)) h = omega arith
of_map_within n label (Err e) h = tt

of_tail_within : (n : ℕ) (h : FieldHead) (m : Number) (r : Result TailStep ProtoFault) → TailWithin n r
    → FieldWithin n (of_tail h m r)
of_tail_within n h m (Ok (tail_steps.More s)) k = k
of_tail_within n h m (Ok (tail_steps.Done packed)) k = tt
of_tail_within n h m (Err e) k = tt

field_within : (s : FieldState) (x : Lexeme) → FieldWithin (field_depth s + 1) (advance_field s x)
unfolding advance_field
field_within (fields.Type label s) x = of_type_within label x (advance_field_type_name s x)
field_within (fields.Map label s) x = of_map_within (map_depth s + 1) label (advance_map s x) (map_within s x)
field_within (fields.Typed label kind) x = named_within label kind x
field_within (fields.Named h) x = either (FieldWithin 1) (is_punctuator x.means equals) (more_field (fields.Equals h)) (wrong x) (omega arith) tt
field_within (fields.Equals h) x = numbered (FieldWithin 1) x (λ v. field_steps.More (fields.Tail h (make_number false v x.span) tails.Start)) (λ v. omega arith) tt
field_within (fields.Tail h n s) x = of_tail_within (tail_depth s + 1) h n (advance_tail s x) (tail_within s x)

of_value_tail_within : (n : ℕ) (name : Word) (m : Number) (r : Result TailStep ProtoFault) → TailWithin n r
    → ValueWithin n (of_value_tail name m r)
of_value_tail_within n name m (Ok (tail_steps.More s)) k = k
of_value_tail_within n name m (Ok (tail_steps.Done packed)) k = tt
of_value_tail_within n name m (Err e) k = tt

value_within : (s : ValueState) (x : Lexeme) → ValueWithin (value_depth s + 1) (advance_value s x)
unfolding advance_value
value_within (values.Named name) x = either (ValueWithin 1) (is_punctuator x.means equals) (Ok (value_steps.More (values.Equals name))) (wrong x) (omega arith) tt
value_within (values.Equals name) x =
    either (ValueWithin 1) (is_punctuator x.means minus) (Ok (value_steps.More (values.Minus name x.span)))
    (if_number x (λ v. value_steps.More (values.Tail name (make_number false v x.span) tails.Start))) (omega arith)
    (numbered (ValueWithin 1) x (λ v. value_steps.More (values.Tail name (make_number false v x.span) tails.Start)) (λ v. omega arith) tt)
value_within (values.Minus name s) x = numbered (ValueWithin 1) x (λ v. value_steps.More (values.Tail name (make_number true v (span_to s x.span)) tails.Start)) (λ v. omega arith) tt
value_within (values.Tail name n s) x = of_value_tail_within (tail_depth s + 1) name n (advance_tail s x) (tail_within s x)

-- ---- the start of a statement opens none

of_field_within : (n : ℕ) (r : Result FieldStep ProtoFault) → FieldWithin n r → Within n (StatementReading.of_field r)
of_field_within n (Ok (field_steps.More s)) h = h
of_field_within n (Ok (field_steps.Done f)) h = tt
of_field_within n (Err e) h = tt

field_begins_within : (x : Lexeme) → Within 1 (start_field x)
field_begins_within x = of_field_within 1 (advance_field (fields.Type labels.Plain names.Start) x) (field_within (fields.Type labels.Plain names.Start) x)

mark_within : (p : StatementPlace) (x : Lexeme) (c : ℕ) → Within 1 (StatementReading.start_at_punctuator p x c)
mark_within p x c =
    either (Within 1) (c == dot && StatementReading.has_fields p) (start_field x)
    (if c == semicolon && StatementReading.is_body p then StatementReading.done said.Nothing else if c == closing_brace
    && StatementReading.closes_in p then StatementReading.done said.Close else wrong x) (field_begins_within x)
    (either (Within 1) (c == semicolon && StatementReading.is_body p) (StatementReading.done said.Nothing) (if c == closing_brace && StatementReading.closes_in p then StatementReading.done said.Close else wrong x) tt
    (either (Within 1) (c == closing_brace && StatementReading.closes_in p) (StatementReading.done said.Close) (wrong x) tt tt))

file_within : (p : Bool) (n : List ℕ) (x : Lexeme) (o : Option Opening) → Within 1 (StatementReading.start_in_file p n x o)
file_within p n x (Some o) = omega arith
file_within p n x None =
    either (Within 1) (StatementReading.is_extend n) (Err (proto_fault_at reasons.Extend x.span))
    (if not p && bytes_eq n (codes "package") then StatementReading.more (states.Package names.Start)
    else if bytes_eq n (codes "import") then StatementReading.more (states.Import false) else wrong x) tt
    (either (Within 1) (not p && bytes_eq n (codes "package")) (StatementReading.more (states.Package names.Start))
    (if bytes_eq n (codes "import") then StatementReading.more (states.Import false) else wrong x) (omega arith)
    (either (Within 1) (bytes_eq n (codes "import")) (StatementReading.more (states.Import false)) (wrong x) (omega arith) tt))

message_within : (n : List ℕ) (x : Lexeme) (o : Option Opening) → Within 1 (StatementReading.start_in_message n x o)
message_within n x (Some o) = omega arith
message_within n x None =
    either (Within 1) (StatementReading.is_extend n) (Err (proto_fault_at reasons.Extend x.span))
    (if bytes_eq n (codes "reserved") then StatementReading.start_reserved false
    else if bytes_eq n (codes "optional") then StatementReading.labelled labels.Optional
    else if bytes_eq n (codes "repeated") then StatementReading.labelled labels.Repeated else start_field x) tt
    (either (Within 1) (bytes_eq n (codes "reserved")) (StatementReading.start_reserved false)
    (if bytes_eq n (codes "optional") then StatementReading.labelled labels.Optional
    else if bytes_eq n (codes "repeated") then StatementReading.labelled labels.Repeated else start_field x) (omega arith)
    (either (Within 1) (bytes_eq n (codes "optional")) (StatementReading.labelled labels.Optional)
    (if bytes_eq n (codes "repeated") then StatementReading.labelled labels.Repeated else start_field x) (omega arith)
    (either (Within 1) (bytes_eq n (codes "repeated")) (StatementReading.labelled labels.Repeated) (start_field x) (omega arith) (field_begins_within x))))

word_within : (p : StatementPlace) (x : Lexeme) (n : List ℕ) → Within 1 (StatementReading.start_at_word p x n)
word_within (places.File p) x n = file_within p n x (StatementReading.opening_of true n)
word_within places.Message x n = message_within n x (StatementReading.opening_of false n)
word_within (places.Oneof filled) x n = field_begins_within x
word_within (places.Enum filled) x n =
    either (Within 1) (bytes_eq n (codes "reserved")) (StatementReading.start_reserved true) (StatementReading.more (states.Value (values.Named (make_word n x.span)))) (omega arith) (omega arith)
word_within places.Service x n = either (Within 1) (bytes_eq n (codes "rpc")) (StatementReading.more (states.Rpc rpcs.Start)) (wrong x) (omega arith) tt
word_within places.Rpc x n = tt

begins_within : (p : StatementPlace) (x : Lexeme) (m : TokenMeaning) → Within 1 (advance_first_token p x m)
begins_within p x (identifier n) = either (Within 1) (bytes_eq n (codes "option")) (StatementReading.more (states.Option next_option)) (StatementReading.start_at_word p x n) (omega arith) (word_within p x n)
begins_within p x (integer value) = tt
begins_within p x number = tt
begins_within p x (string value) = tt
begins_within p x (mark c) = mark_within p x c
begins_within p x the_end = tt
begins_within p x none = tt

-- ---- further tokens

ended_within : (n : ℕ) (s : StatementEffect) (x : Lexeme) → Within n (end_statement s x)
ended_within n s x = either (Within n) (is_punctuator x.means semicolon) (StatementReading.done s) (wrong x) tt tt

package_within : (x : Lexeme) (r : Result NameStep ProtoFault) → Within 1 (of_package x r)
package_within x (Ok (name_steps.More s)) = omega arith
package_within x (Ok (name_steps.Whole w)) = ended_within 1 (said.Package w) x
package_within x (Err e) = tt

other_import : (x : Lexeme) (public : Bool) (m : TokenMeaning)
    → Within 1 (if not public && is_the_word m (codes "public") then StatementReading.more (states.Import true) else if is_no_token m
    || public then wrong x else Err (proto_fault_at reasons.Import x.span))
other_import x public m =
    either (Within 1) (not public && is_the_word m (codes "public")) (StatementReading.more (states.Import true))
    (if is_no_token m || public then wrong x else Err (proto_fault_at reasons.Import x.span)) (omega arith)
    (either (Within 1) (is_no_token m || public) (wrong x) (Err (proto_fault_at reasons.Import x.span)) tt tt)

import_within : (public : Bool) (x : Lexeme) (m : TokenMeaning) → Within 1 (advance_import public x m)
import_within public x (identifier name) = other_import x public (identifier name)
import_within public x (integer value) = other_import x public (integer value)
import_within public x number = other_import x public number
import_within public x (string path) = omega arith
import_within public x (mark c) = other_import x public (mark c)
import_within public x the_end = tt
import_within public x none = other_import x public none

options_within : (n : ℕ) (x : Lexeme) (r : Result OptionStep ProtoFault) → OptionWithin n r → Within n (of_options x r)
options_within n x (Ok (option_steps.More s)) h = h
options_within n x (Ok (option_steps.Whole b)) h = ended_within n said.Nothing x
options_within n x (Err e) h = tt

of_value_steps : (n : ℕ) (r : Result ValueStep ProtoFault) → ValueWithin n r → Within n (StatementReading.of_value r)
of_value_steps n (Ok (value_steps.More s)) h = h
of_value_steps n (Ok (value_steps.Done f)) h = tt
of_value_steps n (Err e) h = tt

of_rpc_within : (r : Result RpcStep ProtoFault) → Within 1 (of_rpc r)
of_rpc_within (Ok (rpc_steps.More s)) = omega arith
of_rpc_within (Ok (rpc_steps.Done r b)) = tt
of_rpc_within (Err e) = tt

of_reserved_within : (r : Result ReservedStep ProtoFault) → Within 1 (of_reserved r)
of_reserved_within (Ok (reserved_steps.More s)) = omega arith
of_reserved_within (Ok (reserved_steps.Ranges rs)) = tt
of_reserved_within (Ok (reserved_steps.Names ws)) = tt
of_reserved_within (Err e) = tt

pub statement_within : (p : StatementPlace) (s : StatementState) (x : Lexeme) → Within (depth s + 1) (advance_statement p s x)
unfolding advance_statement
statement_within p states.Begin x = begins_within p x x.means
statement_within p (states.Package s) x = package_within x (advance_full_name s x)
statement_within p (states.Import public) x = import_within public x x.means
statement_within p (states.Imported i) x = ended_within 1 (said.Import i) x
statement_within p (states.Option s) x = options_within (option_depth s + 1) x (advance_option s x) (option_within s x)
statement_within p (states.Opening o) x = named (Within 1) x (λ n. steps.More (states.Opened o (make_word n x.span))) (λ n. omega arith) tt
statement_within p (states.Opened o w) x = either (Within 1) (is_punctuator x.means opening_brace) (StatementReading.done (said.Open o w)) (wrong x) tt tt
statement_within p (states.Field s) x = of_field_within (field_depth s + 1) (advance_field s x) (field_within s x)
statement_within p (states.Reserved s) x = of_reserved_within (advance_reserved s x)
statement_within p (states.Value s) x = of_value_steps (value_depth s + 1) (advance_value s x) (value_within s x)
statement_within p (states.Rpc s) x = of_rpc_within (advance_rpc s x)
