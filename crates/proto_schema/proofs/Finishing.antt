-- From every state there are tokens that end the part, and from every draft there are tokens that end the text.
use Rattle.std.proofs.Common.{subst, ◌≡◌, ◌⊎◌, inl, inr, ℕ, zero, suc, Bool, true, false, List, [], ◌∷◌, ◌++◌, codes, refl, ap, sym, ◌∙◌, arith}
use Rattle.std.specs.Prelude.{Ok, Option, Some, None, ◌&&◌}
use Rattle.proto_grammar.specs.Lexemes.{TokenMeaning, identifier, integer, string, mark, the_end, Lexeme, semicolon, equals}
use Rattle.proto_schema.specs.Files
use Rattle.proto_schema.specs.Files.{Draft, OpenBlock, no_block, a_oneof, an_enum, a_service, an_rpc}
use Rattle.proto_schema.specs.StatementReading.{statement_place, place_with, draft_with, read, run}
use Rattle.proto_schema.proofs.Next.{run_over}
use Rattle.proto_ast.specs.declared.file.Word.{Word}
use Rattle.proto_ast.specs.declared.file.File.{File}
use Rattle.proto_schema.specs.declared.statement.Opening.{Opening}
use Rattle.proto_schema.specs.declared.statement.StatementState.{StatementState}
use Rattle.proto_schema.specs.declared.statement.StatementState.TheVariants as states
use Rattle.proto_schema.specs.declared.statement.StatementEffect.{StatementEffect}
use Rattle.proto_schema.specs.declared.statement.StatementEffect.TheVariants as said
use Rattle.proto_ast.specs.Dot.{dot}
use Rattle.proto_grammar.specs.Lexemes.{opening_brace, closing_brace, span_to, make_word}
use Rattle.proto_grammar.specs.Advancing.{advance_full_name, advance_option, advance_field, advance_reserved, advance_value, advance_rpc}
use Rattle.proto_schema.specs.StatementReading.{imported, filled_with, without_first, closed_draft, closes_in}
use Rattle.proto_schema.proofs.NameLemmas.{Walks, stay, go, walks_in, FullGoes}
use Rattle.proto_schema.proofs.OptionReads.{OptionGoes}
use Rattle.proto_schema.proofs.Takes.{Takes, last, next, walk_takes, takes_in}
use Rattle.proto_schema.proofs.FieldReads.{FieldGoes, FieldEnds, FieldTakes}
use Rattle.proto_schema.proofs.RpcReads.{RpcGoes, RpcEnds, semicolon_ends}
use Rattle.proto_schema.proofs.ValueReads.{ValueGoes, ValueEnds, ReservedGoes, ReservedEnds, ReservedTakes}
use Rattle.proto_schema.proofs.ValueRest.{value_of}
use Rattle.proto_schema.proofs.ReservedRest.{Kept}
use Rattle.proto_schema.proofs.StatementRest.{said_of}
use Rattle.proto_schema.proofs.RunRest.{not_deep, begin_or}
use Rattle.proto_schema.proofs.StatementRest.{NotBegin}
use Rattle.proto_ast.specs.declared.file.Span.{Span}
use Rattle.proto_ast.specs.declared.file.Number.{Number}
use Rattle.proto_ast.specs.declared.file.Range.{Range}
use Rattle.proto_ast.specs.declared.file.Import.{Import}
use Rattle.proto_ast.specs.declared.file.FieldLabel.{FieldLabel}
use Rattle.proto_ast.specs.declared.file.FieldLabel.TheVariants as labels
use Rattle.proto_ast.specs.declared.file.FieldType.{FieldType}
use Rattle.proto_ast.specs.declared.file.FieldDecl.{FieldDecl}
use Rattle.proto_ast.specs.declared.file.ValueDecl.{ValueDecl}
use Rattle.proto_ast.specs.declared.file.RpcDecl.{RpcDecl}
use Rattle.proto_grammar.specs.declared.name.NameState.{NameState}
use Rattle.proto_grammar.specs.declared.name.NameState.TheVariants as names
use Rattle.proto_grammar.specs.declared.option.OptionState.{OptionState}
use Rattle.proto_grammar.specs.declared.field.FieldState.{FieldState}
use Rattle.proto_grammar.specs.declared.field.FieldState.TheVariants as fields
use Rattle.proto_grammar.specs.declared.value.ValueState.{ValueState}
use Rattle.proto_grammar.specs.declared.value.ValueState.TheVariants as values
use Rattle.proto_grammar.specs.declared.rpc.RpcState.{RpcState}
use Rattle.proto_grammar.specs.declared.rpc.RpcState.TheVariants as rpcs
use Rattle.proto_grammar.specs.declared.reserved.ReservedState.{ReservedState}
use Rattle.proto_grammar.specs.declared.reserved.ReservedPart.{ReservedPart}
use Rattle.proto_grammar.specs.declared.reserved.ReservedPart.TheVariants as parts
use Rattle.proto_schema.specs.declared.statement.StatementPlace.{StatementPlace}
use Rattle.proto_schema.specs.declared.statement.StatementPlace.TheVariants as places
use Rattle.proto_grammar.specs.Advancing
use Rattle.proto_grammar.specs.Lexemes
use Rattle.mrpc_table.specs.declared.words.Decimal.TheVariants.{Small}
use Rattle.proto_grammar.specs.Lexemes.{comma, opening_paren, closing_paren, closing_bracket, greater}
use Rattle.proto_grammar.specs.Grammar.{latest}
use Rattle.proto_grammar.specs.Advancing.{name_part, advance_tail, advance_map, advance_range, make_range, whole_range}
use Rattle.proto_schema.proofs.OptionReads.{closing_goes, Ready, ready_value, ready_text, ready_end, TailGoes, options_bracket, in_options}
use Rattle.proto_schema.proofs.FieldReads.{first_goes, TypedGoes, MapGoes, MapEnds, in_key, key_comma, in_inner_key}
use Rattle.proto_schema.proofs.FieldReads.{inner_comma, in_value as in_map_value, value_ends as map_value_ends}
use Rattle.proto_schema.proofs.FieldReads.{in_inner_value, inner_value_ends, close_goes, in_type, name_ready, in_map}
use Rattle.proto_schema.proofs.FieldReads.{map_ends, typed_ready, in_tail, tail_ends}
use Rattle.proto_schema.proofs.RpcReads.{RpcTypeGoes, in_input, input_ends, in_output, output_ends}
use Rattle.proto_schema.proofs.ValueReads.{RangeGoes, in_tail as in_value_tail, tail_ends as value_tail_ends, in_ranges, range_ends, kept}
use Rattle.proto_ast.specs.declared.file.FieldType.TheVariants as types
use Rattle.proto_grammar.specs.declared.option.OptionState.TheVariants as option_states
use Rattle.proto_grammar.specs.declared.field.FieldHead.{FieldHead}
use Rattle.proto_grammar.specs.declared.field.MapState.{MapState}
use Rattle.proto_grammar.specs.declared.field.MapState.TheVariants as maps
use Rattle.proto_grammar.specs.declared.tail.TailState.{TailState}
use Rattle.proto_grammar.specs.declared.tail.TailState.TheVariants as tails
use Rattle.proto_grammar.specs.declared.tail.TailStep.TheVariants as tail_steps
use Rattle.proto_grammar.specs.declared.reserved.RangeState.{RangeState}
use Rattle.proto_grammar.specs.declared.reserved.RangeState.TheVariants as ranges
use Rattle.proto_schema.proofs.RunReads.{StepGoes, StepEnds, StepTakes, in_block, run_takes, in_package, package_ends}
use Rattle.proto_schema.proofs.RunReads.{import_path, import_ends, in_option, option_ends, opening_name, opened_ends}
use Rattle.proto_schema.proofs.RunReads.{in_field, field_ends, in_reserved, reserved_ends, in_value, value_ends}
use Rattle.proto_schema.proofs.RunReads.{in_rpc, rpc_ends, closing, field_first, oneof_leads, by_word, value_word}
use Rattle.proto_schema.proofs.RunReads.{whole_is_over}

-- ---- example tokens

abbrev nowhere : Span
nowhere = record { start = 0; end = 0; line = 1 }

abbrev pub token : TokenMeaning → Lexeme
token m = record { means = m; span = nowhere }

abbrev a_word : Lexeme
a_word = token (identifier (codes "a"))

abbrev pub a_mark : ℕ → Lexeme
a_mark c = token (mark c)

abbrev a_one : Lexeme
a_one = token (integer (Small 1))

-- ---- names

abbrev pub NameEnds : (NameState → Lexeme → NameState → Type 0) → NameState → Type 0
NameEnds goes s = (ys : List Lexeme) × (w : Word) × Walks goes s ys (names.Part w)

full_finish : (s : NameState) → NameEnds FullGoes s
unfolding advance_full_name
full_finish names.Start = (a_word ∷ [], make_word (codes "a") nowhere, go a_word [] refl refl (stay refl refl))
full_finish (names.Rooted s) = (a_word ∷ [], make_word (dot ∷ codes "a") (span_to s nowhere), go a_word [] refl refl (stay refl refl))
full_finish (names.Part w) = ([], w, stay refl refl)
full_finish (names.Dot w) = (a_word ∷ [], make_word (w.name ++ dot ∷ codes "a") (span_to w.span nowhere), go a_word [] refl refl (stay refl refl))

typed_finish : (s : NameState) → NameEnds TypedGoes s
unfolding advance_full_name
typed_finish names.Start = (a_word ∷ [], make_word (codes "a") nowhere, go a_word [] refl refl (stay refl refl))
typed_finish (names.Rooted s) = (a_word ∷ [], make_word (dot ∷ codes "a") (span_to s nowhere), go a_word [] refl refl (stay refl refl))
typed_finish (names.Part w) = ([], w, stay refl refl)
typed_finish (names.Dot w) = (a_word ∷ [], make_word (w.name ++ dot ∷ codes "a") (span_to w.span nowhere), go a_word [] refl refl (stay refl refl))

rpc_type_finish : (s : NameState) → NameEnds RpcTypeGoes s
unfolding advance_full_name
rpc_type_finish names.Start = (a_word ∷ [], make_word (codes "a") nowhere, go a_word [] refl refl (stay refl refl))
rpc_type_finish (names.Rooted s) = (a_word ∷ [], make_word (dot ∷ codes "a") (span_to s nowhere), go a_word [] refl refl (stay refl refl))
rpc_type_finish (names.Part w) = ([], w, stay refl refl)
rpc_type_finish (names.Dot w) = (a_word ∷ [], make_word (w.name ++ dot ∷ codes "a") (span_to w.span nowhere), go a_word [] refl refl (stay refl refl))

-- ---- options

abbrev pub OptionFinish : OptionState → Type 0
OptionFinish s = (ys : List Lexeme) × (t : OptionState) × (b : Option Bool) × Walks OptionGoes s ys t × Ready t b

option_on : (s t : OptionState) (x : Lexeme) → OptionGoes s x t → OptionFinish t → OptionFinish s
option_on s t x h (ys, u, b, w, r) = (x ∷ ys, u, b, go x ys refl h w, r)

end_finish : OptionFinish option_states.End
end_finish = ([], option_states.End, None, stay refl refl, ready_end)

equals_finish : (p : Bool) → OptionFinish (option_states.Equals p)
unfolding advance_option
equals_finish p = option_on (option_states.Equals p) option_states.End a_one refl end_finish

part_finish : (p : Bool) → OptionFinish (option_states.Part p)
unfolding advance_option
part_finish p = option_on (option_states.Part p) (option_states.Equals p) (a_mark equals) refl (equals_finish p)

inner_finish : OptionFinish option_states.Inner
unfolding advance_option
inner_finish = option_on option_states.Inner (option_states.Part false) (a_mark closing_paren) refl (part_finish false)

braces_finish : (d : ℕ) → OptionFinish (option_states.Braces d)
unfolding advance_option
braces_finish zero = option_on (option_states.Braces 0) option_states.End (a_mark closing_brace) refl end_finish
braces_finish (suc zero) = option_on (option_states.Braces 1) option_states.End (a_mark closing_brace) refl end_finish
braces_finish (suc (suc n)) = option_on (option_states.Braces (suc (suc n))) (option_states.Braces (suc n))
    (a_mark closing_brace) (closing_goes n (a_mark closing_brace) refl) (braces_finish (suc n))

option_finish : (s : OptionState) → OptionFinish s
unfolding advance_option
option_finish (option_states.Name first) = option_on (option_states.Name first) (option_states.Part (first && false)) a_word refl (part_finish (first && false))
option_finish option_states.Open = option_on option_states.Open option_states.Inner a_word refl inner_finish
option_finish option_states.OpenName = option_on option_states.OpenName option_states.Inner a_word refl inner_finish
option_finish option_states.Inner = inner_finish
option_finish (option_states.Part p) = part_finish p
option_finish (option_states.Equals p) = equals_finish p
option_finish option_states.Sign = option_on option_states.Sign option_states.End a_one refl end_finish
option_finish (option_states.Value b) = ([], option_states.Value b, b, stay refl refl, ready_value b)
option_finish option_states.ValueDot = option_on option_states.ValueDot (option_states.Value None) a_word refl ([], option_states.Value None, None, stay refl refl, ready_value None)
option_finish option_states.Text = ([], option_states.Text, None, stay refl refl, ready_text)
option_finish (option_states.Braces d) = braces_finish d
option_finish option_states.End = end_finish

-- ---- after a number

abbrev pub TailEnds : TailState → Lexeme → Option Bool → Type 0
TailEnds s x b = advance_tail s x ≡ Ok (tail_steps.Done b)

abbrev pub TailFinish : TailState → Type 0
TailFinish s = (ys : List Lexeme) × (b : Option Bool) × Takes TailGoes TailEnds s ys b

tail_finish : (s : TailState) → TailFinish s
unfolding advance_tail
tail_finish tails.Start = (a_mark semicolon ∷ [], None, last (a_mark semicolon) refl)
tail_finish (tails.Closed p) = (a_mark semicolon ∷ [], p, last (a_mark semicolon) refl)
tail_finish (tails.Options p s) = by (option_finish s)
  where
    by : OptionFinish s → TailFinish (tails.Options p s)
    by (ys, t, b, w, r) = (
      ys ++ a_mark closing_bracket ∷ a_mark semicolon ∷ [],
      latest p b,
      walk_takes TailGoes TailEnds (a_mark closing_bracket ∷ a_mark semicolon ∷ []) (walks_in OptionGoes TailGoes (λ s. tails.Options p s) (in_options p) w)
          (next (a_mark closing_bracket) (options_bracket p b t (a_mark closing_bracket) refl r) (last (a_mark semicolon) refl)),
    )

-- ---- maps

abbrev pub MapFinish : MapState → Type 0
MapFinish s = (ys : List Lexeme) × (kind : FieldType) × Takes MapGoes MapEnds s ys kind

map_walk : (s t : MapState) (xs : List Lexeme) → Walks MapGoes s xs t → MapFinish t → MapFinish s
map_walk s t xs w (ys, kind, k) = (xs ++ ys, kind, walk_takes MapGoes MapEnds ys w k)

map_on : (s t : MapState) (x : Lexeme) → MapGoes s x t → MapFinish t → MapFinish s
map_on s t x h (ys, kind, k) = (x ∷ ys, kind, next x h k)

close_finish : (k0 : Word) (d : ℕ) → MapFinish (maps.Close k0 d)
unfolding advance_map
close_finish k0 zero = (a_mark greater ∷ [], types.NestedMap k0, last (a_mark greater) refl)
close_finish k0 (suc zero) = (a_mark greater ∷ [], types.NestedMap k0, last (a_mark greater) refl)
close_finish k0 (suc (suc n)) = map_on (maps.Close k0 (suc (suc n))) (maps.Close k0 (suc n)) (a_mark greater) (close_goes k0 n (a_mark greater) refl) (close_finish k0 (suc n))

value_finish : (k : Word) (s : NameState) → MapFinish (maps.Value k s)
value_finish k s = by (typed_finish s)
  where
    by : NameEnds TypedGoes s → MapFinish (maps.Value k s)
    by (ys, w, t) =
        map_walk (maps.Value k s) (maps.Value k (names.Part w)) ys (walks_in TypedGoes MapGoes (λ s. maps.Value k s) (in_map_value k) t)
        (a_mark greater ∷ [], types.Map k w, last (a_mark greater) (map_value_ends k w (a_mark greater) refl))

inner_value_finish : (k0 : Word) (d : ℕ) (s : NameState) → MapFinish (maps.InnerValue k0 d s)
inner_value_finish k0 d s = by (typed_finish s)
  where
    by : NameEnds TypedGoes s → MapFinish (maps.InnerValue k0 d s)
    by (ys, w, t) =
        map_walk (maps.InnerValue k0 d s) (maps.InnerValue k0 d (names.Part w)) ys (walks_in TypedGoes MapGoes (λ s. maps.InnerValue k0 d s) (in_inner_value k0 d) t)
        (map_on (maps.InnerValue k0 d (names.Part w)) (maps.Close k0 d) (a_mark greater) (inner_value_ends k0 d w (a_mark greater) refl) (close_finish k0 d))

map_finish : (s : MapState) → MapFinish s
map_finish (maps.Key s) = by (typed_finish s)
  where
    by : NameEnds TypedGoes s → MapFinish (maps.Key s)
    by (ys, w, t) =
        map_walk (maps.Key s) (maps.Key (names.Part w)) ys (walks_in TypedGoes MapGoes (λ s. maps.Key s) in_key t)
        (map_on (maps.Key (names.Part w)) (maps.Value w names.Start) (a_mark comma) (key_comma w (a_mark comma) refl) (value_finish w names.Start))
map_finish (maps.InnerKey k0 d s) = by (typed_finish s)
  where
    by : NameEnds TypedGoes s → MapFinish (maps.InnerKey k0 d s)
    by (ys, w, t) =
        map_walk (maps.InnerKey k0 d s) (maps.InnerKey k0 d (names.Part w)) ys (walks_in TypedGoes MapGoes (λ s. maps.InnerKey k0 d s) (in_inner_key k0 d) t)
        (map_on (maps.InnerKey k0 d (names.Part w)) (maps.InnerValue k0 d names.Start) (a_mark comma) (inner_comma k0 d w (a_mark comma) refl) (inner_value_finish k0 d names.Start))
map_finish (maps.Value k s) = value_finish k s
map_finish (maps.InnerValue k0 d s) = inner_value_finish k0 d s
map_finish (maps.Close k0 d) = close_finish k0 d

-- ---- fields

abbrev pub FieldFinish : FieldState → Type 0
FieldFinish s = (ys : List Lexeme) × (f : FieldDecl) × FieldTakes s ys f

field_walk : (s t : FieldState) (xs : List Lexeme) → Walks FieldGoes s xs t → FieldFinish t → FieldFinish s
field_walk s t xs w (ys, f, k) = (xs ++ ys, f, walk_takes FieldGoes FieldEnds ys w k)

field_on : (s t : FieldState) (x : Lexeme) → FieldGoes s x t → FieldFinish t → FieldFinish s
field_on s t x h (ys, f, k) = (x ∷ ys, f, next x h k)

field_tail_finish : (h : FieldHead) (n : Number) (s : TailState) → FieldFinish (fields.Tail h n s)
field_tail_finish h n s = by (tail_finish s)
  where
    by : TailFinish s → FieldFinish (fields.Tail h n s)
    by (ys, b, t) = (
      ys,
      Advancing.finished_field h n b,
      takes_in TailGoes TailEnds FieldGoes FieldEnds (λ s. fields.Tail h n s) (λ b. Advancing.finished_field h n b)
          (in_tail h n) (λ s b x e. tail_ends h n s x b e) t,
    )

equals_field : (h : FieldHead) → FieldFinish (fields.Equals h)
unfolding advance_field
equals_field h = field_on (fields.Equals h) (fields.Tail h (Lexemes.make_number false (Small 1) nowhere) tails.Start)
    a_one refl (field_tail_finish h (Lexemes.make_number false (Small 1) nowhere) tails.Start)

named_field : (h : FieldHead) → FieldFinish (fields.Named h)
unfolding advance_field
named_field h = field_on (fields.Named h) (fields.Equals h) (a_mark equals) refl (equals_field h)

typed_field : (label : FieldLabel) (kind : FieldType) → FieldFinish (fields.Typed label kind)
typed_field label kind =
    field_on (fields.Typed label kind) (fields.Named (Advancing.field_head label kind (make_word (codes "a") nowhere))) a_word
    (typed_ready label kind a_word (codes "a") refl)
    (named_field (Advancing.field_head label kind (make_word (codes "a") nowhere)))

field_finish : (s : FieldState) → FieldFinish s
field_finish (fields.Type label s) = by (typed_finish s)
  where
    by : NameEnds TypedGoes s → FieldFinish (fields.Type label s)
    by (ys, w, t) =
        field_walk (fields.Type label s) (fields.Type label (names.Part w)) ys (walks_in TypedGoes FieldGoes (λ s. fields.Type label s) (in_type label) t)
        (field_on (fields.Type label (names.Part w)) (fields.Named (Advancing.field_head label (types.Named w) (make_word (codes "a") nowhere))) a_word (name_ready label w a_word (codes "a") refl)
        (named_field (Advancing.field_head label (types.Named w) (make_word (codes "a") nowhere))))
field_finish (fields.Map label s) = by (map_finish s)
  where
    taken : {s : MapState} {ys : List Lexeme} {kind : FieldType} → Takes MapGoes MapEnds s ys kind
        → FieldFinish (fields.Map label s)
    taken (last x {s = s} {v = kind} h) = field_on (fields.Map label s) (fields.Typed label kind) x (map_ends label s x kind h) (typed_field label kind)
    taken (next x {s = s} {t = t} h k) = field_on (fields.Map label s) (fields.Map label t) x (in_map label s t x h) (taken k)

    by : MapFinish s → FieldFinish (fields.Map label s)
    by (ys, kind, k) = taken k
field_finish (fields.Typed label kind) = typed_field label kind
field_finish (fields.Named h) = named_field h
field_finish (fields.Equals h) = equals_field h
field_finish (fields.Tail h n s) = field_tail_finish h n s

-- ---- methods

abbrev pub RpcFinish : RpcState → Type 0
RpcFinish s = (ys : List Lexeme) × (r : RpcDecl × Bool) × Takes RpcGoes RpcEnds s ys r

rpc_walk : (s t : RpcState) (xs : List Lexeme) → Walks RpcGoes s xs t → RpcFinish t → RpcFinish s
rpc_walk s t xs w (ys, r, k) = (xs ++ ys, r, walk_takes RpcGoes RpcEnds ys w k)

rpc_on : (s t : RpcState) (x : Lexeme) → RpcGoes s x t → RpcFinish t → RpcFinish s
rpc_on s t x h (ys, r, k) = (x ∷ ys, r, next x h k)

end_rpc : (r : RpcDecl) → RpcFinish (rpcs.End r)
end_rpc r = (a_mark semicolon ∷ [], (r, false), last (a_mark semicolon) (semicolon_ends r (a_mark semicolon) refl))

output_finish : (name input : Word) (s : NameState) → RpcFinish (rpcs.Output name input s)
output_finish name input s = by (rpc_type_finish s)
  where
    by : NameEnds RpcTypeGoes s → RpcFinish (rpcs.Output name input s)
    by (ys, w, t) =
        rpc_walk (rpcs.Output name input s) (rpcs.Output name input (names.Part w)) ys (walks_in RpcTypeGoes RpcGoes (λ s. rpcs.Output name input s) (in_output name input) t)
        (rpc_on (rpcs.Output name input (names.Part w)) (rpcs.End (record { name = name; input = input; output = w }))
        (a_mark closing_paren) (output_ends name input w (a_mark closing_paren) refl)
        (end_rpc (record { name = name; input = input; output = w })))

open_finish : (name input : Word) → RpcFinish (rpcs.Open name input)
unfolding advance_rpc
open_finish name input = rpc_on (rpcs.Open name input) (rpcs.Output name input names.Start) (a_mark opening_paren) refl (output_finish name input names.Start)

returns_finish : (name input : Word) → RpcFinish (rpcs.Returns name input)
unfolding advance_rpc
returns_finish name input = rpc_on (rpcs.Returns name input) (rpcs.Open name input) (token (identifier (codes "returns"))) refl (open_finish name input)

input_finish : (name : Word) (s : NameState) → RpcFinish (rpcs.Input name s)
input_finish name s = by (rpc_type_finish s)
  where
    by : NameEnds RpcTypeGoes s → RpcFinish (rpcs.Input name s)
    by (ys, w, t) =
        rpc_walk (rpcs.Input name s) (rpcs.Input name (names.Part w)) ys (walks_in RpcTypeGoes RpcGoes (λ s. rpcs.Input name s) (in_input name) t)
        (rpc_on (rpcs.Input name (names.Part w)) (rpcs.Returns name w) (a_mark closing_paren) (input_ends name w (a_mark closing_paren) refl) (returns_finish name w))

rpc_finish : (s : RpcState) → RpcFinish s
unfolding advance_rpc
rpc_finish rpcs.Start =
    rpc_on rpcs.Start (rpcs.Named (make_word (codes "a") nowhere)) a_word refl
    (rpc_on (rpcs.Named (make_word (codes "a") nowhere)) (rpcs.Input (make_word (codes "a") nowhere) names.Start)
    (a_mark opening_paren) refl (input_finish (make_word (codes "a") nowhere) names.Start))
rpc_finish (rpcs.Named name) = rpc_on (rpcs.Named name) (rpcs.Input name names.Start) (a_mark opening_paren) refl (input_finish name names.Start)
rpc_finish (rpcs.Input name s) = input_finish name s
rpc_finish (rpcs.Returns name input) = returns_finish name input
rpc_finish (rpcs.Open name input) = open_finish name input
rpc_finish (rpcs.Output name input s) = output_finish name input s
rpc_finish (rpcs.End r) = end_rpc r

-- ---- values

abbrev pub ValueFinish : ValueState → Type 0
ValueFinish s = (ys : List Lexeme) × (v : ValueDecl) × Takes ValueGoes ValueEnds s ys v

value_on : (s t : ValueState) (x : Lexeme) → ValueGoes s x t → ValueFinish t → ValueFinish s
value_on s t x h (ys, v, k) = (x ∷ ys, v, next x h k)

value_tail_finish : (name : Word) (n : Number) (s : TailState) → ValueFinish (values.Tail name n s)
value_tail_finish name n s = by (tail_finish s)
  where
    by : TailFinish s → ValueFinish (values.Tail name n s)
    by (ys, b, t) = (
      ys,
      value_of name n,
      takes_in TailGoes TailEnds ValueGoes ValueEnds (λ s. values.Tail name n s)
          (λ b. value_of name n) (in_value_tail name n) (λ s b x e. value_tail_ends name n s x b e) t,
    )

enum_value_finish : (s : ValueState) → ValueFinish s
unfolding advance_value
enum_value_finish (values.Named name) =
    value_on (values.Named name) (values.Equals name) (a_mark equals) refl
    (value_on (values.Equals name) (values.Tail name (Lexemes.make_number false (Small 1) nowhere) tails.Start) a_one
    refl (value_tail_finish name (Lexemes.make_number false (Small 1) nowhere) tails.Start))
enum_value_finish (values.Equals name) =
    value_on (values.Equals name) (values.Tail name (Lexemes.make_number false (Small 1) nowhere) tails.Start) a_one
    refl (value_tail_finish name (Lexemes.make_number false (Small 1) nowhere) tails.Start)
enum_value_finish (values.Minus name s) =
    value_on (values.Minus name s)
    (values.Tail name (Lexemes.make_number true (Small 1) (span_to s nowhere)) tails.Start) a_one refl
    (value_tail_finish name (Lexemes.make_number true (Small 1) (span_to s nowhere)) tails.Start)
enum_value_finish (values.Tail name n s) = value_tail_finish name n s

-- ---- reserved numbers and names

abbrev pub ReservedFinish : ReservedState → Type 0
ReservedFinish s = (ys : List Lexeme) × (out : Kept) × ReservedTakes s ys out

reserved_on : (s t : ReservedState) (x : Lexeme) → ReservedGoes s x t → ReservedFinish t → ReservedFinish s
reserved_on s t x h (ys, out, k) = (x ∷ ys, out, next x h k)

whole_finish : (signed : Bool) (rs : List Range) (s : RangeState) (r : Range) → whole_range s ≡ Some r
    → ReservedFinish (kept (parts.Ranges rs s) signed)
whole_finish signed rs s r h = (a_mark semicolon ∷ [], inl (rs ++ r ∷ []), last (a_mark semicolon) (range_ends signed rs s r (a_mark semicolon) h refl))

first_finish : (signed : Bool) (rs : List Range) (n : Number)
    → ReservedFinish (kept (parts.Ranges rs (ranges.First n)) signed)
first_finish signed rs n = whole_finish signed rs (ranges.First n) (make_range n (Some n)) refl

start_goes : (signed : Bool)
    → RangeGoes signed ranges.Start a_one (ranges.First (Lexemes.make_number false (Small 1) nowhere))
unfolding advance_range
start_goes true = refl
start_goes false = refl

to_goes : (signed : Bool) (n : Number)
    → RangeGoes signed (ranges.To n) a_one (ranges.Whole (make_range n (Some (Lexemes.make_number false (Small 1) nowhere))))
unfolding advance_range
to_goes true n = refl
to_goes false n = refl

ranges_finish : (signed : Bool) (rs : List Range) (s : RangeState) → ReservedFinish (kept (parts.Ranges rs s) signed)
unfolding advance_range
ranges_finish signed rs ranges.Start =
    reserved_on (kept (parts.Ranges rs ranges.Start) signed) (kept (parts.Ranges rs (ranges.First (Lexemes.make_number false (Small 1) nowhere))) signed) a_one
    (in_ranges signed rs ranges.Start (ranges.First (Lexemes.make_number false (Small 1) nowhere)) a_one
    (start_goes signed)) (first_finish signed rs (Lexemes.make_number false (Small 1) nowhere))
ranges_finish signed rs (ranges.Minus s) =
    reserved_on (kept (parts.Ranges rs (ranges.Minus s)) signed) (kept (parts.Ranges rs (ranges.First (Lexemes.make_number true (Small 1) (span_to s nowhere)))) signed) a_one
    (in_ranges signed rs (ranges.Minus s) (ranges.First (Lexemes.make_number true (Small 1) (span_to s nowhere))) a_one
    refl) (first_finish signed rs (Lexemes.make_number true (Small 1) (span_to s nowhere)))
ranges_finish signed rs (ranges.First n) = first_finish signed rs n
ranges_finish signed rs (ranges.To n) =
    reserved_on (kept (parts.Ranges rs (ranges.To n)) signed) (kept (parts.Ranges rs (ranges.Whole (make_range n (Some (Lexemes.make_number false (Small 1) nowhere))))) signed) a_one
    (in_ranges signed rs (ranges.To n) (ranges.Whole (make_range n (Some (Lexemes.make_number false (Small 1) nowhere)))) a_one (to_goes signed n))
    (whole_finish signed rs (ranges.Whole (make_range n (Some (Lexemes.make_number false (Small 1) nowhere)))) (make_range n (Some (Lexemes.make_number false (Small 1) nowhere))) refl)
ranges_finish signed rs (ranges.ToMinus n s) =
    reserved_on (kept (parts.Ranges rs (ranges.ToMinus n s)) signed)
    (kept (parts.Ranges rs
    (ranges.Whole (make_range n (Some (Lexemes.make_number true (Small 1) (span_to s nowhere)))))) signed) a_one
    (in_ranges signed rs (ranges.ToMinus n s) (ranges.Whole (make_range n (Some (Lexemes.make_number true (Small 1) (span_to s nowhere))))) a_one refl)
    (whole_finish signed rs (ranges.Whole (make_range n (Some (Lexemes.make_number true (Small 1) (span_to s nowhere)))))
    (make_range n (Some (Lexemes.make_number true (Small 1) (span_to s nowhere)))) refl)
ranges_finish signed rs (ranges.Whole r) = whole_finish signed rs (ranges.Whole r) r refl

reserved_finish : (signed : Bool) (p : ReservedPart) → ReservedFinish (kept p signed)
unfolding advance_reserved
reserved_finish signed parts.Start =
    reserved_on (kept parts.Start signed) (kept (parts.Name (make_word (codes "a") nowhere ∷ [])) signed) (token (string (codes "a"))) refl
    (a_mark semicolon ∷ [], inr (make_word (codes "a") nowhere ∷ []), last (a_mark semicolon) refl)
reserved_finish signed (parts.Ranges rs s) = ranges_finish signed rs s
reserved_finish signed (parts.Name ws) = (a_mark semicolon ∷ [], inr ws, last (a_mark semicolon) refl)
reserved_finish signed (parts.NextName ws) =
    reserved_on (kept (parts.NextName ws) signed) (kept (parts.Name (ws ++ make_word (codes "a") nowhere ∷ [])) signed) (token (string (codes "a"))) refl
    (a_mark semicolon ∷ [], inr (ws ++ make_word (codes "a") nowhere ∷ []), last (a_mark semicolon) refl)

-- ---- statements

abbrev pub StepFinish : StatementPlace → StatementState → Type 0
StepFinish p s = (ys : List Lexeme) × (v : StatementEffect) × StepTakes p s ys v

step_on : (p : StatementPlace) (s t : StatementState) (x : Lexeme) → StepGoes p s x t → StepFinish p t → StepFinish p s
step_on p s t x h (ys, v, k) = (x ∷ ys, v, next x h k)

imported_finish : (p : StatementPlace) (i : Import) → StepFinish p (states.Imported i)
imported_finish p i = (a_mark semicolon ∷ [], said.Import i, last (a_mark semicolon) (import_ends p i (a_mark semicolon) refl))

opened_finish : (p : StatementPlace) (o : Opening) (w : Word) → StepFinish p (states.Opened o w)
opened_finish p o w = (a_mark opening_brace ∷ [], said.Open o w, last (a_mark opening_brace) (opened_ends p o w (a_mark opening_brace) refl))

step_finish : (p : StatementPlace) (s : StatementState) → (s ≡ states.Begin → ⊥) → StepFinish p s
step_finish p states.Begin n = absurd (n refl)
step_finish p (states.Package s) n = by (full_finish s)
  where
    by : NameEnds FullGoes s → StepFinish p (states.Package s)
    by (ys, w, t) = (
      ys ++ a_mark semicolon ∷ [],
      said.Package w,
      walk_takes (StepGoes p) (StepEnds p) (a_mark semicolon ∷ [])
          (walks_in FullGoes (StepGoes p) (λ s. states.Package s) (in_package p) t)
          (last (a_mark semicolon) (package_ends p w (a_mark semicolon) refl)),
    )
step_finish p (states.Import public) n =
    step_on p (states.Import public) (states.Imported (imported public (codes "a") nowhere))
    (token (string (codes "a"))) (import_path p public (token (string (codes "a"))) (codes "a") refl)
    (imported_finish p (imported public (codes "a") nowhere))
step_finish p (states.Imported i) n = imported_finish p i
step_finish p (states.Option s) n = by (option_finish s)
  where
    by : OptionFinish s → StepFinish p (states.Option s)
    by (ys, t, b, w, r) = (
      ys ++ a_mark semicolon ∷ [],
      said.Nothing,
      walk_takes (StepGoes p) (StepEnds p) (a_mark semicolon ∷ [])
          (walks_in OptionGoes (StepGoes p) (λ s. states.Option s) (in_option p) w)
          (last (a_mark semicolon)
          (option_ends p t b (a_mark semicolon) (r (a_mark semicolon) semicolon refl (omega arith)) refl)),
    )
step_finish p (states.Opening o) n =
    step_on p (states.Opening o) (states.Opened o (make_word (codes "a") nowhere)) a_word
    (opening_name p o a_word (codes "a") refl) (opened_finish p o (make_word (codes "a") nowhere))
step_finish p (states.Opened o w) n = opened_finish p o w
step_finish p (states.Field s) n = by (field_finish s)
  where
    by : FieldFinish s → StepFinish p (states.Field s)
    by (ys, f, t) = (ys, said.Field f, takes_in FieldGoes FieldEnds (StepGoes p) (StepEnds p) (λ s. states.Field s) (λ f. said.Field f) (in_field p) (field_ends p) t)
step_finish p (states.Reserved s) n = by (reserved_finish s.signed s.part)
  where
    by : ReservedFinish s → StepFinish p (states.Reserved s)
    by (ys, out, t) = (ys, said_of out, takes_in ReservedGoes ReservedEnds (StepGoes p) (StepEnds p) (λ s. states.Reserved s) said_of (in_reserved p) (reserved_ends p) t)
step_finish p (states.Value s) n = by (enum_value_finish s)
  where
    by : ValueFinish s → StepFinish p (states.Value s)
    by (ys, v, t) = (ys, said.Value v, takes_in ValueGoes ValueEnds (StepGoes p) (StepEnds p) (λ s. states.Value s) (λ v. said.Value v) (in_value p) (value_ends p) t)
step_finish p (states.Rpc s) n = by (rpc_finish s)
  where
    by : RpcFinish s → StepFinish p (states.Rpc s)
    by (ys, r, t) = (
      ys,
      said.Rpc r.0 r.1,
      takes_in RpcGoes RpcEnds (StepGoes p) (StepEnds p) (λ s. states.Rpc s)
          (λ r. said.Rpc r.0 r.1) (in_rpc p) (λ s r x e. rpc_ends p s r.0 r.1 x e) t,
    )

-- ---- drafts

-- there are tokens that end the text
abbrev pub Ending : Draft → Type 0
Ending d = (ys : List Lexeme) × (file : File) × (run false d states.Begin ys ≡ read file)

ending_on : (d : Draft) (v : StatementEffect) (xs : List Lexeme) → StepTakes (statement_place d) states.Begin xs v → Ending (draft_with d v)
    → Ending d
ending_on d v xs t (ys, file, r) = (xs ++ ys, file, run_takes false d ys t (not_deep d v) ∙ r)

close_at : (d : Draft) (p : StatementPlace) → statement_place d ≡ p → closes_in p ≡ true
    → StepTakes (statement_place d) states.Begin (a_mark closing_brace ∷ []) said.Close
close_at d p e c = subst (λ (p : StatementPlace). StepTakes p states.Begin (a_mark closing_brace ∷ []) said.Close) (sym e) (last (a_mark closing_brace) (closing p (a_mark closing_brace) refl c))

body_ending : (ms : List ℕ) (d : Draft) → d.block ≡ no_block → d.messages ≡ ms → Ending d
body_ending [] d e f = (token the_end ∷ [], d.file, run_over false d states.Begin (token the_end) [] (whole_is_over d (token the_end) (e, f) refl))
body_ending (i ∷ is) d e f =
    let q : statement_place d ≡ places.Message = ap (λ (b : OpenBlock). place_with b d.messages d.file.package) e ∙ ap (λ (l : List ℕ). place_with no_block l d.file.package) f in
    let c : draft_with d said.Close ≡ closed_draft d no_block = ap (λ (b : OpenBlock). closed_draft d b) e in
    ending_on d said.Close (a_mark closing_brace ∷ []) (close_at d places.Message q refl)
    (body_ending is (draft_with d said.Close) (ap (λ (z : Draft). z.block) c) (ap (λ (z : Draft). z.messages) c ∙ ap without_first f))

block_ending : (d : Draft) (b : OpenBlock) → d.block ≡ b → closes_in (place_with b d.messages d.file.package) ≡ true
    → closed_draft d b ≡ Files.with_block d no_block → Ending d
block_ending d b e c q =
    let r : draft_with d said.Close ≡ Files.with_block d no_block = ap (λ (b : OpenBlock). closed_draft d b) e ∙ q in
    ending_on d said.Close (a_mark closing_brace ∷ []) (close_at d (place_with b d.messages d.file.package) (in_block d b e) c)
    (body_ending (draft_with d said.Close).messages (draft_with d said.Close) (ap (λ (z : Draft). z.block) r) refl)

service_ending : (d : Draft) → d.block ≡ a_service → Ending d
service_ending d e = block_ending d a_service e refl refl

filled_oneof_ending : (d : Draft) (i : ℕ) → d.block ≡ a_oneof i true → Ending d
filled_oneof_ending d i e = block_ending d (a_oneof i true) e refl refl

filled_enum_ending : (d : Draft) → d.block ≡ an_enum true → Ending d
filled_enum_ending d e = block_ending d (an_enum true) e refl refl

oneof_ending : (d : Draft) (i : ℕ) → d.block ≡ a_oneof i false → Ending d
oneof_ending d i e = by (field_finish (fields.Type labels.Plain (names.Part (make_word (codes "a") nowhere))))
  where
    by : FieldFinish (fields.Type labels.Plain (names.Part (make_word (codes "a") nowhere))) → Ending d
    by (ys, f, t) =
        let u : FieldTakes (fields.Type labels.Plain names.Start) (a_word ∷ ys) f =
        next a_word (in_type labels.Plain names.Start (names.Part (make_word (codes "a") nowhere)) a_word
        (first_goes a_word (codes "a") refl refl)) t in
        let k : StepTakes (places.Oneof false) states.Begin (a_word ∷ ys) (said.Field f) =
        field_first (places.Oneof false) a_word ys f (oneof_leads false a_word (by_word (codes "a") refl refl)) u
        in
        let q : statement_place d ≡ (places.Oneof false) = in_block d (a_oneof i false) e in
        ending_on d (said.Field f) (a_word ∷ ys) (subst (λ (p : StatementPlace). StepTakes p states.Begin (a_word ∷ ys) (said.Field f)) (sym q) k)
        (filled_oneof_ending (draft_with d (said.Field f)) i (ap filled_with e))

enum_ending : (d : Draft) → d.block ≡ an_enum false → Ending d
enum_ending d e = by (enum_value_finish (values.Named (make_word (codes "a") nowhere)))
  where
    by : ValueFinish (values.Named (make_word (codes "a") nowhere)) → Ending d
    by (ys, v, t) =
        let k : StepTakes (places.Enum false) states.Begin (a_word ∷ ys) (said.Value v) =
        next a_word (value_word false a_word (codes "a") refl refl refl)
        (takes_in ValueGoes ValueEnds (StepGoes (places.Enum false)) (StepEnds (places.Enum false))
        (λ s. states.Value s) (λ v. said.Value v) (in_value (places.Enum false)) (value_ends (places.Enum false))
        t) in
        let q : statement_place d ≡ (places.Enum false) = in_block d (an_enum false) e in
        ending_on d (said.Value v) (a_word ∷ ys) (subst (λ (p : StatementPlace). StepTakes p states.Begin (a_word ∷ ys) (said.Value v)) (sym q) k)
        (filled_enum_ending (draft_with d (said.Value v)) refl)

rpc_ending : (d : Draft) → d.block ≡ an_rpc → Ending d
rpc_ending d e =
    let c : draft_with d said.Close ≡ Files.with_block d a_service = ap (λ (b : OpenBlock). closed_draft d b) e in
    ending_on d said.Close (a_mark closing_brace ∷ []) (close_at d places.Rpc (in_block d an_rpc e) refl) (service_ending (draft_with d said.Close) (ap (λ (z : Draft). z.block) c))

pub draft_ending : (d : Draft) → Ending d
draft_ending d = by d.block refl
  where
    by : (b : OpenBlock) → d.block ≡ b → Ending d
    by no_block e = body_ending d.messages d e refl
    by (a_oneof i true) e = filled_oneof_ending d i e
    by (a_oneof i false) e = oneof_ending d i e
    by (an_enum true) e = filled_enum_ending d e
    by (an_enum false) e = enum_ending d e
    by a_service e = service_ending d e
    by an_rpc e = rpc_ending d e

-- from every state of every draft there are tokens that end the text
pub state_ending : (d : Draft) (s : StatementState) → (ys : List Lexeme) × (file : File) × (run false d s ys ≡ read file)
state_ending d s = by (begin_or s)
  where
    begun : s ≡ states.Begin → Ending d → (ys : List Lexeme) × (file : File) × (run false d s ys ≡ read file)
    begun e (ys, file, r) = (ys, file, ap (λ (t : StatementState). run false d t ys) e ∙ r)

    ended_with : StepFinish (statement_place d) s → (ys : List Lexeme) × (file : File) × (run false d s ys ≡ read file)
    ended_with (xs, v, t) = on (draft_ending (draft_with d v))
      where
        on : Ending (draft_with d v) → (ys : List Lexeme) × (file : File) × (run false d s ys ≡ read file)
        on (ys, file, r) = (xs ++ ys, file, run_takes false d ys t (not_deep d v) ∙ r)

    not_begin : (t : StatementState) → NotBegin t → t ≡ states.Begin → ⊥
    not_begin t n e = subst (λ (u : StatementState). NotBegin u) e n

    by : (s ≡ states.Begin) ⊎ NotBegin s → (ys : List Lexeme) × (file : File) × (run false d s ys ≡ read file)
    by (inl e) = begun e (draft_ending d)
    by (inr n) = ended_with (step_finish (statement_place d) s (not_begin s n))
