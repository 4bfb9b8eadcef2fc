-- Shifting by nothing changes nothing.
use Rattle.std.proofs.Common.{◌≡◌, ℕ, ◌+◌, List, [], ◌∷◌, map, All, Option, Some, None, option_map, refl, ap, sym, ◌∙◌, arith, append-nil}
use Rattle.std.proofs.lemmas.List.Elements.{All-head, All-tail}
use Rattle.proto_ast.specs.declared.file.Span.{Span}
use Rattle.proto_ast.specs.declared.file.Word.{Word}
use Rattle.proto_ast.specs.declared.file.Number.{Number}
use Rattle.proto_ast.specs.declared.file.FieldType.{FieldType}
use Rattle.proto_ast.specs.declared.file.FieldType.TheVariants.{Named, Map, NestedMap}
use Rattle.proto_ast.specs.declared.file.FieldDecl.{FieldDecl}
use Rattle.proto_ast.specs.declared.file.Range.{Range}
use Rattle.proto_ast.specs.declared.file.MessageDecl.{MessageDecl}
use Rattle.proto_ast.specs.declared.file.ValueDecl.{ValueDecl}
use Rattle.proto_ast.specs.declared.file.EnumDecl.{EnumDecl}
use Rattle.proto_ast.specs.declared.file.RpcDecl.{RpcDecl}
use Rattle.proto_ast.specs.declared.file.ServiceDecl.{ServiceDecl}
use Rattle.proto_ast.specs.Joined.{alone}
use Rattle.proto_set.specs.declared.linked_file.LinkedFile.{LinkedFile}
use Rattle.proto_set.specs.Joining.{before_first_file, joined}
use Rattle.proto_set.specs.Shifted.{shift_span, shift_word, shift_number, shift_range, shift_type, shift_field}
use Rattle.proto_set.specs.Shifted.{shift_value, shift_rpc, shift_parent, shift_message, shift_enum, shift_service}

map_same : {X : Type 0} (f : X → X) → ((x : X) → f x ≡ x) → (xs : List X) → map f xs ≡ xs
map_same f h [] = refl
map_same f h (x ∷ xs) = ap (λ y. y ∷ map f xs) (h x) ∙ ap (λ l. x ∷ l) (map_same f h xs)

option_same : {X : Type 0} (f : X → X) → ((x : X) → f x ≡ x) → (o : Option X) → option_map f o ≡ o
option_same f h None = refl
option_same f h (Some x) = ap Some (h x)

none_before : (n : ℕ) → 0 + n ≡ n
none_before n = omega arith

span_same : (s : Span) → shift_span 0 s ≡ s
span_same s = ap (λ n. record s { start = n; end = 0 + s.end }) (none_before s.start) ∙ ap (λ n. record s { end = n }) (none_before s.end)

word_same : (w : Word) → shift_word 0 w ≡ w
word_same w = ap (λ s. record w { span = s }) (span_same w.span)

number_same : (n : Number) → shift_number 0 n ≡ n
number_same n = ap (λ s. record n { span = s }) (span_same n.span)

range_same : (r : Range) → shift_range 0 r ≡ r
range_same r =
    ap (λ n. record r { first = n; last = option_map (shift_number 0) r.last }) (number_same r.first)
    ∙ ap (λ o. record r { last = o }) (option_same (shift_number 0) number_same r.last)

type_same : (t : FieldType) → shift_type 0 t ≡ t
type_same (Named w) = ap Named (word_same w)
type_same (Map key item) = ap (λ w. Map w (shift_word 0 item)) (word_same key) ∙ ap (λ w. Map key w) (word_same item)
type_same (NestedMap key) = ap NestedMap (word_same key)

field_same : (f : FieldDecl) → shift_field 0 f ≡ f
field_same f =
    ap (λ w. record f { name = w; number = shift_number 0 f.number; kind = shift_type 0 f.kind }) (word_same f.name)
    ∙ ap (λ n. record f { number = n; kind = shift_type 0 f.kind }) (number_same f.number)
    ∙ ap (λ t. record f { kind = t }) (type_same f.kind)

value_same : (v : ValueDecl) → shift_value 0 v ≡ v
value_same v =
    ap (λ w. record v { name = w; number = shift_number 0 v.number }) (word_same v.name)
    ∙ ap (λ n. record v { number = n }) (number_same v.number)

rpc_same : (r : RpcDecl) → shift_rpc 0 r ≡ r
rpc_same r =
    ap (λ w. record r { name = w; input = shift_word 0 r.input; output = shift_word 0 r.output }) (word_same r.name)
    ∙ ap (λ w. record r { input = w; output = shift_word 0 r.output }) (word_same r.input)
    ∙ ap (λ w. record r { output = w }) (word_same r.output)

-- a declaration, by its parts
abbrev message_of : Word → ℕ → Option ℕ → List FieldDecl → List Word → List Range → List Word → MessageDecl
message_of name file parent fields oneofs ranges names = record {
  name = name;
  file = file;
  parent = parent;
  fields = fields;
  oneofs = oneofs;
  ranges = ranges;
  names = names;
}

abbrev enum_of : Word → ℕ → Option ℕ → List ValueDecl → List Range → List Word → EnumDecl
enum_of name file parent values ranges names = record {
  name = name;
  file = file;
  parent = parent;
  values = values;
  ranges = ranges;
  names = names;
}

abbrev service_of : Word → ℕ → List RpcDecl → ServiceDecl
service_of name file rpcs = record { name = name; file = file; rpcs = rpcs }

parent_same : (o : Option ℕ) → shift_parent before_first_file o ≡ o
parent_same o = option_same (λ i. 0 + i) none_before o

words_same : (ws : List Word) → map (shift_word 0) ws ≡ ws
words_same ws = map_same (shift_word 0) word_same ws

ranges_same : (rs : List Range) → map (shift_range 0) rs ≡ rs
ranges_same rs = map_same (shift_range 0) range_same rs

message_same : (m : MessageDecl) → m.file ≡ 0 → shift_message before_first_file m ≡ m
message_same m e =
    let parent = shift_parent before_first_file m.parent in
    let fields = map (shift_field 0) m.fields in
    let oneofs = map (shift_word 0) m.oneofs in
    let ranges = map (shift_range 0) m.ranges in
    let names = map (shift_word 0) m.names in
    ap (λ w. message_of w 0 parent fields oneofs ranges names) (word_same m.name)
    ∙ ap (λ n. message_of m.name n parent fields oneofs ranges names) (sym e)
    ∙ ap (λ o. message_of m.name m.file o fields oneofs ranges names) (parent_same m.parent)
    ∙ ap (λ l. message_of m.name m.file m.parent l oneofs ranges names) (map_same (shift_field 0) field_same m.fields)
    ∙ ap (λ l. message_of m.name m.file m.parent m.fields l ranges names) (words_same m.oneofs)
    ∙ ap (λ l. message_of m.name m.file m.parent m.fields m.oneofs l names) (ranges_same m.ranges)
    ∙ ap (λ l. message_of m.name m.file m.parent m.fields m.oneofs m.ranges l) (words_same m.names)

enum_same : (m : EnumDecl) → m.file ≡ 0 → shift_enum before_first_file m ≡ m
enum_same m e =
    let parent = shift_parent before_first_file m.parent in
    let values = map (shift_value 0) m.values in
    let ranges = map (shift_range 0) m.ranges in
    let names = map (shift_word 0) m.names in
    ap (λ w. enum_of w 0 parent values ranges names) (word_same m.name)
    ∙ ap (λ n. enum_of m.name n parent values ranges names) (sym e)
    ∙ ap (λ o. enum_of m.name m.file o values ranges names) (parent_same m.parent)
    ∙ ap (λ l. enum_of m.name m.file m.parent l ranges names) (map_same (shift_value 0) value_same m.values)
    ∙ ap (λ l. enum_of m.name m.file m.parent m.values l names) (ranges_same m.ranges)
    ∙ ap (λ l. enum_of m.name m.file m.parent m.values m.ranges l) (words_same m.names)

service_same : (m : ServiceDecl) → m.file ≡ 0 → shift_service before_first_file m ≡ m
service_same m e =
    let rpcs = map (shift_rpc 0) m.rpcs in
    ap (λ w. service_of w 0 rpcs) (word_same m.name)
    ∙ ap (λ n. service_of m.name n rpcs) (sym e)
    ∙ ap (λ l. service_of m.name m.file l) (map_same (shift_rpc 0) rpc_same m.rpcs)

all_same : {X : Type 0} (P : X → Type 0) (f : X → X) → ((x : X) → P x → f x ≡ x) → (xs : List X) → All P xs → map f xs ≡ xs
all_same P f h [] all = refl
all_same P f h (x ∷ xs) all =
    ap (λ y. y ∷ map f xs) (h x (All-head P x xs all)) ∙ ap (λ l. x ∷ l) (all_same P f h xs (All-tail P x xs all))

pub joined-one : (p : LinkedFile) → p.sees ≡ 0 ∷ [] → All (λ (m : MessageDecl). m.file ≡ 0) p.file.messages
    → All (λ (e : EnumDecl). e.file ≡ 0) p.file.enums → All (λ (s : ServiceDecl). s.file ≡ 0) p.file.services
    → joined (p ∷ []) ≡ alone p.file
joined-one p sees of_messages of_enums of_services =
    let heads = option_same (shift_word 0) word_same p.file.package in
    let messages = append-nil (map (shift_message before_first_file) p.file.messages)
    ∙ all_same (λ (m : MessageDecl). m.file ≡ 0) (shift_message before_first_file) message_same p.file.messages of_messages in
    let enums = append-nil (map (shift_enum before_first_file) p.file.enums)
    ∙ all_same (λ (m : EnumDecl). m.file ≡ 0) (shift_enum before_first_file) enum_same p.file.enums of_enums in
    let services = append-nil (map (shift_service before_first_file) p.file.services)
    ∙ all_same (λ (m : ServiceDecl). m.file ≡ 0) (shift_service before_first_file) service_same p.file.services of_services in
    cc
