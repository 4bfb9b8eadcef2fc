-- The tokens read of a statement, as far as the reason of a fault depends on them; and what the reason means if a
-- token can't continue it.
use Rattle.std.proofs.Common.{subst, ◌≡◌, ℕ, ◌==◌, Bool, true, false, List, [], ◌∷◌, ◌++◌, codes, refl, ap, sym, ◌∙◌}
use Rattle.std.specs.Prelude.{Ok, Err, Result, Option, Some, None, is_some, if◌then◌else◌, not, ◌&&◌, ◌||◌}
use Rattle.std.specs.Str.{bytes_eq}
use Rattle.std.proofs.lemmas.Bool.{or_parts}
use Rattle.std.proofs.lemmas.List.{append_assoc, append-nil}
use Rattle.proto_ast.specs.Dot.{dot}
use Rattle.proto_grammar.specs.Lexemes.{TokenMeaning, identifier, integer, number, string, mark, the_end, none, Lexeme}
use Rattle.proto_grammar.specs.Lexemes.{semicolon, equals, opening_brace, closing_brace}
use Rattle.proto_grammar.specs.Lexemes.{opening_paren, closing_paren, less}
use Rattle.proto_grammar.specs.Lexemes.{make_word, make_number, IsWord, IsPunctuator, is_the_word, is_one_of_words}
use Rattle.proto_grammar.specs.Grammar.{group_word, IsRpcType}
use Rattle.proto_schema.specs.Files.{Draft, OpenBlock, no_block, a_oneof, an_enum, a_service, an_rpc, IsAtFileLevel, IsAtMessageLevel, IsFieldLabel, plain, optional, repeated}
use Rattle.proto_schema.specs.Faults
use Rattle.proto_grammar.specs.Lexemes.{is_no_token, is_type_part}
use Rattle.proto_schema.specs.Faults.{is_path, IsBeforeRpcType, IsBeforeMapPart, IsBeforeType}
use Rattle.proto_grammar.specs.Advancing.{proto_fault_at, unexpected, wrong, is_punctuator, if_name}
use Rattle.proto_grammar.specs.Advancing.{advance_full_name}
use Rattle.proto_grammar.specs.Advancing.{advance_field_type_name}
use Rattle.proto_grammar.specs.Advancing.{is_map_start, advance_map}
use Rattle.proto_grammar.specs.Advancing.{advance_option, next_option, advance_tail}
use Rattle.proto_grammar.specs.Advancing.{more_field, field_head, advance_named_field, of_type, of_map, of_tail, advance_field}
use Rattle.proto_grammar.specs.Advancing.{advance_value, is_streaming, part_span, after_type, advance_rpc_type}
use Rattle.proto_grammar.specs.Advancing.{more_rpc, of_input, of_output, advance_rpc}
use Rattle.proto_grammar.specs.Advancing.{advance_reserved}
use Rattle.proto_schema.specs.StatementReading
use Rattle.proto_schema.specs.StatementReading.{statement_place, place_with, more, done, advance_statement, advance_import, end_statement}
use Rattle.proto_schema.specs.StatementReading.{of_package, of_options, of_reserved, of_rpc, of_field, start_field}
use Rattle.proto_schema.specs.StatementReading.{start_at_punctuator, has_fields, is_body, closes_in, opening_of, is_extend}
use Rattle.proto_schema.specs.StatementReading.{start_in_file, start_reserved, labelled, start_in_message, start_at_word, advance_first_token}
use Rattle.proto_schema.proofs.Choices.{either_is, named_is, numbered_is, same_bytes, word_is, and_both}
use Rattle.proto_schema.proofs.NameLemmas.{mark_is}
use Rattle.proto_schema.proofs.MapRest.{ValueBack, typed_value}
use Rattle.proto_schema.proofs.RpcRest.{RpcTypeRest, TypeInBack, type_in_back}
use Rattle.proto_schema.proofs.StatementRest.{NotBegin}
use Rattle.proto_ast.specs.declared.file.Span.{Span}
use Rattle.proto_ast.specs.declared.file.Word.{Word}
use Rattle.proto_ast.specs.declared.file.Number.{Number}
use Rattle.proto_ast.specs.declared.file.FieldLabel.{FieldLabel}
use Rattle.proto_ast.specs.declared.file.FieldLabel.TheVariants as labels
use Rattle.proto_ast.specs.declared.file.FieldType.TheVariants as types
use Rattle.proto_grammar.specs.declared.fault.ProtoReason.TheVariants as reasons
use Rattle.proto_grammar.specs.declared.fault.ProtoFault.{ProtoFault}
use Rattle.proto_grammar.specs.declared.name.NameState.{NameState}
use Rattle.proto_grammar.specs.declared.name.NameState.TheVariants as names
use Rattle.proto_grammar.specs.declared.name.NameStep.{NameStep}
use Rattle.proto_grammar.specs.declared.name.NameStep.TheVariants as name_steps
use Rattle.proto_grammar.specs.declared.option.OptionStep.{OptionStep}
use Rattle.proto_grammar.specs.declared.option.OptionStep.TheVariants as option_steps
use Rattle.proto_grammar.specs.declared.tail.TailState.TheVariants as tails
use Rattle.proto_grammar.specs.declared.tail.TailStep.{TailStep}
use Rattle.proto_grammar.specs.declared.tail.TailStep.TheVariants as tail_steps
use Rattle.proto_grammar.specs.declared.field.FieldHead.{FieldHead}
use Rattle.proto_grammar.specs.declared.field.MapState.{MapState}
use Rattle.proto_grammar.specs.declared.field.MapState.TheVariants as maps
use Rattle.proto_grammar.specs.declared.field.MapStep.{MapStep}
use Rattle.proto_grammar.specs.declared.field.MapStep.TheVariants as map_steps
use Rattle.proto_grammar.specs.declared.field.FieldState.{FieldState}
use Rattle.proto_grammar.specs.declared.field.FieldState.TheVariants as fields
use Rattle.proto_grammar.specs.declared.field.FieldStep.{FieldStep}
use Rattle.proto_grammar.specs.declared.field.FieldStep.TheVariants as field_steps
use Rattle.proto_grammar.specs.declared.value.ValueState.TheVariants as values
use Rattle.proto_grammar.specs.declared.value.ValueStep.{ValueStep}
use Rattle.proto_grammar.specs.declared.value.ValueStep.TheVariants as value_steps
use Rattle.proto_grammar.specs.declared.rpc.RpcState.{RpcState}
use Rattle.proto_grammar.specs.declared.rpc.RpcState.TheVariants as rpcs
use Rattle.proto_grammar.specs.declared.rpc.RpcStep.{RpcStep}
use Rattle.proto_grammar.specs.declared.rpc.RpcStep.TheVariants as rpc_steps
use Rattle.proto_grammar.specs.declared.reserved.ReservedStep.{ReservedStep}
use Rattle.proto_grammar.specs.declared.reserved.ReservedStep.TheVariants as reserved_steps
use Rattle.proto_schema.specs.declared.statement.StatementPlace.{StatementPlace}
use Rattle.proto_schema.specs.declared.statement.Opening.{Opening}
use Rattle.proto_schema.specs.declared.statement.StatementState.{StatementState}
use Rattle.proto_schema.specs.declared.statement.StatementState.TheVariants as states
use Rattle.proto_schema.specs.declared.statement.StatementEffect.{StatementEffect}
use Rattle.proto_schema.specs.declared.statement.StatementEffect.TheVariants as said
use Rattle.proto_schema.specs.declared.statement.StatementStep.{StatementStep}
use Rattle.proto_schema.specs.declared.statement.StatementStep.TheVariants as steps
use Rattle.proto_schema.proofs.SoFarWords.{Fault, unlike, extends, imports, groups, streams, Quiet, full_quiet}
use Rattle.proto_schema.proofs.SoFarWords.{option_quiet, tail_quiet, value_quiet, part_quiet, OnlyWord, NameFault}
use Rattle.proto_schema.proofs.SoFarWords.{name_unlike, name_group, OnlyOn, only_on, key_so_far, MapSoFar, MapFault}
use Rattle.proto_schema.proofs.SoFarWords.{map_unlike, map_group, MapOn, map_on}

-- ---- fields

-- the tokens before a field's type
pub data LabelSoFar (d : Draft) (ls : List Lexeme) : Type 0 where
  in_message : {label : FieldLabel} {words : List (List ℕ)} → IsAtMessageLevel d → IsFieldLabel ls label words → LabelSoFar d ls
  in_oneof : (i : ℕ) (filled : Bool) → d.block ≡ a_oneof i filled → ls ≡ [] → LabelSoFar d ls

head_type : {d : Draft} {ls : List Lexeme} → LabelSoFar d ls → IsBeforeType d ls
head_type (in_message i l) = Faults.of_field i l
head_type (in_oneof i filled b e) = Faults.of_member i filled b e

head_map : {d : Draft} {ls ms : List Lexeme} → LabelSoFar d ls → IsBeforeMapPart ms → IsBeforeType d (ls ++ ms)
head_map (in_message i l) b = Faults.of_map i l b refl
head_map {d = d} {ms = ms} (in_oneof i filled h e) b =
    subst (λ (l : List Lexeme). IsBeforeType d (l ++ ms)) (sym e) (Faults.of_member_map i filled h b)

pub data TypeSoFar (d : Draft) (s : NameState) (all : List Lexeme) : Type 0 where
  type_so_far : {ls : List Lexeme} (ns : List Lexeme) → LabelSoFar d ls → OnlyWord (codes "map") s ns → all ≡ ls ++ ns
      → TypeSoFar d s all

pub data MapFieldSoFar (d : Draft) (s : MapState) (all : List Lexeme) : Type 0 where
  map_field_so_far : {ls : List Lexeme} (ms : List Lexeme) → LabelSoFar d ls → MapSoFar s ms → all ≡ ls ++ ms
      → MapFieldSoFar d s all

abbrev pub FieldSoFar : Draft → FieldState → List Lexeme → Type 0
FieldSoFar d (fields.Type label s) ys = TypeSoFar d s ys
FieldSoFar d (fields.Map label s) ys = MapFieldSoFar d s ys
FieldSoFar d (fields.Typed label kind) ys = Unit {0}
FieldSoFar d (fields.Named h) ys = Unit {0}
FieldSoFar d (fields.Equals h) ys = Unit {0}
FieldSoFar d (fields.Tail h n s) ys = Unit {0}

abbrev FieldOn : Draft → List Lexeme → Lexeme → Result FieldStep ProtoFault → Type 0
FieldOn d ys x (Ok (field_steps.More t)) = FieldSoFar d t (ys ++ x ∷ [])
FieldOn d ys x (Ok (field_steps.Done f)) = Unit {0}
FieldOn d ys x (Err e) = Fault d ys x e

unlike_is : {d : Draft} {ys : List Lexeme} {x : Lexeme} {e : ProtoFault} → e ≡ unexpected x → Fault d ys x e
unlike_is {d = d} {ys = ys} {x = x} q = subst (λ (e : ProtoFault). Fault d ys x e) (sym q) unlike

of_type_on : (d : Draft) (label : FieldLabel) (s : NameState) (ys : List Lexeme) (x : Lexeme) → TypeSoFar d s ys
    → FieldOn d ys x (of_type label x (advance_field_type_name s x))
of_type_on d label s ys x (type_so_far {ls = ls} ns q o a) = by (advance_field_type_name s x) (only_on (codes "map") refl s ns x o) (typed_value s x)
  where
    fault : {e : ProtoFault} → NameFault ns x e → Fault d ys x e
    fault name_unlike = unlike
    fault (name_group n h) = groups (subst (λ (l : List Lexeme). IsBeforeType d l) (sym (a ∙ (ap (λ (l : List Lexeme). ls ++ l) n ∙ append-nil ls))) (head_type q)) h

    into : (w : Word) → s ≡ names.Part w → is_map_start w x ≡ true → MapFieldSoFar d (maps.Key names.Start) (ys ++ x ∷ [])
    into w e b = at (subst (λ (t : NameState). OnlyWord (codes "map") t ns) e o both.1)
      where
        both : (is_punctuator x.means less ≡ true) × (bytes_eq w.name (codes "map") ≡ true)
        both = and_both (is_punctuator x.means less) (bytes_eq w.name (codes "map")) b

        at : (m : Lexeme) × IsWord m (codes "map") × (m.span ≡ w.span) × (ns ≡ m ∷ [])
            → MapFieldSoFar d (maps.Key names.Start) (ys ++ x ∷ [])
        at (m, hm, p, n) =
            map_field_so_far (m ∷ x ∷ []) q (key_so_far m x [] hm (mark_is x.means less both.0) refl (λ zs w k. k) refl)
            (ap (λ (l : List Lexeme). l ++ x ∷ []) a ∙ (append_assoc ls ns (x ∷ []) ∙ ap (λ (l : List Lexeme). ls ++ (l ++ x ∷ [])) n))

    by : (r : Result NameStep ProtoFault) → OnlyOn (codes "map") ns x r → ValueBack s x r
        → FieldOn d ys x (of_type label x r)
    by (Ok (name_steps.More t)) p b = type_so_far (ns ++ x ∷ []) q p (ap (λ (l : List Lexeme). l ++ x ∷ []) a ∙ append_assoc ls ns (x ∷ []))
    by (Ok (name_steps.Whole w)) p b =
        either_is (FieldOn d ys x) (is_map_start w x) (more_field (fields.Map label (maps.Key names.Start))) (advance_named_field label (types.Named w) x) (λ m. into w b.1 m)
        (λ m. named_is (FieldOn d ys x) x (λ n. field_steps.More (fields.Named (field_head label (types.Named w) (make_word n x.span)))) (λ n h. tt) unlike)
    by (Err e) p b = fault p

of_map_on : (d : Draft) (label : FieldLabel) (s : MapState) (ys : List Lexeme) (x : Lexeme) → MapFieldSoFar d s ys
    → FieldOn d ys x (of_map label (advance_map s x))
of_map_on d label s ys x (map_field_so_far {ls = ls} ms q k a) = by (advance_map s x) (map_on s ms x k)
  where
    fault : {e : ProtoFault} → MapFault ms x e → Fault d ys x e
    fault map_unlike = unlike
    fault (map_group b h) = groups (subst (λ (l : List Lexeme). IsBeforeType d l) (sym a) (head_map q b)) h

    by : (r : Result MapStep ProtoFault) → MapOn ms x r → FieldOn d ys x (of_map label r)
    by (Ok (map_steps.More t)) p = map_field_so_far (ms ++ x ∷ []) q p (ap (λ (l : List Lexeme). l ++ x ∷ []) a ∙ append_assoc ls ms (x ∷ []))
    by (Ok (map_steps.Done kind)) p = tt
    by (Err e) p = fault p

of_tail_on : (d : Draft) (h : FieldHead) (n : Number) (ys : List Lexeme) (x : Lexeme) (r : Result TailStep ProtoFault)
    → Quiet x r → FieldOn d ys x (of_tail h n r)
of_tail_on d h n ys x (Ok (tail_steps.More t)) q = tt
of_tail_on d h n ys x (Ok (tail_steps.Done packed)) q = tt
of_tail_on d h n ys x (Err e) q = unlike_is q

field_on : (d : Draft) (s : FieldState) (ys : List Lexeme) (x : Lexeme) → FieldSoFar d s ys
    → FieldOn d ys x (advance_field s x)
unfolding advance_field
field_on d (fields.Type label s) ys x k = of_type_on d label s ys x k
field_on d (fields.Map label s) ys x k = of_map_on d label s ys x k
field_on d (fields.Typed label kind) ys x k = named_is (FieldOn d ys x) x (λ n. field_steps.More (fields.Named (field_head label kind (make_word n x.span)))) (λ n h. tt) unlike
field_on d (fields.Named h) ys x k = either_is (FieldOn d ys x) (is_punctuator x.means equals) (more_field (fields.Equals h)) (wrong x) (λ e. tt) (λ e. unlike)
field_on d (fields.Equals h) ys x k = numbered_is (FieldOn d ys x) x (λ v. field_steps.More (fields.Tail h (make_number false v x.span) tails.Start)) (λ v e. tt) unlike
field_on d (fields.Tail h n s) ys x k = of_tail_on d h n ys x (advance_tail s x) (tail_quiet s x)

-- ---- methods

data RpcNameFault (ns : List Lexeme) (x : Lexeme) : ProtoFault → Type 0 where
  type_unlike : RpcNameFault ns x (unexpected x)
  type_group : ns ≡ [] → IsWord x (codes "group") → RpcNameFault ns x (proto_fault_at reasons.Group x.span)
  type_stream : (z : Lexeme) → ns ≡ z ∷ [] → IsWord z (codes "stream") → is_type_part x.means ≡ true
      → RpcNameFault ns x (proto_fault_at reasons.Stream z.span)

abbrev RpcNameOn : List Lexeme → Lexeme → Result NameStep ProtoFault → Type 0
RpcNameOn ns x (Ok (name_steps.More t)) = OnlyWord (codes "stream") t (ns ++ x ∷ [])
RpcNameOn ns x (Ok (name_steps.Whole w)) = Unit {0}
RpcNameOn ns x (Err e) = RpcNameFault ns x e

streaming : (s : NameState) (ns : List Lexeme) (x : Lexeme) → OnlyWord (codes "stream") s ns
    → is_streaming s x ≡ true → RpcNameFault ns x (proto_fault_at reasons.Stream (part_span s x.span))
streaming names.Start ns x o e = absurd (let t : false ≡ true = e in cc)
streaming (names.Rooted s) ns x o e = absurd (let t : false ≡ true = e in cc)
streaming (names.Dot v) ns x o e = absurd (let t : false ≡ true = e in cc)
streaming (names.Part v) ns x o e = by (o both.0)
  where
    both : (bytes_eq v.name (codes "stream") ≡ true) × (is_type_part x.means ≡ true)
    both = and_both (bytes_eq v.name (codes "stream")) (is_type_part x.means) e

    by : (m : Lexeme) × IsWord m (codes "stream") × (m.span ≡ v.span) × (ns ≡ m ∷ [])
        → RpcNameFault ns x (proto_fault_at reasons.Stream v.span)
    by (m, hm, p, n) = subst (λ (s : Span). RpcNameFault ns x (proto_fault_at reasons.Stream s)) p (type_stream m n hm both.1)

rpc_name_on : (s : NameState) (ns : List Lexeme) (x : Lexeme) → OnlyWord (codes "stream") s ns
    → RpcNameOn ns x (advance_rpc_type s x)
rpc_name_on s ns x o =
    either_is (RpcNameOn ns x) (is_streaming s x) (Err (proto_fault_at reasons.Stream (part_span s x.span))) (after_type x (advance_field_type_name s x)) (streaming s ns x o)
    (λ e. by (advance_field_type_name s x) (only_on (codes "stream") refl s ns x o))
  where
    fault : {e : ProtoFault} → NameFault ns x e → RpcNameFault ns x e
    fault name_unlike = type_unlike
    fault (name_group n h) = type_group n h

    by : (r : Result NameStep ProtoFault) → OnlyOn (codes "stream") ns x r → RpcNameOn ns x (after_type x r)
    by (Ok (name_steps.More t)) p = p
    by (Ok (name_steps.Whole w)) p =
        either_is (RpcNameOn ns x) (is_punctuator x.means closing_paren) (Ok (name_steps.Whole w)) (wrong x) (λ c. tt) (λ c. type_unlike)
    by (Err e) p = fault p

pub data StartSoFar (d : Draft) (all : List Lexeme) : Type 0 where
  start_so_far : (a : Lexeme) → d.block ≡ a_service → IsWord a (codes "rpc") → all ≡ a ∷ [] → StartSoFar d all

pub data NamedSoFar (d : Draft) (all : List Lexeme) : Type 0 where
  named_so_far : (a b : Lexeme) (name : List ℕ) → d.block ≡ a_service → IsWord a (codes "rpc") → IsWord b name
      → all ≡ a ∷ b ∷ [] → NamedSoFar d all

-- what completes the type makes, with the tokens read so far, the type of an rpc
abbrev pub RpcTypeSoFar : NameState → List Lexeme → Type 0
RpcTypeSoFar s ns = (zs : List Lexeme) (w : Word) → RpcTypeRest s zs w → IsRpcType (ns ++ zs) w

pub data InputSoFar (d : Draft) (s : NameState) (all : List Lexeme) : Type 0 where
  input_so_far : (a b c : Lexeme) (name : List ℕ) (ns : List Lexeme) → d.block ≡ a_service → IsWord a (codes "rpc")
      → IsWord b name → IsPunctuator c opening_paren → OnlyWord (codes "stream") s ns → RpcTypeSoFar s ns
      → all ≡ a ∷ b ∷ c ∷ ns → InputSoFar d s all

pub data ReturnsSoFar (d : Draft) (all : List Lexeme) : Type 0 where
  returns_so_far : (a b c e : Lexeme) (name : List ℕ) {is : List Lexeme} {w : Word} → d.block ≡ a_service
      → IsWord a (codes "rpc") → IsWord b name → IsPunctuator c opening_paren → IsRpcType is w → IsPunctuator e closing_paren
      → all ≡ a ∷ b ∷ c ∷ is ++ e ∷ [] → ReturnsSoFar d all

pub data OpenSoFar (d : Draft) (all : List Lexeme) : Type 0 where
  open_so_far : (a b c e f : Lexeme) (name : List ℕ) {is : List Lexeme} {w : Word} → d.block ≡ a_service
      → IsWord a (codes "rpc") → IsWord b name → IsPunctuator c opening_paren → IsRpcType is w → IsPunctuator e closing_paren
      → IsWord f (codes "returns") → all ≡ a ∷ b ∷ c ∷ is ++ e ∷ f ∷ [] → OpenSoFar d all

pub data OutputSoFar (d : Draft) (s : NameState) (all : List Lexeme) : Type 0 where
  output_so_far : {ps : List Lexeme} (ns : List Lexeme) → IsBeforeRpcType d ps → OnlyWord (codes "stream") s ns
      → all ≡ ps ++ ns → OutputSoFar d s all

abbrev pub RpcSoFar : Draft → RpcState → List Lexeme → Type 0
RpcSoFar d rpcs.Start ys = StartSoFar d ys
RpcSoFar d (rpcs.Named name) ys = NamedSoFar d ys
RpcSoFar d (rpcs.Input name s) ys = InputSoFar d s ys
RpcSoFar d (rpcs.Returns name input) ys = ReturnsSoFar d ys
RpcSoFar d (rpcs.Open name input) ys = OpenSoFar d ys
RpcSoFar d (rpcs.Output name input s) ys = OutputSoFar d s ys
RpcSoFar d (rpcs.End r) ys = Unit {0}

abbrev RpcOn : Draft → List Lexeme → Lexeme → Result RpcStep ProtoFault → Type 0
RpcOn d ys x (Ok (rpc_steps.More t)) = RpcSoFar d t (ys ++ x ∷ [])
RpcOn d ys x (Ok (rpc_steps.Done r block)) = Unit {0}
RpcOn d ys x (Err e) = Fault d ys x e

-- what a fault in a type means, if these tokens precede the type
type_fault : {d : Draft} {ps ns ys : List Lexeme} {x : Lexeme} {e : ProtoFault} → IsBeforeRpcType d ps → ys ≡ ps ++ ns
    → RpcNameFault ns x e → Fault d ys x e
type_fault b a type_unlike = unlike
type_fault {d = d} {ps = ps} b a (type_group n h) =
    groups (Faults.of_rpc (subst (λ (l : List Lexeme). IsBeforeRpcType d l) (sym (a ∙ (ap (λ (l : List Lexeme). ps ++ l) n ∙ append-nil ps))) b)) h
type_fault {ps = ps} b a (type_stream z n h t) = streams ps z (a ∙ ap (λ (l : List Lexeme). ps ++ l) n) b h t

input_on : (d : Draft) (name : Word) (s : NameState) (ys : List Lexeme) (x : Lexeme) → InputSoFar d s ys
    → RpcOn d ys x (of_input name (advance_rpc_type s x))
input_on d name s ys x (input_so_far a b c word ns k ha hb hc o t q) = by (advance_rpc_type s x) (rpc_name_on s ns x o) (type_in_back s x)
  where
    longer : ys ++ x ∷ [] ≡ a ∷ b ∷ c ∷ ns ++ x ∷ []
    longer = ap (λ (l : List Lexeme). l ++ x ∷ []) q

    by : (r : Result NameStep ProtoFault) → RpcNameOn ns x r → TypeInBack s x r → RpcOn d ys x (of_input name r)
    by (Ok (name_steps.More u)) p i =
        input_so_far a b c word (ns ++ x ∷ []) k ha hb hc p
        (λ zs w v. subst (λ (l : List Lexeme). IsRpcType l w) (sym (append_assoc ns (x ∷ []) zs)) (t (x ∷ zs) w (i zs w v))) longer
    by (Ok (name_steps.Whole w)) p i =
        returns_so_far a b c x word {is = ns} {w = w} k ha hb hc (subst (λ (l : List Lexeme). IsRpcType l w) (append-nil ns) (t [] w i.0)) i.1 longer
    by (Err e) p i = type_fault (Faults.input k (Faults.rpc_opening a b c word ha hb hc)) q p

output_on : (d : Draft) (name input : Word) (s : NameState) (ys : List Lexeme) (x : Lexeme) → OutputSoFar d s ys
    → RpcOn d ys x (of_output name input (advance_rpc_type s x))
output_on d name input s ys x (output_so_far {ps = ps} ns b o a) = by (advance_rpc_type s x) (rpc_name_on s ns x o)
  where
    by : (r : Result NameStep ProtoFault) → RpcNameOn ns x r → RpcOn d ys x (of_output name input r)
    by (Ok (name_steps.More u)) p = output_so_far (ns ++ x ∷ []) b p (ap (λ (l : List Lexeme). l ++ x ∷ []) a ∙ append_assoc ps ns (x ∷ []))
    by (Ok (name_steps.Whole w)) p = tt
    by (Err e) p = type_fault b a p

-- one token more after others
one_more : (a b c : Lexeme) (is : List Lexeme) (l ys : List Lexeme) (x : Lexeme) → ys ≡ a ∷ b ∷ c ∷ is ++ l
    → ys ++ x ∷ [] ≡ a ∷ b ∷ c ∷ is ++ (l ++ x ∷ [])
one_more a b c is l ys x q = ap (λ (l : List Lexeme). l ++ x ∷ []) q ∙ append_assoc (a ∷ b ∷ c ∷ is) l (x ∷ [])

returns_on : (d : Draft) (name input : Word) (ys : List Lexeme) (x : Lexeme) → ReturnsSoFar d ys
    → RpcOn d ys x (if is_the_word x.means (codes "returns") then more_rpc (rpcs.Open name input) else wrong x)
returns_on d name input ys x (returns_so_far a b c e word {is = is} k ha hb hc t he q) =
    either_is (RpcOn d ys x) (is_the_word x.means (codes "returns")) (more_rpc (rpcs.Open name input)) (wrong x)
    (λ h. open_so_far a b c e x word k ha hb hc t he (word_is x.means (codes "returns") h) (one_more a b c is (e ∷ []) ys x q)) (λ h. unlike)

open_on : (d : Draft) (name input : Word) (ys : List Lexeme) (x : Lexeme) → OpenSoFar d ys
    → RpcOn d ys x (if is_punctuator x.means opening_paren then more_rpc (rpcs.Output name input names.Start) else wrong x)
open_on d name input ys x (open_so_far a b c e f word {is = is} k ha hb hc t he hf q) =
    either_is (RpcOn d ys x) (is_punctuator x.means opening_paren) (more_rpc (rpcs.Output name input names.Start)) (wrong x)
    (λ h. output_so_far [] (Faults.output k (Faults.rpc_opening a b c word ha hb hc) t
    (Faults.returns_opening e f x he hf (mark_is x.means opening_paren h)) (one_more a b c is (e ∷ f ∷ []) ys x q)) refl (sym (append-nil (ys ++ x ∷ []))))
    (λ h. unlike)

start_on : (d : Draft) (ys : List Lexeme) (x : Lexeme) → StartSoFar d ys
    → RpcOn d ys x (if_name x (λ n. rpc_steps.More (rpcs.Named (make_word n x.span))))
start_on d ys x (start_so_far a k ha q) =
    named_is (RpcOn d ys x) x (λ n. rpc_steps.More (rpcs.Named (make_word n x.span))) (λ n h. named_so_far a x n k ha h (ap (λ (l : List Lexeme). l ++ x ∷ []) q)) unlike

named_on : (d : Draft) (name : Word) (ys : List Lexeme) (x : Lexeme) → NamedSoFar d ys
    → RpcOn d ys x (if is_punctuator x.means opening_paren then more_rpc (rpcs.Input name names.Start) else wrong x)
named_on d name ys x (named_so_far a b n k ha hb q) =
    either_is (RpcOn d ys x) (is_punctuator x.means opening_paren) (more_rpc (rpcs.Input name names.Start)) (wrong x)
    (λ h. input_so_far a b x n [] k ha hb (mark_is x.means opening_paren h) refl (λ zs w v. v) (ap (λ (l : List Lexeme). l ++ x ∷ []) q)) (λ h. unlike)

rpc_on : (d : Draft) (s : RpcState) (ys : List Lexeme) (x : Lexeme) → RpcSoFar d s ys → RpcOn d ys x (advance_rpc s x)
unfolding advance_rpc
rpc_on d rpcs.Start ys x k = start_on d ys x k
rpc_on d (rpcs.Named name) ys x k = named_on d name ys x k
rpc_on d (rpcs.Input name s) ys x k = input_on d name s ys x k
rpc_on d (rpcs.Returns name input) ys x k = returns_on d name input ys x k
rpc_on d (rpcs.Open name input) ys x k = open_on d name input ys x k
rpc_on d (rpcs.Output name input s) ys x k = output_on d name input s ys x k
rpc_on d (rpcs.End r) ys x k =
    either_is (RpcOn d ys x) (is_punctuator x.means semicolon) (Ok (rpc_steps.Done r false)) (if is_punctuator x.means opening_brace then Ok (rpc_steps.Done r true) else wrong x) (λ e. tt)
    (λ e. either_is (RpcOn d ys x) (is_punctuator x.means opening_brace) (Ok (rpc_steps.Done r true)) (wrong x) (λ e. tt) (λ e. unlike))

-- ---- statements

pub data ImportSoFar (d : Draft) (ys : List Lexeme) : Type 0 where
  import_so_far : (i : Lexeme) → ys ≡ i ∷ [] → IsAtFileLevel d → IsWord i (codes "import") → ImportSoFar d ys

abbrev pub SoFar : Draft → StatementState → List Lexeme → Type 0
SoFar d states.Begin ys = ys ≡ []
SoFar d (states.Package s) ys = Unit {0}
SoFar d (states.Import public) ys = public ≡ false → ImportSoFar d ys
SoFar d (states.Imported i) ys = Unit {0}
SoFar d (states.Option s) ys = Unit {0}
SoFar d (states.Opening o) ys = Unit {0}
SoFar d (states.Opened o w) ys = Unit {0}
SoFar d (states.Field s) ys = FieldSoFar d s ys
SoFar d (states.Reserved s) ys = Unit {0}
SoFar d (states.Value s) ys = Unit {0}
SoFar d (states.Rpc s) ys = RpcSoFar d s ys

-- a block is opened by its brace
abbrev pub OpensBy : StatementEffect → Lexeme → Type 0
OpensBy (said.Open o w) x = IsPunctuator x opening_brace
OpensBy v x = Unit {0}

abbrev pub StepOn : Draft → List Lexeme → Lexeme → Result StatementStep ProtoFault → Type 0
StepOn d ys x (Ok (steps.More t)) = SoFar d t (ys ++ x ∷ [])
StepOn d ys x (Ok (steps.Done v)) = OpensBy v x
StepOn d ys x (Err e) = Fault d ys x e

ended_on : (d : Draft) (ys : List Lexeme) (v : StatementEffect) (x : Lexeme) → OpensBy v x → StepOn d ys x (end_statement v x)
ended_on d ys v x o = either_is (StepOn d ys x) (is_punctuator x.means semicolon) (done v) (wrong x) (λ e. o) (λ e. unlike)

package_on : (d : Draft) (ys : List Lexeme) (x : Lexeme) (r : Result NameStep ProtoFault) → Quiet x r
    → StepOn d ys x (of_package x r)
package_on d ys x (Ok (name_steps.More t)) q = tt
package_on d ys x (Ok (name_steps.Whole w)) q = ended_on d ys (said.Package w) x tt
package_on d ys x (Err e) q = unlike_is q

options_on : (d : Draft) (ys : List Lexeme) (x : Lexeme) (r : Result OptionStep ProtoFault) → Quiet x r
    → StepOn d ys x (of_options x r)
options_on d ys x (Ok (option_steps.More t)) q = tt
options_on d ys x (Ok (option_steps.Whole b)) q = ended_on d ys said.Nothing x tt
options_on d ys x (Err e) q = unlike_is q

of_field_on : (d : Draft) (ys : List Lexeme) (x : Lexeme) (r : Result FieldStep ProtoFault) → FieldOn d ys x r
    → StepOn d ys x (of_field r)
of_field_on d ys x (Ok (field_steps.More t)) k = k
of_field_on d ys x (Ok (field_steps.Done f)) k = tt
of_field_on d ys x (Err e) k = k

of_reserved_on : (d : Draft) (ys : List Lexeme) (x : Lexeme) (r : Result ReservedStep ProtoFault) → Quiet x r
    → StepOn d ys x (of_reserved r)
of_reserved_on d ys x (Ok (reserved_steps.More t)) q = tt
of_reserved_on d ys x (Ok (reserved_steps.Ranges rs)) q = tt
of_reserved_on d ys x (Ok (reserved_steps.Names ws)) q = tt
of_reserved_on d ys x (Err e) q = unlike_is q

of_value_steps_on : (d : Draft) (ys : List Lexeme) (x : Lexeme) (r : Result ValueStep ProtoFault) → Quiet x r
    → StepOn d ys x (StatementReading.of_value r)
of_value_steps_on d ys x (Ok (value_steps.More t)) q = tt
of_value_steps_on d ys x (Ok (value_steps.Done v)) q = tt
of_value_steps_on d ys x (Err e) q = unlike_is q

of_rpc_on : (d : Draft) (ys : List Lexeme) (x : Lexeme) (r : Result RpcStep ProtoFault) → RpcOn d ys x r
    → StepOn d ys x (of_rpc r)
of_rpc_on d ys x (Ok (rpc_steps.More t)) k = k
of_rpc_on d ys x (Ok (rpc_steps.Done r block)) k = tt
of_rpc_on d ys x (Err e) k = k

import_other_on : (d : Draft) (public : Bool) (ys : List Lexeme) (x : Lexeme) (m : TokenMeaning) → x.means ≡ m
    → is_path m ≡ is_the_word m (codes "public") → (public ≡ false → ImportSoFar d ys)
    → StepOn d ys x (if not public && is_the_word m (codes "public") then more (states.Import true) else if is_no_token m || public then wrong x else Err (proto_fault_at reasons.Import x.span))
import_other_on d public ys x m e p k =
    either_is (StepOn d ys x) (not public && is_the_word m (codes "public")) (more (states.Import true)) (if is_no_token m || public then wrong x else Err (proto_fault_at reasons.Import x.span))
    (λ h q. let t : true ≡ false = q in absurd cc)
    (λ h. either_is (StepOn d ys x) (is_no_token m || public) (wrong x) (Err (proto_fault_at reasons.Import x.span)) (λ c. unlike)
    (λ c. let b : (is_no_token m ≡ false) × (public ≡ false) = or_parts (is_no_token m) public c in at b.0 b.1 (k b.1) (unsaid public b.1 h)))
  where
    unsaid : (b : Bool) → b ≡ false → (not b && is_the_word m (codes "public")) ≡ false → is_the_word m (codes "public") ≡ false
    unsaid false q h = h
    unsaid true q h = absurd (let t : true ≡ false = q in cc)

    at : is_no_token m ≡ false → public ≡ false → ImportSoFar d ys → is_the_word m (codes "public") ≡ false
        → Fault d ys x (proto_fault_at reasons.Import x.span)
    at n q (import_so_far i a f h) u = imports i a f h (ap is_no_token e ∙ n) (ap is_path e ∙ (p ∙ u))

import_on : (d : Draft) (public : Bool) (ys : List Lexeme) (x : Lexeme) (m : TokenMeaning) → x.means ≡ m
    → (public ≡ false → ImportSoFar d ys) → StepOn d ys x (advance_import public x m)
import_on d public ys x (string path) e k = tt
import_on d public ys x the_end e k = unlike
import_on d public ys x (identifier n) e k = import_other_on d public ys x (identifier n) e refl k
import_on d public ys x (integer n) e k = import_other_on d public ys x (integer n) e refl k
import_on d public ys x number e k = import_other_on d public ys x number e refl k
import_on d public ys x (mark c) e k = import_other_on d public ys x (mark c) e refl k
import_on d public ys x none e k = import_other_on d public ys x none e refl k

pub later_on : (d : Draft) (p : StatementPlace) (s : StatementState) (ys : List Lexeme) (x : Lexeme) → NotBegin s → SoFar d s ys
    → StepOn d ys x (advance_statement p s x)
unfolding advance_statement advance_reserved
later_on d p states.Begin ys x n k = absurd n
later_on d p (states.Package s) ys x n k = package_on d ys x (advance_full_name s x) (full_quiet s x)
later_on d p (states.Import public) ys x n k = import_on d public ys x x.means refl k
later_on d p (states.Imported i) ys x n k = ended_on d ys (said.Import i) x tt
later_on d p (states.Option s) ys x n k = options_on d ys x (advance_option s x) (option_quiet s x)
later_on d p (states.Opening o) ys x n k = named_is (StepOn d ys x) x (λ n. steps.More (states.Opened o (make_word n x.span))) (λ n h. tt) unlike
later_on d p (states.Opened o w) ys x n k = either_is (StepOn d ys x) (is_punctuator x.means opening_brace) (done (said.Open o w)) (wrong x) (λ e. mark_is x.means opening_brace e) (λ e. unlike)
later_on d p (states.Field s) ys x n k = of_field_on d ys x (advance_field s x) (field_on d s ys x k)
later_on d p (states.Reserved s) ys x n k = of_reserved_on d ys x (advance_reserved s x) (part_quiet s.signed s.part x)
later_on d p (states.Value s) ys x n k = of_value_steps_on d ys x (advance_value s x) (value_quiet s x)
later_on d p (states.Rpc s) ys x n k = of_rpc_on d ys x (advance_rpc s x) (rpc_on d s ys x k)

-- ---- the first token of a statement

abbrev BeginOn : Draft → Lexeme → Result StatementStep ProtoFault → Type 0
BeginOn d x r = StepOn d [] x r

is_same : (x : Lexeme) (n w : List ℕ) → IsWord x n → bytes_eq n w ≡ true → IsWord x w
is_same x n w h e = h ∙ ap identifier (same_bytes n w e)

extend_said : (x : Lexeme) (n : List ℕ) → IsWord x n → is_extend n ≡ true
    → is_one_of_words x (codes "extend" ∷ codes "extensions" ∷ []) ≡ true
extend_said x n h e = rw h (by (bytes_eq n (codes "extend")) (bytes_eq n (codes "extensions")) e)
  where
    by : (a b : Bool) → (a || b) ≡ true → (a || (b || false)) ≡ true
    by true b e = refl
    by false true e = refl
    by false false e = e

field_begins_on : (d : Draft) (x : Lexeme) → LabelSoFar d [] → BeginOn d x (start_field x)
field_begins_on d x h =
    of_field_on d [] x (advance_field (fields.Type labels.Plain names.Start) x) (field_on d (fields.Type labels.Plain names.Start) [] x (type_so_far [] h refl refl))

file_on : (d : Draft) (x : Lexeme) (n : List ℕ) → IsWord x n → IsAtFileLevel d → (o : Option Opening)
    → BeginOn d x (start_in_file (is_some d.file.package) n x o)
file_on d x n h i (Some o) = tt
file_on d x n h i None =
    either_is (BeginOn d x) (is_extend n) (Err (proto_fault_at reasons.Extend x.span))
    (if not (is_some d.file.package) && bytes_eq n (codes "package") then more (states.Package names.Start) else if bytes_eq n (codes "import") then more (states.Import false) else wrong x)
    (λ e. extends refl i.0 (extend_said x n h e))
    (λ a. either_is (BeginOn d x) (not (is_some d.file.package) && bytes_eq n (codes "package"))
    (more (states.Package names.Start)) (if bytes_eq n (codes "import") then more (states.Import false)
    else wrong x) (λ e. tt)
    (λ b. either_is (BeginOn d x) (bytes_eq n (codes "import")) (more (states.Import false)) (wrong x) (λ e q. import_so_far x refl i (is_same x n (codes "import") h e)) (λ e. unlike)))

labelled_on : (d : Draft) (x : Lexeme) (label : FieldLabel) → IsAtMessageLevel d → IsFieldLabel (x ∷ []) label group_word
    → BeginOn d x (labelled label)
labelled_on d x label i l = type_so_far [] (in_message i l) refl refl

message_on : (d : Draft) (x : Lexeme) (n : List ℕ) → IsWord x n → IsAtMessageLevel d → (o : Option Opening)
    → BeginOn d x (start_in_message n x o)
message_on d x n h i (Some o) = tt
message_on d x n h i None =
    either_is (BeginOn d x) (is_extend n) (Err (proto_fault_at reasons.Extend x.span))
    (if bytes_eq n (codes "reserved") then start_reserved false
    else if bytes_eq n (codes "optional") then labelled labels.Optional
    else if bytes_eq n (codes "repeated") then labelled labels.Repeated else start_field x)
    (λ e. extends refl i.0 (extend_said x n h e))
    (λ e. either_is (BeginOn d x) (bytes_eq n (codes "reserved")) (start_reserved false)
    (if bytes_eq n (codes "optional") then labelled labels.Optional
    else if bytes_eq n (codes "repeated") then labelled labels.Repeated else start_field x) (λ w. tt)
    (λ r. either_is (BeginOn d x) (bytes_eq n (codes "optional")) (labelled labels.Optional) (if bytes_eq n (codes "repeated") then labelled labels.Repeated else start_field x)
    (λ w. labelled_on d x labels.Optional i (optional x (is_same x n (codes "optional") h w)))
    (λ o. either_is (BeginOn d x) (bytes_eq n (codes "repeated")) (labelled labels.Repeated) (start_field x)
    (λ w. labelled_on d x labels.Repeated i (repeated x (is_same x n (codes "repeated") h w)))
    (λ p. field_begins_on d x (in_message i plain)))))

not_empty : {ms : List ℕ} (i : ℕ) (is : List ℕ) → ms ≡ i ∷ is → ms ≡ [] → ⊥
not_empty i is f q = let t : ◌≡◌ {A = List ℕ} (i ∷ is) [] = sym f ∙ q in cc

word_on : (d : Draft) (x : Lexeme) (n : List ℕ) (b : OpenBlock) (ms : List ℕ) → d.block ≡ b → d.messages ≡ ms → IsWord x n
    → BeginOn d x (start_at_word (place_with b ms d.file.package) x n)
word_on d x n no_block [] e f h = file_on d x n h (e, f) (opening_of true n)
word_on d x n no_block (i ∷ is) e f h = message_on d x n h (e, not_empty i is f) (opening_of false n)
word_on d x n (a_oneof i filled) ms e f h = field_begins_on d x (in_oneof i filled e refl)
word_on d x n (an_enum filled) ms e f h =
    either_is (BeginOn d x) (bytes_eq n (codes "reserved")) (start_reserved true) (more (states.Value (values.Named (make_word n x.span)))) (λ e. tt) (λ e. tt)
word_on d x n a_service ms e f h =
    either_is (BeginOn d x) (bytes_eq n (codes "rpc")) (more (states.Rpc rpcs.Start)) (wrong x) (λ r. start_so_far x e (is_same x n (codes "rpc") h r) refl) (λ r. unlike)
word_on d x n an_rpc ms e f h = unlike

dot_on : (d : Draft) (x : Lexeme) (b : OpenBlock) (ms : List ℕ) → d.block ≡ b → d.messages ≡ ms
    → has_fields (place_with b ms d.file.package) ≡ true → BeginOn d x (start_field x)
dot_on d x no_block [] e f t = absurd (let c : false ≡ true = t in cc)
dot_on d x no_block (i ∷ is) e f t = field_begins_on d x (in_message (e, not_empty i is f) plain)
dot_on d x (a_oneof i filled) ms e f t = field_begins_on d x (in_oneof i filled e refl)
dot_on d x (an_enum filled) ms e f t = absurd (let c : false ≡ true = t in cc)
dot_on d x a_service ms e f t = absurd (let c : false ≡ true = t in cc)
dot_on d x an_rpc ms e f t = absurd (let c : false ≡ true = t in cc)

mark_on : (d : Draft) (x : Lexeme) (c : ℕ) → BeginOn d x (start_at_punctuator (statement_place d) x c)
mark_on d x c =
    either_is (BeginOn d x) (c == dot && has_fields (statement_place d)) (start_field x)
    (if c == semicolon && is_body (statement_place d) then done said.Nothing else if c == closing_brace && closes_in (statement_place d) then done said.Close else wrong x)
    (λ e. let b : ((c == dot) ≡ true) × (has_fields (statement_place d) ≡ true) = and_both (c == dot) (has_fields (statement_place d)) e in dot_on d x d.block d.messages refl refl b.1)
    (λ e. either_is (BeginOn d x) (c == semicolon && is_body (statement_place d)) (done said.Nothing) (if c == closing_brace && closes_in (statement_place d) then done said.Close else wrong x) (λ e. tt)
    (λ e. either_is (BeginOn d x) (c == closing_brace && closes_in (statement_place d)) (done said.Close) (wrong x) (λ e. tt) (λ e. unlike)))

meant_on : (d : Draft) (x : Lexeme) (m : TokenMeaning) → x.means ≡ m → BeginOn d x (advance_first_token (statement_place d) x m)
meant_on d x (identifier n) h =
    either_is (BeginOn d x) (bytes_eq n (codes "option")) (more (states.Option next_option)) (start_at_word (statement_place d) x n) (λ e. tt) (λ e. word_on d x n d.block d.messages refl refl h)
meant_on d x (integer n) h = unlike
meant_on d x number h = unlike
meant_on d x (string n) h = unlike
meant_on d x (mark c) h = mark_on d x c
meant_on d x the_end h = unlike
meant_on d x none h = unlike

pub begin_on : (d : Draft) (x : Lexeme) → BeginOn d x (advance_statement (statement_place d) states.Begin x)
unfolding advance_statement
begin_on d x = meant_on d x x.means refl
