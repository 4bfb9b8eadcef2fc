-- A first token and what completes it are a statement.
use Rattle.std.proofs.Common.{subst, ◌≡◌, ℕ, ◌==◌, Bool, true, false, List, [], ◌∷◌, ◌++◌, codes, refl, ap, sym, ◌∙◌}
use Rattle.std.specs.Prelude.{Ok, Err, Result, Option, Some, None, is_some, if◌then◌else◌, not, ◌&&◌}
use Rattle.std.specs.Str.{bytes_eq}
use Rattle.std.proofs.lemmas.Bool.{eqb-true, or_parts}
use Rattle.proto_ast.specs.Dot.{dot}
use Rattle.proto_grammar.specs.Lexemes.{TokenMeaning, identifier, integer, number, string, mark, the_end, none, Lexeme, semicolon, opening_brace, closing_brace, make_word, IsWord, IsPunctuator, is_the_word}
use Rattle.proto_grammar.specs.Grammar.{IsFieldType, named, a_map, map_of_maps, starts_with_word, group_word, member_words, statement_words}
use Rattle.proto_schema.specs.Files
use Rattle.proto_schema.specs.Files.{Draft, OpenBlock, no_block, a_oneof, an_enum, a_service, an_rpc, IsAtFileLevel, IsAtMessageLevel}
use Rattle.proto_schema.specs.Files.{IsOutsideBlocks, with_block, in_message, in_enum, open_message, open_enum, open_service}
use Rattle.proto_schema.specs.Files.{open_oneof, add_field, make_field, IsFieldLabel, IsBlockEnd, IsStatement}
use Rattle.proto_grammar.specs.Advancing.{proto_fault_at, wrong, next_option, advance_field}
use Rattle.proto_schema.specs.StatementReading.{statement_place, place_with, more, done, closes_in, is_body, has_fields, of_field}
use Rattle.proto_schema.specs.StatementReading.{start_field, start_at_punctuator, opening_of, is_extend, start_in_file, start_reserved}
use Rattle.proto_schema.specs.StatementReading.{labelled, start_in_message, start_at_word, advance_first_token, advance_statement, in_oneof}
use Rattle.proto_schema.specs.StatementReading.{filled_with, is_enum, without_first, closed_draft, draft_with}
use Rattle.proto_schema.proofs.Choices.{either_is, same_bytes, and_both}
use Rattle.proto_schema.proofs.TailRest.{option_of}
use Rattle.proto_schema.proofs.FieldRest.{FieldRest, FieldBack, field_back, field_from}
use Rattle.proto_schema.proofs.ReservedRest.{Kept, KeptFrom, some_ranges, some_names, range_list, name_list}
use Rattle.proto_schema.proofs.ValueRest.{NamedValue, named_value, numbered_value}
use Rattle.proto_schema.proofs.RpcRest.{StartRest, RpcWhole, rpc_whole, rpc_from}
use Rattle.proto_ast.specs.declared.file.Word.{Word}
use Rattle.proto_ast.specs.declared.file.Range.{Range}
use Rattle.proto_ast.specs.declared.file.FieldLabel.{FieldLabel}
use Rattle.proto_ast.specs.declared.file.FieldLabel.TheVariants as labels
use Rattle.proto_ast.specs.declared.file.FieldType.{FieldType}
use Rattle.proto_ast.specs.declared.file.FieldDecl.{FieldDecl}
use Rattle.proto_ast.specs.declared.file.ValueDecl.{ValueDecl}
use Rattle.proto_ast.specs.declared.file.RpcDecl.{RpcDecl}
use Rattle.proto_grammar.specs.declared.fault.ProtoReason.TheVariants as reasons
use Rattle.proto_grammar.specs.declared.fault.ProtoFault.{ProtoFault}
use Rattle.proto_grammar.specs.declared.name.NameState.TheVariants as names
use Rattle.proto_grammar.specs.declared.field.FieldState.TheVariants as fields
use Rattle.proto_grammar.specs.declared.field.FieldStep.{FieldStep}
use Rattle.proto_grammar.specs.declared.field.FieldStep.TheVariants as field_steps
use Rattle.proto_grammar.specs.declared.value.ValueState.TheVariants as values
use Rattle.proto_grammar.specs.declared.rpc.RpcState.TheVariants as rpcs
use Rattle.proto_schema.specs.declared.statement.StatementPlace.TheVariants as places
use Rattle.proto_schema.specs.declared.statement.Opening.{Opening}
use Rattle.proto_schema.specs.declared.statement.Opening.TheVariants as openings
use Rattle.proto_schema.specs.declared.statement.StatementState.TheVariants as states
use Rattle.proto_schema.specs.declared.statement.StatementEffect.{StatementEffect}
use Rattle.proto_schema.specs.declared.statement.StatementEffect.TheVariants as said
use Rattle.proto_schema.specs.declared.statement.StatementStep.{StatementStep}
use Rattle.proto_schema.specs.declared.statement.StatementStep.TheVariants as steps
use Rattle.proto_schema.proofs.StatementRest.{Rest, NotBegin, PackageRest, package_rest, ImportRest, path_rest}
use Rattle.proto_schema.proofs.StatementRest.{public_rest, imported_rest, OptionEnd, option_end, OpeningRest}
use Rattle.proto_schema.proofs.StatementRest.{opening_rest, opened_rest, said_of}

-- ---- the step of a first token is right

abbrev pub BeginBack : Draft → Lexeme → Result StatementStep ProtoFault → Type 0
BeginBack d x (Ok (steps.More t)) = (NotBegin t) × ((ys : List Lexeme) (v : StatementEffect) → Rest t ys v → IsStatement d (x ∷ ys) (draft_with d v))
BeginBack d x (Ok (steps.Done v)) = IsStatement d (x ∷ []) (draft_with d v)
BeginBack d x (Err e) = Unit {0}

-- ---- words of several types

widen : (words : List (List ℕ)) (ts : List Lexeme) (kind : FieldType) → IsFieldType group_word ts kind
    → starts_with_word words ts ≡ false → IsFieldType words ts kind
widen words ts kind (named t g) b = named t b
widen words ts kind (a_map x k t g m e) b = a_map x k t g m e
widen words ts kind (map_of_maps x k n m e) b = map_of_maps x k n m e

-- a field's type and the field have the same first token
begins_same : (words : List (List ℕ)) (x : Lexeme) (ys ts es : List Lexeme)
    → ((l : List Lexeme) → starts_with_word words (x ∷ l) ≡ false) → x ∷ ys ≡ ts ++ es → starts_with_word words ts ≡ false
begins_same words x ys [] es h e = refl
begins_same words x ys (t ∷ ts) es h e =
    let q : x ≡ t = (let r : ◌≡◌ {A = List Lexeme} (x ∷ ys) (t ∷ ts ++ es) = e in cc) in
    subst (λ (z : Lexeme). starts_with_word words (z ∷ ts) ≡ false) q (h ts)

-- ---- a field

pub no_block_field : (d : Draft) (f : FieldDecl) → d.block ≡ no_block → draft_with d (said.Field f) ≡ add_field d f
no_block_field d f e =
    ap (λ (b : OpenBlock). with_block (add_field d (in_oneof b f)) (filled_with b)) e ∙ ap (λ (b : OpenBlock). with_block (add_field d f) b) (sym e)

field_in_message : (d : Draft) (x : Lexeme) → IsAtMessageLevel d
    → ((l : List Lexeme) → starts_with_word statement_words (x ∷ l) ≡ false)
    → (ys : List Lexeme) (f : FieldDecl) → FieldRest (fields.Type labels.Plain names.Start) (x ∷ ys) f
    → IsStatement d (x ∷ ys) (draft_with d (said.Field f))
field_in_message d x m h ys f (field_from {ts = ts} {es = es} {kind = kind} {name = name} {number = num} {packed = packed} k e a q) =
    let g : FieldDecl = make_field name num kind labels.Plain None packed in
    let s : IsStatement d (x ∷ ys) (add_field d g) = Files.a_field m Files.plain (widen statement_words ts kind k (begins_same statement_words x ys ts es h a)) e a in
    subst (λ (c : Draft). IsStatement d (x ∷ ys) c) (sym (no_block_field d f m.0)) (subst (λ (f : FieldDecl). IsStatement d (x ∷ ys) (add_field d f)) q s)

labelled_in_message : (d : Draft) (x : Lexeme) (label : FieldLabel) → IsAtMessageLevel d → IsFieldLabel (x ∷ []) label group_word
    → (ys : List Lexeme) (f : FieldDecl) → FieldRest (fields.Type label names.Start) ys f
    → IsStatement d (x ∷ ys) (draft_with d (said.Field f))
labelled_in_message d x label m l ys f (field_from {ts = ts} {es = es} {kind = kind} {name = name} {number = num} {packed = packed} k e a q) =
    let g : FieldDecl = make_field name num kind label None packed in
    let s : IsStatement d (x ∷ ys) (add_field d g) = Files.a_field m l k e (ap (λ (l : List Lexeme). x ∷ l) a) in
    subst (λ (c : Draft). IsStatement d (x ∷ ys) c) (sym (no_block_field d f m.0)) (subst (λ (f : FieldDecl). IsStatement d (x ∷ ys) (add_field d f)) q s)

field_in_oneof : (d : Draft) (x : Lexeme) (i : ℕ) (filled : Bool) → d.block ≡ a_oneof i filled
    → ((l : List Lexeme) → starts_with_word member_words (x ∷ l) ≡ false)
    → (ys : List Lexeme) (f : FieldDecl) → FieldRest (fields.Type labels.Plain names.Start) (x ∷ ys) f
    → IsStatement d (x ∷ ys) (draft_with d (said.Field f))
field_in_oneof d x i filled m h ys f (field_from {ts = ts} {es = es} {kind = kind} {name = name} {number = num} {packed = packed} k e a q) =
    let g : FieldDecl = make_field name num kind labels.Plain None packed in
    let s : IsStatement d (x ∷ ys) (with_block (add_field d (record g { oneof = Some i })) (a_oneof i true)) =
    Files.member i filled m (widen member_words ts kind k (begins_same member_words x ys ts es h a)) e a in
    let r : draft_with d (said.Field f) ≡ with_block (add_field d (record f { oneof = Some i })) (a_oneof i true) =
    ap (λ (b : OpenBlock). with_block (add_field d (in_oneof b f)) (filled_with b)) m in
    subst (λ (c : Draft). IsStatement d (x ∷ ys) c) (sym r)
    (subst (λ (f : FieldDecl).
    IsStatement d (x ∷ ys) (with_block (add_field d (record f { oneof = Some i })) (a_oneof i true))) q s)

-- a field without a label, if its first token may start one
field_begins_back : (d : Draft) (x : Lexeme)
    → ((ys : List Lexeme) (f : FieldDecl) → FieldRest (fields.Type labels.Plain names.Start) (x ∷ ys) f
    → IsStatement d (x ∷ ys) (draft_with d (said.Field f))) → BeginBack d x (start_field x)
field_begins_back d x h = by (advance_field (fields.Type labels.Plain names.Start) x) (field_back (fields.Type labels.Plain names.Start) x)
  where
    by : (r : Result FieldStep ProtoFault) → FieldBack (fields.Type labels.Plain names.Start) x r
        → BeginBack d x (of_field r)
    by (Ok (field_steps.More t)) b = (tt, λ ys v k. subst (λ (v : StatementEffect). IsStatement d (x ∷ ys) (draft_with d v)) k.2 (h ys k.0 (b ys k.0 k.1)))
    by (Ok (field_steps.Done f)) b = h [] f b
    by (Err e) b = tt

-- `group` starts no field
group_fails : (x : Lexeme) → is_the_word x.means (codes "group") ≡ true → start_field x ≡ Err (proto_fault_at reasons.Group x.span)
unfolding advance_field
group_fails x h = rw h refl

group_back : (d : Draft) (x : Lexeme) → is_the_word x.means (codes "group") ≡ true → BeginBack d x (start_field x)
group_back d x h = subst (λ (r : Result StatementStep ProtoFault). BeginBack d x r) (sym (group_fails x h)) tt

-- ---- blocks

opens : (d : Draft) (x : Lexeme) (o : Opening) (e : Word → Draft)
    → ((y z : Lexeme) (n : List ℕ) → IsWord y n → IsPunctuator z opening_brace
    → IsStatement d (x ∷ y ∷ z ∷ []) (e (make_word n y.span)))
    → ((w : Word) → draft_with d (said.Open o w) ≡ e w) → (ys : List Lexeme) (v : StatementEffect) → OpeningRest o ys v
    → IsStatement d (x ∷ ys) (draft_with d v)
opens d x o e h q ys v (opening_rest y n w (opened_rest z m b r) a) =
    subst (λ (l : List Lexeme). IsStatement d (x ∷ l) (draft_with d v)) (sym (a ∙ ap (λ (l : List Lexeme). y ∷ l) b))
    (subst (λ (v : StatementEffect). IsStatement d (x ∷ y ∷ z ∷ []) (draft_with d v)) r (subst (λ (c : Draft). IsStatement d (x ∷ y ∷ z ∷ []) c) (sym (q (make_word n y.span))) (h y z n w m)))

-- ---- words

is_same : (x : Lexeme) (n w : List ℕ) → IsWord x n → bytes_eq n w ≡ true → IsWord x w
is_same x n w h e = h ∙ ap identifier (same_bytes n w e)

package_begins : (d : Draft) (x : Lexeme) → IsAtFileLevel d → d.file.package ≡ None → IsWord x (codes "package")
    → (ys : List Lexeme) (v : StatementEffect) → PackageRest names.Start ys v → IsStatement d (x ∷ ys) (draft_with d v)
package_begins d x i p h ys v (package_rest z us w f m a q) =
    subst (λ (v : StatementEffect). IsStatement d (x ∷ ys) (draft_with d v)) q (Files.package_name x z i p h f m (ap (λ (l : List Lexeme). x ∷ l) a))

import_begins : (d : Draft) (x : Lexeme) → IsAtFileLevel d → IsWord x (codes "import") → (ys : List Lexeme) (v : StatementEffect)
    → ImportRest false ys v → IsStatement d (x ∷ ys) (draft_with d v)
import_begins d x i h ys v (path_rest y path s (imported_rest z m b q) a) =
    subst (λ (v : StatementEffect). IsStatement d (x ∷ ys) (draft_with d v)) q (Files.import x y z path i h s m (ap (λ (l : List Lexeme). x ∷ l) (a ∙ ap (λ (l : List Lexeme). y ∷ l) b)))
import_begins d x i h ys v (public_rest p y path f w s (imported_rest z m b q) a) =
    subst (λ (v : StatementEffect). IsStatement d (x ∷ ys) (draft_with d v)) q
    (Files.public_import x p y z path i h w s m
    (ap (λ (l : List Lexeme). x ∷ l) (a ∙ ap (λ (l : List Lexeme). p ∷ y ∷ l) b)))

not_some : {X : Type 0} (o : Option X) → not (is_some o) ≡ true → o ≡ None
not_some None h = refl
not_some (Some y) h = absurd (let t : false ≡ true = h in cc)

file_back : (d : Draft) (x : Lexeme) (n : List ℕ) → IsWord x n → IsAtFileLevel d
    → BeginBack d x (start_in_file (is_some d.file.package) n x (opening_of true n))
file_back d x n h i =
    either_is (λ (o : Option Opening). BeginBack d x (start_in_file (is_some d.file.package) n x o)) (bytes_eq n (codes "message")) (Some openings.Message)
    (if bytes_eq n (codes "enum") then Some openings.Enum else if true
    && bytes_eq n (codes "service") then Some openings.Service else if not true
    && bytes_eq n (codes "oneof") then Some openings.Oneof else None)
    (λ e. (tt, opens d x openings.Message (open_message d) (λ y z m w b. Files.message x y z m i.0 (is_same x n (codes "message") h e) w b refl) (λ w. refl)))
    (λ a. either_is (λ (o : Option Opening). BeginBack d x (start_in_file (is_some d.file.package) n x o)) (bytes_eq n (codes "enum")) (Some openings.Enum)
    (if true && bytes_eq n (codes "service") then Some openings.Service else if not true && bytes_eq n (codes "oneof") then Some openings.Oneof else None)
    (λ e. (tt, opens d x openings.Enum (open_enum d) (λ y z m w b. Files.enum x y z m i.0 (is_same x n (codes "enum") h e) w b refl) (λ w. refl)))
    (λ b. either_is (λ (o : Option Opening). BeginBack d x (start_in_file (is_some d.file.package) n x o)) (true && bytes_eq n (codes "service")) (Some openings.Service)
    (if not true && bytes_eq n (codes "oneof") then Some openings.Oneof else None)
    (λ e. (tt, opens d x openings.Service (open_service d) (λ y z m w b. Files.service x y z m i (is_same x n (codes "service") h e) w b refl) (λ w. refl)))
    (λ c. others)))
  where
    others : BeginBack d x (start_in_file (is_some d.file.package) n x None)
    others =
        either_is (BeginBack d x) (is_extend n) (Err (proto_fault_at reasons.Extend x.span))
        (if not (is_some d.file.package) && bytes_eq n (codes "package") then more (states.Package names.Start)
        else if bytes_eq n (codes "import") then more (states.Import false) else wrong x) (λ e. tt)
        (λ a. either_is (BeginBack d x) (not (is_some d.file.package) && bytes_eq n (codes "package"))
        (more (states.Package names.Start)) (if bytes_eq n (codes "import") then more (states.Import false)
        else wrong x)
        (λ e. let b : (not (is_some d.file.package) ≡ true) × (bytes_eq n (codes "package") ≡ true) = and_both (not (is_some d.file.package)) (bytes_eq n (codes "package")) e in
        (tt, package_begins d x i (not_some d.file.package b.0) (is_same x n (codes "package") h b.1)))
        (λ b. either_is (BeginBack d x) (bytes_eq n (codes "import")) (more (states.Import false)) (wrong x)
        (λ e. (tt, import_begins d x i (is_same x n (codes "import") h e))) (λ e. tt)))

-- reserved numbers and names of a message, and of an enum

reserved_in_message : (d : Draft) (x : Lexeme) → IsAtMessageLevel d → IsWord x (codes "reserved")
    → (ys : List Lexeme) (v : StatementEffect) → (out : Kept) × KeptFrom false ys out × (said_of out ≡ v)
    → IsStatement d (x ∷ ys) (draft_with d v)
reserved_in_message d x m h ys v (out, k, q) = subst (λ (v : StatementEffect). IsStatement d (x ∷ ys) (draft_with d v)) q (by out k)
  where
    numbers : (rs : List Range) → draft_with d (said.Ranges rs) ≡ in_message d (λ m. record m { ranges = m.ranges ++ rs })
    numbers rs = ap (λ (b : OpenBlock). if is_enum b then in_enum d (λ e. record e { ranges = e.ranges ++ rs }) else in_message d (λ m. record m { ranges = m.ranges ++ rs })) m.0

    strings : (ws : List Word) → draft_with d (said.Names ws) ≡ in_message d (λ m. record m { names = m.names ++ ws })
    strings ws = ap (λ (b : OpenBlock). if is_enum b then in_enum d (λ e. record e { names = e.names ++ ws }) else in_message d (λ m. record m { names = m.names ++ ws })) m.0

    by : (out : Kept) → KeptFrom false ys out → IsStatement d (x ∷ ys) (draft_with d (said_of out))
    by out (some_ranges (range_list z {more = rs} r s a q)) =
        subst (λ (o : Kept). IsStatement d (x ∷ ys) (draft_with d (said_of o))) q
        (subst (λ (c : Draft). IsStatement d (x ∷ ys) c) (sym (numbers rs)) (Files.reserved_numbers x z m h r s (ap (λ (l : List Lexeme). x ∷ l) a)))
    by out (some_names (name_list z {more = ws} r s a q)) =
        subst (λ (o : Kept). IsStatement d (x ∷ ys) (draft_with d (said_of o))) q
        (subst (λ (c : Draft). IsStatement d (x ∷ ys) c) (sym (strings ws)) (Files.reserved_names x z m h r s (ap (λ (l : List Lexeme). x ∷ l) a)))

reserved_in_enum : (d : Draft) (x : Lexeme) (filled : Bool) → d.block ≡ an_enum filled → IsWord x (codes "reserved")
    → (ys : List Lexeme) (v : StatementEffect) → (out : Kept) × KeptFrom true ys out × (said_of out ≡ v)
    → IsStatement d (x ∷ ys) (draft_with d v)
reserved_in_enum d x filled m h ys v (out, k, q) = subst (λ (v : StatementEffect). IsStatement d (x ∷ ys) (draft_with d v)) q (by out k)
  where
    numbers : (rs : List Range) → draft_with d (said.Ranges rs) ≡ in_enum d (λ e. record e { ranges = e.ranges ++ rs })
    numbers rs = ap (λ (b : OpenBlock). if is_enum b then in_enum d (λ e. record e { ranges = e.ranges ++ rs }) else in_message d (λ m. record m { ranges = m.ranges ++ rs })) m

    strings : (ws : List Word) → draft_with d (said.Names ws) ≡ in_enum d (λ e. record e { names = e.names ++ ws })
    strings ws = ap (λ (b : OpenBlock). if is_enum b then in_enum d (λ e. record e { names = e.names ++ ws }) else in_message d (λ m. record m { names = m.names ++ ws })) m

    by : (out : Kept) → KeptFrom true ys out → IsStatement d (x ∷ ys) (draft_with d (said_of out))
    by out (some_ranges (range_list z {more = rs} r s a q)) =
        subst (λ (o : Kept). IsStatement d (x ∷ ys) (draft_with d (said_of o))) q
        (subst (λ (c : Draft). IsStatement d (x ∷ ys) c) (sym (numbers rs)) (Files.reserved_values x z filled m h r s (ap (λ (l : List Lexeme). x ∷ l) a)))
    by out (some_names (name_list z {more = ws} r s a q)) =
        subst (λ (o : Kept). IsStatement d (x ∷ ys) (draft_with d (said_of o))) q
        (subst (λ (c : Draft). IsStatement d (x ∷ ys) c) (sym (strings ws)) (Files.reserved_value_names x z filled m h r s (ap (λ (l : List Lexeme). x ∷ l) a)))

message_back : (d : Draft) (x : Lexeme) (n : List ℕ) → IsWord x n → bytes_eq n (codes "option") ≡ false → IsAtMessageLevel d
    → BeginBack d x (start_in_message n x (opening_of false n))
message_back d x n h no_option i =
    either_is (λ (o : Option Opening). BeginBack d x (start_in_message n x o)) (bytes_eq n (codes "message")) (Some openings.Message)
    (if bytes_eq n (codes "enum") then Some openings.Enum else if false
    && bytes_eq n (codes "service") then Some openings.Service else if not false
    && bytes_eq n (codes "oneof") then Some openings.Oneof else None)
    (λ e. (tt, opens d x openings.Message (open_message d) (λ y z m w b. Files.message x y z m i.0 (is_same x n (codes "message") h e) w b refl) (λ w. refl)))
    (λ a. either_is (λ (o : Option Opening). BeginBack d x (start_in_message n x o)) (bytes_eq n (codes "enum")) (Some openings.Enum)
    (if not false && bytes_eq n (codes "oneof") then Some openings.Oneof else None)
    (λ e. (tt, opens d x openings.Enum (open_enum d) (λ y z m w b. Files.enum x y z m i.0 (is_same x n (codes "enum") h e) w b refl) (λ w. refl)))
    (λ b. either_is (λ (o : Option Opening). BeginBack d x (start_in_message n x o)) (not false && bytes_eq n (codes "oneof")) (Some openings.Oneof) None
    (λ e. (tt, opens d x openings.Oneof (open_oneof d) (λ y z m w b. Files.oneof x y z m i (is_same x n (codes "oneof") h e) w b refl) (λ w. refl)))
    (λ c. others a b c)))
  where
    fields_only : bytes_eq n (codes "message") ≡ false → bytes_eq n (codes "enum") ≡ false
        → bytes_eq n (codes "oneof") ≡ false → is_extend n ≡ false → bytes_eq n (codes "reserved") ≡ false
        → bytes_eq n (codes "optional") ≡ false → bytes_eq n (codes "repeated") ≡ false
        → BeginBack d x (start_field x)
    fields_only a b c e r o p = by (bytes_eq n (codes "group")) refl
      where
        by : (g : Bool) → bytes_eq n (codes "group") ≡ g → BeginBack d x (start_field x)
        by false g =
            let s : (bytes_eq n (codes "extend") ≡ false) × (bytes_eq n (codes "extensions") ≡ false) = or_parts (bytes_eq n (codes "extend")) (bytes_eq n (codes "extensions")) e in
            let s0 : bytes_eq n (codes "extend") ≡ false = s.0 in
            let s1 : bytes_eq n (codes "extensions") ≡ false = s.1 in
            field_begins_back d x (field_in_message d x i (λ l. rw h (rw (a, b, c, r, s0, s1, o, p, no_option, g) refl)))
        by true g = group_back d x (rw h g)

    others : bytes_eq n (codes "message") ≡ false → bytes_eq n (codes "enum") ≡ false
        → bytes_eq n (codes "oneof") ≡ false → BeginBack d x (start_in_message n x None)
    others a b c =
        either_is (BeginBack d x) (is_extend n) (Err (proto_fault_at reasons.Extend x.span))
        (if bytes_eq n (codes "reserved") then start_reserved false
        else if bytes_eq n (codes "optional") then labelled labels.Optional
        else if bytes_eq n (codes "repeated") then labelled labels.Repeated else start_field x) (λ e. tt)
        (λ e. either_is (BeginBack d x) (bytes_eq n (codes "reserved")) (start_reserved false)
        (if bytes_eq n (codes "optional") then labelled labels.Optional
        else if bytes_eq n (codes "repeated") then labelled labels.Repeated else start_field x)
        (λ w. (tt, reserved_in_message d x i (is_same x n (codes "reserved") h w)))
        (λ r. either_is (BeginBack d x) (bytes_eq n (codes "optional")) (labelled labels.Optional) (if bytes_eq n (codes "repeated") then labelled labels.Repeated else start_field x)
        (λ w. (
          tt,
          λ ys v k. subst (λ (v : StatementEffect). IsStatement d (x ∷ ys) (draft_with d v)) k.2
              (labelled_in_message d x labels.Optional i (Files.optional x (is_same x n (codes "optional") h w)) ys k.0
              k.1),
        ))
        (λ o. either_is (BeginBack d x) (bytes_eq n (codes "repeated")) (labelled labels.Repeated) (start_field x)
        (λ w. (
          tt,
          λ ys v k. subst (λ (v : StatementEffect). IsStatement d (x ∷ ys) (draft_with d v)) k.2
              (labelled_in_message d x labels.Repeated i (Files.repeated x (is_same x n (codes "repeated") h w)) ys k.0
              k.1),
        ))
        (λ p. fields_only a b c e r o p))))

oneof_back : (d : Draft) (x : Lexeme) (n : List ℕ) (i : ℕ) (filled : Bool) → IsWord x n
    → bytes_eq n (codes "option") ≡ false → d.block ≡ a_oneof i filled → BeginBack d x (start_field x)
oneof_back d x n i filled h no_option m = by (bytes_eq n (codes "group")) refl
  where
    by : (g : Bool) → bytes_eq n (codes "group") ≡ g → BeginBack d x (start_field x)
    by false g = field_begins_back d x (field_in_oneof d x i filled m (λ l. rw h (rw (no_option, g) refl)))
    by true g = group_back d x (rw h g)

value_begins : (d : Draft) (x : Lexeme) (n : List ℕ) (filled : Bool) → d.block ≡ an_enum filled → IsWord x n
    → bytes_eq n (codes "option") ≡ false → bytes_eq n (codes "reserved") ≡ false
    → (ys : List Lexeme) (v : StatementEffect) → (w : ValueDecl) × NamedValue (make_word n x.span) ys w × (said.Value w ≡ v)
    → IsStatement d (x ∷ ys) (draft_with d v)
value_begins d x n filled m h o r ys v (w, named_value y e (numbered_value z {ns = ns} {os = os} k p s a q) b, t) =
    subst (λ (v : StatementEffect). IsStatement d (x ∷ ys) (draft_with d v)) t (subst (λ (w : ValueDecl). IsStatement d (x ∷ ys) (draft_with d (said.Value w))) q
    (Files.value x y z n filled m h (rw h (rw (o, r) refl)) e k p s (ap (λ (l : List Lexeme). x ∷ l) (b ∙ ap (λ (l : List Lexeme). y ∷ l) a))))

enum_back : (d : Draft) (x : Lexeme) (n : List ℕ) (filled : Bool) → IsWord x n → bytes_eq n (codes "option") ≡ false
    → d.block ≡ an_enum filled → BeginBack d x (start_at_word (places.Enum filled) x n)
enum_back d x n filled h no_option m =
    either_is (BeginBack d x) (bytes_eq n (codes "reserved")) (start_reserved true) (more (states.Value (values.Named (make_word n x.span))))
    (λ e. (tt, reserved_in_enum d x filled m (is_same x n (codes "reserved") h e))) (λ e. (tt, value_begins d x n filled m h no_option e))

rpc_begins : (d : Draft) (x : Lexeme) → d.block ≡ a_service → IsWord x (codes "rpc") → (ys : List Lexeme) (v : StatementEffect)
    → (r : RpcDecl) × (block : Bool) × StartRest ys r block × (said.Rpc r block ≡ v) → IsStatement d (x ∷ ys) (draft_with d v)
rpc_begins d x m h ys v (r, block, s, q) = subst (λ (v : StatementEffect). IsStatement d (x ∷ ys) (draft_with d v)) q (by block (rpc_from x ys r block h s))
  where
    by : (block : Bool) → RpcWhole (x ∷ ys) r block → IsStatement d (x ∷ ys) (draft_with d (said.Rpc r block))
    by true (rpc_whole z k e a) = Files.rpc_with_options z m k e a
    by false (rpc_whole z k e a) = Files.rpc z m k e a

service_back : (d : Draft) (x : Lexeme) (n : List ℕ) → IsWord x n → d.block ≡ a_service
    → BeginBack d x (start_at_word places.Service x n)
service_back d x n h m =
    either_is (BeginBack d x) (bytes_eq n (codes "rpc")) (more (states.Rpc rpcs.Start)) (wrong x) (λ e. (tt, rpc_begins d x m (is_same x n (codes "rpc") h e))) (λ e. tt)

word_back : (d : Draft) (x : Lexeme) (n : List ℕ) (b : OpenBlock) (ms : List ℕ) → d.block ≡ b → d.messages ≡ ms
    → IsWord x n → bytes_eq n (codes "option") ≡ false
    → BeginBack d x (start_at_word (place_with b ms d.file.package) x n)
word_back d x n no_block [] e f h o = file_back d x n h (e, f)
word_back d x n no_block (i ∷ is) e f h o = message_back d x n h o (e, λ q. let t : ◌≡◌ {A = List ℕ} (i ∷ is) [] = sym f ∙ q in cc)
word_back d x n (a_oneof i filled) ms e f h o = oneof_back d x n i filled h o e
word_back d x n (an_enum filled) ms e f h o = enum_back d x n filled h o e
word_back d x n a_service ms e f h o = service_back d x n h e
word_back d x n an_rpc ms e f h o = tt

-- ---- punctuators

dot_back : (d : Draft) (x : Lexeme) (b : OpenBlock) (ms : List ℕ) → d.block ≡ b → d.messages ≡ ms → IsPunctuator x dot
    → has_fields (place_with b ms d.file.package) ≡ true → BeginBack d x (start_field x)
dot_back d x no_block [] e f h t = absurd (let c : false ≡ true = t in cc)
dot_back d x no_block (i ∷ is) e f h t = field_begins_back d x (field_in_message d x (e, λ q. let t : ◌≡◌ {A = List ℕ} (i ∷ is) [] = sym f ∙ q in cc) (λ l. rw h refl))
dot_back d x (a_oneof i filled) ms e f h t = field_begins_back d x (field_in_oneof d x i filled e (λ l. rw h refl))
dot_back d x (an_enum filled) ms e f h t = absurd (let c : false ≡ true = t in cc)
dot_back d x a_service ms e f h t = absurd (let c : false ≡ true = t in cc)
dot_back d x an_rpc ms e f h t = absurd (let c : false ≡ true = t in cc)

body_block : (d : Draft) (b : OpenBlock) (ms : List ℕ) → d.block ≡ b → is_body (place_with b ms d.file.package) ≡ true
    → IsOutsideBlocks d
body_block d no_block ms e t = e
body_block d (a_oneof i filled) ms e t = absurd (let c : false ≡ true = t in cc)
body_block d (an_enum filled) ms e t = absurd (let c : false ≡ true = t in cc)
body_block d a_service ms e t = absurd (let c : false ≡ true = t in cc)
body_block d an_rpc ms e t = absurd (let c : false ≡ true = t in cc)

closes_to : (d : Draft) (b : OpenBlock) (ms : List ℕ) → d.block ≡ b → d.messages ≡ ms
    → closes_in (place_with b ms d.file.package) ≡ true → IsBlockEnd d (closed_draft d b)
closes_to d no_block [] e f t = absurd (let c : false ≡ true = t in cc)
closes_to d no_block (i ∷ is) e f t =
    subst (λ (l : List ℕ). IsBlockEnd d (record { file = d.file; messages = l; block = no_block })) (sym (ap without_first f)) (Files.message_ends i is e f)
closes_to d (a_oneof i filled) ms e f t = Files.oneof_ends i (e ∙ ap (λ (b : Bool). a_oneof i b) t)
closes_to d (an_enum filled) ms e f t = Files.enum_ends (e ∙ ap (λ (b : Bool). an_enum b) t)
closes_to d a_service ms e f t = Files.service_ends e
closes_to d an_rpc ms e f t = Files.rpc_ends e

mark_back : (d : Draft) (x : Lexeme) (c : ℕ) → IsPunctuator x c → BeginBack d x (start_at_punctuator (statement_place d) x c)
mark_back d x c h =
    either_is (BeginBack d x) (c == dot && has_fields (statement_place d)) (start_field x)
    (if c == semicolon && is_body (statement_place d) then done said.Nothing else if c == closing_brace
    && closes_in (statement_place d) then done said.Close else wrong x)
    (λ e. let b : ((c == dot) ≡ true) × (has_fields (statement_place d) ≡ true) = and_both (c == dot) (has_fields (statement_place d)) e in
    dot_back d x d.block d.messages refl refl (h ∙ ap mark (eqb-true c dot b.0)) b.1)
    (λ e. either_is (BeginBack d x) (c == semicolon && is_body (statement_place d)) (done said.Nothing) (if c == closing_brace && closes_in (statement_place d) then done said.Close else wrong x)
    (λ e. let b : ((c == semicolon) ≡ true) × (is_body (statement_place d) ≡ true) = and_both (c == semicolon) (is_body (statement_place d)) e in
    Files.empty x (body_block d d.block d.messages refl b.1) (h ∙ ap mark (eqb-true c semicolon b.0)) refl)
    (λ e. either_is (BeginBack d x) (c == closing_brace && closes_in (statement_place d)) (done said.Close) (wrong x)
    (λ e. let b : ((c == closing_brace) ≡ true) × (closes_in (statement_place d) ≡ true) = and_both (c == closing_brace) (closes_in (statement_place d)) e in
    Files.close x (h ∙ ap mark (eqb-true c closing_brace b.0)) refl (closes_to d d.block d.messages refl refl b.1))
    (λ e. tt)))

option_begins : (d : Draft) (x : Lexeme) → IsWord x (codes "option") → (ys : List Lexeme) (v : StatementEffect)
    → OptionEnd next_option ys v → IsStatement d (x ∷ ys) (draft_with d v)
option_begins d x h ys v (option_end z os b r m a q) =
    subst (λ (v : StatementEffect). IsStatement d (x ∷ ys) (draft_with d v)) q (Files.option x z h (option_of os b r) m (ap (λ (l : List Lexeme). x ∷ l) a))

meant_back : (d : Draft) (x : Lexeme) (m : TokenMeaning) → x.means ≡ m → BeginBack d x (advance_first_token (statement_place d) x m)
meant_back d x (identifier n) h =
    either_is (BeginBack d x) (bytes_eq n (codes "option")) (more (states.Option next_option)) (start_at_word (statement_place d) x n)
    (λ e. (tt, option_begins d x (is_same x n (codes "option") h e))) (λ e. word_back d x n d.block d.messages refl refl h e)
meant_back d x (integer n) h = tt
meant_back d x number h = tt
meant_back d x (string n) h = tt
meant_back d x (mark c) h = mark_back d x c h
meant_back d x the_end h = tt
meant_back d x none h = tt

pub begin_back : (d : Draft) (x : Lexeme) → BeginBack d x (advance_statement (statement_place d) states.Begin x)
unfolding advance_statement
begin_back d x = meant_back d x x.means refl
