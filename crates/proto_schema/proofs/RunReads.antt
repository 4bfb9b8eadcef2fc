-- Statements are read token by token, and so is a whole text.
use Rattle.std.proofs.Common.{subst, ◌≡◌, ◌≢◌, inl, inr, ℕ, Bool, true, false, List, [], ◌∷◌, ◌++◌, codes, refl, ap, sym, ◌∙◌, arith}
use Rattle.std.specs.Prelude.{Ok, Err, Result, Option, Some, None, is_some, if◌then◌else◌, ◌&&◌, ◌||◌}
use Rattle.std.specs.Str.{bytes_eq}
use Rattle.std.proofs.lemmas.List.{append_assoc}
use Rattle.proto_grammar.specs.Lexemes.{TokenMeaning, identifier, integer, number, string, mark, the_end, none, Lexeme, semicolon, equals, IsWord, IsPunctuator, is_the_word}
use Rattle.proto_schema.specs.Files
use Rattle.proto_schema.specs.Files.{Draft, OpenBlock, no_block, a_oneof, an_enum, a_service, an_rpc, IsAtFileLevel, IsComplete, IsStatement, IsSyntaxStatement, AreStatementsOf, AreFileTokens, initial_draft}
use Rattle.proto_grammar.specs.Advancing.{unexpected}
use Rattle.proto_schema.specs.StatementReading.{statement_place, place_with, draft_with, advance_statement, read, is_file, is_end, is_over, is_too_deep, after_token, run, reading}
use Rattle.proto_schema.proofs.Next.{run_step, run_over}
use Rattle.proto_ast.specs.declared.file.Word.{Word}
use Rattle.proto_ast.specs.declared.file.File.{File}
use Rattle.proto_grammar.specs.declared.fault.ProtoFault.{ProtoFault}
use Rattle.proto_schema.specs.declared.statement.Opening.{Opening}
use Rattle.proto_schema.specs.declared.statement.Opening.TheVariants as openings
use Rattle.proto_schema.specs.declared.statement.StatementState.{StatementState}
use Rattle.proto_schema.specs.declared.statement.StatementState.TheVariants as states
use Rattle.proto_schema.specs.declared.statement.StatementEffect.{StatementEffect}
use Rattle.proto_schema.specs.declared.statement.StatementEffect.TheVariants as said
use Rattle.proto_schema.specs.declared.statement.StatementStep.{StatementStep}
use Rattle.proto_schema.specs.declared.statement.StatementStep.TheVariants as steps
use Rattle.std.proofs.lemmas.Bool.{or_parts}
use Rattle.proto_ast.specs.Dot.{dot}
use Rattle.proto_grammar.specs.Lexemes.{opening_brace, closing_brace, make_word}
use Rattle.proto_grammar.specs.Lexemes.{is_one_of_words}
use Rattle.proto_grammar.specs.Grammar.{IsNumberToken, AreFieldOptions, one, more as further, IsFieldType, named, a_map}
use Rattle.proto_grammar.specs.Grammar.{map_of_maps, IsMapKey, map_key, relative, absolute, starts_with_word, group_word}
use Rattle.proto_grammar.specs.Grammar.{member_words, statement_words}
use Rattle.proto_schema.specs.Files.{IsFieldLabel, plain, optional, repeated, IsFieldEnd, make_field, IsBlockEnd}
use Rattle.proto_grammar.specs.Advancing.{advance_full_name, advance_option, next_option}
use Rattle.proto_schema.specs.StatementReading.{of_field, start_field, advance_first_token, of_package, imported, of_options, of_reserved}
use Rattle.proto_schema.specs.StatementReading.{of_value, of_rpc, in_oneof, filled_with, is_enum, without_first, closed_draft}
use Rattle.proto_schema.specs.StatementReading.{is_body, closes_in}
use Rattle.proto_schema.proofs.NameLemmas.{walks_in, FullGoes, full_reads, is_name}
use Rattle.proto_schema.proofs.OptionReads.{OptionGoes, OptionReads, option_reads}
use Rattle.proto_schema.proofs.Takes.{Takes, last, next, walk_takes, takes_in}
use Rattle.proto_schema.proofs.FieldReads.{FieldGoes, FieldEnds, FieldTakes, field_takes}
use Rattle.proto_schema.proofs.RpcReads.{RpcGoes, RpcEnds, RpcReads, rpc_reads, head_reads, semicolon_ends, brace_ends}
use Rattle.proto_schema.proofs.ValueReads.{ValueGoes, ValueEnds, value_takes, ReservedGoes, ReservedEnds, ReservedTakes, start_ranges, start_names}
use Rattle.proto_schema.proofs.ValueRest.{value_of}
use Rattle.proto_schema.proofs.ReservedRest.{Kept}
use Rattle.proto_schema.proofs.StatementRest.{said_of}
use Rattle.std.proofs.lemmas.Bool.{and_right}
use Rattle.proto_schema.proofs.BeginRest.{no_block_field}
use Rattle.proto_schema.proofs.RunRest.{not_deep}
use Rattle.proto_ast.specs.declared.file.Number.{Number}
use Rattle.proto_ast.specs.declared.file.Range.{Range}
use Rattle.proto_ast.specs.declared.file.Import.{Import}
use Rattle.proto_ast.specs.declared.file.FieldLabel.{FieldLabel}
use Rattle.proto_ast.specs.declared.file.FieldLabel.TheVariants as labels
use Rattle.proto_ast.specs.declared.file.FieldType.{FieldType}
use Rattle.proto_ast.specs.declared.file.FieldDecl.{FieldDecl}
use Rattle.proto_ast.specs.declared.file.ValueDecl.{ValueDecl}
use Rattle.proto_ast.specs.declared.file.RpcDecl.{RpcDecl}
use Rattle.proto_grammar.specs.declared.name.NameState.{NameState}
use Rattle.proto_grammar.specs.declared.name.NameState.TheVariants as names
use Rattle.proto_grammar.specs.declared.option.OptionState.{OptionState}
use Rattle.proto_grammar.specs.declared.option.OptionStep.TheVariants as option_steps
use Rattle.proto_grammar.specs.declared.field.FieldState.{FieldState}
use Rattle.proto_grammar.specs.declared.field.FieldState.TheVariants as fields
use Rattle.proto_grammar.specs.declared.value.ValueState.{ValueState}
use Rattle.proto_grammar.specs.declared.value.ValueState.TheVariants as values
use Rattle.proto_grammar.specs.declared.rpc.RpcState.{RpcState}
use Rattle.proto_grammar.specs.declared.rpc.RpcState.TheVariants as rpcs
use Rattle.proto_grammar.specs.declared.reserved.ReservedState.{ReservedState}
use Rattle.proto_grammar.specs.declared.reserved.ReservedPart.TheVariants as parts
use Rattle.proto_schema.specs.declared.statement.StatementPlace.{StatementPlace}
use Rattle.proto_schema.specs.declared.statement.StatementPlace.TheVariants as places

-- ---- the tokens of a statement

abbrev pub StepGoes : StatementPlace → StatementState → Lexeme → StatementState → Type 0
StepGoes p s x t = advance_statement p s x ≡ Ok (steps.More t)

abbrev pub StepEnds : StatementPlace → StatementState → Lexeme → StatementEffect → Type 0
StepEnds p s x v = advance_statement p s x ≡ Ok (steps.Done v)

abbrev pub StepTakes : StatementPlace → StatementState → List Lexeme → StatementEffect → Type 0
StepTakes p s ys v = Takes (StepGoes p) (StepEnds p) s ys v

-- it opens no message
abbrev pub Shallow : StatementEffect → Type 0
Shallow said.Nothing = Unit {0}
Shallow (said.Package w) = Unit {0}
Shallow (said.Import i) = Unit {0}
Shallow (said.Open openings.Message w) = ⊥
Shallow (said.Open openings.Enum w) = Unit {0}
Shallow (said.Open openings.Service w) = Unit {0}
Shallow (said.Open openings.Oneof w) = Unit {0}
Shallow (said.Field f) = Unit {0}
Shallow (said.Ranges rs) = Unit {0}
Shallow (said.Names ws) = Unit {0}
Shallow (said.Value v) = Unit {0}
Shallow (said.Rpc r block) = Unit {0}
Shallow said.Close = Unit {0}

-- it opens no message, or `{` is its last token
pub data ShallowOr (v : StatementEffect) (all : List Lexeme) : Type 0 where
  is_shallow : Shallow v → ShallowOr v all
  opens_message : (front : List Lexeme) (z : Lexeme) (w : Word) → v ≡ said.Open openings.Message w
      → IsPunctuator z opening_brace → all ≡ front ++ z ∷ [] → ShallowOr v all

shallow_or : (v : StatementEffect) (all : List Lexeme) → Shallow v → ShallowOr v all
shallow_or v all k = is_shallow k

-- the tokens are read as a statement that leads to this draft
pub data StatementReads (d : Draft) (all : List Lexeme) (e : Draft) : Type 0 where
  statement_reads : (v : StatementEffect) → ShallowOr v all → StepTakes (statement_place d) states.Begin all v → draft_with d v ≡ e
      → StatementReads d all e

-- ---- where a statement is

pub in_file : (d : Draft) → IsAtFileLevel d → statement_place d ≡ places.File (is_some d.file.package)
in_file d h = ap (λ (b : OpenBlock). place_with b d.messages d.file.package) h.0 ∙ ap (λ (ms : List ℕ). place_with no_block ms d.file.package) h.1

pub in_message : (d : Draft) → Files.IsAtMessageLevel d → statement_place d ≡ places.Message
in_message d h = ap (λ (b : OpenBlock). place_with b d.messages d.file.package) h.0 ∙ by d.messages h.1
  where
    by : (ms : List ℕ) → ms ≢ [] → place_with no_block ms d.file.package ≡ places.Message
    by [] n = absurd (n refl)
    by (i ∷ is) n = refl

pub in_block : (d : Draft) (b : OpenBlock) → d.block ≡ b → statement_place d ≡ place_with b d.messages d.file.package
in_block d b h = ap (λ (b : OpenBlock). place_with b d.messages d.file.package) h

body_place : (d : Draft) → Files.IsOutsideBlocks d → is_body (statement_place d) ≡ true
body_place d h = ap is_body (in_block d no_block h) ∙ by d.messages
  where
    by : (ms : List ℕ) → is_body (place_with no_block ms d.file.package) ≡ true
    by [] = refl
    by (i ∷ is) = refl

-- ---- statements that start with a keyword

package_word : (x : Lexeme) → IsWord x (codes "package")
    → StepGoes (places.File false) states.Begin x (states.Package names.Start)
unfolding advance_statement
package_word x h = rw h refl

pub import_word : (p : Bool) (x : Lexeme) → IsWord x (codes "import")
    → StepGoes (places.File p) states.Begin x (states.Import false)
unfolding advance_statement
import_word true x h = rw h refl
import_word false x h = rw h refl

option_word : (p : StatementPlace) (x : Lexeme) → IsWord x (codes "option")
    → StepGoes p states.Begin x (states.Option next_option)
unfolding advance_statement
option_word p x h = rw h refl

message_word : (d : Draft) (x : Lexeme) → Files.IsOutsideBlocks d → IsWord x (codes "message")
    → StepGoes (statement_place d) states.Begin x (states.Opening openings.Message)
unfolding advance_statement
message_word d x b h = subst (λ (p : StatementPlace). StepGoes p states.Begin x (states.Opening openings.Message)) (sym (in_block d no_block b)) (by d.messages (is_some d.file.package))
  where
    by : (ms : List ℕ) (k : Bool)
        → StepGoes (place_with no_block ms d.file.package) states.Begin x (states.Opening openings.Message)
    by [] k = rw h refl
    by (i ∷ is) k = rw h refl

enum_word : (d : Draft) (x : Lexeme) → Files.IsOutsideBlocks d → IsWord x (codes "enum")
    → StepGoes (statement_place d) states.Begin x (states.Opening openings.Enum)
unfolding advance_statement
enum_word d x b h = subst (λ (p : StatementPlace). StepGoes p states.Begin x (states.Opening openings.Enum)) (sym (in_block d no_block b)) (by d.messages)
  where
    by : (ms : List ℕ) → StepGoes (place_with no_block ms d.file.package) states.Begin x (states.Opening openings.Enum)
    by [] = rw h refl
    by (i ∷ is) = rw h refl

service_word : (p : Bool) (x : Lexeme) → IsWord x (codes "service")
    → StepGoes (places.File p) states.Begin x (states.Opening openings.Service)
unfolding advance_statement
service_word p x h = rw h refl

oneof_word : (x : Lexeme) → IsWord x (codes "oneof")
    → StepGoes places.Message states.Begin x (states.Opening openings.Oneof)
unfolding advance_statement
oneof_word x h = rw h refl

reserved_word : (x : Lexeme) → IsWord x (codes "reserved") → StepGoes places.Message states.Begin x (states.Reserved (record { signed = false; part = parts.Start }))
unfolding advance_statement
reserved_word x h = rw h refl

reserved_in_enum : (filled : Bool) (x : Lexeme) → IsWord x (codes "reserved")
    → StepGoes (places.Enum filled) states.Begin x (states.Reserved (record { signed = true; part = parts.Start }))
unfolding advance_statement
reserved_in_enum filled x h = rw h refl

pub optional_word : (x : Lexeme) → IsWord x (codes "optional")
    → StepGoes places.Message states.Begin x (states.Field (fields.Type labels.Optional names.Start))
unfolding advance_statement
optional_word x h = rw h refl

pub repeated_word : (x : Lexeme) → IsWord x (codes "repeated")
    → StepGoes places.Message states.Begin x (states.Field (fields.Type labels.Repeated names.Start))
unfolding advance_statement
repeated_word x h = rw h refl

pub rpc_word : (x : Lexeme) → IsWord x (codes "rpc") → StepGoes places.Service states.Begin x (states.Rpc rpcs.Start)
unfolding advance_statement
rpc_word x h = rw h refl

pub value_word : (filled : Bool) (x : Lexeme) (n : List ℕ) → IsWord x n → bytes_eq n (codes "option") ≡ false
    → bytes_eq n (codes "reserved") ≡ false
    → StepGoes (places.Enum filled) states.Begin x (states.Value (values.Named (make_word n x.span)))
unfolding advance_statement
value_word filled x n h o r = rw h (rw (o, r) refl)

-- ---- further tokens

pub in_package : (p : StatementPlace) (s t : NameState) (x : Lexeme) → FullGoes s x t
    → StepGoes p (states.Package s) x (states.Package t)
unfolding advance_statement
in_package p s t x h = ap (of_package x) h

pub package_ends : (p : StatementPlace) (w : Word) (x : Lexeme) → IsPunctuator x semicolon
    → StepEnds p (states.Package (names.Part w)) x (said.Package w)
unfolding advance_statement advance_full_name
package_ends p w x h = rw h refl

pub import_path : (p : StatementPlace) (public : Bool) (x : Lexeme) (path : List ℕ) → x.means ≡ string path
    → StepGoes p (states.Import public) x (states.Imported (imported public path x.span))
unfolding advance_statement
import_path p public x path h = rw h refl

import_public : (p : StatementPlace) (x : Lexeme) → IsWord x (codes "public")
    → StepGoes p (states.Import false) x (states.Import true)
unfolding advance_statement
import_public p x h = rw h refl

pub import_ends : (p : StatementPlace) (i : Import) (x : Lexeme) → IsPunctuator x semicolon
    → StepEnds p (states.Imported i) x (said.Import i)
unfolding advance_statement
import_ends p i x h = rw h refl

pub in_option : (p : StatementPlace) (s t : OptionState) (x : Lexeme) → OptionGoes s x t
    → StepGoes p (states.Option s) x (states.Option t)
unfolding advance_statement
in_option p s t x h = ap (of_options x) h

pub option_ends : (p : StatementPlace) (s : OptionState) (b : Option Bool) (x : Lexeme)
    → advance_option s x ≡ Ok (option_steps.Whole b) → IsPunctuator x semicolon → StepEnds p (states.Option s) x said.Nothing
unfolding advance_statement
option_ends p s b x e h = ap (of_options x) e ∙ rw h refl

pub opening_name : (p : StatementPlace) (o : Opening) (x : Lexeme) (n : List ℕ) → IsWord x n
    → StepGoes p (states.Opening o) x (states.Opened o (make_word n x.span))
unfolding advance_statement
opening_name p o x n h = is_name x (λ n. steps.More (states.Opened o (make_word n x.span))) n h

pub opened_ends : (p : StatementPlace) (o : Opening) (w : Word) (x : Lexeme) → IsPunctuator x opening_brace
    → StepEnds p (states.Opened o w) x (said.Open o w)
unfolding advance_statement
opened_ends p o w x h = rw h refl

pub in_field : (p : StatementPlace) (s t : FieldState) (x : Lexeme) → FieldGoes s x t
    → StepGoes p (states.Field s) x (states.Field t)
unfolding advance_statement
in_field p s t x h = ap of_field h

pub field_ends : (p : StatementPlace) (s : FieldState) (f : FieldDecl) (x : Lexeme) → FieldEnds s x f
    → StepEnds p (states.Field s) x (said.Field f)
unfolding advance_statement
field_ends p s f x h = ap of_field h

pub in_reserved : (p : StatementPlace) (s t : ReservedState) (x : Lexeme) → ReservedGoes s x t
    → StepGoes p (states.Reserved s) x (states.Reserved t)
unfolding advance_statement
in_reserved p s t x h = ap of_reserved h

pub reserved_ends : (p : StatementPlace) (s : ReservedState) (out : Kept) (x : Lexeme) → ReservedEnds s x out
    → StepEnds p (states.Reserved s) x (said_of out)
unfolding advance_statement
reserved_ends p s (inl rs) x h = ap of_reserved h
reserved_ends p s (inr ws) x h = ap of_reserved h

pub in_value : (p : StatementPlace) (s t : ValueState) (x : Lexeme) → ValueGoes s x t
    → StepGoes p (states.Value s) x (states.Value t)
unfolding advance_statement
in_value p s t x h = ap of_value h

pub value_ends : (p : StatementPlace) (s : ValueState) (v : ValueDecl) (x : Lexeme) → ValueEnds s x v
    → StepEnds p (states.Value s) x (said.Value v)
unfolding advance_statement
value_ends p s v x h = ap of_value h

pub in_rpc : (p : StatementPlace) (s t : RpcState) (x : Lexeme) → RpcGoes s x t → StepGoes p (states.Rpc s) x (states.Rpc t)
unfolding advance_statement
in_rpc p s t x h = ap of_rpc h

pub rpc_ends : (p : StatementPlace) (s : RpcState) (r : RpcDecl) (block : Bool) (x : Lexeme) → RpcEnds s x (r, block)
    → StepEnds p (states.Rpc s) x (said.Rpc r block)
unfolding advance_statement
rpc_ends p s r block x h = ap of_rpc h

-- ---- a field without a label

-- a token that starts a field: a name other than these words, or a dot
pub data Leads (words : List (List ℕ)) (x : Lexeme) : Type 0 where
  by_word : (n : List ℕ) → IsWord x n → is_one_of_words x words ≡ false → Leads words x
  by_dot : IsPunctuator x dot → Leads words x

pub data FirstToken (words : List (List ℕ)) (ts : List Lexeme) : Type 0 where
  first_token : (x : Lexeme) (l : List Lexeme) → Leads words x → ts ≡ x ∷ l → FirstToken words ts

first_of_key : (words : List (List ℕ)) {ks : List Lexeme} {k : Word}
    → ((x : Lexeme) → IsWord x (codes "map") → is_one_of_words x words ≡ false) → IsMapKey ks k → FirstToken words ks
first_of_key words m (map_key x y z {ys = ys} hx hy t g c e) = first_token x (y ∷ ys ++ z ∷ []) (by_word (codes "map") hx (m x hx)) e

first_behind : (words : List (List ℕ)) (ks l all : List Lexeme) → FirstToken words ks → all ≡ ks ++ l
    → FirstToken words all
first_behind words ks l all (first_token x r s e) a = first_token x (r ++ l) s (a ∙ ap (λ (q : List Lexeme). q ++ l) e)

first_of_type : (words : List (List ℕ)) {ts : List Lexeme} {kind : FieldType}
    → ((x : Lexeme) → IsWord x (codes "map") → is_one_of_words x words ≡ false) → IsFieldType words ts kind
    → FirstToken words ts
first_of_type words m (named (relative (one x n h)) b) = first_token x [] (by_word n h b) refl
first_of_type words m (named (relative (further x y n zs w h d f)) b) = first_token x (y ∷ zs) (by_word n h b) refl
first_of_type words m (named (absolute x {ys = ys} h f) b) = first_token x ys (by_dot h) refl
first_of_type words {ts = ts} m (a_map x {ks = ks} {ys = ys} k t g h e) = first_behind words ks (ys ++ x ∷ []) ts (first_of_key words m k) (e ∙ append_assoc ks ys (x ∷ []))
first_of_type words {ts = ts} m (map_of_maps x {ks = ks} {ys = ys} k n h e) = first_behind words ks (ys ++ x ∷ []) ts (first_of_key words m k) (e ∙ append_assoc ks ys (x ∷ []))

pub map_no_member : (x : Lexeme) → IsWord x (codes "map") → is_one_of_words x member_words ≡ false
map_no_member x h = rw h refl

pub map_no_statement : (x : Lexeme) → IsWord x (codes "map") → is_one_of_words x statement_words ≡ false
map_no_statement x h = rw h refl

-- a type that starts with none of several words starts with none of the last ones
narrow : (words : List (List ℕ)) → ((x : Lexeme) → is_one_of_words x words ≡ false → is_one_of_words x group_word ≡ false)
    → (ts : List Lexeme) (kind : FieldType) → IsFieldType words ts kind → IsFieldType group_word ts kind
narrow words h ts kind (named t b) = named t (by ts b)
  where
    by : (ts : List Lexeme) → starts_with_word words ts ≡ false → starts_with_word group_word ts ≡ false
    by [] b = refl
    by (x ∷ l) b = h x b
narrow words h ts kind (a_map x k t g m e) = a_map x k t g m e
narrow words h ts kind (map_of_maps x k n m e) = map_of_maps x k n m e

rest_false : (a b : Bool) → (a || b) ≡ false → b ≡ false
rest_false a b h = (or_parts a b h).1

left_false : (a b : Bool) → (a || b) ≡ false → a ≡ false
left_false a b h = (or_parts a b h).0

member_group : (x : Lexeme) → is_one_of_words x member_words ≡ false → is_one_of_words x group_word ≡ false
member_group x h = rest_false (is_the_word x.means (codes "option")) (is_one_of_words x group_word) h

-- properties of a name that is no keyword of a statement
record NoStatement (n : List ℕ) : Type 0 where
  no_message : bytes_eq n (codes "message") ≡ false
  no_enum : bytes_eq n (codes "enum") ≡ false
  no_oneof : bytes_eq n (codes "oneof") ≡ false
  no_reserved : bytes_eq n (codes "reserved") ≡ false
  no_extend : bytes_eq n (codes "extend") ≡ false
  no_extensions : bytes_eq n (codes "extensions") ≡ false
  no_optional : bytes_eq n (codes "optional") ≡ false
  no_repeated : bytes_eq n (codes "repeated") ≡ false
  no_option : bytes_eq n (codes "option") ≡ false

abbrev any_of : List ℕ → List (List ℕ) → Bool
any_of n [] = false
any_of n (w ∷ ws) = bytes_eq n w || any_of n ws

no_statement : (n : List ℕ) → any_of n statement_words ≡ false → NoStatement n
no_statement n h0 =
    let h1 : any_of n (codes "enum" ∷ codes "oneof" ∷ codes "reserved" ∷ codes "extend" ∷ codes "extensions"
    ∷ codes "optional" ∷ codes "repeated" ∷ member_words) ≡ false =
    rest_false (bytes_eq n (codes "message")) _ h0 in
    let h2 : any_of n (codes "oneof" ∷ codes "reserved" ∷ codes "extend" ∷ codes "extensions" ∷ codes "optional"
    ∷ codes "repeated" ∷ member_words) ≡ false = rest_false (bytes_eq n (codes "enum")) _ h1 in
    let h3 : any_of n (codes "reserved" ∷ codes "extend" ∷ codes "extensions" ∷ codes "optional" ∷ codes "repeated"
    ∷ member_words) ≡ false = rest_false (bytes_eq n (codes "oneof")) _ h2 in
    let h4 : any_of n (codes "extend" ∷ codes "extensions" ∷ codes "optional" ∷ codes "repeated" ∷ member_words) ≡ false = rest_false (bytes_eq n (codes "reserved")) _ h3 in
    let h5 : any_of n (codes "extensions" ∷ codes "optional" ∷ codes "repeated" ∷ member_words) ≡ false = rest_false (bytes_eq n (codes "extend")) _ h4 in
    let h6 : any_of n (codes "optional" ∷ codes "repeated" ∷ member_words) ≡ false = rest_false (bytes_eq n (codes "extensions")) _ h5 in
    let h7 : any_of n (codes "repeated" ∷ member_words) ≡ false = rest_false (bytes_eq n (codes "optional")) _ h6 in
    let h8 : any_of n member_words ≡ false = rest_false (bytes_eq n (codes "repeated")) _ h7 in
    record {
      no_message = left_false (bytes_eq n (codes "message")) _ h0;
      no_enum = left_false (bytes_eq n (codes "enum")) _ h1;
      no_oneof = left_false (bytes_eq n (codes "oneof")) _ h2;
      no_reserved = left_false (bytes_eq n (codes "reserved")) _ h3;
      no_extend = left_false (bytes_eq n (codes "extend")) _ h4;
      no_extensions = left_false (bytes_eq n (codes "extensions")) _ h5;
      no_optional = left_false (bytes_eq n (codes "optional")) _ h6;
      no_repeated = left_false (bytes_eq n (codes "repeated")) _ h7;
      no_option = left_false (bytes_eq n (codes "option")) _ h8;
    }

statement_group : (x : Lexeme) → is_one_of_words x statement_words ≡ false → is_one_of_words x group_word ≡ false
statement_group x h =
    member_group x (rest_false (is_the_word x.means (codes "repeated")) _
    (rest_false (is_the_word x.means (codes "optional")) _
    (rest_false (is_the_word x.means (codes "extensions")) _ (rest_false (is_the_word x.means (codes "extend")) _
    (rest_false (is_the_word x.means (codes "reserved")) _
    (rest_false (is_the_word x.means (codes "oneof")) _
    (rest_false (is_the_word x.means (codes "enum")) _ (rest_false (is_the_word x.means (codes "message")) _ h))))))))

message_field : (x : Lexeme) (n : List ℕ) → NoStatement n → advance_first_token places.Message x (identifier n) ≡ start_field x
message_field x n h =
    rw (h.no_option, h.no_message, h.no_enum, h.no_oneof, h.no_extend, h.no_extensions, h.no_reserved, h.no_optional, h.no_repeated) refl

oneof_field : (filled : Bool) (x : Lexeme) (n : List ℕ) → bytes_eq n (codes "option") ≡ false
    → advance_first_token (places.Oneof filled) x (identifier n) ≡ start_field x
oneof_field filled x n h = rw h refl

pub message_leads : (x : Lexeme) → Leads statement_words x → advance_statement places.Message states.Begin x ≡ start_field x
unfolding advance_statement
message_leads x (by_word n h s) = ap (advance_first_token places.Message x) h ∙ message_field x n (no_statement n (rw h at s))
message_leads x (by_dot h) = ap (advance_first_token places.Message x) h ∙ refl

pub oneof_leads : (filled : Bool) (x : Lexeme) → Leads member_words x
    → advance_statement (places.Oneof filled) states.Begin x ≡ start_field x
unfolding advance_statement
oneof_leads filled x (by_word n h s) =
    ap (advance_first_token (places.Oneof filled) x) h ∙ oneof_field filled x n (let g : any_of n member_words ≡ false = rw h at s in left_false (bytes_eq n (codes "option")) _ g)
oneof_leads filled x (by_dot h) = ap (advance_first_token (places.Oneof filled) x) h ∙ refl

-- a first token that starts a field
pub field_first : (p : StatementPlace) (x : Lexeme) (l : List Lexeme) (f : FieldDecl)
    → advance_statement p states.Begin x ≡ start_field x → FieldTakes (fields.Type labels.Plain names.Start) (x ∷ l) f
    → StepTakes p states.Begin (x ∷ l) (said.Field f)
field_first p x l f h (last y k) = last y (h ∙ ap of_field k)
field_first p x l f h (next y {t = t} k w) =
    next y (h ∙ ap of_field k) (takes_in FieldGoes FieldEnds (StepGoes p) (StepEnds p) (λ s. states.Field s) (λ f. said.Field f) (in_field p) (field_ends p) w)

-- ---- what a statement declares

-- in a known place
at_place : (d : Draft) (p : StatementPlace) {ys : List Lexeme} (v : StatementEffect) {e : Draft} → Shallow v → statement_place d ≡ p
    → StepTakes p states.Begin ys v → draft_with d v ≡ e → StatementReads d ys e
at_place d p {ys = ys} v k h t q = statement_reads v (shallow_or v ys k) (subst (λ (p : StatementPlace). StepTakes p states.Begin ys v) (sym h) t) q

open_takes : (p : StatementPlace) (o : Opening) (x y z : Lexeme) (n : List ℕ) → StepGoes p states.Begin x (states.Opening o)
    → IsWord y n → IsPunctuator z opening_brace → StepTakes p states.Begin (x ∷ y ∷ z ∷ []) (said.Open o (make_word n y.span))
open_takes p o x y z n g h m = next x g (next y (opening_name p o y n h) (last z (opened_ends p o (make_word n y.span) z m)))

pub closing : (p : StatementPlace) (x : Lexeme) → IsPunctuator x closing_brace → closes_in p ≡ true
    → StepEnds p states.Begin x said.Close
unfolding advance_statement
closing p x h c = rw h (rw c refl)

close_reads : {d e : Draft} (x : Lexeme) → IsPunctuator x closing_brace → IsBlockEnd d e → StatementReads d (x ∷ []) e
close_reads {d = d} x h (Files.message_ends i is e f) =
    at_place d places.Message said.Close tt (in_message d (e, λ q. let t : ◌≡◌ {A = List ℕ} (i ∷ is) [] = sym f ∙ q in cc)) (last x (closing places.Message x h refl))
    (ap (λ (b : OpenBlock). closed_draft d b) e ∙ ap (λ (l : List ℕ). record { file = d.file; messages = without_first l; block = no_block }) f)
close_reads {d = d} x h (Files.oneof_ends i e) =
    at_place d (places.Oneof true) said.Close tt (in_block d (a_oneof i true) e)
    (last x (closing (places.Oneof true) x h refl)) (ap (λ (b : OpenBlock). closed_draft d b) e)
close_reads {d = d} x h (Files.enum_ends e) =
    at_place d (places.Enum true) said.Close tt (in_block d (an_enum true) e)
    (last x (closing (places.Enum true) x h refl)) (ap (λ (b : OpenBlock). closed_draft d b) e)
close_reads {d = d} x h (Files.service_ends e) = at_place d places.Service said.Close tt (in_block d a_service e)
    (last x (closing places.Service x h refl)) (ap (λ (b : OpenBlock). closed_draft d b) e)
close_reads {d = d} x h (Files.rpc_ends e) = at_place d places.Rpc said.Close tt (in_block d an_rpc e) (last x (closing places.Rpc x h refl)) (ap (λ (b : OpenBlock). closed_draft d b) e)

empty_ends : (p : StatementPlace) (x : Lexeme) → IsPunctuator x semicolon → is_body p ≡ true → StepEnds p states.Begin x said.Nothing
unfolding advance_statement
empty_ends p x h c = rw h (rw c refl)

reserved_takes : (p : StatementPlace) (s : ReservedState) (out : Kept) {ys : List Lexeme} → ReservedTakes s ys out
    → StepTakes p (states.Reserved s) ys (said_of out)
reserved_takes p s out t = takes_in ReservedGoes ReservedEnds (StepGoes p) (StepEnds p) (λ s. states.Reserved s) said_of (in_reserved p) (reserved_ends p) t

field_in_message : (d : Draft) {ls ts es all : List Lexeme} {label : FieldLabel} {words : List
    (List ℕ)} {kind : FieldType} {name : Word} {number : Number} {packed : Option Bool} → Files.IsAtMessageLevel d
    → IsFieldLabel ls label words → IsFieldType words ts kind → IsFieldEnd es name number packed
    → all ≡ ls ++ ts ++ es → StatementReads d all (Files.add_field d (make_field name number kind label None packed))
field_in_message d {ts = ts} {es = es} {all = all} {kind = kind} {name = name} {number = num} {packed = packed} m plain k e a = by (first_of_type statement_words map_no_statement k)
  where
    by : FirstToken statement_words ts
        → StatementReads d all (Files.add_field d (make_field name num kind labels.Plain None packed))
    by (first_token x l s q) =
        let t : FieldTakes (fields.Type labels.Plain names.Start) (ts ++ es)
        (make_field name num kind labels.Plain None packed) =
        field_takes labels.Plain (narrow statement_words statement_group ts kind k) e in
        let r : ts ++ es ≡ x ∷ l ++ es = ap (λ (z : List Lexeme). z ++ es) q in
        let u : FieldTakes (fields.Type labels.Plain names.Start) (x ∷ l ++ es) (make_field name num kind labels.Plain None packed) = rw r at t in
        rw (a ∙ r) (at_place d places.Message (said.Field (make_field name num kind labels.Plain None packed)) tt
        (in_message d m) (field_first places.Message x (l ++ es) (make_field name num kind labels.Plain None packed)
        (message_leads x s) u) (no_block_field d (make_field name num kind labels.Plain None packed) m.0))
field_in_message d {ts = ts} {es = es} {kind = kind} {name = name} {number = num} {packed = packed} m (optional x h) k e a =
    let f : FieldDecl = make_field name num kind labels.Optional None packed in
    rw a (at_place d places.Message (said.Field f) tt (in_message d m)
    (next x (optional_word x h) (takes_in FieldGoes FieldEnds (StepGoes places.Message) (StepEnds places.Message)
    (λ s. states.Field s) (λ f. said.Field f) (in_field places.Message) (field_ends places.Message)
    (field_takes labels.Optional k e))) (no_block_field d f m.0))
field_in_message d {ts = ts} {es = es} {kind = kind} {name = name} {number = num} {packed = packed} m (repeated x h) k e a =
    let f : FieldDecl = make_field name num kind labels.Repeated None packed in
    rw a (at_place d places.Message (said.Field f) tt (in_message d m)
    (next x (repeated_word x h) (takes_in FieldGoes FieldEnds (StepGoes places.Message) (StepEnds places.Message)
    (λ s. states.Field s) (λ f. said.Field f) (in_field places.Message) (field_ends places.Message)
    (field_takes labels.Repeated k e))) (no_block_field d f m.0))

member_reads : (d : Draft) (i : ℕ)
    (filled : Bool) {ts es all : List Lexeme} {kind : FieldType} {name : Word} {number : Number} {packed : Option Bool}
    → d.block ≡ a_oneof i filled → IsFieldType member_words ts kind → IsFieldEnd es name number packed
    → all ≡ ts ++ es → StatementReads d all (Files.with_block (Files.add_field d (make_field name number kind labels.Plain (Some i) packed)) (a_oneof i true))
member_reads d i filled {ts = ts} {es = es} {all = all} {kind = kind} {name = name} {number = num} {packed = packed} m k e a = by (first_of_type member_words map_no_member k)
  where
    by : FirstToken member_words ts → StatementReads d all (Files.with_block (Files.add_field d (make_field name num kind labels.Plain (Some i) packed)) (a_oneof i true))
    by (first_token x l s q) =
        let t : FieldTakes (fields.Type labels.Plain names.Start) (ts ++ es)
        (make_field name num kind labels.Plain None packed) =
        field_takes labels.Plain (narrow member_words member_group ts kind k) e in
        let r : ts ++ es ≡ x ∷ l ++ es = ap (λ (z : List Lexeme). z ++ es) q in
        let u : FieldTakes (fields.Type labels.Plain names.Start) (x ∷ l ++ es) (make_field name num kind labels.Plain None packed) = rw r at t in
        rw (a ∙ r) (at_place d (places.Oneof filled) (said.Field (make_field name num kind labels.Plain None packed)) tt
        (in_block d (a_oneof i filled) m)
        (field_first (places.Oneof filled) x (l ++ es) (make_field name num kind labels.Plain None packed)
        (oneof_leads filled x s) u)
        (ap (λ (b : OpenBlock). Files.with_block (Files.add_field d (in_oneof b (make_field name num kind labels.Plain None packed))) (filled_with b)) m))

value_reads : (d : Draft) (x y z : Lexeme) (n : List ℕ)
    (filled : Bool) {ns os all : List Lexeme} {number : Number} {packed : Option Bool} → d.block ≡ an_enum filled
    → IsWord x n → starts_with_word (codes "option" ∷ codes "reserved" ∷ []) all ≡ false → IsPunctuator y equals
    → IsNumberToken true ns number → AreFieldOptions os packed
    → IsPunctuator z semicolon → all ≡ x ∷ y ∷ ns ++ os ++ z ∷ []
    → StatementReads d all
    (Files.with_block
    (Files.in_enum d (λ e. record e {
      values = e.values ++ record { name = make_word n x.span; number = number }
          ∷ [];
    })) (an_enum true))
value_reads d x y z n filled {ns = ns} {os = os} {number = num} m h b e k o s a =
    let g : any_of n (codes "option" ∷ codes "reserved" ∷ []) ≡ false = rw h at (rw a at b) in
    let p : StatementPlace = places.Enum filled in
    rw a (at_place d p (said.Value (value_of (make_word n x.span) num)) tt (in_block d (an_enum filled) m)
    (next x (value_word filled x n h (left_false (bytes_eq n (codes "option")) _ g) (left_false (bytes_eq n (codes "reserved")) _ (rest_false (bytes_eq n (codes "option")) _ g)))
    (takes_in ValueGoes ValueEnds (StepGoes p) (StepEnds p) (λ s. states.Value s) (λ v. said.Value v) (in_value p) (value_ends p) (value_takes (make_word n x.span) y z e k o s))) refl)

rpc_takes : (z : Lexeme) {ys : List Lexeme} {r : RpcDecl} (block : Bool) → RpcReads ys r
    → RpcEnds (rpcs.End r) z (r, block) → StepTakes places.Service states.Begin (ys ++ z ∷ []) (said.Rpc r block)
rpc_takes z {r = r} block (rpc_reads x {ys = us} h w e) k =
    rw e (next x (rpc_word x h) (walk_takes (StepGoes places.Service) (StepEnds places.Service) (z ∷ [])
    (walks_in RpcGoes (StepGoes places.Service) (λ s. states.Rpc s) (in_rpc places.Service) w)
    (last z (rpc_ends places.Service (rpcs.End r) r block z k))))

in_enum_ranges : (d : Draft) (filled : Bool) (rs : List Range) → d.block ≡ an_enum filled → draft_with d (said.Ranges rs) ≡ Files.in_enum d (λ e. record e { ranges = e.ranges ++ rs })
in_enum_ranges d filled rs m =
    ap (λ (b : OpenBlock). if is_enum b then Files.in_enum d (λ e. record e { ranges = e.ranges ++ rs })
    else Files.in_message d (λ m. record m { ranges = m.ranges ++ rs })) m

in_enum_names : (d : Draft) (filled : Bool) (ws : List Word) → d.block ≡ an_enum filled → draft_with d (said.Names ws) ≡ Files.in_enum d (λ e. record e { names = e.names ++ ws })
in_enum_names d filled ws m =
    ap (λ (b : OpenBlock). if is_enum b then Files.in_enum d (λ e. record e { names = e.names ++ ws })
    else Files.in_message d (λ m. record m { names = m.names ++ ws })) m

in_message_ranges : (d : Draft) (rs : List Range) → d.block ≡ no_block → draft_with d (said.Ranges rs) ≡ Files.in_message d (λ m. record m { ranges = m.ranges ++ rs })
in_message_ranges d rs m =
    ap (λ (b : OpenBlock). if is_enum b then Files.in_enum d (λ e. record e { ranges = e.ranges ++ rs })
    else Files.in_message d (λ m. record m { ranges = m.ranges ++ rs })) m

in_message_names : (d : Draft) (ws : List Word) → d.block ≡ no_block → draft_with d (said.Names ws) ≡ Files.in_message d (λ m. record m { names = m.names ++ ws })
in_message_names d ws m =
    ap (λ (b : OpenBlock). if is_enum b then Files.in_enum d (λ e. record e { names = e.names ++ ws })
    else Files.in_message d (λ m. record m { names = m.names ++ ws })) m

pub statement_is_read : {d e : Draft} {all : List Lexeme} → IsStatement d all e → StatementReads d all e
statement_is_read {d = d} (Files.package_name x z {ys = ys} {w = w} i k h f m a) =
    rw a (at_place d (places.File false) (said.Package w) tt (in_file d i ∙ ap (λ (o : Option Word). places.File (is_some o)) k)
    (next x (package_word x h) (walk_takes (StepGoes (places.File false)) (StepEnds (places.File false)) (z ∷ [])
    (walks_in FullGoes (StepGoes (places.File false)) (λ s. states.Package s) (in_package (places.File false))
    (full_reads f)) (last z (package_ends (places.File false) w z m)))) refl)
statement_is_read {d = d} (Files.import x y z path i h k m a) =
    let p : StatementPlace = places.File (is_some d.file.package) in
    rw a (at_place d p (said.Import (imported false path y.span)) tt (in_file d i)
    (next x (import_word (is_some d.file.package) x h)
    (next y (import_path p false y path k) (last z (import_ends p (imported false path y.span) z m)))) refl)
statement_is_read {d = d} (Files.public_import x q y z path i h g k m a) =
    let p : StatementPlace = places.File (is_some d.file.package) in
    rw a (at_place d p (said.Import (imported true path y.span)) tt (in_file d i)
    (next x (import_word (is_some d.file.package) x h)
    (next q (import_public p q g)
    (next y (import_path p true y path k) (last z (import_ends p (imported true path y.span) z m))))) refl)
statement_is_read {d = d} (Files.option x z {ys = ys} {b = b} h o m a) =
    let r : OptionReads next_option ys b = option_reads o in
    let p : StatementPlace = statement_place d in
    rw a (statement_reads said.Nothing (is_shallow tt)
    (next x (option_word p x h)
    (walk_takes (StepGoes p) (StepEnds p) (z ∷ []) (walks_in OptionGoes (StepGoes p) (λ s. states.Option s)
    (in_option p) r.1) (last z (option_ends p r.0 b z (r.2 z semicolon m (omega arith)) m)))) refl)
statement_is_read {d = d} (Files.empty x i h a) = rw a (statement_reads said.Nothing (is_shallow tt) (last x (empty_ends (statement_place d) x h (body_place d i))) refl)
statement_is_read {d = d} (Files.message x y z n i h k m a) =
    rw a (statement_reads (said.Open openings.Message (make_word n y.span))
    (opens_message (x ∷ y ∷ []) z (make_word n y.span) refl m refl)
    (open_takes (statement_place d) openings.Message x y z n (message_word d x i h) k m) refl)
statement_is_read {d = d} (Files.enum x y z n i h k m a) =
    rw a (statement_reads (said.Open openings.Enum (make_word n y.span)) (is_shallow tt)
    (open_takes (statement_place d) openings.Enum x y z n (enum_word d x i h) k m) refl)
statement_is_read {d = d} (Files.service x y z n i h k m a) =
    let p : StatementPlace = places.File (is_some d.file.package) in
    rw a (at_place d p (said.Open openings.Service (make_word n y.span)) tt (in_file d i) (open_takes p openings.Service x y z n (service_word (is_some d.file.package) x h) k m) refl)
statement_is_read {d = d} (Files.oneof x y z n i h k m a) =
    rw a (at_place d places.Message (said.Open openings.Oneof (make_word n y.span)) tt (in_message d i) (open_takes places.Message openings.Oneof x y z n (oneof_word x h) k m) refl)
statement_is_read {d = d} (Files.a_field m l k e a) = field_in_message d m l k e a
statement_is_read {d = d} (Files.member i filled m k e a) = member_reads d i filled m k e a
statement_is_read {d = d} (Files.reserved_numbers x z {rs = rs} i h r m a) =
    rw a (at_place d places.Message (said.Ranges rs) tt (in_message d i)
    (next x (reserved_word x h) (reserved_takes places.Message (record { signed = false; part = parts.Start })
    (inl rs) (start_ranges false z r m))) (in_message_ranges d rs i.0))
statement_is_read {d = d} (Files.reserved_names x z {ws = ws} i h r m a) =
    rw a (at_place d places.Message (said.Names ws) tt (in_message d i)
    (next x (reserved_word x h) (reserved_takes places.Message (record { signed = false; part = parts.Start })
    (inr ws) (start_names false z r m))) (in_message_names d ws i.0))
statement_is_read {d = d} (Files.reserved_values x z filled {rs = rs} b h r m a) =
    rw a (at_place d (places.Enum filled) (said.Ranges rs) tt (in_block d (an_enum filled) b)
    (next x (reserved_in_enum filled x h)
    (reserved_takes (places.Enum filled) (record { signed = true; part = parts.Start }) (inl rs)
    (start_ranges true z r m))) (in_enum_ranges d filled rs b))
statement_is_read {d = d} (Files.reserved_value_names x z filled {ws = ws} b h r m a) =
    rw a (at_place d (places.Enum filled) (said.Names ws) tt (in_block d (an_enum filled) b)
    (next x (reserved_in_enum filled x h)
    (reserved_takes (places.Enum filled) (record { signed = true; part = parts.Start }) (inr ws)
    (start_names true z r m))) (in_enum_names d filled ws b))
statement_is_read {d = d} (Files.value x y z n filled b h w e k o m a) = value_reads d x y z n filled b h w e k o m a
statement_is_read {d = d} (Files.rpc z {r = r} b h m a) =
    rw a (at_place d places.Service (said.Rpc r false) tt (in_block d a_service b)
    (rpc_takes z false (head_reads h) (semicolon_ends r z m)) refl)
statement_is_read {d = d} (Files.rpc_with_options z {r = r} b h m a) =
    rw a (at_place d places.Service (said.Rpc r true) tt (in_block d a_service b)
    (rpc_takes z true (head_reads h) (brace_ends r z m)) refl)
statement_is_read {d = d} (Files.close x h a c) = rw a (close_reads x h c)

-- ---- the tokens of statements

-- the text doesn't end at a token of a statement
begin_not_over : (d : Draft) (x : Lexeme) (t : StatementStep) → advance_statement (statement_place d) states.Begin x ≡ Ok t
    → is_over d states.Begin x ≡ false
unfolding advance_statement
begin_not_over d x t h = by x.means refl
  where
    by : (m : TokenMeaning) → x.means ≡ m → (is_end m && (true && is_file (statement_place d))) ≡ false
    by (identifier n) e = refl
    by (integer n) e = refl
    by number e = refl
    by (string n) e = refl
    by (mark c) e = refl
    by none e = refl
    by the_end e = absurd (let q : ◌≡◌ {A = Result StatementStep ProtoFault} (Err (unexpected x)) (Ok t) = sym (ap (advance_first_token (statement_place d) x) e) ∙ h in cc)

pub not_over : (d : Draft) (s : StatementState) (x : Lexeme) (t : StatementStep) → advance_statement (statement_place d) s x ≡ Ok t
    → is_over d s x ≡ false
not_over d states.Begin x t h = begin_not_over d x t h
not_over d (states.Package s) x t h = and_right (is_end x.means) false refl
not_over d (states.Import s) x t h = and_right (is_end x.means) false refl
not_over d (states.Imported s) x t h = and_right (is_end x.means) false refl
not_over d (states.Option s) x t h = and_right (is_end x.means) false refl
not_over d (states.Opening s) x t h = and_right (is_end x.means) false refl
not_over d (states.Opened s w) x t h = and_right (is_end x.means) false refl
not_over d (states.Field s) x t h = and_right (is_end x.means) false refl
not_over d (states.Reserved s) x t h = and_right (is_end x.means) false refl
not_over d (states.Value s) x t h = and_right (is_end x.means) false refl
not_over d (states.Rpc s) x t h = and_right (is_end x.means) false refl

pub run_goes : (limited : Bool) (d : Draft) (s t : StatementState) (x : Lexeme) (xs : List Lexeme) → StepGoes (statement_place d) s x t
    → run limited d s (x ∷ xs) ≡ run limited d t xs
run_goes limited d s t x xs h = run_step limited d s x xs (not_over d s x (steps.More t) h) ∙ ap (λ (r : Result StatementStep ProtoFault). after_token (λ c t. run limited c t xs) limited d x r) h

pub run_ends : (limited : Bool) (d : Draft) (s : StatementState) (x : Lexeme) (v : StatementEffect) (xs : List Lexeme)
    → StepEnds (statement_place d) s x v → is_too_deep limited d v ≡ false
    → run limited d s (x ∷ xs) ≡ run limited (draft_with d v) states.Begin xs
run_ends limited d s x v xs h k =
    run_step limited d s x xs (not_over d s x (steps.Done v) h) ∙ (ap (λ (r : Result StatementStep ProtoFault). after_token (λ c t. run limited c t xs) limited d x r) h ∙ rw k refl)

pub run_takes : (limited : Bool) (d : Draft) {s : StatementState} {ys : List Lexeme} {v : StatementEffect} (xs : List Lexeme)
    → StepTakes (statement_place d) s ys v → is_too_deep limited d v ≡ false
    → run limited d s (ys ++ xs) ≡ run limited (draft_with d v) states.Begin xs
run_takes limited d xs (last x {s = s} {v = v} h) k = run_ends limited d s x v xs h k
run_takes limited d xs (next x {s = s} {t = t} {ys = ys} h w) k = run_goes limited d s t x (ys ++ xs) h ∙ run_takes limited d xs w k

run_statement : (d e : Draft) (ys xs : List Lexeme) → StatementReads d ys e
    → run false d states.Begin (ys ++ xs) ≡ run false e states.Begin xs
run_statement d e ys xs (statement_reads v k t q) = run_takes false d xs t (not_deep d v) ∙ ap (λ (c : Draft). run false c states.Begin xs) q

pub syntax_read : (limited : Bool) {ws : List Lexeme} (xs : List Lexeme) → IsSyntaxStatement ws
    → reading limited (ws ++ xs) ≡ run limited initial_draft states.Begin xs
syntax_read limited xs (Files.proto3 w x y z hw hx hy hz) = rw hw (rw hx (rw hy (rw hz refl)))

pub says_read : {front : List Lexeme} {d : Draft} (xs : List Lexeme) → AreStatementsOf front d
    → reading false (front ++ xs) ≡ run false d states.Begin xs
says_read xs (Files.start s) = syntax_read false xs s
says_read xs (Files.another {xs = front} {ys = ys} {all = all} {c = c} {d = d} s k e) =
    ap (λ (l : List Lexeme). reading false (l ++ xs)) e ∙ (ap (reading false) (append_assoc front ys xs) ∙ (says_read (ys ++ xs) s ∙ run_statement c d ys xs (statement_is_read k)))

pub whole_is_over : (d : Draft) (x : Lexeme) → IsComplete d → x.means ≡ the_end → is_over d states.Begin x ≡ true
whole_is_over d x w h = rw (h, in_file d w) refl

-- a complete text is read, whatever follows its end
pub forms_read : {front : List Lexeme} {file : File} (rest : List Lexeme) → AreFileTokens front file
    → reading false (front ++ rest) ≡ read file
forms_read rest (Files.whole x {xs = front} {all = all} {d = d} s w h e) =
    ap (λ (l : List Lexeme). reading false (l ++ rest)) e ∙ (ap (reading false) (append_assoc front (x ∷ []) rest)
    ∙ (says_read (x ∷ rest) s ∙ run_over false d states.Begin x rest (whole_is_over d x w h)))
