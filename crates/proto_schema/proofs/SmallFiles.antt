-- A small file and its declarations, a small text with a fault, and files that aren't in order.
use Rattle.std.proofs.Common.{ℕ, ◌<◌, false, List, [], ◌∷◌, ◌++◌, codes, refl, arith}
use Rattle.std.specs.Prelude.{Option, Some, None}
use Rattle.mrpc_table.specs.declared.words.Decimal.TheVariants.{Small}
use Rattle.proto_grammar.specs.Lexemes.{TokenMeaning, Lexeme, identifier, integer, string, mark, the_end, make_word, make_number}
use Rattle.proto_grammar.specs.Grammar
use Rattle.proto_schema.specs.Files
use Rattle.proto_schema.specs.Files.{initial_draft}
use Rattle.proto_schema.specs.Faults
use Rattle.proto_schema.specs.Faults.{IsSpecificFault}
use Rattle.proto_ast.specs.Joined.{Joined, alone}
use Rattle.proto_ast.specs.Order
use Rattle.proto_ast.specs.Order.{IsFormed, IsOrdered, IsPartSpan, message_decl, field_decl, its_type, its_name, its_number}
use Rattle.proto_ast.specs.Together
use Rattle.proto_grammar.specs.declared.fault.ProtoReason.TheVariants as reasons
use Rattle.proto_ast.specs.declared.file.Span.{Span}
use Rattle.proto_ast.specs.declared.file.FieldLabel.TheVariants.{Plain}
use Rattle.proto_ast.specs.declared.file.FieldType.TheVariants.{Named}
use Rattle.proto_ast.specs.declared.file.FieldDecl.{FieldDecl}
use Rattle.proto_ast.specs.declared.file.MessageDecl.{MessageDecl}
use Rattle.proto_ast.specs.declared.file.File.{File}
use Rattle.proto_ast.specs.declared.file.Word.{Word}
use Rattle.proto_ast.specs.declared.joined.Head.{Head}

abbrev at : ℕ → TokenMeaning → Lexeme
at n m = record { means = m; span = record { start = n; end = n; line = 1 } }

abbrev here : ℕ → Span
here n = record { start = n; end = n; line = 1 }

-- syntax = "proto3"; message M { uint64 a = 1; }
abbrev header : List Lexeme
header = at 0 (identifier (codes "syntax")) ∷ at 1 (mark 61) ∷ at 2 (string (codes "proto3")) ∷ at 3 (mark 59) ∷ []

abbrev opens : List Lexeme
opens = at 4 (identifier (codes "message")) ∷ at 5 (identifier (codes "M")) ∷ at 6 (mark 123) ∷ []

abbrev a_field : List Lexeme
a_field = at 7 (identifier (codes "uint64")) ∷ at 8 (identifier (codes "a")) ∷ at 9 (mark 61) ∷ at 10 (integer (Small 1)) ∷ at 11 (mark 59) ∷ []

abbrev closes : List Lexeme
closes = at 12 (mark 125) ∷ []

abbrev small_says : File
small_says = record {
  «package» = None;
  imports = [];
  messages = record {
    name = make_word (codes "M") (here 5);
    file = 0;
    parent = None;
    fields = record {
      name = make_word (codes "a") (here 8);
      number = make_number false (Small 1) (here 10);
      kind = Named (make_word (codes "uint64") (here 7));
      label = Plain;
      oneof = None;
      packed = None;
    } ∷ [];
    oneofs = [];
    ranges = [];
    names = [];
  } ∷ [];
  enums = [];
  services = [];
}

pub small_file : Files.AreFileTokens (header ++ opens ++ a_field ++ closes ++ at 13 the_end ∷ []) small_says
small_file =
    Files.whole (at 13 the_end)
    (Files.another
    (Files.another
    (Files.another (Files.start (Files.proto3 _ _ _ _ refl refl refl refl))
    (Files.message (at 4 (identifier (codes "message"))) (at 5 (identifier (codes "M"))) (at 6 (mark 123))
    (codes "M") refl refl refl refl refl) refl)
    (Files.a_field (refl, λ e. absurd cc) Files.plain (Grammar.named (Grammar.relative (Grammar.one (at 7 (identifier (codes "uint64"))) (codes "uint64") refl)) refl)
    (Files.field_end (at 8 (identifier (codes "a"))) (at 9 (mark 61)) (at 11 (mark 59)) (codes "a") refl refl
    (Grammar.whole (at 10 (integer (Small 1))) (Small 1) refl) Grammar.no_options refl refl) refl) refl)
    (Files.close (at 12 (mark 125)) refl refl (Files.message_ends 0 [] refl refl)) refl)
    (refl, refl) refl refl

-- syntax = "proto3"; import x
pub small_import : IsSpecificFault (header ++ at 4 (identifier (codes "import")) ∷ at 5 (identifier (codes "x")) ∷ []) 5 reasons.Import
small_import =
    Faults.import 4 (at 4 (identifier (codes "import"))) (at 5 (identifier (codes "x"))) initial_draft refl (Files.start (Files.proto3 _ _ _ _ refl refl refl refl))
    (refl, refl) refl refl refl refl refl

-- the spans of the parts of its field
small_type : IsPartSpan small_says (here 7) (field_decl 0 0) its_type
small_type = Order.field 0 0 _ _ refl refl (Order.field_type _ refl refl)

small_number : IsPartSpan small_says (here 10) (field_decl 0 0) its_number
small_number = Order.field 0 0 _ _ refl refl (Order.field_number refl)

-- in no file a message comes before an earlier one
abbrev message_at : ℕ → MessageDecl
message_at n = record { name = make_word (codes "M") (here n); file = 0; parent = None; fields = []; oneofs = []; ranges = []; names = [] }

abbrev of_messages : List MessageDecl → File
of_messages ms = record { «package» = None; imports = []; messages = ms; enums = []; services = [] }

small_disorder : IsOrdered (of_messages (message_at 5 ∷ message_at 4 ∷ [])) → ⊥
small_disorder h =
    let l : 5 < 4 = h.ascend (message_decl 0) (message_decl 1) its_name its_name (here 5) (here 4)
    (Order.messages 0 1 (omega arith)) (Order.message 0 _ refl refl) (Order.message 1 _ refl refl) in
    omega arith

-- no field is in a oneof that its message doesn't have
abbrev member : FieldDecl
member = record {
  name = make_word (codes "a") (here 8);
  number = make_number false (Small 1) (here 10);
  kind = Named (make_word (codes "uint64") (here 7));
  label = Plain;
  oneof = Some 0;
  packed = None;
}

small_stray : IsFormed (of_messages (record (message_at 5) { fields = member ∷ [] } ∷ [])) → ⊥
small_stray h = let l : 0 < 0 = ((h.messages 0 (message_at 0) (omega arith)).fields 0 member (omega arith)).oneof in omega arith

-- ---- files that are resolved together

-- the spans of the parts of the small file's field, and their file, if it is resolved alone
small_name_alone : Together.IsPartSpan (alone small_says) (here 8) (Together.field_decl 0 0) its_name
small_name_alone = Together.field 0 0 _ _ refl refl (Order.field_name refl)

small_home : Together.IsInFile (alone small_says) 0 (Together.field_decl 0 0)
small_home = Together.in_field_of 0 0 _ refl refl

-- no file alone has a message of another file
abbrev message_of : ℕ → ℕ → MessageDecl
message_of file n = record (message_at n) { file = file }

small_other : Together.IsFormed (alone (of_messages (message_of 1 5 ∷ []))) → ⊥
small_other h = let l : 1 < 1 = h.message_files 0 (message_at 0) (omega arith) in omega arith

-- in no two files a message or the package of the later one comes before a message of the earlier one
abbrev head : Option Word → Head
head w = record { «package» = w; sees = 0 ∷ 1 ∷ [] }

abbrev two_files : Option Word → List MessageDecl → Joined
two_files w ms = record { heads = head None ∷ head w ∷ []; messages = ms; enums = []; services = [] }

small_files_mixed : Together.IsOrdered (two_files None (message_of 1 4 ∷ message_of 0 5 ∷ [])) → ⊥
small_files_mixed h =
    let l : 5 < 4 = h.files 0 1 (Together.message_decl 1) (Together.message_decl 0) its_name its_name (here 5)
    (here 4) (omega arith) (Together.in_message_of 1 _ refl refl) (Together.in_message_of 0 _ refl refl)
    (Together.message 1 _ refl refl) (Together.message 0 _ refl refl) in
    omega arith

small_late_package : Together.IsOrdered (two_files (Some (make_word (codes "p") (here 4))) (message_of 0 5 ∷ [])) → ⊥
small_late_package h =
    let l : 5 < 4 = h.files 0 1 (Together.message_decl 0) (Together.package_decl 1) its_name its_name (here 5)
    (here 4) (omega arith) (Together.in_message_of 0 _ refl refl) Together.its_package
    (Together.message 0 _ refl refl) (Together.package_name 1 _ _ refl refl refl) in
    omega arith
