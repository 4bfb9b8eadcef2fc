-- What resolving returns.
use Rattle.std.proofs.Common.{◌≡◌, ◌∙◌, List, length, ap}
use Rattle.std.proofs.lemmas.List.Elements.{All-contains}
use Rattle.proto_ast.specs.Order.{IsIndexBelow}
use Rattle.proto_ast.specs.Together.{IsFormed}
use Rattle.proto_ast.specs.declared.file.MessageDecl.{MessageDecl}
use Rattle.proto_ast.specs.declared.file.EnumDecl.{EnumDecl}
use Rattle.proto_ast.specs.declared.file.ServiceDecl.{ServiceDecl}
use Rattle.proto_ast.specs.declared.joined.Head.{Head}
use Rattle.proto_ast.specs.declared.file.File.{File}
use Rattle.proto_ast.specs.Joined.{Joined, alone}
use Rattle.schema_symbols.specs.Numbers.{AreWellNested}
use Rattle.schema_resolve.proofs.CleanFiles.{parent_below}

pub stands_behind : (F : Joined) → IsFormed F → AreWellNested F
stands_behind F formed = record {
  messages = λ i p m at e. parent_below i p m.parent e (formed.parents i m at);
  enums = λ x p c e. parent_below (length F.messages) p x.parent e
      (All-contains (λ (y : EnumDecl). IsIndexBelow (length F.messages) y.parent) F.enums x formed.enum_parents c);
  message_files = formed.message_files;
  enum_files = formed.enum_files;
}

-- ---- a file alone

abbrev joined : List Head → List MessageDecl → List EnumDecl → List ServiceDecl → Joined
joined heads messages enums services =
    record { heads = heads; messages = messages; enums = enums; services = services }

pub is_alone : (F : File) (J : Joined) (hs : List Head) (ms : List MessageDecl) (es : List EnumDecl)
    (ss : List ServiceDecl) → J ≡ record { heads = hs; messages = ms; enums = es; services = ss }
    → hs ≡ (alone F).heads → ms ≡ F.messages → es ≡ F.enums → ss ≡ F.services → J ≡ alone F
is_alone F J hs ms es ss is h m e s =
    is ∙ ap (λ (x : List Head). joined x ms es ss) h ∙ ap (λ (x : List MessageDecl). joined (alone F).heads x es ss) m
    ∙ ap (λ (x : List EnumDecl). joined (alone F).heads F.messages x ss) e
    ∙ ap (λ (x : List ServiceDecl). joined (alone F).heads F.messages F.enums x) s
