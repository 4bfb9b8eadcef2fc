-- Files that are resolved together, as if their texts were concatenated. Each kind of declaration is in one list, and
-- the offsets of a later file come after those of the earlier ones. A file alone is a special case.
use Rattle.std.specs.Prelude.{◌≡◌, ℕ, List, [], ◌∷◌, Option, Some, None, slice_get, Contains}
use Rattle.mrpc_table.specs.Names.{parts_of}
use Rattle.proto_ast.specs.declared.file.Word.{Word}
use Rattle.proto_ast.specs.declared.file.MessageDecl.{MessageDecl}
use Rattle.proto_ast.specs.declared.file.EnumDecl.{EnumDecl}
use Rattle.proto_ast.specs.declared.file.ServiceDecl.{ServiceDecl}
use Rattle.proto_ast.specs.declared.file.File.{File}
use Rattle.proto_ast.specs.declared.joined.Head.{Head}
use Rattle.proto_ast.specs.declared.joined.Enclosing.{Enclosing}
use Rattle.proto_ast.specs.declared.joined.Enclosing.TheVariants as home

pub record Joined : Type 0 where
  pub heads : List Head
  pub messages : List MessageDecl
  pub enums : List EnumDecl
  pub services : List ServiceDecl

-- a file alone, which sees itself
abbrev pub alone : File → Joined
alone F = record {
  heads = (record { «package» = F.package; sees = 0 ∷ [] }) ∷ [];
  messages = F.messages;
  enums = F.enums;
  services = F.services;
}

-- ---- what encloses a declaration

abbrev pub enclosing_in : ℕ → Option ℕ → Enclosing
enclosing_in file None = home.File file
enclosing_in file (Some i) = home.Message i

abbrev pub enclosing_of : MessageDecl → Enclosing
enclosing_of m = enclosing_in m.file m.parent

abbrev pub enclosing_of_enum : EnumDecl → Enclosing
enclosing_of_enum e = enclosing_in e.file e.parent

-- ---- files

-- the parts of a package's name; a file without one is at the root
abbrev pub package_parts : Option Word → List (List ℕ)
package_parts None = []
package_parts (Some w) = parts_of w.name

abbrev pub package_in : Option Head → List (List ℕ)
package_in None = []
package_in (Some p) = package_parts p.package

-- the package of the file with an index
abbrev pub package_at : Joined → ℕ → List (List ℕ)
package_at F file = package_in (slice_get F.heads file)

-- references in one file may name types and packages of the other
pub record CanSee (F : Joined) (file other : ℕ) : Type 0 where
  pub head : Head
  pub at : slice_get F.heads file ≡ Some head
  pub among : Contains head.sees other
