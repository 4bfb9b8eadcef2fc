-- The code's own: the indices of the names of messages and enums in a table.
use Rattle.std.specs.Prelude.{◌≡◌, ℕ, ◌<◌, List, [], ◌∷◌, ◌++◌, length, map, slice_get, slice_index_or, Some, All, Contains}
use Rattle.mrpc_table.specs.Valid.{IsAscendingBy, IsBelow}
use Rattle.mrpc_table.specs.declared.table.Table.{Table}
use Rattle.proto_ast.specs.Dot.{dot}
use Rattle.proto_ast.specs.declared.file.EnumDecl.{EnumDecl}
use Rattle.proto_ast.specs.Joined.{Joined, enclosing_of_enum, package_at}
use Rattle.proto_ast.specs.declared.joined.Enclosing.{Enclosing}
use Rattle.proto_ast.specs.declared.joined.Enclosing.TheVariants as home
use Rattle.schema_symbols.specs.Scopes.{IsScope, text_of}
use Rattle.schema_resolve.specs.declared.placed.PlacedNames.{PlacedNames}
use Rattle.schema_resolve.specs.declared.plan.TablePlan.{TablePlan}

-- a name after the full name that encloses it, which is empty if there is none
abbrev pub qualified_name : List ℕ → List ℕ → List ℕ
qualified_name [] name = name
qualified_name (c ∷ cs) name = (c ∷ cs) ++ dot ∷ name

abbrev pub name_at_index : List (List ℕ) → ℕ → List ℕ
name_at_index names i = slice_index_or names i []

-- the full name of a file's package, or of a message
abbrev pub enclosing_name : List (List ℕ) → List (List ℕ) → Enclosing → List ℕ
enclosing_name fronts names (home.File k) = name_at_index fronts k
enclosing_name fronts names (home.Message i) = name_at_index names i

-- the names of the files' packages
pub record ArePackageNames (F : Joined) (fronts : List (List ℕ)) : Type 0 where
  pub count : length fronts ≡ length F.heads
  pub each : (k : ℕ) → k < length F.heads → name_at_index fronts k ≡ text_of (package_at F k)

-- an enclosing file or message, among this many
abbrev pub IsEnclosingAmong : ℕ → ℕ → Enclosing → Type 0
IsEnclosingAmong files messages (home.File k) = k < files
IsEnclosingAmong files messages (home.Message i) = i < messages

-- the indices of all names, by ascending name
pub record IsOrder (names : List (List ℕ)) (order : List ℕ) : Type 0 where
  pub count : length order ≡ length names
  pub within : All (λ i. i < length names) order
  pub each : (i : ℕ) → i < length names → Contains order i
  pub ascend : IsAscendingBy (λ i j. IsBelow (name_at_index names i) (name_at_index names j)) order

-- each number below the length occurs once
pub record IsPermutationOfIndices (order : List ℕ) : Type 0 where
  pub within : All (λ i. i < length order) order
  pub once : (j k i : ℕ) → slice_get order j ≡ Some i → slice_get order k ≡ Some i → j ≡ k

-- the index of each name in an order
pub record AreInverseIndices (order places : List ℕ) : Type 0 where
  pub count : length places ≡ length order
  pub back : (place i : ℕ) → slice_get order place ≡ Some i → slice_get places i ≡ Some place

-- names are stored with their order and indices
pub record IsOrderedNames (names : List (List ℕ)) (p : PlacedNames) : Type 0 where
  pub kept : p.names.items ≡ names
  pub order : IsOrder names p.order.items
  pub places : AreInverseIndices p.order.items p.places.items

-- the full names of the first messages and of the first enums
pub record AreMessageNames (F : Joined) (names : List (List ℕ)) : Type 0 where
  pub each : (i : ℕ) (full : List (List ℕ)) → i < length names → IsScope F (home.Message i) full
      → slice_get names i ≡ Some (text_of full)

pub record AreEnumNames (F : Joined) (names : List (List ℕ)) : Type 0 where
  pub each : (i : ℕ) (e : EnumDecl) (outer : List (List ℕ)) → i < length names → slice_get F.enums i ≡ Some e
      → IsScope F (enclosing_of_enum e) outer → slice_get names i ≡ Some (text_of (outer ++ e.name.name ∷ []))

pub record IsTablePlan (F : Joined) (p : TablePlan) : Type 0 where
  pub all_messages : length p.messages.names.items ≡ length F.messages
  pub all_enums : length p.enums.names.items ≡ length F.enums
  pub messages : AreMessageNames F p.messages.names.items
  pub enums : AreEnumNames F p.enums.names.items
  pub message_places : IsOrderedNames p.messages.names.items p.messages
  pub enum_places : IsOrderedNames p.enums.names.items p.enums

abbrev pub names_in_order : PlacedNames → List (List ℕ)
names_in_order p = map (name_at_index p.names.items) p.order.items

-- a table's messages and enums have these names
pub record HasTableNames (p : TablePlan) (T : Table) : Type 0 where
  pub messages : map (λ m. m.name) T.messages ≡ names_in_order p.messages
  pub enums : map (λ e. e.name) T.enums ≡ names_in_order p.enums
