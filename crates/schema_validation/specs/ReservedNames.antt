-- The code's own: a set of reserved names.
use Rattle.std.specs.Prelude.{◌≡◌, ◌↔◌, ℕ, Bool, true, List}
use Rattle.std.specs.Borrow.{Bor}
use Rattle.std.specs.Option.{is_some}
use Rattle.std.specs.Ordering.{nat_cmp}
use Rattle.std.specs.Cmp.Lexicographic.{slice_cmp}
use Rattle.std.specs.BTreeMap.{get_by}
use Rattle.proto_ast.specs.declared.file.Word.{Word}
use Rattle.schema_validation.specs.Members.{IsReservedName}
use Rattle.schema_validation.specs.declared.name_set.NameSet.{NameSet}

abbrev pub has_reserved_name : NameSet → List ℕ → Bool
has_reserved_name kept name = is_some (get_by (λ (key : Bor (List ℕ)). slice_cmp nat_cmp name key.now) kept.names)

abbrev pub HasReservedNames : List Word → NameSet → Type 0
HasReservedNames words kept = (name : List ℕ) → (has_reserved_name kept name ≡ true) ↔ IsReservedName words name
