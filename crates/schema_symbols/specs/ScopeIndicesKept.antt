-- The code's own: the invariant of the scopes of files.
use Rattle.std.specs.Prelude.{◌<◌, ◌^◌, length}
use Rattle.proto_ast.specs.Joined.{Joined}
use Rattle.schema_symbols.specs.Numbers.{AreWellNested, all_prefix_count, scope_count}
use Rattle.schema_symbols.specs.Numbered.{HasNumberedScopes, AreDepths, ArePackages}
use Rattle.schema_symbols.specs.declared.scope_indices.ScopeIndices.TheInside.{Inside}

pub record AreIndicesOf (F : Joined) (p : Inside) : Type 0 where
  pub behind : AreWellNested F
  pub few : scope_count F < 2 ^ 62
  pub numbers : HasNumberedScopes F (scope_count F) p.numbering
  pub its_depths : AreDepths F (all_prefix_count F) p.depths.items
  pub its_packages : ArePackages F (length F.heads) p.packages.items

abbrev pub AreScopeIndices : Inside → Type 0
AreScopeIndices p = AreIndicesOf p.files p
