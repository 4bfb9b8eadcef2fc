-- The code's own: packages that start with a scope.
use Rattle.std.specs.Prelude.{◌≡◌, ℕ, List, ◌++◌}
use Rattle.proto_ast.specs.Joined.{Joined, CanSee, package_at}

-- the package of a file starts with this full name
pub record HasPackagePrefix (F : Joined) (file : ℕ) (full : List (List ℕ)) : Type 0 where
  pub rest : List (List ℕ)
  pub begins : package_at F file ≡ full ++ rest

-- a file sees one whose package starts with this full name
pub record CanSeePrefix (F : Joined) (file : ℕ) (full : List (List ℕ)) : Type 0 where
  pub other : ℕ
  pub seen : CanSee F file other
  pub its_front : HasPackagePrefix F other full
