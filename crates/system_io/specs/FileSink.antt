-- The contents of a file that may not exist yet.
use Rattle.std.specs.Prelude.{ℕ, List, Option, None, Some}
use Rattle.std.specs.Io.KnownBytes.{Appends}

-- a sink over a file that is opened at the first write; F is the type of files
pub record FileSinkState (F : Type 0) : Type 0 where
  -- the file, once it was opened
  pub file : Option F
  -- how many writes failed; it saturates at 2^64 - 1
  pub failures : ℕ

-- the contents of the file, if there is one and it reveals them
abbrev pub file_contents : {F : Type 0} → (F → Option (List ℕ)) → Option F → Option (List ℕ)
file_contents contents None = None
file_contents contents (Some file) = contents file

-- the code's own: the file was created or existed, is locked, and these bytes were written to it since
abbrev pub IsOpenedWith : {F : Type 0} → (F → Option (List ℕ)) → (F → Type 0) → Option F → List ℕ → Type 0
IsOpenedWith contents is_locked None bytes = ⊥
IsOpenedWith {F = F} contents is_locked (Some file) bytes =
    (opened : F) × is_locked opened × Appends (contents opened) (contents file) bytes
