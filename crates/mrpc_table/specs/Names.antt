-- Names of a schema (Protocol Buffers, language specification, "Identifiers").
use Rattle.std.specs.Prelude.{ℕ, ◌≤◌, ◌==◌, Bool, false, ◌||◌, ◌&&◌, List, [], ◌∷◌, length, IsTrue, nat_le}
use Rattle.std.specs.List.{slice_split, list_all}
use Rattle.mrpc_table.specs.declared.limits.TheConstants.{MAX_NAME, MAX_FULL_NAME}

-- an ASCII letter or `_`
abbrev pub is_name_start : ℕ → Bool
is_name_start c = ((nat_le 65 c && nat_le c 90) || (nat_le 97 c && nat_le c 122)) || c == 95

-- an ASCII letter, a digit or `_`
abbrev pub is_name_byte : ℕ → Bool
is_name_byte c = is_name_start c || (nat_le 48 c && nat_le c 57)

-- a letter or `_`, and then letters, digits and `_`
abbrev pub is_name_form : List ℕ → Bool
is_name_form [] = false
is_name_form (c ∷ cs) = is_name_start c && list_all is_name_byte cs

-- the parts of a full name, between its dots
abbrev pub parts_of : List ℕ → List (List ℕ)
parts_of name = slice_split (λ c. c == 46) name

-- names joined by dots
abbrev pub is_full_form : List ℕ → Bool
is_full_form name = list_all is_name_form (parts_of name)

-- a name has at most 64 bytes; a full name has such parts, and at most 255 bytes in total
abbrev pub is_short : List ℕ → Bool
is_short name = nat_le (length name) MAX_NAME

abbrev pub is_short_full : List ℕ → Bool
is_short_full name = list_all is_short (parts_of name) && nat_le (length name) MAX_FULL_NAME

pub record IsName (name : List ℕ) : Type 0 where
  pub form : IsTrue (is_name_form name)
  pub short : length name ≤ MAX_NAME

pub record IsFullName (name : List ℕ) : Type 0 where
  pub form : IsTrue (is_full_form name)
  pub short : IsTrue (is_short_full name)
