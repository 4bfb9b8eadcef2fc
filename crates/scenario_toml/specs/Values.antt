-- The values at the keys of a table (TOML 1.1).
use Rattle.std.specs.Prelude.{ℕ, ℤ, pos, nat_le, Bool, true, false, ◌&&◌, ◌||◌, not, List, [], ◌∷◌, filter_map, is_some, Option, Some, option_and_then, unwrap_or}
use Rattle.std.specs.List.{list_all, list_any}
use Rattle.std.specs.Str.{bytes_eq}
use Rattle.scenario_toml.specs.declared.key.ValueType.{ValueType}
use Rattle.scenario_toml.specs.declared.key.ValueType.TheVariants as shape
use Rattle.toml.specs.Data.{Data, string, integer, boolean, array, Items, no_items, item, Members, no_members, member, get_member, as_str, as_integer, as_bool, as_table}

abbrev pub list_of : Items → List Data
list_of no_items = []
list_of (item d ds) = d ∷ list_of ds

-- ---- keys

abbrev pub has_value_type : ValueType → Data → Bool
has_value_type shape.Text (string s) = true
has_value_type shape.Integer (integer z) = true
has_value_type shape.Flag (boolean b) = true
has_value_type shape.Texts (array ds) = list_all (λ d. is_some (as_str d)) (list_of ds)
has_value_type shape.Tables (array ds) = list_all (λ d. is_some (as_table d)) (list_of ds)
has_value_type _ _ = false

-- a key that a table must or may have
pub record TheTableKey : Type 0 where
  pub name : List ℕ
  pub shape : ValueType
  pub required : Bool

abbrev pub required_key : List ℕ → ValueType → TheTableKey
required_key name shape = record { name = name; shape = shape; required = true }

abbrev pub optional_key : List ℕ → ValueType → TheTableKey
optional_key name shape = record { name = name; shape = shape; required = false }

abbrev pub is_for : List ℕ → Data → TheTableKey → Bool
is_for name d key = bytes_eq key.name name && has_value_type key.shape d

-- each key of the table is one of these, with a value of its type
abbrev pub are_known : List TheTableKey → Members → Bool
are_known keys no_members = true
are_known keys (member name d ms) = list_any (is_for name d) keys && are_known keys ms

-- the table has the key, if it is required
abbrev pub is_there : Members → TheTableKey → Bool
is_there ms key = not key.required || is_some (get_member key.name ms)

-- the table has each of these that is required
abbrev pub has_required_keys : List TheTableKey → Members → Bool
has_required_keys keys ms = list_all (is_there ms) keys

abbrev pub has_keys : List TheTableKey → Members → Bool
has_keys keys ms = are_known keys ms && has_required_keys keys ms

-- ---- values

abbrev pub text_at : List ℕ → Members → Option (List ℕ)
text_at key ms = option_and_then as_str (get_member key ms)

-- a missing text is empty
abbrev pub text_or_empty : List ℕ → Members → List ℕ
text_or_empty key ms = unwrap_or (text_at key ms) []

abbrev pub flag_at : List ℕ → Members → Bool
flag_at key ms = unwrap_or (option_and_then as_bool (get_member key ms)) false

abbrev pub list_items : Option Data → List Data
list_items (Some (array ds)) = list_of ds
list_items _ = []

-- a missing list is empty
abbrev pub items_at : List ℕ → Members → List Data
items_at key ms = list_items (get_member key ms)

abbrev pub texts_at : List ℕ → Members → List (List ℕ)
texts_at key ms = filter_map as_str (items_at key ms)

abbrev pub tables_at : List ℕ → Members → List Members
tables_at key ms = filter_map as_table (items_at key ms)

-- ---- numbers

-- the range of numbers at a key, and the default if the table doesn't have the key
pub record TheIntegerRange : Type 0 where
  pub key : List ℕ
  pub default : ℕ
  pub least : ℕ
  pub most : ℕ

abbrev pub new_range : List ℕ → (default least most : ℕ) → TheIntegerRange
new_range key default least most = record { key = key; default = default; least = least; most = most }

abbrev pub integer_at : List ℕ → Members → Option ℤ
integer_at key ms = option_and_then as_integer (get_member key ms)

abbrev pub is_in_range : ℕ → ℕ → ℤ → Bool
is_in_range least most (pos n) = nat_le least n && nat_le n most
is_in_range least most _ = false

abbrev pub natural_or_zero : ℤ → ℕ
natural_or_zero (pos n) = n
natural_or_zero _ = 0

abbrev pub integer_in : TheIntegerRange → Members → ℤ
integer_in r ms = unwrap_or (integer_at r.key ms) (pos r.default)

abbrev pub is_out : Members → TheIntegerRange → Bool
is_out ms r = not (is_in_range r.least r.most (integer_in r ms))

abbrev pub is_within_at : Members → TheIntegerRange → Bool
is_within_at ms r = not (is_out ms r)

abbrev pub number_or_default : TheIntegerRange → Members → ℕ
number_or_default r ms = natural_or_zero (integer_in r ms)
