-- Which tables are valid: those that a canonical text within the limits can represent.
use Rattle.std.specs.Prelude.{◌≡◌, ◌⊎◌, ℕ, ℤ, pos, ◌+◌, ◌<◌, ◌≤◌, ◌&&◌, ◌||◌, nat_lt, nat_le, Bool, List, [], ◌∷◌, ◌++◌, length, All, Contains, IsTrue, map, FitsSigned}
use Rattle.std.specs.Int.{w32}
use Rattle.std.specs.Ordering.{nat_cmp, int_cmp}
use Rattle.std.specs.declared.cmp.Ordering.TheVariants.{Less}
use Rattle.std.specs.Cmp.Lexicographic.{slice_cmp}
use Rattle.mrpc_table.specs.Names.{IsName, IsFullName}
use Rattle.mrpc_table.specs.Words.{is_numeric, is_key}
use Rattle.mrpc_table.specs.Text.{table_text}
use Rattle.mrpc_table.specs.declared.limits.TheConstants.{MAX_MESSAGES, MAX_ENUMS, MAX_METHODS, MAX_FIELDS, MAX_VALUES, MAX_TEXT, MAX_FIELD_NUMBER, FIRST_RESERVED_NUMBER, LAST_RESERVED_NUMBER}
use Rattle.mrpc_table.specs.declared.table.Kind.{Kind}
use Rattle.mrpc_table.specs.declared.table.Kind.TheVariants.{Message as OfMessage, Choice}
use Rattle.mrpc_table.specs.declared.table.Label.{Label}
use Rattle.mrpc_table.specs.declared.table.Label.TheVariants.{Plain, Optional, Repeated, Packed, Map, Member}
use Rattle.mrpc_table.specs.declared.table.Field.{Field}
use Rattle.mrpc_table.specs.declared.table.Message.{Message}
use Rattle.mrpc_table.specs.declared.table.Choices.{Choices}
use Rattle.mrpc_table.specs.declared.table.Method.{Method}
use Rattle.mrpc_table.specs.declared.table.Table.{Table}

-- each element is in the relation to the next
abbrev pub IsAscendingBy : {X : Type 0} → (X → X → Type 0) → List X → Type 0
IsAscendingBy R [] = Unit {0}
IsAscendingBy R (x ∷ []) = Unit {0}
IsAscendingBy R (x ∷ y ∷ xs) = R x y × IsAscendingBy R (y ∷ xs)

-- no element occurs twice
abbrev pub AreDistinct : {X : Type 0} → List X → Type 0
AreDistinct [] = Unit {0}
AreDistinct (x ∷ xs) = (Contains xs x → ⊥) × AreDistinct xs

abbrev pub IsBelow : List ℕ → List ℕ → Type 0
IsBelow a b = slice_cmp nat_cmp a b ≡ Less

-- field numbers are 1 to 536870911, without 19000 to 19999 (language guide, "Assigning Field Numbers")
pub record IsFieldNumber (n : ℕ) : Type 0 where
  pub positive : 0 < n
  pub small : n ≤ MAX_FIELD_NUMBER
  pub unreserved : (n < FIRST_RESERVED_NUMBER) ⊎ (LAST_RESERVED_NUMBER < n)

-- `IsFieldNumber` as a test
abbrev pub is_field_number : ℕ → Bool
is_field_number n =
    (nat_lt 0 n && nat_le n MAX_FIELD_NUMBER) && (nat_lt n FIRST_RESERVED_NUMBER || nat_lt LAST_RESERVED_NUMBER n)

-- the table has the message or enum that a kind names
abbrev pub IsKnown : Table → Kind → Type 0
IsKnown T (OfMessage i) = i < length T.messages
IsKnown T (Choice i) = i < length T.enums
IsKnown T _ = Unit {0}

abbrev pub IsMessageKind : Kind → Type 0
IsMessageKind (OfMessage i) = Unit {0}
IsMessageKind _ = ⊥

-- the labels that a field of a kind may have, in a message with this many oneofs
abbrev pub IsLabelFor : ℕ → Label → Kind → Type 0
IsLabelFor oneofs Plain k = Unit {0}
IsLabelFor oneofs Optional k = IsMessageKind k → ⊥
IsLabelFor oneofs Repeated k = Unit {0}
IsLabelFor oneofs Packed k = IsTrue (is_numeric k)
IsLabelFor oneofs (Map key) k = IsTrue (is_key key)
IsLabelFor oneofs (Member o) k = o < oneofs

pub record IsField (T : Table) (oneofs : ℕ) (f : Field) : Type 0 where
  pub number : IsFieldNumber f.number
  pub name : IsName f.name
  pub label : IsLabelFor oneofs f.label f.kind
  pub kind : IsKnown T f.kind

-- oneofs are in the order of their least member numbers: by ascending number, a member belongs to an earlier oneof, or
-- to the next one
abbrev pub IsNextOneof : ℕ → Label → Type 0 → Type 0 → Type 0
IsNextOneof met (Member o) same next = ((o < met) × same) ⊎ ((o ≡ met) × next)
IsNextOneof met _ same next = same

abbrev pub AreOneofsInOrder : ℕ → ℕ → List Field → Type 0
AreOneofsInOrder met all [] = met ≡ all
AreOneofsInOrder met all (f ∷ fs) = IsNextOneof met f.label (AreOneofsInOrder met all fs) (AreOneofsInOrder (met + 1) all fs)

pub record IsMessage (T : Table) (m : Message) : Type 0 where
  pub name : IsFullName m.name
  pub few : length m.fields ≤ MAX_FIELDS
  pub fields : All (IsField T (length m.oneofs)) m.fields
  pub ascend : IsAscendingBy (λ f g. f.number < g.number) m.fields
  pub names : AreDistinct (map (λ f. f.name) m.fields)
  pub oneofs : All IsName m.oneofs
  pub oneof_names : AreDistinct m.oneofs
  pub oneof_order : AreOneofsInOrder 0 (length m.oneofs) m.fields

-- by ascending number, then name
abbrev pub IsValueBelow : ℤ × List ℕ → ℤ × List ℕ → Type 0
IsValueBelow v w = (int_cmp v.0 w.0 ≡ Less) ⊎ ((v.0 ≡ w.0) × IsBelow v.1 w.1)

pub record IsEnum (e : Choices) : Type 0 where
  pub name : IsFullName e.name
  pub few : length e.values ≤ MAX_VALUES
  pub numbers : All (λ v. FitsSigned w32 v.0) e.values
  pub each_name : All (λ v. IsName v.1) e.values
  pub ascend : IsAscendingBy IsValueBelow e.values
  pub names : AreDistinct (map (λ v. v.1) e.values)
  pub zero : Contains (map (λ v. v.0) e.values) (pos 0)

pub record IsMethod (T : Table) (m : Method) : Type 0 where
  pub service : IsFullName m.service
  pub name : IsName m.name
  pub input : m.input < length T.messages
  pub output : m.output < length T.messages

pub record IsValid (T : Table) : Type 0 where
  pub few_messages : length T.messages ≤ MAX_MESSAGES
  pub few_enums : length T.enums ≤ MAX_ENUMS
  pub few_methods : length T.methods ≤ MAX_METHODS
  pub enums : All IsEnum T.enums
  pub enums_ascend : IsAscendingBy (λ e f. IsBelow e.name f.name) T.enums
  pub messages : All (IsMessage T) T.messages
  pub messages_ascend : IsAscendingBy (λ m n. IsBelow m.name n.name) T.messages
  pub types : AreDistinct (map (λ e. e.name) T.enums ++ map (λ m. m.name) T.messages)
  pub methods : All (IsMethod T) T.methods
  pub method_names : AreDistinct {X = List ℕ × List ℕ} (map (λ m. (m.service, m.name)) T.methods)
  pub short : length (table_text T) ≤ MAX_TEXT

-- valid tables of one text are equal
abbrev pub HasUniqueTexts : Type 0
HasUniqueTexts = (T U : Table) → IsValid T → IsValid U → table_text T ≡ table_text U → T ≡ U
