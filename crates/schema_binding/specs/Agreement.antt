-- When two tables agree on a service, and why they may not. Under a hello of version 1 their texts are compared. Under
-- one of version 2 the methods are compared, with their indices, and types, oneofs and fields by their print in the
-- canonical text. So other indices in a table don't matter then, and the values of enums aren't compared.
use Rattle.std.specs.Prelude.{◌≡◌, ◌≢◌, ◌⊎◌, ◌↔◌, ℕ, ◌≤◌, Bool, IsTrue, List, ◌++◌, codes, take, map, Contains, Option, Some, None, slice_get, if◌then◌else◌}
use Rattle.std.specs.List.{filter_map, enumerate_from}
use Rattle.std.specs.Str.{bytes_eq}
use Rattle.mrpc_table.specs.Text.{message_name, kind_text, label_text, table_text}
use Rattle.mrpc_table.specs.Valid.{IsBelow, IsValid}
use Rattle.mrpc_table.specs.declared.table.Field.{Field}
use Rattle.mrpc_table.specs.declared.table.Message.{Message}
use Rattle.mrpc_table.specs.declared.table.Method.{Method}
use Rattle.mrpc_table.specs.declared.table.Table.{Table}
use Rattle.schema_binding.specs.declared.fault.AgreeFault.{AgreeFault}
use Rattle.schema_binding.specs.declared.fault.AgreeFault.TheVariants.{NoService, Mismatch, Methods, Field as FieldFault}

-- ---- what is compared

-- a method of a service: its index, its name, and the names of its input and its output
pub record Signature : Type 0 where
  pub index : ℕ
  pub name : List ℕ
  pub input : List ℕ
  pub output : List ℕ

abbrev pub signature : Table → ℕ × Method → Signature
signature T m = record {
  index = m.0;
  name = m.1.name;
  input = message_name T m.1.input;
  output = message_name T m.1.output;
}

-- the methods of a service, in the order of the table
abbrev pub methods_of : Table → List ℕ → List Signature
methods_of T service =
    filter_map (λ m. if bytes_eq m.1.service service then Some (signature T m) else None) (enumerate_from 0 T.methods)

-- the table has a method of the service
abbrev pub HasMethodOf : Table → List ℕ → Type 0
HasMethodOf T service = Contains (map (λ m. m.service) T.methods) service

-- a field as the text prints it, without its number
pub record FieldText : Type 0 where
  pub label : List ℕ
  pub kind : List ℕ
  pub name : List ℕ

abbrev pub field_text : Table → Message → Field → FieldText
field_text T m f = record { label = label_text T m.oneofs f.label; kind = kind_text T f.kind; name = f.name }

-- the message type of this name has a field of this number, and the text prints it like this
pub record IsPrintedAs (T : Table) (type : List ℕ) (number : ℕ) (text : FieldText) : Type 0 where
  pub message : Message
  pub field : Field
  pub known : Contains T.messages message
  pub named : message.name ≡ type
  pub has : Contains message.fields field
  pub numbered : field.number ≡ number
  pub printed : field_text T message field ≡ text

-- the kind of a field, or of a map's values, that is a message type
abbrev pub message_kind_text : List ℕ → List ℕ
message_kind_text name = codes "message:" ++ name

-- The message types that both tables reach: the inputs and outputs of the methods of the service that both have. From
-- these on, also the types of the fields whose number both know, if it is the same type in both.
pub data IsReachedByBoth (T U : Table) (service : List ℕ) : List ℕ → Type 0 where
  as_input : (s : Signature) → Contains (methods_of T service) s → Contains (methods_of U service) s
      → IsReachedByBoth T U service s.input
  as_output : (s : Signature) → Contains (methods_of T service) s → Contains (methods_of U service) s
      → IsReachedByBoth T U service s.output
  through : (outer inner : List ℕ) (number : ℕ) (ours theirs : FieldText) → IsReachedByBoth T U service outer
      → IsPrintedAs T outer number ours → IsPrintedAs U outer number theirs → ours.kind ≡ message_kind_text inner
      → theirs.kind ≡ message_kind_text inner → IsReachedByBoth T U service inner

-- in a type that both reach, both know a number, and the texts print its fields differently
pub record IsDifference (T U : Table) (service type : List ℕ) (number : ℕ) : Type 0 where
  pub reached : IsReachedByBoth T U service type
  pub ours : FieldText
  pub theirs : FieldText
  pub ours_prints : IsPrintedAs T type number ours
  pub theirs_prints : IsPrintedAs U type number theirs
  pub other : ours ≢ theirs

-- ---- agreement

-- Under a hello of version 1 the texts are equal. Under one of version 2 the methods are the same, and so is each field
-- that both know in a type that both reach.
pub data AreInAgreement (T U : Table) (service : List ℕ) (version : ℕ) : Type 0 where
  by_text : version ≡ 1 → HasMethodOf T service → HasMethodOf U service → table_text T ≡ table_text U
      → AreInAgreement T U service version
  by_fields : version ≡ 2 → HasMethodOf T service → HasMethodOf U service → methods_of T service ≡ methods_of U service
      → ((type : List ℕ) (number : ℕ) → IsDifference T U service type number → ⊥) → AreInAgreement T U service version

-- ---- disagreement

-- two lists are equal before this index and differ there; `None` means that the list has ended
pub record AreFirstDifferentAt {X : Type 0} (xs ys : List X) (at : ℕ) (x y : Option X) : Type 0 where
  pub same : take at xs ≡ take at ys
  pub ours : slice_get xs at ≡ x
  pub theirs : slice_get ys at ≡ y
  pub other : x ≢ y

-- the least message name, then the least number
pub record IsFirstDifference (T U : Table) (service type : List ℕ) (number : ℕ) : Type 0 where
  pub differs : IsDifference T U service type number
  pub least : (other : List ℕ) (n : ℕ) → IsDifference T U service other n
      → IsBelow type other ⊎ ((type ≡ other) × (number ≤ n))

-- why two tables don't agree
pub data IsDisagreement (T U : Table) (service : List ℕ) (version : ℕ) (fault : AgreeFault) : Type 0 where
  no_service : (ours theirs : Bool) → IsTrue ours ↔ HasMethodOf T service → IsTrue theirs ↔ HasMethodOf U service
      → (IsTrue ours → IsTrue theirs → ⊥)
      → fault ≡ NoService ours theirs → IsDisagreement T U service version fault
  other_text : (byte : ℕ) (ours theirs : Option ℕ) → version ≡ 1 → HasMethodOf T service → HasMethodOf U service
      → AreFirstDifferentAt (table_text T) (table_text U) byte ours theirs → fault ≡ Mismatch byte ours theirs
      → IsDisagreement T U service version fault
  other_methods : (at : ℕ) (ours theirs : Option Signature) → version ≡ 2 → HasMethodOf T service
      → HasMethodOf U service
      → AreFirstDifferentAt (methods_of T service) (methods_of U service) at ours theirs → fault ≡ Methods at
      → IsDisagreement T U service version fault
  other_field : (type : List ℕ) (number : ℕ) → version ≡ 2 → HasMethodOf T service → HasMethodOf U service
      → methods_of T service ≡ methods_of U service
      → IsFirstDifference T U service type number → fault ≡ FieldFault type number
      → IsDisagreement T U service version fault

-- ---- laws

-- tables that agree have no difference
abbrev pub IsAgreementExclusive : Type 0
IsAgreementExclusive = (T U : Table) (service : List ℕ) (version : ℕ) (fault : AgreeFault)
    → AreInAgreement T U service version
    → IsDisagreement T U service version fault → ⊥

-- they differ for at most one reason
abbrev pub IsDisagreementUnique : Type 0
IsDisagreementUnique = (T U : Table) (service : List ℕ) (version : ℕ) (fault other : AgreeFault)
    → IsDisagreement T U service version fault → IsDisagreement T U service version other → fault ≡ other

-- and valid tables agree or differ: it isn't possible that neither holds
abbrev pub IsAgreementDecided : Type 0
IsAgreementDecided = (T U : Table) (service : List ℕ) (version : ℕ) → IsValid T → IsValid U → (version ≡ 1)
    ⊎ (version ≡ 2)
    → (AreInAgreement T U service version → ⊥) → ((fault : AgreeFault) → IsDisagreement T U service version fault → ⊥)
    → ⊥
