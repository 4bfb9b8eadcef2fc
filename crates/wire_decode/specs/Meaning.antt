-- What a byte string means as a message of a table (Protocol Buffers, "Encoding": "Message Structure", "Last One Wins",
-- "Packed Repeated Fields", "Oneofs", "Maps"), rule by rule.
use Rattle.std.specs.Prelude.{◌≡◌, ◌≢◌, ◌==◌, ◌||◌, ℕ, suc, Bool, true, false, List, [], ◌∷◌, ◌++◌, map, Option, Some, None, if◌then◌else◌, slice_range}
use Rattle.std.specs.Str.{IsUtf8}
use Rattle.mrpc_table.specs.Node.{Node, no_fields, field, Content, one, many, pairs, Item, number, run, node}
use Rattle.mrpc_table.specs.Normal.{fields_of, field_at}
use Rattle.mrpc_table.specs.Words.{is_numeric, has_one_value}
use Rattle.mrpc_table.specs.declared.table.Kind.{Kind}
use Rattle.mrpc_table.specs.declared.table.Kind.TheVariants.{Text, Octets, Message as OfMessage}
use Rattle.mrpc_table.specs.declared.table.Label.{Label}
use Rattle.mrpc_table.specs.declared.table.Label.TheVariants.{Map}
use Rattle.mrpc_table.specs.declared.table.Field.{Field}
use Rattle.mrpc_table.specs.declared.table.Table.{Table}
use Rattle.mrpc_table.specs.MapEntries.{last_of_each}
use Rattle.mrpc_table.specs.WireTypes.{wire_type_of}
use Rattle.wire_base.specs.Records.{AreRecords}
use Rattle.wire_base.specs.declared.records.Record.{Record}
use Rattle.wire_base.specs.declared.records.Payload.{Payload}
use Rattle.wire_base.specs.declared.records.Payload.TheVariants.{Len}
use Rattle.wire_decode.specs.Words.{word_form_of, payload_number, payload_type, is_list, is_map, may_be_packed, AreElements}
use Rattle.wire_decode.specs.Known.{is_known_record, is_message_kind, entry_fields, HasRoom}
use Rattle.wire_decode.specs.Contents.{default_item_of, some_items, some_pairs, with_content}
use Rattle.wire_decode.specs.Oneofs.{are_rivals}
use Rattle.wire_decode.specs.Contents.{single_content}

-- the value in a record of a field: a number, the numbers of a packed payload, or the bytes of a string, bytes, message
-- or entry
pub data RecordValue : Type 0 where
  single : ℕ → RecordValue
  packed : List ℕ → RecordValue
  delimited : List ℕ → RecordValue

-- a later value is of another member of the same oneof
abbrev pub has_rival : List Field → ℕ → List (ℕ × RecordValue) → Bool
has_rival fields n [] = false
has_rival fields n (value ∷ values) = are_rivals fields n value.0 || has_rival fields n values

-- the values that count: those without a later value of another member of their oneof
abbrev pub counted_values : List Field → List (ℕ × RecordValue) → List (ℕ × RecordValue)
counted_values fields [] = []
counted_values fields (value ∷ values) =
    if has_rival fields value.0 values then counted_values fields values else value ∷ counted_values fields values

-- the values of the field with a number, and those of the other fields
abbrev pub values_with_number : ℕ → List (ℕ × RecordValue) → List RecordValue
values_with_number n [] = []
values_with_number n (value ∷ values) = if value.0 == n then value.1 ∷ values_with_number n values else values_with_number n values

abbrev pub values_but : ℕ → List (ℕ × RecordValue) → List (ℕ × RecordValue)
values_but n [] = []
values_but n (value ∷ values) = if value.0 == n then values_but n values else value ∷ values_but n values

-- the payloads, concatenated
abbrev pub joined_payloads : List RecordValue → List ℕ
joined_payloads [] = []
joined_payloads (single n ∷ values) = joined_payloads values
joined_payloads (packed ns ∷ values) = joined_payloads values
joined_payloads (delimited bytes ∷ values) = bytes ++ joined_payloads values

-- the item of a field, or the default of its kind if it is missing
abbrev pub item_or_default : ℕ → Kind → Node → Item
item_or_default n kind no_fields = default_item_of kind
item_or_default n kind (field m (one i) tree) = if m == n then i else item_or_default n kind tree
item_or_default n kind (field m (many items) tree) = item_or_default n kind tree
item_or_default n kind (field m (pairs ps) tree) = item_or_default n kind tree

mutual
  -- The bytes are records, in order, and each of the fields, in their order, has the content that its values mean.
  -- Messages may nest `room` more levels deep inside.
  pub data MeansIn (T : Table) : ℕ → List Field → List ℕ → Node → Type 0 where
    means_in : {room : ℕ} {fields : List Field} {bytes : List ℕ} {tree : Node} (records : List Record)
        (values : List (ℕ × RecordValue)) → AreRecords bytes records → HaveValues T room fields bytes records values
        → AreFields T room fields (counted_values fields values) tree → MeansIn T room fields bytes tree

  -- The records of known fields have these values, in order; records of unknown numbers and of other wire types are
  -- skipped.
  pub data HaveValues (T : Table) : ℕ → List Field → List ℕ → List Record → List (ℕ × RecordValue) → Type 0 where
    no_more : {room : ℕ} {fields : List Field} {bytes : List ℕ} {records : List Record} {values : List (ℕ × RecordValue)}
        → records ≡ [] → values ≡ [] → HaveValues T room fields bytes records values
    skipped : {room : ℕ} {fields : List Field} {bytes : List ℕ} {records : List Record} {values : List (ℕ × RecordValue)}
        (r : Record) (rest : List Record) → records ≡ r ∷ rest → is_known_record fields r ≡ false
        → HaveValues T room fields bytes rest values → HaveValues T room fields bytes records values
    known : {room : ℕ} {fields : List Field} {bytes : List ℕ} {records : List Record} {values : List (ℕ × RecordValue)}
        (r : Record) (rest : List Record) (f : Field) (value : RecordValue) (others : List (ℕ × RecordValue)) → records ≡ r ∷ rest
        → field_at fields r.number ≡ Some f → HasValue T room f.label f.kind bytes r.payload value
        → HaveValues T room fields bytes rest others → values ≡ (r.number, value) ∷ others
        → HaveValues T room fields bytes records values

  -- the value of a payload of a field, which is valid by itself
  pub data HasValue (T : Table) : ℕ → Label → Kind → List ℕ → Payload → RecordValue → Type 0 where
    a_number : {room : ℕ} {label : Label} {kind : Kind} {bytes : List ℕ} {payload : Payload} {value : RecordValue}
        → is_map label ≡ false → is_numeric kind ≡ true → payload_type payload ≡ wire_type_of kind
        → value ≡ single (word_form_of kind (payload_number payload)) → HasValue T room label kind bytes payload value
    -- whole elements
    a_piece : {room : ℕ} {label : Label} {kind : Kind} {bytes : List ℕ} {payload : Payload} {value : RecordValue}
        (start end : ℕ) (ns : List ℕ) → may_be_packed label kind ≡ true → payload ≡ Len start end
        → AreElements kind (slice_range bytes start end) 0 ns → value ≡ packed ns
        → HasValue T room label kind bytes payload value
    a_text : {room : ℕ} {label : Label} {kind : Kind} {bytes : List ℕ} {payload : Payload} {value : RecordValue}
        (start end : ℕ) → is_map label ≡ false → kind ≡ Text → payload ≡ Len start end
        → IsUtf8 (slice_range bytes start end) → value ≡ delimited (slice_range bytes start end)
        → HasValue T room label kind bytes payload value
    some_octets : {room : ℕ} {label : Label} {kind : Kind} {bytes : List ℕ} {payload : Payload} {value : RecordValue}
        (start end : ℕ) → is_map label ≡ false → kind ≡ Octets → payload ≡ Len start end
        → value ≡ delimited (slice_range bytes start end) → HasValue T room label kind bytes payload value
    a_message : {room : ℕ} {label : Label} {kind : Kind} {bytes : List ℕ} {payload : Payload} {value : RecordValue}
        (i inside start end : ℕ) (tree : Node) → is_map label ≡ false → kind ≡ OfMessage i → room ≡ suc inside
        → payload ≡ Len start end → MeansIn T inside (fields_of T i) (slice_range bytes start end) tree
        → value ≡ delimited (slice_range bytes start end) → HasValue T room label kind bytes payload value
    an_entry : {room : ℕ} {label : Label} {kind : Kind} {bytes : List ℕ} {payload : Payload} {value : RecordValue}
        (key : Kind) (start end : ℕ) (tree : Node) → label ≡ Map key → payload ≡ Len start end
        → MeansIn T room (entry_fields key kind) (slice_range bytes start end) tree → HasRoom room kind
        → value ≡ delimited (slice_range bytes start end) → HasValue T room label kind bytes payload value

  -- The fields of a message: each has the content that the values of its number mean, and takes these values. So of two
  -- fields with the same number, which no valid table has, the first gets them.
  pub data AreFields (T : Table) : ℕ → List Field → List (ℕ × RecordValue) → Node → Type 0 where
    no_field : {room : ℕ} {fields : List Field} {values : List (ℕ × RecordValue)} {tree : Node} → fields ≡ []
        → tree ≡ no_fields → AreFields T room fields values tree
    one_field : {room : ℕ} {fields : List Field} {values : List (ℕ × RecordValue)} {tree : Node} (f : Field)
        (rest : List Field) (c : Option Content) (others : Node) → fields ≡ f ∷ rest
        → FieldMeans T room f.label f.kind (values_with_number f.number values) c
        → AreFields T room rest (values_but f.number values) others → tree ≡ with_content f.number c others
        → AreFields T room fields values tree

  -- what the values of a field mean
  pub data FieldMeans (T : Table) : ℕ → Label → Kind → List RecordValue → Option Content → Type 0 where
    no_value : {room : ℕ} {label : Label} {kind : Kind} {values : List RecordValue} {c : Option Content} → values ≡ []
        → c ≡ None → FieldMeans T room label kind values c
    last_value : {room : ℕ} {label : Label} {kind : Kind} {values : List RecordValue} {c : Option Content}
        (before : List RecordValue) (last : RecordValue) (i : Item) → has_one_value label ≡ true → is_message_kind kind ≡ false
        → values ≡ before ++ last ∷ [] → ValueMeans T room kind last (i ∷ []) → c ≡ single_content label i
        → FieldMeans T room label kind values c
    one_message : {room : ℕ} {label : Label} {kind : Kind} {values : List RecordValue} {c : Option Content} (i inside : ℕ)
        (tree : Node) → has_one_value label ≡ true → kind ≡ OfMessage i → room ≡ suc inside → values ≢ []
        → MeansIn T inside (fields_of T i) (joined_payloads values) tree → c ≡ single_content label (node tree)
        → FieldMeans T room label kind values c
    elements : {room : ℕ} {label : Label} {kind : Kind} {values : List RecordValue} {c : Option Content} (items : List Item)
        → is_list label ≡ true → AreItems T room kind values items → c ≡ some_items items
        → FieldMeans T room label kind values c
    entries : {room : ℕ} {label : Label} {kind : Kind} {values : List RecordValue} {c : Option Content} (key : Kind)
        (entries : List (Item × Item)) → label ≡ Map key → AreEntries T room key kind values entries
        → c ≡ some_pairs (last_of_each key entries) → FieldMeans T room label kind values c

  -- the items of one value by itself
  pub data ValueMeans (T : Table) : ℕ → Kind → RecordValue → List Item → Type 0 where
    of_number : {room : ℕ} {kind : Kind} {value : RecordValue} {items : List Item} (n : ℕ) → value ≡ single n
        → items ≡ number n ∷ [] → ValueMeans T room kind value items
    of_piece : {room : ℕ} {kind : Kind} {value : RecordValue} {items : List Item} (ns : List ℕ) → value ≡ packed ns
        → items ≡ map number ns → ValueMeans T room kind value items
    of_run : {room : ℕ} {kind : Kind} {value : RecordValue} {items : List Item} (bytes : List ℕ) → is_message_kind kind ≡ false
        → value ≡ delimited bytes → items ≡ run bytes ∷ [] → ValueMeans T room kind value items
    of_message : {room : ℕ} {kind : Kind} {value : RecordValue} {items : List Item} (i inside : ℕ) (bytes : List ℕ)
        (tree : Node) → kind ≡ OfMessage i → room ≡ suc inside → value ≡ delimited bytes
        → MeansIn T inside (fields_of T i) bytes tree → items ≡ node tree ∷ [] → ValueMeans T room kind value items

  -- the items of all values, in order
  pub data AreItems (T : Table) : ℕ → Kind → List RecordValue → List Item → Type 0 where
    no_items : {room : ℕ} {kind : Kind} {values : List RecordValue} {items : List Item} → values ≡ [] → items ≡ []
        → AreItems T room kind values items
    more_items : {room : ℕ} {kind : Kind} {values : List RecordValue} {items : List Item} (value : RecordValue) (rest : List RecordValue)
        (first others : List Item) → values ≡ value ∷ rest → ValueMeans T room kind value first
        → AreItems T room kind rest others → items ≡ first ++ others → AreItems T room kind values items

  -- entries of a map: each is a message with the key as field 1 and the value as field 2; a missing one is the default
  pub data AreEntries (T : Table) : ℕ → Kind → Kind → List RecordValue → List (Item × Item) → Type 0 where
    no_entries : {room : ℕ} {key kind : Kind} {values : List RecordValue} {entries : List (Item × Item)} → values ≡ []
        → entries ≡ [] → AreEntries T room key kind values entries
    more_entries : {room : ℕ} {key kind : Kind} {values : List RecordValue} {entries : List (Item × Item)} (bytes : List ℕ)
        (tree : Node) (rest : List RecordValue) (others : List (Item × Item)) → values ≡ delimited bytes ∷ rest
        → MeansIn T room (entry_fields key kind) bytes tree → AreEntries T room key kind rest others
        → entries ≡ (item_or_default 1 key tree, item_or_default 2 kind tree) ∷ others
        → AreEntries T room key kind values entries
