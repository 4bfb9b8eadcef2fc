-- The rules of meaning and of first faults on strings of bytes that were worked out by hand: a term for each.
use Rattle.std.proofs.Common.{◌≡◌, ℕ, suc, ◌+◌, ◌-◌, ◌*◌, ◌^◌, ◌<◌, ◌≤◌, List, [], ◌∷◌, length, Some, None, true}
use Rattle.std.proofs.Common.{false, refl, sym, subst, ◌∙◌, arith, ⊎_elim}
use Rattle.std.specs.List.{slice_range, All}
use Rattle.std.specs.Str.{IsUtf8, is_utf8, chars}
use Rattle.std.proofs.lemmas.List.Elements.{All-nil, All-cons}
use Rattle.std.proofs.lemmas.Str.{is_utf8-from_IsUtf8}
use Rattle.mrpc_table.specs.Node.{Node, no_fields, field, one, many, pairs, number, node, no_items, item, no_pairs, pair}
use Rattle.mrpc_table.specs.Normal.{fields_of}
use Rattle.mrpc_table.specs.declared.table.Kind.{Kind}
use Rattle.mrpc_table.specs.declared.table.Kind.TheVariants.{Int32, Uint64, Fixed32, Text, Message as OfMessage}
use Rattle.mrpc_table.specs.declared.table.Label.{Label}
use Rattle.mrpc_table.specs.declared.table.Label.TheVariants.{Plain, Optional, Repeated, Map, Member}
use Rattle.mrpc_table.specs.declared.table.Field.{Field}
use Rattle.mrpc_table.specs.declared.table.Message.{Message}
use Rattle.mrpc_table.specs.declared.table.Table.{Table}
use Rattle.wire_base.specs.Records.{IsVarint, IsVarintAt, IsPayloadAt, IsRecordAt, IsWireFaultAt, no_tag, tag_range, number_zero, wire_type, no_payload, no_varint, IsWireType}
use Rattle.wire_base.specs.declared.records.Record.{Record}
use Rattle.wire_base.specs.declared.records.Payload.{Payload}
use Rattle.wire_base.specs.declared.records.Payload.TheVariants.{Varint, I64, I32, Len}
use Rattle.wire_base.specs.declared.fault.WireFault.{WireFault}
use Rattle.wire_base.specs.declared.fault.WireReason.TheVariants as wire
use Rattle.wire_decode.specs.Words.{AreElements}
use Rattle.wire_decode.specs.Known.{entry_fields}
use Rattle.wire_decode.specs.Meaning as rule
use Rattle.wire_decode.specs.Meaning.{single, packed, delimited, MeansIn, means_in, HaveValues, no_more, known}
use Rattle.wire_decode.specs.Meaning.{a_number, a_piece, a_message, an_entry, no_field}
use Rattle.wire_decode.specs.Meaning.{one_field, FieldMeans, no_value, one_message, elements, entries}
use Rattle.wire_decode.specs.Meaning.{of_number, of_piece, no_items as none_left, more_items}
use Rattle.wire_decode.specs.Meaning.{no_entries, more_entries}
use Rattle.wire_decode.specs.Faults.{HasPayload, IsFirstFaultFrom, first_fault, no_record_there, not_whole_elements, not_utf8, message_too_deep, inside_message, IsFirstDecodeFault, is_skipped}
use Rattle.wire_decode.specs.Reason.{decode_reason_of}
use Rattle.wire_decode.specs.declared.fault.DecodeReason.{DecodeReason}
use Rattle.wire_decode.specs.declared.fault.DecodeReason.TheVariants as why

abbrev a_field : ℕ → Kind → Label → Field
a_field n k l = record { number = n; name = 97 ∷ []; kind = k; label = l }

abbrev a_message_of : List Field → Message
a_message_of fs = record { name = 77 ∷ []; fields = fs; oneofs = (99 ∷ []) ∷ [] }

abbrev a_table : List Message → Table
a_table ms = record { messages = ms; enums = []; methods = [] }

-- a varint of one byte
byte_at : (bytes : List ℕ) (at next v : ℕ) → next ≤ length bytes → slice_range bytes at next ≡ v ∷ [] → v < 128 → IsVarintAt bytes at v next
byte_at bytes at next v within is small = record {
  within = within;
  spelled = subst (λ (xs : List ℕ). IsVarint xs v) (sym is) (record { form = small; short = omega arith; value = omega arith });
}

-- a record of a tag of one byte, and a number of one byte or a payload
abbrev number_record : ℕ → ℕ → ℕ → Record
number_record n v next = record { number = n; payload = Varint v; next = next }

abbrev payload_record : ℕ → ℕ → ℕ → Record
payload_record n start end = record { number = n; payload = Len start end; next = end }

number_at : (bytes : List ℕ) (at n v : ℕ) → at + 2 ≤ length bytes → slice_range bytes at (at + 1) ≡ (8 * n) ∷ []
    → slice_range bytes (at + 1) (at + 2) ≡ v ∷ [] → 0 < n → 8 * n < 128 → v < 128
    → IsRecordAt bytes at (number_record n v (at + 2))
number_at bytes at n v within tag is positive small less = record {
  tag = 8 * n;
  start = at + 1;
  tagged = record { stands = byte_at bytes at (at + 1) (8 * n) (omega (arith, within)) tag small; small = omega (arith, small); numbered = λ e. omega (arith, e, positive) };
  number = omega arith;
  payload = (omega arith, byte_at bytes (at + 1) (at + 2) v within is less);
}

payload_at : (bytes : List ℕ) (at n len end : ℕ) → end ≡ at + 2 + len → end ≤ length bytes
    → slice_range bytes at (at + 1) ≡ (8 * n + 2) ∷ [] → slice_range bytes (at + 1) (at + 2) ≡ len ∷ [] → 0 < n
    → 8 * n + 2 < 128 → len < 128
    → IsRecordAt bytes at (payload_record n (at + 2) end)
payload_at bytes at n len end ends within tag is positive small less = record {
  tag = 8 * n + 2;
  start = at + 1;
  tagged = record { stands = byte_at bytes at (at + 1) (8 * n + 2) (omega (arith, within, ends)) tag small; small = omega (arith, small); numbered = λ e. omega (arith, e, positive) };
  number = omega arith;
  payload = (omega arith, len, byte_at bytes (at + 1) (at + 2) len (omega (arith, within, ends)) is less, ends, within, refl);
}

-- the last one wins
abbrev twice : List ℕ
twice = 8 ∷ 5 ∷ 8 ∷ 1 ∷ []

abbrev a_number_field : Field
a_number_field = a_field 1 Uint64 Plain

two_values : (T : Table) (room : ℕ) → HaveValues T room (a_number_field ∷ []) twice (number_record 1 5 2 ∷ number_record 1 1 4 ∷ []) ((1, single 5) ∷ (1, single 1) ∷ [])
two_values T room =
    known (number_record 1 5 2) (number_record 1 1 4 ∷ []) a_number_field (single 5) ((1, single 1) ∷ []) refl refl (a_number refl refl refl refl)
    (known (number_record 1 1 4) [] a_number_field (single 1) [] refl refl (a_number refl refl refl refl) (no_more refl refl) refl) refl

last_wins : (T : Table) (room : ℕ) → MeansIn T room (a_number_field ∷ []) twice (field 1 (one (number 1)) no_fields)
last_wins T room =
    means_in (number_record 1 5 2 ∷ number_record 1 1 4 ∷ []) ((1, single 5) ∷ (1, single 1) ∷ []) (
      number_at twice 0 1 5 (omega arith) refl refl (omega arith) (omega arith) (omega arith),
      (number_at twice 2 1 1 (omega arith) refl refl (omega arith) (omega arith) (omega arith), refl),
    )
    (two_values T room)
    (one_field a_number_field [] (Some (one (number 1))) no_fields refl
    (rule.last_value (single 5 ∷ []) (single 1) (number 1) refl refl refl (of_number 1 refl refl) refl) (no_field refl refl) refl)

-- a default is left out
abbrev zero_last : List ℕ
zero_last = 8 ∷ 5 ∷ 8 ∷ 0 ∷ []

default_is_nothing : (T : Table) (room : ℕ) → MeansIn T room (a_number_field ∷ []) zero_last no_fields
default_is_nothing T room =
    means_in (number_record 1 5 2 ∷ number_record 1 0 4 ∷ []) ((1, single 5) ∷ (1, single 0) ∷ []) (
      number_at zero_last 0 1 5 (omega arith) refl refl (omega arith) (omega arith) (omega arith),
      (number_at zero_last 2 1 0 (omega arith) refl refl (omega arith) (omega arith) (omega arith), refl),
    )
    (known (number_record 1 5 2) (number_record 1 0 4 ∷ []) a_number_field (single 5) ((1, single 0) ∷ []) refl refl (a_number refl refl refl refl)
    (known (number_record 1 0 4) [] a_number_field (single 0) [] refl refl (a_number refl refl refl refl) (no_more refl refl) refl) refl)
    (one_field a_number_field [] None no_fields refl
    (rule.last_value (single 5 ∷ []) (single 0) (number 0) refl refl refl (of_number 0 refl refl) refl) (no_field refl refl) refl)

-- a varint of ten bytes: -2
abbrev minus_two : List ℕ
minus_two = 8 ∷ 254 ∷ 255 ∷ 255 ∷ 255 ∷ 255 ∷ 255 ∷ 255 ∷ 255 ∷ 255 ∷ 1 ∷ []

abbrev a_signed_field : Field
a_signed_field = a_field 1 Int32 Plain

abbrev minus_two_record : Record
minus_two_record = record { number = 1; payload = Varint (2 ^ 64 - 2); next = 11 }

ten_bytes : IsVarintAt minus_two 1 (2 ^ 64 - 2) 11
ten_bytes = record {
  within = omega arith;
  spelled = record {
    form = (omega arith, (omega arith, (omega arith, (omega arith, (omega arith, (omega arith, (omega arith, (omega arith, (omega arith, omega arith)))))))));
    short = omega arith;
    value = refl;
  };
}

long_varint : (T : Table) (room : ℕ) → MeansIn T room (a_signed_field ∷ []) minus_two (field 1 (one (number (2 ^ 64 - 2))) no_fields)
long_varint T room =
    means_in (minus_two_record ∷ []) ((1, single (2 ^ 64 - 2)) ∷ []) (
      record {
        tag = 8;
        start = 1;
        tagged = record { stands = byte_at minus_two 0 1 8 (omega arith) refl (omega arith); small = omega arith; numbered = λ e. omega (arith, e) };
        number = refl;
        payload = (refl, ten_bytes);
      },
      refl,
    )
    (known minus_two_record [] a_signed_field (single (2 ^ 64 - 2)) [] refl refl (a_number refl refl refl refl) (no_more refl refl) refl)
    (one_field a_signed_field [] (Some (one (number (2 ^ 64 - 2)))) no_fields refl
    (rule.last_value [] (single (2 ^ 64 - 2)) (number (2 ^ 64 - 2)) refl refl refl (of_number (2 ^ 64 - 2) refl refl) refl) (no_field refl refl) refl)

-- a packed payload, and a number by itself, of one repeated field
abbrev both_forms : List ℕ
both_forms = 50 ∷ 2 ∷ 3 ∷ 4 ∷ 48 ∷ 5 ∷ []

abbrev a_list_field : Field
a_list_field = a_field 6 Uint64 Repeated

piece : AreElements Uint64 (3 ∷ 4 ∷ []) 0 (3 ∷ 4 ∷ [])
piece = (
  Varint 3,
  1,
  (refl, byte_at (3 ∷ 4 ∷ []) 0 1 3 (omega arith) refl (omega arith)),
  refl,
  (Varint 4, 2, (refl, byte_at (3 ∷ 4 ∷ []) 1 2 4 (omega arith) refl (omega arith)), refl, refl),
)

packed_and_not : (T : Table) (room : ℕ) → MeansIn T room (a_list_field ∷ []) both_forms (field 6 (many (item (number 3) (item (number 4) (item (number 5) no_items)))) no_fields)
packed_and_not T room =
    means_in (payload_record 6 2 4 ∷ number_record 6 5 6 ∷ []) ((6, packed (3 ∷ 4 ∷ [])) ∷ (6, single 5) ∷ []) (
      payload_at both_forms 0 6 2 4 refl (omega arith) refl refl (omega arith) (omega arith) (omega arith),
      (number_at both_forms 4 6 5 (omega arith) refl refl (omega arith) (omega arith) (omega arith), refl),
    )
    (known (payload_record 6 2 4) (number_record 6 5 6 ∷ []) a_list_field (packed (3 ∷ 4 ∷ [])) ((6, single 5) ∷ []) refl refl (a_piece 2 4 (3 ∷ 4 ∷ []) refl refl piece refl)
    (known (number_record 6 5 6) [] a_list_field (single 5) [] refl refl (a_number refl refl refl refl) (no_more refl refl) refl) refl)
    (one_field a_list_field [] (Some (many (item (number 3) (item (number 4) (item (number 5) no_items))))) no_fields refl
    (elements (number 3 ∷ number 4 ∷ number 5 ∷ []) refl
    (more_items (packed (3 ∷ 4 ∷ [])) (single 5 ∷ []) (number 3 ∷ number 4 ∷ []) (number 5 ∷ []) refl (of_piece (3 ∷ 4 ∷ []) refl refl)
    (more_items (single 5) [] (number 5 ∷ []) [] refl (of_number 5 refl refl) (none_left refl refl) refl) refl) refl) (no_field refl refl) refl)

-- ---- a oneof of a message N and a number: N has two numbers
abbrev choice : Table
choice = a_table (a_message_of (a_field 1 (OfMessage 1) (Member 0) ∷ a_field 2 Uint64 (Member 0) ∷ []) ∷ a_message_of (a_field 1 Uint64 Plain ∷ a_field 2 Uint64 Plain ∷ []) ∷ [])

abbrev the_message : Field
the_message = a_field 1 (OfMessage 1) (Member 0)

abbrev the_number : Field
the_number = a_field 2 Uint64 (Member 0)

abbrev first : Field
first = a_field 1 Uint64 Plain

abbrev second : Field
second = a_field 2 Uint64 Plain

absent : (room : ℕ) (label : Label) (k : Kind) → FieldMeans choice room label k [] None
absent room label k = no_value refl refl

one_is : (T : Table) (room : ℕ) → FieldMeans T room Plain Uint64 (single 1 ∷ []) (Some (one (number 1)))
one_is T room = rule.last_value [] (single 1) (number 1) refl refl refl (of_number 1 refl refl) refl

two_is : (T : Table) (room : ℕ) → FieldMeans T room Plain Uint64 (single 2 ∷ []) (Some (one (number 2)))
two_is T room = rule.last_value [] (single 2) (number 2) refl refl refl (of_number 2 refl refl) refl

-- the payloads: the first number is 1, the second is 2, and both
has_first : (room : ℕ) → MeansIn choice room (fields_of choice 1) (8 ∷ 1 ∷ []) (field 1 (one (number 1)) no_fields)
has_first room =
    means_in (number_record 1 1 2 ∷ []) ((1, single 1) ∷ []) (number_at (8 ∷ 1 ∷ []) 0 1 1 (omega arith) refl refl (omega arith) (omega arith) (omega arith), refl)
    (known (number_record 1 1 2) [] first (single 1) [] refl refl (a_number refl refl refl refl) (no_more refl refl) refl)
    (one_field first (second ∷ []) (Some (one (number 1))) no_fields refl (one_is choice room)
    (one_field second [] None no_fields refl (absent room Plain Uint64) (no_field refl refl) refl) refl)

has_second : (room : ℕ) → MeansIn choice room (fields_of choice 1) (16 ∷ 2 ∷ []) (field 2 (one (number 2)) no_fields)
has_second room =
    means_in (number_record 2 2 2 ∷ []) ((2, single 2) ∷ []) (number_at (16 ∷ 2 ∷ []) 0 2 2 (omega arith) refl refl (omega arith) (omega arith) (omega arith), refl)
    (known (number_record 2 2 2) [] second (single 2) [] refl refl (a_number refl refl refl refl) (no_more refl refl) refl)
    (one_field first (second ∷ []) None (field 2 (one (number 2)) no_fields) refl (absent room Plain Uint64)
    (one_field second [] (Some (one (number 2))) no_fields refl (two_is choice room) (no_field refl refl) refl) refl)

has_both : (room : ℕ) → MeansIn choice room (fields_of choice 1) (8 ∷ 1 ∷ 16 ∷ 2 ∷ []) (field 1 (one (number 1)) (field 2 (one (number 2)) no_fields))
has_both room =
    means_in (number_record 1 1 2 ∷ number_record 2 2 4 ∷ []) ((1, single 1) ∷ (2, single 2) ∷ []) (
      number_at (8 ∷ 1 ∷ 16 ∷ 2 ∷ []) 0 1 1 (omega arith) refl refl (omega arith) (omega arith) (omega arith),
      (
        number_at (8 ∷ 1 ∷ 16 ∷ 2 ∷ []) 2 2 2 (omega arith) refl refl (omega arith) (omega arith) (omega arith),
        refl,
      ),
    )
    (known (number_record 1 1 2) (number_record 2 2 4 ∷ []) first (single 1) ((2, single 2) ∷ []) refl refl (a_number refl refl refl refl)
    (known (number_record 2 2 4) [] second (single 2) [] refl refl (a_number refl refl refl refl) (no_more refl refl) refl) refl)
    (one_field first (second ∷ []) (Some (one (number 1))) (field 2 (one (number 2)) no_fields) refl (one_is choice room)
    (one_field second [] (Some (one (number 2))) no_fields refl (two_is choice room) (no_field refl refl) refl) refl)

-- a run of messages is read as one
abbrev run_bytes : List ℕ
run_bytes = 10 ∷ 2 ∷ 8 ∷ 1 ∷ 10 ∷ 2 ∷ 16 ∷ 2 ∷ []

one_run : MeansIn choice 31 (fields_of choice 0) run_bytes (field 1 (one (node (field 1 (one (number 1)) (field 2 (one (number 2)) no_fields)))) no_fields)
one_run =
    means_in (payload_record 1 2 4 ∷ payload_record 1 6 8 ∷ []) ((1, delimited (8 ∷ 1 ∷ [])) ∷ (1, delimited (16 ∷ 2 ∷ [])) ∷ []) (
      payload_at run_bytes 0 1 2 4 refl (omega arith) refl refl (omega arith) (omega arith) (omega arith),
      (payload_at run_bytes 4 1 2 8 refl (omega arith) refl refl (omega arith) (omega arith) (omega arith), refl),
    )
    (known (payload_record 1 2 4) (payload_record 1 6 8 ∷ []) the_message (delimited (8 ∷ 1 ∷ []))
    ((1, delimited (16 ∷ 2 ∷ [])) ∷ []) refl refl
    (a_message 1 30 2 4 (field 1 (one (number 1)) no_fields) refl refl refl refl (has_first 30) refl)
    (known (payload_record 1 6 8) [] the_message (delimited (16 ∷ 2 ∷ [])) [] refl refl
    (a_message 1 30 6 8 (field 2 (one (number 2)) no_fields) refl refl refl refl (has_second 30) refl)
    (no_more refl refl) refl) refl)
    (one_field the_message (the_number ∷ []) (Some (one (node (field 1 (one (number 1)) (field 2 (one (number 2)) no_fields))))) no_fields refl
    (one_message 1 30 (field 1 (one (number 1)) (field 2 (one (number 2)) no_fields)) refl refl refl (λ e. cc) (has_both 30) refl)
    (one_field the_number [] None no_fields refl (absent 31 (Member 0) Uint64) (no_field refl refl) refl) refl)

-- records before another member's record are dropped
abbrev broken_bytes : List ℕ
broken_bytes = 10 ∷ 2 ∷ 8 ∷ 1 ∷ 16 ∷ 3 ∷ 10 ∷ 2 ∷ 16 ∷ 2 ∷ []

broken_run : MeansIn choice 31 (fields_of choice 0) broken_bytes (field 1 (one (node (field 2 (one (number 2)) no_fields))) no_fields)
broken_run =
    means_in (payload_record 1 2 4 ∷ number_record 2 3 6 ∷ payload_record 1 8 10 ∷ []) ((1, delimited (8 ∷ 1 ∷ [])) ∷ (2, single 3) ∷ (1, delimited (16 ∷ 2 ∷ [])) ∷ []) (
      payload_at broken_bytes 0 1 2 4 refl (omega arith) refl refl (omega arith) (omega arith) (omega arith),
      (
        number_at broken_bytes 4 2 3 (omega arith) refl refl (omega arith) (omega arith) (omega arith),
        (
          payload_at broken_bytes 6 1 2 10 refl (omega arith) refl refl (omega arith) (omega arith) (omega arith),
          refl,
        ),
      ),
    )
    (known (payload_record 1 2 4) (number_record 2 3 6 ∷ payload_record 1 8 10 ∷ []) the_message
    (delimited (8 ∷ 1 ∷ [])) ((2, single 3) ∷ (1, delimited (16 ∷ 2 ∷ [])) ∷ []) refl refl
    (a_message 1 30 2 4 (field 1 (one (number 1)) no_fields) refl refl refl refl (has_first 30) refl)
    (known (number_record 2 3 6) (payload_record 1 8 10 ∷ []) the_number (single 3) ((1, delimited (16 ∷ 2 ∷ [])) ∷ []) refl refl (a_number refl refl refl refl)
    (known (payload_record 1 8 10) [] the_message (delimited (16 ∷ 2 ∷ [])) [] refl refl
    (a_message 1 30 8 10 (field 2 (one (number 2)) no_fields) refl refl refl refl (has_second 30) refl)
    (no_more refl refl) refl) refl) refl)
    (one_field the_message (the_number ∷ []) (Some (one (node (field 2 (one (number 2)) no_fields)))) no_fields refl
    (one_message 1 30 (field 2 (one (number 2)) no_fields) refl refl refl (λ e. cc) (has_second 30) refl)
    (one_field the_number [] None no_fields refl (absent 31 (Member 0) Uint64) (no_field refl refl) refl) refl)

-- the other member is the last
abbrev other_bytes : List ℕ
other_bytes = 10 ∷ 2 ∷ 8 ∷ 1 ∷ 16 ∷ 3 ∷ []

other_member : MeansIn choice 31 (fields_of choice 0) other_bytes (field 2 (one (number 3)) no_fields)
other_member =
    means_in (payload_record 1 2 4 ∷ number_record 2 3 6 ∷ []) ((1, delimited (8 ∷ 1 ∷ [])) ∷ (2, single 3) ∷ []) (
      payload_at other_bytes 0 1 2 4 refl (omega arith) refl refl (omega arith) (omega arith) (omega arith),
      (number_at other_bytes 4 2 3 (omega arith) refl refl (omega arith) (omega arith) (omega arith), refl),
    )
    (known (payload_record 1 2 4) (number_record 2 3 6 ∷ []) the_message (delimited (8 ∷ 1 ∷ []))
    ((2, single 3) ∷ []) refl refl (a_message 1 30 2 4 (field 1 (one (number 1)) no_fields) refl refl refl refl
    (has_first 30) refl)
    (known (number_record 2 3 6) [] the_number (single 3) [] refl refl (a_number refl refl refl refl) (no_more refl refl) refl) refl)
    (one_field the_message (the_number ∷ []) None (field 2 (one (number 3)) no_fields) refl (absent 31 (Member 0) (OfMessage 1))
    (one_field the_number [] (Some (one (number 3))) no_fields refl (rule.last_value [] (single 3) (number 3) refl refl refl (of_number 3 refl refl) refl) (no_field refl refl) refl) refl)

-- ---- a map: the last of equal keys counts, and a missing value is the default
abbrev map_bytes : List ℕ
map_bytes = 26 ∷ 4 ∷ 8 ∷ 5 ∷ 16 ∷ 1 ∷ 26 ∷ 2 ∷ 8 ∷ 5 ∷ []

abbrev a_map_field : Field
a_map_field = a_field 3 Uint64 (Map Int32)

abbrev a_key : Field
a_key = record { number = 1; name = []; kind = Int32; label = Optional }

abbrev a_value : Field
a_value = record { number = 2; name = []; kind = Uint64; label = Optional }

abbrev full_entry : Node
full_entry = field 1 (one (number 5)) (field 2 (one (number 1)) no_fields)

abbrev key_alone : Node
key_alone = field 1 (one (number 5)) no_fields

has_key_and_value : (T : Table) (room : ℕ) → MeansIn T room (entry_fields Int32 Uint64) (8 ∷ 5 ∷ 16 ∷ 1 ∷ []) full_entry
has_key_and_value T room =
    means_in (number_record 1 5 2 ∷ number_record 2 1 4 ∷ []) ((1, single 5) ∷ (2, single 1) ∷ []) (
      number_at (8 ∷ 5 ∷ 16 ∷ 1 ∷ []) 0 1 5 (omega arith) refl refl (omega arith) (omega arith) (omega arith),
      (
        number_at (8 ∷ 5 ∷ 16 ∷ 1 ∷ []) 2 2 1 (omega arith) refl refl (omega arith) (omega arith) (omega arith),
        refl,
      ),
    )
    (known (number_record 1 5 2) (number_record 2 1 4 ∷ []) a_key (single 5) ((2, single 1) ∷ []) refl refl (a_number refl refl refl refl)
    (known (number_record 2 1 4) [] a_value (single 1) [] refl refl (a_number refl refl refl refl) (no_more refl refl) refl) refl)
    (one_field a_key (a_value ∷ []) (Some (one (number 5))) (field 2 (one (number 1)) no_fields) refl (rule.last_value [] (single 5) (number 5) refl refl refl (of_number 5 refl refl) refl)
    (one_field a_value [] (Some (one (number 1))) no_fields refl (rule.last_value [] (single 1) (number 1) refl refl refl (of_number 1 refl refl) refl) (no_field refl refl) refl) refl)

has_key : (T : Table) (room : ℕ) → MeansIn T room (entry_fields Int32 Uint64) (8 ∷ 5 ∷ []) key_alone
has_key T room =
    means_in (number_record 1 5 2 ∷ []) ((1, single 5) ∷ []) (number_at (8 ∷ 5 ∷ []) 0 1 5 (omega arith) refl refl (omega arith) (omega arith) (omega arith), refl)
    (known (number_record 1 5 2) [] a_key (single 5) [] refl refl (a_number refl refl refl refl) (no_more refl refl) refl)
    (one_field a_key (a_value ∷ []) (Some (one (number 5))) no_fields refl (rule.last_value [] (single 5) (number 5) refl refl refl (of_number 5 refl refl) refl)
    (one_field a_value [] None no_fields refl (no_value refl refl) (no_field refl refl) refl) refl)

equal_keys : (T : Table) (room : ℕ) → MeansIn T room (a_map_field ∷ []) map_bytes (field 3 (pairs (pair (number 5) (number 0) no_pairs)) no_fields)
equal_keys T room =
    means_in (payload_record 3 2 6 ∷ payload_record 3 8 10 ∷ []) ((3, delimited (8 ∷ 5 ∷ 16 ∷ 1 ∷ [])) ∷ (3, delimited (8 ∷ 5 ∷ [])) ∷ []) (
      payload_at map_bytes 0 3 4 6 refl (omega arith) refl refl (omega arith) (omega arith) (omega arith),
      (payload_at map_bytes 6 3 2 10 refl (omega arith) refl refl (omega arith) (omega arith) (omega arith), refl),
    )
    (known (payload_record 3 2 6) (payload_record 3 8 10 ∷ []) a_map_field (delimited (8 ∷ 5 ∷ 16 ∷ 1 ∷ [])) ((3, delimited (8 ∷ 5 ∷ [])) ∷ []) refl refl
    (an_entry Int32 2 6 full_entry refl refl (has_key_and_value T room) (λ e. absurd (cc)) refl)
    (known (payload_record 3 8 10) [] a_map_field (delimited (8 ∷ 5 ∷ [])) [] refl refl
    (an_entry Int32 8 10 key_alone refl refl (has_key T room) (λ e. absurd (cc)) refl) (no_more refl refl) refl) refl)
    (one_field a_map_field [] (Some (pairs (pair (number 5) (number 0) no_pairs))) no_fields refl
    (entries Int32 ((number 5, number 1) ∷ (number 5, number 0) ∷ []) refl
    (more_entries (8 ∷ 5 ∷ 16 ∷ 1 ∷ []) full_entry (delimited (8 ∷ 5 ∷ []) ∷ []) ((number 5, number 0) ∷ []) refl (has_key_and_value T room)
    (more_entries (8 ∷ 5 ∷ []) key_alone [] [] refl (has_key T room) (no_entries refl refl) refl) refl) refl) (no_field refl refl) refl)

-- ---- one string for each reason of a first fault

abbrev plain_table : Table
plain_table = a_table (a_message_of (a_field 1 (OfMessage 0) Plain ∷ a_field 2 Text Plain ∷ a_field 4 Fixed32 Repeated ∷ []) ∷ [])

-- the record at the start is at fault
at_start : (bytes : List ℕ) (f : WireFault) (reason : DecodeReason) → 0 < length bytes → IsWireFaultAt bytes 0 f
    → reason ≡ decode_reason_of f.reason → IsFirstDecodeFault plain_table 0 bytes reason f.place
at_start bytes f reason more fault is = first_fault [] 0 refl (no_record_there f more fault is refl)

abbrev ten_high : List ℕ
ten_high = 128 ∷ 128 ∷ 128 ∷ 128 ∷ 128 ∷ 128 ∷ 128 ∷ 128 ∷ 128 ∷ 128 ∷ []

abbrev IsHigh : ℕ → Type 0
IsHigh b = 128 ≤ b

high : (n : ℕ) (bs : List ℕ) → 128 ≤ n → All IsHigh bs → All IsHigh (n ∷ bs)
high n bs h more = All-cons IsHigh n bs h more

ten_are_high : All IsHigh ten_high
ten_are_high = (high 128 (128 ∷ 128 ∷ 128 ∷ 128 ∷ 128 ∷ 128 ∷ 128 ∷ 128 ∷ 128 ∷ []) (omega arith)
    (high 128 (128 ∷ 128 ∷ 128 ∷ 128 ∷ 128 ∷ 128 ∷ 128 ∷ 128 ∷ []) (omega arith)
    (high 128 (128 ∷ 128 ∷ 128 ∷ 128 ∷ 128 ∷ 128 ∷ 128 ∷ []) (omega arith)
    (high 128 (128 ∷ 128 ∷ 128 ∷ 128 ∷ 128 ∷ 128 ∷ []) (omega arith)
    (high 128 (128 ∷ 128 ∷ 128 ∷ 128 ∷ 128 ∷ []) (omega arith)
    (high 128 (128 ∷ 128 ∷ 128 ∷ 128 ∷ []) (omega arith)
    (high 128 (128 ∷ 128 ∷ 128 ∷ []) (omega arith)
    (high 128 (128 ∷ 128 ∷ []) (omega arith)
    (high 128 (128 ∷ []) (omega arith) (high 128 ([]) (omega arith) (All-nil IsHigh)))))))))))

varint_too_long : IsFirstDecodeFault plain_table 0 ten_high why.Varint 0
varint_too_long = at_start ten_high (record { reason = wire.Varint; place = 0 }) why.Varint (omega arith) (no_tag refl (record { ten = omega arith; top = ten_are_high })) refl

-- the tag is 2^32
abbrev wide_tag : List ℕ
wide_tag = 128 ∷ 128 ∷ 128 ∷ 128 ∷ 16 ∷ []

tag_out_of_range : IsFirstDecodeFault plain_table 0 wide_tag why.TagRange 0
tag_out_of_range = at_start wide_tag (record { reason = wire.TagRange; place = 0 }) why.TagRange (omega arith)
    (tag_range (2 ^ 32) 5 refl refl (record {
      within = omega arith;
      spelled = record {
        form = (omega arith, (omega arith, (omega arith, (omega arith, omega arith))));
        short = omega arith;
        value = refl;
      };
    }) (omega arith)) refl

number_is_zero : IsFirstDecodeFault plain_table 0 (0 ∷ []) why.NumberZero 0
number_is_zero = at_start (0 ∷ []) (record { reason = wire.NumberZero; place = 0 }) why.NumberZero (omega arith)
    (number_zero 0 1 refl refl (byte_at (0 ∷ []) 0 1 0 (omega arith) refl (omega arith)) (omega arith) refl) refl

-- the wire type is 3
not_three : IsWireType 3 → ⊥
not_three h = ⊎_elim (λ e. omega (arith, e)) (λ t. ⊎_elim (λ e. omega (arith, e)) (λ u. ⊎_elim (λ e. omega (arith, e)) (λ e. omega (arith, e)) u) t) h

wire_type_unknown : IsFirstDecodeFault plain_table 0 (11 ∷ []) why.WireType 0
wire_type_unknown = at_start (11 ∷ []) (record { reason = wire.WireType; place = 0 }) why.WireType (omega arith)
    (wire_type 11 1 refl refl (record { stands = byte_at (11 ∷ []) 0 1 11 (omega arith) refl (omega arith); small = omega arith; numbered = λ e. omega (arith, e) }) not_three) refl

-- the bytes end after the tag
bytes_end : IsFirstDecodeFault plain_table 0 (8 ∷ []) why.Short 1
bytes_end = at_start (8 ∷ []) (record { reason = wire.Short; place = 1 }) why.Short (omega arith)
    (no_payload 8 1 refl (record { stands = byte_at (8 ∷ []) 0 1 8 (omega arith) refl (omega arith); small = omega arith; numbered = λ e. omega (arith, e) })
    (no_varint refl (record { fewer = omega arith; top = All-nil IsHigh }))) refl

-- a valid record, followed by a string of the byte 255
abbrev bad_text : List ℕ
bad_text = 8 ∷ 1 ∷ 18 ∷ 1 ∷ 255 ∷ []

not_text_test : is_utf8 (255 ∷ []) ≡ false
unfolding is_utf8 chars
not_text_test = refl

not_text : IsUtf8 (255 ∷ []) → ⊥
not_text h = (let e : true ≡ false = sym (is_utf8-from_IsUtf8 (255 ∷ []) h) ∙ not_text_test in cc)

text_is_not_utf8 : IsFirstDecodeFault plain_table 0 bad_text why.Utf8 4
text_is_not_utf8 =
    first_fault (number_record 1 1 2 ∷ []) 2 (number_at bad_text 0 1 1 (omega arith) refl refl (omega arith) (omega arith) (omega arith), is_skipped refl, refl)
    (not_utf8 (a_field 2 Text Plain) 5 (record {
      number = 2;
      next = 5;
      stands = payload_at bad_text 2 2 1 5 refl (omega arith) refl refl (omega arith) (omega arith) (omega arith);
      known = refl;
    }) refl refl not_text refl)

-- three bytes of packed numbers of four bytes
abbrev cut_piece : List ℕ
cut_piece = 34 ∷ 3 ∷ 1 ∷ 2 ∷ 3 ∷ []

no_elements_there : (ns : List ℕ) → AreElements Fixed32 (1 ∷ 2 ∷ 3 ∷ []) 0 ns → ⊥
no_elements_there [] h = omega (arith, h)
no_elements_there (n ∷ ns) h = go h.0 h.1 h.2
  where
    go : (p : Payload) (next : ℕ) → IsPayloadAt (1 ∷ 2 ∷ 3 ∷ []) 0 5 p next → ⊥
    go (Varint v) next e = omega (arith, e.0)
    go (I64 v) next e = omega (arith, e.0)
    go (I32 v) next e = omega (arith, e.1, e.2)
    go (Len s t) next e = omega (arith, e.0)

piece_is_not_whole : IsFirstDecodeFault plain_table 0 cut_piece why.PackedLength 2
piece_is_not_whole =
    first_fault [] 0 refl
    (not_whole_elements (a_field 4 Fixed32 Repeated) 5 (record {
      number = 4;
      next = 5;
      stands = payload_at cut_piece 0 4 3 5 refl (omega arith) refl refl (omega arith) (omega arith) (omega arith);
      known = refl;
    }) refl no_elements_there refl)

-- thirty-two nested messages in the message: the innermost is at depth 33
abbrev nested : List ℕ
nested = 10 ∷ 62 ∷ 10 ∷ 60 ∷ 10 ∷ 58 ∷ 10 ∷ 56 ∷ 10 ∷ 54 ∷ 10 ∷ 52 ∷ 10 ∷ 50 ∷ 10 ∷ 48 ∷ 10 ∷ 46 ∷ 10 ∷ 44 ∷ 10 ∷ 42
    ∷ 10 ∷ 40 ∷ 10 ∷ 38 ∷ 10 ∷ 36 ∷ 10 ∷ 34 ∷ 10 ∷ 32 ∷ 10 ∷ 30 ∷ 10 ∷ 28 ∷ 10 ∷ 26 ∷ 10 ∷ 24 ∷ 10 ∷ 22 ∷ 10 ∷ 20 ∷ 10
    ∷ 18 ∷ 10 ∷ 16 ∷ 10 ∷ 14 ∷ 10 ∷ 12 ∷ 10 ∷ 10 ∷ 10 ∷ 8 ∷ 10 ∷ 6 ∷ 10 ∷ 4 ∷ 10 ∷ 2 ∷ 10 ∷ 0 ∷ []

abbrev inner : Field
inner = a_field 1 (OfMessage 0) Plain

nested_payload : (at start len : ℕ) → start ≡ at + 2 → 64 ≡ at + 2 + len → slice_range nested at (at + 1) ≡ 10 ∷ []
    → slice_range nested (at + 1) (at + 2) ≡ len ∷ [] → len < 128
    → HasPayload (fields_of plain_table 0) nested at inner start 64
nested_payload at start len start_is ends tag is less =
    subst (λ (x : ℕ). HasPayload (fields_of plain_table 0) nested at inner x 64) (sym start_is)
    (record { number = 1; next = 64; stands = payload_at nested at 1 len 64 ends (omega arith) tag is (omega arith) (omega arith) less; known = refl })

level : (room at start len : ℕ) → start ≡ at + 2 → 64 ≡ at + 2 + len → slice_range nested at (at + 1) ≡ 10 ∷ []
    → slice_range nested (at + 1) (at + 2) ≡ len ∷ [] → len < 128
    → IsFirstFaultFrom plain_table room (fields_of plain_table 0) nested start why.Depth 64 → IsFirstFaultFrom plain_table (suc room) (fields_of plain_table 0) nested at why.Depth 64
level room at start len start_is ends tag is less deeper =
    first_fault [] at refl (inside_message inner 0 room start 64 (nested_payload at start len start_is ends tag is less) refl refl refl deeper)

too_deep : IsFirstDecodeFault plain_table 0 nested why.Depth 64
too_deep =
    (level 30 0 2 62 refl refl refl refl (omega arith)
    (level 29 2 4 60 refl refl refl refl (omega arith)
    (level 28 4 6 58 refl refl refl refl (omega arith)
    (level 27 6 8 56 refl refl refl refl (omega arith)
    (level 26 8 10 54 refl refl refl refl (omega arith)
    (level 25 10 12 52 refl refl refl refl (omega arith)
    (level 24 12 14 50 refl refl refl refl (omega arith)
    (level 23 14 16 48 refl refl refl refl (omega arith)
    (level 22 16 18 46 refl refl refl refl (omega arith)
    (level 21 18 20 44 refl refl refl refl (omega arith)
    (level 20 20 22 42 refl refl refl refl (omega arith)
    (level 19 22 24 40 refl refl refl refl (omega arith)
    (level 18 24 26 38 refl refl refl refl (omega arith)
    (level 17 26 28 36 refl refl refl refl (omega arith)
    (level 16 28 30 34 refl refl refl refl (omega arith)
    (level 15 30 32 32 refl refl refl refl (omega arith)
    (level 14 32 34 30 refl refl refl refl (omega arith)
    (level 13 34 36 28 refl refl refl refl (omega arith)
    (level 12 36 38 26 refl refl refl refl (omega arith)
    (level 11 38 40 24 refl refl refl refl (omega arith)
    (level 10 40 42 22 refl refl refl refl (omega arith)
    (level 9 42 44 20 refl refl refl refl (omega arith)
    (level 8 44 46 18 refl refl refl refl (omega arith)
    (level 7 46 48 16 refl refl refl refl (omega arith)
    (level 6 48 50 14 refl refl refl refl (omega arith)
    (level 5 50 52 12 refl refl refl refl (omega arith)
    (level 4 52 54 10 refl refl refl refl (omega arith)
    (level 3 54 56 8 refl refl refl refl (omega arith)
    (level 2 56 58 6 refl refl refl refl (omega arith)
    (level 1 58 60 4 refl refl refl refl (omega arith)
    (level 0 60 62 2 refl refl refl refl (omega arith)
    (first_fault [] 62 refl (message_too_deep inner 0 64 (nested_payload 62 64 0 refl refl refl refl (omega arith)) refl refl refl refl))
    )))))))))))))))))))))))))))))))
