-- Which records are read as fields of a message, and which message an entry of a map is read as.
use Rattle.std.specs.Prelude.{◌≡◌, ℕ, ◌<◌, Bool, true, false, List, [], ◌∷◌, option_map, unwrap_or}
use Rattle.mrpc_table.specs.Normal.{field_at}
use Rattle.mrpc_table.specs.declared.table.Kind.{Kind}
use Rattle.mrpc_table.specs.declared.table.Kind.TheVariants.{Message as OfMessage}
use Rattle.mrpc_table.specs.declared.table.Label.TheVariants.{Optional}
use Rattle.mrpc_table.specs.declared.table.Field.{Field}
use Rattle.wire_base.specs.declared.records.Record.{Record}
use Rattle.wire_decode.specs.Words.{accepts_payload}

-- whether a record is of a field of the message, and of a wire type from which that field is read
abbrev pub is_known_record : List Field → Record → Bool
is_known_record fs r = unwrap_or (option_map (λ f. accepts_payload f.label f.kind r.payload) (field_at fs r.number)) false

-- an entry of a map is a message with the key as field 1 and the value as field 2
abbrev pub entry_fields : Kind → Kind → List Field
entry_fields key k = record { number = 1; name = []; kind = key; label = Optional }
    ∷ record { number = 2; name = []; kind = k; label = Optional } ∷ []

-- whether values of the kind are messages
abbrev pub is_message_kind : Kind → Bool
is_message_kind (OfMessage i) = true
is_message_kind _ = false

-- if the value of a map is a message, one more level is allowed below the entry, so that the value or its default can
-- be there
abbrev pub HasRoom : ℕ → Kind → Type 0
HasRoom room k = is_message_kind k ≡ true → 0 < room
