-- The definitions at known vectors: those of the encoding guide, and trees whose encodings were
-- worked out by hand.
use Rattle.std.proofs.Common.{◌≡◌, ℕ, ◌^◌, ◌-◌, ◌≤◌, List, [], ◌∷◌, ◌++◌, replicate, refl, arith, lit<, lit≤}
use Rattle.mrpc_table.specs.Node.{no_fields, field, one, many, pairs, number, run, no_items, item, no_pairs, pair}
use Rattle.mrpc_table.specs.declared.table.Kind.{Kind}
use Rattle.mrpc_table.specs.declared.table.Kind.TheVariants.{Int32, Sint32, Uint64, Text}
use Rattle.mrpc_table.specs.declared.table.Label.{Label}
use Rattle.mrpc_table.specs.declared.table.Label.TheVariants.{Plain, Optional, Packed, Map, Member}
use Rattle.mrpc_table.specs.declared.table.Field.{Field}
use Rattle.mrpc_table.specs.declared.table.Table.{Table}
use Rattle.wire_base.specs.Encoding.{varint, groups, zigzag_of, number_bytes, encoding}
use Rattle.wire_base.specs.Records.{IsVarint, IsRecordAt, IsWireFaultAt, IsTooLongAt, AreRecords, HasFirstFault, no_tag, no_payload, short_len}
use Rattle.std.proofs.lemmas.List.Elements.{All-replicate}
use Rattle.wire_base.specs.declared.records.Payload.TheVariants.{Varint, Len}
use Rattle.wire_base.specs.declared.fault.WireReason.TheVariants.{Varint as NoVarint, Short}

varint-150 : varint 150 ≡ 150 ∷ 1 ∷ []
unfolding varint groups
varint-150 = refl

varint-most : varint (2 ^ 64 - 1) ≡ replicate 9 255 ++ 1 ∷ []
unfolding varint groups
varint-most = refl

-- -2 as an int64
varint-minus_two : number_bytes Int32 (2 ^ 64 - 2) ≡ 254 ∷ replicate 8 255 ++ 1 ∷ []
unfolding varint groups
varint-minus_two = refl

zigzag-vectors : (zigzag_of 0 ∷ zigzag_of (2 ^ 64 - 1) ∷ zigzag_of 1 ∷ zigzag_of (2 ^ 64 - 2) ∷ zigzag_of 2147483647
    ∷ zigzag_of (2 ^ 64 - 2147483648) ∷ []) ≡ 0 ∷ 1 ∷ 2 ∷ 3 ∷ 4294967294 ∷ 4294967295 ∷ []
zigzag-vectors = refl

-- the guide's record of 150 in field 1
guide : IsRecordAt (8 ∷ 150 ∷ 1 ∷ []) 0 (record { number = 1; payload = Varint 150; next = 3 })
guide = record {
  tag = 8;
  start = 1;
  tagged = record { stands = record { within = lit≤ tt; spelled = record { form = lit< tt; short = lit≤ tt; value = refl } }; small = lit< tt; numbered = λ e. cc };
  number = refl;
  payload = (refl, record { within = lit≤ tt; spelled = record { form = (lit≤ tt, lit< tt); short = lit≤ tt; value = refl } });
}

-- the guide's record of "testing" in field 2
testing : AreRecords (18 ∷ 7 ∷ 116 ∷ 101 ∷ 115 ∷ 116 ∷ 105 ∷ 110 ∷ 103 ∷ []) (record { number = 2; payload = Len 2 9; next = 9 } ∷ [])
testing = (
  record {
    tag = 18;
    start = 1;
    tagged = record { stands = record { within = lit≤ tt; spelled = record { form = lit< tt; short = lit≤ tt; value = refl } }; small = lit< tt; numbered = λ e. cc };
    number = refl;
    payload = (refl, 7, record { within = lit≤ tt; spelled = record { form = lit< tt; short = lit≤ tt; value = refl } }, refl, lit≤ tt, refl);
  },
  refl,
)

-- ten bytes with the top bit set, and one that ends
too_long : IsTooLongAt (replicate 10 128 ++ 0 ∷ []) 0
too_long = record { ten = lit≤ tt; top = All-replicate (λ b. 128 ≤ b) 10 128 (lit≤ tt) }

eleven_bytes : IsWireFaultAt (replicate 10 128 ++ 0 ∷ []) 0 (record { reason = NoVarint; place = 0 })
eleven_bytes = no_tag refl too_long

-- the bytes end in the tag, and after a length of 2
ends_in_tag : IsWireFaultAt (128 ∷ 128 ∷ []) 0 (record { reason = Short; place = 0 })
ends_in_tag = no_tag refl (record { fewer = lit< tt; top = All-replicate (λ b. 128 ≤ b) 2 128 (lit≤ tt) })

ends_in_payload : HasFirstFault (0x08 ∷ 1 ∷ 0x12 ∷ 2 ∷ 65 ∷ []) (record { reason = Short; place = 3 })
ends_in_payload = record {
  before = record { number = 1; payload = Varint 1; next = 2 } ∷ [];
  first = (
    record {
      tag = 8;
      start = 1;
      tagged = record { stands = record { within = lit≤ tt; spelled = record { form = lit< tt; short = lit≤ tt; value = refl } }; small = lit< tt; numbered = λ e. cc };
      number = refl;
      payload = (refl, record { within = lit≤ tt; spelled = record { form = lit< tt; short = lit≤ tt; value = refl } });
    },
    (
      lit< tt,
      no_payload 18 3 refl
          (record { stands = record { within = lit≤ tt; spelled = record { form = lit< tt; short = lit≤ tt; value = refl } }; small = lit< tt; numbered = λ e. cc })
          (short_len 2 4 refl refl (record { within = lit≤ tt; spelled = record { form = lit< tt; short = lit≤ tt; value = refl } }) (lit< tt)),
    ),
  );
}

-- bits above 64 are dropped: only 1 bit of the tenth byte counts
dropped : IsVarint (replicate 9 255 ++ 127 ∷ []) (2 ^ 64 - 1)
dropped = record { form = search arith; short = lit≤ tt; value = refl }

-- a table with one message
abbrev table_of : List Field → Table
table_of fields = record { messages = record { name = 77 ∷ []; fields = fields; oneofs = (99 ∷ []) ∷ [] } ∷ []; enums = []; methods = [] }

abbrev field_of : ℕ → Label → Kind → Field
field_of n label kind = record { number = n; name = 97 ∷ []; kind = kind; label = label }

packed : encoding (table_of (field_of 6 Packed Uint64 ∷ [])) 0
    (field 6 (many (item (number 3) (item (number 270) (item (number 86942) no_items)))) no_fields) ≡ 0x32 ∷ 0x06
    ∷ 0x03 ∷ 0x8e ∷ 0x02 ∷ 0x9e ∷ 0xa7 ∷ 0x05 ∷ []
unfolding varint groups
packed = refl

signed : encoding (table_of (field_of 1 Plain Int32 ∷ field_of 2 Plain Sint32 ∷ field_of 3 Plain Uint64 ∷ [])) 0
    (field 1 (one (number (2 ^ 64 - 1)))
    (field 2 (one (number (2 ^ 64 - 1))) (field 3 (one (number (2 ^ 64 - 1))) no_fields))) ≡ 8 ∷ replicate 9 255 ++ 1
    ∷ 16 ∷ 1 ∷ 24 ∷ replicate 9 255 ++ 1 ∷ []
unfolding varint groups
signed = refl

present : encoding (table_of (field_of 1 Plain Uint64 ∷ field_of 2 Optional Uint64 ∷ field_of 3 (Member 0) Uint64
    ∷ field_of 4 (Member 0) Text ∷ [])) 0 (field 2 (one (number 0)) (field 3 (one (number 0)) no_fields)) ≡ 0x10 ∷ 0
    ∷ 0x18 ∷ 0 ∷ []
unfolding varint groups
present = refl

entries : encoding (table_of (field_of 1 (Map Uint64) Text ∷ [])) 0
    (field 1 (pairs (pair (number 1) (run []) (pair (number 5) (run (98 ∷ [])) no_pairs))) no_fields) ≡ 0x0a ∷ 4 ∷ 8
    ∷ 1 ∷ 0x12 ∷ 0 ∷ 0x0a ∷ 5 ∷ 8 ∷ 5 ∷ 0x12 ∷ 1 ∷ 0x62 ∷ []
unfolding varint groups
entries = refl
