-- Worked by hand: fates of small frames, as terms. The table has a message M with a field a, and a method Get of
-- the service S that uses it.
use Rattle.std.proofs.Common.{◌≡◌, ℕ, [], ◌∷◌, codes, None, refl, arith}
use Rattle.mrpc_table.specs.Node.{no_fields, field, one, many, no_items, item, number}
use Rattle.mrpc_table.specs.declared.table.Kind.TheVariants.{Uint64}
use Rattle.mrpc_table.specs.declared.table.Label.{Label}
use Rattle.mrpc_table.specs.declared.table.Label.TheVariants.{Plain, Packed}
use Rattle.mrpc_table.specs.declared.table.Table.{Table}
use Rattle.frame_transport.specs.declared.format.Frame.{Frame}
use Rattle.receive_core.specs.declared.arrival.DropCause.TheVariants.{Hello, NoMethod}
use Rattle.receive_core.specs.Fates.{judged_number, block_words, drops, IsFate, is_hello, has_no_method}

abbrev table : Label → Table
table label = record {
  messages = record { name = codes "M"; fields = record { number = 1; name = codes "a"; kind = Uint64; label = label } ∷ []; oneofs = [] } ∷ [];
  enums = [];
  methods = record { service = codes "S"; name = codes "Get"; input = 0; output = 0 } ∷ [];
}

abbrev frame : ℕ → ℕ → ℕ → Frame
frame kind method n = record { kind = kind; version = 1; method = method; conn = 1; number = n; payload = []; place = 0 }

-- ---- the number with which a frame is judged

request : judged_number (frame 1 0 7) ≡ 0
request = refl

reply : judged_number (frame 2 0 7) ≡ 7
reply = refl

reply_to_none : judged_number (frame 2 0 0) ≡ 1
reply_to_none = refl

-- ---- the words of blocks

no_content : block_words (table Plain) 0 no_fields ≡ 2
no_content = refl

one_number : block_words (table Plain) 0 (field 1 (one (number 150)) no_fields) ≡ 2
one_number = refl

three_numbers : block_words (table Packed) 0 (field 1 (many (item (number 3) (item (number 270) (item (number 86942) no_items)))) no_fields) ≡ 5
three_numbers = refl

no_fields_at_all : block_words (record { messages = record { name = codes "M"; fields = []; oneofs = [] } ∷ []; enums = []; methods = [] }) 0 no_fields ≡ 1
no_fields_at_all = refl

-- ---- fates

hello : IsFate (table Plain) None 1 16 (frame 3 0 0) (drops Hello)
hello = is_hello refl refl

method_7 : IsFate (table Plain) None 1 16 (frame 1 7 1) (drops NoMethod)
method_7 = has_no_method (λ (e : 1 ≡ 3). omega (arith, e)) (omega arith) refl
