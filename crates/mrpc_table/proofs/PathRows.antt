-- Paths that were read and followed by hand.
use Rattle.std.proofs.Common.{◌≡◌, ℕ, List, [], ◌∷◌, codes, Option, Some, None, refl}
use Rattle.mrpc_table.specs.Node.{Node, no_fields, field, one, many, number, node, no_items, item}
use Rattle.mrpc_table.specs.declared.table.Kind.TheVariants.{Uint64, Message}
use Rattle.mrpc_table.specs.declared.table.Label.TheVariants.{Plain, Member, Repeated}
use Rattle.mrpc_table.specs.declared.table.Table.{Table}
use Rattle.mrpc_table.specs.declared.words.Decimal.{Decimal}
use Rattle.mrpc_table.specs.declared.words.Decimal.TheVariants.{Small, Large}
use Rattle.mrpc_table.specs.PathWords.{path_of}
use Rattle.mrpc_table.specs.PathFields.{path_in}
use Rattle.mrpc_table.specs.PathTrees.{content_at_path}
use Rattle.mrpc_table.specs.declared.path.Path.{Path}
use Rattle.mrpc_table.specs.declared.path.PathWord.{PathWord}

-- ---- words

abbrev spells : List Decimal → Decimal → Option PathWord
spells way last = Some (record { way = way; last = last })

one_number : path_of (codes "150") ≡ spells [] (Small 150)
one_number = refl

three_numbers : path_of (codes "3.2.1") ≡ spells (Small 3 ∷ Small 2 ∷ []) (Small 1)
three_numbers = refl

more_than_64_bits : path_of (codes "2.18446744073709551616") ≡ spells (Small 2 ∷ []) Large
more_than_64_bits = refl

no_word : path_of [] ≡ None
no_word = refl

no_number_between : path_of (codes "2..1") ≡ None
no_number_between = refl

no_number_behind : path_of (codes "2.") ≡ None
no_number_behind = refl

a_leading_zero : path_of (codes "02") ≡ None
a_leading_zero = refl

thirty_three_numbers : path_of (codes "1.1.1.1.1.1.1.1.1.1.1.1.1.1.1.1.1.1.1.1.1.1.1.1.1.1.1.1.1.1.1.1.1") ≡ None
thirty_three_numbers = refl

-- ---- fields

-- a number, a message, a member that is one, and a list of them
abbrev small : Table
small = record {
  messages =
      record {
        name = codes "M";
        fields =
            record { number = 1; name = codes "a"; kind = Uint64; label = Plain }
            ∷ record { number = 2; name = codes "m"; kind = Message 0; label = Plain }
            ∷ record { number = 3; name = codes "n"; kind = Message 0; label = Member 0 }
            ∷ record { number = 4; name = codes "r"; kind = Message 0; label = Repeated }
            ∷ [];
        oneofs = codes "o" ∷ [];
      }
      ∷ [];
  enums = [];
  methods = [];
}

abbrev leads : List Decimal → Decimal → Option Path
leads way last = path_in small 0 (record { way = way; last = last })

abbrev to : List ℕ → Path
to way = record { way = way; number = 1; kind = Uint64; label = Plain }

to_a_field : leads [] (Small 1) ≡ Some (to [])
to_a_field = refl

through_a_message_and_a_member : leads (Small 2 ∷ Small 3 ∷ []) (Small 1) ≡ Some (to (2 ∷ 3 ∷ []))
through_a_message_and_a_member = refl

to_a_list : leads [] (Small 4) ≡ Some (record { way = []; number = 4; kind = Message 0; label = Repeated })
to_a_list = refl

through_a_list : leads (Small 4 ∷ []) (Small 1) ≡ None
through_a_list = refl

through_a_number : leads (Small 1 ∷ []) (Small 1) ≡ None
through_a_number = refl

to_no_field : leads [] (Small 9) ≡ None
to_no_field = refl

-- no number is truncated to 32 bits
above_32_bits : leads [] (Small 4294967297) ≡ None
above_32_bits = refl

above_64_bits : leads [] Large ≡ None
above_64_bits = refl

-- ---- trees

abbrev with_1 : ℕ → Node
with_1 n = field 1 (one (number n)) no_fields

at_the_end : content_at_path (with_1 5) (to []) ≡ Some (one (number 5))
at_the_end = refl

behind_messages : content_at_path (field 2 (one (node (field 3 (one (node (with_1 5))) no_fields))) no_fields) (to (2 ∷ 3 ∷ [])) ≡ Some (one (number 5))
behind_messages = refl

behind_an_empty_message : content_at_path (field 2 (one (node no_fields)) no_fields) (to (2 ∷ [])) ≡ None
behind_an_empty_message = refl

behind_no_message : content_at_path (with_1 5) (to (2 ∷ [])) ≡ None
behind_no_message = refl

behind_a_number : content_at_path (with_1 5) (to (1 ∷ [])) ≡ None
behind_a_number = refl

behind_a_list : content_at_path (field 4 (many (item (node (with_1 5)) no_items)) no_fields) (to (4 ∷ [])) ≡ None
behind_a_list = refl
