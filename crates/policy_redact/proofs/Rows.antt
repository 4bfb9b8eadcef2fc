-- Clears and their lines that were worked out by hand.
use Rattle.std.proofs.Common.{◌≡◌, ℕ, [], ◌∷◌, codes, Some, None, refl, arith}
use Rattle.mrpc_table.specs.Node.{Node, no_fields, field, one, many, number, node, no_items, item}
use Rattle.mrpc_table.specs.declared.table.Kind.TheVariants.{Uint64, Message}
use Rattle.mrpc_table.specs.declared.table.Label.TheVariants.{Plain, Optional, Member}
use Rattle.mrpc_table.specs.declared.table.Table.{Table}
use Rattle.mrpc_table.specs.declared.path.Path.{Path}
use Rattle.mrpc_table.specs.declared.call.Call.{Call}
use Rattle.mrpc_table.specs.declared.call.CallKind.TheVariants.{Request, Reply}
use Rattle.mrpc_table.specs.declared.policy_lines.RuleReason.TheVariants as reason
use Rattle.policy_redact.specs.Faults.{IsAgainstAt, at_line, no_line, out_of_form, large_index, no_method, no_field}
use Rattle.policy_redact.specs.Lines.{clear_line_of}
use Rattle.policy_redact.specs.Redacting.{cleared}
use Rattle.policy_redact.specs.Texts.{clear_of_line, IsTextOf}
use Rattle.policy_redact.specs.declared.redact.Clear.{Clear}

-- ---- the tree after clears

abbrev to : ℕ → Path
to n = record { way = []; number = n; kind = Uint64; label = Plain }

abbrev through : ℕ → ℕ → Path
through m n = record { way = m ∷ []; number = n; kind = Uint64; label = Plain }

abbrev of_requests : Path → Clear
of_requests p = record { method = 0; sort = Request; path = p }

abbrev request : Node → Call
request t = record { conn = 1; seq = 1; method = 0; number = 0; tree = t }

abbrev reply : Node → Call
reply t = record { conn = 1; seq = 1; method = 0; number = 9; tree = t }

abbrev two : Node
two = field 1 (one (number 7)) (field 2 (one (number 9)) no_fields)

-- a message 3 with two fields, and a field 4
abbrev nested : Node
nested = field 3 (one (node two)) (field 4 (one (number 5)) no_fields)

a_field_is_cleared : cleared (of_requests (to 2) ∷ []) (request two) ≡ field 1 (one (number 7)) no_fields
a_field_is_cleared = refl

a_reply_is_no_request : cleared (of_requests (to 2) ∷ []) (reply two) ≡ two
a_reply_is_no_request = refl

another_method : cleared (of_requests (to 2) ∷ []) (record { conn = 1; seq = 1; method = 1; number = 0; tree = two }) ≡ two
another_method = refl

an_unset_field : cleared (of_requests (to 8) ∷ []) (request two) ≡ two
an_unset_field = refl

all_lines_count : cleared (of_requests (to 2) ∷ of_requests (to 1) ∷ []) (request two) ≡ no_fields
all_lines_count = refl

behind_a_message : cleared (of_requests (through 3 1) ∷ []) (request nested) ≡ field 3 (one (node (field 2 (one (number 9)) no_fields))) (field 4 (one (number 5)) no_fields)
behind_a_message = refl

-- clearing the last field of a message keeps the message
an_empty_message_stays : cleared (of_requests (through 3 1) ∷ of_requests (through 3 2) ∷ []) (request nested) ≡ field 3 (one (node no_fields)) (field 4 (one (number 5)) no_fields)
an_empty_message_stays = refl

behind_no_message : cleared (of_requests (through 3 1) ∷ []) (request two) ≡ two
behind_no_message = refl

behind_a_number : cleared (of_requests (through 4 1) ∷ []) (request nested) ≡ nested
behind_a_number = refl

-- two paths, one through the end of the other, give one tree in either order
through_first : cleared (of_requests (through 3 1) ∷ of_requests (to 3) ∷ []) (request nested) ≡ field 4 (one (number 5)) no_fields
through_first = refl

through_last : cleared (of_requests (to 3) ∷ of_requests (through 3 1) ∷ []) (request nested) ≡ field 4 (one (number 5)) no_fields
through_last = refl

a_list_is_cleared : cleared (of_requests (to 1) ∷ []) (request (field 1 (many (item (node two) no_items)) no_fields)) ≡ no_fields
a_list_is_cleared = refl

no_path_goes_through_a_list : cleared (of_requests (through 1 1) ∷ [])
    (request (field 1 (many (item (node two) no_items)) no_fields))
    ≡ field 1 (many (item (node two) no_items)) no_fields
no_path_goes_through_a_list = refl

-- ---- lines

abbrev small : Table
small = record {
  messages =
      record {
        name = codes "A";
        fields =
            record { number = 1; name = codes "a"; kind = Uint64; label = Plain }
            ∷ record { number = 2; name = codes "b"; kind = Uint64; label = Optional }
            ∷ record { number = 3; name = codes "c"; kind = Message 0; label = Member 0 }
            ∷ [];
        oneofs = codes "o" ∷ [];
      }
      ∷ [];
  enums = [];
  methods = record { service = codes "S"; name = codes "Get"; input = 0; output = 0 } ∷ [];
}

a_line : clear_of_line small (codes "clear method 0 2") ≡ Some (record { method = 0; sort = Request; path = record { way = []; number = 2; kind = Uint64; label = Optional } })
unfolding clear_line_of
a_line = refl

a_line_of_replies : clear_of_line small (codes "clear method 0 reply 3.3.1")
    ≡ Some (record {
      method = 0;
      sort = Reply;
      path = record {
        way = 3 ∷ 3 ∷ [];
        number = 1;
        kind = Uint64;
        label = Plain;
      };
    })
unfolding clear_line_of
a_line_of_replies = refl

the_last_field_may_be_a_message : clear_of_line small (codes "clear method 0 3")
    ≡ Some (record {
      method = 0;
      sort = Request;
      path = record { way = []; number = 3; kind = Message 0; label = Member 0 };
    })
unfolding clear_line_of
the_last_field_may_be_a_message = refl

one_line_is_a_text : IsTextOf small (codes "clear method 0 2" ∷ []) (record { method = 0; sort = Request; path = record { way = []; number = 2; kind = Uint64; label = Optional } } ∷ [])
unfolding clear_line_of
one_line_is_a_text = record { each = (refl, tt); some = omega arith; few = omega arith }

an_empty_line : clear_line_of [] ≡ None
unfolding clear_line_of
an_empty_line = refl

a_path_is_missing : clear_line_of (codes "clear method 0 reply") ≡ None
unfolding clear_line_of
a_path_is_missing = refl

a_word_too_many : clear_line_of (codes "clear method 0 reply 1 2") ≡ None
unfolding clear_line_of
a_word_too_many = refl

reply_stands_before_the_path : clear_line_of (codes "clear method 0 1 reply") ≡ None
unfolding clear_line_of
reply_stands_before_the_path = refl

no_line_is_at_fault : IsAgainstAt small [] 0 reason.Word
no_line_is_at_fault = no_line refl refl refl

a_line_out_of_form : IsAgainstAt small (codes "clear method 0" ∷ []) 0 reason.Word
unfolding clear_line_of
a_line_out_of_form = at_line (codes "clear method 0") refl (out_of_form refl refl)

-- an index of 17 bits is at fault before a path that leads to no field
an_index_too_large : IsAgainstAt small (codes "clear method 65536 9" ∷ []) 0 reason.Number
unfolding clear_line_of
an_index_too_large = at_line (codes "clear method 65536 9") refl (large_index _ refl refl refl)

a_method_that_is_missing : IsAgainstAt small (codes "clear method 1 1" ∷ []) 0 reason.Path
unfolding clear_line_of
a_method_that_is_missing = at_line (codes "clear method 1 1") refl (no_method _ 1 refl refl (omega arith) refl)

-- a way can't lead through a number
a_path_through_a_number : IsAgainstAt small (codes "clear method 0 1.1" ∷ []) 0 reason.Path
unfolding clear_line_of
a_path_through_a_number = at_line (codes "clear method 0 1.1") refl (no_field _ 0 refl refl refl refl)
