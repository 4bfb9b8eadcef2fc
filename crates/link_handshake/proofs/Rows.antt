-- Worked by hand: small streams, and the result of each for a connection, as terms. A frame has its length, and
-- there is no fault before the length is complete: these are laws of frames.
use Rattle.std.proofs.Common.{◌≡◌, ◌≢◌, ℕ, zero, suc, ◌+◌, ◌<◌, List, [], ◌∷◌, ◌++◌, codes, get_or, length, Some}
use Rattle.std.proofs.Common.{None, inl, refl, sym, ap, arith, append-nil, length-append}
use Rattle.std.specs.Prelude.{Contains}
use Rattle.std.specs.Fmt.{digits}
use Rattle.std.proofs.lemmas.List.Elements.{All-cons, All-nil}
use Rattle.std.proofs.lemmas.Option.{same_Some}
use Rattle.mrpc_table.specs.Names.{IsFullName, IsName}
use Rattle.mrpc_table.specs.Text.{table_text}
use Rattle.mrpc_table.specs.Valid.{AreDistinct, IsEnum, IsField, IsMessage, IsMethod, IsValid}
use Rattle.mrpc_table.specs.declared.table.Kind.TheVariants.{Uint64}
use Rattle.mrpc_table.specs.declared.table.Label.TheVariants.{Plain}
use Rattle.mrpc_table.specs.declared.table.Field.{Field}
use Rattle.mrpc_table.specs.declared.table.Table.{Table}
use Rattle.frame_transport.specs.Bytes.{header_bytes}
use Rattle.frame_transport.specs.Frames.{IsFaultAt, IsFrame, IsPartial, bytes_of_frame, concat_frames, length_field, long}
use Rattle.frame_transport.specs.declared.format.Frame.{Frame}
use Rattle.frame_transport.specs.declared.fault.FeedFault.{FeedFault}
use Rattle.frame_transport.specs.declared.fault.FeedFault.TheVariants.{TooLong}
use Rattle.receive_core.specs.ReceiverTraces.{HasFrames}
use Rattle.schema_binding.specs.Agreement.{AreFirstDifferentAt, HasMethodOf, by_text, other_text}
use Rattle.schema_binding.specs.Hello.{IsHello, hello_payload, no_line_feed}
use Rattle.schema_binding.specs.declared.fault.AgreeFault.TheVariants.{Mismatch}
use Rattle.message_delivery.specs.declared.arrivals.StreamState.TheVariants.{Cut as IsCut, Ended as HasEnded, Failed as HasFailed, Open}
use Rattle.link_handshake.specs.Handshake.{IsBound, IsUnbound, hello_of, bad_hello, cut, disagrees, ended, failed, other_frame}
use Rattle.link_handshake.specs.declared.unbound.Unbound.TheVariants.{Transport, Ended, Cut, Hello, Disagrees}

-- ---- tables: a message M with a field a, or with fields a and b, and the method Get of the service S that uses
-- it

abbrev field_named : ℕ → List ℕ → Field
field_named number name = record { number = number; name = name; kind = Uint64; label = Plain }

abbrev of_fields : List Field → Table
of_fields fields = record {
  messages = record { name = codes "M"; fields = fields; oneofs = [] } ∷ [];
  enums = [];
  methods = record { service = codes "S"; name = codes "Get"; input = 0; output = 0 } ∷ [];
}

abbrev a_only : Table
a_only = of_fields (field_named 1 (codes "a") ∷ [])

abbrev a_and_b : Table
a_and_b = of_fields (field_named 1 (codes "a") ∷ field_named 2 (codes "b") ∷ [])

no_others : {X : Type 0} (x : X) → AreDistinct (x ∷ [])
no_others x = (λ has. absurd (omega (arith, has.1)), tt)

is_service : IsFullName (codes "S")
is_service = record { form = refl; short = refl }

field_is : (T : Table) (number : ℕ) (name : List ℕ) → 0 < number → number < 100 → IsName name
    → IsField T 0 (field_named number name)
field_is T number name positive small is = record {
  number = record { positive = positive; small = omega (arith, small); unreserved = inl (omega (arith, small)) };
  name = is;
  label = tt;
  kind = tt;
}

is_name_a : IsName (codes "a")
is_name_a = record { form = refl; short = omega arith }

is_name_b : IsName (codes "b")
is_name_b = record { form = refl; short = omega arith }

is_method : (fields : List Field) → IsMethod (of_fields fields) (record { service = codes "S"; name = codes "Get"; input = 0; output = 0 })
is_method fields = record {
  service = is_service;
  name = record { form = refl; short = omega arith };
  input = omega arith;
  output = omega arith;
}

is_message_a : IsMessage a_only (record { name = codes "M"; fields = field_named 1 (codes "a") ∷ []; oneofs = [] })
is_message_a = record {
  name = record { form = refl; short = refl };
  few = omega arith;
  fields = All-cons (IsField a_only 0) (field_named 1 (codes "a")) [] (field_is a_only 1 (codes "a") (omega arith) (omega arith) is_name_a) (All-nil (IsField a_only 0));
  ascend = tt;
  names = no_others (codes "a");
  oneofs = All-nil IsName;
  oneof_names = tt;
  oneof_order = refl;
}

a_not_b : Contains (codes "b" ∷ []) (codes "a") → ⊥
a_not_b (zero, within, same) =
    let apart : 98 ≡ 97 = ap (λ (w : List ℕ). get_or w 0 0) same in omega (arith, apart)
a_not_b (suc k, within, same) = absurd (omega (arith, within))

is_message_ab : IsMessage a_and_b (record { name = codes "M"; fields = field_named 1 (codes "a") ∷ field_named 2 (codes "b") ∷ []; oneofs = [] })
is_message_ab = record {
  name = record { form = refl; short = refl };
  few = omega arith;
  fields = All-cons (IsField a_and_b 0) (field_named 1 (codes "a")) (field_named 2 (codes "b") ∷ [])
      (field_is a_and_b 1 (codes "a") (omega arith) (omega arith) is_name_a)
      (All-cons (IsField a_and_b 0) (field_named 2 (codes "b")) []
      (field_is a_and_b 2 (codes "b") (omega arith) (omega arith) is_name_b) (All-nil (IsField a_and_b 0)));
  ascend = (omega arith, tt);
  names = (a_not_b, no_others (codes "b"));
  oneofs = All-nil IsName;
  oneof_names = tt;
  oneof_order = refl;
}

is_valid : (fields : List Field)
    → IsMessage (of_fields fields) (record { name = codes "M"; fields = fields; oneofs = [] })
    → length (table_text (of_fields fields)) < 100 → IsValid (of_fields fields)
is_valid fields is short = record {
  few_messages = omega arith;
  few_enums = omega arith;
  few_methods = omega arith;
  enums = All-nil IsEnum;
  enums_ascend = tt;
  messages = All-cons (IsMessage (of_fields fields)) (record { name = codes "M"; fields = fields; oneofs = [] }) [] is (All-nil (IsMessage (of_fields fields)));
  messages_ascend = tt;
  types = no_others (codes "M");
  methods = All-cons (IsMethod (of_fields fields)) (record { service = codes "S"; name = codes "Get"; input = 0; output = 0 }) [] (is_method fields) (All-nil (IsMethod (of_fields fields)));
  method_names = no_others (codes "S", codes "Get");
  short = omega (arith, short);
}

valid_a : IsValid a_only
unfolding digits
valid_a = is_valid (field_named 1 (codes "a") ∷ []) is_message_a (omega arith)

valid_ab : IsValid a_and_b
unfolding digits
valid_ab = is_valid (field_named 1 (codes "a") ∷ field_named 2 (codes "b") ∷ []) is_message_ab (omega arith)

offers_S : (fields : List Field) → HasMethodOf (of_fields fields) (codes "S")
offers_S fields = (0, omega arith, refl)

-- if one table has a further field, the texts differ first in `m` of `method` against `f` of `field`
further_field : AreFirstDifferentAt (table_text a_only) (table_text a_and_b) 33 (Some 109) (Some 102)
unfolding digits
further_field = record {
  same = refl;
  ours = refl;
  theirs = refl;
  other = λ e. let apart : 109 ≡ 102 = same_Some 109 102 e in omega (arith, apart);
}

-- ---- frames

-- the hello of connection 1
hello_of_1 : hello_of 1 (codes "S") a_only
    ≡ 0 ∷ 0 ∷ 0 ∷ 54 ∷ 3 ∷ 2 ∷ 0 ∷ 0 ∷ 0 ∷ 0 ∷ 0 ∷ 1 ∷ 0 ∷ 0 ∷ 0 ∷ 0 ∷ 83 ∷ 10 ∷ table_text a_only
unfolding header_bytes digits
hello_of_1 = refl

-- a hello of version 1 from connection 2, with this payload
abbrev hello_with : List ℕ → Frame
hello_with payload =
    record { kind = 3; version = 1; method = 0; conn = 2; number = 0; payload = payload; place = 0 }

hello_is : (payload : List ℕ) → length payload < 100 → IsFrame (hello_with payload)
hello_is payload short = record {
  kind = (omega arith, omega arith);
  version = inl refl;
  short = omega (arith, short);
  method = omega arith;
  conn = omega arith;
  number = omega arith;
}

-- a request
abbrev request : Frame
request = record { kind = 1; version = 1; method = 0; conn = 2; number = 1; payload = []; place = 0 }

request_is : IsFrame request
request_is = record {
  kind = (omega arith, omega arith);
  version = inl refl;
  short = omega arith;
  method = omega arith;
  conn = omega arith;
  number = omega arith;
}

short_a : length (hello_payload (codes "S") a_only) < 100
unfolding digits
short_a = omega arith

short_ab : length (hello_payload (codes "S") a_and_b) < 100
unfolding digits
short_ab = omega arith

says_a : IsHello (hello_payload (codes "S") a_only) (codes "S") a_only
says_a = record { named = is_service; valid = valid_a; whole = refl }

says_ab : IsHello (hello_payload (codes "S") a_and_b) (codes "S") a_and_b
says_ab = record { named = is_service; valid = valid_ab; whole = refl }

no_fault_in_nothing : (place : ℕ) → ((place : ℕ) (bytes : List ℕ) → length bytes < 4 → (fault : FeedFault)
    → IsFaultAt place bytes fault → ⊥) → (fault : FeedFault) → IsFaultAt place [] fault → ⊥
no_fault_in_nothing place early fault is = early place [] (omega arith) fault is

module _ (size : (f : Frame) → length (bytes_of_frame f) ≡ 16 + length f.payload)
    (early : (place : ℕ) (bytes : List ℕ) → length bytes < 4 → (fault : FeedFault) → IsFaultAt place bytes fault → ⊥)
  where
    -- a few bytes are no frame
    partial : (bytes : List ℕ) → length bytes < 16 → IsPartial bytes
    partial bytes few f more frame is =
        let one : length bytes ≡ length (bytes_of_frame f ++ more) = ap (λ (xs : List ℕ). length xs) is in
        let two : length (bytes_of_frame f ++ more) ≡ length (bytes_of_frame f) + length more = length-append (bytes_of_frame f) more in
        let three : length (bytes_of_frame f) ≡ 16 + length f.payload = size f in
        omega (arith, one, two, three, few)

    reads_nothing : HasFrames 0 [] [] None
    reads_nothing = record {
      rest = [];
      splits = record { whole = refl; each = All-nil IsFrame; places = tt; partial = partial [] (omega arith) };
      first = λ fault is. early 0 [] (omega arith) fault is;
    }

    -- one frame, and nothing after it
    reads_one : (f : Frame) → IsFrame f → f.place ≡ 0 → HasFrames 0 (concat_frames (f ∷ [])) (f ∷ []) None
    reads_one f is place = record {
      rest = [];
      splits = record {
        whole = sym (append-nil (concat_frames (f ∷ [])));
        each = All-cons IsFrame f [] is (All-nil IsFrame);
        places = (place, tt);
        partial = partial [] (omega arith);
      };
      first = λ fault at. early (0 + length (concat_frames (f ∷ []))) [] (omega arith) fault at;
    }

    -- ---- the result for a connection

    -- the other side finished, or the link failed, before anything was received
    nothing_came : IsUnbound a_only (codes "S") [] None HasEnded Ended
    nothing_came = ended refl reads_nothing refl

    link_failed : IsUnbound a_only (codes "S") [] None HasFailed Transport
    link_failed = failed refl refl

    -- the length of a first frame is too large
    too_long : IsUnbound a_only (codes "S") (0 ∷ 4 ∷ 0 ∷ 1 ∷ []) (Some (TooLong 0 262145)) IsCut (Cut (TooLong 0 262145))
    unfolding length_field
    too_long = cut (TooLong 0 262145) (record {
      rest = 0 ∷ 4 ∷ 0 ∷ 1 ∷ [];
      splits = record {
        whole = refl;
        each = All-nil IsFrame;
        places = tt;
        partial = partial (0 ∷ 4 ∷ 0 ∷ 1 ∷ []) (omega arith);
      };
      first = long (omega arith) (omega arith) refl;
    }) refl

    -- the first frame is a request
    begins_with_a_request : IsUnbound a_only (codes "S") (concat_frames (request ∷ [])) None Open (Hello 0)
    begins_with_a_request =
        other_frame request ([], reads_one request request_is refl) (λ e. omega (arith, e)) refl

    -- a hello whose payload has no line feed
    one_line : IsUnbound a_only (codes "S") (concat_frames (hello_with (codes "S") ∷ [])) None Open (Hello 1)
    one_line =
        bad_hello (hello_with (codes "S")) 1
        ([], reads_one (hello_with (codes "S")) (hello_is (codes "S") (omega arith)) refl) refl
        (no_line_feed (All-cons (λ byte. byte ≢ 10) 83 [] (λ e. omega (arith, e)) (All-nil (λ byte. byte ≢ 10))) refl)
        refl

    -- hellos of version 1: of a table with a further field, and of an equal one
    further : IsUnbound a_only (codes "S") (concat_frames (hello_with (hello_payload (codes "S") a_and_b) ∷ [])) None Open
        (Disagrees (Mismatch 33 (Some 109) (Some 102)))
    further =
        disagrees (hello_with (hello_payload (codes "S") a_and_b)) a_and_b (Mismatch 33 (Some 109) (Some 102)) (record {
          first = ([], reads_one (hello_with (hello_payload (codes "S") a_and_b)) (hello_is (hello_payload (codes "S") a_and_b) short_ab) refl);
          kind = refl;
          service = codes "S";
          says = says_ab;
        }) (other_text 33 (Some 109) (Some 102) refl (offers_S (field_named 1 (codes "a") ∷ []))
        (offers_S (field_named 1 (codes "a") ∷ field_named 2 (codes "b") ∷ [])) further_field refl) refl

    equal : IsBound a_only (codes "S") (concat_frames (hello_with (hello_payload (codes "S") a_only) ∷ [])) None
        (hello_with (hello_payload (codes "S") a_only))
    equal = record {
      theirs = a_only;
      greeted = record {
        first = ([], reads_one (hello_with (hello_payload (codes "S") a_only)) (hello_is (hello_payload (codes "S") a_only) short_a) refl);
        kind = refl;
        service = codes "S";
        says = says_a;
      };
      agree = by_text refl (offers_S (field_named 1 (codes "a") ∷ [])) (offers_S (field_named 1 (codes "a") ∷ [])) refl;
    }
