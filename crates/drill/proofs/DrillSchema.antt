-- The schema of a drill, and the hellos that carry it.
use Rattle.std.proofs.Common.{◌≡◌, ℕ, zero, suc, ◌^◌, ◌<◌, ◌≤◌, Contains, List, [], ◌∷◌, length, codes, refl, sym, ap, ◌∙◌, subst, inl, inr, arith, lit≤, lit<}
use Rattle.std.specs.Fmt.{digits}
use Rattle.std.proofs.lemmas.List.Elements.{All-from_recursion}
use Rattle.mrpc_table.specs.Names.{IsName}
use Rattle.mrpc_table.specs.Valid.{AreDistinct, IsEnum, IsField, IsMessage, IsMethod, IsValid}
use Rattle.mrpc_table.specs.declared.table.Field.{Field}
use Rattle.mrpc_table.specs.declared.table.Message.{Message}
use Rattle.frame_transport.specs.Frames.{IsFrame}
use Rattle.frame_transport.specs.declared.format.Frame.{Frame}
use Rattle.frame_transport.specs.declared.format.TheConstants.{HELLO, HELLO_VERSION, MAX_PAYLOAD}
use Rattle.schema_binding.specs.Agreement.{FieldText, HasMethodOf, IsPrintedAs, field_text}
use Rattle.schema_binding.specs.Hello.{IsHello, hello_payload}
use Rattle.drill.specs.Drill.{field, message, method, schema}
use Rattle.drill.proofs.Itself.{PrintsOnce}

-- the service to which all applications bind
abbrev pub service : List ℕ
service = codes "S"

-- ---- it is a valid table

alone : {X : Type 0} (x : X) → AreDistinct (x ∷ [])
alone x = (λ has. absurd (omega (arith, has.1)), tt)

field-is : IsField schema 0 field
field-is = record {
  number = record { positive = omega arith; small = lit≤ tt; unreserved = inl (lit< tt) };
  name = record { form = refl; short = lit≤ tt };
  label = tt;
  kind = tt;
}

message-is : IsMessage schema message
message-is = record {
  name = record { form = refl; short = refl };
  few = lit≤ tt;
  fields = All-from_recursion (IsField schema 0) (field ∷ []) (field-is, tt);
  ascend = tt;
  names = alone (codes "a");
  oneofs = All-from_recursion IsName [] tt;
  oneof_names = tt;
  oneof_order = refl;
}

method-is : IsMethod schema method
method-is = record {
  service = record { form = refl; short = refl };
  name = record { form = refl; short = lit≤ tt };
  input = lit< tt;
  output = lit< tt;
}

valid : IsValid schema
unfolding digits
valid = record {
  few_messages = lit≤ tt;
  few_enums = lit≤ tt;
  few_methods = lit≤ tt;
  enums = All-from_recursion IsEnum [] tt;
  enums_ascend = tt;
  messages = All-from_recursion (IsMessage schema) (message ∷ []) (message-is, tt);
  messages_ascend = tt;
  types = alone (codes "M");
  methods = All-from_recursion (IsMethod schema) (method ∷ []) (method-is, tt);
  method_names = alone (codes "S", codes "Get");
  short = lit≤ tt;
}

-- ---- it agrees with itself

pub offers : HasMethodOf schema service
offers = (0, lit< tt, refl)

only : {X : Type 0} (x y : X) → Contains (x ∷ []) y → y ≡ x
only x y (zero, within, same) = sym same
only x y (suc k, within, same) = absurd (omega (arith, within))

printed-so : (type : List ℕ) (number : ℕ) (text : FieldText) → IsPrintedAs schema type number text
    → text ≡ field_text schema message field
printed-so type number text prints =
    let same : prints.message ≡ message = only message prints.message prints.known in
    let one : prints.field ≡ field =
    only field prints.field (subst (λ (m : Message). Contains m.fields prints.field) same prints.has) in
    sym prints.printed ∙ ap (λ (m : Message). field_text schema m prints.field) same
    ∙ ap (λ (f : Field). field_text schema message f) one

pub prints-once : PrintsOnce schema
prints-once type number text other ours theirs = printed-so type number text ours ∙ sym (printed-so type number other theirs)

-- ---- its hellos

abbrev pub payload : List ℕ
payload = hello_payload service schema

-- the hello of a connection
abbrev pub hello_frame : ℕ → Frame
hello_frame conn = record {
  kind = HELLO;
  version = HELLO_VERSION;
  method = 0;
  conn = conn;
  number = 0;
  payload = payload;
  place = 0;
}

payload-short : length payload ≤ MAX_PAYLOAD
unfolding digits
payload-short = lit≤ tt

pub hello-is : (conn : ℕ) → conn < 2 ^ 32 → IsFrame (hello_frame conn)
hello-is conn small = record {
  kind = (lit≤ tt, lit≤ tt);
  version = inr (refl, refl);
  short = payload-short;
  method = lit< tt;
  conn = small;
  number = lit< tt;
}

pub payload-is : IsHello payload service schema
payload-is = record { named = record { form = refl; short = refl }; valid = valid; whole = refl }
