-- The view of frames (this project's own, around the text format of Protocol Buffers).
use Rattle.std.specs.Prelude.{◌≡◌, ℕ, ◌==◌, List, [], ◌∷◌, ◌++◌, length, codes, option_map, slice_get, unwrap_or}
use Rattle.std.specs.Prelude.{if◌then◌else◌}
use Rattle.std.specs.Fmt.{decimal}
use Rattle.mrpc_table.specs.Node.{Node}
use Rattle.mrpc_table.specs.Text.{line}
use Rattle.mrpc_table.specs.declared.table.Table.{Table}
use Rattle.text_format.specs.Entries.{IsTextOfMessage}
use Rattle.frame_transport.specs.declared.format.Frame.{Frame}
use Rattle.frame_transport.specs.declared.format.TheConstants.{HELLO, REQUEST}
use Rattle.frame_view.specs.Contents.{IsMessageOfFrame}
use Rattle.frame_transport.specs.Messages.{payload_message}

-- the service of a method, and the method
abbrev pub method_path : Table → ℕ → List ℕ
method_path T method = unwrap_or (option_map (λ m. m.service ++ (codes "/" ++ m.name)) (slice_get T.methods method)) []

abbrev pub call_kind_word : ℕ → List ℕ
call_kind_word kind = if kind == REQUEST then codes "request" else codes "reply"

-- the line of a hello: its connection, and the length of its payload in bytes
abbrev pub hello_head : Frame → List ℕ
hello_head f = line (codes "#" ∷ codes "hello" ∷ codes "conn" ∷ decimal f.conn ∷ codes "bytes" ∷ decimal
    (length f.payload)
    ∷ [])

-- the line before a message: its kind, its method, its connection, and its number
abbrev pub call_head : Table → Frame → List ℕ
call_head T f = line (codes "#" ∷ call_kind_word f.kind ∷ method_path T f.method ∷ codes "conn" ∷ decimal f.conn ∷ codes
    "number"
    ∷ decimal f.number ∷ [])

-- the view of a frame: a line for a hello, and a line and the text of the message for a request or a reply
pub data IsViewOf (T : Table) (f : Frame) (text : List ℕ) : Type 0 where
  view_of_hello : f.kind ≡ HELLO → text ≡ hello_head f → IsViewOf T f text
  view_of_call : (t : Node) (shown : List ℕ) → IsMessageOfFrame T f t → IsTextOfMessage T (payload_message T f) t shown
      → text ≡ call_head T f ++ shown → IsViewOf T f text

-- the text is the views of the frames, in order
abbrev pub AreViewsOf : Table → List Frame → List ℕ → Type 0
AreViewsOf T [] text = text ≡ []
AreViewsOf T (f ∷ fs) text = (first : List ℕ) × (rest : List ℕ) × IsViewOf T f first × AreViewsOf T fs rest
    × (text ≡ first ++ rest)
