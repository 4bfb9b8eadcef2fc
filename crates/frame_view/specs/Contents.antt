-- The content of a frame.
use Rattle.std.specs.Prelude.{◌≡◌, ◌≢◌, ◌<◌, length}
use Rattle.mrpc_table.specs.Node.{Node}
use Rattle.mrpc_table.specs.Normal.{IsNormal}
use Rattle.mrpc_table.specs.declared.table.Table.{Table}
use Rattle.wire_decode.specs.Means.{Means}
use Rattle.frame_transport.specs.Messages.{payload_message}
use Rattle.frame_transport.specs.declared.format.Frame.{Frame}
use Rattle.frame_transport.specs.declared.format.TheConstants.{HELLO}
use Rattle.frame_view.specs.declared.content.FrameContent.{FrameContent}
use Rattle.frame_view.specs.declared.content.FrameContent.TheVariants.{Hello, Call}

-- the frame is a request or a reply of a method of the table, and its payload means this message
pub record IsMessageOfFrame (T : Table) (f : Frame) (t : Node) : Type 0 where
  pub kind : f.kind ≢ HELLO
  pub method : f.method < length T.methods
  pub known : payload_message T f < length T.messages
  pub means : Means T (payload_message T f) f.payload t
  pub normal : IsNormal T (payload_message T f) t

abbrev pub IsContentOf : Table → Frame → FrameContent → Type 0
IsContentOf T f Hello = f.kind ≡ HELLO
IsContentOf T f (Call message tree) = (message ≡ payload_message T f) × IsMessageOfFrame T f tree
