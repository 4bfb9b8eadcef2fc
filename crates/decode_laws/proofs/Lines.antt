-- Frames that are viewed have their lines.
use Rattle.std.proofs.Common.{ℕ, List, [], ◌∷◌, ◌++◌, refl}
use Rattle.mrpc_table.specs.Node.{Node}
use Rattle.mrpc_table.specs.declared.table.Table.{Table}
use Rattle.wire_base.specs.Encoding.{encoding}
use Rattle.frame_transport.specs.declared.format.Frame.{Frame}
use Rattle.text_commands.specs.Decoding.{hello_line, call_line, IsLineOfFrame, line_of_hello, line_of_call, AreLinesOf}
use Rattle.frame_view.specs.Contents.{IsContentOf, IsMessageOfFrame}
use Rattle.frame_transport.specs.Messages.{payload_message}
use Rattle.frame_view.specs.declared.content.FrameContent.{FrameContent}
use Rattle.frame_view.specs.declared.content.FrameContent.TheVariants.{Hello, Call}
use Rattle.frame_view.specs.Views.{IsViewOf, view_of_hello, view_of_call, AreViewsOf}

call_has_line : (T : Table) (f : Frame) (t : Node) → IsMessageOfFrame T f t → IsLineOfFrame T f (call_line f (encoding T (payload_message T f) t))
call_has_line T f t m = line_of_call t m.kind m.method m.means refl

pub content_has_line : (T : Table) (f : Frame) (content : FrameContent) → IsContentOf T f content → (line : List ℕ) × IsLineOfFrame T f line
content_has_line T f Hello h = (hello_line f, line_of_hello h refl)
content_has_line T f (Call message tree) h = (call_line f (encoding T (payload_message T f) tree), call_has_line T f tree h.1)

-- a frame that has a view has a line
line_of : (T : Table) (f : Frame) (text : List ℕ) → IsViewOf T f text → (line : List ℕ) × IsLineOfFrame T f line
line_of T f text (view_of_hello kind is) = (hello_line f, line_of_hello kind refl)
line_of T f text (view_of_call t shown m is_text is) = (call_line f (encoding T (payload_message T f) t), call_has_line T f t m)

-- and frames that have views have lines
pub lines_of : (T : Table) (fs : List Frame) (text : List ℕ) → AreViewsOf T fs text → (lines : List ℕ) × AreLinesOf T fs lines
lines_of T [] text h = ([], refl)
lines_of T (f ∷ fs) text h =
    let first = line_of T f h.0 h.2 in
    let rest = lines_of T fs h.1 h.3 in
    (first.0 ++ rest.0, (first.0, rest.0, first.1, rest.1, refl))
