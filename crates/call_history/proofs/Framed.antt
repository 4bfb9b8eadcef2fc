-- The frames of a history after one more event.
use Rattle.std.proofs.Common.{◌≡◌, ℕ, List, [], ◌∷◌, ◌++◌, sym, ap, ◌∙◌, append_assoc, append-nil}
use Rattle.mrpc_table.specs.declared.table.Table.{Table}
use Rattle.call_history.specs.Legal.{History, trace_of}
use Rattle.call_history.specs.declared.happening.ConnectionEvent.{ConnectionEvent}
use Rattle.call_history.specs.Frames.{frames, frames_after, frames_sent_by}

-- the frame that an event after a history sends
abbrev pub next_frame : Table → History → ConnectionEvent → List (List ℕ)
next_frame T before x = frames_sent_by T x.conn x.what (trace_of x.conn before)

pub frames-append : (T : Table) (before h k : History)
    → frames_after T before (h ++ k) ≡ frames_after T before h ++ frames_after T (before ++ h) k
frames-append T before [] k = ap (λ b. frames_after T b k) (sym (append-nil before))
frames-append T before (x ∷ h) k =
    ap (λ l. next_frame T before x ++ l)
    (frames-append T (before ++ x ∷ []) h k
    ∙ ap (λ b. frames_after T (before ++ x ∷ []) h ++ frames_after T b k) (append_assoc before (x ∷ []) h))
    ∙ sym (append_assoc (next_frame T before x) (frames_after T (before ++ x ∷ []) h)
    (frames_after T (before ++ x ∷ h) k))

pub frames-more : (T : Table) (h : History) (x : ConnectionEvent)
    → frames T (h ++ x ∷ []) ≡ frames T h ++ next_frame T h x
frames-more T h x = frames-append T [] h (x ∷ []) ∙ ap (λ l. frames T h ++ l) (append-nil (next_frame T h x))
