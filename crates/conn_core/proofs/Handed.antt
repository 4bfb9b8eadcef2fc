-- The frames that a transition sends.
use Rattle.std.proofs.Common.{◌≡◌, ℕ, List, [], ◌∷◌, ◌++◌, refl, ap, sym, ◌∙◌}
use Rattle.std.specs.Prelude.{Some, option_map, unwrap_or}
use Rattle.std.proofs.lemmas.List.{append-nil}
use Rattle.mrpc_table.specs.declared.call.Call.{Call}
use Rattle.mrpc_table.specs.declared.table.Table.{Table}
use Rattle.call_history.specs.Trace.{Trace, form, pending_calls}
use Rattle.call_history.specs.Transitions.{ConnState, fails, is_away, is_sent, link_failed, refused_for_link, rises, stays, takes, changes, has_turn}
use Rattle.call_history.specs.Frames.{frame_of, frames_of_trace}
use Rattle.call_history.specs.declared.happening.Cause.TheVariants as cause
use Rattle.call_history.specs.declared.happening.Happening.TheVariants.{Refused, Sent}
use Rattle.call_history.specs.declared.happening.AcceptedCall.{AcceptedCall}
use Rattle.conn_core.specs.Connections.{Connection, conn_trace, conn_frames}
use Rattle.conn_core.specs.ConnectionSteps.{HasHandedOver, IsStep}

-- a send sends the frame of the call's form
pub frames-sent : (T : Table) (conn seq bytes : ℕ) (past : Trace) (call : Call) → form conn seq past ≡ Some call
    → frames_of_trace T conn (Sent seq bytes ∷ past) ≡ frames_of_trace T conn past ++ frame_of T call ∷ []
frames-sent T conn seq bytes past call is =
    ap (λ f. frames_of_trace T conn past ++ unwrap_or (option_map (frame_of T) f) [] ∷ []) is

-- a failure of the link sends none
frames-refused : (T : Table) (conn : ℕ) (ts : List AcceptedCall) (past : Trace)
    → frames_of_trace T conn (refused_for_link ts past) ≡ frames_of_trace T conn past
frames-refused T conn [] past = refl
frames-refused T conn (t ∷ ts) past =
    frames-refused T conn ts (Refused t.seq cause.Transport ∷ past) ∙ append-nil (frames_of_trace T conn past)

pub past-failed : (old new : Connection) → IsStep old fails new
    → conn_trace new ≡ refused_for_link (pending_calls (conn_trace old)) (conn_trace old)
past-failed old new (takes call is running may new-is) = absurd cc
past-failed old new (is_away method number addr is full new-is) = absurd cc
past-failed old new (changes step is may new-is) = absurd cc
past-failed old new (rises ms is above new-is) = absurd cc
past-failed old new (stays ms is below new-is) = absurd cc
past-failed old new (has_turn position seq outcome e is has new-is) = absurd cc
past-failed old new (is_sent seq bytes is running ready new-is) = absurd cc
past-failed old new (link_failed is new-is) = ap (λ (c : ConnState). c.past) new-is

pub frames-failed : (old new : Connection) → new.table ≡ old.table → new.conn ≡ old.conn → IsStep old fails new
    → conn_frames new ≡ conn_frames old
frames-failed old new table conn step =
    ap (λ T. frames_of_trace T new.conn (conn_trace new)) table ∙ ap (λ (n : ℕ). frames_of_trace old.table n (conn_trace new)) conn
    ∙ ap (frames_of_trace old.table old.conn) (past-failed old new step) ∙ frames-refused old.table old.conn
    (pending_calls (conn_trace old)) (conn_trace old)

pub hands-none : (before after : Connection) (handed handed' : List (List ℕ)) → conn_frames after ≡ conn_frames before
    → handed' ≡ handed → HasHandedOver before after handed handed'
hands-none before after handed handed' frames-same same =
    ([], frames-same ∙ sym (append-nil (conn_frames before)), same ∙ sym (append-nil handed))

pub hands-one : (before after : Connection) (handed handed' : List (List ℕ)) (frame : List ℕ)
    → conn_frames after ≡ conn_frames before ++ frame ∷ [] → handed' ≡ handed ++ frame ∷ []
    → HasHandedOver before after handed handed'
hands-one before after handed handed' frame frames-more more = (frame ∷ [], frames-more, more)
