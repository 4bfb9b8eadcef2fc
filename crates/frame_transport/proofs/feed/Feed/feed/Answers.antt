use Rattle.std.proofs.Common.{◌≡◌, ◌+◌, ◌<◌, ◌^◌, ◌++◌, length, List, ℕ, Some, None, inr, sym, subst, ◌∙◌, arith}
use Rattle.frame_transport.specs.Feed.{FeedState, total_fed, HasStoppedAt}
use Rattle.frame_transport.specs.Frames.{HasFaultSoFar, concat_frames, IsFaultAt, HasHeaderFault}
use Rattle.frame_transport.specs.declared.fault.FeedFault.TheVariants.{Memory}
use Rattle.frame_transport.proofs.FaultFacts.{not_memory}
use Rattle.frame_transport.proofs.KeptFacts.{seen, kept_ends, kept_advanced, ends_advanced, stops, same_fault, no_fault_before}
use Rattle.frame_transport.proofs.Splitting.{ends_stays}
use Rattle.frame_transport.proofs.feed.Feed.feed.Goals as goal

pub returns-in-Some-clause-fault : goal.returns-in-Some-clause-fault
returns-in-Some-clause-fault c =
    let found : IsFaultAt c.self.inside.end c.self.inside.begun.items c.in-Some.fault =
    subst (HasHeaderFault c.self.inside.end c.self.inside.begun.items) c.in-Some.is
    (subst (λ (bs : List ℕ). HasHeaderFault c.self.inside.end bs c.fault_in.result) c.deref.ensures.value
    c.fault_in.ensures) in
    inr (subst (λ (s : FeedState). HasFaultSoFar s.place (s.bytes ++ c.args.piece.now) (Some c.in-Some.fault)) c.self.view_is
    (ends_stays c.self.inside.taken (concat_frames c.self.inside.waiting.items ++ c.self.inside.begun.items) c.args.piece.now c.in-Some.fault
    (kept_ends c.self.inside.taken c.self.inside.waiting.items c.self.inside.end c.self.inside.begun.items c.self.inside.behind (Some c.in-Some.fault) c.self.invariant found)))

pub returns-in-Some-clause-again : goal.returns-in-Some-clause-again
returns-in-Some-clause-again c fault e =
    let found : IsFaultAt c.self.inside.end c.self.inside.begun.items c.in-Some.fault =
    subst (HasHeaderFault c.self.inside.end c.self.inside.begun.items) c.in-Some.is
    (subst (λ (bs : List ℕ). HasHeaderFault c.self.inside.end bs c.fault_in.result) c.deref.ensures.value
    c.fault_in.ensures) in
    let same : Some c.in-Some.fault ≡ Some fault =
    same_fault c.self.inside.taken c.self.inside.waiting.items c.self.inside.end c.self.inside.begun.items
    c.self.inside.behind (Some c.in-Some.fault) fault c.self.invariant found
    (subst (λ (s : FeedState). HasFaultSoFar s.place s.bytes (Some fault)) (sym c.self.view_is) e) in
    cc

pub returns-in-Some-clause-memory : goal.returns-in-Some-clause-memory
returns-in-Some-clause-memory c e =
    let found : IsFaultAt c.self.inside.end c.self.inside.begun.items c.in-Some.fault =
    subst (HasHeaderFault c.self.inside.end c.self.inside.begun.items) c.in-Some.is
    (subst (λ (bs : List ℕ). HasHeaderFault c.self.inside.end bs c.fault_in.result) c.deref.ensures.value
    c.fault_in.ensures) in
    let memory : c.in-Some.fault ≡ Memory = cc in
    absurd (not_memory c.self.inside.end c.self.inside.begun.items (subst (IsFaultAt c.self.inside.end c.self.inside.begun.items) memory found))

pub returns-in_err-went-clause-again : goal.returns-in_err-went-clause-again
returns-in_err-went-clause-again c fault e =
    let none : HasHeaderFault c.self.inside.end c.self.inside.begun.items None =
    subst (HasHeaderFault c.self.inside.end c.self.inside.begun.items) c.in_default.is
    (subst (λ (bs : List ℕ). HasHeaderFault c.self.inside.end bs c.fault_in.result) c.deref.ensures.value
    c.fault_in.ensures) in
    absurd (no_fault_before c.self.inside.taken c.self.inside.waiting.items c.self.inside.end
    c.self.inside.begun.items c.self.inside.behind fault c.self.invariant none
    (subst (λ (s : FeedState). HasFaultSoFar s.place s.bytes (Some fault)) (sym c.self.view_is) e))

pub overflow_add-self-2 : goal.overflow_add-self-2
overflow_add-self-2 c =
    let room : total_fed (seen c.self.inside.taken c.self.inside.waiting.items c.self.inside.begun.items c.self.inside.behind) + length c.args.piece.now < 2 ^ 63 =
    subst (λ (s : FeedState). total_fed s + length c.args.piece.now < 2 ^ 63) (sym c.self.view_is) c.requires in
    let next = kept_advanced c.self.inside.taken c.self.inside.waiting.items c.self.inside.end
    c.self.inside.begun.items c.self.inside.behind c.args.piece.now c.advance_by.new.waiting.items
    c.advance_by.new.begun.items c.in_ok-went.went c.self.invariant room c.in_ok-went.ensures.ok in
    omega (arith, next.room)

pub invariant_of-self-in-Some-fault : goal.invariant_of-self-in-Some-fault
invariant_of-self-in-Some-fault c =
    let room : total_fed (seen c.self.inside.taken c.self.inside.waiting.items c.self.inside.begun.items c.self.inside.behind) + length c.args.piece.now < 2 ^ 63 =
    subst (λ (s : FeedState). total_fed s + length c.args.piece.now < 2 ^ 63) (sym c.self.view_is) c.requires in
    kept_advanced c.self.inside.taken c.self.inside.waiting.items c.self.inside.end c.self.inside.begun.items
    c.self.inside.behind c.args.piece.now c.advance_by.new.waiting.items c.advance_by.new.begun.items c.in_ok-went.went
    c.self.invariant room c.in_ok-went.ensures.ok

pub returns-in-Some-fault-clause-fault : goal.returns-in-Some-fault-clause-fault
returns-in-Some-fault-clause-fault c =
    let ends = ends_advanced c.self.inside.taken c.self.inside.waiting.items c.self.inside.end
    c.self.inside.begun.items c.self.inside.behind c.args.piece.now c.advance_by.new.waiting.items
    c.advance_by.new.begun.items c.in_ok-went.went c.self.invariant c.in_ok-went.ensures.ok in
    inr (subst (λ (s : FeedState). HasFaultSoFar s.place (s.bytes ++ c.args.piece.now) (Some c.in-Some-fault.fault)) c.self.view_is
    (subst (HasFaultSoFar c.self.inside.taken ((concat_frames c.self.inside.waiting.items ++ c.self.inside.begun.items) ++ c.args.piece.now)) c.in-Some-fault.is ends))

pub returns-in-Some-fault-clause-stops : goal.returns-in-Some-fault-clause-stops
returns-in-Some-fault-clause-stops c =
    let room : total_fed (seen c.self.inside.taken c.self.inside.waiting.items c.self.inside.begun.items c.self.inside.behind) + length c.args.piece.now < 2 ^ 63 =
    subst (λ (s : FeedState). total_fed s + length c.args.piece.now < 2 ^ 63) (sym c.self.view_is) c.requires in
    let next = kept_advanced c.self.inside.taken c.self.inside.waiting.items c.self.inside.end
    c.self.inside.begun.items c.self.inside.behind c.args.piece.now c.advance_by.new.waiting.items
    c.advance_by.new.begun.items c.in_ok-went.went c.self.invariant room c.in_ok-went.ensures.ok in
    inr (subst (λ (s : FeedState). HasStoppedAt s c.args.piece.now c.in-Some-fault.fault
    (seen c.self.inside.taken c.advance_by.new.waiting.items c.advance_by.new.begun.items
    (c.self.inside.behind + c.in_ok-went.went.dropped))) c.self.view_is
    (stops c.self.inside.taken c.self.inside.waiting.items c.self.inside.end c.self.inside.begun.items
    c.self.inside.behind c.args.piece.now c.advance_by.new.waiting.items c.advance_by.new.begun.items c.in_ok-went.went
    c.in-Some-fault.fault next c.in_ok-went.ensures.ok c.in-Some-fault.is))

pub returns-in-Some-fault-clause-again : goal.returns-in-Some-fault-clause-again
returns-in-Some-fault-clause-again c fault e =
    let none : HasHeaderFault c.self.inside.end c.self.inside.begun.items None =
    subst (HasHeaderFault c.self.inside.end c.self.inside.begun.items) c.in_default.is
    (subst (λ (bs : List ℕ). HasHeaderFault c.self.inside.end bs c.fault_in.result) c.deref.ensures.value
    c.fault_in.ensures) in
    absurd (no_fault_before c.self.inside.taken c.self.inside.waiting.items c.self.inside.end
    c.self.inside.begun.items c.self.inside.behind fault c.self.invariant none
    (subst (λ (s : FeedState). HasFaultSoFar s.place s.bytes (Some fault)) (sym c.self.view_is) e))

pub returns-in-Some-fault-clause-memory : goal.returns-in-Some-fault-clause-memory
returns-in-Some-fault-clause-memory c e =
    let memory : Some c.in-Some-fault.fault ≡ Some Memory = cc in
    absurd (not_memory c.in_ok-went.went.end c.advance_by.new.begun.items
    (subst (HasHeaderFault c.in_ok-went.went.end c.advance_by.new.begun.items) (c.in-Some-fault.is ∙ memory)
    c.in_ok-went.ensures.ok.first))

pub invariant_of-self-2 : goal.invariant_of-self-2
invariant_of-self-2 c =
    let room : total_fed (seen c.self.inside.taken c.self.inside.waiting.items c.self.inside.begun.items c.self.inside.behind) + length c.args.piece.now < 2 ^ 63 =
    subst (λ (s : FeedState). total_fed s + length c.args.piece.now < 2 ^ 63) (sym c.self.view_is) c.requires in
    kept_advanced c.self.inside.taken c.self.inside.waiting.items c.self.inside.end c.self.inside.begun.items
    c.self.inside.behind c.args.piece.now c.advance_by.new.waiting.items c.advance_by.new.begun.items c.in_ok-went.went
    c.self.invariant room c.in_ok-went.ensures.ok

pub returns-clause-clean : goal.returns-clause-clean
returns-clause-clean c =
    let ends = ends_advanced c.self.inside.taken c.self.inside.waiting.items c.self.inside.end
    c.self.inside.begun.items c.self.inside.behind c.args.piece.now c.advance_by.new.waiting.items
    c.advance_by.new.begun.items c.in_ok-went.went c.self.invariant c.in_ok-went.ensures.ok in
    subst (λ (s : FeedState). HasFaultSoFar s.place (s.bytes ++ c.args.piece.now) None) c.self.view_is
    (subst (HasFaultSoFar c.self.inside.taken ((concat_frames c.self.inside.waiting.items ++ c.self.inside.begun.items) ++ c.args.piece.now)) c.in_default-fault.is ends)

pub returns-clause-again : goal.returns-clause-again
returns-clause-again c fault e =
    let none : HasHeaderFault c.self.inside.end c.self.inside.begun.items None =
    subst (HasHeaderFault c.self.inside.end c.self.inside.begun.items) c.in_default.is
    (subst (λ (bs : List ℕ). HasHeaderFault c.self.inside.end bs c.fault_in.result) c.deref.ensures.value
    c.fault_in.ensures) in
    absurd (no_fault_before c.self.inside.taken c.self.inside.waiting.items c.self.inside.end
    c.self.inside.begun.items c.self.inside.behind fault c.self.invariant none
    (subst (λ (s : FeedState). HasFaultSoFar s.place s.bytes (Some fault)) (sym c.self.view_is) e))
