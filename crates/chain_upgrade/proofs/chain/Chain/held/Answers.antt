use Rattle.std.proofs.Common.{◌≡◌, ℕ, List, length, slice_get, Contains, Some, None, subst, ap, sym, ◌∙◌, arith}
use Rattle.engine_core.specs.Answers.{IsEntryAnswer, hold}
use Rattle.engine_core.specs.Engines.{EngineParts}
use Rattle.engine_core.specs.Marks.{PendingCall, past_of}
use Rattle.engine_core.specs.Moves.{first_at}
use Rattle.chain_upgrade.specs.Chains.{ChainParts}
use Rattle.chain_upgrade.proofs.Reading.{one-call}
use Rattle.chain_upgrade.proofs.Stands.{none-weaker, not-none, one-number, one-some, some-any, some-weaker, there-at}
use Rattle.chain_upgrade.proofs.chain.Chain.held.Goals as goal

-- the engine that is asked is that of the position
its-engine : (c : goal.After-held) (e : EngineParts) → slice_get c.args.self.now.engines c.args.at ≡ Some e → c.index.result.now ≡ e
its-engine c e is =
    let many : length c.args.self.now.engines ≡ length c.self.inside.engines.items = ap (λ (v : ChainParts). length v.engines) (sym c.self.view_is) in
    let there : slice_get c.self.inside.engines.items c.args.at ≡ Some c.index.result.now =
    there-at c.self.inside.engines.items c.args.at c.index.result.now (omega (arith, many, c.requires)) c.index.ensures in
    let here : slice_get c.args.self.now.engines c.args.at ≡ Some c.index.result.now =
    ap (λ (v : ChainParts). slice_get v.engines c.args.at) (sym c.self.view_is) ∙ there in
    one-some (slice_get c.args.self.now.engines c.args.at) c.index.result.now e here is

call-there : (c : goal.After-held) → slice_get c.args.self.now.calls c.in_ok-place.place ≡ Some c.at.result.now
call-there c = ap (λ (v : ChainParts). slice_get v.calls c.in_ok-place.place) (sym c.self.view_is) ∙ c.at.ensures

-- the call is the first there
its-call : (c : goal.After-held) (s : PendingCall) → first_at c.args.at c.args.self.now.row ≡ Some (s.call.seq, c.args.at)
    → Contains c.args.self.now.calls s → s ≡ c.at.result.now
its-call c s first has =
    let own : first_at c.args.at c.args.self.now.row ≡ Some (c.at.result.now.call.seq, c.args.at) = c.in_ok-place.ensures.first c.at.result.now (call-there c) in
    let number : s.call.seq ≡ c.at.result.now.call.seq = one-number (first_at c.args.at c.args.self.now.row) s.call.seq c.at.result.now.call.seq c.args.at c.args.at first own in
    one-call c.self.inside.row c.in_ok-place.place s c.at.result.now c.self.invariant.0.stands.ascend c.at.ensures
    (subst (λ (calls : List PendingCall). Contains calls s) (ap (λ (v : ChainParts). v.calls) (sym c.self.view_is)) has) number

pub returns-clause-holds : goal.returns-clause-holds
returns-clause-holds c =
    some-weaker
    (λ h. (moment : ℕ) → IsEntryAnswer c.index.result.now.entry.policy c.index.result.now.level moment c.at.result.now.call
    (past_of c.at.result.now.marks c.index.result.now.entry.attach) (hold h.0 h.1))
    (λ h. (e : EngineParts) (s : PendingCall) (moment : ℕ) → slice_get c.args.self.now.engines c.args.at ≡ Some e
    → first_at c.args.at c.args.self.now.row ≡ Some (s.call.seq, c.args.at) → Contains c.args.self.now.calls s
    → IsEntryAnswer e.entry.policy e.level moment s.call (past_of s.marks e.entry.attach) (hold h.0 h.1))
    c.held.result
    (λ h answers e s moment is first has.
    subst (λ (e : EngineParts). IsEntryAnswer e.entry.policy e.level moment s.call (past_of s.marks e.entry.attach) (hold h.0 h.1)) (its-engine c e is)
    (subst (λ (s : PendingCall). IsEntryAnswer c.index.result.now.entry.policy c.index.result.now.level moment s.call (past_of s.marks c.index.result.now.entry.attach) (hold h.0 h.1))
    (sym (its-call c s first has)) (answers moment)))
    c.held.ensures.holds

pub returns-clause-stands : goal.returns-clause-stands
returns-clause-stands c =
    some-any (first_at c.args.at c.args.self.now.row ≡ None → ⊥) c.held.result
    (λ none. not-none (first_at c.args.at c.args.self.now.row) (c.at.result.now.call.seq, c.args.at) (c.in_ok-place.ensures.first c.at.result.now (call-there c)) none)

pub returns-clause-none : goal.returns-clause-none
returns-clause-none c =
    none-weaker
    ((moment level cost : ℕ) → IsEntryAnswer c.index.result.now.entry.policy c.index.result.now.level moment c.at.result.now.call
    (past_of c.at.result.now.marks c.index.result.now.entry.attach) (hold level cost) → ⊥)
    ((e : EngineParts) (s : PendingCall) (moment level cost : ℕ) → slice_get c.args.self.now.engines c.args.at ≡ Some e
    → first_at c.args.at c.args.self.now.row ≡ Some (s.call.seq, c.args.at) → Contains c.args.self.now.calls s
    → IsEntryAnswer e.entry.policy e.level moment s.call (past_of s.marks e.entry.attach) (hold level cost) → ⊥)
    c.held.result
    (λ none e s moment level cost is first has answers. none moment level cost
    (subst (λ (e : EngineParts). IsEntryAnswer e.entry.policy e.level moment c.at.result.now.call (past_of c.at.result.now.marks e.entry.attach) (hold level cost)) (sym (its-engine c e is))
    (subst (λ (s : PendingCall). IsEntryAnswer e.entry.policy e.level moment s.call (past_of s.marks e.entry.attach) (hold level cost)) (its-call c s first has) answers)))
    c.held.ensures.none
