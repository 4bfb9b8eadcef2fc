use Rattle.std.proofs.Common.{◌≡◌, ℕ, List, suc, take, drop, slice_get, Some, ap, sym, ◌∙◌, subst}
use Rattle.mrpc_table.specs.declared.call.Call.{Call}
use Rattle.engine_core.specs.Engines.{EngineParts}
use Rattle.engine_core.specs.Marks.{PendingCall}
use Rattle.engine_core.specs.Moves.{Row}
use Rattle.engine_core.specs.Turns.{noted_in}
use Rattle.engine_core.specs.Working.{AreTicketsAfterTurn}
use Rattle.chain_upgrade.specs.Chains.{ChainParts, IsEngineTurn, row_after}
use Rattle.chain_upgrade.proofs.AfterTurns.{left-after, told-holds, turned, with-call, without-it}
use Rattle.chain_upgrade.proofs.Stands.{one-some, set-there}
use Rattle.chain_upgrade.proofs.Turning.{number-kept}
use Rattle.chain_upgrade.proofs.chain.Chain.turn.Goals as goal

pub returns-clause-turn : goal.returns-clause-turn
returns-clause-turn g c =
    let w = c.work-outcome.ensures.works in
    let at : slice_get c.args.self.now.calls c.in-Some.place ≡ Some c.at.result.now = ap (λ (v : ChainParts). slice_get v.calls c.in-Some.place) (sym c.self.view_is) ∙ c.at.ensures in
    let same : w.call ≡ c.at.result.now = one-some (slice_get c.args.self.now.calls c.in-Some.place) w.call c.at.result.now w.is_call at in
    let number : w.call.call.seq ≡ c.call.result.now.seq = ap (λ (s : PendingCall). s.call.seq) same ∙ sym (ap (λ (call : Call). call.seq) c.call.ensures) in
    let left = c.settle.ensures.calls ∙ left-after c.work-outcome.result c.in-Some.place c.work-outcome.new.self.calls
    (take c.in-Some.place c.args.self.now.calls) (drop (suc c.in-Some.place) c.args.self.now.calls) w.call'
    (with-call c.args.self.now c.settle.new.self c.args.at c.in-Some.place c.args.now c.work-outcome.result
    c.work-outcome.new.self.engines c.work-outcome.new.self.calls c.is_chain_state.ensures.stands w)
    (without-it c.args.self.now c.settle.new.self c.args.at c.in-Some.place c.args.now c.work-outcome.result
    c.work-outcome.new.self.engines c.work-outcome.new.self.calls c.is_chain_state.ensures.stands w) in
    told-holds c.call.result.now.seq c.work-outcome.result c.turned_as.result
    (λ seq outcome. IsEngineTurn c.args.self.now c.args.at c.args.now seq outcome c.settle.new.self) c.turned_as.ensures
    (subst (λ (seq : ℕ). IsEngineTurn c.args.self.now c.args.at c.args.now seq c.work-outcome.result c.settle.new.self) number
    (turned c.args.self.now c.settle.new.self c.args.at c.in-Some.place c.args.now c.work-outcome.result c.work-outcome.new.self.engines c.work-outcome.new.self.calls
    c.is_chain_state.ensures.stands w c.settle.ensures.engines left))

pub returns-clause-row : goal.returns-clause-row
returns-clause-row g c =
    let w = c.work-outcome.ensures.works in
    let at : slice_get c.args.self.now.calls c.in-Some.place ≡ Some c.at.result.now = ap (λ (v : ChainParts). slice_get v.calls c.in-Some.place) (sym c.self.view_is) ∙ c.at.ensures in
    let same : w.call ≡ c.at.result.now = one-some (slice_get c.args.self.now.calls c.in-Some.place) w.call c.at.result.now w.is_call at in
    let number : w.call'.call.seq ≡ c.call.result.now.seq =
    number-kept w.engine.entry.policy c.work-outcome.result w.call.call w.call'.call w.leaves_call
    ∙ (ap (λ (s : PendingCall). s.call.seq) same ∙ sym (ap (λ (call : Call). call.seq) c.call.ensures)) in
    let there : slice_get c.work-outcome.new.self.calls c.in-Some.place ≡ Some w.call' =
    ap (λ (calls : List PendingCall). slice_get calls c.in-Some.place) w.other_calls ∙ set-there c.args.self.now.calls c.in-Some.place w.call w.call' w.is_call in
    told-holds c.call.result.now.seq c.work-outcome.result c.turned_as.result
    (λ seq outcome. c.settle.new.self.row ≡ row_after seq outcome c.args.self.now.row) c.turned_as.ensures
    (c.settle.ensures.row w.call' there
    ∙ (ap (λ (row : Row). row_after w.call'.call.seq c.work-outcome.result row) c.work-outcome.ensures.row
    ∙ ap (λ (seq : ℕ). row_after seq c.work-outcome.result c.args.self.now.row) number))

pub returns-clause-tickets : goal.returns-clause-tickets
returns-clause-tickets g c =
    told-holds c.call.result.now.seq c.work-outcome.result c.turned_as.result
    (λ seq outcome. (e : EngineParts) → slice_get c.args.self.now.engines c.args.at ≡ Some e
    → AreTicketsAfterTurn {Q = g.row.Q.Denot} g.Q.Tickets.knows g.Q.Tickets.drawn g.Q.Tickets.since e.entry.policy (noted_in outcome) c.args.tickets.now c.work-outcome.new.tickets)
    c.turned_as.ensures c.work-outcome.ensures.tickets
