use Rattle.std.proofs.Common.{◌≡◌, ℕ, List, length, suc, take, drop, slice_get, Some, ap, ◌∙◌, subst, arith}
use Rattle.std.proofs.lemmas.List.{length-set}
use Rattle.engine_core.specs.Engines.{EngineParts}
use Rattle.engine_core.specs.Marks.{PendingCall}
use Rattle.engine_core.specs.Moves.{Row, advanced}
use Rattle.engine_core.specs.declared.outcome.Noted.TheVariants.{Nothing}
use Rattle.engine_core.specs.declared.outcome.Outcome.TheVariants.{Passed}
use Rattle.chain_upgrade.specs.Chains.{IsEngineTurn}
use Rattle.chain_upgrade.proofs.AfterTurns.{left-after, turned, with-call, without-it}
use Rattle.chain_upgrade.proofs.Stands.{one-some, set-there}
use Rattle.chain_upgrade.proofs.Turning.{number-kept}
use Rattle.chain_upgrade.proofs.chain.Chain.pass_unnoted.Goals as goal

pub settle-requires-clause-at : goal.settle-requires-clause-at
settle-requires-clause-at c =
    let w = c.if-not-passes_unnoted.ensures.works 0 in
    omega (arith, c.requires.at, ap (λ (es : List EngineParts). length es) w.others, length-set c.args.self.now.engines c.args.at w.engine')

pub returns-clause-passed : goal.returns-clause-passed
returns-clause-passed c =
    let w = c.if-not-passes_unnoted.ensures.works 0 in
    let there : slice_get c.passes_unnoted.new.self.calls c.in-Some.place ≡ Some w.call' =
    ap (λ (calls : List PendingCall). slice_get calls c.in-Some.place) w.other_calls
    ∙ set-there c.args.self.now.calls c.in-Some.place w.call w.call' w.is_call in
    record {
      seq = w.call.call.seq;
      first = c.in-Some.ensures.first w.call w.is_call;
      turn = λ moment.
          let v = c.if-not-passes_unnoted.ensures.works moment in
          let same : v.call ≡ w.call = one-some (slice_get c.args.self.now.calls c.in-Some.place) v.call w.call v.is_call w.is_call in
          let left = c.settle.ensures.calls ∙ left-after (Passed Nothing) c.in-Some.place c.passes_unnoted.new.self.calls
          (take c.in-Some.place c.args.self.now.calls) (drop (suc c.in-Some.place) c.args.self.now.calls) v.call'
          (with-call c.args.self.now c.settle.new.self c.args.at c.in-Some.place moment (Passed Nothing)
          c.passes_unnoted.new.self.engines c.passes_unnoted.new.self.calls c.is_chain_state.ensures.stands v)
          (without-it c.args.self.now c.settle.new.self c.args.at c.in-Some.place moment (Passed Nothing)
          c.passes_unnoted.new.self.engines c.passes_unnoted.new.self.calls c.is_chain_state.ensures.stands v) in
          subst (λ (seq : ℕ). IsEngineTurn c.args.self.now c.args.at moment seq (Passed Nothing) c.settle.new.self)
          (ap (λ (s : PendingCall). s.call.seq) same)
          (turned c.args.self.now c.settle.new.self c.args.at c.in-Some.place moment (Passed Nothing)
          c.passes_unnoted.new.self.engines c.passes_unnoted.new.self.calls c.is_chain_state.ensures.stands v c.settle.ensures.engines left);
      row = c.settle.ensures.row w.call' there
          ∙ (ap (λ (row : Row). advanced w.call'.call.seq row) c.if-not-passes_unnoted.ensures.row
          ∙ ap (λ (seq : ℕ). advanced seq c.args.self.now.row)
          (number-kept w.engine.entry.policy (Passed Nothing) w.call.call w.call'.call w.leaves_call));
      attached = c.settle.ensures.attached ∙ c.if-not-passes_unnoted.ensures.attached;
    }
