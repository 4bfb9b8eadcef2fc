use Rattle.std.proofs.Common.{◌≡◌, List, Some, length, set, slice_get, refl, ap, arith}
use Rattle.std.proofs.lemmas.Option.{slice_get_read}
use Rattle.engine_core.specs.Marks.{PendingCall}
use Rattle.engine_core.proofs.Passing.{seen-at, then-true, works-unnoted}
use Rattle.engine_core.proofs.call_row.CallRow.pass_unnoted.Goals as goal

pub few_others-requires-clause-marks : goal.few_others-requires-clause-marks
few_others-requires-clause-marks c = c.requires.marks c.index_mut-call.result.now
    (seen-at c.self.inside.calls.items c.args.self.now c.args.place c.index_mut-call.result.now c.self.view_is c.requires.place c.index_mut-call.ensures.value)

pub pass_unnoted-requires-clause-call : goal.pass_unnoted-requires-clause-call
pass_unnoted-requires-clause-call c = c.requires.call c.index_mut-call.result.now
    (seen-at c.self.inside.calls.items c.args.self.now c.args.place c.index_mut-call.result.now c.self.view_is c.requires.place c.index_mut-call.ensures.value)

pub pass_unnoted-requires-clause-room : goal.pass_unnoted-requires-clause-room
pass_unnoted-requires-clause-room c =
    let there : slice_get c.args.engines.now c.args.at ≡ Some c.index-engines-at.result =
    slice_get_read c.args.engines.now (length c.args.engines.now) c.args.at c.index-engines-at.result refl c.requires.engine c.index-engines-at.is in
    let fewer = c.few_others.ensures c.index-engines-at.result there in
    omega (arith, fewer, c.requires.few)

pub returns-clause-passed : goal.returns-clause-passed
returns-clause-passed c =
    let seen = seen-at c.self.inside.calls.items c.args.self.now c.args.place c.index_mut-call.result.now c.self.view_is c.requires.place c.index_mut-call.ensures.value in
    then-true c.pass_unnoted.result (λ steps moment.
    works-unnoted c.args.engines.now c.args.self.now _ c.args.at c.args.place moment
    c.index-engines-at.result c.index_mut-call.result.now c.pass_unnoted.new.call
    (slice_get_read c.args.engines.now (length c.args.engines.now) c.args.at c.index-engines-at.result refl c.requires.engine
    c.index-engines-at.is) seen (c.requires.marks c.index_mut-call.result.now seen)
    (ap (λ (calls : List PendingCall). set calls c.args.place c.pass_unnoted.new.call) c.self.view_is) (steps moment))
    c.pass_unnoted.ensures.passed
