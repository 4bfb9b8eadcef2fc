use Rattle.std.proofs.Common.{◌≡◌, List, Some, set, slice_get, slice_index_or, refl, ap, sym, subst, arith}
use Rattle.std.proofs.lemmas.Option.{slice_get-get_or}
use Rattle.mrpc_table.specs.Calls.{IsCallOf}
use Rattle.mrpc_table.specs.declared.call.Call.{Call}
use Rattle.engine_core.specs.Turns.{noted_in}
use Rattle.engine_core.specs.Working.{IsCallAfter, AreTicketsAfterTurn}
use Rattle.engine_core.specs.Engines.{EngineParts}
use Rattle.engine_core.specs.Marks.{PendingCall}
use Rattle.engine_core.proofs.Passing.{seen-at, then-true}
use Rattle.engine_core.proofs.call_row.CallRow.work.Goals as goal

pub drop_other_marks-requires : goal.drop_other_marks-requires
drop_other_marks-requires g c = then-true c.args.alone (λ all. all c.index_mut-call.result.now
    (seen-at c.self.inside.calls.items c.args.self.now c.args.place c.index_mut-call.result.now c.self.view_is c.requires.place c.index_mut-call.ensures.value))
    c.requires.alone

pub work-requires-clause-call : goal.work-requires-clause-call
work-requires-clause-call g c =
    subst (λ (call : Call). IsCallOf c.args.table.now call) (sym c.drop_other_marks.ensures.call) (c.requires.call c.index_mut-call.result.now
    (seen-at c.self.inside.calls.items c.args.self.now c.args.place c.index_mut-call.result.now c.self.view_is c.requires.place c.index_mut-call.ensures.value))

pub work-requires-clause-room : goal.work-requires-clause-room
work-requires-clause-room g c =
    let fewer = c.few_others.ensures (slice_index_or c.args.engines.now c.args.at c.index-engines-at.result)
    (slice_get-get_or c.args.engines.now c.args.at c.index-engines-at.result c.requires.engine) in
    omega (arith, fewer, c.requires.few)

pub work-requires-clause-known : goal.work-requires-clause-known
work-requires-clause-known g c = c.requires.known (slice_index_or c.args.engines.now c.args.at c.index-engines-at.result)
    (slice_get-get_or c.args.engines.now c.args.at c.index-engines-at.result c.requires.engine)

pub returns-clause-works : goal.returns-clause-works
returns-clause-works g c = record {
  engine = slice_index_or c.args.engines.now c.args.at c.index-engines-at.result;
  engine' = c.work.new.self;
  is_engine = slice_get-get_or c.args.engines.now c.args.at c.index-engines-at.result c.requires.engine;
  others = refl;
  call = c.index_mut-call.result.now;
  call' = c.work.new.call;
  is_call = seen-at c.self.inside.calls.items c.args.self.now c.args.place c.index_mut-call.result.now c.self.view_is c.requires.place c.index_mut-call.ensures.value;
  other_calls = ap (λ (calls : List PendingCall). set calls c.args.place c.work.new.call) c.self.view_is;
  met = c.drop_other_marks.new.self;
  keeps = c.drop_other_marks.ensures;
  turn = c.work.ensures.comes_out;
  leaves_engine = c.work.ensures.engine;
  leaves_call = subst (λ (call : Call). IsCallAfter (slice_index_or c.args.engines.now c.args.at c.index-engines-at.result).entry.policy c.work.result call c.work.new.call.call)
      c.drop_other_marks.ensures.call c.work.ensures.call;
  leaves_marks = c.work.ensures.marks;
}

pub returns-clause-tickets : goal.returns-clause-tickets
returns-clause-tickets g c e is =
    let own : slice_get c.args.engines.now c.args.at ≡ Some (slice_index_or c.args.engines.now c.args.at c.index-engines-at.result) =
    slice_get-get_or c.args.engines.now c.args.at c.index-engines-at.result c.requires.engine in
    let same : slice_index_or c.args.engines.now c.args.at c.index-engines-at.result ≡ e = cc (own, is) in
    subst (λ (e : EngineParts). AreTicketsAfterTurn {Q = g.row.Q.Denot} g.Q.Tickets.knows g.Q.Tickets.drawn
    g.Q.Tickets.since e.entry.policy (noted_in c.work.result) c.args.tickets.now c.work.new.tickets)
    same c.work.ensures.tickets
