-- Several threads may read the calls of a connection, and its arrivals.
use mir.Syntax.{Width, w8, w16, w32, w64}
use denote.Ref.{NamedLft}
use denote.Hole.{as_row}
use denote.Struct.Field.{uint_field}
use denote.Param.Send.{IsSync, sendable, plain_sync, view_sync}
use denote.Param.SendFields.{as_row_sync, declared_sync, variants_sync}
use Rattle.std.specs.contracts.option.Option as Option
use Rattle.std.proofs.Crossing.{crosses, Vec-sync, Deque-sync}
use Rattle.mrpc_table.proofs.tree.Tree.TheLaws.TheKnot.{crosses as trees}
use Rattle.mrpc_table.proofs.table.Table.TheSendSync as table
use Rattle.mrpc_table.specs.contracts.tree.Tree as Tree
use Rattle.mrpc_table.specs.contracts.call.Call as Call
use Rattle.engine_core.proofs.engine.Engine.TheSendSync as engine
use Rattle.engine_core.proofs.mark.Mark.TheSendSync as mark
use Rattle.engine_core.proofs.op.Op.TheSendSync as op
use Rattle.engine_core.specs.contracts.call_row.CallRow as CallRow
use Rattle.engine_core.specs.contracts.call_row.CallRow.TheInside as CallRowInside
use Rattle.engine_core.specs.contracts.engine.Engine as Engine
use Rattle.engine_core.specs.contracts.op.Op as Op
use Rattle.engine_core.specs.contracts.standing.Standing as Standing
use Rattle.engine_core.specs.contracts.standing.Standing.TheInside as StandingInside
use Rattle.chain_upgrade.proofs.cuts.Cuts.TheSendSync as cuts
use Rattle.chain_upgrade.specs.contracts.chain.Chain as Chain
use Rattle.chain_upgrade.specs.contracts.chain.Chain.TheInside as ChainInside
use Rattle.graph_form.proofs.reason.Reason.TheSendSync as reason
use Rattle.call_history.proofs.record.RecordedCause.TheSendSync as refusal
use Rattle.call_history.specs.contracts.happening.TookCopy as TookCopy
use Rattle.call_history.specs.contracts.happening.AcceptedCall as Taken
use Rattle.call_history.specs.contracts.record.HistoryRecord as Record
use Rattle.call_history.specs.contracts.history.History as History
use Rattle.call_history.specs.contracts.history.History.TheInside as HistoryInside
use Rattle.wire_encode.proofs.backward_buffer.BackwardBuffer.TheSendSync as output
use Rattle.conn_core.specs.contracts.conn.Conn as Conn
use Rattle.conn_core.specs.contracts.conn.Conn.TheInside as ConnInside
use Rattle.receive_core.proofs.arrival.DropCause.TheSendSync as cause
use Rattle.message_delivery.specs.contracts.arrivals.ArrivalLine as ArrivalLine
use Rattle.run_report.proofs.arrivals.Judge.TheSendSync as judge
use Rattle.run_report.specs.contracts.prefixes.PrefixSource as Front

word : (w : Width) → IsSync (as_row (uint_field w))
word w = as_row_sync (uint_field w) (plain_sync _ _ _ _ _)

-- ---- calls
tree-sync : IsSync Tree.the_row
tree-sync = search (crosses, trees, sendable) depth 60

call-sync : IsSync Call.the_row
call-sync = declared_sync Call.the_type (word w32, (word w32, (word w16, (word w32, (tree-sync, tt)))))

standing-sync : IsSync Standing.the_row
standing-sync = view_sync StandingInside.the_row _ _ _ _ (declared_sync StandingInside.the_type (
  call-sync,
  (search (mark.the_sync, crosses, sendable) depth 60, tt),
))

row-sync : IsSync CallRow.the_row
row-sync = view_sync CallRowInside.the_row _ _ _ _
    (declared_sync CallRowInside.the_type (Deque-sync Standing.the_row standing-sync, tt))

chain-sync : IsSync Chain.the_row
chain-sync = view_sync ChainInside.the_row _ _ _ _ (declared_sync ChainInside.the_type (
  Vec-sync Engine.the_row engine.the_sync,
  (word w32, (row-sync, (cuts.the_sync, (word w32, tt)))),
))

-- ---- histories
copy-sync : IsSync TookCopy.the_row
copy-sync = variants_sync TookCopy.enum ((tree-sync, tt), ((reason.the_sync, (word w64, (word w64, tt))), tt))

taken-sync : IsSync Taken.the_row
taken-sync = declared_sync Taken.the_type (
  word w32,
  (word w16, (word w32, (word w64, (word w64, (word w64, (copy-sync, tt)))))),
)

record-sync : IsSync Record.the_row
record-sync =
    variants_sync Record.enum (
      (taken-sync, tt),
      (
        (word w16, (word w32, (word w64, tt))),
        (
          (word w64, tt),
          (
            (word w64, tt),
            (
              (word w32, (word w64, (word w64, tt))),
              (
                (word w32, (word w64, (word w64, (word w64, tt)))),
                (
                  (word w32, (word w64, tt)),
                  (
                    (word w32, (word w64, (word w32, tt))),
                    (
                      (word w32, (word w64, tt)),
                      ((word w32, (refusal.the_sync, tt)), tt),
                    ),
                  ),
                ),
              ),
            ),
          ),
        ),
      ),
    )

history-sync : IsSync History.the_row
history-sync = view_sync HistoryInside.the_row _ _ _ _ (declared_sync HistoryInside.the_type (
  Vec-sync Op.the_row op.the_sync,
  (Vec-sync Record.the_row record-sync, tt),
))

-- ---- arrivals
pub line-sync : IsSync ArrivalLine.the_row
line-sync = variants_sync ArrivalLine.enum (
  (word w8, (word w16, (word w32, (tree-sync, tt)))),
  ((word w8, (word w16, (word w32, (cause.the_sync, tt)))), tt),
)

module _ (κ : NamedLft) where
  pub conn-sync : IsSync (Conn.the_row κ)
  conn-sync = view_sync (ConnInside.the_row κ) _ _ _ _ (declared_sync (ConnInside.the_type κ) (
    word w32,
    (
      search (table.the_sync, sendable) depth 20,
      (
        word w64,
        (
          chain-sync,
          (
            search (crosses, sendable) depth 20,
            (
              history-sync,
              (
                word w32,
                (
                  word w64,
                  (
                    search sendable,
                    (
                      output.the_sync,
                      (search (crosses, sendable) depth 20, tt),
                    ),
                  ),
                ),
              ),
            ),
          ),
        ),
      ),
    ),
  ))

module _ (κ κ' : NamedLft) where
  pub front-sync : IsSync (Front.the_row κ κ')
  front-sync = declared_sync (Front.the_type κ κ') (
    search (conn-sync, sendable) depth 20,
    (
      search (table.the_sync, sendable) depth 20,
      (
        search (judge.the_sync, sendable) depth 20,
        (search (line-sync, sendable) depth 20, (search sendable, tt)),
      ),
    ),
  )

  pub source-sync : IsSync (Option.the_row (Front.the_row κ κ'))
  source-sync = search (front-sync, sendable) depth 40
