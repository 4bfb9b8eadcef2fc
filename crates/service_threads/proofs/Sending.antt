-- Connections may go to another thread, with all that belongs to them.
use mir.Syntax.{Width, w8, w16, w32, w64}
use denote.RattleType.{RattleType}
use denote.Ref.{NamedLft}
use denote.Hole.{as_row}
use denote.Struct.Field.{row_field, uint_field}
use denote.Param.Send.{IsSend, IsSync, sendable, plain_send, view_send}
use denote.Param.SendFields.{as_row_send, declared_send, variants_send}
use Rattle.std.proofs.Crossing.{crosses, Vec-send, Deque-send}
use Rattle.std.proofs.alloc.Global.TheSendSync as global
use Rattle.std.proofs.option.Option.TheSendSync as option
use Rattle.mrpc_base.specs.declared.clock.Clock.{Ghosts as ClockMembers}
use Rattle.mrpc_base.specs.declared.link.Link.{Ghosts as LinkMembers}
use Rattle.mrpc_base.specs.declared.ready_order.ReadyOrder.{Ghosts as OrderMembers}
use Rattle.mrpc_base.specs.declared.tickets.Tickets.{Ghosts as TicketMembers}
use Rattle.mrpc_table.proofs.tree.Tree.TheLaws.TheKnot.{crosses as trees}
use Rattle.mrpc_table.proofs.table.Table.TheSendSync as table
use Rattle.mrpc_table.specs.contracts.tree.Tree as Tree
use Rattle.mrpc_table.specs.contracts.call.Call as Call
use Rattle.policy_access.proofs.access.Access.TheSendSync as access
use Rattle.polling.proofs.RunFlag.TheSendSync as flag
use Rattle.engine_core.proofs.engine.Engine.TheSendSync as engine
use Rattle.engine_core.proofs.mark.Mark.TheSendSync as mark
use Rattle.engine_core.proofs.op.Op.TheSendSync as op
use Rattle.engine_core.specs.contracts.call_row.CallRow as CallRow
use Rattle.engine_core.specs.contracts.call_row.CallRow.TheInside as CallRowInside
use Rattle.engine_core.specs.contracts.engine.Engine as Engine
use Rattle.engine_core.specs.contracts.op.Op as Op
use Rattle.engine_core.specs.contracts.standing.Standing as Standing
use Rattle.engine_core.specs.contracts.standing.Standing.TheInside as StandingInside
use Rattle.chain_upgrade.proofs.cuts.Cuts.TheSendSync as cuts
use Rattle.chain_upgrade.specs.contracts.chain.Chain as Chain
use Rattle.chain_upgrade.specs.contracts.chain.Chain.TheInside as ChainInside
use Rattle.graph_form.proofs.reason.Reason.TheSendSync as reason
use Rattle.call_history.proofs.record.RecordedCause.TheSendSync as refusal
use Rattle.call_history.specs.contracts.happening.TookCopy as TookCopy
use Rattle.call_history.specs.contracts.happening.AcceptedCall as Taken
use Rattle.call_history.specs.contracts.record.HistoryRecord as Record
use Rattle.call_history.specs.contracts.history.History as History
use Rattle.call_history.specs.contracts.history.History.TheInside as HistoryInside
use Rattle.wire_encode.proofs.backward_buffer.BackwardBuffer.TheSendSync as output
use Rattle.conn_core.specs.contracts.conn.Conn as Conn
use Rattle.conn_core.specs.contracts.conn.Conn.TheInside as ConnInside
use Rattle.shared_heap.proofs.reader.Reader.TheSendSync as reader
use Rattle.shared_heap.proofs.writer.Writer.TheSendSync as writer
use Rattle.descriptor_ring.proofs.ring.Receiver.TheSendSync as receiver
use Rattle.frame_transport.proofs.fault.FeedFault.TheSendSync as fault
use Rattle.frame_transport.proofs.feed.Feed.TheSendSync as feed
use Rattle.receive_heap.proofs.extents.Extents.TheSendSync as extents
use Rattle.receive_core.proofs.arrival.DropCause.TheSendSync as cause
use Rattle.receive_core.specs.contracts.inbound.Inbound as Inbound
use Rattle.receive_core.specs.contracts.inbound.Inbound.TheInside as InboundInside
use Rattle.receive_core.specs.contracts.decoded.DecodedCall as Opened
use Rattle.message_delivery.proofs.arrivals.StreamState.TheSendSync as stream
use Rattle.message_delivery.proofs.notices.Notices.TheSendSync as notices
use Rattle.message_delivery.proofs.reclaims.Reclaims.TheSendSync as reclaims
use Rattle.message_delivery.specs.contracts.arrivals.ArrivalLine as ArrivalLine
use Rattle.message_delivery.specs.contracts.arrivals.Arrivals as Arrivals
use Rattle.service_loop.proofs.scheduled_op.ScheduledOp.TheSendSync as due
use Rattle.service_loop.proofs.visit_account.VisitAccount.TheSendSync as share
use Rattle.service_loop.specs.contracts.submissions.Submissions as Submissions
use Rattle.service_loop.specs.contracts.delivering.Deliveries as Deliveries
use Rattle.service_loop.specs.contracts.endpoint.Endpoint as Endpoint
use Rattle.service_wiring.specs.contracts.pooled_connection.PooledConnection as Turned
use Rattle.service_wiring.specs.contracts.pooled_connection.PooledConnection.TheInside as TurnedInside

word : (w : Width) → IsSend (as_row (uint_field w))
word w = as_row_send (uint_field w) (plain_send _ _ _ _ _)

-- ---- calls
tree-send : IsSend Tree.the_row
tree-send = search (crosses, trees, sendable) depth 60

call-send : IsSend Call.the_row
call-send = declared_send Call.the_type (word w32, (word w32, (word w16, (word w32, (tree-send, tt)))))

standing-send : IsSend Standing.the_row
standing-send = view_send StandingInside.the_row _ _ _ _ (declared_send StandingInside.the_type (
  call-send,
  (search (mark.the_send, crosses, sendable) depth 60, tt),
))

row-send : IsSend CallRow.the_row
row-send = view_send CallRowInside.the_row _ _ _ _
    (declared_send CallRowInside.the_type (Deque-send Standing.the_row standing-send, tt))

chain-send : IsSend Chain.the_row
chain-send = view_send ChainInside.the_row _ _ _ _ (declared_send ChainInside.the_type (
  Vec-send Engine.the_row engine.the_send,
  (word w32, (row-send, (cuts.the_send, (word w32, tt)))),
))

-- ---- histories
copy-send : IsSend TookCopy.the_row
copy-send = variants_send TookCopy.enum ((tree-send, tt), ((reason.the_send, (word w64, (word w64, tt))), tt))

taken-send : IsSend Taken.the_row
taken-send = declared_send Taken.the_type (
  word w32,
  (word w16, (word w32, (word w64, (word w64, (word w64, (copy-send, tt)))))),
)

record-send : IsSend Record.the_row
record-send =
    variants_send Record.enum (
      (taken-send, tt),
      (
        (word w16, (word w32, (word w64, tt))),
        (
          (word w64, tt),
          (
            (word w64, tt),
            (
              (word w32, (word w64, (word w64, tt))),
              (
                (word w32, (word w64, (word w64, (word w64, tt)))),
                (
                  (word w32, (word w64, tt)),
                  (
                    (word w32, (word w64, (word w32, tt))),
                    (
                      (word w32, (word w64, tt)),
                      ((word w32, (refusal.the_send, tt)), tt),
                    ),
                  ),
                ),
              ),
            ),
          ),
        ),
      ),
    )

history-send : IsSend History.the_row
history-send = view_send HistoryInside.the_row _ _ _ _ (declared_send HistoryInside.the_type (
  Vec-send Op.the_row op.the_send,
  (Vec-send Record.the_row record-send, tt),
))

-- ---- arrivals
opened-send : IsSend Opened.the_row
opened-send = declared_send Opened.the_type (call-send, (word w64, tt))

inbound-send : IsSend Inbound.the_row
inbound-send = view_send InboundInside.the_row _ _ _ _ (declared_send InboundInside.the_type (
  global.the_send,
  (word w32, (feed.the_send, (extents.the_send, (option.the_send Opened.the_row opened-send, tt)))),
))

line-send : IsSend ArrivalLine.the_row
line-send = variants_send ArrivalLine.enum (
  (word w8, (word w16, (word w32, (tree-send, tt)))),
  ((word w8, (word w16, (word w32, (cause.the_send, tt)))), tt),
)

module _ (κ : NamedLft) where
  arrivals-send : IsSend (Arrivals.the_row κ)
  arrivals-send = declared_send (Arrivals.the_type κ) (
    inbound-send,
    (
      writer.the_send,
      (
        search (table.the_sync, sendable) depth 20,
        (
          search (option.the_send, access.the_sync, sendable) depth 20,
          (
            Vec-send ArrivalLine.the_row line-send,
            (
              stream.the_send,
              (option.the_send _ fault.the_send, tt),
            ),
          ),
        ),
      ),
    ),
  )

  deliveries-send : IsSend (Deliveries.the_row κ)
  deliveries-send = declared_send (Deliveries.the_type κ) (
    arrivals-send,
    (notices.the_send, (reclaims.the_send, tt)),
  )

  -- ---- connections
  conn-send : IsSend (Conn.the_row κ)
  conn-send = view_send (ConnInside.the_row κ) _ _ _ _ (declared_send (ConnInside.the_type κ) (
    word w32,
    (
      search (table.the_sync, sendable) depth 20,
      (
        word w64,
        (
          chain-send,
          (
            search (crosses, sendable) depth 20,
            (
              history-send,
              (
                word w32,
                (
                  word w64,
                  (
                    search sendable,
                    (
                      output.the_send,
                      (search (crosses, sendable) depth 20, tt),
                    ),
                  ),
                ),
              ),
            ),
          ),
        ),
      ),
    ),
  ))

  submissions-send : IsSend (Submissions.the_row κ)
  submissions-send = declared_send (Submissions.the_type κ) (
    conn-send,
    (
      reader.the_send,
      (
        receiver.the_send,
        (
          search (due.the_sync, sendable) depth 20,
          (
            word w64,
            (
              word w32,
              (search sendable, tt),
            ),
          ),
        ),
      ),
    ),
  )

  -- ---- running endpoints
  module _ (C Q L : RattleType) (c : IsSync C) (q : IsSend Q) (l : IsSend L) where
    endpoint-send : IsSend (Endpoint.the_row κ C Q L)
    endpoint-send = declared_send (Endpoint.the_type κ C Q L) (
      submissions-send,
      (
        deliveries-send,
        (
          as_row_send (row_field L) l,
          (
            as_row_send (row_field Q) q,
            (
              search sendable depth 20,
              (
                search (crosses, sendable) depth 20,
                (
                  word w64,
                  (option.the_send _ share.the_send, (search sendable, tt)),
                ),
              ),
            ),
          ),
        ),
      ),
    )

  module _ (R C Q L G O : RattleType) (of_clock : ClockMembers C.Denot) (of_quotas : TicketMembers Q.Denot)
      (of_link : LinkMembers L.Denot) (of_order : OrderMembers O.Denot) where
    pub turned-send : IsSync R → IsSync C → IsSend Q → IsSend L → IsSync G → IsSync O
        → IsSend (Turned.the_row κ R C Q L G O of_clock of_quotas of_link of_order)
    turned-send r c q l g o = view_send (TurnedInside.the_row κ R C Q L G O of_clock of_quotas of_link of_order) _ _ _ _
        (declared_send (TurnedInside.the_type κ R C Q L G O of_clock of_quotas of_link of_order) (
          endpoint-send C Q L c q l,
          (
            search sendable depth 20,
            (
              global.the_send,
              (search sendable depth 20, (search sendable depth 20, (search (flag.the_sync, sendable) depth 20, tt))),
            ),
          ),
        ))
