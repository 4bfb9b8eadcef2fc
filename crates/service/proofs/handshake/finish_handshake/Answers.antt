use Rattle.std.proofs.Common.{◌∙◌, Ok, ap, sym, subst}
use Rattle.std.specs.Option.{option_copied}
use Rattle.mrpc_table.specs.Valid.{IsValid}
use Rattle.mrpc_table.specs.declared.table.Table.{Table}
use Rattle.service.proofs.Apps.{app-there, is-application, valid-table}
use Rattle.service.proofs.Hellos.{heard-as, heard-by, on-some, refused-by}
use Rattle.service.proofs.handshake.finish_handshake.Goals as goal

pub open-requires-clause-at_least : goal.open-requires-clause-at_least
open-requires-clause-at_least g c =
    let plan = c.args.plan.now in
    let i = c.requires.introduced in
    (is-application plan c.args.end.app.now c.requires.plan
    (app-there plan i.0.conn c.args.end.app.now i.1.its_app)).port.receive.0

pub open-requires-clause-at_most : goal.open-requires-clause-at_most
open-requires-clause-at_most g c =
    let plan = c.args.plan.now in
    let i = c.requires.introduced in
    (is-application plan c.args.end.app.now c.requires.plan
    (app-there plan i.0.conn c.args.end.app.now i.1.its_app)).port.receive.1

pub open-requires-2-clause-most : goal.open-requires-2-clause-most
open-requires-2-clause-most g c =
    let plan = c.args.plan.now in
    let i = c.requires.introduced in
    (is-application plan c.args.end.app.now c.requires.plan
    (app-there plan i.0.conn c.args.end.app.now i.1.its_app)).port.receive.1

pub new_arrivals-arrivals-requires-clause-valid : goal.new_arrivals-arrivals-requires-clause-valid
new_arrivals-arrivals-requires-clause-valid g c =
    let plan = c.args.plan.now in
    let i = c.requires.introduced in
    subst (λ (T : Table). IsValid T) (sym c.table_of-table.ensures)
    (valid-table plan c.args.end.app.now c.requires.plan (app-there plan i.0.conn c.args.end.app.now i.1.its_app))

pub returns : goal.returns
returns g c = λ e i.
    let plan = c.args.plan.now in
    let app = c.args.end.app.now in
    let said = i.said in
    let hear = c.in_ok-unbound.ensures in
    let finish = c.finish_if.ensures in
    let new = c.new_arrivals-arrivals.ensures in
    let table = hear.same.table ∙ new.table ∙ c.table_of-table.ensures in
    record {
      its_app = i.its_app;
      is_new = i.is_new;
      same_link = λ first from. finish.same_link first (hear.same_link first (said.same_link first from));
      heard = heard-as g.L.Link plan app e.link c.finish_if.new.link c.receive_other_hello.new.arrivals c.in_ok-writer.reader
          c.in_ok-unbound.unbound
          (λ none. heard-by g.L.Link plan app e.link c.args.end.link c.receive_other_hello.new.link c.finish_if.new.link
          c.args.end.said i.is_new said hear.handed finish.handed finish.given finish.ended finish.failures
          c.receive_other_hello.new.arrivals c.in_ok-writer.reader (hear.said (ap Ok none)) (hear.no_fault (ap Ok none)) table
          (hear.bound (ap Ok none)) (hear.working (ap Ok none))
          (ap (λ h. h.held) hear.heap ∙ ap (λ r. r.heap.held) new.inbound ∙ c.in_ok-inbound.ensures.held)
          (ap option_copied (hear.same.policy ∙ new.policy) ∙ c.inbound_of-policy.ensures)
          (c.in_ok-writer.ensures.one_heap ∙ sym (hear.same.heap ∙ ap (λ w. w.heap) new.writer))
          c.in_ok-writer.ensures.loads
          (ap (λ h. h.words) c.in_ok-writer.ensures.one_heap ∙ c.in_ok-writer.ensures.size))
          (λ why some. refused-by g.L.Link plan app e.link c.args.end.link c.receive_other_hello.new.link c.finish_if.new.link
          c.args.end.said i.is_new said hear.handed finish.handed finish.given finish.ended finish.failures
          c.receive_other_hello.new.arrivals.table.now why table (on-some _ _ why some hear.left));
    }
