use Rattle.std.proofs.Common.{◌≡◌, ◌∙◌, Ok, true, false, ap, sym, subst}
use Rattle.mrpc_table.specs.Valid.{IsValid}
use Rattle.mrpc_table.specs.declared.table.Table.{Table}
use Rattle.link_handshake.specs.Handshake.{hello_of}
use Rattle.service.proofs.Apps.{app-found, app-number, app-there, lent-there, valid-table}
use Rattle.service.proofs.Hellos.{cause-of, said-by}
use Rattle.service.proofs.handshake.send_own_hello.Goals as goal

pub unreachable-requires : goal.unreachable-requires
unreachable-requires g c =
    let app = app-found c.args.plan.now c.args.conn c.requires.known in
    lent-there c.application.result app.0 (c.application.ensures ∙ app.1) c.in_default.not-Some

pub send_hello-requires-clause-valid : goal.send_hello-requires-clause-valid
send_hello-requires-clause-valid g c =
    let plan = c.args.plan.now in
    let app = c.in-Some.app.now in
    subst (λ (T : Table). IsValid T) (sym c.table_of-table.ensures)
    (valid-table plan app c.requires.plan (app-there plan c.args.conn app (sym c.in-Some.ensures)))

pub returns : goal.returns
returns g c =
    let plan = c.args.plan.now in
    let app = c.in-Some.app.now in
    let its_app = sym c.in-Some.ensures in
    let said = c.in_ok-said.said in
    record {
      its_app = its_app;
      is_new = c.requires.is_new;
      said = said-by g.L.Link plan app c.args.link c.send_hello.new.link c.finish_if.new.link said
          (hello_of c.args.conn plan.service c.table_of-table.result.now) c.requires.is_new
          (ap (λ n. hello_of n plan.service c.table_of-table.result.now) (sym (app-number plan c.args.conn app its_app))
          ∙ ap (λ (T : Table). hello_of app.conn plan.service T) c.table_of-table.ensures)
          (λ agreed. c.in_ok-said.ensures.said (ap Ok agreed))
          (λ unsaid. c.in_ok-said.ensures.kept (λ same. let wrong : said ≡ true = cc in
          let other : true ≡ false = sym wrong ∙ unsaid in cc))
          (cause-of said _ _ c.in_ok-said.ensures.cause) c.in_ok-said.ensures.same_given
          c.in_ok-said.ensures.same_link c.finish_if.ensures.handed c.finish_if.ensures.given
          c.finish_if.ensures.failures c.finish_if.ensures.same_link;
    }
