use Rattle.std.proofs.Common.{◌≡◌, ap, ◌∙◌, ◌++◌, ◌∷◌, []}
use Rattle.std.proofs.lemmas.Result.{on_ok_weaker}
use Rattle.mrpc_table.specs.declared.table.Method.{Method}
use Rattle.table_text.specs.Drafts.{method_names, resolved_method}
use Rattle.table_text.proofs.KeptLemmas.{kept_method}
use Rattle.table_text.proofs.reader.TableReader.add_method.Goals as goal

pub returns-clause-kept : goal.returns-clause-kept
returns-clause-kept c t h =
    let is : c.resolved_method-method.result ≡ resolved_method t c.args.method = c.resolved_method-method.ensures t h.messages in
    let added = c.in_ok-add_key.ensures (method_names c.args.self.now.draft) h.method_names in
    on_ok_weaker c.push.result (λ (more : c.push.new.self ≡ c.close.new.self.methods ++ c.resolved_method-method.result
    ∷ []). kept_method t c.args.self.now c.close.new.self c.push.new.self
    (resolved_method t c.args.method) c.add_key.new.names c.new.result c.new-2.result c.in_ok-close.ensures
    (more ∙ ap (λ (m : Method). c.close.new.self.methods ++ m ∷ []) is) h added c.new.ensures c.new-2.ensures)
    c.push.ensures.ok
