use Rattle.std.proofs.Common.{◌≡◌, ◌+◌, ◌^◌, ◌<◌, [], ◌∷◌, ◌++◌, length, OnOk, subst, ap, ◌∙◌, arith}
use Rattle.std.proofs.lemmas.Result.{on_ok_weaker}
use Rattle.graph_form.specs.Roles.{run_words}
use Rattle.graph_place.proofs.Chain.{RunPut}
use Rattle.graph_place.proofs.Items.{optional_number_put, optional_run_put}
use Rattle.graph_place.proofs.Results.{on_ok_both}
use Rattle.graph_place.proofs.builder.Builder.optional.Goals as goal

pub returns-in_ok-put-in-Number-clause-puts : goal.returns-in_ok-put-in-Number-clause-puts
returns-in_ok-put-in-Number-clause-puts c = on_ok_weaker c.put-in-Number.result
    (λ behind.
    optional_number_put c.args.value.now c.in-Number.number c.args.place c.args.self.now.free
    c.put-in-Number.new.self.free c.args.self.now.words.items c.put.new.self.words.items
    c.put-in-Number.new.self.words.items c.in-Number.is c.requires.slot
    (c.put-in-Number.ensures.free ∙ c.put.ensures.free) c.in_ok-put-in-Number.ensures.words behind)
    c.put-in-Number.ensures.words

pub returns-in_ok-put-in-Run-clause-puts : goal.returns-in_ok-put-in-Run-clause-puts
returns-in_ok-put-in-Run-clause-puts c =
    let same = c.as_slice-bytes.ensures in
    let short : length c.as_slice-bytes.result.now + 1 < 2 ^ 64 = omega arith in
    let small = subst (λ xs. length xs + 1 < 2 ^ 64) same short in
    let sizes = subst (λ xs. OnOk c.run.result (c.run.new.self.free ≡ c.put-in-Run.new.self.free + run_words (length xs))) same c.run.ensures.free in
    let there = subst
    (λ xs. OnOk c.run.result
    (RunPut xs (c.args.place + 1) c.put-in-Run.new.self.free c.put-in-Run.new.self.words.items c.run.new.self.free
    c.run.new.self.words.items)) same c.run.ensures.puts in
    on_ok_both c.run.result
    (λ size puts.
    optional_run_put c.args.value.now c.in-Run.bytes c.args.place c.args.self.now.free c.put-in-Run.new.self.free
    c.run.new.self.free c.args.self.now.words.items c.put-in-Run.new.self.words.items c.run.new.self.words.items
    c.in-Run.is small c.requires.slot c.put-in-Run.ensures.free size
    (c.in_ok-put-in-Run.ensures.words ∙ ap (λ n. c.args.self.now.words.items ++ (c.args.place, n + 1) ∷ []) (ap length same)) puts)
    sizes there
