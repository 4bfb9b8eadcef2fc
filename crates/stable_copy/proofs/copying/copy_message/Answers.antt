use Rattle.std.proofs.Common.{map, ap, subst, ◌∙◌}
use Rattle.mrpc_base.specs.Heap.{AreLoads}
use Rattle.graph_copy.specs.Copies.{loads_since}
use Rattle.shared_heap.specs.Fresh.{Reading, AfterLoad, word_of_load}
use Rattle.stable_copy.proofs.Answering.{answered}
use Rattle.stable_copy.proofs.copying.copy_message.Goals as goal

pub returns-clause-untouched : goal.returns-clause-untouched
returns-clause-untouched c = λ P all after sound few begins within stands.
    let old = c.args.reader.now in
    let new = c.copy.new.words in
    let own = loads_since (map word_of_load old.loads) (map word_of_load new.loads) in
    let only = c.copy.ensures.only_loads in
    let loaded : AreLoads AfterLoad old own new
    = subst (λ (r : Reading). AreLoads AfterLoad r own new) only.room only.loads in
    let law = c.unmodified_graph_is_copied.ensures c.args.table.now c.args.msg c.args.addr c.args.limit after old new in
    answered c.args.table.now old.heap.words c.args.msg c.args.addr c.args.limit own P c.copy.result
    c.copy.ensures.few c.copy.ensures.copied c.copy.ensures.malformed c.copy.ensures.counted
    (λ outcome comes. law own all P outcome loaded comes begins within sound few stands)

pub returns-clause-only_loads : goal.returns-clause-only_loads
returns-clause-only_loads c =
    let old = c.args.reader.now in
    let new = c.copy.new.words in
    let own = loads_since (map word_of_load old.loads) (map word_of_load new.loads) in
    let only = c.copy.ensures.only_loads in
    subst (λ (r : Reading). AreLoads AfterLoad r own new) only.room only.loads

pub returns-clause-heap : goal.returns-clause-heap
returns-clause-heap c =
    let own = loads_since (map word_of_load c.args.reader.now.loads) (map word_of_load c.copy.new.words.loads) in
    let only = c.copy.ensures.only_loads in
    (c.loads_preserve_reader.ensures only.roomed c.copy.new.words own only.loads).heap ∙ ap (λ (r : Reading). r.heap) only.room

pub returns-clause-grows : goal.returns-clause-grows
returns-clause-grows c =
    let old = c.args.reader.now in
    let new = c.copy.new.words in
    let own = loads_since (map word_of_load old.loads) (map word_of_load new.loads) in
    let only = c.copy.ensures.only_loads in
    let loaded : AreLoads AfterLoad old own new
    = subst (λ (r : Reading). AreLoads AfterLoad r own new) only.room only.loads in
    (c.loads_preserve_reader.ensures old new own loaded).grows

pub returns-clause-fresh : goal.returns-clause-fresh
returns-clause-fresh c = λ calls after were knew.
    let old = c.args.reader.now in
    let new = c.copy.new.words in
    let own = loads_since (map word_of_load old.loads) (map word_of_load new.loads) in
    let only = c.copy.ensures.only_loads in
    let loaded : AreLoads AfterLoad old own new
    = subst (λ (r : Reading). AreLoads AfterLoad r own new) only.room only.loads in
    c.calls_are_fresh.ensures.one_more calls after own old new were knew loaded
