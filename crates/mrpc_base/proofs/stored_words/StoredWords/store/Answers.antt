use Rattle.std.proofs.Common.{arith, ap}
use Rattle.mrpc_base.specs.Parts.{StoredWordsState}
use Rattle.mrpc_base.proofs.LastStore.{stands_after_store}
use Rattle.mrpc_base.proofs.stored_words.StoredWords.store.Goals as goal

pub invariant_of-self : goal.invariant_of-self
invariant_of-self c =
    let size = ap (λ (stored : StoredWordsState). stored.size) c.self.view_is in
    stands_after_store c.self.inside.stores c.append.new.self c.self.inside.words.items c.args.place c.args.value
    (omega (arith, size, c.self.inside.words.ok.0, c.requires.in_heap)) c.append.ensures c.self.invariant
