use Rattle.std.proofs.Common.{List, ℕ, subst, ◌++◌, ◌∷◌, []}
use Rattle.table_text.specs.NameIndex.{AreNames}
use Rattle.table_text.specs.Drafts.{message_names}
use Rattle.table_text.proofs.KeptLemmas.{kept_message}
use Rattle.table_text.proofs.reader.TableReader.add_message.Goals as goal

pub returns-clause-kept : goal.returns-clause-kept
returns-clause-kept c t h =
    let added = subst (λ (n : List ℕ). AreNames c.add.new.self (message_names c.args.self.now.draft ++ n ∷ []))
    c.as_slice.ensures (c.in_ok-add.ensures (message_names c.args.self.now.draft) h.message_names) in
    rw (c.new-3.ensures, c.new-4.ensures)
    (kept_message t c.args.self.now c.close.new.self c.args.name c.add.new.self c.new.result c.new-2.result
    c.in_ok-close.ensures h added c.new.ensures c.new-2.ensures)
