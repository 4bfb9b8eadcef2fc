use Rattle.std.proofs.Common.{get_or}
use Rattle.std.proofs.lemmas.List.Folds.{list_any_at}
use Rattle.std.specs.Cmp.{nat_eq_equiv}
use Rattle.engine_core.proofs.MarkLemmas.{IsOneEach-filter}
use Rattle.engine_core.proofs.Keeping.{length-kept, note_of-gone, note_of-kept, note_of-none}
use Rattle.engine_core.proofs.standing.Standing.keep_marks_of.Goals as goal

pub invariant_of-self : goal.invariant_of-self
invariant_of-self c = rw c.keep_of.ensures (IsOneEach-filter _ _ c.self.invariant)

pub returns-clause-kept : goal.returns-clause-kept
returns-clause-kept c = λ k d within. rw (c.keep_of.ensures, ← c.self.view_is) (note_of-kept c.args.engines.now (get_or c.args.engines.now k d).entry.attach c.self.inside.marks.items
    (list_any_at _ c.args.engines.now k d within (nat_eq_equiv.refl (get_or c.args.engines.now k d).entry.attach)))

pub returns-clause-gone : goal.returns-clause-gone
returns-clause-gone c = λ b apart. rw c.keep_of.ensures (note_of-gone c.args.engines.now b c.self.inside.marks.items apart)

pub returns-clause-none : goal.returns-clause-none
returns-clause-none c = rw (c.keep_of.ensures, ← c.self.view_is) (λ b none. note_of-none c.args.engines.now b c.self.inside.marks.items none)

pub returns-clause-room : goal.returns-clause-room
returns-clause-room c = λ k d within. rw c.keep_of.ensures (length-kept c.args.engines.now (get_or c.args.engines.now k d).entry.attach c.self.inside.marks.items c.self.invariant
    (list_any_at _ c.args.engines.now k d within (nat_eq_equiv.refl (get_or c.args.engines.now k d).entry.attach)))
