use Rattle.schema_resolve.proofs.laws.resolved_table_is_unique.Goals as goal

pub returns : goal.returns
returns c = λ F T U ordered a b.
    c.table_text_is_unique.ensures T U a.valid b.valid (c.table_text_is_determined.ensures F T U ordered a b)
