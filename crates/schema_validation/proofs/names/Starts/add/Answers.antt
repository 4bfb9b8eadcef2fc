use Rattle.std.proofs.Common.{ℕ, ◌<◌, ◌⊎◌, List, Bor, subst}
use Rattle.std.specs.Prelude.{Option, ◌↔◌}
use Rattle.schema_validation.specs.Entries.{name_entry_of, IsEarlierThan}
use Rattle.schema_validation.proofs.EntryStarts.{starts_put}
use Rattle.schema_validation.proofs.names.Starts.add.Goals as goal

pub returns : goal.returns
returns c es known =
    let d = name_entry_of c.args.name.now in
    starts_put c.args.self.now (record { by = c.insert.new.self }) es d c.lesser-start.result
    (subst (λ (o : Option ℕ). (place : ℕ)
    → (c.lesser-start.result < place) ↔ (IsEarlierThan o place ⊎ (d.span.start < place)))
    c.get.ensures c.lesser-start.ensures)
    (λ k name. let q : ℕ × Bor (List ℕ) = (k, record { ref_ptr = (0, 0); now = name }) in
    c.in_ok-insert.ensures.updates.0 q)
    known
