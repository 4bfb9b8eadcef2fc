use Rattle.std.proofs.Common.{rules}
use Rattle.std.proofs.lemmas.List.Sorted.{IsNonDecreasingBy-from_sort_by_key}
use Rattle.schema_resolve.proofs.FieldTables.{judged_of}
use Rattle.schema_resolve.proofs.field_table.by_number.Goals as goal

pub returns : goal.returns
returns c =
    judged_of c.args.scopes.now c.args.place c.args.message.now _ _ c.requires.formed c.requires.ordered c.requires.clean
    c.requires.here c.in_ok-fields.ensures c.in_ok-sort_by_key.ensures.permutation
    (IsNonDecreasingBy-from_sort_by_key (λ j. j.number) _ c.in_ok-sort_by_key.ensures.sorted (λ a r q k. search rules))
