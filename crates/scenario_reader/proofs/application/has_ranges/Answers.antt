use Rattle.std.proofs.Common.{List, ◌≡◌, ◌∷◌, [], refl, ap, ◌∙◌}
use Rattle.std.specs.List.{list_all}
use Rattle.toml.specs.View.{table_view}
use Rattle.scenario_toml.specs.Values.{TheIntegerRange, is_within_at}
use Rattle.scenario_reader.proofs.application.has_ranges.Goals as goal

more : (a b : TheIntegerRange) (xs ys : List TheIntegerRange) → a ≡ b → xs ≡ ys → a ∷ xs ≡ b ∷ ys
more a b xs ys key rest = ap (λ (x : TheIntegerRange). x ∷ xs) key ∙ ap (λ (zs : List TheIntegerRange). b ∷ zs) rest

pub returns : goal.returns
returns c =
    c.are_within.ensures
    ∙ ap (λ (rs : List TheIntegerRange). list_all (is_within_at (table_view c.args.entry.now)) rs)
    (more _ _ _ _ c.conn.ensures (more _ _ _ _ c.heap.ensures (more _ _ _ _ c.receive.ensures (more _ _ _ _ c.ring.ensures
    (more _ _ [] [] c.weight.ensures refl)))))
