use Rattle.std.proofs.Common.{refl, ◌∙◌, ap, []}
use Rattle.toml.specs.View.{table_view}
use Rattle.scenario_toml.specs.Values.{has_keys}
use Rattle.scenario.proofs.SameKeys.{more}
use Rattle.scenario.proofs.keys.has_top_keys.Goals as goal

pub returns : goal.returns
returns c = c.has_keys.ensures
    ∙ ap (λ ks. has_keys ks (table_view c.args.all.now))
    (more _ _ _ _ c.required.ensures
    (more _ _ _ _ c.required-2.ensures
    (more _ _ _ _ c.required-3.ensures
    (more _ _ _ _ c.optional.ensures
    (more _ _ _ _ c.optional-2.ensures
    (more _ _ _ _ c.optional-3.ensures
    (more _ _ _ _ c.optional-4.ensures
    (more _ _ _ _ c.optional-5.ensures
    (more _ _ _ _ c.optional-6.ensures
    (more _ _ _ _ c.optional-7.ensures
    (more _ _ [] [] c.optional-8.ensures refl)))))))))))
