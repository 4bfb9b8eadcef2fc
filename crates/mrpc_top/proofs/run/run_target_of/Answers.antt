use Rattle.std.proofs.Common.{◌≡◌, [], ◌∷◌}
use Rattle.std.specs.Prelude.{map, string_bytes}
use Rattle.mrpc_top.proofs.Runs.{no_drill, none-then, two_words}
use Rattle.mrpc_top.proofs.run.run_target_of.Goals as goal

pub returns-in-len2-clause-none : goal.returns-in-len2-clause-none
returns-in-len2-clause-none c =
    let are : map string_bytes c.args.words.now ≡ c.as_str-in-len2.result.now ∷ c.as_str-in-len2-2.result.now ∷ [] =
    two_words c.args.words.now _ _ _ _ c.in-len2.len_at_least c.in-len2.len_below c.word-item-then-words-lt3.is
    c.number-item.is c.as_str-in-len2.ensures.value c.as_str-in-len2-2.ensures.value in
    none-then c.drill_of.result _ _ (no_drill c.args.words.now c.as_str-in-len2.result.now c.as_str-in-len2-2.result.now are)
    c.drill_of.ensures.none
