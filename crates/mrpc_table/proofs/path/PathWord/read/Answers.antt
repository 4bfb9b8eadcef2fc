use Rattle.std.proofs.Common.{ℕ, ◌==◌, ◌∷◌, [], List, ◌∙◌, ap, sym, arith, length, length-append}
use Rattle.std.specs.Prelude.{option_map}
use Rattle.std.specs.List.{slice_split}
use Rattle.mrpc_table.specs.declared.words.Decimal.{Decimal}
use Rattle.mrpc_table.specs.PathWords.{path_of_parts}
use Rattle.mrpc_table.proofs.PathWordLemmas.{behind_numbers, one_more, step_path}
use Rattle.mrpc_table.proofs.path.PathWord.read.Goals as goal

pub loop-part-preserved : goal.loop-part-preserved
loop-part-preserved c =
    let rest = path_of_parts (slice_split (λ b. b == 46) c.in-Some.others.now) in
    let step = step_path c.in-Some.part.now c.in-Some-number_of.number c.in-Some.others.now (sym c.in-Some-number_of.ensures) in
    record {
      numbers =
          c.loop-part.invariant.numbers
          ∙ ap (λ ps. option_map (behind_numbers c.loop-part.way.items) (path_of_parts ps)) c.in-Some.ensures.parts
          ∙ ap (option_map (behind_numbers c.loop-part.way.items)) step
          ∙ one_more c.loop-part.way.items c.in-Some-number_of.number rest
          ∙ ap (λ (ns : List Decimal). option_map (behind_numbers ns) rest) (sym c.in_ok-push.ensures.items);
      count = omega (
        arith,
        c.loop-part.invariant.count,
        ap (length {A = List ℕ}) c.in-Some.ensures.parts,
        ap (length {A = Decimal}) c.in_ok-push.ensures.items,
        length-append c.loop-part.way.items (c.in-Some-number_of.number ∷ []),
      );
    }
