use Rattle.std.proofs.Common.{◌≡◌, ◌++◌, ◌∷◌, take}
use Rattle.std.specs.List.{flat_map}
use Rattle.std.specs.Fmt.{decimal}
use Rattle.mrpc_table.proofs.sequence.Sequence+u8.append_row.Given as goal

abbrev pub invariant-loop-number : goal.invariant-loop-number
invariant-loop-number l =
    l.self ≡ (l.fn.self ++ l.front) ++ flat_map (λ n. 32 ∷ decimal n) (take l.number-index l.numbers)
