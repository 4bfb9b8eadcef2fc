use Rattle.std.proofs.Common.{◌≡◌, ◌++◌, ℕ, List, [], ◌∷◌, drop, length, ap, ◌∙◌, arith}
use Rattle.std.specs.Int.{w64, from_le_bytes}
use Rattle.graph_place.proofs.Bytes.{padded, are_bytes, zeros, drop_zeros}
use Rattle.graph_place.proofs.builder.word_of.Goals as goal

pub returns : goal.returns
returns c =
    let bytes = c.args.bytes.now in
    let whole : c.from_le_bytes.result
    ≡ from_le_bytes w64 (c.copy_from_slice.new.self ++ drop (length c.args.bytes.now)
    (0 ∷ 0 ∷ 0 ∷ 0 ∷ 0 ∷ 0 ∷ 0 ∷ 0 ∷ [])) = c.from_le_bytes.ensures in
    padded bytes c.from_le_bytes.result c.requires (are_bytes bytes (λ i. omega (arith, c.type_inv.bytes i))) c.from_le_bytes.type_inv
    (whole ∙ ap (λ (xs : List ℕ). from_le_bytes w64 (xs ++ drop (length c.args.bytes.now) (zeros 8)))
    c.copy_from_slice.ensures.after ∙ ap (λ (ys : List ℕ). from_le_bytes w64 (c.args.bytes.now ++ ys))
    (drop_zeros (length c.args.bytes.now) 8 c.requires))
