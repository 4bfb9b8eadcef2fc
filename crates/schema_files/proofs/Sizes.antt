-- The total size of texts.
use Rattle.std.proofs.Common.{◌≡◌, ℕ, ◌+◌, ◌<◌, ◌≤◌, List, [], ◌∷◌, ◌++◌, length, set, get_or, map, sum, sum_by, refl, sym, ap, ◌∙◌, arith, suc}
use Rattle.std.proofs.Common.{take}
use Rattle.std.proofs.lemmas.List.{length-map, take_more, get_or-map, take_all}
use Rattle.std.specs.Prelude.{slice_get, Some}
use Rattle.std.specs.Option.{option_map}
use Rattle.std.proofs.lemmas.List.Sums.{sum_by-cons, sum_by-set, sum_by-take-le}
use Rattle.std.proofs.lemmas.Option.{slice_get_within, get_or_from_slice_get, slice_get-map, same_Some}
use Rattle.mrpc_table.specs.Valid.{AreDistinct}
use Rattle.proto_set.specs.Bundle.{BundledFile as PackedFile}
use Rattle.proto_set.specs.Named.{files_of}
use Rattle.proto_set.specs.declared.named.Named.{Named}
use Rattle.proto_set.specs.declared.set.ParsedFile.{ParsedFile}
use Rattle.proto_set.specs.declared.set.ImportClosure.{ImportClosure}
use Rattle.proto_set.specs.declared.linked_file.LinkedFile.{LinkedFile}
use Rattle.proto_set.specs.Joining.{sizes_of}
use Rattle.proto_set.specs.Texts.{IsInTextOf}
use Rattle.schema_files.specs.Joined.{AreLinkedFiles}
use Rattle.schema_files.proofs.Lists.{get_set_other, held, some_at}

-- elements at distinct indices sum up to at most the sum of all elements
pub picked_most : (xs order picked : List ℕ) → AreDistinct order → length picked ≡ length order
    → ((j i s : ℕ) → slice_get order j ≡ Some i → slice_get picked j ≡ Some s → slice_get xs i ≡ Some s)
    → sum picked ≤ sum xs
picked_most xs [] [] d e h = omega arith
picked_most xs [] (s ∷ ss) d e h = absurd (omega arith)
picked_most xs (i ∷ is) [] d e h = absurd (omega arith)
picked_most xs (i ∷ is) (s ∷ ss) d e h =
    let at : slice_get xs i ≡ Some s = h 0 i s refl refl in
    let rest = picked_most (set xs i 0) is ss d.1 (omega arith)
    (λ j k t a b. get_set_other xs i k 0 (λ (same : k ≡ i). d.0 (held is j i (a ∙ ap Some same)))
    ∙ h (suc j) k t a b) in
    omega (
      arith,
      rest,
      sum_by-cons (λ x. x) s ss,
      sum_by-set (λ x. x) xs i 0 0 (slice_get_within xs i s at),
      get_or_from_slice_get xs i s 0 at,
    )

texts_sum : (packed : List Named)
    → sum (map (λ (f : PackedFile). length f.1) (files_of packed)) ≡ sum_by (λ (f : Named). length f.text.now) packed
texts_sum [] = refl
texts_sum (p ∷ ps) = omega (
  arith,
  sum_by-cons (λ x. x) (length p.text.now) (map (λ (f : PackedFile). length f.1) (files_of ps)),
  sum_by-cons (λ (f : Named). length f.text.now) p ps,
  texts_sum ps,
)

-- the linked files of a set have at most the size of all its texts
pub parts_most : (packed : List Named) (members : List ParsedFile) (reach : ImportClosure) (ps : List LinkedFile)
    → AreDistinct reach.order → AreLinkedFiles (files_of packed) members reach ps
    → sum (sizes_of ps) ≤ sum_by (λ f. length f.text.now) packed
parts_most packed members reach ps d h =
    let sizes : List ℕ = map (λ (f : PackedFile). length f.1) (files_of packed) in
    let most = picked_most sizes reach.order (sizes_of ps) d (length-map ps (λ (p : LinkedFile). p.size) ∙ h.count)
    (λ j i s a b.
    let p = some_at ps j (omega (arith, h.count, slice_get_within reach.order j i a)) in
    let P = h.each j p.0 p.1 in
    let same : P.i ≡ i = same_Some P.i i (sym P.at ∙ a) in
    let size : p.0.size ≡ s = same_Some p.0.size s
    (sym (slice_get-map (λ (p : LinkedFile). p.size) ps j ∙ ap (option_map (λ (p : LinkedFile). p.size)) p.1) ∙ b) in
    slice_get-map (λ (f : PackedFile). length f.1) (files_of packed) i
    ∙ ap (option_map (λ (f : PackedFile). length f.1)) (ap (slice_get (files_of packed)) (sym same) ∙ P.packed_at)
    ∙ ap Some (sym P.size ∙ size)) in
    omega (arith, most, texts_sum packed)

pub in_all : (sizes : List ℕ) (k place : ℕ) → IsInTextOf sizes k place → place < sum sizes
in_all sizes k place h = omega (arith, h.below, sum_by-take-le (λ x. x) sizes (k + 1))

-- the sizes of the first linked files
pub sizes_more : (ps : List LinkedFile) (k : ℕ) (d : LinkedFile) (old new : List ℕ) → k < length ps → old ≡ take k (sizes_of ps)
    → new ≡ old ++ (get_or ps k d).size ∷ [] → new ≡ take (k + 1) (sizes_of ps)
sizes_more ps k d old new l h e =
    let at : (get_or ps k d).size ≡ get_or (sizes_of ps) k d.size =
    sym (get_or-map (λ (x : LinkedFile). x.size) ps k d d.size l) in
    e ∙ ap (λ (xs : List ℕ). xs ++ (get_or ps k d).size ∷ []) h
    ∙ ap (λ (n : ℕ). take k (sizes_of ps) ++ n ∷ []) at
    ∙ sym (take_more (sizes_of ps) k d.size (omega (arith, length-map ps (λ (x : LinkedFile). x.size))))

pub sizes_all : (ps : List LinkedFile) (k : ℕ) (all : List ℕ) → length ps ≤ k → all ≡ take k (sizes_of ps) → all ≡ sizes_of ps
sizes_all ps k all l h =
    h ∙ take_all k (sizes_of ps) (omega (arith, length-map ps (λ (x : LinkedFile). x.size)))
