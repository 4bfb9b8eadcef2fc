-- Parts of names.
use Rattle.std.proofs.Common.{◌≡◌, ◌≢◌, ℕ, ◌<◌, true, false, List, [], ◌∷◌, length, get_or, Some, refl, ap, sym, ◌∙◌, arith}
use Rattle.std.specs.Prelude.{slice_get, ◌==◌, option_map, Bool, not}
use Rattle.std.specs.Str.{bytes_eq}
use Rattle.std.specs.Borrow.{Bor}
use Rattle.std.proofs.lemmas.Bool.{eqb-true}
use Rattle.std.proofs.lemmas.Slice.Eq.{bytes_eq-Decides}
use Rattle.std.proofs.lemmas.List.{length-map}
use Rattle.std.proofs.lemmas.List.Splits.{length-slice_split}
use Rattle.std.proofs.lemmas.Option.{slice_get_read, slice_get-map, get_or_from_slice_get}
use Rattle.mrpc_table.specs.Names.{parts_of}
use Rattle.schema_symbols.specs.Parts.{values_of}

pub some_part : (name : List ℕ) → 0 < length (parts_of name)
some_part name = omega (arith, length-slice_split (λ (c : ℕ). c == 46) name)

pub part_get : (ps : List (Bor (List ℕ))) (P : List (List ℕ)) → values_of ps ≡ P → (i : ℕ) (b : Bor (List ℕ))
    → i < length ps → b ≡ get_or ps i b → slice_get P i ≡ Some b.now
part_get ps P e i b l is =
    let at : slice_get ps i ≡ Some b = slice_get_read ps (length ps) i b refl l is in
    let there : slice_get (values_of ps) i ≡ Some b.now = slice_get-map (λ (p : Bor (List ℕ)). p.now) ps i ∙ ap (option_map (λ (p : Bor (List ℕ)). p.now)) at in
    ap (λ (x : List (List ℕ)). slice_get x i) (sym e) ∙ there

pub part_at : (ps : List (Bor (List ℕ))) (P : List (List ℕ)) → values_of ps ≡ P → (i : ℕ) (b : Bor (List ℕ))
    → i < length ps → b ≡ get_or ps i b → get_or P i [] ≡ b.now
part_at ps P e i b l is = get_or_from_slice_get P i b.now [] (part_get ps P e i b l is)

pub parts_length : (ps : List (Bor (List ℕ))) (P : List (List ℕ)) → values_of ps ≡ P → length ps ≡ length P
parts_length ps P e = sym (length-map ps (λ (p : Bor (List ℕ)). p.now)) ∙ ap length e

not_false : (b : Bool) → false ≡ not b → b ≡ true
not_false true e = refl
not_false false e = absurd cc

pub ne_apart : (xs ys : List ℕ) → true ≡ not (bytes_eq xs ys) → xs ≢ ys
ne_apart xs ys e same =
    let t : bytes_eq xs ys ≡ true = (bytes_eq-Decides xs ys).1 same in
    let f : true ≡ false = e ∙ ap not t in
    absurd cc

pub eq_same : (xs ys : List ℕ) → false ≡ not (bytes_eq xs ys) → xs ≡ ys
eq_same xs ys e = (bytes_eq-Decides xs ys).0 (not_false (bytes_eq xs ys) e)

-- ---- first parts

pub empty_first : (xs : List ℕ) → true ≡ (length xs == 0) → xs ≡ []
empty_first [] e = refl
empty_first (x ∷ xs) e = absurd (let f : length (x ∷ xs) ≡ 0 = eqb-true (length (x ∷ xs)) 0 (sym e) in omega arith)

pub some_first : (xs : List ℕ) → false ≡ (length xs == 0) → xs ≢ []
some_first [] e f = absurd cc
some_first (x ∷ xs) e f = absurd cc
