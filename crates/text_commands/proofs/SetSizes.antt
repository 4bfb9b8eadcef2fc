-- The files of a set are no longer than the input.
use Rattle.std.proofs.Common.{◌≡◌, ℕ, ◌+◌, ◌≤◌, List, [], ◌∷◌, ◌++◌, length, ap, arith, length-append}
use Rattle.std.specs.Prelude.{sum_by}
use Rattle.std.specs.List.{flat_map}
use Rattle.std.proofs.lemmas.List.Sums.{sum_by-cons}
use Rattle.proto_set.specs.Bundle.{file_text, header_line, bundle_first_line, bundle_text, IsBundleOf}
use Rattle.proto_set.specs.Named.{files_of}
use Rattle.proto_set.specs.declared.named.Named.{Named}

-- the bytes after a header and a body are counted besides the body
with_rest : (header body rest : List ℕ) (n total : ℕ) → total ≡ length body + n → n ≤ length rest
    → total ≤ length ((header ++ body) ++ rest)
with_rest header body rest n total sum short =
    omega (arith, sum, short, length-append (header ++ body) rest, length-append header body)

behind : (front rest : List ℕ) → length rest ≤ length (front ++ rest)
behind front rest = omega (arith, length-append front rest)

within : (a b c d n : ℕ) → a ≤ b → b ≤ c → d ≡ c → d ≤ n → a ≤ n
within a b c d n p q e r = omega arith

sizes_short : (ps : List Named) → sum_by (λ (p : Named). length p.text.now) ps ≤ length (flat_map file_text (files_of ps))
sizes_short [] = omega arith
sizes_short (p ∷ ps) =
    with_rest (header_line p.path.now (length p.text.now)) p.text.now (flat_map file_text (files_of ps))
    (sum_by (λ (q : Named). length q.text.now) ps) (sum_by (λ (q : Named). length q.text.now) (p ∷ ps))
    (sum_by-cons (λ (q : Named). length q.text.now) p ps) (sizes_short ps)

-- the files of an input of this length take no more bytes
pub set_short : {text : List ℕ} (ps : List Named) (n : ℕ) → IsBundleOf text (files_of ps) → length text ≤ n
    → sum_by (λ (p : Named). length p.text.now) ps ≤ n
set_short {text} ps n are short =
    within (sum_by (λ (p : Named). length p.text.now) ps) (length (flat_map file_text (files_of ps)))
    (length (bundle_text (files_of ps))) (length text) n (sizes_short ps)
    (behind bundle_first_line (flat_map file_text (files_of ps))) (ap (λ (bytes : List ℕ). length bytes) are.text) short
