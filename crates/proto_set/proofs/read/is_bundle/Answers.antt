use Rattle.std.proofs.Common.{◌≡◌, true, false, List, ◌++◌, ℕ, codes, drop, length}
use Rattle.std.proofs.lemmas.Bool.Decides.{Decides-eqb}
use Rattle.std.proofs.lemmas.Slice.Eq.{starts_is, slice_eq-Decides}
use Rattle.proto_set.specs.Bundle.{bundle_first_line, IsBundle, whole_line, no_line_feed}
use Rattle.proto_set.proofs.read.is_bundle.Goals as goal

pub returns-then-starts_with : goal.returns-then-starts_with
returns-then-starts_with c =
    let is = starts_is Decides-eqb c.args.input.now bundle_first_line c.starts_with.result c.starts_with.ensures.value in
    (λ yes. whole_line (drop (length bundle_first_line) c.args.input.now) (is.0 yes), λ b. c.if-starts_with.true)

pub returns-else-starts_with : goal.returns-else-starts_with
returns-else-starts_with c =
    let is = starts_is Decides-eqb c.args.input.now bundle_first_line c.starts_with.result c.starts_with.ensures.value in
    let same = slice_eq-Decides Decides-eqb c.args.input.now (codes "mrpc-files 1") c.eq.result c.eq.ensures in
    (λ yes. no_line_feed (same.0 yes), by is.1 same.1)
  where
    by : ((rest : List ℕ) → c.args.input.now ≡ bundle_first_line ++ rest → c.starts_with.result ≡ true)
        → (c.args.input.now ≡ codes "mrpc-files 1" → c.eq.result ≡ true) → IsBundle c.args.input.now → c.eq.result ≡ true
    by starts same (whole_line behind e) = absurd (let yes : c.starts_with.result ≡ true = starts behind e in let no : c.starts_with.result ≡ false = c.if-starts_with.false in cc)
    by starts same (no_line_feed e) = same e
