-- A result of a copy whose loads have an outcome that a law determines.
use Rattle.std.proofs.Common.{◌≡◌, ℕ, ◌≤◌, List, length, Result, Ok, Err, IfOk, refl, ap}
use Rattle.mrpc_table.specs.declared.memory.Memory.{Memory}
use Rattle.mrpc_table.specs.declared.table.Table.{Table}
use Rattle.graph_form.specs.Forgotten.{tree_of}
use Rattle.graph_form.specs.Malformed.{GraphOutcome, copied, malformed, HasOutcome, is_copied, is_malformed, IsMalformed}
use Rattle.graph_form.specs.Placed.{Placed, loads}
use Rattle.graph_copy.specs.Answers.{IfCopied, IfMalformed, load_count}
use Rattle.graph_copy.specs.Copies.{IsCopied}
use Rattle.graph_copy.specs.declared.copying.CopyResult.{CopyResult}
use Rattle.graph_copy.specs.declared.copying.CopyResult.TheVariants.{Copied, Malformed}

pub answered : (T : Table) (H msg address limit : ℕ) (own : List (ℕ × ℕ)) (P : Placed) (r : Result CopyResult Memory)
    → length own ≤ limit
    → IfOk r (IfCopied (IsCopied T H msg address own))
    → IfOk r (IfMalformed (IsMalformed T H msg address limit own))
    → IfOk r (λ answer. load_count answer ≡ length own)
    → ((outcome : GraphOutcome) → HasOutcome T H msg address limit own outcome
    → (own ≡ loads P) × (outcome ≡ copied (tree_of T msg P)))
    → IfOk r (λ answer. answer ≡ Copied (tree_of T msg P) (length (loads P)))
answered T H msg address limit own P (Err e) few c m n law = tt
answered T H msg address limit own P (Ok (Copied tree count)) few c m n law =
    let one = law (copied tree) (is_copied c.placed c.sound c.loads_are few (ap copied c.tree_is)) in
    let same : length own ≡ length (loads P) = ap length one.0 in
    let is : copied tree ≡ copied (tree_of T msg P) = one.1 in
    cc (n, same, is)
answered T H msg address limit own P (Ok (Malformed reason place value count)) few c m n law =
    let one = law (malformed reason place value) (is_malformed reason place value m refl) in
    let is : malformed reason place value ≡ copied (tree_of T msg P) = one.1 in
    absurd (cc (is))
