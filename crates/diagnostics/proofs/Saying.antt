-- What a diagnostic appends.
use Rattle.std.proofs.Common.{◌≡◌, ◌++◌, ℕ, List, codes, refl}
use Rattle.std.specs.Prelude.{Result, Ok, Err, OnOk}
use Rattle.diagnostics.specs.Snippets.{IsSnippet}
use Rattle.diagnostics.specs.Diagnostics.{IsFaultSpan, IsPlain, IsSourceOf, IsDiagnosticBody, alone, pointing}

-- a consequence of what holds if a step succeeds
on-ok : {T E : Type 0} (r : Result T E) (P Q : Type 0) → OnOk r P → (P → Q) → OnOk r Q
on-ok (Ok x) P Q h f = f h
on-ok (Err e) P Q h f = tt

-- a sentence and a line feed
pub says_alone : {T E : Type 0} (r : Result T E) (input : List ℕ) (width : ℕ) (sentence before after : List ℕ)
    → IsPlain sentence → OnOk r (after ≡ before ++ (sentence ++ codes "\n"))
    → OnOk r ((shown : List ℕ) × IsDiagnosticBody input width shown × (after ≡ before ++ shown))
says_alone r input width sentence before after p h =
    on-ok r _ _ h (λ e. (sentence ++ codes "\n", alone sentence p refl, e))

-- a location with the sentence
pub says_there : {T E : Type 0} (r : Result T E) (input text : List ℕ) (width start end : ℕ) (sentence before after : List ℕ)
    → IsSourceOf input text → IsFaultSpan text start end → IsPlain sentence
    → OnOk r ((shown : List ℕ) × IsSnippet text start end width sentence shown × (after ≡ before ++ shown))
    → OnOk r ((shown : List ℕ) × IsDiagnosticBody input width shown × (after ≡ before ++ shown))
says_there r input text width start end sentence before after t f p h =
    on-ok r _ _ h (λ m. (m.0, pointing text t start end f sentence p m.1, m.2))
