-- What a server does for notices, after one more notice.
use Rattle.std.proofs.Common.{◌≡◌, ℕ, ◌+◌, ◌*◌, ◌≤◌, List, [], ◌∷◌, ◌++◌, ap, sym, ◌∙◌, length, arith, length-append}
use Rattle.std.proofs.Common.{append_assoc, append-nil, zero-add}
use Rattle.std.proofs.lemmas.List.Concat.{flat_map-cons}
use Rattle.std.proofs.lemmas.Grind.{flat_map-append}
use Rattle.descriptor_ring.specs.declared.descriptor.Descriptor.{Descriptor}
use Rattle.app_program.specs.declared.program.ProgramLine.{ProgramLine}
use Rattle.app_program.specs.Programs.{Submission, program_stores}
use Rattle.app_stub.specs.Serving.{served_stores, served_replies, all_served_stores, all_served_replies}

all_served_stores-snoc : (lines : List ProgramLine) (notices : List Descriptor) (d : Descriptor)
    → all_served_stores lines (notices ++ d ∷ []) ≡ all_served_stores lines notices ++ served_stores lines d
all_served_stores-snoc lines notices d =
    flat_map-append (served_stores lines) notices (d ∷ [])
    ∙ ap (λ ys. all_served_stores lines notices ++ ys) (flat_map-cons (served_stores lines) d [] ∙ append-nil (served_stores lines d))

all_served_replies-snoc : (lines : List ProgramLine) (made : ℕ) (notices : List Descriptor) (d : Descriptor)
    → all_served_replies lines made (notices ++ d ∷ [])
    ≡ all_served_replies lines made notices
    ++ served_replies lines (made + length (all_served_stores lines notices) + length (served_stores lines d)) d
all_served_replies-snoc lines made [] d =
    append-nil (served_replies lines (made + length (served_stores lines d)) d)
    ∙ ap (λ n. served_replies lines n d) (omega arith)
all_served_replies-snoc lines made (x ∷ notices) d =
    let next = made + length (served_stores lines x) in
    let last = length (served_stores lines d) in
    let counted : next + length (all_served_stores lines notices) + last ≡ made + length (all_served_stores lines (x ∷ notices)) + last =
    omega (arith, length-append (served_stores lines x) (all_served_stores lines notices), ap length (flat_map-cons (served_stores lines) x notices)) in
    ap (λ xs. served_replies lines next x ++ xs) (all_served_replies-snoc lines next notices d)
    ∙ sym (append_assoc (served_replies lines next x) (all_served_replies lines next notices)
    (served_replies lines (next + length (all_served_stores lines notices) + last) d))
    ∙ ap (λ n. (served_replies lines next x ++ all_served_replies lines next notices) ++ served_replies lines n d) counted

-- what a server stored, after one more notice
pub stores_further : (lines : List ProgramLine) (notices all : List Descriptor) (d : Descriptor) (old new : List (ℕ × ℕ))
    → all ≡ notices ++ d ∷ [] → old ≡ all_served_stores lines notices → new ≡ old ++ served_stores lines d
    → new ≡ all_served_stores lines all
stores_further lines notices all d old new one_more stored more =
    more ∙ ap (λ xs. xs ++ served_stores lines d) stored ∙ sym (all_served_stores-snoc lines notices d)
    ∙ ap (all_served_stores lines) (sym one_more)

-- and what it replied
pub replies_further : (lines : List ProgramLine) (notices all : List Descriptor) (d : Descriptor) (stores : List (ℕ × ℕ))
    (old new : List Submission)
    → all ≡ notices ++ d ∷ [] → stores ≡ all_served_stores lines notices → old ≡ all_served_replies lines 0 notices
    → new ≡ old ++ served_replies lines (length stores + length (served_stores lines d)) d
    → new ≡ all_served_replies lines 0 all
replies_further lines notices all d stores old new one_more stored replied more =
    let last = length (served_stores lines d) in
    more ∙ ap (λ xs. xs ++ served_replies lines (length stores + last) d) replied
    ∙ ap (λ n. all_served_replies lines 0 notices ++ served_replies lines (n + last) d)
    (ap length stored ∙ sym (zero-add (length (all_served_stores lines notices))))
    ∙ sym (all_served_replies-snoc lines 0 notices d) ∙ ap (all_served_replies lines 0) (sym one_more)

served_stores_few : (lines : List ProgramLine) (d : Descriptor) → length (served_stores lines d) ≤ length (program_stores lines)
served_stores_few lines d = grind arith

served_replies_few : (lines : List ProgramLine) (after : ℕ) (d : Descriptor) → length (served_replies lines after d) ≤ 1
served_replies_few lines after d = grind arith

pub all_served_stores_few : (lines : List ProgramLine) (notices : List Descriptor) → length (program_stores lines) ≤ 1000
    → length (all_served_stores lines notices) ≤ 1000 * length notices
all_served_stores_few lines [] few = omega arith
all_served_stores_few lines (d ∷ notices) few =
    omega (
      arith,
      ap length (flat_map-cons (served_stores lines) d notices),
      length-append (served_stores lines d) (all_served_stores lines notices),
      served_stores_few lines d,
      all_served_stores_few lines notices few,
    )

pub all_served_replies_few : (lines : List ProgramLine) (made : ℕ) (notices : List Descriptor)
    → length (all_served_replies lines made notices) ≤ length notices
all_served_replies_few lines made [] = omega arith
all_served_replies_few lines made (d ∷ notices) =
    let next = made + length (served_stores lines d) in
    omega (arith, length-append (served_replies lines next d) (all_served_replies lines next notices), served_replies_few lines next d, all_served_replies_few lines next notices)
