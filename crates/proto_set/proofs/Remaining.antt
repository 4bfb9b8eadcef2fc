-- The remaining work of a traversal: the imports of files that are being visited, and those of new files.
use Rattle.std.proofs.Common.{◌≡◌, ℕ, zero, suc, ◌+◌, ◌-◌, ◌<◌, ◌≤◌, List, [], ◌∷◌, ◌++◌, length, set, ap, arith}
use Rattle.std.specs.Prelude.{slice_get, Option, Some, None}
use Rattle.std.proofs.lemmas.Option.{slice_get_within}
use Rattle.proto_ast.specs.declared.file.Import.{Import}
use Rattle.proto_set.specs.Importing.{HasImport}
use Rattle.proto_set.specs.Traversing.{next_frame, first_frame}
use Rattle.proto_set.specs.declared.set.ParsedFile.{ParsedFile}
use Rattle.proto_set.specs.declared.traversal.VisitState.{VisitState}
use Rattle.proto_set.specs.declared.traversal.VisitState.TheVariants.{New, Visiting, Left}
use Rattle.proto_set.specs.declared.traversal.VisitFrame.{VisitFrame}

abbrev pub count_in : Option ParsedFile → ℕ
count_in None = 0
count_in (Some m) = length m.file.imports

-- the number of imports of a file
abbrev pub count_at : List ParsedFile → ℕ → ℕ
count_at set' i = count_in (slice_get set' i)

-- the remaining imports, and one step to finish each file
abbrev pub pending : List ParsedFile → List VisitFrame → ℕ
pending set' [] = 0
pending set' (f ∷ fs) = suc (count_at set' f.file - f.next) + pending set' fs

abbrev pub fresh : List ParsedFile → List VisitState → ℕ
fresh [] marks = 0
fresh (m ∷ ms) [] = 0
fresh (m ∷ ms) (New ∷ marks) = (1 + length m.file.imports) + fresh ms marks
fresh (m ∷ ms) (Visiting ∷ marks) = fresh ms marks
fresh (m ∷ ms) (Left ∷ marks) = fresh ms marks

abbrev pub remaining : List ParsedFile → List VisitFrame → List VisitState → ℕ
remaining set' frames marks = pending set' frames + fresh set' marks

pub pending-append : (set' : List ParsedFile) (fs gs : List VisitFrame) → pending set' (fs ++ gs) ≡ pending set' fs + pending set' gs
pending-append set' [] gs = omega arith
pending-append set' (f ∷ fs) gs = omega (arith, pending-append set' fs gs)

pub count_past : {set' : List ParsedFile} {i n : ℕ} {x : Import} → HasImport set' i n x → n < count_at set' i
count_past {set'} {i} {n} {x} h =
    let l = slice_get_within h.member.file.imports n x h.import_at in
    let e : count_at set' i ≡ length h.member.file.imports = ap count_in h.member_at in
    omega (arith, l)

-- a file's mark changes to `Left`
pub fresh_left : (set' : List ParsedFile) (marks : List VisitState) (i : ℕ) → fresh set' (set marks i Left) ≤ fresh set' marks
fresh_left [] marks i = omega arith
fresh_left (m ∷ ms) [] i = omega arith
fresh_left (m ∷ ms) (New ∷ marks) zero = omega arith
fresh_left (m ∷ ms) (Visiting ∷ marks) zero = omega arith
fresh_left (m ∷ ms) (Left ∷ marks) zero = omega arith
fresh_left (m ∷ ms) (New ∷ marks) (suc i) = omega (arith, fresh_left ms marks i)
fresh_left (m ∷ ms) (Visiting ∷ marks) (suc i) = fresh_left ms marks i
fresh_left (m ∷ ms) (Left ∷ marks) (suc i) = fresh_left ms marks i

-- a new file's visit starts
pub fresh_entered : (set' : List ParsedFile) (marks : List VisitState) (i : ℕ) → i < length set' → slice_get marks i ≡ Some New
    → fresh set' (set marks i Visiting) + suc (count_at set' i) ≡ fresh set' marks
fresh_entered [] marks i l e = absurd (omega arith)
fresh_entered (m ∷ ms) [] i l e = absurd cc
fresh_entered (m ∷ ms) (New ∷ marks) zero l e = omega arith
fresh_entered (m ∷ ms) (Visiting ∷ marks) zero l e = absurd cc
fresh_entered (m ∷ ms) (Left ∷ marks) zero l e = absurd cc
fresh_entered (m ∷ ms) (New ∷ marks) (suc i) l e = omega (arith, fresh_entered ms marks i (omega arith) e)
fresh_entered (m ∷ ms) (Visiting ∷ marks) (suc i) l e = fresh_entered ms marks i (omega arith) e
fresh_entered (m ∷ ms) (Left ∷ marks) (suc i) l e = fresh_entered ms marks i (omega arith) e

-- the innermost file is finished
pub less_left : (set' : List ParsedFile) (rest : List VisitFrame) (f : VisitFrame) (marks : List VisitState) → remaining set' rest (set marks f.file Left) < remaining set' (rest ++ f ∷ []) marks
less_left set' rest f marks =
    omega (arith, pending-append set' rest (f ∷ []), fresh_left set' marks f.file)

-- one of its imports was followed
pub less_passed : (set' : List ParsedFile) (rest : List VisitFrame) (f : VisitFrame) (marks : List VisitState)
    → f.next < count_at set' f.file
    → remaining set' (rest ++ next_frame f ∷ []) marks < remaining set' (rest ++ f ∷ []) marks
less_passed set' rest f marks l =
    omega (arith, pending-append set' rest (f ∷ []), pending-append set' rest (next_frame f ∷ []))

pub less_entered : (set' : List ParsedFile) (rest : List VisitFrame) (f : VisitFrame) (j : ℕ) (marks : List VisitState)
    → f.next < count_at set' f.file → j < length set' → slice_get marks j ≡ Some New
    → remaining set' ((rest ++ next_frame f ∷ []) ++ first_frame j ∷ []) (set marks j Visiting)
    < remaining set' (rest ++ f ∷ []) marks
less_entered set' rest f j marks l within e =
    omega (
      arith,
      pending-append set' rest (f ∷ []),
      pending-append set' rest (next_frame f ∷ []),
      pending-append set' (rest ++ next_frame f ∷ []) (first_frame j ∷ []),
      fresh_entered set' marks j within e,
    )
