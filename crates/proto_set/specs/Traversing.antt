-- The code's own: the steps of the depth-first traversal.
use Rattle.std.specs.Prelude.{◌≡◌, ◌↔◌, ℕ, ◌+◌, List, [], ◌∷◌, ◌++◌, Bool, true, false, Some, slice_get, slice_set, length, Contains}
use Rattle.proto_set.specs.Importing.{IsReachable}
use Rattle.proto_set.specs.Visiting.{leaves, at_cycle, IsRootVisit}
use Rattle.proto_set.specs.declared.set.ParsedFile.{ParsedFile}
use Rattle.proto_set.specs.declared.links.ImportLink.{ImportLink}
use Rattle.proto_set.specs.declared.traversal.VisitState.{VisitState}
use Rattle.proto_set.specs.declared.traversal.VisitState.TheVariants.{New, Visiting, Left}
use Rattle.proto_set.specs.declared.traversal.VisitFrame.{VisitFrame}
use Rattle.proto_set.specs.declared.traversal.Traversal.{Traversal}
use Rattle.proto_set.specs.declared.traversal.TraversalResult.{TraversalResult}
use Rattle.proto_set.specs.declared.traversal.TraversalResult.TheVariants as walked

-- the frame of a file after one more import
abbrev pub next_frame : VisitFrame → VisitFrame
next_frame f = record { file = f.file; next = f.next + 1 }

-- the frame of a file before its first import
abbrev pub first_frame : ℕ → VisitFrame
first_frame i = record { file = i; next = 0 }

-- an import of a file is followed; the result is true if it closes a cycle
pub data IsFollowStep (old : Traversal) (f : VisitFrame) (l : ImportLink) : Bool → Traversal → Type 0 where
  enters : {new : Traversal} → slice_get old.marks.items l.file ≡ Some New
      → new.marks.items ≡ slice_set old.marks.items l.file Visiting
      → new.frames.items ≡ (old.frames.items ++ next_frame f ∷ []) ++ first_frame l.file ∷ []
      → IsFollowStep old f l false new
  closes : {new : Traversal} → slice_get old.marks.items l.file ≡ Some Visiting → IsFollowStep old f l true new
  passes : {new : Traversal} → slice_get old.marks.items l.file ≡ Some Left → new.marks.items ≡ old.marks.items
      → new.frames.items ≡ old.frames.items ++ next_frame f ∷ [] → IsFollowStep old f l false new

-- the files marked `Left` are those that are finished when the visit of the root finishes
pub record AreFinished (set : List ParsedFile) (marks : List VisitState) : Type 0 where
  pub left : List ℕ
  pub visits : IsRootVisit set (leaves left)
  pub count : length marks ≡ length set
  pub marked : (i : ℕ) → (slice_get marks i ≡ Some Left) ↔ Contains left i

-- the result of visiting the root
abbrev pub IsTraversalResult : List ParsedFile → TraversalResult → Type 0
IsTraversalResult set (walked.Left marks) = AreFinished set marks.items
IsTraversalResult set (walked.Ring f) = IsRootVisit set (at_cycle f.file f.next)

-- the files marked `Left` are those that the root reaches
pub record AreReached (set : List ParsedFile) (marks : List VisitState) : Type 0 where
  pub those : (i : ℕ) → (slice_get marks i ≡ Some Left) ↔ IsReachable set 0 i
