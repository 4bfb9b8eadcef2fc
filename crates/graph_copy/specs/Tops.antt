-- The code's own: the list that a stack of frames represents.
use Rattle.std.specs.Prelude.{List, [], ◌∷◌, Option, Some, None}
use Rattle.graph_copy.specs.declared.walk.WalkFrame.{WalkFrame}

-- the frame that is stored apart, if there is one
abbrev pub top_alone : Option WalkFrame → List WalkFrame
top_alone None = []
top_alone (Some frame) = frame ∷ []
