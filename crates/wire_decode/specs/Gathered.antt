-- The code's own: the contents of each number combined into one, which means what they mean, by ascending number.
use Rattle.std.specs.Prelude.{◌≡◌, ◌≢◌, ℕ, ◌≤◌, Some, List, ◌∷◌, ◌++◌}
use Rattle.mrpc_table.specs.Node.{Node, Content}
use Rattle.mrpc_table.specs.Normal.{field_at}
use Rattle.mrpc_table.specs.declared.table.Field.{Field}
use Rattle.mrpc_table.specs.declared.table.Kind.{Kind}
use Rattle.mrpc_table.specs.declared.table.Label.{Label}
use Rattle.wire_decode.specs.Merged.{field_content, contents_of}
use Rattle.wire_decode.specs.TwoInOne.{merge_mode_of}
use Rattle.wire_decode.specs.NumberOrder.{HasAscendingNumbers, AreNumbersAtMost}
use Rattle.wire_decode.specs.declared.gather.MergeMode.{MergeMode}

-- The new contents are the old ones and one more of this number. Contents of other numbers are unchanged. A field of
-- this form and number has the same final content from the new contents as from the old ones followed by this content,
-- whatever follows. Numbers still ascend if none was above this one, and stay within each limit that this one is
-- within.
pub record HasOneMore (form : MergeMode) (old : Node) (number : ℕ) (content : Content) (new : Node) : Type 0 where
  pub others : (other : ℕ) → other ≢ number → contents_of other new ≡ contents_of other old
  pub same : (label : Label) (kind : Kind) → merge_mode_of label kind ≡ form
      → (inner : ℕ → Node → Node) (after : List Content)
      → field_content inner label kind (contents_of number new ++ after)
      ≡ field_content inner label kind (contents_of number old ++ content ∷ after)
  pub rise : HasAscendingNumbers old → AreNumbersAtMost number old → HasAscendingNumbers new
  pub most : (limit : ℕ) → number ≤ limit → AreNumbersAtMost limit old → AreNumbersAtMost limit new

-- The held contents are the raw ones, combined. Their numbers ascend, and none is above the greatest raw one. Each
-- field has the same final content from its held content as from its raw ones, whatever follows.
pub record IsGathered (fields : List Field) (raw held : Node) : Type 0 where
  pub rise : HasAscendingNumbers held
  pub most : (limit : ℕ) → AreNumbersAtMost limit raw → AreNumbersAtMost limit held
  pub same : (number : ℕ) (f : Field) → field_at fields number ≡ Some f
      → (inner : ℕ → Node → Node) (after : List Content)
      → field_content inner f.label f.kind (contents_of number held ++ after)
      ≡ field_content inner f.label f.kind (contents_of number raw ++ after)
