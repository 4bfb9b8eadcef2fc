-- The code's own: the oneofs of the later records, in a walk from the last record to the first.
use Rattle.std.specs.Prelude.{◌≡◌, ◌≢◌, ◌==◌, ◌||◌, ℕ, Bool, true, false, not, Some, None, List, slice_index_or}
use Rattle.mrpc_table.specs.Node.{Node, no_fields, field, Content}
use Rattle.mrpc_table.specs.declared.table.Field.{Field}
use Rattle.wire_decode.specs.Oneofs.{oneof_at}
use Rattle.wire_decode.specs.Merged.{is_overtaken}
use Rattle.wire_decode.specs.declared.oneof.LaterMembers.{LaterMembers}
use Rattle.wire_decode.specs.declared.oneof.LaterMembers.TheVariants.{Nothing, Only, Several}

-- whether a later record is of another member than the one with this number
abbrev pub overtakes : LaterMembers → ℕ → Bool
overtakes Nothing number = false
overtakes (Only other) number = not (other == number)
overtakes Several number = true

-- With a record of the member `added` before the later ones, each other member is overtaken, and so is each that was
-- overtaken before.
abbrev pub IsPrepended : LaterMembers → ℕ → LaterMembers → Type 0
IsPrepended behind added whole = (number : ℕ)
    → overtakes whole number ≡ (not (added == number) || overtakes behind number)

-- The list records for each oneof, at its index, which of its members the later records have. So it determines for each
-- member whether a later record overtakes it.
abbrev pub AreLaterMembers : List Field → List LaterMembers → Node → Type 0
AreLaterMembers fields list later = (number oneof : ℕ) → oneof_at fields number ≡ Some oneof
    → overtakes (slice_index_or list oneof Nothing) number ≡ is_overtaken fields number later

-- At the index of the oneof the new list has a record of the member `added` before the later ones, and elsewhere it is
-- the old list.
pub record IsNotedAt (old : List LaterMembers) (oneof added : ℕ) (new : List LaterMembers) : Type 0 where
  pub here : IsPrepended (slice_index_or old oneof Nothing) added (slice_index_or new oneof Nothing)
  pub others : (place : ℕ) → place ≢ oneof → slice_index_or new place Nothing ≡ slice_index_or old place Nothing

-- no record is of a member of a oneof
abbrev pub HasNoMember : List Field → Node → Type 0
HasNoMember fields no_fields = Unit {0}
HasNoMember fields (field number content others) = (oneof_at fields number ≡ None) × HasNoMember fields others

-- If the old list describes the later records, the answer is whether a record of this number before them counts, and
-- the new list describes them with that record.
pub record IsCountDecision (fields : List Field) (old : List LaterMembers) (number : ℕ) (new : List LaterMembers)
    (answer : Bool) : Type 0 where
  pub counts : (later : Node) → AreLaterMembers fields old later → answer ≡ not (is_overtaken fields number later)
  pub tells : (later : Node) (content : Content) → AreLaterMembers fields old later
      → AreLaterMembers fields new (field number content later)
