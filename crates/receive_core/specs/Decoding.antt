-- How the fate of a frame is found: its call is decoded, and then it is accepted or refused.
use Rattle.std.specs.Prelude.{◌≡◌, ℕ, ◌-◌, ◌<◌, ◌≤◌, ◌⊎◌, false, Option, Some, None}
use Rattle.mrpc_table.specs.Normal.{IsNormal}
use Rattle.mrpc_table.specs.declared.table.Table.{Table}
use Rattle.wire_decode.specs.Means.{Means}
use Rattle.mrpc_table.specs.Capped.{capped}
use Rattle.frame_transport.specs.declared.format.Frame.{Frame}
use Rattle.policy_access.specs.Verdict.{AccessPolicy, verdict}
use Rattle.receive_core.specs.Fates.{IsFate, drops, IsCall, IsCallAllowed, received_call, message_of_frame, block_words}
use Rattle.receive_core.specs.declared.arrival.DropCause.{DropCause}
use Rattle.receive_core.specs.declared.arrival.DropCause.TheVariants.{Denied, Oversize}
use Rattle.receive_core.specs.declared.decoded.DecodedCall.{DecodedCall}
use Rattle.receive_core.specs.declared.decoded.Reading.{Reading}
use Rattle.receive_core.specs.declared.decoded.Reading.TheVariants.{Call as Reads, Dropped}

-- a frame was decoded as its call, with the words of its block
pub record IsDecodedCall (T : Table) (conn : ℕ) (f : Frame) (o : DecodedCall) : Type 0 where
  pub is_call : IsCall T f
  pub means : Means T (message_of_frame T f) f.payload o.call.tree
  pub normal : IsNormal T (message_of_frame T f) o.call.tree
  pub call : o.call ≡ received_call conn f o.call.tree
  pub words : o.words ≡ capped (block_words T (message_of_frame T f) o.call.tree)

-- the code's own: a decoded frame: its call, or the cause for which it is dropped under each policy and on each
-- heap
abbrev pub IsReading : Table → ℕ → Frame → Reading → Type 0
IsReading T conn f (Reads o) = IsDecodedCall T conn f o
IsReading T conn f (Dropped why) = (policy : Option AccessPolicy) (words : ℕ) → IsFate T policy conn words f (drops why)

-- the code's own: why a call is refused on a heap of `words` words, or that it isn't
abbrev pub IsRefusal : Option AccessPolicy → ℕ → DecodedCall → Option DropCause → Type 0
IsRefusal policy words o None = IsCallAllowed policy o.call × (o.words ≤ words - 1)
IsRefusal policy words o (Some why) = ((p : AccessPolicy) × (policy ≡ Some p)
    × ((verdict p o.call).allow ≡ false) × (why ≡ Denied (verdict p o.call).rule))
    ⊎ (IsCallAllowed policy o.call × (words - 1 < o.words) × (why ≡ Oversize o.words words))
