-- The code's own: how many block numbers arrived for the notices that were taken.
use Rattle.std.specs.Prelude.{◌≡◌, ◌≤◌, ◌+◌, List, false, length}
use Rattle.descriptor_ring.specs.declared.descriptor.Descriptor.{Descriptor}
use Rattle.descriptor_ring.specs.Rings.{NumberReceiving}

-- one for each notice, unless the ring is closed
pub record IsPaired (notices : List Descriptor) (blocks : NumberReceiving) : Type 0 where
  pub behind : length blocks.taken ≤ length notices
  pub all : blocks.closed ≡ false → length notices ≤ length blocks.taken

-- one for each notice but the last, unless the ring is closed
pub record IsBlockDue (notices : List Descriptor) (blocks : NumberReceiving) : Type 0 where
  pub behind : length blocks.taken + 1 ≤ length notices
  pub all : blocks.closed ≡ false → length notices ≤ length blocks.taken + 1
