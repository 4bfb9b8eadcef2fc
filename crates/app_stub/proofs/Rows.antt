-- Worked by hand: what a server does for its notices, on a small program.
use Rattle.std.proofs.Common.{◌≡◌, ℕ, List, [], ◌∷◌, false, refl}
use Rattle.descriptor_ring.specs.declared.descriptor.Descriptor.{Descriptor}
use Rattle.descriptor_ring.specs.Heaps.{no_heap}
use Rattle.app_program.specs.declared.program.ProgramLine.{ProgramLine}
use Rattle.app_program.specs.declared.program.ProgramLine.TheVariants.{Store, Reply}
use Rattle.app_program.specs.Programs.{Submission}
use Rattle.app_stub.specs.Serving.{all_served_stores, all_served_replies, blocks_of}

abbrev submission : ℕ → ℕ → ℕ → ℕ → Submission
submission method number addr after = record { method = method; number = number; addr = addr; after = after }

-- ---- a server that stores one word and replies with it

abbrev one_reply : List ProgramLine
one_reply = Store 2 9 ∷ Reply 2 ∷ []

abbrev notice : ℕ → ℕ → ℕ → Descriptor
notice kind method number = record {
  kind = kind;
  method = method;
  number = number;
  addr = 1;
  stores = 0;
  note = record { heap = no_heap; stores = []; last = false };
}

-- two requests, a reply, and a request with number 0
abbrev four_notices : List Descriptor
four_notices = notice 1 0 1 ∷ notice 2 0 4 ∷ notice 1 0 0 ∷ notice 1 3 2 ∷ []

once_a_request : all_served_stores one_reply four_notices ≡ (2, 9) ∷ (2, 9) ∷ (2, 9) ∷ []
once_a_request = refl

by_method_and_number : all_served_replies one_reply 0 four_notices ≡ submission 0 1 2 1 ∷ submission 3 2 2 3 ∷ []
by_method_and_number = refl

a_block_each : blocks_of four_notices (1 ∷ 2 ∷ 3 ∷ 4 ∷ 5 ∷ []) ≡ 1 ∷ 2 ∷ 3 ∷ 4 ∷ []
a_block_each = refl

-- a server that stores nothing
nothing_stored : all_served_stores (Reply 4 ∷ []) four_notices ≡ []
nothing_stored = refl

always_at_once : all_served_replies (Reply 4 ∷ []) 0 four_notices ≡ submission 0 1 4 0 ∷ submission 3 2 4 0 ∷ []
always_at_once = refl
