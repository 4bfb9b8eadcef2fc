use Rattle.descriptor_ring.proofs.ring.open.Given as goal

-- the ring is of the reader's heap
abbrev pub ghosts-ends : goal.ghosts-ends
ghosts-ends a = record { heap = a.reader.now.heap }
