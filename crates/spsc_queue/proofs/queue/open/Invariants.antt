use Rattle.spsc_queue.proofs.queue.open.Given as goal

-- the credits belong to the queue
abbrev pub ghosts-ends_back : goal.ghosts-ends_back
ghosts-ends_back g a = record { queue = a._queue.now.table.shared.table_id }
