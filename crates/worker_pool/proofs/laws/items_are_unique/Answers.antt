use Rattle.worker_pool.proofs.Moves.{place}
use Rattle.worker_pool.proofs.Orders.{stand_nowhere, stand_once}
use Rattle.worker_pool.specs.Rule.{numbers_of, numbers_out}
use Rattle.std.proofs.Common.{length}
use Rattle.worker_pool.proofs.laws.items_are_unique.Goals as goal

pub returns-clause-once : goal.returns-clause-once
returns-clause-once g c items views rule number below = stand_once (length rule.firsts) (numbers_out views) (numbers_of items) rule.once number below

pub returns-clause-no_other : goal.returns-clause-no_other
returns-clause-no_other g c items views rule number past = stand_nowhere (length rule.firsts) (numbers_out views) (numbers_of items) rule.once number past

pub returns-clause-place : goal.returns-clause-place
returns-clause-place g c items views rule pass v at some_held = place g.T.PoolItem.since items views rule pass v at some_held
