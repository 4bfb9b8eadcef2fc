use Rattle.mem_fabric.specs.Fabric.{failing_calls_of}
use Rattle.mem_fabric.proofs.Causes.{fresh_first, fresh_second}
use Rattle.mem_fabric.proofs.pair_link.new_pair.Goals as goal

pub returns-clause-first : goal.returns-clause-first
returns-clause-first g c =
    let e = c.in_ok-first.ensures in
    let l = c.args.listed.now in
    fresh_first c.new_ends.result c.in_ok-first.first (failing_calls_of c.args.a l.sends.items) (failing_calls_of c.args.a l.receives.items) e.sends e.receives e.none c.new_ends.ensures.first

pub returns-clause-second : goal.returns-clause-second
returns-clause-second g c =
    let e = c.in_ok-second.ensures in
    let l = c.args.listed.now in
    fresh_second c.new_ends.result c.in_ok-second.second (failing_calls_of c.args.b l.sends.items) (failing_calls_of c.args.b l.receives.items) e.sends e.receives e.none c.new_ends.ensures.second
