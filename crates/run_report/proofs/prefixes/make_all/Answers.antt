use Rattle.std.proofs.Common.{◌≡◌, ◌<◌, length, map, subst, arith}
use Rattle.std.proofs.lemmas.List.{length-map}
use Rattle.run_report.specs.Prefixes.{expected_by}
use denote.Param.Send.{sendable}
use Rattle.std.proofs.alloc.Global.TheSendSync as global
use Rattle.run_report.proofs.Sharing.{source-sync}
use Rattle.run_report.proofs.Making.{made-places}
use Rattle.run_report.proofs.prefixes.make_all.Goals as goal

pub returns : goal.returns
returns g c =
    let sources = c.args.sources.now in
    let all : length (map expected_by sources) ≡ length sources = length-map sources expected_by in
    let len : length c.in_ok-made.made.items ≡ length (map expected_by sources) = omega (arith, c.in_ok-made.made.ok, c.in_ok-made.ensures.len, all) in
    made-places (map expected_by sources) c.in_ok-made.made.items len
    (λ k d e less. (c.in_ok-made.ensures.each k e (subst (λ n. k < n) all less)).1.met d)

pub map_indices-requires-sync-F : goal.map_indices-requires-sync-F
map_indices-requires-sync-F g c κs within =
    search (source-sync, global.the_sync, sendable) depth 60
