use Rattle.mrpc_table.proofs.MapKeeping.{added-behind}
use Rattle.mrpc_table.proofs.map_entries.add_entry.Goals as goal

pub returns-in_ok-push-in-Some : goal.returns-in_ok-push-in-Some
returns-in_ok-push-in-Some c =
    added-behind c.args.key c.args.kept.now.items c.pop.new.self.items c.keep_unless.new.kept.items
    c.push.new.self.items c.in-Some.last c.args.entry c.is_same-same.result c.in-Some.ensures.items
    c.is_same-same.ensures c.in_ok-keep_unless-in-Some.ensures c.in_ok-push-in-Some.ensures.items
