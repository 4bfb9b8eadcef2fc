use Rattle.std.proofs.Common.{rules, not}
use Rattle.std.proofs.lemmas.Fn.{filter_same}
use Rattle.replay_script.specs.EntryKinds.{is_link}
use Rattle.replay_script.proofs.chain.EntryOutlines.detach.Goals as goal

pub returns : goal.returns
returns c =
    let kept = filter_same _ (λ l. not (is_link c.args.name.now l)) _ (λ x b f' k. search rules) _ _ c.retain.ensures.filtered in
    rw (← c.self.view_is) kept
