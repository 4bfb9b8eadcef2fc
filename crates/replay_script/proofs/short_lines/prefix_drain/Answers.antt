use Rattle.std.proofs.Common.{◌≤◌, ℕ, List, subst, arith}
use Rattle.replay_script.specs.Stores.{IsNumberBefore}
use Rattle.replay_script.proofs.Stores.{drain_in_front}
use Rattle.replay_script.proofs.short_lines.prefix_drain.Goals as goal

pub returns : goal.returns
returns c =
    let first = c.in_ok-words.words.now in
    let rest = c.in_ok-left.left.now in
    let conn = c.in_ok-conn.conn in
    let low : 1 ≤ conn = omega arith in
    let high : conn ≤ 16 = omega arith in
    drain_in_front c.args.text.now first rest conn c.in_ok-words.ensures
    (subst (λ (r : List ℕ). IsNumberBefore first conn r) c.in_ok-left.ensures c.in_ok-conn.ensures) low high
