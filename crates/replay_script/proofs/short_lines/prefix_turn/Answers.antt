use Rattle.std.proofs.Common.{◌≤◌, ℕ, List, subst, arith}
use Rattle.replay_script.specs.Stores.{IsNumberBefore}
use Rattle.replay_script.proofs.Stores.{turn_in_front}
use Rattle.replay_script.proofs.short_lines.prefix_turn.Goals as goal

pub returns : goal.returns
returns c =
    let first = c.in_ok-words.words.now in
    let second = c.in_ok-after_space.field-0.now in
    let rest = c.in_ok-left.left.now in
    let conn = c.in_ok-conn.conn in
    let at = c.in_ok-at.at in
    let low : 1 ≤ conn = omega arith in
    let high : conn ≤ 16 = omega arith in
    turn_in_front c.args.text.now first second rest conn at c.in_ok-words.ensures
    (subst (λ (r : List ℕ). IsNumberBefore first conn r) c.in_ok-after_space.ensures c.in_ok-conn.ensures)
    (subst (λ (r : List ℕ). IsNumberBefore second at r) c.in_ok-left.ensures c.in_ok-at.ensures) low high
