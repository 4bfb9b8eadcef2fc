use Rattle.std.proofs.Common.{◌≡◌, ◌+◌, ◌-◌, List, ℕ, length, take, drop, arith, length-drop, ◌≤◌, subst}
use Rattle.std.proofs.lemmas.List.{take_rest}
use Rattle.proto_lexer.specs.Strings.{escape_of, HasStringValue, body_of}
use Rattle.proto_lexer.proofs.Escapes.{GoesOn, string_plain, string_escape, string_done, one_value}
use Rattle.proto_lexer.proofs.string.string_value.Goals as goal

pub loop-i-preserved-then-body-i-eq92 : goal.loop-i-preserved-then-body-i-eq92
loop-i-preserved-then-body-i-eq92 c =
    let body : List ℕ = take (length c.args.literal.now - 1 - 1) (drop 1 c.args.literal.now) in
    let rest = take_rest body (c.loop-i.i + 1) in
    let value = rw rest at c.in_ok-len.ensures.value in
    let behind : drop c.in_ok-len.len (drop (c.loop-i.i + 1) body) ≡ (escape_of (drop (c.loop-i.i + 1) body)).behind = rw rest at c.in_ok-len.ensures.rest in
    let bound : c.in_ok-len.len ≤ length (drop (c.loop-i.i + 1) body) = rw rest at c.in_ok-len.ensures.bound in
    record {
      within = omega (arith, bound, length-drop (c.loop-i.i + 1) body);
      same = rw value (string_escape body c.loop-i.out c.loop-i.i c.in_ok-len.len c.loop-i-test.true c.if-body-i-eq92.true behind c.loop-i.invariant.same);
    }

pub loop-i-preserved : goal.loop-i-preserved
loop-i-preserved c =
    let body : List ℕ = take (length c.args.literal.now - 1 - 1) (drop 1 c.args.literal.now) in
    record {
      within = omega arith;
      same = rw c.in_ok-push.ensures.ok (string_plain body c.loop-i.out c.loop-i.i c.loop-i-test.true c.if-body-i-eq92.false c.loop-i.invariant.same);
    }

said : (literal out : List ℕ) (i : ℕ) → length (take (length literal - 1 - 1) (drop 1 literal)) ≤ i
    → GoesOn (take (length literal - 1 - 1) (drop 1 literal)) out i → HasStringValue (body_of literal) out
said literal out i h so_far =
    let two : length literal - 1 - 1 ≡ length literal - 2 = omega arith in
    subst (λ (n : ℕ). HasStringValue (take n (drop 1 literal)) out) two (string_done (take (length literal - 1 - 1) (drop 1 literal)) out i h so_far)

pub returns : goal.returns
returns c =
    let s = said c.args.literal.now c.loop-i.out c.loop-i.i c.loop-i-test.false c.loop-i.invariant.same in
    record { stands_for = s; value = one_value (body_of c.args.literal.now) c.loop-i.out s }
