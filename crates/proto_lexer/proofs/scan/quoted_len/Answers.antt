use Rattle.std.proofs.Common.{◌≡◌, ◌+◌, ◌-◌, ◌==◌, ◌||◌, ◌⊎◌, ℕ, Bool, true, false, List, length, take, drop, get_or, sym, ◌∙◌, arith, inl, inr}
use Rattle.std.proofs.lemmas.List.{take_rest}
use Rattle.std.proofs.lemmas.Bool.{eq-eqb, ne_eqb, or_left, or_right, or_from}
use Rattle.proto_lexer.specs.Scanning.{is_escape}
use Rattle.proto_lexer.proofs.Closing.{closes_quote, closes_escape, closes_no_escape, closes_last, closes_break, closes_on, closes_none}
use Rattle.proto_lexer.proofs.scan.quoted_len.Goals as goal
use Rattle.proto_lexer.proofs.scan.quoted_len.Goals.{then-i-bytes-via-then-i-bytes, then-i-bytes-via-else-i-bytes+then-not-is_escape}

pub returns-then-byte-quote-clause-value : goal.returns-then-byte-quote-clause-value
returns-then-byte-quote-clause-value c = sym (closes_quote c.args.quote c.args.bytes.now c.loop-i.i c.loop-i.invariant.same c.loop-i-test.true c.if-byte-quote.true)

behind : (b : Bool) (bytes : List ℕ) (i : ℕ) (a : ℕ) (r : Bool) → r ≡ is_escape a (take (length bytes - i) (drop i bytes)) → r ≡ b → is_escape a (drop i bytes) ≡ b
behind b bytes i a r e f = rw (take_rest bytes i) at (sym e ∙ f)

pub returns-then-i-bytes-clause-value : goal.returns-then-i-bytes-clause-value
returns-then-i-bytes-clause-value c = elim c.then-i-bytes.branch [
  | then-i-bytes-via-then-i-bytes w ↦ sym (closes_last c.args.quote c.args.bytes.now c.loop-i.i c.loop-i.invariant.same c.loop-i-test.true w.if-i-bytes.true c.if-byte-quote.false)
  | then-i-bytes-via-else-i-bytes+then-not-is_escape w ↦
      sym (closes_no_escape c.args.quote c.args.bytes.now c.loop-i.i c.loop-i.invariant.same w.if-i-bytes.false c.if-byte-quote.false c.if-byte-eq92.true
      (behind false c.args.bytes.now (c.loop-i.i + 2) (get_or c.args.bytes.now (c.loop-i.i + 1) 0) w.is_escape.result w.is_escape.ensures w.if-not-is_escape.true))
]

pub loop-i-preserved-then-byte-eq92 : goal.loop-i-preserved-then-byte-eq92
loop-i-preserved-then-byte-eq92 c = record {
  within = omega arith;
  same = closes_escape c.args.quote c.args.bytes.now c.loop-i.i c.loop-i.invariant.same c.if-i-bytes.false c.if-byte-quote.false c.if-byte-eq92.true
      (behind true c.args.bytes.now (c.loop-i.i + 2) (get_or c.args.bytes.now (c.loop-i.i + 1) 0) c.is_escape.result c.is_escape.ensures c.if-not-is_escape.false);
}

broken : (b : ℕ) → (b ≡ 10) ⊎ ((b ≡ 10 → ⊥) × (b ≡ 0)) → (b == 10 || b == 0) ≡ true
broken b h = elim h [ inl e ↦ or_left _ _ (eq-eqb _ _ e) | inr p ↦ or_right _ _ (eq-eqb _ _ p.1) ]

pub returns-then-byte-eq0-clause-value : goal.returns-then-byte-eq0-clause-value
returns-then-byte-eq0-clause-value c =
    sym (closes_break c.args.quote c.args.bytes.now c.loop-i.i c.loop-i.invariant.same c.loop-i-test.true
    c.if-byte-quote.false c.if-byte-eq92.false (broken _ c.if-byte-eq0.either))

pub loop-i-preserved : goal.loop-i-preserved
loop-i-preserved c = record {
  within = omega arith;
  same = closes_on c.args.quote c.args.bytes.now c.loop-i.i c.loop-i.invariant.same c.loop-i-test.true
      c.if-byte-quote.false c.if-byte-eq92.false
      (or_from _ _ (ne_eqb _ _ c.if-byte-eq0.false.0) (ne_eqb _ _ c.if-byte-eq0.false.1));
}

pub returns-clause-value : goal.returns-clause-value
returns-clause-value c = sym (closes_none c.args.quote c.args.bytes.now c.loop-i.i c.loop-i.invariant.same c.loop-i-test.false)
