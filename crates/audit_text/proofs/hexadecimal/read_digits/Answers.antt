use Rattle.std.proofs.Common.{◌<◌, ◌++◌, ap, drop, length, refl, subst, sym, take, ◌∙◌, arith}
use Rattle.std.proofs.lemmas.List.{length-set, take_more_set}
use Rattle.hex.specs.Hex.{IsBytes, encode_lower, encode_with}
use Rattle.audit_text.proofs.Digits.{behind-digits, bytes-behind, bytes-more, no-bytes, no-digits, one-more}
use Rattle.audit_text.proofs.hexadecimal.read_digits.Goals as goal

pub loop-byte-init : goal.loop-byte-init
unfolding encode_with
loop-byte-init c = record {
  parts = refl;
  bytes = no-bytes;
  within = omega arith;
  room = omega (arith, c.requires);
}

pub loop-byte-preserved : goal.loop-byte-preserved
loop-byte-preserved c =
    let row = c.loop-byte.row in
    let count = c.loop-byte.count in
    let byte = c.in-Some.byte in
    let behind = c.in-Some.behind.now in
    let before = c.loop-byte.invariant in
    let two = ap length c.in-Some.ensures.1 in
    let less : count < length row = omega (arith, before.room, two) in
    let more = take_more_set row count byte less in
    let same = length-set row count byte in
    record {
      parts = before.parts ∙ ap (λ l. encode_lower (take count row) ++ l) c.in-Some.ensures.1 ∙ one-more (take count row) byte behind
          ∙ ap (λ l. encode_lower l ++ behind) (sym more);
      bytes = subst IsBytes (sym more) (bytes-more (take count row) byte before.bytes c.in-Some.ensures.0);
      within = omega (arith, less, same);
      room = omega (arith, before.room, two, same);
    }

pub returns-else-is_empty : goal.returns-else-is_empty
returns-else-is_empty c = λ bytes are is.
    let left = c.loop-byte.left.now in
    let read = take c.loop-byte.count c.loop-byte.row in
    let digits = behind-digits read left bytes (sym c.loop-byte.invariant.parts ∙ is) in
    let none = no-digits left (drop (length read) bytes) (bytes-behind (length read) bytes are) c.in_default.ensures digits in
    absurd (grind (arith, ap length none, c.is_empty.ensures, c.if-is_empty.false))
