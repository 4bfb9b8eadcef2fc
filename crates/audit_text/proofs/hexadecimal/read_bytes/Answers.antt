use Rattle.std.proofs.Common.{rules, ◌≡◌, ap, length, sym, ◌∙◌, arith, false, codes}
use Rattle.std.specs.Str.{bytes_eq}
use Rattle.std.proofs.lemmas.List.{nil_from_length}
use Rattle.std.proofs.lemmas.Slice.Eq.{bytes_eq-Decides}
use Rattle.audit_text.proofs.Digits.{no-bytes, none-empty, spelled-by-digits}
use Rattle.audit_text.proofs.hexadecimal.read_bytes.Goals as goal

pub returns-then-is_word : goal.returns-then-is_word
returns-then-is_word c = (omega arith, no-bytes, (bytes_eq-Decides c.args.word.now (codes "-")).0 (search rules))

pub returns-then-is_empty : goal.returns-then-is_empty
returns-then-is_empty c = λ bytes are is. none-empty bytes (sym (nil_from_length c.args.word.now (grind arith)) ∙ is)

pub returns : goal.returns
returns c =
    let word = c.args.word.now in
    let other : bytes_eq word (codes "-") ≡ false = search rules in
    spelled-by-digits word c.read_digits.new.row c.read_digits.result other (λ e. absurd (grind (arith, ap length e))) c.read_digits.ensures
