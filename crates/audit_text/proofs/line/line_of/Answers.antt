use Rattle.std.proofs.Common.{rules, ◌≡◌, ◌∷◌, ◌^◌, false, Some, None, Ok, ap, ◌∙◌, codes}
use Rattle.std.specs.Fmt.{decimal}
use Rattle.std.specs.Str.{bytes_eq}
use Rattle.mrpc_table.specs.Lines.{words_of}
use Rattle.audit_text.specs.Kinds.{read_kind}
use Rattle.audit_text.specs.Reading.{read_word, read_number, words_in}
use Rattle.audit_text.proofs.LineParts.{head-word, no-number, no-what, reads-none, reads-some, some-what, stands-reads, words-are}
use Rattle.audit_text.proofs.line.line_of.Goals as goal

pub returns-in_default-number32 : goal.returns-in_default-number32
returns-in_default-number32 c =
    let ws = words_of c.args.text.now in
    let first : read_word ws ≡ Some (c.in-Some.word.now, words_in c.in-Some.rest) = search rules in
    let none : read_number (2 ^ 32) (words_in c.in-Some.rest) ≡ None = search rules in
    no-number c.args.table.now c.args.declared.now ws c.in-Some.word.now (words_in c.in-Some.rest) first none

pub returns-then-is_word : goal.returns-then-is_word
returns-then-is_word c =
    let ws = words_of c.args.text.now in
    let tail = words_in c.in-Some-number32.rest in
    let conn = c.in-Some-number32.conn in
    let first : read_word ws ≡ Some (c.in-Some.word.now, words_in c.in-Some.rest) = search rules in
    let number : read_number (2 ^ 32) (words_in c.in-Some.rest) ≡ Some (conn, tail) = search rules in
    let are = words-are ws c.in-Some.word.now (words_in c.in-Some.rest) tail conn first number in
    let is : c.in-Some.word.now ≡ codes "stands" = head-word c.in-Some.word.now (codes "stands") (search rules) in
    stands-reads c.args.table.now c.args.declared.now conn ws tail c.stands.result are.1 (are.0 ∙ ap (λ w. w ∷ decimal conn ∷ tail) is) c.stands.ensures

pub returns-in-None : goal.returns-in-None
returns-in-None c =
    let ws = words_of c.args.text.now in
    let T = c.args.table.now in
    let declared = c.args.declared.now in
    let word = c.in-Some.word.now in
    let tail = words_in c.in-Some-number32.rest in
    let conn = c.in-Some-number32.conn in
    let kind = c.in-Some-of_word.kind in
    let first : read_word ws ≡ Some (word, words_in c.in-Some.rest) = search rules in
    let number : read_number (2 ^ 32) (words_in c.in-Some.rest) ≡ Some (conn, tail) = search rules in
    let are = words-are ws word (words_in c.in-Some.rest) tail conn first number in
    let other : bytes_eq word (codes "stands") ≡ false = search rules in
    let said : read_kind word ≡ Some kind = search rules in
    no-what T declared ws tail word conn kind are.1 are.0 other said (reads-none T declared kind tail c.event_of_kind.result c.event_of_kind.ensures (c.in_ok-event_of_kind.was ∙ ap (λ r. Ok r) c.in-None.is))

pub returns-in-Some-2 : goal.returns-in-Some-2
returns-in-Some-2 c =
    let ws = words_of c.args.text.now in
    let T = c.args.table.now in
    let declared = c.args.declared.now in
    let word = c.in-Some.word.now in
    let tail = words_in c.in-Some-number32.rest in
    let conn = c.in-Some-number32.conn in
    let kind = c.in-Some-of_word.kind in
    let first : read_word ws ≡ Some (word, words_in c.in-Some.rest) = search rules in
    let number : read_number (2 ^ 32) (words_in c.in-Some.rest) ≡ Some (conn, tail) = search rules in
    let are = words-are ws word (words_in c.in-Some.rest) tail conn first number in
    let said : read_kind word ≡ Some kind = search rules in
    let h = reads-some T declared kind tail c.event_of_kind.result c.in-Some-2.what c.event_of_kind.ensures (c.in_ok-event_of_kind.was ∙ ap (λ r. Ok r) c.in-Some-2.is) in
    some-what T declared ws tail word conn kind c.in-Some-2.what are.1 are.0 said h.0 h.1
