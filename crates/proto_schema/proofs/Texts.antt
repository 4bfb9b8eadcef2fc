-- What reading returns for a text, in terms of the grammar.
use Rattle.std.proofs.Common.{subst, ◌≡◌, ℕ, true, List, refl, sym, ◌∙◌}
use Rattle.std.specs.Prelude.{Ok, Err, Result, IfOk, IfErr, MatchResult}
use Rattle.proto_lexer.specs.Tokens.{AreTokens}
use Rattle.proto_lexer.specs.declared.token.Token.{Token}
use Rattle.proto_grammar.specs.Lexemes.{lexemes}
use Rattle.proto_schema.specs.Faults.{IsProtoTextOf, HasProtoFault, IsFaultOf}
use Rattle.proto_schema.specs.StatementReading.{read, failed, IsReadingOutcome, reading}
use Rattle.proto_grammar.specs.Advancing.{proto_fault_at}
use Rattle.proto_schema.proofs.Shallow.{text_of, read_of}
use Rattle.proto_schema.proofs.FirstFaults.{failed_first}
use Rattle.proto_ast.specs.declared.file.Span.{Span}
use Rattle.proto_grammar.specs.declared.fault.ProtoReason.{ProtoReason}
use Rattle.proto_ast.specs.declared.file.File.{File}
use Rattle.proto_grammar.specs.declared.fault.ProtoFault.{ProtoFault}
use Rattle.proto_grammar.specs.declared.fault.ProtoFault.TheVariants as fault

-- the result of the tokens of a text
abbrev pub ComesOf : List ℕ → Result File ProtoFault → Type 0
ComesOf text r = (ts : List Token) → AreTokens text 0 ts → IsReadingOutcome r (reading true (lexemes text ts))

fault_of : (text : List ℕ) (q : ProtoReason) (start end line : ℕ) (r : ProtoReason) (s : Span) → HasProtoFault text r s
    → proto_fault_at r s ≡ fault.At q start end line → HasProtoFault text q (record { start = start; end = end; line = line })
fault_of text q start end line r s f p =
    let a : r ≡ q = (cc) in
    let b : s.start ≡ start = (cc) in
    let c : s.end ≡ end = (cc) in
    let d : s.line ≡ line = (cc) in
    subst (λ (r : ProtoReason). HasProtoFault text r (record { start = start; end = end; line = line })) a
    (subst (λ (n : ℕ). HasProtoFault text r (record { start = n; end = end; line = line })) b
    (subst (λ (n : ℕ). HasProtoFault text r (record { start = s.start; end = n; line = line })) c
    (subst (λ (n : ℕ). HasProtoFault text r (record { start = s.start; end = s.end; line = n })) d f)))

pub answer_is_fault : (text : List ℕ) (r : Result File ProtoFault) → (ts : List Token) × AreTokens text 0 ts
    → ComesOf text r → IfErr r (λ e. IsFaultOf text e)
answer_is_fault text (Ok f) l h = tt
answer_is_fault text (Err fault.Memory) l h = tt
answer_is_fault text (Err (fault.At q start end line)) (ts, a) h = by (failed_first text ts (fault.At q start end line) a (h ts a))
  where
    by : (r : ProtoReason) × (s : Span) × HasProtoFault text r s × (proto_fault_at r s ≡ fault.At q start end line)
        → HasProtoFault text q (record { start = start; end = end; line = line })
    by (r, s, f, p) = fault_of text q start end line r s f p

pub answer_reads : (text : List ℕ) (r : Result File ProtoFault) → (ts : List Token) × AreTokens text 0 ts
    → ComesOf text r → IfOk r (λ f. IsProtoTextOf text f)
answer_reads text (Ok f) (ts, a) h = text_of text ts f a (h ts a)
answer_reads text (Err e) (ts, a) h = tt

pub answer_is_file : (text : List ℕ) (r : Result File ProtoFault) (f : File) → ComesOf text r → IsProtoTextOf text f
    → MatchResult r (λ g. g ≡ f) (λ e. e ≡ fault.Memory)
answer_is_file text (Ok g) f h k = let q : read g ≡ read f = sym (h k.tokens k.of_text) ∙ read_of text f k in cc
answer_is_file text (Err fault.Memory) f h k = refl
answer_is_file text (Err (fault.At q start end line)) f h k = absurd (let e : failed (fault.At q start end line) ≡ read f = sym (h k.tokens k.of_text) ∙ read_of text f k in cc)
