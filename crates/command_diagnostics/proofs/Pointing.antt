-- Where a diagnostic points.
use Rattle.std.proofs.Common.{◌≡◌, ◌∙◌, ℕ, List, Contains, length, min, ap, arith, refl}
use Rattle.std.proofs.lemmas.List.{get_or-map, length-map}
use Rattle.proto_set.specs.Bundle.{IsBundleOf}
use Rattle.proto_set.specs.Named.{file_of, files_of}
use Rattle.proto_set.specs.declared.named.Named.{Named}
use Rattle.diagnostics.specs.Diagnostics.{IsFaultSpan, IsSourceOf, file, token, violation}
use Rattle.diagnostics.specs.declared.source_span.SourceSpan.{SourceSpan}
use Rattle.proto_ast.specs.declared.file.File.{File}
use Rattle.proto_schema.specs.Faults as proto
use Rattle.proto_grammar.specs.declared.fault.ProtoFault.TheVariants as proto_fault
use Rattle.proto_grammar.specs.declared.fault.ProtoReason.{ProtoReason}
use Rattle.schema_validation.specs.declared.reason.ResolveReason.{ResolveReason}
use Rattle.schema_resolve.specs.Resolving as resolve
use Rattle.schema_resolve.specs.declared.fault.ResolveFault.TheVariants as resolve_fault

-- a text that is equal to another one
pub also_of : (input a b : List ℕ) → a ≡ b → IsSourceOf input b → IsSourceOf input a
also_of input a b e h = rw e h

-- a file of the set that the input spells
pub of_set : (input : List ℕ) (packed : List Named) (p : Named) → IsBundleOf input (files_of packed) → Contains packed p
    → IsSourceOf input p.text.now
of_set input packed p spelled m =
    file p.path.now (files_of packed) spelled (m.0, omega (arith, m.1, length-map packed file_of), get_or-map file_of packed m.0 p (file_of p) m.1 ∙ ap file_of m.2)

-- the first token at fault of a text
pub token_there : (input text : List ℕ) (reason : ProtoReason) (first end line : ℕ) (p : SourceSpan)
    → p.text.now ≡ text → p.start ≡ min first (length text) → p.end ≡ end
    → IsSourceOf input text → proto.IsFaultOf text (proto_fault.At reason first end line)
    → IsSourceOf input p.text.now × IsFaultSpan p.text.now p.start p.end
token_there input text reason first end line p e s d t f = rw (e, s, d) (t, token reason first line f refl)

-- the first name or number at fault of a file that was read
pub offence_there : (input text : List ℕ) (F : File) (reason : ResolveReason) (first end line : ℕ) (p : SourceSpan)
    → p.text.now ≡ text → p.start ≡ min first (length text) → p.end ≡ end
    → IsSourceOf input text → proto.IsProtoTextOf text F → resolve.IsFaultOf F (resolve_fault.At reason first end line)
    → IsSourceOf input p.text.now × IsFaultSpan p.text.now p.start p.end
offence_there input text F reason first end line p e s d t r f = rw (e, s, d) (t, violation F r reason first line f refl)
