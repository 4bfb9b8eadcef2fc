-- The text of a diagnostic.
use Rattle.std.specs.Prelude.{◌≡◌, ◌≤◌, ◌==◌, ◌&&◌, ◌||◌, nat_le, nat_lt, ℕ, Bool, true, List, ◌++◌, Contains, codes, length, min}
use Rattle.std.specs.List.{list_all}
use Rattle.proto_set.specs.Bundle.{IsBundleOf}
use Rattle.diagnostics.specs.Snippets.{IsSnippet}
use Rattle.proto_ast.specs.declared.file.File.{File}
use Rattle.proto_schema.specs.Faults as proto
use Rattle.proto_grammar.specs.declared.fault.ProtoFault.TheVariants as proto_fault
use Rattle.proto_grammar.specs.declared.fault.ProtoReason.{ProtoReason}
use Rattle.schema_validation.specs.declared.reason.ResolveReason.{ResolveReason}
use Rattle.schema_resolve.specs.Resolving as resolve
use Rattle.schema_resolve.specs.declared.fault.ResolveFault.TheVariants as resolve_fault

-- a byte of ASCII that a terminal prints, or a line feed
abbrev pub is_plain : ℕ → Bool
is_plain byte = (nat_le 32 byte && nat_lt byte 127) || byte == 10

-- bytes that a terminal prints, whatever they came from
abbrev pub IsPlain : List ℕ → Type 0
IsPlain bytes = list_all is_plain bytes ≡ true

-- the new bytes are appended to the old ones
abbrev pub HasAppended : List ℕ → List ℕ → Type 0
HasAppended before after = (more : List ℕ) × (after ≡ before ++ more)

-- a text that a diagnostic can point into: all of the input, or a file of the set that it spells
pub data IsSourceOf (input text : List ℕ) : Type 0 where
  whole : text ≡ input → IsSourceOf input text
  file : (path : List ℕ) (files : List (List ℕ × List ℕ)) → IsBundleOf input files → Contains files (path, text)
      → IsSourceOf input text

-- the part that a diagnostic points at, from its first byte up to the offset after its last: the token at
-- fault of a proto file, a name or a number that violates a rule, or any part that starts in the text or at
-- its end
pub data IsFaultSpan (text : List ℕ) (start end : ℕ) : Type 0 where
  token : (reason : ProtoReason) (first line : ℕ) → proto.IsFaultOf text (proto_fault.At reason first end line)
      → start ≡ min first (length text) → IsFaultSpan text start end
  violation : (F : File) → proto.IsProtoTextOf text F → (reason : ResolveReason) (first line : ℕ)
      → resolve.IsFaultOf F (resolve_fault.At reason first end line) → start ≡ min first (length text)
      → IsFaultSpan text start end
  in_line : start ≤ length text → IsFaultSpan text start end

-- the text of a diagnostic: a sentence, or the sentence with a location at fault
pub data IsDiagnosticBody (input : List ℕ) (width : ℕ) (shown : List ℕ) : Type 0 where
  alone : (sentence : List ℕ) → IsPlain sentence → shown ≡ sentence ++ codes "\n" → IsDiagnosticBody input width shown
  pointing : (text : List ℕ) → IsSourceOf input text → (start end : ℕ) → IsFaultSpan text start end
      → (sentence : List ℕ)
      → IsPlain sentence → IsSnippet text start end width sentence shown → IsDiagnosticBody input width shown

-- the lines of a diagnostic: notes or the path of a file, and then its text
pub record IsDiagnosticOf (input : List ℕ) (width : ℕ) (lines : List ℕ) : Type 0 where
  pub front : List ℕ
  pub plain : IsPlain front
  pub shown : List ℕ
  pub says : IsDiagnosticBody input width shown
  pub spelled : lines ≡ front ++ shown
