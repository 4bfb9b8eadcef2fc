-- Several files joined to one, as if their texts were concatenated.
use Rattle.std.specs.Prelude.{ℕ, ◌+◌, List, [], ◌∷◌, ◌++◌, length, map}
use Rattle.proto_ast.specs.Joined.{Joined}
use Rattle.proto_ast.specs.declared.joined.Head.{Head}
use Rattle.proto_set.specs.declared.linked_file.LinkedFile.{LinkedFile}
use Rattle.proto_set.specs.declared.linked_file.FileBase.{FileBase}
use Rattle.proto_set.specs.Texts.{IsInTextOf}
use Rattle.proto_set.specs.Shifted.{shift_message, shift_enum, shift_service, shift_head}

-- what precedes the first file, and what precedes the file after another
abbrev pub before_first_file : FileBase
before_first_file = record { files = 0; bytes = 0; messages = 0 }

abbrev pub after_file : FileBase → LinkedFile → FileBase
after_file b p = record {
  files = b.files + 1;
  bytes = b.bytes + p.size;
  messages = b.messages + length p.file.messages;
}

-- the declarations of one kind, those of each file after those of the earlier files
abbrev pub gathered : {X Y : Type 0} → (FileBase → X → Y) → (LinkedFile → List X) → FileBase → List LinkedFile → List Y
gathered shift declares b [] = []
gathered shift declares b (p ∷ ps) = map (shift b) (declares p) ++ gathered shift declares (after_file b p) ps

-- the head of a file: its package, and the files visible to it
abbrev pub heads_of : LinkedFile → List Head
heads_of p = record { «package» = p.file.package; sees = p.sees } ∷ []

abbrev pub joined : List LinkedFile → Joined
joined ps = record {
  heads = gathered shift_head heads_of before_first_file ps;
  messages = gathered shift_message (λ p. p.file.messages) before_first_file ps;
  enums = gathered shift_enum (λ p. p.file.enums) before_first_file ps;
  services = gathered shift_service (λ p. p.file.services) before_first_file ps;
}

-- ---- offsets of the concatenated texts

abbrev pub sizes_of : List LinkedFile → List ℕ
sizes_of ps = map (λ p. p.size) ps

-- an offset lies in the text of the file with index k
abbrev pub IsInText : List LinkedFile → ℕ → ℕ → Type 0
IsInText ps k place = IsInTextOf (sizes_of ps) k place
