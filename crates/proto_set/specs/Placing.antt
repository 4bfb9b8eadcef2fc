-- The code's own: what must fit a word of 64 bits for a file to follow others, and the joined files with one more.
use Rattle.std.specs.Prelude.{ℕ, ◌+◌, ◌-◌, ◌^◌, ◌<◌, ◌++◌, map, IfSome, All}
use Rattle.proto_ast.specs.Joined.{Joined}
use Rattle.proto_ast.specs.declared.file.MessageDecl.{MessageDecl}
use Rattle.proto_ast.specs.declared.file.EnumDecl.{EnumDecl}
use Rattle.proto_ast.specs.declared.file.ServiceDecl.{ServiceDecl}
use Rattle.proto_set.specs.declared.linked_file.LinkedFile.{LinkedFile}
use Rattle.proto_set.specs.declared.linked_file.FileBase.{FileBase}
use Rattle.proto_set.specs.Joining.{heads_of}
use Rattle.proto_set.specs.Shifted.{shift_message, shift_enum, shift_service, shift_head}
use Rattle.proto_ast.specs.Within.{IsWordWithin, IsMessageWithin, IsEnumWithin, IsServiceWithin}

-- the largest size of a text after this many bytes
abbrev pub room_after : ℕ → ℕ
room_after bytes = 2 ^ 64 - 1 - bytes

pub record CanPlaceMessage (b : FileBase) (m : MessageDecl) : Type 0 where
  pub within : IsMessageWithin (room_after b.bytes) m
  pub parent : IfSome m.parent (λ i. b.messages + i < 2 ^ 64)

pub record CanPlaceEnum (b : FileBase) (e : EnumDecl) : Type 0 where
  pub within : IsEnumWithin (room_after b.bytes) e
  pub parent : IfSome e.parent (λ i. b.messages + i < 2 ^ 64)

abbrev pub CanPlaceService : FileBase → ServiceDecl → Type 0
CanPlaceService b s = IsServiceWithin (room_after b.bytes) s

pub record CanPlace (b : FileBase) (p : LinkedFile) : Type 0 where
  pub package_name : IfSome p.file.package (IsWordWithin (room_after b.bytes))
  pub messages : All (CanPlaceMessage b) p.file.messages
  pub enums : All (CanPlaceEnum b) p.file.enums
  pub services : All (CanPlaceService b) p.file.services

-- the joined files, followed by one more
abbrev pub joined_with_file : Joined → FileBase → LinkedFile → Joined
joined_with_file J b p = record {
  heads = J.heads ++ map (shift_head b) (heads_of p);
  messages = J.messages ++ map (shift_message b) p.file.messages;
  enums = J.enums ++ map (shift_enum b) p.file.enums;
  services = J.services ++ map (shift_service b) p.file.services;
}
