-- The declarations of a file that follows others: its offsets come after their texts, and the indices of its messages
-- after theirs. Line numbers stay those of its own text.
use Rattle.std.specs.Prelude.{ℕ, ◌+◌, map, option_map, Option}
use Rattle.proto_ast.specs.declared.file.Span.{Span}
use Rattle.proto_ast.specs.declared.file.Word.{Word}
use Rattle.proto_ast.specs.declared.file.Number.{Number}
use Rattle.proto_ast.specs.declared.file.FieldType.{FieldType}
use Rattle.proto_ast.specs.declared.file.FieldType.TheVariants.{Named, Map, NestedMap}
use Rattle.proto_ast.specs.declared.file.FieldDecl.{FieldDecl}
use Rattle.proto_ast.specs.declared.file.Range.{Range}
use Rattle.proto_ast.specs.declared.file.MessageDecl.{MessageDecl}
use Rattle.proto_ast.specs.declared.file.ValueDecl.{ValueDecl}
use Rattle.proto_ast.specs.declared.file.EnumDecl.{EnumDecl}
use Rattle.proto_ast.specs.declared.file.RpcDecl.{RpcDecl}
use Rattle.proto_ast.specs.declared.file.ServiceDecl.{ServiceDecl}
use Rattle.proto_ast.specs.declared.joined.Head.{Head}
use Rattle.proto_set.specs.declared.linked_file.FileBase.{FileBase}

-- ---- after this many bytes

abbrev pub shift_span : ℕ → Span → Span
shift_span bytes s = record s { start = bytes + s.start; end = bytes + s.end }

abbrev pub shift_word : ℕ → Word → Word
shift_word bytes w = record w { span = shift_span bytes w.span }

abbrev pub shift_number : ℕ → Number → Number
shift_number bytes n = record n { span = shift_span bytes n.span }

abbrev pub shift_range : ℕ → Range → Range
shift_range bytes r = record { first = shift_number bytes r.first; last = option_map (shift_number bytes) r.last }

abbrev pub shift_type : ℕ → FieldType → FieldType
shift_type bytes (Named w) = Named (shift_word bytes w)
shift_type bytes (Map key value) = Map (shift_word bytes key) (shift_word bytes value)
shift_type bytes (NestedMap key) = NestedMap (shift_word bytes key)

abbrev pub shift_field : ℕ → FieldDecl → FieldDecl
shift_field bytes f = record f {
  name = shift_word bytes f.name;
  number = shift_number bytes f.number;
  kind = shift_type bytes f.kind;
}

abbrev pub shift_value : ℕ → ValueDecl → ValueDecl
shift_value bytes v = record { name = shift_word bytes v.name; number = shift_number bytes v.number }

abbrev pub shift_rpc : ℕ → RpcDecl → RpcDecl
shift_rpc bytes r = record {
  name = shift_word bytes r.name;
  input = shift_word bytes r.input;
  output = shift_word bytes r.output;
}

-- ---- after other files

-- the index of the enclosing message
abbrev pub shift_parent : FileBase → Option ℕ → Option ℕ
shift_parent b parent = option_map (λ i. b.messages + i) parent

abbrev pub shift_message : FileBase → MessageDecl → MessageDecl
shift_message b m = record {
  name = shift_word b.bytes m.name;
  file = b.files;
  parent = shift_parent b m.parent;
  fields = map (shift_field b.bytes) m.fields;
  oneofs = map (shift_word b.bytes) m.oneofs;
  ranges = map (shift_range b.bytes) m.ranges;
  names = map (shift_word b.bytes) m.names;
}

abbrev pub shift_enum : FileBase → EnumDecl → EnumDecl
shift_enum b e = record {
  name = shift_word b.bytes e.name;
  file = b.files;
  parent = shift_parent b e.parent;
  values = map (shift_value b.bytes) e.values;
  ranges = map (shift_range b.bytes) e.ranges;
  names = map (shift_word b.bytes) e.names;
}

abbrev pub shift_service : FileBase → ServiceDecl → ServiceDecl
shift_service b s = record {
  name = shift_word b.bytes s.name;
  file = b.files;
  rpcs = map (shift_rpc b.bytes) s.rpcs;
}

abbrev pub shift_head : FileBase → Head → Head
shift_head b h = record h { «package» = option_map (shift_word b.bytes) h.package }
