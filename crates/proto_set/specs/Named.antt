-- The files in a list of borrowed files.
use Rattle.std.specs.Prelude.{List, map}
use Rattle.proto_set.specs.Bundle.{BundledFile}
use Rattle.proto_set.specs.declared.named.Named.{Named}

abbrev pub file_of : Named → BundledFile
file_of p = (p.path.now, p.text.now)

abbrev pub files_of : List Named → List BundledFile
files_of packed = map file_of packed
