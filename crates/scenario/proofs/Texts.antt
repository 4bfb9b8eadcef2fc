-- A whole scenario as TOML: a client on connection 1 linked with an echo on connection 2.
use Rattle.std.proofs.Common.{◌≡◌, ◌++◌, pos, codes, Some, refl}
use Rattle.toml.specs.Data.{string, integer, array, table, no_items, item, Members, no_members, member}
use Rattle.toml.specs.Parse.{parse_document}
use Rattle.toml.proofs.OnLiterals.{toml_on_literals}

abbrev whole : Members
whole =
    member (codes "app")
    (array (item (table
    (member (codes "conn") (integer (pos 1))
    (member (codes "program")
    (array (item (string (codes "store 2 150")) (item (string (codes "submit 0 2")) no_items)))
    (member (codes "role") (string (codes "client")) no_members))))
    (item (table (member (codes "conn") (integer (pos 2))
    (member (codes "role") (string (codes "echo")) no_members))) no_items)))
    (member (codes "link") (array (item (table (member (codes "a") (integer (pos 1)) (member (codes "b") (integer (pos 2)) no_members))) no_items))
    (member (codes "mrpc") (integer (pos 1))
    (member (codes "schema") (string (codes "syntax = \"proto3\";\nmessage M { uint64 a = 1; }\nservice S { rpc Get (M) returns (M); }\n"))
    (member (codes "service") (string (codes "S")) no_members))))

is_whole : parse_document (codes "mrpc = 1\nservice = \"S\"\nschema = \"\"\"\nsyntax = \"proto3\";\n"
    ++ codes "message M { uint64 a = 1; }\nservice S { rpc Get (M) returns (M); }\n\"\"\"\n"
    ++ codes "[[app]]\nconn = 1\nrole = \"client\"\nprogram = [\"store 2 150\", \"submit 0 2\"]\n"
    ++ codes "[[app]]\nconn = 2\nrole = \"echo\"\n[[link]]\na = 1\nb = 2\n") ≡ Some whole
unfolding toml_on_literals
is_whole = refl
