-- The code's own: the final content of each field, after its contents are combined.
use Rattle.std.specs.Prelude.{ℕ, Option, option_and_then, List, [], ◌∷◌}
use Rattle.mrpc_table.specs.Node.{Node, no_fields, field, Content}
use Rattle.mrpc_table.specs.Normal.{field_at}
use Rattle.mrpc_table.specs.declared.table.Field.{Field}
use Rattle.wire_decode.specs.Contents.{with_content}
use Rattle.wire_decode.specs.Merged.{field_content}

-- the final content of the field with a number, from its combined content
abbrev pub finish_at : (ℕ → Node → Node) → List Field → ℕ → Content → Option Content
finish_at inner fields number content =
    option_and_then (λ f. field_content inner f.label f.kind (content ∷ [])) (field_at fields number)

-- the final contents of all fields, each from its combined content
abbrev pub finished_of : (ℕ → Node → Node) → List Field → Node → Node
finished_of inner fields no_fields = no_fields
finished_of inner fields (field number content others) =
    with_content number (finish_at inner fields number content) (finished_of inner fields others)
