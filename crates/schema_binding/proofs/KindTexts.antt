-- Kinds and labels by their print in the text.
use Rattle.std.proofs.Common.{◌≡◌, ℕ, List, [], codes}
use Rattle.std.specs.Prelude.{slice_get, unwrap_or}
use Rattle.std.proofs.lemmas.List.{append_cancel_left}
use Rattle.mrpc_table.specs.Text.{message_name, label_text}
use Rattle.mrpc_table.specs.declared.table.Kind.{Kind}
use Rattle.mrpc_table.specs.declared.table.Kind.TheVariants.{Message as OfMessage}
use Rattle.mrpc_table.specs.declared.table.Label.TheVariants.{Member}
use Rattle.mrpc_table.specs.declared.table.Table.{Table}

-- ---- kinds

-- the message that a kind is
pub record IsMessage (T : Table) (k : Kind) (type : List ℕ) : Type 0 where
  pub place : ℕ
  pub kind : k ≡ OfMessage place
  pub named : message_name T place ≡ type

-- ---- labels

pub one_oneof : (T U : Table) (os ps : List (List ℕ)) (o p : ℕ)
    → label_text T os (Member o) ≡ label_text U ps (Member p)
    → unwrap_or (slice_get os o) [] ≡ unwrap_or (slice_get ps p) []
one_oneof T U os ps o p e = append_cancel_left (codes "oneof:") (unwrap_or (slice_get os o) []) (unwrap_or (slice_get ps p) []) e
