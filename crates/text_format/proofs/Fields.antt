-- The fields of each message of a valid table ascend.
use Rattle.std.proofs.Common.{ℕ, zero, suc, List, [], ◌∷◌, All, slice_get, option_map, unwrap_or}
use Rattle.std.proofs.lemmas.List.Elements.{All-head, All-tail}
use Rattle.mrpc_table.specs.Ascending.{AreAllFieldsAscending, AreFieldsAscending}
use Rattle.mrpc_table.specs.Valid.{IsValid, IsMessage}
use Rattle.mrpc_table.specs.declared.table.Message.{Message}
use Rattle.mrpc_table.specs.declared.table.Table.{Table}

ascend-at : (T : Table) (ms : List Message) (i : ℕ) → All (IsMessage T) ms → AreFieldsAscending (unwrap_or (option_map (λ m. m.fields) (slice_get ms i)) [])
ascend-at T [] i all = tt
ascend-at T (m ∷ ms) zero all = (All-head (IsMessage T) m ms all).ascend
ascend-at T (m ∷ ms) (suc i) all = ascend-at T ms i (All-tail (IsMessage T) m ms all)

pub valid-ascends : (T : Table) → IsValid T → AreAllFieldsAscending T
valid-ascends T h = record { each = λ i. ascend-at T T.messages i h.messages }
