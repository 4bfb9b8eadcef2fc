-- Known bytes, up to the end.
use Rattle.std.proofs.Common.{ℕ, List, ◌++◌, Option, Some, None, ap, ◌∙◌, append-nil}
use Rattle.std.specs.Io.KnownBytes.{Consumes, IsAtEnd}
use Rattle.mrpc_base.specs.WholeInput.{IsAllOf}

pub all_of_consumed : (old mid : Option (List ℕ)) (text : List ℕ) → Consumes old mid text → IsAtEnd mid → IsAllOf old text
all_of_consumed None mid text a e = tt
all_of_consumed (Some os) None text a e = absurd a
all_of_consumed (Some os) (Some ms) text a e = a ∙ ap (λ l. text ++ l) e ∙ append-nil text
