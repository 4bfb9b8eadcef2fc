-- The result for a text: its valid table, or its first fault.
use Rattle.std.proofs.Common.{◌≡◌, ℕ, ◌-◌, List, Some, None, Result, Ok, Err, refl, sym, subst, ◌∙◌}
use Rattle.std.specs.Prelude.{IfOk, IfErr, OnOk, MatchResult}
use Rattle.mrpc_table.specs.Lines.{whole_lines}
use Rattle.mrpc_table.specs.Text.{table_text}
use Rattle.mrpc_table.specs.Valid.{IsValid, HasUniqueTexts}
use Rattle.table_text.specs.LineTests.{IsFaultFound}
use Rattle.table_text.specs.Drafts.{table_in}
use Rattle.mrpc_table.specs.declared.table.Table.{Table}
use Rattle.table_text.specs.declared.fault.TableFault.{TableFault}
use Rattle.table_text.specs.declared.fault.TableFault.TheVariants as fault
use Rattle.table_text.proofs.Accepts.{IsFaultless, accepted}
use Rattle.table_text.proofs.Complete.{complete}

pub is_accepted : (text : List ℕ) (r : Result Table TableFault) → IfOk r (λ t. t ≡ table_in (whole_lines text))
    → OnOk r (IsFaultless text) → IfOk r (λ t. IsValid t × (text ≡ table_text t))
is_accepted text (Ok t) is clean = subst (λ (u : Table). IsValid u × (text ≡ table_text u)) (sym is) (accepted text clean)
is_accepted text (Err e) is clean = tt

pub is_only : (text : List ℕ) (r : Result Table TableFault) → IfOk r (λ t. t ≡ table_in (whole_lines text))
    → IfErr r (λ e. IsFaultFound text e) → (t : Table) → IsValid t → text ≡ table_text t
    → MatchResult r (λ u. u ≡ t) (λ e. e ≡ fault.Memory)
is_only text (Ok u) is faults t valid e = is ∙ (complete t text valid e).1
is_only text (Err (fault.At line reason)) is faults t valid e =
    let clash : None ≡ Some reason = sym ((complete t text valid e).0 (line - 1)) ∙ faults.here in absurd cc
is_only text (Err fault.Memory) is faults t valid e = refl

pub one_each : HasUniqueTexts
one_each T U valid_T valid_U e = sym (complete T (table_text T) valid_T refl).1 ∙ (complete U (table_text T) valid_U e).1
