-- The content of a line, and the reasons against it.
use Rattle.std.proofs.Common.{◌≡◌, ℕ, ◌≤◌, Bool, true, false, List, Option, Some, None, Ok, Err, refl, arith}
use Rattle.std.specs.Prelude.{nat_lt, length, option_map, option_and_then, if◌then◌else◌}
use Rattle.std.proofs.lemmas.Grind.{common_steps}
use Rattle.mrpc_table.specs.declared.table.Table.{Table}
use Rattle.mrpc_table.specs.PathFields.{path_in}
use Rattle.mrpc_table.specs.declared.path.Path.{Path}
use Rattle.mrpc_table.specs.Calls.{message_of}
use Rattle.mrpc_table.specs.PolicyLines.{index_of}
use Rattle.mrpc_table.specs.declared.policy_lines.RuleReason.{RuleReason}
use Rattle.mrpc_table.specs.declared.policy_lines.RuleReason.TheVariants as reason
use Rattle.policy_redact.specs.Faults.{IsAgainst, out_of_form, large_index, no_method, no_field}
use Rattle.policy_redact.specs.Lines.{clear_line_of}
use Rattle.policy_redact.specs.LineContent.{clear_of_path, clear_of_index, judged_clear}
use Rattle.policy_redact.specs.Texts.{path_in_call, clear_of, clear_in, clear_of_line}
use Rattle.policy_redact.specs.declared.line.ClearLine.{ClearLine}
use Rattle.policy_redact.specs.declared.redact.Clear.{Clear}

-- ---- the clear of a line is the one that is read

at_to : (l : ClearLine) (method : ℕ) (p : Option Path) (c : Clear) → clear_of_path l method p ≡ Ok c → option_map (clear_of method l.sort) p ≡ Some c
at_to l method None c e = absurd cc
at_to l method (Some p) c e = cc

at_from : (l : ClearLine) (method : ℕ) (p : Option Path) (c : Clear) → option_map (clear_of method l.sort) p ≡ Some c → clear_of_path l method p ≡ Ok c
at_from l method None c e = absurd cc
at_from l method (Some p) c e = cc

of_to : (T : Table) (l : ClearLine) (i : Option ℕ) (c : Clear) → clear_of_index T l i ≡ Ok c
    → option_and_then (λ method. option_map (clear_of method l.sort) (path_in_call T method l.sort l.path)) i ≡ Some c
of_to T l None c e = absurd cc
of_to T l (Some method) c e = at_to l method (path_in_call T method l.sort l.path) c e

of_from : (T : Table) (l : ClearLine) (i : Option ℕ) (c : Clear)
    → option_and_then (λ method. option_map (clear_of method l.sort) (path_in_call T method l.sort l.path)) i ≡ Some c → clear_of_index T l i ≡ Ok c
of_from T l None c e = absurd cc
of_from T l (Some method) c e = at_from l method (path_in_call T method l.sort l.path) c e

in_to : (T : Table) (o : Option ClearLine) (c : Clear) → judged_clear T o ≡ Ok c → option_and_then (clear_in T) o ≡ Some c
in_to T None c e = absurd cc
in_to T (Some l) c e = of_to T l (index_of l.index) c e

in_from : (T : Table) (o : Option ClearLine) (c : Clear) → option_and_then (clear_in T) o ≡ Some c → judged_clear T o ≡ Ok c
in_from T None c e = absurd cc
in_from T (Some l) c e = of_from T l (index_of l.index) c e

pub says : (T : Table) (line : List ℕ) (c : Clear) → judged_clear T (clear_line_of line) ≡ Ok c → clear_of_line T line ≡ Some c
says T line c e = in_to T (clear_line_of line) c e

pub is_said : (T : Table) (line : List ℕ) (c : Clear) → clear_of_line T line ≡ Some c → judged_clear T (clear_line_of line) ≡ Ok c
is_said T line c e = in_from T (clear_line_of line) c e

-- ---- a reason is against a line if the reader returns it

not_below : (m n : ℕ) → n ≤ m → nat_lt m n ≡ false
not_below m n le = grind (arith, common_steps)

no_path_either : (b : Bool) (p : Option Path) → p ≡ None → (if b then p else None) ≡ None
no_path_either true p none = none
no_path_either false p none = refl

no_path : (l : ClearLine) (method : ℕ) (p : Option Path) (q : RuleReason) → p ≡ None → q ≡ reason.Path → clear_of_path l method p ≡ Err q
no_path l method p q none is = rw (none, is) refl

pub answers : (T : Table) (line : List ℕ) (q : RuleReason) → IsAgainst T line q → judged_clear T (clear_line_of line) ≡ Err q
answers T line q (out_of_form e is) = rw (e, is) refl
answers T line q (large_index l e i is) = rw (e, i, is) refl
answers T line q (no_method l method e i le is) =
    rw (e, i) (no_path l method (path_in_call T method l.sort l.path) q (rw (not_below method (length T.methods) le) refl) is)
answers T line q (no_field l method e i none is) =
    rw (e, i) (no_path l method (path_in_call T method l.sort l.path) q (no_path_either (nat_lt method (length T.methods)) (path_in T (message_of T method l.sort) l.path) none) is)

at_least : (m n : ℕ) → nat_lt m n ≡ false → n ≤ m
at_least m n e = grind (arith, common_steps)

by_field : (T : Table) (line : List ℕ) (q : RuleReason) (l : ClearLine) (method : ℕ) (known : Bool) (p : Option Path) → clear_line_of line ≡ Some l → index_of l.index ≡ Some method
    → nat_lt method (length T.methods) ≡ known → path_in T (message_of T method l.sort) l.path ≡ p → clear_of_path l method (if known then p else None) ≡ Err q → IsAgainst T line q
by_field T line q l method false p e i k f is = no_method l method e i (at_least method (length T.methods) k) cc
by_field T line q l method true None e i k f is = no_field l method e i f cc
by_field T line q l method true (Some p) e i k f is = absurd cc

by_index : (T : Table) (line : List ℕ) (q : RuleReason) (l : ClearLine) (index : Option ℕ) → clear_line_of line ≡ Some l
    → index_of l.index ≡ index → clear_of_index T l index ≡ Err q → IsAgainst T line q
by_index T line q l None e i is = large_index l e i cc
by_index T line q l (Some method) e i is =
    by_field T line q l method (nat_lt method (length T.methods)) (path_in T (message_of T method l.sort) l.path) e i refl refl is

by_form : (T : Table) (line : List ℕ) (q : RuleReason) (o : Option ClearLine) → clear_line_of line ≡ o → judged_clear T o ≡ Err q → IsAgainst T line q
by_form T line q None e is = out_of_form e cc
by_form T line q (Some l) e is = by_index T line q l (index_of l.index) e refl is

pub against : (T : Table) (line : List ℕ) (q : RuleReason) → judged_clear T (clear_line_of line) ≡ Err q → IsAgainst T line q
against T line q is = by_form T line q (clear_line_of line) refl is
