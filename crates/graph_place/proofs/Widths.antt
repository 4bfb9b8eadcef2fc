-- The width of an element.
use Rattle.std.proofs.Common.{◌≤◌, arith}
use Rattle.mrpc_table.specs.declared.table.Kind.{Kind}
use Rattle.mrpc_table.specs.declared.table.Kind.TheVariants.{Text, Octets}
use Rattle.graph_form.specs.Roles.{element_words}

pub narrow : (k : Kind) → element_words k ≤ 2
narrow Text = omega arith
narrow Octets = omega arith
narrow _ = omega arith
