use Rattle.std.proofs.Common.{◌≡◌, ◌∙◌, ap, false, List, ℕ}
use Rattle.std.proofs.lemmas.Bool.{lt-leb}
use Rattle.std.specs.Prelude.{nat_le}
use Rattle.policy_access.specs.Faults.{is_rule_name, is_among}
use Rattle.policy_access.specs.declared.limits.TheConstants.{MAX_RULES}
use Rattle.policy_access.proofs.Judging.{judged_by}
use Rattle.policy_access.proofs.read.judged_rule.Goals as goal

pub returns : goal.returns
returns c before holds =
    let few : nat_le MAX_RULES c.args.count ≡ false = lt-leb MAX_RULES c.args.count c.if-count-ge-MAX_RULES.false in
    judged_by _ c.in_ok-about.about _ c.is_rule_name-named.result _ c.contains-known.result _ c.args.line c.judged.result c.judged.ensures few c.in_ok-about.ensures
    (c.is_rule_name-named.ensures ∙ ap is_rule_name c.as_slice.ensures)
    (c.contains-known.ensures before holds ∙ ap (λ (name : List ℕ). is_among name before) c.as_slice-2.ensures)
