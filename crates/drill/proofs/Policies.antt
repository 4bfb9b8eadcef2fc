-- The lines of the policy are its text under the schema.
use Rattle.std.proofs.Common.{[], ◌∷◌, refl, arith, lit≤}
use Rattle.std.specs.Prelude.{IsTrue}
use Rattle.std.proofs.lemmas.List.Elements.{All-from_recursion}
use Rattle.policy_access.specs.Faults.{is_rule_name}
use Rattle.policy_access.specs.Lines.{access_line_of}
use Rattle.policy_access.specs.Texts.{IsTextOf}
use Rattle.policy_access.specs.declared.rule.Rule.{Rule}
use Rattle.drill.specs.Drill.{acl, big, big_line, default_line, schema}

pub text-of-acl : IsTextOf schema (big_line ∷ default_line ∷ []) acl
unfolding access_line_of
text-of-acl = record {
  rule_lines = big_line ∷ [];
  default_line = default_line;
  whole = refl;
  rules = (refl, tt);
  default = refl;
  few = lit≤ tt;
  named = All-from_recursion (λ (r : Rule). IsTrue (is_rule_name r.name)) (big ∷ []) (refl, tt);
  distinct = (λ c. omega (arith, c.1), tt);
}
