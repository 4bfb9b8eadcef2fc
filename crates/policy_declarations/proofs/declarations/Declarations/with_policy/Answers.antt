use Rattle.std.proofs.Common.{sym, ap, ◌∙◌}
use Rattle.std.specs.BTreeMap.{insert_entry}
use Rattle.std.specs.Str.{bytes_eq}
use Rattle.std.specs.Prelude.{position}
use Rattle.policy_declarations.specs.Declarations.{policy_index}
use Rattle.policy_declarations.specs.declared.declaration.NamedPolicy.{NamedPolicy}
use Rattle.policy_declarations.proofs.Placing.{by_items, finds_more}
use Rattle.policy_declarations.proofs.declarations.Declarations.with_policy.Goals as goal

pub invariant_of-result : goal.invariant_of-result
invariant_of-result c =
    let inside = c.self.inside in
    let p : NamedPolicy = record { name = c.args.policy.name; policy = c.args.policy.policy } in
    let key = c.in_ok-name.name in
    let own = c.in_ok-name.ensures.items ∙ c.as_slice.ensures in
    let unused = ap (λ d. policy_index d c.args.policy.name) c.self.view_is ∙ c.requires in
    let inserted = c.in_ok-insert.ensures.entries ∙ ap (insert_entry by_items inside.places.entries key) c.len.ensures in (
      λ name.
          finds_more inside.places.entries c.insert.new.self.entries inside.policies p key name own unused (c.self.invariant.0 name) inserted
          ∙ ap (position (λ (q : NamedPolicy). bytes_eq q.name name)) (sym c.in_ok-push.ensures.ok),
      c.self.invariant.1,
    )
