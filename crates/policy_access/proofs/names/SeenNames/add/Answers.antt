use Rattle.std.proofs.Common.{◌||◌, ◌∙◌, ap, List, ℕ}
use Rattle.std.specs.Str.{bytes_eq}
use Rattle.policy_access.specs.Names.{contains_name}
use Rattle.policy_access.proofs.NameLemmas.{is_in, is_in-insert, holds-push}
use Rattle.policy_access.proofs.names.SeenNames.add.Goals as goal

pub returns : goal.returns
returns c names h =
    holds-push c.args.self.now _ names c.args.name.now
    (λ q. ap (is_in q) c.in_ok-insert.ensures.entries ∙ is_in-insert q c.args.self.now.names.entries c.in_ok-from_slice.field-0 _
    ∙ ap (λ (bs : List ℕ). bytes_eq q bs || contains_name c.args.self.now q) c.in_ok-from_slice.ensures.items)
    h
