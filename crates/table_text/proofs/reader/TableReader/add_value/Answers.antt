use Rattle.std.proofs.Common.{rules, List, ℕ, ◌≡◌, subst, ◌++◌, ◌∷◌, []}
use Rattle.std.specs.Result.{OnOk}
use Rattle.std.proofs.lemmas.Result.{on_ok_weaker}
use Rattle.table_text.specs.NameIndex.{AreNames}
use Rattle.table_text.specs.Drafts.{open_part, part_names, with_value}
use Rattle.table_text.specs.declared.draft.OpenPart.{OpenPart}
use Rattle.table_text.specs.declared.draft.OpenPart.TheVariants as open_parts
use Rattle.table_text.specs.declared.line.EnumNumber.TheVariants.{Within}
use Rattle.table_text.proofs.KeptLemmas.{kept_value}
use Rattle.table_text.proofs.reader.TableReader.add_value.Goals as goal

pub returns-clause-kept : goal.returns-clause-kept
returns-clause-kept c t h =
    let is : c.args.self.now.draft.open_part ≡ open_parts.Enum c.in-Enum.field-0 = c.in-Enum.is in
    let inner = subst (λ (o : OpenPart). AreNames c.args.self.now.inner_names (part_names (open_part o))) is h.inner_names in
    let names = part_names (open_part (open_parts.Enum c.in-Enum.field-0)) in
    let added = subst (λ (n : List ℕ). AreNames c.add.new.self (names ++ n ∷ [])) c.as_slice.ensures (c.in_ok-add.ensures names inner) in
    let made : OnOk c.add_value.result (c.add_value.new.self ≡ with_value c.args.self.now.draft.open_part (Within c.in-Within.number) c.args.name) = search (rules, c.add_value.ensures) in
    on_ok_weaker c.add_value.result (kept_value t c.args.self.now c.in-Enum.field-0 c.in-Within.number c.args.name c.add_value.new.self c.add.new.self is h added) made
