use Rattle.std.proofs.Common.{List, ℕ, ◌≡◌, ap, ◌∙◌, subst, ◌++◌, ◌∷◌, []}
use Rattle.std.proofs.lemmas.Result.{on_ok_weaker}
use Rattle.table_text.specs.NameIndex.{AreNames}
use Rattle.table_text.specs.Drafts.{open_part, part_names, oneofs_of_open, with_part, with_parts}
use Rattle.table_text.specs.declared.draft.OpenPart.{OpenPart}
use Rattle.table_text.specs.declared.draft.OpenPart.TheVariants as open_parts
use Rattle.table_text.proofs.KeptLemmas.{kept_field, parts_made}
use Rattle.table_text.proofs.reader.TableReader.add_field.Goals as goal

pub returns-clause-draft : goal.returns-clause-draft
returns-clause-draft c t h =
    let d = c.args.self.now.draft in
    let same = parts_made t d.open_part c.in-Message.field-0 c.args.line.number c.in-Some.number c.args.line
    c.resolved_field-field.result c.in_ok-oneof.oneof c.in-Message.is c.in-Some.is (c.resolved_field-field.ensures t h)
    (c.in_ok-oneof.ensures t h) in
    on_ok_weaker c.add_field.result
    (λ (made : c.add_field.new.self ≡ with_parts c.args.self.now.draft.open_part c.resolved_field-field.result
    c.in_ok-oneof.oneof). ap (with_part c.args.self.now.draft) (made ∙ same)) c.add_field.ensures

pub returns-clause-kept : goal.returns-clause-kept
returns-clause-kept c t h =
    let is : c.args.self.now.draft.open_part ≡ open_parts.Message c.in-Message.field-0 = c.in-Message.is in
    let inner = subst (λ (o : OpenPart). AreNames c.args.self.now.inner_names (part_names (open_part o))) is h.inner_names in
    let names = part_names (open_part (open_parts.Message c.in-Message.field-0)) in
    let added = subst (λ (n : List ℕ). AreNames c.add.new.self (names ++ n ∷ [])) c.as_slice.ensures (c.in_ok-add.ensures names inner) in
    let placed = c.in_ok-add_oneof.ensures (oneofs_of_open (open_parts.Message c.in-Message.field-0)) (subst (λ (o : OpenPart). AreNames c.args.self.now.oneofs (oneofs_of_open o)) is h.oneofs) in
    on_ok_weaker c.add_field.result
    (kept_field t c.args.self.now c.in-Message.field-0 c.resolved_field-field.result c.in_ok-oneof.oneof
    c.add_field.new.self c.add.new.self c.add_oneof.new.oneofs is h added placed) c.add_field.ensures
