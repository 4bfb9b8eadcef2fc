use Rattle.std.proofs.Common.{◌⊎◌, ap, subst}
use Rattle.proto_ast.specs.Joined.{enclosing_of, enclosing_of_enum}
use Rattle.schema_validation.specs.Entries.{entries_of, IsRedeclared, IsPackageNamed}
use Rattle.schema_validation.specs.Recording.{HasRecorded, IsOfAny, IsOfElement}
use Rattle.schema_validation.proofs.Formed.{stand_behind}
use Rattle.schema_validation.proofs.Meetings.{meets_then}
use Rattle.schema_validation.proofs.Duplicates.{Laws, Numbered, keeps, meets_twice}
use Rattle.schema_validation.proofs.names.note_duplicates.Goals as goal

pub add_messages-requires-clause-behind : goal.add_messages-requires-clause-behind
add_messages-requires-clause-behind c = stand_behind c.args.files.now c.requires.formed

pub add_enums-requires-clause-behind : goal.add_enums-requires-clause-behind
add_enums-requires-clause-behind c = stand_behind c.args.files.now c.requires.formed

pub returns : goal.returns
returns c =
    let F = c.args.files.now in
    let laws : Laws F = record {
      scope = c.scope_number_is_unique.ensures.scope F;
      number = c.scope_number_is_unique.ensures.number F;
      small = c.scope_number_is_unique.ensures.small F;
      place = c.scope_is_determined.ensures.one F;
    } in
    let numbered : Numbered F = record {
      of_messages = c.in_ok-add_messages.ensures.outer;
      own = c.in_ok-add_messages.ensures.own;
      of_enums = c.in_ok-add_enums.ensures.numbers;
      of_services = c.in_ok-add_services.ensures.numbers;
    } in
    let all = entries_of c.add_services.new.names.items in
    let kept =
    keeps F _ _ _ all (ap entries_of c.new-names.ensures.items)
    c.in_ok-add_messages.ensures.names c.in_ok-add_enums.ensures.names c.in_ok-add_services.ensures.names in
    let later = IsOfAny (IsOfElement all (IsRedeclared all)) in
    let ms = IsOfAny (IsOfElement F.messages (λ i m. IsPackageNamed F (enclosing_of m) m.name)) in
    let es = IsOfAny (IsOfElement F.enums (λ i e. IsPackageNamed F (enclosing_of_enum e) e.name)) in
    let met : HasRecorded later c.args.first.now c.note_later.new.first =
    subst (λ ds. HasRecorded (IsOfAny (IsOfElement (entries_of ds) (IsRedeclared (entries_of ds))))
    c.args.first.now c.note_later.new.first)
    c.deref-2.ensures.value c.note_later.ensures in
    let one = meets_then later ms c.args.first.now c.note_later.new.first c.note_message_packages.new.first met
    c.note_message_packages.ensures in
    let two = meets_then (λ q s. later q s ⊎ ms q s) es c.args.first.now c.note_message_packages.new.first
    c.note_enum_packages.new.first one c.note_enum_packages.ensures in
    meets_twice F all laws numbered kept c.args.first.now c.note_enum_packages.new.first two
