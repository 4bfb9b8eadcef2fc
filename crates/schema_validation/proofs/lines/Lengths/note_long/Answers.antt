use Rattle.std.proofs.Common.{◌⊎◌}
use Rattle.proto_ast.specs.Joined.{enclosing_of, enclosing_of_enum}
use Rattle.proto_ast.specs.declared.joined.Enclosing.TheVariants as home
use Rattle.schema_validation.specs.Recording.{IsOfAny, IsOfElement, IsLongNameViolation}
use Rattle.schema_validation.specs.Lengths.{IsLongName}
use Rattle.schema_validation.proofs.Meetings.{meets_then, meets_as}
use Rattle.schema_validation.proofs.LongNames.{LongParts, long_to, long_from}
use Rattle.schema_validation.proofs.lines.Lengths.note_long.Goals as goal

pub returns : goal.returns
returns c =
    let F = c.args.files.now in
    let kept = c.args.self.now in
    let exists = c.scope_is_determined.ensures.exists in
    let ms = IsOfAny (IsOfElement F.messages (λ i m. IsLongName kept (enclosing_of m) m.name)) in
    let es = IsOfAny (IsOfElement F.enums (λ i e. IsLongName kept (enclosing_of_enum e) e.name)) in
    let xs = IsOfAny (IsOfElement F.services (λ i x. IsLongName kept (home.File x.file) x.name)) in
    let a = c.args.first.now in
    let b = c.note_messages.new.first in
    let d = c.note_enums.new.first in
    let e = c.note_services.new.first in
    let both = meets_then ms es a b d c.note_messages.ensures c.note_enums.ensures in
    let all = meets_then (λ q s. ms q s ⊎ es q s) xs a d e both c.note_services.ensures in
    meets_as (LongParts F kept c.requires.formed c.requires.lengths exists) (IsLongNameViolation F) a e all
    (long_to F kept c.requires.formed c.requires.lengths exists)
    (long_from F kept c.requires.formed c.requires.lengths exists)
