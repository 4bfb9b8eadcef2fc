use Rattle.std.proofs.Common.{ℕ, List, Some, subst, ap, ◌∙◌}
use Rattle.proto_ast.specs.Joined.{package_at}
use Rattle.schema_symbols.specs.Scopes.{of_file}
use Rattle.schema_symbols.specs.Lookups.{IsLookupResult}
use Rattle.schema_validation.proofs.Formed.{start_apart, message_some, message_none, message_enum}
use Rattle.schema_validation.proofs.services.message_of.Goals as goal

pub returns-in-Some-Message-clause-some : goal.returns-in-Some-Message-clause-some
returns-in-Some-Message-clause-some c =
    let F = c.args.scopes.now in
    let file = c.args.file in
    let name = c.args.word.now.name in
    let answer : IsLookupResult F file (package_at F file) name c.find.result =
    subst (λ (n : List ℕ). IsLookupResult F file (package_at F file) n c.find.result) c.as_slice.ensures
    (c.find.ensures (package_at F file) (of_file file)) in
    message_some F file name c.find.result c.in-Some-Message.place
    (c.in-Some-Message.is ∙ ap (λ n. Some n) c.in-Some-Message.field-0-is) answer

pub returns-in-Some-Enum-clause-none : goal.returns-in-Some-Enum-clause-none
returns-in-Some-Enum-clause-none c order =
    let F = c.args.scopes.now in
    let file = c.args.file in
    let name = c.args.word.now.name in
    let answer : IsLookupResult F file (package_at F file) name c.find.result =
    subst (λ (n : List ℕ). IsLookupResult F file (package_at F file) n c.find.result) c.as_slice.ensures
    (c.find.ensures (package_at F file) (of_file file)) in
    message_enum F file name c.find.result c.in-Some-Enum.field-0-0
    (c.in-Some-Enum.is ∙ ap (λ n. Some n) c.in-Some-Enum.field-0-is) answer
    (λ a b f g m n. (c.reference_is_unique.ensures F file (package_at F file) name a b f g (start_apart F order) m n).0)

pub returns-in-None-clause-none : goal.returns-in-None-clause-none
returns-in-None-clause-none c order =
    let F = c.args.scopes.now in
    let file = c.args.file in
    let name = c.args.word.now.name in
    let answer : IsLookupResult F file (package_at F file) name c.find.result =
    subst (λ (n : List ℕ). IsLookupResult F file (package_at F file) n c.find.result) c.as_slice.ensures
    (c.find.ensures (package_at F file) (of_file file)) in
    message_none F file name c.find.result c.in-None.is answer
