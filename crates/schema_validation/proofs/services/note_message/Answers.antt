use Rattle.std.proofs.Common.{ℕ, List}
use Rattle.proto_ast.specs.Joined.{package_at}
use Rattle.schema_symbols.specs.Scopes.{a_message, IsReferenceTo}
use Rattle.schema_symbols.specs.Numbers.{IsFirstSymbol}
use Rattle.schema_symbols.specs.declared.symbol.Symbol.TheVariants.{Message}
use Rattle.schema_validation.specs.Members.{IsNoMessage}
use Rattle.schema_validation.specs.declared.reason.ResolveReason.TheVariants.{UnknownName}
use Rattle.schema_validation.proofs.Unless.{meets_unless, of_both}
use Rattle.schema_validation.proofs.services.note_message.Goals as goal

pub returns : goal.returns
returns c =
    let F = c.args.scopes.now in
    let file = c.args.file in
    let w = c.args.word.now in
    let P = IsNoMessage F file (package_at F file) w.name in
    let Q = λ (i : ℕ). (full : List (List ℕ)) × IsReferenceTo F file (package_at F file) w.name a_message full
    × IsFirstSymbol F file (Message i) full in
    meets_unless P Q c.message_of.result c.is_none-unknown.result UnknownName w.span c.args.first.now c.note_if.new.self
    c.is_none-unknown.ensures (of_both P Q c.message_of.result c.message_of.ensures.some (c.message_of.ensures.none
    c.requires.ordered))
    (λ i e q p. p q.0 q.1) c.note_if.ensures
