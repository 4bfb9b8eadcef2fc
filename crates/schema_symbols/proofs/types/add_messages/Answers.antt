use Rattle.std.proofs.Common.{◌≡◌, ℕ, ◌+◌, ◌<◌, List, Some, length, refl, sym, ap, subst, arith}
use Rattle.std.specs.Prelude.{slice_get}
use Rattle.proto_ast.specs.Joined.{enclosing_of}
use Rattle.schema_symbols.specs.Scopes.{IsScope}
use Rattle.schema_symbols.specs.Numbers.{IsEnclosing, IsScopeNumber, message, message_of}
use Rattle.schema_symbols.specs.Types.{HasAddedType, declared_in}
use Rattle.schema_symbols.specs.declared.symbol.Symbol.TheVariants.{Message}
use Rattle.schema_symbols.specs.declared.symbol.DeclaredType.{DeclaredType}
use Rattle.schema_symbols.proofs.ScopeLemmas.{item_at, message_place, has_scope}
use Rattle.schema_symbols.proofs.TypeLemmas.{more_types, one_message}
use Rattle.schema_symbols.proofs.types.add_messages.Goals as goal

pub number-outer-requires : goal.number-outer-requires
number-outer-requires c =
    let l : c.loop-i.i < length c.args.places.now.messages = omega (arith, ap length c.messages-messages.ensures, c.loop-i-test.true) in
    let at : slice_get c.args.places.now.messages c.loop-i.i ≡ Some c.index-messages-i.result =
    item_at c.messages-messages.result.now c.args.places.now.messages c.loop-i.i c.index-messages-i.result c.messages-messages.ensures l c.index-messages-i.is in
    subst (IsEnclosing c.args.places.now) (sym c.enclosing.ensures) (message_place c.requires.behind c.loop-i.i c.index-messages-i.result at)

pub loop-i-preserved : goal.loop-i-preserved
loop-i-preserved c =
    let l : c.loop-i.i < length c.args.places.now.messages = omega (arith, ap length c.messages-messages.ensures, c.loop-i-test.true) in
    let at : slice_get c.args.places.now.messages c.loop-i.i ≡ Some c.index-messages-i.result =
    item_at c.messages-messages.result.now c.args.places.now.messages c.loop-i.i c.index-messages-i.result c.messages-messages.ensures l c.index-messages-i.is in
    let up = has_scope c.args.places.now (enclosing_of c.index-messages-i.result) c.requires.behind (message_place c.requires.behind c.loop-i.i c.index-messages-i.result at) in
    let number : IsScopeNumber c.args.places.now up.0 c.number-outer.result =
    c.number-outer.ensures.number up.0 (subst (λ h. IsScope c.args.places.now h up.0) (sym c.enclosing.ensures) up.1) in
    let d : DeclaredType = record { file = c.index-messages-i.result.file; start = c.index-messages-i.result.name.span.start; named = Message c.loop-i.i } in
    let adds : HasAddedType (declared_in c.loop-i.types) (declared_in c.add.new.self) c.number-outer.result c.index-messages-i.result.name.name d =
    subst (λ (q : List ℕ). HasAddedType (declared_in c.loop-i.types) (declared_in c.add.new.self) c.number-outer.result q d) c.as_slice.ensures c.in_ok-add.ensures in
    more_types c.args.places.now c.loop-i.i 0 (c.loop-i.i + 1) 0 (declared_in c.loop-i.types)
    (declared_in c.add.new.self) (Message c.loop-i.i) up.0 c.index-messages-i.result.name.name
    c.index-messages-i.result.name.span c.number-outer.result d c.loop-i.invariant
    (message c.loop-i.i c.index-messages-i.result at up.1) (message_of c.loop-i.i c.index-messages-i.result at) number refl refl adds (one_message c.loop-i.i)
