use Rattle.std.proofs.Common.{◌≡◌, ℕ, ◌+◌, ◌<◌, List, Some, length, refl, sym, ap, subst, arith}
use Rattle.std.specs.Prelude.{slice_get}
use Rattle.proto_ast.specs.Joined.{enclosing_of_enum}
use Rattle.schema_symbols.specs.Scopes.{IsScope}
use Rattle.schema_symbols.specs.Numbers.{IsEnclosing, IsScopeNumber, enum, enum_of}
use Rattle.schema_symbols.specs.Types.{HasAddedType, declared_in}
use Rattle.schema_symbols.specs.declared.symbol.Symbol.TheVariants.{Enum}
use Rattle.schema_symbols.specs.declared.symbol.DeclaredType.{DeclaredType}
use Rattle.schema_symbols.proofs.ScopeLemmas.{item_at, enum_place, has_scope}
use Rattle.schema_symbols.proofs.TypeLemmas.{more_types, one_enum}
use Rattle.schema_symbols.proofs.types.add_enums.Goals as goal

pub number-outer-requires : goal.number-outer-requires
number-outer-requires c =
    let l : c.loop-i.i < length c.args.places.now.enums = omega (arith, ap length c.enums-enums.ensures, c.loop-i-test.true) in
    let at : slice_get c.args.places.now.enums c.loop-i.i ≡ Some c.index-enums-i.result =
    item_at c.enums-enums.result.now c.args.places.now.enums c.loop-i.i c.index-enums-i.result c.enums-enums.ensures l c.index-enums-i.is in
    subst (IsEnclosing c.args.places.now) (sym c.enclosing.ensures) (enum_place c.requires.behind c.loop-i.i c.index-enums-i.result at)

pub loop-i-preserved : goal.loop-i-preserved
loop-i-preserved c =
    let l : c.loop-i.i < length c.args.places.now.enums = omega (arith, ap length c.enums-enums.ensures, c.loop-i-test.true) in
    let at : slice_get c.args.places.now.enums c.loop-i.i ≡ Some c.index-enums-i.result =
    item_at c.enums-enums.result.now c.args.places.now.enums c.loop-i.i c.index-enums-i.result c.enums-enums.ensures l c.index-enums-i.is in
    let up = has_scope c.args.places.now (enclosing_of_enum c.index-enums-i.result) c.requires.behind (enum_place c.requires.behind c.loop-i.i c.index-enums-i.result at) in
    let number : IsScopeNumber c.args.places.now up.0 c.number-outer.result =
    c.number-outer.ensures.number up.0 (subst (λ h. IsScope c.args.places.now h up.0) (sym c.enclosing.ensures) up.1) in
    let d : DeclaredType = record { file = c.index-enums-i.result.file; start = c.index-enums-i.result.name.span.start; named = Enum c.loop-i.i } in
    let adds : HasAddedType (declared_in c.loop-i.types) (declared_in c.add.new.self) c.number-outer.result c.index-enums-i.result.name.name d =
    subst (λ (q : List ℕ). HasAddedType (declared_in c.loop-i.types) (declared_in c.add.new.self) c.number-outer.result q d) c.as_slice.ensures c.in_ok-add.ensures in
    more_types c.args.places.now (length c.args.places.now.messages) c.loop-i.i (length c.args.places.now.messages)
    (c.loop-i.i + 1) (declared_in c.loop-i.types) (declared_in c.add.new.self)
    (Enum c.loop-i.i) up.0 c.index-enums-i.result.name.name c.index-enums-i.result.name.span c.number-outer.result
    d c.loop-i.invariant
    (enum c.loop-i.i c.index-enums-i.result at up.1) (enum_of c.loop-i.i c.index-enums-i.result at) number refl refl adds (one_enum (length c.args.places.now.messages) c.loop-i.i)
