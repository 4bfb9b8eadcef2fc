use Rattle.std.proofs.Common.{◌≡◌, ◌<◌, refl, length, arith, vec_len, rules}
use Rattle.std.proofs.lemmas.Option.{slice_get_read}
use Rattle.schema_resolve.proofs.MethodTables.{place_within, place_named, message_standing}
use Rattle.schema_resolve.proofs.method_table.message_place.Goals as goal

pub index-requires : goal.index-requires
index-requires c =
    let places = c.args.plan.now.messages.places in
    let same : vec_len places ≡ length places.items = search rules in
    let l : c.in-Some.message < length places.items = place_within c.args.scopes.now c.args.plan.now c.in-Some.message c.requires.plan
    (message_standing c.in-Some.ensures.some.2.stands).1 in
    omega arith

pub returns : goal.returns
returns c = λ T has.
    let i = c.in-Some.message in
    let places = c.args.plan.now.messages.places.items in
    let l : i < length places =
    place_within c.args.scopes.now c.args.plan.now i c.requires.plan (message_standing c.in-Some.ensures.some.2.stands).1 in
    place_named c.args.scopes.now c.args.file c.args.plan.now c.args.word.now.name i c.index.result.now c.in-Some.ensures.some.0
    c.requires.plan c.in-Some.ensures.some.1 c.in-Some.ensures.some.2
    (slice_get_read places (length places) i c.index.result.now refl l c.index.ensures) T has

pub unreachable-requires : goal.unreachable-requires
unreachable-requires c = c.requires.some (c.in-None.ensures.none c.requires.ordered)
