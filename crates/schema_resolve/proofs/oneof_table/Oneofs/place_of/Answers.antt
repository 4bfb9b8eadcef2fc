use Rattle.std.proofs.Common.{◌∙◌, ◌<◌, ◌++◌, ◌∷◌, [], refl, sym, ap, subst, ℕ, List, length, arith, set}
use Rattle.std.specs.Prelude.{Some}
use Rattle.std.specs.Vec.{with_item}
use Rattle.std.proofs.lemmas.Option.{slice_get_read, slice_get_within}
use Rattle.proto_ast.specs.declared.file.Word.{Word}
use Rattle.schema_resolve.specs.Joining.{IsPlacedOneof, met_before, next_one}
use Rattle.schema_resolve.proofs.OneofTables.{keeps_more}
use Rattle.schema_resolve.proofs.oneof_table.Oneofs.place_of.Goals as goal

pub returns-in-Some-clause-place : goal.returns-in-Some-clause-place
returns-in-Some-clause-place c =
    let o = c.args.self.now in
    let l : c.args.i < length o.places.items = omega (arith, c.requires.keeps.count, c.requires.within) in
    let at = slice_get_read o.places.items (length o.places.items) c.args.i c.index.result.now refl l c.index.ensures ∙ ap Some c.in-Some.is in
    let named = c.requires.keeps.placed c.args.i c.in-Some.place at in
    met_before (slice_get_within o.names c.in-Some.place named.word.name named.named) refl

pub returns-in-Some-clause-named : goal.returns-in-Some-clause-named
returns-in-Some-clause-named c =
    let o = c.args.self.now in
    let l : c.args.i < length o.places.items = omega (arith, c.requires.keeps.count, c.requires.within) in
    let at = slice_get_read o.places.items (length o.places.items) c.args.i c.index.result.now refl l c.index.ensures ∙ ap Some c.in-Some.is in
    c.requires.keeps.placed c.args.i c.in-Some.place at

pub returns-clause-keeps : goal.returns-clause-keeps
returns-clause-keeps c =
    let o = c.args.self.now in
    let l : c.args.i < length o.places.items = omega (arith, c.requires.keeps.count, c.requires.within) in
    let none = slice_get_read o.places.items (length o.places.items) c.args.i c.index.result.now refl l c.index.ensures ∙ ap Some c.in_default.is in
    let w = c.index-words-i.result in
    let word = slice_get_read c.args.words.now (length c.args.words.now) c.args.i w refl c.requires.within c.index-words-i.is in
    (keeps_more c.args.words.now o _ c.args.i w word none
    (c.in_ok-push.ensures.ok ∙ ap (λ (n : List ℕ). o.names ++ n ∷ []) (c.in_ok-name.ensures ∙ ap (λ (x : Word). x.name) (sym c.index-words-i.is)))
    (ap (λ (p : ℕ). set o.places.items c.args.i (Some p)) c.len-place.ensures) c.requires.keeps).0

pub returns-clause-place : goal.returns-clause-place
returns-clause-place c = next_one c.in_ok-name.name c.len-place.ensures c.in_ok-push.ensures.ok

pub returns-clause-named : goal.returns-clause-named
returns-clause-named c =
    let o = c.args.self.now in
    let l : c.args.i < length o.places.items = omega (arith, c.requires.keeps.count, c.requires.within) in
    let none = slice_get_read o.places.items (length o.places.items) c.args.i c.index.result.now refl l c.index.ensures ∙ ap Some c.in_default.is in
    let w = c.index-words-i.result in
    let word = slice_get_read c.args.words.now (length c.args.words.now) c.args.i w refl c.requires.within c.index-words-i.is in
    let P : ℕ → Type 0 = λ p. IsPlacedOneof c.args.words.now c.push.new.self c.args.i p in
    subst P (sym c.len-place.ensures)
    (keeps_more c.args.words.now o (record { names = c.push.new.self; places = with_item o.places c.args.i (Some c.len-place.result) }) c.args.i w word none
    (c.in_ok-push.ensures.ok ∙ ap (λ (n : List ℕ). o.names ++ n ∷ []) (c.in_ok-name.ensures ∙ ap (λ (x : Word). x.name) (sym c.index-words-i.is)))
    (ap (λ (p : ℕ). set o.places.items c.args.i (Some p)) c.len-place.ensures) c.requires.keeps).1
