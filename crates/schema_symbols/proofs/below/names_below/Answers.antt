use Rattle.std.proofs.Common.{◌≡◌, ℕ, ◌<◌, ◌≤◌, ⊎_elim, set, List, ◌++◌, length, take, drop, get_or, sym, ◌∙◌, ap, subst, arith, get_or-set_same}
use Rattle.std.proofs.lemmas.Bool.{cases_lt}
use Rattle.std.proofs.lemmas.List.{take_at}
use Rattle.std.proofs.lemmas.Option.{slice_get_within}
use Rattle.proto_ast.specs.declared.joined.Enclosing.TheVariants as home
use Rattle.schema_symbols.specs.Scopes.{IsScope}
use Rattle.schema_symbols.specs.Numbers.{IsScopeNumber}
use Rattle.schema_symbols.specs.Below.{KnowsMore, KnowsPackage}
use Rattle.schema_symbols.specs.declared.below.KnownBelow.{KnownBelow}
use Rattle.schema_symbols.specs.declared.below.KnownBelow.TheVariants.{Nothing, Several}
use Rattle.schema_symbols.proofs.ScopeLemmas.{number_same, message_scope}
use Rattle.schema_symbols.proofs.BelowLemmas.{notes_more, grows_several}
use Rattle.schema_symbols.proofs.below.names_below.Goals as goal

pub loop-file-preserved : goal.loop-file-preserved
loop-file-preserved c =
    let old : c.deref_mut.result.now ≡ c.loop-file.below.items = c.deref_mut.ensures.value in
    let grows : KnowsMore c.loop-file.below.items c.note_package.new.below = subst (λ (q : List KnownBelow). KnowsMore q c.note_package.new.below) old c.note_package.ensures.grows in
    let long : length c.note_package.new.below ≡ c.loop-file.below.len = omega (arith, grows.same_length, c.loop-file.below.ok.0) in
    let is : take c.loop-file.below.len (c.note_package.new.below ++ drop (length c.note_package.new.below) c.loop-file.below.items) ≡ c.note_package.new.below =
    take_at c.note_package.new.below (drop (length c.note_package.new.below) c.loop-file.below.items) c.loop-file.below.len long in
    record {
      all = ap length is ∙ grows.same_length ∙ c.loop-file.invariant.all;
      noted = λ g less.
          subst (KnowsPackage c.args.places.now g) (sym is)
          (⊎_elim
          (λ (before : g < c.loop-file.file). notes_more grows (c.loop-file.invariant.noted g before))
          (λ (from : c.loop-file.file ≤ g).
          let e : c.loop-file.file ≡ g = omega (arith, less) in
          subst (λ (q : ℕ). KnowsPackage c.args.places.now q c.note_package.new.below) e c.note_package.ensures.notes)
          (cases_lt g c.loop-file.file));
    }

pub loop-i-preserved : goal.loop-i-preserved
loop-i-preserved c =
    let l : c.number-scope.result < length c.loop-i.below.items = omega (arith, c.number-scope.ensures.small, c.loop-i.invariant.all) in
    let g : KnowsMore c.loop-i.below.items (set c.loop-i.below.items c.number-scope.result Several) = grows_several c.loop-i.below.items c.number-scope.result l in
    record {
      all = g.same_length ∙ c.loop-i.invariant.all;
      noted = λ file there. notes_more g (c.loop-i.invariant.noted file there);
      messages = λ i k s less scope number.
          ⊎_elim
          (λ (before : i < c.loop-i.i). g.several k (c.loop-i.invariant.messages i k s before scope number))
          (λ (from : c.loop-i.i ≤ i).
          let e : i ≡ c.loop-i.i = omega (arith, less) in
          let own : IsScopeNumber c.args.places.now s c.number-scope.result =
          c.number-scope.ensures.number s (subst (λ (q : ℕ). IsScope c.args.places.now (home.Message q) s) e scope) in
          let same : c.number-scope.result ≡ k = number_same own number in
          subst (λ (q : ℕ). get_or (set c.loop-i.below.items c.number-scope.result Several) q Nothing ≡ Several) same
          (get_or-set_same c.loop-i.below.items c.number-scope.result Several Nothing l))
          (cases_lt i c.loop-i.i);
    }

pub returns-clause-tells : goal.returns-clause-tells
returns-clause-tells c = record {
  files = λ file there. c.loop-i.invariant.noted file there;
  messages = λ i k s scope number.
      let m = message_scope scope in
      let l : i < length c.args.places.now.messages = slice_get_within c.args.places.now.messages i m.decl m.at in
      c.loop-i.invariant.messages i k s (omega (arith, l, c.loop-i-test.false, ap length c.messages-i-end.ensures)) scope number;
}
