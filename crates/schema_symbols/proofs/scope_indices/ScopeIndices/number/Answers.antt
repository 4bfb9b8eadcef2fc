use Rattle.std.proofs.Common.{◌≡◌, ◌+◌, length, sym, ap, subst, arith}
use Rattle.schema_symbols.specs.Numbers.{IsScopeNumber, all_prefix_count}
use Rattle.schema_symbols.specs.Numbered.{ArePackages, AreNumbers}
use Rattle.schema_symbols.proofs.ScopeLemmas.{has_scope, number_small}
use Rattle.schema_symbols.proofs.NumberLemmas.{number_known, place_within}
use Rattle.schema_symbols.proofs.PlaceLemmas.{kept_places}
use Rattle.schema_symbols.proofs.scope_indices.ScopeIndices.number.Goals as goal

pub number_in-requires : goal.number_in-requires
number_in-requires c =
    let k = kept_places c.self.inside c.self.view_is c.self.invariant in
    let all : length c.deref.result.now ≡ length c.args.self.now.heads = omega (arith, ap length c.deref.ensures.value, k.its_packages.count) in
    let long : c.len.result + length c.args.self.now.messages ≡ length c.deref-2.result.now =
    omega (arith, ap length c.deref-2.ensures.value, k.numbers.count, c.len.ensures, c.self.inside.depths.ok.0, k.its_depths.count) in
    place_within c.args.self.now c.deref.result.now c.len.result c.deref-2.result.now c.args.home all long c.requires

pub returns-clause-number : goal.returns-clause-number
returns-clause-number c scope h =
    let k = kept_places c.self.inside c.self.view_is c.self.invariant in
    let n : c.len.result ≡ all_prefix_count c.args.self.now = omega (arith, c.len.ensures, c.self.inside.depths.ok.0, k.its_depths.count) in
    let all : length c.deref.result.now ≡ length c.args.self.now.heads = omega (arith, ap length c.deref.ensures.value, k.its_packages.count) in
    let long : c.len.result + length c.args.self.now.messages ≡ length c.deref-2.result.now =
    omega (arith, ap length c.deref-2.ensures.value, k.numbers.count, n) in
    let within = place_within c.args.self.now c.deref.result.now c.len.result c.deref-2.result.now c.args.home all long c.requires in
    let packages : ArePackages c.args.self.now (length c.args.self.now.heads) c.deref.result.now =
    subst (ArePackages c.args.self.now (length c.args.self.now.heads)) (sym c.deref.ensures.value) k.its_packages in
    let numbers : AreNumbers c.args.self.now c.deref-2.result.now = subst (AreNumbers c.args.self.now) (sym c.deref-2.ensures.value) k.numbers.numbers in
    subst (IsScopeNumber c.args.self.now scope) (sym c.number_in.ensures) (number_known c.len.result packages numbers c.args.home scope n within h)

pub returns-clause-small : goal.returns-clause-small
returns-clause-small c =
    let k = kept_places c.self.inside c.self.view_is c.self.invariant in
    let n : c.len.result ≡ all_prefix_count c.args.self.now = omega (arith, c.len.ensures, c.self.inside.depths.ok.0, k.its_depths.count) in
    let all : length c.deref.result.now ≡ length c.args.self.now.heads = omega (arith, ap length c.deref.ensures.value, k.its_packages.count) in
    let long : c.len.result + length c.args.self.now.messages ≡ length c.deref-2.result.now =
    omega (arith, ap length c.deref-2.ensures.value, k.numbers.count, n) in
    let within = place_within c.args.self.now c.deref.result.now c.len.result c.deref-2.result.now c.args.home all long c.requires in
    let packages : ArePackages c.args.self.now (length c.args.self.now.heads) c.deref.result.now =
    subst (ArePackages c.args.self.now (length c.args.self.now.heads)) (sym c.deref.ensures.value) k.its_packages in
    let numbers : AreNumbers c.args.self.now c.deref-2.result.now = subst (AreNumbers c.args.self.now) (sym c.deref-2.ensures.value) k.numbers.numbers in
    let s = has_scope c.args.self.now c.args.home k.behind c.requires in
    let number : IsScopeNumber c.args.self.now s.0 c.number_in.result =
    subst (IsScopeNumber c.args.self.now s.0) (sym c.number_in.ensures) (number_known c.len.result packages numbers c.args.home s.0 n within s.1) in
    number_small number
