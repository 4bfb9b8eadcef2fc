use Rattle.std.proofs.Common.{◌≡◌, ℕ, ◌+◌, ◌<◌, ◌≤◌, ◌++◌, ◌∷◌, [], List, Some, length, take, refl, sym, ◌∙◌, ap, subst, arith}
use Rattle.std.specs.Prelude.{slice_get}
use Rattle.std.proofs.lemmas.List.{take_all}
use Rattle.std.proofs.lemmas.Option.{slice_get_within}
use Rattle.proto_ast.specs.Joined.{package_at}
use Rattle.schema_symbols.specs.Numbers.{IsScopeNumber, IsListedScope, a_front, prefixes_before}
use Rattle.schema_symbols.specs.Parts.{KnowsLastIndices, values_of}
use Rattle.schema_symbols.specs.Numbered.{HasNumberedScopes, AreDepths}
use Rattle.schema_symbols.proofs.ListParts.{part_get, parts_length}
use Rattle.schema_symbols.proofs.ScopeLemmas.{head_package, fronts_next}
use Rattle.schema_symbols.proofs.NumberLemmas.{next_numbered, number_next, root_numbered, root_number, front_more, depth_next}
use Rattle.schema_symbols.proofs.numbering.number_package.Goals as goal

pub loop-n-init : goal.loop-n-init
loop-n-init c =
    let start : ℕ = prefixes_before c.args.files.now c.args.file in
    let some : 0 < length c.args.files.now.heads = omega (arith, c.requires.there) in
    let listed : IsListedScope c.args.files.now start [] = a_front c.args.file 0 c.requires.there (omega arith) (omega arith) refl in
    let same : start + 1 ≡ start + 0 + 1 = omega arith in
    let numbered : HasNumberedScopes c.args.files.now (start + 1) c.list_root.new.self =
    root_numbered start c.requires.numbers listed some c.in_ok-list_root.ensures.numbers c.in_ok-list_root.ensures.inner in
    let before : AreDepths c.args.files.now (start + 0) c.args.depths.now.items =
    subst (λ (q : ℕ). AreDepths c.args.files.now q c.args.depths.now.items) (let e : start ≡ start + 0 = omega arith in e) c.requires.depths in
    record {
      numbered = subst (λ (q : ℕ). HasNumberedScopes c.args.files.now q c.list_root.new.self) same numbered;
      its_number = root_number c.args.files.now some;
      its_depths = subst (AreDepths c.args.files.now (start + 0 + 1)) (sym c.in_ok-push.ensures.items)
          (depth_next c.args.file 0 c.args.depths.now.items c.requires.there (omega arith) before);
    }

pub loop-n-preserved : goal.loop-n-preserved
loop-n-preserved c =
    let P : List (List ℕ) = package_at c.args.files.now c.args.file in
    let start : ℕ = prefixes_before c.args.files.now c.args.file in
    let parts : values_of c.in_ok-parts.parts.items ≡ package_at c.args.files.now c.args.file =
    c.in_ok-parts.ensures ∙ head_package c.args.files.now c.heads.result.now c.args.file c.index-heads-file.result c.heads.ensures c.requires.there c.index-heads-file.is in
    let m : c.loop-n.n < length c.in_ok-parts.parts.items = omega (arith, c.loop-n-test.true, c.len-n-end.ensures, c.in_ok-parts.parts.ok.0) in
    let part : slice_get (package_at c.args.files.now c.args.file) c.loop-n.n ≡ Some c.index.result.now.now =
    part_get c.in_ok-parts.parts.items (package_at c.args.files.now c.args.file) parts c.loop-n.n c.index.result.now m c.index.ensures in
    let more : take (c.loop-n.n + 1) (package_at c.args.files.now c.args.file) ≡ take c.loop-n.n (package_at c.args.files.now c.args.file) ++ c.index.result.now.now ∷ [] =
    front_more (package_at c.args.files.now c.args.file) c.loop-n.n c.index.result.now.now part in
    let l : c.loop-n.n + 1 ≤ length (package_at c.args.files.now c.args.file) =
    omega (
      arith,
      slice_get_within (package_at c.args.files.now c.args.file) c.loop-n.n c.index.result.now.now
          part,
    ) in
    let listed : IsListedScope c.args.files.now (prefixes_before c.args.files.now c.args.file + c.loop-n.n + 1)
    (take c.loop-n.n (package_at c.args.files.now c.args.file) ++ c.index.result.now.now ∷ []) =
    a_front c.args.file (c.loop-n.n + 1) c.requires.there l (omega arith) (sym more) in
    let next : HasNumberedScopes c.args.files.now (prefixes_before c.args.files.now c.args.file + c.loop-n.n + 1 + 1) c.list.new.self =
    next_numbered c.args.files.now c.loop-n.numbering c.list.new.self (prefixes_before c.args.files.now c.args.file
    + c.loop-n.n + 1) c.loop-n.number c.in_ok-number.number
    (take c.loop-n.n (package_at c.args.files.now c.args.file)) c.index.result.now.now c.loop-n.invariant.numbered
    listed c.loop-n.invariant.its_number c.in_ok-number.ensures.number c.in_ok-number.ensures.numbers
    c.in_ok-number.ensures.inner in
    let number : IsScopeNumber c.args.files.now (take c.loop-n.n (package_at c.args.files.now c.args.file) ++ c.index.result.now.now ∷ []) c.in_ok-number.number =
    number_next c.args.files.now c.loop-n.numbering c.list.new.self (prefixes_before c.args.files.now c.args.file
    + c.loop-n.n + 1) c.loop-n.number c.in_ok-number.number
    (take c.loop-n.n (package_at c.args.files.now c.args.file)) c.index.result.now.now c.loop-n.invariant.numbered
    listed c.loop-n.invariant.its_number c.in_ok-number.ensures.number c.in_ok-number.ensures.numbers
    c.in_ok-number.ensures.inner in
    let e : prefixes_before c.args.files.now c.args.file + c.loop-n.n + 1 ≡ prefixes_before c.args.files.now c.args.file + (c.loop-n.n + 1) = omega arith in
    let f : prefixes_before c.args.files.now c.args.file + c.loop-n.n + 1 + 1 ≡ prefixes_before c.args.files.now c.args.file + (c.loop-n.n + 1) + 1 = omega arith in
    let before : AreDepths c.args.files.now (prefixes_before c.args.files.now c.args.file + (c.loop-n.n + 1)) c.loop-n.depths.items =
    subst (λ (q : ℕ). AreDepths c.args.files.now q c.loop-n.depths.items) e c.loop-n.invariant.its_depths in
    record {
      numbered = subst (λ (q : ℕ). HasNumberedScopes c.args.files.now q c.list.new.self) f next;
      its_number = subst (λ (q : List (List ℕ)). IsScopeNumber c.args.files.now q c.in_ok-number.number) (sym more) number;
      its_depths = subst (AreDepths c.args.files.now (prefixes_before c.args.files.now c.args.file + (c.loop-n.n + 1)
          + 1)) (sym c.in_ok-push-2.ensures.items)
          (depth_next c.args.file (c.loop-n.n + 1) c.loop-n.depths.items c.requires.there l before);
    }

pub returns-clause-package : goal.returns-clause-package
returns-clause-package c =
    let parts : values_of c.in_ok-parts.parts.items ≡ package_at c.args.files.now c.args.file =
    c.in_ok-parts.ensures ∙ head_package c.args.files.now c.heads.result.now c.args.file c.index-heads-file.result c.heads.ensures c.requires.there c.index-heads-file.is in
    let n : c.loop-n.n ≡ length (package_at c.args.files.now c.args.file) =
    omega (
      arith,
      c.loop-n-test.false,
      c.loop-n.auto.n-end,
      c.len-n-end.ensures,
      c.in_ok-parts.parts.ok.0,
      parts_length c.in_ok-parts.parts.items (package_at c.args.files.now c.args.file) parts,
    ) in
    let all : take c.loop-n.n (package_at c.args.files.now c.args.file) ≡ package_at c.args.files.now c.args.file =
    take_all c.loop-n.n (package_at c.args.files.now c.args.file) (omega (arith, n)) in
    let of : values_of c.deref.result.now ≡ package_at c.args.files.now c.args.file = ap values_of c.deref.ensures.value ∙ parts in
    record {
      its_parts = parts;
      last = subst (λ (q : List (List ℕ)). KnowsLastIndices q c.in_ok-last_places.last_places) of c.in_ok-last_places.ensures;
      starts = let e : c.len-start.result ≡ prefixes_before c.args.files.now c.args.file = omega (arith, c.len-start.ensures, c.args.depths.now.ok.0, c.requires.depths.count) in e;
      its_number = subst (λ (q : List (List ℕ)). IsScopeNumber c.args.files.now q c.loop-n.number) all c.loop-n.invariant.its_number;
    }

pub returns-clause-numbers : goal.returns-clause-numbers
returns-clause-numbers c =
    let parts : values_of c.in_ok-parts.parts.items ≡ package_at c.args.files.now c.args.file =
    c.in_ok-parts.ensures ∙ head_package c.args.files.now c.heads.result.now c.args.file c.index-heads-file.result c.heads.ensures c.requires.there c.index-heads-file.is in
    let n : c.loop-n.n ≡ length (package_at c.args.files.now c.args.file) =
    omega (
      arith,
      c.loop-n-test.false,
      c.loop-n.auto.n-end,
      c.len-n-end.ensures,
      c.in_ok-parts.parts.ok.0,
      parts_length c.in_ok-parts.parts.items (package_at c.args.files.now c.args.file) parts,
    ) in
    let e : prefixes_before c.args.files.now c.args.file + c.loop-n.n + 1 ≡ prefixes_before c.args.files.now
    (c.args.file + 1) = omega (arith, fronts_next c.args.files.now c.args.file c.requires.there) in
    subst (λ (q : ℕ). HasNumberedScopes c.args.files.now q c.loop-n.numbering) e c.loop-n.invariant.numbered

pub returns-clause-depths : goal.returns-clause-depths
returns-clause-depths c =
    let parts : values_of c.in_ok-parts.parts.items ≡ package_at c.args.files.now c.args.file =
    c.in_ok-parts.ensures ∙ head_package c.args.files.now c.heads.result.now c.args.file c.index-heads-file.result c.heads.ensures c.requires.there c.index-heads-file.is in
    let n : c.loop-n.n ≡ length (package_at c.args.files.now c.args.file) =
    omega (
      arith,
      c.loop-n-test.false,
      c.loop-n.auto.n-end,
      c.len-n-end.ensures,
      c.in_ok-parts.parts.ok.0,
      parts_length c.in_ok-parts.parts.items (package_at c.args.files.now c.args.file) parts,
    ) in
    let e : prefixes_before c.args.files.now c.args.file + c.loop-n.n + 1 ≡ prefixes_before c.args.files.now
    (c.args.file + 1) = omega (arith, fronts_next c.args.files.now c.args.file c.requires.there) in
    subst (λ (q : ℕ). AreDepths c.args.files.now q c.loop-n.depths.items) e c.loop-n.invariant.its_depths
