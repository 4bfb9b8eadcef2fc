use Rattle.std.proofs.Common.{◌≡◌, ◌+◌, ◌<◌, ◌≤◌, length, take, get_or, refl, sym, ◌∙◌, subst, arith}
use Rattle.std.specs.Prelude.{◌==◌}
use Rattle.std.proofs.lemmas.Bool.{lt-leb}
use Rattle.std.proofs.lemmas.List.{get_or_default}
use Rattle.proto_ast.specs.Joined.{package_at}
use Rattle.schema_symbols.specs.Numbers.{IsScopeNumber, prefixes_before}
use Rattle.schema_symbols.proofs.ListParts.{parts_length}
use Rattle.schema_symbols.proofs.ScopeLemmas.{front_small}
use Rattle.schema_symbols.proofs.PlaceLemmas.{kept_places, package_known, package_small, front_known, has_front_iff, begins_there, too_long, no_iff, no_iff_at}
use Rattle.schema_symbols.proofs.scope_indices.ScopeIndices.has_prefix.Goals as goal

pub overflow_add-package : goal.overflow_add-package
overflow_add-package c =
    let k = kept_places c.self.inside c.self.view_is c.self.invariant in
    let there : c.args.file < length c.args.self.now.heads = omega (arith, c.if-file-len.false, c.len.ensures, c.self.inside.packages.ok.0, k.its_packages.count) in
    let p = package_known k.its_packages c.args.file c.index-package.result.now there c.index-package.ensures in
    let all = parts_length c.index-package.result.now.parts.items (package_at c.args.self.now c.args.file) p.its_parts in
    omega (arith, p.starts, c.if-depth-len.true, c.len-2.ensures, c.index-package.result.now.parts.ok.0, all, package_small c.args.self.now c.args.file there k.few)

pub index-requires : goal.index-requires
index-requires c =
    let k = kept_places c.self.inside c.self.view_is c.self.invariant in
    let there : c.args.file < length c.args.self.now.heads = omega (arith, c.if-file-len.false, c.len.ensures, c.self.inside.packages.ok.0, k.its_packages.count) in
    let p = package_known k.its_packages c.args.file c.index-package.result.now there c.index-package.ensures in
    let all = parts_length c.index-package.result.now.parts.items (package_at c.args.self.now c.args.file) p.its_parts in
    let short : c.args.depth ≤ length (package_at c.args.self.now c.args.file) = omega (arith, c.if-depth-len.true, c.len-2.ensures, c.index-package.result.now.parts.ok.0, all) in
    omega (arith, p.starts, front_small c.args.self.now c.args.file c.args.depth there short, k.numbers.count, c.self.inside.numbering.numbers.ok.0)

pub returns-then-file-len : goal.returns-then-file-len
returns-then-file-len c full some long number =
    let k = kept_places c.self.inside c.self.view_is c.self.invariant in
    let past : length c.args.self.now.heads ≤ c.args.file = omega (arith, c.if-file-len.true, c.len.ensures, c.self.inside.packages.ok.0, k.its_packages.count) in
    no_iff (λ f. let l : c.args.file < length c.args.self.now.heads = begins_there c.args.self.now c.args.file full f.rest f.begins some in omega arith)

pub returns-then-depth-len : goal.returns-then-depth-len
returns-then-depth-len c full some long number =
    let k = kept_places c.self.inside c.self.view_is c.self.invariant in
    let there : c.args.file < length c.args.self.now.heads = omega (arith, c.if-file-len.false, c.len.ensures, c.self.inside.packages.ok.0, k.its_packages.count) in
    let p = package_known k.its_packages c.args.file c.index-package.result.now there c.index-package.ensures in
    let all = parts_length c.index-package.result.now.parts.items (package_at c.args.self.now c.args.file) p.its_parts in
    let short : length full ≤ length (package_at c.args.self.now c.args.file) = omega (arith, c.if-depth-len.true, c.len-2.ensures, c.index-package.result.now.parts.ok.0, all, long) in
    let place : c.index-package.result.now.start + c.args.depth ≡ prefixes_before c.args.self.now c.args.file + length full = omega (arith, p.starts, long) in
    let l : c.index-package.result.now.start + c.args.depth < length c.self.inside.numbering.numbers.items =
    omega (arith, place, front_small c.args.self.now c.args.file (length full) there short, k.numbers.count) in
    let is : c.index.result.now ≡ get_or c.self.inside.numbering.numbers.items (c.index-package.result.now.start + c.args.depth) 0 =
    c.index.ensures ∙ get_or_default c.self.inside.numbering.numbers.items (c.index-package.result.now.start + c.args.depth) c.index.result.now 0 l in
    let front : IsScopeNumber c.args.self.now (take (length full) (package_at c.args.self.now c.args.file)) c.index.result.now =
    subst (IsScopeNumber c.args.self.now (take (length full) (package_at c.args.self.now c.args.file))) (sym is)
    (front_known c.args.file (length full) (c.index-package.result.now.start + c.args.depth) k there short place) in
    has_front_iff c.args.file c.index.result.now c.args.scope (c.index.result.now == c.args.scope) there short some number front refl

pub returns-else-depth-len : goal.returns-else-depth-len
returns-else-depth-len c full some long number =
    let k = kept_places c.self.inside c.self.view_is c.self.invariant in
    let there : c.args.file < length c.args.self.now.heads = omega (arith, c.if-file-len.false, c.len.ensures, c.self.inside.packages.ok.0, k.its_packages.count) in
    let p = package_known k.its_packages c.args.file c.index-package.result.now there c.index-package.ensures in
    let all = parts_length c.index-package.result.now.parts.items (package_at c.args.self.now c.args.file) p.its_parts in
    let less : length (package_at c.args.self.now c.args.file) < length full = omega (arith, c.if-depth-len.false, c.len-2.ensures, c.index-package.result.now.parts.ok.0, all, long) in
    no_iff_at (lt-leb c.args.depth c.len-2.result c.if-depth-len.false) (too_long c.args.file less)
