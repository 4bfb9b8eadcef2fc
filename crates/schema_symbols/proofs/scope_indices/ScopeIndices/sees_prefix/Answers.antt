use Rattle.std.proofs.Common.{◌≡◌, ℕ, ◌<◌, ◌≤◌, ⊎_elim, true, false, length, get_or, refl, sym, ◌∙◌, ap, subst, arith}
use Rattle.std.proofs.lemmas.Bool.{cases_lt}
use Rattle.std.proofs.lemmas.List.{get_or_default}
use Rattle.proto_ast.specs.Joined.{Joined}
use Rattle.proto_ast.specs.declared.joined.Head.{Head}
use Rattle.schema_symbols.specs.Numbers.{all_prefix_count}
use Rattle.schema_symbols.specs.PackagePrefixes.{HasPackagePrefix}
use Rattle.schema_symbols.proofs.PlaceLemmas.{kept_places, not_seen, depth_known, no_iff, yes_iff, seen_at, none_seen}
use Rattle.schema_symbols.proofs.scope_indices.ScopeIndices.sees_prefix.Goals as goal

pub returns-then-scope-len : goal.returns-then-scope-len
returns-then-scope-len c full some n =
    let k = kept_places c.self.inside c.self.view_is c.self.invariant in
    let past : all_prefix_count c.args.self.now ≤ c.args.scope = omega (arith, c.if-scope-len.true, c.len.ensures, c.self.inside.depths.ok.0, k.its_depths.count) in
    no_iff (not_seen c.args.file some n past)

pub loop-other-preserved : goal.loop-other-preserved
loop-other-preserved c full j some n less =
    let k = kept_places c.self.inside c.self.view_is c.self.invariant in
    let l : c.args.scope < all_prefix_count c.args.self.now = omega (arith, c.if-scope-len.false, c.len.ensures, c.self.inside.depths.ok.0, k.its_depths.count) in
    let m : c.args.scope < length c.self.inside.depths.items = omega (arith, k.its_depths.count) in
    let depth : length full ≡ c.index-depth.result.now =
    sym (depth_known k.its_depths n l) ∙ get_or_default c.self.inside.depths.items c.args.scope 0 c.index-depth.result.now m ∙ sym c.index-depth.ensures in
    ⊎_elim
    (λ (old : j < c.loop-other.other-index). c.loop-other.invariant full j some n old)
    (λ (new : c.loop-other.other-index ≤ j).
    let e : j ≡ c.loop-other.other-index = omega (arith, less) in
    λ b.
    let t = (c.has_prefix.ensures full some depth n).1 (subst (λ (q : ℕ). HasPackagePrefix c.args.self.now (get_or c.as_slice-other-items.result.now q 0) full) e b) in
    let z : true ≡ false = sym t ∙ c.if-has_prefix.false in
    cc)
    (cases_lt j c.loop-other.other-index)

pub returns-then-has_prefix : goal.returns-then-has_prefix
returns-then-has_prefix c full some n =
    let k = kept_places c.self.inside c.self.view_is c.self.invariant in
    let l : c.args.scope < all_prefix_count c.args.self.now = omega (arith, c.if-scope-len.false, c.len.ensures, c.self.inside.depths.ok.0, k.its_depths.count) in
    let m : c.args.scope < length c.self.inside.depths.items = omega (arith, k.its_depths.count) in
    let depth : length full ≡ c.index-depth.result.now =
    sym (depth_known k.its_depths n l) ∙ get_or_default c.self.inside.depths.items c.args.scope 0 c.index-depth.result.now m ∙ sym c.index-depth.ensures in
    let begins = (c.if-has_prefix.ensures full some depth n).0 refl in
    let same : c.as_slice-other-items.result.now ≡ c.index-heads-file.result.sees = c.as_slice-other-items.ensures ∙ ap (λ (h : Head). h.sees) (sym c.index-heads-file.is) in
    yes_iff (record {
      other = get_or c.as_slice-other-items.result.now c.loop-other.other-index 0;
      seen = seen_at c.heads.result.now c.as_slice-other-items.result.now c.args.file c.loop-other.other-index
          c.index-heads-file.result (c.heads.ensures ∙ ap (λ (F : Joined). F.heads) c.self.view_is) c.requires
          c.index-heads-file.is same c.loop-other-test.true;
      its_front = begins;
    })

pub returns : goal.returns
returns c full some n =
    let same : c.as_slice-other-items.result.now ≡ c.index-heads-file.result.sees = c.as_slice-other-items.ensures ∙ ap (λ (h : Head). h.sees) (sym c.index-heads-file.is) in
    no_iff (none_seen c.heads.result.now c.as_slice-other-items.result.now c.args.file c.loop-other.other-index
    c.index-heads-file.result (c.heads.ensures ∙ ap (λ (F : Joined). F.heads) c.self.view_is) c.requires
    c.index-heads-file.is same c.loop-other-test.false
    (λ j less. c.loop-other.invariant full j some n less))
