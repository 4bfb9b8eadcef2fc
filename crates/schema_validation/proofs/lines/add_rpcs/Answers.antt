use Rattle.std.proofs.Common.{◌≡◌, ◌∙◌, ◌+◌, ◌<◌, ◌≤◌, ℕ, length, refl, sym, ap, subst, arith}
use Rattle.std.specs.Prelude.{Some, slice_get}
use Rattle.proto_ast.specs.Together.{rpc_decl}
use Rattle.proto_ast.specs.Joined.{Joined}
use Rattle.schema_validation.specs.Lengths.{HasLinesBefore, IsLengthAt, rpcs_before}
use Rattle.schema_validation.proofs.Formed.{service_file}
use Rattle.schema_validation.proofs.Meetings.{item_at}
use Rattle.schema_validation.proofs.LinesAdded.{own_rpc, covers_add, covers_row, no_rpc}
use Rattle.schema_validation.proofs.lines.add_rpcs.Goals as goal

pub loop-j-preserved : goal.loop-j-preserved
loop-j-preserved c =
    let F = c.args.files.now in
    let x = c.index-services-i.result in
    let r = c.index-rpcs-j.result in
    let j = c.loop-j.j in
    let at : slice_get F.services c.args.i ≡ Some x =
    item_at c.services.result.now F.services c.args.i x c.services.ensures c.requires.place c.index-services-i.is in
    let l : j < length x.rpcs = omega (arith, ap length c.as_slice-rpcs.ensures, c.loop-j-test.true) in
    let rat : slice_get x.rpcs j ≡ Some r =
    item_at c.as_slice-rpcs.result.now x.rpcs j r c.as_slice-rpcs.ensures l c.index-rpcs-j.is in
    let is : IsLengthAt F (rpc_decl c.args.i j) r.name.span c.method_length-length.result =
    subst (λ (G : Joined). IsLengthAt G (rpc_decl c.args.i j) r.name.span c.method_length-length.result)
    c.requires.scopes
    (c.method_length-length.ensures c.args.i j
    (ap (λ (G : Joined). slice_get G.services c.args.i) c.requires.scopes ∙ at) rat
    (ap (λ (n : ℕ). n + j)
    (c.requires.before ∙ ap (λ (G : Joined). rpcs_before G c.args.i) (sym c.requires.scopes)))) in
    let more = covers_add F 2 c.args.i j c.loop-j.lines.items c.requires.ordered (rpc_decl c.args.i j) r.name.span
    c.method_length-length.result (own_rpc c.args.i j) refl refl refl is c.loop-j.invariant in
    subst (HasLinesBefore F 2 c.args.i (j + 1)) (sym c.in_ok-add.ensures) more

pub returns : goal.returns
returns c =
    let F = c.args.files.now in
    let x = c.index-services-i.result in
    let at : slice_get F.services c.args.i ≡ Some x =
    item_at c.services.result.now F.services c.args.i x c.services.ensures c.requires.place c.index-services-i.is in
    let all : length x.rpcs ≤ c.loop-j.j =
    omega (arith, ap length c.as_slice-rpcs.ensures, c.loop-j-test.false) in
    covers_row F 2 c.args.i c.loop-j.j c.loop-j.lines.items c.loop-j.invariant
    (no_rpc F c.args.i x c.loop-j.j at all)

pub method_length-length-requires-clause-file : goal.method_length-length-requires-clause-file
method_length-length-requires-clause-file c =
    let F = c.args.files.now in
    let x = c.index-services-i.result in
    let at : slice_get F.services c.args.i ≡ Some x =
    item_at c.services.result.now F.services c.args.i x c.services.ensures c.requires.place c.index-services-i.is in
    subst (λ (G : Joined). x.file < length G.heads) (sym c.requires.scopes)
    (service_file F c.requires.formed c.args.i x at)
