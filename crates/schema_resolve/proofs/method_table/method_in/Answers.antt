use Rattle.std.proofs.Common.{◌≡◌, ◌∙◌, ◌<◌, [], arith, vec_len, length, rules}
use Rattle.std.proofs.lemmas.List.{get_or_default}
use Rattle.schema_resolve.proofs.MethodTables.{has_input, has_output, service_file, service_text, method_of}
use Rattle.schema_resolve.proofs.method_table.method_in.Goals as goal

pub message_place-input-requires-clause-file : goal.message_place-input-requires-clause-file
message_place-input-requires-clause-file c =
    service_file c.args.scopes.now c.args.service.now c.requires.formed c.requires.service

pub message_place-input-requires-clause-some : goal.message_place-input-requires-clause-some
message_place-input-requires-clause-some c =
    has_input c.args.scopes.now c.args.service.now c.args.rpc.now c.requires.clean c.requires.service c.requires.rpc

pub message_place-output-requires-clause-file : goal.message_place-output-requires-clause-file
message_place-output-requires-clause-file c =
    service_file c.args.scopes.now c.args.service.now c.requires.formed c.requires.service

pub message_place-output-requires-clause-some : goal.message_place-output-requires-clause-some
message_place-output-requires-clause-some c =
    has_output c.args.scopes.now c.args.service.now c.args.rpc.now c.requires.clean c.requires.service c.requires.rpc

pub index-requires : goal.index-requires
index-requires c =
    let fronts = c.args.plan.now.fronts in
    let same : vec_len fronts ≡ length fronts.items = search rules in
    let l = service_file c.args.scopes.now c.args.service.now c.requires.formed c.requires.service in
    omega (arith, l, c.requires.fronts.count)

pub returns : goal.returns
returns c = λ T has.
    let F = c.args.scopes.now in
    let s = c.args.service.now in
    let fronts = c.args.plan.now.fronts.items in
    let l = service_file F s c.requires.formed c.requires.service in
    let within : s.file < length fronts = omega (arith, l, c.requires.fronts.count) in
    method_of F c.args.plan.now T s c.args.rpc.now _ c.requires.formed c.requires.clean c.requires.service c.requires.rpc
    (c.in_ok-qualified_name.ensures ∙ service_text F s c.index.result.now c.requires.formed
    (c.index.ensures ∙ get_or_default fronts s.file c.index.result.now [] within ∙ c.requires.fronts.each s.file l))
    c.in_ok-name.ensures (c.message_place-input.ensures T has) (c.message_place-output.ensures T has)
