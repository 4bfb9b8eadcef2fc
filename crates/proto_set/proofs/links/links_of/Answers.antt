use Rattle.std.proofs.Common.{List, get_or, sym, ap, ◌∙◌, subst}
use Rattle.std.proofs.lemmas.Bool.{false≢true}
use Rattle.proto_ast.specs.declared.file.Import.{Import}
use Rattle.proto_set.specs.Linking.{index_of_path}
use Rattle.proto_set.specs.ImportFaults.{missing}
use Rattle.proto_set.specs.Seeing.{IsLinked}
use Rattle.proto_set.specs.declared.links.ImportLink.{ImportLink}
use Rattle.proto_set.proofs.Visited.{paths_apart}
use Rattle.proto_set.proofs.Judging.{imports_of, import_in, has_file, known_file}
use Rattle.proto_set.proofs.Linked.{links_none, links_more, links_all, once_all, linked_twice, unlinked_once}
use Rattle.proto_set.proofs.links.links_of.Goals as goal

pub loop-n-init : goal.loop-n-init
loop-n-init c = links_none c.args.members.now c.args.file c.new-links.result c.new-links.ensures

pub unwrap-to-requires : goal.unwrap-to-requires
unwrap-to-requires c =
    let set = c.args.members.now in
    let xs = c.as_slice-imports.result.now in
    let h = imports_of set c.args.file c.index-members-file.result xs c.requires.here c.as_slice-imports.ensures in
    let x = get_or xs c.loop-n.n c.index-imports-n.result in
    known_file set c.args.paths.now x.path c.file_index.result c.requires.paths
    (c.file_index.ensures ∙ ap (λ p. index_of_path c.args.paths.now p) (c.as_slice.ensures ∙ ap (λ (y : Import). y.path) c.index-imports-n.is))
    (λ nobody. c.requires.known c.loop-n.n (missing x (import_in h c.loop-n.n c.index-imports-n.result c.loop-n-test.true) nobody))

pub fault_at-requires : goal.fault_at-requires
fault_at-requires c =
    let set = c.args.members.now in
    let xs = c.as_slice-imports.result.now in
    let h = imports_of set c.args.file c.index-members-file.result xs c.requires.here c.as_slice-imports.ensures in
    (get_or xs c.loop-n.n c.index-imports-n.result, import_in h c.loop-n.n c.index-imports-n.result c.loop-n-test.true)

pub returns-then-leads_to-clause-fault : goal.returns-then-leads_to-clause-fault
returns-then-leads_to-clause-fault c = λ ne.
    let set = c.args.members.now in
    let xs = c.as_slice-imports.result.now in
    let h = imports_of set c.args.file c.index-members-file.result xs c.requires.here c.as_slice-imports.ensures in
    let x = get_or xs c.loop-n.n c.index-imports-n.result in
    let at = import_in h c.loop-n.n c.index-imports-n.result c.loop-n-test.true in
    let has = has_file set c.args.paths.now x.path c.file_index.result c.unwrap-to.result c.requires.paths
    (c.file_index.ensures ∙ ap (λ p. index_of_path c.args.paths.now p) (c.as_slice.ensures ∙ ap (λ (y : Import). y.path) c.index-imports-n.is)) c.unwrap-to.ensures in
    let linked : IsLinked c.loop-n.links c.unwrap-to.result =
    subst (λ (ls : List ImportLink). IsLinked ls c.unwrap-to.result) c.as_slice-in-loop-n.ensures (c.leads_to.ensures.0 c.if-leads_to.true) in
    record {
      n = c.loop-n.n;
      import = x;
      import_at = at;
      is = c.fault_at.ensures x at;
      at_fault = linked_twice set c.args.file c.loop-n.n c.unwrap-to.result x c.loop-n.links c.loop-n.invariant at has linked;
      first = c.loop-n.invariant.once;
    }

pub loop-n-preserved : goal.loop-n-preserved
loop-n-preserved c =
    let set = c.args.members.now in
    let xs = c.as_slice-imports.result.now in
    let h = imports_of set c.args.file c.index-members-file.result xs c.requires.here c.as_slice-imports.ensures in
    let x = get_or xs c.loop-n.n c.index-imports-n.result in
    let at = import_in h c.loop-n.n c.index-imports-n.result c.loop-n-test.true in
    let has = has_file set c.args.paths.now x.path c.file_index.result c.unwrap-to.result c.requires.paths
    (c.file_index.ensures ∙ ap (λ p. index_of_path c.args.paths.now p) (c.as_slice.ensures ∙ ap (λ (y : Import). y.path) c.index-imports-n.is)) c.unwrap-to.ensures in
    let out : IsLinked c.loop-n.links c.unwrap-to.result → ⊥ = λ linked.
    let there : IsLinked c.as_slice-in-loop-n.result.now c.unwrap-to.result =
    subst (λ (ls : List ImportLink). IsLinked ls c.unwrap-to.result) (sym c.as_slice-in-loop-n.ensures) linked in
    let t = c.leads_to.ensures.1 there in
    false≢true (sym c.if-leads_to.false ∙ t) in
    let l : ImportLink = record { file = c.unwrap-to.result; public = c.index-imports-n.result.public } in
    links_more set c.args.file c.loop-n.n x l c.loop-n.links c.push.new.self c.loop-n.invariant at has
    (ap (λ (y : Import). y.public) c.index-imports-n.is)
    (unlinked_once set c.args.file c.loop-n.n c.unwrap-to.result x c.loop-n.links (paths_apart c.requires.own) c.loop-n.invariant at has out)
    c.in_ok-push.ensures.ok

pub returns-clause-links : goal.returns-clause-links
returns-clause-links c =
    let set = c.args.members.now in
    let xs = c.as_slice-imports.result.now in
    let h = imports_of set c.args.file c.index-members-file.result xs c.requires.here c.as_slice-imports.ensures in
    links_all set c.args.file c.loop-n.n xs c.loop-n.links h c.loop-n-test.false c.loop-n.auto.n-end c.loop-n.invariant

pub returns-clause-once : goal.returns-clause-once
returns-clause-once c =
    let set = c.args.members.now in
    let xs = c.as_slice-imports.result.now in
    let h = imports_of set c.args.file c.index-members-file.result xs c.requires.here c.as_slice-imports.ensures in
    once_all set c.args.file c.loop-n.n xs c.loop-n.links h c.loop-n-test.false c.loop-n.invariant
