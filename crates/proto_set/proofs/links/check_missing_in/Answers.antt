use Rattle.std.proofs.Common.{get_or, ap, ◌∙◌, arith}
use Rattle.proto_set.specs.ImportFaults.{missing}
use Rattle.proto_set.specs.Linking.{index_of_path}
use Rattle.proto_set.specs.declared.import_fault.ImportReason.TheVariants.{Missing}
use Rattle.proto_set.proofs.Judging.{imports_of, import_in, no_file, has_some, not_missing, free_more, free_all, missing_parts}
use Rattle.proto_set.proofs.links.check_missing_in.Goals as goal

pub loop-n-init : goal.loop-n-init
loop-n-init c = λ m l f. absurd (omega arith)

pub returns-then-is_none-clause-fault : goal.returns-then-is_none-clause-fault
returns-then-is_none-clause-fault c =
    let set = c.args.members.now in
    let xs = c.as_slice-imports.result.now in
    let h = imports_of set c.args.file c.index-members-file.result xs c.requires.here c.as_slice-imports.ensures in
    let x = get_or xs c.loop-n.n c.index-imports-n.result in
    let at = import_in h c.loop-n.n c.index-imports-n.result c.loop-n-test.true in
    let nobody = no_file set c.args.paths.now x.path c.file_index.result c.requires.paths
    (c.file_index.ensures ∙ ap (λ p. index_of_path c.args.paths.now p) c.as_slice.ensures) (c.if-is_none.ensures) in
    record {
      n = c.loop-n.n;
      import = x;
      import_at = at;
      is = c.fault_at.ensures x at;
      at_fault = missing x at nobody;
      first = c.loop-n.invariant;
    }

pub loop-n-preserved : goal.loop-n-preserved
loop-n-preserved c =
    let set = c.args.members.now in
    let xs = c.as_slice-imports.result.now in
    let h = imports_of set c.args.file c.index-members-file.result xs c.requires.here c.as_slice-imports.ensures in
    let x = get_or xs c.loop-n.n c.index-imports-n.result in
    let has = has_some set c.args.paths.now x.path c.file_index.result c.requires.paths
    (c.file_index.ensures ∙ ap (λ p. index_of_path c.args.paths.now p) c.as_slice.ensures) (c.if-is_none.ensures) in
    free_more set Missing c.args.file c.loop-n.n c.loop-n.invariant
    (not_missing set c.args.file c.loop-n.n has.0 xs c.index-imports-n.result h c.loop-n-test.true has.1)

pub returns-clause-ok : goal.returns-clause-ok
returns-clause-ok c =
    let set = c.args.members.now in
    let xs = c.as_slice-imports.result.now in
    let h = imports_of set c.args.file c.index-members-file.result xs c.requires.here c.as_slice-imports.ensures in
    free_all set Missing c.args.file c.loop-n.n xs h c.loop-n-test.false
    (λ m f. (let p = missing_parts f in (p.import, p.import_at))) c.loop-n.invariant
