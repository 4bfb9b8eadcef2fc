use Rattle.std.proofs.Common.{◌∙◌, ℕ, ◌+◌, ◌<◌, ◌^◌, List, length, ap, sym, subst, arith}
use Rattle.std.specs.Prelude.{sum_by}
use Rattle.proto_set.specs.Named.{files_of}
use Rattle.proto_set.specs.declared.named.Named.{Named}
use Rattle.schema_files.specs.Reason.{files_word}
use Rattle.schema_files.specs.Resolving.{AreResolvedTo}
use Rattle.text_commands.specs.Checking.HasDeclaredTable.{a_set}
use Rattle.text_commands.proofs.CheckFaults.{fault_in_file, missing_file, refused_path}
use Rattle.text_commands.proofs.SetSizes.{set_short}
use Rattle.text_commands.proofs.check.table_of_set.Goals as goal

pub resolve_files-requires-clause-small : goal.resolve_files-requires-clause-small
resolve_files-requires-clause-small c =
    subst (λ (ps : List Named). sum_by (λ (p : Named). length p.text.now) ps < 2 ^ 63) (sym c.as_slice.ensures.value)
    (omega (arith, set_short c.in-Ok.files.items 16777216 c.in-Ok.ensures.read c.requires.short))

pub returns-in-Err-Bundle-clause-fault : goal.returns-in-Err-Bundle-clause-fault
returns-in-Err-Bundle-clause-fault c =
    let e = c.in-Err-Bundle in
    let found = rw e.field-0-is at e.ensures.fault in
    missing_file c.args.text.now _ c.from.result c.requires.set found (c.from.ensures ∙ e.file-is)

pub returns-in-Err-Path-clause-fault : goal.returns-in-Err-Path-clause-fault
returns-in-Err-Path-clause-fault c =
    let found = rw c.in-Err-Path.field-0-is at c.in-Err-Path.ensures.fault in
    let stands = rw c.as_slice.ensures.value at found in
    refused_path c.args.text.now (files_of c.in-Ok.files.items) _ _ c.requires.set c.in-Ok.ensures.read stands
    (ap (λ (n : ℕ). n + 1) c.in-Err-Path.file-is)

pub returns-in-Ok-resolve_files-clause-checked : goal.returns-in-Ok-resolve_files-clause-checked
returns-in-Ok-resolve_files-clause-checked c = (
  a_set (files_of c.in-Ok.files.items) c.requires.set c.in-Ok.ensures.read
      (subst (λ (ps : List Named). AreResolvedTo (files_of ps) c.in-Ok-resolve_files.table) c.as_slice.ensures.value
      c.in-Ok-resolve_files.ensures.resolves),
  c.in-Ok-resolve_files.ensures.valid,
)

pub returns-in-Err-At-clause-fault : goal.returns-in-Err-At-clause-fault
returns-in-Err-At-clause-fault c =
    let found = rw c.in-Err-At.field-0-is at c.in-Err-At.ensures.fault in
    let stands = rw c.as_slice.ensures.value at found in
    fault_in_file c.args.text.now (files_of c.in-Ok.files.items) _ _ _ _ _ _ c.requires.set c.in-Ok.ensures.read stands
    (ap (λ (n : ℕ). n + 1) c.in-Err-At.file-is) c.in-Err-At.line-is (c.word.ensures ∙ ap files_word c.in-Err-At.reason-is)
