use Rattle.std.proofs.Common.{ℕ, ◌+◌, ◌≤◌, cond, List, length, take, Some, sym, ap, ◌∙◌, subst, arith}
use Rattle.std.specs.Borrow.{Bor}
use Rattle.std.specs.Ordering.{nat_cmp, is_eq}
use Rattle.std.specs.Cmp.Lexicographic.{slice_cmp}
use Rattle.std.specs.BTreeMap.{get_by}
use Rattle.std.proofs.lemmas.List.{take_all}
use Rattle.proto_ast.specs.declared.file.Word.{Word}
use Rattle.schema_validation.specs.ReservedNames.{HasReservedNames}
use Rattle.schema_validation.specs.declared.name_set.NameSet.{NameSet}
use Rattle.schema_validation.proofs.NameSets.{keeps_none, keeps_next}
use Rattle.schema_validation.proofs.name_set.NameSet.new.Goals as goal

pub loop-i-init : goal.loop-i-init
loop-i-init c = keeps_none (record { names = c.new-names.result }) c.new-names.ensures.empty

pub loop-i-preserved : goal.loop-i-preserved
loop-i-preserved c =
    let all = c.as_slice-all.result.now in
    let old : NameSet = record { names = c.loop-i.names } in
    let new : NameSet = record { names = c.insert.new.self } in
    let changed = λ (name : List ℕ).
    let key : Bor (List ℕ) = record { ref_ptr = (0, 0); now = name } in
    c.in_ok-insert.ensures.updates.0 key
    ∙ ap (λ (own : List ℕ). cond (is_eq (slice_cmp nat_cmp own name)) (Some tt)
    (get_by (λ (k : Bor (List ℕ)). slice_cmp nat_cmp name k.now) c.loop-i.names)) c.as_slice.ensures in
    subst (λ (xs : List Word). HasReservedNames (take (c.loop-i.i + 1) xs) new) c.as_slice-all.ensures
    (keeps_next all c.loop-i.i c.index-all-i.result old new c.loop-i-test.true changed
    (subst (λ (xs : List Word). HasReservedNames (take c.loop-i.i xs) old) (sym c.as_slice-all.ensures) c.loop-i.invariant))

pub returns : goal.returns
returns c =
    let l : length c.args.words.now ≤ c.loop-i.i =
    omega (arith, ap length c.as_slice-all.ensures, c.loop-i-test.false) in
    let kept : NameSet = record { names = c.loop-i.names } in
    subst (λ (xs : List Word). HasReservedNames xs kept) (take_all c.loop-i.i c.args.words.now l) c.loop-i.invariant
