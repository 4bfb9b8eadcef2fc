use Rattle.std.proofs.Common.{◌≡◌, ◌∙◌, ◌<◌, ◌≤◌, refl, sym, subst, ℕ, List, length, arith, take, get_or, vec_len, rules, []}
use Rattle.std.specs.Prelude.{slice_get, Some, Contains}
use Rattle.std.proofs.lemmas.Option.{slice_get_read}
use Rattle.std.proofs.lemmas.List.{get_or_default, take_all}
use Rattle.proto_ast.specs.Order.{IsIndexBelow}
use Rattle.proto_ast.specs.declared.file.Word.{Word}
use Rattle.proto_ast.specs.declared.file.MessageDecl.{MessageDecl}
use Rattle.schema_resolve.specs.ShapedFields.{IsShapedField, AreShapedFields}
use Rattle.schema_resolve.specs.Joining.{AreFieldsMade}
use Rattle.schema_resolve.specs.declared.field_table.ShapedField.{ShapedField}
use Rattle.proto_ast.specs.Joined.{Joined}
use Rattle.schema_resolve.specs.Resolving.{HasNoViolation}
use Rattle.schema_resolve.proofs.CleanFiles.{item_at, in_list}
use Rattle.schema_resolve.proofs.MessageTables.{made_none, made_more, judged_plain, judged_known, judged_oneof, few_fields, message_at}
use Rattle.schema_resolve.proofs.message_table.message_in.Goals as goal

pub by_number-requires-clause-clean : goal.by_number-requires-clause-clean
by_number-requires-clause-clean c = subst HasNoViolation (sym c.requires.scopes) c.requires.clean

pub by_number-requires-clause-here : goal.by_number-requires-clause-here
by_number-requires-clause-here c =
    let m = c.index-messages-place.result in
    let P : Joined → Type 0 = λ F. slice_get F.messages c.args.place ≡ Some m in
    subst P (sym c.requires.scopes)
    (item_at c.messages.result.now c.args.files.now.messages c.args.place m c.messages.ensures c.requires.within
    c.index-messages-place.is)

pub loop-i-init : goal.loop-i-init
loop-i-init c = made_none _ _ _ _ c.in_ok-oneofs.ensures.keeps c.in_ok-oneofs.ensures.none c.in_ok-fields.ensures

-- the field that the loop reads
pub record Read (F : Joined) (place : ℕ) (m : MessageDecl) (js : List ShapedField) (i : ℕ) (j : ShapedField) : Type 0 where
  pub at : slice_get js i ≡ Some j
  pub is : IsShapedField F m.file place j.decl.now j
  pub inside : Contains m.fields j.decl.now

read : (F : Joined) (place : ℕ) (m : MessageDecl) (js : List ShapedField) (i : ℕ) (j : ShapedField) → AreShapedFields F place m js
    → i < length js → j ≡ get_or js i j → Read F place m js i j
read F place m js i j all l e =
    let at : slice_get js i ≡ Some j = slice_get_read js (length js) i j refl l e in
    let h = all.each j (in_list js i j at) in
    record { at = at; is = h.0; inside = h.1 }

pub field_in-requires-clause-oneof : goal.field_in-requires-clause-oneof
field_in-requires-clause-oneof c =
    let F = c.args.files.now in
    let place = c.args.place in
    let m = c.index-messages-place.result in
    let js = c.in_ok-sorted.sorted.items in
    let at = item_at c.messages.result.now F.messages place m c.messages.ensures c.requires.within c.index-messages-place.is in
    let P : Joined → Type 0 = λ G. AreShapedFields G place m js in
    let all : AreShapedFields F place m js = subst P c.requires.scopes c.in_ok-sorted.ensures in
    let j = c.index.result.now in
    let same : vec_len c.in_ok-sorted.sorted ≡ length js = search rules in
    let l : c.loop-i.i < length js = omega (arith, c.len-i-end.ensures) in
    let r = read F place m js c.loop-i.i j all l c.index.ensures in
    let Q : List Word → Type 0 = λ ws. IsIndexBelow (length ws) j.decl.now.oneof in
    subst Q (sym c.as_slice-words.ensures) (judged_oneof F place m j.decl.now c.requires.formed at r.inside)

pub field_in-requires-clause-few : goal.field_in-requires-clause-few
field_in-requires-clause-few c =
    let F = c.args.files.now in
    let place = c.args.place in
    let m = c.index-messages-place.result in
    let js = c.in_ok-sorted.sorted.items in
    let at = item_at c.messages.result.now F.messages place m c.messages.ensures c.requires.within c.index-messages-place.is in
    let P : Joined → Type 0 = λ G. AreShapedFields G place m js in
    let all : AreShapedFields F place m js = subst P c.requires.scopes c.in_ok-sorted.ensures in
    let j = c.index.result.now in
    let same : vec_len c.in_ok-sorted.sorted ≡ length js = search rules in
    let l : c.loop-i.i < length js = omega (arith, c.len-i-end.ensures) in
    let r = read F place m js c.loop-i.i j all l c.index.ensures in
    omega (arith, few_fields F place m c.requires.formed c.requires.clean at, all.count, c.loop-i.invariant.1)

pub field_in-requires-clause-known : goal.field_in-requires-clause-known
field_in-requires-clause-known c =
    let F = c.args.files.now in
    let place = c.args.place in
    let m = c.index-messages-place.result in
    let js = c.in_ok-sorted.sorted.items in
    let at = item_at c.messages.result.now F.messages place m c.messages.ensures c.requires.within c.index-messages-place.is in
    let P : Joined → Type 0 = λ G. AreShapedFields G place m js in
    let all : AreShapedFields F place m js = subst P c.requires.scopes c.in_ok-sorted.ensures in
    let j = c.index.result.now in
    let same : vec_len c.in_ok-sorted.sorted ≡ length js = search rules in
    let l : c.loop-i.i < length js = omega (arith, c.len-i-end.ensures) in
    let r = read F place m js c.loop-i.i j all l c.index.ensures in
    judged_known F c.args.plan.now m.file place j c.requires.formed c.requires.plan c.requires.within r.is

pub loop-i-preserved : goal.loop-i-preserved
loop-i-preserved c =
    let F = c.args.files.now in
    let place = c.args.place in
    let m = c.index-messages-place.result in
    let js = c.in_ok-sorted.sorted.items in
    let at = item_at c.messages.result.now F.messages place m c.messages.ensures c.requires.within c.index-messages-place.is in
    let P : Joined → Type 0 = λ G. AreShapedFields G place m js in
    let all : AreShapedFields F place m js = subst P c.requires.scopes c.in_ok-sorted.ensures in
    let j = c.index.result.now in
    let same : vec_len c.in_ok-sorted.sorted ≡ length js = search rules in
    let l : c.loop-i.i < length js = omega (arith, c.len-i-end.ensures) in
    let r = read F place m js c.loop-i.i j all l c.index.ensures in
    made_more c.args.plan.now c.as_slice-words.result.now js c.loop-i.i j c.loop-i.oneofs c.field_in.new.oneofs
    c.in_ok-field.field c.loop-i.fields c.push.new.self r.at
    (judged_plain F m.file place j c.requires.formed c.requires.within r.is) c.in_ok-field.ensures c.in_ok-push.ensures.ok
    c.loop-i.invariant.0 c.loop-i.invariant.1

pub returns : goal.returns
returns c =
    let F = c.args.files.now in
    let place = c.args.place in
    let m = c.index-messages-place.result in
    let js = c.in_ok-sorted.sorted.items in
    let at = item_at c.messages.result.now F.messages place m c.messages.ensures c.requires.within c.index-messages-place.is in
    let P : Joined → Type 0 = λ G. AreShapedFields G place m js in
    let all : AreShapedFields F place m js = subst P c.requires.scopes c.in_ok-sorted.ensures in
    let same : vec_len c.in_ok-sorted.sorted ≡ length js = search rules in
    let end : length js ≤ c.loop-i.i = omega (arith, c.len-i-end.ensures) in
    let Q : List Word → Type 0 = λ ws. AreFieldsMade c.args.plan.now ws (take c.loop-i.i js) c.loop-i.oneofs c.loop-i.fields in
    let R : List ShapedField → Type 0 = λ xs. AreFieldsMade c.args.plan.now m.oneofs xs c.loop-i.oneofs c.loop-i.fields in
    let names = c.args.plan.now.messages.names.items in
    let l : place < length names = omega (arith, c.requires.plan.all_messages, c.requires.within) in
    message_at F c.args.plan.now place m js c.loop-i.oneofs c.loop-i.fields c.in_ok-copied.field-0 c.requires.formed
    c.requires.ordered c.requires.clean c.requires.plan at all
    (subst R (take_all c.loop-i.i js end) (subst Q c.as_slice-words.ensures c.loop-i.invariant.0))
    (c.in_ok-copied.ensures ∙ c.index-2.ensures ∙ get_or_default names place c.index-2.result.now [] l)
