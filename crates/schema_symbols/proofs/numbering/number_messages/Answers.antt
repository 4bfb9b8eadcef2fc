use Rattle.std.proofs.Common.{◌≡◌, ℕ, ◌+◌, ◌<◌, ◌≤◌, ◌++◌, ◌∷◌, [], List, Some, cond, length, refl, sym, ◌∙◌, ap, subst, arith}
use Rattle.std.specs.Prelude.{slice_get}
use Rattle.std.specs.Option.{unwrap_or}
use Rattle.proto_ast.specs.Joined.{enclosing_of}
use Rattle.schema_symbols.specs.Scopes.{of_message}
use Rattle.schema_symbols.specs.Numbers.{IsScopeNumber, IsListedScope, a_message_scope, all_prefix_count}
use Rattle.schema_symbols.specs.Children.{child, same_child}
use Rattle.schema_symbols.specs.Numbered.{HasNumberedScopes, scope_number_of, HasScopeNumber}
use Rattle.schema_symbols.proofs.ScopeLemmas.{item_at, message_place, has_scope}
use Rattle.schema_symbols.proofs.NumberLemmas.{next_numbered, number_known, message_within}
use Rattle.schema_symbols.proofs.numbering.number_messages.Goals as goal

pub number_in-outer-requires : goal.number_in-outer-requires
number_in-outer-requires c =
    let l : c.loop-i.i < length c.args.files.now.messages = omega (arith, ap length c.messages-messages.ensures, c.loop-i-test.true) in
    let at : slice_get c.args.files.now.messages c.loop-i.i ≡ Some c.index-messages-i.result =
    item_at c.messages-messages.result.now c.args.files.now.messages c.loop-i.i c.index-messages-i.result c.messages-messages.ensures l c.index-messages-i.is in
    let n : c.len-fronts.result ≡ all_prefix_count c.args.files.now = omega (arith, c.len-fronts.ensures, c.args.numbering.now.numbers.ok.0, c.requires.numbers.count) in
    let long : c.len-fronts.result + c.loop-i.i ≤ length c.deref.result.now = omega (arith, c.loop-i.invariant.count, ap length c.deref.ensures.value) in
    let within : HasScopeNumber c.args.packages.now c.len-fronts.result c.deref.result.now (enclosing_of c.index-messages-i.result) =
    message_within c.args.packages.now c.len-fronts.result c.deref.result.now c.loop-i.i c.index-messages-i.result c.requires.behind c.requires.packages.count long at in
    subst (HasScopeNumber c.args.packages.now c.len-fronts.result c.deref.result.now) (sym c.enclosing.ensures) within

pub loop-i-preserved : goal.loop-i-preserved
loop-i-preserved c =
    let l : c.loop-i.i < length c.args.files.now.messages = omega (arith, ap length c.messages-messages.ensures, c.loop-i-test.true) in
    let at : slice_get c.args.files.now.messages c.loop-i.i ≡ Some c.index-messages-i.result =
    item_at c.messages-messages.result.now c.args.files.now.messages c.loop-i.i c.index-messages-i.result c.messages-messages.ensures l c.index-messages-i.is in
    let n : c.len-fronts.result ≡ all_prefix_count c.args.files.now = omega (arith, c.len-fronts.ensures, c.args.numbering.now.numbers.ok.0, c.requires.numbers.count) in
    let long : c.len-fronts.result + c.loop-i.i ≤ length c.loop-i.numbering.numbers.items = omega (arith, c.loop-i.invariant.count) in
    let up = has_scope c.args.files.now (enclosing_of c.index-messages-i.result) c.requires.behind (message_place c.requires.behind c.loop-i.i c.index-messages-i.result at) in
    let within : HasScopeNumber c.args.packages.now c.len-fronts.result c.loop-i.numbering.numbers.items (enclosing_of c.index-messages-i.result) =
    message_within c.args.packages.now c.len-fronts.result c.loop-i.numbering.numbers.items c.loop-i.i c.index-messages-i.result c.requires.behind c.requires.packages.count long at in
    let number : IsScopeNumber c.args.files.now up.0 (scope_number_of c.args.packages.now c.len-fronts.result c.loop-i.numbering.numbers.items (enclosing_of c.index-messages-i.result)) =
    number_known c.len-fronts.result c.requires.packages c.loop-i.invariant.numbers (enclosing_of c.index-messages-i.result) up.0 n within up.1 in
    let is : c.number_in-outer.result ≡ scope_number_of c.args.packages.now c.len-fronts.result c.loop-i.numbering.numbers.items (enclosing_of c.index-messages-i.result) =
    c.number_in-outer.ensures ∙ ap (λ q. scope_number_of c.args.packages.now c.len-fronts.result q c.enclosing.result)
    c.deref.ensures.value
    ∙ ap (scope_number_of c.args.packages.now c.len-fronts.result c.loop-i.numbering.numbers.items) c.enclosing.ensures in
    let outer : IsScopeNumber c.args.files.now up.0 c.number_in-outer.result = subst (IsScopeNumber c.args.files.now up.0) (sym is) number in
    let listed : IsListedScope c.args.files.now (all_prefix_count c.args.files.now + c.loop-i.i) (up.0 ++ c.index-messages-i.result.name.name ∷ []) =
    a_message_scope c.loop-i.i refl (of_message c.loop-i.i c.index-messages-i.result at up.1) in
    let named : c.as_slice.result.now ≡ c.index-messages-i.result.name.name = c.as_slice.ensures in
    let number_is : c.in_ok-list.field-0
    ≡ unwrap_or (child c.loop-i.numbering.inner c.number_in-outer.result c.index-messages-i.result.name.name)
    (length c.loop-i.numbering.numbers.items) =
    c.in_ok-list.ensures.number ∙ ap (λ (q : List ℕ). unwrap_or (child c.loop-i.numbering.inner c.number_in-outer.result q) (length c.loop-i.numbering.numbers.items)) named in
    let changed : (k : ℕ) (o : List ℕ)
    → child c.list.new.self.inner k o
    ≡ cond (same_child c.number_in-outer.result c.index-messages-i.result.name.name k o)
    (Some c.in_ok-list.field-0) (child c.loop-i.numbering.inner k o) =
    λ k o. c.in_ok-list.ensures.inner k o
    ∙ ap (λ (q : List ℕ). cond (same_child c.number_in-outer.result q k o) (Some c.in_ok-list.field-0)
    (child c.loop-i.numbering.inner k o)) named in
    let next : HasNumberedScopes c.args.files.now (all_prefix_count c.args.files.now + c.loop-i.i + 1) c.list.new.self =
    next_numbered c.args.files.now c.loop-i.numbering c.list.new.self (all_prefix_count c.args.files.now + c.loop-i.i)
    c.number_in-outer.result c.in_ok-list.field-0 up.0 c.index-messages-i.result.name.name c.loop-i.invariant
    listed outer number_is c.in_ok-list.ensures.numbers changed in
    let count : all_prefix_count c.args.files.now + c.loop-i.i + 1 ≡ all_prefix_count c.args.files.now + (c.loop-i.i + 1) = omega arith in
    subst (λ (q : ℕ). HasNumberedScopes c.args.files.now q c.list.new.self) count next
