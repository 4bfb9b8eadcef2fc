-- The paths that are listed for a call.
use Rattle.std.proofs.Common.{◌≡◌, ℕ, ◌+◌, ◌<◌, ◌||◌, ◌&&◌, Bool, true, false, List, [], ◌∷◌, ◌++◌, length, get_or}
use Rattle.std.proofs.Common.{take, refl, ap, sym, subst, ◌∙◌, arith}
use Rattle.std.specs.Prelude.{Contains, ◌↔◌}
use Rattle.std.specs.Bool.{OnTrue, OnFalse}
use Rattle.std.specs.List.{list_any}
use Rattle.std.proofs.lemmas.List.{take_more}
use Rattle.std.proofs.lemmas.List.Folds.{list_any-append, Any-from_list_any, list_any-from_Any}
use Rattle.mrpc_table.specs.Node.{Node}
use Rattle.mrpc_table.specs.Weight.{weight}
use Rattle.mrpc_table.specs.PathTrees.{IsAscendingTree}
use Rattle.mrpc_table.specs.declared.call.Call.{Call}
use Rattle.policy_redact.specs.Without.{without}
use Rattle.policy_redact.specs.Redacting.{applies_to, is_at, is_listed, cleared, cleared_call}
use Rattle.policy_redact.specs.declared.redact.Clear.{Clear}
use Rattle.policy_redact.proofs.Leaving.{without-same, without-without, without-nothing, without-ascends}

or_self : (b : Bool) → (b || b) ≡ b
or_self true = refl
or_self false = refl

or_swap : (a b : Bool) → (a || b) ≡ (b || a)
or_swap true true = refl
or_swap true false = refl
or_swap false true = refl
or_swap false false = refl

or_false : (a : Bool) → (a || false) ≡ a
or_false true = refl
or_false false = refl

pub cleared-again : (clears : List Clear) (call : Call) → cleared clears (cleared_call clears call) ≡ cleared clears call
cleared-again clears call =
    without-without (is_listed clears call) (is_listed clears call) call.tree
    ∙ without-same (λ path. is_listed clears call path || is_listed clears call path) (is_listed clears call) call.tree (λ path. or_self (is_listed clears call path))

pub in-turn : (a b : List Clear) (call : Call) → cleared b (cleared_call a call) ≡ cleared (a ++ b) call
in-turn a b call =
    without-without (is_listed a call) (is_listed b call) call.tree
    ∙ without-same (λ path. is_listed a call path || is_listed b call path) (is_listed (a ++ b) call) call.tree
    (λ path. sym (list_any-append (λ (clear : Clear). applies_to clear call && is_at clear path) a b))

pub either-first : (a b : List Clear) (call : Call) → cleared b (cleared_call a call) ≡ cleared a (cleared_call b call)
either-first a b call =
    without-without (is_listed a call) (is_listed b call) call.tree
    ∙ without-same (λ path. is_listed a call path || is_listed b call path) (λ path. is_listed b call path || is_listed a call path) call.tree
    (λ path. or_swap (is_listed a call path) (is_listed b call path))
    ∙ sym (without-without (is_listed b call) (is_listed a call) call.tree)

bool_same : (a b : Bool) → (a ≡ true → b ≡ true) → (b ≡ true → a ≡ true) → a ≡ b
bool_same true b to from = sym (to refl)
bool_same false true to from = from refl
bool_same false false to from = refl

any_among : (f : Clear → Bool) (a b : List Clear) → ((clear : Clear) → Contains a clear → Contains b clear) → list_any f a ≡ true → list_any f b ≡ true
any_among f a b within e =
    let found = Any-from_list_any f a e in
    let there = within found.1 (found.0, found.2, found.3) in
    list_any-from_Any f b (there.0, found.1, there.1, there.2, found.4)

any_same : (f : Clear → Bool) (a b : List Clear) → ((clear : Clear) → Contains a clear ↔ Contains b clear) → list_any f a ≡ list_any f b
any_same f a b same = bool_same (list_any f a) (list_any f b) (any_among f a b (λ clear. (same clear).0)) (any_among f b a (λ clear. (same clear).1))

pub same-lines : (a b : List Clear) (call : Call) → ((clear : Clear) → Contains a clear ↔ Contains b clear) → cleared a call ≡ cleared b call
same-lines a b call same =
    without-same (is_listed a call) (is_listed b call) call.tree (λ path. any_same (λ (clear : Clear). applies_to clear call && is_at clear path) a b same)

-- one more line
pub one-more : (clears : List Clear) (i : ℕ) (clear : Clear) (call : Call) → i < length clears → clear ≡ get_or clears i clear
    → cleared (take (i + 1) clears) call ≡ without (λ path. applies_to clear call && is_at clear path) (cleared (take i clears) call)
one-more clears i clear call within at =
    ap (λ (cs : List Clear). cleared cs call) (take_more clears i clear within ∙ ap (λ (c : Clear). take i clears ++ c ∷ []) (sym at))
    ∙ without-same (is_listed (take i clears ++ clear ∷ []) call) (λ path. is_listed (take i clears) call path || (applies_to clear call && is_at clear path)) call.tree
    (λ path. list_any-append (λ (c : Clear). applies_to c call && is_at c path) (take i clears) (clear ∷ [])
    ∙ ap (λ (b : Bool). is_listed (take i clears) call path || b)
    (or_false (applies_to clear call && is_at clear path)))
    ∙ sym (without-without (is_listed (take i clears) call) (λ path. applies_to clear call && is_at clear path) call.tree)

-- the tree after the clears ascends
pub cleared-ascends : (clears : List Clear) (call : Call) → IsAscendingTree call.tree → IsAscendingTree (cleared clears call)
cleared-ascends clears call up = without-ascends (is_listed clears call) 0 call.tree up

pub nothing-listed : (call : Call) → cleared [] call ≡ call.tree
nothing-listed call = without-nothing call.tree

-- the call after one more line
pub more-cleared : (clears : List Clear) (i : ℕ) (clear : Clear) (call now next : Call) → i < length clears
    → clear ≡ get_or clears i clear → now ≡ cleared_call (take i clears) call
    → next ≡ record now { tree = without (λ path. applies_to clear now && is_at clear path) now.tree } → next ≡ cleared_call (take (i + 1) clears) call
more-cleared clears i clear call now next within at so_far step =
    step
    ∙ ap (λ (c : Call). record c { tree = without (λ path. applies_to clear c && is_at clear path) c.tree }) so_far
    ∙ ap (λ (t : Node). record call { tree = t }) (sym (one-more clears i clear call within at))

-- if the tree changed before or changes now, it is smaller; otherwise it is the same
lighter : (start now next : Call) → weight now.tree < weight start.tree → weight next.tree < weight now.tree → weight next.tree < weight start.tree
lighter start now next before after = omega arith

pub smaller-still : (before after : Bool) (start now next : Call) → OnTrue before (weight now.tree < weight start.tree) → OnFalse before (now ≡ start)
    → OnTrue after (weight next.tree < weight now.tree) → OnFalse after (next ≡ now) → OnTrue (before || after) (weight next.tree < weight start.tree)
smaller-still true true start now next was kept is keeps = lighter start now next was is
smaller-still true false start now next was kept is keeps = subst (λ (c : Call). weight c.tree < weight start.tree) (sym keeps) was
smaller-still false true start now next was kept is keeps = subst (λ (c : Call). weight next.tree < weight c.tree) kept is
smaller-still false false start now next was kept is keeps = tt

pub unchanged-still : (before after : Bool) (start now next : Call) → OnFalse before (now ≡ start) → OnFalse after (next ≡ now) → OnFalse (before || after) (next ≡ start)
unchanged-still true after start now next kept keeps = tt
unchanged-still false true start now next kept keeps = tt
unchanged-still false false start now next kept keeps = keeps ∙ kept
