-- A table is made in a given order.
use Rattle.std.proofs.Common.{◌≡◌, ℕ, ◌+◌, ◌<◌, ◌≤◌, List, [], ◌∷◌, ◌++◌, length, get_or, take, sym, ap, subst, arith}
use Rattle.std.proofs.lemmas.List.{take_more, take_all}
use Rattle.std.proofs.lemmas.List.Elements.{All-get_or}
use Rattle.proto_ast.specs.Joined.{Joined}
use Rattle.schema_validation.specs.Correspondence.{AreCorrespondingInOrder, none}
use Rattle.schema_resolve.specs.Placing.{IsTablePlan}
use Rattle.schema_resolve.specs.declared.plan.TablePlan.{TablePlan}
use Rattle.schema_resolve.proofs.MethodTables.{in_order_push}

pub in_order_start : {X Y : Type 0} (R : X → Y → Type 0) (ys : List Y) → ys ≡ [] → AreCorrespondingInOrder R [] ys
in_order_start R ys e = subst (AreCorrespondingInOrder R []) (sym e) none

pub in_order_more : {Y : Type 0} (R : ℕ → Y → Type 0) (xs : List ℕ) (i : ℕ) (ys more : List Y) (y : Y)
    → i < length xs → more ≡ ys ++ y ∷ [] → R (get_or xs i 0) y → AreCorrespondingInOrder R (take i xs) ys
    → AreCorrespondingInOrder R (take (i + 1) xs) more
in_order_more R xs i ys more y l e r h =
    subst (λ (zs : List ℕ). AreCorrespondingInOrder R zs more) (sym (take_more xs i 0 l))
    (subst (AreCorrespondingInOrder R (take i xs ++ get_or xs i 0 ∷ [])) (sym e) (in_order_push R (get_or xs i 0) y h r))

pub in_order_end : {Y : Type 0} (R : ℕ → Y → Type 0) (xs zs : List ℕ) (i : ℕ) (ys : List Y) → xs ≡ zs → length xs ≤ i
    → AreCorrespondingInOrder R (take i xs) ys → AreCorrespondingInOrder R zs ys
in_order_end R xs zs i ys e l h =
    subst (λ (us : List ℕ). AreCorrespondingInOrder R us ys) e
    (subst (λ (us : List ℕ). AreCorrespondingInOrder R us ys) (take_all i xs l) h)

pub within_messages : (F : Joined) (p : TablePlan) (xs : List ℕ) (i : ℕ) → IsTablePlan F p → xs ≡ p.messages.order.items
    → i < length xs → get_or xs i 0 < length F.messages
within_messages F p xs i plan e l =
    let h : get_or p.messages.order.items i 0 < length p.messages.names.items =
    All-get_or (λ (k : ℕ). k < length p.messages.names.items) p.messages.order.items i 0 (omega (arith, ap length e))
    plan.message_places.order.within in
    omega (arith, plan.all_messages, ap (λ (zs : List ℕ). get_or zs i 0) e)

pub within_enums : (F : Joined) (p : TablePlan) (xs : List ℕ) (i : ℕ) → IsTablePlan F p → xs ≡ p.enums.order.items
    → i < length xs → get_or xs i 0 < length F.enums
within_enums F p xs i plan e l =
    let h : get_or p.enums.order.items i 0 < length p.enums.names.items =
    All-get_or (λ (k : ℕ). k < length p.enums.names.items) p.enums.order.items i 0 (omega (arith, ap length e))
    plan.enum_places.order.within in
    omega (arith, plan.all_enums, ap (λ (zs : List ℕ). get_or zs i 0) e)
