-- The outcome of a copy, for an echo.
use Rattle.std.proofs.Common.{◌≡◌, ◌≢◌, ℕ, ◌<◌, ◌≤◌, ◌==◌, ◌&&◌, true, false, List, Option, Some, None, IfSome}
use Rattle.std.proofs.Common.{MatchOption, refl, ap, sym, subst, ◌∙◌, length, arith, nat_lt}
use Rattle.std.proofs.lemmas.Bool.Decides.{nat_tests}
use Rattle.mrpc_table.specs.Calls.{message_of}
use Rattle.mrpc_table.specs.Node.{Node}
use Rattle.mrpc_table.specs.Normal.{IsNormal}
use Rattle.mrpc_table.specs.declared.call.CallKind.TheVariants.{Request, Reply}
use Rattle.mrpc_table.specs.declared.table.Table.{Table}
use Rattle.graph_form.specs.Malformed.{HasOutcome, IsMalformed, copied, is_copied, is_malformed, malformed}
use Rattle.graph_form.specs.declared.reason.Reason.{Reason}
use Rattle.graph_copy.specs.Copies.{IsCopied}
use Rattle.descriptor_ring.specs.declared.descriptor.Descriptor.{Descriptor}
use Rattle.app_stub.specs.declared.echoes.EchoState.{EchoState}
use Rattle.app_stub.specs.EchoStates.{echo_of}
use Rattle.app_stub.specs.Echoing.{RequestCopy, Echo, HasReply, IsReplied}

pub no_request : (kind method methods : ℕ) → kind ≢ 1 → ((kind == 1) && nat_lt method methods) ≡ false
no_request kind method methods other = grind (arith, nat_tests)

pub no_method : (kind method methods : ℕ) → methods ≤ method → ((kind == 1) && nat_lt method methods) ≡ false
no_method kind method methods above = grind (arith, nat_tests)

pub some_method : (kind method methods : ℕ) → kind ≡ 1 → method < methods → ((kind == 1) && nat_lt method methods) ≡ true
some_method kind method methods one below = grind (arith, nat_tests)

pub copied_comes : (T : Table) (H msg addr limit : ℕ) (own : List (ℕ × ℕ)) (tree : Node)
    → IsCopied T H msg addr own tree → length own ≤ limit → HasOutcome T H msg addr limit own (copied tree)
copied_comes T H msg addr limit own tree k few = is_copied k.placed k.sound k.loads_are few (ap copied k.tree_is)

pub malformed_comes : (T : Table) (H msg addr limit : ℕ) (own : List (ℕ × ℕ)) (reason : Reason) (place value : ℕ)
    → IsMalformed T H msg addr limit own reason place value → HasOutcome T H msg addr limit own (malformed reason place value)
malformed_comes T H msg addr limit own reason place value m = is_malformed reason place value m refl

pub never_replied : (e : Echo) (d : Descriptor) (copy : RequestCopy) (reason : Reason) (place value : ℕ)
    → copy.outcome ≡ malformed reason place value → (t : Node) → IsReplied e d copy t → ⊥
never_replied e d copy reason place value is t r = let a = r.comes_to in cc (is, a)

pub replied_by : (e f : Echo) (d : Descriptor) (copy : RequestCopy) (tree : Node) (answer : Option Node)
    → f ≡ e → copy.outcome ≡ copied tree → IfSome answer (λ t. t ≡ tree)
    → MatchOption answer (HasReply f d.method d.number tree → ⊥) (λ t. HasReply f d.method d.number tree)
    → MatchOption answer ((t : Node) → IsReplied e d copy t → ⊥) (IsReplied e d copy)
replied_by e f d copy tree None same is given never = λ t r.
    let one : t ≡ tree = let a = r.comes_to in cc (is, a) in
    never (subst (λ (x : Echo). HasReply x d.method d.number tree) (sym same) (subst (λ (x : Node). HasReply e d.method d.number x) one r.has))
replied_by e f d copy tree (Some t) same is given has =
    record {
      comes_to = is ∙ ap copied (sym given);
      has = subst (λ (x : Node). HasReply e d.method d.number x) (sym given) (subst (λ (x : Echo). HasReply x d.method d.number tree) same has);
    }

pub normal_reply : (T : Table) (e : Echo) (method number : ℕ) (tree : Node) (answer : Option Node)
    → e.table ≡ T → IsNormal T (message_of T method Request) tree → IfSome answer (λ t. t ≡ tree)
    → MatchOption answer (HasReply e method number tree → ⊥) (λ t. HasReply e method number tree)
    → IfSome answer (IsNormal T (message_of T method Reply))
normal_reply T e method number tree None same normal given never = tt
normal_reply T e method number tree (Some t) same normal given has =
    let types = subst (λ (x : Table). message_of x method Request ≡ message_of x method Reply) same has.types in
    subst (λ (x : Node). IsNormal T (message_of T method Reply) x) (sym given) (subst (λ (m : ℕ). IsNormal T m tree) types normal)

pub echo_same : (T : Table) (a b : EchoState) → a.writer.heap ≡ b.writer.heap → a.reader.heap ≡ b.reader.heap → a.ring ≡ b.ring
    → echo_of T a ≡ echo_of T b
echo_same T a b heap receive ring = cc (ap (λ h. h.words) heap, ap (λ h. h.words) receive, ring)
