-- A frame has exactly one fate.
use Rattle.std.proofs.Common.{◌≡◌, ℕ, ◌-◌, ◌<◌, ◌≤◌, ◌⊎◌, List, length, Option, Some, None, Bool, true, false, inl}
use Rattle.std.proofs.Common.{inr, refl, sym, ap, subst, ◌∙◌, arith, ⊎_elim}
use Rattle.std.proofs.lemmas.Bool.{cases_lt, cases_eq}
use Rattle.mrpc_table.specs.Node.{Node}
use Rattle.mrpc_table.specs.declared.table.Table.{Table}
use Rattle.wire_decode.specs.Means.{Means}
use Rattle.wire_decode.specs.Faults.{IsFirstDecodeFault}
use Rattle.wire_decode.specs.declared.fault.DecodeReason.{DecodeReason}
use Rattle.frame_transport.specs.declared.format.Frame.{Frame}
use Rattle.policy_access.specs.Verdict.{AccessPolicy, verdict}
use Rattle.mrpc_table.specs.declared.call.Call.{Call}
use Rattle.mrpc_table.specs.Capped.{capped}
use Rattle.receive_core.specs.declared.arrival.DropCause.TheVariants.{Hello, NoMethod, Decode, Denied, Oversize}
use Rattle.receive_core.specs.Fates.{Fate, drops, arrives, IsFate, is_hello, has_no_method, is_faulty, is_denied}
use Rattle.receive_core.specs.Fates.{is_too_large, arrived, IsCall, IsCallAllowed, HasFate, HasUniqueFate, received_call, message_of_frame}
use Rattle.receive_core.specs.Fates.{block_words}

-- facts about meanings and faults
abbrev pub MeansOnce : Type 0
MeansOnce = (T : Table) (msg : ℕ) (bytes : List ℕ) (t u : Node) → Means T msg bytes t → Means T msg bytes u → t ≡ u

abbrev pub FaultsOnce : Type 0
FaultsOnce = (T : Table) (msg : ℕ) (bytes : List ℕ) (reason other : DecodeReason) (place at : ℕ)
    → IsFirstDecodeFault T msg bytes reason place → IsFirstDecodeFault T msg bytes other at → (reason ≡ other) × (place ≡ at)

abbrev pub NeverBoth : Type 0
NeverBoth = (T : Table) (msg : ℕ) (bytes : List ℕ) (t : Node) (reason : DecodeReason) (place : ℕ)
    → Means T msg bytes t → IsFirstDecodeFault T msg bytes reason place → ⊥

abbrev pub EitherOne : Type 0
EitherOne = (T : Table) (msg : ℕ) (bytes : List ℕ) → ((t : Node) × Means T msg bytes t)
    ⊎ ((reason : DecodeReason) × (place : ℕ) × IsFirstDecodeFault T msg bytes reason place)

-- ---- at least one fate

-- a call is denied or allowed
judged : (policy : Option AccessPolicy) (call : Call)
    → ((p : AccessPolicy) × (policy ≡ Some p) × ((verdict p call).allow ≡ false)) ⊎ IsCallAllowed policy call
judged None call = inr tt
judged (Some p) call = by_verdict (verdict p call).allow refl
  where
    by_verdict : (allow : Bool) → (verdict p call).allow ≡ allow
        → ((q : AccessPolicy) × (Some p ≡ Some q) × ((verdict q call).allow ≡ false)) ⊎ IsCallAllowed (Some p) call
    by_verdict false e = inl (p, refl, e)
    by_verdict true e = inr e

fate_of_call : (T : Table) (policy : Option AccessPolicy) (conn words : ℕ) (f : Frame) (t : Node) → IsCall T f → Means T (message_of_frame T f) f.payload t
    → (fate : Fate) × IsFate T policy conn words f fate
fate_of_call T policy conn words f t call means =
    ⊎_elim
    (λ denied. (drops (Denied (verdict denied.0 (received_call conn f t)).rule), is_denied call t means denied.0 denied.1 denied.2 refl))
    (λ allows. ⊎_elim
    (λ large. (drops (Oversize (capped (block_words T (message_of_frame T f) t)) words), is_too_large call t means allows large refl))
    (λ fits. (arrives t, arrived call t means allows fits refl))
    (cases_lt (words - 1) (block_words T (message_of_frame T f) t)))
    (judged policy (received_call conn f t))

pub has_fate : EitherOne → HasFate
has_fate either T policy conn words f =
    ⊎_elim
    (λ hello. (drops Hello, is_hello hello refl))
    (λ other. ⊎_elim
    (λ known. let call : IsCall T f = record { kind = other; method = known } in
    ⊎_elim
    (λ read. fate_of_call T policy conn words f read.0 call read.1)
    (λ fault. (drops (Decode fault.0 fault.1), is_faulty call fault.0 fault.1 fault.2 refl))
    (either T (message_of_frame T f) f.payload))
    (λ unknown. (drops NoMethod, has_no_method other unknown refl))
    (cases_lt f.method (length T.methods)))
    (cases_eq f.kind 3)

-- ---- at most one fate

-- a policy doesn't allow what it denies
denied_allowed : (policy : Option AccessPolicy) (p : AccessPolicy) (call : Call) → policy ≡ Some p → (verdict p call).allow ≡ false → IsCallAllowed policy call → ⊥
denied_allowed policy p call is denied allows =
    let allowed : (verdict p call).allow ≡ true = subst (λ (q : Option AccessPolicy). IsCallAllowed q call) is allows in
    let wrong : true ≡ false = sym allowed ∙ denied in
    absurd cc

pub has_one_fate : MeansOnce → FaultsOnce → NeverBoth → HasUniqueFate
has_one_fate once failures both T policy conn words f fate other (is_hello k a) (is_hello l b) = a ∙ sym b
has_one_fate once failures both T policy conn words f fate other (is_hello k a) (has_no_method l m b) = absurd (l k)
has_one_fate once failures both T policy conn words f fate other (is_hello k a) (is_faulty c r p h b) = absurd (c.kind k)
has_one_fate once failures both T policy conn words f fate other (is_hello k a) (is_denied c t m p s d b) = absurd (c.kind k)
has_one_fate once failures both T policy conn words f fate other (is_hello k a) (is_too_large c t m s l b) = absurd (c.kind k)
has_one_fate once failures both T policy conn words f fate other (is_hello k a) (arrived c t m s l b) = absurd (c.kind k)
has_one_fate once failures both T policy conn words f fate other (has_no_method k n a) (is_hello l b) = absurd (k l)
has_one_fate once failures both T policy conn words f fate other (has_no_method k n a) (has_no_method l m b) = a ∙ sym b
has_one_fate once failures both T policy conn words f fate other (has_no_method k n a) (is_faulty c r p h b) = absurd (omega (arith, n, c.method))
has_one_fate once failures both T policy conn words f fate other (has_no_method k n a) (is_denied c t m p s d b) = absurd (omega (arith, n, c.method))
has_one_fate once failures both T policy conn words f fate other (has_no_method k n a) (is_too_large c t m s l b) = absurd (omega (arith, n, c.method))
has_one_fate once failures both T policy conn words f fate other (has_no_method k n a) (arrived c t m s l b) = absurd (omega (arith, n, c.method))
has_one_fate once failures both T policy conn words f fate other (is_faulty e r p h a) (is_hello l b) = absurd (e.kind l)
has_one_fate once failures both T policy conn words f fate other (is_faulty e r p h a) (has_no_method l m b) = absurd (omega (arith, m, e.method))
has_one_fate once failures both T policy conn words f fate other (is_faulty e r p h a) (is_faulty c q o i b) =
    let same = failures T (message_of_frame T f) f.payload r q p o h i in
    a ∙ (λ j. drops (Decode (same.0 j) (same.1 j))) ∙ sym b
has_one_fate once failures both T policy conn words f fate other (is_faulty e r p h a) (is_denied c t m q s d b) = absurd (both T (message_of_frame T f) f.payload t r p m h)
has_one_fate once failures both T policy conn words f fate other (is_faulty e r p h a) (is_too_large c t m s l b) = absurd (both T (message_of_frame T f) f.payload t r p m h)
has_one_fate once failures both T policy conn words f fate other (is_faulty e r p h a) (arrived c t m s l b) = absurd (both T (message_of_frame T f) f.payload t r p m h)
has_one_fate once failures both T policy conn words f fate other (is_denied e u n q s d a) (is_hello l b) = absurd (e.kind l)
has_one_fate once failures both T policy conn words f fate other (is_denied e u n q s d a) (has_no_method l m b) = absurd (omega (arith, m, e.method))
has_one_fate once failures both T policy conn words f fate other (is_denied e u n q s d a) (is_faulty c r p h b) = absurd (both T (message_of_frame T f) f.payload u r p n h)
has_one_fate once failures both T policy conn words f fate other (is_denied e u n q s d a) (is_denied c t m p z y b) =
    let tree = once T (message_of_frame T f) f.payload u t n m in
    let policies : Some q ≡ Some p = sym s ∙ z in
    let policy : q ≡ p = cc in
    a ∙ (λ j. drops (Denied (verdict (policy j) (received_call conn f (tree j))).rule)) ∙ sym b
has_one_fate once failures both T policy conn words f fate other (is_denied e u n q s d a) (is_too_large c t m z l b) =
    let tree = once T (message_of_frame T f) f.payload u t n m in
    absurd (denied_allowed policy q (received_call conn f u) s d (subst (λ (v : Node). IsCallAllowed policy (received_call conn f v)) (sym tree) z))
has_one_fate once failures both T policy conn words f fate other (is_denied e u n q s d a) (arrived c t m z l b) =
    let tree = once T (message_of_frame T f) f.payload u t n m in
    absurd (denied_allowed policy q (received_call conn f u) s d (subst (λ (v : Node). IsCallAllowed policy (received_call conn f v)) (sym tree) z))
has_one_fate once failures both T policy conn words f fate other (is_too_large e u n s k a) (is_hello l b) = absurd (e.kind l)
has_one_fate once failures both T policy conn words f fate other (is_too_large e u n s k a) (has_no_method l m b) = absurd (omega (arith, m, e.method))
has_one_fate once failures both T policy conn words f fate other (is_too_large e u n s k a) (is_faulty c r p h b) = absurd (both T (message_of_frame T f) f.payload u r p n h)
has_one_fate once failures both T policy conn words f fate other (is_too_large e u n s k a) (is_denied c t m q z d b) =
    let tree = once T (message_of_frame T f) f.payload u t n m in
    absurd (denied_allowed policy q (received_call conn f t) z d (subst (λ (v : Node). IsCallAllowed policy (received_call conn f v)) tree s))
has_one_fate once failures both T policy conn words f fate other (is_too_large e u n s k a) (is_too_large c t m z l b) =
    let tree = once T (message_of_frame T f) f.payload u t n m in
    a ∙ ap (λ (v : Node). drops (Oversize (capped (block_words T (message_of_frame T f) v)) words)) tree ∙ sym b
has_one_fate once failures both T policy conn words f fate other (is_too_large e u n s k a) (arrived c t m z l b) =
    let tree = once T (message_of_frame T f) f.payload u t n m in
    absurd (omega (arith, subst (λ (v : Node). words - 1 < block_words T (message_of_frame T f) v) tree k, l))
has_one_fate once failures both T policy conn words f fate other (arrived e u n s k a) (is_hello l b) = absurd (e.kind l)
has_one_fate once failures both T policy conn words f fate other (arrived e u n s k a) (has_no_method l m b) = absurd (omega (arith, m, e.method))
has_one_fate once failures both T policy conn words f fate other (arrived e u n s k a) (is_faulty c r p h b) = absurd (both T (message_of_frame T f) f.payload u r p n h)
has_one_fate once failures both T policy conn words f fate other (arrived e u n s k a) (is_denied c t m q z d b) =
    let tree = once T (message_of_frame T f) f.payload u t n m in
    absurd (denied_allowed policy q (received_call conn f t) z d (subst (λ (v : Node). IsCallAllowed policy (received_call conn f v)) tree s))
has_one_fate once failures both T policy conn words f fate other (arrived e u n s k a) (is_too_large c t m z l b) =
    let tree = once T (message_of_frame T f) f.payload u t n m in
    absurd (omega (arith, subst (λ (v : Node). block_words T (message_of_frame T f) v ≤ words - 1) tree k, l))
has_one_fate once failures both T policy conn words f fate other (arrived e u n s k a) (arrived c t m z l b) =
    let tree = once T (message_of_frame T f) f.payload u t n m in
    a ∙ ap arrives tree ∙ sym b
