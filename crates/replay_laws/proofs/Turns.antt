-- Tickets that are drawn in turn, after one more event.
use Rattle.std.proofs.Common.{◌≡◌, ◌⊎◌, inl, inr, ℕ, zero, suc, ◌+◌, ◌==◌, ◌&&◌, Bool, true, false, cond, List, []}
use Rattle.std.proofs.Common.{◌∷◌, ◌++◌, length, refl, sym, ap, ◌∙◌, subst, append_assoc, append-nil, length-append}
use Rattle.std.proofs.Common.{arith}
use Rattle.std.specs.Prelude.{Option, Some}
use Rattle.std.specs.List.{range_with_len}
use Rattle.std.specs.Option.{option_map_or}
use Rattle.std.proofs.lemmas.Bool.Decides.{nat_tests}
use Rattle.engine_core.specs.declared.outcome.Noted.TheVariants as notes
use Rattle.engine_core.specs.declared.policy.Policy.{Policy}
use Rattle.engine_core.specs.declared.policy.Policy.TheVariants.{Access, Rate, Quota, Count, Redact}
use Rattle.call_history.specs.Trace.{Trace, policy_in_trace}
use Rattle.call_history.specs.Legal.{History, trace_of}
use Rattle.call_history.specs.Tickets.{tickets_drawn_by, is_quota_of}
use Rattle.call_history.specs.declared.happening.ConnectionEvent.{ConnectionEvent}
use Rattle.call_history.specs.declared.happening.Happening.TheVariants.{Drawn}
use Rattle.replay_run.specs.Tickets.{AreConsecutive, tickets, tickets_after}
use Rattle.replay_laws.proofs.Outcomes.{IsNext}

after-one : (tenant window : ℕ) (b h : History) (x : ConnectionEvent) → tickets_after tenant window b (h ++ x ∷ [])
    ≡ tickets_after tenant window b h ++ tickets_drawn_by tenant window x.what (trace_of x.conn (b ++ h))
after-one tenant window b [] x =
    append-nil (tickets_drawn_by tenant window x.what (trace_of x.conn b))
    ∙ ap (λ c. tickets_drawn_by tenant window x.what (trace_of x.conn c)) (sym (append-nil b))
after-one tenant window b (y ∷ h) x =
    let now : List ℕ = tickets_drawn_by tenant window y.what (trace_of y.conn b) in
    let rest : List ℕ = tickets_after tenant window (b ++ y ∷ []) h in
    ap (λ ts. now ++ ts) (after-one tenant window (b ++ y ∷ []) h x
    ∙ ap (λ c. rest ++ tickets_drawn_by tenant window x.what (trace_of x.conn c)) (append_assoc b (y ∷ []) h))
    ∙ sym (append_assoc now rest (tickets_drawn_by tenant window x.what (trace_of x.conn (b ++ y ∷ h))))

range-push : (a n m : ℕ) → m ≡ a + n → range_with_len a (n + 1) ≡ range_with_len a n ++ m ∷ []
range-push a zero m is = let same : a ≡ m = omega arith in ap (λ k. k ∷ []) same
range-push a (suc n) m is =
    let long : suc n + 1 ≡ suc (n + 1) = omega arith in
    let later : m ≡ a + 1 + n = omega arith in
    ap (range_with_len a) long ∙ ap (λ ks. a ∷ ks) (range-push (a + 1) n m later)

-- none is drawn, or the next one
abbrev pub IsNoneOrNext : List ℕ → ℕ → Type 0
IsNoneOrNext xs n = (xs ≡ []) ⊎ (xs ≡ n ∷ [])

abbrev Counts : List ℕ → Type 0
Counts ts = ts ≡ range_with_len 0 (length ts)

counts-push : (ts xs : List ℕ) → Counts ts → IsNoneOrNext xs (length ts) → Counts (ts ++ xs)
counts-push ts xs counts (inl none) = subst Counts (sym (append-nil ts) ∙ ap (λ ys. ts ++ ys) (sym none)) counts
counts-push ts xs counts (inr one) =
    let long : length (ts ++ length ts ∷ []) ≡ length ts + 1 = length-append ts (length ts ∷ []) in
    let there : length ts ≡ 0 + length ts = omega arith in
    let pushed : Counts (ts ++ length ts ∷ []) =
    ap (λ ys. ys ++ length ts ∷ []) counts ∙ sym (range-push 0 (length ts) (length ts) there) ∙ ap (range_with_len 0) (sym long) in
    subst (λ ys. Counts (ts ++ ys)) (sym one) pushed

abbrev pub next_in : History → ℕ → ℕ → ℕ
next_in h tenant window = length (tickets tenant window h)

-- the event draws no ticket but the next
abbrev pub TellsNext : History → ConnectionEvent → Type 0
TellsNext h x = (tenant window : ℕ)
    → IsNoneOrNext (tickets_drawn_by tenant window x.what (trace_of x.conn h)) (next_in h tenant window)

pub turns-on : (h : History) (x : ConnectionEvent) → AreConsecutive h → TellsNext h x → AreConsecutive (h ++ x ∷ [])
turns-on h x turn tells tenant window =
    subst Counts (sym (after-one tenant window [] h x))
    (counts-push (tickets tenant window h) (tickets_drawn_by tenant window x.what (trace_of x.conn h)) (turn tenant window) (tells tenant window))

-- ---- a draw

draw-if : (here own : Bool) (ticket n : ℕ) → (here ≡ true → own ≡ true → ticket ≡ n) → IsNoneOrNext (cond (here && own) (ticket ∷ []) []) n
draw-if true true ticket n same = inr (ap (λ k. k ∷ []) (same refl refl))
draw-if true false ticket n same = inl refl
draw-if false true ticket n same = inl refl
draw-if false false ticket n same = inl refl

same-number : (a b : ℕ) → (a == b) ≡ true → a ≡ b
same-number a b test = grind (arith, nat_tests)

own-next : (next : ℕ → ℕ → ℕ) (policy : Policy) (at ticket tenant window : ℕ) → IsNext next (notes.Drawn at ticket) policy
    → (at == window) ≡ true → is_quota_of tenant policy ≡ true → ticket ≡ next tenant window
own-next next (Access p) at ticket tenant window is here own = absurd cc
own-next next (Rate r) at ticket tenant window is here own = absurd cc
own-next next (Quota owner per cap) at ticket tenant window is here own =
    is ∙ ap (λ t. next t at) (same-number owner tenant own) ∙ ap (next tenant) (same-number at window here)
own-next next Count at ticket tenant window is here own = absurd cc
own-next next (Redact clears) at ticket tenant window is here own = absurd cc

pub draw-tells : (next : ℕ → ℕ → ℕ) (policy : Policy) (seq : ℕ) (name : List ℕ) (at ticket : ℕ) (past : Trace)
    → policy_in_trace name past ≡ Some policy → IsNext next (notes.Drawn at ticket) policy
    → (tenant window : ℕ) → IsNoneOrNext (tickets_drawn_by tenant window (Drawn seq name at ticket) past) (next tenant window)
draw-tells next policy seq name at ticket past is turn tenant window =
    draw-if (at == window) (option_map_or (is_quota_of tenant) (policy_in_trace name past) false) ticket (next tenant window)
    (λ here own. own-next next policy at ticket tenant window turn here
    (ap (λ (o : Option Policy). option_map_or (is_quota_of tenant) o false) (sym is) ∙ own))
