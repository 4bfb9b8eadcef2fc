-- The handshake at an end of a link.
use Rattle.std.proofs.Common.{◌≡◌, ◌≢◌, ℕ, ◌≤◌, ◌⊎◌, inl, inr, Bool, true, false, List, [], ◌∷◌, ◌++◌, Option, Some}
use Rattle.std.proofs.Common.{None, Result, Ok, Err, refl, sym, ap, subst, ◌∙◌, arith}
use Rattle.std.specs.Prelude.{IfSome, IsTrue, OnOk}
use Rattle.std.specs.Io.KnownBytes.{Appends}
use Rattle.std.specs.Option.{option_copied}
use Rattle.mrpc_base.specs.Failures.{HasCause, HasRisen}
use Rattle.mrpc_base.specs.declared.link.Link.{Ghosts as LinkMembers}
use Rattle.mrpc_table.specs.declared.table.Table.{Table}
use Rattle.message_delivery.specs.declared.arrivals.Arrivals.{Arrivals}
use Rattle.message_delivery.specs.declared.arrivals.StreamState.{StreamState}
use Rattle.message_delivery.specs.declared.arrivals.StreamState.TheVariants.{Failed}
use Rattle.link_handshake.specs.Handshake.{HasBound, IsBound, IsUnbound, failed}
use Rattle.link_handshake.specs.declared.unbound.Unbound.{Unbound}
use Rattle.run_plan.specs.Chains.{inbound_of, app_table}
use Rattle.run_plan.specs.declared.application.Application.{Application}
use Rattle.run_plan.specs.declared.plan.Plan.{Plan}
use Rattle.shared_heap.specs.Fresh.{Reading}
use Rattle.service.specs.Handshakes.{IsHelloOutcome, WasHelloReceived, WasLeftUnbound, WasHelloSent}
use Rattle.service.specs.Served.{IsNewLink, WasRefused, app_hello}

-- ---- what is received

-- a hello can't be both sent and not sent
both : {P : Type 0} (said : Bool) → said ≡ true → said ≡ false → P
both said agreed unsaid = absurd (let wrong : true ≡ false = sym agreed ∙ unsaid in cc)

-- ---- the outcome of the handshake

appends-same : (a a' b b' : Option (List ℕ)) (bytes : List ℕ) → a' ≡ a → b' ≡ b → Appends a b bytes
    → Appends a' b' bytes
appends-same a a' b b' bytes same same' h =
    subst (λ x. Appends x b' bytes) (sym same) (subst (λ y. Appends a y bytes) (sym same') h)

rose-falls : (before now : ℕ) → before ≡ 0 → HasRisen before now → before ≤ now
rose-falls before now none rose = omega (arith, none)

cause-by : (said : Bool) (state : StreamState) (start middle now : ℕ) → start ≡ 0 → (said ≡ true → middle ≡ start)
    → (said ≡ false → HasRisen start middle) → (said ≡ true → HasCause (state ≡ Failed) middle now)
    → (said ≡ false → state ≡ Failed) → (said ≡ false → now ≡ middle) → HasCause (state ≡ Failed) start now
cause-by true state start middle now none stays rose cause fails same =
    subst (λ n. HasCause (state ≡ Failed) n now) (stays refl) (cause refl)
cause-by false state start middle now none stays rose cause fails same = record {
  rose = λ _. subst (λ n. HasRisen start n) (sym (same refl)) (rose refl);
  stays = λ works. absurd (works (fails refl));
  never_falls = rose-falls start now none (subst (λ n. HasRisen start n) (sym (same refl)) (rose refl));
}

module _ {L : Type 0} (of_link : LinkMembers L) (plan : Plan) (app : Application) (start link heard now : L)
    (said : Bool) (new : IsNewLink of_link start) (was : WasHelloSent of_link plan app start link said)
    (handed : of_link.handed heard ≡ of_link.handed link) (handed' : of_link.handed now ≡ of_link.handed heard)
    (given' : of_link.given now ≡ of_link.given heard) (ended' : of_link.ended now ≡ of_link.ended heard)
    (faults' : of_link.failures now ≡ of_link.failures heard) where
  handed-by : (said' : Bool) → said' ≡ said → (state : StreamState) → (said' ≡ false → state ≡ Failed)
      → (of_link.handed now ≡ app_hello plan app ∷ []) ⊎ ((of_link.handed now ≡ []) × (state ≡ Failed))
  handed-by true is state fails = inl (handed' ∙ handed ∙ was.handed (sym is))
  handed-by false is state fails = inr (handed' ∙ handed ∙ was.not_handed (sym is), fails refl)

  pub refused-by : (T : Table) (why : Unbound) → T ≡ app_table plan app
      → WasLeftUnbound plan.service T (of_link.given link) (of_link.given heard) (of_link.failures link) (of_link.failures heard)
      said (of_link.ended heard) why → WasRefused of_link plan app start now why
  refused-by T why table h = record {
    stream = h.stream;
    fault = h.fault;
    state = h.state;
    came = appends-same (of_link.given link) (of_link.given start) (of_link.given heard) (of_link.given now) h.stream
        (sym was.given) given' h.came;
    unbound = subst (λ (x : Table). IsUnbound x plan.service h.stream h.fault h.state why) table h.unbound;
    says = h.says;
    handed = handed-by said refl h.state h.failed;
    ended = λ is. subst (λ b. IsTrue b) (sym ended') (h.ends is);
    cause = subst (λ n. HasCause (h.state ≡ Failed) (of_link.failures start) n) (sym faults')
        (cause-by said h.state (of_link.failures start) (of_link.failures link) (of_link.failures heard) new.failures was.stays
        was.rose h.cause h.failed h.stays);
    transport = h.transport;
  }

  pub heard-by : (a : Arrivals) (reader : Reading) → said ≡ true → of_link.failures heard ≡ of_link.failures link
      → a.table.now ≡ app_table plan app → HasBound plan.service (of_link.given link) (of_link.given heard) a
      → a.stream ≢ Failed → a.inbound.heap.held ≡ [] → option_copied a.policy ≡ inbound_of plan app
      → reader.heap ≡ a.writer.heap → reader.loads ≡ [] → reader.heap.words ≡ app.receive
      → WasHelloReceived of_link plan app start now a reader
  heard-by a reader agreed works table h working held policy heap loads words = record {
    stream = h.stream;
    fault = h.fault;
    hello = h.hello;
    came = appends-same (of_link.given link) (of_link.given start) (of_link.given heard) (of_link.given now) h.stream
        (sym was.given) given' h.came;
    bound = subst (λ (x : Table). IsBound x plan.service h.stream h.fault h.hello) table h.bound;
    lived = h.lived;
    handed = handed' ∙ handed ∙ was.handed agreed;
    failures = faults' ∙ works ∙ was.stays agreed ∙ new.failures;
    working = working;
    none_held = held;
    table = table;
    policy = policy;
    one_heap = heap;
    not_loaded = loads;
    words = words;
  }

pub heard-as : {L : Type 0} (of_link : LinkMembers L) (plan : Plan) (app : Application) (start now : L) (a : Arrivals)
    (reader : Reading) (unbound : Option Unbound) → (unbound ≡ None → WasHelloReceived of_link plan app start now a reader)
    → ((why : Unbound) → unbound ≡ Some why → WasRefused of_link plan app start now why)
    → IsHelloOutcome of_link plan app start now a reader unbound
heard-as of_link plan app start now a reader None bound refused = bound refl
heard-as of_link plan app start now a reader (Some why) bound refused = refused why refl

-- ---- what a link was handed as it sent its hello

pub said-by : {L : Type 0} (of_link : LinkMembers L) (plan : Plan) (app : Application) (start link now : L)
    (said : Bool) (hello : List ℕ) → IsNewLink of_link start → hello ≡ app_hello plan app
    → (said ≡ true → of_link.handed link ≡ of_link.handed start ++ hello ∷ [])
    → (said ≡ false → of_link.handed link ≡ of_link.handed start)
    → HasCause (said ≡ false) (of_link.failures start) (of_link.failures link)
    → of_link.given link ≡ of_link.given start
    → ((first : L) → of_link.since first start → of_link.since first link) → of_link.handed now ≡ of_link.handed link
    → of_link.given now ≡ of_link.given link → of_link.failures now ≡ of_link.failures link
    → ((first : L) → of_link.since first link → of_link.since first now) → WasHelloSent of_link plan app start now said
said-by of_link plan app start link now said hello new is handed kept cause given since handed' given' faults' since' =
    record {
      given = given' ∙ given;
      handed = λ agreed. handed' ∙ handed agreed ∙ ap (λ fs. fs ++ hello ∷ []) new.handed ∙ ap (λ f. f ∷ []) is;
      not_handed = λ unsaid. handed' ∙ kept unsaid ∙ new.handed;
      stays = λ agreed. faults' ∙ cause.stays (λ unsaid. both said agreed unsaid);
      rose = λ unsaid. subst (λ n. HasRisen (of_link.failures start) n) (sym faults') (cause.rose unsaid);
      same_link = λ first from. since' first (since first from);
    }

-- the same cause, of the result and of its value
pub cause-of : {E : Type 0} (said : Bool) (before now : ℕ)
    → HasCause (◌≡◌ {A = Result Bool E} (Ok said) (Ok false)) before now → HasCause (said ≡ false) before now
cause-of said before now cause = record {
  rose = λ unsaid. cause.rose (ap Ok unsaid);
  stays = λ never. cause.stays (λ same. never (cc));
  never_falls = cause.never_falls;
}

pub on-some : {X : Type 0} (P : X → Type 0) (o : Option X) (x : X) → o ≡ Some x → IfSome o P → P x
on-some P o x is h = subst (λ o. IfSome o P) is h

pub on-ok-map : {A E : Type 0} (P Q : Type 0) (r : Result A E) → (P → Q) → OnOk r P → OnOk r Q
on-ok-map P Q (Ok x) f h = f h
on-ok-map P Q (Err e) f h = tt
