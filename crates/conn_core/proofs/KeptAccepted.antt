-- An acceptance preserves the invariant of a connection's own fields.
use Rattle.std.proofs.Common.{◌≡◌, ℕ, ◌+◌, ◌*◌, ◌<◌, ◌≤◌, ◌^◌, Bool, false, List, [], ◌++◌, length, refl, ap, sym, ◌∙◌, subst, arith}
use Rattle.std.specs.Prelude.{All, IfSome, Option, Some, None}
use Rattle.std.specs.List.{AllZip}
use Rattle.std.proofs.lemmas.List.{length_push}
use Rattle.std.proofs.lemmas.List.Elements.{All-push, All-weaker}
use Rattle.mrpc_table.specs.declared.call.Call.{Call}
use Rattle.mrpc_table.specs.declared.table.Table.{Table}
use Rattle.engine_core.specs.Marks.{PendingCall}
use Rattle.chain_upgrade.specs.Chains.{ChainParts, IsChainState, chain_of_state}
use Rattle.call_history.specs.Trace.{copied, taken}
use Rattle.call_history.specs.Transitions.{accepts}
use Rattle.call_history.specs.Loads.{IsLoaded, Loads}
use Rattle.call_history.specs.Records.{StoredHistory}
use Rattle.call_history.specs.Rules.{MayTake, payload}
use Rattle.call_history.specs.declared.happening.AcceptedCall.{AcceptedCall}
use Rattle.conn_core.specs.Connections.{Connection, conn_trace, judge_context}
use Rattle.conn_core.specs.declared.answers.Ask.{Ask}
use Rattle.conn_core.specs.Invariant.{IsAsked, HasConnInvariant, IsPolicyOp, IsWellCopied, with_call, connection_of, acceptance_events}
use Rattle.conn_core.specs.ConnectionSteps.{IsAcceptance, IsStep}
use Rattle.conn_core.proofs.Accepting.{accepted-now, accepted-moment, form-number}
use Rattle.conn_core.proofs.Fitting.{EventsKeep}
use Rattle.conn_core.proofs.Numbers.{as-many, few-numbers}
use Rattle.conn_core.proofs.Rooms.{has-room}

joined-entries : (form : Option Call) (chain : ChainParts) → chain_of_state (with_call form chain) ≡ chain_of_state chain
joined-entries None chain = refl
joined-entries (Some f) chain = refl

joined-calls : (form : Option Call) (chain : ChainParts) → length (with_call form chain).calls ≤ length chain.calls + 1
joined-calls None chain = omega arith
joined-calls (Some f) chain = omega (arith, length_push chain.calls (record { call = f; marks = [] }))

joined-short : (T : Table) (form : Option Call) (chain : ChainParts) → IfSome form (λ f. length (payload T f) ≤ 262144)
    → All (λ s. length (payload T s.call) ≤ 262144) chain.calls
    → All (λ s. length (payload T s.call) ≤ 262144) (with_call form chain).calls
joined-short T None chain here short = short
joined-short T (Some f) chain here short =
    All-push (λ (s : PendingCall). length (payload T s.call) ≤ 262144) chain.calls (record {
      call = f;
      marks = [];
    }) short here

greater-by : (conn : ℕ) (call : AcceptedCall) (form : Option Call) (n : ℕ) (calls : List PendingCall)
    → form ≡ copied conn call call.copy → call.seq ≡ n + 1
    → All (λ s. s.call.seq ≤ n) calls → IfSome form (λ f. All (λ s. s.call.seq < f.seq) calls)
greater-by conn call None n calls is number few = tt
greater-by conn call (Some f) n calls is number few =
    let own : f.seq ≡ call.seq = form-number conn call call.copy f is in
    All-weaker (λ (s : PendingCall). s.call.seq ≤ n) (λ (s : PendingCall). s.call.seq < f.seq) (λ s le.
    omega (arith, le, own, number)) calls few

pub greater-than-all : (c : Connection) (steps : List ℕ) (history : StoredHistory) (accepted ms : ℕ) (call : AcceptedCall)
    (form : Option Call) → HasConnInvariant c steps history accepted ms
    → form ≡ copied c.conn call call.copy → call.seq ≡ accepted + 1
    → IfSome form (λ f. All (λ s. s.call.seq < f.seq) c.chain.calls)
greater-than-all c steps history accepted ms call form kept is number =
    greater-by c.conn call form accepted c.chain.calls is number
    (subst (λ (n : ℕ). All (λ s. s.call.seq ≤ n) c.chain.calls) (sym kept.count) (few-numbers c kept.connection))

-- the invariant, and the transition
pub record Accepted (old new : Connection) (steps : List ℕ) (history : StoredHistory) (accepted ms : ℕ)
    (call : AcceptedCall) : Type 0 where
  pub kept : HasConnInvariant new steps history (accepted + 1) ms
  pub step : IsStep old (accepts call) new

pub accepted-kept : EventsKeep
    → (conn : ℕ) (T : Table) (limit : ℕ) (chain chain' : ChainParts) (history history' : StoredHistory) (ended : Bool)
    (steps : List ℕ)
    (accepted ms H : ℕ) (own : Loads) (call : AcceptedCall) (form : Option Call)
    → HasConnInvariant (connection_of conn T limit chain history ended) steps history accepted ms
    → ended ≡ false → length chain.calls < 64 → call.seq ≡ accepted + 1 → IsWellCopied T H limit own call form
    → form ≡ copied conn call call.copy
    → chain' ≡ with_call form chain → IsChainState chain' → history'.steps ≡ history.steps
    → history'.happenings ≡ history.happenings ++ acceptance_events call form
    → 9 * (length chain.calls + 1) ≤ history'.room → accepted + 1 < 2 ^ 32
    → Accepted (connection_of conn T limit chain history ended) (connection_of conn T limit chain' history' ended) steps history' accepted
    ms call
accepted-kept keeps conn T limit chain chain' history history' ended steps accepted ms H own call form kept running few
    number well is chain-is stands steps-same told room most =
    let old : Connection = connection_of conn T limit chain history ended in
    let new : Connection = connection_of conn T limit chain' history' ended in
    let count : accepted ≡ length (taken (conn_trace old)) = kept.count in
    let may : MayTake (judge_context old) (conn_trace old) call = record {
      number = omega (arith, number, count);
      few = omega (arith, few, as-many old kept.connection);
      loads = well.few;
      copy = well.sound;
    } in
    let new-is : new ≡ record old {
      chain = with_call form chain;
      happenings = history.happenings ++ acceptance_events call form;
    } =
    ap (λ (c : ChainParts). record old { chain = c; happenings = history'.happenings }) chain-is
    ∙ ap (λ h. record old { chain = with_call form chain; happenings = h }) told in
    let next = accepted-now keeps old new call form kept.connection running may is new-is stands
    (omega (arith, count, most)) in
    let entries : chain_of_state chain' ≡ chain_of_state chain = ap chain_of_state chain-is ∙ joined-entries form chain in
    let calls : length chain'.calls ≤ length chain.calls + 1 =
    omega (arith, ap (λ (c : ChainParts). length c.calls) chain-is, joined-calls form chain) in record {
      kept = record {
        connection = next.1;
        valid = kept.valid;
        least_limit = kept.least_limit;
        greatest_limit = kept.greatest_limit;
        count = omega (arith, count, next.2);
        latest = kept.latest ∙ sym (accepted-moment old new call form new-is);
        engine_steps = subst (λ c. AllZip (IsPolicyOp history'.steps) steps c.entries) (sym entries)
            (subst (λ s. AllZip (IsPolicyOp s) steps (chain_of_state chain).entries) (sym steps-same) kept.engine_steps);
        short = subst (λ (c : ChainParts). All (λ s. length (payload T s.call) ≤ 262144) c.calls) (sym chain-is)
            (joined-short T form chain well.short kept.short);
        room = has-room chain'.calls (chain_of_state chain').entries history'.room stands.stands.chain.few
            (omega (arith, calls, room));
      };
      step = next.0;
    }

pub accepted-by : (H : ℕ) (ask : Ask) (seq : ℕ) (own : Loads) (before seen-before after : Connection) (call : AcceptedCall)
    → seen-before ≡ before → IsAsked seq ask call
    → IsLoaded seen-before.table H seen-before.limit call own → IsStep seen-before (accepts call) after
    → IsAcceptance H ask seq own before after
accepted-by H ask seq own before seen-before after call is asked loaded step =
    subst (λ (c : Connection). IsAcceptance H ask seq own c after) is (record {
      call = call;
      number = asked.number;
      method = asked.method;
      request = asked.request;
      address = asked.address;
      stores = asked.stores;
      loaded = loaded;
      step = step;
    })
