-- The effect of a submission on a connection of a run.
use Rattle.std.proofs.Common.{◌≡◌, ℕ, ◌≤◌, inl, inr, List, [], ◌++◌, length, refl, sym, ap, ◌∙◌, subst, append-nil}
use Rattle.mrpc_base.specs.Heap.{Heap, IsLoad, IsRoomChange, stores_of}
use Rattle.mrpc_table.specs.declared.limits.TheConstants.{MIN_HEAP, MAX_HEAP}
use Rattle.graph_copy.specs.Copies.{loads_since}
use Rattle.graph_form.specs.Malformed.{AreReadBy}
use Rattle.replay_script.specs.declared.script.ScriptLine.TheVariants as line
use Rattle.call_history.specs.Transitions.{accepts, turns_away}
use Rattle.call_history.specs.Loads.{IsLoaded, Loads}
use Rattle.call_history.specs.declared.happening.AcceptedCall.{AcceptedCall}
use Rattle.conn_core.specs.Connections.{Connection as Calls, IsSameConnection, conn_state}
use Rattle.conn_core.specs.ConnectionSteps.{IsReadBy}
use Rattle.conn_core.specs.declared.answers.Ask.{Ask}
use Rattle.replay_run.specs.Follows.{is_away, read_at, submits}
use Rattle.replay_run.specs.Kept.{AreInOrder, IsEffectFor, IsBetweenSubmissions, HasKept, IsSubmission, accepted, open_connection_of, rejected}
use Rattle.replay_run.specs.declared.connection.RunConnection.{RunConnection}
use Rattle.replay_run.proofs.Races.{Read, read-submission}
use Rattle.replay_run.proofs.Sent.{comes-of}

-- the heap after a submission: the remaining races are made
pub record IsFinished (mid new : Heap) : Type 0 where
  pub stores : new.stores ≡ mid.stores ++ stores_of mid.races
  pub races : new.races ≡ []
  pub begun : new.begun ≡ 0
  pub size : new.size ≡ mid.size
  pub loads : new.loads ≡ mid.loads

abbrev pub with_heap : RunConnection → Calls → Heap → RunConnection
with_heap c calls heap = record c { calls = calls; heap = heap }

-- what was read of the heap
record IsRead (old mid : Heap) (own : Loads) : Type 0 where
  reads : AreReadBy (read_at old.stores old.races) 1 own
  all : mid.stores ++ stores_of mid.races ≡ old.stores ++ stores_of old.races

read-heap : (old mid : Heap) (own : Loads) → IsBetweenSubmissions old → IsReadBy IsRoomChange IsLoad old own mid → IsRead old mid own
read-heap old mid own rests (inl none) = record {
  reads = subst (AreReadBy (read_at old.stores old.races) 1) (sym none.0) tt;
  all = ap (λ (h : Heap). h.stores ++ stores_of h.races) none.1;
}
read-heap old mid own rests (inr only) =
    let read : Read old.stores old.races 0 old.size own mid = read-submission old mid own rests.in_order rests.begun only in
    record { reads = read.read; all = read.all }

opened-as : (c : RunConnection) (calls : Calls) (new : Heap) (stores : List (ℕ × ℕ)) (loads : Loads)
    → IsSameConnection c.calls calls → new.size ≡ c.heap.size → new.stores ≡ stores → new.races ≡ []
    → new.loads ≡ loads → open_connection_of (with_heap c calls new) ≡ record { conn = c.calls.conn; words = c.heap.size; stores = stores; races = []; loads = loads; course = conn_state calls }
opened-as c calls new stores loads same size stored raced loaded = (λ i. record {
  conn = same.conn i;
  words = size i;
  stores = stored i;
  races = raced i;
  loads = loaded i;
  course = conn_state calls;
})

keeps-finished : (c : RunConnection) (calls : Calls) (mid new : Heap) → IsSameConnection c.calls calls → IsBetweenSubmissions c.heap
    → mid.size ≡ c.heap.size → IsFinished mid new → HasKept c (with_heap c calls new)
keeps-finished c calls mid new same rests size done =
    let whole : c.heap.size ≡ new.size = sym (done.size ∙ size) in
    record {
      same = same;
      rests = record {
        least = subst (λ n. MIN_HEAP ≤ n) whole rests.least;
        greatest = subst (λ n. n ≤ MAX_HEAP) whole rests.greatest;
        begun = done.begun;
        in_order = subst AreInOrder (sym done.races) tt;
      };
      told = refl;
    }

pub submission-keeps : (c : RunConnection) (ask : Ask) (calls : Calls) (mid new : Heap) → IsSameConnection c.calls calls
    → IsBetweenSubmissions c.heap → IsSubmission ask c.calls calls c.heap mid → IsFinished mid new
    → HasKept c (with_heap c calls new)
submission-keeps c ask calls mid new same rests (accepted seq accepts_it adds size reads) done = keeps-finished c calls mid new same rests size done
submission-keeps c ask calls mid new same rests (rejected step still) done = keeps-finished c calls mid new same rests (ap (λ (h : Heap). h.size) still) done

pub submission-does : (c : RunConnection) (ask : Ask) (calls : Calls) (mid new : Heap) → IsSameConnection c.calls calls → IsBetweenSubmissions c.heap → ask.after ≡ length c.heap.stores
    → IsSubmission ask c.calls calls c.heap mid → IsFinished mid new
    → IsEffectFor (λ s l. l ≡ line.Submit c.calls.conn ask.method ask.number ask.addr) c (with_heap c calls new)
submission-does c ask calls mid new same rests after (accepted seq it adds size reads) done s l of_script is =
    let own : Loads = loads_since c.heap.loads mid.loads in
    let call : AcceptedCall = it.call in
    let read : IsRead c.heap mid own = read-heap c.heap mid own rests reads in
    let loaded : IsLoaded s.table c.heap.size s.loads call own =
    subst (λ n. IsLoaded s.table c.heap.size n call own) of_script.limit (subst (λ T. IsLoaded T c.heap.size c.calls.limit call own) of_script.table it.loaded) in
    submits call own (conn_state calls)
    (is ∙ sym (λ i. line.Submit c.calls.conn (it.method i) (it.request i) (it.address i)))
    (it.stores ∙ after) read.reads loaded (comes-of s c (accepts call) calls of_script it.step)
    (opened-as c calls new (c.heap.stores ++ stores_of c.heap.races) (c.heap.loads ++ own) same (done.size ∙ size) (done.stores ∙ read.all) done.races (done.loads ∙ adds))
submission-does c ask calls mid new same rests after (rejected step still) done s l of_script is =
    is_away ask.method ask.number ask.addr (conn_state calls) is (comes-of s c (turns_away ask.method ask.number ask.addr) calls of_script step)
    (opened-as c calls new (c.heap.stores ++ stores_of c.heap.races) (c.heap.loads ++ []) same (done.size ∙ ap (λ (h : Heap). h.size) still)
    (done.stores ∙ ap (λ (h : Heap). h.stores ++ stores_of h.races) still) done.races
    (done.loads ∙ ap (λ (h : Heap). h.loads) still ∙ sym (append-nil c.heap.loads)))
