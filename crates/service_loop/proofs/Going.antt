-- The invariant of submissions as they advance.
use Rattle.std.proofs.Common.{◌≡◌, ◌⊎◌, ℕ, ◌+◌, ◌≤◌, Bool, true, false, List, [], ◌∷◌, ◌++◌, length, map, flat_map}
use Rattle.std.proofs.Common.{take, drop, refl, ap, sym, ◌∙◌, subst, arith, append_assoc, append-nil}
use Rattle.std.specs.Prelude.{Some, slice_get}
use Rattle.std.specs.List.{AllZip}
use Rattle.std.proofs.lemmas.List.{map-append, length-append}
use Rattle.std.proofs.lemmas.Grind.{flat_map-append}
use Rattle.mrpc_table.specs.declared.table.Table.{Table}
use Rattle.shared_heap.specs.Fresh.{CallLoads, AreFresh, HeapId, Reading, word_of_load}
use Rattle.descriptor_ring.specs.Rings.{Receiving}
use Rattle.descriptor_ring.specs.declared.descriptor.Descriptor.{Descriptor}
use Rattle.call_history.specs.Trace.{taken}
use Rattle.call_history.specs.Loads.{IsLoaded, Loads}
use Rattle.call_history.specs.declared.happening.AcceptedCall.{AcceptedCall}
use Rattle.conn_core.specs.Connections.{Connection, IsSameConnection, conn_trace, conn_state, judge_context}
use Rattle.conn_core.specs.ConnectionSteps.{IsAcceptance}
use Rattle.service_loop.specs.Calls.{HasAcceptedAll, IsReaderOf, HasLoads, ask_of, asked, rejected_count}
use Rattle.service_loop.specs.Serving.{HasServedCalls}
use Rattle.service_loop.specs.ScheduledOps.{AreCountsAscending, AreApplied, all_taken, applied_ops}
use Rattle.service_loop.specs.declared.scheduled_op.ScheduledOp.{ScheduledOp}
use Rattle.service_loop.proofs.Coming.{come-beside, come-next, come-open, left-next}
use Rattle.service_loop.proofs.Events.{HasAccepted, HasStepped, accepted-in}
use Rattle.service_loop.proofs.Lists.{IsAt, zip-push}

-- ---- no call is taken

readers-beside : (a b : Connection) (r : Reading) → IsSameConnection a b → taken (conn_trace b) ≡ taken (conn_trace a) → IsReaderOf a r
    → IsReaderOf b r
readers-beside a b r same calls h = record {
  calls = h.calls;
  each = subst (λ (T : Table). AllZip (HasLoads T r.heap.words b.limit) (taken (conn_trace b)) h.calls) (sym same.table)
      (subst (λ (n : ℕ). AllZip (HasLoads a.table r.heap.words n) (taken (conn_trace b)) h.calls) (sym same.limit)
      (subst (λ (xs : List AcceptedCall). AllZip (HasLoads a.table r.heap.words a.limit) xs h.calls) (sym calls) h.each));
  all = h.all;
  fresh = h.fresh;
}

accepts-beside : (a b : Connection) (items : List Descriptor) → (b.ended ≡ false → a.ended ≡ false)
    → taken (conn_trace b) ≡ taken (conn_trace a) → rejected_count (conn_trace b) ≡ rejected_count (conn_trace a) → HasAcceptedAll a items
    → HasAcceptedAll b items
accepts-beside a b items linked calls away h = record {
  rejected = h.rejected;
  in_order = h.in_order ∙ ap (λ (xs : List AcceptedCall). map asked xs ++ h.rejected) (sym calls);
  all = λ is. h.all (linked is);
  none_away = away ∙ h.none_away;
}

-- no call is taken and no operation is applied
pub serves-beside : (a b : Connection) (r : Reading) (ring : Receiving) (steps : List ScheduledOp) (applied count : ℕ)
    → IsSameConnection a b → (b.ended ≡ false → a.ended ≡ false) → taken (conn_trace b) ≡ taken (conn_trace a)
    → applied_ops (conn_trace b) ≡ applied_ops (conn_trace a) → rejected_count (conn_trace b) ≡ rejected_count (conn_trace a)
    → HasServedCalls a r ring steps applied count → HasServedCalls b r ring steps applied count
serves-beside a b r ring steps applied count same linked calls came away h = record {
  least_heap = h.least_heap;
  greatest_heap = h.greatest_heap;
  one_heap = h.one_heap;
  are_scheduled = h.are_scheduled;
  loads = readers-beside a b r same calls h.loads;
  calls = accepts-beside a b ring.taken linked calls away h.calls;
  count = h.count ∙ ap length (sym calls);
  within = h.within;
  came = come-beside ring.closed (conn_trace a) (conn_trace b) (take applied steps) calls came h.came;
  left = h.left;
}

-- ---- an operation

-- the next operation is applied
pub serves-step : (a b : Connection) (r : Reading) (ring : Receiving) (steps : List ScheduledOp) (applied count : ℕ)
    (due : ScheduledOp) → IsSameConnection a b → HasStepped (conn_state a) (conn_state b) due.step → slice_get steps applied ≡ Some due
    → IsAt steps applied due → (ring.closed ≡ true) ⊎ (due.count ≤ count) → HasServedCalls a r ring steps applied count
    → HasServedCalls b r ring steps (applied + 1) count
serves-step a b r ring steps applied count due same stepped found at reached h =
    let calls : taken (conn_trace b) ≡ taken (conn_trace a) = ap taken stepped.past in
    let came : applied_ops (conn_trace b) ≡ applied_ops (conn_trace a) ++ (due.step, length (taken (conn_trace a))) ∷ [] =
    ap applied_ops stepped.past in
    let away : rejected_count (conn_trace b) ≡ rejected_count (conn_trace a) = ap rejected_count stepped.past in
    record {
      least_heap = h.least_heap;
      greatest_heap = h.greatest_heap;
      one_heap = h.one_heap;
      are_scheduled = h.are_scheduled;
      loads = readers-beside a b r same calls h.loads;
      calls = accepts-beside a b ring.taken (λ is. sym stepped.ended ∙ is) calls away h.calls;
      count = h.count ∙ ap length (sym calls);
      within = omega (arith, at.within);
      came = come-next ring.closed (conn_trace a) (conn_trace b) steps applied count due calls came h.count at h.left reached
          h.came;
      left = left-next steps applied count due at h.left;
    }

-- ---- a call

-- a descriptor was taken, and rejected because the link has failed
pub serves-given-up : (c : Connection) (r : Reading) (old new : Receiving) (steps : List ScheduledOp) (applied count : ℕ)
    (d : Descriptor) → c.ended ≡ true → new.taken ≡ old.taken ++ d ∷ [] → new.closed ≡ old.closed
    → new.heap ≡ old.heap → HasServedCalls c r old steps applied count → HasServedCalls c r new steps applied count
serves-given-up c r old new steps applied count d ended items closed heap h = record {
  least_heap = h.least_heap;
  greatest_heap = h.greatest_heap;
  one_heap = heap ∙ h.one_heap;
  are_scheduled = h.are_scheduled;
  loads = h.loads;
  calls = record {
    rejected = h.calls.rejected ++ ask_of d ∷ [];
    in_order = ap (map ask_of) items ∙ map-append ask_of old.taken (d ∷ []) ∙ ap (λ xs. xs
        ++ ask_of d ∷ []) h.calls.in_order
        ∙ append_assoc (map asked (taken (conn_trace c))) h.calls.rejected (ask_of d ∷ []);
    all = λ is. absurd (let wrong : true ≡ false = sym ended ∙ is in cc);
    none_away = h.calls.none_away;
  };
  count = h.count;
  within = h.within;
  came = subst (λ (b : Bool). AreApplied (all_taken b (conn_trace c)) (conn_trace c) (take applied steps)) (sym closed) h.came;
  left = h.left;
}

-- the closing was taken
pub serves-closing : (c : Connection) (r : Reading) (old new : Receiving) (steps : List ScheduledOp) (applied count : ℕ)
    → new.taken ≡ old.taken → new.heap ≡ old.heap
    → AreApplied (all_taken new.closed (conn_trace c)) (conn_trace c) (take applied steps) → HasServedCalls c r old steps applied count
    → HasServedCalls c r new steps applied count
serves-closing c r old new steps applied count items heap came h = record {
  least_heap = h.least_heap;
  greatest_heap = h.greatest_heap;
  one_heap = heap ∙ h.one_heap;
  are_scheduled = h.are_scheduled;
  loads = h.loads;
  calls = record {
    rejected = h.calls.rejected;
    in_order = ap (map ask_of) items ∙ h.calls.in_order;
    all = h.calls.all;
    none_away = h.calls.none_away;
  };
  count = h.count;
  within = h.within;
  came = came;
  left = h.left;
}

-- loads of one more call
readers-more : (T : Table) (H limit : ℕ) (calls : List AcceptedCall) (loads : List CallLoads) (call : AcceptedCall) (own : Loads)
    → AllZip (HasLoads T H limit) calls loads → IsLoaded T H limit call own
    → AllZip (HasLoads T H limit) (calls ++ call ∷ []) (loads ++ (record { after = call.after; loads = own }) ∷ [])
readers-more T H limit calls loads call own zip loaded =
    zip-push (HasLoads T H limit) calls loads call (record { after = call.after; loads = own }) zip
    (record { after = refl; loaded = loaded })

more-loads : (loads : List CallLoads) (own : CallLoads) (before after : List (ℕ × ℕ))
    → before ≡ flat_map (λ (call : CallLoads). call.loads) loads → after ≡ before ++ own.loads
    → after ≡ flat_map (λ (call : CallLoads). call.loads) (loads ++ own ∷ [])
more-loads loads own before after is adds =
    adds ∙ ap (λ xs. xs ++ own.loads) is ∙ ap (λ xs. flat_map (λ (call : CallLoads). call.loads) loads ++ xs)
    (sym (append-nil own.loads))
    ∙ sym (flat_map-append (λ (call : CallLoads). call.loads) loads (own ∷ []))

-- the reader made these loads for one more call, and they are fresh
pub record HasRead (after : ℕ) (own : Loads) (old new : Reading) : Type 0 where
  pub heap : new.heap ≡ old.heap
  pub adds : map word_of_load new.loads ≡ map word_of_load old.loads ++ own
  pub fresh : (calls : List CallLoads) → AreFresh calls old.known
      → AreFresh (calls ++ (record { after = after; loads = own }) ∷ []) new.known

-- an accepted call has the next number
pub call-number : (a b : Connection) (r : Reading) (old : Receiving) (steps : List ScheduledOp) (applied count seq H : ℕ)
    (d : Descriptor) (own : Loads) → IsAcceptance H (ask_of d) seq own a b → HasServedCalls a r old steps applied count
    → seq ≡ count + 1
call-number a b r old steps applied count seq H d own accepts h =
    let in' : HasAccepted (judge_context a) accepts.call (conn_state a) (conn_state b) =
    accepted-in (judge_context a) (conn_state a) (conn_state b) accepts.call accepts.step in
    sym accepts.number ∙ in'.may.number ∙ ap (λ (n : ℕ). n + 1) (sym h.count)

-- a descriptor was taken and its call accepted
pub serves-call : (a b : Connection) (r s : Reading) (old new : Receiving) (steps : List ScheduledOp)
    (applied count seq H : ℕ) (d : Descriptor) (own : Loads) → IsSameConnection a b → a.ended ≡ false
    → H ≡ r.heap.words → IsAcceptance H (ask_of d) seq own a b → HasRead d.stores own r s
    → new.taken ≡ old.taken ++ d ∷ [] → old.closed ≡ false → new.closed ≡ false → new.heap ≡ old.heap
    → AreCountsAscending (count + 1) (drop applied steps) → HasServedCalls a r old steps applied count
    → HasServedCalls b s new steps applied seq
serves-call a b r s old new steps applied count seq H d own same linked size accepts read items unclosed-before unclosed
    heap left h =
    let in' : HasAccepted (judge_context a) accepts.call (conn_state a) (conn_state b) =
    accepted-in (judge_context a) (conn_state a) (conn_state b) accepts.call accepts.step in
    let words : s.heap.words ≡ r.heap.words = ap (λ (x : HeapId). x.words) read.heap in
    let number : seq ≡ count + 1 = call-number a b r old steps applied count seq H d own accepts h in
    let ask : asked accepts.call ≡ ask_of d =
    ap (λ (n : ℕ). record {
      method = n;
      number = accepts.call.number;
      addr = accepts.call.addr;
      after = accepts.call.after;
    }) accepts.method
    ∙ ap (λ (n : ℕ). record {
      method = d.method;
      number = n;
      addr = accepts.call.addr;
      after = accepts.call.after;
    }) accepts.request
    ∙ ap (λ (n : ℕ). record {
      method = d.method;
      number = d.number;
      addr = n;
      after = accepts.call.after;
    }) accepts.address
    ∙ ap (λ (n : ℕ). record { method = d.method; number = d.number; addr = d.addr; after = n }) accepts.stores in
    let none-up : h.calls.rejected ≡ [] = h.calls.all linked in
    let before : map ask_of old.taken ≡ map asked (taken (conn_trace a)) =
    h.calls.in_order ∙ ap (λ xs. map asked (taken (conn_trace a)) ++ xs) none-up ∙ append-nil
    (map asked (taken (conn_trace a))) in
    record {
      least_heap = omega (arith, words, h.least_heap);
      greatest_heap = omega (arith, words, h.greatest_heap);
      one_heap = heap ∙ h.one_heap ∙ sym read.heap;
      are_scheduled = h.are_scheduled;
      loads = record {
        calls = h.loads.calls ++ (record { after = accepts.call.after; loads = own }) ∷ [];
        each = subst (λ (T : Table). AllZip (HasLoads T s.heap.words b.limit) (taken (conn_trace b)) (h.loads.calls
            ++ (record { after = accepts.call.after; loads = own }) ∷ [])) (sym same.table)
            (subst (λ (n : ℕ). AllZip (HasLoads a.table s.heap.words n) (taken (conn_trace b)) (h.loads.calls
            ++ (record { after = accepts.call.after; loads = own }) ∷ [])) (sym same.limit)
            (subst (λ (xs : List AcceptedCall). AllZip (HasLoads a.table s.heap.words a.limit) xs (h.loads.calls
            ++ (record { after = accepts.call.after; loads = own }) ∷ [])) (sym in'.views.taken)
            (readers-more a.table s.heap.words a.limit (taken (conn_trace a)) h.loads.calls accepts.call own
            (subst (λ (n : ℕ). AllZip (HasLoads a.table n a.limit) (taken (conn_trace a)) h.loads.calls)
            (sym words) h.loads.each)
            (subst (λ (n : ℕ). IsLoaded a.table n a.limit accepts.call own) (size ∙ sym words) accepts.loaded))));
        all = more-loads h.loads.calls (record { after = accepts.call.after; loads = own }) (map word_of_load r.loads)
            (map word_of_load s.loads) h.loads.all read.adds;
        fresh = subst (λ (n : ℕ). AreFresh (h.loads.calls ++ (record { after = n; loads = own }) ∷ []) s.known)
            (sym accepts.stores) (read.fresh h.loads.calls h.loads.fresh);
      };
      calls = record {
        rejected = [];
        in_order = ap (map ask_of) items ∙ map-append ask_of old.taken (d ∷ []) ∙ ap (λ xs. xs ++ ask_of d ∷ []) before
            ∙ ap (λ x. map asked (taken (conn_trace a)) ++ x ∷ []) (sym ask)
            ∙ sym (map-append asked (taken (conn_trace a)) (accepts.call ∷ []))
            ∙ ap (map asked) (sym in'.views.taken) ∙ sym (append-nil (map asked (taken (conn_trace b))));
        all = λ is. refl;
        none_away = in'.views.away ∙ h.calls.none_away;
      };
      count = number ∙ ap (λ (n : ℕ). n + 1) h.count ∙ sym (length-append (taken (conn_trace a)) (accepts.call ∷ []))
          ∙ ap length (sym in'.views.taken);
      within = h.within;
      came = subst (λ (x : Bool). AreApplied (all_taken x (conn_trace b)) (conn_trace b) (take applied steps)) (sym unclosed)
          (come-open (conn_trace a) (conn_trace b) (take applied steps) in'.views.steps
          (subst (λ (x : Bool). AreApplied (all_taken x (conn_trace a)) (conn_trace a) (take applied steps)) unclosed-before
          h.came));
      left = subst (λ (n : ℕ). AreCountsAscending n (drop applied steps)) (sym number) left;
    }
