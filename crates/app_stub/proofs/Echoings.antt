-- What an echo did, after one more notice.
use Rattle.std.proofs.Common.{◌≡◌, ℕ, ◌+◌, List, [], ◌∷◌, ◌++◌, Some, None, refl, ap, sym, ◌∙◌, subst, length, length-append, append-nil, map, flat_map}
use Rattle.std.proofs.lemmas.List.{map-append}
use Rattle.std.proofs.lemmas.List.Concat.{flat_map-cons}
use Rattle.std.proofs.lemmas.Grind.{flat_map-append}
use Rattle.mrpc_table.specs.Calls.{message_of}
use Rattle.mrpc_table.specs.Node.{Node}
use Rattle.mrpc_table.specs.declared.call.CallKind.TheVariants.{Reply}
use Rattle.graph_place.specs.Size.{tree_words}
use Rattle.graph_place.specs.Stored.{IsPlacedIn}
use Rattle.shared_heap.specs.Fresh.{CallLoads, AreFresh, Reading, word_of_load}
use Rattle.descriptor_ring.specs.declared.descriptor.Descriptor.{Descriptor}
use Rattle.app_stub.specs.EchoStates.{IsCopyOutcome, left, made, IsReplyPlaced}
use Rattle.app_stub.specs.Echoing.{AllEchoes, RequestCopy, EchoTrace, Echo, HasEchoed, IsEchoOf, empty_echo_trace, nothing, only_copy, replies, slice_at}
use Rattle.app_program.specs.Programs.{Submission}

echoes_snoc : (e : Echo) (notices : List Descriptor) (d : Descriptor) (old mid new : EchoTrace)
    → AllEchoes e notices old mid → IsEchoOf e d mid new → AllEchoes e (notices ++ d ∷ []) old new
echoes_snoc e [] d old mid new same step = (new, subst (λ (x : EchoTrace). IsEchoOf e d x new) same step, refl)
echoes_snoc e (x ∷ notices) d old mid new (next, first, rest) step =
    (next, first, echoes_snoc e notices d next mid new rest step)

abbrev loads_in : RequestCopy → List (ℕ × ℕ)
loads_in copy = copy.loads.loads

abbrev call_loads : RequestCopy → CallLoads
call_loads copy = copy.loads

fresh_further : (copies : List RequestCopy) (copy : RequestCopy) (known : List (ℕ × ℕ))
    → AreFresh (map call_loads copies ++ copy.loads ∷ []) known → AreFresh (map call_loads (copies ++ copy ∷ [])) known
fresh_further copies copy known fresh =
    subst (λ (calls : List CallLoads). AreFresh calls known) (sym (map-append call_loads copies (copy ∷ []))) fresh

loads_further : (copies : List RequestCopy) (copy : RequestCopy) (old new : List (ℕ × ℕ))
    → old ≡ flat_map loads_in copies → new ≡ old ++ copy.loads.loads → new ≡ flat_map loads_in (copies ++ copy ∷ [])
loads_further copies copy old new before more =
    more ∙ ap (λ xs. xs ++ copy.loads.loads) before
    ∙ ap (λ xs. flat_map loads_in copies ++ xs) (sym (flat_map-cons loads_in copy [] ∙ append-nil (loads_in copy)))
    ∙ sym (flat_map-append loads_in copies (copy ∷ []))

-- a notice without a reply
pub echoed_alone : (e : Echo) (notices : List Descriptor) (d : Descriptor) (stores : List (ℕ × ℕ)) (calls : List Submission)
    (old new : Reading)
    → HasEchoed e notices stores calls old → IsCopyOutcome e d old new None → HasEchoed e (notices ++ d ∷ []) stores calls new
echoed_alone e notices d stores calls old new before (left not_copied none loads later) =
    record {
      done = before.done;
      steps = echoes_snoc e notices d _ before.done before.done before.steps (nothing not_copied refl);
      stored = before.stored;
      replied = before.replied;
      fresh = later (map call_loads before.done.copies) before.fresh;
      loaded = loads ∙ before.loaded;
    }
echoed_alone e notices d stores calls old new before (made copy is_copied of no_reply loads fresh) =
    let next : EchoTrace = record { copies = before.done.copies ++ copy ∷ []; stores = before.done.stores; calls = before.done.calls } in
    record {
      done = next;
      steps = echoes_snoc e notices d _ before.done next before.steps (only_copy copy is_copied of no_reply refl);
      stored = before.stored;
      replied = before.replied;
      fresh = fresh_further before.done.copies copy new.known (fresh (map call_loads before.done.copies) before.fresh);
      loaded = loads_further before.done.copies copy _ _ before.loaded loads;
    }

-- a notice with a reply
pub echoed_reply : (e : Echo) (notices : List Descriptor) (d : Descriptor) (tree : Node)
    (stores more : List (ℕ × ℕ)) (calls all : List Submission) (old new : Reading)
    → HasEchoed e notices stores calls old → IsCopyOutcome e d old new (Some tree)
    → IsReplyPlaced e d.method d.number tree (stores, calls) (more, all)
    → HasEchoed e (notices ++ d ∷ []) more all new
echoed_reply e notices d tree stores more calls all old new before (left not_copied none loads later) reply = absurd (cc none)
echoed_reply e notices d tree stores more calls all old new before (made copy is_copied of has loads fresh) reply =
    let done = before.done in
    let words = reply.placed.words in
    let at : ℕ = slice_at e.heap e.ring (length done.calls) in
    let call : ℕ → ℕ → Submission = λ addr after. record { method = d.method; number = d.number; addr = addr; after = after } in
    let next : EchoTrace = record {
      copies = done.copies ++ copy ∷ [];
      stores = done.stores ++ words;
      calls = done.calls ++ call at (length done.stores + length words) ∷ [];
    } in
    let stored : more ≡ done.stores ++ words = reply.stores ∙ ap (λ xs. xs ++ words) before.stored in
    let stands = subst (λ (cs : List Submission). IsPlacedIn e.table e.heap (message_of e.table d.method Reply) tree
    (slice_at e.heap e.ring (length cs)) (tree_words e.table (message_of e.table d.method Reply) tree)
    reply.placed) before.replied reply.stands in
    record {
      done = next;
      steps = echoes_snoc e notices d _ done next before.steps (replies copy tree reply.placed is_copied of has stands refl);
      stored = stored;
      replied =
          reply.calls ∙ ap (λ cs. cs ++ call (slice_at e.heap e.ring (length cs)) (length more) ∷ []) before.replied
          ∙ ap (λ n. done.calls ++ call at n ∷ []) (ap length stored ∙ length-append done.stores words);
      fresh = fresh_further done.copies copy new.known (fresh (map call_loads done.copies) before.fresh);
      loaded = loads_further done.copies copy _ _ before.loaded loads;
    }

-- before the first notice
pub nothing_echoed : (e : Echo) (notices : List Descriptor) (stores : List (ℕ × ℕ)) (calls : List Submission) (reader : Reading)
    → notices ≡ [] → stores ≡ [] → calls ≡ [] → reader.loads ≡ [] → AreFresh [] reader.known
    → HasEchoed e notices stores calls reader
nothing_echoed e notices stores calls reader untaken unstored unsent unloaded fresh =
    record {
      done = empty_echo_trace;
      steps = subst (λ (ds : List Descriptor). AllEchoes e ds empty_echo_trace empty_echo_trace) (sym untaken) refl;
      stored = unstored;
      replied = unsent;
      fresh = fresh;
      loaded = ap (map word_of_load) unloaded;
    }
