-- The notices of an application grow.
use Rattle.std.proofs.Common.{◌≡◌, ℕ, ◌+◌, ◌<◌, ◌≤◌, List, [], ◌∷◌, ◌++◌, length, map, Option, Some, None, refl, sym}
use Rattle.std.proofs.Common.{ap, subst, ◌∙◌, arith, append_assoc, append-nil, length-append, option_to_list}
use Rattle.std.proofs.Common.{option_copied, slice_index_or, drop, Bor, IsSome, ◌↔◌}
use Rattle.std.proofs.lemmas.Option.{none-some, same_Some}
use Rattle.std.specs.Prelude.{All, IfSome}
use Rattle.std.specs.List.{AllZip}
use Rattle.std.proofs.lemmas.List.{map-append}
use Rattle.std.proofs.lemmas.List.Elements.{All-append, All-cons, All-head, All-nil, All-tail}
use Rattle.std.proofs.lemmas.Slice.Zip.{AllZip-long}
use Rattle.shared_heap.specs.Fresh.{HeapId}
use Rattle.descriptor_ring.specs.Rings.{Sending}
use Rattle.descriptor_ring.specs.declared.descriptor.Descriptor.{Descriptor}
use Rattle.message_delivery.specs.Noticing.{IsRequestOrReply, AreNoticesOf, IsNoticeOf, notices_of, sent_numbers, sent_on}
use Rattle.message_delivery.specs.declared.arrivals.PlacedMessage.{PlacedMessage}
use Rattle.message_delivery.specs.declared.notices.Notices.{Notices}

-- two lists each grow by one
pub zip-snoc : {A B : Type 0} (R : A → B → Type 0) (xs : List A) (ys : List B) (x : A) (y : B) → AllZip R xs ys → R x y
    → AllZip R (xs ++ x ∷ []) (ys ++ y ∷ [])
zip-snoc R [] [] x y zip last = (last, tt)
zip-snoc R [] (b ∷ ys) x y zip last = absurd zip
zip-snoc R (a ∷ xs) [] x y zip last = absurd zip
zip-snoc R (a ∷ xs) (b ∷ ys) x y zip last = (zip.0, zip-snoc R xs ys x y zip.1 last)

-- a message is appended to the pending ones
pub added : (heap : HeapId) (placed : List PlacedMessage) (n m : Notices) (message : PlacedMessage) → AreNoticesOf heap placed n
    → IsRequestOrReply message → length placed + 1 < 4294967294 → m.waiting.items ≡ n.waiting.items ++ message ∷ []
    → m.owed ≡ n.owed → notices_of m ≡ notices_of n → sent_numbers m ≡ sent_numbers n → m.given ≡ n.given
    → m.notices ≡ n.notices → AreNoticesOf heap (placed ++ message ∷ []) m
added heap placed n m message h is few waiting owed notices numbers given ring = record {
  past = h.past;
  all = ap (λ xs. xs ++ message ∷ []) h.all ∙ append_assoc h.past n.waiting.items (message ∷ []) ∙ ap
      (λ xs. h.past ++ xs) (sym waiting);
  told = subst (AllZip IsNoticeOf h.past) (sym notices) h.told;
  numbers = h.numbers ∙ ap (λ xs. xs ++ option_to_list n.owed) (sym numbers) ∙ ap
      (λ o. sent_numbers m ++ option_to_list o) (sym owed);
  given = given ∙ h.given ∙ ap (λ (xs : List ℕ). length xs) (sym numbers);
  messages = All-append IsRequestOrReply placed (message ∷ []) h.messages (All-cons IsRequestOrReply message [] is (All-nil IsRequestOrReply));
  few = let long : length (placed ++ message ∷ []) ≡ length placed + 1 = length-append placed (message ∷ []) in
      omega (arith, long, few);
  of_heap = subst (λ o. IfSome o (λ (r : Sending). r.heap ≡ heap)) (sym ring) h.of_heap;
}

-- the notice of the first pending message was sent, and its block number is owed
pub gave : (heap : HeapId) (placed : List PlacedMessage) (n m : Notices) (message : PlacedMessage) (d : Descriptor)
    → AreNoticesOf heap placed n → n.waiting.items ≡ message ∷ m.waiting.items → n.owed ≡ None
    → m.owed ≡ Some message.block → notices_of m ≡ notices_of n ++ d ∷ [] → IsNoticeOf message d
    → sent_numbers m ≡ sent_numbers n → m.given ≡ n.given → IfSome m.notices (λ r. r.heap ≡ heap) → AreNoticesOf heap placed m
gave heap placed n m message d h waiting none owed notices tells numbers given of_heap =
    let was : map (λ (x : PlacedMessage). x.block) h.past ≡ sent_numbers n =
    h.numbers ∙ ap (λ o. sent_numbers n ++ option_to_list o) none ∙ append-nil (sent_numbers n) in
    record {
      past = h.past ++ message ∷ [];
      all = h.all ∙ ap (λ xs. h.past ++ xs) waiting ∙ sym (append_assoc h.past (message ∷ []) m.waiting.items);
      told = subst (AllZip IsNoticeOf (h.past ++ message ∷ [])) (sym notices)
          (zip-snoc IsNoticeOf h.past (notices_of n) message d h.told tells);
      numbers = map-append (λ (x : PlacedMessage). x.block) h.past (message ∷ []) ∙ ap (λ xs. xs ++ message.block ∷ [])
          (was ∙ sym numbers) ∙ ap (λ o. sent_numbers m ++ option_to_list o) (sym owed);
      given = given ∙ h.given ∙ ap (λ (xs : List ℕ). length xs) (sym numbers);
      messages = h.messages;
      few = h.few;
      of_heap = of_heap;
    }

-- fewer notices were sent than a ring accepts
pub few-sent : (heap : HeapId) (placed : List PlacedMessage) (n : Notices) (ring : Sending) → AreNoticesOf heap placed n
    → n.notices ≡ Some ring → length ring.sent < 4294967294
few-sent heap placed n ring h is =
    let long : length (notices_of n) ≡ length h.past = AllZip-long IsNoticeOf h.past (notices_of n) h.told in
    let same : length (notices_of n) ≡ length ring.sent = ap (λ o. length (sent_on o n.noticed)) is in
    let all : length placed ≡ length (h.past ++ n.waiting.items) = ap (λ (xs : List PlacedMessage). length xs) h.all in
    let both : length (h.past ++ n.waiting.items) ≡ length h.past + length n.waiting.items =
    length-append h.past n.waiting.items in
    let few = h.few in
    omega (arith, long, same, all, both, few)

all-after : {X : Type 0} (P : X → Type 0) (xs ys : List X) → All P (xs ++ ys) → All P ys
all-after P [] ys h = h
all-after P (x ∷ xs) ys h = all-after P xs ys (All-tail P x (xs ++ ys) h)

-- the first pending message is a request or a reply
pub first-is : (heap : HeapId) (placed : List PlacedMessage) (n : Notices) (message : PlacedMessage) (rest : List PlacedMessage)
    → AreNoticesOf heap placed n → n.waiting.items ≡ message ∷ rest → IsRequestOrReply message
first-is heap placed n message rest h waiting =
    All-head IsRequestOrReply message rest (all-after IsRequestOrReply h.past (message ∷ rest)
    (subst (All IsRequestOrReply) (h.all ∙ ap (λ xs. h.past ++ xs) waiting) h.messages))

-- the item at index 0
pub front-is : {X : Type 0} (xs : List X) (r : Option (Bor X)) (x : X) (n : ℕ) → (IsSome r ↔ (0 < n)) → n ≤ length xs
    → IfSome r (λ b. b.now ≡ slice_index_or xs 0 b.now) → option_copied r ≡ Some x → xs ≡ x ∷ drop 1 xs
front-is xs None x n variant long lookup is = absurd (none-some x is)
front-is [] (Some b) x n variant long lookup is = (let no : 0 < n = variant.0 refl in absurd (omega (arith, no, long)))
front-is (y ∷ ys) (Some b) x n variant long lookup is = ap (λ z. z ∷ ys) (sym lookup ∙ same_Some b.now x is)
