-- Each access preserves the rule of a ring.
use Rattle.std.proofs.Common.{◌≡◌, ◌≢◌, inl, inr, ⊎_elim, ℕ, zero, suc, ◌<◌, ◌≤◌, Bool, true, false, true≢false, List}
use Rattle.std.proofs.Common.{[], ◌∷◌, ◌++◌, All, length, set, refl, sym, ap, ◌∙◌, subst, arith, append_assoc}
use Rattle.std.proofs.Common.{append-nil, length-append}
use mathlib.Core.Option.{some, some-injective, some-ne-none}
use mathlib.Core.List.{IsPrefix}
use lib.ListN.{get_elem?}
use Rattle.std.proofs.lemmas.List.Elements.{All-nil, All-head, All-tail, All-push}
use Rattle.crossbeam_queue.specs.Fifo.{Pushes, Pops, Forks, Merges, Learns}
use Rattle.shared_heap.specs.Fresh.{HeapId}
use Rattle.descriptor_ring.specs.declared.ring_rule.RingEntry.{RingEntry}
use Rattle.descriptor_ring.specs.declared.ring_rule.RingEntry.TheVariants.{Item, Closing}
use Rattle.descriptor_ring.specs.declared.ring_rule.RingView.{RingView}
use Rattle.descriptor_ring.specs.Heaps.{no_heap}
use Rattle.descriptor_ring.specs.RingRule.{ring_entries, queued, first, sender, receiver, spent_view, knowing_view, longer, with_sent_of}
use Rattle.descriptor_ring.specs.RingRule.{with_taken_of, merged_view, AreComparable, IsInOrder, after_push, after_pop, IsPushStep, IsItemFor, IsPopStep, IsViewOfRing, IsFifo}
use Rattle.descriptor_ring.specs.Rings.{HasHeldLast}
use Rattle.descriptor_ring.proofs.Passes.{each_set, each_snoc_at, other_pass}

off : false ≡ true → ⊥
off e = true≢false (sym e)

module _ {T : Type 0} where
  slips-push : (xs : List T) (x : T) → ring_entries xs false ++ Item x ∷ [] ≡ ring_entries (xs ++ x ∷ []) false
  slips-push [] x = refl
  slips-push (y ∷ ys) x = ap (λ l. Item y ∷ l) (slips-push ys x)

  slips-close : (xs : List T) → ring_entries xs false ++ Closing ∷ [] ≡ ring_entries xs true
  slips-close [] = refl
  slips-close (y ∷ ys) = ap (λ l. Item y ∷ l) (slips-close ys)

  length-slips : (xs : List T) → length (ring_entries xs false) ≡ length xs
  length-slips [] = refl
  length-slips (y ∷ ys) = ap suc (length-slips ys)

  slips-none : (xs : List T) (closed : Bool) → length (ring_entries xs closed) ≡ 0 → (xs ≡ []) × (closed ≡ false)
  slips-none [] false e = (refl, refl)
  slips-none [] true e = absurd (omega (arith, e))
  slips-none (y ∷ ys) closed e = absurd (omega (arith, e))

  front_refl : (xs : List T) → IsPrefix xs xs
  front_refl xs = ([], append-nil xs)

  front_nil : (xs : List T) → IsPrefix [] xs
  front_nil xs = (xs, refl)

  front_trans : (xs ys zs : List T) → IsPrefix xs ys → IsPrefix ys zs → IsPrefix xs zs
  front_trans xs ys zs p q = (p.0 ++ q.0, sym (append_assoc xs p.0 q.0) ∙ ap (λ l. l ++ q.0) p.1 ∙ q.1)

  -- two prefixes of one list agree
  agree : (xs ys all : List T) → IsPrefix xs all → IsPrefix ys all → AreComparable xs ys
  agree [] ys all p q = inl (ys, refl)
  agree (x ∷ xs) [] all p q = inr (x ∷ xs, refl)
  agree (x ∷ xs) (y ∷ ys) [] p q = absurd (cc (p.1))
  agree (x ∷ xs) (y ∷ ys) (z ∷ zs) p q =
      let heads : x ≡ y = cc (p.1, q.1) in
      ⊎_elim (λ (r : IsPrefix xs ys). inl (r.0, cc (heads, r.1))) (λ (r : IsPrefix ys xs). inr (r.0, cc (heads, r.1)))
      (agree xs ys zs (p.0, cc (p.1)) (q.0, cc (q.1)))

  -- the longer of two prefixes is a prefix
  longer_front : (xs ys all : List T) → IsPrefix xs all → IsPrefix ys all → IsPrefix (longer xs ys) all
  longer_front [] ys all p q = q
  longer_front (x ∷ xs) [] all p q = p
  longer_front (x ∷ xs) (y ∷ ys) [] p q = absurd (cc (p.1))
  longer_front (x ∷ xs) (y ∷ ys) (z ∷ zs) p q =
      let r : IsPrefix (longer xs ys) zs = longer_front xs ys zs (p.0, cc (p.1)) (q.0, cc (q.1)) in
      (r.0, cc (p.1, r.1))

  -- no prefix is longer than the whole
  longer_whole : (xs ys : List T) → IsPrefix ys xs → longer xs ys ≡ xs
  longer_whole [] [] p = refl
  longer_whole [] (y ∷ ys) p = absurd (cc (p.1))
  longer_whole (x ∷ xs) [] p = refl
  longer_whole (x ∷ xs) (y ∷ ys) p = ap (λ l. x ∷ l) (longer_whole xs ys (p.0, cc (p.1)))

  -- the queue starts with the first item not taken yet, or holds the closing sentinel alone
  data Front (x : RingEntry T) (items : List (RingEntry T)) (waiting : List T) (closed ended : Bool) : Type 0 where
    item : (y : T) (ys : List T) → waiting ≡ y ∷ ys → x ≡ Item y → items ≡ ring_entries ys closed → ended ≡ false → Front x items waiting closed ended
    closing : waiting ≡ [] → closed ≡ true → x ≡ Closing → items ≡ [] → Front x items waiting closed ended

  front : (x : RingEntry T) (items : List (RingEntry T)) (waiting : List T) (closed ended : Bool) → x ∷ items ≡ queued waiting closed ended → Front x items waiting closed ended
  front x items waiting closed true e = absurd (cc)
  front x items [] false false e = absurd (cc)
  front x items [] true false e = closing refl refl (cc) (cc)
  front x items (y ∷ ys) closed false e = item y ys refl (cc) (cc) refl

module _ {T : Type 0} (fits : HeapId → T → Type 0) (most : ℕ) where
  abbrev Line : List (RingEntry T) → List (RingView T) → Type 0
  Line = IsFifo fits most

  -- a pass without a role that knows prefixes of the sent and taken items
  idle : (s r : ℕ) (heap : HeapId) (sent : List T) (closed : Bool) (taken : List T) (ended : Bool) (pass : ℕ) (v : RingView T)
      → v.sends ≡ false → v.takes ≡ false → v.closed ≡ false → IsPrefix v.sent sent → IsPrefix v.taken taken
      → IsViewOfRing fits most s r heap sent closed taken ended pass v
  idle s r heap sent closed taken ended pass v no_send no_take unclosed some_sent some_taken = record {
    sends = λ p. absurd (off (sym no_send ∙ p));
    takes = λ p. absurd (off (sym no_take ∙ p));
    some_sent = some_sent;
    some_taken = some_taken;
    some_closed = λ p. absurd (off (sym unclosed ∙ p));
  }

  pub begins : Line [] (first ∷ [])
  begins = record {
    heap = no_heap;
    sent = [];
    closed = false;
    taken = [];
    ended = false;
    waiting = [];
    sender = 0;
    receiver = 0;
    in_order = refl;
    holds = refl;
    last = λ e. absurd (off e);
    fit = All-nil (fits no_heap);
    few = omega arith;
    passes = one;
  }
    where
      one : (pass : ℕ) (v : RingView T) → get_elem? (first ∷ []) pass ≡ some v → IsViewOfRing fits most 0 0 no_heap [] false [] false pass v
      one zero v e = subst (IsViewOfRing fits most 0 0 no_heap [] false [] false 0) (some-injective _ _ e) record {
        sends = λ _. (refl, refl, refl, refl);
        takes = λ _. (refl, refl, refl, refl);
        some_sent = ([], refl);
        some_taken = ([], refl);
        some_closed = λ p. absurd (off p);
      }
      one (suc pass) v e = absurd (some-ne-none v (sym e))

  -- while the sender hasn't closed, the receiver hasn't ended
  open_yet : (closed ended : Bool) (waiting : List T) → (ended ≡ true → (closed ≡ true) × (waiting ≡ [])) → closed ≡ false → ended ≡ false
  open_yet closed false waiting last unclosed = refl
  open_yet closed true waiting last unclosed = absurd (off (sym unclosed ∙ (last refl).0))

  module _ (pass : ℕ) (v : RingView T) (items : List (RingEntry T)) (views : List (RingView T)) (h : Line items views) (at : get_elem? views pass ≡ some v) where
    mine : IsViewOfRing fits most h.sender h.receiver h.heap h.sent h.closed h.taken h.ended pass v
    mine = h.passes pass v at

    -- the contents of the queue while the sender hasn't closed
    held : v.sends ≡ true → v.closed ≡ false → items ≡ ring_entries h.waiting false
    held may unclosed =
        let closed : h.closed ≡ false = sym (mine.sends may).3 ∙ unclosed in
        h.holds ∙ ap (queued h.waiting h.closed) (open_yet h.closed h.ended h.waiting h.last closed) ∙ ap (ring_entries h.waiting) closed

    -- after the sender has pushed an item or the closing sentinel, and knows of it
    after_put : v.sends ≡ true → h.closed ≡ false → h.ended ≡ false → (sent : List T) (closed : Bool) (w : RingView T) → IsPrefix h.sent sent
        → IsViewOfRing fits most h.sender h.receiver h.heap sent closed h.taken false pass w
        → (j : ℕ) (u : RingView T) → get_elem? (set views pass w) j ≡ some u → IsViewOfRing fits most h.sender h.receiver h.heap sent closed h.taken false j u
    after_put may unclosed on sent closed w longer this =
        each_set (IsViewOfRing fits most h.sender h.receiver h.heap sent closed h.taken false) views pass w this
        (λ j u apart e. let k = h.passes j u e in record {
          sends = λ p. absurd (apart ((k.sends p).0 ∙ sym (mine.sends may).0));
          takes = λ p. let t = k.takes p in (t.0, t.1, t.2, t.3 ∙ on);
          some_sent = front_trans u.sent h.sent sent k.some_sent longer;
          some_taken = k.some_taken;
          some_closed = λ p. absurd (off (sym unclosed ∙ (k.some_closed p).0));
        })

    -- after the receiver has popped an item or the closing sentinel, and knows of it
    after_got : v.takes ≡ true → (taken : List T) (ended : Bool) (w : RingView T) → IsPrefix h.taken taken
        → IsViewOfRing fits most h.sender h.receiver h.heap h.sent h.closed taken ended pass w
        → (j : ℕ) (u : RingView T) → get_elem? (set views pass w) j ≡ some u → IsViewOfRing fits most h.sender h.receiver h.heap h.sent h.closed taken ended j u
    after_got may taken ended w longer this =
        each_set (IsViewOfRing fits most h.sender h.receiver h.heap h.sent h.closed taken ended) views pass w this
        (λ j u apart e. let k = h.passes j u e in record {
          sends = k.sends;
          takes = λ p. absurd (apart ((k.takes p).0 ∙ sym (mine.takes may).0));
          some_sent = k.some_sent;
          some_taken = front_trans u.taken h.taken taken k.some_taken longer;
          some_closed = k.some_closed;
        })

  pub puts_item : (n pass : ℕ) (v : RingView T) (x : T) → v.sends ≡ true → v.closed ≡ false → fits v.heap x
      → length v.sent < most → Pushes Line n pass v (Item x) (IsPushStep v (Item x))
  puts_item n pass v x may unclosed fit few items views room h at =
      let m = mine pass v items views h at in
      let s = m.sends may in
      let now : List T = h.sent ++ x ∷ [] in
      let w : RingView T = after_push v (Item x) in
      let is_sent : w.sent ≡ now = ap (λ l. l ++ x ∷ []) s.2 in
      let closed : h.closed ≡ false = sym s.3 ∙ unclosed in
      let on : h.ended ≡ false = open_yet h.closed h.ended h.waiting h.last closed in
      let order : now ≡ h.taken ++ (h.waiting ++ x ∷ []) = ap (λ l. l ++ x ∷ []) h.in_order ∙ append_assoc h.taken h.waiting (x ∷ []) in
      let knows : IsViewOfRing fits most h.sender h.receiver h.heap now false h.taken false pass w = record {
        sends = λ _. (s.0, s.1, is_sent, unclosed);
        takes = λ p. let t = m.takes p in (t.0, t.1, t.2, t.3 ∙ on);
        some_sent = subst (λ l. IsPrefix l now) (sym is_sent) (front_refl now);
        some_taken = m.some_taken;
        some_closed = λ p. absurd (off (sym unclosed ∙ p));
      } in (
        w,
        record {
          heap = h.heap;
          sent = now;
          closed = false;
          taken = h.taken;
          ended = false;
          waiting = h.waiting ++ x ∷ [];
          sender = h.sender;
          receiver = h.receiver;
          in_order = order;
          holds = ap (λ l. l ++ Item x ∷ []) (held pass v items views h at may unclosed) ∙ slips-push h.waiting x;
          last = λ e. absurd (off e);
          fit = All-push (fits h.heap) h.waiting x h.fit (subst (λ z. fits z x) s.1 fit);
          few = omega (arith, few, ap length s.2, length-append h.sent (x ∷ []));
          passes = after_put pass v items views h at may closed on now false w (x ∷ [], refl) knows;
        },
        (
          refl,
          subst (IsPrefix v.taken) (sym is_sent) (front_trans v.taken h.taken now m.some_taken (h.waiting ++ x ∷ [], sym order)),
        ),
      )

  pub puts_closing : (n pass : ℕ) (v : RingView T) → v.sends ≡ true → v.closed ≡ false → Pushes Line n pass v Closing (IsPushStep v Closing)
  puts_closing n pass v may unclosed items views room h at =
      let m = mine pass v items views h at in
      let s = m.sends may in
      let w : RingView T = after_push v Closing in
      let closed : h.closed ≡ false = sym s.3 ∙ unclosed in
      let on : h.ended ≡ false = open_yet h.closed h.ended h.waiting h.last closed in
      let knows : IsViewOfRing fits most h.sender h.receiver h.heap h.sent true h.taken false pass w = record {
        sends = λ _. (s.0, s.1, s.2, refl);
        takes = λ p. let t = m.takes p in (t.0, t.1, t.2, t.3 ∙ on);
        some_sent = m.some_sent;
        some_taken = m.some_taken;
        some_closed = λ _. (refl, s.2);
      } in (
        w,
        record {
          heap = h.heap;
          sent = h.sent;
          closed = true;
          taken = h.taken;
          ended = false;
          waiting = h.waiting;
          sender = h.sender;
          receiver = h.receiver;
          in_order = h.in_order;
          holds = ap (λ l. l ++ Closing ∷ []) (held pass v items views h at may unclosed) ∙ slips-close h.waiting;
          last = λ e. absurd (off e);
          fit = h.fit;
          few = h.few;
          passes = after_put pass v items views h at may closed on h.sent true w (front_refl h.sent) knows;
        },
        (
          refl,
          subst (IsPrefix v.taken) (sym s.2) (front_trans v.taken h.taken h.sent m.some_taken (h.waiting, sym h.in_order)),
        ),
      )

  -- a full ring holds the last of the sent items
  pub learns_full : (pass : ℕ) (v : RingView T) → v.sends ≡ true → v.closed ≡ false
      → Learns Line pass v (λ items. ((n : ℕ) → length items ≡ n → HasHeldLast v.sent v.taken n) × (length items ≤ length v.sent))
  learns_full pass v may unclosed items views h at =
      let m = mine pass v items views h at in
      let order : v.sent ≡ h.taken ++ h.waiting = (m.sends may).2 ∙ h.in_order in
      let counted : length h.waiting ≡ length items =
      sym (length-slips h.waiting) ∙ sym (ap length (held pass v items views h at may unclosed)) in (
        (λ n is. record { taken = h.taken; waiting = h.waiting; in_order = order; observed = m.some_taken; counted = counted ∙ is }),
        omega (arith, counted, ap length order, length-append h.taken h.waiting),
      )

  -- items that are known as sent and not taken are in the ring
  pub learns_empty : (pass : ℕ) (v : RingView T) → v.takes ≡ true → v.ended ≡ false
      → Learns Line pass v (λ items. length items ≡ 0 → IsPrefix v.sent v.taken × (v.closed ≡ false))
  learns_empty pass v may on items views h at none =
      let m = mine pass v items views h at in
      let t = m.takes may in
      let holds : items ≡ ring_entries h.waiting h.closed = h.holds ∙ ap (queued h.waiting h.closed) (sym t.3 ∙ on) in
      let nothing = slips-none h.waiting h.closed (sym (ap length holds) ∙ none) in
      let all : h.sent ≡ v.taken = h.in_order ∙ ap (λ l. h.taken ++ l) nothing.0 ∙ append-nil h.taken ∙ sym t.2 in
      (subst (IsPrefix v.sent) all m.some_sent, unclosed v.closed (λ p. (m.some_closed p).0) nothing.1)
    where
      unclosed : (closed : Bool) → (closed ≡ true → h.closed ≡ true) → h.closed ≡ false → closed ≡ false
      unclosed false known off_yet = refl
      unclosed true known off_yet = absurd (off (sym off_yet ∙ known refl))

  -- what a receiver knows is in order
  in_order_of : (v : RingView T) (sent : List T) (closed : Bool) (taken waiting : List T) (ended : Bool)
      → sent ≡ taken ++ waiting → (ended ≡ true → (closed ≡ true) × (waiting ≡ [])) → v.taken ≡ taken → v.ended ≡ ended
      → IsPrefix v.sent sent → (v.closed ≡ true → (closed ≡ true) × (v.sent ≡ sent)) → IsInOrder v
  in_order_of v sent closed taken waiting ended order last is_taken is_ended some_sent some_closed =
      let begins : IsPrefix v.taken sent = (waiting, ap (λ l. l ++ waiting) is_taken ∙ sym order) in
      record {
        agree = agree v.sent v.taken sent some_sent begins;
        all = λ p.
            let none = (last (sym is_ended ∙ p)).1 in
            subst (IsPrefix v.sent) (order ∙ ap (λ l. taken ++ l) none ∙ append-nil taken ∙ sym is_taken) some_sent;
        no_more = λ p. subst (IsPrefix v.taken) (sym (some_closed p).1) begins;
      }

  pub learns_in_order : (pass : ℕ) (v : RingView T) → v.takes ≡ true → Learns Line pass v (λ items. IsInOrder v)
  learns_in_order pass v may items views h at =
      let m = mine pass v items views h at in
      let t = m.takes may in
      in_order_of v h.sent h.closed h.taken h.waiting h.ended h.in_order h.last t.2 t.3 m.some_sent m.some_closed

  pub learns_behind : (pass : ℕ) (v : RingView T) → v.sends ≡ true → Learns Line pass v (λ items. IsPrefix v.taken v.sent)
  learns_behind pass v may items views h at =
      let m = mine pass v items views h at in
      subst (IsPrefix v.taken) (sym (m.sends may).2) (front_trans v.taken h.taken h.sent m.some_taken (h.waiting, sym h.in_order))

  pub gets_it : (pass : ℕ) (v : RingView T) → v.takes ≡ true → v.ended ≡ false → Pops Line pass v (IsPopStep fits most v)
  gets_it pass v may on x items views h at = by_front (front x items h.waiting h.closed h.ended h.holds)
    where
      m : IsViewOfRing fits most h.sender h.receiver h.heap h.sent h.closed h.taken h.ended pass v
      m = mine pass v (x ∷ items) views h at

      by_front : Front x items h.waiting h.closed h.ended → (w : RingView T) × Line items (set views pass w) × IsPopStep fits most v x w
      by_front (item y ys waits is rest unclosed) =
          let t = m.takes may in
          let now : List T = h.taken ++ y ∷ [] in
          let order : h.sent ≡ now ++ ys = h.in_order ∙ ap (λ l. h.taken ++ l) waits ∙ sym (append_assoc h.taken (y ∷ []) ys) in
          let fit : All (fits h.heap) (y ∷ ys) = subst (All (fits h.heap)) waits h.fit in
          let w : RingView T = after_pop v (Item y) in
          let is_taken : w.taken ≡ now = ap (λ l. l ++ y ∷ []) t.2 in (
            w,
            record {
              heap = h.heap;
              sent = h.sent;
              closed = h.closed;
              taken = now;
              ended = false;
              waiting = ys;
              sender = h.sender;
              receiver = h.receiver;
              in_order = order;
              holds = rest;
              last = λ e. absurd (off e);
              fit = All-tail (fits h.heap) y ys fit;
              few = h.few;
              passes = after_got pass v (x ∷ items) views h at may now false w (y ∷ [], refl) record {
                sends = m.sends;
                takes = λ _. (t.0, t.1, is_taken, on);
                some_sent = m.some_sent;
                some_taken = subst (λ l. IsPrefix l now) (sym is_taken) (front_refl now);
                some_closed = m.some_closed;
              };
            },
            (
              ap (after_pop v) (sym is),
              subst (IsItemFor fits most v.heap) (sym is) (subst (λ z. fits z y) (sym t.1) (All-head (fits h.heap) y ys fit)),
              omega (arith, h.few, ap length order, length-append now ys, ap length is_taken),
              in_order_of w h.sent h.closed now ys false order (λ e. absurd (off e)) is_taken on m.some_sent m.some_closed,
            ),
          )
      by_front (closing waits shut is rest) =
          let t = m.takes may in
          let w : RingView T = after_pop v Closing in (
            w,
            record {
              heap = h.heap;
              sent = h.sent;
              closed = h.closed;
              taken = h.taken;
              ended = true;
              waiting = h.waiting;
              sender = h.sender;
              receiver = h.receiver;
              in_order = h.in_order;
              holds = rest;
              last = λ e. (shut, waits);
              fit = h.fit;
              few = h.few;
              passes = after_got pass v (x ∷ items) views h at may h.taken true w (front_refl h.taken) record {
                sends = m.sends;
                takes = λ _. (t.0, t.1, t.2, refl);
                some_sent = m.some_sent;
                some_taken = m.some_taken;
                some_closed = m.some_closed;
              };
            },
            (
              ap (after_pop v) (sym is),
              subst (IsItemFor fits most v.heap) (sym is) tt,
              omega (arith, h.few, ap length h.in_order, length-append h.taken h.waiting, ap length t.2),
              in_order_of w h.sent h.closed h.taken h.waiting true h.in_order (λ e. (shut, waits)) t.2 refl m.some_sent m.some_closed,
            ),
          )

  pub forks_it : (pass : ℕ) (heap : HeapId) → Forks Line pass first (sender heap [] false) (receiver heap [] false)
  forks_it pass heap items views h at =
      let m = mine pass first items views h at in
      let s = m.sends refl in
      let t = m.takes refl in
      let none_waits : [] ≡ h.waiting = s.2 ∙ h.in_order ∙ ap (λ l. l ++ h.waiting) (sym t.2) in
      let left : RingView T = sender heap [] false in
      let right : RingView T = receiver heap [] false in
      let vs : List (RingView T) = set views pass left in
      let n : ℕ = length vs in
      record {
        heap = heap;
        sent = [];
        closed = false;
        taken = [];
        ended = false;
        waiting = [];
        sender = pass;
        receiver = n;
        in_order = refl;
        holds = h.holds ∙ (λ i. queued (sym none_waits i) (sym s.3 i) (sym t.3 i));
        last = λ e. absurd (off e);
        fit = All-nil (fits heap);
        few = omega arith;
        passes = each_snoc_at (IsViewOfRing fits most pass n heap [] false [] false) vs right
            record {
              sends = λ p. absurd (off p);
              takes = λ _. (refl, refl, refl, refl);
              some_sent = ([], refl);
              some_taken = ([], refl);
              some_closed = λ p. absurd (off p);
            }
            (each_set (IsViewOfRing fits most pass n heap [] false [] false) views pass left
            record {
              sends = λ _. (refl, refl, refl, refl);
              takes = λ p. absurd (off p);
              some_sent = ([], refl);
              some_taken = ([], refl);
              some_closed = λ p. absurd (off p);
            }
            (λ j u apart e. let k = h.passes j u e in record {
              sends = λ p. absurd (apart ((k.sends p).0 ∙ sym s.0));
              takes = λ p. absurd (apart ((k.takes p).0 ∙ sym t.0));
              some_sent = subst (IsPrefix u.sent) (sym s.2) k.some_sent;
              some_taken = subst (IsPrefix u.taken) (sym t.2) k.some_taken;
              some_closed = λ p. absurd (off (s.3 ∙ (k.some_closed p).0));
            }));
      }

  pub merges_it : (pass : ℕ) (v : RingView T) (other : ℕ) (u : RingView T) → v.takes ≡ true → u.sends ≡ true → Merges Line pass v other u (merged_view v u) spent_view
  merges_it pass v other u may sends items views h at apart there =
      let joined : RingView T = merged_view v u in
      let m = mine pass v items views h at in
      let o = h.passes other u (other_pass views pass other joined u apart there) in
      let t = m.takes may in
      let s = o.sends sends in
      let F = IsViewOfRing fits most pass h.receiver h.heap h.sent h.closed h.taken h.ended in
      record {
        heap = h.heap;
        sent = h.sent;
        closed = h.closed;
        taken = h.taken;
        ended = h.ended;
        waiting = h.waiting;
        sender = pass;
        receiver = h.receiver;
        in_order = h.in_order;
        holds = h.holds;
        last = h.last;
        fit = h.fit;
        few = h.few;
        passes = each_set F (set views pass joined) other spent_view
            (idle pass h.receiver h.heap h.sent h.closed h.taken h.ended other spent_view refl refl refl (front_nil h.sent) (front_nil h.taken))
            (λ j w away e. each_set (λ k (x : RingView T). k ≢ other → F k x) views pass joined
            (λ _. record {
              sends = λ _. (refl, t.1, s.2, s.3);
              takes = λ _. t;
              some_sent = o.some_sent;
              some_taken = m.some_taken;
              some_closed = o.some_closed;
            })
            (λ k x _ e' off_other. let f = h.passes k x e' in record {
              sends = λ p. absurd (off_other ((f.sends p).0 ∙ sym s.0));
              takes = f.takes;
              some_sent = f.some_sent;
              some_taken = f.some_taken;
              some_closed = f.some_closed;
            }) j w e away);
      }

  -- any pass may share what it knows
  pub tells_it : (pass : ℕ) (v : RingView T) → Forks Line pass v v (knowing_view v)
  tells_it pass v items views h at =
      let m = mine pass v items views h at in
      let F = IsViewOfRing fits most h.sender h.receiver h.heap h.sent h.closed h.taken h.ended in
      let n : ℕ = length (set views pass v) in
      record {
        heap = h.heap;
        sent = h.sent;
        closed = h.closed;
        taken = h.taken;
        ended = h.ended;
        waiting = h.waiting;
        sender = h.sender;
        receiver = h.receiver;
        in_order = h.in_order;
        holds = h.holds;
        last = h.last;
        fit = h.fit;
        few = h.few;
        passes = each_snoc_at F (set views pass v) (knowing_view v)
            (idle h.sender h.receiver h.heap h.sent h.closed h.taken h.ended n (knowing_view v) refl refl refl m.some_sent m.some_taken)
            (each_set F views pass v m (λ j u apart e. h.passes j u e));
      }

  -- a pass may learn more, while another one is spent
  grows : (pass : ℕ) (v : RingView T) (other : ℕ) (u joined : RingView T)
      → ((items : List (RingEntry T)) (views : List (RingView T)) (h : Line items views)
      → IsViewOfRing fits most h.sender h.receiver h.heap h.sent h.closed h.taken h.ended pass v
      → IsViewOfRing fits most h.sender h.receiver h.heap h.sent h.closed h.taken h.ended other u
      → IsViewOfRing fits most h.sender h.receiver h.heap h.sent h.closed h.taken h.ended pass joined)
      → Merges Line pass v other u joined spent_view
  grows pass v other u joined more items views h at apart there =
      let m = mine pass v items views h at in
      let o = h.passes other u (other_pass views pass other joined u apart there) in
      let F = IsViewOfRing fits most h.sender h.receiver h.heap h.sent h.closed h.taken h.ended in
      record {
        heap = h.heap;
        sent = h.sent;
        closed = h.closed;
        taken = h.taken;
        ended = h.ended;
        waiting = h.waiting;
        sender = h.sender;
        receiver = h.receiver;
        in_order = h.in_order;
        holds = h.holds;
        last = h.last;
        fit = h.fit;
        few = h.few;
        passes = each_set F (set views pass joined) other spent_view
            (idle h.sender h.receiver h.heap h.sent h.closed h.taken h.ended other spent_view refl refl refl (front_nil h.sent) (front_nil h.taken))
            (λ j w away e. each_set F views pass joined (more items views h m o) (λ k x _ e'. h.passes k x e') j w e);
      }

  -- any pass may observe what another one knows
  pub hears_sent : (pass : ℕ) (v : RingView T) (other : ℕ) (u : RingView T) → Merges Line pass v other u (with_sent_of v u) spent_view
  hears_sent pass v other u = grows pass v other u (with_sent_of v u) (λ items views h m o.
      let whole : v.sent ≡ h.sent → longer v.sent u.sent ≡ h.sent = λ is.
      longer_whole v.sent u.sent (subst (IsPrefix u.sent) (sym is) o.some_sent) ∙ is in
      record {
        sends = λ p. let s = m.sends p in (s.0, s.1, whole s.2, s.3);
        takes = m.takes;
        some_sent = longer_front v.sent u.sent h.sent m.some_sent o.some_sent;
        some_taken = m.some_taken;
        some_closed = λ p. let c = m.some_closed p in (c.0, whole c.1);
      })

  pub hears_taken : (pass : ℕ) (v : RingView T) (other : ℕ) (u : RingView T) → Merges Line pass v other u (with_taken_of v u) spent_view
  hears_taken pass v other u = grows pass v other u (with_taken_of v u) (λ items views h m o.
      record {
        sends = m.sends;
        takes = λ p.
            let t = m.takes p in
            (t.0, t.1, longer_whole v.taken u.taken (subst (IsPrefix u.taken) (sym t.2) o.some_taken) ∙ t.2, t.3);
        some_sent = m.some_sent;
        some_taken = longer_front v.taken u.taken h.taken m.some_taken o.some_taken;
        some_closed = m.some_closed;
      })

  pub learns_total : (pass : ℕ) (v : RingView T) → v.sends ≡ true → v.takes ≡ true → v.ended ≡ true → Learns Line pass v (λ items. v.taken ≡ v.sent)
  learns_total pass v sends takes ended items views h at =
      let m = mine pass v items views h at in
      let s = m.sends sends in
      let t = m.takes takes in
      t.2 ∙ sym (append-nil h.taken) ∙ ap (λ l. h.taken ++ l) (sym (h.last (sym t.3 ∙ ended)).1) ∙ sym h.in_order ∙ sym s.2
