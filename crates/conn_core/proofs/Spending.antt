-- Capacity for records after a turn.
use Rattle.std.proofs.Common.{◌≡◌, ℕ, ◌+◌, ◌≤◌, ◌<◌, zero, suc, List, [], ◌∷◌, ◌++◌, length, set, get_or, slice_get, refl, ap, sym, ◌∙◌, subst, arith}
use Rattle.std.specs.Prelude.{All, Some, sum}
use Rattle.std.specs.List.{AllZip, sum_by}
use Rattle.std.proofs.lemmas.List.Elements.{All-head, All-tail}
use Rattle.std.proofs.lemmas.List.Sums.{sum_by-cons, sum_by-append, sum_by-set, get_or-le-sum_by}
use Rattle.engine_core.specs.Chains.{Entry}
use Rattle.engine_core.specs.Marks.{PendingCall}
use Rattle.engine_core.specs.declared.outcome.Noted.{Noted}
use Rattle.engine_core.specs.declared.outcome.Noted.TheVariants as notes
use Rattle.engine_core.specs.declared.outcome.Outcome.{Outcome}
use Rattle.engine_core.specs.declared.outcome.Outcome.TheVariants.{Passed, Held, Refused, Redacted}
use Rattle.engine_core.specs.Turns.{noted_in}
use Rattle.chain_upgrade.specs.Chains.{calls_after}
use Rattle.conn_core.specs.Invariant.{AreDue, HasRoom, MayRecord, due_of, records_in, records_of}
use Rattle.conn_core.proofs.Lists.{within-at, zip-length}

-- ---- of one call

due-still : (entries : List Entry) (s s' : PendingCall) (due : List ℕ)
    → All (λ e. MayRecord s' e → MayRecord s e) entries → AreDue entries s due → AreDue entries s' due
due-still [] s s' [] may h = tt
due-still [] s s' (n ∷ due) may h = h
due-still (e ∷ entries) s s' [] may h = h
due-still (e ∷ entries) s s' (n ∷ due) may h = (
  λ here. h.0 (All-head (λ (e : Entry). MayRecord s' e → MayRecord s e) e entries may here),
  due-still entries s s' due (All-tail (λ (e : Entry). MayRecord s' e → MayRecord s e) e entries may) h.1,
)

due-spent : (entries : List Entry) (position : ℕ) (e : Entry) (s : PendingCall) (due : List ℕ)
    → slice_get entries position ≡ Some e → (MayRecord s e → ⊥) → AreDue entries s due
    → AreDue entries s (set due position 0)
due-spent [] position e s due is none h = absurd cc
due-spent (y ∷ entries) position e s [] is none h = absurd h
due-spent (y ∷ entries) zero e s (n ∷ due) is none h = let same : y ≡ e =
    cc in (λ may. absurd (none (subst (MayRecord s) same may)), h.1)
due-spent (y ∷ entries) (suc position) e s (n ∷ due) is none h = (h.0, due-spent entries position e s due is none h.1)

due-here : (entries : List Entry) (position : ℕ) (e : Entry) (s : PendingCall) (due : List ℕ)
    → slice_get entries position ≡ Some e → MayRecord s e → AreDue entries s due → 1 ≤ get_or due position 0
due-here [] position e s due is may h = absurd cc
due-here (y ∷ entries) position e s [] is may h = absurd h
due-here (y ∷ entries) zero e s (n ∷ due) is may h = let same : y ≡ e = cc in h.0 (subst (MayRecord s) (sym same) may)
due-here (y ∷ entries) (suc position) e s (n ∷ due) is may h = due-here entries position e s due is may h.1

sum-spent : (due : List ℕ) (position : ℕ) → position < length due → 1 ≤ get_or due position 0
    → sum (set due position 0) + 1 ≤ sum due
sum-spent due position within some = omega (arith, sum_by-set (λ (n : ℕ). n) due position 0 0 within, some)

sum-some : (due : List ℕ) (position : ℕ) → position < length due → 1 ≤ get_or due position 0 → 1 ≤ sum due
sum-some due position within some = omega (arith, get_or-le-sum_by (λ (n : ℕ). n) due position 0 within, some)

-- this many records of a call were made, and these are due afterwards
record Spent (entries : List Entry) (s : PendingCall) (due : List ℕ) (records : ℕ) : Type 0 where
  left : List ℕ
  are : AreDue entries s left
  less : sum left + records ≤ sum due

spend : (entries : List Entry) (position records : ℕ) (e : Entry) (s s' : PendingCall) (due : List ℕ) → records ≤ 1
    → slice_get entries position ≡ Some e
    → (1 ≤ records → MayRecord s e) → (1 ≤ records → MayRecord s' e → ⊥)
    → All (λ e. MayRecord s' e → MayRecord s e) entries → AreDue entries s due → Spent entries s' due records
spend entries position zero e s s' due most is may none still h = record {
  left = due;
  are = due-still entries s s' due still h;
  less = omega arith;
}
spend entries position (suc records) e s s' due most is may none still h =
    let one : 1 ≤ suc records = omega arith in
    let within : position < length due =
    omega (
      arith,
      within-at entries position e is,
      zip-length (λ (e : Entry) (n : ℕ). MayRecord s e
          → 1 ≤ n) entries due h,
    ) in record {
      left = set due position 0;
      are = due-spent entries position e s' due is (none one) (due-still entries s s' due still h);
      less = omega (arith, sum-spent due position within (due-here entries position e s due is (may one) h), most);
    }

few-due : (entries : List Entry) (position records : ℕ) (e : Entry) (s : PendingCall) (due : List ℕ) → records ≤ 1
    → slice_get entries position ≡ Some e
    → (1 ≤ records → MayRecord s e) → AreDue entries s due → records ≤ sum due
few-due entries position zero e s due most is may h = omega arith
few-due entries position (suc records) e s due most is may h =
    let within : position < length due =
    omega (
      arith,
      within-at entries position e is,
      zip-length (λ (e : Entry) (n : ℕ). MayRecord s e
          → 1 ≤ n) entries due h,
    ) in
    omega (arith, sum-some due position within (due-here entries position e s due is (may (omega arith)) h), most)

-- ---- of all calls

record Parted (entries : List Entry) (front : List PendingCall) (s : PendingCall) (back : List PendingCall)
    (dues : List (List ℕ)) : Type 0 where
  before : List (List ℕ)
  due : List ℕ
  behind : List (List ℕ)
  is : dues ≡ before ++ due ∷ behind
  front_due : AllZip (AreDue entries) front before
  here : AreDue entries s due
  back_due : AllZip (AreDue entries) back behind

part : (entries : List Entry) (front : List PendingCall) (s : PendingCall) (back : List PendingCall)
    (dues : List (List ℕ)) → AllZip (AreDue entries) (front ++ s ∷ back) dues
    → Parted entries front s back dues
part entries [] s back [] h = absurd h
part entries [] s back (due ∷ dues) h = record {
  before = [];
  due = due;
  behind = dues;
  is = refl;
  front_due = tt;
  here = h.0;
  back_due = h.1;
}
part entries (x ∷ front) s back [] h = absurd h
part entries (x ∷ front) s back (due ∷ dues) h =
    let rest = part entries front s back dues h.1 in record {
      before = due ∷ rest.before;
      due = rest.due;
      behind = rest.behind;
      is = ap (λ ds. due ∷ ds) rest.is;
      front_due = (h.0, rest.front_due);
      here = rest.here;
      back_due = rest.back_due;
    }

joined : {A B : Type 0} (R : A → B → Type 0) (xs : List A) (ys : List B) (xs' : List A) (ys' : List B) → AllZip R xs ys
    → AllZip R xs' ys' → AllZip R (xs ++ xs') (ys ++ ys')
joined R [] [] xs' ys' h k = k
joined R [] (y ∷ ys) xs' ys' h k = absurd h
joined R (x ∷ xs) [] xs' ys' h k = absurd h
joined R (x ∷ xs) (y ∷ ys) xs' ys' h k = (h.0, joined R xs ys xs' ys' h.1 k)

total : (before : List (List ℕ)) (due : List ℕ) (behind : List (List ℕ))
    → sum_by due_of (before ++ due ∷ behind) ≡ sum_by due_of before + ((sum due + 1) + sum_by due_of behind)
total before due behind =
    sum_by-append due_of before (due ∷ behind) ∙ ap (λ n. sum_by due_of before + n) (sum_by-cons due_of due behind)

few-noted : (n : Noted) → records_of n ≤ 1
few-noted notes.Nothing = omega arith
few-noted (notes.Charged left) = omega arith
few-noted (notes.Drawn window ticket) = omega arith
few-noted notes.Counted = omega arith

-- what a turn's records require
pub record Recording (entries : List Entry) (e : Entry) (outcome : Outcome) (s s' : PendingCall) : Type 0 where
  pub noted : 1 ≤ records_of (noted_in outcome) → MayRecord s e
  pub redacted : outcome ≡ Redacted → MayRecord s e
  pub noted_no_more : 1 ≤ records_of (noted_in outcome) → MayRecord s' e → ⊥
  pub redacted_no_more : outcome ≡ Redacted → MayRecord s' e → ⊥
  pub still : All (λ e. MayRecord s' e → MayRecord s e) entries

fits-by : (entries : List Entry) (position : ℕ) (e : Entry) (outcome : Outcome) (s s' : PendingCall) (due : List ℕ)
    (room : ℕ) → sum due + 1 ≤ room
    → slice_get entries position ≡ Some e → Recording entries e outcome s s' → AreDue entries s due
    → records_in outcome ≤ room
fits-by entries position e (Passed n) s s' due room enough is r h = omega (arith, few-noted n, enough)
fits-by entries position e (Held left cost) s s' due room enough is r h = omega arith
fits-by entries position e (Refused n why) s s' due room enough is r h =
    omega (arith, few-due entries position (records_of n) e s due (few-noted n) is r.noted h, enough)
fits-by entries position e Redacted s s' due room enough is r h = omega (arith, enough)

pub room-fits : (entries : List Entry) (position : ℕ) (e : Entry) (outcome : Outcome) (front : List PendingCall)
    (s s' : PendingCall) (back : List PendingCall) (room : ℕ)
    → HasRoom (front ++ s ∷ back) entries room → slice_get entries position ≡ Some e → Recording entries e outcome s s'
    → records_in outcome ≤ room
room-fits entries position e outcome front s s' back room h is r =
    let p = part entries front s back h.dues h.each in
    let all : sum_by due_of h.dues ≡ sum_by due_of p.before + ((sum p.due + 1) + sum_by due_of p.behind) =
    ap (sum_by due_of) p.is ∙ total p.before p.due p.behind in
    fits-by entries position e outcome s s' p.due room (omega (arith, h.enough, all)) is r p.here

turned-by : (entries : List Entry) (position : ℕ) (e : Entry) (outcome : Outcome) (front : List PendingCall)
    (s s' : PendingCall) (back : List PendingCall)
    (before : List (List ℕ)) (due : List ℕ) (behind : List (List ℕ)) (room left : ℕ)
    → AllZip (AreDue entries) front before → AreDue entries s due → AllZip (AreDue entries) back behind
    → sum_by due_of before + ((sum due + 1) + sum_by due_of behind) ≤ room → slice_get entries position ≡ Some e
    → Recording entries e outcome s s' → room ≤ left + records_in outcome
    → HasRoom (calls_after outcome front s' back) entries left
turned-by entries position e (Passed n) front s s' back before due behind room left f h b enough is r le =
    let spent = spend entries position (records_of n) e s s' due (few-noted n) is r.noted r.noted_no_more r.still h in
    record {
      dues = before ++ spent.left ∷ behind;
      each = joined (AreDue entries) front before (s' ∷ back) (spent.left ∷ behind) f (spent.are, b);
      enough = omega (arith, total before spent.left behind, spent.less, enough, le);
    }
turned-by entries position e (Held l cost) front s s' back before due behind room left f h b enough is r le =
    let spent = spend entries position 0 e s s' due (omega arith) is (λ none. absurd (omega (arith, none))) (λ none.
    absurd (omega (arith, none))) r.still h in record {
      dues = before ++ spent.left ∷ behind;
      each = joined (AreDue entries) front before (s' ∷ back) (spent.left ∷ behind) f (spent.are, b);
      enough = omega (arith, total before spent.left behind, spent.less, enough, le);
    }
turned-by entries position e (Refused n why) front s s' back before due behind room left f h b enough is r le =
    record {
      dues = before ++ behind;
      each = joined (AreDue entries) front before back behind f b;
      enough = omega (
        arith,
        sum_by-append due_of before behind,
        few-due entries position (records_of n) e s due
            (few-noted n) is r.noted h,
        enough,
        le,
      );
    }
turned-by entries position e Redacted front s s' back before due behind room left f h b enough is r le =
    let spent = spend entries position 1 e s s' due (omega arith) is (λ some. r.redacted refl) (λ some.
    r.redacted_no_more refl) r.still h in record {
      dues = before ++ spent.left ∷ behind;
      each = joined (AreDue entries) front before (s' ∷ back) (spent.left ∷ behind) f (spent.are, b);
      enough = omega (arith, total before spent.left behind, spent.less, enough, le);
    }

pub room-turned : (entries : List Entry) (position : ℕ) (e : Entry) (outcome : Outcome) (front : List PendingCall)
    (s s' : PendingCall) (back : List PendingCall) (room left : ℕ)
    → HasRoom (front ++ s ∷ back) entries room → slice_get entries position ≡ Some e → Recording entries e outcome s s'
    → room ≤ left + records_in outcome
    → HasRoom (calls_after outcome front s' back) entries left
room-turned entries position e outcome front s s' back room left h is r le =
    let p = part entries front s back h.dues h.each in
    let all : sum_by due_of h.dues ≡ sum_by due_of p.before + ((sum p.due + 1) + sum_by due_of p.behind) =
    ap (sum_by due_of) p.is ∙ total p.before p.due p.behind in
    turned-by entries position e outcome front s s' back p.before p.due p.behind room left p.front_due p.here p.back_due
    (omega (arith, h.enough, all)) is r le
