-- Loads stay fresh when more stores are known, and after one more load.
use Rattle.std.proofs.Common.{◌≡◌, ℕ, zero, suc, ◌-◌, ◌<◌, ◌≤◌, List, [], ◌∷◌, ◌++◌, length, take, drop, get_or, ◌≢◌}
use Rattle.std.proofs.Common.{All, sym, ap, ◌∙◌, subst, arith, length-append}
use Rattle.std.specs.List.{AllZip}
use Rattle.std.proofs.lemmas.List.{take-append-le, take_all, take-append-drop, drop-append-le}
use Rattle.std.proofs.lemmas.List.Elements.{All-nil, All-cons, All-head, All-tail}
use Rattle.std.proofs.lemmas.List.Sorted.{IsNonDecreasingBy-push}
use Rattle.mrpc_base.specs.Heap.{word_after}
use Rattle.shared_heap.specs.declared.view.Load.{Load}
use Rattle.shared_heap.specs.Fresh.{IsPrefix, IsLoadNumber, CallLoads, loads_of_calls, HaveLoadNumbers, AreFresh, IsLoadMade, AreLoadsMade, HasNoStoreTo, load_of}
use Rattle.shared_heap.proofs.LastStore.{word_after-elsewhere}

pub length_of : (new old : List (ℕ × ℕ)) → IsPrefix new old → length old ≤ length new
length_of new old h = omega (arith, ap length h.1, length-append old h.0)

later : (old new : List (ℕ × ℕ)) (load : Load) (number : ℕ) → IsPrefix new old → IsLoadNumber old load number → IsLoadNumber new load number
later old new load number h f = record {
  after = f.after;
  made = omega (arith, f.made, length_of new old h);
  value = f.value ∙ ap (λ stores. word_after stores load.place) (sym (ap (take number) h.1 ∙ take-append-le number old h.0 f.made));
}

all_later : (old new : List (ℕ × ℕ)) (loads : List Load) (numbers : List ℕ) → IsPrefix new old → AllZip (IsLoadNumber old) loads numbers → AllZip (IsLoadNumber new) loads numbers
all_later old new [] [] h f = tt
all_later old new [] (n ∷ numbers) h f = absurd f
all_later old new (l ∷ loads) [] h f = absurd f
all_later old new (l ∷ loads) (n ∷ numbers) h f = (later old new l n h f.0, all_later old new loads numbers h f.1)

one_more : (stores : List (ℕ × ℕ)) (loads : List Load) (numbers : List ℕ) (load : Load) (number : ℕ)
    → AllZip (IsLoadNumber stores) loads numbers → IsLoadNumber stores load number
    → AllZip (IsLoadNumber stores) (loads ++ load ∷ []) (numbers ++ number ∷ [])
one_more stores [] [] load number f g = (g, tt)
one_more stores [] (n ∷ numbers) load number f g = absurd f
one_more stores (l ∷ loads) [] load number f g = absurd f
one_more stores (l ∷ loads) (n ∷ numbers) load number f g = (f.0, one_more stores loads numbers load number f.1 g)

each_made : (stores : List (ℕ × ℕ)) (loads : List Load) (numbers : List ℕ) (k d : ℕ)
    → AllZip (IsLoadNumber stores) loads numbers → k < length numbers → get_or numbers k d ≤ length stores
each_made stores [] [] k d f below = absurd (omega arith)
each_made stores [] (n ∷ numbers) k d f below = absurd f
each_made stores (l ∷ loads) [] k d f below = absurd f
each_made stores (l ∷ loads) (n ∷ numbers) zero d f below = f.0.made
each_made stores (l ∷ loads) (n ∷ numbers) (suc k) d f below = each_made stores loads numbers k d f.1 (omega arith)

pub numbered_later : (old new : List (ℕ × ℕ)) (loads : List Load) → IsPrefix new old → HaveLoadNumbers loads old → HaveLoadNumbers loads new
numbered_later old new loads h f = (f.0, f.1, all_later old new loads f.0 h f.2)

-- the number of the new load is that of all stores
pub numbered_load : (old new : List (ℕ × ℕ)) (loads : List Load) (place value after : ℕ) → IsPrefix new old
    → after ≤ length old → value ≡ word_after new place → HaveLoadNumbers loads old
    → HaveLoadNumbers (loads ++ load_of place value after ∷ []) new
numbered_load old new loads place value after h knew is f =
    let number = length new in
    let mine : IsLoadNumber new (load_of place value after) number = record {
      after = omega (arith, knew, length_of new old h);
      made = omega arith;
      value = is ∙ ap (λ stores. word_after stores place) (sym (take_all number new (omega arith)));
    } in
    let all = all_later old new loads f.0 h f.2 in (
      f.0 ++ number ∷ [],
      IsNonDecreasingBy-push (λ x. x) f.0 number f.1 (λ d some. each_made new loads f.0 (length f.0 - 1) d all
          (omega arith)),
      one_more new loads f.0 (load_of place value after) number all mine,
    )

-- the numbers of what a reader made are those of the loads of calls
of_calls : (stores : List (ℕ × ℕ)) (loads made : List Load) (numbers : List ℕ) → AllZip IsLoadMade loads made
    → AllZip (IsLoadNumber stores) made numbers → AllZip (IsLoadNumber stores) loads numbers
of_calls stores [] [] [] m f = tt
of_calls stores [] [] (n ∷ numbers) m f = absurd f
of_calls stores [] (y ∷ made) numbers m f = absurd m
of_calls stores (x ∷ loads) [] numbers m f = absurd m
of_calls stores (x ∷ loads) (y ∷ made) [] m f = absurd f
of_calls stores (x ∷ loads) (y ∷ made) (n ∷ numbers) m f = (
  record { after = omega (arith, m.0.knew, f.0.after); made = f.0.made; value = m.0.value ∙ f.0.value ∙ ap (λ place. word_after (take n stores) place) (sym m.0.place) },
  of_calls stores loads made numbers m.1 f.1,
)

pub fresh_where_made : (stores : List (ℕ × ℕ)) (calls : List CallLoads) (made : List Load) → AreLoadsMade calls made → HaveLoadNumbers made stores → AreFresh calls stores
fresh_where_made stores calls made m f = (f.0, f.1, of_calls stores (loads_of_calls calls) made f.0 m f.2)

All-front : {X : Type 0} (P : X → Type 0) (xs ys : List X) → All P (xs ++ ys) → All P xs
All-front P [] ys a = All-nil P
All-front P (x ∷ xs) ys a = All-cons P x xs (All-head P x (xs ++ ys) a) (All-front P xs ys (All-tail P x (xs ++ ys) a))

-- if no store after the first `after` ones goes to a place, it keeps the word that those gave it
pub untouched : (old new all : List (ℕ × ℕ)) (place after : ℕ) → IsPrefix new old → IsPrefix all new
    → after ≤ length old → HasNoStoreTo place (drop after all) → word_after new place ≡ word_after (take after all) place
untouched old new all place after grew goes_on known none =
    let within : after ≤ length new = omega (arith, known, length_of new old grew) in
    let rest : drop after all ≡ drop after new ++ goes_on.0 = ap (drop after) goes_on.1 ∙ drop-append-le after new goes_on.0 within in
    let none' : HasNoStoreTo place (drop after new) = All-front (λ store. store.0 ≢ place) (drop after new) goes_on.0 (subst (HasNoStoreTo place) rest none) in
    ap (λ stores. word_after stores place) (sym (take-append-drop after new))
    ∙ word_after-elsewhere (take after new) (drop after new) place none'
    ∙ ap (λ stores. word_after stores place) (sym (ap (take after) goes_on.1 ∙ take-append-le after new goes_on.0 within))

pub numbered_none : (stores : List (ℕ × ℕ)) → HaveLoadNumbers [] stores
numbered_none stores = ([], (λ i j d le below. absurd (omega arith)), tt)
