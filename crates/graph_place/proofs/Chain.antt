-- The words of a run.
use Rattle.std.proofs.Common.{◌≡◌, ℕ, ◌+◌, ◌-◌, ◌<◌, ◌≤◌, ◌^◌, cond, List, [], ◌∷◌, ◌++◌, length, take, refl, sym, ap}
use Rattle.std.proofs.Common.{subst, ◌∙◌, arith, append_assoc, append-nil, length-append}
use Rattle.std.specs.Str.{IsUtf8}
use Rattle.std.proofs.Math.Seq.{take-append-add}
use Rattle.std.proofs.lemmas.Bool.{ne_eqb, le-leb, lt-leb}
use Rattle.mrpc_table.specs.declared.table.Kind.{Kind}
use Rattle.mrpc_table.specs.declared.table.Kind.TheVariants.{Text}
use Rattle.mrpc_table.specs.declared.table.Table.{Table}
use Rattle.graph_form.specs.Roles.{Expected, expected_after, run_address, run_word, run_words, word_bytes}
use Rattle.graph_form.specs.Placed.{Placed, nothing, first, word, loads, IsValidWord, AreSound}
use Rattle.graph_form.specs.Forgotten.{bytes_of_run, run_at}
use Rattle.graph_place.specs.Laid.{HasBytes, run_expected}
use Rattle.graph_place.proofs.Spelled.{PutsAt, PutsWordAt, BegunAt}
use Rattle.graph_place.proofs.Spreads.{spread_join, spread_free}
use Rattle.graph_place.proofs.Beginning.{Loads, joined, begun_none, begun_end, word_put, one_put, nothing_put}
use Rattle.graph_place.proofs.Fine.{fine_run_address, fine_run_word}

abbrev pub HasAll : List ℕ → Placed → Type 0
HasAll bytes P = take (length bytes) (bytes_of_run P) ≡ bytes

-- some bytes are laid out, and these remain
pub record RunOn (all : List ℕ) (c : ℕ) (start : Loads) (rest : List ℕ) (free : ℕ) (now : Loads) : Type 0 where
  pub done : List ℕ
  pub whole : done ++ rest ≡ all
  pub some : 1 ≤ length rest
  pub free_is : free + run_words (length rest) ≡ c + run_words (length all)
  pub past : c ≤ free
  pub on : (T : Table) (H : ℕ) (k : Kind) (b : ℕ) → b ≤ c → (k ≡ Text → IsUtf8 all)
      → BegunAt T H ((run_word k (length all) [], c) ∷ []) ((run_word k (length rest) done, free) ∷ []) b b c free start
      now (HasAll all) (HasAll rest)

pub run_begins : (all : List ℕ) (c : ℕ) (start : Loads) → 1 ≤ length all → RunOn all c start all c start
run_begins all c start some = record {
  done = [];
  whole = refl;
  some = some;
  free_is = refl;
  past = omega arith;
  on = λ T H k b bc text. begun_none T H ((run_word k (length all) [], c) ∷ []) b c start (HasAll all);
}

-- a word has eight bytes
eight : (v : ℕ) (piece : List ℕ) → length piece ≡ 8 → HasBytes v piece → word_bytes v ≡ piece
eight v piece len has = sym (ap (λ n. take n (word_bytes v)) len) ∙ has.low

long_behind : (T : Table) (k : Kind) (left : ℕ) (before : List ℕ) (p v : ℕ) → 8 < left
    → expected_after T (run_word k left before) p v ≡ (run_word k (left - 8) (before ++ word_bytes v), p + 1) ∷ []
long_behind T k left before p v more = ap (λ b. cond b [] ((run_word k (left - 8) (before ++ word_bytes v), p + 1) ∷ [])) (lt-leb left 8 more)

short_behind : (T : Table) (k : Kind) (left : ℕ) (before : List ℕ) (p v : ℕ) → left ≤ 8 → expected_after T (run_word k left before) p v ≡ []
short_behind T k left before p v few = ap (λ b. cond b [] ((run_word k (left - 8) (before ++ word_bytes v), p + 1) ∷ [])) (le-leb left 8 few)

one_word : (T : Table) (H : ℕ) (es : Expected) (rest less : Expected) (b c free v : ℕ) (start now next : Loads) (Made Rest Less : Placed → Type 0) → b ≤ c → c ≤ free
    → next ≡ now ++ (free, v) ∷ []
    → BegunAt T H es rest b b c free start now Made Rest
    → ((Q : Placed) → AreSound T H less Q → AreSound T H rest (first (word free v Q) nothing))
    → ((Q : Placed) → Less Q → Rest (first (word free v Q) nothing))
    → BegunAt T H es less b b c (free + 1) start next Made Less
one_word T H es rest less b c free v start now next Made Rest Less bc cf is begun sounds says = record {
  own = begun.own ++ (free, v) ∷ [];
  words = joined start begun.own now ((free, v) ∷ []) next begun.words is;
  spread = spread_join b b b c free (free + 1) begun.own ((free, v) ∷ []) (omega arith) (omega arith) bc cf (omega arith) begun.spread (spread_free b free v (omega (arith, bc, cf)));
  on = λ Q sound made.
      let done = begun.on (first (word free v Q) nothing) (sounds Q sound) (says Q made) in
      let flat : loads (first (word free v Q) nothing) ≡ (free, v) ∷ loads Q = append-nil ((free, v) ∷ loads Q) in
      record {
        placed = done.placed;
        sound = done.sound;
        loaded = done.loaded ∙ ap (λ xs. begun.own ++ xs) flat ∙ sym (append_assoc begun.own ((free, v) ∷ []) (loads Q));
        made = done.made;
      };
}

pub run_more : (all : List ℕ) (c : ℕ) (start : Loads) (rest piece others : List ℕ) (free v : ℕ) (now next : Loads)
    → RunOn all c start rest free now → rest ≡ piece ++ others → length piece ≡ 8 → 8 < length rest
    → HasBytes v piece → next ≡ now ++ (free, v) ∷ [] → RunOn all c start others (free + 1) next
run_more all c start rest piece others free v now next r split len more has is =
    let count : length rest ≡ 8 + length others = ap length split ∙ length-append piece others ∙ ap (λ n. n + length others) len in
    let bytes : word_bytes v ≡ piece = eight v piece len has in
    record {
      done = r.done ++ piece;
      whole = append_assoc r.done piece others ∙ ap (λ xs. r.done ++ xs) (sym split) ∙ r.whole;
      some = omega (arith, count, more);
      free_is = omega (arith, r.free_is, count);
      past = omega (arith, r.past);
      on = λ T H k b bc text.
          let left_is : length rest - 8 ≡ length others = omega (arith, count) in
          let behind_is : expected_after T (run_word k (length rest) r.done) free v ≡ (run_word k (length others) (r.done ++ piece), free + 1) ∷ []
          = long_behind T k (length rest) r.done free v more
          ∙ ap (λ n. (run_word k n (r.done ++ word_bytes v), free + 1) ∷ []) left_is
          ∙ ap (λ xs. (run_word k (length others) (r.done ++ xs), free + 1) ∷ []) bytes in
          let fine : IsValidWord T H (run_word k (length rest) r.done) v =
          fine_run_word T H k (length rest) r.done v (λ few. absurd (omega (arith, few, more)))
          (λ e few. absurd (omega (arith, few, more))) in
          one_word T H ((run_word k (length all) [], c) ∷ []) ((run_word k (length rest) r.done, free) ∷ [])
          ((run_word k (length others) (r.done ++ piece), free + 1) ∷ []) b c free v start now next (HasAll all)
          (HasAll rest) (HasAll others) bc r.past is
          (r.on T H k b bc text)
          (λ Q sound. (refl, has.small, fine, subst (λ es. AreSound T H es Q) (sym behind_is) sound, tt))
          (λ Q made.
          ap (λ n. take n (word_bytes v ++ bytes_of_run Q)) (count ∙ ap (λ n. n + length others) (sym len))
          ∙ ap (λ xs. take (length piece + length others) (xs ++ bytes_of_run Q)) bytes
          ∙ take-append-add piece (bytes_of_run Q) (length others)
          ∙ ap (λ xs. piece ++ xs) made ∙ sym split);
    }

pub run_ends : (all : List ℕ) (c : ℕ) (start : Loads) (rest : List ℕ) (free v : ℕ) (now next : Loads) → RunOn all c start rest free now → length rest ≤ 8
    → HasBytes v rest → next ≡ now ++ (free, v) ∷ [] → (T : Table) (H : ℕ) (k : Kind) (b : ℕ) → b ≤ c
    → (k ≡ Text → IsUtf8 all)
    → PutsAt T H ((run_word k (length all) [], c) ∷ []) b b c (free + 1) start next (HasAll all)
run_ends all c start rest free v now next r few has is T H k b bc text =
    let last : r.done ++ take (length rest) (word_bytes v) ≡ all = ap (λ xs. r.done ++ xs) has.low ∙ r.whole in
    let fine : IsValidWord T H (run_word k (length rest) r.done) v = fine_run_word T H k (length rest) r.done v has.spare (λ e le. subst IsUtf8 (sym last) (text e)) in
    let none = short_behind T k (length rest) r.done free v few in
    let begun : BegunAt T H ((run_word k (length all) [], c) ∷ []) [] b b c (free + 1) start next (HasAll all) (λ Q. Q ≡ nothing)
    = one_word T H ((run_word k (length all) [], c) ∷ []) ((run_word k (length rest) r.done, free) ∷ []) [] b c free v
    start now next (HasAll all) (HasAll rest) (λ Q. Q ≡ nothing) bc r.past is
    (r.on T H k b bc text)
    (λ Q sound. (refl, has.small, fine, subst (λ es. AreSound T H es Q) (sym none) sound, tt))
    (λ Q made. ap (λ P. take (length rest) (word_bytes v ++ bytes_of_run P)) made ∙ ap (take (length rest)) (append-nil (word_bytes v)) ∙ has.low) in
    begun_end T H ((run_word k (length all) [], c) ∷ []) b b c (free + 1) start next (HasAll all) (λ Q. Q ≡ nothing) begun refl

-- the address and all words
pub run_put : (all : List ℕ) (place c d : ℕ) (before start next : Loads) → 1 ≤ length all → c < 2 ^ 64 → 1 ≤ place
    → place + 1 ≤ c → d ≡ c + run_words (length all) → start ≡ before ++ (place, c) ∷ []
    → ((T : Table) (H : ℕ) (k : Kind) (b : ℕ) → b ≤ c → (k ≡ Text → IsUtf8 all) → PutsAt T H ((run_word k (length all) [], c) ∷ []) b b c d start next (HasAll all))
    → (T : Table) (H : ℕ) (k : Kind) → d ≤ H → (k ≡ Text → IsUtf8 all)
    → PutsAt T H (run_expected k (length all) place) place (place + 1) c d before next (λ P. run_at (length all) P
    ≡ all)
run_put all place c d before start next some small from slot size is puts T H k within text =
    let there : PutsAt T H ((run_word k (length all) [], c) ∷ []) (place + 1) (place + 1) c d start next (HasAll all) = puts T H k (place + 1) slot text in
    let whole : PutsWordAt T H (run_address k (length all), place) (place + 1) c d before next (λ w. run_at (length all) (first w nothing) ≡ all)
    = word_put T H (run_address k (length all)) place c (place + 1) c d before start next (HasAll all)
    (λ w. run_at (length all) (first w nothing) ≡ all) (omega arith) slot (omega (arith, size)) small
    (fine_run_address T H k (length all) c (omega (arith, slot)) (omega (arith, size, within))) is there (λ P made. made) in
    let put : PutsAt T H ((run_address k (length all), place) ∷ []) place (place + 1) c d before next (λ P. run_at (length all) P ≡ all)
    = one_put T H (run_address k (length all), place) (place + 1) c d before next
    (λ w. run_at (length all) (first w nothing) ≡ all) (λ P. run_at (length all) P ≡ all) whole
    (λ w made. made) in
    let expected : run_expected k (length all) place ≡ (run_address k (length all), place) ∷ [] =
    ap (λ b. cond b [] ((run_address k (length all), place) ∷ []))
    (ne_eqb (length all) 0 (λ e. omega (arith, e, some))) in
    subst (λ es. PutsAt T H es place (place + 1) c d before next (λ P. run_at (length all) P ≡ all)) (sym expected) put

abbrev pub RunPut : List ℕ → ℕ → ℕ → Loads → ℕ → Loads → Type 0
RunPut bytes place c before d next =
    (T : Table) (H : ℕ) (kind : Kind) → d ≤ H → (kind ≡ Text → IsUtf8 bytes)
    → PutsAt T H (run_expected kind (length bytes) place) place (place + 1) c d before next
    (λ P. run_at (length bytes) P ≡ bytes)

-- the address, the words so far and the last one
pub run_whole : (all : List ℕ) (place c c2 d : ℕ) (before start : Loads) (rest : List ℕ) (free v : ℕ)
    (now next : Loads) → 1 ≤ place → place + 1 ≤ c → c < 2 ^ 64 → c2 ≡ c → start ≡ before ++ (place, c) ∷ []
    → RunOn all c2 start rest free now → length rest ≤ 8 → HasBytes v rest → d ≡ free + 1 → next ≡ now ++ (free, v) ∷ [] → RunPut all place c before d next
run_whole all place c c2 d before start rest free v now next from slot small same is on few has end put =
    let r : RunOn all c start rest free now = subst (λ e. RunOn all e start rest free now) same on in
    let one : run_words (length rest) ≡ 1 = omega (arith, r.some, few) in
    let size : free + 1 ≡ c + run_words (length all) = omega (arith, r.free_is, one) in
    let some : 1 ≤ length all = omega (arith, ap length r.whole, length-append r.done rest, r.some) in
    subst (λ e. RunPut all place c before e next) (sym end)
    (λ T H k within text. run_put all place c (free + 1) before start next some small from slot size is
    (λ T2 H2 k2 b below says. run_ends all c start rest free v now next r few has put T2 H2 k2 b below says) T H k
    within text)

pub no_run : (all : List ℕ) (place c : ℕ) (before : Loads) → length all ≡ 0 → (T : Table) (H : ℕ) (k : Kind)
    → PutsAt T H (run_expected k (length all) place) place (place + 1) c c before before
    (λ P. run_at (length all) P ≡ all)
no_run [] place c before e T H k = nothing_put T H place (place + 1) c before (λ P. run_at 0 P ≡ []) (omega arith) refl
no_run (x ∷ all) place c before e T H k = absurd (omega (arith, e))
