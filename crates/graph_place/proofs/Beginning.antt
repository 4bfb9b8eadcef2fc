-- Words that are appended one after another.
use Rattle.std.proofs.Common.{◌≡◌, ℕ, ◌+◌, ◌<◌, ◌≤◌, ◌^◌, List, [], ◌∷◌, ◌++◌, refl, sym, ap, subst, ◌∙◌, arith, append_assoc, append-nil}
use Rattle.mrpc_table.specs.declared.table.Table.{Table}
use Rattle.graph_form.specs.Roles.{WordRole, Expected, expected_after}
use Rattle.graph_form.specs.Placed.{Placed, nothing, first, Word, word, loads, IsValidWord}
use Rattle.graph_place.proofs.Spelled.{SpreadAt, PutsAt, PutsWordAt, BegunAt}
use Rattle.graph_place.proofs.Spreads.{spread_join, spread_none, spread_one, spread_content, spread_wide}

abbrev pub Loads : Type 0
Loads = List (ℕ × ℕ)

pub begun_none : (T : Table) (H : ℕ) (all : Expected) (a c : ℕ) (before : Loads) (Made : Placed → Type 0) → BegunAt T H all all a a c c before before Made Made
begun_none T H all a c before Made = record {
  own = [];
  words = sym (append-nil before);
  spread = spread_none a a c c (omega arith) (omega arith);
  on = λ Q sound made. record { placed = Q; sound = sound; loaded = refl; made = made };
}

-- the last two lists as one
pub joined : (before own now more next : Loads) → now ≡ before ++ own → next ≡ now ++ more → next ≡ before ++ (own ++ more)
joined before own now more next here there = there ∙ ap (λ xs. xs ++ more) here ∙ append_assoc before own more

pub begun_more : (T : Table) (H : ℕ) (all : Expected) (e : WordRole × ℕ) (rest : Expected) (a b b2 c d d2 : ℕ)
    (before now next : Loads) (Made Rest Less : Placed → Type 0) (Here : Word → Type 0)
    → a ≤ b → b ≤ b2 → b2 ≤ c → c ≤ d → d ≤ d2 → e.1 ≡ b
    → BegunAt T H all (e ∷ rest) a b c d before now Made Rest
    → PutsWordAt T H e b2 d d2 now next Here
    → ((Q : Placed) (w : Word) → Here w → Less Q → Rest (first w Q))
    → BegunAt T H all rest a b2 c d2 before next Made Less
begun_more T H all e rest a b b2 c d d2 before now next Made Rest Less Here ab bb bc cd dd at begun puts says =
    let more = (e.1, puts.value) ∷ loads puts.content in
    let spread : SpreadAt b b2 d d2 more = subst (λ p. SpreadAt p b2 d d2 more) at puts.spread in
    record {
      own = begun.own ++ more;
      words = joined before begun.own now more next begun.words puts.words;
      spread = spread_join a b b2 c d d2 begun.own more ab bb bc cd dd begun.spread spread;
      on = λ Q sound less.
          let w = word e.1 puts.value puts.content in
          let done = begun.on (first w Q) (refl, puts.small, puts.fine, puts.sound, sound) (says Q w puts.made less) in
          record {
            placed = done.placed;
            sound = done.sound;
            loaded = done.loaded ∙ sym (append_assoc begun.own more (loads Q));
            made = done.made;
          };
    }

pub begun_end : (T : Table) (H : ℕ) (all : Expected) (a b c d : ℕ) (before now : Loads) (Made Rest : Placed → Type 0)
    → BegunAt T H all [] a b c d before now Made Rest → Rest nothing → PutsAt T H all a b c d before now Made
begun_end T H all a b c d before now Made Rest begun rest =
    let done = begun.on nothing tt rest in
    let same : loads done.placed ≡ begun.own = done.loaded ∙ append-nil begun.own in
    record {
      placed = done.placed;
      sound = done.sound;
      words = begun.words ∙ ap (λ xs. before ++ xs) (sym same);
      spread = subst (SpreadAt a b c d) (sym same) begun.spread;
      made = done.made;
    }

pub begun_join : (T : Table) (H : ℕ) (all rest : Expected) (a b b2 c d d2 : ℕ) (before now next : Loads) (Made Rest : Placed → Type 0)
    → a ≤ b → b ≤ b2 → b2 ≤ c → c ≤ d → d ≤ d2
    → BegunAt T H all rest a b c d before now Made Rest → PutsAt T H rest b b2 d d2 now next Rest → PutsAt T H all a b2 c d2 before next Made
begun_join T H all rest a b b2 c d d2 before now next Made Rest ab bb bc cd dd begun puts =
    let done = begun.on puts.placed puts.sound puts.made in
    let more = loads puts.placed in
    record {
      placed = done.placed;
      sound = done.sound;
      words = joined before begun.own now more next begun.words puts.words ∙ ap (λ xs. before ++ xs) (sym done.loaded);
      spread = subst (SpreadAt a b2 c d2) (sym done.loaded) (spread_join a b b2 c d d2 begun.own more ab bb bc cd dd begun.spread puts.spread);
      made = done.made;
    }

-- a word, and then the words that it leads to
pub word_put : (T : Table) (H : ℕ) (r : WordRole) (p v b2 c d : ℕ) (before mid next : Loads) (Made : Placed → Type 0) (Here : Word → Type 0)
    → p + 1 ≤ b2 → b2 ≤ c → c ≤ d → v < 2 ^ 64 → IsValidWord T H r v
    → mid ≡ before ++ (p, v) ∷ []
    → PutsAt T H (expected_after T r p v) (p + 1) b2 c d mid next Made
    → ((P : Placed) → Made P → Here (word p v P))
    → PutsWordAt T H (r, p) b2 c d before next Here
word_put T H r p v b2 c d before mid next Made Here pb bc cd small fine put puts says = record {
  value = v;
  content = puts.placed;
  small = small;
  fine = fine;
  sound = puts.sound;
  words = joined before ((p, v) ∷ []) mid (loads puts.placed) next put puts.words;
  spread = spread_join p (p + 1) b2 c c d ((p, v) ∷ []) (loads puts.placed) (omega arith) pb bc (omega arith) cd
      (spread_one p (p + 1) c v (omega arith) (omega (arith, pb, bc))) puts.spread;
  made = says puts.placed puts.made;
}

-- nothing is expected and nothing is appended
pub nothing_put : (T : Table) (H b b2 c : ℕ) (before : Loads) (Made : Placed → Type 0) → b ≤ b2 → Made nothing → PutsAt T H [] b b2 c c before before Made
nothing_put T H b b2 c before Made bb made = record {
  placed = nothing;
  sound = tt;
  words = sym (append-nil before);
  spread = spread_none b b2 c c bb (omega arith);
  made = made;
}

-- a word with its content is all that is expected
pub one_put : (T : Table) (H : ℕ) (e : WordRole × ℕ) (b c d : ℕ) (before next : Loads) (Here : Word → Type 0) (Made : Placed → Type 0)
    → PutsWordAt T H e b c d before next Here → ((w : Word) → Here w → Made (first w nothing)) → PutsAt T H (e ∷ []) e.1 b c d before next Made
one_put T H e b c d before next Here Made puts says =
    let w = word e.1 puts.value puts.content in
    let same : loads (first w nothing) ≡ (e.1, puts.value) ∷ loads puts.content = append-nil ((e.1, puts.value) ∷ loads puts.content) in
    record {
      placed = first w nothing;
      sound = (refl, puts.small, puts.fine, puts.sound, tt);
      words = puts.words ∙ ap (λ xs. before ++ xs) (sym same);
      spread = subst (SpreadAt e.1 b c d) (sym same) puts.spread;
      made = says w puts.made;
    }

pub word_wide : (T : Table) (H : ℕ) (e : WordRole × ℕ) (b b2 c d : ℕ) (before next : Loads) (Here There : Word → Type 0)
    → b ≤ b2 → PutsWordAt T H e b c d before next Here → ((w : Word) → Here w → There w) → PutsWordAt T H e b2 c d before next There
word_wide T H e b b2 c d before next Here There bb puts says = record {
  value = puts.value;
  content = puts.content;
  small = puts.small;
  fine = puts.fine;
  sound = puts.sound;
  words = puts.words;
  spread = spread_wide e.1 b b2 c d ((e.1, puts.value) ∷ loads puts.content) bb puts.spread;
  made = says (word e.1 puts.value puts.content) puts.made;
}

-- words at the start of the free places are content of the slots before them
pub content_put : (T : Table) (H : ℕ) (es : Expected) (b c e d : ℕ) (before next : Loads) (Made More : Placed → Type 0)
    → b ≤ c → PutsAt T H es c e e d before next Made → ((P : Placed) → Made P → More P) → PutsAt T H es b b c d before next More
content_put T H es b c e d before next Made More bc puts says = record {
  placed = puts.placed;
  sound = puts.sound;
  words = puts.words;
  spread = spread_content b c e d (loads puts.placed) bc puts.spread;
  made = says puts.placed puts.made;
}
