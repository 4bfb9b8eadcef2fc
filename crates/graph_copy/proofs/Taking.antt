-- The first of some words, and the loads at the start.
use Rattle.std.proofs.Common.{◌≡◌, ℕ, ◌<◌, ◌^◌, List, [], ◌∷◌, ◌++◌, refl, ap, subst, ◌∙◌, append_assoc}
use Rattle.mrpc_table.specs.declared.table.Table.{Table}
use Rattle.graph_form.specs.Roles.{WordRole as Use, Expected, expected_after}
use Rattle.graph_form.specs.Placed.{Placed, nothing, first, word, loads, IsValidWord, AreSound}

pub sound_none : (T : Table) (H : ℕ) (P : Placed) → AreSound T H [] P → P ≡ nothing
sound_none T H nothing h = refl
sound_none T H (first w others) h = absurd h

-- the first of some words
pub record FirstOf (T : Table) (H : ℕ) (e : Use × ℕ) (es : Expected) (P : Placed) (rest now : List (ℕ × ℕ)) : Type 0 where
  pub number : ℕ
  pub content : Placed
  pub others : Placed
  pub small : number < 2 ^ 64
  pub fine : IsValidWord T H e.0 number
  pub sound : AreSound T H (expected_after T e.0 e.1 number) content
  pub rest_sound : AreSound T H es others
  pub is : P ≡ first (word e.1 number content) others
  pub now_is : now ≡ (e.1, number) ∷ (loads content ++ (loads others ++ rest))

first_loads : (place v : ℕ) (content others : Placed) (rest : List (ℕ × ℕ))
    → loads (first (word place v content) others) ++ rest ≡ (place, v) ∷ (loads content ++ (loads others ++ rest))
first_loads place v content others rest = ap (λ xs. (place, v) ∷ xs) (append_assoc (loads content) (loads others) rest)

pub first_of : (T : Table) (H : ℕ) (e : Use × ℕ) (es : Expected) (P : Placed) (rest now : List (ℕ × ℕ))
    → AreSound T H (e ∷ es) P → now ≡ loads P ++ rest → FirstOf T H e es P rest now
first_of T H e es nothing rest now sound is = absurd sound
first_of T H e es (first (word place v content) others) rest now sound is = record {
  number = v;
  content = content;
  others = others;
  small = sound.1;
  fine = sound.2;
  sound = subst (λ p. AreSound T H (expected_after T e.0 p v) content) sound.0 sound.3;
  rest_sound = sound.4;
  is = ap (λ p. first (word p v content) others) sound.0;
  now_is = is ∙ first_loads place v content others rest ∙ ap (λ p. (p, v) ∷ (loads content ++ (loads others ++ rest))) sound.0;
}

-- one word alone
pub record OneOf (T : Table) (H : ℕ) (e : Use × ℕ) (P : Placed) (rest now : List (ℕ × ℕ)) : Type 0 where
  pub number : ℕ
  pub content : Placed
  pub small : number < 2 ^ 64
  pub fine : IsValidWord T H e.0 number
  pub sound : AreSound T H (expected_after T e.0 e.1 number) content
  pub is : P ≡ first (word e.1 number content) nothing
  pub now_is : now ≡ (e.1, number) ∷ (loads content ++ rest)

pub one_of : (T : Table) (H : ℕ) (e : Use × ℕ) (P : Placed) (rest now : List (ℕ × ℕ)) → AreSound T H (e ∷ []) P → now ≡ loads P ++ rest → OneOf T H e P rest now
one_of T H e P rest now sound is =
    let f = first_of T H e [] P rest now sound is in
    let none = sound_none T H f.others f.rest_sound in
    record {
      number = f.number;
      content = f.content;
      small = f.small;
      fine = f.fine;
      sound = f.sound;
      is = f.is ∙ ap (first (word e.1 f.number f.content)) none;
      now_is = f.now_is ∙ ap (λ Q. (e.1, f.number) ∷ (loads f.content ++ (loads Q ++ rest))) none;
    }
