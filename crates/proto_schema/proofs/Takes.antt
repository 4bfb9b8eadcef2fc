-- A part is read token by token up to its last one.
use Rattle.std.proofs.Common.{List, [], ◌∷◌, ◌++◌}
use Rattle.proto_grammar.specs.Lexemes.{Lexeme}
use Rattle.proto_schema.proofs.NameLemmas.{Walks, stay, go}

pub data Takes {S V : Type 0} (goes : S → Lexeme → S → Type 0) (ends : S → Lexeme → V → Type 0) : S → List Lexeme → V → Type 0 where
  last : (x : Lexeme) {s : S} {v : V} → ends s x v → Takes goes ends s (x ∷ []) v
  next : (x : Lexeme) {s t : S} {ys : List Lexeme} {v : V} → goes s x t → Takes goes ends t ys v
      → Takes goes ends s (x ∷ ys) v

module _ {S V : Type 0} (goes : S → Lexeme → S → Type 0) (ends : S → Lexeme → V → Type 0) where
  pub walk_takes : {s t : S} {v : V} {xs : List Lexeme} (ys : List Lexeme) → Walks goes s xs t → Takes goes ends t ys v
      → Takes goes ends s (xs ++ ys) v
  walk_takes ys (stay e f) k = rw (e, f) k
  walk_takes ys (go x zs e h w) k = rw e (next x h (walk_takes ys w k))

pub takes_in : {S T V U : Type 0} (goes : S → Lexeme → S → Type 0) (ends : S → Lexeme → V → Type 0)
    (wide : T → Lexeme → T → Type 0) (wide_ends : T → Lexeme → U → Type 0) (f : S → T) (g : V → U)
    → ((s t : S) (x : Lexeme) → goes s x t → wide (f s) x (f t))
    → ((s : S) (v : V) (x : Lexeme) → ends s x v → wide_ends (f s) x (g v))
    → {s : S} {v : V} {xs : List Lexeme} → Takes goes ends s xs v → Takes wide wide_ends (f s) xs (g v)
takes_in goes ends wide wide_ends f g lift lift_end (last x {s = s} {v = v} h) = last x (lift_end s v x h)
takes_in goes ends wide wide_ends f g lift lift_end (next x {s = s} {t = t} h k) = next x (lift s t x h) (takes_in goes ends wide wide_ends f g lift lift_end k)
