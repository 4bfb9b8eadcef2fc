-- What each end of a single-producer single-consumer queue knows, and the rule between the two.
use Rattle.std.specs.Prelude.{◌≡◌, ◌⊎◌, ℕ, Bool, true, false, List, [], ◌∷◌, ◌++◌}
use mathlib.Core.Option.{some}
use mathlib.Core.List.{IsPrefix}
use lib.ListN.{get_elem?}
use Rattle.spsc_queue.specs.declared.side.Side.{Side}

module _ {T : Type 0} where
  abbrev pub side : Bool → Bool → List T → List T → List T → List T → Side T
  side puts takes put taken told known =
      record { puts = puts; takes = takes; put = put; taken = taken; told = told; known = known }

  -- `putting` is the producer, which knows of popped items; `taking` the consumer, which knows of pushed items;
  -- `both` is both at once. `knowing` is a pass that only knows of popped items, and `neither` one that knows
  -- nothing.
  abbrev pub putting : List T → List T → Side T
  putting put known = side true false put [] [] known

  abbrev pub taking : List T → List T → Side T
  taking taken told = side false true [] taken told []

  abbrev pub both : List T → List T → List T → List T → Side T
  both put taken told known = side true true put taken told known

  abbrev pub knowing : List T → Side T
  knowing known = side false false [] [] [] known

  abbrev pub neither : Side T
  neither = knowing []

  -- one of the lists is a prefix of the other
  abbrev pub ArePrefixComparable : List T → List T → Type 0
  ArePrefixComparable xs ys = IsPrefix xs ys ⊎ IsPrefix ys xs

  -- the longer of two prefixes of one list
  abbrev pub longer : List T → List T → List T
  longer [] ys = ys
  longer (x ∷ xs) [] = x ∷ xs
  longer (x ∷ xs) (y ∷ ys) = x ∷ longer xs ys

  -- the queued items are a suffix of those pushed, after all that are known to be popped
  abbrev pub IsQueued : List T → List T → List T → Type 0
  IsQueued put known items = (taken : List T) × (taken ++ items ≡ put) × IsPrefix known taken

  -- what one side knows agrees with all that was pushed and popped
  pub record IsConsistentSide (writer reader : ℕ) (put taken : List T) (port : ℕ) (v : Side T) : Type 0 where
    pub puts : v.puts ≡ true → (port ≡ writer) × (v.put ≡ put)
    pub takes : v.takes ≡ true → (port ≡ reader) × (v.taken ≡ taken)
    pub told : IsPrefix v.told put
    pub known : IsPrefix v.known taken

  -- what was pushed is what was popped followed by what is queued; at most one side pushes, and at most one pops
  abbrev pub IsFifo : List T → List (Side T) → Type 0
  IsFifo items views = (writer : ℕ) × (reader : ℕ) × (put : List T) × (taken : List T) × (put ≡ taken ++ items)
      × ((port : ℕ) (v : Side T) → get_elem? views port ≡ some v → IsConsistentSide writer reader put taken port v)
