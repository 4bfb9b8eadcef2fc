-- The code's own: the marks on the messages of our table, and when they are correct.
use Rattle.std.specs.Prelude.{◌≡◌, ◌⊎◌, ℕ, ◌+◌, List, ◌++◌, length, count_by, Contains, All, Option, Some, None, is_none, slice_index_or}
use Rattle.mrpc_table.specs.Text.{message_name}
use Rattle.mrpc_table.specs.declared.table.Method.{Method}
use Rattle.mrpc_table.specs.declared.table.Table.{Table}
use Rattle.schema_binding.specs.Agreement.{IsReachedByBoth, Signature, methods_of}
use Rattle.schema_binding.specs.Places.{IsLeastDifference, IsPair, HasFieldOfType, IsPrintedDifferently}
use Rattle.schema_binding.specs.declared.reach.ReachedPairs.{ReachedPairs}

-- the index of the peer's message, if ours is marked
abbrev pub partner_of : ReachedPairs → ℕ → Option ℕ
partner_of r i = slice_index_or r.partners.items i None

-- our message is marked
abbrev pub IsMarkedMessage : ReachedPairs → ℕ → Type 0
IsMarkedMessage r i = (j : ℕ) × (partner_of r i ≡ Some j)

-- our message of this name is marked
abbrev pub HasMarkedName : Table → ReachedPairs → List ℕ → Type 0
HasMarkedName T r name = (i : ℕ) × IsMarkedMessage r i × (message_name T i ≡ name)

-- the list has the marked pairs, and together with the unmarked messages they are as many as there are messages
pub record IsListed (r : ReachedPairs) : Type 0 where
  pub listed : (i j : ℕ) → partner_of r i ≡ Some j → Contains {X = ℕ × ℕ} r.found.items (i, j)
  pub marked : All (λ p. partner_of r p.0 ≡ Some p.1) r.found.items
  pub count : length r.found.items + count_by is_none r.partners.items ≡ length r.partners.items

-- each mark is a pair of messages of the same name
pub record IsPaired (T U : Table) (r : ReachedPairs) : Type 0 where
  pub room : length r.partners.items ≡ length T.messages
  pub pairs : (i j : ℕ) → partner_of r i ≡ Some j → IsPair T U i j
  pub listed : IsListed r

-- only types that both reach are marked
abbrev pub HasOnlyReached : Table → Table → List ℕ → ReachedPairs → Type 0
HasOnlyReached T U service r = (i : ℕ) → IsMarkedMessage r i → IsReachedByBoth T U service (message_name T i)

-- marks are kept
pub record HasGrown (old new : ReachedPairs) : Type 0 where
  pub same : (i j : ℕ) → partner_of old i ≡ Some j → partner_of new i ≡ Some j
  pub front : (more : List (ℕ × ℕ)) × (new.found.items ≡ old.found.items ++ more)

-- our message is marked, and no other that wasn't before
pub record HasMarked (old : ReachedPairs) (our their : ℕ) (new : ReachedPairs) : Type 0 where
  pub grows : HasGrown old new
  pub room : length new.partners.items ≡ length old.partners.items
  pub marked : IsMarkedMessage new our
  pub only : (i j : ℕ) → partner_of new i ≡ Some j → (partner_of old i ≡ Some j) ⊎ ((i ≡ our) × (j ≡ their))
  pub listed : IsListed old → IsListed new

-- marks are kept, and each new one has its reason
pub record HasGained (T U : Table) (old new : ReachedPairs) (Why : List ℕ → Type 0) : Type 0 where
  pub paired : IsPaired T U new
  pub grows : HasGrown old new
  pub why : (i j : ℕ) → partner_of new i ≡ Some j → (partner_of old i ≡ Some j) ⊎ Why (message_name T i)

-- the input or the output of a method of the service
abbrev pub IsInMethods : Table → List ℕ → List ℕ → Type 0
IsInMethods T service type = (s : Signature) × Contains (methods_of T service) s
    × ((s.input ≡ type) ⊎ (s.output ≡ type))

-- the inputs and outputs of the service's methods are marked
abbrev pub HasMarkedMethods : Table → List ℕ → ReachedPairs → Type 0
HasMarkedMethods T service r = (type : List ℕ) → IsInMethods T service type → HasMarkedName T r type

-- the input and the output of a method are marked
pub record HasMarkedBoth (T : Table) (r : ReachedPairs) (m : Method) : Type 0 where
  pub input : HasMarkedName T r (message_name T m.input)
  pub output : HasMarkedName T r (message_name T m.output)

-- the types that a pair leads to are marked
abbrev pub HasMarkedNext : Table → Table → ReachedPairs → ℕ → ℕ → Type 0
HasMarkedNext T U r i j = (type : List ℕ) → HasFieldOfType T U i j type → HasMarkedName T r type

-- the types that each marked pair leads to are marked
abbrev pub IsClosedUnderFields : Table → Table → ReachedPairs → Type 0
IsClosedUnderFields T U r = (i j : ℕ) → partner_of r i ≡ Some j → HasMarkedNext T U r i j

-- the texts print each field that both know of a marked message alike
abbrev pub IsSameIn : Table → Table → ReachedPairs → ℕ → Type 0
IsSameIn T U r i = (j number : ℕ) → partner_of r i ≡ Some j → IsPrintedDifferently T U i j number → ⊥

-- this is the least number whose fields the texts print differently
abbrev pub IsLeastIn : Table → Table → ReachedPairs → ℕ → ℕ → Type 0
IsLeastIn T U r i number = (j : ℕ) × (partner_of r i ≡ Some j) × IsLeastDifference T U i j number

-- exactly the types that both reach are marked
pub record HasExactlyReached (T U : Table) (service : List ℕ) (r : ReachedPairs) : Type 0 where
  pub paired : IsPaired T U r
  pub only : HasOnlyReached T U service r
  pub all : (type : List ℕ) → IsReachedByBoth T U service type → HasMarkedName T r type
