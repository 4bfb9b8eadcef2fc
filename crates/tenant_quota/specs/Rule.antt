-- The code's own: the rule of a quota's table, and what each access reveals. A window's word is the number of its
-- draws modulo 2^64.
use Rattle.std.specs.Prelude.{◌≡◌, ℕ, ◌+◌, ◌-◌, ◌/◌, ◌%◌, ◌^◌, ◌<◌, ◌≤◌, List, [], ◌∷◌, ◌++◌, length, slice_index, sum_by, flat_map}
use mathlib.Core.Option.{some}
use lib.ListN.{get_elem?}
use Rattle.atomic_table.specs.Table.{State, Me, Step}
use Rattle.atomic_table.specs.Seated.{TableId}
use Rattle.tenant_quota.specs.declared.view.QuotaView.{QuotaView}
use Rattle.tenant_quota.specs.Drawing.{tickets_in, IsPermutationOfRange, AreAllDrawn, all_shares}

-- the view of the seat that opens a quota
abbrev pub opener : ℕ → QuotaView
opener windows = record { windows = windows; draws = []; share = all_shares }

-- a word that counts these tickets
pub record IsTicketCount (word : ℕ) (tickets : List ℕ) : Type 0 where
  pub counted : word ≡ length tickets % 2 ^ 64
  pub once : length tickets < 2 ^ 64 → IsPermutationOfRange tickets

-- the tickets of a window that all seats have
abbrev pub tickets_out : ℕ → List QuotaView → List ℕ
tickets_out window views = flat_map (λ v. tickets_in window v.draws) views

abbrev pub shares_out : List QuotaView → ℕ
shares_out views = sum_by (λ v. v.share) views

-- a seat with a share knows the number of windows, and one without a share has no draws
pub record IsViewOfQuota (windows : ℕ) (v : QuotaView) : Type 0 where
  pub knows : 0 < v.share → v.windows ≡ windows
  pub none : v.share ≡ 0 → v.draws ≡ []

-- each word counts the tickets that all seats have of its window, and the seats have all shares together
pub record IsQuota (windows : ℕ) (s : State (Unit {0}) QuotaView) : Type 0 where
  pub sized : length s.words ≡ windows
  pub words : (window : ℕ) → window < windows → IsTicketCount (slice_index s.words window) (tickets_out window s.views)
  pub shares : shares_out s.views ≡ all_shares
  pub seats : (seat : ℕ) (v : QuotaView) → get_elem? s.views seat ≡ some v → IsViewOfQuota windows v

abbrev pub Seated : Type 0
Seated = Me (Unit {0}) QuotaView

-- if a seat has all shares, its tickets of each window are the numbers from 0, each once, provided that they are
-- fewer than 2^64; for other seats nothing is required
abbrev pub IsDrawnOnceIfWhole : QuotaView → Type 0
IsDrawnOnceIfWhole v = v.share ≡ all_shares → AreAllDrawn v.windows v.draws

abbrev pub drew : QuotaView → ℕ → ℕ → QuotaView
drew v window ticket = record { windows = v.windows; draws = v.draws ++ (window, ticket) ∷ []; share = v.share }

-- the draw of the ticket n in the accessed window
pub record IsDrawStep (st : Step (Unit {0})) (m : Seated) (n : ℕ) (m' : Seated) : Type 0 where
  pub view : m'.0 ≡ drew m.0 st.word n
  pub slots : m'.1 ≡ m.1
  pub once : IsDrawnOnceIfWhole m'.0

-- a load that leaves the seat unchanged; it reveals that with all shares each ticket of a window was drawn once
pub record IsSettleStep (st : Step (Unit {0})) (m : Seated) (n : ℕ) (m' : Seated) : Type 0 where
  pub same : m' ≡ m
  pub once : IsDrawnOnceIfWhole m'.0

-- a seat after a split
abbrev pub kept_view : QuotaView → QuotaView
kept_view v = record { windows = v.windows; draws = v.draws; share = v.share - v.share / 2 }

-- the new seat
abbrev pub new_view : QuotaView → QuotaView
new_view v = record { windows = v.windows; draws = []; share = v.share / 2 }

-- a seat after it joined another one
abbrev pub joined_view : QuotaView → QuotaView → QuotaView
joined_view v u = record { windows = v.windows; draws = v.draws ++ u.draws; share = v.share + u.share }

-- a seat that was joined to another one
abbrev pub empty_view : QuotaView
empty_view = record { windows = 0; draws = []; share = 0 }

-- the seat of this table
pub record IsSeat (of table : TableId) (windows : ℕ) (me : Seated) : Type 0 where
  pub of_table : of ≡ table
  pub sized : windows ≡ of.words
  pub some_windows : 1 ≤ of.words
  pub knows : me.0.windows ≡ of.words
  pub empty : me.1 ≡ []
  pub shares : 1 ≤ me.0.share
  pub once : IsDrawnOnceIfWhole me.0
