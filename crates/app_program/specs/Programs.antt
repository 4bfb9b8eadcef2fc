-- What a program stores, submits and reclaims, in order, and which programs a client and a server may have.
use Rattle.std.specs.Prelude.{◌≡◌, ℕ, zero, suc, ◌+◌, ◌<◌, ◌≤◌, ◌^◌, List, [], ◌∷◌, ◌++◌, All, length, flat_map}
use Rattle.app_program.specs.declared.program.ProgramLine.{ProgramLine}
use Rattle.app_program.specs.declared.program.ProgramLine.TheVariants.{Store, Spin, Submit, Reclaim, Reply}
use Rattle.app_program.specs.declared.program.TheConstants.{MAX_LINES, MAX_REQUEST_STORES, MAX_STORES}

-- a submission of an application: the method, 0 for a request or the number of the request that a reply answers,
-- the address of its message in the heap, and how many stores the application made before
pub record Submission : Type 0 where
  pub method : ℕ
  pub number : ℕ
  pub addr : ℕ
  pub after : ℕ

-- two stores, repeated
abbrev pub repeated_stores : ℕ → ℕ × ℕ → ℕ × ℕ → List (ℕ × ℕ)
repeated_stores zero first second = []
repeated_stores (suc times) first second = first ∷ second ∷ repeated_stores times first second

-- the stores of a line, each a place and a value
abbrev pub line_stores : ProgramLine → List (ℕ × ℕ)
line_stores (Store place value) = (place, value) ∷ []
line_stores (Spin times place first second) = repeated_stores times (place, first) (place, second)
line_stores _ = []

-- the stores of some lines
abbrev pub program_stores : List ProgramLine → List (ℕ × ℕ)
program_stores lines = flat_map line_stores lines

-- what a line submits after `made` stores
abbrev pub line_submits : ℕ → ProgramLine → List Submission
line_submits made (Submit method addr) = record { method = method; number = 0; addr = addr; after = made } ∷ []
line_submits made _ = []

-- what some lines submit, after `made` stores
abbrev pub program_submits : ℕ → List ProgramLine → List Submission
program_submits made [] = []
program_submits made (line ∷ lines) = line_submits made line ++ program_submits (made + length (line_stores line)) lines

-- the block that a line reclaims
abbrev pub line_reclaims : ProgramLine → List ℕ
line_reclaims (Reclaim block) = block ∷ []
line_reclaims _ = []

-- the blocks that some lines reclaim
abbrev pub program_reclaims : List ProgramLine → List ℕ
program_reclaims lines = flat_map line_reclaims lines

-- the address of the first reply among some lines, or 0 if there is none
abbrev pub reply_address : List ProgramLine → ℕ
reply_address [] = 0
reply_address (Reply addr ∷ lines) = addr
reply_address (line ∷ lines) = reply_address lines

-- ---- valid programs

-- a place that can be stored to: word 0 is reserved
pub record IsStorePlace (words place : ℕ) : Type 0 where
  pub from_one : 1 ≤ place
  pub in_heap : place < words

-- a line stores only to places of a heap of this size
abbrev pub HasStoresIn : ℕ → ProgramLine → Type 0
HasStoresIn words (Store place value) = IsStorePlace words place
HasStoresIn words (Spin times place first second) = IsStorePlace words place
HasStoresIn words _ = Unit {0}

-- a line of a client whose heap has this size
abbrev pub IsClientLine : ℕ → ProgramLine → Type 0
IsClientLine words (Reclaim block) = (1 ≤ block) × (block ≤ 2 ^ 63)
IsClientLine words (Reply addr) = ⊥
IsClientLine words line = HasStoresIn words line

-- a line of a server, except its last one
abbrev pub IsServerLine : ℕ → ProgramLine → Type 0
IsServerLine words (Store place value) = IsStorePlace words place
IsServerLine words (Spin times place first second) = IsStorePlace words place
IsServerLine words _ = ⊥

-- a client's program for a heap of this size
pub record IsClientProgram (words : ℕ) (lines : List ProgramLine) : Type 0 where
  pub each : All (IsClientLine words) lines
  pub stores : length (program_stores lines) ≤ MAX_STORES
  pub few : length lines ≤ MAX_LINES

-- a server's program for a heap of this size: stores, followed by one reply
pub record IsServerProgram (words : ℕ) (lines : List ProgramLine) : Type 0 where
  pub front : List ProgramLine
  pub addr : ℕ
  pub ends : lines ≡ front ++ Reply addr ∷ []
  pub each : All (IsServerLine words) front
  pub stores : length (program_stores lines) ≤ MAX_REQUEST_STORES
