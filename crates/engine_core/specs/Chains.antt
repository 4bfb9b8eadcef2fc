-- The chain of a connection's policies, and the change that an operation makes (this project's own).
use Rattle.std.specs.Prelude.{◌≡◌, ℕ, ◌+◌, ◌<◌, ◌≤◌, Bool, false, not, if◌then◌else◌, List, ◌∷◌, ◌++◌, length, map, filter, take, drop, All, Contains}
use Rattle.std.specs.Str.{bytes_eq}
use Rattle.mrpc_table.specs.Valid.{AreDistinct}
use Rattle.engine_core.specs.Policies.{is_same_kind}
use Rattle.engine_core.specs.declared.policy.Policy.{Policy}
use Rattle.engine_core.specs.declared.op.Op.{Op}
use Rattle.engine_core.specs.declared.op.Op.TheVariants.{Attach, Detach, Upgrade}

-- a policy on a chain: its name there, the number of its attachment, its version (1 plus the number of upgrades), and
-- the policy itself
pub record Entry : Type 0 where
  pub name : List ℕ
  pub attach : ℕ
  pub version : ℕ
  pub policy : Policy

-- a chain: its entries in the order in which they judge, and the number of attachments so far
pub record Chain : Type 0 where
  pub entries : List Entry
  pub attached : ℕ

-- an entry when it is attached, and after an upgrade
abbrev pub new_entry : List ℕ → ℕ → Policy → Entry
new_entry name attach policy = record { name = name; attach = attach; version = 1; policy = policy }

abbrev pub upgraded : Entry → Policy → Entry
upgraded e policy = record { name = e.name; attach = e.attach; version = e.version + 1; policy = policy }

abbrev pub names_of : List Entry → List (List ℕ)
names_of entries = map (λ e. e.name) entries

abbrev pub attachments_of : List Entry → List ℕ
attachments_of entries = map (λ e. e.attach) entries

-- the invariant of chains under operations: at most 8 entries, with distinct names and attachments
pub record IsChain (c : Chain) : Type 0 where
  pub few : length c.entries ≤ 8
  pub names : AreDistinct (names_of c.entries)
  pub attachments : AreDistinct (attachments_of c.entries)
  pub numbered : All (λ attach. attach ≤ c.attached) (attachments_of c.entries)

-- ---- the reasons to reject an operation

pub data Refusal : Type 0 where
  no_such : List ℕ → Refusal
  taken : List ℕ → Refusal
  no_place : ℕ → Refusal
  full : ℕ → Refusal
  other_kind : List ℕ → Refusal

-- if there are two reasons to reject an operation, the first in this order counts
abbrev pub refusal_rank : Refusal → ℕ
refusal_rank (no_such name) = 1
refusal_rank (taken name) = 2
refusal_rank (no_place at) = 3
refusal_rank (full entries) = 4
refusal_rank (other_kind name) = 5

pub data IsReasonToReject (entries : List Entry) (op : Op) (refusal : Refusal) : Type 0 where
  -- no entry has the name
  detaches_none : (name : List ℕ) → op ≡ Detach name → (Contains (names_of entries) name → ⊥) → refusal ≡ no_such name
      → IsReasonToReject entries op refusal
  upgrades_none : (name label : List ℕ) (policy : Policy) → op ≡ Upgrade name label policy
      → (Contains (names_of entries) name → ⊥) → refusal ≡ no_such name
      → IsReasonToReject entries op refusal
  -- an entry has the name already
  is_taken : (at : ℕ) (name label : List ℕ) (policy : Policy) → op ≡ Attach at name label policy
      → Contains (names_of entries) name → refusal ≡ taken name
      → IsReasonToReject entries op refusal
  -- the position is past the end
  is_past : (at : ℕ) (name label : List ℕ) (policy : Policy) → op ≡ Attach at name label policy → length entries < at
      → refusal ≡ no_place at
      → IsReasonToReject entries op refusal
  -- the chain has 8 entries
  is_full : (at : ℕ) (name label : List ℕ) (policy : Policy) → op ≡ Attach at name label policy → 8 ≤ length entries
      → refusal ≡ full (length entries)
      → IsReasonToReject entries op refusal
  -- the entry with the name has a policy of another kind
  is_other : (name label : List ℕ) (policy : Policy) (e : Entry) → op ≡ Upgrade name label policy → Contains entries e
      → e.name ≡ name
      → is_same_kind e.policy policy ≡ false → refusal ≡ other_kind name → IsReasonToReject entries op refusal

-- a chain rejects an operation, for the first reason
pub record IsRejection (c : Chain) (op : Op) (refusal : Refusal) : Type 0 where
  pub against : IsReasonToReject c.entries op refusal
  pub first : (other : Refusal) → refusal_rank other < refusal_rank refusal → IsReasonToReject c.entries op other → ⊥

-- ---- the effect of an operation on a chain

pub data IsChangeOf (before : Chain) (op : Op) (after : Chain) : Type 0 where
  -- a new entry is at the position, with the next attachment number
  attaches : (at : ℕ) (name label : List ℕ) (policy : Policy) (front back : List Entry)
      → op ≡ Attach at name label policy
      → before.entries ≡ front ++ back → length front ≡ at
      → after ≡ record {
        entries = front ++ new_entry name (before.attached + 1) policy ∷ back;
        attached = before.attached + 1;
      }
      → IsChangeOf before op after
  -- the entry with the name is removed
  detaches : (name : List ℕ) (e : Entry) (front back : List Entry) → op ≡ Detach name
      → before.entries ≡ front ++ e ∷ back → e.name ≡ name
      → after ≡ record { entries = front ++ back; attached = before.attached } → IsChangeOf before op after
  -- the entry with the name has the new policy, and its next version
  upgrades : (name label : List ℕ) (policy : Policy) (e : Entry) (front back : List Entry)
      → op ≡ Upgrade name label policy
      → before.entries ≡ front ++ e ∷ back → e.name ≡ name
      → after ≡ record { entries = front ++ upgraded e policy ∷ back; attached = before.attached }
      → IsChangeOf before op after

-- an operation changes a chain if there is no reason to reject it
pub record HasChanged (before : Chain) (op : Op) (after : Chain) : Type 0 where
  pub free : (refusal : Refusal) → IsReasonToReject before.entries op refusal → ⊥
  pub effect : IsChangeOf before op after

-- the entry has the name
abbrev pub is_named : List ℕ → Entry → Bool
is_named name e = bytes_eq e.name name

-- the chain after an operation that it doesn't reject
abbrev pub changed : Op → Chain → Chain
changed (Attach at name label policy) chain = record {
  entries = take at chain.entries ++ new_entry name (chain.attached + 1) policy ∷ drop at chain.entries;
  attached = chain.attached + 1;
}
changed (Detach name) chain = record {
  entries = filter (λ e. not (is_named name e)) chain.entries;
  attached = chain.attached;
}
changed (Upgrade name label policy) chain = record {
  entries = map (λ e. if is_named name e then upgraded e policy else e) chain.entries;
  attached = chain.attached;
}
