-- A call is accepted: its copy is made, or it is malformed, whatever the heap contains.
use Rattle.std.proofs.Common.{◌≡◌, ◌≢◌, inl, inr, ℕ, ◌<◌, ◌≤◌, ◌^◌, List, [], length, refl, arith}
use Rattle.std.proofs.lemmas.Bool.{cases_lt}
use Rattle.mrpc_table.specs.Calls.{message_at}
use Rattle.mrpc_table.specs.Normal.{IsNormal}
use Rattle.mrpc_table.specs.Valid.{IsValid}
use Rattle.mrpc_table.specs.declared.table.Table.{Table}
use Rattle.graph_form.specs.declared.reason.Reason.{Reason}
use Rattle.graph_form.specs.declared.reason.Reason.TheVariants.{NoMethod}
use Rattle.graph_form.specs.Forgotten.{tree_of}
use Rattle.graph_form.specs.Placed.{IsSound, Placed}
use Rattle.graph_form.specs.Malformed.{HasOutcome, IsMalformed, GraphOutcome, AreReadBy, is_copied, is_malformed}
use Rattle.call_history.specs.Loads.{IsCopyByLoads, is_copied as takes_copy, is_malformed as takes_malformed, no_method}
use Rattle.call_history.specs.declared.happening.TookCopy.{TookCopy}
use Rattle.call_history.specs.declared.happening.TookCopy.TheVariants.{Copy, Malformed}
use Rattle.replay_laws.proofs.Walking.{LimitLaw, OffenceLaw, comes-to}

pub record GraphLaws : Type 0 where
  pub offence : OffenceLaw
  pub limit : LimitLaw
  pub few : (T : Table) (H msg address limit : ℕ) (xs : List (ℕ × ℕ)) (reason : Reason) (place value : ℕ)
      → IsMalformed T H msg address limit xs reason place value → length xs ≤ limit
  pub reason : (T : Table) (H msg address limit : ℕ) (xs : List (ℕ × ℕ)) (reason : Reason) (place value : ℕ)
      → IsMalformed T H msg address limit xs reason place value → reason ≢ NoMethod
  pub normal : (T : Table) (H msg address : ℕ) (P : Placed) → IsValid T → IsSound T H msg address P
      → IsNormal T msg (tree_of T msg P)

-- what was copied is valid: a normal tree, or malformed, for a missing method if the table lacks it
abbrev pub IsSoundCopy : Table → ℕ → ℕ → TookCopy → Type 0
IsSoundCopy T method number (Copy tree) = (method < length T.methods) × IsNormal T (message_at T method number) tree
IsSoundCopy T method number (Malformed reason place value) =
    (reason ≡ NoMethod → length T.methods ≤ method) × (length T.methods ≤ method → reason ≡ NoMethod)

pub record Takes (T : Table) (H limit method number addr : ℕ) (reading : ℕ → ℕ → ℕ) : Type 0 where
  pub own : List (ℕ × ℕ)
  pub copy : TookCopy
  pub reads : AreReadBy reading 1 own
  pub taken : IsCopyByLoads T H limit method number addr own copy
  pub few : length own ≤ limit
  pub sound : IsSoundCopy T method number copy

module _ (laws : GraphLaws) (T : Table) (H limit method number addr : ℕ) (reading : ℕ → ℕ → ℕ) where
  abbrev msg : ℕ
  msg = message_at T method number

  taken-by : IsValid T → method < length T.methods → (own : List (ℕ × ℕ)) (outcome : GraphOutcome) → AreReadBy reading 1 own
      → HasOutcome T H msg addr limit own outcome → Takes T H limit method number addr reading
  taken-by valid has own outcome reads (is_copied P sound loads few is) = record {
    own = own;
    copy = Copy (tree_of T msg P);
    reads = reads;
    taken = takes_copy (tree_of T msg P) has (is_copied P sound loads few refl) refl;
    few = few;
    sound = (has, laws.normal T H msg addr P valid sound);
  }
  taken-by valid has own outcome reads (is_malformed reason place value fault is) = record {
    own = own;
    copy = Malformed reason place value;
    reads = reads;
    taken = takes_malformed reason place value has (is_malformed reason place value fault refl) refl;
    few = laws.few T H msg addr limit own reason place value fault;
    sound = (
      λ none. absurd (laws.reason T H msg addr limit own reason place value fault none),
      λ (lacks : length T.methods ≤ method). absurd (omega arith),
    );
  }

  pub takes : IsValid T → 1 ≤ limit → ((k place : ℕ) → reading k place < 2 ^ 64) → Takes T H limit method number addr reading
  takes valid least small = elim (cases_lt method (length T.methods)) [
    | inl has ↦
        let found = comes-to laws.offence laws.limit T H msg addr limit reading least small in
        taken-by valid has found.own found.outcome found.reads found.comes
    | inr lacks ↦ record {
      own = [];
      copy = Malformed NoMethod 0 method;
      reads = tt;
      taken = no_method lacks refl refl;
      few = omega arith;
      sound = (λ same. lacks, λ some. refl);
    }
  ]
