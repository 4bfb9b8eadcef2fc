-- A text has one first fault for `decode`, or none.
use Rattle.std.proofs.Common.{◌≡◌, ℕ, List, sym, subst}
use Rattle.mrpc_table.specs.declared.table.Table.{Table}
use Rattle.text_commands.specs.Decoding.{IsCutAt, IsDecoded}
use Rattle.text_commands.specs.DecodeInput.{IsInputOf, IsInputTextFault}
use Rattle.decode_laws.specs.Decodings.{IsDecodable, IsDecodeFault, fault_of_text, fault_of_stream}

-- laws of decodings
pub record OnceLaw : Type 0 where
  pub parts : (text stream other : List ℕ) (T U : Table) → IsInputOf text T stream → IsInputOf text U other → (T ≡ U) × (stream ≡ other)
  pub text_fault : (text word spelled : List ℕ) (line at : ℕ) → IsInputTextFault text line word → IsInputTextFault text at spelled
      → (line ≡ at) × (word ≡ spelled)
  pub no_text_fault : (text stream word : List ℕ) (T : Table) (line : ℕ) → IsInputOf text T stream → IsInputTextFault text line word → ⊥
  pub cut : (T : Table) (stream told other word spelled : List ℕ) (place at : ℕ) → IsCutAt T 0 stream told place word
      → IsCutAt T 0 stream other at spelled → (place ≡ at) × (word ≡ spelled) × (told ≡ other)
  pub no_cut : (T : Table) (stream told other word : List ℕ) (place : ℕ) → IsDecoded T stream told
      → IsCutAt T 0 stream other place word → ⊥

-- the cut of equal streams
cut_of : (T U : Table) (stream other lines word : List ℕ) (place : ℕ) → (T ≡ U) × (stream ≡ other) → IsCutAt U 0 other lines place word
    → IsCutAt T 0 stream lines place word
cut_of T U stream other lines word place same h =
    subst (λ (V : Table). IsCutAt V 0 stream lines place word) (sym same.0)
    (subst (λ (s : List ℕ). IsCutAt U 0 s lines place word) (sym same.1) h)

pub one_fault : OnceLaw → (text word spelled : List ℕ) (place at : ℕ) → IsDecodeFault text place word → IsDecodeFault text at spelled
    → (place ≡ at) × (word ≡ spelled)
one_fault law text word spelled place at (fault_of_text h) (fault_of_text k) = law.text_fault text word spelled place at h k
one_fault law text word spelled place at (fault_of_text h) (fault_of_stream T stream lines holds cut) =
    absurd (law.no_text_fault text stream word T place holds h)
one_fault law text word spelled place at (fault_of_stream T stream lines holds cut) (fault_of_text k) =
    absurd (law.no_text_fault text stream spelled T at holds k)
one_fault law text word spelled place at (fault_of_stream T stream lines holds cut) (fault_of_stream U other told held again) =
    let same = law.cut T stream lines told word spelled place at cut (cut_of T U stream other told spelled at (law.parts text stream other T U holds held) again) in
    (same.0, same.1)

pub never_both : OnceLaw → (text word : List ℕ) (place : ℕ) → IsDecodable text → IsDecodeFault text place word → ⊥
never_both law text word place d (fault_of_text h) = law.no_text_fault text d.stream word d.table place d.holds h
never_both law text word place d (fault_of_stream U other told held again) =
    law.no_cut d.table d.stream d.lines told word place d.decoded
    (cut_of d.table U d.stream other told word place (law.parts text d.stream other d.table U d.holds held) again)
