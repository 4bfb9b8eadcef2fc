-- A table that prints each number of a type in one way agrees with itself.
use Rattle.std.proofs.Common.{◌≡◌, ℕ, List, sym, ◌∙◌, arith}
use Rattle.mrpc_table.specs.declared.table.Table.{Table}
use Rattle.schema_binding.specs.Agreement.{FieldText, HasMethodOf, IsPrintedAs, IsDisagreement, no_service, other_field, other_methods, other_text}
use Rattle.schema_binding.specs.declared.fault.AgreeFault.{AgreeFault}

-- a number of a type has one text
abbrev pub PrintsOnce : Table → Type 0
PrintsOnce T = (type : List ℕ) (number : ℕ) (one other : FieldText) → IsPrintedAs T type number one → IsPrintedAs T type number other
    → one ≡ other

pub never-refused : (T : Table) (service : List ℕ) (version : ℕ) (cause : AgreeFault) → HasMethodOf T service → PrintsOnce T
    → version ≡ 2 → IsDisagreement T T service version cause → ⊥
never-refused T service version cause offers once two (no_service ours theirs our_offer their_offer not_both to) =
    not_both (our_offer.1 offers) (their_offer.1 offers)
never-refused T service version cause offers once two (other_text byte ours theirs one our_offer their_offer differ to) =
    omega (arith, one, two)
never-refused T service version cause offers once two (other_methods at ours theirs is our_offer their_offer differ to) =
    differ.other (sym differ.ours ∙ differ.theirs)
never-refused T service version cause offers once two (other_field type number is our_offer their_offer same first to) =
    let d = first.differs in d.other (once type number d.ours d.theirs d.ours_prints d.theirs_prints)
