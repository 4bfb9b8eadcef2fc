use Rattle.std.proofs.Common.{◌≡◌, ◌≢◌, true, false, rules, subst, sym, ◌∙◌}
use Rattle.std.specs.Prelude.{ℤ, pos, IfSome, FitsSigned}
use Rattle.std.specs.Int.{w32}
use Rattle.schema_validation.specs.Types.{signed_value}
use Rattle.schema_validation.specs.Members.{Is}
use Rattle.schema_validation.specs.declared.reason.ResolveReason.TheVariants.{NumberRange, Reserved, FirstEnum}
use Rattle.schema_validation.proofs.Meetings.{meets_then, meets_where, meets_when, meets_as}
use Rattle.schema_validation.proofs.Numbering.{zero_to, zero_from}
use Rattle.schema_validation.proofs.Unless.{meets_unless, some_fits}
use Rattle.schema_validation.proofs.enums.note_number.Goals as goal
use Rattle.schema_validation.proofs.enums.note_number.Goals.{then-is_first, else-is_first}

pub returns : goal.returns
returns c =
    let number = c.args.number.now in
    let v = signed_value number in
    let holds = c.if-is_first.note_if in
    let fits : IfSome c.enum_number.result (λ n. FitsSigned w32 n) = search rules in
    let to : holds ≡ true → (c.args.is_first ≡ true) × (v ≢ pos 0) = λ t. elim c.if-is_first.branch [
      | then-is_first w ↦ (w.if-is_first.true, zero_to w.number_position.result v w.number_position.ensures.is (sym w.note_if-is ∙ t))
      | else-is_first w ↦
          let f : c.args.is_first ≡ false = w.if-is_first.false in
          let e = w.note_if-is in
          absurd cc
    ] in
    let from : (c.args.is_first ≡ true) × (v ≢ pos 0) → holds ≡ true = λ p. elim c.if-is_first.branch [
      | then-is_first w ↦ w.note_if-is ∙ zero_from w.number_position.result v w.number_position.ensures.is p.1
      | else-is_first w ↦
          let f : c.args.is_first ≡ false = w.if-is_first.false in
          let t : c.args.is_first ≡ true = p.0 in
          absurd cc
    ] in
    let P = (c.args.is_first ≡ true) × (v ≢ pos 0) in
    meets_then _ _ _ _ _
    (meets_then _ _ _ _ _
    (meets_unless (FitsSigned w32 v → ⊥) (λ (n : ℤ). n ≡ v) c.enum_number.result c.is_none-out_of_range.result
    NumberRange number.span c.args.first.now c.note_if.new.self c.is_none-out_of_range.ensures c.enum_number.ensures
    (λ n e is p. p (subst (FitsSigned w32) is (some_fits c.enum_number.result n (λ z. FitsSigned w32 z) e fits)))
    c.note_if.ensures)
    (meets_where c.args.is_reserved Reserved number.span c.note_if.new.self c.note_if-2.new.self c.note_if-2.ensures))
    (meets_as (λ q s. P × Is FirstEnum number.span q s)
    (λ q s. (c.args.is_first ≡ true) × (v ≢ pos 0) × Is FirstEnum number.span q s)
    c.note_if-2.new.self c.note_if-3.new.self
    (meets_when P holds FirstEnum number.span c.note_if-2.new.self c.note_if-3.new.self to from c.note_if-3.ensures)
    (λ q s p. (p.0.0, p.0.1, p.1)) (λ q s p. ((p.0, p.1), p.2)))
