use Rattle.std.proofs.Common.{◌++◌, ◌∷◌, [], ℕ, Bool, List, Vec, Global, get_or, map, sym, ap, ◌∙◌, subst, take}
use Rattle.std.specs.Borrow.{Bor}
use Rattle.scenario_entries.specs.Marking.{AreMarked}
use Rattle.scenario_entries.proofs.PolicyLists.{map_more}
use Rattle.scenario_entries.proofs.Owned.{marks_more, marks_same}
use Rattle.scenario_entries.proofs.own.marks_of.Goals.{in-Some, in_default}
use Rattle.scenario_entries.proofs.own.marks_of.Goals as goal

pub loop-name-preserved : goal.loop-name-preserved
loop-name-preserved c =
    let d = c.args.declared.now in
    let names = c.args.names.now in
    let i = c.loop-name.name-index in
    let none : Bor (List ℕ) = record { ref_ptr = (0, 0); now = [] } in
    let name = (get_or names i none).now in
    let before = map (λ (n : Bor (List ℕ)). n.now) (take i names) in
    let more = map_more (λ (n : Bor (List ℕ)). n.now) names i none c.loop-name-test.true in
    subst (λ (ns : List (List ℕ)). AreMarked d ns c.match-policy.marks.items) (sym more)
    (elim c.match-policy.branch [
      | in-Some w ↦ subst (λ (ms : List Bool). AreMarked d (before ++ name ∷ []) ms) (sym (ap (λ (v : Vec Bool Global). v.items) w.marks-is))
          (marks_more d before name c.loop-name.marks.items c.loop-name.invariant w.in-Some.place (sym c.policy.ensures ∙ w.in-Some.is))
      | in_default w ↦ subst (λ (ms : List Bool). AreMarked d (before ++ name ∷ []) ms) (sym (ap (λ (v : Vec Bool Global). v.items) w.marks-is))
          (marks_same d before name c.loop-name.marks.items c.loop-name.invariant (sym c.policy.ensures ∙ w.in_default.is))
    ])
