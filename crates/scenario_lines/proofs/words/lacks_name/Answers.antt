use Rattle.std.proofs.Common.{◌≡◌, Bool, ◌||◌, ◌∷◌, Option, ◌∙◌, ap, sym, refl, true, false, subst, drop, get_or, List, ℕ}
use Rattle.std.specs.Borrow.{Bor}
use Rattle.mrpc_table.specs.Lines.{words_of}
use Rattle.script_grammar.specs.declared.keyword.Keyword.TheVariants.{Access}
use Rattle.script_grammar.specs.declared.word_kind.WordKind.TheVariants.{Key}
use Rattle.script_grammar.specs.Remainders.{words_in}
use Rattle.scenario_lines.specs.Judging.{is_required_name_invalid, lacks_name}
use Rattle.scenario_lines.proofs.Walking.{lacks_end, lacks_more, lacks_short}
use Rattle.scenario_lines.proofs.words.lacks_name.Goals as goal
use Rattle.scenario_lines.proofs.words.lacks_name.Goals.{then-lacks, else-lacks}

whole_of : (b c : Bool) → b ≡ true → b ≡ (b || c)
whole_of true c e = refl
whole_of false c e = absurd (cc)

other_of : (b c d : Bool) → b ≡ false → d ≡ c → d ≡ (b || c)
other_of true c d e f = absurd (cc)
other_of false c d e f = f

pub returns-in_default : goal.returns-in_default
returns-in_default c =
    lacks_short c.loop-sort.lacks c.args.sorts.now c.loop-sort.sort-index (Key Access) c.loop-sort.rest
    (lacks_name false c.args.sorts.now (words_of c.args.line.now)) c.loop-sort-test.true c.in_default.is c.loop-sort.invariant

pub loop-sort-preserved : goal.loop-sort-preserved
loop-sort-preserved c =
    let sorts = c.args.sorts.now in
    let i = c.loop-sort.sort-index in
    let w = c.first_word.result.0.now in
    let words = ap words_in c.in-Some.is ∙ c.first_word.ensures in
    elim c.if-lacks.branch [
      | then-lacks v ↦
          lacks_more c.loop-sort.lacks c.if-lacks.lacks sorts i (Key Access) (words_in c.loop-sort.rest) (words_in c.if-lacks.rest) w
          (lacks_name false sorts (words_of c.args.line.now)) c.loop-sort-test.true (words ∙ ap (λ (r : Option (Bor (List ℕ))). w ∷ words_in r) (sym v.rest-is))
          (v.lacks-is ∙ whole_of c.loop-sort.lacks (is_required_name_invalid (get_or sorts i (Key Access)) w) v.if-lacks.true) c.loop-sort.invariant
      | else-lacks v ↦
          lacks_more c.loop-sort.lacks c.if-lacks.lacks sorts i (Key Access) (words_in c.loop-sort.rest) (words_in c.if-lacks.rest) w
          (lacks_name false sorts (words_of c.args.line.now)) c.loop-sort-test.true (words ∙ ap (λ (r : Option (Bor (List ℕ))). w ∷ words_in r) (sym v.rest-is))
          (other_of c.loop-sort.lacks (is_required_name_invalid (get_or sorts i (Key Access)) w) c.if-lacks.lacks v.if-lacks.false (v.lacks-is ∙ c.is_required_name_invalid-bad.ensures)) c.loop-sort.invariant
    ]

pub returns-then-lacks-2 : goal.returns-then-lacks-2
returns-then-lacks-2 c =
    lacks_end c.args.sorts.now c.loop-sort.sort-index c.loop-sort.rest c.is_none.result
    (lacks_name false c.args.sorts.now (words_of c.args.line.now)) c.loop-sort-test.false c.is_none.ensures
    (subst (λ (b : Bool). lacks_name b (drop c.loop-sort.sort-index c.args.sorts.now) (words_in c.loop-sort.rest)
    ≡ lacks_name false c.args.sorts.now (words_of c.args.line.now)) c.if-lacks-2.true c.loop-sort.invariant)
