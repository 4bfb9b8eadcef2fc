use Rattle.std.proofs.Common.{◌++◌, [], ◌∷◌, List, take, get_or, Some, sym, ap, ◌∙◌, subst, arith}
use Rattle.arrayvec.specs.ArrayVec.{array_vec_len}
use Rattle.mrpc_table.specs.Lines.{words_of}
use Rattle.script_grammar.specs.Remainders.{words_in, earlier}
use Rattle.script_grammar.specs.declared.keyword.Keyword.TheVariants.{Access}
use Rattle.script_grammar.specs.declared.word_kind.WordValue.{WordValue}
use Rattle.script_grammar.specs.declared.word_kind.WordKind.TheVariants.{Key}
use Rattle.script_grammar.proofs.Verdicts.{IsState, state_next, next_sort, same_length, state_said, state_offends, another_count, whole_said, whole_first}
use Rattle.script_grammar.proofs.Walking.{next, left_none, left_some, left_not_some}
use Rattle.script_grammar.proofs.checking.check_words.Goals as goal
use Rattle.script_grammar.proofs.checking.check_words.Goals.{in-Ok, in-Err}

pub returns-in_default : goal.returns-in_default
returns-in_default c =
    let few = left_none (words_of c.args.line.now) c.loop-sort.sort-index c.loop-sort.rest c.loop-sort.invariant.rest c.in_default.is in
    another_count c.args.sorts.now (words_of c.args.line.now) (λ same. omega (arith, few, same, c.loop-sort-test.true))

pub loop-sort-preserved : goal.loop-sort-preserved
loop-sort-preserved c =
    let sorts = c.args.sorts.now in
    let ws = words_of c.args.line.now in
    let i = c.loop-sort.sort-index in
    let w = c.first_word.result.0.now in
    let front = next_sort sorts i (Key Access) c.loop-sort-test.true in
    let step = next ws i w (words_in c.first_word.result.1) (c.loop-sort.invariant.rest ∙ ap words_in c.in-Some.is ∙ c.first_word.ensures) in
    elim c.match-check_word.branch [
      | in-Ok v ↦ record {
        within = step.within;
        rest = step.rest ∙ ap words_in (sym v.rest-is);
        state =
            state_next sorts ws i (get_or sorts i (Key Access)) w c.match-check_word.said.items c.match-check_word.first front step.front
            (subst (IsState (take i sorts ++ get_or sorts i (Key Access) ∷ []) (take i ws ++ w ∷ []) c.match-check_word.said.items) (sym v.first-is)
            (subst (λ (x : List WordValue). IsState (take i sorts ++ get_or sorts i (Key Access) ∷ [])
            (take i ws ++ w ∷ []) x c.loop-sort.first) (sym (ap (λ s. s.items) v.said-is ∙ v.push.ensures.items))
            (state_said (take i sorts) (take i ws) c.loop-sort.said.items c.loop-sort.first (get_or sorts i (Key Access)) w v.in-Ok.one
            (same_length sorts ws i (omega (arith, c.loop-sort-test.true)) c.loop-sort.invariant.within) c.loop-sort.invariant.state v.in-Ok.ensures)));
        room = (let e = ap array_vec_len v.said-is in omega (arith, c.loop-sort.invariant.room, v.push.ensures.len, e));
      }
      | in-Err v ↦ record {
        within = step.within;
        rest = step.rest ∙ ap words_in (sym v.rest-is);
        state =
            state_next sorts ws i (get_or sorts i (Key Access)) w c.match-check_word.said.items c.match-check_word.first front step.front
            (subst (IsState (take i sorts ++ get_or sorts i (Key Access) ∷ [])
            (take i ws ++ w ∷ []) c.match-check_word.said.items)
            (sym (v.first-is ∙ ap (λ r. Some r) v.earlier.ensures))
            (subst (λ (x : List WordValue). IsState (take i sorts ++ get_or sorts i (Key Access) ∷ [])
            (take i ws ++ w ∷ []) x (Some (earlier c.loop-sort.first v.in-Err.reason)))
            (sym (ap (λ s. s.items) v.said-is))
            (state_offends (take i sorts) (take i ws) c.loop-sort.said.items c.loop-sort.first (get_or sorts i (Key Access)) w v.in-Err.reason
            (same_length sorts ws i (omega (arith, c.loop-sort-test.true)) c.loop-sort.invariant.within) c.loop-sort.invariant.state v.in-Err.ensures)));
        room = (let e = ap array_vec_len v.said-is in omega (arith, c.loop-sort.invariant.room, e));
      }
    ]

pub returns-then-is_some : goal.returns-then-is_some
returns-then-is_some c =
    let many = left_some (words_of c.args.line.now) c.loop-sort.sort-index c.loop-sort.rest c.loop-sort.invariant.rest (sym c.is_some.ensures ∙ c.if-is_some.true) in
    another_count c.args.sorts.now (words_of c.args.line.now) (λ same. omega (arith, many, same, c.loop-sort-test.false))

pub returns-in-None : goal.returns-in-None
returns-in-None c =
    let few = left_not_some (words_of c.args.line.now) c.loop-sort.sort-index c.loop-sort.rest c.loop-sort.invariant.rest (sym c.is_some.ensures ∙ c.if-is_some.false) in
    whole_said c.args.sorts.now (words_of c.args.line.now) c.loop-sort.said.items c.loop-sort.first c.loop-sort.sort-index c.loop-sort-test.false few c.loop-sort.invariant.state c.in-None.is

pub returns-in-Some-first : goal.returns-in-Some-first
returns-in-Some-first c =
    let few = left_not_some (words_of c.args.line.now) c.loop-sort.sort-index c.loop-sort.rest c.loop-sort.invariant.rest (sym c.is_some.ensures ∙ c.if-is_some.false) in
    whole_first c.args.sorts.now (words_of c.args.line.now) c.loop-sort.said.items c.loop-sort.first
    c.loop-sort.sort-index c.in-Some-first.reason c.loop-sort-test.false few c.loop-sort.invariant.within
    c.loop-sort.auto.sort-index-end c.loop-sort.invariant.state c.in-Some-first.is
