use Rattle.std.proofs.Common.{◌++◌, ◌∷◌, [], ◌↔◌, ℕ, List, Vec, Global, Contains, map, take, sym, ap, ◌∙◌, subst}
use Rattle.std.specs.Borrow.{Bor}
use Rattle.toml.specs.Data.{Members}
use Rattle.toml.specs.View.{table_view}
use Rattle.scenario_toml.specs.Values.{TheIntegerRange, number_or_default}
use Rattle.scenario_entries.specs.Entries.{views}
use Rattle.scenario_reader.specs.Owning.{IsUsedIn}
use Rattle.scenario_reader.proofs.Listing.{views_all, views_more}
use Rattle.scenario_reader.proofs.Using.{names_more, used_apart, used_more}
use Rattle.scenario_reader.proofs.own.used_names.Goals as goal
use Rattle.scenario_reader.proofs.own.used_names.Goals.{then-number+in_ok-more+in_ok-extend_from_slice, else-number}

pub loop-operator-preserved : goal.loop-operator-preserved
loop-operator-preserved c = λ name.
    let operators = c.args.operators.now in
    let i = c.loop-operator.operator-index in
    let e = c.operator-item.result in
    let ms = table_view c.args.entry.now in
    let more = views_more operators i e c.loop-operator-test.true c.operator-item.is in
    let its = c.number.ensures ∙ ap (λ (r : TheIntegerRange). number_or_default r (table_view e.now)) c.conn-in-loop-operator.ensures in
    let own = c.number-number.ensures ∙ ap (λ (r : TheIntegerRange). number_or_default r ms) c.conn.ensures in
    subst (λ (vs : List Members). Contains (map (λ n. n.now) c.if-number.names.items) name ↔ IsUsedIn vs ms name) (sym more)
    (elim c.if-number.branch [
      | then-number+in_ok-more+in_ok-extend_from_slice w ↦
          subst (λ (ns : List (List ℕ)). Contains ns name ↔ IsUsedIn (views (take i operators) ++ table_view e.now ∷ []) ms name)
          (sym (ap (λ (v : Vec (Bor (List ℕ)) Global). map (λ n. n.now) v.items) w.names-is
          ∙ names_more c.loop-operator.names.items w.as_slice.result.now w.in_ok-more.more.items w.extend_from_slice.new.self.items
          w.as_slice.ensures.value w.in_ok-extend_from_slice.ensures.items))
          (used_more (views (take i operators)) (table_view e.now) ms name (map (λ n. n.now) c.loop-operator.names.items)
          (c.loop-operator.invariant name) (sym its ∙ w.if-number.true ∙ own) (map (λ n. n.now) w.in_ok-more.more.items) w.in_ok-more.ensures)
      | else-number w ↦
          subst (λ (ns : List (List ℕ)). Contains ns name ↔ IsUsedIn (views (take i operators) ++ table_view e.now ∷ []) ms name)
          (sym (ap (λ (v : Vec (Bor (List ℕ)) Global). map (λ n. n.now) v.items) w.names-is))
          (used_apart (views (take i operators)) (table_view e.now) ms name (map (λ n. n.now) c.loop-operator.names.items)
          (c.loop-operator.invariant name) (λ same. w.if-number.false (its ∙ same ∙ sym own)))
    ])

pub returns : goal.returns
returns c = λ name.
    subst (λ (vs : List Members). Contains (map (λ n. n.now) c.loop-operator.names.items) name ↔ IsUsedIn vs (table_view c.args.entry.now) name)
    (views_all c.args.operators.now c.loop-operator.operator-index c.loop-operator-test.false) (c.loop-operator.invariant name)
