use Rattle.script_grammar.proofs.OneFront.{one_front_each, one_fault_each, front_or_fault, some_answer}
use Rattle.script_grammar.proofs.head_laws.preamble_or_fault.Goals as goal

pub returns-clause-front : goal.returns-clause-front
returns-clause-front c = let t = c.table_after_is_unique.ensures in
    λ first. one_front_each first (record {
      one_text = c.table_text_is_unique.ensures;
      one_fault = c.table_fault_is_unique.ensures.one;
      no_fault = c.table_fault_is_unique.ensures.none;
      some_answer = c.table_or_fault.ensures;
      one_behind = t.one;
      some_behind = t.some;
      canonical = t.canonical;
      endless = t.endless;
    })

pub returns-clause-fault : goal.returns-clause-fault
returns-clause-fault c = let t = c.table_after_is_unique.ensures in
    λ first. one_fault_each first (record {
      one_text = c.table_text_is_unique.ensures;
      one_fault = c.table_fault_is_unique.ensures.one;
      no_fault = c.table_fault_is_unique.ensures.none;
      some_answer = c.table_or_fault.ensures;
      one_behind = t.one;
      some_behind = t.some;
      canonical = t.canonical;
      endless = t.endless;
    })

pub returns-clause-either : goal.returns-clause-either
returns-clause-either c = let t = c.table_after_is_unique.ensures in
    λ first. front_or_fault first (record {
      one_text = c.table_text_is_unique.ensures;
      one_fault = c.table_fault_is_unique.ensures.one;
      no_fault = c.table_fault_is_unique.ensures.none;
      some_answer = c.table_or_fault.ensures;
      one_behind = t.one;
      some_behind = t.some;
      canonical = t.canonical;
      endless = t.endless;
    })

pub returns-clause-some : goal.returns-clause-some
returns-clause-some c = let t = c.table_after_is_unique.ensures in
    λ first. some_answer first (record {
      one_text = c.table_text_is_unique.ensures;
      one_fault = c.table_fault_is_unique.ensures.one;
      no_fault = c.table_fault_is_unique.ensures.none;
      some_answer = c.table_or_fault.ensures;
      one_behind = t.one;
      some_behind = t.some;
      canonical = t.canonical;
      endless = t.endless;
    })
