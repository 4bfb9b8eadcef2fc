use Rattle.std.proofs.Common.{◌≡◌, ◌-◌, ◌++◌, length, take, sym, ap, subst, ◌∙◌, arith, length-append}
use Rattle.graph_form.specs.Roles.{word_bytes}
use Rattle.graph_copy.proofs.Running.{RunsOn, run_begins, run_more, run_done, word_length}
use Rattle.graph_copy.proofs.build.run.Goals as goal

pub loop-left-init : goal.loop-left-init
loop-left-init c = record {
  on = subst (RunsOn c.next-address.new.self.loads.now c.args.bytes c.args.bytes c.next-address.new.self.loads.now)
      (sym c.in_ok-run.ensures.items) (run_begins c.next-address.new.self.loads.now c.args.bytes);
  count = omega (arith, c.in_ok-run.ensures.len);
  some = c.if-bytes-eq0.false;
}

pub loop-left-preserved : goal.loop-left-preserved
loop-left-preserved c =
    let items : c.extend_from_slice.new.self.items ≡ c.loop-left.run.items ++ word_bytes c.next.result =
    c.in_ok-extend_from_slice.ensures.items ∙ ap (λ xs. c.loop-left.run.items ++ xs) c.to_le_bytes.ensures in
    record {
      on = subst (RunsOn c.next-address.new.self.loads.now c.args.bytes (c.loop-left.left - 8) c.next.new.self.loads.now) (sym items)
          (run_more c.next-address.new.self.loads.now c.args.bytes c.loop-left.left c.next.result
          c.loop-left.tape.loads.now c.next.new.self.loads.now c.loop-left.run.items c.loop-left.invariant.on
          c.loop-left-test.true c.next.ensures);
      count = omega (arith, c.loop-left.invariant.count, ap length items, length-append c.loop-left.run.items (word_bytes c.next.result), word_length c.next.result, c.loop-left-test.true);
      some = omega (arith, c.loop-left-test.true);
    }

pub returns : goal.returns
returns c =
    let made : c.from_vec.result ≡ c.loop-left.run.items ++ take c.loop-left.left (word_bytes c.next-2.result) =
    c.from_vec.ensures ∙ c.in_ok-extend_from_slice-2.ensures.items
    ∙ ap (λ xs. c.loop-left.run.items ++ take c.loop-left.left xs) c.to_le_bytes-last.ensures in
    run_done c.args.tape.now.loads.now c.next-address.new.self.loads.now c.next-2.new.self.loads.now c.args.bytes
    c.loop-left.left c.next-address.result c.next-2.result c.loop-left.tape.loads.now c.loop-left.run.items
    c.from_vec.result
    c.if-bytes-eq0.false c.next-address.ensures c.loop-left.invariant.on c.loop-left-test.false c.loop-left.invariant.count c.next-2.ensures made
