use Rattle.std.proofs.Common.{◌≡◌, ◌++◌, length, sym, ap, subst, ◌∙◌, arith, append-nil}
use Rattle.graph_form.specs.Roles.{node_words, size_words}
use Rattle.graph_form.specs.Placed.{IsSpanInHeap}
use Rattle.graph_form.specs.Malformed.{IsMalformed}
use Rattle.graph_copy.specs.Answers.{IfCopied, IfMalformed, load_count}
use Rattle.graph_copy.specs.Copies.{IsCopied}
use Rattle.graph_copy.specs.Expected.{expected, AreInHeap}
use Rattle.graph_copy.proofs.Completing.{stopped, copied}
use Rattle.graph_copy.proofs.Fitting.{node_fits}
use Rattle.graph_copy.proofs.Leading.{at_some, at_none}
use Rattle.graph_copy.proofs.copying.copy_graph.Goals as goal

pub take_words-requires-clause-fits : goal.take_words-requires-clause-fits
take_words-requires-clause-fits g c =
    let T = c.args.table.now in
    let H = g.W.Words.size c.args.words.now in
    let lies = c.lies_in.ensures.0 c.if-not-lies_in.false in
    let here : IsSpanInHeap H c.args.addr (size_words T c.args.msg) = record { from_one = lies.from_one; to_end = omega (arith, lies.to_end, c.size_words-root.ensures, c.words-size.ensures) } in
    let size : c.expect_node.new.self.size ≡ H = c.in_ok-expect_node.ensures.size ∙ c.new-walk.ensures.size ∙ c.words-size.ensures in
    let words : expected T c.expect_node.new.self ≡ node_words T c.args.msg 1 c.args.addr =
    c.in_ok-expect_node.ensures.expected ∙ ap (λ es. node_words T c.args.msg 1 c.args.addr ++ es)
    (c.new-walk.ensures.expected T) ∙ append-nil (node_words T c.args.msg 1 c.args.addr) in
    subst (λ es. AreInHeap c.expect_node.new.self.size es) (sym words)
    (subst (λ h. AreInHeap h (node_words T c.args.msg 1 c.args.addr)) (sym size)
    (node_fits T H c.args.msg 1 c.args.addr here.to_end))

pub returns-in-Some-clause-copied : goal.returns-in-Some-clause-copied
returns-in-Some-clause-copied g c =
    let T = c.args.table.now in
    let H = g.W.Words.size c.args.words.now in
    let lies = c.lies_in.ensures.0 c.if-not-lies_in.false in
    let here : IsSpanInHeap H c.args.addr (size_words T c.args.msg) = record { from_one = lies.from_one; to_end = omega (arith, lies.to_end, c.size_words-root.ensures, c.words-size.ensures) } in
    let size : c.expect_node.new.self.size ≡ H = c.in_ok-expect_node.ensures.size ∙ c.new-walk.ensures.size ∙ c.words-size.ensures in
    let words : expected T c.expect_node.new.self ≡ node_words T c.args.msg 1 c.args.addr =
    c.in_ok-expect_node.ensures.expected ∙ ap (λ es. node_words T c.args.msg 1 c.args.addr ++ es)
    (c.new-walk.ensures.expected T) ∙ append-nil (node_words T c.args.msg 1 c.args.addr) in
    let stops = at_some _ _ c.in_ok-reason.field-0 c.in-Some.reason c.in-Some.is c.in_ok-reason.ensures.outcome in
    let s = stopped T H c.args.msg c.args.addr c.args.limit c.expect_node.new.self.size
    (expected T c.expect_node.new.self) c.take_words.new.loads.items c.in-Some.reason
    c.loads_end_malformed.ensures.offence c.loads_end_malformed.ensures.limit size words here
    c.requires.least_limit stops in
    let answer = c.malformed.ensures s.front s.last (c.deref.ensures.value ∙ s.is) in
    subst (IfCopied (IsCopied T H c.args.msg c.args.addr c.take_words.new.loads.items)) (sym answer) tt

pub returns-in-Some-clause-malformed : goal.returns-in-Some-clause-malformed
returns-in-Some-clause-malformed g c =
    let T = c.args.table.now in
    let H = g.W.Words.size c.args.words.now in
    let lies = c.lies_in.ensures.0 c.if-not-lies_in.false in
    let here : IsSpanInHeap H c.args.addr (size_words T c.args.msg) = record { from_one = lies.from_one; to_end = omega (arith, lies.to_end, c.size_words-root.ensures, c.words-size.ensures) } in
    let size : c.expect_node.new.self.size ≡ H = c.in_ok-expect_node.ensures.size ∙ c.new-walk.ensures.size ∙ c.words-size.ensures in
    let words : expected T c.expect_node.new.self ≡ node_words T c.args.msg 1 c.args.addr =
    c.in_ok-expect_node.ensures.expected ∙ ap (λ es. node_words T c.args.msg 1 c.args.addr ++ es)
    (c.new-walk.ensures.expected T) ∙ append-nil (node_words T c.args.msg 1 c.args.addr) in
    let stops = at_some _ _ c.in_ok-reason.field-0 c.in-Some.reason c.in-Some.is c.in_ok-reason.ensures.outcome in
    let s = stopped T H c.args.msg c.args.addr c.args.limit c.expect_node.new.self.size
    (expected T c.expect_node.new.self) c.take_words.new.loads.items c.in-Some.reason
    c.loads_end_malformed.ensures.offence c.loads_end_malformed.ensures.limit size words here
    c.requires.least_limit stops in
    let answer = c.malformed.ensures s.front s.last (c.deref.ensures.value ∙ s.is) in
    subst (IfMalformed (IsMalformed T H c.args.msg c.args.addr c.args.limit c.take_words.new.loads.items)) (sym answer) s.malformed

pub returns-in-Some-clause-counted : goal.returns-in-Some-clause-counted
returns-in-Some-clause-counted g c =
    let T = c.args.table.now in
    let H = g.W.Words.size c.args.words.now in
    let lies = c.lies_in.ensures.0 c.if-not-lies_in.false in
    let here : IsSpanInHeap H c.args.addr (size_words T c.args.msg) = record { from_one = lies.from_one; to_end = omega (arith, lies.to_end, c.size_words-root.ensures, c.words-size.ensures) } in
    let size : c.expect_node.new.self.size ≡ H = c.in_ok-expect_node.ensures.size ∙ c.new-walk.ensures.size ∙ c.words-size.ensures in
    let words : expected T c.expect_node.new.self ≡ node_words T c.args.msg 1 c.args.addr =
    c.in_ok-expect_node.ensures.expected ∙ ap (λ es. node_words T c.args.msg 1 c.args.addr ++ es)
    (c.new-walk.ensures.expected T) ∙ append-nil (node_words T c.args.msg 1 c.args.addr) in
    let stops = at_some _ _ c.in_ok-reason.field-0 c.in-Some.reason c.in-Some.is c.in_ok-reason.ensures.outcome in
    let s = stopped T H c.args.msg c.args.addr c.args.limit c.expect_node.new.self.size
    (expected T c.expect_node.new.self) c.take_words.new.loads.items c.in-Some.reason
    c.loads_end_malformed.ensures.offence c.loads_end_malformed.ensures.limit size words here
    c.requires.least_limit stops in
    let answer = c.malformed.ensures s.front s.last (c.deref.ensures.value ∙ s.is) in
    ap load_count answer ∙ ap length c.deref.ensures.value

pub returns-clause-copied : goal.returns-clause-copied
returns-clause-copied g c =
    let T = c.args.table.now in
    let H = g.W.Words.size c.args.words.now in
    let lies = c.lies_in.ensures.0 c.if-not-lies_in.false in
    let here : IsSpanInHeap H c.args.addr (size_words T c.args.msg) = record { from_one = lies.from_one; to_end = omega (arith, lies.to_end, c.size_words-root.ensures, c.words-size.ensures) } in
    let size : c.expect_node.new.self.size ≡ H = c.in_ok-expect_node.ensures.size ∙ c.new-walk.ensures.size ∙ c.words-size.ensures in
    let words : expected T c.expect_node.new.self ≡ node_words T c.args.msg 1 c.args.addr =
    c.in_ok-expect_node.ensures.expected ∙ ap (λ es. node_words T c.args.msg 1 c.args.addr ++ es)
    (c.new-walk.ensures.expected T) ∙ append-nil (node_words T c.args.msg 1 c.args.addr) in
    let leads = at_none _ _ c.in_ok-reason.field-0 c.in-None.is c.in_ok-reason.ensures.outcome in
    copied T H c.args.msg c.args.addr c.expect_node.new.self.size (expected T c.expect_node.new.self)
    c.take_words.new.loads.items c.deref-in-None.result.now c.in_ok-tree-in-None.tree size words here leads
    c.deref-in-None.ensures.value c.in_ok-tree-in-None.ensures
