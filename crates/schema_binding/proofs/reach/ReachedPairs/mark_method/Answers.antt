use Rattle.std.proofs.Common.{◌≡◌, sym, subst, ◌∙◌}
use Rattle.std.proofs.lemmas.Option.{same_Some}
use Rattle.std.proofs.lemmas.Result.{on_ok_weaker}
use Rattle.schema_binding.specs.Reach.{HasMarkedBoth, IsInMethods}
use Rattle.schema_binding.proofs.Reaching.{input_pair, output_pair, input_in, output_in, never_alone, mark_gains, gains_on, both_marked}
use Rattle.schema_binding.proofs.reach.ReachedPairs.mark_method.Goals as goal

pub returns-in_default-method_at-clause-method : goal.returns-in_default-method_at-clause-method
returns-in_default-method_at-clause-method c = λ method e.
    absurd (never_alone c.args.ours.now c.args.theirs.now c.args.service.now c.requires.same c.args.index method e (sym c.in_default-method_at.ensures.method))

pub returns-clause-gains : goal.returns-clause-gains
returns-clause-gains c =
    let T = c.args.ours.now in
    let U = c.args.theirs.now in
    let s = c.args.service.now in
    let i = c.args.index in
    let m = c.in-Some.our.now in
    let n = c.in-Some-method_at.their.now in
    let at_m = sym c.in-Some.ensures.method in
    let at_n = sym c.in-Some-method_at.ensures.method in
    let first = mark_gains T U c.args.self.now c.mark.new.self m.input n.input (IsInMethods T s) c.requires.paired
    (input_pair T U s c.requires.same i m n at_m at_n c.in-Some.ensures.known c.in-Some-method_at.ensures.known) (input_in T s i m at_m) c.in_ok-mark.ensures in
    on_ok_weaker c.mark-2.result
    (λ marks. gains_on T U c.args.self.now c.mark.new.self c.mark-2.new.self (IsInMethods T s) (IsInMethods T s) (IsInMethods T s) (λ type h. h) (λ type h. h) first
    (mark_gains T U c.mark.new.self c.mark-2.new.self m.output n.output (IsInMethods T s) first.paired
    (output_pair T U s c.requires.same i m n at_m at_n c.in-Some.ensures.known c.in-Some-method_at.ensures.known) (output_in T s i m at_m) marks))
    c.mark-2.ensures

pub returns-clause-method : goal.returns-clause-method
returns-clause-method c = λ method e.
    let T = c.args.ours.now in
    let m = c.in-Some.our.now in
    let n = c.in-Some-method_at.their.now in
    let same : m ≡ method = same_Some m method (c.in-Some.ensures.method ∙ e) in
    on_ok_weaker c.mark-2.result
    (λ marks. subst (HasMarkedBoth T c.mark-2.new.self) same (both_marked T c.args.self.now c.mark.new.self c.mark-2.new.self m n.input n.output c.in_ok-mark.ensures marks))
    c.mark-2.ensures
