use Rattle.std.proofs.Common.{◌≡◌, ◌+◌, ◌-◌, ◌≤◌, length, get_or, sym, subst, arith}
use Rattle.proto_ast.specs.Joined.{package_at}
use Rattle.schema_symbols.specs.Below.{IsBusyFrom}
use Rattle.schema_symbols.specs.declared.below.KnownBelow.TheVariants.{Nothing}
use Rattle.schema_symbols.proofs.BelowLemmas.{busy_none, busy_skip, busy_more, busy_all, is_one_of, only_own}
use Rattle.schema_symbols.proofs.below.busy_prefixes.Goals as goal

pub loop-n-init : goal.loop-n-init
loop-n-init c =
    subst (IsBusyFrom c.args.places.now c.args.file (c.depth-n.result + 1)) (sym c.new-busy.ensures.items)
    (busy_none c.args.file (c.depth-n.result + 1) (omega (arith, c.depth-n.ensures.is)))

pub loop-n-preserved-then-is_one : goal.loop-n-preserved-then-is_one
loop-n-preserved-then-is_one c =
    let w = is_one_of (get_or c.args.below.now c.prefix-front.result Nothing) (sym c.if-is_one.ensures) in
    let short : c.loop-n.n - 1 ≤ length (package_at c.args.places.now c.args.file) = omega (arith, c.loop-n.auto.n, c.depth-n.ensures.is) in
    busy_skip c.loop-n-test.true
    (only_own c.args.places.now c.args.below.now c.args.file (c.loop-n.n - 1) c.prefix-front.result w.0
    c.requires.behind c.requires.tells c.requires.there short c.prefix-front.ensures.number w.1)
    c.loop-n.invariant

pub loop-n-preserved : goal.loop-n-preserved
loop-n-preserved c =
    let short : c.loop-n.n ≤ length (package_at c.args.places.now c.args.file) + 1 = omega (arith, c.loop-n.auto.n, c.depth-n.ensures.is) in
    subst (IsBusyFrom c.args.places.now c.args.file (c.loop-n.n - 1)) (sym c.in_ok-push.ensures.items)
    (busy_more c.loop-n-test.true short c.loop-n.invariant)

pub returns : goal.returns
returns c = busy_all (let e : c.loop-n.n ≡ 0 = omega (arith, c.loop-n-test.false) in e) c.loop-n.invariant
