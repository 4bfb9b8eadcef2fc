use Rattle.std.proofs.Common.{◌≡◌, zero, suc, List, [], ◌∷◌, ◌++◌, sym, ◌∙◌, subst, rules, arith}
use Rattle.std.specs.Prelude.{All}
use Rattle.std.proofs.lemmas.List.Elements.{All-append}
use Rattle.crossbeam_queue.specs.Passes.{view}
use Rattle.worker_pool.specs.Workers.{IsFresh, Knows}
use Rattle.worker_pool.proofs.pool.start.Goals as goal

all_one : {X : Type 0} (P : X → Type 0) (x : X) → P x → All P (x ∷ [])
all_one P x p zero d lt = p
all_one P x p (suc k) d lt = absurd (omega (arith, lt))

all_push : {X : Type 0} (P : X → Type 0) (xs ys : List X) (x : X) → ys ≡ xs ++ x ∷ [] → All P xs → P x → All P ys
all_push P xs ys x e ps p = subst (All P) (sym e) (All-append P xs (x ∷ []) ps (all_one P x p))

pub loop-alloc-preserved : goal.loop-alloc-preserved
loop-alloc-preserved g c =
    let i = c.loop-alloc.invariant in
    let knows : Knows (view c.args.pass.now).firsts c.share.result = c.share.ensures.knows ∙ i.6 in (
      search rules,
      search rules,
      search rules,
      search rules,
      search rules,
      search rules,
      search rules,
      all_push (IsFresh g.T.PoolItem.since g.T.PoolItem.over c.args.line.now) c.loop-alloc.jobs.items
          c.push_reserved.new.self.items c.share.result c.push_reserved.ensures.items i.7 c.share.ensures.fresh,
      all_push (Knows (view c.args.pass.now).firsts) c.loop-alloc.jobs.items c.push_reserved.new.self.items c.share.result c.push_reserved.ensures.items i.8 knows,
    )
