use Rattle.std.proofs.Common.{◌≡◌, ◌++◌, [], ◌∷◌, length, sym, ap, ◌∙◌, subst, refl, arith}
use Rattle.mrpc_base.specs.declared.tickets.TheConstants.{WINDOWS}
use Rattle.tenant_quota.specs.Drawing.{QuotaId, all_after_join}
use Rattle.tenant_quota.specs.Splitting.{AreOfQuotas}
use Rattle.tenant_quota.proofs.Joining.{is_nil, none_joined, last_inside, last_quota, one_joined, rest_are_of, all_stay}
use Rattle.tenant_quota.proofs.seats.Seats.join_fewer.Goals as goal

pub loop-seat-init : goal.loop-seat-init
loop-seat-init c = record {
  joined = rw (← c.self.view_is, ← c.other.view_is) refl;
  left = rw (← c.self.view_is, ← c.other.view_is) at c.requires;
  windows = c.self.invariant;
}

pub index_mut-requires : goal.index_mut-requires
index_mut-requires c =
    let seats = c.loop-seat.self-inside.seats.items in
    let rest = c.pop.new.self.items in
    let left : AreOfQuotas seats (rest ++ c.in-Some.seat ∷ []) = subst (AreOfQuotas seats) c.in-Some.ensures.items c.loop-seat.invariant.left in
    let inside = last_inside c.in-Some.seat seats rest left in
    omega (arith, c.len.ensures, c.pop.new.self.ok.0, c.loop-seat.self-inside.seats.ok.0, inside)

pub join-requires : goal.join-requires
join-requires c =
    let seats = c.loop-seat.self-inside.seats.items in
    let rest = c.pop.new.self.items in
    let left : AreOfQuotas seats (rest ++ c.in-Some.seat ∷ []) = subst (AreOfQuotas seats) c.in-Some.ensures.items c.loop-seat.invariant.left in
    let len : c.len.result ≡ length rest = omega (arith, c.len.ensures, c.pop.new.self.ok.0) in
    let at = rw len at c.index_mut.ensures.value in
    last_quota c.in-Some.seat seats rest c.index_mut.result.now left at

pub loop-seat-preserved : goal.loop-seat-preserved
loop-seat-preserved c =
    let seats = c.loop-seat.self-inside.seats.items in
    let rest = c.pop.new.self.items in
    let last = c.in-Some.seat in
    let d = c.index_mut.result.now in
    let new = c.join.new.self in
    let is = c.join.ensures in
    let left : AreOfQuotas seats (rest ++ last ∷ []) = subst (AreOfQuotas seats) c.in-Some.ensures.items c.loop-seat.invariant.left in
    let len : c.len.result ≡ length rest = omega (arith, c.len.ensures, c.pop.new.self.ok.0) in
    let at = rw len at c.index_mut.ensures.value in
    let inside = last_inside last seats rest left in
    let first : all_after_join seats (rest ++ last ∷ []) ≡ all_after_join c.args.self.now c.args.other = rw (← c.in-Some.ensures.items) c.loop-seat.invariant.joined in
    rw len (record {
      joined = one_joined last d new is.quota is.draws is.share seats rest left at ∙ first;
      left = rest_are_of last d new is.quota is.draws is.share seats rest left at;
      windows = all_stay last d new is.quota is.draws is.share (λ seat. seat.quota.words ≡ WINDOWS)
          (λ words. ap (λ (q : QuotaId). q.words) is.quota ∙ words) seats
          (length rest) inside at c.loop-seat.invariant.windows;
    })

pub returns : goal.returns
returns c =
    let seats = c.loop-seat.self-inside.seats.items in
    let none : length c.loop-seat.other-inside.seats.items ≡ 0 = omega (arith, c.in_default.ensures.cases.0, c.loop-seat.other-inside.seats.ok.0) in
    sym (none_joined seats) ∙ subst (λ others. all_after_join seats others ≡ all_after_join c.args.self.now c.args.other) (is_nil _ none) c.loop-seat.invariant.joined
