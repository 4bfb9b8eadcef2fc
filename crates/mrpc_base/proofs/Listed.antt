-- What listing a race leaves, out of memory or not.
use Rattle.std.proofs.Common.{◌≡◌, ◌≤◌, ◌+◌, ℕ, nat_lt, nat_le, not, List, ◌∷◌, ◌++◌, All, length, length-append, arith, refl, ap, ◌∙◌, sym, subst}
use Rattle.std.proofs.lemmas.Bool.Decides.{nat_tests}
use Rattle.std.proofs.lemmas.List.Elements.{All-append, All-cons, All-filter}
use Rattle.std.proofs.lemmas.List.Sorted.{IsPermutation-filter_both, length_permutation}
use Rattle.mrpc_base.specs.declared.words.Room.{Room}
use Rattle.mrpc_base.specs.declared.words.Room.TheVariants.{Made, Memory}
use Rattle.mrpc_base.specs.Heap.{Race, races_up_to, races_past, races_with}
use Rattle.mrpc_base.specs.Parts.{ScheduledRaces}

up_to_or_past : (number load : ℕ) → nat_lt number load ≡ not (nat_le load number)
up_to_or_past number load = grind (arith, nat_tests)

pub length-races_with : (races : List Race) (race : Race) → length (races_with races race) ≡ length races + 1
length-races_with races race =
    let front = races_up_to race.load races in
    let back = races_past race.load races in
    let parts = length_permutation races (front ++ back)
    (IsPermutation-filter_both (λ (r : Race). nat_le r.load race.load) (λ (r : Race). nat_lt race.load r.load)
    (λ r. up_to_or_past race.load r.load) races) in
    omega (arith, parts, length-append front back, length-append front (race ∷ back))

pub All-races_with : (P : Race → Type 0) (races : List Race) (race : Race) → P race → All P races → All P (races_with races race)
All-races_with P races race one all =
    All-append P (races_up_to race.load races) (race ∷ races_past race.load races) (All-filter (λ (r : Race). nat_le r.load race.load) P races all)
    (All-cons P race (races_past race.load races) one (All-filter (λ (r : Race). nat_lt race.load r.load) P races all))

-- at most one more race is scheduled, no more were listed than there are, and P still holds of each
pub record Lists (P : Race → Type 0) (old new : ScheduledRaces) : Type 0 where
  pub one_more : length new.races ≤ length old.races + 1
  pub listed : new.listed + length old.races ≤ old.listed + length new.races
  pub all : All P new.races

pub Lists-from_answer : (P : Race → Type 0) (old new : ScheduledRaces) (race : Race) (answer : Room)
    → (answer ≡ Made → new.races ≡ races_with old.races race) → (answer ≡ Made → new.listed ≡ old.listed + 1) → (answer ≡ Memory → new ≡ old)
    → P race → All P old.races → Lists P old new
Lists-from_answer P old new race Made made counted memory one all =
    let is = made refl in
    let len = ap length is ∙ length-races_with old.races race in
    let count = counted refl in
    record { one_more = omega (arith, len); listed = omega (arith, len, count); all = subst (All P) (sym is) (All-races_with P old.races race one all) }
Lists-from_answer P old new race Memory made counted memory one all =
    let same = memory refl in
    let races = ap (λ (w : ScheduledRaces). w.races) same in
    let len = ap length races in
    let count = ap (λ (w : ScheduledRaces). w.listed) same in
    record { one_more = omega (arith, len); listed = omega (arith, len, count); all = subst (All P) (sym races) all }
