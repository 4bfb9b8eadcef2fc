-- Operations that change a chain one after another, and the first one that is refused.
use Rattle.std.proofs.Common.{◌≡◌, ◌^◌, Bool, if◌then◌else◌, ℕ, suc, ◌+◌, ◌<◌, List, [], ◌∷◌, ◌++◌, length, get_or}
use Rattle.std.proofs.Common.{map, take, drop, Option, Some, None, refl, sym, ap, ◌∙◌, subst, arith}
use Rattle.std.specs.Borrow.{Bor}
use Rattle.std.proofs.lemmas.Bool.{lt-ltb}
use Rattle.std.proofs.lemmas.List.Elements.{All-nil}
use Rattle.std.proofs.lemmas.Option.{same_Some}
use Rattle.mrpc_table.specs.Lines.{in_64_bits}
use Rattle.mrpc_table.specs.declared.words.Decimal.TheVariants.{Small, Large}
use Rattle.std.proofs.lemmas.List.{drop_more, length-map, length-take-le, map-append, take-append-drop, take_more}
use Rattle.engine_core.specs.Chains.{Chain, HasChanged, IsChain, Refusal, IsRejection}
use Rattle.engine_core.specs.declared.op.Op.{Op}
use Rattle.engine_core.specs.declared.op.Op.TheVariants as op
use Rattle.policy_declarations.specs.Declarations.{Declared}
use Rattle.policy_declarations.specs.declared.declaration.NamedPolicy.{NamedPolicy}
use Rattle.run_plan.specs.declared.operator.OperatorStep.{OperatorStep}
use Rattle.run_plan.specs.Chains.{IsChangedBy, empty_chain}
use Rattle.scenario.specs.Applications.{IsFirstRefusedOp}
use Rattle.scenario_lines.specs.Programs.{Each}
use Rattle.scenario.specs.Lines.{count_in}
use Rattle.scenario.specs.declared.fault.ScenarioReason.{ScenarioReason}
use Rattle.scenario_entries.specs.ChainEntries.{IsChangeOrRefusal, AreEntriesOf}
use Rattle.scenario_entries.specs.declared.chain.ChainEntry.{ChainEntry}
use Rattle.scenario_lines.specs.declared.step.StepText.{StepText}
use Rattle.scenario_reader.specs.Walking.{AreOpsOf, IsAttachmentOf, IsLineOf, IsOpOf, IsRefusedFor, IsStepOf, IsWalkedTo, named_in}
use Rattle.scenario_reader.proofs.Lists.{each_push}

-- the laws of chains that a walk uses
pub record Laws : Type 0 where
  pub one : (before after other : Chain) (o : Op) → IsChain before → HasChanged before o after → HasChanged before o other → after ≡ other
  pub not_both : (before after : Chain) (o : Op) (r : Refusal) → HasChanged before o after → IsRejection before o r → ⊥
  pub one_refusal : (chain : Chain) (o : Op) (r s : Refusal) → IsRejection chain o r → IsRejection chain o s → r ≡ s
  pub stays : (before after : Chain) (o : Op) → IsChain before → HasChanged before o after → IsChain after

pub laws_of : ((before after other : Chain) (o : Op) → IsChain before → HasChanged before o after → HasChanged before o other → after ≡ other)
    → ((before after : Chain) (o : Op) (r : Refusal) → HasChanged before o after → IsRejection before o r → ⊥)
    → ((chain : Chain) (o : Op) (r s : Refusal) → IsRejection chain o r → IsRejection chain o s → r ≡ s)
    → ((before after : Chain) (o : Op) → IsChain before → HasChanged before o after → IsChain after) → Laws
laws_of one not_both one_refusal stays = record { one = one; not_both = not_both; one_refusal = one_refusal; stays = stays }

pub changing_push : (a b c : Chain) (xs : List Op) (o : Op) → IsChangedBy a xs b → HasChanged b o c → IsChangedBy a (xs ++ o ∷ []) c
changing_push a b c [] o same change = (c, subst (λ (x : Chain). HasChanged x o c) same change, refl)
changing_push a b c (x ∷ xs) o h change = (h.0, h.1, changing_push h.0 b c xs o h.2 change)

pub changing_split : (a c : Chain) (xs ys : List Op) → IsChangedBy a (xs ++ ys) c → (b : Chain) × IsChangedBy a xs b × IsChangedBy b ys c
changing_split a c [] ys h = (a, refl, h)
changing_split a c (x ∷ xs) ys h = (let r = changing_split h.0 c xs ys h.2 in (r.0, (h.0, h.1, r.1), r.2))

module _ (laws : Laws) where
  pub changing_sound : (a b : Chain) (xs : List Op) → IsChain a → IsChangedBy a xs b → IsChain b
  changing_sound a b [] sound same = subst IsChain (sym same) sound
  changing_sound a b (x ∷ xs) sound h = changing_sound h.0 b xs (laws.stays a h.0 x sound h.1) h.2

  pub changing_one : (a b c : Chain) (xs : List Op) → IsChain a → IsChangedBy a xs b → IsChangedBy a xs c → b ≡ c
  changing_one a b c [] sound h k = h ∙ sym k
  changing_one a b c (x ∷ xs) sound h k =
      let same : h.0 ≡ k.0 = laws.one a h.0 k.0 x sound h.1 k.1 in
      changing_one h.0 b c xs (laws.stays a h.0 x sound h.1) h.2 (subst (λ (m : Chain). IsChangedBy m xs c) (sym same) k.2)

  -- operations of which one is refused don't all change it
  pub not_refused : (a b : Chain) (ops : List Op) (r : Refusal) → IsChain a → IsChangedBy a ops b → IsFirstRefusedOp a ops r → ⊥
  not_refused a b ops r sound h f =
      let split = changing_split a b f.front (f.step ∷ f.back) (subst (λ (xs : List Op). IsChangedBy a xs b) f.whole h) in
      let same : split.0 ≡ f.before = changing_one a split.0 f.before f.front sound split.1 f.change in
      laws.not_both f.before split.2.0 f.step r (subst (λ (m : Chain). HasChanged m f.step split.2.0) same split.2.1) f.refuses

  refused_one : (a : Chain) (f g x y : List Op) (s t : Op) (c d : Chain) (p q : Refusal) → IsChain a → f ++ s ∷ x ≡ g ++ t ∷ y
      → IsChangedBy a f c → IsRejection c s p → IsChangedBy a g d → IsRejection d t q → p ≡ q
  refused_one a [] [] x y s t c d p q sound same h refuses k others =
      let step : s ≡ t = cc in
      let first = subst (λ (m : Chain). IsRejection m s p) h refuses in
      let second = subst (λ (m : Chain). IsRejection m t q) k others in
      laws.one_refusal a t p q (subst (λ (o : Op). IsRejection a o p) step first) second
  refused_one a [] (o ∷ g) x y s t c d p q sound same h refuses k others =
      let step : s ≡ o = cc in
      absurd (laws.not_both a k.0 o p k.1 (subst (λ (z : Op). IsRejection a z p) step (subst (λ (m : Chain). IsRejection m s p) h refuses)))
  refused_one a (o ∷ f) [] x y s t c d p q sound same h refuses k others =
      let step : t ≡ o = cc in
      absurd (laws.not_both a h.0 o q h.1 (subst (λ (z : Op). IsRejection a z q) step (subst (λ (m : Chain). IsRejection m t q) k others)))
  refused_one a (o ∷ f) (z ∷ g) x y s t c d p q sound same h refuses k others =
      let step : o ≡ z = cc in
      let rest : f ++ s ∷ x ≡ g ++ t ∷ y = cc in
      let next : h.0 ≡ k.0 = laws.one a h.0 k.0 o sound h.1 (subst (λ (w : Op). HasChanged a w k.0) (sym step) k.1) in
      refused_one h.0 f g x y s t c d p q (laws.stays a h.0 o sound h.1) rest h.2 refuses
      (subst (λ (m : Chain). IsChangedBy m g d) (sym next) k.2) others

  pub one_refused : (a : Chain) (ops : List Op) (p q : Refusal) → IsChain a → IsFirstRefusedOp a ops p → IsFirstRefusedOp a ops q → p ≡ q
  one_refused a ops p q sound f g =
      refused_one a f.front g.front f.back g.back f.step g.step f.before g.before p q sound (sym f.whole ∙ g.whole) f.change f.refuses
      g.change g.refuses

-- ---- lists of steps, by the lists of their operations

module _ {X Y : Type 0} (R : X → Y → Type 0) where
  pub record Split (xs back : List X) (x : X) (ys : List Y) : Type 0 where
    pub front : List Y
    pub here : Y
    pub behind : List Y
    pub whole : ys ≡ front ++ here ∷ behind
    pub before : Each R xs front
    pub is : R x here
    pub after : Each R back behind

  pub each_split : (xs back : List X) (x : X) (ys : List Y) → Each R (xs ++ x ∷ back) ys → Split xs back x ys
  each_split [] back x [] h = absurd h
  each_split [] back x (y ∷ ys) h = record { front = []; here = y; behind = ys; whole = refl; before = tt; is = h.0; after = h.1 }
  each_split (w ∷ xs) back x [] h = absurd h
  each_split (w ∷ xs) back x (y ∷ ys) h =
      let r = each_split xs back x ys h.1 in
      record {
        front = y ∷ r.front;
        here = r.here;
        behind = r.behind;
        whole = ap (λ (zs : List Y). y ∷ zs) r.whole;
        before = (h.0, r.before);
        is = r.is;
        after = r.after;
      }

module _ (d : Declared) where
  pub record OpsSplit (at : ℕ) (names back : List (List ℕ)) (name : List ℕ) (ops : List Op) : Type 0 where
    pub front : List Op
    pub here : Op
    pub behind : List Op
    pub whole : ops ≡ front ++ here ∷ behind
    pub before : AreOpsOf d at names front
    pub is : IsAttachmentOf d (at + length names) name name here
    pub after : AreOpsOf d (at + length names + 1) back behind

  pub ops_split : (at : ℕ) (names back : List (List ℕ)) (name : List ℕ) (ops : List Op) → AreOpsOf d at (names ++ name ∷ back) ops
      → OpsSplit at names back name ops
  ops_split at [] back name [] h = absurd h
  ops_split at [] back name (o ∷ ops) h =
      let none : at ≡ at + 0 = omega arith in
      record {
        front = [];
        here = o;
        behind = ops;
        whole = refl;
        before = tt;
        is = subst (λ (n : ℕ). IsAttachmentOf d n name name o) none h.0;
        after = subst (λ (n : ℕ). AreOpsOf d (n + 1) back ops) none h.1;
      }
  ops_split at (w ∷ names) back name [] h = absurd h
  ops_split at (w ∷ names) back name (o ∷ ops) h =
      let r = ops_split (at + 1) names back name ops h.1 in
      let more : at + 1 + length names ≡ at + suc (length names) = omega arith in
      record {
        front = o ∷ r.front;
        here = r.here;
        behind = r.behind;
        whole = ap (λ (zs : List Op). o ∷ zs) r.whole;
        before = (h.0, r.before);
        is = subst (λ (n : ℕ). IsAttachmentOf d n name name r.here) more r.is;
        after = subst (λ (n : ℕ). AreOpsOf d (n + 1) back r.behind) more r.after;
      }

-- ---- one more step

split_told : {X : Type 0} (xs : List X) (i : ℕ) (x : X) → i < length xs → xs ≡ take i xs ++ get_or xs i x ∷ drop (i + 1) xs
split_told {X = X} xs i x within = sym (take-append-drop i xs) ∙ ap (λ (ys : List X). take i xs ++ ys) (drop_more xs i x within)

module _ (laws : Laws) (d : Declared) (told : List StepText) (i : ℕ) (x : StepText) (within : i < length told) (first entries entries' : List ChainEntry)
    (so_far : (start : Chain) (ops : List Op) → IsChain start → AreEntriesOf first start → Each (IsOpOf d) (take i told) ops
    → IsWalkedTo start ops entries) where
  pub walk_refused : (q : ScenarioReason)
      → ((start : Chain) (o : Op) → IsChain start → AreEntriesOf entries start → IsOpOf d (get_or told i x) o → IsChangeOrRefusal start o entries' (Some q))
      → (start : Chain) (ops : List Op) → IsChain start → AreEntriesOf first start → Each (IsOpOf d) told ops → IsRefusedFor start ops q
  walk_refused q takes start ops sound kept are =
      let s = each_split (IsOpOf d) (take i told) (drop (i + 1) told) (get_or told i x) ops
      (subst (λ (xs : List StepText). Each (IsOpOf d) xs ops) (split_told told i x within) are) in
      let w = so_far start s.front sound kept s.before in
      let r = takes w.after s.here w.sound w.kept s.is in (
        r.0,
        record { front = s.front; step = s.here; back = s.behind; whole = s.whole; before = w.after; change = w.change; refuses = r.1 },
        r.2,
      )

  pub walk_more : ((start : Chain) (o : Op) → IsChain start → AreEntriesOf entries start → IsOpOf d (get_or told i x) o → IsChangeOrRefusal start o entries' None)
      → (start : Chain) (ops : List Op) → IsChain start → AreEntriesOf first start → Each (IsOpOf d) (take (i + 1) told) ops
      → IsWalkedTo start ops entries'
  walk_more takes start ops sound kept are =
      let s = each_split (IsOpOf d) (take i told) [] (get_or told i x) ops
      (subst (λ (xs : List StepText). Each (IsOpOf d) xs ops) (take_more told i x within) are) in
      let w = so_far start s.front sound kept s.before in
      let r = takes w.after s.here w.sound w.kept s.is in
      let whole : ops ≡ s.front ++ s.here ∷ [] = s.whole ∙ ap (λ (os : List Op). s.front ++ s.here ∷ os) (none_behind s.behind s.after) in
      record {
        after = r.0;
        change = subst (λ (os : List Op). IsChangedBy start os r.0) (sym whole) (changing_push start w.after r.0 s.front s.here w.change r.1);
        kept = r.2;
        sound = laws.stays w.after r.0 s.here w.sound r.1;
      }
    where
      none_behind : (os : List Op) → Each (IsOpOf d) [] os → os ≡ []
      none_behind [] h = refl
      none_behind (o ∷ os) h = absurd h

module _ (laws : Laws) (d : Declared) (names : List (Bor (List ℕ))) (i : ℕ) (x : Bor (List ℕ)) (within : i < length names)
    (start : Chain) (entries entries' : List ChainEntry)
    (so_far : (ops : List Op) → AreOpsOf d 0 (map (λ n. n.now) (take i names)) ops → IsWalkedTo start ops entries) where
  whole_names : map (λ (n : Bor (List ℕ)). n.now) names ≡ map (λ n. n.now) (take i names) ++ (get_or names i x).now ∷ map (λ n. n.now) (drop (i + 1) names)
  whole_names =
      ap (map (λ (n : Bor (List ℕ)). n.now)) (split_told names i x within)
      ∙ map-append (λ (n : Bor (List ℕ)). n.now) (take i names) (get_or names i x ∷ drop (i + 1) names)

  more_names : map (λ (n : Bor (List ℕ)). n.now) (take (i + 1) names) ≡ map (λ n. n.now) (take i names) ++ (get_or names i x).now ∷ []
  more_names =
      ap (map (λ (n : Bor (List ℕ)). n.now)) (take_more names i x within)
      ∙ map-append (λ (n : Bor (List ℕ)). n.now) (take i names) (get_or names i x ∷ [])

  count_names : length (map (λ (n : Bor (List ℕ)). n.now) (take i names)) ≡ i
  count_names = length-map (take i names) (λ n. n.now) ∙ length-take-le i names (omega (arith, within))

  at_count : (o : Op) → IsAttachmentOf d (0 + length (map (λ (n : Bor (List ℕ)). n.now) (take i names))) (get_or names i x).now (get_or names i x).now o
      → IsAttachmentOf d i (get_or names i x).now (get_or names i x).now o
  at_count o h =
      let e : 0 + length (map (λ (n : Bor (List ℕ)). n.now) (take i names)) ≡ i = (let l = count_names in omega (arith, l)) in
      subst (λ (n : ℕ). IsAttachmentOf d n (get_or names i x).now (get_or names i x).now o) e h

  pub attach_refused : (q : ScenarioReason)
      → ((before : Chain) (o : Op) → IsChain before → AreEntriesOf entries before → IsAttachmentOf d i (get_or names i x).now (get_or names i x).now o
      → IsChangeOrRefusal before o entries' (Some q))
      → (ops : List Op) → AreOpsOf d 0 (map (λ n. n.now) names) ops → IsRefusedFor start ops q
  attach_refused q takes ops are =
      let s = ops_split d 0 (map (λ n. n.now) (take i names)) (map (λ n. n.now) (drop (i + 1) names)) (get_or names i x).now ops
      (subst (λ (xs : List (List ℕ)). AreOpsOf d 0 xs ops) whole_names are) in
      let w = so_far s.front s.before in
      let r = takes w.after s.here w.sound w.kept (at_count s.here s.is) in (
        r.0,
        record { front = s.front; step = s.here; back = s.behind; whole = s.whole; before = w.after; change = w.change; refuses = r.1 },
        r.2,
      )

  pub attach_none : ((o : Op) → IsAttachmentOf d i (get_or names i x).now (get_or names i x).now o → ⊥) → (ops : List Op)
      → AreOpsOf d 0 (map (λ n. n.now) names) ops → ⊥
  attach_none none ops are =
      let s = ops_split d 0 (map (λ n. n.now) (take i names)) (map (λ n. n.now) (drop (i + 1) names)) (get_or names i x).now ops
      (subst (λ (xs : List (List ℕ)). AreOpsOf d 0 xs ops) whole_names are) in
      none s.here (at_count s.here s.is)

  pub attach_more : ((before : Chain) (o : Op) → IsChain before → AreEntriesOf entries before
      → IsAttachmentOf d i (get_or names i x).now (get_or names i x).now o → IsChangeOrRefusal before o entries' None)
      → (ops : List Op) → AreOpsOf d 0 (map (λ n. n.now) (take (i + 1) names)) ops → IsWalkedTo start ops entries'
  attach_more takes ops are =
      let s = ops_split d 0 (map (λ n. n.now) (take i names)) [] (get_or names i x).now ops
      (subst (λ (xs : List (List ℕ)). AreOpsOf d 0 xs ops) more_names are) in
      let w = so_far s.front s.before in
      let r = takes w.after s.here w.sound w.kept (at_count s.here s.is) in
      let whole : ops ≡ s.front ++ s.here ∷ [] = s.whole ∙ ap (λ (os : List Op). s.front ++ s.here ∷ os)
      (none_behind (0 + length (map (λ (n : Bor (List ℕ)). n.now) (take i names)) + 1) s.behind s.after) in
      record {
        after = r.0;
        change = subst (λ (os : List Op). IsChangedBy start os r.0) (sym whole) (changing_push start w.after r.0 s.front s.here w.change r.1);
        kept = r.2;
        sound = laws.stays w.after r.0 s.here w.sound r.1;
      }
    where
      none_behind : (at : ℕ) (os : List Op) → AreOpsOf d at [] os → os ≡ []
      none_behind at [] h = refl
      none_behind at (o ∷ os) h = absurd h

pub begun : (d : Declared) (entries : List ChainEntry) → AreEntriesOf entries empty_chain → IsChain empty_chain → (ops : List Op) → AreOpsOf d 0 [] ops
    → IsWalkedTo empty_chain ops entries
begun d entries kept sound [] h = record { after = empty_chain; change = refl; kept = kept; sound = sound }
begun d entries kept sound (o ∷ ops) h = absurd h

-- ---- attachments, from what was found

pub attaches_changed : (d : Declared) (i : ℕ) (name : List ℕ) (o : Op) (named : NamedPolicy) (before : Chain) (entries : List ChainEntry)
    (r : Option ScenarioReason) → IsAttachmentOf d i name name o → Some named ≡ named_in d name
    → ((label : List ℕ) → IsChangeOrRefusal before (op.Attach i name label named.policy) entries r) → IsChangeOrRefusal before o entries r
attaches_changed d i name o named before entries r a found changed =
    let same : named ≡ a.p = same_Some named a.p (found ∙ a.found) in
    subst (λ (x : Op). IsChangeOrRefusal before x entries r) (sym (a.is ∙ ap (λ (q : NamedPolicy). op.Attach i name a.p.name q.policy) (sym same)))
    (changed a.p.name)

pub nothing_attaches : (d : Declared) (i : ℕ) (name : List ℕ) (o : Op) → None ≡ named_in d name → IsAttachmentOf d i name name o → ⊥
nothing_attaches d i name o none a = absurd (let e : None ≡ Some a.p = none ∙ a.found in cc)

pub small_in : (n : ℕ) → n < 2 ^ 64 → Small n ≡ in_64_bits n
small_in n h = ap (λ (b : Bool). if b then Small n else Large) (sym (lt-ltb n (2 ^ 64) h))

-- ---- steps as a plan has them

pub plan_more : (d : Declared) (told : List StepText) (i : ℕ) (x : StepText) → i < length told → (steps steps' : List OperatorStep) (s : OperatorStep)
    → Each (IsStepOf d) (take i told) steps → steps' ≡ steps ++ s ∷ [] → s.count ≡ count_in (get_or told i x)
    → IsLineOf d (get_or told i x) s.line → Each (IsStepOf d) (take (i + 1) told) steps'
plan_more d told i x within steps steps' s so_far is count line =
    subst (λ (xs : List StepText). Each (IsStepOf d) xs steps') (sym (take_more told i x within))
    (subst (λ (ss : List OperatorStep). Each (IsStepOf d) (take i told ++ get_or told i x ∷ []) ss) (sym is)
    (each_push (IsStepOf d) (take i told) steps (get_or told i x) s so_far (record { count = count; line = line })))

pub empty_sound : IsChain empty_chain
empty_sound = record { few = omega arith; names = tt; attachments = tt; numbered = All-nil _ }
