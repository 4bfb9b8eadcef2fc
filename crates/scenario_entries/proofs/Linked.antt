-- The first reason of faults in a link is what the tests of the code return.
use Rattle.std.proofs.Common.{◌≡◌, ◌⊎◌, ℕ, ◌==◌, ◌≤◌, not, true, false, ◌&&◌, ◌||◌, List, [], ◌∷◌, map, Contains}
use Rattle.std.proofs.Common.{Some, refl, sym, ap, ◌∙◌, subst, inl, inr, arith}
use Rattle.std.specs.Bool.{Decides}
use Rattle.std.specs.List.{list_all, list_any}
use Rattle.std.proofs.lemmas.Bool.{and_cases, and_from, and_parts, both_ways, eq-eqb, eqb-true, false_from_ne_true, not-true, not_from_false, or_cases, or_left, or_parts, or_right}
use Rattle.std.proofs.lemmas.Option.{same_Some}
use Rattle.run_plan.specs.declared.plan.LinkPlan.{LinkPlan}
use Rattle.toml.specs.Data.{Members}
use Rattle.scenario_lines.specs.Programs.{Each}
use Rattle.scenario_toml.specs.Values.{has_keys, is_within_at, number_or_default}
use Rattle.scenario.specs.Applications.{IsClientOn, IsLinkFault, all_entry_ends, app_tables, entry_conn, entry_conns, entry_ends}
use Rattle.scenario.specs.Applications as against
use Rattle.scenario.specs.Keys.{end_a, end_b, link_keys, link_ranges, entry_role}
use Rattle.scenario_entries.specs.AppConnections.{IsAppConnectionOf, has_client, has_app_connection, is_client, is_linked, first_link_reason}
use Rattle.scenario.specs.Reasons.{IsFirstScenarioReason, IsSoFar, scenario_reason_rank, reason_if}
use Rattle.scenario.specs.Scenarios.{IsLinkMeaning}
use Rattle.scenario.specs.declared.fault.ScenarioReason.{ScenarioReason}
use Rattle.scenario.specs.declared.fault.ScenarioReason.TheVariants.{Key, Number, Unknown}
use Rattle.scenario.specs.declared.fault.ScenarioReason.TheVariants.{Pair as NoPair}
use Rattle.scenario.specs.declared.entry_words.RoleWord.{RoleWord}
use Rattle.scenario.specs.declared.entry_words.RoleWord.TheVariants as role
use Rattle.scenario_entries.specs.declared.link.AppConnection.{AppConnection}
use Rattle.scenario_entries.proofs.Ranges.{all_within, one_out}
use Rattle.scenario_entries.proofs.FirstReason.{Either, Flag, alone_first, at_least, flag, joined, same_reasons}
use Rattle.scenario_entries.proofs.Lists.{each_map, none_in, there_cases, there_first, there_more}

-- ---- numbers in lists

any_equal : {X : Type 0} (f : X → ℕ) (n : ℕ) (xs : List X) → Decides (list_any (λ x. f x == n) xs) (Contains (map f xs) n)
any_equal f n [] = (λ e. absurd cc, λ h. absurd (none_in n h))
any_equal f n (x ∷ xs) = (
  λ e. elim (or_cases (f x == n) (list_any (λ x. f x == n) xs) e) [
    | inl is ↦ subst (λ (m : ℕ). Contains (f x ∷ map f xs) m) (eqb-true (f x) n is) (there_first (f x) (map f xs))
    | inr more ↦ there_more (f x) (map f xs) n ((any_equal f n xs).0 more)
  ],
  λ h. elim (there_cases (f x) (map f xs) n h) [
    | inl is ↦ or_left (f x == n) _ (eq-eqb (f x) n is)
    | inr more ↦ or_right (f x == n) _ ((any_equal f n xs).1 more)
  ],
)

port_there : (apps : List Members) (ports : List AppConnection) (n : ℕ) → Each IsAppConnectionOf apps ports → Decides (has_app_connection ports n) (Contains (entry_conns apps) n)
port_there apps ports n says =
    let same = each_map IsAppConnectionOf entry_conn (λ (p : AppConnection). p.conn) (λ x y r. sym r.conn) apps ports says in
    let d = any_equal (λ (p : AppConnection). p.conn) n ports in (
      λ e. subst (λ (ns : List ℕ). Contains ns n) (sym same) (d.0 e),
      λ h. d.1 (subst (λ (ns : List ℕ). Contains ns n) same h),
    )

client_word : (r : RoleWord) → is_client r ≡ true → r ≡ role.Client
client_word role.Client e = refl
client_word role.Server e = absurd cc
client_word role.Echo e = absurd cc

client_there : (apps : List Members) (ports : List AppConnection) (n : ℕ) → Each IsAppConnectionOf apps ports → Decides (has_client ports n) (IsClientOn apps n)
client_there [] [] n says = (λ e. absurd cc, λ h. absurd (none_in h.app h.there))
client_there [] (p ∷ ports) n says = absurd says
client_there (ms ∷ apps) [] n says = absurd says
client_there (ms ∷ apps) (p ∷ ports) n says =
    let d = client_there apps ports n says.1 in
    let here = (p.conn == n) && is_client p.role in (
      λ e. elim (or_cases here (has_client ports n) e) [
        | inl is ↦
            let both = and_parts (p.conn == n) (is_client p.role) is in
            record {
              app = ms;
              there = there_first ms apps;
              on = sym says.0.conn ∙ eqb-true p.conn n both.0;
              client = says.0.role ∙ ap (λ (r : RoleWord). Some r) (client_word p.role both.1);
            }
        | inr more ↦ (let h = d.0 more in record { app = h.app; there = there_more ms apps h.app h.there; on = h.on; client = h.client })
      ],
      λ h. elim (there_cases ms apps h.app h.there) [
        | inl is ↦
            let conn : p.conn ≡ n = says.0.conn ∙ ap entry_conn is ∙ h.on in
            let word : p.role ≡ role.Client = same_Some _ _ (sym says.0.role ∙ ap entry_role is ∙ h.client) in
            or_left here (has_client ports n) (and_from (p.conn == n) (is_client p.role) (eq-eqb p.conn n conn) (ap is_client word))
        | inr more ↦ or_right here (has_client ports n) (d.1 (record { app = h.app; there = more; on = h.on; client = h.client }))
      ],
    )

linked_there : (tables : List Members) (links : List LinkPlan) (n : ℕ) → Each IsLinkMeaning tables links → Decides (is_linked links n) (Contains (all_entry_ends tables) n)
linked_there [] [] n says = (λ e. absurd cc, λ h. absurd (none_in n h))
linked_there [] (l ∷ links) n says = absurd says
linked_there (ms ∷ tables) [] n says = absurd says
linked_there (ms ∷ tables) (l ∷ links) n says =
    let d = linked_there tables links n says.1 in
    let a = number_or_default end_a ms in
    let b = number_or_default end_b ms in
    let rest = all_entry_ends tables in
    let here = (l.a == n) || (l.b == n) in (
      λ e. elim (or_cases here (is_linked links n) e) [
        | inl is ↦ elim (or_cases (l.a == n) (l.b == n) is) [
          | inl first ↦ subst (λ (m : ℕ). Contains (a ∷ b ∷ rest) m) (sym says.0.a ∙ eqb-true l.a n first) (there_first a (b ∷ rest))
          | inr second ↦ subst (λ (m : ℕ). Contains (a ∷ b ∷ rest) m) (sym says.0.b ∙ eqb-true l.b n second) (there_more a (b ∷ rest) b (there_first b rest))
        ]
        | inr more ↦ there_more a (b ∷ rest) n (there_more b rest n (d.0 more))
      ],
      λ h. elim (there_cases a (b ∷ rest) n h) [
        | inl first ↦ or_left here (is_linked links n) (or_left (l.a == n) (l.b == n) (eq-eqb l.a n (says.0.a ∙ first)))
        | inr other ↦ elim (there_cases b rest n other) [
          | inl second ↦ or_left here (is_linked links n) (or_right (l.a == n) (l.b == n) (eq-eqb l.b n (says.0.b ∙ second)))
          | inr more ↦ or_right here (is_linked links n) (d.1 more)
        ]
      ],
    )

-- ---- links

-- one of the ends
end_cases : (ms : Members) (n : ℕ) → Contains (entry_ends ms) n → (number_or_default end_a ms ≡ n) ⊎ (number_or_default end_b ms ≡ n)
end_cases ms n h = elim (there_cases (number_or_default end_a ms) (number_or_default end_b ms ∷ []) n h) [
  | inl first ↦ inl first
  | inr other ↦ elim (there_cases (number_or_default end_b ms) [] n other) [
    | inl second ↦ inr second
    | inr none ↦ absurd (none_in n none)
  ]
]

first_end : (ms : Members) → Contains (entry_ends ms) (number_or_default end_a ms)
first_end ms = there_first (number_or_default end_a ms) (number_or_default end_b ms ∷ [])

second_end : (ms : Members) → Contains (entry_ends ms) (number_or_default end_b ms)
second_end ms = there_more (number_or_default end_a ms) (number_or_default end_b ms ∷ []) (number_or_default end_b ms) (there_first (number_or_default end_b ms) [])

module _ (all : Members) (before : List Members) (ms : Members) where
  key_late : (q : ScenarioReason) → IsLinkFault all before ms q → 1 ≤ scenario_reason_rank q
  key_late q (against.wrong_keys h is) = at_least q Key 1 is (omega arith)
  key_late q (against.out_of_range r there h is) = at_least q Number 1 is (omega arith)
  key_late q (against.no_app n there h is) = at_least q Unknown 1 is (omega arith)
  key_late q (against.to_itself h is) = at_least q NoPair 1 is (omega arith)
  key_late q (against.is_linked n there h is) = at_least q NoPair 1 is (omega arith)
  key_late q (against.no_client h is) = at_least q NoPair 1 is (omega arith)

  pub link_keys_first : has_keys link_keys ms ≡ false → IsFirstScenarioReason (IsLinkFault all before ms) Key
  link_keys_first wrong = alone_first (IsLinkFault all before ms) Key (against.wrong_keys wrong refl) key_late

  number_late : has_keys link_keys ms ≡ true → (q : ScenarioReason) → IsLinkFault all before ms q → 2 ≤ scenario_reason_rank q
  number_late keys q (against.wrong_keys h is) = absurd (both_ways (has_keys link_keys ms) h keys)
  number_late keys q (against.out_of_range r there h is) = at_least q Number 2 is (omega arith)
  number_late keys q (against.no_app n there h is) = at_least q Unknown 2 is (omega arith)
  number_late keys q (against.to_itself h is) = at_least q NoPair 2 is (omega arith)
  number_late keys q (against.is_linked n there h is) = at_least q NoPair 2 is (omega arith)
  number_late keys q (against.no_client h is) = at_least q NoPair 2 is (omega arith)

  pub link_number_first : has_keys link_keys ms ≡ true → list_all (is_within_at ms) link_ranges ≡ false
      → IsFirstScenarioReason (IsLinkFault all before ms) Number
  link_number_first keys out =
      let r = one_out ms link_ranges out in
      alone_first (IsLinkFault all before ms) Number (against.out_of_range r.0 r.1 r.2 refl) (number_late keys)

  module _ (ports : List AppConnection) (links : List LinkPlan) (on : Each IsAppConnectionOf (app_tables all) ports) (says : Each IsLinkMeaning before links) where
    abbrev NotKnown : Type 0
    NotKnown = (n : ℕ) × Contains (entry_ends ms) n × (Contains (entry_conns (app_tables all)) n → ⊥)

    abbrev NotPaired : Type 0
    NotPaired =
        (number_or_default end_a ms ≡ number_or_default end_b ms)
        ⊎ (((n : ℕ) × Contains (entry_ends ms) n × Contains (all_entry_ends before) n)
        ⊎ ((n : ℕ) → Contains (entry_ends ms) n → IsClientOn (app_tables all) n → ⊥))

    known : Decides (not (has_app_connection ports (number_or_default end_a ms) && has_app_connection ports (number_or_default end_b ms))) NotKnown
    known =
        let x = number_or_default end_a ms in
        let y = number_or_default end_b ms in
        let dx = port_there (app_tables all) ports x on in
        let dy = port_there (app_tables all) ports y on in (
          λ e. elim (and_cases (has_app_connection ports x) (has_app_connection ports y) (not-true _ e)) [
            | inl none ↦ (x, first_end ms, λ h. both_ways (has_app_connection ports x) none (dx.1 h))
            | inr none ↦ (y, second_end ms, λ h. both_ways (has_app_connection ports y) none (dy.1 h))
          ],
          λ h. not_from_false _ (false_from_ne_true _ (λ e.
              let both = and_parts (has_app_connection ports x) (has_app_connection ports y) e in
              elim (end_cases ms h.0 h.1) [
                | inl first ↦ h.2 (subst (λ (m : ℕ). Contains (entry_conns (app_tables all)) m) first (dx.0 both.0))
                | inr second ↦ h.2 (subst (λ (m : ℕ). Contains (entry_conns (app_tables all)) m) second (dy.0 both.1))
              ])),
        )

    clients : Decides (not (has_client ports (number_or_default end_a ms) || has_client ports (number_or_default end_b ms)))
        ((n : ℕ) → Contains (entry_ends ms) n → IsClientOn (app_tables all) n → ⊥)
    clients =
        let x = number_or_default end_a ms in
        let y = number_or_default end_b ms in
        let dx = client_there (app_tables all) ports x on in
        let dy = client_there (app_tables all) ports y on in (
          λ e n there client.
              let none = or_parts (has_client ports x) (has_client ports y) (not-true _ e) in
              elim (end_cases ms n there) [
                | inl first ↦ both_ways (has_client ports x) none.0 (dx.1 (subst (IsClientOn (app_tables all)) (sym first) client))
                | inr second ↦ both_ways (has_client ports y) none.1 (dy.1 (subst (IsClientOn (app_tables all)) (sym second) client))
              ],
          λ none. not_from_false _ (false_from_ne_true _ (λ e. elim (or_cases (has_client ports x) (has_client ports y) e) [
            | inl one ↦ none x (first_end ms) (dx.0 one)
            | inr two ↦ none y (second_end ms) (dy.0 two)
          ])),
        )

    linked : Decides (is_linked links (number_or_default end_a ms) || is_linked links (number_or_default end_b ms))
        ((n : ℕ) × Contains (entry_ends ms) n × Contains (all_entry_ends before) n)
    linked =
        let x = number_or_default end_a ms in
        let y = number_or_default end_b ms in
        let dx = linked_there before links x says in
        let dy = linked_there before links y says in (
          λ e. elim (or_cases (is_linked links x) (is_linked links y) e) [
            | inl one ↦ (x, first_end ms, dx.0 one)
            | inr two ↦ (y, second_end ms, dy.0 two)
          ],
          λ h. elim (end_cases ms h.0 h.1) [
            | inl first ↦ or_left (is_linked links x) _ (dx.1 (subst (λ (m : ℕ). Contains (all_entry_ends before) m) (sym first) h.2))
            | inr second ↦ or_right (is_linked links x) _ (dy.1 (subst (λ (m : ℕ). Contains (all_entry_ends before) m) (sym second) h.2))
          ],
        )

    paired : Decides ((number_or_default end_a ms == number_or_default end_b ms)
        || (is_linked links (number_or_default end_a ms) || is_linked links (number_or_default end_b ms))
        || not (has_client ports (number_or_default end_a ms) || has_client ports (number_or_default end_b ms))) NotPaired
    paired =
        let x = number_or_default end_a ms in
        let y = number_or_default end_b ms in
        let same = x == y in
        let joins = is_linked links x || is_linked links y in
        let none = not (has_client ports x || has_client ports y) in (
          λ e. elim (or_cases (same || joins) none e) [
            | inl one ↦ elim (or_cases same joins one) [
              | inl is ↦ inl (eqb-true x y is)
              | inr is ↦ inr (inl (linked.0 is))
            ]
            | inr is ↦ inr (inr (clients.0 is))
          ],
          λ h. elim h [
            | inl is ↦ or_left (same || joins) none (or_left same joins (eq-eqb x y is))
            | inr (inl is) ↦ or_left (same || joins) none (or_right same joins (linked.1 is))
            | inr (inr is) ↦ or_right (same || joins) none (clients.1 is)
          ],
        )

    abbrev link_parts : ScenarioReason → Type 0
    link_parts = Either (Flag NotKnown Unknown) (Flag NotPaired NoPair)

    module _ (keys : has_keys link_keys ms ≡ true) (within : list_all (is_within_at ms) link_ranges ≡ true) where
      from_link : (q : ScenarioReason) → link_parts q → IsLinkFault all before ms q
      from_link q (inl (unknown, is)) = against.no_app unknown.0 unknown.1 unknown.2 is
      from_link q (inr (inl same, is)) = against.to_itself same is
      from_link q (inr (inr (inl joins), is)) = against.is_linked joins.0 joins.1 joins.2 is
      from_link q (inr (inr (inr none), is)) = against.no_client none is

      to_link : (q : ScenarioReason) → IsLinkFault all before ms q → link_parts q
      to_link q (against.wrong_keys h is) = absurd (both_ways (has_keys link_keys ms) h keys)
      to_link q (against.out_of_range r there h is) = absurd (all_within ms link_ranges within r there h)
      to_link q (against.no_app n there h is) = inl ((n, there, h), is)
      to_link q (against.to_itself h is) = inr (inl h, is)
      to_link q (against.is_linked n there h is) = inr (inr (inl (n, there, h)), is)
      to_link q (against.no_client h is) = inr (inr (inr h), is)

      pub link_is : IsSoFar (IsLinkFault all before ms) (first_link_reason ports links (number_or_default end_a ms) (number_or_default end_b ms))
      link_is =
          let x = number_or_default end_a ms in
          let y = number_or_default end_b ms in
          let missing = not (has_app_connection ports x && has_app_connection ports y) in
          let unpaired = (x == y) || (is_linked links x || is_linked links y) || not (has_client ports x || has_client ports y) in
          same_reasons link_parts (IsLinkFault all before ms) (first_link_reason ports links x y)
          (joined (Flag NotKnown Unknown) (Flag NotPaired NoPair) (reason_if missing Unknown) (reason_if unpaired NoPair)
          (flag NotKnown Unknown missing known) (flag NotPaired NoPair unpaired paired))
          from_link to_link
