-- Connections of applications without faults are distinct, and links pair them.
use Rattle.std.proofs.Common.{◌≡◌, ◌⊎◌, ℕ, ◌+◌, List, [], ◌∷◌, ◌++◌, length, Contains, Option, Some, refl, sym, ap, ◌∙◌, subst, inl, inr, append_assoc}
use Rattle.std.proofs.lemmas.Bool.{cases_eq}
use Rattle.std.proofs.lemmas.List.Elements.{Contains-append_right}
use Rattle.mrpc_table.specs.Valid.{AreDistinct}
use Rattle.run_plan.specs.Links.{ArePaired, HasClient, IsClient, connections_of}
use Rattle.run_plan.specs.Links as ports
use Rattle.run_plan.specs.declared.application.Application.{Application}
use Rattle.run_plan.specs.declared.application.Role.{Role}
use Rattle.run_plan.specs.declared.application.Role.TheVariants as plan_role
use Rattle.run_plan.specs.declared.plan.LinkPlan.{LinkPlan}
use Rattle.run_plan.specs.declared.plan.Plan.{Plan}
use Rattle.toml.specs.Data.{Members}
use Rattle.scenario_lines.specs.Programs.{Each}
use Rattle.scenario_toml.specs.Values.{number_or_default}
use Rattle.scenario.specs.Applications.{IsAppFault, IsClientOn, IsLinkFault, all_entry_ends, app_tables, entry_conn, entry_conns, entry_ends, link_tables}
use Rattle.scenario.specs.Applications as against
use Rattle.scenario.specs.Keys.{end_a, end_b, entry_role}
use Rattle.scenario.specs.Scenarios.{IsAppMeaning, IsLinkMeaning, IsRoleMeaning, IsPlanOfScenario, IsEntryAt}
use Rattle.scenario.specs.declared.fault.ScenarioReason.TheVariants.{Known, Unknown}
use Rattle.scenario.specs.declared.fault.ScenarioReason.TheVariants.{Pair as NoPair}
use Rattle.scenario.specs.declared.entry_words.RoleWord.{RoleWord}
use Rattle.scenario.specs.declared.entry_words.RoleWord.TheVariants as role
use Rattle.scenario_laws.proofs.Free.{apps_free, links_free}
use Rattle.scenario_laws.proofs.Lists.{all_by, distinct_from, each_left, each_map, each_right, free_of, none_in, there_cases, there_first, there_more, there_unless, there_unmap}

-- ---- ends of links

end_cases : (ms : Members) (n : ℕ) → Contains (entry_ends ms) n → (number_or_default end_a ms ≡ n) ⊎ (number_or_default end_b ms ≡ n)
end_cases ms n h = elim (there_cases (number_or_default end_a ms) (number_or_default end_b ms ∷ []) n h) [
  | inl first ↦ inl first
  | inr other ↦ elim (there_cases (number_or_default end_b ms) [] n other) [
    | inl second ↦ inr second
    | inr none ↦ absurd (none_in n none)
  ]
]

first_end : (ms : Members) → Contains (entry_ends ms) (number_or_default end_a ms)
first_end ms = there_first (number_or_default end_a ms) (number_or_default end_b ms ∷ [])

second_end : (ms : Members) → Contains (entry_ends ms) (number_or_default end_b ms)
second_end ms = there_more (number_or_default end_a ms) (number_or_default end_b ms ∷ []) (number_or_default end_b ms) (there_first (number_or_default end_b ms) [])

-- an end of one of some links, with the link and those before it
record EndSplit (xs : List Members) (n : ℕ) : Type 0 where
  before : List Members
  ms : Members
  back : List Members
  whole : xs ≡ before ++ ms ∷ back
  end : Contains (entry_ends ms) n

end_more : (m : Members) (xs : List Members) (n : ℕ) → EndSplit xs n → EndSplit (m ∷ xs) n
end_more m xs n s =
    record { before = m ∷ s.before; ms = s.ms; back = s.back; whole = ap (λ (zs : List Members). m ∷ zs) s.whole; end = s.end }

end_split : (xs : List Members) (n : ℕ) → Contains (all_entry_ends xs) n → EndSplit xs n
end_split [] n h = absurd (none_in n h)
end_split (m ∷ xs) n h = elim (there_cases (number_or_default end_a m) (number_or_default end_b m ∷ all_entry_ends xs) n h) [
  | inl first ↦
      record { before = []; ms = m; back = xs; whole = refl; end = subst (λ (x : ℕ). Contains (entry_ends m) x) first (first_end m) }
  | inr other ↦ elim (there_cases (number_or_default end_b m) (all_entry_ends xs) n other) [
    | inl second ↦
        record { before = []; ms = m; back = xs; whole = refl; end = subst (λ (x : ℕ). Contains (entry_ends m) x) second (second_end m) }
    | inr more ↦ end_more m xs n (end_split xs n more)
  ]
]

end_there : (xs : List Members) (ms : Members) (n : ℕ) → Contains xs ms → Contains (entry_ends ms) n → Contains (all_entry_ends xs) n
end_there [] ms n h end = absurd (none_in ms h)
end_there (m ∷ xs) ms n h end = elim (there_cases m xs ms h) [
  | inl same ↦ elim (end_cases m n (subst (λ (x : Members). Contains (entry_ends x) n) (sym same) end)) [
    | inl first ↦ subst (λ (x : ℕ). Contains (all_entry_ends (m ∷ xs)) x) first (there_first (number_or_default end_a m) (number_or_default end_b m ∷ all_entry_ends xs))
    | inr second ↦
        subst (λ (x : ℕ). Contains (all_entry_ends (m ∷ xs)) x) second
        (there_more (number_or_default end_a m) (number_or_default end_b m ∷ all_entry_ends xs) (number_or_default end_b m) (there_first (number_or_default end_b m) (all_entry_ends xs)))
  ]
  | inr more ↦
      there_more (number_or_default end_a m) (number_or_default end_b m ∷ all_entry_ends xs) n
      (there_more (number_or_default end_b m) (all_entry_ends xs) n (end_there xs ms n more end))
]

ends_same : (tables : List Members) (links : List LinkPlan) → Each IsLinkMeaning tables links → all_entry_ends tables ≡ ports.all_ends links
ends_same [] [] e = refl
ends_same [] (l ∷ links) e = absurd e
ends_same (m ∷ tables) [] e = absurd e
ends_same (m ∷ tables) (l ∷ links) e =
    ap (λ (n : ℕ). n ∷ number_or_default end_b m ∷ all_entry_ends tables) (sym e.0.a)
    ∙ ap (λ (n : ℕ). l.a ∷ n ∷ all_entry_ends tables) (sym e.0.b)
    ∙ ap (λ (ns : List ℕ). l.a ∷ l.b ∷ ns) (ends_same tables links e.1)

-- if each link has two ends, of which none is one of an earlier link, all ends are distinct
ends_distinct : (front xs : List Members) → ((before : List Members) (ms : Members) (back : List Members) → front ++ xs ≡ before ++ ms ∷ back
    → (number_or_default end_a ms ≡ number_or_default end_b ms → ⊥) × ((n : ℕ) → Contains (entry_ends ms) n → Contains (all_entry_ends before) n → ⊥))
    → AreDistinct (all_entry_ends xs)
ends_distinct front [] apart = tt
ends_distinct front (m ∷ xs) apart =
    let here = apart front m xs refl in
    let not_later : (n : ℕ) → Contains (entry_ends m) n → Contains (all_entry_ends xs) n → ⊥ =
    λ n end there.
    let s = end_split xs n there in
    (apart (front ++ m ∷ s.before) s.ms s.back
    (ap (λ (zs : List Members). front ++ m ∷ zs) s.whole ∙ sym (append_assoc front (m ∷ s.before) (s.ms ∷ s.back)))).1 n s.end
    (end_there (front ++ m ∷ s.before) m n (Contains-append_right front (m ∷ s.before) m (there_first m s.before)) end)
    in (
      λ there. elim (there_cases (number_or_default end_b m) (all_entry_ends xs) (number_or_default end_a m) there) [
        | inl same ↦ here.0 (sym same)
        | inr more ↦ not_later (number_or_default end_a m) (first_end m) more
      ],
      (
        λ there. not_later (number_or_default end_b m) (second_end m) there,
        ends_distinct (front ++ m ∷ []) xs (λ before ms back e. apart before ms back (sym (append_assoc front (m ∷ []) xs) ∙ e)),
      ),
    )

-- ---- clients

is_client_word : (r : Option RoleWord) → (r ≡ Some role.Client) ⊎ (r ≡ Some role.Client → ⊥)
is_client_word (Some role.Client) = inl refl
is_client_word (Some role.Server) = inr (λ e. cc)
is_client_word (Some role.Echo) = inr (λ e. cc)
is_client_word _ = inr (λ e. cc)

decide_client : (apps : List Members) (n : ℕ) → IsClientOn apps n ⊎ (IsClientOn apps n → ⊥)
decide_client [] n = inr (λ h. none_in h.app h.there)
decide_client (m ∷ apps) n = elim (decide_client apps n) [
  | inl h ↦ inl (record { app = h.app; there = there_more m apps h.app h.there; on = h.on; client = h.client })
  | inr none ↦ elim (cases_eq (entry_conn m) n) [
    | inr other ↦ inr (λ h. elim (there_cases m apps h.app h.there) [
      | inl same ↦ other (ap entry_conn same ∙ h.on)
      | inr more ↦ none (record { app = h.app; there = more; on = h.on; client = h.client })
    ])
    | inl on ↦ elim (is_client_word (entry_role m)) [
      | inl client ↦ inl (record { app = m; there = there_first m apps; on = on; client = client })
      | inr isnt ↦ inr (λ h. elim (there_cases m apps h.app h.there) [
        | inl same ↦ isnt (ap entry_role same ∙ h.client)
        | inr more ↦ none (record { app = h.app; there = more; on = h.on; client = h.client })
      ])
    ]
  ]
]

client_role : (ms : Members) (r : Role) → IsRoleMeaning ms r → entry_role ms ≡ Some role.Client → IsClient r
client_role ms (plan_role.Client program) says e = tt
client_role ms (plan_role.Server program) says e = absurd (let no : Some role.Server ≡ Some role.Client = sym says.0 ∙ e in cc)
client_role ms plan_role.Echo says e = absurd (let no : Some role.Echo ≡ Some role.Client = sym says ∙ e in cc)

module _ (all : Members) (plan : Plan) (says : IsPlanOfScenario all plan) where
  conns_same : entry_conns (app_tables all) ≡ connections_of plan.applications
  conns_same = each_map (IsAppMeaning all) entry_conn (λ (app : Application). app.conn) (λ x y r. sym r.conn) (app_tables all) plan.applications says.applications

  ends_are : all_entry_ends (link_tables all) ≡ ports.all_ends plan.links
  ends_are = ends_same (link_tables all) plan.links says.links

  pub conns_are_distinct : AreDistinct (connections_of plan.applications)
  conns_are_distinct = subst (λ (ns : List ℕ). AreDistinct ns) conns_same
      (distinct_from entry_conn [] (app_tables all) (λ before ms back e there.
      apps_free all plan says before ms (length before + 1) Known (record { back = back; whole = e; is_number = refl }) (against.is_known there refl)))

  -- a connection that an entry must have exists
  pub on_application : (n : ℕ) → ((Contains (entry_conns (app_tables all)) n → ⊥) → ⊥) → Contains (connections_of plan.applications) n
  on_application n h = subst (λ (ns : List ℕ). Contains ns n) conns_same (there_unless (entry_conns (app_tables all)) n h)

  apart : (before : List Members) (ms : Members) (back : List Members) → link_tables all ≡ before ++ ms ∷ back
      → (number_or_default end_a ms ≡ number_or_default end_b ms → ⊥) × ((n : ℕ) → Contains (entry_ends ms) n → Contains (all_entry_ends before) n → ⊥)
  apart before ms back e =
      let at : IsEntryAt (link_tables all) before ms (length before + 1) = record { back = back; whole = e; is_number = refl } in (
        λ same. links_free all plan says before ms (length before + 1) NoPair at (against.to_itself same refl),
        λ n end there. links_free all plan says before ms (length before + 1) NoPair at (against.is_linked n end there refl),
      )

  known : (n : ℕ) → Contains (ports.all_ends plan.links) n → Contains (connections_of plan.applications) n
  known n there =
      let s = end_split (link_tables all) n (subst (λ (ns : List ℕ). Contains ns n) (sym ends_are) there) in
      on_application n (λ none. links_free all plan says s.before s.ms (length s.before + 1) Unknown
      (record { back = s.back; whole = s.whole; is_number = refl }) (against.no_app n s.end none refl))

  linked : (n : ℕ) → Contains (connections_of plan.applications) n → Contains (ports.all_ends plan.links) n
  linked n there =
      let app = there_unmap entry_conn (app_tables all) n (subst (λ (ns : List ℕ). Contains ns n) (sym conns_same) there) in
      let free = free_of (IsAppFault all plan.declared.policies) (app_tables all) (apps_free all plan says) app.0 app.1 in
      subst (λ (ns : List ℕ). Contains ns n) ends_are
      (subst (λ (m : ℕ). Contains (all_entry_ends (link_tables all)) m) app.2
      (there_unless (all_entry_ends (link_tables all)) (entry_conn app.0) (λ none. free.1 NoPair (against.is_alone none refl))))

  has_client : (n : ℕ) → IsClientOn (app_tables all) n → HasClient plan.applications n
  has_client n h =
      let app = each_left (IsAppMeaning all) (app_tables all) plan.applications h.app says.applications h.there in
      record { app = app.0; there = app.1; on = app.2.conn ∙ h.on; client = client_role h.app app.0.role app.2.role h.client }

  client_of : (link : LinkPlan) → Contains plan.links link → HasClient plan.applications link.a ⊎ HasClient plan.applications link.b
  client_of link there =
      let entry = each_right IsLinkMeaning (link_tables all) plan.links link says.links there in
      let free = free_of (IsLinkFault all) (link_tables all) (links_free all plan says) entry.0 entry.1 in
      let a = number_or_default end_a entry.0 in
      let b = number_or_default end_b entry.0 in
      elim (decide_client (app_tables all) a) [
        | inl h ↦ inl (subst (HasClient plan.applications) (sym entry.2.a) (has_client a h))
        | inr none_a ↦ elim (decide_client (app_tables all) b) [
          | inl h ↦ inr (subst (HasClient plan.applications) (sym entry.2.b) (has_client b h))
          | inr none_b ↦ absurd (free.1 NoPair (against.no_client (λ n end client. elim (end_cases entry.0 n end) [
            | inl first ↦ none_a (subst (IsClientOn (app_tables all)) (sym first) client)
            | inr second ↦ none_b (subst (IsClientOn (app_tables all)) (sym second) client)
          ]) refl))
        ]
      ]

  pub are_paired : ArePaired plan.applications plan.links
  are_paired = record {
    distinct = subst (λ (ns : List ℕ). AreDistinct ns) ends_are (ends_distinct [] (link_tables all) apart);
    known = all_by (λ (n : ℕ). Contains (connections_of plan.applications) n) (ports.all_ends plan.links) known;
    each = all_by (λ (n : ℕ). Contains (ports.all_ends plan.links) n) (connections_of plan.applications) linked;
    clients = all_by (λ (link : LinkPlan). HasClient plan.applications link.a ⊎ HasClient plan.applications link.b) plan.links client_of;
  }
