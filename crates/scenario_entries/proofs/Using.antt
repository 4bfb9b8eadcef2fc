-- Policies that are marked and read again are the named ones, as an application's own schema has them.
use Rattle.std.proofs.Common.{◌≡◌, ℕ, ◌+◌, Bool, List, [], length, Contains, Some, Result, Ok, Err, refl, sym, ap, ◌∙◌, subst}
use Rattle.std.specs.Prelude.{IfOk, MatchResult, codes, position}
use Rattle.std.specs.Str.{bytes_eq}
use Rattle.std.proofs.lemmas.Option.{same_Some}
use Rattle.mrpc_table.specs.Valid.{AreDistinct}
use Rattle.mrpc_table.specs.declared.memory.Memory.{Memory}
use Rattle.mrpc_table.specs.declared.table.Table.{Table}
use Rattle.policy_declarations.specs.Declarations.{Declared, policy_names, policy_index}
use Rattle.policy_declarations.specs.declared.declaration.NamedPolicy.{NamedPolicy}
use Rattle.run_plan.specs.declared.application.OwnPolicy.{OwnPolicy}
use Rattle.toml.specs.Data.{Members}
use Rattle.scenario_lines.specs.Programs.{Each}
use Rattle.scenario_toml.specs.Values.{text_at}
use Rattle.scenario.specs.Applications.{HasTable, policy_tables, tenant_tables}
use Rattle.scenario.specs.Keys.{entry_kind}
use Rattle.scenario.specs.Policies.{HasFaultyLine, IsPolicyFault, IsPolicyMeaning, is_known, entry_name, entry_names}
use Rattle.scenario.specs.Reasons.{IsFirstScenarioReason}
use Rattle.scenario.specs.Scenarios.{policy_entry_index}
use Rattle.scenario.specs.declared.fault.ScenarioReason.{ScenarioReason}
use Rattle.scenario.specs.declared.fault.ScenarioReason.TheVariants.{Known}
use Rattle.scenario_entries.specs.Entries.{AreFaultFree}
use Rattle.scenario_entries.specs.Marking.{AreMarked, AreReadAgain, IsMarkedRead, HasMarkedFault}
use Rattle.scenario_entries.specs.Owning.{AreOwn, HasNamedFault}
use Rattle.scenario_entries.proofs.Declaring.{policies_named}
use Rattle.scenario_entries.proofs.Distinct.{distinct_from, distinct_same, get_there, some_from, there_map}
use Rattle.scenario_entries.proofs.PolicyLists.{position_map}
use Rattle.scenario_entries.proofs.PolicyNaming as naming

pub place_same : (d : Declared) (entries : List Members) (name : List ℕ) → policy_names d ≡ entry_names entries
    → policy_index d name ≡ position (λ ms. bytes_eq (entry_name ms) name) entries
place_same d entries name same =
    position_map (λ (p : NamedPolicy). p.name) (λ (n : List ℕ). bytes_eq n name) d.policies
    ∙ ap (position (λ (n : List ℕ). bytes_eq n name)) same
    ∙ sym (position_map entry_name (λ (n : List ℕ). bytes_eq n name) entries)

pub policies_distinct : (T : Table) (tenants entries : List Members) → AreFaultFree (IsPolicyFault T tenants) entries → AreDistinct (entry_names entries)
policies_distinct T tenants entries free = distinct_from entry_name [] entries
    (λ before ms back e there. free before ms (length before + 1) Known (record { back = back; whole = e; is_number = refl }) (is_known there refl))

module _ (all app : Members) (text : List ℕ) (own shared : Table) (d : Declared) (names : List (List ℕ)) (marks : List Bool)
    (schema : text_at (codes "schema") app ≡ Some text) (has : HasTable text own) (one : (T : Table) → HasTable text T → T ≡ own)
    (free : AreFaultFree (IsPolicyFault shared (tenant_tables all)) (policy_tables all))
    (says : Each (IsPolicyMeaning shared (tenant_tables all)) (policy_tables all) d.policies) (marked : AreMarked d names marks) where
  place : (name : List ℕ) → policy_index d name ≡ policy_entry_index all name
  place name = place_same d (policy_tables all) name (policies_named shared (tenant_tables all) (policy_tables all) d says)

  fails_from : (q : ScenarioReason) → HasMarkedFault (policy_tables all) own marks q → HasNamedFault all app (Contains names) q
  fails_from q h =
      let named = marked.named h.place h.marked in
      let at = naming.place_is entry_name named.0 (policy_tables all) h.place (sym (place named.0) ∙ named.2) in
      let is = same_Some at.item h.entry (sym at.at ∙ h.there) in (
        h.why,
        record {
          text = text;
          own = schema;
          table = own;
          of_text = has;
          policy = h.entry;
          there = get_there (policy_tables all) h.place h.entry h.there;
          named = subst (λ (n : List ℕ). Contains names n) (sym at.same ∙ ap entry_name is) named.1;
          fails = h.fails;
        },
        h.is,
      )

  fails_to : (q : ScenarioReason) → HasNamedFault all app (Contains names) q → HasMarkedFault (policy_tables all) own marks q
  fails_to q h =
      let f = h.1 in
      let same_text = same_Some f.text text (sym f.own ∙ schema) in
      let same_table = one f.table (subst (λ (t : List ℕ). HasTable t f.table) same_text f.of_text) in
      let name = entry_name f.policy in
      let found = naming.found entry_name name (policy_tables all) (there_map entry_name (policy_tables all) f.policy f.there) in
      let p = some_from (policy_entry_index all name) found in
      let at = naming.place_is entry_name name (policy_tables all) p.0 p.1 in
      let is = distinct_same entry_name (policy_tables all) at.item f.policy (policies_distinct shared (tenant_tables all) (policy_tables all) free)
      (get_there (policy_tables all) p.0 at.item at.at) f.there at.same in
      record {
        place = p.0;
        marked = marked.marked p.0 (name, f.named, place name ∙ p.1);
        entry = f.policy;
        there = at.at ∙ ap (λ (m : Members). Some m) is;
        why = h.0;
        fails = subst (λ (T : Table). HasFaultyLine (entry_kind f.policy) T f.policy h.0) same_table f.fails;
        is = h.2;
      }

  own_from : (policies : List OwnPolicy) → AreReadAgain (policy_tables all) (tenant_tables all) own marks policies → AreOwn all own names policies
  own_from policies h = record {
    used = λ at. (
      λ there. (let n = marked.named at ((h.marked at).0 there) in (n.0, n.1, sym (place n.0) ∙ n.2)),
      λ n. (h.marked at).1 (marked.marked at (n.0, n.1, place n.0 ∙ n.2)),
    );
    ascend = h.ascend;
    policies = λ k p within. (let r = h.read k p within in record { entry = r.0; there = r.1; policy = r.2 });
  }

  own_read : (r : Result (List OwnPolicy) ScenarioReason) → IsMarkedRead (policy_tables all) (tenant_tables all) own marks r
      → MatchResult r (λ policies. AreOwn all own names policies × ((q : ScenarioReason) → HasNamedFault all app (Contains names) q → ⊥))
      (IsFirstScenarioReason (HasNamedFault all app (Contains names)))
  own_read (Ok policies) h = (own_from policies h.0, λ q f. h.1 q (fails_to q f))
  own_read (Err q) h = record { stands = fails_from q h.stands; first = λ other f. h.first other (fails_to other f) }

  pub own_ok : (r : Result (Result (List OwnPolicy) ScenarioReason) Memory) → IfOk r (IsMarkedRead (policy_tables all) (tenant_tables all) own marks)
      → IfOk r (λ x. MatchResult x
      (λ policies. AreOwn all own names policies × ((q : ScenarioReason) → HasNamedFault all app (Contains names) q → ⊥))
      (IsFirstScenarioReason (HasNamedFault all app (Contains names))))
  own_ok (Ok x) h = own_read x h
  own_ok (Err m) h = tt
