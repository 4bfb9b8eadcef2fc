-- The definitions on small scenarios worked out by hand: three policies, and words that name some of them.
use Rattle.std.proofs.Common.{◌≡◌, ℕ, zero, suc, ◌<◌, List, [], ◌∷◌, get_or, Contains, Some, codes, refl, sym, ap, subst, inl, inr, arith, lit<}
use Rattle.std.proofs.lemmas.Option.{same_Some}
use Rattle.mrpc_table.specs.declared.policy_lines.RuleReason.TheVariants as rule
use Rattle.mrpc_table.specs.declared.table.Table.{Table}
use Rattle.policy_redact.specs.Faults.{no_line}
use Rattle.engine_core.specs.declared.policy.Policy.TheVariants as policy
use Rattle.run_plan.specs.declared.application.OwnPolicy.{OwnPolicy}
use Rattle.toml.specs.Data.{string, array, table, no_items, item, Members, no_members, member}
use Rattle.scenario.specs.Applications.{HasTable, policy_tables}
use Rattle.scenario.specs.Scenarios.{IsOwnPolicyMeaning, policy_entry_index}
use Rattle.scenario.specs.declared.fault.ScenarioReason.TheVariants.{Name, Unknown, Word}
use Rattle.scenario_entries.specs.Owning.{AreOwn, HasOneOfNames, HasNamedFault, IsNamesFault, no_name, no_policy}
use Rattle.scenario_entries.proofs.PolicyLists.{none_in, there_cases, there_first}

abbrev count : List ℕ → Members
count name = member (codes "kind") (string (codes "count")) (member (codes "name") (string name) no_members)

-- it has no lines, which is a fault of its first one
abbrev redact : Members
redact =
    member (codes "clears") (array no_items)
    (member (codes "kind") (string (codes "redact")) (member (codes "name") (string (codes "r")) no_members))

abbrev all : Members
all =
    member (codes "policy")
    (array (item (table (count (codes "b"))) (item (table (count (codes "c"))) (item (table redact) no_items)))) no_members

abbrev app : Members
app = member (codes "schema") (string (codes "a")) no_members

-- ---- names

abbrev names : List (List ℕ)
names = codes "c" ∷ codes "x" ∷ []

same_head : (x y : ℕ) (xs ys : List ℕ) → x ∷ xs ≡ y ∷ ys → x ≡ y
same_head x y xs ys e = cc

missing : Contains (codes "b" ∷ codes "c" ∷ codes "r" ∷ []) (codes "x") → ⊥
missing h = elim (there_cases (codes "b") (codes "c" ∷ codes "r" ∷ []) (codes "x") h) [
  | inl is ↦ absurd (let e = same_head 98 120 [] [] is in omega (arith, e))
  | inr more ↦ elim (there_cases (codes "c") (codes "r" ∷ []) (codes "x") more) [
    | inl is ↦ absurd (let e = same_head 99 120 [] [] is in omega (arith, e))
    | inr last ↦ elim (there_cases (codes "r") [] (codes "x") last) [
      | inl is ↦ absurd (let e = same_head 114 120 [] [] is in omega (arith, e))
      | inr none ↦ none_in (codes "x") none
    ]
  ]
]

is_missing : IsNamesFault (policy_tables all) names Unknown
is_missing = no_policy (codes "x") (1, lit< tt, refl) missing refl

is_nameless : IsNamesFault (policy_tables all) (codes "a b" ∷ []) Name
is_nameless = no_name (codes "a b") (0, lit< tt, refl) (λ h. absurd (let e = h.form in cc)) refl

-- ---- policies under an application's own table

abbrev read : List OwnPolicy
read = record { place = 1; policy = policy.Count } ∷ []

abbrev IsPlace : List ℕ → ℕ → Type 0
IsPlace name place = policy_entry_index all name ≡ Some place

-- of the two names one is that of a policy
second : (place : ℕ) → HasOneOfNames all names place → Contains (1 ∷ []) place
second place h = elim (there_cases (codes "c") (codes "x" ∷ []) h.0 h.1) [
  | inl is ↦
      let e : Some 1 ≡ Some place = subst (λ (n : List ℕ). IsPlace n place) (sym is) h.2 in
      subst (λ (n : ℕ). Contains (1 ∷ []) n) (same_Some 1 place e) (there_first 1 [])
  | inr more ↦ elim (there_cases (codes "x") [] h.0 more) [
    | inl is ↦ absurd (let e = subst (λ (n : List ℕ). IsPlace n place) (sym is) h.2 in cc)
    | inr none ↦ absurd (none_in h.0 none)
  ]
]

at_first : (own : Table) (k : ℕ) (p : OwnPolicy) → k < 1 → IsOwnPolicyMeaning all own (get_or read k p)
at_first own zero p within = record { entry = count (codes "c"); there = refl; policy = refl }
at_first own (suc k) p within = absurd (omega (arith, within))

are_own : (own : Table) → AreOwn all own names read
are_own own = record {
  used = λ place. (
    λ there. elim (there_cases 1 [] place there) [
      | inl is ↦ (codes "c", (0, lit< tt, refl), ap (λ (n : ℕ). Some n) is)
      | inr none ↦ absurd (none_in place none)
    ],
    second place,
  );
  ascend = tt;
  policies = at_first own;
}

-- the lines of a named policy fail under each table that the schema has
fails : (own : Table) → HasTable (codes "a") own → HasNamedFault all app (Contains (codes "r" ∷ [])) Word
fails own has = (
  rule.Word,
  record {
    text = codes "a";
    own = refl;
    table = own;
    of_text = has;
    policy = redact;
    there = (2, lit< tt, refl);
    named = (0, lit< tt, refl);
    fails = (
      1,
      record {
        counted = lit< tt;
        here = no_line refl refl refl;
        first_reason = λ other less h. absurd (omega (arith, less));
        none_before = λ i other before h. absurd (omega (arith, before));
      },
    );
  },
  refl,
)
