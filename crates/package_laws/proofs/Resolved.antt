-- Files of one package resolve to the table of the one file.
use Rattle.std.proofs.Common.{◌≡◌, ℕ, List, [], refl, sym, ap, ◌∙◌, subst, arith}
use Rattle.std.specs.Prelude.{slice_get}
use Rattle.std.proofs.lemmas.Option.{none-some}
use Rattle.mrpc_table.specs.declared.table.Table.{Table}
use Rattle.proto_ast.specs.Together.{IsFormed, IsOrdered}
use Rattle.proto_ast.specs.declared.file.Span.{Span}
use Rattle.proto_ast.specs.declared.file.Import.{Import}
use Rattle.proto_ast.specs.declared.file.File.{File}
use Rattle.proto_ast.specs.Joined.{Joined, alone, package_at}
use Rattle.schema_validation.specs.Violations
use Rattle.schema_validation.specs.Violations.{IsDuplicate, IsFileViolation}
use Rattle.schema_validation.specs.declared.reason.ResolveReason.{ResolveReason}
use Rattle.schema_validation.specs.declared.reason.ResolveReason.TheVariants.{DuplicateName}
use Rattle.schema_resolve.specs.Resolving.{HasNoViolation, Resolves, AreResolvedTogether}
use Rattle.package_laws.specs.OnePackage.{IsReferenceIn, of_field, of_rpc, IsOnePackage}
use Rattle.package_laws.proofs.Lists.{at_in}
use Rattle.package_laws.proofs.Alike.{message_with, service_with, AreAlike, message_scope_alike, twice_alike}
use Rattle.package_laws.proofs.Judged.{NamesSame}
use Rattle.package_laws.proofs.Together.{ReferSame, clean_alike, table_alike}
use Rattle.package_laws.proofs.OneFile.{alike_into, alike_back}
use Rattle.package_laws.proofs.Looking.{names_into, names_back}

module _ (F : Joined) (G : File) (formed : IsFormed F) (ordered : IsOrdered F) (one : IsOnePackage F G)
    (once : (span : Span) → IsDuplicate F span → ⊥) where
  abbrev A : Joined
  A = alone G

  into : AreAlike F A
  into = alike_into F G one.file formed

  back : AreAlike A F
  back = alike_back F G one.file formed

  -- ---- references

  forth : {file : ℕ} {scope : List (List ℕ)} {name : List ℕ} → IsReferenceIn F file scope name
      → NamesSame F file scope A 0 scope name
  forth refers = record {
    into = λ sort full n. names_into F G formed one ordered once sort full refers n;
    back = λ sort full n. names_back F G formed one sort full refers n;
  }

  homeward : {file : ℕ} {scope : List (List ℕ)} {name : List ℕ} → IsReferenceIn F file scope name
      → NamesSame A 0 scope F file scope name
  homeward refers = record {
    into = λ sort full n. names_back F G formed one sort full refers n;
    back = λ sort full n. names_into F G formed one ordered once sort full refers n;
  }

  into_same : ReferSame F A
  into_same = record {
    messages = λ i k m scope at there up. record {
      fields = λ f c. record {
        names = λ name r.
            let l = (back.messages i (message_with k m) there).own in
            let e : 0 ≡ k = omega arith in
            subst (λ (n : ℕ). NamesSame F m.file scope A n scope name) e (forth (of_field i m f at refl up c r));
      };
    };
    rpcs = λ k s r c there its. record {
      names = λ name n.
          let l = (back.services there.0 (service_with k s) (at_in A.services (service_with k s) there)).own in
          let e : 0 ≡ k = omega arith in
          let h = (into.services c.0 s (at_in F.services s c)).own in
          let p = package_at F s.file in
          subst (λ (q : List (List ℕ)). NamesSame F s.file p A k q name) (into.packages s.file k h l)
          (subst (λ (j : ℕ). NamesSame F s.file p A j p name) e (forth (of_rpc s r c refl its refl n)));
    };
  }

  back_same : ReferSame A F
  back_same = record {
    messages = λ i k m scope at there up. record {
      fields = λ f c. record {
        names = λ name r.
            let l = (back.messages i m at).own in
            let e : 0 ≡ m.file = omega arith in
            subst (λ (n : ℕ). NamesSame A n scope F k scope name) e
            (homeward (of_field i (message_with k m) f there refl (message_scope_alike back up) c r));
      };
    };
    rpcs = λ k s r c there its. record {
      names = λ name n.
          let l = (back.services c.0 s (at_in A.services s c)).own in
          let e : 0 ≡ s.file = omega arith in
          let h = (into.services there.0 (service_with k s) (at_in F.services (service_with k s) there)).own in
          let p = package_at F k in
          subst (λ (q : List (List ℕ)). NamesSame A s.file q F k p name) (sym (back.packages s.file k l h))
          (subst (λ (j : ℕ). NamesSame A j p F k p name) e
          (homeward (of_rpc (service_with k s) r there refl its refl n)));
    };
  }

-- ---- tables

no_import : {G : File} {q : ResolveReason} {span : Span} → G.imports ≡ [] → HasNoViolation (alone G) → IsFileViolation G q span → ⊥
no_import {q} {span} none clean (Violations.offends o) = clean q span o
no_import none clean (Violations.has_import x at is) =
    none-some x (sym (ap (λ (xs : List Import). slice_get xs 0) none) ∙ at)

pub resolved_alone : (F : Joined) (G : File) (T : Table) → IsFormed F → IsOrdered F → IsOnePackage F G
    → AreResolvedTogether F T → Resolves G T
resolved_alone F G T formed ordered one r =
    let once : (span : Span) → IsDuplicate F span → ⊥ =
    λ span t. r.clean DuplicateName span (Violations.twice span t (refl, refl)) in
    let into = alike_into F G one.file formed in
    let back = alike_back F G one.file formed in
    record {
      table = table_alike into back (into_same F G formed ordered one once) r.table;
      clean = λ q span o.
          no_import one.file.no_imports (clean_alike back (back_same F G formed ordered one once) r.clean) o;
    }

pub resolved_together : (F : Joined) (G : File) (T : Table) → IsFormed F → IsOrdered F → IsOnePackage F G
    → Resolves G T → AreResolvedTogether F T
resolved_together F G T formed ordered one r =
    let into = alike_into F G one.file formed in
    let back = alike_back F G one.file formed in
    let clean : HasNoViolation (alone G) = λ q span o. r.clean q span (Violations.offends o) in
    let once : (span : Span) → IsDuplicate F span → ⊥ =
    λ span t. clean DuplicateName span (Violations.twice span (twice_alike into t) (refl, refl)) in
    record {
      table = table_alike back into (back_same F G formed ordered one once) r.table;
      clean = clean_alike into (into_same F G formed ordered one once) clean;
    }
