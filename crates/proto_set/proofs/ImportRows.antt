-- The definitions on small sets: which imports lead where, the outcome of visiting the root, and which import is at
-- fault.
use Rattle.std.proofs.Common.{◌≡◌, ℕ, zero, suc, ◌+◌, ◌<◌, true, false, List, [], ◌∷◌, Some, None, inl, inr, nat_eq, get_or, refl, sym, ap, ◌∙◌, subst, arith}
use Rattle.std.specs.Prelude.{codes, Contains, slice_get}
use Rattle.std.proofs.lemmas.Bool.{eqb-false}
use Rattle.std.proofs.lemmas.Option.{same_Some}
use Rattle.proto_ast.specs.declared.file.Span.{Span}
use Rattle.proto_ast.specs.declared.file.Import.{Import}
use Rattle.proto_set.specs.Importing.{HasImport, HasPath, IsImport, IsPublicImport, IsReachable, here, onward, IsVisible, imported, publicly}
use Rattle.proto_set.specs.Visiting.{HasNoImport, IsUnvisited, leaves, ends, closes, passes, enters, meets, IsRootVisit}
use Rattle.proto_set.specs.ImportFaults.{IsImportFault, missing, twice, cycle, IsNoLaterFault, by_reason}
use Rattle.proto_set.specs.declared.set.ParsedFile.{ParsedFile}
use Rattle.proto_set.specs.declared.import_fault.ImportReason.TheVariants.{Missing, Twice, Cycle}
use Rattle.proto_set.proofs.Visited.{cons_cases, cons_here, cons_more, import_one}

abbrev at : ℕ → Span
at n = record { start = n; end = n + 1; line = 1 }

abbrev plain : List ℕ → ℕ → Import
plain path n = record { path = path; public = false; span = at n }

abbrev open_one : List ℕ → ℕ → Import
open_one path n = record { path = path; public = true; span = at n }

abbrev member : List ℕ → List Import → ParsedFile
member path imports = record {
  path = path;
  file = record { «package» = None; imports = imports; messages = []; enums = []; services = [] };
}

-- z imports b and c; b publicly imports d, and c; d imports c
abbrev z : ParsedFile
z = member (codes "z") (plain (codes "b") 1 ∷ plain (codes "c") 2 ∷ [])

abbrev b : ParsedFile
b = member (codes "b") (open_one (codes "d") 1 ∷ plain (codes "c") 2 ∷ [])

abbrev c : ParsedFile
c = member (codes "c") []

abbrev d : ParsedFile
d = member (codes "d") (plain (codes "c") 1 ∷ [])

abbrev set : List ParsedFile
set = z ∷ b ∷ c ∷ d ∷ []

z_b : IsImport set 0 0 1
z_b = record {
  import = plain (codes "b") 1;
  import_at = record { member = z; member_at = refl; import_at = refl };
  path_at = record { member = b; member_at = refl; path_is = refl };
}

z_c : IsImport set 0 1 2
z_c = record {
  import = plain (codes "c") 2;
  import_at = record { member = z; member_at = refl; import_at = refl };
  path_at = record { member = c; member_at = refl; path_is = refl };
}

b_d : IsImport set 1 0 3
b_d = record {
  import = open_one (codes "d") 1;
  import_at = record { member = b; member_at = refl; import_at = refl };
  path_at = record { member = d; member_at = refl; path_is = refl };
}

b_c : IsImport set 1 1 2
b_c = record {
  import = plain (codes "c") 2;
  import_at = record { member = b; member_at = refl; import_at = refl };
  path_at = record { member = c; member_at = refl; path_is = refl };
}

d_c : IsImport set 3 0 2
d_c = record {
  import = plain (codes "c") 1;
  import_at = record { member = d; member_at = refl; import_at = refl };
  path_at = record { member = c; member_at = refl; path_is = refl };
}

-- the root reaches d through b, and sees it, since b imports it publicly
z_reaches_d : IsReachable set 0 3
z_reaches_d = onward (onward here z_b) b_d

z_sees_d : IsVisible set 0 3
unfolding b_d
z_sees_d = publicly (imported z_b) (record { leads = b_d; is_public = refl })

-- a file that d imports without `public` isn't visible through d
not_through_d : (j : ℕ) → IsPublicImport set 3 0 j → ⊥
unfolding d_c
not_through_d j h =
    let own : HasImport set 3 0 (plain (codes "c") 1) = d_c.import_at in
    let same : plain (codes "c") 1 ≡ h.leads.import = import_one own h.leads.import_at in
    let shown : false ≡ true = ap (λ (x : Import). x.public) same ∙ h.is_public in
    cc

-- ---- visiting

past : (files : List ParsedFile) (i n : ℕ) (m : ParsedFile) → slice_get files i ≡ Some m → slice_get m.file.imports n ≡ None → HasNoImport files i n
past files i n m there none x h =
    let same : m ≡ h.member = same_Some m h.member (sym there ∙ h.member_at) in
    let own : slice_get m.file.imports n ≡ Some x =
    subst (λ (y : ParsedFile). slice_get y.file.imports n ≡ Some x) (sym same) h.import_at in
    absurd (let bad : None ≡ Some x = sym none ∙ own in cc)

abbrev Avoids : ℕ → List ℕ → Type 0
Avoids k [] = Unit {0}
Avoids k (x ∷ xs) = (nat_eq x k ≡ false) × Avoids k xs

not_in : (xs : List ℕ) (k : ℕ) → Avoids k xs → Contains xs k → ⊥
not_in [] k a c = absurd (let l : c.0 < 0 = c.1 in omega arith)
not_in (x ∷ xs) k a c = elim (cons_cases x xs k c) [
  | inl same ↦ eqb-false x k a.0 same
  | inr behind ↦ not_in xs k a.1 behind
]

fresh : (visiting left : List ℕ) (j : ℕ) → Avoids j visiting → Avoids j left → IsUnvisited visiting left j
fresh visiting left j a b = record { unvisited = not_in visiting j a; unleft = not_in left j b }

-- each file is finished after those that it imports, and only once
all_left : IsRootVisit set (leaves (0 ∷ 1 ∷ 3 ∷ 2 ∷ []))
all_left =
    enters z_b (fresh (0 ∷ []) [] 1 (refl, tt) tt)
    (enters b_d (fresh (0 ∷ 1 ∷ []) [] 3 (refl, (refl, tt)) tt)
    (enters d_c (fresh (0 ∷ 1 ∷ 3 ∷ []) [] 2 (refl, (refl, (refl, tt))) tt)
    (ends (past set 2 0 c refl refl))
    (ends (past set 3 1 d refl refl)))
    (passes b_c (cons_more 3 (2 ∷ []) 2 (cons_here 2 []))
    (ends (past set 1 2 b refl refl))))
    (passes z_c (cons_more 1 (3 ∷ 2 ∷ []) 2 (cons_more 3 (2 ∷ []) 2 (cons_here 2 [])))
    (ends (past set 0 2 z refl refl)))

-- ---- cycles

-- x imports y, and y imports x
abbrev pair : List ParsedFile
pair = member (codes "x") (plain (codes "y") 1 ∷ []) ∷ member (codes "y") (plain (codes "x") 1 ∷ []) ∷ []

x_y : IsImport pair 0 0 1
x_y = record {
  import = plain (codes "y") 1;
  import_at = record { member = member (codes "x") (plain (codes "y") 1 ∷ []); member_at = refl; import_at = refl };
  path_at = record { member = member (codes "y") (plain (codes "x") 1 ∷ []); member_at = refl; path_is = refl };
}

y_x : IsImport pair 1 0 0
y_x = record {
  import = plain (codes "x") 1;
  import_at = record { member = member (codes "y") (plain (codes "x") 1 ∷ []); member_at = refl; import_at = refl };
  path_at = record { member = member (codes "x") (plain (codes "y") 1 ∷ []); member_at = refl; path_is = refl };
}

-- the import of y closes the cycle, and is at fault
y_closes : IsImportFault pair Cycle 1 0
y_closes = cycle (meets x_y (fresh (0 ∷ []) [] 1 (refl, tt) tt) (closes y_x (cons_here 0 (1 ∷ []))))

-- a file that imports itself is a cycle
abbrev own : List ParsedFile
own = member (codes "x") (plain (codes "x") 1 ∷ []) ∷ []

itself_closes : IsImportFault own Cycle 0 0
itself_closes = cycle (closes (record {
  import = plain (codes "x") 1;
  import_at = record { member = member (codes "x") (plain (codes "x") 1 ∷ []); member_at = refl; import_at = refl };
  path_at = record { member = member (codes "x") (plain (codes "x") 1 ∷ []); member_at = refl; path_is = refl };
}) (cons_here 0 []))

-- ---- other faults

-- z imports z twice, and a file that doesn't exist
abbrev bad : ParsedFile
bad = member (codes "z") (plain (codes "z") 1 ∷ plain (codes "z") 2 ∷ plain (codes "q") 3 ∷ [])

abbrev wrong : List ParsedFile
wrong = bad ∷ []

later_one : IsImportFault wrong Twice 0 1
later_one = twice {k = 0} (plain (codes "z") 1) (plain (codes "z") 2) (omega arith)
    (record { member = bad; member_at = refl; import_at = refl }) (record { member = bad; member_at = refl; import_at = refl }) refl

nobody : (j : ℕ) → HasPath wrong j (codes "q") → ⊥
nobody zero h =
    let same : bad ≡ h.member = same_Some bad h.member h.member_at in
    let path : codes "z" ≡ codes "q" = ap (λ (m : ParsedFile). m.path) same ∙ h.path_is in
    absurd (let first : 122 ≡ 113 = ap (λ (q : List ℕ). get_or q 0 0) path in omega arith)
nobody (suc j) h = absurd (let e : None ≡ Some h.member = h.member_at in cc)

not_there : IsImportFault wrong Missing 0 2
not_there = missing (plain (codes "q") 3) (record { member = bad; member_at = refl; import_at = refl }) nobody

-- a missing import counts before a repeated one, even if it comes after it
missing_first : IsNoLaterFault Missing 0 2 Twice 0 1
missing_first = by_reason (omega arith)
