-- The lines of a table's text, by the spans of their names: none exceeds the text's limit if the files have no
-- violation.
use Rattle.std.proofs.Common.{◌≡◌, ◌≢◌, ℕ, suc, ◌+◌, ◌<◌, ◌≤◌, inl, inr, Bool, true, false, cond, List, [], ◌∷◌, ◌++◌}
use Rattle.std.proofs.Common.{length, map, ltb, refl, sym, ap, ◌∙◌, subst, arith}
use Rattle.std.specs.Prelude.{Contains}
use Rattle.std.specs.List.{flat_map, AllByRecursion}
use Rattle.std.proofs.lemmas.Bool.{cases_lt, ltb-true, ltb-false}
use Rattle.std.proofs.lemmas.List.{length-append, append_assoc}
use Rattle.std.proofs.lemmas.List.Elements.{All-from_recursion}
use Rattle.mrpc_table.specs.Valid.{IsAscendingBy}
use Rattle.mrpc_table.specs.declared.limits.TheConstants.{MAX_TEXT}
use Rattle.proto_ast.specs.Order.{its_name}
use Rattle.proto_ast.specs.Together.{DeclIndex, IsOrdered, IsPartSpan}
use Rattle.proto_ast.specs.declared.file.Span.{Span}
use Rattle.proto_ast.specs.Joined.{Joined}
use Rattle.schema_validation.specs.Lines.{HasLine, IsPastTextLimit}
use Rattle.schema_validation.specs.Violations
use Rattle.schema_validation.specs.declared.reason.ResolveReason.TheVariants.{Limit}
use Rattle.schema_resolve.specs.Resolving.{HasNoViolation}

-- ---- lines by their starts

abbrev Line : Type 0
Line = Span × List ℕ

abbrev insert : Line → List Line → List Line
insert e [] = e ∷ []
insert e (x ∷ xs) = cond (ltb e.0.start x.0.start) (e ∷ x ∷ xs) (x ∷ insert e xs)

abbrev sort : List Line → List Line
sort [] = []
sort (e ∷ es) = insert e (sort es)

abbrev total : List Line → ℕ
total [] = 0
total (e ∷ es) = length e.1 + total es

abbrev IsApart : Line → Line → Type 0
IsApart e x = e.0.start ≢ x.0.start

abbrev StartApart : List Line → Type 0
StartApart [] = Unit {0}
StartApart (e ∷ es) = AllByRecursion (IsApart e) es × StartApart es

abbrev Starts : Line → Line → Type 0
Starts a b = a.0.start < b.0.start

cond_all : (P : Line → Type 0) (b : Bool) (xs ys : List Line) → AllByRecursion P xs → AllByRecursion P ys
    → AllByRecursion P (cond b xs ys)
cond_all P true xs ys p q = p
cond_all P false xs ys p q = q

insert_all : (P : Line → Type 0) (e : Line) (xs : List Line) → P e → AllByRecursion P xs → AllByRecursion P (insert e xs)
insert_all P e [] p h = (p, tt)
insert_all P e (x ∷ xs) p h =
    cond_all P (ltb e.0.start x.0.start) (e ∷ x ∷ xs) (x ∷ insert e xs) (p, h) (h.0, insert_all P e xs p h.1)

sort_all : (P : Line → Type 0) (es : List Line) → AllByRecursion P es → AllByRecursion P (sort es)
sort_all P [] h = tt
sort_all P (e ∷ es) h = insert_all P e (sort es) h.0 (sort_all P es h.1)

cond_total : (b : Bool) (xs ys : List Line) (n : ℕ) → total xs ≡ n → total ys ≡ n → total (cond b xs ys) ≡ n
cond_total true xs ys n p q = p
cond_total false xs ys n p q = q

insert_total : (e : Line) (xs : List Line) → total (insert e xs) ≡ length e.1 + total xs
insert_total e [] = refl
insert_total e (x ∷ xs) =
    cond_total (ltb e.0.start x.0.start) (e ∷ x ∷ xs) (x ∷ insert e xs) (length e.1 + (length x.1 + total xs)) refl
    (let h : total (insert e xs) ≡ length e.1 + total xs = insert_total e xs in omega arith)

sort_total : (es : List Line) → total (sort es) ≡ total es
sort_total [] = refl
sort_total (e ∷ es) = insert_total e (sort es) ∙ ap (λ (n : ℕ). length e.1 + n) (sort_total es)

ascends_cond : (b : Bool) (z : Line) (xs ys : List Line) → (b ≡ true → IsAscendingBy Starts (z ∷ xs))
    → (b ≡ false → IsAscendingBy Starts (z ∷ ys)) → IsAscendingBy Starts (z ∷ cond b xs ys)
ascends_cond true z xs ys p q = p refl
ascends_cond false z xs ys p q = q refl

cond_ascends : (b : Bool) (xs ys : List Line) → (b ≡ true → IsAscendingBy Starts xs) → (b ≡ false → IsAscendingBy Starts ys)
    → IsAscendingBy Starts (cond b xs ys)
cond_ascends true xs ys p q = p refl
cond_ascends false xs ys p q = q refl

insert_behind : (z e : Line) (xs : List Line) → Starts z e → AllByRecursion (IsApart e) xs → IsAscendingBy Starts (z ∷ xs)
    → IsAscendingBy Starts (z ∷ insert e xs)
insert_behind z e [] l h a = (l, tt)
insert_behind z e (x ∷ xs) l h a =
    ascends_cond (ltb e.0.start x.0.start) z (e ∷ x ∷ xs) (x ∷ insert e xs)
    (λ t. (l, (ltb-true e.0.start x.0.start t, a.1)))
    (λ f.
    let ge : x.0.start ≤ e.0.start = ltb-false e.0.start x.0.start f in
    let ne : e.0.start ≢ x.0.start = h.0 in
    (a.0, insert_behind x e xs (omega arith) h.1 a.1))

insert_ascends : (e : Line) (xs : List Line) → AllByRecursion (IsApart e) xs → IsAscendingBy Starts xs
    → IsAscendingBy Starts (insert e xs)
insert_ascends e [] h a = tt
insert_ascends e (x ∷ xs) h a =
    cond_ascends (ltb e.0.start x.0.start) (e ∷ x ∷ xs) (x ∷ insert e xs)
    (λ t. (ltb-true e.0.start x.0.start t, a))
    (λ f.
    let ge : x.0.start ≤ e.0.start = ltb-false e.0.start x.0.start f in
    let ne : e.0.start ≢ x.0.start = h.0 in
    insert_behind x e xs (omega arith) h.1 a)

sort_ascends : (es : List Line) → StartApart es → IsAscendingBy Starts (sort es)
sort_ascends [] h = tt
sort_ascends (e ∷ es) h = insert_ascends e (sort es) (sort_all (IsApart e) es h.0) (sort_ascends es h.1)

total_length : (es : List Line) → length (flat_map (λ (l : Line). l.1) es) ≡ total es
total_length [] = refl
total_length (e ∷ es) =
    length-append e.1 (flat_map (λ (l : Line). l.1) es) ∙ ap (λ (n : ℕ). length e.1 + n) (total_length es)

-- the last of several lines
record Last (xs : List Line) : Type 0 where
  line : Line
  inside : Contains xs line
  behind : AllByRecursion (λ l. l.0.start ≤ line.0.start) xs

last_of : (x : Line) (xs : List Line) → IsAscendingBy Starts (x ∷ xs) → Last (x ∷ xs)
last_of x [] a = record { line = x; inside = (0, omega arith, refl); behind = (omega arith, tt) }
last_of x (y ∷ ys) a =
    let r = last_of y ys a.1 in
    let b : y.0.start ≤ r.line.0.start = r.behind.0 in
    let l : x.0.start < y.0.start = a.0 in record {
      line = r.line;
      inside = (suc r.inside.0, omega (arith, r.inside.1), r.inside.2);
      behind = (omega arith, r.behind);
    }

pass_from : (F : Joined) (xs : List Line) → HasNoViolation F → AllByRecursion (λ (l : Line). HasLine F l.0 l.1) xs
    → IsAscendingBy Starts xs → MAX_TEXT < total xs → ⊥
pass_from F [] clean h a more = omega arith
pass_from F (x ∷ xs) clean h a more =
    let r = last_of x xs a in
    let n : length (flat_map (λ (l : Line). l.1) (x ∷ xs)) ≡ total (x ∷ xs) = total_length (x ∷ xs) in
    let pass : IsPastTextLimit F r.line.0 = record {
      lines = x ∷ xs;
      are = All-from_recursion (λ (l : Line). HasLine F l.0 l.1) (x ∷ xs) h;
      ascend = a;
      own = r.line.1;
      last = r.inside;
      none_behind = All-from_recursion (λ (l : Line). l.0.start ≤ r.line.0.start) (x ∷ xs) r.behind;
      pass = subst (λ (k : ℕ). MAX_TEXT < k) (sym n) more;
    } in
    clean Limit r.line.0 (Violations.long_text r.line.0 pass (refl, refl))

-- ---- lines of declarations

pub record Entry : Type 0 where
  pub decl : DeclIndex
  pub span : Span
  pub line : List ℕ

pub record IsEntry (F : Joined) (e : Entry) : Type 0 where
  pub has : HasLine F e.span e.line
  pub stands : IsPartSpan F e.span e.decl its_name

abbrev pub Differ : Entry → Entry → Type 0
Differ a b = a.decl ≢ b.decl

abbrev pub AllDiffer : List Entry → Type 0
AllDiffer [] = Unit {0}
AllDiffer (e ∷ es) = AllByRecursion (Differ e) es × AllDiffer es

abbrev pub line_in : Entry → Span × List ℕ
line_in e = (e.span, e.line)

abbrev pub text_in : List Entry → List ℕ
text_in es = flat_map (λ (e : Entry). e.line) es

entries_lines : (F : Joined) (es : List Entry) → AllByRecursion (IsEntry F) es
    → AllByRecursion (λ (l : Line). HasLine F l.0 l.1) (map line_in es)
entries_lines F [] h = tt
entries_lines F (e ∷ es) h = (h.0.has, entries_lines F es h.1)

apart_from : (F : Joined) (e : Entry) (es : List Entry) → IsOrdered F → IsEntry F e → AllByRecursion (IsEntry F) es
    → AllByRecursion (Differ e) es → AllByRecursion (IsApart (line_in e)) (map line_in es)
apart_from F e [] ordered i h d = tt
apart_from F e (x ∷ xs) ordered i h d = (
  λ s. d.0 (ordered.apart e.decl x.decl its_name its_name e.span x.span i.stands h.0.stands s).0,
  apart_from F e xs ordered i h.1 d.1,
)

entries_apart : (F : Joined) (es : List Entry) → IsOrdered F → AllByRecursion (IsEntry F) es → AllDiffer es
    → StartApart (map line_in es)
entries_apart F [] ordered h d = tt
entries_apart F (e ∷ es) ordered h d = (apart_from F e es ordered h.0 h.1 d.0, entries_apart F es ordered h.1 d.1)

entries_total : (es : List Entry) → total (map line_in es) ≡ length (text_in es)
entries_total [] = refl
entries_total (e ∷ es) = ap (λ (n : ℕ). length e.line + n) (entries_total es) ∙ sym (length-append e.line (text_in es))

-- the text of distinct declarations of clean files isn't too long
pub entries_short : (F : Joined) (es : List Entry) → IsOrdered F → HasNoViolation F → AllByRecursion (IsEntry F) es
    → AllDiffer es → length (text_in es) ≤ MAX_TEXT
entries_short F es ordered clean h d = elim (cases_lt MAX_TEXT (length (text_in es))) [
  | inl more ↦
      let lines = map line_in es in
      let t : total (sort lines) ≡ length (text_in es) = sort_total lines ∙ entries_total es in
      absurd (pass_from F (sort lines) clean
      (sort_all (λ (l : Line). HasLine F l.0 l.1) lines (entries_lines F es h))
      (sort_ascends lines (entries_apart F es ordered h d)) (omega arith))
  | inr few ↦ few
]

-- ---- entries, one after another

pub all_append : (P : Entry → Type 0) (xs ys : List Entry) → AllByRecursion P xs → AllByRecursion P ys
    → AllByRecursion P (xs ++ ys)
all_append P [] ys p q = q
all_append P (x ∷ xs) ys p q = (p.0, all_append P xs ys p.1 q)

pub differ_append : (xs ys : List Entry) → AllDiffer xs → AllDiffer ys
    → AllByRecursion (λ x. AllByRecursion (Differ x) ys) xs → AllDiffer (xs ++ ys)
differ_append [] ys p q h = q
differ_append (x ∷ xs) ys p q h = (all_append (Differ x) xs ys p.0 h.0, differ_append xs ys p.1 q h.1)

pub text_append : (xs ys : List Entry) → text_in (xs ++ ys) ≡ text_in xs ++ text_in ys
text_append [] ys = refl
text_append (x ∷ xs) ys =
    ap (λ (t : List ℕ). x.line ++ t) (text_append xs ys) ∙ sym (append_assoc x.line (text_in xs) (text_in ys))
