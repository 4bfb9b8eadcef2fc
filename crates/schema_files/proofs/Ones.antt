-- The files of a set are joined in at most one way, and have at most one table and at most one first fault.
use Rattle.std.proofs.Common.{◌≡◌, ℕ, suc, ◌<◌, inl, inr, List, [], ◌∷◌, length, refl, sym, ap, ◌∙◌, subst, arith}
use Rattle.std.specs.Prelude.{slice_get, Some}
use Rattle.std.proofs.lemmas.Bool.{cases_lt}
use Rattle.std.proofs.lemmas.Option.{slice_get_within, same_Some}
use Rattle.proto_set.specs.Bundle.{BundledFile as PackedFile}
use Rattle.proto_set.specs.Laws.{IsRejectionUnique, AreNeverValidAndRejected}
use Rattle.mrpc_table.specs.declared.table.Table.{Table}
use Rattle.proto_ast.specs.Joined.{Joined}
use Rattle.proto_ast.specs.Together.{IsOrdered}
use Rattle.proto_ast.specs.declared.file.File.{File}
use Rattle.proto_ast.specs.declared.file.Span.{Span}
use Rattle.proto_schema.specs.Faults.{IsProtoTextOf, HasProtoFault as HasTextFault}
use Rattle.proto_grammar.specs.declared.fault.ProtoReason.{ProtoReason}
use Rattle.proto_set.specs.ImportFaults.{HasImportFault as HasImportFault}
use Rattle.proto_set.specs.Reaching.{IsReach}
use Rattle.proto_set.specs.declared.import_fault.ImportReason.{ImportReason}
use Rattle.proto_set.specs.declared.set.ParsedFile.{ParsedFile}
use Rattle.proto_set.specs.declared.set.ImportClosure.{ImportClosure}
use Rattle.proto_set.specs.Joining.{joined, sizes_of, IsInText}
use Rattle.proto_set.specs.Texts.{IsInTextOf}
use Rattle.proto_set.specs.declared.linked_file.LinkedFile.{LinkedFile}
use Rattle.schema_validation.specs.Violations.{HasFirstViolation}
use Rattle.schema_validation.specs.declared.reason.ResolveReason.{ResolveReason}
use Rattle.schema_files.specs.Joined.{IsReadAs, AreReadAs, IsAtIndex, IsLinkedFile, AreLinkedFiles}
use Rattle.schema_files.specs.Resolving.{AreJoinedAs, AreResolvedTo, HasFilesFault, IsFirstFilesFault, CanBeRead, unread, import_at_fault, unresolved}
use Rattle.schema_files.specs.declared.fault.FilesReason.{FilesReason}
use Rattle.schema_files.specs.declared.fault.FilesReason.TheVariants.{Proto, Import, Resolve}
use Rattle.schema_files.specs.declared.fault.FilesFault.{FilesFault}
use Rattle.schema_files.specs.declared.fault.FilesFault.TheVariants as fault
use Rattle.schema_files.proofs.Lists.{some_at, once, zip_at, zip_length}

-- ---- laws of lower crates

pub record AreLaws : Type 0 where
  pub one_file : (text : List ℕ) (f g : File) → IsProtoTextOf text f → IsProtoTextOf text g → f ≡ g
  pub one_reach : (set : List ParsedFile) (a b : ImportClosure) → IsReach set a → IsReach set b → a ≡ b

pub record AreApart : Type 0 where
  pub file_not_fault : (text : List ℕ) (f : File) (q : ProtoReason) (s : Span) → IsProtoTextOf text f → HasTextFault text q s
      → ⊥
  pub reach_not_fault : (set : List ParsedFile) (reach : ImportClosure) (q : ImportReason) (i : ℕ) (s : Span) → IsReach set reach
      → HasImportFault set q i s → ⊥

pub record AreOneFault : Type 0 where
  pub one_text_fault : (text : List ℕ) (q r : ProtoReason) (s t : Span) → HasTextFault text q s → HasTextFault text r t
      → (q ≡ r) × (s ≡ t)
  pub one_import_fault : (set : List ParsedFile) (q r : ImportReason) (i j : ℕ) (s t : Span) → HasImportFault set q i s
      → HasImportFault set r j t → (q ≡ r) × (i ≡ j) × (s ≡ t)

-- ---- the linked files are unique

lists_same : {X : Type 0} (xs ys : List X) → length xs ≡ length ys
    → ((k : ℕ) (x y : X) → slice_get xs k ≡ Some x → slice_get ys k ≡ Some y → x ≡ y) → xs ≡ ys
lists_same [] [] e h = refl
lists_same [] (y ∷ ys) e h = absurd (omega arith)
lists_same (x ∷ xs) [] e h = absurd (omega arith)
lists_same {X} (x ∷ xs) (y ∷ ys) e h =
    ap (λ (z : X). z ∷ xs) (h 0 x y refl refl)
    ∙ ap (λ (zs : List X). y ∷ zs) (lists_same xs ys (omega arith) (λ k a b p q. h (suc k) a b p q))

make_member : List ℕ → File → ParsedFile
make_member p F = record { path = p; file = F }

member_one : AreLaws → (f : PackedFile) (a b : ParsedFile) → IsReadAs f a → IsReadAs f b → a ≡ b
unfolding make_member
member_one laws f a b h g =
    ap (λ (p : List ℕ). make_member p a.file) (h.path ∙ sym g.path)
    ∙ ap (λ (F : File). make_member b.path F) (laws.one_file f.1 a.file b.file h.text g.text)

pub members_one : AreLaws → (files : List PackedFile) (xs ys : List ParsedFile) → AreReadAs files xs → AreReadAs files ys → xs ≡ ys
members_one laws files xs ys h g =
    lists_same xs ys (sym (zip_length IsReadAs files xs h) ∙ zip_length IsReadAs files ys g)
    (λ k a b p q.
    let l : k < length files = omega (arith, zip_length IsReadAs files xs h, slice_get_within xs k a p) in
    let f = some_at files k l in
    member_one laws f.0 a b (zip_at IsReadAs files xs k f.0 a h f.1 p) (zip_at IsReadAs files ys k f.0 b g f.1 q))

make_part : File → List ℕ → ℕ → LinkedFile
make_part F sees size = record { file = F; sees = sees; size = size }

sees_one : (reach : ImportClosure) (seen xs ys : List ℕ) → (all : (j k x : ℕ) → IsAtIndex reach.order x j → IsAtIndex reach.order x k → j ≡ k)
    → length seen ≡ length xs → length seen ≡ length ys
    → ((n s x : ℕ) → slice_get seen n ≡ Some s → slice_get xs n ≡ Some x → IsAtIndex reach.order s x)
    → ((n s y : ℕ) → slice_get seen n ≡ Some s → slice_get ys n ≡ Some y → IsAtIndex reach.order s y) → xs ≡ ys
sees_one reach seen xs ys all ex ey hx hy =
    lists_same xs ys (sym ex ∙ ey) (λ n x y a b.
    let s = some_at seen n (omega (arith, ex, slice_get_within xs n x a)) in
    all x y s.0 (hx n s.0 x s.1 a) (hy n s.0 y s.1 b))

part_one : (files : List PackedFile) (members : List ParsedFile) (reach : ImportClosure) → IsReach members reach → (k : ℕ) (p q : LinkedFile)
    → IsLinkedFile files members reach k p → IsLinkedFile files members reach k q → p ≡ q
unfolding make_part
part_one files members reach reached k p q P Q =
    let i : P.i ≡ Q.i = same_Some P.i Q.i (sym P.at ∙ Q.at) in
    let packed : P.packed ≡ Q.packed =
    same_Some P.packed Q.packed (sym P.packed_at ∙ ap (slice_get files) i ∙ Q.packed_at) in
    let member : P.member ≡ Q.member =
    same_Some P.member Q.member (sym P.member_at ∙ ap (slice_get members) i ∙ Q.member_at) in
    let seen : P.seen ≡ Q.seen = same_Some P.seen Q.seen (sym P.seen_at ∙ Q.seen_at) in
    let says : p.file ≡ q.file = P.says ∙ ap (λ (m : ParsedFile). m.file) member ∙ sym Q.says in
    let size : p.size ≡ q.size = P.size ∙ ap (λ (f : PackedFile). length f.1) packed ∙ sym Q.size in
    let sees : p.sees ≡ q.sees = sees_one reach Q.seen p.sees q.sees
    (λ j l x a b. once reach.order j l x reached.order.once a b)
    (sym (ap length seen) ∙ zip_length (IsAtIndex reach.order) P.seen p.sees P.sees)
    (zip_length (IsAtIndex reach.order) Q.seen q.sees Q.sees)
    (λ n s x a b. zip_at (IsAtIndex reach.order) P.seen p.sees n s x P.sees
    (ap (λ (xs : List ℕ). slice_get xs n) seen ∙ a) b)
    (λ n s y a b. zip_at (IsAtIndex reach.order) Q.seen q.sees n s y Q.sees a b) in
    ap (λ (F : File). make_part F p.sees p.size) says
    ∙ ap (λ (xs : List ℕ). make_part q.file xs p.size) sees
    ∙ ap (λ (n : ℕ). make_part q.file q.sees n) size

parts_one : (files : List PackedFile) (members : List ParsedFile) (reach : ImportClosure) (ps qs : List LinkedFile) → IsReach members reach
    → AreLinkedFiles files members reach ps → AreLinkedFiles files members reach qs → ps ≡ qs
parts_one files members reach ps qs reached h g =
    lists_same ps qs (h.count ∙ sym g.count)
    (λ k p q a b. part_one files members reach reached k p q (h.each k p a) (g.each k q b))

pub record AreOne {files : List PackedFile} {ps qs : List LinkedFile} (A : AreJoinedAs files ps) (B : AreJoinedAs files qs) : Type 0 where
  pub members : A.members ≡ B.members
  pub order : A.reach.order ≡ B.reach.order
  pub parts : ps ≡ qs

pub joined_one : AreLaws → (files : List PackedFile) (ps qs : List LinkedFile) (A : AreJoinedAs files ps) (B : AreJoinedAs files qs)
    → AreOne A B
joined_one laws files ps qs A B =
    let m : A.members ≡ B.members = members_one laws files A.members B.members A.read B.read in
    let reached : IsReach B.members A.reach = subst (λ (ms : List ParsedFile). IsReach ms A.reach) m A.reached in
    let r : A.reach ≡ B.reach = laws.one_reach B.members A.reach B.reach reached B.reached in
    let parts : AreLinkedFiles files B.members B.reach ps =
    subst (λ (x : ImportClosure). AreLinkedFiles files B.members x ps) r
    (subst (λ (ms : List ParsedFile). AreLinkedFiles files ms A.reach ps) m A.parts) in
    record {
      members = m;
      order = ap (λ (x : ImportClosure). x.order) r;
      parts = parts_one files B.members B.reach ps qs B.reached parts B.parts;
    }

-- ---- never both a table and a fault

not_unread : AreApart → (files : List PackedFile) (members : List ParsedFile) → AreReadAs files members → (i : ℕ) (f : PackedFile)
    (q : ProtoReason) (s : Span) → slice_get files i ≡ Some f → HasTextFault f.1 q s → ⊥
not_unread apart files members read i f q s at h =
    let l : i < length members = omega (arith, zip_length IsReadAs files members read, slice_get_within files i f at) in
    let m = some_at members i l in
    apart.file_not_fault f.1 m.0.file q s (zip_at IsReadAs files members i f m.0 read at m.1).text h

not_import : AreLaws → AreApart → (files : List PackedFile) (ps : List LinkedFile) → AreJoinedAs files ps → (members : List ParsedFile)
    → AreReadAs files members → (q : ImportReason) (i : ℕ) (s : Span) → HasImportFault members q i s → ⊥
not_import laws apart files ps A members read q i s h =
    let m : A.members ≡ members = members_one laws files A.members members A.read read in
    apart.reach_not_fault members A.reach q i s (subst (λ (ms : List ParsedFile). IsReach ms A.reach) m A.reached) h

pub table_or_fault : AreLaws → AreApart → (files : List PackedFile) (t : Table) (file line : ℕ) (q : FilesReason)
    → AreResolvedTo files t → HasFilesFault files file line q → ⊥
table_or_fault laws apart files t file line q R (unread f r s at h before e) =
    not_unread apart files R.joins.members R.joins.read file f r s at h
table_or_fault laws apart files t file line q R (import_at_fault members r s read h e) =
    not_import laws apart files R.parts R.joins members read r file s h
table_or_fault laws apart files t file line q R (unresolved ps r s k joins first in_text at e) =
    let one = joined_one laws files ps R.parts joins R.joins in
    R.resolves.clean r s (subst (λ (xs : List LinkedFile). HasFirstViolation (joined xs) r s) one.parts first).offence

-- ---- the first fault is unique

pub record IsOneFault (i l : ℕ) (q : FilesReason) (j m : ℕ) (r : FilesReason) : Type 0 where
  pub file : i ≡ j
  pub line : l ≡ m
  pub reason : q ≡ r

-- properties of joined files
pub record AreJoinedLaws (files : List PackedFile) : Type 0 where
  pub ordered : (ps : List LinkedFile) → AreJoinedAs files ps → IsOrdered (joined ps)
  pub one_offence : (F : Joined) (q r : ResolveReason) (s t : Span) → IsOrdered F → HasFirstViolation F q s → HasFirstViolation F r t
      → (q ≡ r) × (s ≡ t)
  pub one_text : (sizes : List ℕ) (j k place : ℕ) → IsInTextOf sizes j place → IsInTextOf sizes k place → j ≡ k

same_unread : AreOneFault → (files : List PackedFile) (i j : ℕ) (f g : PackedFile) (q r : ProtoReason) (s t : Span)
    → slice_get files i ≡ Some f → slice_get files j ≡ Some g → HasTextFault f.1 q s → HasTextFault g.1 r t
    → i ≡ j → (q ≡ r) × (s ≡ t)
same_unread ones files i j f g q r s t a b h k e =
    let same : f ≡ g = same_Some f g (sym a ∙ ap (slice_get files) e ∙ b) in
    ones.one_text_fault g.1 q r s t (subst (λ (x : PackedFile). HasTextFault x.1 q s) same h) k

read_not_unread : AreApart → (files : List PackedFile) (i j : ℕ) (f : PackedFile) (q : ProtoReason) (s : Span)
    → slice_get files i ≡ Some f → HasTextFault f.1 q s → i < j
    → ((k : ℕ) (g : PackedFile) → k < j → slice_get files k ≡ Some g → CanBeRead g) → ⊥
read_not_unread apart files i j f q s a h l before =
    let F = before i f l a in
    apart.file_not_fault f.1 F.0 q s F.1 h

unread_place : AreApart → (files : List PackedFile) (i j : ℕ) (f g : PackedFile) (q r : ProtoReason) (s t : Span)
    → slice_get files i ≡ Some f → slice_get files j ≡ Some g → HasTextFault f.1 q s → HasTextFault g.1 r t
    → ((k : ℕ) (x : PackedFile) → k < i → slice_get files k ≡ Some x → CanBeRead x)
    → ((k : ℕ) (x : PackedFile) → k < j → slice_get files k ≡ Some x → CanBeRead x) → i ≡ j
unread_place apart files i j f g q r s t a b h k before earlier =
    elim (cases_lt i j) [
      | inl l ↦ absurd (read_not_unread apart files i j f q s a h l earlier)
      | inr m ↦ elim (cases_lt j i) [
        | inl l ↦ absurd (read_not_unread apart files j i g r t b k l before)
        | inr n ↦ omega arith
      ]
    ]

pub fault_one : AreLaws → AreApart → AreOneFault → (files : List PackedFile) → AreJoinedLaws files → (i l : ℕ) (q : FilesReason) (j m : ℕ)
    (r : FilesReason) → HasFilesFault files i l q → HasFilesFault files j m r → IsOneFault i l q j m r
fault_one laws apart ones files more i l q j m r (unread f x s at h before e) (unread g y t bt k earlier d) =
    let place : i ≡ j = unread_place apart files i j f g x y s t at bt h k before earlier in
    let one = same_unread ones files i j f g x y s t at bt h k place in
    record { file = place; line = e ∙ ap (λ (z : Span). z.line) one.1 ∙ sym d; reason = ap Proto one.0 }
fault_one laws apart ones files more i l q j m r (unread f x s at h before e) (import_at_fault members y t read k d) =
    absurd (not_unread apart files members read i f x s at h)
fault_one laws apart ones files more i l q j m r (unread f x s at h before e) (unresolved ps y t n joins first in_text st d) =
    absurd (not_unread apart files joins.members joins.read i f x s at h)
fault_one laws apart ones files more i l q j m r (import_at_fault members x s read h e) (unread g y t bt k earlier d) =
    absurd (not_unread apart files members read j g y t bt k)
fault_one laws apart ones files more i l q j m r (import_at_fault members x s read h e) (import_at_fault others y t reads k d) =
    let same : members ≡ others = members_one laws files members others read reads in
    let one = ones.one_import_fault others x y i j s t (subst (λ (ms : List ParsedFile). HasImportFault ms x i s) same h) k in
    record { file = one.1; line = e ∙ ap (λ (z : Span). z.line) one.2 ∙ sym d; reason = ap Import one.0 }
fault_one laws apart ones files more i l q j m r (import_at_fault members x s read h e)
    (unresolved ps y t n joins first in_text st d) = absurd (not_import laws apart files ps joins members read x i s h)
fault_one laws apart ones files more i l q j m r (unresolved ps x s n joins first in_text st e) (unread g y t bt k earlier d) =
    absurd (not_unread apart files joins.members joins.read j g y t bt k)
fault_one laws apart ones files more i l q j m r (unresolved ps x s n joins first in_text st e)
    (import_at_fault members y t read k d) = absurd (not_import laws apart files ps joins members read y j t k)
fault_one laws apart ones files more i l q j m r (unresolved ps x s n joins first in_text at e)
    (unresolved qs y t o joints second in_other bt d) =
    let same = joined_one laws files ps qs joins joints in
    let one = more.one_offence (joined qs) x y s t (more.ordered qs joints)
    (subst (λ (xs : List LinkedFile). HasFirstViolation (joined xs) x s) same.parts first) second in
    let inside : IsInText qs n t.start =
    subst (λ (z : Span). IsInText qs n z.start) one.1
    (subst (λ (xs : List LinkedFile). IsInText xs n s.start) same.parts in_text) in
    let place : n ≡ o = more.one_text (sizes_of qs) n o t.start inside in_other in
    let file : i ≡ j = same_Some i j
    (sym at ∙ ap (λ (xs : List ℕ). slice_get xs n) same.order ∙ ap (slice_get joints.reach.order) place ∙ bt) in
    record { file = file; line = e ∙ ap (λ (z : Span). z.line) one.1 ∙ sym d; reason = ap Resolve one.0 }

-- ---- paths that may be rejected

pub table_or_first : AreLaws → AreApart → AreNeverValidAndRejected → (files : List PackedFile) (t : Table) (e : FilesFault)
    → AreResolvedTo files t → IsFirstFilesFault files e → ⊥
table_or_first laws apart never files t (fault.At i l q) R h = table_or_fault laws apart files t i l q R h.1
table_or_first laws apart never files t (fault.Path i) R h = never files i R.paths h
table_or_first laws apart never files t fault.Memory R h = h

same_at : (i l : ℕ) (q : FilesReason) (j m : ℕ) (r : FilesReason) → IsOneFault i l q j m r
    → fault.At i l q ≡ fault.At j m r
same_at i l q j m r one =
    ap (λ (n : ℕ). fault.At n l q) one.file ∙ ap (λ (n : ℕ). fault.At j n q) one.line
    ∙ ap (λ (x : FilesReason). fault.At j m x) one.reason

pub first_one : AreLaws → AreApart → AreOneFault → IsRejectionUnique → AreNeverValidAndRejected → (files : List PackedFile)
    → AreJoinedLaws files → (e f : FilesFault) → IsFirstFilesFault files e → IsFirstFilesFault files f → e ≡ f
first_one laws apart ones once never files more (fault.At i l q) (fault.At j m r) h k =
    same_at i l q j m r (fault_one laws apart ones files more i l q j m r h.1 k.1)
first_one laws apart ones once never files more (fault.At i l q) (fault.Path j) h k = absurd (never files j h.0 k)
first_one laws apart ones once never files more (fault.At i l q) fault.Memory h k = absurd k
first_one laws apart ones once never files more (fault.Path i) (fault.At j m r) h k = absurd (never files i k.0 h)
first_one laws apart ones once never files more (fault.Path i) (fault.Path j) h k = ap fault.Path (once files i j h k)
first_one laws apart ones once never files more (fault.Path i) fault.Memory h k = absurd k
first_one laws apart ones once never files more fault.Memory f h k = absurd h
