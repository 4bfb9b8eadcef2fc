-- A set of files never lacks both a table and a first fault.
use Rattle.std.proofs.Common.{◌≡◌, ℕ, zero, suc, ◌+◌, ◌<◌, ◌≤◌, ◌⊎◌, ⊎_elim, inl, inr, List, [], ◌∷◌, length, take, sum, refl, ap, subst, arith}
use Rattle.std.specs.Prelude.{slice_get, Some}
use Rattle.std.specs.List.{AllZip}
use Rattle.std.proofs.lemmas.Bool.{cases_lt}
use Rattle.std.proofs.lemmas.List.{length-map, take_all}
use Rattle.std.proofs.lemmas.Option.{same_Some}
use Rattle.proto_set.specs.Bundle.{BundledFile as PackedFile}
use Rattle.proto_set.specs.Laws.{AreValidOrRejected}
use Rattle.proto_set.specs.Paths.{HaveValidPaths}
use Rattle.mrpc_table.specs.declared.table.Table.{Table}
use Rattle.proto_ast.specs.Joined.{Joined}
use Rattle.proto_ast.specs.Together.{IsFormed, IsOrdered}
use Rattle.proto_ast.specs.declared.file.File.{File}
use Rattle.proto_ast.specs.declared.file.Span.{Span}
use Rattle.proto_schema.specs.Faults.{IsProtoTextOf, HasProtoFault as HasTextFault}
use Rattle.proto_grammar.specs.declared.fault.ProtoReason.{ProtoReason}
use Rattle.proto_set.specs.ImportFaults.{HasImportFault as HasImportFault}
use Rattle.proto_set.specs.Reaching.{HaveDistinctPaths, IsReach, AreVisible}
use Rattle.proto_set.specs.declared.import_fault.ImportReason.{ImportReason}
use Rattle.proto_set.specs.declared.set.ParsedFile.{ParsedFile}
use Rattle.proto_set.specs.declared.set.ImportClosure.{ImportClosure}
use Rattle.proto_set.specs.Joining.{joined, sizes_of, IsInText}
use Rattle.proto_set.specs.WellPlaced.{AreWellPlaced}
use Rattle.proto_set.specs.Texts.{IsInTextOf}
use Rattle.proto_set.specs.declared.linked_file.LinkedFile.{LinkedFile}
use Rattle.schema_validation.specs.Violations.{HasFirstViolation}
use Rattle.schema_validation.specs.declared.reason.ResolveReason.{ResolveReason}
use Rattle.schema_resolve.specs.Resolving.{AreResolvedTogether}
use Rattle.schema_files.specs.Joined.{IsReadAs, AreReadAs, IsAtIndex, IsLinkedFile, AreLinkedFiles}
use Rattle.schema_files.specs.Resolving.{AreJoinedAs, AreResolvedTo, HasFilesFault, IsFirstFilesFault, CanBeRead, unread, import_at_fault, unresolved}
use Rattle.schema_files.specs.declared.fault.FilesFault.{FilesFault}
use Rattle.schema_files.specs.declared.fault.FilesFault.TheVariants as fault
use Rattle.schema_files.specs.declared.fault.FilesReason.TheVariants.{Proto, Import, Resolve}
use Rattle.schema_files.proofs.Lists.{held, place_of, some_at, zip_length}
use Rattle.schema_files.proofs.Standing.{OffencesStand, StandsInText, in_some_file}
use Rattle.schema_files.proofs.Taken.{below_at, seen_in_order}
use Rattle.schema_files.proofs.Whole.{own_paths}

-- ---- the contents of the texts

abbrev pub ReadsOrFaults : Type 0
ReadsOrFaults = (text : List ℕ)
    → ((F : File) × IsProtoTextOf text F) ⊎ ((q : ProtoReason) × (s : Span) × HasTextFault text q s)

-- the first text that is not a proto file
record FirstUnread (files : List PackedFile) : Type 0 where
  place : ℕ
  file : PackedFile
  reason : ProtoReason
  span : Span
  at : slice_get files place ≡ Some file
  fault : HasTextFault file.1 reason span
  before : (j : ℕ) (g : PackedFile) → j < place → slice_get files j ≡ Some g → CanBeRead g

read_before : (f : PackedFile) (fs : List PackedFile) (n : ℕ) → CanBeRead f
    → ((j : ℕ) (g : PackedFile) → j < n → slice_get fs j ≡ Some g → CanBeRead g)
    → (j : ℕ) (g : PackedFile) → j < suc n → slice_get (f ∷ fs) j ≡ Some g → CanBeRead g
read_before f fs n (F, reads) before zero g l at = (F, subst (λ (x : PackedFile). IsProtoTextOf x.1 F) (same_Some f g at) reads)
read_before f fs n read before (suc j) g l at = before j g (omega arith) at

read_on : (f : PackedFile) (fs : List PackedFile) → CanBeRead f → (((ms : List ParsedFile) × AreReadAs fs ms) ⊎ FirstUnread fs)
    → ((ms : List ParsedFile) × AreReadAs (f ∷ fs) ms) ⊎ FirstUnread (f ∷ fs)
read_on f fs F (inl (ms, read)) =
    let m : ParsedFile = record { path = f.0; file = F.0 } in
    let reads : IsReadAs f m = record { path = refl; text = F.1 } in
    inl (m ∷ ms, (reads, read))
read_on f fs F (inr u) = inr (record {
  place = suc u.place;
  file = u.file;
  reason = u.reason;
  span = u.span;
  at = u.at;
  fault = u.fault;
  before = read_before f fs u.place F u.before;
})

read_first : ReadsOrFaults → (files : List PackedFile) → ((ms : List ParsedFile) × AreReadAs files ms) ⊎ FirstUnread files
read_first either [] = inl ([], tt)
read_first either (f ∷ fs) =
    let rest = read_first either fs in
    elim (either f.1) [
      | inl F ↦ read_on f fs F rest
      | inr e ↦ inr (record {
        place = 0;
        file = f;
        reason = e.0;
        span = e.1;
        at = refl;
        fault = e.2;
        before = λ j g l at. absurd (omega arith);
      })
    ]

-- ---- the linked files of an import closure

-- a list of this many elements, one for each index
listed : {X : Type 0} (P : ℕ → X → Type 0) (n : ℕ) → ((k : ℕ) → k < n → (x : X) × P k x)
    → (xs : List X) × (length xs ≡ n) × ((k : ℕ) (x : X) → slice_get xs k ≡ Some x → P k x)
listed P zero h = ([], refl, λ k x at. absurd cc)
listed {X} P (suc n) h =
    let first = h 0 (omega arith) in
    let rest = listed (λ (k : ℕ) (x : X). P (suc k) x) n (λ k l. h (suc k) (omega arith)) in
    (first.0 ∷ rest.0, ap suc rest.1, placed P first.0 rest.0 first.1 rest.2)
  where
    placed : {X : Type 0} (P : ℕ → X → Type 0) (y : X) (ys : List X) → P 0 y
        → ((k : ℕ) (x : X) → slice_get ys k ≡ Some x → P (suc k) x) → (k : ℕ) (x : X) → slice_get (y ∷ ys) k ≡ Some x → P k x
    placed P y ys here behind zero x at = subst (P 0) (same_Some y x at) here
    placed P y ys here behind (suc k) x at = behind k x at

-- a list that corresponds to another, element by element
paired : {A B : Type 0} (R : A → B → Type 0) (xs : List A)
    → ((n : ℕ) (x : A) → slice_get xs n ≡ Some x → (y : B) × R x y) → (ys : List B) × AllZip R xs ys
paired R [] h = ([], tt)
paired R (x ∷ xs) h =
    let first = h 0 x refl in
    let rest = paired R xs (λ n y at. h (suc n) y at) in
    (first.0 ∷ rest.0, (first.1, rest.1))

part_at : (files : List PackedFile) (members : List ParsedFile) (reach : ImportClosure) → 0 < length members
    → AreReadAs files members → IsReach members reach → (k : ℕ) → k < length reach.order
    → (p : LinkedFile) × IsLinkedFile files members reach k p
part_at files members reach some read reached k l =
    let i = some_at reach.order k l in
    let within : i.0 < length members = below_at members reach k i.0 some reached i.1 in
    let packed = some_at files i.0 (omega (arith, within, zip_length IsReadAs files members read)) in
    let member = some_at members i.0 within in
    let seen = some_at reach.sees k
    (omega (arith, l, zip_length (AreVisible members) reach.order reach.sees reached.sees)) in
    let sees = paired (IsAtIndex reach.order) seen.0 (λ n x at.
    place_of reach.order x ((reached.order.reached x).1
    (seen_in_order members reach k i.0 x seen.0 reached i.1 seen.1 (held seen.0 n x at)))) in
    let p : LinkedFile = record { file = member.0.file; sees = sees.0; size = length packed.0.1 } in
    let part : IsLinkedFile files members reach k p = record {
      i = i.0;
      packed = packed.0;
      member = member.0;
      seen = seen.0;
      at = i.1;
      packed_at = packed.1;
      member_at = member.1;
      seen_at = seen.1;
      says = refl;
      sees = sees.1;
      size = refl;
    } in
    (p, part)

joined_of : (files : List PackedFile) (members : List ParsedFile) (reach : ImportClosure) → 0 < length members
    → AreReadAs files members → IsReach members reach → (ps : List LinkedFile) × AreJoinedAs files ps
joined_of files members reach some read reached =
    let all = listed (IsLinkedFile files members reach) (length reach.order) (part_at files members reach some read reached) in
    let parts : AreLinkedFiles files members reach all.0 = record { count = all.1; each = all.2 } in
    (all.0, record { members = members; reach = reach; read = read; reached = reached; parts = parts })

-- ---- the first violation of the joined files

no_text_behind : (sizes : List ℕ) (k place : ℕ) → IsInTextOf sizes k place → length sizes ≤ k → ⊥
no_text_behind sizes k place h l =
    let low : sum (take k sizes) ≡ sum sizes = ap (λ (xs : List ℕ). sum xs) (take_all k sizes l) in
    let high : sum (take (k + 1) sizes) ≡ sum sizes =
    ap (λ (xs : List ℕ). sum xs) (take_all (k + 1) sizes (omega arith)) in
    omega (arith, h.from, h.below, low, high)

text_there : (sizes : List ℕ) (k place : ℕ) → IsInTextOf sizes k place → k < length sizes
text_there sizes k place h =
    ⊎_elim (λ (l : k < length sizes). l) (λ (l : length sizes ≤ k). absurd (no_text_behind sizes k place h l))
    (cases_lt k (length sizes))

offence_fault : OffencesStand → StandsInText → (files : List PackedFile) (ps : List LinkedFile) → AreJoinedAs files ps → AreWellPlaced ps
    → (q : ResolveReason) (s : Span) → HasFirstViolation (joined ps) q s
    → (file : ℕ) × HasFilesFault files file s.line (Resolve q)
offence_fault stand own files ps joins sound q s h =
    let at = stand (joined ps) q s h.offence in
    let inside = in_some_file at.2 in
    let k : ℕ = inside.0 in
    let in_text : IsInText ps k s.start = own ps k at.0 at.1 s sound inside.1 at.2 in
    let l : k < length joins.reach.order =
    omega (arith, text_there (sizes_of ps) k s.start in_text, length-map ps (λ (p : LinkedFile). p.size), joins.parts.count) in
    let file = some_at joins.reach.order k l in
    (file.0, unresolved ps q s k joins h in_text file.1 refl)

-- ---- the whole set

-- the laws of lower crates on a set that was read
pub record NeverNeither : Type 0 where
  pub paths : AreValidOrRejected
  pub text : ReadsOrFaults
  pub imports : (set : List ParsedFile) → 0 < length set → HaveDistinctPaths set → ((reach : ImportClosure) → IsReach set reach → ⊥)
      → ((q : ImportReason) (i : ℕ) (s : Span) → HasImportFault set q i s → ⊥) → ⊥
  pub offences : (F : Joined) → IsFormed F → IsOrdered F → ((T : Table) → AreResolvedTogether F T → ⊥)
      → ((q : ResolveReason) (s : Span) → HasFirstViolation F q s → ⊥) → ⊥

pub record AreInOrder : Type 0 where
  pub sound : (files : List PackedFile) (ps : List LinkedFile) → AreJoinedAs files ps → AreWellPlaced ps
  pub formed : (ps : List LinkedFile) → AreWellPlaced ps → IsFormed (joined ps)
  pub ordered : (ps : List LinkedFile) → AreWellPlaced ps → IsOrdered (joined ps)
  pub stand : OffencesStand
  pub own : StandsInText

abbrev HasNoTable : List PackedFile → Type 0
HasNoTable files = (t : Table) → AreResolvedTo files t → ⊥

abbrev HasNoFault : List PackedFile → Type 0
HasNoFault files = (e : FilesFault) → IsFirstFilesFault files e → ⊥

not_joined : NeverNeither → AreInOrder → (files : List PackedFile) (ps : List LinkedFile) → HaveValidPaths files
    → AreJoinedAs files ps → HasNoTable files → HasNoFault files → ⊥
not_joined laws order files ps right joins no_table no_fault =
    let sound : AreWellPlaced ps = order.sound files ps joins in
    laws.offences (joined ps) (order.formed ps sound) (order.ordered ps sound)
    (λ T resolves. no_table T (record { paths = right; parts = ps; joins = joins; resolves = resolves }))
    (λ q s first.
    let found = offence_fault order.stand order.own files ps joins sound q s first in
    no_fault (fault.At found.0 s.line (Resolve q)) (right, found.1))

not_read : NeverNeither → AreInOrder → (files : List PackedFile) (members : List ParsedFile) → 0 < length files
    → HaveValidPaths files → AreReadAs files members → HasNoTable files → HasNoFault files → ⊥
not_read laws order files members some right read no_table no_fault =
    let there : 0 < length members = omega (arith, some, zip_length IsReadAs files members read) in
    laws.imports members there (own_paths files members read right)
    (λ reach reached.
    let joins = joined_of files members reach there read reached in
    not_joined laws order files joins.0 right joins.1 no_table no_fault)
    (λ q i s found. no_fault (fault.At i s.line (Import q)) (right, import_at_fault members q s read found refl))

right_neither : NeverNeither → AreInOrder → (files : List PackedFile) → 0 < length files → HaveValidPaths files
    → HasNoTable files → HasNoFault files → ⊥
right_neither laws order files some right no_table no_fault =
    elim (read_first laws.text files) [
      | inl read ↦ not_read laws order files read.0 some right read.1 no_table no_fault
      | inr u ↦
          no_fault (fault.At u.place u.span.line (Proto u.reason))
          (right, unread u.file u.reason u.span u.at u.fault u.before refl)
    ]

pub never_neither : NeverNeither → AreInOrder → (files : List PackedFile) → 0 < length files → HasNoTable files
    → HasNoFault files → ⊥
never_neither laws order files some no_table no_fault =
    elim (laws.paths files) [
      | inl right ↦ right_neither laws order files some right no_table no_fault
      | inr refused ↦ no_fault (fault.Path refused.0) refused.1
    ]
