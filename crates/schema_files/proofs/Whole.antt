-- A whole set: its paths, its linked files, and the result.
use Rattle.std.proofs.Common.{◌≡◌, ◌≢◌, ℕ, suc, List, [], ◌∷◌, Ok, Err, Result, map, refl, sym, ap, ◌∙◌, subst, arith}
use Rattle.std.specs.Prelude.{IfOk, IfErr, Contains}
use Rattle.std.specs.List.{AllPairs}
use Rattle.mrpc_table.specs.Valid.{AreDistinct}
use Rattle.mrpc_table.specs.declared.table.Table.{Table}
use Rattle.proto_set.specs.Bundle.{BundledFile as PackedFile, paths_of}
use Rattle.proto_set.specs.Paths.{HaveValidPaths}
use Rattle.proto_set.specs.Reaching.{HaveDistinctPaths, IsReach}
use Rattle.proto_set.specs.declared.set.ParsedFile.{ParsedFile}
use Rattle.proto_set.specs.declared.set.ImportClosure.{ImportClosure}
use Rattle.proto_set.specs.Joining.{joined}
use Rattle.proto_set.specs.declared.linked_file.LinkedFile.{LinkedFile}
use Rattle.schema_resolve.specs.Resolving.{AreResolvedTogether}
use Rattle.schema_files.specs.Joined.{AreReadAs, AreLinkedFiles}
use Rattle.schema_files.specs.Resolving.{AreJoinedAs, AreResolvedTo, IsFirstFilesFault, IsFaultOf}
use Rattle.schema_files.specs.Unread.{IsContentFault}
use Rattle.schema_files.specs.declared.fault.FilesFault.{FilesFault}
use Rattle.schema_files.specs.declared.fault.FilesFault.TheVariants as fault

paths_same : (files : List PackedFile) (members : List ParsedFile) → AreReadAs files members
    → map (λ (m : ParsedFile). m.path) members ≡ paths_of files
paths_same [] [] h = refl
paths_same [] (m ∷ ms) h = absurd h
paths_same (f ∷ fs) [] h = absurd h
paths_same (f ∷ fs) (m ∷ ms) h =
    ap (λ (p : List ℕ). p ∷ map (λ (x : ParsedFile). x.path) ms) h.0.path
    ∙ ap (λ (ps : List (List ℕ)). f.0 ∷ ps) (paths_same fs ms h.1)

distinct : (xs : List (List ℕ)) → AllPairs (λ (path later : List ℕ). later ≢ path) xs → AreDistinct xs
distinct [] all = tt
distinct (x ∷ xs) all = (
  λ (c : Contains xs x). all 0 (suc c.0) x (omega arith) (omega (arith, c.1)) c.2,
  distinct xs (λ i j d a b. all (suc i) (suc j) d (omega arith) (omega arith)),
)

pub own_paths : (files : List PackedFile) (members : List ParsedFile) → AreReadAs files members → HaveValidPaths files
    → HaveDistinctPaths members
own_paths files members h right =
    subst (λ (ps : List (List ℕ)). AreDistinct ps) (sym (paths_same files members h))
    (distinct (paths_of files) right.distinct)

pub record AreJoinedBy (files : List PackedFile) (reach : ImportClosure) (ps : List LinkedFile) : Type 0 where
  pub joins : AreJoinedAs files ps
  pub order : joins.reach.order ≡ reach.order

pub join_up : (files : List PackedFile) (members those : List ParsedFile) (reach : ImportClosure) (ps : List LinkedFile) → those ≡ members
    → AreReadAs files members → IsReach those reach → AreLinkedFiles files members reach ps → AreJoinedBy files reach ps
join_up files members those reach ps e read reached parts = record {
  joins = record {
    members = members;
    reach = reach;
    read = read;
    reached = subst (λ (ms : List ParsedFile). IsReach ms reach) e reached;
    parts = parts;
  };
  order = refl;
}

pub resolves_all : (files : List PackedFile) (ps : List LinkedFile) → HaveValidPaths files → AreJoinedAs files ps
    → (r : Result Table FilesFault)
    → IfOk r (AreResolvedTogether (joined ps)) → IfOk r (AreResolvedTo files)
resolves_all files ps right joins (Ok t) h = record { paths = right; parts = ps; joins = joins; resolves = h }
resolves_all files ps right joins (Err e) h = tt

abbrev pub NeverBoth : Type 0
NeverBoth = (files : List PackedFile) (t : Table) (e : FilesFault) → AreResolvedTo files t → IsFirstFilesFault files e → ⊥

pub memory_only : NeverBoth → (files : List PackedFile) → (t : Table) → AreResolvedTo files t → (e : FilesFault)
    → IsContentFault files e → e ≡ fault.Memory
memory_only never files t R (fault.At file line q) h = absurd (never files t (fault.At file line q) R (R.paths, h))
memory_only never files t R (fault.Path file) h = absurd h
memory_only never files t R fault.Memory h = refl

pub faults_right : (files : List PackedFile) → HaveValidPaths files → (r : Result Table FilesFault)
    → IfErr r (IsContentFault files) → IfErr r (IsFaultOf files)
faults_right files right (Ok t) h = tt
faults_right files right (Err (fault.At file line q)) h = (right, h)
faults_right files right (Err (fault.Path file)) h = absurd h
faults_right files right (Err fault.Memory) h = tt
