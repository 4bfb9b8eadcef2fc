-- Definitions on small values.
use Rattle.std.proofs.Common.{◌≡◌, ℕ, zero, suc, ◌<◌, false, List, [], ◌∷◌, length, get_or, Some, None, refl, sym, ap, ◌∙◌, subst, arith}
use Rattle.std.specs.Prelude.{codes, slice_get, Contains}
use Rattle.std.proofs.lemmas.Option.{same_Some, none-some, slice_get_read}
use Rattle.mrpc_table.specs.declared.table.Table.{Table}
use Rattle.proto_ast.specs.declared.file.Import.{Import}
use Rattle.proto_ast.specs.declared.file.File.{File}
use Rattle.std.proofs.lemmas.List.Elements.{All-nil, All-cons}
use Rattle.proto_set.specs.Paths.{IsPath, HaveValidPaths, IsFirstRejected, second}
use Rattle.proto_set.specs.Bundle.{BundledFile as PackedFile}
use Rattle.proto_schema.specs.Faults.{IsProtoTextOf, HasProtoFault as HasTextFault}
use Rattle.proto_grammar.specs.declared.fault.ProtoReason.{ProtoReason}
use Rattle.proto_set.specs.Importing.{HasImport, HasPath, IsImport, IsReachable, here, onward, IsVisible, itself, imported, publicly}
use Rattle.proto_set.specs.ImportFaults.{IsImportFault, missing, twice, cycle, IsNoLaterFault, by_reason, by_statement}
use Rattle.proto_set.specs.Reaching.{IsReach}
use Rattle.proto_set.specs.declared.set.ParsedFile.{ParsedFile}
use Rattle.proto_set.specs.declared.set.ImportClosure.{ImportClosure}
use Rattle.proto_set.specs.declared.import_fault.ImportReason.{ImportReason}
use Rattle.proto_set.specs.declared.import_fault.ImportReason.TheVariants.{Missing}
use Rattle.proto_set.specs.Joining.{joined}
use Rattle.proto_set.specs.declared.linked_file.LinkedFile.{LinkedFile}
use Rattle.schema_resolve.specs.Resolving.{AreResolvedTogether}
use Rattle.schema_files.specs.Placing.{AreOrderIndices}
use Rattle.schema_files.specs.Joined.{IsLinkedFile, AreLinkedFiles}
use Rattle.schema_files.specs.Resolving.{AreResolvedTo, HasFilesFault, CanBeRead, unread, import_at_fault}
use Rattle.schema_files.specs.declared.fault.FilesReason.TheVariants.{Proto, Import as OfImport}

-- ---- indices

places_back : (k i : ℕ) → slice_get {X = ℕ} (2 ∷ 0 ∷ []) k ≡ Some i → slice_get {X = ℕ} (1 ∷ 7 ∷ 0 ∷ []) i ≡ Some k
places_back zero i e = subst (λ (n : ℕ). slice_get {X = ℕ} (1 ∷ 7 ∷ 0 ∷ []) n ≡ Some 0) (same_Some 2 i e) refl
places_back (suc zero) i e = subst (λ (n : ℕ). slice_get {X = ℕ} (1 ∷ 7 ∷ 0 ∷ []) n ≡ Some 1) (same_Some 0 i e) refl
places_back (suc (suc k)) i e = absurd cc

-- of three files, the last one comes first and the first one second
some_places : AreOrderIndices (2 ∷ 0 ∷ []) 3 (1 ∷ 7 ∷ 0 ∷ [])
some_places = record {
  count_is = refl;
  back = places_back;
}

-- a file that isn't in the order has no index
not_elsewhere : AreOrderIndices (2 ∷ 0 ∷ []) 3 (1 ∷ 7 ∷ 5 ∷ []) → ⊥
not_elsewhere h = let e : slice_get {X = ℕ} (1 ∷ 7 ∷ 5 ∷ []) 2 ≡ Some 0 = h.back 0 2 refl in omega (arith, same_Some 5 0 e)

-- ---- small sets

abbrev path : List ℕ
path = codes "a"

abbrev set_of : List ℕ → List PackedFile
set_of text = (path, text) ∷ []

abbrev file_with : List Import → File
file_with imports = record { «package» = None; imports = imports; messages = []; enums = []; services = [] }

abbrev a_member : List Import → ParsedFile
a_member imports = record { path = path; file = file_with imports }

earlier_reads : (text other : List ℕ) → IsProtoTextOf text (file_with []) → (j : ℕ) (g : PackedFile) → j < 1
    → slice_get ((path, text) ∷ (codes "b", other) ∷ []) j ≡ Some g → CanBeRead g
earlier_reads text other reads zero g l at =
    (file_with [], subst (λ (f : PackedFile). IsProtoTextOf f.1 (file_with [])) (same_Some (path, text) g at) reads)
earlier_reads text other reads (suc j) g l at = absurd (omega arith)

-- the first of two texts reads as a file, and the second has its first fault in line 3
unread_row : (text other : List ℕ) (q : ProtoReason) → IsProtoTextOf text (file_with [])
    → HasTextFault other q (record { start = 40; end = 41; line = 3 })
    → HasFilesFault ((path, text) ∷ (codes "b", other) ∷ []) 1 3 (Proto q)
unread_row text other q reads stops =
    unread (codes "b", other) q (record { start = 40; end = 41; line = 3 }) refl stops (earlier_reads text other reads)
    refl

only_one : {X : Type 0} (x y : X) (i : ℕ) → slice_get (x ∷ []) i ≡ Some y → (i ≡ 0) × (x ≡ y)
only_one x y zero e = (refl, same_Some x y e)
only_one x y (suc i) e = absurd (none-some y e)

nothing_in : {X : Type 0} (x : X) → Contains [] x → ⊥
nothing_in x c = let l : c.0 < 0 = c.1 in omega arith

-- a text whose line 2 imports a file that doesn't exist
abbrev import_x : Import
import_x = record { path = codes "x"; public = false; span = record { start = 27; end = 30; line = 2 } }

abbrev only_x : List ParsedFile
only_x = a_member (import_x ∷ []) ∷ []

has_x : HasImport only_x 0 0 import_x
has_x = record {
  member = a_member (import_x ∷ []);
  member_at = refl;
  import_at = refl;
}

no_x : (j : ℕ) → HasPath only_x j (codes "x") → ⊥
no_x j h =
    let p = only_one (a_member (import_x ∷ [])) h.member j h.member_at in
    let e : path ≡ codes "x" = ap (λ (m : ParsedFile). m.path) p.1 ∙ h.path_is in
    let n : ◌≡◌ {A = ℕ} 97 120 = ap (λ (q : List ℕ). get_or q 0 0) e in
    omega arith

its_place : (j m : ℕ) (x : Import) → HasImport only_x j m x → 0 ≡ j
its_place j m x h = sym (only_one (a_member (import_x ∷ [])) h.member j h.member_at).0

x_first : (r : ImportReason) (j m : ℕ) → IsImportFault only_x r j m → IsNoLaterFault Missing 0 0 r j m
x_first r j m (missing x h gone) = by_statement refl (its_place j m x h) (omega arith)
x_first r j m (twice x y l h k e) = by_reason (omega arith)
x_first r j m (cycle v) = by_reason (omega arith)

missing_row : (text : List ℕ) → IsProtoTextOf text (file_with (import_x ∷ []))
    → HasFilesFault (set_of text) 0 2 (OfImport Missing)
missing_row text reads =
    import_at_fault only_x Missing import_x.span (record { path = refl; text = reads }, tt)
    (record {
      n = 0;
      import = import_x;
      import_at = has_x;
      span_is = refl;
      at_fault = missing import_x has_x no_x;
      first = x_first;
    }) refl

-- ---- a set of one file without imports resolves to what the file resolves to

abbrev empty : ParsedFile
empty = a_member []

abbrev reach : ImportClosure
reach = record { order = 0 ∷ []; sees = (0 ∷ []) ∷ [] }

no_import : (i n : ℕ) (x : Import) → HasImport (empty ∷ []) i n x → ⊥
no_import i n x h =
    let p = only_one empty h.member i h.member_at in
    none-some x (subst (λ (m : ParsedFile). slice_get m.file.imports n ≡ Some x) (sym p.1) h.import_at)

nothing_led : (i n j : ℕ) → IsImport (empty ∷ []) i n j → ⊥
nothing_led i n j l = no_import i n l.import l.import_at

itself_in : Contains {X = ℕ} (0 ∷ []) 0
itself_in = (0, omega arith, refl)

reaches_itself : (j : ℕ) → IsReachable (empty ∷ []) 0 j → Contains {X = ℕ} (0 ∷ []) j
reaches_itself j here = itself_in
reaches_itself j (onward r l) = absurd (nothing_led _ _ _ l)

sees_itself : (j : ℕ) → IsVisible (empty ∷ []) 0 j → Contains {X = ℕ} (0 ∷ []) j
sees_itself j itself = itself_in
sees_itself j (imported l) = absurd (nothing_led _ _ _ l)
sees_itself j (publicly s l) = absurd (nothing_led _ _ _ l.leads)

in_itself : (j : ℕ) → Contains {X = ℕ} (0 ∷ []) j → 0 ≡ j
in_itself j c = (only_one 0 j c.0 (slice_get_read (0 ∷ []) 1 c.0 j refl c.1 (sym c.2))).1

reached_row : IsReach (empty ∷ []) reach
reached_row = record {
  led = λ i n x h. absurd (no_import i n x h);
  apart = λ i n m j a b. absurd (nothing_led i n j a);
  open_ended = λ i r ring. nothing_led i ring.n ring.j ring.leads;
  order = record {
    others = [];
    root_first = refl;
    ascend = tt;
    reached = λ j. (λ c. subst (IsReachable (empty ∷ []) 0) (in_itself j c) here, reaches_itself j);
    once = (λ c. nothing_in 0 c, tt);
  };
  sees = (
    record { those = λ j. (λ c. subst (IsVisible (empty ∷ []) 0) (in_itself j c) itself, sees_itself j); ascend = tt },
    tt,
  );
}

abbrev part : List ℕ → LinkedFile
part text = record { file = file_with []; sees = 0 ∷ []; size = length text }

part_row : (text : List ℕ) → IsLinkedFile (set_of text) (empty ∷ []) reach 0 (part text)
part_row text = record {
  i = 0;
  packed = (path, text);
  member = empty;
  seen = 0 ∷ [];
  at = refl;
  packed_at = refl;
  member_at = refl;
  seen_at = refl;
  says = refl;
  sees = (refl, tt);
  size = refl;
}

parts_row : (text : List ℕ) → AreLinkedFiles (set_of text) (empty ∷ []) reach (part text ∷ [])
parts_row text = record {
  count = refl;
  each = λ k p at.
      let q = only_one (part text) p k at in
      subst (IsLinkedFile (set_of text) (empty ∷ []) reach k) q.1
      (subst (λ (i : ℕ). IsLinkedFile (set_of text) (empty ∷ []) reach i (part text)) (sym q.0) (part_row text));
}

a_path : IsPath path
a_path = record { some = omega arith; short = omega arith; form = refl }

right_row : (text : List ℕ) → HaveValidPaths (set_of text)
right_row text = record {
  each = All-cons IsPath path [] a_path (All-nil IsPath);
  distinct = λ i j d lt within. absurd (omega (arith, lt, within));
}

-- its path is rejected if it occurs a second time
twice_row : (text other : List ℕ) → IsFirstRejected ((path, text) ∷ (path, other) ∷ []) 1
twice_row text other = record {
  before = set_of text;
  file = (path, other);
  later = [];
  order = refl;
  right = right_row text;
  refused = second (0, omega arith, refl);
  number = refl;
}

resolves_row : (text : List ℕ) (T : Table) → IsProtoTextOf text (file_with []) → AreResolvedTogether (joined (part text ∷ [])) T
    → AreResolvedTo (set_of text) T
resolves_row text T reads resolves = record {
  paths = right_row text;
  parts = part text ∷ [];
  joins = record {
    members = empty ∷ [];
    reach = reach;
    read = (record { path = refl; text = reads }, tt);
    reached = reached_row;
    parts = parts_row text;
  };
  resolves = resolves;
}
