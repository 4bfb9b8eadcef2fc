-- The linked files that are made so far.
use Rattle.std.proofs.Common.{◌≡◌, ℕ, ◌+◌, ◌<◌, ◌≤◌, List, [], ◌∷◌, ◌++◌, inl, inr, length, set, refl, sym, ap, ◌∙◌}
use Rattle.std.proofs.Common.{subst, arith, length-set, map, get_or}
use Rattle.std.specs.Prelude.{slice_get, Option, Some, None, Contains, All, IsSome}
use Rattle.std.proofs.lemmas.List.{length_push, length-map}
use Rattle.std.proofs.lemmas.Option.{slice_get_within, same_Some, slice_get-map, slice_get-get_or, slice_get_read}
use Rattle.std.specs.Option.{option_map}
use Rattle.proto_set.specs.Bundle.{BundledFile as PackedFile}
use Rattle.proto_set.specs.Named.{file_of, files_of}
use Rattle.proto_set.specs.declared.named.Named.{Named}
use Rattle.proto_ast.specs.declared.file.File.{File}
use Rattle.proto_set.specs.Importing.{IsReachable, here, onward, IsVisible, itself, imported, publicly}
use Rattle.proto_set.specs.Reaching.{IsReach, AreVisible}
use Rattle.proto_set.specs.declared.set.ParsedFile.{ParsedFile}
use Rattle.proto_set.specs.declared.set.ImportClosure.{ImportClosure}
use Rattle.proto_set.specs.declared.linked_file.LinkedFile.{LinkedFile}
use Rattle.schema_files.specs.Joined.{IsReadAs, AreReadAs, IsAtIndex, IsLinkedFile}
use Rattle.schema_files.specs.Placing.{AreOrderIndices, AreSomeIndices}
use Rattle.schema_files.proofs.Lists.{get_push, get_set_other, held, place_of, all_held, once, zip_all, zip_at, zip_length}

-- ---- the reached files

pub reached_within : {set : List ParsedFile} {j : ℕ} → 0 < length set → IsReachable set 0 j → j < length set
reached_within {set} l here = l
reached_within {set} {j} l (onward r leads) = slice_get_within set j leads.path_at.member leads.path_at.member_at

pub sees_reached : {set : List ParsedFile} {i j : ℕ} → IsReachable set 0 i → IsVisible set i j → IsReachable set 0 j
sees_reached r itself = r
sees_reached r (imported leads) = onward r leads
sees_reached r (publicly s leads) = onward (sees_reached r s) leads.leads

pub order_within : (set : List ParsedFile) (reach : ImportClosure) → 0 < length set → IsReach set reach
    → All (λ i. i < length set) reach.order
order_within set reach l h =
    all_held (λ i. i < length set) reach.order (λ x c. reached_within l ((h.order.reached x).0 c))

pub seen_at : (set : List ParsedFile) (reach : ImportClosure) (k i : ℕ) (seen : List ℕ) → IsReach set reach
    → slice_get reach.order k ≡ Some i → slice_get reach.sees k ≡ Some seen → AreVisible set i seen
seen_at set reach k i seen h at it = zip_at (AreVisible set) reach.order reach.sees k i seen h.sees at it

pub seen_in_order : (set : List ParsedFile) (reach : ImportClosure) (k i j : ℕ) (seen : List ℕ) → IsReach set reach
    → slice_get reach.order k ≡ Some i → slice_get reach.sees k ≡ Some seen → Contains seen j → IsReachable set 0 j
seen_in_order set reach k i j seen h at it c =
    sees_reached ((h.order.reached i).0 (held reach.order k i at)) (((seen_at set reach k i seen h at it).those j).0 c)

pub seen_within : (set : List ParsedFile) (reach : ImportClosure) (k i : ℕ) (seen : List ℕ) → 0 < length set → IsReach set reach
    → slice_get reach.order k ≡ Some i → slice_get reach.sees k ≡ Some seen → All (λ j. j < length set) seen
seen_within set reach k i seen l h at it =
    all_held (λ j. j < length set) seen (λ x c. reached_within l (seen_in_order set reach k i x seen h at it c))

-- ---- what the code reads

pub as_many : (packed : List Named) (set : List ParsedFile) → AreReadAs (files_of packed) set → length set ≡ length packed
as_many packed set h = sym (zip_length IsReadAs (files_of packed) set h) ∙ length-map packed file_of

pub some_members : (packed : List Named) (set : List ParsedFile) → 0 < length packed → AreReadAs (files_of packed) set
    → 0 < length set
some_members packed set l h = omega (arith, as_many packed set h, l)

pub order_at : (reach : ImportClosure) (order : List ℕ) (k : ℕ) → order ≡ reach.order → k < length order
    → slice_get reach.order k ≡ Some (get_or order k 0)
order_at reach order k e l = ap (λ (xs : List ℕ). slice_get xs k) (sym e) ∙ slice_get-get_or order k 0 l

pub sees_at : (reach : ImportClosure) (sees : List (List ℕ)) (k : ℕ) (seen : List ℕ) → sees ≡ reach.sees → k < length sees
    → seen ≡ get_or sees k seen → slice_get reach.sees k ≡ Some seen
sees_at reach sees k seen e l is =
    ap (λ (xs : List (List ℕ)). slice_get xs k) (sym e) ∙ slice_get_read sees (length sees) k seen refl l is

pub below_at : (set : List ParsedFile) (reach : ImportClosure) (k i : ℕ) → 0 < length set → IsReach set reach
    → slice_get reach.order k ≡ Some i → i < length set
below_at set reach k i l h at = reached_within l ((h.order.reached i).0 (held reach.order k i at))

pub sees_below : (set : List ParsedFile) (reach : ImportClosure) (order : List ℕ) (sees : List (List ℕ)) (k : ℕ) → IsReach set reach
    → order ≡ reach.order → sees ≡ reach.sees → k < length order → k < length sees
sees_below set reach order sees k h e f l =
    omega (
      arith,
      l,
      zip_length (AreVisible set) reach.order reach.sees h.sees,
      ap (λ (xs : List ℕ). length xs) e,
      ap (λ (xs : List (List ℕ)). length xs) f,
    )

pub packed_below : (packed : List Named) (set : List ParsedFile) (i : ℕ) → AreReadAs (files_of packed) set → i < length set
    → i < length packed
packed_below packed set i h l = omega (arith, as_many packed set h, l)

pub packed_here : (packed : List Named) (i : ℕ) (d : Named) → i < length packed
    → slice_get (files_of packed) i ≡ Some (file_of (get_or packed i d))
packed_here packed i d l =
    slice_get-map file_of packed i ∙ ap (option_map file_of) (slice_get-get_or packed i d l)

-- ---- the parts so far

pub record TakenSo (files : List PackedFile) (members : List ParsedFile) (reach : ImportClosure) (k : ℕ)
    (left : List (Option File)) (parts : List LinkedFile) : Type 0 where
  pub count : length parts ≡ k
  pub room : length left ≡ length members
  pub there : (j i : ℕ) (m : ParsedFile) → k ≤ j → slice_get reach.order j ≡ Some i → slice_get members i ≡ Some m
      → slice_get left i ≡ Some (Some m.file)
  pub each : (j : ℕ) (p : LinkedFile) → slice_get parts j ≡ Some p → IsLinkedFile files members reach j p

pub taken_none : (files : List PackedFile) (members : List ParsedFile) (reach : ImportClosure) (left : List (Option File))
    (parts : List LinkedFile) → left ≡ map (λ m. Some m.file) members → parts ≡ []
    → TakenSo files members reach 0 left parts
taken_none files members reach left parts e none =
    subst (λ (ps : List LinkedFile). TakenSo files members reach 0 left ps) (sym none) (record {
      count = refl;
      room = ap length e ∙ length-map members (λ (m : ParsedFile). Some m.file);
      there = λ j i m l at it.
          ap (λ (xs : List (Option File)). slice_get xs i) e
          ∙ slice_get-map (λ (m : ParsedFile). Some m.file) members i
          ∙ ap (option_map (λ (m : ParsedFile). Some m.file)) it;
      each = λ j p it. absurd cc;
    })

pub placed_stands : (members : List ParsedFile) (reach : ImportClosure) (k i count : ℕ) (places seen sees : List ℕ)
    → IsReach members reach → slice_get reach.order k ≡ Some i → slice_get reach.sees k ≡ Some seen
    → AreOrderIndices reach.order count places → AreSomeIndices places seen sees
    → (n x y : ℕ) → slice_get seen n ≡ Some x → slice_get sees n ≡ Some y → IsAtIndex reach.order x y
placed_stands members reach k i count places seen sees h at it known placed n x y a b =
    let there = place_of reach.order x ((h.order.reached x).1
    (seen_in_order members reach k i x seen h at it (held seen n x a))) in
    let same : there.0 ≡ y = same_Some there.0 y (sym (known.back there.0 x there.1) ∙ placed.each n x y a b) in
    subst (λ (q : ℕ). slice_get reach.order q ≡ Some x) same there.1

pub taken_more : (files : List PackedFile) (members : List ParsedFile) (reach : ImportClosure) (k i count : ℕ)
    (places seen : List ℕ) (f : PackedFile) (m : ParsedFile) (p : LinkedFile) (left rest : List (Option File))
    (parts more : List LinkedFile)
    → IsReach members reach → slice_get reach.order k ≡ Some i → slice_get reach.sees k ≡ Some seen
    → slice_get files i ≡ Some f → slice_get members i ≡ Some m
    → AreOrderIndices reach.order count places → AreSomeIndices places seen p.sees → p.file ≡ m.file → p.size ≡ length f.1
    → rest ≡ set left i None → more ≡ parts ++ p ∷ [] → TakenSo files members reach k left parts
    → TakenSo files members reach (k + 1) rest more
taken_more files members reach k i count places seen f m p left rest parts more h at it file member known placed says size
    e new old =
    let this : IsLinkedFile files members reach k p = record {
      i = i;
      packed = f;
      member = m;
      seen = seen;
      at = at;
      packed_at = file;
      member_at = member;
      seen_at = it;
      says = says;
      sees = zip_all (IsAtIndex reach.order) seen p.sees (sym placed.same)
          (placed_stands members reach k i count places seen p.sees h at it known placed);
      size = size;
    } in
    subst (λ (ps : List LinkedFile). TakenSo files members reach (k + 1) rest ps) (sym new)
    (subst (λ (ls : List (Option File)). TakenSo files members reach (k + 1) ls (parts ++ p ∷ [])) (sym e) (record {
      count = length_push parts p ∙ ap (λ (n : ℕ). n + 1) old.count;
      room = length-set left i None ∙ old.room;
      there = λ j x q l a b.
          let apart : x ≡ i → ⊥ = λ s.
          let f : j ≡ k = once reach.order j k i h.order.once (a ∙ ap Some s) at in
          omega arith in
          get_set_other left i x None apart ∙ old.there j x q (omega arith) a b;
      each = λ j q a. elim (get_push parts p q j a) [
        | inl before ↦ old.each j q before
        | inr last ↦
            let s : k ≡ j = sym (last.0 ∙ old.count) in
            subst (λ (n : ℕ). IsLinkedFile files members reach n q) s
            (subst (λ (x : LinkedFile). IsLinkedFile files members reach k x) last.1 this)
      ];
    }))

pub file_there : (files : List PackedFile) (members : List ParsedFile) (reach : ImportClosure) (k i : ℕ)
    (left : List (Option File)) (parts : List LinkedFile) (m : ParsedFile) (r : Option File) → slice_get reach.order k ≡ Some i
    → slice_get members i ≡ Some m → slice_get left i ≡ Some r → TakenSo files members reach k left parts
    → r ≡ Some m.file
file_there files members reach k i left parts m r at it had h =
    same_Some r (Some m.file) (sym had ∙ h.there k i m (omega arith) at it)

pub some_there : (m : ParsedFile) (r : Option File) → r ≡ Some m.file → IsSome r
some_there m r e = subst (λ (x : Option File). IsSome x) (sym e) refl
