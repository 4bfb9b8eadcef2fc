-- The state of a traversal, and its outcome.
use Rattle.std.proofs.Common.{◌≡◌, Bool, true, false, ℕ, zero, suc, ◌<◌, ◌≤◌, inl, inr, List, [], ◌∷◌, ◌++◌, length}
use Rattle.std.proofs.Common.{set, replicate, refl, sym, ap, ◌∙◌, subst, arith, length-set}
use Rattle.std.specs.Prelude.{slice_get, Some, Contains, map}
use Rattle.std.proofs.lemmas.Bool.{cases_eq}
use Rattle.std.proofs.lemmas.List.{map_push, same_from_push, length-replicate}
use Rattle.std.proofs.lemmas.List.Elements.{Contains-append_left, Contains-push, Contains-push_cases}
use Rattle.std.proofs.lemmas.Option.{slice_get_within, same_Some}
use Rattle.proto_set.specs.Importing.{IsImport}
use Rattle.proto_set.specs.Visiting.{HasNoImport, IsUnvisited, TraversalOutcome, leaves, at_cycle, IsVisit, ends, closes, passes, enters, meets, IsRootVisit}
use Rattle.proto_set.specs.Linking.{AreLinks}
use Rattle.proto_set.specs.Traversing.{next_frame, first_frame, IsFollowStep, enters as to_new, closes as to_visited, passes as to_left, AreFinished}
use Rattle.proto_set.specs.declared.set.ParsedFile.{ParsedFile}
use Rattle.proto_set.specs.declared.traversal.VisitState.{VisitState}
use Rattle.proto_set.specs.declared.traversal.VisitState.TheVariants.{New, Visiting, Left}
use Rattle.proto_set.specs.declared.traversal.VisitFrame.{VisitFrame}
use Rattle.proto_set.specs.declared.traversal.Traversal.{Traversal}
use Rattle.proto_set.specs.declared.links.ImportLink.{ImportLink}
use Rattle.proto_set.proofs.Remaining.{remaining, count_past, less_left, less_passed, less_entered}
use Rattle.proto_set.proofs.Visited.{cons_here, cons_more, cons_cases, contains_at, at_contains}
use Rattle.proto_set.proofs.Linked.{get_push, get_front, get_last, get_set_same, get_set_other, link_file}

abbrev pub file_of : VisitFrame → ℕ
file_of f = f.file

abbrev pub files_of : List VisitFrame → List ℕ
files_of frames = map file_of frames

-- ---- the outcome for the files that are being visited

pub data Resumes (set : List ParsedFile) : List VisitFrame → List ℕ → TraversalOutcome → Type 0 where
  done : {left : List ℕ} → Resumes set [] left (leaves left)
  in_ring : {frames : List VisitFrame} {left : List ℕ} {k m : ℕ} (rest : List VisitFrame) (f : VisitFrame) → frames ≡ rest ++ f ∷ []
      → IsVisit set (files_of rest) left f.file f.next (at_cycle k m) → Resumes set frames left (at_cycle k m)
  goes : {frames : List VisitFrame} {left after : List ℕ} {outcome : TraversalOutcome} (rest : List VisitFrame) (f : VisitFrame) → frames ≡ rest ++ f ∷ []
      → IsVisit set (files_of rest) left f.file f.next (leaves after) → Resumes set rest after outcome
      → Resumes set frames left outcome

-- the outcome for the innermost file, and then for those around it
pub data Parts (set : List ParsedFile) (rest : List VisitFrame) (f : VisitFrame) (left : List ℕ) : TraversalOutcome → Type 0 where
  part_ring : {k m : ℕ} → IsVisit set (files_of rest) left f.file f.next (at_cycle k m) → Parts set rest f left (at_cycle k m)
  part_goes : {after : List ℕ} {outcome : TraversalOutcome} → IsVisit set (files_of rest) left f.file f.next (leaves after)
      → Resumes set rest after outcome → Parts set rest f left outcome

no_frames : (rest : List VisitFrame) (f : VisitFrame) → [] ≡ rest ++ f ∷ [] → ⊥
no_frames [] f e = cc
no_frames (x ∷ xs) f e = cc

parts_at : {set : List ParsedFile} {frames : List VisitFrame} {left : List ℕ} {outcome : TraversalOutcome} (rest : List VisitFrame)
    (f : VisitFrame) → frames ≡ rest ++ f ∷ [] → Resumes set frames left outcome → Parts set rest f left outcome
parts_at rest f e done = absurd (no_frames rest f e)
parts_at {set} {left = left} rest f e (in_ring {k = k} {m = m} rest' g is v) =
    let same = same_from_push rest rest' f g (sym e ∙ is) in
    let v2 : IsVisit set (files_of rest) left g.file g.next (at_cycle k m) =
    subst (λ (r : List VisitFrame). IsVisit set (files_of r) left g.file g.next (at_cycle k m)) (sym same.0) v in
    part_ring (subst (λ (x : VisitFrame). IsVisit set (files_of rest) left x.file x.next (at_cycle k m)) (sym same.1) v2)
parts_at {set} {left = left} {outcome} rest f e (goes {after = after} rest' g is v r) =
    let same = same_from_push rest rest' f g (sym e ∙ is) in
    let v2 : IsVisit set (files_of rest) left g.file g.next (leaves after) =
    subst (λ (q : List VisitFrame). IsVisit set (files_of q) left g.file g.next (leaves after)) (sym same.0) v in
    part_goes (subst (λ (x : VisitFrame). IsVisit set (files_of rest) left x.file x.next (leaves after)) (sym same.1) v2)
    (subst (λ (q : List VisitFrame). Resumes set q after outcome) (sym same.0) r)

from_parts : {set : List ParsedFile} {left : List ℕ} {outcome : TraversalOutcome} (rest : List VisitFrame) (f : VisitFrame) → Parts set rest f left outcome → Resumes set (rest ++ f ∷ []) left outcome
from_parts rest f (part_ring v) = in_ring rest f refl v
from_parts rest f (part_goes v r) = goes rest f refl v r

-- the innermost file has no further import
leave_parts : {set : List ParsedFile} {left : List ℕ} {outcome : TraversalOutcome} (rest : List VisitFrame) (f : VisitFrame)
    → HasNoImport set f.file f.next → Resumes set rest (f.file ∷ left) outcome → Parts set rest f left outcome
leave_parts rest f none r = part_goes (ends none) r

-- its next import leads to a finished file
pass_parts : {set : List ParsedFile} {left : List ℕ} {j : ℕ} {outcome : TraversalOutcome} (rest : List VisitFrame) (f : VisitFrame)
    → IsImport set f.file f.next j → Contains left j → Parts set rest (next_frame f) left outcome
    → Parts set rest f left outcome
pass_parts rest f l c (part_ring v) = part_ring (passes l c v)
pass_parts rest f l c (part_goes v r) = part_goes (passes l c v) r

files_next : (rest : List VisitFrame) (f : VisitFrame) → files_of (rest ++ next_frame f ∷ []) ≡ files_of rest ++ f.file ∷ []
files_next rest f = map_push file_of rest (next_frame f)

entered : {set : List ParsedFile} {left after : List ℕ} {j : ℕ} {outcome : TraversalOutcome} (rest : List VisitFrame) (f : VisitFrame)
    → IsImport set f.file f.next j → IsUnvisited (files_of rest ++ f.file ∷ []) left j
    → IsVisit set (files_of rest ++ f.file ∷ []) left j 0 (leaves after) → Parts set rest (next_frame f) after outcome
    → Parts set rest f left outcome
entered rest f l new v (part_ring w) = part_ring (enters l new v w)
entered rest f l new v (part_goes w r) = part_goes (enters l new v w) r

-- it leads to a new file
enter_parts : {set : List ParsedFile} {left : List ℕ} {j : ℕ} {outcome : TraversalOutcome} (rest : List VisitFrame) (f : VisitFrame)
    → IsImport set f.file f.next j → IsUnvisited (files_of rest ++ f.file ∷ []) left j
    → Parts set (rest ++ next_frame f ∷ []) (first_frame j) left outcome → Parts set rest f left outcome
enter_parts {set} {left} {j} rest f l new (part_ring {k = k} {m = m} v) =
    part_ring (meets l new (subst (λ (fs : List ℕ). IsVisit set fs left j 0 (at_cycle k m)) (files_next rest f) v))
enter_parts {set} {left} {j} rest f l new (part_goes {after = after} v r) =
    let v2 : IsVisit set (files_of rest ++ f.file ∷ []) left j 0 (leaves after) =
    subst (λ (fs : List ℕ). IsVisit set fs left j 0 (leaves after)) (files_next rest f) v in
    entered rest f l new v2 (parts_at rest (next_frame f) refl r)

-- ---- what the marks mean

-- no element is repeated
abbrev pub Once : List ℕ → Type 0
Once xs = (p q x : ℕ) → slice_get xs p ≡ Some x → slice_get xs q ≡ Some x → p ≡ q

pub record Shows (set' : List ParsedFile) (visiting left : List ℕ) (marks : List VisitState) : Type 0 where
  pub count : length marks ≡ length set'
  pub visited : (k : ℕ) → (slice_get marks k ≡ Some Visiting → Contains visiting k) × (Contains visiting k → slice_get marks k ≡ Some Visiting)
  pub gone : (k : ℕ) → (slice_get marks k ≡ Some Left → Contains left k) × (Contains left k → slice_get marks k ≡ Some Left)
  pub once : Once visiting

mark_same : (marks : List VisitState) (k : ℕ) {m n : VisitState} → slice_get marks k ≡ Some m → slice_get marks k ≡ Some n → m ≡ n
mark_same marks k {m = m} {n = n} a b = same_Some m n (sym a ∙ b)

pub new_is : {set' : List ParsedFile} {visiting left : List ℕ} {marks : List VisitState} {j : ℕ} → Shows set' visiting left marks → slice_get marks j ≡ Some New → IsUnvisited visiting left j
new_is {marks = marks} {j = j} h new = record {
  unvisited = λ c. (let e : New ≡ Visiting = mark_same marks j new ((h.visited j).1 c) in cc);
  unleft = λ c. (let e : New ≡ Left = mark_same marks j new ((h.gone j).1 c) in cc);
}

pub once_push : (xs : List ℕ) (x : ℕ) → (Contains xs x → ⊥) → Once xs → Once (xs ++ x ∷ [])
once_push xs x out once p q y a b = elim (get_push xs x y p a) [
  | inl olda ↦ elim (get_push xs x y q b) [
    | inl oldb ↦ once p q y olda oldb
    | inr newb ↦ absurd (out (subst (Contains xs) (sym newb.1) (contains_at xs p y olda)))
  ]
  | inr newa ↦ elim (get_push xs x y q b) [
    | inl oldb ↦ absurd (out (subst (Contains xs) (sym newa.1) (contains_at xs q y oldb)))
    | inr newb ↦ newa.0 ∙ sym newb.0
  ]
]

once_pop : (xs : List ℕ) (x : ℕ) → Once (xs ++ x ∷ []) → Once xs
once_pop xs x once p q y a b = once p q y (get_front xs x y p a) (get_front xs x y q b)

once_last : (xs : List ℕ) (x : ℕ) → Once (xs ++ x ∷ []) → Contains xs x → ⊥
once_last xs x once c =
    let at = at_contains xs x c in
    let e : at.0 ≡ length xs = once at.0 (length xs) x (get_front xs x x at.0 at.1) (get_last xs x) in
    omega (arith, slice_get_within xs at.0 x at.1)

-- the visit of a new file starts
pub shows_entered : {set' : List ParsedFile} {visiting left : List ℕ} {marks : List VisitState} (j : ℕ)
    → Shows set' visiting left marks → slice_get marks j ≡ Some New
    → Shows set' (visiting ++ j ∷ []) left (set marks j Visiting)
shows_entered {set'} {visiting} {left} {marks} j h new =
    let within = slice_get_within marks j New new in
    let fresh = new_is h new in
    record {
      count = length-set marks j Visiting ∙ h.count;
      visited = λ k. (
        λ e. elim (cases_eq k j) [
          | inl same ↦ subst (Contains (visiting ++ j ∷ [])) (sym same) (Contains-push visiting j)
          | inr other ↦
              Contains-append_left visiting (j ∷ []) k ((h.visited k).0 (sym (get_set_other marks j k Visiting other) ∙ e))
        ],
        λ c. elim (Contains-push_cases visiting j k c) [
          | inl old ↦ get_set_other marks j k Visiting (λ e. fresh.unvisited (subst (Contains visiting) e old)) ∙ (h.visited k).1 old
          | inr same ↦ subst (λ (i : ℕ). slice_get (set marks j Visiting) i ≡ Some Visiting) same (get_set_same marks j Visiting within)
        ],
      );
      gone = λ k. (
        λ e. elim (cases_eq k j) [
          | inl same ↦
              let at : slice_get (set marks j Visiting) k ≡ Some Visiting =
              subst (λ (i : ℕ). slice_get (set marks j Visiting) i ≡ Some Visiting) (sym same) (get_set_same marks j Visiting within) in
              absurd (let bad : Visiting ≡ Left = mark_same (set marks j Visiting) k at e in cc)
          | inr other ↦ (h.gone k).0 (sym (get_set_other marks j k Visiting other) ∙ e)
        ],
        λ c. get_set_other marks j k Visiting (λ e. fresh.unleft (subst (Contains left) e c)) ∙ (h.gone k).1 c,
      );
      once = once_push visiting j fresh.unvisited h.once;
    }

-- the innermost file is finished
pub shows_left : {set' : List ParsedFile} {rest left : List ℕ} {marks : List VisitState} (i : ℕ) → Shows set' (rest ++ i ∷ []) left marks → Shows set' rest (i ∷ left) (set marks i Left)
shows_left {set'} {rest} {left} {marks} i h =
    let at : slice_get marks i ≡ Some Visiting = (h.visited i).1 (Contains-push rest i) in
    let within = slice_get_within marks i Visiting at in
    let out = once_last rest i h.once in
    record {
      count = length-set marks i Left ∙ h.count;
      visited = λ k. (
        λ e. elim (cases_eq k i) [
          | inl same ↦
              let here : slice_get (set marks i Left) k ≡ Some Left =
              subst (λ (j : ℕ). slice_get (set marks i Left) j ≡ Some Left) (sym same) (get_set_same marks i Left within) in
              absurd (let bad : Left ≡ Visiting = mark_same (set marks i Left) k here e in cc)
          | inr other ↦ elim (Contains-push_cases rest i k ((h.visited k).0 (sym (get_set_other marks i k Left other) ∙ e))) [
            | inl old ↦ old
            | inr same ↦ absurd (other (sym same))
          ]
        ],
        λ c. get_set_other marks i k Left (λ e. out (subst (Contains rest) e c)) ∙ (h.visited k).1 (Contains-append_left rest (i ∷ []) k c),
      );
      gone = λ k. (
        λ e. elim (cases_eq k i) [
          | inl same ↦ subst (Contains (i ∷ left)) (sym same) (cons_here i left)
          | inr other ↦ cons_more i left k ((h.gone k).0 (sym (get_set_other marks i k Left other) ∙ e))
        ],
        λ c. elim (cases_eq k i) [
          | inl same ↦ subst (λ (j : ℕ). slice_get (set marks i Left) j ≡ Some Left) (sym same) (get_set_same marks i Left within)
          | inr other ↦ elim (cons_cases i left k c) [
            | inl same ↦ absurd (other (sym same))
            | inr old ↦ get_set_other marks i k Left other ∙ (h.gone k).1 old
          ]
        ],
      );
      once = once_pop rest i h.once;
    }

-- ---- a traversal

pub record IsWalk (set' : List ParsedFile) (frames : List VisitFrame) (marks : List VisitState) : Type 0 where
  pub left : List ℕ
  pub shows : Shows set' (files_of frames) left marks
  pub resumes : (outcome : TraversalOutcome) → Resumes set' frames left outcome → IsRootVisit set' outcome

-- its innermost file
pub record IsInnermost (set' : List ParsedFile) (rest : List VisitFrame) (f : VisitFrame) (marks : List VisitState) : Type 0 where
  pub left : List ℕ
  pub shows : Shows set' (files_of rest ++ f.file ∷ []) left marks
  pub resumes : (outcome : TraversalOutcome) → Parts set' rest f left outcome → IsRootVisit set' outcome

pub innermost : {set' : List ParsedFile} {frames : List VisitFrame} {marks : List VisitState} (rest : List VisitFrame) (f : VisitFrame)
    → frames ≡ rest ++ f ∷ [] → IsWalk set' frames marks → IsInnermost set' rest f marks
innermost {set'} {frames} {marks} rest f e h = record {
  left = h.left;
  shows = subst (λ (fs : List ℕ). Shows set' fs h.left marks) (ap files_of e ∙ map_push file_of rest f) h.shows;
  resumes = λ outcome p. h.resumes outcome (subst (λ (fs : List VisitFrame). Resumes set' fs h.left outcome) (sym e) (from_parts rest f p));
}

pub innermost_file : {set' : List ParsedFile} {rest : List VisitFrame} {f : VisitFrame} {marks : List VisitState} → IsInnermost set' rest f marks → f.file < length marks
innermost_file {rest = rest} {f = f} {marks = marks} h =
    slice_get_within marks f.file Visiting ((h.shows.visited f.file).1 (Contains-push (files_of rest) f.file))

pub walk_left : {set' : List ParsedFile} {rest : List VisitFrame} {f : VisitFrame} {marks : List VisitState}
    → IsInnermost set' rest f marks → HasNoImport set' f.file f.next → IsWalk set' rest (set marks f.file Left)
walk_left {set'} {rest} {f} {marks} h none = record {
  left = f.file ∷ h.left;
  shows = shows_left f.file h.shows;
  resumes = λ outcome r. h.resumes outcome (leave_parts rest f none r);
}

pub walk_passed : {set' : List ParsedFile} {rest : List VisitFrame} {f : VisitFrame} {marks : List VisitState} {j : ℕ}
    → IsInnermost set' rest f marks → IsImport set' f.file f.next j → slice_get marks j ≡ Some Left
    → IsWalk set' (rest ++ next_frame f ∷ []) marks
walk_passed {set'} {rest} {f} {marks} {j} h l mark = record {
  left = h.left;
  shows = subst (λ (fs : List ℕ). Shows set' fs h.left marks) (sym (files_next rest f)) h.shows;
  resumes = λ outcome r. h.resumes outcome (pass_parts rest f l ((h.shows.gone j).0 mark) (parts_at rest (next_frame f) refl r));
}

pub walk_entered : {set' : List ParsedFile} {rest : List VisitFrame} {f : VisitFrame} {marks : List VisitState} {j : ℕ}
    → IsInnermost set' rest f marks → IsImport set' f.file f.next j → slice_get marks j ≡ Some New
    → IsWalk set' ((rest ++ next_frame f ∷ []) ++ first_frame j ∷ []) (set marks j Visiting)
walk_entered {set'} {rest} {f} {marks} {j} h l mark =
    let is : files_of ((rest ++ next_frame f ∷ []) ++ first_frame j ∷ []) ≡ (files_of rest ++ f.file ∷ []) ++ j ∷ [] =
    map_push file_of (rest ++ next_frame f ∷ []) (first_frame j) ∙ ap (λ (fs : List ℕ). fs ++ j ∷ []) (files_next rest f) in
    record {
      left = h.left;
      shows = subst (λ (fs : List ℕ). Shows set' fs h.left (set marks j Visiting)) (sym is) (shows_entered j h.shows mark);
      resumes = λ outcome r. h.resumes outcome
          (enter_parts rest f l (new_is h.shows mark) (parts_at (rest ++ next_frame f ∷ []) (first_frame j) refl r));
    }

pub walk_closed : {set' : List ParsedFile} {rest : List VisitFrame} {f : VisitFrame} {marks : List VisitState} {j : ℕ}
    → IsInnermost set' rest f marks → IsImport set' f.file f.next j → slice_get marks j ≡ Some Visiting
    → IsRootVisit set' (at_cycle f.file f.next)
walk_closed {rest = rest} {f = f} {j = j} h l mark =
    h.resumes (at_cycle f.file f.next) (part_ring (closes l ((h.shows.visited j).0 mark)))

-- ---- the results of a traversal

nothing_marked : (n k : ℕ) (m : VisitState) → slice_get (replicate n New) k ≡ Some m → m ≡ New
nothing_marked zero k m e = absurd cc
nothing_marked (suc n) zero m e = let same : New ≡ m = cc in sym same
nothing_marked (suc n) (suc k) m e = nothing_marked n k m e

no_element : {X : Type 0} {k : X} → Contains [] k → ⊥
no_element c = absurd (let l : c.0 < 0 = c.1 in omega arith)

first_marked : (n : ℕ) → 0 < n → slice_get (replicate n New) 0 ≡ Some New
first_marked zero l = absurd (omega arith)
first_marked (suc n) l = refl

shows_none : (set' : List ParsedFile) (n : ℕ) → n ≡ length set' → Shows set' [] [] (replicate n New)
shows_none set' n e = record {
  count = length-replicate n New ∙ e;
  visited = λ k. (
    λ at. absurd (let bad : Visiting ≡ New = nothing_marked n k Visiting at in cc),
    λ c. absurd (no_element c),
  );
  gone = λ k. (
    λ at. absurd (let bad : Left ≡ New = nothing_marked n k Left at in cc),
    λ c. absurd (no_element c),
  );
  once = λ p q x a b. absurd cc;
}

from_first : {set' : List ParsedFile} {outcome : TraversalOutcome} → Parts set' [] (first_frame 0) [] outcome → IsRootVisit set' outcome
from_first (part_ring v) = v
from_first (part_goes v done) = v
from_first (part_goes v (in_ring rest f e w)) = absurd (no_frames rest f e)
from_first (part_goes v (goes rest f e w r)) = absurd (no_frames rest f e)

first_resumes : {set' : List ParsedFile} {outcome : TraversalOutcome} → Resumes set' (first_frame 0 ∷ []) [] outcome → IsRootVisit set' outcome
first_resumes {set'} r = from_first (parts_at [] (first_frame 0) refl r)

pub walk_first : (set' : List ParsedFile) (n : ℕ) (frames : List VisitFrame) (marks : List VisitState) → n ≡ length set'
    → 0 < length set' → frames ≡ first_frame 0 ∷ [] → marks ≡ set (replicate n New) 0 Visiting
    → IsWalk set' frames marks
walk_first set' n frames marks e some is shows =
    subst (λ (ms : List VisitState). IsWalk set' frames ms) (sym shows)
    (subst (λ (fs : List VisitFrame). IsWalk set' fs (set (replicate n New) 0 Visiting)) (sym is) (record {
      left = [];
      shows = shows_entered 0 (shows_none set' n e) (first_marked n (omega arith));
      resumes = λ outcome r. first_resumes r;
    }))

pub walk_done : {set' : List ParsedFile} {frames : List VisitFrame} {marks : List VisitState} → frames ≡ [] → IsWalk set' frames marks → AreFinished set' marks
walk_done {set'} {frames} {marks} e h = record {
  left = h.left;
  visits = h.resumes (leaves h.left) (subst (λ (fs : List VisitFrame). Resumes set' fs h.left (leaves h.left)) (sym e) done);
  count = h.shows.count;
  marked = h.shows.gone;
}

-- ---- the next import

pub no_link : {set' : List ParsedFile} {i n : ℕ} {links : _} → AreLinks set' i links → length links ≤ n → HasNoImport set' i n
no_link {n = n} h l x at = omega (arith, h.all n x at)

-- ---- an import that was followed

pub followed : {set' : List ParsedFile} (old new : Traversal) (f : VisitFrame) (l : ImportLink) (r : Bool) → r ≡ false
    → IsInnermost set' old.frames.items f old.marks.items → IsImport set' f.file f.next l.file → IsFollowStep old f l r new
    → IsWalk set' new.frames.items new.marks.items
followed {set'} old new f l r e h lead (to_new mark marks frames) =
    subst (λ (fs : List VisitFrame). IsWalk set' fs new.marks.items) (sym frames)
    (subst (λ (ms : List VisitState). IsWalk set' ((old.frames.items ++ next_frame f ∷ []) ++ first_frame l.file ∷ []) ms) (sym marks) (walk_entered h lead mark))
followed old new f l r e h lead (to_visited mark) = absurd cc
followed {set'} old new f l r e h lead (to_left mark marks frames) =
    subst (λ (fs : List VisitFrame). IsWalk set' fs new.marks.items) (sym frames)
    (subst (λ (ms : List VisitState). IsWalk set' (old.frames.items ++ next_frame f ∷ []) ms) (sym marks) (walk_passed h lead mark))

pub ringed : {set' : List ParsedFile} (old new : Traversal) (f : VisitFrame) (l : ImportLink) (r : Bool) → r ≡ true
    → IsInnermost set' old.frames.items f old.marks.items → IsImport set' f.file f.next l.file → IsFollowStep old f l r new
    → IsRootVisit set' (at_cycle f.file f.next)
ringed old new f l r e h lead (to_new mark marks frames) = absurd cc
ringed old new f l r e h lead (to_visited mark) = walk_closed h lead mark
ringed old new f l r e h lead (to_left mark marks frames) = absurd cc

pub less_followed : (set' : List ParsedFile) (old new : Traversal) (frames : List VisitFrame) (f : VisitFrame) (l : ImportLink) (r : Bool)
    → r ≡ false → frames ≡ old.frames.items ++ f ∷ [] → IsImport set' f.file f.next l.file → IsFollowStep old f l r new
    → remaining set' new.frames.items new.marks.items < remaining set' frames old.marks.items
less_followed set' old new frames f l r e is lead (to_new mark marks frames') =
    rw (is, frames', marks) (less_entered set' old.frames.items f l.file old.marks.items (count_past lead.import_at) (link_file lead) mark)
less_followed set' old new frames f l r e is lead (to_visited mark) = absurd cc
less_followed set' old new frames f l r e is lead (to_left mark marks frames') =
    rw (is, frames', marks) (less_passed set' old.frames.items f old.marks.items (count_past lead.import_at))

pub less_gone : (set' : List ParsedFile) (rest frames : List VisitFrame) (f : VisitFrame) (marks : List VisitState)
    → frames ≡ rest ++ f ∷ [] → remaining set' rest (set marks f.file Left) < remaining set' frames marks
less_gone set' rest frames f marks is = rw is (less_left set' rest f marks)
