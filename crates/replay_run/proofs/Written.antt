-- Lines that are written one after another.
use Rattle.std.proofs.Common.{◌≡◌, ℕ, zero, suc, ◌+◌, ◌≤◌, List, [], ◌∷◌, ◌++◌, length, take, drop, map}
use Rattle.std.proofs.Common.{Option, Some, refl, sym, ap, ◌∙◌, subst, append_assoc, append-nil, length-append, arith}
use Rattle.std.proofs.lemmas.List.{take-append-le}
use Rattle.std.specs.Prelude.{Err, Ok, OnErr, Result, slice_get}
use Rattle.std.specs.List.{flat_map}
use Rattle.std.specs.Io.KnownBytes.{Appends}
use Rattle.mrpc_table.specs.declared.table.Table.{Table}
use Rattle.call_history.specs.declared.happening.Happening.{Happening}
use Rattle.audit_text.specs.Lines.{audit, audit_line}
use Rattle.replay_run.specs.Follows.{event_on}
use Rattle.replay_run.specs.Kept.{IsPrefixWritten}
use Rattle.replay_run.specs.declared.replay_error.ReplayError.{ReplayError}
use Rattle.replay_run.proofs.Bytes.{appends-more, appends-nothing, take-behind}

-- a prefix of some text was written, and this is the remainder
pub record TellsRest (first out : Option (List ℕ)) (rest all : List ℕ) : Type 0 where
  pub done : List ℕ
  pub told : Appends first out done
  pub both : done ++ rest ≡ all

pub rest-begins : (out : Option (List ℕ)) (all : List ℕ) → TellsRest out out all all
rest-begins out all = record { done = []; told = appends-nothing out; both = refl }

pub rest-more : (first out next : Option (List ℕ)) (one rest all : List ℕ) → TellsRest first out (one ++ rest) all → Appends out next one → TellsRest first next rest all
rest-more first out next one rest all t a = record {
  done = t.done ++ one;
  told = appends-more first out next t.done one t.told a;
  both = append_assoc t.done one rest ∙ t.both;
}

pub rest-ends : (first out : Option (List ℕ)) (rest all : List ℕ) → rest ≡ [] → TellsRest first out rest all → Appends first out all
rest-ends first out rest all none t = subst (Appends first out) (sym (append-nil t.done) ∙ ap (λ r. t.done ++ r) (sym none) ∙ t.both) t.told

-- a prefix of the remainder was written, too
pub rest-some : (first out next : Option (List ℕ)) (rest all : List ℕ) → TellsRest first out rest all → IsPrefixWritten out next rest → IsPrefixWritten first next all
rest-some first out next rest all t some =
    let few : some.0 ≤ length rest = some.1 in
    let long : length (t.done ++ rest) ≡ length t.done + length rest = length-append t.done rest in
    subst (IsPrefixWritten first next) t.both (
      length t.done + some.0,
      omega arith,
      subst (Appends first next) (sym (take-behind t.done rest some.0)) (appends-more first out next t.done (take some.0 rest) t.told some.2),
    )

pub some-none : (out : Option (List ℕ)) (rest : List ℕ) → IsPrefixWritten out out rest
some-none out rest = (0, omega arith, appends-nothing out)

pub some-in : (out next : Option (List ℕ)) (one rest : List ℕ) → IsPrefixWritten out next one → IsPrefixWritten out next (one ++ rest)
some-in out next one rest some =
    let few : some.0 ≤ length one = some.1 in
    let long : length (one ++ rest) ≡ length one + length rest = length-append one rest in
    (some.0, omega arith, subst (Appends out next) (sym (take-append-le some.0 one rest few)) some.2)

-- ---- lists from an index on

pub drop-at : {A : Type 0} (xs : List A) (place : ℕ) (x : A) → slice_get xs place ≡ Some x → drop place xs ≡ x ∷ drop (suc place) xs
drop-at [] place x at = cc
drop-at (y ∷ xs) zero x at = let same : y ≡ x = cc in ap (λ z. z ∷ xs) same
drop-at (y ∷ xs) (suc place) x at = drop-at xs place x at

-- the element at an index within a list
pub there : {A : Type 0} (xs : List A) (place : ℕ) → suc place ≤ length xs → (x : A) × (slice_get xs place ≡ Some x)
there [] place low = absurd (omega arith)
there (x ∷ xs) zero low = (x, refl)
there (x ∷ xs) (suc place) low = there xs place (omega arith)

pub drop-past : {A : Type 0} (xs : List A) (place : ℕ) → length xs ≤ place → drop place xs ≡ []
drop-past [] zero past = refl
drop-past [] (suc place) past = refl
drop-past (x ∷ xs) zero past = absurd (omega arith)
drop-past (x ∷ xs) (suc place) past = drop-past xs place (omega arith)

pub on-err : {T P : Type 0} (result : Result T ReplayError) → P → OnErr result P
on-err (Ok value) p = tt
on-err (Err stop) p = p

-- ---- the lines of events from an index on

-- the line of an event of a connection
abbrev pub told_on : Table → ℕ → Happening → List ℕ
told_on T conn what = audit_line T (event_on conn what)

pub one-by-one : (T : Table) (conn : ℕ) (hs : List Happening) → flat_map (told_on T conn) hs ≡ audit T (map (event_on conn) hs)
one-by-one T conn [] = refl
one-by-one T conn (what ∷ hs) = ap (λ l. told_on T conn what ++ l) (one-by-one T conn hs)

pub none-left : (T : Table) (conn : ℕ) (hs : List Happening) (out : Option (List ℕ)) (place : ℕ) → length hs ≤ place
    → Appends out out (audit T (map (event_on conn) (drop place hs)))
none-left T conn hs out place past =
    subst (λ d. Appends out out (audit T (map (event_on conn) d))) (sym (drop-past hs place past)) (appends-nothing out)

-- ---- the lines of elements from an index on

module _ {A : Type 0} (line_of : A → List ℕ) (xs : List A) (first out : Option (List ℕ)) (all : List ℕ) where
  pub item-one : (next : Option (List ℕ)) (place after : ℕ) (x : A) (line : List ℕ) → TellsRest first out (flat_map line_of (drop place xs)) all
      → slice_get xs place ≡ Some x → line ≡ line_of x → after ≡ suc place → Appends out next line → TellsRest first next (flat_map line_of (drop after xs)) all
  item-one next place after x line t at is after_is a =
      subst (λ n. TellsRest first next (flat_map line_of (drop n xs)) all) (sym after_is)
      (rest-more first out next (line_of x) (flat_map line_of (drop (suc place) xs)) all
      (subst (λ d. TellsRest first out (flat_map line_of d) all) (drop-at xs place x at) t) (subst (Appends out next) is a))

  pub item-some : (next : Option (List ℕ)) (place : ℕ) (x : A) (line : List ℕ) → TellsRest first out (flat_map line_of (drop place xs)) all
      → slice_get xs place ≡ Some x → line ≡ line_of x → IsPrefixWritten out next line → IsPrefixWritten first next all
  item-some next place x line t at is some =
      rest-some first out next (line_of x ++ flat_map line_of (drop (suc place) xs)) all
      (subst (λ d. TellsRest first out (flat_map line_of d) all) (drop-at xs place x at) t)
      (some-in out next (line_of x) (flat_map line_of (drop (suc place) xs)) (subst (IsPrefixWritten out next) is some))

  pub item-all : (place : ℕ) → TellsRest first out (flat_map line_of (drop place xs)) all → length xs ≤ place → Appends first out all
  item-all place t past = rest-ends first out (flat_map line_of (drop place xs)) all (ap (flat_map line_of) (drop-past xs place past)) t
