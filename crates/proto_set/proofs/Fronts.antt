-- The files that an input starts with, and the remainder.
use Rattle.std.proofs.Common.{◌≡◌, ℕ, zero, suc, ◌+◌, ◌<◌, ◌≤◌, List, [], ◌∷◌, ◌++◌, length, take, drop, ◌⊎◌, inl}
use Rattle.std.proofs.Common.{inr, refl, ap, sym, subst, ◌∙◌, arith, append_assoc, length-append}
use Rattle.std.specs.Prelude.{All, codes}
use Rattle.std.specs.List.{flat_map, AllByRecursion}
use Rattle.std.proofs.lemmas.Bool.{cases_lt}
use Rattle.std.proofs.lemmas.Grind.{flat_map-append}
use Rattle.std.proofs.lemmas.List.{append-nil, append_cancel_left, length-take-le, take-append-drop}
use Rattle.std.proofs.lemmas.List.Concat.{flat_map-cons}
use Rattle.std.proofs.lemmas.List.Elements.{recursion_from_All, All-from_recursion}
use Rattle.proto_set.specs.Bundle.{BundledFile, paths_of, bundle_first_line, header_line, file_text, bundle_text, IsPathWord, IsBundle, whole_line, no_line_feed, IsBundleOf}
use Rattle.proto_set.specs.BundleFaults
use Rattle.proto_set.specs.BundleFaults.{IsBreakAfter, no_file, too_many, no_header, too_few, HasBreakAt, IsBundleFault}
use Rattle.proto_set.specs.ReaderParts.{HasFile, HasNoFile}
use Rattle.proto_set.proofs.Cuts.{head_is}
use Rattle.proto_set.proofs.Headers.{header_once, header_or_none}

abbrev pub AreWords : List BundledFile → Type 0
AreWords files = AllByRecursion (λ f. IsPathWord f.0) files

pub words_down : (files : List BundledFile) → AllByRecursion IsPathWord (paths_of files) → AreWords files
words_down [] h = tt
words_down (f ∷ fs) h = (h.0, words_down fs h.1)

pub words_up : (files : List BundledFile) → AreWords files → AllByRecursion IsPathWord (paths_of files)
words_up [] h = tt
words_up (f ∷ fs) h = (h.0, words_up fs h.1)

pub are_words : (files : List BundledFile) → All IsPathWord (paths_of files) → AreWords files
are_words files h = words_down files (recursion_from_All IsPathWord (paths_of files) h)

pub all_words : (files : List BundledFile) → AreWords files → All IsPathWord (paths_of files)
all_words files h = All-from_recursion IsPathWord (paths_of files) (words_up files h)

pub words_push : (files : List BundledFile) (f : BundledFile) → AreWords files → IsPathWord f.0 → AreWords (files ++ f ∷ [])
words_push [] f h w = (w, tt)
words_push (g ∷ gs) f h w = (h.0, words_push gs f h.1 w)

abbrev pub texts_of : List BundledFile → List ℕ
texts_of files = flat_map file_text files

file_first : (f : BundledFile) (fs : List BundledFile) (rest : List ℕ) → texts_of (f ∷ fs) ++ rest ≡ file_text f ++ (texts_of fs ++ rest)
file_first f fs rest = ap (λ (t : List ℕ). t ++ rest) (flat_map-cons file_text f fs) ∙ append_assoc (file_text f) (texts_of fs) rest

-- the header line of a file, followed by its bytes and the remainder
file_text-behind : (f : BundledFile) (rest : List ℕ) → file_text f ++ rest ≡ header_line f.0 (length f.1) ++ (f.1 ++ rest)
file_text-behind f rest = append_assoc (header_line f.0 (length f.1)) f.1 rest

-- ---- a list that is split by its length

cut_long : (xs ys r s : List ℕ) → length xs ≡ length ys → xs ++ r ≡ ys ++ s → (xs ≡ ys) × (r ≡ s)
cut_long [] [] r s n e = (refl, e)
cut_long [] (y ∷ ys) r s n e = absurd (omega (arith, n))
cut_long (x ∷ xs) [] r s n e = absurd (omega (arith, n))
cut_long (x ∷ xs) (y ∷ ys) r s n e =
    let parts = head_is x y (xs ++ r) (ys ++ s) e in
    let rest = cut_long xs ys r s (omega (arith, n)) parts.1 in
    ((λ i. parts.0 i ∷ rest.0 i), rest.1)

-- bytes start with at most one file
pub file_once : (f g : BundledFile) (rest more : List ℕ) → IsPathWord f.0 → IsPathWord g.0 → file_text f ++ rest ≡ file_text g ++ more → (f ≡ g) × (rest ≡ more)
file_once f g rest more w v e =
    let heads = header_once f.0 g.0 (length f.1) (length g.1) (f.1 ++ rest) (g.1 ++ more) w v (sym (file_text-behind f rest) ∙ e ∙ file_text-behind g more) in
    let bodies = cut_long f.1 g.1 rest more heads.1 heads.2 in
    ((λ i. (heads.0 i, bodies.0 i)), bodies.1)

some_text : (f : BundledFile) (rest : List ℕ) → file_text f ++ rest ≡ [] → ⊥
some_text f rest e = absurd cc

-- ---- no file follows

-- the bytes start with no file
abbrev pub NoFile : List ℕ → Type 0
NoFile bytes = (f : BundledFile) (more : List ℕ) → IsPathWord f.0 → bytes ≡ file_text f ++ more → ⊥

pub no_file_in_nothing : (bytes : List ℕ) → bytes ≡ [] → NoFile bytes
no_file_in_nothing bytes none f more w e = some_text f more (sym e ∙ none)

no_file_of : (bytes : List ℕ) → HasNoFile bytes → NoFile bytes
no_file_of bytes h f more w e = elim h [
  | inl none ↦ none f.0 (length f.1) (f.1 ++ more) w (e ∙ file_text-behind f more)
  | inr few ↦
      let same = header_once few.path f.0 few.size (length f.1) few.behind (f.1 ++ more) few.word w (sym few.text ∙ e ∙ file_text-behind f more) in
      omega (arith, few.fewer, same.1, ap (length {A = ℕ}) same.2, length-append f.1 more)
]

-- no further file follows these at most 64 files: they are 64, or the remainder starts with no file
abbrev pub NoFurther : List BundledFile → List ℕ → Type 0
NoFurther files rest = (length files ≤ 64) × (length files < 64 → NoFile rest)

pub no_further : (files : List BundledFile) (rest : List ℕ) → IsBreakAfter files rest → NoFurther files rest
no_further files rest (no_file none nothing) = (omega (arith, ap (length {A = BundledFile}) none), λ _. no_file_in_nothing rest nothing)
no_further files rest (too_many all some) = (omega (arith, all), λ fewer. absurd (omega (arith, all, fewer)))
no_further files rest (no_header fewer some none) = (omega (arith, fewer), λ _. no_file_of rest (inl none))
no_further files rest (too_few fewer few) = (omega (arith, fewer), λ _. no_file_of rest (inr few))

-- the leading files are determined if no further one follows them
one_front : (files others : List BundledFile) (rest more : List ℕ) (n : ℕ) → AreWords files → AreWords others
    → n + length files ≤ 64 → (n + length files < 64 → NoFile rest) → n + length others ≤ 64 → (n + length others < 64 → NoFile more)
    → texts_of files ++ rest ≡ texts_of others ++ more → (files ≡ others) × (rest ≡ more)
one_front [] [] rest more n w v few stops many ends e = (refl, e)
one_front [] (g ∷ gs) rest more n w v few stops many ends e = absurd (stops (omega (arith, many)) g (texts_of gs ++ more) v.0 (e ∙ file_first g gs more))
one_front (f ∷ fs) [] rest more n w v few stops many ends e = absurd (ends (omega (arith, few)) f (texts_of fs ++ rest) w.0 (sym e ∙ file_first f fs rest))
one_front (f ∷ fs) (g ∷ gs) rest more n w v few stops many ends e =
    let heads = file_once f g (texts_of fs ++ rest) (texts_of gs ++ more) w.0 v.0 (sym (file_first f fs rest) ∙ e ∙ file_first g gs more) in
    let later = one_front fs gs rest more (suc n) w.1 v.1 (omega (arith, few)) (λ h. stops (omega (arith, h))) (omega (arith, many)) (λ h. ends (omega (arith, h))) heads.1 in
    ((λ i. heads.0 i ∷ later.0 i), later.1)

pub front_once : (input : List ℕ) (files others : List BundledFile) (rest more : List ℕ) → AreWords files → AreWords others → NoFurther files rest → NoFurther others more
    → input ≡ bundle_text files ++ rest → input ≡ bundle_text others ++ more → (files ≡ others) × (rest ≡ more)
front_once input files others rest more w v stops ends e d =
    let same : bundle_first_line ++ (texts_of files ++ rest) ≡ bundle_first_line ++ (texts_of others ++ more) =
    sym (append_assoc bundle_first_line (texts_of files) rest) ∙ sym e ∙ d ∙ append_assoc bundle_first_line (texts_of others) more in
    one_front files others rest more 0 w v (omega (arith, stops.0)) (λ h. stops.1 (omega (arith, h))) (omega (arith, ends.0)) (λ h. ends.1 (omega (arith, h)))
    (append_cancel_left bundle_first_line (texts_of files ++ rest) (texts_of others ++ more) same)

-- ---- one more file

-- a file follows the leading ones
pub pushed : (input : List ℕ) (files : List BundledFile) (f : BundledFile) (rest behind : List ℕ) → input ≡ bundle_text files ++ rest → rest ≡ file_text f ++ behind
    → input ≡ bundle_text (files ++ f ∷ []) ++ behind
pushed input files f rest behind e is =
    let one : texts_of (f ∷ []) ≡ file_text f = flat_map-cons file_text f [] ∙ append-nil (file_text f) in
    let texts : texts_of (files ++ f ∷ []) ≡ texts_of files ++ file_text f = flat_map-append file_text files (f ∷ []) ∙ ap (λ (t : List ℕ). texts_of files ++ t) one in
    e ∙ ap (λ (t : List ℕ). (bundle_first_line ++ texts_of files) ++ t) is
    ∙ sym (append_assoc (bundle_first_line ++ texts_of files) (file_text f) behind)
    ∙ ap (λ (t : List ℕ). t ++ behind) (append_assoc bundle_first_line (texts_of files) (file_text f) ∙ ap (λ (t : List ℕ). bundle_first_line ++ t) (sym texts))

-- enough bytes follow a header line
pub file_from : (bytes path : List ℕ) (size : ℕ) (behind : List ℕ) → IsPathWord path → bytes ≡ header_line path size ++ behind → size ≤ length behind
    → HasFile bytes (path, take size behind) (drop size behind)
file_from bytes path size behind w e enough =
    let long : length (take size behind) ≡ size = length-take-le size behind enough in
    record {
      word = w;
      text = e ∙ (λ i. header_line path (sym long i) ++ sym (take-append-drop size behind) i) ∙ sym (file_text-behind (path, take size behind) (drop size behind));
    }

-- ---- the whole input

none_behind : (input : List ℕ) (files : List BundledFile) → input ≡ bundle_text files → input ≡ bundle_text files ++ []
none_behind input files e = e ∙ sym (append-nil (bundle_text files))

stops : (files : List BundledFile) → length files ≤ 64 → NoFurther files []
stops files few = (few, λ _. no_file_in_nothing [] refl)

pub spells_once : (input : List ℕ) (files others : List BundledFile) → IsBundleOf input files → IsBundleOf input others → files ≡ others
spells_once input files others s t =
    (front_once input files others [] [] (are_words files s.words) (are_words others t.words) (stops files s.few) (stops others t.few)
    (none_behind input files s.text) (none_behind input others t.text)).0

broken : (files : List BundledFile) (rest : List ℕ) → IsBreakAfter files rest → rest ≡ [] → 1 ≤ length files → ⊥
broken files rest (no_file none nothing) e some = omega (arith, some, ap (length {A = BundledFile}) none)
broken files rest (too_many all something) e some = something e
broken files rest (no_header fewer something none) e some = something e
broken files rest (too_few fewer few) e some = absurd (nothing (sym few.text ∙ e))
  where
    nothing : header_line few.path few.size ++ few.behind ≡ [] → ⊥
    nothing d = absurd cc

-- the first line without its line feed is followed by no files
none_unended : (input : List ℕ) (files : List BundledFile) (rest : List ℕ) → input ≡ bundle_text files ++ rest → input ≡ codes "mrpc-files 1" → ⊥
none_unended input files rest e d = not_there (texts_of files ++ rest) (sym d ∙ e ∙ append_assoc bundle_first_line (texts_of files) rest)
  where
    not_there : (behind : List ℕ) → codes "mrpc-files 1" ≡ bundle_first_line ++ behind → ⊥
    not_there behind e = absurd cc

never_behind : (input : List ℕ) (files : List BundledFile) (k : ℕ) → IsBundleOf input files → HasBreakAt input k → ⊥
never_behind input files k s b =
    let same = front_once input files b.files [] b.rest (are_words files s.words) (are_words b.files b.words) (stops files s.few) (no_further b.files b.rest b.ends)
    (none_behind input files s.text) b.text in
    broken b.files b.rest b.ends (sym same.1) (subst (λ (fs : List BundledFile). 1 ≤ length fs) same.0 s.some)

pub never_both : (input : List ℕ) (files : List BundledFile) (k : ℕ) → IsBundleOf input files → IsBundleFault input k → ⊥
never_both input files k s (BundleFaults.breaks_off b) = never_behind input files k s b
never_both input files k s (BundleFaults.no_line_feed e n) = none_unended input files [] (none_behind input files s.text) e

behind_once : (input : List ℕ) (k j : ℕ) → HasBreakAt input k → HasBreakAt input j → k ≡ j
behind_once input k j a b =
    let same = (front_once input a.files b.files a.rest b.rest (are_words a.files a.words) (are_words b.files b.words)
    (no_further a.files a.rest a.ends) (no_further b.files b.rest b.ends) a.text b.text).0 in
    a.number ∙ ap (λ (fs : List BundledFile). length fs + 1) same ∙ sym b.number

pub breaks_once : (input : List ℕ) (k j : ℕ) → IsBundleFault input k → IsBundleFault input j → k ≡ j
breaks_once input k j (BundleFaults.breaks_off a) (BundleFaults.breaks_off b) = behind_once input k j a b
breaks_once input k j (BundleFaults.breaks_off a) (BundleFaults.no_line_feed e n) = absurd (none_unended input a.files a.rest a.text e)
breaks_once input k j (BundleFaults.no_line_feed e n) (BundleFaults.breaks_off b) = absurd (none_unended input b.files b.rest b.text e)
breaks_once input k j (BundleFaults.no_line_feed e n) (BundleFaults.no_line_feed d m) = n ∙ sym m

-- ---- one of both holds

abbrev pub SpelledOrBroken : List ℕ → Type 0
SpelledOrBroken input = ((files : List BundledFile) × IsBundleOf input files) ⊎ ((k : ℕ) × IsBundleFault input k)

break_at : (input : List ℕ) (files : List BundledFile) (rest : List ℕ) → input ≡ bundle_text files ++ rest → AreWords files → IsBreakAfter files rest → SpelledOrBroken input
break_at input files rest e w ends = inr (length files + 1, BundleFaults.breaks_off (record { files = files; rest = rest; text = e; words = all_words files w; ends = ends; number = refl }))

ended : (input : List ℕ) (files : List BundledFile) → input ≡ bundle_text files ++ [] → AreWords files → length files ≤ 64 → SpelledOrBroken input
ended input [] e w few = break_at input [] [] e w (no_file refl refl)
ended input (f ∷ fs) e w few = inl (f ∷ fs, record { text = e ∙ append-nil (bundle_text (f ∷ fs)); words = all_words (f ∷ fs) w; some = omega arith; few = few })

go_on : (left : ℕ) (input : List ℕ) (files : List BundledFile) (rest : List ℕ) → left + length files ≡ 64
    → input ≡ bundle_text files ++ rest → AreWords files → SpelledOrBroken input
go_on left input files [] n e w = ended input files e w (omega (arith, n))
go_on zero input files (c ∷ cs) n e w = break_at input files (c ∷ cs) e w (too_many (omega (arith, n)) (λ d. cc))
go_on (suc left) input files (c ∷ cs) n e w = elim (header_or_none (c ∷ cs)) [
  | inr none ↦ break_at input files (c ∷ cs) e w (no_header (omega (arith, n)) (λ d. cc) none)
  | inl h ↦ elim (cases_lt (length h.behind) h.size) [
    | inl fewer ↦ break_at input files (c ∷ cs) e w (too_few (omega (arith, n)) (record { path = h.path; size = h.size; behind = h.behind; word = h.word; text = h.text; fewer = fewer }))
    | inr enough ↦
        let f : BundledFile = (h.path, take h.size h.behind) in
        let here = file_from (c ∷ cs) h.path h.size h.behind h.word h.text enough in
        go_on left input (files ++ f ∷ []) (drop h.size h.behind) (omega (arith, n, length-append files (f ∷ [])))
        (pushed input files f (c ∷ cs) (drop h.size h.behind) e here.text) (words_push files f w h.word)
  ]
]

pub spelled_or_broken : (input : List ℕ) → IsBundle input → SpelledOrBroken input
spelled_or_broken input (whole_line behind text) = go_on 64 input [] behind refl (text ∙ ap (λ (t : List ℕ). t ++ behind) (sym (append-nil bundle_first_line))) tt
spelled_or_broken input (no_line_feed e) = inr (1, BundleFaults.no_line_feed e refl)
