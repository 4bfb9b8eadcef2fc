-- The words of a run and its bytes.
use Rattle.std.proofs.Common.{◌≡◌, ◌≢◌, ℕ, ◌+◌, ◌-◌, ◌<◌, ◌≤◌, cond, List, [], ◌∷◌, ◌++◌, length, take, refl, sym, ap}
use Rattle.std.proofs.Common.{subst, ◌∙◌, arith, append_assoc, append-nil, inl, inr}
use Rattle.std.proofs.Math.Seq.{take-append-add}
use Rattle.std.proofs.lemmas.Bool.{ne_eqb, le-leb}
use Rattle.std.proofs.lemmas.Bool.Decides.{leb_tells}
use Rattle.mrpc_table.specs.declared.table.Kind.{Kind}
use Rattle.mrpc_table.specs.declared.table.Table.{Table}
use Rattle.graph_form.specs.Roles.{expected_after, run_length, run_address, run_word, word_bytes}
use Rattle.graph_form.specs.Placed.{Placed, loads, AreSound}
use Rattle.graph_form.specs.Forgotten.{bytes_of_run, run_at}
use Rattle.graph_copy.specs.Makes.{IsMadeFromContent}
use Rattle.graph_copy.proofs.Taking.{sound_none, one_of}

-- the remaining words of a run, after these bytes
pub record RunLeft (T : Table) (H : ℕ) (k : Kind) (left : ℕ) (all : Placed) (done : List ℕ) (rest now : List (ℕ × ℕ)) : Type 0 where
  pub chain : Placed
  pub place : ℕ
  pub before : List ℕ
  pub sound : AreSound T H ((run_word k left before, place) ∷ []) chain
  pub now_is : now ≡ loads chain ++ rest
  pub bytes : bytes_of_run all ≡ done ++ bytes_of_run chain

-- wherever the run is a prefix of the loads
abbrev pub RunsOn : List (ℕ × ℕ) → ℕ → ℕ → List (ℕ × ℕ) → List ℕ → Type 0
RunsOn start bytes left now done =
    (T : Table) (H : ℕ) (k : Kind) (place : ℕ) (all : Placed) (rest : List (ℕ × ℕ)) → AreSound T H ((run_word k bytes [], place) ∷ []) all → start ≡ loads all ++ rest
    → RunLeft T H k left all done rest now

pub run_begins : (start : List (ℕ × ℕ)) (bytes : ℕ) → RunsOn start bytes bytes start []
run_begins start bytes = λ T H k place all rest sound is. record { chain = all; place = place; before = []; sound = sound; now_is = is; bytes = refl }

long : (T : Table) (H : ℕ) (k : Kind) (left : ℕ) (before : List ℕ) (place v : ℕ) (P : Placed) → 8 < left
    → AreSound T H (expected_after T (run_word k left before) place v) P
    → AreSound T H ((run_word k (left - 8) (before ++ word_bytes v), place + 1) ∷ []) P
long T H k left before place v P more h =
    elim (leb_tells left 8) [
      | inl le ↦ absurd (omega (arith, le.1, more))
      | inr lt ↦ subst (λ b. AreSound T H (cond b [] ((run_word k (left - 8) (before ++ word_bytes v), place + 1) ∷ [])) P) lt.0 h
    ]

short : (T : Table) (H : ℕ) (k : Kind) (left : ℕ) (before : List ℕ) (place v : ℕ) (P : Placed) → left ≤ 8
    → AreSound T H (expected_after T (run_word k left before) place v) P → AreSound T H [] P
short T H k left before place v P le h = subst (λ b. AreSound T H (cond b [] ((run_word k (left - 8) (before ++ word_bytes v), place + 1) ∷ [])) P) (le-leb left 8 le) h

-- the next load gives this value
abbrev pub Gives : List (ℕ × ℕ) → ℕ → List (ℕ × ℕ) → Type 0
Gives before v after = (x : ℕ × ℕ) (xs : List (ℕ × ℕ)) → before ≡ x ∷ xs → (v ≡ x.1) × (after ≡ xs)

pub run_more : (start : List (ℕ × ℕ)) (bytes left v : ℕ) (now next : List (ℕ × ℕ)) (done : List ℕ) → RunsOn start bytes left now done → 8 < left → Gives now v next
    → RunsOn start bytes (left - 8) next (done ++ word_bytes v)
run_more start bytes left v now next done on more gives = λ T H k place all rest sound is.
    let r = on T H k place all rest sound is in
    let w = one_of T H (run_word k left r.before, r.place) r.chain rest now r.sound r.now_is in
    let g = gives (r.place, w.number) (loads w.content ++ rest) w.now_is in
    record {
      chain = w.content;
      place = r.place + 1;
      before = r.before ++ word_bytes w.number;
      sound = long T H k left r.before r.place w.number w.content more w.sound;
      now_is = g.1;
      bytes = r.bytes ∙ ap (λ Q. done ++ bytes_of_run Q) w.is
          ∙ sym (append_assoc done (word_bytes w.number) (bytes_of_run w.content))
          ∙ ap (λ n. (done ++ word_bytes n) ++ bytes_of_run w.content) (sym g.0);
    }

-- the result of a run
pub record RunDone (bytes : ℕ) (made : List ℕ) (rest after : List (ℕ × ℕ)) (all : Placed) : Type 0 where
  pub made_is : made ≡ take bytes (bytes_of_run all)
  pub after_is : after ≡ rest

pub run_ends : (start : List (ℕ × ℕ)) (bytes left v : ℕ) (now next : List (ℕ × ℕ)) (done made : List ℕ)
    → RunsOn start bytes left now done → left ≤ 8 → bytes ≡ length done + left → Gives now v next
    → made ≡ done ++ take left (word_bytes v)
    → (T : Table) (H : ℕ) (k : Kind) (place : ℕ) (all : Placed) (rest : List (ℕ × ℕ))
    → AreSound T H ((run_word k bytes [], place) ∷ []) all → start ≡ loads all ++ rest
    → RunDone bytes made rest next all
run_ends start bytes left v now next done made on le count gives is T H k place all rest sound at =
    let r = on T H k place all rest sound at in
    let w = one_of T H (run_word k left r.before, r.place) r.chain rest now r.sound r.now_is in
    let g = gives (r.place, w.number) (loads w.content ++ rest) w.now_is in
    let none = sound_none T H w.content (short T H k left r.before r.place w.number w.content le w.sound) in
    let all_bytes : bytes_of_run all ≡ done ++ word_bytes v = r.bytes ∙ ap (λ Q. done ++ bytes_of_run Q) w.is
    ∙ ap (λ Q. done ++ (word_bytes w.number ++ bytes_of_run Q)) none
    ∙ ap (λ xs. done ++ xs) (append-nil (word_bytes w.number)) ∙ ap (λ n. done ++ word_bytes n) (sym g.0) in
    record {
      made_is = is ∙ sym (take-append-add done (word_bytes v) left) ∙ ap (λ n. take n (done ++ word_bytes v)) (sym count) ∙ ap (take bytes) (sym all_bytes);
      after_is = g.1 ∙ ap (λ Q. loads Q ++ rest) none;
    }

-- ---- after the length

pub run_some : (T : Table) (H : ℕ) (k : Kind) (place bytes : ℕ) (P : Placed) → bytes ≢ 0
    → AreSound T H (expected_after T (run_length k) place bytes) P → AreSound T H ((run_address k bytes, place + 1) ∷ []) P
run_some T H k place bytes P some h = subst (λ b. AreSound T H (cond b [] ((run_address k bytes, place + 1) ∷ [])) P) (ne_eqb bytes 0 some) h

pub run_done : (before start next : List (ℕ × ℕ)) (bytes left a v : ℕ) (now : List (ℕ × ℕ)) (done made : List ℕ)
    → bytes ≢ 0 → Gives before a start → RunsOn start bytes left now done → left ≤ 8 → bytes ≡ length done + left
    → Gives now v next
    → made ≡ done ++ take left (word_bytes v) → (T : Table) (k : Kind) (place : ℕ) → IsMadeFromContent T (run_length k, place) bytes before next (λ P. made ≡ run_at bytes P)
run_done before start next bytes left a v now done made some address on le count gives is T k place = λ H content rest fine sound at.
    let w = one_of T H (run_address k bytes, place + 1) content rest before (run_some T H k place bytes content some sound) at in
    let g = address (place + 1, w.number) (loads w.content ++ rest) w.now_is in
    let d = run_ends start bytes left v now next done made on le count gives is T H k w.number w.content rest w.sound g.1 in
    (d.made_is ∙ sym (ap (run_at bytes) w.is), d.after_is)

pub word_length : (v : ℕ) → length (word_bytes v) ≡ 8
word_length v = refl
