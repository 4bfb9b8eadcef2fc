-- The bytes between two indices of a list.
use Rattle.std.proofs.Common.{◌≡◌, ◌≤◌, ℕ, ◌+◌, ◌-◌, List, ◌++◌, length, length-drop, take, drop, ap, sym, ◌∙◌, arith}
use Rattle.std.proofs.Math.Seq.{take-add, take-append-add, take-append_seam, drop-append_seam}
use Rattle.std.proofs.lemmas.List.{drop-take, drop-append-le, take-append-le, length-take-le}

-- the first bytes are those at the start of the window, and the others follow
pub window-given : (room : List ℕ) (start count end : ℕ) → start + count ≤ end → end ≤ length room
    → drop start (take end room) ≡ take count (drop start room) ++ drop (start + count) (take end room)
window-given room start count end within inside =
    let after : ℕ = start + count in
    let more : ℕ = end - after in
    let front : List ℕ = take after room in
    let back : List ℕ = take more (drop after room) in
    let sum : end ≡ after + more = omega (arith, within) in
    let len : length front ≡ after = length-take-le after room (omega (arith, within, inside)) in
    let whole : take end room ≡ front ++ back = ap (λ n. take n room) sum ∙ take-add after more room in
    let early : start ≤ length front = omega (arith, len) in
    let left : drop after (take end room) ≡ back = ap (drop after) whole ∙ ap (λ n. drop n (front ++ back)) (sym len) ∙ drop-append_seam front back in
    ap (drop start) whole ∙ drop-append-le start front back early ∙ ap (λ bytes. bytes ++ back)
    (drop-take start count room) ∙ ap (λ bytes. take count (drop start room) ++ bytes) (sym left)

-- bytes that were written after the window's end follow the others
pub window-grown : (old room shown buf rest : List ℕ) (start end n : ℕ) → drop start (take end room) ≡ old
    → shown ≡ room → start ≤ end → end ≤ length room → n ≤ length buf
    → old ++ take n buf ≡ drop start (take (end + n) (take end shown ++ (buf ++ rest)))
window-grown old room shown buf rest start end n was seen early inside within =
    let front : List ℕ = take end shown in
    let all : end ≤ length shown = rw seen inside in
    let len : length front ≡ end = length-take-le end shown all in
    let first : take (end + n) (front ++ (buf ++ rest)) ≡ front ++ take n buf =
    ap (λ m. take (m + n) (front ++ (buf ++ rest))) (sym len) ∙ take-append-add front (buf ++ rest) n
    ∙ ap (λ bytes. front ++ bytes) (take-append-le n buf rest within) in
    let window : drop start front ≡ old = ap (λ bytes. drop start (take end bytes)) seen ∙ was in
    ap (λ bytes. bytes ++ take n buf) (sym window) ∙ sym (drop-append-le start front (take n buf) (omega (arith, len, early))) ∙ ap (drop start) (sym first)

-- the first bytes were copied out of the window, into the start of a buffer
pub window-copied : (old room shown buf copied : List ℕ) (start count end : ℕ) → drop start (take end room) ≡ old
    → shown ≡ room → copied ≡ take (start + count - start) (drop start shown) → start + count ≤ end
    → end ≤ length room → old ≡ take count (copied ++ drop count buf) ++ drop (start + count) (take end room)
window-copied old room shown buf copied start count end was seen is within inside =
    let some : start + count - start ≡ count = omega arith in
    let bytes : copied ≡ take count (drop start room) = is ∙ ap (λ n. take n (drop start shown)) some ∙ ap (λ all. take count (drop start all)) seen in
    let len : length copied ≡ count = ap length bytes ∙ length-take-le count (drop start room) (omega (arith, within, inside, length-drop start room)) in
    let first : take count (copied ++ drop count buf) ≡ copied = ap (λ n. take n (copied ++ drop count buf)) (sym len) ∙ take-append_seam copied (drop count buf) in
    sym was ∙ window-given room start count end within inside ∙ ap (λ front. front ++ drop (start + count) (take end room)) (sym bytes ∙ sym first)
