-- A method is read, token by token.
use Rattle.std.proofs.Common.{subst, ◌≡◌, ℕ, Bool, true, false, List, [], ◌∷◌, ◌++◌, codes, refl, ap, ◌∙◌}
use Rattle.std.specs.Prelude.{Ok, ◌&&◌}
use Rattle.std.specs.Str.{bytes_eq}
use Rattle.std.proofs.lemmas.Bool.{or_parts, false_from_ne_true}
use Rattle.std.proofs.lemmas.List.{append_assoc}
use Rattle.proto_ast.specs.Dot.{dot}
use Rattle.proto_grammar.specs.Lexemes.{Lexeme, semicolon, opening_brace, opening_paren, closing_paren, span_to, make_word, rooted, IsWord, IsPunctuator, is_the_word}
use Rattle.proto_grammar.specs.Grammar.{IsDottedName, one, more, relative, absolute, starts_with_word, group_word, IsRpcType, stream_type, other_type}
use Rattle.proto_schema.specs.Files.{IsRpcHead, rpc_head}
use Rattle.proto_grammar.specs.Lexemes.{is_type_part}
use Rattle.proto_grammar.specs.Advancing.{advance_rpc_type, after_type, is_streaming, advance_rpc, of_input, of_output}
use Rattle.proto_schema.proofs.Choices.{dotted_differs}
use Rattle.proto_schema.proofs.NameLemmas.{Walks, stay, go, walks_on, walks_in, is_name}
use Rattle.proto_schema.proofs.NameRest.{behind_dot}
use Rattle.proto_schema.proofs.FieldReads.{TypedGoes, typed_whole, first_goes, root_goes, dot_goes, part_goes, rooted_goes, no_group}
use Rattle.proto_ast.specs.declared.file.Span.{Span}
use Rattle.proto_ast.specs.declared.file.Word.{Word}
use Rattle.proto_ast.specs.declared.file.RpcDecl.{RpcDecl}
use Rattle.proto_grammar.specs.declared.name.NameState.{NameState}
use Rattle.proto_grammar.specs.declared.name.NameState.TheVariants as names
use Rattle.proto_grammar.specs.declared.name.NameStep.TheVariants as name_steps
use Rattle.proto_grammar.specs.declared.rpc.RpcState.{RpcState}
use Rattle.proto_grammar.specs.declared.rpc.RpcState.TheVariants as rpcs
use Rattle.proto_grammar.specs.declared.rpc.RpcStep.TheVariants as steps

-- ---- the type

abbrev pub RpcTypeGoes : NameState → Lexeme → NameState → Type 0
RpcTypeGoes s x t = advance_rpc_type s x ≡ Ok (name_steps.More t)

-- no `stream` is read
pub quiet : (s t : NameState) (x : Lexeme) → is_streaming s x ≡ false → TypedGoes s x t → RpcTypeGoes s x t
quiet s t x q h = rw q (ap (after_type x) h)

-- a name with a dot isn't `stream`
pub not_stream : (v n : List ℕ) → bytes_eq (v ++ dot ∷ n) (codes "stream") ≡ false
not_stream v n = false_from_ne_true (bytes_eq (v ++ dot ∷ n) (codes "stream")) (λ h. dotted_differs v n (codes "stream") refl h)

quiet_part : (w : Word) (x : Lexeme) → bytes_eq w.name (codes "stream") ≡ false → is_streaming (names.Part w) x ≡ false
quiet_part w x h = rw h refl

behind : {ys : List Lexeme} {w : Word} (v : Word) → IsDottedName ys w
    → Walks RpcTypeGoes (names.Dot v) ys (names.Part (behind_dot v w))
behind v (one x n h) = go x [] refl (quiet (names.Dot v) (names.Part (make_word (v.name ++ dot ∷ n) (span_to v.span x.span))) x refl (part_goes x n v h)) (stay refl refl)
behind v (more x y n zs w h d f) =
    let u : Word = make_word (v.name ++ dot ∷ n) (span_to v.span x.span) in
    let same : ◌≡◌ {A = List ℕ} ((v.name ++ dot ∷ n) ++ dot ∷ w.name) (v.name ++ dot ∷ (n ++ dot ∷ w.name)) = append_assoc v.name (dot ∷ n) (dot ∷ w.name) in
    go x (y ∷ zs) refl (quiet (names.Dot v) (names.Part u) x refl (part_goes x n v h))
    (go y zs refl (quiet (names.Part u) (names.Dot u) y (quiet_part u y (not_stream v.name n)) (dot_goes y u d))
    (subst (λ (b : List ℕ). Walks RpcTypeGoes (names.Dot u) zs (names.Part (make_word b (span_to v.span w.span)))) same (behind u f)))

behind_root : {ys : List Lexeme} {w : Word} (s : Span) → IsDottedName ys w
    → Walks RpcTypeGoes (names.Rooted s) ys (names.Part (rooted s w))
behind_root s (one x n h) = go x [] refl (quiet (names.Rooted s) (names.Part (make_word (dot ∷ n) (span_to s x.span))) x refl (rooted_goes x n s h)) (stay refl refl)
behind_root s (more x y n zs w h d f) =
    let u : Word = make_word (dot ∷ n) (span_to s x.span) in
    go x (y ∷ zs) refl (quiet (names.Rooted s) (names.Part u) x refl (rooted_goes x n s h))
    (go y zs refl (quiet (names.Part u) (names.Dot u) y (quiet_part u y (not_stream [] n)) (dot_goes y u d)) (behind u f))

-- the first token is neither `stream` nor `group`
words_apart : (x : Lexeme) (ys : List Lexeme) → starts_with_word (codes "stream" ∷ group_word) (x ∷ ys) ≡ false
    → (is_the_word x.means (codes "stream") ≡ false) × (starts_with_word group_word (x ∷ ys) ≡ false)
words_apart x ys h = or_parts (is_the_word x.means (codes "stream")) (starts_with_word group_word (x ∷ ys)) h

says_name : (x : Lexeme) (n w : List ℕ) → IsWord x n → is_the_word x.means w ≡ false → bytes_eq n w ≡ false
says_name x n w h e = rw h at e

pub rpc_type_reads : {ys : List Lexeme} {w : Word} → IsRpcType ys w → Walks RpcTypeGoes names.Start ys (names.Part w)
rpc_type_reads (stream_type x h) = go x [] refl (quiet names.Start (names.Part (make_word (codes "stream") x.span)) x refl (first_goes x (codes "stream") h (rw h refl))) (stay refl refl)
rpc_type_reads (other_type (relative (one x n h)) g) =
    go x [] refl (quiet names.Start (names.Part (make_word n x.span)) x refl
    (first_goes x n h (no_group x [] (words_apart x [] g).1))) (stay refl refl)
rpc_type_reads (other_type (relative (more x y n zs w h d f)) g) =
    go x (y ∷ zs) refl (quiet names.Start (names.Part (make_word n x.span)) x refl (first_goes x n h (no_group x (y ∷ zs) (words_apart x (y ∷ zs) g).1)))
    (go y zs refl (quiet (names.Part (make_word n x.span)) (names.Dot (make_word n x.span)) y
    (quiet_part (make_word n x.span) y (says_name x n (codes "stream") h (words_apart x (y ∷ zs) g).0))
    (dot_goes y (make_word n x.span) d)) (behind (make_word n x.span) f))
rpc_type_reads (other_type (absolute x {ys = ys} h f) g) = go x ys refl (quiet names.Start (names.Rooted x.span) x refl (root_goes x h)) (behind_root x.span f)

type_ends : (w : Word) (x : Lexeme) → IsPunctuator x closing_paren → advance_rpc_type (names.Part w) x ≡ Ok (name_steps.Whole w)
type_ends w x h = rw (still) (ap (after_type x) (typed_whole w x (rw h refl)) ∙ rw h refl)
  where
    still : is_streaming (names.Part w) x ≡ false
    still = by (bytes_eq w.name (codes "stream"))
      where
        by : (b : Bool) → (b && is_type_part x.means) ≡ false
        by true = rw h refl
        by false = refl

-- ---- the method

abbrev pub RpcGoes : RpcState → Lexeme → RpcState → Type 0
RpcGoes s x t = advance_rpc s x ≡ Ok (steps.More t)

abbrev pub RpcEnds : RpcState → Lexeme → RpcDecl × Bool → Type 0
RpcEnds s x r = advance_rpc s x ≡ Ok (steps.Done r.0 r.1)

pub start_goes : (x : Lexeme) (n : List ℕ) → IsWord x n → RpcGoes rpcs.Start x (rpcs.Named (make_word n x.span))
unfolding advance_rpc
start_goes x n h = is_name x (λ n. steps.More (rpcs.Named (make_word n x.span))) n h

pub named_goes : (name : Word) (x : Lexeme) → IsPunctuator x opening_paren
    → RpcGoes (rpcs.Named name) x (rpcs.Input name names.Start)
unfolding advance_rpc
named_goes name x h = rw h refl

pub in_input : (name : Word) (s t : NameState) (x : Lexeme) → RpcTypeGoes s x t
    → RpcGoes (rpcs.Input name s) x (rpcs.Input name t)
unfolding advance_rpc
in_input name s t x h = ap (of_input name) h

pub input_ends : (name w : Word) (x : Lexeme) → IsPunctuator x closing_paren
    → RpcGoes (rpcs.Input name (names.Part w)) x (rpcs.Returns name w)
unfolding advance_rpc
input_ends name w x h = ap (of_input name) (type_ends w x h)

pub returns_goes : (name input : Word) (x : Lexeme) → IsWord x (codes "returns")
    → RpcGoes (rpcs.Returns name input) x (rpcs.Open name input)
unfolding advance_rpc
returns_goes name input x h = rw h refl

pub open_goes : (name input : Word) (x : Lexeme) → IsPunctuator x opening_paren
    → RpcGoes (rpcs.Open name input) x (rpcs.Output name input names.Start)
unfolding advance_rpc
open_goes name input x h = rw h refl

pub in_output : (name input : Word) (s t : NameState) (x : Lexeme) → RpcTypeGoes s x t
    → RpcGoes (rpcs.Output name input s) x (rpcs.Output name input t)
unfolding advance_rpc
in_output name input s t x h = ap (of_output name input) h

pub output_ends : (name input w : Word) (x : Lexeme) → IsPunctuator x closing_paren
    → RpcGoes (rpcs.Output name input (names.Part w)) x (rpcs.End (record { name = name; input = input; output = w }))
unfolding advance_rpc
output_ends name input w x h = ap (of_output name input) (type_ends w x h)

pub semicolon_ends : (r : RpcDecl) (x : Lexeme) → IsPunctuator x semicolon → RpcEnds (rpcs.End r) x (r, false)
unfolding advance_rpc
semicolon_ends r x h = rw h refl

pub brace_ends : (r : RpcDecl) (x : Lexeme) → IsPunctuator x opening_brace → RpcEnds (rpcs.End r) x (r, true)
unfolding advance_rpc
brace_ends r x h = rw h refl

-- `rpc`, followed by the tokens up to the last one
pub data RpcReads (all : List Lexeme) (r : RpcDecl) : Type 0 where
  rpc_reads : (x : Lexeme) {ys : List Lexeme} → IsWord x (codes "rpc") → Walks RpcGoes rpcs.Start ys (rpcs.End r)
      → all ≡ x ∷ ys → RpcReads all r

pub head_reads : {all : List Lexeme} {r : RpcDecl} → IsRpcHead all r → RpcReads all r
head_reads (rpc_head a b c d e f g n {is = is} {os = os} {input = i} {output = o} ha hb hc ti hd he hf to hg q) =
    let name : Word = make_word n b.span in
    let ends : Walks RpcGoes (rpcs.Output name i names.Start) (os ++ g ∷ []) (rpcs.End (record { name = name; input = i; output = o })) =
    walks_on RpcGoes (walks_in RpcTypeGoes RpcGoes (λ s. rpcs.Output name i s) (in_output name i) (rpc_type_reads to)) (go g [] refl (output_ends name i o g hg) (stay refl refl)) in
    let middle : Walks RpcGoes (rpcs.Input name names.Start) (is ++ d ∷ e ∷ f ∷ (os ++ g ∷ [])) (rpcs.End (record { name = name; input = i; output = o })) =
    walks_on RpcGoes (walks_in RpcTypeGoes RpcGoes (λ s. rpcs.Input name s) (in_input name) (rpc_type_reads ti))
    (go d (e ∷ f ∷ (os ++ g ∷ [])) refl (input_ends name i d hd)
    (go e (f ∷ (os ++ g ∷ [])) refl (returns_goes name i e he)
    (go f (os ++ g ∷ []) refl (open_goes name i f hf) ends))) in
    rpc_reads a ha (go b (c ∷ (is ++ d ∷ e ∷ f ∷ (os ++ g ∷ []))) refl (start_goes b n hb) (go c (is ++ d ∷ e ∷ f ∷ (os ++ g ∷ [])) refl (named_goes name c hc) middle))
    (q ∙ ap (λ (l : List Lexeme). a ∷ b ∷ c ∷ l) (append_assoc is (d ∷ e ∷ f ∷ os) (g ∷ [])))
