-- The tokens that complete a method, by how much of it is read.
use Rattle.std.proofs.Common.{subst, ◌≡◌, ℕ, Bool, true, false, List, [], ◌∷◌, ◌++◌, codes, refl, ap, sym, ◌∙◌}
use Rattle.std.specs.Prelude.{Ok, Err, Result, if◌then◌else◌, ◌&&◌}
use Rattle.std.specs.Str.{bytes_eq}
use Rattle.std.proofs.lemmas.List.{append_assoc}
use Rattle.proto_ast.specs.Dot.{dot}
use Rattle.proto_grammar.specs.Lexemes.{identifier, Lexeme, semicolon, opening_brace, opening_paren, closing_paren, span_to, make_word, IsWord, IsPunctuator, is_the_word}
use Rattle.proto_grammar.specs.Grammar.{relative, IsRpcType, stream_type, other_type}
use Rattle.proto_schema.specs.Files.{IsRpcHead, rpc_head}
use Rattle.proto_grammar.specs.Lexemes.{is_type_part}
use Rattle.proto_grammar.specs.Advancing.{wrong, is_punctuator, name_part, proto_fault_at, advance_full_name, advance_type_name, advance_field_type_name}
use Rattle.proto_grammar.specs.Advancing.{advance_rpc_type, after_type, is_streaming, part_span, advance_rpc, more_rpc}
use Rattle.proto_grammar.specs.Advancing.{of_input, of_output}
use Rattle.proto_schema.proofs.Choices.{either_is, named_is, same_bytes, word_is}
use Rattle.proto_schema.proofs.NameLemmas.{mark_is}
use Rattle.proto_schema.proofs.NameRest.{PartRest, ends, goes_on, TypedRest, from_start, from_root, from_dot, from_part, from_top}
use Rattle.proto_ast.specs.declared.file.Word.{Word}
use Rattle.proto_ast.specs.declared.file.RpcDecl.{RpcDecl}
use Rattle.proto_grammar.specs.declared.fault.ProtoReason.TheVariants as reasons
use Rattle.proto_grammar.specs.declared.fault.ProtoFault.{ProtoFault}
use Rattle.proto_grammar.specs.declared.name.NameState.{NameState}
use Rattle.proto_grammar.specs.declared.name.NameState.TheVariants as names
use Rattle.proto_grammar.specs.declared.name.NameStep.{NameStep}
use Rattle.proto_grammar.specs.declared.name.NameStep.TheVariants as name_steps
use Rattle.proto_grammar.specs.declared.rpc.RpcState.{RpcState}
use Rattle.proto_grammar.specs.declared.rpc.RpcState.TheVariants as rpcs
use Rattle.proto_grammar.specs.declared.rpc.RpcStep.{RpcStep}
use Rattle.proto_grammar.specs.declared.rpc.RpcStep.TheVariants as steps

-- ---- the type

-- nothing follows `stream`
abbrev pub StreamRule : NameState → List Lexeme → Type 0
StreamRule names.Start ys = Unit {0}
StreamRule (names.Rooted s) ys = Unit {0}
StreamRule (names.Part v) ys = bytes_eq v.name (codes "stream") ≡ true → ys ≡ []
StreamRule (names.Dot v) ys = Unit {0}

abbrev pub RpcTypeRest : NameState → List Lexeme → Word → Type 0
RpcTypeRest names.Start ys w = IsRpcType ys w
RpcTypeRest (names.Rooted s) ys w = (TypedRest (names.Rooted s) ys w) × (StreamRule (names.Rooted s) ys)
RpcTypeRest (names.Part v) ys w = (TypedRest (names.Part v) ys w) × (StreamRule (names.Part v) ys)
RpcTypeRest (names.Dot v) ys w = (TypedRest (names.Dot v) ys w) × (StreamRule (names.Dot v) ys)

abbrev TypeBack : NameState → Lexeme → Result NameStep ProtoFault → Type 0
TypeBack s x (Ok (name_steps.More t)) = (ys : List Lexeme) (w : Word) → RpcTypeRest t ys w → RpcTypeRest s (x ∷ ys) w
TypeBack s x (Ok (name_steps.Whole w)) = RpcTypeRest s [] w
TypeBack s x (Err e) = Unit {0}

top_type : (x : Lexeme) → IsPunctuator x dot → (ys : List Lexeme) (w : Word)
    → (TypedRest (names.Rooted x.span) ys w) × (Unit {0}) → IsRpcType (x ∷ ys) w
top_type x d ys w k = other_type (from_top x d ys w k.0) (rw d refl)

first_type : (x : Lexeme) (n : List ℕ) → IsWord x n → is_the_word x.means (codes "group") ≡ false
    → (ys : List Lexeme) (w : Word)
    → (PartRest (make_word n x.span) ys w) × (bytes_eq n (codes "stream") ≡ true → ys ≡ []) → IsRpcType (x ∷ ys) w
first_type x n h g ys w k = by (bytes_eq n (codes "stream")) refl
  where
    alone : n ≡ codes "stream" → (ys : List Lexeme) (w : Word) → PartRest (make_word n x.span) ys w → ys ≡ []
        → IsRpcType (x ∷ ys) w
    alone e ys w ends q = subst (λ (m : List ℕ). IsRpcType (x ∷ []) (make_word m x.span)) (sym e) (stream_type x (h ∙ ap identifier e))
    alone e ys w (goes_on y {ys = zs} d f) q = absurd (let c : y ∷ zs ≡ [] = q in cc)

    by : (b : Bool) → bytes_eq n (codes "stream") ≡ b → IsRpcType (x ∷ ys) w
    by true e = alone (same_bytes n (codes "stream") e) ys w k.0 (k.1 e)
    by false e =
        let s : is_the_word x.means (codes "stream") ≡ false = rw h e in
        other_type (relative (from_start x n h ys w k.0)) (rw (s, g) refl)

not_streaming : (v : Word) (x : Lexeme) (ys : List Lexeme) → IsPunctuator x dot → is_streaming (names.Part v) x ≡ false
    → bytes_eq v.name (codes "stream") ≡ true → x ∷ ys ≡ []
not_streaming v x ys d s e = absurd (let c : (bytes_eq v.name (codes "stream") && is_type_part x.means) ≡ false = s in let f : true ≡ false = rw (e, d) at c in cc)

type_back : (s : NameState) (x : Lexeme) → is_streaming s x ≡ false → TypeBack s x (advance_field_type_name s x)
unfolding advance_full_name
type_back names.Start x i =
    either_is (TypeBack names.Start x) (is_the_word x.means (codes "group")) (Err (proto_fault_at reasons.Group x.span)) (advance_type_name names.Start x) (λ e. tt)
    (λ e. either_is (TypeBack names.Start x) (is_punctuator x.means dot) (Ok (name_steps.More (names.Rooted x.span))) (advance_full_name names.Start x)
    (λ d. top_type x (mark_is x.means dot d))
    (λ d. named_is (TypeBack names.Start x) x (λ n. name_part n x.span) (λ n h. first_type x n h e) tt))
type_back (names.Rooted s) x i =
    named_is (TypeBack (names.Rooted s) x) x (λ n. name_part (dot ∷ n) (span_to s x.span)) (λ n h. λ ys w k. (from_root s x n h ys w k.0, tt)) tt
type_back (names.Part v) x i =
    either_is (TypeBack (names.Part v) x) (is_punctuator x.means dot) (Ok (name_steps.More (names.Dot v))) (Ok (name_steps.Whole v))
    (λ e. λ ys w k. (from_part v x (mark_is x.means dot e) ys w k.0, not_streaming v x ys (mark_is x.means dot e) i)) (λ e. (ends, λ b. refl))
type_back (names.Dot v) x i =
    named_is (TypeBack (names.Dot v) x) x (λ n. name_part (v.name ++ dot ∷ n) (span_to v.span x.span)) (λ n h. λ ys w k. (from_dot v x n h ys w k.0, tt)) tt

abbrev pub TypeInBack : NameState → Lexeme → Result NameStep ProtoFault → Type 0
TypeInBack s x (Ok (name_steps.More t)) = (ys : List Lexeme) (w : Word) → RpcTypeRest t ys w → RpcTypeRest s (x ∷ ys) w
TypeInBack s x (Ok (name_steps.Whole w)) = (RpcTypeRest s [] w) × IsPunctuator x closing_paren
TypeInBack s x (Err e) = Unit {0}

behind_type_back : (s : NameState) (x : Lexeme) (r : Result NameStep ProtoFault) → TypeBack s x r
    → TypeInBack s x (after_type x r)
behind_type_back s x (Ok (name_steps.More t)) b = b
behind_type_back s x (Ok (name_steps.Whole w)) b =
    either_is (TypeInBack s x) (is_punctuator x.means closing_paren) (Ok (name_steps.Whole w)) (wrong x) (λ h. (b, mark_is x.means closing_paren h)) (λ h. tt)
behind_type_back s x (Err e) b = tt

pub type_in_back : (s : NameState) (x : Lexeme) → TypeInBack s x (advance_rpc_type s x)
type_in_back s x =
    either_is (TypeInBack s x) (is_streaming s x) (Err (proto_fault_at reasons.Stream (part_span s x.span))) (after_type x (advance_field_type_name s x)) (λ e. tt)
    (λ e. behind_type_back s x (advance_field_type_name s x) (type_back s x e))

-- ---- the method

abbrev pub EndMark : Bool → Lexeme → Type 0
EndMark true z = IsPunctuator z opening_brace
EndMark false z = IsPunctuator z semicolon

pub data EndRest (r : RpcDecl) (all : List Lexeme) (q : RpcDecl) (block : Bool) : Type 0 where
  end_rest : (z : Lexeme) → EndMark block z → all ≡ z ∷ [] → r ≡ q → EndRest r all q block

pub data OutputRest (name input : Word) (s : NameState) (all : List Lexeme) (q : RpcDecl) (block : Bool) : Type 0 where
  output_rest : (g : Lexeme) (os : List Lexeme) {rest : List Lexeme} (w : Word) → RpcTypeRest s os w
      → IsPunctuator g closing_paren → EndRest (record { name = name; input = input; output = w }) rest q block
      → all ≡ os ++ g ∷ rest → OutputRest name input s all q block

pub data OpenRest (name input : Word) (all : List Lexeme) (q : RpcDecl) (block : Bool) : Type 0 where
  open_rest : (f : Lexeme) {rest : List Lexeme} → IsPunctuator f opening_paren
      → OutputRest name input names.Start rest q block → all ≡ f ∷ rest → OpenRest name input all q block

pub data ReturnsRest (name input : Word) (all : List Lexeme) (q : RpcDecl) (block : Bool) : Type 0 where
  returns_rest : (e : Lexeme) {rest : List Lexeme} → IsWord e (codes "returns") → OpenRest name input rest q block
      → all ≡ e ∷ rest → ReturnsRest name input all q block

pub data InputRest (name : Word) (s : NameState) (all : List Lexeme) (q : RpcDecl) (block : Bool) : Type 0 where
  input_rest : (d : Lexeme) (is : List Lexeme) {rest : List Lexeme} (w : Word) → RpcTypeRest s is w
      → IsPunctuator d closing_paren → ReturnsRest name w rest q block → all ≡ is ++ d ∷ rest → InputRest name s all q block

pub data NamedRest (name : Word) (all : List Lexeme) (q : RpcDecl) (block : Bool) : Type 0 where
  named_rest : (c : Lexeme) {rest : List Lexeme} → IsPunctuator c opening_paren → InputRest name names.Start rest q block
      → all ≡ c ∷ rest → NamedRest name all q block

pub data StartRest (all : List Lexeme) (q : RpcDecl) (block : Bool) : Type 0 where
  start_rest : (b : Lexeme) (n : List ℕ) {rest : List Lexeme} → IsWord b n → NamedRest (make_word n b.span) rest q block
      → all ≡ b ∷ rest → StartRest all q block

abbrev pub RpcRest : RpcState → List Lexeme → RpcDecl → Bool → Type 0
RpcRest rpcs.Start ys q block = StartRest ys q block
RpcRest (rpcs.Named name) ys q block = NamedRest name ys q block
RpcRest (rpcs.Input name s) ys q block = InputRest name s ys q block
RpcRest (rpcs.Returns name input) ys q block = ReturnsRest name input ys q block
RpcRest (rpcs.Open name input) ys q block = OpenRest name input ys q block
RpcRest (rpcs.Output name input s) ys q block = OutputRest name input s ys q block
RpcRest (rpcs.End r) ys q block = EndRest r ys q block

abbrev pub RpcBack : RpcState → Lexeme → Result RpcStep ProtoFault → Type 0
RpcBack s x (Ok (steps.More t)) = (ys : List Lexeme) (q : RpcDecl) (block : Bool) → RpcRest t ys q block → RpcRest s (x ∷ ys) q block
RpcBack s x (Ok (steps.Done q block)) = RpcRest s (x ∷ []) q block
RpcBack s x (Err e) = Unit {0}

of_input_back : (name : Word) (s : NameState) (x : Lexeme) (r : Result NameStep ProtoFault) → TypeInBack s x r
    → RpcBack (rpcs.Input name s) x (of_input name r)
of_input_back name s x (Ok (name_steps.More t)) b = λ ys q block k. by ys q block k
  where
    by : (ys : List Lexeme) (q : RpcDecl) (block : Bool) → InputRest name t ys q block
        → InputRest name s (x ∷ ys) q block
    by ys q block (input_rest d is w r c k e) = input_rest d (x ∷ is) w (b is w r) c k (ap (λ (l : List Lexeme). x ∷ l) e)
of_input_back name s x (Ok (name_steps.Whole w)) b = λ ys q block k. input_rest x [] w b.0 b.1 k refl
of_input_back name s x (Err e) b = tt

of_output_back : (name input : Word) (s : NameState) (x : Lexeme) (r : Result NameStep ProtoFault) → TypeInBack s x r
    → RpcBack (rpcs.Output name input s) x (of_output name input r)
of_output_back name input s x (Ok (name_steps.More t)) b = λ ys q block k. by ys q block k
  where
    by : (ys : List Lexeme) (q : RpcDecl) (block : Bool) → OutputRest name input t ys q block
        → OutputRest name input s (x ∷ ys) q block
    by ys q block (output_rest g os w r c k e) = output_rest g (x ∷ os) w (b os w r) c k (ap (λ (l : List Lexeme). x ∷ l) e)
of_output_back name input s x (Ok (name_steps.Whole w)) b = λ ys q block k. output_rest x [] w b.0 b.1 k refl
of_output_back name input s x (Err e) b = tt

pub rpc_back : (s : RpcState) (x : Lexeme) → RpcBack s x (advance_rpc s x)
unfolding advance_rpc
rpc_back rpcs.Start x = named_is (RpcBack rpcs.Start x) x (λ n. steps.More (rpcs.Named (make_word n x.span))) (λ n h. λ ys q block k. start_rest x n h k refl) tt
rpc_back (rpcs.Named name) x =
    either_is (RpcBack (rpcs.Named name) x) (is_punctuator x.means opening_paren) (more_rpc (rpcs.Input name names.Start))
    (wrong x) (λ h. λ ys q block k. named_rest x (mark_is x.means opening_paren h) k refl) (λ h. tt)
rpc_back (rpcs.Input name s) x = of_input_back name s x (advance_rpc_type s x) (type_in_back s x)
rpc_back (rpcs.Returns name input) x =
    either_is (RpcBack (rpcs.Returns name input) x) (is_the_word x.means (codes "returns")) (more_rpc (rpcs.Open name input))
    (wrong x) (λ h. λ ys q block k. returns_rest x (word_is x.means (codes "returns") h) k refl) (λ h. tt)
rpc_back (rpcs.Open name input) x =
    either_is (RpcBack (rpcs.Open name input) x) (is_punctuator x.means opening_paren)
    (more_rpc (rpcs.Output name input names.Start)) (wrong x)
    (λ h. λ ys q block k. open_rest x (mark_is x.means opening_paren h) k refl) (λ h. tt)
rpc_back (rpcs.Output name input s) x = of_output_back name input s x (advance_rpc_type s x) (type_in_back s x)
rpc_back (rpcs.End r) x =
    either_is (RpcBack (rpcs.End r) x) (is_punctuator x.means semicolon) (Ok (steps.Done r false)) (if is_punctuator x.means opening_brace then Ok (steps.Done r true) else wrong x)
    (λ h. end_rest x (mark_is x.means semicolon h) refl refl)
    (λ h. either_is (RpcBack (rpcs.End r) x) (is_punctuator x.means opening_brace) (Ok (steps.Done r true)) (wrong x) (λ k. end_rest x (mark_is x.means opening_brace k) refl refl) (λ k. tt))

-- ---- `rpc` and the tokens that complete it are a method and its last token

pub data RpcWhole (all : List Lexeme) (q : RpcDecl) (block : Bool) : Type 0 where
  rpc_whole : (z : Lexeme) {ys : List Lexeme} → IsRpcHead ys q → EndMark block z → all ≡ ys ++ z ∷ []
      → RpcWhole all q block

pub rpc_from : (a : Lexeme) (ys : List Lexeme) (q : RpcDecl) (block : Bool) → IsWord a (codes "rpc")
    → StartRest ys q block → RpcWhole (a ∷ ys) q block
rpc_from a ys q block h
    (start_rest b n bn (named_rest c co (input_rest d is i ti dc (returns_rest e er (open_rest f fo (output_rest g os o to gc (end_rest z m r7 r8) r6) r5) r4) r3) r2) r1) =
    rpc_whole z (subst (λ (r : RpcDecl). IsRpcHead (a ∷ b ∷ c ∷ is ++ d ∷ e ∷ f ∷ os ++ g ∷ []) r) r8 (rpc_head a b c d e f g n h bn co ti dc er fo to gc refl)) m
    (ap (λ (l : List Lexeme). a ∷ l) (r1 ∙ ap (λ (l : List Lexeme). b ∷ l) (r2 ∙ ap (λ (l : List Lexeme). c ∷ l)
    (r3 ∙ (ap (λ (l : List Lexeme). is ++ d ∷ l)
    (r4 ∙ ap (λ (l : List Lexeme). e ∷ l)
    (r5 ∙ ap (λ (l : List Lexeme). f ∷ l) (r6 ∙ ap (λ (l : List Lexeme). os ++ g ∷ l) r7)))
    ∙ (sym (append_assoc is (d ∷ e ∷ f ∷ os) (g ∷ z ∷ [])) ∙ sym (append_assoc (is ++ d ∷ e ∷ f ∷ os) (g ∷ []) (z ∷ []))))))))
