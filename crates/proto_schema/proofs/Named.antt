-- If a specific reason applies at a token, reading gives a fault there for this reason, or an earlier fault.
use Rattle.std.proofs.Common.{subst, ◌≡◌, ◌≢◌, ◌⊎◌, inl, inr, ℕ, zero, suc, ◌+◌, ◌<◌, ◌≤◌, length, length-append}
use Rattle.std.proofs.Common.{take, Bool, true, false, List, [], ◌∷◌, ◌++◌, codes, refl, ap, sym, ◌∙◌, add-one, arith}
use Rattle.std.specs.Prelude.{Err, Result, Option, Some, None, is_some, ◌||◌, slice_get}
use Rattle.std.specs.Str.{bytes_eq}
use Rattle.std.proofs.lemmas.Bool.{and_right, false_from_ne_true}
use Rattle.std.proofs.Math.Nat.{eq-or-lt_of_le}
use Rattle.std.proofs.lemmas.List.{append_assoc}
use Rattle.proto_grammar.specs.Lexemes.{TokenMeaning, identifier, integer, number, string, mark, the_end, none, Lexeme, make_word, IsWord, IsPunctuator, is_the_word, is_one_of_words, less, comma}
use Rattle.proto_grammar.specs.Grammar.{map_key}
use Rattle.proto_schema.specs.Files.{Draft, no_block, a_oneof, a_service, IsAtMessageLevel, IsOutsideBlocks, AreStatementsOf, IsFieldLabel, plain, optional, repeated}
use Rattle.proto_schema.specs.Faults
use Rattle.proto_grammar.specs.Lexemes.{is_no_token, is_type_part}
use Rattle.proto_schema.specs.Faults.{is_path, IsSpecificFault, IsBeforeRpcType, IsBeforeMapPart, IsBeforeType}
use Rattle.proto_grammar.specs.Advancing.{proto_fault_at, advance_map, of_map, advance_field, advance_rpc}
use Rattle.proto_schema.specs.StatementReading.{statement_place, place_with, advance_statement, advance_import, start_field, of_field, failed, is_end, is_over, after_token, run, reading}
use Rattle.proto_schema.proofs.Choices.{word_is, same_bytes}
use Rattle.proto_schema.proofs.NameLemmas.{Walks, stay, go, walks_on, walks_in}
use Rattle.proto_schema.proofs.Next.{run_step}
use Rattle.proto_schema.proofs.FieldReads.{TypedGoes, first_goes, typed_reads, MapGoes, in_key, key_comma, in_value}
use Rattle.proto_schema.proofs.FieldReads.{in_inner_value, value_map, inner_value_map, inner_key_reads}
use Rattle.proto_schema.proofs.FieldReads.{outer_key_reads, FieldGoes, in_type, in_map, map_begins}
use Rattle.proto_schema.proofs.RpcReads.{RpcGoes, RpcTypeGoes, quiet, in_input, input_ends, in_output, start_goes, named_goes, returns_goes, open_goes, rpc_type_reads}
use Rattle.proto_schema.proofs.RunReads.{StepGoes, in_file, in_message, in_block, import_word, optional_word}
use Rattle.proto_schema.proofs.RunReads.{repeated_word, rpc_word, in_field, in_rpc, by_word, message_leads}
use Rattle.proto_schema.proofs.RunReads.{oneof_leads, map_no_statement, map_no_member, run_goes}
use Rattle.proto_schema.proofs.Shallow.{SaysWell, says_well, says_deep, deep, says_well_or, drop_behind, get_behind}
use Rattle.proto_ast.specs.declared.file.Span.{Span}
use Rattle.proto_ast.specs.declared.file.Word.{Word}
use Rattle.proto_ast.specs.declared.file.FieldLabel.{FieldLabel}
use Rattle.proto_ast.specs.declared.file.FieldLabel.TheVariants as labels
use Rattle.proto_grammar.specs.declared.fault.ProtoReason.{ProtoReason}
use Rattle.proto_grammar.specs.declared.fault.ProtoReason.TheVariants as reasons
use Rattle.proto_grammar.specs.declared.fault.ProtoFault.{ProtoFault}
use Rattle.proto_grammar.specs.declared.name.NameState.TheVariants as names
use Rattle.proto_grammar.specs.declared.field.MapState.{MapState}
use Rattle.proto_grammar.specs.declared.field.MapState.TheVariants as maps
use Rattle.proto_grammar.specs.declared.field.MapStep.{MapStep}
use Rattle.proto_grammar.specs.declared.field.FieldState.TheVariants as fields
use Rattle.proto_grammar.specs.declared.rpc.RpcState.TheVariants as rpcs
use Rattle.proto_schema.specs.declared.statement.StatementPlace.{StatementPlace}
use Rattle.proto_schema.specs.declared.statement.StatementPlace.TheVariants as places
use Rattle.proto_schema.specs.declared.statement.StatementState.{StatementState}
use Rattle.proto_schema.specs.declared.statement.StatementState.TheVariants as states
use Rattle.proto_schema.specs.declared.statement.StatementStep.{StatementStep}

-- ---- what reading reports

-- reading gives a fault at this token for this reason, or at an earlier token
pub data Reports (ts : List Lexeme) (k : ℕ) (q : ProtoReason) : Type 0 where
  here : (x : Lexeme) → slice_get ts k ≡ Some x → reading true ts ≡ failed (proto_fault_at q x.span) → Reports ts k q
  earlier : (i : ℕ) (x : Lexeme) (r : ProtoReason) → i < k → slice_get ts i ≡ Some x
      → reading true ts ≡ failed (proto_fault_at r x.span) → Reports ts k q

-- after statements, the remaining tokens give a fault at this token
behind_says : {us : List Lexeme} {d : Draft} (ts tail : List Lexeme) (k : ℕ) (q : ProtoReason) (x : Lexeme) → AreStatementsOf us d
    → ts ≡ us ++ tail → length us ≤ k → slice_get ts k ≡ Some x
    → run true d states.Begin tail ≡ failed (proto_fault_at q x.span) → Reports ts k q
behind_says {us = us} {d = d} ts tail k q x s a l g f = by (says_well_or tail s)
  where
    by : SaysWell us d tail → Reports ts k q
    by (says_well r m) = here x g (ap (reading true) a ∙ (r ∙ f))
    by (says_deep (deep i z n h w e)) = earlier i z reasons.Nesting (omega arith) (subst (λ (l : List Lexeme). slice_get l i ≡ Some z) (sym a) w) (ap (reading true) a ∙ e)

-- ---- indices in a list

-- the list from an index on
pub split_at : (ts : List Lexeme) (k : ℕ) (x : Lexeme) → slice_get ts k ≡ Some x
    → (rest : List Lexeme) × (ts ≡ take k ts ++ x ∷ rest)
split_at [] zero x h = absurd (let t : ◌≡◌ {A = Option Lexeme} None (Some x) = h in cc)
split_at [] (suc k) x h = absurd (let t : ◌≡◌ {A = Option Lexeme} None (Some x) = h in cc)
split_at (t ∷ ts) zero x h = (ts, let q : ◌≡◌ {A = Option Lexeme} (Some t) (Some x) = h in let r : t ∷ ts ≡ x ∷ ts = (cc) in r)
split_at (t ∷ ts) (suc k) x h = let r : (rest : List Lexeme) × (ts ≡ take k ts ++ x ∷ rest) = split_at ts k x h in (r.0, ap (λ (l : List Lexeme). t ∷ l) r.1)

split_two : (ts : List Lexeme) (k : ℕ) (x y : Lexeme) → slice_get ts k ≡ Some x → slice_get ts (suc k) ≡ Some y
    → (rest : List Lexeme) × (ts ≡ take k ts ++ x ∷ y ∷ rest)
split_two [] zero x y h g = absurd (let t : ◌≡◌ {A = Option Lexeme} None (Some x) = h in cc)
split_two [] (suc k) x y h g = absurd (let t : ◌≡◌ {A = Option Lexeme} None (Some x) = h in cc)
split_two (t ∷ []) zero x y h g = absurd (let t : ◌≡◌ {A = Option Lexeme} None (Some y) = g in cc)
split_two (t ∷ u ∷ ts) zero x y h g =
    (ts, let q : ◌≡◌ {A = Option Lexeme} (Some t) (Some x) = h in let p : ◌≡◌ {A = Option Lexeme} (Some u) (Some y) = g in let r : t ∷ u ∷ ts ≡ x ∷ y ∷ ts = (cc) in r)
split_two (t ∷ ts) (suc k) x y h g = let r : (rest : List Lexeme) × (ts ≡ take k ts ++ x ∷ y ∷ rest) = split_two ts k x y h g in (r.0, ap (λ (l : List Lexeme). t ∷ l) r.1)

pub take_at_most : (k : ℕ) (ts : List Lexeme) → length (take k ts) ≤ k
take_at_most zero ts = omega arith
take_at_most (suc k) [] = omega arith
take_at_most (suc k) (t ∷ ts) = let h : length (take k ts) ≤ k = take_at_most k ts in omega arith

-- ---- steps, and then a fault

over_not : (d : Draft) (s : StatementState) (x : Lexeme) → is_end x.means ≡ false → is_over d s x ≡ false
over_not d s x h = rw h refl

word_goes_on : (d : Draft) (s : StatementState) (x : Lexeme) (n : List ℕ) → IsWord x n → is_over d s x ≡ false
word_goes_on d s x n h = over_not d s x (rw h refl)

walks_run : (d : Draft) {s t : StatementState} {ys : List Lexeme} (zs : List Lexeme) → Walks (StepGoes (statement_place d)) s ys t
    → run true d s (ys ++ zs) ≡ run true d t zs
walks_run d {s = s} zs (stay e q) = ap (λ (l : List Lexeme). run true d s (l ++ zs)) e ∙ ap (λ (t : StatementState). run true d t zs) q
walks_run d {s = s} zs (go {t = t} x xs e h w) = ap (λ (l : List Lexeme). run true d s (l ++ zs)) e ∙ (run_goes true d s t x (xs ++ zs) h ∙ walks_run d zs w)

fails_at : (d : Draft) (s : StatementState) (x : Lexeme) (xs : List Lexeme) (e : ProtoFault) → is_over d s x ≡ false
    → advance_statement (statement_place d) s x ≡ Err e → run true d s (x ∷ xs) ≡ failed e
fails_at d s x xs e o h = run_step true d s x xs o ∙ ap (λ (r : Result StatementStep ProtoFault). after_token (λ c t. run true c t xs) true d x r) h

-- ---- `extend`

extend_step : (d : Draft) (x : Lexeme) (n : List ℕ) → IsOutsideBlocks d → IsWord x n
    → (n ≡ codes "extend") ⊎ (n ≡ codes "extensions")
    → advance_statement (statement_place d) states.Begin x ≡ Err (proto_fault_at reasons.Extend x.span)
unfolding advance_statement
extend_step d x n b h w = subst (λ (p : StatementPlace). advance_statement p states.Begin x ≡ Err (proto_fault_at reasons.Extend x.span)) (sym (in_block d no_block b)) (by d.messages w)
  where
    by : (ms : List ℕ) → (n ≡ codes "extend") ⊎ (n ≡ codes "extensions")
        → advance_statement (place_with no_block ms d.file.package) states.Begin x ≡ Err (proto_fault_at reasons.Extend x.span)
    by [] (inl e) = rw (h, e) refl
    by [] (inr e) = rw (h, e) refl
    by (i ∷ is) (inl e) = rw (h, e) refl
    by (i ∷ is) (inr e) = rw (h, e) refl

pub extend_word : (x : Lexeme) → is_one_of_words x (codes "extend" ∷ codes "extensions" ∷ []) ≡ true
    → (n : List ℕ) × IsWord x n × ((n ≡ codes "extend") ⊎ (n ≡ codes "extensions"))
extend_word x h = by (is_the_word x.means (codes "extend")) (is_the_word x.means (codes "extensions")) refl refl h
  where
    by : (a b : Bool) → is_the_word x.means (codes "extend") ≡ a → is_the_word x.means (codes "extensions") ≡ b
        → (a || (b || false)) ≡ true → (n : List ℕ) × IsWord x n × ((n ≡ codes "extend") ⊎ (n ≡ codes "extensions"))
    by true b p q h = (codes "extend", word_is x.means (codes "extend") p, inl refl)
    by false true p q h = (codes "extensions", word_is x.means (codes "extensions") q, inr refl)
    by false false p q h = absurd (let t : false ≡ true = h in cc)

-- ---- `import`

import_fails : (p : StatementPlace) (x : Lexeme) → is_no_token x.means ≡ false → is_path x.means ≡ false
    → advance_statement p (states.Import false) x ≡ Err (proto_fault_at reasons.Import x.span)
unfolding advance_statement
import_fails p x n h = by x.means n h
  where
    by : (m : TokenMeaning) → is_no_token m ≡ false → is_path m ≡ false
        → advance_import false x m ≡ Err (proto_fault_at reasons.Import x.span)
    by (identifier w) n h = rw h refl
    by (integer v) n h = refl
    by number n h = refl
    by (string v) n h = absurd (let t : true ≡ false = h in cc)
    by (mark c) n h = rw n refl
    by the_end n h = absurd (let t : true ≡ false = h in cc)
    by none n h = absurd (let t : true ≡ false = n in cc)

path_goes_on : (d : Draft) (x : Lexeme) → is_over d (states.Import false) x ≡ false
path_goes_on d x = and_right (is_end x.means) false refl

-- ---- the start of an rpc's type

pub data RpcAt (ys : List Lexeme) : Type 0 where
  at_input : (name : Word) → Walks (StepGoes places.Service) states.Begin ys (states.Rpc (rpcs.Input name names.Start))
      → RpcAt ys
  at_output : (name input : Word)
      → Walks (StepGoes places.Service) states.Begin ys (states.Rpc (rpcs.Output name input names.Start)) → RpcAt ys

rpc_at : {d : Draft} {ys : List Lexeme} → IsBeforeRpcType d ys → RpcAt ys
rpc_at (Faults.input k (Faults.rpc_opening a b c n ha hb hc)) =
    let name : Word = make_word n b.span in
    at_input name (go a (b ∷ c ∷ []) refl (rpc_word a ha) (walks_in RpcGoes (StepGoes places.Service) (λ s. states.Rpc s) (in_rpc places.Service)
    (go b (c ∷ []) refl (start_goes b n hb) (go c [] refl (named_goes name c hc) (stay refl refl)))))
rpc_at (Faults.output {is = is} {w = w} k (Faults.rpc_opening a b c n ha hb hc) t (Faults.returns_opening e f g he hf hg) q) =
    let name : Word = make_word n b.span in
    let ends : Walks RpcGoes (rpcs.Input name names.Start) (is ++ e ∷ f ∷ g ∷ []) (rpcs.Output name w names.Start) =
    walks_on RpcGoes (walks_in RpcTypeGoes RpcGoes (λ s. rpcs.Input name s) (in_input name) (rpc_type_reads t))
    (go e (f ∷ g ∷ []) refl (input_ends name w e he) (go f (g ∷ []) refl (returns_goes name w f hf) (go g [] refl (open_goes name w g hg) (stay refl refl)))) in
    at_output name w (go a (b ∷ c ∷ (is ++ e ∷ f ∷ g ∷ [])) q (rpc_word a ha) (walks_in RpcGoes (StepGoes places.Service) (λ s. states.Rpc s) (in_rpc places.Service)
    (go b (c ∷ (is ++ e ∷ f ∷ g ∷ [])) refl (start_goes b n hb) (go c (is ++ e ∷ f ∷ g ∷ []) refl (named_goes name c hc) ends))))

in_service : {d : Draft} {ys : List Lexeme} → IsBeforeRpcType d ys → statement_place d ≡ places.Service
in_service {d = d} (Faults.input k opening) = in_block d a_service k
in_service {d = d} (Faults.output k opening t returns q) = in_block d a_service k

input_group : (name : Word) (x : Lexeme) → IsWord x (codes "group")
    → advance_statement places.Service (states.Rpc (rpcs.Input name names.Start)) x ≡ Err (proto_fault_at reasons.Group x.span)
unfolding advance_statement advance_rpc
input_group name x h = rw h refl

output_group : (name input : Word) (x : Lexeme) → IsWord x (codes "group")
    → advance_statement places.Service (states.Rpc (rpcs.Output name input names.Start)) x ≡ Err (proto_fault_at reasons.Group x.span)
unfolding advance_statement advance_rpc
output_group name input x h = rw h refl

stream_first : (x : Lexeme) → IsWord x (codes "stream")
    → RpcTypeGoes names.Start x (names.Part (make_word (codes "stream") x.span))
stream_first x h = quiet names.Start (names.Part (make_word (codes "stream") x.span)) x refl (first_goes x (codes "stream") h (rw h refl))

input_stream : (name : Word) (s : Span) (y : Lexeme) → is_type_part y.means ≡ true
    → advance_statement places.Service (states.Rpc (rpcs.Input name (names.Part (make_word (codes "stream") s)))) y ≡ Err (proto_fault_at reasons.Stream s)
unfolding advance_statement advance_rpc
input_stream name s y h = rw h refl

output_stream : (name input : Word) (s : Span) (y : Lexeme) → is_type_part y.means ≡ true
    → advance_statement places.Service (states.Rpc (rpcs.Output name input (names.Part (make_word (codes "stream") s)))) y ≡ Err (proto_fault_at reasons.Stream s)
unfolding advance_statement advance_rpc
output_stream name input s y h = rw h refl

part_no_end : (m : TokenMeaning) → is_type_part m ≡ true → is_end m ≡ false
part_no_end (identifier n) h = refl
part_no_end (integer v) h = refl
part_no_end number h = refl
part_no_end (string v) h = refl
part_no_end (mark c) h = refl
part_no_end none h = refl
part_no_end the_end h = sym h

at_service : (d : Draft) {s t : StatementState} {ys : List Lexeme} → statement_place d ≡ places.Service
    → Walks (StepGoes places.Service) s ys t → Walks (StepGoes (statement_place d)) s ys t
at_service d {s = s} {t = t} {ys = ys} e w = subst (λ (p : StatementPlace). Walks (StepGoes p) s ys t) (sym e) w

service_fails : (d : Draft) (s : StatementState) (x : Lexeme) (e : ProtoFault) → statement_place d ≡ places.Service
    → advance_statement places.Service s x ≡ Err e → advance_statement (statement_place d) s x ≡ Err e
service_fails d s x e p h = ap (λ (p : StatementPlace). advance_statement p s x) p ∙ h

rpc_group : {d : Draft} {ys : List Lexeme} (x : Lexeme) (zs : List Lexeme) → IsBeforeRpcType d ys
    → IsWord x (codes "group") → run true d states.Begin (ys ++ x ∷ zs) ≡ failed (proto_fault_at reasons.Group x.span)
rpc_group {d = d} {ys = ys} x zs b h = by (rpc_at b)
  where
    p : statement_place d ≡ places.Service
    p = in_service b

    e : ProtoFault
    e = proto_fault_at reasons.Group x.span

    by : RpcAt ys → run true d states.Begin (ys ++ x ∷ zs) ≡ failed (proto_fault_at reasons.Group x.span)
    by (at_input name w) =
        let s : StatementState = states.Rpc (rpcs.Input name names.Start) in
        walks_run d (x ∷ zs) (at_service d p w) ∙ fails_at d s x zs (proto_fault_at reasons.Group x.span)
        (word_goes_on d s x (codes "group") h)
        (service_fails d s x (proto_fault_at reasons.Group x.span) p (input_group name x h))
    by (at_output name input w) =
        let s : StatementState = states.Rpc (rpcs.Output name input names.Start) in
        walks_run d (x ∷ zs) (at_service d p w) ∙ fails_at d s x zs (proto_fault_at reasons.Group x.span)
        (word_goes_on d s x (codes "group") h)
        (service_fails d s x (proto_fault_at reasons.Group x.span) p (output_group name input x h))

rpc_stream : {d : Draft} {ys : List Lexeme} (x y : Lexeme) (zs : List Lexeme) → IsBeforeRpcType d ys
    → IsWord x (codes "stream") → is_type_part y.means ≡ true
    → run true d states.Begin (ys ++ x ∷ y ∷ zs) ≡ failed (proto_fault_at reasons.Stream x.span)
rpc_stream {d = d} {ys = ys} x y zs b h t = by (rpc_at b)
  where
    p : statement_place d ≡ places.Service
    p = in_service b

    by : RpcAt ys → run true d states.Begin (ys ++ x ∷ y ∷ zs) ≡ failed (proto_fault_at reasons.Stream x.span)
    by (at_input name w) =
        let u : StatementState = states.Rpc (rpcs.Input name (names.Part (make_word (codes "stream") x.span))) in
        let g : StepGoes places.Service (states.Rpc (rpcs.Input name names.Start)) x u =
        in_rpc places.Service (rpcs.Input name names.Start)
        (rpcs.Input name (names.Part (make_word (codes "stream") x.span))) x
        (in_input name names.Start (names.Part (make_word (codes "stream") x.span)) x (stream_first x h)) in
        walks_run d (x ∷ y ∷ zs) (at_service d p w)
        ∙ (walks_run d (y ∷ zs) (at_service d p (go x [] refl g (stay refl refl)))
        ∙ fails_at d u y zs (proto_fault_at reasons.Stream x.span) (over_not d u y (part_no_end y.means t))
        (service_fails d u y (proto_fault_at reasons.Stream x.span) p (input_stream name x.span y t)))
    by (at_output name input w) =
        let u : StatementState = states.Rpc (rpcs.Output name input (names.Part (make_word (codes "stream") x.span))) in
        let g : StepGoes places.Service (states.Rpc (rpcs.Output name input names.Start)) x u =
        in_rpc places.Service (rpcs.Output name input names.Start) (rpcs.Output name input (names.Part (make_word (codes "stream") x.span))) x
        (in_output name input names.Start (names.Part (make_word (codes "stream") x.span)) x (stream_first x h)) in
        walks_run d (x ∷ y ∷ zs) (at_service d p w)
        ∙ (walks_run d (y ∷ zs) (at_service d p (go x [] refl g (stay refl refl)))
        ∙ fails_at d u y zs (proto_fault_at reasons.Stream x.span) (over_not d u y (part_no_end y.means t))
        (service_fails d u y (proto_fault_at reasons.Stream x.span) p (output_stream name input x.span y t)))

-- ---- the start of a part of a map

-- a name starts here
pub data MapAt : MapState → Type 0 where
  at_key : MapAt (maps.Key names.Start)
  at_value : (k : Word) → MapAt (maps.Value k names.Start)
  at_inner_key : (k0 : Word) (d : ℕ) → MapAt (maps.InnerKey k0 d names.Start)
  at_inner_value : (k0 : Word) (d : ℕ) → MapAt (maps.InnerValue k0 d names.Start)

map_group : {s : MapState} (x : Lexeme) → MapAt s → IsWord x (codes "group")
    → advance_map s x ≡ Err (proto_fault_at reasons.Group x.span)
unfolding advance_map
map_group x at_key h = rw h refl
map_group x (at_value k) h = rw h refl
map_group x (at_inner_key k0 d) h = rw h refl
map_group x (at_inner_value k0 d) h = rw h refl

abbrev PartFrom : MapState → List Lexeme → Type 0
PartFrom s ms = (t : MapState) × Walks MapGoes s ms t × MapAt t

inner_part : (k0 : Word) (d : ℕ) {ms : List Lexeme} → IsBeforeMapPart ms → PartFrom (maps.InnerValue k0 d names.Start) ms
inner_part k0 d (Faults.key x y hx hy) = (
  maps.InnerKey k0 (d + 1) names.Start,
  go x (y ∷ []) refl (in_inner_value k0 d names.Start (names.Part (make_word (codes "map") x.span)) x (first_goes x (codes "map") hx (rw hx refl)))
      (go y [] refl (inner_value_map k0 d x.span y hy) (stay refl refl)),
  at_inner_key k0 (d + 1),
)
inner_part k0 d (Faults.value k) = (maps.InnerValue k0 (suc d) names.Start, inner_key_reads k0 d k, at_inner_value k0 (suc d))
inner_part k0 d (Faults.inner {ks = ks} {ys = ys} k b e) =
    let r : PartFrom (maps.InnerValue k0 (suc d) names.Start) ys = inner_part k0 (suc d) b in
    (r.0, rw e (walks_on MapGoes (inner_key_reads k0 d k) r.1), r.2)

value_part : (k0 : Word) {ms : List Lexeme} → IsBeforeMapPart ms → PartFrom (maps.Value k0 names.Start) ms
value_part k0 (Faults.key x y hx hy) = (
  maps.InnerKey k0 1 names.Start,
  go x (y ∷ []) refl (in_value k0 names.Start (names.Part (make_word (codes "map") x.span)) x (first_goes x (codes "map") hx (rw hx refl)))
      (go y [] refl (value_map k0 x.span y hy) (stay refl refl)),
  at_inner_key k0 1,
)
value_part k0 (Faults.value k) = (maps.InnerValue k0 1 names.Start, outer_key_reads k0 k, at_inner_value k0 1)
value_part k0 (Faults.inner {ks = ks} {ys = ys} k b e) =
    let r : PartFrom (maps.InnerValue k0 1 names.Start) ys = inner_part k0 1 b in
    (r.0, rw e (walks_on MapGoes (outer_key_reads k0 k) r.1), r.2)

-- `map`, `<`, and a part of the map
data MapFrom (ms : List Lexeme) : Type 0 where
  map_from : (m l : Lexeme) (rest : List Lexeme) → IsWord m (codes "map") → IsPunctuator l less → ms ≡ m ∷ l ∷ rest
      → PartFrom (maps.Key names.Start) rest → MapFrom ms

key_walks : {ys : List Lexeme} {w : Word} (z : Lexeme) → Walks TypedGoes names.Start ys (names.Part w)
    → IsPunctuator z comma → Walks MapGoes (maps.Key names.Start) (ys ++ z ∷ []) (maps.Value w names.Start)
key_walks {w = w} z t h = walks_on MapGoes (walks_in TypedGoes MapGoes (λ s. maps.Key s) in_key t) (go z [] refl (key_comma w z h) (stay refl refl))

part_from : {ms : List Lexeme} → IsBeforeMapPart ms → MapFrom ms
part_from (Faults.key x y hx hy) = map_from x y [] hx hy refl (maps.Key names.Start, stay refl refl, at_key)
part_from (Faults.value (map_key x y z {ys = ys} {w = w} hx hy t g hz e)) =
    map_from x y (ys ++ z ∷ []) hx hy e (maps.Value w names.Start, key_walks z (typed_reads t g) hz, at_value w)
part_from (Faults.inner {ys = bs} (map_key x y z {ys = ys} {w = w} hx hy t g hz a) b e) =
    let r : PartFrom (maps.Value w names.Start) bs = value_part w b in
    map_from x y ((ys ++ z ∷ []) ++ bs) hx hy (e ∙ ap (λ (l : List Lexeme). l ++ bs) a) (r.0, walks_on MapGoes (key_walks z (typed_reads t g) hz) r.1, r.2)

-- ---- the start of a field's type

field_group : (p : StatementPlace) (label : FieldLabel) (x : Lexeme) → IsWord x (codes "group")
    → advance_statement p (states.Field (fields.Type label names.Start)) x ≡ Err (proto_fault_at reasons.Group x.span)
unfolding advance_statement advance_field
field_group p label x h = rw h refl

map_field_group : (p : StatementPlace) (label : FieldLabel) {s : MapState} (x : Lexeme) → MapAt s → IsWord x (codes "group")
    → advance_statement p (states.Field (fields.Map label s)) x ≡ Err (proto_fault_at reasons.Group x.span)
unfolding advance_statement advance_field
map_field_group p label x a h = ap (λ (r : Result MapStep ProtoFault). of_field (of_map label r)) (map_group x a h)

message_group : (x : Lexeme) → IsWord x (codes "group")
    → advance_statement places.Message states.Begin x ≡ Err (proto_fault_at reasons.Group x.span)
unfolding advance_statement advance_field
message_group x h = rw h refl

oneof_group : (filled : Bool) (x : Lexeme) → IsWord x (codes "group")
    → advance_statement (places.Oneof filled) states.Begin x ≡ Err (proto_fault_at reasons.Group x.span)
unfolding advance_statement advance_field
oneof_group filled x h = rw h refl

-- `map` is the first token of a field
map_first : (p : StatementPlace) (m : Lexeme) → IsWord m (codes "map") → advance_statement p states.Begin m ≡ start_field m
    → StepGoes p states.Begin m (states.Field (fields.Type labels.Plain (names.Part (make_word (codes "map") m.span))))
map_first p m h q =
    let t : FieldGoes (fields.Type labels.Plain names.Start) m (fields.Type labels.Plain (names.Part (make_word (codes "map") m.span))) =
    in_type labels.Plain names.Start (names.Part (make_word (codes "map") m.span)) m (first_goes m (codes "map") h (rw h refl)) in
    q ∙ ap of_field t

-- after `map`, up to the start of a part of the map
behind_map : (p : StatementPlace) (label : FieldLabel) (m l : Lexeme) {rest : List Lexeme} {t : MapState} → IsPunctuator l less
    → Walks MapGoes (maps.Key names.Start) rest t
    → Walks (StepGoes p) (states.Field (fields.Type label (names.Part (make_word (codes "map") m.span)))) (l ∷ rest) (states.Field (fields.Map label t))
behind_map p label m l {rest = rest} h w =
    walks_in FieldGoes (StepGoes p) (λ s. states.Field s) (in_field p)
    (go l rest refl (map_begins label m.span l h) (walks_in MapGoes FieldGoes (λ s. fields.Map label s) (in_map label) w))

-- once `map` is read
map_fails : (d : Draft) (s : StatementState) (label : FieldLabel) {ms : List Lexeme} (x : Lexeme) (zs : List Lexeme) → MapFrom ms
    → ((m : Lexeme) → IsWord m (codes "map")
    → StepGoes (statement_place d) s m (states.Field (fields.Type label (names.Part (make_word (codes "map") m.span)))))
    → IsWord x (codes "group") → run true d s (ms ++ x ∷ zs) ≡ failed (proto_fault_at reasons.Group x.span)
map_fails d s label x zs (map_from m l rest hm hl e (t, w, a)) first h =
    ap (λ (q : List Lexeme). run true d s (q ++ x ∷ zs)) e
    ∙ (walks_run d (x ∷ zs) (go m (l ∷ rest) refl (first m hm) (behind_map (statement_place d) label m l hl w))
    ∙ fails_at d (states.Field (fields.Map label t)) x zs (proto_fault_at reasons.Group x.span)
    (word_goes_on d (states.Field (fields.Map label t)) x (codes "group") h)
    (map_field_group (statement_place d) label x a h))

-- after a label
labelled_first : (p : StatementPlace) (label : FieldLabel) (m : Lexeme) → IsWord m (codes "map")
    → StepGoes p (states.Field (fields.Type label names.Start)) m (states.Field (fields.Type label (names.Part (make_word (codes "map") m.span))))
labelled_first p label m h =
    in_field p (fields.Type label names.Start) (fields.Type label (names.Part (make_word (codes "map") m.span))) m
    (in_type label names.Start (names.Part (make_word (codes "map") m.span)) m (first_goes m (codes "map") h (rw h refl)))

at_step : (d : Draft) (p : StatementPlace) (s t : StatementState) (x : Lexeme) → statement_place d ≡ p → StepGoes p s x t
    → StepGoes (statement_place d) s x t
at_step d p s t x e h = ap (λ (p : StatementPlace). advance_statement p s x) e ∙ h

message_map : (d : Draft) → IsAtMessageLevel d → (m : Lexeme) → IsWord m (codes "map")
    → StepGoes (statement_place d) states.Begin m (states.Field (fields.Type labels.Plain (names.Part (make_word (codes "map") m.span))))
message_map d i m h =
    at_step d places.Message states.Begin (states.Field (fields.Type labels.Plain (names.Part (make_word (codes "map") m.span)))) m (in_message d i)
    (map_first places.Message m h (message_leads m (by_word (codes "map") h (map_no_statement m h))))

oneof_map : (d : Draft) (i : ℕ) (filled : Bool) → d.block ≡ a_oneof i filled → (m : Lexeme) → IsWord m (codes "map")
    → StepGoes (statement_place d) states.Begin m (states.Field (fields.Type labels.Plain (names.Part (make_word (codes "map") m.span))))
oneof_map d i filled b m h =
    at_step d (places.Oneof filled) states.Begin (states.Field (fields.Type labels.Plain (names.Part (make_word (codes "map") m.span)))) m (in_block d (a_oneof i filled) b)
    (map_first (places.Oneof filled) m h (oneof_leads filled m (by_word (codes "map") h (map_no_member m h))))

-- a label is read
abbrev LabelGoes : Draft → Lexeme → FieldLabel → Type 0
LabelGoes d y label = StepGoes (statement_place d) states.Begin y (states.Field (fields.Type label names.Start))

optional_goes : (d : Draft) (y : Lexeme) → IsAtMessageLevel d → IsWord y (codes "optional") → LabelGoes d y labels.Optional
optional_goes d y i h = at_step d places.Message states.Begin (states.Field (fields.Type labels.Optional names.Start)) y (in_message d i) (optional_word y h)

repeated_goes : (d : Draft) (y : Lexeme) → IsAtMessageLevel d → IsWord y (codes "repeated") → LabelGoes d y labels.Repeated
repeated_goes d y i h = at_step d places.Message states.Begin (states.Field (fields.Type labels.Repeated names.Start)) y (in_message d i) (repeated_word y h)

labelled_group : (d : Draft) (label : FieldLabel) (y x : Lexeme) (zs : List Lexeme) → LabelGoes d y label
    → IsWord x (codes "group") → run true d states.Begin (y ∷ x ∷ zs) ≡ failed (proto_fault_at reasons.Group x.span)
labelled_group d label y x zs g h =
    run_goes true d states.Begin (states.Field (fields.Type label names.Start)) y (x ∷ zs) g
    ∙ fails_at d (states.Field (fields.Type label names.Start)) x zs (proto_fault_at reasons.Group x.span)
    (word_goes_on d (states.Field (fields.Type label names.Start)) x (codes "group") h)
    (field_group (statement_place d) label x h)

labelled_map_group : (d : Draft) (label : FieldLabel) (y : Lexeme) {ms : List Lexeme} (x : Lexeme) (zs : List Lexeme)
    → LabelGoes d y label → MapFrom ms → IsWord x (codes "group")
    → run true d states.Begin (y ∷ (ms ++ x ∷ zs)) ≡ failed (proto_fault_at reasons.Group x.span)
labelled_map_group d label y {ms = ms} x zs g b h =
    run_goes true d states.Begin (states.Field (fields.Type label names.Start)) y (ms ++ x ∷ zs) g
    ∙ map_fails d (states.Field (fields.Type label names.Start)) label x zs b (labelled_first (statement_place d) label) h

first_group : (d : Draft) (p : StatementPlace) (x : Lexeme) (zs : List Lexeme) → statement_place d ≡ p
    → advance_statement p states.Begin x ≡ Err (proto_fault_at reasons.Group x.span) → IsWord x (codes "group")
    → run true d states.Begin (x ∷ zs) ≡ failed (proto_fault_at reasons.Group x.span)
first_group d p x zs e f h =
    fails_at d states.Begin x zs (proto_fault_at reasons.Group x.span) (word_goes_on d states.Begin x (codes "group") h) (ap (λ (p : StatementPlace). advance_statement p states.Begin x) e ∙ f)

label_group : (d : Draft) {ls : List Lexeme} {label : FieldLabel} {words : List (List ℕ)} (x : Lexeme) (zs : List Lexeme)
    → IsAtMessageLevel d → IsFieldLabel ls label words → IsWord x (codes "group")
    → run true d states.Begin (ls ++ x ∷ zs) ≡ failed (proto_fault_at reasons.Group x.span)
label_group d x zs i plain h = first_group d places.Message x zs (in_message d i) (message_group x h) h
label_group d x zs i (optional y w) h = labelled_group d labels.Optional y x zs (optional_goes d y i w) h
label_group d x zs i (repeated y w) h = labelled_group d labels.Repeated y x zs (repeated_goes d y i w) h

label_map_group : (d : Draft) {ls ms : List Lexeme} {label : FieldLabel} {words : List (List ℕ)} (x : Lexeme)
    (zs : List Lexeme) → IsAtMessageLevel d → IsFieldLabel ls label words → MapFrom ms → IsWord x (codes "group")
    → run true d states.Begin (ls ++ (ms ++ x ∷ zs)) ≡ failed (proto_fault_at reasons.Group x.span)
label_map_group d x zs i plain b h = map_fails d states.Begin labels.Plain x zs b (message_map d i) h
label_map_group d x zs i (optional y w) b h = labelled_map_group d labels.Optional y x zs (optional_goes d y i w) b h
label_map_group d x zs i (repeated y w) b h = labelled_map_group d labels.Repeated y x zs (repeated_goes d y i w) b h

type_group : {d : Draft} {ys : List Lexeme} (x : Lexeme) (zs : List Lexeme) → IsBeforeType d ys → IsWord x (codes "group")
    → run true d states.Begin (ys ++ x ∷ zs) ≡ failed (proto_fault_at reasons.Group x.span)
type_group x zs (Faults.of_rpc b) h = rpc_group x zs b h
type_group {d = d} x zs (Faults.of_field i l) h = label_group d x zs i l h
type_group {d = d} x zs (Faults.of_map {ls = ls} {ms = ms} i l b e) h =
    ap (λ (q : List Lexeme). run true d states.Begin (q ++ x ∷ zs)) e
    ∙ (ap (λ (q : List Lexeme). run true d states.Begin q) (append_assoc ls ms (x ∷ zs))
    ∙ label_map_group d x zs i l (part_from b) h)
type_group {d = d} x zs (Faults.of_member i filled b e) h =
    ap (λ (q : List Lexeme). run true d states.Begin (q ++ x ∷ zs)) e ∙ first_group d (places.Oneof filled) x zs (in_block d (a_oneof i filled) b) (oneof_group filled x h) h
type_group {d = d} x zs (Faults.of_member_map i filled b m) h = map_fails d states.Begin labels.Plain x zs (part_from m) (oneof_map d i filled b) h

-- ---- the specific reasons

first_is : (ts : List Lexeme) (x : Lexeme) → slice_get ts 0 ≡ Some x → (rest : List Lexeme) × (ts ≡ x ∷ rest)
first_is ts x h = split_at ts 0 x h

-- a specific reason other than `Token`
pub named_reports : {ts : List Lexeme} {k : ℕ} {q : ProtoReason} → IsSpecificFault ts k q → q ≢ reasons.Token → Reports ts k q
named_reports (Faults.no_token x b n) o = absurd (o refl)
named_reports {ts = ts} {k = k} (Faults.import j x y d e s i g w f n p) o = by (split_two ts j x y g (subst (λ (m : ℕ). slice_get ts m ≡ Some y) (e ∙ add-one j) f))
  where
    by : (rest : List Lexeme) × (ts ≡ take j ts ++ x ∷ y ∷ rest) → Reports ts k reasons.Import
    by (rest, a) =
        let l : length (take j ts) ≤ j = take_at_most j ts in
        behind_says ts (x ∷ y ∷ rest) k reasons.Import y s a (omega arith) f
        (run_goes true d states.Begin (states.Import false) x (y ∷ rest) (ap (λ (p : StatementPlace). advance_statement p states.Begin x) (in_file d i) ∙ import_word (is_some d.file.package) x w)
        ∙ fails_at d (states.Import false) y rest (proto_fault_at reasons.Import y.span) (path_goes_on d y) (import_fails (statement_place d) y n p))
named_reports {ts = ts} {k = k} (Faults.stream xs ys zs x y d e l s b w t) o =
    behind_says ts (ys ++ x ∷ y ∷ zs) k reasons.Stream x s (e ∙ append_assoc xs ys (x ∷ y ∷ zs))
    (let m : length (xs ++ ys) ≡ length xs + length ys = length-append xs ys in omega arith)
    (subst (λ (l : List Lexeme). slice_get l k ≡ Some x) (sym e) (subst (λ (n : ℕ). slice_get ((xs ++ ys) ++ x ∷ y ∷ zs) n ≡ Some x) l (get_behind (xs ++ ys) (y ∷ zs) x)))
    (rpc_stream x y zs b w t)
named_reports {ts = ts} {k = k} (Faults.group xs ys zs x d e l s b w) o =
    behind_says ts (ys ++ x ∷ zs) k reasons.Group x s (e ∙ append_assoc xs ys (x ∷ zs)) (let m : length (xs ++ ys) ≡ length xs + length ys = length-append xs ys in omega arith)
    (subst (λ (l : List Lexeme). slice_get l k ≡ Some x) (sym e) (subst (λ (n : ℕ). slice_get ((xs ++ ys) ++ x ∷ zs) n ≡ Some x) l (get_behind (xs ++ ys) zs x)))
    (type_group x zs b w)
named_reports {ts = ts} {k = k} (Faults.extend x d s b f w) o = by (split_at ts k x f) (extend_word x w)
  where
    by : (rest : List Lexeme) × (ts ≡ take k ts ++ x ∷ rest)
        → (n : List ℕ) × IsWord x n × ((n ≡ codes "extend") ⊎ (n ≡ codes "extensions")) → Reports ts k reasons.Extend
    by (rest, a) (n, h, c) =
        behind_says ts (x ∷ rest) k reasons.Extend x s a (take_at_most k ts) f
        (fails_at d states.Begin x rest (proto_fault_at reasons.Extend x.span) (word_goes_on d states.Begin x n h) (extend_step d x n b h c))
named_reports {ts = ts} {k = k} (Faults.no_syntax x e f n s) o = by (first_is ts x f)
  where
    by : (rest : List Lexeme) × (ts ≡ x ∷ rest) → Reports ts k reasons.Syntax2
    by (rest, a) = here x (subst (λ (m : ℕ). slice_get ts m ≡ Some x) (sym e) f) (ap (reading true) a ∙ rw s (rw n refl))
named_reports {ts = ts} {k = k} (Faults.other_syntax x y z us v e a hx hy hz n) o =
    here x (subst (λ (m : ℕ). slice_get ts m ≡ Some x) (sym e) (subst (λ (l : List Lexeme). slice_get l 0 ≡ Some x) (sym a) refl))
    (ap (reading true) a ∙ rw hx (rw hy (rw hz (rw (false_from_ne_true (bytes_eq v (codes "proto3")) (λ h. n (same_bytes v (codes "proto3") h))) refl))))
named_reports {ts = ts} {k = k} (Faults.nesting x d f m s i l) o = by (drop_behind (k + 1) ts)
  where
    by : (rest : List Lexeme) × (take (k + 1) ts ++ rest ≡ ts) → Reports ts k reasons.Nesting
    by (rest, a) = at (says_well_or rest s)
      where
        at : SaysWell (take (k + 1) ts) d rest → Reports ts k reasons.Nesting
        at (says_well r n) = absurd (omega (arith, l))
        at (says_deep (deep j z n h w e)) =
            let t : length (take (k + 1) ts) ≤ k + 1 = take_at_most (k + 1) ts in
            let g : slice_get ts j ≡ Some z = subst (λ (l : List Lexeme). slice_get l j ≡ Some z) a w in
            let q : reading true ts ≡ failed (proto_fault_at reasons.Nesting z.span) = ap (reading true) (sym a) ∙ e in
            order (eq-or-lt_of_le (omega arith)) g q
          where
            order : (j ≡ k) ⊎ (j < k) → slice_get ts j ≡ Some z → reading true ts ≡ failed (proto_fault_at reasons.Nesting z.span) → Reports ts k reasons.Nesting
            order (inr c) g q = earlier j z reasons.Nesting c g q
            order (inl c) g q = here z (subst (λ (m : ℕ). slice_get ts m ≡ Some z) c g) q
