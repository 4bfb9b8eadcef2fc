-- Where the names and numbers of a statement start among its tokens, and the forms of its names.
use Rattle.std.proofs.Common.{◌≡◌, ℕ, suc, ◌<◌, ◌≤◌, Bool, List, [], ◌∷◌, ◌++◌, refl, subst, arith}
use Rattle.std.specs.Prelude.{Option}
use Rattle.proto_grammar.specs.Lexemes.{Lexeme, IsWord, make_word}
use Rattle.proto_grammar.specs.Grammar
use Rattle.proto_grammar.specs.Grammar.{IsDottedName, IsTypeName, IsMapKey, IsFieldType, IsRpcType, IsNumberToken}
use Rattle.proto_schema.specs.Files.{IsFieldEnd, field_end, IsRpcHead, rpc_head}
use Rattle.proto_ast.specs.Order.{HasName, HasFullName, HasTypeName, relative, absolute, HasTypeNames}
use Rattle.proto_schema.proofs.Along.{Along, along_ends, along_split, full_of_one, full_of_more}
use Rattle.proto_ast.specs.declared.file.Word.{Word}
use Rattle.proto_ast.specs.declared.file.Number.{Number}
use Rattle.proto_ast.specs.declared.file.FieldType.{FieldType}
use Rattle.proto_ast.specs.declared.file.FieldType.TheVariants.{Named, Map, NestedMap}
use Rattle.proto_ast.specs.declared.file.RpcDecl.{RpcDecl}

pub record IsWithin (b e start : ℕ) : Type 0 where
  pub behind : b ≤ start
  pub before : start < e

pub widen : (a b c d n : ℕ) → a ≤ b → c ≤ d → IsWithin b c n → IsWithin a d n
widen a b c d n l m w = record { behind = omega arith; before = omega arith }

-- the first token
pub first_within : (b : ℕ) (x : Lexeme) (xs : List Lexeme) (e : ℕ) → Along b (x ∷ xs) e → IsWithin b e x.span.start
first_within b x xs e (l, s, h) =
    let k : suc x.span.start ≤ e = along_ends (suc x.span.start) xs e h in record { behind = l; before = omega arith }

pub along_same : (b e : ℕ) (xs ys : List Lexeme) → xs ≡ ys → Along b xs e → Along b ys e
along_same b e xs ys q h = subst (λ (l : List Lexeme). Along b l e) q h

-- ---- names and types

pub record NameWithin (form : Word → Type 0) (b e : ℕ) (w : Word) : Type 0 where
  pub formed : form w
  pub within : IsWithin b e w.span.start

pub word_along : (b e : ℕ) (x : Lexeme) (xs : List Lexeme) (name : List ℕ) → IsWord x name → Along b (x ∷ xs) e
    → NameWithin HasName b e (make_word name x.span)
word_along b e x xs name h (l, s, k) = record { formed = s.form name h; within = first_within b x xs e (l, s, k) }

pub full_along : (b e : ℕ) {ys : List Lexeme} {w : Word} → IsDottedName ys w → Along b ys e → NameWithin HasFullName b e w
full_along b e (Grammar.one x name h) (l, s, k) =
    record { formed = full_of_one name (s.form name h); within = first_within b x [] e (l, s, k) }
full_along b e (Grammar.more x y name zs w h d f) (l, s, (m, t, k)) =
    let q : NameWithin HasFullName (suc y.span.start) e w = full_along (suc y.span.start) e f k in
    record {
      formed = full_of_more name w.name (s.form name h) q.formed;
      within = first_within b x (y ∷ zs) e (l, s, (m, t, k));
    }

pub type_along : (b e : ℕ) {ys : List Lexeme} {w : Word} → IsTypeName ys w → Along b ys e → NameWithin HasTypeName b e w
type_along b e (Grammar.relative f) h =
    let q = full_along b e f h in record { formed = relative q.formed; within = q.within }
type_along b e (Grammar.absolute x {ys = ys} {w = w} m f) (l, s, k) =
    let q : NameWithin HasFullName (suc x.span.start) e w = full_along (suc x.span.start) e f k in
    record { formed = absolute w.name refl q.formed; within = first_within b x ys e (l, s, k) }

pub key_along : (b e : ℕ) {ks : List Lexeme} {k : Word} → IsMapKey ks k → Along b ks e → NameWithin HasTypeName b e k
key_along b e {ks = ks} {k = w} (Grammar.map_key x y z {ys = ys} hx hy t g hz a) h =
    by (along_same b e ks (x ∷ y ∷ ys ++ z ∷ []) a h)
  where
    by : Along b (x ∷ y ∷ ys ++ z ∷ []) e → NameWithin HasTypeName b e w
    by (l, s, (m, u, r)) =
        let (c, p, q) = along_split (suc y.span.start) ys (z ∷ []) e r in
        let n : NameWithin HasTypeName (suc y.span.start) c w = type_along (suc y.span.start) c t p in
        let o : c ≤ e = along_ends c (z ∷ []) e q in
        record { formed = n.formed; within = widen b (suc y.span.start) c e w.span.start (omega arith) o n.within }

-- the types of a field
abbrev pub TypesWithin : ℕ → ℕ → FieldType → Type 0
TypesWithin b e (Named w) = IsWithin b e w.span.start
TypesWithin b e (Map key value) =
    IsWithin b e key.span.start × IsWithin b e value.span.start × (key.span.start < value.span.start)
TypesWithin b e (NestedMap key) = IsWithin b e key.span.start

pub types_along : (b e : ℕ) {words : List (List ℕ)} {ts : List Lexeme} {kind : FieldType} → IsFieldType words ts kind
    → Along b ts e → HasTypeNames kind × TypesWithin b e kind
types_along b e (Grammar.named {w = w} t g) h = let q : NameWithin HasTypeName b e w = type_along b e t h in (q.formed, q.within)
types_along b e {ts = ts} (Grammar.a_map x {ks = ks} {ys = ys} {k = k} {w = w} m t g hx a) h =
    let (d, q, s) = along_split b (ks ++ ys) (x ∷ []) e (along_same b e ts (ks ++ ys ++ x ∷ []) a h) in
    let (c, p, r) = along_split b ks ys d q in
    let key : NameWithin HasTypeName b c k = key_along b c m p in
    let value : NameWithin HasTypeName c d w = type_along c d t r in
    let l : d ≤ e = along_ends d (x ∷ []) e s in
    let n : c ≤ d = along_ends c ys d r in
    let o : b ≤ c = along_ends b ks c p in
    let before : k.span.start < c = key.within.before in
    let behind : c ≤ w.span.start = value.within.behind in
    ((key.formed, value.formed), (widen b b c e k.span.start (omega arith) (omega arith) key.within, widen b c d e w.span.start o l value.within, omega arith))
types_along b e {ts = ts} (Grammar.map_of_maps x {ks = ks} {ys = ys} {k = k} m n hx a) h =
    let (d, q, s) = along_split b (ks ++ ys) (x ∷ []) e (along_same b e ts (ks ++ ys ++ x ∷ []) a h) in
    let (c, p, r) = along_split b ks ys d q in
    let key : NameWithin HasTypeName b c k = key_along b c m p in
    let l : d ≤ e = along_ends d (x ∷ []) e s in
    let n : c ≤ d = along_ends c ys d r in
    (key.formed, widen b b c e k.span.start (omega arith) (omega arith) key.within)

pub rpc_type_along : (b e : ℕ) {is : List Lexeme} {w : Word} → IsRpcType is w → Along b is e → NameWithin HasTypeName b e w
rpc_type_along b e (Grammar.stream_type x h) k = record { formed = relative refl; within = first_within b x [] e k }
rpc_type_along b e (Grammar.other_type t g) k = type_along b e t k

-- ---- numbers

pub number_along : (b e : ℕ) {signed : Bool} {ns : List Lexeme} {n : Number} → IsNumberToken signed ns n → Along b ns e
    → IsWithin b e n.span.start
number_along b e (Grammar.whole x value h) k = first_within b x [] e k
number_along b e (Grammar.negative x y value s h g) k =
    let q : IsWithin b e x.span.start = first_within b x (y ∷ []) e k in record { behind = q.behind; before = q.before }

-- ---- the ends of fields, and rpcs

pub record EndWithin (b e : ℕ) (w : Word) (n : Number) : Type 0 where
  pub name : NameWithin HasName b e w
  pub number : IsWithin b e n.span.start
  pub ordered : w.span.start < n.span.start

-- a name, a token, and a number with others after it
pub numbered_along : (b e : ℕ) (x y : Lexeme) (name : List ℕ) {signed : Bool} {ns : List Lexeme} {n : Number}
    (os zs : List Lexeme) → IsWord x name → IsNumberToken signed ns n → Along b (x ∷ y ∷ ns ++ os ++ zs) e
    → EndWithin b e (make_word name x.span) n
numbered_along b e x y name {ns = ns} {n = n} os zs h f (l, s, (m, u, r)) =
    let (d, v, t) = along_split (suc y.span.start) (ns ++ os) zs e r in
    let (c, p, q) = along_split (suc y.span.start) ns os d v in
    let w : IsWithin (suc y.span.start) c n.span.start = number_along (suc y.span.start) c f p in
    let o : c ≤ e = (let i : c ≤ d = along_ends c os d q in let j : d ≤ e = along_ends d zs e t in omega arith) in
    let behind : suc y.span.start ≤ n.span.start = w.behind in
    record {
      name = word_along b e x (y ∷ ns ++ os ++ zs) name h (l, s, (m, u, r));
      number = widen b (suc y.span.start) c e n.span.start (omega arith) o w;
      ordered = omega arith;
    }

pub end_along : (b e : ℕ) {es : List Lexeme} {name : Word} {number : Number} {packed : Option Bool}
    → IsFieldEnd es name number packed → Along b es e → EndWithin b e name number
end_along b e {es = es} (field_end x y z name {ns = ns} {os = os} hx hy n o hz a) h =
    numbered_along b e x y name os (z ∷ []) hx n (along_same b e es (x ∷ y ∷ ns ++ os ++ z ∷ []) a h)

pub record RpcWithin (b e : ℕ) (r : RpcDecl) : Type 0 where
  pub name : NameWithin HasName b e r.name
  pub input : NameWithin HasTypeName b e r.input
  pub output : NameWithin HasTypeName b e r.output
  pub named : r.name.span.start < r.input.span.start
  pub ordered : r.input.span.start < r.output.span.start

pub rpc_along : (b e : ℕ) {ys : List Lexeme} {r : RpcDecl} → IsRpcHead ys r → Along b ys e → RpcWithin b e r
rpc_along b z {ys = ys} (rpc_head a n c d e f g name {is = is} {os = os} {input = input} {output = output} ha hn hc ti hd he hf to hg q) h =
    by (along_same b z ys (a ∷ n ∷ c ∷ is ++ d ∷ e ∷ f ∷ os ++ g ∷ []) q h)
  where
    by : Along b (a ∷ n ∷ c ∷ is ++ d ∷ e ∷ f ∷ os ++ g ∷ []) z
        → RpcWithin b z (record { name = make_word name n.span; input = input; output = output })
    by (la, sa, (ln, sn, (lc, sc, r))) =
        let (o, t, v) = along_split (suc c.span.start) (is ++ d ∷ e ∷ f ∷ os) (g ∷ []) z r in
        let (m, p, (ld, sd, (le, se, (lf, sf, u)))) = along_split (suc c.span.start) is (d ∷ e ∷ f ∷ os) o t in
        let i : NameWithin HasTypeName (suc c.span.start) m input = rpc_type_along (suc c.span.start) m ti p in
        let j : NameWithin HasTypeName (suc f.span.start) o output = rpc_type_along (suc f.span.start) o to u in
        let k : o ≤ z = along_ends o (g ∷ []) z v in
        let l : suc f.span.start ≤ o = along_ends (suc f.span.start) os o u in
        let ib : suc c.span.start ≤ input.span.start = i.within.behind in
        let ie : input.span.start < m = i.within.before in
        let jb : suc f.span.start ≤ output.span.start = j.within.behind in
        record {
          name = record { formed = sn.form name hn; within = record { behind = omega arith; before = omega arith } };
          input = record { formed = i.formed; within = record { behind = omega arith; before = omega arith } };
          output = record { formed = j.formed; within = widen b (suc f.span.start) o z output.span.start (omega arith) k j.within };
          named = omega arith;
          ordered = omega arith;
        }
