-- Several files and the one file with all their declarations declare the same names.
use Rattle.std.proofs.Common.{◌≡◌, ℕ, zero, suc, ◌<◌, ◌⊎◌, inl, inr, List, [], ◌∷◌, ◌++◌, length, map, Option, Some, None, refl, sym, ap, ◌∙◌, subst, arith}
use Rattle.std.specs.Prelude.{Contains, slice_get}
use Rattle.std.specs.Option.{option_map}
use Rattle.std.specs.List.{flat_map}
use Rattle.std.proofs.lemmas.Option.{same_Some, none-some}
use Rattle.std.proofs.lemmas.List.{length-map, map-append}
use Rattle.std.proofs.lemmas.List.Elements.{All-contains}
use Rattle.mrpc_table.specs.Names.{parts_of}
use Rattle.proto_ast.specs.Together.{IsFormed}
use Rattle.proto_ast.specs.declared.file.Word.{Word}
use Rattle.proto_ast.specs.declared.file.MessageDecl.{MessageDecl}
use Rattle.proto_ast.specs.declared.file.EnumDecl.{EnumDecl}
use Rattle.proto_ast.specs.declared.file.RpcDecl.{RpcDecl}
use Rattle.proto_ast.specs.declared.file.ServiceDecl.{ServiceDecl}
use Rattle.proto_ast.specs.declared.file.File.{File}
use Rattle.proto_ast.specs.declared.joined.Head.{Head}
use Rattle.proto_ast.specs.Joined.{Joined, alone, package_at, package_in, package_parts}
use Rattle.schema_validation.specs.Methods.{rpcs_of, service_rpcs}
use Rattle.package_laws.specs.OnePackage.{message_alone, enum_alone, service_alone, IsOneFile}
use Rattle.package_laws.proofs.Lists.{in_list, some_at, mapped_from, mapped_to}
use Rattle.package_laws.proofs.Alike.{message_with, enum_with, service_with, HasMessage, HasEnum, HasService, HasRpc, HasPackage, AreAlike}

-- ---- rpcs

abbrev pair_alone : ServiceDecl × RpcDecl → ServiceDecl × RpcDecl
pair_alone p = (service_alone p.0, p.1)

its_rpcs_alone : (s : ServiceDecl) (rs : List RpcDecl)
    → map (λ (r : RpcDecl). (service_alone s, r)) rs ≡ map pair_alone (map (λ (r : RpcDecl). (s, r)) rs)
its_rpcs_alone s [] = refl
its_rpcs_alone s (r ∷ rs) = ap (λ (ps : List (ServiceDecl × RpcDecl)). (service_alone s, r) ∷ ps) (its_rpcs_alone s rs)

rpcs_alone : (ss : List ServiceDecl)
    → flat_map service_rpcs (map service_alone ss) ≡ map pair_alone (flat_map service_rpcs ss)
rpcs_alone [] = refl
rpcs_alone (s ∷ ss) =
    ap (λ (ps : List (ServiceDecl × RpcDecl)). ps ++ flat_map service_rpcs (map service_alone ss))
    (its_rpcs_alone s s.rpcs)
    ∙ ap (λ (ps : List (ServiceDecl × RpcDecl)). map pair_alone (service_rpcs s) ++ ps) (rpcs_alone ss)
    ∙ sym (map-append pair_alone (service_rpcs s) (flat_map service_rpcs ss))

-- an element of the pairs of an item with its parts, or of the elements after them
mapped_or_later : (s : ServiceDecl) (rs : List RpcDecl) (later : List (ServiceDecl × RpcDecl)) (i : ℕ)
    (x : ServiceDecl) (r : RpcDecl) → slice_get (map (λ y. (s, y)) rs ++ later) i ≡ Some (x, r)
    → ((s ≡ x) × ((j : ℕ) × (slice_get rs j ≡ Some r))) ⊎ ((k : ℕ) × (slice_get later k ≡ Some (x, r)))
mapped_or_later s [] later i x r e = inr (i, e)
mapped_or_later s (y ∷ ys) later zero x r e =
    let p : ◌≡◌ {A = ServiceDecl × RpcDecl} (s, y) (x, r) = same_Some (s, y) (x, r) e in
    inl (ap (λ (q : ServiceDecl × RpcDecl). q.0) p, (0, ap (λ (q : ServiceDecl × RpcDecl). Some q.1) p))
mapped_or_later s (y ∷ ys) later (suc i) x r e = elim (mapped_or_later s ys later i x r e) [
  | inl p ↦ inl (p.0, (suc p.1.0, p.1.1))
  | inr p ↦ inr p
]

-- the service of an rpc, and the rpc in it
rpc_placed : (services : List ServiceDecl) (i : ℕ) (x : ServiceDecl) (r : RpcDecl)
    → slice_get (flat_map service_rpcs services) i ≡ Some (x, r)
    → (a : ℕ) × (b : ℕ) × (slice_get services a ≡ Some x) × (slice_get x.rpcs b ≡ Some r)
rpc_placed [] i x r e = absurd (none-some (x, r) e)
rpc_placed (s ∷ ss) i x r e = elim (mapped_or_later s s.rpcs (flat_map service_rpcs ss) i x r e) [
  | inl p ↦ (0, p.1.0, ap Some p.0, subst (λ (y : ServiceDecl). slice_get y.rpcs p.1.0 ≡ Some r) p.0 p.1.1)
  | inr p ↦
      let o = rpc_placed ss p.0 x r p.1 in
      (suc o.0, o.1, o.2, o.3)
]

-- ---- packages

abbrev name_of : Word → List ℕ
name_of w = w.name

named_parts : (p q : Option Word) → option_map name_of p ≡ option_map name_of q → package_parts p ≡ package_parts q
named_parts None None e = refl
named_parts None (Some w) e = absurd (none-some w.name e)
named_parts (Some w) None e = absurd (none-some w.name (sym e))
named_parts (Some w) (Some v) e = ap parts_of (same_Some w.name v.name e)

named_word : (w : Word) (p q : Option Word) → p ≡ Some w → option_map name_of p ≡ option_map name_of q
    → (v : Word) × (q ≡ Some v) × (v.name ≡ w.name)
named_word w p None is e = absurd (none-some w.name (sym e ∙ ap (option_map name_of) is))
named_word w p (Some v) is e = (v, refl, same_Some v.name w.name (sym e ∙ ap (option_map name_of) is))

module _ (F : Joined) (G : File) (one : IsOneFile F G) where
  its_package : (k : ℕ) (h : Head) → slice_get F.heads k ≡ Some h
      → option_map name_of h.package ≡ option_map name_of G.package
  its_package k h at =
      All-contains (λ (x : Head). option_map name_of x.package ≡ option_map name_of G.package) F.heads h one.one_package
      (in_list F.heads k h at)

  -- each file has the package of the one file
  pub package_same : (k : ℕ) → k < length F.heads → package_at F k ≡ package_parts G.package
  package_same k l =
      let h = some_at F.heads k l in
      ap package_in h.1 ∙ named_parts h.0.package G.package (its_package k h.0 h.1)

  pub package_alone : (k : ℕ) → k < 1 → package_at (alone G) k ≡ package_parts G.package
  package_alone k l =
      let e : k ≡ 0 = omega arith in
      ap (package_at (alone G)) e

  word_into : (k : ℕ) (h : Head) (w : Word) → slice_get F.heads k ≡ Some h → h.package ≡ Some w
      → HasPackage (alone G) w
  word_into k h w at is =
      let v = named_word w h.package G.package is (its_package k h at) in
      record {
        file = 0;
        head = record { «package» = G.package; sees = 0 ∷ [] };
        word = v.0;
        at = refl;
        is = v.1;
        same = v.2;
      }

  word_back : (k : ℕ) (h : Head) (w : Word) → slice_get (alone G).heads k ≡ Some h → h.package ≡ Some w → HasPackage F w
  word_back zero h w at is =
      let g : Head = record { «package» = G.package; sees = 0 ∷ [] } in
      let same : g ≡ h = same_Some g h at in
      let ours = some_at F.heads 0 one.some in
      let v = named_word w G.package ours.0.package (ap (λ (x : Head). x.package) same ∙ is)
      (sym (its_package 0 ours.0 ours.1)) in
      record { file = 0; head = ours.0; word = v.0; at = ours.1; is = v.1; same = v.2 }
  word_back (suc k) h w at is = absurd (none-some h at)

  -- ---- declarations

  module _ (formed : IsFormed F) where
    message_file : (i : ℕ) (m : MessageDecl) → slice_get F.messages i ≡ Some m → m.file < length F.heads
    message_file i m at =
        All-contains (λ (x : MessageDecl). x.file < length F.heads) F.messages m formed.message_files
        (in_list F.messages i m at)

    enum_file : (i : ℕ) (e : EnumDecl) → slice_get F.enums i ≡ Some e → e.file < length F.heads
    enum_file i e at =
        All-contains (λ (x : EnumDecl). x.file < length F.heads) F.enums e formed.enum_files (in_list F.enums i e at)

    service_file : (i : ℕ) (s : ServiceDecl) → slice_get F.services i ≡ Some s → s.file < length F.heads
    service_file i s at =
        All-contains (λ (x : ServiceDecl). x.file < length F.heads) F.services s formed.service_files
        (in_list F.services i s at)

    rpcs_same : rpcs_of (alone G) ≡ map pair_alone (rpcs_of F)
    rpcs_same = ap (flat_map service_rpcs) one.services ∙ rpcs_alone F.services

    pub alike_into : AreAlike F (alone G)
    alike_into = record {
      some = omega arith;
      packages = λ j k l n. package_same j l ∙ sym (package_alone k n);
      words = word_into;
      messages = λ i m at. record {
        file = 0;
        own = message_file i m at;
        there = omega arith;
        at = ap (λ (ms : List MessageDecl). slice_get ms i) one.messages ∙ mapped_to message_alone F.messages i m at;
      };
      enums = λ i e at. record {
        file = 0;
        own = enum_file i e at;
        there = omega arith;
        at = ap (λ (es : List EnumDecl). slice_get es i) one.enums ∙ mapped_to enum_alone F.enums i e at;
      };
      services = λ i s at. record {
        file = 0;
        own = service_file i s at;
        there = omega arith;
        at = ap (λ (ss : List ServiceDecl). slice_get ss i) one.services ∙ mapped_to service_alone F.services i s at;
      };
      rpcs = λ i s r at.
          let o = rpc_placed F.services i s r at in
          let known : slice_get (alone G).services o.0 ≡ Some (service_with 0 s) =
          ap (λ (ss : List ServiceDecl). slice_get ss o.0) one.services
          ∙ mapped_to service_alone F.services o.0 s o.2 in
          record {
            file = 0;
            own = service_file o.0 s o.2;
            there = omega arith;
            at = ap (λ (ps : List (ServiceDecl × RpcDecl)). slice_get ps i) rpcs_same
                ∙ mapped_to pair_alone (rpcs_of F) i (s, r) at;
            ours = in_list F.services o.0 s o.2;
            theirs = in_list (alone G).services o.0 (service_with 0 s) known;
            its = in_list s.rpcs o.1 r o.3;
          };
      rpc_count = ap length rpcs_same ∙ length-map (rpcs_of F) pair_alone;
    }

    message_back : (i : ℕ) (m : MessageDecl) → slice_get (alone G).messages i ≡ Some m → HasMessage (alone G) F i m
    message_back i m at =
        let o = mapped_from message_alone F.messages i m
        (sym (ap (λ (ms : List MessageDecl). slice_get ms i) one.messages) ∙ at) in
        let zeroth : 0 ≡ m.file = ap (λ (x : MessageDecl). x.file) o.2 in
        record {
          file = o.0.file;
          own = omega arith;
          there = message_file i o.0 o.1;
          at = subst (λ (x : MessageDecl). slice_get F.messages i ≡ Some (message_with o.0.file x)) o.2 o.1;
        }

    enum_back : (i : ℕ) (e : EnumDecl) → slice_get (alone G).enums i ≡ Some e → HasEnum (alone G) F i e
    enum_back i e at =
        let o = mapped_from enum_alone F.enums i e
        (sym (ap (λ (es : List EnumDecl). slice_get es i) one.enums) ∙ at) in
        let zeroth : 0 ≡ e.file = ap (λ (x : EnumDecl). x.file) o.2 in
        record {
          file = o.0.file;
          own = omega arith;
          there = enum_file i o.0 o.1;
          at = subst (λ (x : EnumDecl). slice_get F.enums i ≡ Some (enum_with o.0.file x)) o.2 o.1;
        }

    service_back : (i : ℕ) (s : ServiceDecl) → slice_get (alone G).services i ≡ Some s → HasService (alone G) F i s
    service_back i s at =
        let o = mapped_from service_alone F.services i s
        (sym (ap (λ (ss : List ServiceDecl). slice_get ss i) one.services) ∙ at) in
        let zeroth : 0 ≡ s.file = ap (λ (x : ServiceDecl). x.file) o.2 in
        record {
          file = o.0.file;
          own = omega arith;
          there = service_file i o.0 o.1;
          at = subst (λ (x : ServiceDecl). slice_get F.services i ≡ Some (service_with o.0.file x)) o.2 o.1;
        }

    rpc_back : (i : ℕ) (s : ServiceDecl) (r : RpcDecl) → slice_get (rpcs_of (alone G)) i ≡ Some (s, r)
        → HasRpc (alone G) F i s r
    rpc_back i s r at =
        let here = rpc_placed (alone G).services i s r at in
        let o = mapped_from pair_alone (rpcs_of F) i (s, r)
        (sym (ap (λ (ps : List (ServiceDecl × RpcDecl)). slice_get ps i) rpcs_same) ∙ at) in
        let p = o.0 in
        let there = rpc_placed F.services i p.0 p.1 o.1 in
        let one_service : service_alone p.0 ≡ s = ap (λ (x : ServiceDecl × RpcDecl). x.0) o.2 in
        let zeroth : 0 ≡ s.file = ap (λ (x : ServiceDecl). x.file) one_service in
        record {
          file = p.0.file;
          own = omega arith;
          there = service_file there.0 p.0 there.2;
          at = subst
              (λ (x : ServiceDecl × RpcDecl). slice_get (rpcs_of F) i ≡ Some (service_with p.0.file x.0, x.1)) o.2 o.1;
          ours = in_list (alone G).services here.0 s here.2;
          theirs = subst (λ (x : ServiceDecl). Contains F.services (service_with p.0.file x)) one_service
              (in_list F.services there.0 p.0 there.2);
          its = in_list s.rpcs here.1 r here.3;
        }

    pub alike_back : AreAlike (alone G) F
    alike_back = record {
      some = one.some;
      packages = λ j k l n. package_alone j l ∙ sym (package_same k n);
      words = word_back;
      messages = message_back;
      enums = enum_back;
      services = service_back;
      rpcs = rpc_back;
      rpc_count = sym (ap length rpcs_same ∙ length-map (rpcs_of F) pair_alone);
    }
