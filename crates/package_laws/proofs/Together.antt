-- Files with the same declarations, whose references name the same declarations: their violations, and their table.
use Rattle.std.proofs.Common.{◌≡◌, ℕ, List, [], ◌∷◌, ◌++◌, ◌<◌, length, Some, refl, sym, ap, ◌∙◌, subst}
use Rattle.std.specs.Prelude.{Contains, slice_get}
use Rattle.std.proofs.lemmas.List.Elements.{All-weaker}
use Rattle.std.specs.Prelude.{codes}
use Rattle.std.specs.Fmt.{decimal}
use Rattle.std.proofs.lemmas.Option.{same_Some}
use Rattle.mrpc_table.specs.Names.{is_short_full}
use Rattle.mrpc_table.specs.Text.{line}
use Rattle.mrpc_table.specs.declared.table.Field.{Field}
use Rattle.mrpc_table.specs.declared.table.Message.{Message}
use Rattle.mrpc_table.specs.declared.table.Choices.{Choices}
use Rattle.mrpc_table.specs.declared.table.Method.{Method}
use Rattle.mrpc_table.specs.declared.table.Table.{Table}
use Rattle.proto_ast.specs.declared.file.Span.{Span}
use Rattle.proto_ast.specs.declared.file.FieldDecl.{FieldDecl}
use Rattle.proto_ast.specs.declared.file.MessageDecl.{MessageDecl}
use Rattle.proto_ast.specs.declared.file.EnumDecl.{EnumDecl}
use Rattle.proto_ast.specs.declared.file.RpcDecl.{RpcDecl}
use Rattle.proto_ast.specs.declared.file.ServiceDecl.{ServiceDecl}
use Rattle.proto_ast.specs.declared.joined.Enclosing.TheVariants as home
use Rattle.proto_ast.specs.Joined.{Joined, package_at}
use Rattle.schema_symbols.specs.Scopes
use Rattle.schema_symbols.specs.Scopes.{IsScope, of_message, text_of}
use Rattle.schema_validation.specs.Methods.{rpcs_of}
use Rattle.schema_validation.specs.Correspondence.{AreCorresponding}
use Rattle.schema_validation.specs.Lines
use Rattle.schema_validation.specs.Lines.{HasLine, IsPastTextLimit}
use Rattle.schema_validation.specs.Violations
use Rattle.schema_validation.specs.Violations.{IsViolated}
use Rattle.schema_validation.specs.declared.reason.ResolveReason.{ResolveReason}
use Rattle.schema_resolve.specs.Tables.{IsFieldOf, IsMessageOf, IsEnumOf, IsMethodOf, IsTableOf}
use Rattle.schema_resolve.specs.Resolving.{HasNoViolation}
use Rattle.package_laws.specs.OnePackage.{its_input, its_output}
use Rattle.package_laws.proofs.Lists.{in_list, at_in, exchanged}
use Rattle.package_laws.proofs.Alike.{message_with, enum_with, service_with, AreAlike, homes_alike, scope_alike, message_scope_alike, twice_alike, long_alike}
use Rattle.package_laws.proofs.Judged.{MessageSame, RpcSame, form_same, message_offends_same, method_offends_same, enum_offends_same}

-- the references of the first files name the same declarations as those of the second ones
pub record ReferSame (J K : Joined) : Type 0 where
  pub messages : (i k : ℕ) (m : MessageDecl) (scope : List (List ℕ)) → slice_get J.messages i ≡ Some m
      → slice_get K.messages i ≡ Some (message_with k m) → IsScope J (home.Message i) scope
      → MessageSame J m.file scope K k scope m
  pub rpcs : (k : ℕ) (s : ServiceDecl) (r : RpcDecl) → Contains J.services s → Contains K.services (service_with k s)
      → Contains s.rpcs r → RpcSame J s.file (package_at J s.file) K k (package_at K k) r

-- ---- lines

line_alike : {J K : Joined} {span : Span} {text : List ℕ} → AreAlike J K → ReferSame J K → HasLine J span text
    → HasLine K span text
line_alike {J} {K} a same (Lines.of_message m c up) =
    let t = a.messages c.0 m (at_in J.messages m c) in
    let n = message_with t.file m in
    Lines.of_message n (in_list K.messages c.0 n t.at)
    (scope_alike a up (homes_alike m.file t.file m.parent t.own t.there))
line_alike {J} {K} a same (Lines.of_enum e c up) =
    let t = a.enums c.0 e (at_in J.enums e c) in
    let n = enum_with t.file e in
    Lines.of_enum n (in_list K.enums c.0 n t.at) (scope_alike a up (homes_alike e.file t.file e.parent t.own t.there))
line_alike {J} {K} a same (Lines.of_value e v has fits) =
    let c = has.enum in
    let t = a.enums c.0 e (at_in J.enums e c) in
    let n = enum_with t.file e in
    Lines.of_value n v (record { enum = in_list K.enums c.0 n t.at; value = has.value }) fits
line_alike {J} {K} a same (Lines.of_field m f number {scope} {label} {word} has is number_fits form) =
    let t = a.messages has.place m has.message in
    let own = same.messages has.place t.file m scope has.message t.at has.is_scope in
    Lines.of_field (message_with t.file m) f number
    (record {
      place = has.place;
      message = t.at;
      is_scope = message_scope_alike a has.is_scope;
      field = has.field;
    })
    is number_fits (form_same (own.fields f has.field) form)
line_alike {J} {K} {span} a same (Lines.of_method s r i {input} {output} at takes gives) =
    let t = a.rpcs i s r at in
    let own = same.rpcs t.file s r t.ours t.theirs t.its in
    let p : package_at K t.file ≡ package_at J s.file = sym (a.packages s.file t.file t.own t.there) in
    subst (λ (x : List (List ℕ)). HasLine K r.name.span (line
    (codes "method" ∷ decimal i ∷ text_of (x ++ s.name.name ∷ []) ∷ r.name.name ∷ text_of input ∷ text_of output
    ∷ [])))
    p
    (Lines.of_method (service_with t.file s) r i t.at
    ((own.names r.input.name its_input).into Scopes.a_message input takes)
    ((own.names r.output.name its_output).into Scopes.a_message output gives))

passes_alike : {J K : Joined} {span : Span} → AreAlike J K → ReferSame J K → IsPastTextLimit J span → IsPastTextLimit K span
passes_alike {J} {K} a same p = record {
  lines = p.lines;
  are = All-weaker (λ (l : Span × List ℕ). HasLine J l.0 l.1) (λ (l : Span × List ℕ). HasLine K l.0 l.1)
      (λ l has. line_alike a same has) p.lines p.are;
  ascend = p.ascend;
  own = p.own;
  last = p.last;
  none_behind = p.none_behind;
  pass = p.pass;
}

-- ---- their violations

-- this reason, at some span
pub record OffendsToo (K : Joined) (q : ResolveReason) : Type 0 where
  pub span : Span
  pub offends : IsViolated K q span

offends_alike : {J K : Joined} {q : ResolveReason} {span : Span} → AreAlike J K → ReferSame J K → IsViolated J q span
    → OffendsToo K q
offends_alike {span} a same (Violations.of_message i m {scope} at up o) =
    let t = a.messages i m at in
    record {
      span = span;
      offends = Violations.of_message i (message_with t.file m) t.at (message_scope_alike a up)
          (message_offends_same (same.messages i t.file m scope at t.at up) o);
    }
offends_alike {span} a same (Violations.of_enum i e at o) =
    let t = a.enums i e at in
    record { span = span; offends = Violations.of_enum i (enum_with t.file e) t.at (enum_offends_same {k = t.file} o) }
offends_alike {span} a same (Violations.of_service i s at o) =
    let t = a.services i s at in
    record { span = span; offends = Violations.of_service i (service_with t.file s) t.at o }
offends_alike {span} a same (Violations.of_method i s r at o) =
    let t = a.rpcs i s r at in
    record {
      span = span;
      offends = Violations.of_method i (service_with t.file s) r t.at
          (method_offends_same (same.rpcs t.file s r t.ours t.theirs t.its) o);
    }
offends_alike a same (Violations.of_package k h w at is long why) =
    let t = a.words k h w at is in
    record {
      span = t.word.span;
      offends = Violations.of_package t.file t.head t.word t.at t.is (ap is_short_full t.same ∙ long) (why.0, refl);
    }
offends_alike {span} a same (Violations.twice at o is) =
    record { span = span; offends = Violations.twice at (twice_alike a o) is }
offends_alike {span} a same (Violations.long_in_full at o is) =
    record { span = span; offends = Violations.long_in_full at (long_alike a o) is }
offends_alike {span} a same (Violations.long_text at o is) =
    record { span = span; offends = Violations.long_text at (passes_alike a same o) is }

pub clean_alike : {J K : Joined} → AreAlike J K → ReferSame J K → HasNoViolation K → HasNoViolation J
clean_alike a same clean q span o =
    let t = offends_alike a same o in
    clean q t.span t.offends

-- ---- their table

message_alike : {J K : Joined} {T : Table} (i k : ℕ) (m : MessageDecl) (t : Message) → AreAlike J K → ReferSame J K
    → slice_get J.messages i ≡ Some m → slice_get K.messages i ≡ Some (message_with k m) → m.file < length J.heads
    → k < length K.heads → IsMessageOf T J m t → IsMessageOf T K (message_with k m) t
message_alike {J} {K} {T} i k m t a same at there l n is =
    let scope = is.outer ++ m.name.name ∷ [] in
    let own = same.messages i k m scope at there (of_message i m at is.stands) in
    let field : (f : FieldDecl) (g : Field) → Contains m.fields f → IsFieldOf T J scope m t f g
    → IsFieldOf T K scope (message_with k m) t f g =
    λ f g c h. record {
      name = h.name;
      number = h.number;
      label = h.label;
      word = h.word;
      form = form_same (own.fields f c) h.form;
      kind = h.kind;
      known = h.known;
      same = h.same;
    } in
    record {
      outer = is.outer;
      stands = scope_alike a is.stands (homes_alike m.file k m.parent l n);
      name = is.name;
      fields = record {
        each = λ f c.
            let g = is.fields.each f c in
            (g.0, g.1, field f g.0 c g.2);
        alone = λ g c.
            let f = is.fields.alone g c in
            (f.0, f.1, field f.0 g f.1 f.2);
      };
      oneofs = is.oneofs;
    }

enum_alike : {J K : Joined} (k : ℕ) (e : EnumDecl) (c : Choices) → AreAlike J K → e.file < length J.heads
    → k < length K.heads → IsEnumOf J e c → IsEnumOf K (enum_with k e) c
enum_alike k e c a l n is = record {
  outer = is.outer;
  stands = scope_alike a is.stands (homes_alike e.file k e.parent l n);
  name = is.name;
  values = is.values;
}

messages_alike : {J K : Joined} {T : Table} → AreAlike J K → AreAlike K J → ReferSame J K
    → AreCorresponding (IsMessageOf T J) J.messages T.messages → AreCorresponding (IsMessageOf T K) K.messages T.messages
messages_alike {J} {K} {T} a b same those = record {
  each = λ m c.
      let at : slice_get K.messages c.0 ≡ Some m = at_in K.messages m c in
      let u = b.messages c.0 m at in
      let n = message_with u.file m in
      let t = those.each n (in_list J.messages c.0 n u.at) in
      (t.0, t.1, message_alike c.0 m.file n t.0 a same u.at at u.there u.own t.2);
  alone = λ t c.
      let m = those.alone t c in
      let at : slice_get J.messages m.1.0 ≡ Some m.0 = at_in J.messages m.0 m.1 in
      let u = a.messages m.1.0 m.0 at in
      let n = message_with u.file m.0 in
      (n, in_list K.messages m.1.0 n u.at, message_alike m.1.0 u.file m.0 t a same at u.at u.own u.there m.2);
}

enums_alike : {J K : Joined} (T : Table) → AreAlike J K → AreAlike K J → AreCorresponding (IsEnumOf J) J.enums T.enums
    → AreCorresponding (IsEnumOf K) K.enums T.enums
enums_alike {J} {K} T a b those = record {
  each = λ e c.
      let at : slice_get K.enums c.0 ≡ Some e = at_in K.enums e c in
      let u = b.enums c.0 e at in
      let n = enum_with u.file e in
      let t = those.each n (in_list J.enums c.0 n u.at) in
      (t.0, t.1, enum_alike e.file n t.0 a u.there u.own t.2);
  alone = λ t c.
      let e = those.alone t c in
      let at : slice_get J.enums e.1.0 ≡ Some e.0 = at_in J.enums e.0 e.1 in
      let u = a.enums e.1.0 e.0 at in
      let n = enum_with u.file e.0 in
      (n, in_list K.enums e.1.0 n u.at, enum_alike u.file e.0 t a u.own u.there e.2);
}

method_alike : {J K : Joined} {T : Table} (i : ℕ) (p x : ServiceDecl × RpcDecl) (t : Method) → AreAlike J K
    → ReferSame J K → slice_get (rpcs_of J) i ≡ Some p → slice_get (rpcs_of K) i ≡ Some x → IsMethodOf T J p t
    → IsMethodOf T K x t
method_alike {J} {K} {T} i p x t a same at there is =
    let s = p.0 in
    let r = p.1 in
    let u = a.rpcs i s r at in
    let own = same.rpcs u.file s r u.ours u.theirs u.its in
    let made : IsMethodOf T K (service_with u.file s, r) t =
    record {
      service = is.service
          ∙ ap (λ (y : List (List ℕ)). text_of (y ++ s.name.name ∷ [])) (a.packages s.file u.file u.own u.there);
      name = is.name;
      input = is.input;
      output = is.output;
      takes = (own.names r.input.name its_input).into Scopes.a_message is.input is.takes;
      gives = (own.names r.output.name its_output).into Scopes.a_message is.output is.gives;
      input_place = is.input_place;
      output_place = is.output_place;
    } in
    subst (λ (y : ServiceDecl × RpcDecl). IsMethodOf T K y t)
    (same_Some (service_with u.file s, r) x (sym u.at ∙ there)) made

pub table_alike : {J K : Joined} {T : Table} → AreAlike J K → AreAlike K J → ReferSame J K → IsTableOf J T
    → IsTableOf K T
table_alike {J} {K} {T} a b same is = record {
  valid = is.valid;
  messages = messages_alike a b same is.messages;
  enums = enums_alike T a b is.enums;
  methods = exchanged (IsMethodOf T J) (IsMethodOf T K) (rpcs_of K) is.methods a.rpc_count
      (λ i p x at there t h. method_alike i p x t a same at there h);
}
