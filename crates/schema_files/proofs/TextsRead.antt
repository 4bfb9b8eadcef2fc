-- The contents of a set's texts that are read so far.
use Rattle.std.proofs.Common.{◌≡◌, ℕ, ◌+◌, ◌<◌, List, [], ◌∷◌, ◌++◌, inl, inr, length, refl, sym, ap, ◌∙◌, subst, arith}
use Rattle.std.specs.Prelude.{slice_get, Some}
use Rattle.std.proofs.lemmas.List.{length_push}
use Rattle.std.proofs.lemmas.List.{length-map}
use Rattle.std.proofs.lemmas.Option.{same_Some}
use Rattle.proto_set.specs.Named.{file_of, files_of}
use Rattle.proto_set.specs.declared.named.Named.{Named}
use Rattle.proto_set.specs.Bundle.{BundledFile as PackedFile}
use Rattle.proto_ast.specs.declared.file.Span.{Span}
use Rattle.proto_schema.specs.Faults.{HasProtoFault as HasTextFault}
use Rattle.proto_grammar.specs.declared.fault.ProtoReason.{ProtoReason}
use Rattle.schema_files.specs.declared.fault.FilesReason.TheVariants.{Proto}
use Rattle.proto_set.specs.declared.set.ParsedFile.{ParsedFile}
use Rattle.schema_files.specs.Joined.{IsReadAs, AreReadAs}
use Rattle.schema_files.specs.Resolving.{CanBeRead, HasFilesFault, unread}
use Rattle.schema_files.specs.Unread.{HasUnread, unread_text, IsUnread, IsContentFault}
use Rattle.schema_files.specs.declared.fault.FilesReason.{FilesReason}
use Rattle.schema_files.specs.declared.fault.FilesFault.{FilesFault}
use Rattle.schema_files.specs.declared.fault.FilesFault.TheVariants as fault
use Rattle.schema_files.proofs.Lists.{get_push, some_at, zip_all}

pub record ReadBefore (files : List PackedFile) (n : ℕ) (members : List ParsedFile) : Type 0 where
  pub count : length members ≡ n
  pub each : (j : ℕ) (f : PackedFile) (m : ParsedFile) → slice_get files j ≡ Some f → slice_get members j ≡ Some m
      → IsReadAs f m

pub read_none : (files : List PackedFile) (members : List ParsedFile) → members ≡ [] → ReadBefore files 0 members
read_none files members e = subst (ReadBefore files 0) (sym e) (record {
  count = refl;
  each = λ j f m at it. absurd cc;
})

pub read_more : (files : List PackedFile) (n : ℕ) (f : PackedFile) (m : ParsedFile) (old new : List ParsedFile)
    → slice_get files n ≡ Some f → IsReadAs f m → new ≡ old ++ m ∷ [] → ReadBefore files n old
    → ReadBefore files (n + 1) new
read_more files n f m old new at reads e h = subst (ReadBefore files (n + 1)) (sym e) (record {
  count = length_push old m ∙ ap (λ (k : ℕ). k + 1) h.count;
  each = λ j g q a it. elim (get_push old m q j it) [
    | inl before ↦ h.each j g q a before
    | inr last ↦
        let s : j ≡ n = last.0 ∙ h.count in
        let same : f ≡ g = same_Some f g (sym at ∙ ap (λ (k : ℕ). slice_get files k) (sym s) ∙ a) in
        subst (λ (x : PackedFile). IsReadAs x q) same (subst (λ (x : ParsedFile). IsReadAs f x) last.1 reads)
  ];
})

pub read_all : (packed : List Named) (n : ℕ) (members : List ParsedFile) → n ≡ length packed
    → ReadBefore (files_of packed) n members → AreReadAs (files_of packed) members
read_all packed n members e h =
    zip_all IsReadAs (files_of packed) members (length-map packed file_of ∙ sym e ∙ sym h.count) h.each

-- ---- the first text that can't be read

pub earlier_read : (files : List PackedFile) (n : ℕ) (members : List ParsedFile) → ReadBefore files n members
    → (j : ℕ) (g : PackedFile) → j < n → slice_get files j ≡ Some g → CanBeRead g
earlier_read files n members h j g l at =
    let m = some_at members j (omega (arith, h.count)) in
    (m.0.file, (h.each j g m.0 at m.1).text)

first_unread : (files : List PackedFile) (place line : ℕ) (f : PackedFile) (q : FilesReason)
    → slice_get files place ≡ Some f → ((j : ℕ) (g : PackedFile) → j < place → slice_get files j ≡ Some g → CanBeRead g)
    → HasUnread f line q → HasFilesFault files place line q
first_unread files place line f q at before (unread_text r s h e) = unread f r s at h before e

pub unread_fault : (files : List PackedFile) (place : ℕ) (f : PackedFile) (e : FilesFault)
    → slice_get files place ≡ Some f → ((j : ℕ) (g : PackedFile) → j < place → slice_get files j ≡ Some g → CanBeRead g)
    → IsUnread f place e → IsContentFault files e
unread_fault files place f (fault.At file line q) at before h =
    subst (λ (k : ℕ). HasFilesFault files k line q) (sym h.0) (first_unread files place line f q at before h.1)
unread_fault files place f (fault.Path file) at before h = absurd h
unread_fault files place f fault.Memory at before h = tt

-- ---- one text

pub text_unread : (f : PackedFile) (q r : ProtoReason) (s : Span) (line : ℕ) → HasTextFault f.1 q s → r ≡ q → line ≡ s.line
    → HasUnread f line (Proto r)
text_unread f q r s line h e l =
    subst (λ (x : ProtoReason). HasUnread f line (Proto x)) (sym e) (unread_text q s h l)
