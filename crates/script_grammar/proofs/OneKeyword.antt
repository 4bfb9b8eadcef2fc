-- A word is at most one keyword.
use Rattle.std.proofs.Common.{◌≡◌, ℕ, List, [], ◌∷◌, Option, Some, refl, sym, ap, ◌∙◌}
use Rattle.std.specs.Str.{bytes_eq}
use Rattle.std.specs.List.{find}
use Rattle.std.proofs.lemmas.Option.{same_Some}
use Rattle.script_grammar.specs.Keywords.{spelling}
use Rattle.script_grammar.specs.declared.keyword.Keyword.{Keyword}
use Rattle.script_grammar.specs.declared.keyword.Keyword.TheVariants.{Access, Attach, Burst, Cap, Close, Conn, Count}
use Rattle.script_grammar.specs.declared.keyword.Keyword.TheVariants.{Deny, Detach, Drain, Hold, Moment, Per, Policy}
use Rattle.script_grammar.specs.declared.keyword.Keyword.TheVariants.{Quota, Race, Rate, Redact, Send, Store, Submit}
use Rattle.script_grammar.specs.declared.keyword.Keyword.TheVariants.{Tenant, Turn, Upgrade}

abbrev all_keywords : List Keyword
all_keywords = Access ∷ Attach ∷ Burst ∷ Cap ∷ Close ∷ Conn ∷ Count ∷ Deny ∷ Detach ∷ Drain ∷ Hold ∷ Moment ∷ Per
    ∷ Policy ∷ Quota ∷ Race ∷ Rate ∷ Redact ∷ Send ∷ Store ∷ Submit ∷ Tenant ∷ Turn ∷ Upgrade ∷ []

abbrev keyword_of : List ℕ → Option Keyword
keyword_of w = find (λ k. bytes_eq (spelling k) w) all_keywords

found : (k : Keyword) → keyword_of (spelling k) ≡ Some k
found Access = refl
found Attach = refl
found Burst = refl
found Cap = refl
found Close = refl
found Conn = refl
found Count = refl
found Deny = refl
found Detach = refl
found Drain = refl
found Hold = refl
found Moment = refl
found Per = refl
found Policy = refl
found Quota = refl
found Race = refl
found Rate = refl
found Redact = refl
found Send = refl
found Store = refl
found Submit = refl
found Tenant = refl
found Turn = refl
found Upgrade = refl

pub same_keyword : (k l : Keyword) → spelling k ≡ spelling l → k ≡ l
same_keyword k l e = same_Some k l (sym (found k) ∙ ap keyword_of e ∙ found l)
