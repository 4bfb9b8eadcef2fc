-- The fixed words of lines.
use Rattle.std.specs.Prelude.{ℕ, List, codes}
use Rattle.script_grammar.specs.declared.keyword.Keyword.{Keyword}
use Rattle.script_grammar.specs.declared.keyword.Keyword.TheVariants.{Access, Attach, Burst, Cap, Close, Conn, Count, Deny, Detach, Drain, Hold, Moment, Per, Policy, Quota, Race, Rate, Redact, Send, Store, Submit, Tenant, Turn, Upgrade}

abbrev pub spelling : Keyword → List ℕ
spelling Access = codes "access"
spelling Attach = codes "attach"
spelling Burst = codes "burst"
spelling Cap = codes "cap"
spelling Close = codes "close"
spelling Conn = codes "conn"
spelling Count = codes "count"
spelling Deny = codes "deny"
spelling Detach = codes "detach"
spelling Drain = codes "drain"
spelling Hold = codes "hold"
spelling Moment = codes "moment"
spelling Per = codes "per"
spelling Policy = codes "policy"
spelling Quota = codes "quota"
spelling Race = codes "race"
spelling Rate = codes "rate"
spelling Redact = codes "redact"
spelling Send = codes "send"
spelling Store = codes "store"
spelling Submit = codes "submit"
spelling Tenant = codes "tenant"
spelling Turn = codes "turn"
spelling Upgrade = codes "upgrade"
