-- The code's own: the frequent forms of lines that aren't read in one pass.
use Rattle.std.specs.Prelude.{◌≡◌, ◌⊎◌}
use Rattle.script_grammar.specs.declared.form.LineForm.{LineForm}
use Rattle.script_grammar.specs.declared.form.LineForm.TheVariants as form

abbrev pub IsFrequent : LineForm → Type 0
IsFrequent f = (f ≡ form.Upgrade) ⊎ (f ≡ form.Drain)
