-- The code's own: the numbers in the words of a form are in range.
use Rattle.std.specs.Prelude.{◌≤◌, List}
use Rattle.script_grammar.specs.WordKinds.{Meaning, number_at}
use Rattle.scenario_lines.specs.declared.form.ProgramForm.{ProgramForm}
use Rattle.scenario_lines.specs.declared.form.ProgramForm.TheVariants as line

abbrev pub AreNumbersInRange : ProgramForm → List Meaning → Type 0
AreNumbersInRange line.Spin ms = number_at ms 0 ≤ 500000
AreNumbersInRange line.Submit ms = number_at ms 0 ≤ 65535
AreNumbersInRange _ ms = Unit {0}
