-- The forms of program lines and of step lines (this project's own).
use Rattle.std.specs.Prelude.{ℕ, ◌/◌, ◌^◌, List, [], ◌∷◌, codes, Option}
use Rattle.std.specs.List.{find}
use Rattle.std.specs.Str.{bytes_eq}
use Rattle.app_program.specs.declared.program.TheConstants.{MAX_STORES}
use Rattle.script_grammar.specs.Forms.{number_kind, method_kind}
use Rattle.script_grammar.specs.Keywords.{spelling}
use Rattle.script_grammar.specs.declared.keyword.Keyword.{Keyword}
use Rattle.script_grammar.specs.declared.keyword.Keyword.TheVariants as keyword
use Rattle.script_grammar.specs.declared.word_kind.WordKind.{WordKind}
use Rattle.script_grammar.specs.declared.word_kind.WordKind.TheVariants as sort
use Rattle.scenario_lines.specs.declared.form.ProgramForm.{ProgramForm}
use Rattle.scenario_lines.specs.declared.form.ProgramForm.TheVariants as line
use Rattle.scenario_lines.specs.declared.form.ProgramRole.{ProgramRole}
use Rattle.scenario_lines.specs.declared.form.ProgramRole.TheVariants as role
use Rattle.scenario_lines.specs.declared.form.StepForm.{StepForm}
use Rattle.scenario_lines.specs.declared.form.StepForm.TheVariants as step

-- ---- program lines: a first word, and the words after it

abbrev pub first_word : ProgramForm → List ℕ
first_word line.Store = codes "store"
first_word line.Spin = codes "spin"
first_word line.Submit = codes "submit"
first_word line.Reclaim = codes "reclaim"
first_word line.Reply = codes "reply"

-- a line that spins stores twice as often as its number, and no program stores more
abbrev pub times : WordKind
times = sort.Number 0 (MAX_STORES / 2)

abbrev pub block : WordKind
block = sort.Number 1 (2 ^ 63)

-- the words after the first one; a place is a number of any size, since its range depends on the heap
abbrev pub line_sorts : ProgramForm → List WordKind
line_sorts line.Store = sort.Unbounded ∷ sort.Value ∷ []
line_sorts line.Spin = times ∷ sort.Unbounded ∷ sort.Value ∷ sort.Value ∷ []
line_sorts line.Submit = method_kind ∷ number_kind ∷ []
line_sorts line.Reclaim = block ∷ []
line_sorts line.Reply = number_kind ∷ []

-- the lines of each role
abbrev pub forms_of : ProgramRole → List ProgramForm
forms_of role.Client = line.Store ∷ line.Spin ∷ line.Submit ∷ line.Reclaim ∷ []
forms_of role.Server = line.Store ∷ line.Spin ∷ line.Reply ∷ []

-- the form of a role's line with this first word
abbrev pub line_form : ProgramRole → List ℕ → Option ProgramForm
line_form r word = find (λ f. bytes_eq word (first_word f)) (forms_of r)

-- ---- step lines: a count of calls, and a word that names the action

abbrev pub step_word : StepForm → Keyword
step_word step.Attach = keyword.Attach
step_word step.Detach = keyword.Detach
step_word step.Upgrade = keyword.Upgrade

-- a position on a chain is a number of any size
abbrev pub step_sorts : StepForm → List WordKind
step_sorts step.Attach = number_kind ∷ sort.Key keyword.Attach ∷ sort.Unbounded ∷ sort.Name ∷ sort.Name ∷ []
step_sorts step.Detach = number_kind ∷ sort.Key keyword.Detach ∷ sort.Name ∷ []
step_sorts step.Upgrade = number_kind ∷ sort.Key keyword.Upgrade ∷ sort.Name ∷ sort.Name ∷ []

-- the form of a line with this second word
abbrev pub step_form : List ℕ → Option StepForm
step_form word = find (λ f. bytes_eq word (spelling (step_word f))) (step.Attach ∷ step.Detach ∷ step.Upgrade ∷ [])
