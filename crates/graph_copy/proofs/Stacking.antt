-- Frames on the stack of expected words.
use Rattle.std.proofs.Common.{◌≡◌, ℕ, List, [], ◌∷◌, ◌++◌, Option, Some, None, sym, ap, subst, ◌∙◌, append_assoc, append-nil}
use Rattle.mrpc_table.specs.declared.table.Table.{Table}
use Rattle.graph_form.specs.Roles.{Expected}
use Rattle.graph_copy.specs.declared.role.Role.{Role}
use Rattle.graph_copy.specs.declared.walk.WalkFrame.{WalkFrame}
use Rattle.graph_copy.specs.declared.walk.RunWord.{RunWord}
use Rattle.graph_copy.specs.Expected.{layout_role, run_next, frame_words, stack_words}
use Rattle.graph_copy.specs.Opens.{HasOpenedFrame}

pub stack_push : (T : Table) (fs : List WalkFrame) (f : WalkFrame) → stack_words T (fs ++ f ∷ []) ≡ frame_words T f ++ stack_words T fs
stack_push T [] f = sym (append-nil (frame_words T f))
stack_push T (g ∷ fs) f = ap (λ es. es ++ frame_words T g) (stack_push T fs f) ∙ append_assoc (frame_words T f) (stack_words T fs) (frame_words T g)

-- the last frame was popped
pub stack_pop : (T : Table) (before after : List WalkFrame) (f : WalkFrame) (all : Expected) → before ≡ after ++ f ∷ []
    → stack_words T before ≡ all → frame_words T f ++ stack_words T after ≡ all
stack_pop T before after f all popped is = sym (stack_push T after f) ∙ ap (stack_words T) (sym popped) ∙ is

-- its first word was found
pub first_found : (T : Table) (f : WalkFrame) (before after : List WalkFrame) (found : Option (Role × ℕ)) (w : Role × ℕ) (all : Expected) (run : Option RunWord) (bytes : List ℕ)
    → frame_words T f ++ stack_words T before ≡ all → found ≡ Some w → run ≡ None
    → HasOpenedFrame T (frame_words T f) before after found
    → all ≡ (layout_role T w.0, w.1) ∷ (run_next run bytes ++ stack_words T after)
first_found T f before after found w all run bytes is some no_run opens =
    let opened = subst (HasOpenedFrame T (frame_words T f) before after) some opens in
    sym is ∙ opened ∙ ap (λ r. (layout_role T w.0, w.1) ∷ (run_next r bytes ++ stack_words T after)) (sym no_run)

-- it has no word
pub none_found : (T : Table) (f : WalkFrame) (before after : List WalkFrame) (found : Option (Role × ℕ)) (all : Expected)
    → frame_words T f ++ stack_words T before ≡ all → found ≡ None → HasOpenedFrame T (frame_words T f) before after found → stack_words T after ≡ all
none_found T f before after found all is none opens =
    let opened = subst (HasOpenedFrame T (frame_words T f) before after) none opens in
    ap (stack_words T) opened.1 ∙ ap (λ es. es ++ stack_words T before) (sym opened.0) ∙ is
