-- Words name one view.
use Rattle.std.proofs.Common.{◌≡◌, ℕ, List, [], ◌∷◌, refl, sym, ap, ◌∙◌, arith}
use Rattle.std.specs.Prelude.{String}
use Rattle.std.specs.declared.alloc.Global.{Global}
use Rattle.view_top.specs.Views.{IsNamedView, view_word}
use Rattle.view_top.specs.declared.view.ViewKind.{ViewKind}
use Rattle.view_top.specs.declared.view.ViewKind.TheVariants.{Frames, Script, Timeline}

abbrev first_byte : List (List ℕ) → ℕ
first_byte ((b ∷ bs) ∷ words) = b
first_byte _ = 0

told_apart : (v w : ViewKind) → first_byte (view_word v ∷ []) ≡ first_byte (view_word w ∷ []) → v ≡ w
told_apart Frames Frames e = refl
told_apart Frames Script e = absurd (omega (arith, e))
told_apart Frames Timeline e = absurd (omega (arith, e))
told_apart Script Frames e = absurd (omega (arith, e))
told_apart Script Script e = refl
told_apart Script Timeline e = absurd (omega (arith, e))
told_apart Timeline Frames e = absurd (omega (arith, e))
told_apart Timeline Script e = absurd (omega (arith, e))
told_apart Timeline Timeline e = refl

pub one_view : (words : List (String Global)) (v w : ViewKind) → IsNamedView words v → IsNamedView words w → v ≡ w
one_view words v w p q = told_apart v w (ap first_byte (sym p ∙ q))
