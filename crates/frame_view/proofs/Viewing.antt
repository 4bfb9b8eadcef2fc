-- Views of consecutive frames.
use Rattle.std.proofs.Common.{◌≡◌, ℕ, ◌+◌, ◌≤◌, List, [], ◌∷◌, ◌++◌, length, drop, refl, sym, ap, subst, ◌∙◌, append_assoc, append-nil}
use Rattle.std.specs.Prelude.{Result, Ok, Err, IfErr}
use Rattle.mrpc_table.specs.declared.table.Table.{Table}
use Rattle.frame_transport.specs.Frames.{IsSplitOf}
use Rattle.frame_transport.specs.FramesInPlace.{IsFrameAt}
use Rattle.frame_transport.specs.declared.format.Frame.{Frame}
use Rattle.frame_view.specs.Faults.{OnFault}
use Rattle.frame_view.specs.FrameRanges.{AreFramesBetween}
use Rattle.frame_view.specs.declared.fault.ReadFault.{ReadFault}
use Rattle.frame_view.specs.declared.fault.ReadFault.TheVariants.{At, Memory}
use Rattle.frame_view.specs.Views.{IsViewOf, AreViewsOf}
use Rattle.frame_view.specs.ViewRanges.{IsLinesOf}
use Rattle.frame_view.specs.Written.{OnViewError}
use Rattle.frame_view.specs.declared.views.ViewError.{ViewError}
use Rattle.frame_view.specs.declared.views.ViewError.TheVariants.{Read, Out}

-- what follows from a property of a fault, holds for it
pub on_fault : (P Q : ℕ → List ℕ → Type 0) (fault : ReadFault) → ((place : ℕ) (word : List ℕ) → P place word → Q place word) → OnFault P fault → OnFault Q fault
on_fault P Q (At place word) then h = then place word.now h
on_fault P Q Memory then h = tt

-- and holds for the reason why the view stops
pub if_stop : (P Q : ℕ → List ℕ → Type 0) (r : Result (Unit {0}) ViewError)
    → ((place : ℕ) (word : List ℕ) → P place word → Q place word) → IfErr r (OnViewError P) → IfErr r (OnViewError Q)
if_stop P Q (Ok done) then h = tt
if_stop P Q (Err (Read fault)) then h = on_fault P Q fault then h
if_stop P Q (Err Out) then h = tt

-- the views of frames, followed by the views of the next frames
views-append : (T : Table) (fs gs : List Frame) (a b : List ℕ) → AreViewsOf T fs a → AreViewsOf T gs b → AreViewsOf T (fs ++ gs) (a ++ b)
views-append T [] gs a b p q = subst (λ (x : List ℕ). AreViewsOf T gs (x ++ b)) (sym p) q
views-append T (f ∷ fs) gs a b p q = (p.0, p.1 ++ b, p.2, views-append T fs gs p.1 b p.3 q, ap (λ (x : List ℕ). x ++ b) p.4 ∙ append_assoc p.0 p.1 b)

view_alone : (T : Table) (f : Frame) (text : List ℕ) → IsViewOf T f text → AreViewsOf T (f ∷ []) text
view_alone T f text h = (text, [], h, refl, sym (append-nil text))

-- laws of consecutive frames
pub record WalkLaw : Type 0 where
  pub none : (stream : List ℕ) (from : ℕ) → AreFramesBetween stream from from []
  pub one : (stream : List ℕ) (from to : ℕ) (f : Frame) → IsFrameAt from (drop from stream) f → to ≡ from + (16 + length f.payload) → AreFramesBetween stream from to (f ∷ [])
  pub more : (stream : List ℕ) (from mid to : ℕ) (fs gs : List Frame) → AreFramesBetween stream from mid fs → AreFramesBetween stream mid to gs → AreFramesBetween stream from to (fs ++ gs)
  pub all : (stream : List ℕ) (to : ℕ) (fs : List Frame) → AreFramesBetween stream 0 to fs → length stream ≤ to → IsSplitOf 0 stream fs []

pub shows_nothing : WalkLaw → (T : Table) (stream : List ℕ) (from : ℕ) → IsLinesOf T stream from from []
shows_nothing law T stream from = record { frames = []; stands = law.none stream from; views = refl }

pub shows_one : WalkLaw → (T : Table) (stream : List ℕ) (from to : ℕ) (text : List ℕ) (f : Frame)
    → IsFrameAt from (drop from stream) f → IsViewOf T f text → to ≡ from + (16 + length f.payload)
    → IsLinesOf T stream from to text
shows_one law T stream from to text f h view behind = record { frames = f ∷ []; stands = law.one stream from to f h behind; views = view_alone T f text view }

pub shows_more : WalkLaw → (T : Table) (stream : List ℕ) (from mid to : ℕ) (text more : List ℕ)
    → IsLinesOf T stream from mid text → IsLinesOf T stream mid to more → IsLinesOf T stream from to (text ++ more)
shows_more law T stream from mid to text more x y = record {
  frames = x.frames ++ y.frames;
  stands = law.more stream from mid to x.frames y.frames x.stands y.stands;
  views = views-append T x.frames y.frames text more x.views y.views;
}
