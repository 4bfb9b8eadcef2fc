use Rattle.std.proofs.Common.{◌≡◌, ◌∙◌, ◌≤◌, ℕ, zero, suc, List, [], ◌∷◌, Some, codes, length, map, slice_get, arith, ap, refl, sym}
use Rattle.std.proofs.lemmas.Grind.{common_steps}
use Rattle.std.proofs.lemmas.Option.{slice_get-get_or}
use Rattle.std.proofs.lemmas.Slice.Eq.{bytes_eq-Decides}
use Rattle.engine_core.specs.Engines.{EngineParts}
use Rattle.audit_rules.specs.PendingLines.{entry_name_at}
use Rattle.audit_rules.proofs.pending_lines.is_named_at.Goals as goal

name-some : (es : List EngineParts) (p : ℕ) (e : EngineParts) → slice_get es p ≡ Some e → entry_name_at (map (λ e. e.entry) es) p ≡ e.entry.name
name-some [] p e is = absurd cc
name-some (x ∷ es) zero e is = let there : x ≡ e = cc in ap (λ (e : EngineParts). e.entry.name) there
name-some (x ∷ es) (suc p) e is = name-some es p e is

name-none : (es : List EngineParts) (p : ℕ) → length es ≤ p → entry_name_at (map (λ e. e.entry) es) p ≡ codes "-"
name-none [] p le = refl
name-none (x ∷ es) zero le = absurd (omega arith)
name-none (x ∷ es) (suc p) le = name-none es p (omega arith)

pub returns-in-Some : goal.returns-in-Some
returns-in-Some c =
    let g = c.in-Some.ensures.lookup.3 in
    let e : EngineParts = c.in-Some.engine.now in
    let there : slice_get c.args.engines.now c.args.at ≡ Some e = slice_get-get_or c.args.engines.now c.args.at e g.0 ∙ ap (λ (x : EngineParts). Some x) (sym (g.1 e)) in
    let named : entry_name_at (map (λ e. e.entry) c.args.engines.now) c.args.at ≡ e.entry.name = name-some c.args.engines.now c.args.at e there in (
      λ is. (let same : c.args.name.now ≡ e.entry.name = grind (arith, common_steps, bytes_eq-Decides, is) in same ∙ sym named),
      λ same. (let equal : c.args.name.now ≡ e.entry.name = same ∙ named in grind (arith, common_steps, bytes_eq-Decides, equal)),
    )

pub returns-in-None : goal.returns-in-None
returns-in-None c =
    let named : entry_name_at (map (λ e. e.entry) c.args.engines.now) c.args.at ≡ codes "-" = name-none c.args.engines.now c.args.at c.in-None.ensures.lookup.3 in (
      λ is. (let same : c.args.name.now ≡ codes "-" = grind (arith, common_steps, bytes_eq-Decides, is) in same ∙ sym named),
      λ same. (let equal : c.args.name.now ≡ codes "-" = same ∙ named in grind (arith, common_steps, bytes_eq-Decides, equal)),
    )
