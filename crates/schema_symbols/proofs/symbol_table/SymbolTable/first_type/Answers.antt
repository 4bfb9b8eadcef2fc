use Rattle.std.proofs.Common.{◌≡◌, ◌+◌, true, false, List, [], ◌∷◌, ◌++◌, Some, None, take, get_or, sym, ◌∙◌, ap, subst, arith}
use Rattle.std.proofs.lemmas.List.{take_all, take_more}
use Rattle.proto_ast.specs.Joined.{Joined, CanSee}
use Rattle.schema_symbols.specs.Types.{declared_in}
use Rattle.schema_symbols.specs.Deepest.{IsFirstVisible, earlier_of}
use Rattle.schema_symbols.specs.declared.symbol.Symbol.TheVariants.{Message}
use Rattle.schema_symbols.specs.declared.symbol.DeclaredType.{DeclaredType}
use Rattle.schema_symbols.proofs.FindLemmas.{kept, first_skip, first_take, first_known, none_known}
use Rattle.schema_symbols.proofs.symbol_table.SymbolTable.first_type.Goals as goal
use Rattle.schema_symbols.proofs.symbol_table.SymbolTable.first_type.Goals.{then-sees, else-sees}

pub loop-declared-preserved : goal.loop-declared-preserved
loop-declared-preserved c =
    let more : take (c.loop-declared.declared-index + 1) c.get-declared-items.result.now
    ≡ take c.loop-declared.declared-index c.get-declared-items.result.now
    ++ get_or c.get-declared-items.result.now c.loop-declared.declared-index (record {
      file = 0;
      start = 0;
      named = Message 0;
    }) ∷ [] =
    take_more c.get-declared-items.result.now c.loop-declared.declared-index (record { file = 0; start = 0; named = Message 0 }) c.loop-declared-test.true in
    elim c.if-sees.branch [
      | then-sees w ↦
          let sees : CanSee c.args.self.now c.args.file (get_or c.get-declared-items.result.now c.loop-declared.declared-index (record { file = 0; start = 0; named = Message 0 })).file =
          subst (λ (F : Joined).
          CanSee F c.args.file (get_or c.get-declared-items.result.now c.loop-declared.declared-index
          (record { file = 0; start = 0; named = Message 0 })).file) c.self.view_is
          (c.sees.ensures.0 w.if-sees.true) in
          let taken : IsFirstVisible c.args.self.now c.args.file
          (take c.loop-declared.declared-index c.get-declared-items.result.now
          ++ get_or c.get-declared-items.result.now c.loop-declared.declared-index (record {
            file = 0;
            start = 0;
            named = Message 0;
          }) ∷ [])
          (Some (earlier_of c.loop-declared.first
          (get_or c.get-declared-items.result.now c.loop-declared.declared-index (record {
            file = 0;
            start = 0;
            named = Message 0;
          })))) =
          first_take (take c.loop-declared.declared-index c.get-declared-items.result.now)
          (get_or c.get-declared-items.result.now c.loop-declared.declared-index (record {
            file = 0;
            start = 0;
            named = Message 0;
          })) c.loop-declared.first sees c.loop-declared.invariant in
          let is : c.if-sees.first
          ≡ Some (earlier_of c.loop-declared.first
          (get_or c.get-declared-items.result.now c.loop-declared.declared-index (record {
            file = 0;
            start = 0;
            named = Message 0;
          }))) = w.first-is ∙ ap Some w.first_of.ensures in
          subst (IsFirstVisible c.args.self.now c.args.file (take (c.loop-declared.declared-index + 1) c.get-declared-items.result.now)) (sym is)
          (subst (λ (xs : List DeclaredType). IsFirstVisible c.args.self.now c.args.file xs
          (Some (earlier_of c.loop-declared.first
          (get_or c.get-declared-items.result.now c.loop-declared.declared-index (record {
            file = 0;
            start = 0;
            named = Message 0;
          }))))) (sym more) taken)
      | else-sees w ↦
          let not : CanSee c.args.self.now c.args.file
          (get_or c.get-declared-items.result.now c.loop-declared.declared-index (record {
            file = 0;
            start = 0;
            named = Message 0;
          })).file → ⊥ = λ s.
          let t : c.sees.result ≡ true =
          c.sees.ensures.1 (subst
          (λ (F : Joined). CanSee F c.args.file
          (get_or c.get-declared-items.result.now c.loop-declared.declared-index (record {
            file = 0;
            start = 0;
            named = Message 0;
          })).file) (sym c.self.view_is) s) in
          let z : true ≡ false = sym t ∙ w.if-sees.false in
          cc in
          let skipped : IsFirstVisible c.args.self.now c.args.file
          (take c.loop-declared.declared-index c.get-declared-items.result.now
          ++ get_or c.get-declared-items.result.now c.loop-declared.declared-index (record {
            file = 0;
            start = 0;
            named = Message 0;
          }) ∷ []) c.loop-declared.first =
          first_skip (take c.loop-declared.declared-index c.get-declared-items.result.now)
          (get_or c.get-declared-items.result.now c.loop-declared.declared-index (record {
            file = 0;
            start = 0;
            named = Message 0;
          })) c.loop-declared.first not c.loop-declared.invariant in
          subst (IsFirstVisible c.args.self.now c.args.file (take (c.loop-declared.declared-index + 1) c.get-declared-items.result.now)) (sym w.first-is)
          (subst (λ (xs : List DeclaredType). IsFirstVisible c.args.self.now c.args.file xs c.loop-declared.first) (sym more) skipped)
    ]

pub returns-in-Some : goal.returns-in-Some
returns-in-Some c outer n =
    let k = kept c.self.inside c.self.view_is c.self.invariant in
    let all : take c.loop-declared.declared-index c.get-declared-items.result.now ≡ declared_in c.self.inside.types c.args.scope c.args.name.now =
    take_all c.loop-declared.declared-index c.get-declared-items.result.now (omega (arith, c.loop-declared-test.false)) ∙ c.get-declared-items.ensures in
    let h : IsFirstVisible c.args.self.now c.args.file (declared_in c.self.inside.types c.args.scope c.args.name.now) (Some c.in-Some.declared) =
    subst (λ (xs : List DeclaredType). IsFirstVisible c.args.self.now c.args.file xs (Some c.in-Some.declared)) all
    (subst (IsFirstVisible c.args.self.now c.args.file (take c.loop-declared.declared-index c.get-declared-items.result.now)) c.in-Some.is c.loop-declared.invariant) in
    first_known c.args.name.now c.in-Some.declared k.its_types n h

pub returns-in-None : goal.returns-in-None
returns-in-None c outer n =
    let k = kept c.self.inside c.self.view_is c.self.invariant in
    let all : take c.loop-declared.declared-index c.get-declared-items.result.now ≡ declared_in c.self.inside.types c.args.scope c.args.name.now =
    take_all c.loop-declared.declared-index c.get-declared-items.result.now (omega (arith, c.loop-declared-test.false)) ∙ c.get-declared-items.ensures in
    let h : IsFirstVisible c.args.self.now c.args.file (declared_in c.self.inside.types c.args.scope c.args.name.now) None =
    subst (λ (xs : List DeclaredType). IsFirstVisible c.args.self.now c.args.file xs None) all
    (subst (IsFirstVisible c.args.self.now c.args.file (take c.loop-declared.declared-index c.get-declared-items.result.now)) c.in-None.is c.loop-declared.invariant) in
    none_known c.args.name.now k.its_types n h
