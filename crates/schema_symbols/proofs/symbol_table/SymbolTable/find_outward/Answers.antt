use Rattle.std.proofs.Common.{ℕ, List, ◌∷◌, ◌∙◌, ap}
use Rattle.schema_symbols.proofs.ListParts.{empty_first, some_first}
use Rattle.schema_symbols.proofs.FindLemmas.{found_outward, names_nothing, nothing_first}
use Rattle.schema_symbols.proofs.symbol_table.SymbolTable.find_outward.Goals as goal

pub returns-then-is_empty : goal.returns-then-is_empty
returns-then-is_empty c scope h =
    let parts = c.first_part-part.ensures in
    nothing_first c.args.self.now c.args.file scope c.args.name.now parts.0 c.requires.relative
    (parts.1 ∙ ap (λ (x : List ℕ). x ∷ parts.0) (empty_first c.first_part-part.result.now c.if-is_empty.ensures))

pub returns-in-Some : goal.returns-in-Some
returns-in-Some c scope h =
    let parts = c.first_part-part.ensures in
    let d = c.in-Some.ensures scope h in
    found_outward c.args.self.now c.args.file scope d.0 c.args.name.now c.first_part-part.result.now parts.0
    c.find_in.result parts.1 (some_first c.first_part-part.result.now c.if-is_empty.ensures) d.2
    (c.find_in.ensures d.0 d.1)

pub returns-in-None : goal.returns-in-None
returns-in-None c scope h =
    let parts = c.first_part-part.ensures in
    names_nothing c.first_part-part.result.now parts.0 parts.1 (some_first c.first_part-part.result.now c.if-is_empty.ensures) (c.in-None.ensures scope h)
