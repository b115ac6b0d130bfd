use Rattle.std.proofs.Common.{arith}
use Rattle.std.proofs.lemmas.List.{length-map}
use Rattle.js_check_objects.proofs.name_cells.NameCells.len.Goals as goal

pub overflow_cast-result : goal.overflow_cast-result
overflow_cast-result c = omega (arith, c.len.ensures, c.args.self.now.few)

pub returns : goal.returns
returns c = let e = length-map c.args.self.now.vectors.items (λ v. v.items) in omega (arith, c.len.ensures, e)
