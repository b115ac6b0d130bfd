-- What is read is what the vector of the cell says.
use Rattle.std.proofs.Common.{◌∙◌, length, sym}
use Rattle.std.proofs.lemmas.Bool.{ltb-true, ltb-false}
use Rattle.js_check_objects.proofs.Lookups.{bit-within, bit-past}
use Rattle.js_check_objects.proofs.cell_tests.says.Goals as goal

pub returns-in-Some : goal.returns-in-Some
returns-in-Some c =
    c.bit_at.ensures
    ∙ bit-within (λ v. v.items) c.args.cells.now.vectors.items c.deref.result.now c.args.cell c.args.literal
    c.in-Some.vector.now c.deref-in-Some.result.now c.deref.ensures.value
    (ltb-true c.args.cell (length c.deref.result.now) (sym c.in-Some.ensures.lookup.0)) c.in-Some.ensures.lookup.1
    c.deref-in-Some.ensures.value
    ∙ c.args.cells.now.told c.args.cell c.args.literal c.requires

pub returns-in-None : goal.returns-in-None
returns-in-None c =
    bit-past (λ v. v.items) c.args.cells.now.vectors.items c.deref.result.now c.args.cell c.args.literal
    c.deref.ensures.value (ltb-false c.args.cell (length c.deref.result.now) (sym c.in-None.ensures.lookup.0))
    ∙ c.args.cells.now.told c.args.cell c.args.literal c.requires
