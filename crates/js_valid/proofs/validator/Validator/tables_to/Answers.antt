use Rattle.std.proofs.Common.{rules, sym, subst}
use Rattle.js_valid.specs.PartTables.{KnowsTables}
use Rattle.js_valid.proofs.PartMemberLaws.{more-length}
use Rattle.js_valid.proofs.PartVerdictLaws.{tables-more}
use Rattle.js_valid.specs.Plan.{table_of}
use Rattle.js_valid.proofs.validator.Validator.tables_to.Goals as goal

pub verdicts_on-requires-clause-known : goal.verdicts_on-requires-clause-known
verdicts_on-requires-clause-known c =
    subst (KnowsTables (table_of c.args.self.now) c.args.parts.now) (sym c.deref.ensures.value)
    c.loop-number.invariant.known

pub loop-number-preserved : goal.loop-number-preserved
loop-number-preserved c = record {
  len = more-length c.loop-number.tables.items c.push.new.self.items c.in_ok-verdicts.verdicts c.loop-number.number
      c.loop-number.invariant.len (search rules);
  known = tables-more (table_of c.args.self.now) c.args.parts.now c.loop-number.tables.items
      c.push.new.self.items c.in_ok-verdicts.verdicts c.loop-number.number c.loop-number.invariant.len (search rules)
      c.loop-number.invariant.known c.in_ok-verdicts.ensures;
}
