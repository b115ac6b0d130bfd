-- What reading a schema rests on: which texts are patterns, and where references lead in a file.
use Rattle.js_pattern.specs.declared.fault.PatternFault.{PatternFault}
use Rattle.js_pattern.specs.Grammar.{pattern}
use Rattle.js_json.specs.declared.fault.RefFault.{RefFault}
use Rattle.js_json.specs.Reference.{target_of}
use Rattle.schemas.specs.Fault.{Rules}
use Rattle.schemas.specs.Weight.{most_weight}

abbrev pub rules : Rules PatternFault RefFault
rules = record {
  pattern = pattern;
  target = target_of;
  most_weight = most_weight;
}
