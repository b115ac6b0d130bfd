-- What reports print.
use Rattle.std.specs.Prelude.{ℕ, List, codes}
use Rattle.js_pattern.specs.declared.fault.PatternForm.{PatternForm}
use Rattle.js_pattern.specs.declared.fault.PatternForm.TheVariants.{Lookaround, NamedGroup, Backreference, Octal, Boundary, Property, Control, Surrogate, Nesting}

abbrev pub form_name : PatternForm → List ℕ
form_name Lookaround = codes "lookaround"
form_name NamedGroup = codes "namedgroup"
form_name Backreference = codes "backreference"
form_name Octal = codes "octal"
form_name Boundary = codes "boundary"
form_name Property = codes "property"
form_name Control = codes "control"
form_name Surrogate = codes "surrogate"
form_name Nesting = codes "nesting"
