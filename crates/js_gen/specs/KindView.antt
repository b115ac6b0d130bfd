-- The family that a kind is.
use Rattle.families.specs.Families as F
use Rattle.js_gen.specs.declared.kind.GenKind.{GenKind}
use Rattle.js_gen.specs.declared.kind.GenKind.TheVariants as K

abbrev pub kind_view : GenKind → F.Family
kind_view K.Chain = F.Chain
kind_view K.Wide = F.Wide
kind_view K.Patterns = F.Patterns
kind_view K.Tree = F.Tree
