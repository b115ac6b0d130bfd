-- That a judge is well is a fact.
use Rattle.std.specs.Prelude.{◌≡◌, Option, None}
use Rattle.std.specs.Coded.{Coded-set, coded_bool, le_prop}
use Rattle.js_checker.specs.declared.fault.CheckFault.{CheckFault}
use Rattle.js_certificate.specs.LinesView.{IsWell}
use Rattle.js_certificate.specs.declared.lines.LineJudge.{LineJudge}

IsWell-prop : (p : LineJudge) → IsProp (IsWell p)
IsWell-prop p x y = λ i. record {
  idle = Coded-set coded_bool _ _ x.idle y.idle i;
  sound = Coded-set coded_bool _ _ x.sound y.sound i;
  going = Coded-set coded_bool _ _ x.going y.going i;
  taken = le_prop x.taken y.taken i;
  lines = le_prop x.lines y.lines i;
  few = le_prop x.few y.few i;
}

pub IsWellUnless-prop : (p : LineJudge) (o : Option CheckFault) → IsProp (o ≡ None → IsWell p)
IsWellUnless-prop p o x y = λ i e. IsWell-prop p (x e) (y e) i
