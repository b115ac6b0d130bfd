use Rattle.std.proofs.Common.{◌≡◌, ◌+◌, ◌<◌, drop}
use Rattle.js_pattern.specs.Reading.{digits_from, digits}
use Rattle.js_pattern.specs.View.{cut}
use Rattle.js_pattern.proofs.scan.digits.Given as goal

-- the digits from here on finish the number and the count
abbrev pub invariant-loop-i : goal.invariant-loop-i
invariant-loop-i l = record {
  number : cut (digits_from l.radix l.number (drop l.i l.text)).0 ≡ cut (digits l.radix l.text).0;
  count : l.i + (digits_from l.radix l.number (drop l.i l.text)).1 ≡ (digits l.radix l.text).1;
  small : l.number < 4294967296;
}
