use Rattle.std.proofs.Common.{sym, arith}
use Rattle.js_pattern.proofs.Steps.{whole_text}
use Rattle.js_pattern.proofs.reader.read_characters.Goals as goal

pub loop-at-init : goal.loop-at-init
loop-at-init c = record {
  same = rw (c.new-reader.ensures.outers, c.new-reader.ensures.level) (sym (whole_text c.args.text.now));
  within = omega arith;
}
