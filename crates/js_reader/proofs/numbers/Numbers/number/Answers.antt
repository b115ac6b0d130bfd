use Rattle.std.proofs.Common.{arith}
use Rattle.js_reader.proofs.numbers.Numbers.number.Goals as goal

pub overflow_cast-result : goal.overflow_cast-result
overflow_cast-result c = omega (arith, c.number.ensures.most, c.args.self.now.few)
