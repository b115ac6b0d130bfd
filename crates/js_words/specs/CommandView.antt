-- The command that the program's value stands for.
use Rattle.js_gen.specs.KindView.{kind_view}
use Rattle.js_words.specs.Commands as C
use Rattle.js_words.specs.declared.words.Command.{Command}
use Rattle.js_words.specs.declared.words.Command.TheVariants as W

abbrev pub command_view : Command → C.Command
command_view (W.Sat a w) = C.Sat a w
command_view (W.Include a b w) = C.Include a b w
command_view (W.Valid a d) = C.Valid a d
command_view (W.Check a b c w) = C.Check a b c w
command_view (W.Norm a) = C.Norm a
command_view (W.Gen k n w) = C.Gen (kind_view k) n w
