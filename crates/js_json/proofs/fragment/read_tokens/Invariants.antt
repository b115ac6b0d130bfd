use Rattle.std.proofs.Common.{◌≡◌, true, map, chars}
use Rattle.documents.specs.Tests.{every}
use Rattle.js_json.specs.Reference.{are_escapes, unescaped}
use Rattle.js_json.proofs.fragment.read_tokens.Given as goal

abbrev pub invariant-loop-piece : goal.invariant-loop-piece
invariant-loop-piece l =
    (every are_escapes (map chars (map (λ p. p.now) l.yielded)) ≡ true)
    × (l.pointer ≡ map unescaped (map chars (map (λ p. p.now) l.yielded)))
