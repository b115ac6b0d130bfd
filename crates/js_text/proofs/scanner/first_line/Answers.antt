use Rattle.std.proofs.Common.{◌≡◌, rules, tests}
use Rattle.std.proofs.lemmas.Iterator.{YieldsList-from_slice, IsFirst-from_position}
use Rattle.js_text.proofs.LineLemmas.{first_line-found, first_line-none}
use Rattle.js_text.proofs.scanner.first_line.Goals as goal

pub returns-in-Some : goal.returns-in-Some
returns-in-Some c =
    first_line-found c.args.bytes.now _ _ c.position.result c.in-Some.i
    (IsFirst-from_position _ _ c.position.result (λ b. b ≡ 10) (λ b. b ≡ 10 → ⊥) c.position.ensures.ran
    (YieldsList-from_slice _ c.iter.ensures.rest) (λ b q k. search (rules, tests)) (λ b q k. search (rules, tests)))
    c.in-Some.is c.split_at.ensures.front c.split_at.ensures.by_index.0

pub returns-in-None : goal.returns-in-None
returns-in-None c =
    first_line-none c.args.bytes.now _ _ c.position.result
    (IsFirst-from_position _ _ c.position.result (λ b. b ≡ 10) (λ b. b ≡ 10 → ⊥) c.position.ensures.ran
    (YieldsList-from_slice _ c.iter.ensures.rest) (λ b q k. search (rules, tests)) (λ b q k. search (rules, tests)))
    c.in-None.is c.split_at-in-None.ensures.front c.split_at-in-None.ensures.back c.split_at-in-None.ensures.by_index.0
