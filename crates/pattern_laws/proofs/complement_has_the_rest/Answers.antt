use Rattle.pattern_laws.proofs.Gaps.{are_ranges-complement_of, has-complement_of}
use Rattle.pattern_laws.proofs.complement_has_the_rest.Goals as goal

pub returns : goal.returns
returns c = λ s h. (are_ranges-complement_of s h, has-complement_of s h)
