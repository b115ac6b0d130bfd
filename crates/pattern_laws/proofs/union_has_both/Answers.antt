use Rattle.pattern_laws.proofs.Sets.{are_ranges-set_of, has-set_of}
use Rattle.pattern_laws.proofs.union_has_both.Goals as goal

pub returns : goal.returns
returns c = λ rs h. (are_ranges-set_of rs h, λ n. has-set_of rs n h)
