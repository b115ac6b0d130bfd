use Rattle.pattern_laws.proofs.Members.{same_members, rises-are_ranges}
use Rattle.pattern_laws.proofs.set_is_its_members.Goals as goal

pub returns : goal.returns
returns c = λ s t a b same. same_members 0 s t (rises-are_ranges 0 s a) (rises-are_ranges 0 t b) same
