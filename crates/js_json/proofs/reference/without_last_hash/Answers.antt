use Rattle.std.proofs.Common.{refl, lit<}
use Rattle.std.proofs.lemmas.Str.Pattern.{strip_suffix_char}
use Rattle.js_json.proofs.ReferenceLemmas.{without_last_hash-at}
use Rattle.js_json.proofs.reference.without_last_hash.Goals as goal

pub returns : goal.returns
returns c =
    let suffix = strip_suffix_char 35 _ _ c.strip_suffix.ensures.cases (lit< tt) in
    rw c.unwrap_or.ensures (without_last_hash-at c.args.id.now c.args.id c.strip_suffix.result c.utf8.id refl suffix)
