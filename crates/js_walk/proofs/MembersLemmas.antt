-- Keywords by their names, and elements by their numbers.
use Rattle.schema_laws.proofs.Tokens.{index_token-decimal}
use Rattle.js_keywords.proofs.WordsLemmas.{chars-keyword_name}

pub ruleset keyword_names = (chars-keyword_name)

pub ruleset index_tokens = (index_token-decimal)
