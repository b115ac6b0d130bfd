-- What a hasher is fed of a state: its positions as words of 64 bits, of which those without a position are left out.
use Rattle.std.specs.Prelude.{ℕ, zero, suc, ◌+◌, ◌*◌, ◌/◌, ◌==◌, max, if◌then◌else◌, List, [], ◌∷◌, ◌++◌, true, false}
use Rattle.std.specs.Hash as fed
use Rattle.word_states.specs.PatternState.{PatternState, done, reading}
use Rattle.state_laws.specs.Flow.{is_among}

-- so many places from one on, as the bits of a number: the lowest bit says whether the first place is a position
abbrev pub word_from : List ℕ → ℕ → ℕ → ℕ
word_from ps place zero = 0
word_from ps place (suc n) = (if is_among ps place then 1 else 0) + 2 * word_from ps (suc place) n

-- the word k of positions
unfoldable pub word_at : List ℕ → ℕ → ℕ
word_at ps k = word_from ps (64 * k) 64

-- a word and its number, or nothing where the word has no position
abbrev pub fed_word : ℕ → ℕ → fed.HashWrites
fed_word k word = if word == 0 then [] else fed.usize k ++ fed.u64 word

-- so many words, one after another
abbrev pub fed_words : List ℕ → ℕ → fed.HashWrites
fed_words ps zero = []
fed_words ps (suc k) = fed_words ps k ++ fed_word k (word_at ps k)

-- how many words there are up to the last position
abbrev pub word_count : List ℕ → ℕ
word_count [] = 0
word_count (p ∷ ps) = max (p / 64 + 1) (word_count ps)

-- positions
abbrev pub fed_places : List ℕ → fed.HashWrites
fed_places ps = fed_words ps (word_count ps)

-- whether the state is done, and else its positions
abbrev pub fed_state : PatternState → fed.HashWrites
fed_state done = fed.bool true
fed_state (reading ps) = fed.bool false ++ fed_places ps
