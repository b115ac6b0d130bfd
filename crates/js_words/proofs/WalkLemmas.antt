-- The walk of `clap` over the words. Key lemma: entered-read, by which the words after the subcommand's name say all.
use Rattle.std.proofs.Common.{◌≡◌, ◌∙◌, ℕ, false, List, [], ◌∷◌, ◌++◌, Option, Some, None, is_some, refl, sym, ap, ap₂}
use Rattle.std.specs.List.{fold}
use Rattle.std.specs.Str.{bytes_eq}
use Rattle.std.proofs.lemmas.List.{append-nil, append_assoc}
use Rattle.clap.specs.Words.{App, Rule, Shape, Text}
use Rattle.clap.specs.Faults.{check_fault, defaults_fault, entered_fault, level_fault, settle_fault, step_fault, turn_fault, walk_fault}
use Rattle.clap.specs.Kinds.{Kinds, or_else}
use Rattle.clap.specs.Lexer.{strip_byte}
use Rattle.clap.specs.Simple.{built, built_leaf, entered, inherited, marked_built, names_of, on_top, with_leaf_noted}
use Rattle.clap.specs.Walk.{Held, Names, Walk, arg_by_id, arg_by_index, finished, idle, nothing_held, option, option_word, rows_after, settled, to_positional, value, walk_from, walked}
use Rattle.js_words.specs.CommandLine.{jsat}
use Rattle.js_words.specs.Commands.{Command, matched, named, text_command, without_fault}

or_else-nothing : (ks : Kinds) → or_else ks [] ≡ ks
or_else-nothing [] = refl
or_else-nothing (k ∷ ks) = refl

-- ---- at the top

-- past the subcommand the words are kept, and nothing else changes
walked-stopped : (rules : List Rule) (names : Names) (w : Walk) (name : Text) (before rest : List Text)
    → fold (walked rules names) (record w { stopped = Some (name, before) }) rest
    ≡ record w { stopped = Some (name, before ++ rest) }
unfolding walked
walked-stopped rules names w name before [] =
    ap (λ (ts : List Text). record w { stopped = Some (name, ts) }) (sym (append-nil before))
walked-stopped rules names w name before (x ∷ rest) =
    walked-stopped rules names w name (before ++ x ∷ []) rest
    ∙ ap (λ (ts : List Text). record w { stopped = Some (name, ts) }) (append_assoc before (x ∷ []) rest)

-- a walk that stopped finds no fault in the later words
fault-stopped : (s : Shape) (names : Names) (w : Walk) (p : Text × List Text) (rest : List Text)
    → walk_fault s names (record w { stopped = Some p }) rest ≡ []
unfolding walk_fault walked
fault-stopped s names w p [] = refl
fault-stopped s names w p (x ∷ rest) = fault-stopped s names w (p.0, p.1 ++ x ∷ []) rest

abbrev top : App
top = built jsat

abbrev start : Walk
start = walk_from nothing_held

-- stopped at that subcommand, with the words after it
abbrev stop : Text → List Text → Walk
stop name rest = record start { stopped = Some (name, rest) }

-- what a walk at the top comes to, with its faults
abbrev from_top : Kinds → Walk → Option Command
from_top fault end =
    without_fault
    (or_else fault
    (or_else (entered_fault top end.stopped)
    (or_else (settle_fault top.top.rules top.top.args_override_self end.held)
    (or_else (defaults_fault (settled top.top.rules end.held).rows top.top.rules)
    (check_fault top.top (finished top.top.rules end.held) (is_some (entered top end.stopped)))))))
    (matched (entered top end.stopped))

-- ---- in a subcommand

-- a subcommand as it is built
abbrev pub built_sub : App → Shape
built_sub a = built_leaf (inherited (on_top with_leaf_noted (on_top marked_built jsat)).top a.top)

-- what a walk in the subcommand comes to, with its faults
abbrev pub from_sub : Shape → Kinds → Walk → Option Command
from_sub s fault end =
    without_fault
    (or_else fault
    (or_else (settle_fault s.rules s.args_override_self end.held)
    (or_else (defaults_fault (settled s.rules end.held).rows s.rules)
    (check_fault s (finished s.rules end.held) false))))
    (named s.name (finished s.rules end.held))

-- what the words come to, from where the walk is
abbrev pub read_from : Shape → Walk → List Text → Option Command
read_from s w words = from_sub s (walk_fault s [] w words) (fold (walked s.rules []) w words)

-- the word names the subcommand, and enters it
pub record Enters (word : Text) (s : Shape) : Type 0 where
  pub walks : walked top.top.rules (names_of top) start word ≡ stop word []
  pub passes : turn_fault top.top (names_of top) start word ≡ []
  pub enters : (rest : List Text) → from_top [] (stop word rest)
      ≡ without_fault (or_else (level_fault s [] nothing_held rest false []) [])
      (named s.name (rows_after s.rules [] rest))

-- the words after it decide what the words come to
pub entered-read : (word : Text) (s : Shape) → Enters word s → (rest : List Text)
    → text_command (word ∷ rest) ≡ read_from s start rest
unfolding text_command walk_fault
entered-read word s e rest =
    ap₂ from_top
    (ap₂ or_else e.passes
    (ap (λ (w : Walk). walk_fault top.top (names_of top) w rest) e.walks
    ∙ fault-stopped top.top (names_of top) start (word, []) rest))
    (ap (λ (w : Walk). fold (walked top.top.rules (names_of top)) w rest) e.walks
    ∙ walked-stopped top.top.rules (names_of top) start word [] rest)
    ∙ e.enters rest
    ∙ ap (λ (ks : Kinds). without_fault ks (named s.name (rows_after s.rules [] rest)))
    (or_else-nothing (level_fault s [] nothing_held rest false []))

-- ---- a word

-- the text is read as a name or a value
pub record IsValue (text : Text) : Type 0 where
  pub no_dash : strip_byte 45 text ≡ None
  pub no_dashes : bytes_eq text (45 ∷ 45 ∷ []) ≡ false

-- between two words, where no option waits
abbrev pub at : Held → ℕ → Walk
at h p = record { held = h; waiting = idle; position = p; is_trailing = false; stopped = None }

-- past a name
abbrev pub past : List Rule → Held → ℕ → Text → Walk
past rules h p word = to_positional rules (arg_by_index rules p) word (at h p) h

name-walked : (rules : List Rule) (h : Held) (p : ℕ) (word : Text) → IsValue word
    → walked rules [] (at h p) word ≡ past rules h p word
unfolding walked
name-walked rules h p word v = simp (v.no_dashes, v.no_dash) refl

name-fault : (s : Shape) (h : Held) (p : ℕ) (word : Text) → IsValue word
    → turn_fault s [] (at h p) word ≡ step_fault s p h value
name-fault s h p word v = simp (v.no_dashes, v.no_dash) refl

pub name-read : (s : Shape) (h : Held) (p : ℕ) (word : Text) → IsValue word → step_fault s p h value ≡ []
    → (rest : List Text) → read_from s (at h p) (word ∷ rest) ≡ read_from s (past s.rules h p word) rest
unfolding walk_fault
name-read s h p word v passes rest =
    let walks = name-walked s.rules h p word v in
    ap₂ (from_sub s)
    (ap₂ or_else (name-fault s h p word v ∙ passes) (ap (λ (w : Walk). walk_fault s [] w rest) walks))
    (ap (λ (w : Walk). fold (walked s.rules []) w rest) walks)

-- between an option and its value
abbrev pub at_option : Held → ℕ → Text → Walk
at_option h p id = record { held = h; waiting = option id; position = p; is_trailing = false; stopped = None }

abbrev pub past_option : List Rule → Held → ℕ → Text → Text → Walk
past_option rules h p id word = record (at_option h p id) {
  held = (option_word (arg_by_id rules id) id word h).0;
  waiting = (option_word (arg_by_id rules id) id word h).1;
}

value-walked : (rules : List Rule) (h : Held) (p : ℕ) (id word : Text) → IsValue word
    → walked rules [] (at_option h p id) word ≡ past_option rules h p id word
unfolding walked
value-walked rules h p id word v = simp (v.no_dashes, v.no_dash) refl

value-fault : (s : Shape) (h : Held) (p : ℕ) (id word : Text) → IsValue word
    → turn_fault s [] (at_option h p id) word ≡ []
value-fault s h p id word v = simp (v.no_dashes, v.no_dash) refl

pub value-read : (s : Shape) (h : Held) (p : ℕ) (id word : Text) → IsValue word
    → (rest : List Text)
    → read_from s (at_option h p id) (word ∷ rest) ≡ read_from s (past_option s.rules h p id word) rest
unfolding walk_fault
value-read s h p id word v rest =
    let walks = value-walked s.rules h p id word v in
    ap₂ (from_sub s)
    (ap₂ or_else (value-fault s h p id word v) (ap (λ (w : Walk). walk_fault s [] w rest) walks))
    (ap (λ (w : Walk). fold (walked s.rules []) w rest) walks)
