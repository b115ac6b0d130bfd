-- What `clap` answers, and the command of the texts. Key lemmas: text-matched and text-none.
use Rattle.std.proofs.Common.{◌≡◌, ◌∙◌, ℕ, true, List, [], ◌∷◌, Option, Some, None, Result, Ok, Err, IfOk, IfErr, map, encode_utf8_all, refl, sym, ap, subst}
use Rattle.clap.specs.Words.{Row, Text, fault_of, is_simple, is_simple_and_free, subcommand_of}
use Rattle.clap.specs.Kinds.{IsAmong, Kinds}
use Rattle.clap.specs.declared.error.kind.ErrorKind.{ErrorKind}
use Rattle.js_words.specs.CommandLine.{jsat}
use Rattle.js_words.specs.Commands as C
use Rattle.js_words.specs.Commands.{matched, text_command, without_fault}
use Rattle.js_words.specs.CommandView.{command_view}
use Rattle.js_words.specs.Giving.{Gives}
use Rattle.js_words.specs.PlainWords.{Plain, is_plain, meant, words_of}
use Rattle.js_words.specs.Ranges.{IsInRange}
use Rattle.js_words.specs.declared.words.Command.{Command}
use Rattle.js_words.specs.declared.words.WordsFault.{WordsFault}
use Rattle.js_words.specs.declared.words.WordsFault.TheVariants.{Usage, Memory}
use Rattle.js_words.proofs.PlainWordsLemmas.{AllSpelled, plain-command}
use Rattle.js_words.proofs.RangesLemmas.{command-in_range}

pub simple : is_simple jsat ≡ true
simple = refl

pub free : is_simple_and_free jsat ≡ true
free = refl

-- without a fault the matches name the command
pub text-matched : (texts : List Text) (met : Option (Text × List Row)) → fault_of jsat texts ≡ []
    → met ≡ subcommand_of jsat texts → matched met ≡ text_command texts
unfolding text_command
text-matched texts met none is =
    ap matched is ∙ ap (λ (ks : Kinds). without_fault ks (matched (subcommand_of jsat texts))) (sym none)

without-some : (k : ErrorKind) (ks : Kinds) (c : Option C.Command) → IsAmong k ks → without_fault ks c ≡ None
without-some k [] c h = absurd h
without-some k (x ∷ ks) c h = refl

-- with a fault there is no command
pub text-none : (texts : List Text) (k : ErrorKind) → IsAmong k (fault_of jsat texts) → text_command texts ≡ None
unfolding text_command
text-none texts k h = without-some k (fault_of jsat texts) _ h

-- what is said of the texts is said of the words
pub says-ok : (words : List (List ℕ)) (r : Result Command WordsFault) (texts : List Text)
    → texts ≡ map encode_utf8_all words → IfOk r (λ x. text_command texts ≡ Some (command_view x))
    → IfOk r (λ x. C.command words ≡ Some (command_view x))
says-ok words r texts is ok = subst (λ ts. IfOk r (λ x. text_command ts ≡ Some (command_view x))) is ok

pub says-usage : (words : List (List ℕ)) (r : Result Command WordsFault) (texts : List Text)
    → texts ≡ map encode_utf8_all words → IfErr r (λ e. e ≡ Usage → text_command texts ≡ None)
    → IfErr r (λ e. e ≡ Usage → C.command words ≡ None)
says-usage words r texts is usage = subst (λ ts. IfErr r (λ e. e ≡ Usage → text_command ts ≡ None)) is usage

-- an answer that is the command of the words
module _ (words : List (List ℕ)) (r : Result Command WordsFault)
    (ok : IfOk r (λ x. C.command words ≡ Some (command_view x)))
    (usage : IfErr r (λ e. e ≡ Usage → C.command words ≡ None)) where
  gives : (c : C.Command) → C.command words ≡ Some c → Gives r c
  gives = go r ok usage where
    go : (s : Result Command WordsFault) → IfOk s (λ x. C.command words ≡ Some (command_view x))
        → IfErr s (λ e. e ≡ Usage → C.command words ≡ None) → (c : C.Command) → C.command words ≡ Some c → Gives s c
    go (Ok x) o u c is = cc
    go (Err Memory) o u c is = refl
    go (Err Usage) o u c is = let none : C.command words ≡ None = u refl in cc

  -- gives the command that plain words mean
  pub gives-plain : (p : Plain) → is_plain p ≡ true → words ≡ words_of p → AllSpelled words → Gives r (meant p)
  gives-plain p plain is spelled =
      gives (meant p) (ap C.command is ∙ plain-command p plain (subst AllSpelled is spelled))

  pub gives-in_range : IfOk r (λ x. IsInRange (command_view x))
  gives-in_range = go r ok where
    go : (s : Result Command WordsFault) → IfOk s (λ x. C.command words ≡ Some (command_view x))
        → IfOk s (λ x. IsInRange (command_view x))
    go (Ok x) o = command-in_range (map encode_utf8_all words) (command_view x) o
    go (Err e) o = tt
