-- The command line, as it is described to `clap`.
use Rattle.std.specs.Prelude.{◌≡◌, [], ◌∷◌, Some, true, false, codes}
use Rattle.clap.specs.Words.{App, Rule, Text, app_of, new_app, new_rule, with_rule, with_subcommand}
use Rattle.clap.specs.declared.builder.command.Command.{Command}
use Rattle.clap.specs.declared.builder.command.Command.TheViews.{out-Command}

-- a word that must be given, at the next place
abbrev pub name : Text → Rule
name id = record (new_rule id) { required = true }

-- the option `--workers`, which is 1 where it isn't given
abbrev pub workers : Rule
workers = record (new_rule (codes "workers")) { long = Some (codes "workers"); defaults = codes "1" ∷ [] }

abbrev pub with_name : App → Text → App
with_name app id = with_rule app (name id)

abbrev pub with_workers : App → App
with_workers app = with_rule app workers

-- ---- the subcommands

abbrev pub sat : App
sat = with_workers (with_name (new_app (codes "sat")) (codes "first"))

abbrev pub include : App
include = with_workers (with_name (with_name (new_app (codes "include")) (codes "first")) (codes "second"))

abbrev pub valid : App
valid = with_name (with_name (new_app (codes "valid")) (codes "first")) (codes "document")

abbrev pub check : App
check = with_workers
    (with_name (with_name (with_name (new_app (codes "check")) (codes "first")) (codes "second")) (codes "certificate"))

abbrev pub norm : App
norm = with_name (new_app (codes "norm")) (codes "first")

abbrev pub gen : App
gen = with_workers (with_name (with_name (new_app (codes "gen")) (codes "kind")) (codes "number"))

-- ---- the command, to which they are added in turn: the words begin with a subcommand, and there is no help

abbrev pub bare : App
bare = record {
  top = record (new_app (codes "jsat")).top {
    no_binary_name = true;
    disable_help_flag = true;
    disable_help_subcommand = true;
    subcommand_required = true;
  };
  subs = [];
}

abbrev pub of_searches : App
of_searches = with_subcommand (with_subcommand bare sat.top) include.top

abbrev pub of_files : App
of_files = with_subcommand (with_subcommand of_searches valid.top) check.top

abbrev pub jsat : App
jsat = with_subcommand (with_subcommand of_files norm.top) gen.top

-- the command is described so, and no argument of it is one of its subcommands too
pub record IsLocal (app : App) (c : Command) : Type 0 where
  pub shape : app_of c ≡ app
  pub local : (out-Command c).has_globals ≡ false
