use Rattle.std.proofs.Common.{◌≡◌, ℕ, List, [], ◌∷◌, Bool, Ok, OnOk, IfErr, ap, sym, ◌∙◌, subst}
use Rattle.goals.specs.Signed.{Signed}
use Rattle.certificate_lines.specs.Line as L
use Rattle.verdicts.specs.Duties.{run}
use Rattle.js_lines.specs.View.{line_view}
use Rattle.js_rules.specs.Told.{Breaks}
use Rattle.js_check_strings.specs.View.{table_of, duties_of}
use Rattle.js_check_strings.proofs.open_strings.OpenStrings.take.Goals as goal

pub returns-in-Row-clause-taken : goal.returns-in-Row-clause-taken
returns-in-Row-clause-taken c =
    let x = c.args.self.now in
    subst (λ l. OnOk c.take_row.result ((cite : ℕ → List Signed → Bool)
    → run (table_of x) cite (duties_of x) (l ∷ []) ≡ Ok (duties_of c.take_row.new.self)))
    (ap L.Row c.as_slice.ensures ∙ sym (ap line_view c.in-Row.is)) c.take_row.ensures.taken

pub returns-in-Row-clause-broken : goal.returns-in-Row-clause-broken
returns-in-Row-clause-broken c =
    let x = c.args.self.now in
    subst (λ l. IfErr c.take_row.result (λ fault. (cite : ℕ → List Signed → Bool)
    → Breaks (run (table_of x) cite (duties_of x) (l ∷ [])) fault))
    (ap L.Row c.as_slice.ensures ∙ sym (ap line_view c.in-Row.is)) c.take_row.ensures.broken

pub returns-in-Least-clause-taken : goal.returns-in-Least-clause-taken
returns-in-Least-clause-taken c =
    let x = c.args.self.now in
    subst (λ l. OnOk c.take_least.result ((cite : ℕ → List Signed → Bool)
    → run (table_of x) cite (duties_of x) (l ∷ []) ≡ Ok (duties_of c.take_least.new.self)))
    (ap L.Least c.as_slice-in-Least.ensures ∙ sym (ap line_view c.in-Least.is)) c.take_least.ensures.taken

pub returns-in-Least-clause-broken : goal.returns-in-Least-clause-broken
returns-in-Least-clause-broken c =
    let x = c.args.self.now in
    subst (λ l. IfErr c.take_least.result (λ fault. (cite : ℕ → List Signed → Bool)
    → Breaks (run (table_of x) cite (duties_of x) (l ∷ [])) fault))
    (ap L.Least c.as_slice-in-Least.ensures ∙ sym (ap line_view c.in-Least.is)) c.take_least.ensures.broken
